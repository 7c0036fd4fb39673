-- Each act keeps the rule and leaves all trees settled, and so does each run.
use Rattle.std.proofs.Common.{◌≡◌, ◌≢◌, ℕ, ◌==◌, ◌&&◌, Bool, true, false, not, inl, inr, refl, sym, ap, subst, ◌∙◌, List, [], ◌∷◌, Option, Some, None, is_some}
use Rattle.std.proofs.lemmas.Bool.{cases_Bool, and_right, or_right, or_cases, and_parts, eqb-true}
use Rattle.std.specs.Cmp.{Equal-is}
use Rattle.std.specs.Ordering.{eq_by_cmp}
use Rattle.std.specs.FinSet as sets
use Rattle.std.specs.FinSet.{FinSet}
use Rattle.mv_base.specs.Number.{◌>>?◌}
use Rattle.mv_base.specs.declared.ids.NodeId.{NodeId}
use Rattle.mldp.specs.declared.mldp_fec.fec.Fec.{Fec}
use Rattle.mldp.specs.declared.mldp_msgs.message.LabelMessage.{LabelMessage}
use Rattle.label_defs.specs.declared.end.End.{End}
use Rattle.label_defs.specs.Keys.{fec_cmp}
use Rattle.label_defs.specs.LabelData.{LabelData, fresh, is_up}
use Rattle.label_defs.specs.Settled.{Settled, AllSettled}
use Rattle.label_defs.specs.Steps as steps
use Rattle.label_defs.specs.Steps.{without_session, timed}
use Rattle.label_defs.proofs.KeyLemmas.{fec_cmp_total, fec_cmp_exact, node_itself, node_equal, node_cases}
use Rattle.label_defs.proofs.StepLemmas.{fresh_settled}
use Rattle.label_laws.specs.Network.{LabelNetwork, place_of, at_node, thereafter}
use Rattle.label_defs.specs.Between.{is_between, is_either}
use Rattle.label_defs.proofs.BetweenLemmas.{between_swap, either_swap}
use Rattle.label_laws.specs.Acts.{Act, Deliver, Want, Unwant, Put, Land, Drop, Lose, Notice, Raise, Restart, Tick, Timers, Reroute, stepped, left_in_transit, delivered, wanted, unjoined, noticed, with_joined, raised, act, run}
use Rattle.label_laws.specs.Rule.{Rule, Kept, OnNetwork, end_of, branch_trees, is_held, none}
use Rattle.label_laws.proofs.Frames.{node_here, node_there, after_silent}
use Rattle.label_laws.proofs.NodeRule.{node_rule}
use Rattle.label_laws.proofs.Sessions.{Begins, unjoined_rule, joined_rule}
use Rattle.label_laws.proofs.Ends.{with_node, noticed_rule, fresh_rule, new_end, risen, risen_here, risen_rule, bare_where}
use Rattle.label_laws.proofs.Times.{tick_rule, timed_rule}
use Rattle.label_laws.proofs.Copies.{put_kept, dropped_rule, landed_kept}
use Rattle.label_laws.proofs.Steps.{settled_after, call_kept, rerouted_kept, taken_rule}

apart : (a b : NodeId) → (a.0 == b.0) ≡ false → a ≢ b
apart a b t e = (let x = node_itself a b e in absurd cc)

-- ---- messages, leaves, timers, losses that are noticed

delivered_kept : (w : LabelNetwork) (a b : NodeId) (same up : Bool) (ms : List LabelMessage) → (a.0 == b.0) ≡ same → (w.direction a b).transit ≡ ms
    → Kept w → OnNetwork Kept (delivered w a b same up ms)
delivered_kept w a b false true (m ∷ rest) t e k =
    call_kept (left_in_transit w a b rest) b (steps.Taken a m) tt (taken_rule w a b m rest (apart a b t) e k.rule) k.settled
delivered_kept w a b false true [] t e k = k
delivered_kept w a b false false ms t e k = k
delivered_kept w a b true up ms t e k = k

-- leaves alone change
leaf_rule : (w : LabelNetwork) (n : NodeId) (leaves : FinSet fec_cmp) → ((f : Fec) → sets.contains leaves f ≡ true → w.is_tree f ≡ true) → Rule w
    → Rule (with_node w n (record (w.node n) { leaves = leaves }))
leaf_rule w n leaves h rule =
    let t = rule.trees n in
    node_rule w n (record (w.node n) { leaves = leaves }) (λ u v. (w.direction u v).transit) (record {
      owner = λ u l j v. v;
      branch = λ m l j v. v;
      others = λ u v p q. refl;
      quiet = λ u v j off e. e;
      ends = λ m j up. (rule.session n m j).ends up;
      covered = λ u l vpn at j past young c. c;
      trees = record { leaves = h; branches = t.branches; labels = t.labels };
    }) rule

want_kept : (w : LabelNetwork) (n : NodeId) (fec : Fec) (t : Bool) → w.is_tree fec ≡ t → Kept w → OnNetwork Kept (wanted w n fec t)
want_kept w n fec false e k = k
want_kept w n fec true e k =
    let part = w.node n in
    let new = sets.insert part.leaves fec in
    let ok : (f : Fec) → sets.contains new f ≡ true → w.is_tree f ≡ true =
    λ f h. elim (or_cases (eq_by_cmp fec_cmp f fec) (sets.contains part.leaves f)
    (sym (sets.contains-insert fec_cmp_total part.leaves fec f) ∙ h)) [
      | inl x ↦ ap w.is_tree (fec_cmp_exact f fec ((Equal-is (fec_cmp f fec)).0 x)) ∙ e
      | inr x ↦ (k.rule.trees n).leaves f x
    ] in
    call_kept w n (steps.Want fec) tt (subst Rule (after_silent w n (record part { leaves = new })) (leaf_rule w n new ok k.rule)) k.settled

unwant_kept : (w : LabelNetwork) (n : NodeId) (fec : Fec) → Kept w → OnNetwork Kept (stepped w n (steps.Unwant fec))
unwant_kept w n fec k =
    let part = w.node n in
    let new = sets.remove part.leaves fec in
    let ok : (f : Fec) → sets.contains new f ≡ true → w.is_tree f ≡ true =
    λ f h. (k.rule.trees n).leaves f (and_parts (not (eq_by_cmp fec_cmp f fec)) (sets.contains part.leaves f)
    (sym (sets.contains-remove fec_cmp_total part.leaves fec f) ∙ h)).1 in
    call_kept w n (steps.Unwant fec) tt (subst Rule (after_silent w n (record part { leaves = new })) (leaf_rule w n new ok k.rule)) k.settled

timers_kept : (w : LabelNetwork) (n : NodeId) → Kept w → OnNetwork Kept (stepped w n steps.Timers)
timers_kept w n k =
    call_kept w n steps.Timers tt (subst Rule (after_silent w n (timed (place_of w n) w.clock (w.node n))) (timed_rule w n k.rule)) k.settled

noticed_kept : (w : LabelNetwork) (a b : NodeId) (live up : Bool) → (w.direction a b).joined ≡ live → Kept w → OnNetwork Kept (noticed w a b live up)
noticed_kept w a b false true e k =
    call_kept w a (steps.Noticed b) tt (subst Rule (after_silent w a (without_session (w.node a) b)) (noticed_rule w a b (λ ne. e) k.rule)) k.settled
noticed_kept w a b false false e k = k
noticed_kept w a b true up e k = k

-- ---- a session is raised

none_where : (o : Option End) → is_some o ≡ false → o ≡ None
none_where None e = refl
none_where (Some end) e = absurd cc

-- nothing is in transit where the end is down
silent : (w : LabelNetwork) (u n : NodeId) → u ≢ n → end_of (w.node u) n ≡ None → Rule w → (w.direction u n).transit ≡ []
silent w u n ne off rule =
    elim (cases_Bool (w.direction u n).joined) [
      | inl up ↦ (let x : false ≡ true = sym (ap is_some off) ∙ (rule.session u n ne).ends up in absurd cc)
      | inr down ↦ (rule.session u n ne).quiet down
    ]

module _ (w : LabelNetwork) (a b : NodeId) (ne : a ≢ b) (off_a : is_some (end_of (w.node a) b) ≡ false)
    (off_b : is_some (end_of (w.node b) a) ≡ false) (k : Kept w) where
  back : b ≢ a
  back e = ne (sym e)

  abbrev data_a : LabelData
  data_a = risen (w.node a) b w.clock

  abbrev first : LabelNetwork
  first = with_node w a data_a

  abbrev data_b : LabelData
  data_b = risen (first.node b) a w.clock

  abbrev both : LabelNetwork
  both = with_node first b data_b

  none_a : end_of (w.node a) b ≡ None
  none_a = none_where (end_of (w.node a) b) off_a

  none_b : end_of (w.node b) a ≡ None
  none_b = none_where (end_of (w.node b) a) off_b

  there : first.node b ≡ w.node b
  there = node_there a data_a w.node b back

  bare_a : (l : ℕ) → branch_trees (w.node a) b l ≡ none
  bare_a l = bare_where w a b l ne none_a k.rule

  bare_b : (l : ℕ) → branch_trees (w.node b) a l ≡ none
  bare_b l = bare_where w b a l back none_b k.rule

  first_rule : Rule first
  first_rule = risen_rule w a b none_a bare_b k.rule

  both_rule : Rule both
  both_rule =
      risen_rule first b a (ap (λ (d : LabelData). end_of d a) there ∙ none_b)
      (λ l. ap (λ (d : LabelData). branch_trees d b l) (node_here a data_a w.node) ∙ bare_a l) first_rule

  node_a : both.node a ≡ data_a
  node_a = node_there b data_b first.node a ne ∙ node_here a data_a w.node

  node_b : both.node b ≡ data_b
  node_b = node_here b data_b first.node

  end_a : end_of (both.node a) b ≡ Some (new_end w.clock)
  end_a = ap (λ (d : LabelData). end_of d b) node_a ∙ risen_here (w.node a) b w.clock

  end_b : end_of (both.node b) a ≡ Some (new_end w.clock)
  end_b = ap (λ (d : LabelData). end_of d a) node_b ∙ risen_here (first.node b) a w.clock

  begins_ab : Begins both a b
  begins_ab = record {
    up = ap is_some end_a;
    unheld = ap is_held end_b;
    bare = λ l. ap (λ (d : LabelData). branch_trees d b l) node_a ∙ bare_a l;
    empty = silent w a b ne none_a k.rule;
  }

  begins_ba : Begins both b a
  begins_ba = record {
    up = ap is_some end_b;
    unheld = ap is_held end_a;
    bare = λ l. ap (λ (d : LabelData). branch_trees d a l) (node_b) ∙ ap (λ (d : LabelData). branch_trees d a l) there ∙ bare_b l;
    empty = silent w b a back none_b k.rule;
  }

  begins : (u n : NodeId) → is_between a b u n ≡ true → Begins both u n
  begins u n h =
      let P : NodeId → NodeId → Type 0 = λ x y. Begins both x y in
      elim (or_cases ((u.0 == a.0) && (n.0 == b.0)) ((u.0 == b.0) && (n.0 == a.0)) h) [
        | inl x ↦ let y = and_parts (u.0 == a.0) (n.0 == b.0) x in
            subst (λ z. P z n) (sym (node_equal u a y.0)) (subst (λ z. P a z) (sym (node_equal n b y.1)) begins_ab)
        | inr x ↦ let y = and_parts (u.0 == b.0) (n.0 == a.0) x in
            subst (λ z. P z n) (sym (node_equal u b y.0)) (subst (λ z. P b z) (sym (node_equal n a y.1)) begins_ba)
      ]

  joined_both : Rule (with_joined a b both)
  joined_both = joined_rule both a b begins both_rule

  -- by the label steps
  abbrev stepped_a : LabelNetwork
  stepped_a = thereafter w a (record { part = data_a; puts = [] })

  abbrev stepped_both : LabelNetwork
  stepped_both = thereafter stepped_a b (record { part = risen (stepped_a.node b) a w.clock; puts = [] })

  same : both ≡ stepped_both
  same =
      ap (λ (x : LabelNetwork). with_node x b (risen (x.node b) a x.clock)) (after_silent w a data_a)
      ∙ after_silent stepped_a b (risen (stepped_a.node b) a w.clock)

  settled_a : (m : NodeId) → AllSettled (place_of w m) (stepped_a.node m)
  settled_a = settled_after w a (steps.Raised b) (record { part = data_a; puts = [] }) off_a k.settled refl

  settled_both : (m : NodeId) → AllSettled (place_of w m) (stepped_both.node m)
  settled_both =
      settled_after stepped_a b (steps.Raised a) (record { part = risen (stepped_a.node b) a w.clock; puts = [] })
      (ap (λ (d : LabelData). is_some (end_of d a)) there ∙ off_b) settled_a refl

  pub raised_both : Kept (with_joined a b stepped_both)
  raised_both = record { rule = subst (λ (x : LabelNetwork). Rule (with_joined a b x)) same joined_both; settled = settled_both }

raised_kept : (w : LabelNetwork) (a b : NodeId) (same up other : Bool) → (a.0 == b.0) ≡ same → is_up (w.node a) b ≡ up → is_up (w.node b) a ≡ other
    → Kept w → OnNetwork Kept (raised w a b same up other)
raised_kept w a b false false false t p q k = raised_both w a b (apart a b t) p q k
raised_kept w a b false false true t p q k = k
raised_kept w a b false true other t p q k = k
raised_kept w a b true up other t p q k = k

-- ---- a node restarts

restarted_kept : (w : LabelNetwork) (n : NodeId) (count : ℕ) → Kept w → Kept (with_node (unjoined (is_either n) w) n (fresh count))
restarted_kept w n count k =
    record {
      rule = fresh_rule (unjoined (is_either n) w) n count
          (λ u ne. and_right (w.direction u n).joined (not (is_either n u n)) (ap not (or_right (u.0 == n.0) (n.0 == n.0) (node_itself n n refl))))
          (unjoined_rule w (is_either n) (either_swap n) k.rule);
      settled = λ m fec. elim (node_cases m n) [
        | inr ne ↦ let P : LabelData → Type 0 = λ d. Settled (place_of w m) d fec in
            subst P (sym (node_there n (fresh count) w.node m ne)) (k.settled m fec)
        | inl same ↦
            let Q : NodeId → Type 0 = λ x. Settled (place_of w x) (at_node n (fresh count) w.node x) fec in
            let P : LabelData → Type 0 = λ d. Settled (place_of w n) d fec in
            subst Q (sym same) (subst P (sym (node_here n (fresh count) w.node)) (fresh_settled (place_of w n) count fec))
      ];
    }

-- ---- acts and runs

act_kept : (w : LabelNetwork) (a : Act) → Kept w → OnNetwork Kept (act w a)
act_kept w (Deliver a b) k = delivered_kept w a b (a.0 == b.0) (is_up (w.node b) a) (w.direction a b).transit refl refl k
act_kept w (Want n fec) k = want_kept w n fec (w.is_tree fec) refl k
act_kept w (Unwant n fec) k = unwant_kept w n fec k
act_kept w (Put n fec number) k = put_kept w n fec number (w.vpn_of fec == w.origin number) (λ e. eqb-true (w.vpn_of fec) (w.origin number) e) k
act_kept w (Land a b place) k = landed_kept w a b place (a.0 == b.0) _ refl refl k
act_kept w (Drop a b place) k = record { rule = dropped_rule w a b place k.rule; settled = k.settled }
act_kept w (Lose a b) k = record { rule = unjoined_rule w (is_between a b) (between_swap a b) k.rule; settled = k.settled }
act_kept w (Notice a b) k = noticed_kept w a b (w.direction a b).joined (is_up (w.node a) b) refl k
act_kept w (Raise a b) k = raised_kept w a b (a.0 == b.0) (is_up (w.node a) b) (is_up (w.node b) a) refl refl refl k
act_kept w (Restart n) k = restarted_kept w n (w.labels n) k
act_kept w (Tick ticks) k = record { rule = tick_rule w ticks k.rule; settled = k.settled }
act_kept w (Timers n) k = timers_kept w n k
act_kept w (Reroute n upstream) k = rerouted_kept w n upstream k

bind_kept : (o : Option LabelNetwork) (next : LabelNetwork → Option LabelNetwork) → OnNetwork Kept o
    → ((v : LabelNetwork) → Kept v → OnNetwork Kept (next v)) → OnNetwork Kept (o >>? next)
bind_kept None next k h = tt
bind_kept (Some v) next k h = h v k

pub run_kept : (w : LabelNetwork) (acts : List Act) → Kept w → OnNetwork Kept (run w acts)
run_kept w [] k = k
run_kept w (first ∷ more) k = bind_kept (act w first) (λ v. run v more) (act_kept w first k) (λ v kept. run_kept v more kept)
