-- The calls of a node are label steps.
use Rattle.std.proofs.Common.{◌≡◌, ◌<◌, ◌≤◌, ℕ, ◌+◌, ◌==◌, ◌&&◌, ◌||◌, ◌⊎◌, not, Bool, true, false, cond, List, [], ◌∷◌, ◌++◌, Option, Some, None, is_some, option_map, map, length, drop, get_or, inl, inr, refl, sym, ap, subst, ◌∙◌}
use Rattle.std.specs.FinMap as maps
use Rattle.std.specs.FinMap.{FinMap}
use Rattle.std.specs.FinSet as sets
use Rattle.std.specs.FinSet.{FinSet}
use Rattle.std.specs.List.{list_any}
use Rattle.std.specs.Ordering.{eq_by_cmp}
use Rattle.std.proofs.lemmas.Bool.{or_cases, or_from, true_from_ne_false}
use Rattle.std.proofs.lemmas.List.{length-map, append_assoc, drop_more}
use Rattle.mv_base.specs.Address.{same_addr}
use Rattle.mv_base.specs.declared.addr.Addr.{Addr}
use Rattle.mv_base.specs.declared.ids.NodeId.{NodeId}
use Rattle.mv_base.specs.core_walks.Core.{Core}
use Rattle.mv_base.specs.core_walks.Topology.{Topology}
use Rattle.mldp.specs.declared.mldp_fec.fec.Fec.{Fec}
use Rattle.mldp.specs.mldp_msgs.Spelling.{IsElement}
use Rattle.mldp.specs.declared.mldp_msgs.message.LabelMessage.TheVariants as messages
use Rattle.label_defs.specs.declared.branch.Branch.{Branch}
use Rattle.label_defs.specs.declared.end.End.{End}
use Rattle.label_defs.specs.declared.label_use.LabelUse.{LabelUse}
use Rattle.label_defs.specs.declared.label_use.LabelUse.TheVariants as uses
use Rattle.label_defs.specs.declared.put.Put.{Put}
use Rattle.label_defs.specs.Keys.{fec_cmp, branch_cmp, node_cmp}
use Rattle.label_defs.specs.LabelData.{Place, LabelData, fresh, same_fec, use_of, has_branch, trees}
use Rattle.label_defs.specs.Node.{NodePlace, is_p2mp, place_in, addr_in, raises_of, one_more, with_pdus, prepared, thereafter}
use Rattle.label_defs.specs.Settling.{Stepped, settle_all}
use Rattle.label_defs.specs.Steps.{Call, Taken, Want, Unwant, Raised, Noticed, Timers, Rerouted, effect, numbered, ends_after, counted, label_step, twice, branch_to, released, freed, woken, hold_run, holds_run, raised_end, told}
use Rattle.label_defs.proofs.IdLemmas.{up_after}
use Rattle.label_defs.proofs.EffectLemmas.{released_maps}
use Rattle.label_defs.proofs.LossLemmas.{freed_was, absent}
use Rattle.label_defs.proofs.TimerLemmas.{woken_maps}
use Rattle.label_defs.proofs.UseLemmas.{map_some, used-map}
use Rattle.label_defs.specs.Members.{in_order}
use Rattle.std.specs.Cmp.{Equal-is}
use Rattle.label_defs.proofs.KeyLemmas.{fec_cmp_total, fec_cmp_exact, branch_cmp_total, branch_cmp_exact, node_cmp_total, node_cmp_exact, same_fec_equal, same_fec_from, fec_cases, node_cases}
use Rattle.label_defs.proofs.TreeLemmas.{not_both}
use Rattle.label_defs.proofs.SetLemmas.{any_as, inserted_other, removed_other, cut_here, cut_other, get-changed, retained}
use Rattle.label_trees.specs.label_uses.Uses.{with_released, without, use_in, set_use}
use Rattle.label_trees.specs.Trees.{Trees, trees_in}
use Rattle.mldp_node.specs.label_ends.Ends.{Ends, with_puts, told_over, with_raise, without_end}
use Rattle.mldp_node.specs.Parts.{awaited, part_of, is_on_tree, stepped_of, node_of, AreSessions, AreSpelled, AreTied, WaitOnTrees, WaitTowardRoots, WaitedTowardRoots, Finished, Made}
use Rattle.mldp_node.proofs.SpelledLemmas.{with_use_spelled}
use Rattle.mldp_node.proofs.WaitLemmas.{mapped_was}

-- ---- what is told

pub told_are : (addr : Addr) (ends : Ends) (puts : List Put)
    → with_puts addr ends puts ≡ record ends { up = ends_after ends.up puts; waiting = with_pdus addr (numbered ends.up puts) ends.waiting }
told_are addr ends [] = refl
told_are addr ends (put ∷ more) = by (maps.get ends.up put.to) (told_are addr ends more) (λ end. told_are addr (told_over addr ends put end) more)
  where
    by : (o : Option End) → with_puts addr ends more
        ≡ record ends { up = ends_after ends.up more; waiting = with_pdus addr (numbered ends.up more) ends.waiting }
        → ((end : End) → with_puts addr (told_over addr ends put end) more
        ≡ record (told_over addr ends put end) {
          up = ends_after (told_over addr ends put end).up more;
          waiting =
              with_pdus addr (numbered (told_over addr ends put end).up more) (told_over addr ends put end).waiting;
        })
        → with_puts addr (elim o [ None ↦ ends | Some end ↦ told_over addr ends put end ]) more
        ≡ record ends {
          up = elim o [ None ↦ ends_after ends.up more | Some end ↦ ends_after (maps.insert ends.up put.to (told end)) more ];
          waiting =
              with_pdus addr (elim o [
                | None ↦ numbered ends.up more
                | Some end ↦
                    record { id = end.next; put = put } ∷ numbered (maps.insert ends.up put.to (told end)) more
              ]) ends.waiting;
        }
    by None here there = here
    by (Some end) here there = there end

spelled_as : (trees : Trees) (up new : FinMap node_cmp End) → AreSpelled (part_of trees up) → AreSpelled (part_of trees new)
spelled_as trees up new h = record { leaves = h.leaves; branches = h.branches; mapped = h.mapped; few = h.few }

pub told_tied : (addr : Addr) (trees : Trees) (ends : Ends) (puts : List Put) → AreTied trees ends → AreTied trees (with_puts addr ends puts)
told_tied addr trees ends puts h = subst (λ (e : Ends). AreTied trees e) (sym (told_are addr ends puts)) (record {
  sessions =
      λ peer. h.sessions peer ∙ ap (λ (t : Bool). cond t (Some (record { 0 = raises_of ends.raises peer })) None) (sym (up_after ends.up puts peer));
  spelled = spelled_as trees ends.up (ends_after ends.up puts) h.spelled;
  apart = h.apart;
})

-- ---- a call

-- What a call itself leaves of the trees that wait: they wait as before. The node is on each that does not settle then, and it waits
-- towards its root.
pub record Waits (core : Topology) (place : NodePlace) (call : Call) (old mid : Trees) (fecs : List Fec) : Type 0 where
  pub still : mid.uses.waiting ≡ old.uses.waiting
  pub on : WaitOnTrees old → (f : Fec) (x : NodeId) → maps.get old.uses.waiting f ≡ Some x
      → (is_on_tree mid f ≡ true) ⊎ (list_any (same_fec f) fecs ≡ true)
  pub toward : (own : Core) → WaitOnTrees old → WaitedTowardRoots call place own old.uses.waiting
      → (f : Fec) (x : NodeId) → maps.get old.uses.waiting f ≡ Some x → list_any (same_fec f) fecs ≡ false → (place_in place own).upstream f ≡ Some x

-- next hops did not change
abbrev pub HopsStay : NodePlace → Call → Type 0
HopsStay place call = (own : Core) (waiting : FinMap fec_cmp NodeId) → WaitedTowardRoots call place own waiting → WaitTowardRoots place own waiting

waits_by : (core : Topology) (place : NodePlace) (call : Call) (old mid : Trees) (fecs : List Fec) → HopsStay place call
    → mid.uses.waiting ≡ old.uses.waiting
    → ((f : Fec) → is_on_tree old f ≡ true → (is_on_tree mid f ≡ true) ⊎ (list_any (same_fec f) fecs ≡ true)) → Waits core place call old mid fecs
waits_by core place call old mid fecs stay still on = record {
  still = still;
  on = λ o f x g. on f (o f x g);
  toward = λ own o w f x g out. stay own old.uses.waiting w f x g;
}

-- a call that moves the node to no tree, and from none
waits_same : (core : Topology) (place : NodePlace) (call : Call) (old mid : Trees) (fecs : List Fec) → HopsStay place call
    → mid.uses.waiting ≡ old.uses.waiting
    → ((f : Fec) → is_on_tree mid f ≡ is_on_tree old f) → Waits core place call old mid fecs
waits_same core place call old mid fecs stay still same = waits_by core place call old mid fecs stay still (λ f t. inl (same f ∙ t))

-- a call that may move the node to this tree or from it, and to and from no other
waits_one : (core : Topology) (place : NodePlace) (call : Call) (old mid : Trees) (fec : Fec) → HopsStay place call
    → mid.uses.waiting ≡ old.uses.waiting
    → ((f : Fec) → (f ≡ fec → ⊥) → is_on_tree mid f ≡ is_on_tree old f) → Waits core place call old mid (fec ∷ [])
waits_one core place call old mid fec stay still same = waits_by core place call old mid (fec ∷ []) stay still (λ f t. elim (fec_cases f fec) [
  | inl e ↦ inr (ap (λ (b : Bool). b || false) (same_fec_from f fec e))
  | inr ne ↦ inl (same f ne ∙ t)
])

-- the branches of other trees stay
other_branches : (old : Trees) (branches : FinSet branch_cmp) (from : NodeId) (fec : Fec) (label : ℕ)
    → ((b : Branch) → (b ≡ branch_to from fec label → ⊥) → sets.contains branches b ≡ sets.contains old.branches b)
    → (f : Fec) → (f ≡ fec → ⊥) → is_on_tree (record old { branches = branches }) f ≡ is_on_tree old f
other_branches old branches from fec label same f ne = ap (λ (t : Bool). t || sets.contains old.leaves f)
    (any_as branch_cmp_total branch_cmp_exact (λ b. same_fec b.fec f) branches old.branches
    (λ b is. same b (λ e. ne (sym (same_fec_equal b.fec f is) ∙ ap (λ (x : Branch). x.fec) e))))

pub made_of : (core : Topology) (place : NodePlace) (now : ℕ) (call : Call) (old : Trees) (old_ends : Ends) (mid : Trees) (mid_ends : Ends)
    (puts : List Put) (fecs : List Fec) (new : Trees) (new_ends : Ends)
    → ((own : Core) → effect (place_in place own) now (part_of old old_ends.up) call ≡ (stepped_of mid mid_ends.up puts, fecs))
    → prepared call (node_of old old_ends) ≡ record {
      part = part_of old old_ends.up;
      raises = mid_ends.raises;
      waiting = mid_ends.waiting;
      spent =
          None;
    }
    → Waits core place call old mid fecs → mid.uses.life ≡ old.uses.life → Finished core place fecs mid mid_ends puts new new_ends
    → Made core place now call old old_ends new new_ends
made_of core place now call old old_ends mid mid_ends puts fecs new new_ends own_effect ready waits life h = record {
  made = λ own is.
      let P : Place = place_in place own in
      let part : LabelData = part_of old old_ends.up in
      let step : label_step P now part call ≡ Some (counted (stepped_of new mid_ends.up h.told)) =
      ap (λ (o : Stepped × List Fec). option_map counted (settle_all P o.1 o.0)) (own_effect own) ∙ ap (option_map counted) (h.settled.made own is) in
      let start : (effect P now part call).0.part.ends ≡ mid_ends.up = ap (λ (o : Stepped × List Fec). o.0.part.ends) (own_effect own) in
      (λ i. thereafter (addr_in place) P now (ready i) call (step i))
      ∙ ap (λ (up : FinMap node_cmp End). record {
        part = part_of new (ends_after mid_ends.up h.told);
        raises = mid_ends.raises;
        waiting =
            with_pdus (addr_in place) (numbered up h.told) mid_ends.waiting;
        spent = None;
      }) start
      ∙ ap (λ (e : Ends). node_of new e) (sym (h.over ∙ told_are (addr_in place) mid_ends h.told));
  tied = subst (λ (e : Ends). AreTied new e) (sym h.over) (told_tied (addr_in place) new mid_ends h.told h.settled.tied);
  life = h.settled.life ∙ life;
  on = λ o f x g. elim (h.settled.on f x g) [
    | inl t ↦ t
    | inr b ↦ elim (waits.on o f x (waited f x b.0)) [
      | inl t ↦ h.settled.same f ∙ t
      | inr t ↦ absurd (not_both (list_any (same_fec f) fecs) t b.1)
    ]
  ];
  toward = λ own is o w f x g. elim (h.settled.toward own is f x g) [ inl t ↦ t | inr b ↦ waits.toward own o w f x (waited f x b.0) b.1 ];
}
  where
    waited : (f : Fec) (x : NodeId) → maps.get mid.uses.waiting f ≡ Some x → maps.get old.uses.waiting f ≡ Some x
    waited f x g = ap (λ (m : FinMap fec_cmp NodeId). maps.get m f) (sym waits.still) ∙ g

-- ---- leaves

pub leaf_tied : (old mid : Trees) (ends : Ends) (fec : Fec) → mid ≡ record old { leaves = sets.insert old.leaves fec } → IsElement fec
    → AreTied old ends → AreTied mid ends
leaf_tied old mid ends fec e own h = subst (λ (t : Trees). AreTied t ends) (sym e) (record {
  sessions = h.sessions;
  spelled = record {
    leaves = λ f t. elim (or_cases (eq_by_cmp fec_cmp f fec) (sets.contains old.leaves f)
        (sym (sets.contains-insert fec_cmp_total old.leaves fec f) ∙ t)) [
          | inl same ↦ subst IsElement (sym (same_fec_equal f fec same)) own
          | inr there ↦ h.spelled.leaves f there
        ];
    branches = h.spelled.branches;
    mapped = h.spelled.mapped;
    few = h.spelled.few;
  };
  apart = h.apart;
})

first : (a b : Bool) → (a && b) ≡ true → a ≡ true
first true b e = refl
first false b e = e

second : (a b : Bool) → (a && b) ≡ true → b ≡ true
second true b e = e
second false b e = absurd cc

pub unleaf_tied : (old mid : Trees) (ends : Ends) (fec : Fec) → mid ≡ record old { leaves = sets.remove old.leaves fec } → AreTied old ends
    → AreTied mid ends
unleaf_tied old mid ends fec e h = subst (λ (t : Trees). AreTied t ends) (sym e) (record {
  sessions = h.sessions;
  spelled = record {
    leaves = λ f t. h.spelled.leaves f (second (not (eq_by_cmp fec_cmp f fec)) (sets.contains old.leaves f)
        (sym (sets.contains-remove fec_cmp_total old.leaves fec f) ∙ t));
    branches = h.spelled.branches;
    mapped = h.spelled.mapped;
    few = h.spelled.few;
  };
  apart = h.apart;
})

pub want_made : (core : Topology) (place : NodePlace) (now : ℕ) (old : Trees) (ends : Ends) (mid : Trees) (puts : List Put) (fec : Fec) (new : Trees)
    (new_ends : Ends)
    → mid ≡ record old { leaves = sets.insert old.leaves fec } → puts ≡ [] → Finished core place (fec ∷ []) mid ends puts new new_ends
    → Made core place now (Want fec) old ends new new_ends
want_made core place now old ends mid puts fec new new_ends e p h = made_of core place now (Want fec) old ends mid ends puts (fec ∷ []) new new_ends
    (λ own i. (stepped_of (sym e i) ends.up (sym p i), fec ∷ [])) refl
    (subst (λ (t : Trees). Waits core place (Want fec) old t (fec ∷ [])) (sym e)
    (waits_one core place (Want fec) old (record old { leaves = sets.insert old.leaves fec }) fec (λ own waiting w. w) refl
    (λ f ne. ap (λ (t : Bool). has_branch (part_of old maps.empty) f || t) (inserted_other fec_cmp_total fec_cmp_exact old.leaves fec f ne))))
    (ap (λ (t : Trees). t.uses.life) e) h

pub unwant_made : (core : Topology) (place : NodePlace) (now : ℕ) (old : Trees) (ends : Ends) (mid : Trees) (puts : List Put) (fec : Fec)
    (new : Trees) (new_ends : Ends)
    → mid ≡ record old { leaves = sets.remove old.leaves fec } → puts ≡ [] → Finished core place (fec ∷ []) mid ends puts new new_ends
    → Made core place now (Unwant fec) old ends new new_ends
unwant_made core place now old ends mid puts fec new new_ends e p h =
    made_of core place now (Unwant fec) old ends mid ends puts (fec ∷ []) new new_ends
    (λ own i. (stepped_of (sym e i) ends.up (sym p i), fec ∷ [])) refl
    (subst (λ (t : Trees). Waits core place (Unwant fec) old t (fec ∷ [])) (sym e)
    (waits_one core place (Unwant fec) old (record old { leaves = sets.remove old.leaves fec }) fec (λ own waiting w. w) refl
    (λ f ne. ap (λ (t : Bool). has_branch (part_of old maps.empty) f || t) (removed_other fec_cmp_total fec_cmp_exact old.leaves fec f ne))))
    (ap (λ (t : Trees). t.uses.life) e) h

-- ---- mappings

branch_equal : (a b : Branch) → eq_by_cmp branch_cmp a b ≡ true → a ≡ b
branch_equal a b e = branch_cmp_exact a b ((Equal-is (branch_cmp a b)).0 e)

pub branch_tied : (old mid : Trees) (ends : Ends) (from : NodeId) (fec : Fec) (label : ℕ)
    → mid ≡ record old { branches = sets.insert old.branches (branch_to from fec label) } → IsElement fec → AreTied old ends → AreTied mid ends
branch_tied old mid ends from fec label e own h = subst (λ (t : Trees). AreTied t ends) (sym e) (record {
  sessions = h.sessions;
  spelled = record {
    leaves = h.spelled.leaves;
    branches =
        λ b t. elim (or_cases (eq_by_cmp branch_cmp b (branch_to from fec label)) (sets.contains old.branches b)
        (sym (sets.contains-insert branch_cmp_total old.branches (branch_to from fec label) b) ∙ t)) [
          | inl same ↦ subst IsElement (sym (ap (λ (x : Branch). x.fec) (branch_equal b (branch_to from fec label) same))) own
          | inr there ↦ h.spelled.branches b there
        ];
    mapped = h.spelled.mapped;
    few = h.spelled.few;
  };
  apart = h.apart;
})

pub unbranch_tied : (old mid : Trees) (ends : Ends) (from : NodeId) (fec : Fec) (label : ℕ)
    → mid ≡ record old { branches = sets.remove old.branches (branch_to from fec label) } → AreTied old ends → AreTied mid ends
unbranch_tied old mid ends from fec label e h = subst (λ (t : Trees). AreTied t ends) (sym e) (record {
  sessions = h.sessions;
  spelled = record {
    leaves = h.spelled.leaves;
    branches =
        λ b t. h.spelled.branches b (second (not (eq_by_cmp branch_cmp b (branch_to from fec label))) (sets.contains old.branches b)
        (sym (sets.contains-remove branch_cmp_total old.branches (branch_to from fec label) b) ∙ t));
    mapped = h.spelled.mapped;
    few = h.spelled.few;
  };
  apart = h.apart;
})

pub mapping_made : (core : Topology) (place : NodePlace) (now : ℕ) (old : Trees) (ends : Ends) (mid : Trees) (puts : List Put) (from : NodeId)
    (fec : Fec) (label : ℕ) (new : Trees) (new_ends : Ends)
    → (is_p2mp fec.kind && list_any (λ own. same_addr own fec.root) place.addrs) ≡ true
    → mid ≡ record old { branches = sets.insert old.branches (branch_to from fec label) } → puts ≡ []
    → Finished core place (fec ∷ []) mid ends puts new new_ends
    → Made core place now (Taken from (messages.Mapping fec label)) old ends new new_ends
mapping_made core place now old ends mid puts from fec label new new_ends t e p h =
    made_of core place now (Taken from (messages.Mapping fec label)) old ends mid ends puts (fec ∷ []) new new_ends
    (λ own. ap (λ (b : Bool). (
      record {
        part = cond b
            (record (part_of old ends.up) { branches = sets.insert old.branches (branch_to from fec label) }) (part_of old ends.up);
        puts = [];
      },
      fec
          ∷ [],
    )) t
    ∙ λ i. (stepped_of (sym e i) ends.up (sym p i), fec ∷ [])) refl
    (subst (λ (x : Trees). Waits core place (Taken from (messages.Mapping fec label)) old x (fec ∷ [])) (sym e)
    (waits_one core place (Taken from (messages.Mapping fec label)) old
    (record old { branches = sets.insert old.branches (branch_to from fec label) }) fec (λ own waiting w. w) refl
    (other_branches old (sets.insert old.branches (branch_to from fec label)) from fec label
    (inserted_other branch_cmp_total branch_cmp_exact old.branches (branch_to from fec label)))))
    (ap (λ (x : Trees). x.uses.life) e) h

pub no_tree_made : (core : Topology) (place : NodePlace) (now : ℕ) (old : Trees) (ends : Ends) (puts : List Put) (from : NodeId) (fec : Fec)
    (label : ℕ) (new : Trees) (new_ends : Ends)
    → (is_p2mp fec.kind && list_any (λ own. same_addr own fec.root) place.addrs) ≡ false
    → puts ≡ [] → Finished core place (fec ∷ []) old ends puts new new_ends
    → Made core place now (Taken from (messages.Mapping fec label)) old ends new new_ends
no_tree_made core place now old ends puts from fec label new new_ends t p h =
    made_of core place now (Taken from (messages.Mapping fec label)) old ends old ends puts (fec ∷ []) new new_ends
    (λ own. ap (λ (b : Bool). (
      record {
        part = cond b
            (record (part_of old ends.up) { branches = sets.insert old.branches (branch_to from fec label) }) (part_of old ends.up);
        puts = [];
      },
      fec
          ∷ [],
    )) t
    ∙ λ i. (stepped_of old ends.up (sym p i), fec ∷ [])) refl
    (waits_same core place (Taken from (messages.Mapping fec label)) old old (fec ∷ []) (λ own waiting w. w) refl (λ f. refl)) refl h

pub withdraw_made : (core : Topology) (place : NodePlace) (now : ℕ) (old : Trees) (ends : Ends) (mid : Trees) (none puts : List Put) (from : NodeId)
    (fec : Fec) (label : ℕ) (new : Trees) (new_ends : Ends)
    → mid ≡ record old { branches = sets.remove old.branches (branch_to from fec label) } → none ≡ []
    → puts ≡ none ++ record { to = from; message = messages.Release fec label } ∷ []
    → Finished core place (fec ∷ []) mid ends puts new new_ends → Made core place now (Taken from (messages.Withdraw fec label)) old ends new new_ends
withdraw_made core place now old ends mid none puts from fec label new new_ends e n p h =
    let one : puts ≡ record { to = from; message = messages.Release fec label } ∷ [] =
    p ∙ ap (λ (xs : List Put). xs ++ record { to = from; message = messages.Release fec label } ∷ []) n in
    made_of core place now (Taken from (messages.Withdraw fec label)) old ends mid ends puts (fec ∷ []) new new_ends
    (λ own i. (stepped_of (sym e i) ends.up (sym one i), fec ∷ [])) refl
    (subst (λ (x : Trees). Waits core place (Taken from (messages.Withdraw fec label)) old x (fec ∷ [])) (sym e)
    (waits_one core place (Taken from (messages.Withdraw fec label)) old
    (record old { branches = sets.remove old.branches (branch_to from fec label) }) fec (λ own waiting w. w) refl
    (other_branches old (sets.remove old.branches (branch_to from fec label)) from fec label
    (removed_other branch_cmp_total branch_cmp_exact old.branches (branch_to from fec label)))))
    (ap (λ (x : Trees). x.uses.life) e) h

-- ---- releases

released_own : (from : NodeId) (fec : Fec) (until : ℕ) (usage : LabelUse) (f : Fec) (u : NodeId) → released from fec until usage ≡ uses.Mapped f u
    → usage ≡ uses.Mapped f u
released_own from fec until usage f u e = released_maps from fec f until usage u e

pub release_spelled : (labels : List LabelUse) (part : LabelData) (from : NodeId) (fec : Fec) (label until : ℕ) (o : Option LabelUse)
    → use_of part label ≡ o → AreSpelled part
    → AreSpelled (record part { labels = elim o [ None ↦ part.labels | Some usage ↦ set_use part.labels label (released from fec until usage) ] })
release_spelled labels part from fec label until None is h = record { leaves = h.leaves; branches = h.branches; mapped = h.mapped; few = h.few }
release_spelled labels part from fec label until (Some usage) is h =
    with_use_spelled part label usage (released from fec until usage) is h
    (λ f u e. h.mapped f label u (is ∙ ap (λ (x : LabelUse). Some x) (released_own from fec until usage f u e)))

-- a release maps nothing
release_was : (labels : List LabelUse) (from : NodeId) (fec : Fec) (label until : ℕ) (o : Option LabelUse) → use_in labels label ≡ o
    → (f : Fec) (l : ℕ) (u : NodeId) → use_in (elim o [ None ↦ labels | Some usage ↦ set_use labels label (released from fec until usage) ]) l
    ≡ Some (uses.Mapped f u) → use_in labels l ≡ Some (uses.Mapped f u)
release_was labels from fec label until None is f l u m = m
release_was labels from fec label until (Some usage) is f l u m =
    elim (mapped_was (record (fresh 0) { labels = labels }) label usage (released from fec until usage) f l u is m) [
      | inl e ↦ ap (use_in labels) e.0 ∙ is ∙ ap (λ (x : LabelUse). Some x) (released_own from fec until usage f u e.1)
      | inr was ↦ was
    ]

pub release_tied : (old mid : Trees) (ends : Ends) (from : NodeId) (fec : Fec) (label until : ℕ)
    → mid ≡ record old { uses = record old.uses { labels = with_released old.uses.labels from fec label until } } → AreTied old ends
    → AreTied mid ends
release_tied old mid ends from fec label until e h = subst (λ (t : Trees). AreTied t ends) (sym e) (record {
  sessions = h.sessions;
  spelled = let s = release_spelled old.uses.labels (part_of old ends.up) from fec label until (use_in old.uses.labels label) refl h.spelled in
      record { leaves = s.leaves; branches = s.branches; mapped = s.mapped; few = s.few };
  apart = λ f l u m. h.apart f l u (release_was old.uses.labels from fec label until (use_in old.uses.labels label) refl f l u m);
})

release_part : (old : Trees) (up : FinMap node_cmp End) (from : NodeId) (fec : Fec) (label until : ℕ) (o : Option LabelUse)
    → elim o [
      | None ↦ part_of old up
      | Some usage ↦
          record (part_of old up) { labels = set_use old.uses.labels label (released from fec until usage) }
    ]
    ≡ record (part_of old up) {
      labels = elim o [
        | None ↦ old.uses.labels
        | Some usage ↦
            set_use old.uses.labels label (released from fec until usage)
      ];
    }
release_part old up from fec label until None = refl
release_part old up from fec label until (Some usage) = refl

pub release_made : (core : Topology) (place : NodePlace) (now : ℕ) (old : Trees) (ends : Ends) (mid : Trees) (puts : List Put) (from : NodeId)
    (fec : Fec) (label : ℕ) (new : Trees) (new_ends : Ends)
    → old.uses.life ≡ place.life → mid ≡ record old
    { uses = record old.uses { labels = with_released old.uses.labels from fec label (now + old.uses.life + 1) } } → puts ≡ []
    → Finished core place [] mid ends puts new new_ends → Made core place now (Taken from (messages.Release fec label)) old ends new new_ends
release_made core place now old ends mid puts from fec label new new_ends life e p h =
    made_of core place now (Taken from (messages.Release fec label)) old ends mid ends puts [] new new_ends
    (λ own. ap (λ (x : LabelData). (record { part = x; puts = [] }, []))
    (release_part old ends.up from fec label (now + place.life + 1) (use_in old.uses.labels label)
    ∙ ap (λ (n : ℕ). record (part_of old ends.up) { labels = with_released old.uses.labels from fec label (now + n + 1) }) (sym life))
    ∙ λ i. (stepped_of (sym e i) ends.up (sym p i), [])) refl
    (subst (λ (x : Trees). Waits core place (Taken from (messages.Release fec label)) old x []) (sym e)
    (waits_same core place (Taken from (messages.Release fec label)) old
    (record old { uses = record old.uses { labels = with_released old.uses.labels from fec label (now + old.uses.life + 1) } }) []
    (λ own waiting w. w) refl (λ f. refl)))
    (ap (λ (x : Trees). x.uses.life) e) h

pub ignored_made : (core : Topology) (place : NodePlace) (now : ℕ) (old : Trees) (ends : Ends) (puts : List Put) (from : NodeId) (kind : ℕ)
    (new : Trees) (new_ends : Ends)
    → puts ≡ [] → Finished core place [] old ends puts new new_ends → Made core place now (Taken from (messages.Ignored kind)) old ends new new_ends
ignored_made core place now old ends puts from kind new new_ends p h =
    made_of core place now (Taken from (messages.Ignored kind)) old ends old ends puts [] new new_ends
    (λ own i. (stepped_of old ends.up (sym p i), [])) refl
    (waits_same core place (Taken from (messages.Ignored kind)) old old [] (λ own waiting w. w) refl (λ f. refl)) refl h

-- ---- raises

raised_up : (old : Ends) (peer : NodeId) (now : ℕ) (q : NodeId)
    → maps.get (maps.insert old.up peer (raised_end now)) q ≡ cond (eq_by_cmp node_cmp q peer) (Some (raised_end now)) (maps.get old.up q)
raised_up old peer now q = maps.get-insert node_cmp_total old.up peer (raised_end now) q

pub raise_tied : (old mid : Trees) (ends mid_ends : Ends) (peer : NodeId) (now count : ℕ) → count ≡ one_more (raises_of ends.raises peer)
    → mid_ends ≡ with_raise peer now ends
    → mid ≡ record old { uses = record old.uses { sessions = maps.insert old.uses.sessions peer (record { 0 = count }) } } → AreTied old ends
    → AreTied mid mid_ends
raise_tied old mid ends mid_ends peer now count n e m h =
    subst (λ (t : Trees). AreTied t mid_ends) (sym m)
    (subst (λ (x : Ends). AreTied (record old { uses = record old.uses { sessions = maps.insert old.uses.sessions peer (record { 0 = count }) } })
    x) (sym e) (record {
      sessions = λ q.
          maps.get-insert node_cmp_total old.uses.sessions peer (record { 0 = count }) q
          ∙ by q (eq_by_cmp node_cmp q peer)
          ∙ (λ i. cond (is_some (sym (raised_up ends peer now q) i))
          (Some (record {
            0 =
                elim (sym (maps.get-insert node_cmp_total ends.raises peer (one_more (raises_of ends.raises peer)) q) i) [ None ↦ 0 | Some k ↦ k ];
          }))
          None);
      spelled = record { leaves = h.spelled.leaves; branches = h.spelled.branches; mapped = h.spelled.mapped; few = h.spelled.few };
      apart = h.apart;
    }))
  where
    by : (q : NodeId) (t : Bool) → cond t (Some (record { 0 = count })) (maps.get old.uses.sessions q)
        ≡ cond (is_some (cond t (Some (raised_end now)) (maps.get ends.up q)))
        (Some (record { 0 = elim (cond t (Some (one_more (raises_of ends.raises peer))) (maps.get ends.raises q)) [ None ↦ 0 | Some k ↦ k ] }))
        None
    by q true = λ i. Some (record { 0 = n i })
    by q false = h.sessions q

pub raise_made : (core : Topology) (place : NodePlace) (now : ℕ) (old : Trees) (ends : Ends) (mid : Trees) (mid_ends : Ends) (puts : List Put)
    (peer : NodeId) (count : ℕ) (new : Trees) (new_ends : Ends)
    → mid_ends ≡ with_raise peer now ends → mid ≡ record old
    { uses = record old.uses { sessions = maps.insert old.uses.sessions peer (record { 0 = count }) } } → puts ≡ []
    → Finished core place [] mid mid_ends puts new new_ends → Made core place now (Raised peer) old ends new new_ends
raise_made core place now old ends mid mid_ends puts peer count new new_ends e m p h =
    made_of core place now (Raised peer) old ends mid mid_ends puts [] new new_ends
    (λ own i. (stepped_of (sym m i) (sym e i).up (sym p i), []))
    (λ i. record { part = part_of old ends.up; raises = (sym e i).raises; waiting = (sym e i).waiting; spent = None })
    (subst (λ (x : Trees). Waits core place (Raised peer) old x []) (sym m)
    (waits_same core place (Raised peer) old (record old
    { uses = record old.uses { sessions = maps.insert old.uses.sessions peer (record { 0 = count }) } }) [] (λ own waiting w. w) refl
    (λ f. refl)))
    (ap (λ (x : Trees). x.uses.life) m) h

-- ---- losses

session_tied : (old : Trees) (ends : Ends) (peer : NodeId) → AreSessions old.uses.sessions ends.up ends.raises
    → AreSessions (maps.remove old.uses.sessions peer) (maps.remove ends.up peer) ends.raises
session_tied old ends peer h q = elim (node_cases q peer) [
  | inl e ↦ ap (maps.get (maps.remove old.uses.sessions peer)) e ∙ cut_here node_cmp_total node_cmp_exact old.uses.sessions peer
      ∙ sym (ap (λ (o : Option End). cond (is_some o) (Some (record { 0 = raises_of ends.raises q })) None)
      (ap (maps.get (maps.remove ends.up peer)) e ∙ cut_here node_cmp_total node_cmp_exact ends.up peer))
  | inr ne ↦ cut_other node_cmp_total node_cmp_exact old.uses.sessions peer q ne ∙ h q
      ∙ sym (ap (λ (o : Option End). cond (is_some o) (Some (record { 0 = raises_of ends.raises q })) None)
      (cut_other node_cmp_total node_cmp_exact ends.up peer q ne))
]

-- the trees after the loss of the session with the neighbour
abbrev pub lost : NodeId → Trees → Trees
lost peer old =
    record { uses = without peer old.uses; leaves = old.leaves; branches = sets.retain old.branches (λ branch. not (branch.node.0 == peer.0)) }

pub loss_tied : (old mid : Trees) (ends mid_ends : Ends) (peer : NodeId) → mid ≡ lost peer old → mid_ends ≡ without_end peer ends → AreTied old ends
    → AreTied mid mid_ends
loss_tied old mid ends mid_ends peer m e h =
    subst (λ (t : Trees). AreTied t mid_ends) (sym m) (subst (λ (x : Ends). AreTied (lost peer old) x) (sym e) (record {
      sessions = session_tied old ends peer h.sessions;
      spelled = record {
        leaves = h.spelled.leaves;
        branches =
            λ b t. h.spelled.branches b (first (sets.contains old.branches b) (not (b.node.0 == peer.0))
            (sym (retained branch_cmp_total branch_cmp_exact old.branches (λ branch. not (branch.node.0 == peer.0)) b) ∙ t));
        mapped = λ f l u m. h.spelled.mapped f l u (freed_was (part_of old ends.up) peer f l u m).0;
        few = subst (λ n. n ≤ 65536) (sym (length-map old.uses.labels (freed peer))) h.spelled.few;
      };
      apart = λ f l u m. h.apart f l u (freed_was (part_of old ends.up) peer f l u m).0;
    }))

-- a tree on which the node is, is one of its trees
on_one_of : (old : Trees) (up : FinMap node_cmp End) (f : Fec) → is_on_tree old f ≡ true → list_any (same_fec f) (trees (part_of old up)) ≡ true
on_one_of old up f t = true_from_ne_false (list_any (same_fec f) (trees (part_of old up))) (λ out.
    let none = absent (part_of old up) f out in
    not_both (is_on_tree old f) t (or_from (has_branch (part_of old up) f) (sets.contains old.leaves f) none.branches none.leaves))

pub loss_made : (core : Topology) (place : NodePlace) (now : ℕ) (old : Trees) (ends : Ends) (mid : Trees) (mid_ends : Ends) (fecs : List Fec)
    (puts : List Put) (peer : NodeId) (new : Trees) (new_ends : Ends)
    → mid ≡ lost peer old → mid_ends ≡ without_end peer ends → fecs ≡ trees_in old → puts ≡ []
    → Finished core place fecs mid mid_ends puts new new_ends → Made core place now (Noticed peer) old ends new new_ends
loss_made core place now old ends mid mid_ends fecs puts peer new new_ends m e t p h =
    made_of core place now (Noticed peer) old ends mid mid_ends puts fecs new new_ends
    (λ own i. (stepped_of (sym m i) (sym e i).up (sym p i), sym t i))
    (λ i. record { part = part_of old ends.up; raises = (sym e i).raises; waiting = (sym e i).waiting; spent = None })
    (waits_by core place (Noticed peer) old mid fecs (λ own waiting w. w) (ap (λ (x : Trees). x.uses.waiting) m)
    (λ f is. inr (ap (λ (xs : List Fec). list_any (same_fec f) xs) t ∙ on_one_of old ends.up f is)))
    (ap (λ (x : Trees). x.uses.life) m) h

-- ---- timers

-- the trees after the moment
abbrev pub awake : ℕ → Trees → Trees
awake now old = record old { uses = record old.uses { labels = map (woken now) old.uses.labels } }

woken_was : (now : ℕ) (labels : List LabelUse) (f : Fec) (l : ℕ) (u : NodeId) → use_in (map (woken now) labels) l ≡ Some (uses.Mapped f u)
    → use_in labels l ≡ Some (uses.Mapped f u)
woken_was now labels f l u m =
    let x = map_some (woken now) (use_in labels l) (uses.Mapped f u) (sym (used-map (woken now) labels l) ∙ m) in
    x.1 ∙ ap (λ (y : LabelUse). Some y) (woken_maps now x.0 f u x.2)

mapped_up : {A B : Type 0} (f : A → B) (o : Option A) → is_some (option_map f o) ≡ is_some o
mapped_up f None = refl
mapped_up f (Some x) = refl

pub timers_tied : (old mid : Trees) (ends mid_ends : Ends) (life now : ℕ) → mid ≡ awake now old
    → mid_ends ≡ record ends { up = holds_run life now ends.up } → AreTied old ends → AreTied mid mid_ends
timers_tied old mid ends mid_ends life now m e h =
    subst (λ (t : Trees). AreTied t mid_ends) (sym m) (subst (λ (x : Ends). AreTied (awake now old) x) (sym e) (record {
      sessions = λ q. h.sessions q ∙ ap (λ (t : Bool). cond t (Some (record { 0 = raises_of ends.raises q })) None)
          (sym (ap is_some (get-changed node_cmp_total node_cmp_exact (hold_run life now) ends.up q)
          ∙ mapped_up (hold_run life now) (maps.get ends.up q)));
      spelled = record {
        leaves = h.spelled.leaves;
        branches = h.spelled.branches;
        mapped = λ f l u m. h.spelled.mapped f l u (woken_was now old.uses.labels f l u m);
        few = subst (λ n. n ≤ 65536) (sym (length-map old.uses.labels (woken now))) h.spelled.few;
      };
      apart = λ f l u m. h.apart f l u (woken_was now old.uses.labels f l u m);
    }))

pub timers_made : (core : Topology) (place : NodePlace) (life now : ℕ) (old : Trees) (ends : Ends) (mid : Trees) (mid_ends : Ends) (fecs : List Fec)
    (puts : List Put) (new : Trees) (new_ends : Ends)
    → life ≡ place.life → mid ≡ awake now old → mid_ends ≡ record ends { up = holds_run life now ends.up }
    → fecs ≡ in_order (awaited old.uses.waiting) → puts ≡ []
    → Finished core place fecs mid mid_ends puts new new_ends → Made core place now Timers old ends new new_ends
timers_made core place life now old ends mid mid_ends fecs puts new new_ends of_place m e t p h =
    made_of core place now Timers old ends mid mid_ends puts fecs new new_ends
    (λ own. (λ i. (stepped_of (awake now old) (holds_run (sym of_place i) now ends.up) [], in_order (awaited old.uses.waiting)))
    ∙ λ i. (stepped_of (sym m i) (sym e i).up (sym p i), sym t i))
    (λ i. record { part = part_of old ends.up; raises = (sym e i).raises; waiting = (sym e i).waiting; spent = None })
    (subst (λ (x : Trees). Waits core place Timers old x fecs) (sym m)
    (waits_same core place Timers old (awake now old) fecs (λ own waiting w. w) refl (λ f. refl)))
    (ap (λ (x : Trees). x.uses.life) m) h

-- ---- next hops that changed

pub twice_more : (fecs : List Fec) (at : ℕ) (fec : Fec) (said once again : List Fec) → at < length fecs → fec ≡ get_or fecs at fec
    → once ≡ said ++ fec ∷ [] → again ≡ once ++ fec ∷ [] → said ++ twice (drop at fecs) ≡ twice fecs
    → again ++ twice (drop (at + 1) fecs) ≡ twice fecs
twice_more fecs at fec said once again within is e k h =
    ap (λ (xs : List Fec). xs ++ twice (drop (at + 1) fecs)) (k ∙ ap (λ (xs : List Fec). xs ++ fec ∷ []) e)
    ∙ append_assoc (said ++ fec ∷ []) (fec ∷ []) (twice (drop (at + 1) fecs)) ∙ append_assoc said (fec ∷ []) (fec ∷ twice (drop (at + 1) fecs))
    ∙ ap (λ (xs : List Fec). said ++ twice xs) (sym (drop_more fecs at fec within ∙ ap (λ (x : Fec). x ∷ drop (at + 1) fecs) (sym is))) ∙ h

or_again : (a b : Bool) → (a || (a || b)) ≡ (a || b)
or_again true b = refl
or_again false b = refl

any_twice : (f : Fec) (fecs : List Fec) → list_any (same_fec f) (twice fecs) ≡ list_any (same_fec f) fecs
any_twice f [] = refl
any_twice f (fec ∷ more) = or_again (same_fec f fec) (list_any (same_fec f) (twice more)) ∙ ap (λ (b : Bool). same_fec f fec || b) (any_twice f more)

pub reroute_made : (core : Topology) (place : NodePlace) (now : ℕ) (old : Trees) (ends : Ends) (fecs both : List Fec) (puts : List Put) (new : Trees)
    (new_ends : Ends)
    → fecs ≡ trees_in old → both ≡ twice fecs → puts ≡ [] → Finished core place both old ends puts new new_ends
    → Made core place now Rerouted old ends new new_ends
reroute_made core place now old ends fecs both puts new new_ends t b p h =
    let all : both ≡ twice (trees_in old) = b ∙ ap twice t in
    let one_of : (f : Fec) → is_on_tree old f ≡ true → list_any (same_fec f) both ≡ true =
    λ f is. ap (λ (xs : List Fec). list_any (same_fec f) xs) all ∙ any_twice f (trees_in old) ∙ on_one_of old ends.up f is in
    made_of core place now Rerouted old ends old ends puts both new new_ends
    (λ own i. (stepped_of old ends.up (sym p i), sym all i)) refl
    (record {
      still = refl;
      on = λ o f x g. inl (o f x g);
      toward = λ own o w f x g out. absurd (not_both (list_any (same_fec f) both) (one_of f (o f x g)) out);
    }) refl h
