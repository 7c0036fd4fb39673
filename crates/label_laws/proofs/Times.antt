-- Time passes, and timers are run.
use Rattle.std.proofs.Common.{◌≡◌, ℕ, ◌+◌, ◌≤◌, ◌&&◌, ◌||◌, not, nat_le, Bool, true, false, cond, inl, inr, refl, ap, ◌∙◌, List, [], ◌∷◌, filter, Option, Some, None, is_some, option_map, arith}
use Rattle.std.proofs.lemmas.Bool.{leb-true, or_left}
use Rattle.std.specs.List.{AllByRecursion}
use Rattle.mv_base.specs.declared.ids.NodeId.{NodeId}
use Rattle.mldp.specs.declared.mldp_fec.fec.Fec.{Fec}
use Rattle.mldp.specs.declared.mldp_msgs.message.LabelMessage.{LabelMessage}
use Rattle.label_defs.specs.declared.end.End.{End}
use Rattle.label_defs.specs.declared.label_use.LabelUse.{LabelUse}
use Rattle.label_defs.specs.LabelData.{use_of, is_hold_due}
use Rattle.label_defs.specs.Steps.{woken, hold_run, timed}
use Rattle.label_defs.proofs.UseLemmas.{used-map}
use Rattle.label_defs.proofs.TimerLemmas.{timed_end}
use Rattle.label_laws.specs.Network.{PacketCopy, LabelNetwork, place_of}
use Rattle.label_laws.specs.Acts.{with_copies}
use Rattle.label_laws.specs.Rule.{View, CopyOk, Covered, Rule, end_of, branch_trees, is_held, is_of_owner, is_release_of}
use Rattle.label_laws.proofs.Frames.{along_view, covered_along}
use Rattle.label_laws.proofs.Views.{same_view}
use Rattle.label_laws.proofs.NodeRule.{node_rule}
use Rattle.label_laws.proofs.Uses.{holds_along, woken_same, woken_stands, same_held}
use Rattle.label_laws.proofs.Trees.{fewer_trees}
use Rattle.label_laws.proofs.Ends.{with_node}

-- what is kept has Q
filter_on : {X : Type 0} (t : Bool) (Q : X → Type 0) (x : X) (ys : List X) → (t ≡ true → Q x) → AllByRecursion Q ys
    → AllByRecursion Q (cond t (x ∷ ys) ys)
filter_on true Q x ys h all = (h refl, all)
filter_on false Q x ys h all = all

pub each_filtered : {X : Type 0} (p : X → Bool) (P Q : X → Type 0) → ((x : X) → p x ≡ true → P x → Q x) → (xs : List X) → AllByRecursion P xs
    → AllByRecursion Q (filter p xs)
each_filtered p P Q h [] all = tt
each_filtered p P Q h (x ∷ xs) all = filter_on (p x) Q x (filter p xs) (λ e. h x e all.0) (each_filtered p P Q h xs all.1)

-- the clock goes on, and copies that have been on their link for too long are removed
abbrev pub ticked : LabelNetwork → ℕ → LabelNetwork
ticked w ticks =
    let moment = w.clock + ticks in
    let old = with_copies w (λ u n. filter (λ copy. nat_le moment (copy.put_at + w.life)) (w.direction u n).copies) in
    record old { clock = moment }

pub tick_rule : (w : LabelNetwork) (ticks : ℕ) → Rule w → Rule (ticked w ticks)
tick_rule w ticks rule =
    record {
      view = rule.view;
      session = λ u n j. let s = rule.session u n j in record { alike = s.alike; quiet = s.quiet; ends = s.ends };
      copies = λ u n j. each_filtered (λ (c : PacketCopy). nat_le (w.clock + ticks) (c.put_at + w.life))
          (CopyOk w.clock w.life w.vpn_of w.origin u (w.node n)) (CopyOk (w.clock + ticks) w.life w.vpn_of w.origin u (w.node n))
          (λ c e o. let past = o.past in
          record { past = omega (arith, past); young = leb-true (w.clock + ticks) (c.put_at + w.life) e; covered = o.covered })
          (w.direction u n).copies (rule.copies u n j);
      trees = rule.trees;
    }

-- ---- timers

still_held : (life now : ℕ) (o : Option End) → is_held o ≡ true → is_held (option_map (hold_run life now) o) ≡ true
still_held life now None e = absurd cc
still_held life now (Some end) e = or_left end.held (is_hold_due life now end) e

still_up : (life now : ℕ) (o : Option End) → is_some o ≡ true → is_some (option_map (hold_run life now) o) ≡ true
still_up life now None e = absurd cc
still_up life now (Some end) e = refl

near_hold : (u : NodeId) (l life now : ℕ) (live : Bool) (near far : Option End) (s : Option LabelUse) (ms bs : List LabelMessage) (o : Fec → Bool)
    → View u l live near far s ms bs o → View u l live (option_map (hold_run life now) near) far s ms bs o
near_hold u l life now live near far s ms bs o v =
    record {
      phase = v.phase;
      alone = λ f j e. elim (v.alone f j e) [ inl off ↦ inl (ap (option_map (hold_run life now)) off) | inr h ↦ inr h ];
      owner = λ f h. still_held life now near (v.owner f h);
      branch = v.branch;
    }

far_hold : (u : NodeId) (l life now : ℕ) (live : Bool) (near far : Option End) (s : Option LabelUse) (ms bs : List LabelMessage) (o : Fec → Bool)
    → View u l live near far s ms bs o → View u l live near (option_map (hold_run life now) far) s ms bs o
far_hold u l life now live near far s ms bs o v =
    record { phase = v.phase; alone = v.alone; owner = v.owner; branch = λ f e. still_up life now far (v.branch f e) }

-- while a hold was not run each copy is of before the raise; when it is due, these are gone
still_unheld : (held due : Bool) (now life raised t : ℕ) → nat_le (raised + life + 1) now ≡ due → held ≡ false → t ≤ raised → now ≤ t + life
    → (held || (not held && due)) ≡ false
still_unheld true due now life raised t e h before young = absurd cc
still_unheld false true now life raised t e h before young = let le = leb-true (raised + life + 1) now e in absurd (omega (arith, le, before, young))
still_unheld false false now life raised t e h before young = refl

hold_covered : (now life : ℕ) (vpn_of : Fec → ℕ) (u : NodeId) (vpn t : ℕ) (near : Option End) (s : Option LabelUse) → now ≤ t + life
    → Covered life vpn_of u near s vpn t → Covered life vpn_of u (option_map (hold_run life now) near) (option_map (woken now) s) vpn t
hold_covered now life vpn_of u vpn t near s young h =
    elim h [
      | inl off ↦ inl (ap (option_map (hold_run life now)) off)
      | inr x ↦ elim x [
        | inl y ↦ inr (inl (record {
          end = hold_run life now y.end;
          up = ap (option_map (hold_run life now)) y.up;
          since = y.since;
          unheld = still_unheld y.end.held (nat_le (y.end.raised + life + 1) now) now life y.end.raised t refl y.unheld y.since young;
        }))
        | inr st ↦ inr (inr (woken_stands life vpn_of u vpn t now s young st))
      ]
    ]

pub timed_rule : (w : LabelNetwork) (b : NodeId) → Rule w → Rule (with_node w b (timed (place_of w b) w.clock (w.node b)))
timed_rule w b rule =
    let place = place_of w b in
    let part = w.node b in
    let d = timed place w.clock part in
    let transit : NodeId → NodeId → List LabelMessage = λ u n. (w.direction u n).transit in
    let ends : (u : NodeId) → end_of d u ≡ option_map (hold_run w.life w.clock) (end_of part u) = λ u. timed_end place w.clock part u in
    let use_is : (l : ℕ) → use_of d l ≡ option_map (woken w.clock) (use_of part l) = λ l. used-map (woken w.clock) part.labels l in
    node_rule w b d transit (record {
      owner = λ u l ne v. along_view refl (ends u) refl (use_is l) refl refl refl
          (near_hold u l w.life w.clock (w.direction u b).joined (end_of part u) (end_of (w.node u) b) (option_map (woken w.clock) (use_of part l))
          (filter (is_of_owner l) (transit b u)) (filter (is_release_of l) (transit u b)) (branch_trees (w.node u) b l)
          (same_view u l (w.direction u b).joined (end_of part u) (end_of (w.node u) b) (use_of part l) (option_map (woken w.clock) (use_of part l))
          (filter (is_of_owner l) (transit b u)) (filter (is_release_of l) (transit u b)) (branch_trees (w.node u) b l)
          (woken_same u w.clock (use_of part l)) v));
      branch = λ n l ne v. along_view refl refl (ends n) refl refl refl refl
          (far_hold b l w.life w.clock (w.direction b n).joined (end_of (w.node n) b) (end_of part n) (use_of (w.node n) l)
          (filter (is_of_owner l) (transit n b)) (filter (is_release_of l) (transit b n)) (branch_trees part n l) v);
      others = λ u n p q. refl;
      quiet = λ u n j off e. e;
      ends = λ n ne up. ap is_some (ends n) ∙ still_up w.life w.clock (end_of part n) ((rule.session b n ne).ends up);
      covered =
          λ u l vpn t ne past young h. covered_along w.life w.vpn_of u vpn t (option_map (hold_run w.life w.clock) (end_of part u)) (end_of d u)
          (option_map (woken w.clock) (use_of part l)) (use_of d l) (ends u) (use_is l)
          (hold_covered w.clock w.life w.vpn_of u vpn t (end_of part u) (use_of part l) young h);
      trees = fewer_trees w.is_tree part d (λ f h. h) (λ x h. h)
          (λ l f u h. same_held u f (use_of part l) (option_map (woken w.clock) (use_of part l)) (woken_same u w.clock (use_of part l))
          (holds_along f u (use_of d l) (option_map (woken w.clock) (use_of part l)) (use_is l) h)) (rule.trees b);
    }) rule
