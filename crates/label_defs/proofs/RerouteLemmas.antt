-- Where next hops changed, each tree settles by two turns: its label leaves the old neighbour, and another is mapped to the new one.
use Rattle.std.proofs.Common.{◌≡◌, ◌≢◌, ◌↔◌, ℕ, ◌+◌, ◌<◌, Bool, true, false, not, cond, ◌&&◌, ◌||◌, ◌++◌, ◌⊎◌, inl, inr, List, [], ◌∷◌, count_by, Option, Some, None, is_some, refl, sym, ap, subst, ◌∙◌, arith}
use Rattle.std.specs.List.{list_any}
use Rattle.std.specs.FinSet as sets
use Rattle.std.proofs.lemmas.Bool.{and_left, and_from, and_parts, or_left, or_from, true_from_ne_false}
use Rattle.std.proofs.lemmas.List.{append_assoc}
use Rattle.std.proofs.lemmas.Option.{same_Some, none-some}
use Rattle.mldp.specs.mv_base.Number.{◌>>?◌}
use Rattle.mldp.specs.mv_base.declared.ids.NodeId.{NodeId}
use Rattle.mldp.specs.declared.mldp_fec.fec.Fec.{Fec}
use Rattle.label_defs.specs.declared.label_use.LabelUse.{LabelUse}
use Rattle.label_defs.specs.declared.label_use.LabelUse.TheVariants as uses
use Rattle.label_defs.specs.declared.put.Put.{Put}
use Rattle.label_defs.specs.Keys.{fec_cmp}
use Rattle.label_defs.specs.LabelData.{Place, LabelData, same_fec, use_of, is_free, mapped_label, has_branch, has_tree, is_ready, trees}
use Rattle.label_defs.specs.Settling.{Stepped, with_use, upstream_of, holder_of, same_neighbour, is_ready_to, change_of, changed, put_by, settle_all}
use Rattle.label_defs.specs.Steps.{Rerouted, twice, counted, label_step}
use Rattle.label_defs.specs.Settled.{Maps, Settled, AllSettled}
use Rattle.label_defs.specs.Laws.{needs_label, needs_new_label, passing, withdraw_to, mapping_to, WithdrawnThen, MovedThen}
use Rattle.label_defs.proofs.KeyLemmas.{fec_cases, fec_apart, same_fec_itself}
use Rattle.label_defs.proofs.UseLemmas.{used, set_here, map_some, mapped_none, mapped_some}
use Rattle.label_defs.proofs.TreeLemmas.{not_both, one_tree, same_ready, holder, neighbours_equal, withdraw_none, Beside, beside_settled, After, step_after, Loose, loose, beside_loose, Begun, step_begun}
use Rattle.label_defs.proofs.SettleLemmas.{bind_some}
use Rattle.label_defs.proofs.LossLemmas.{absent}
use Rattle.label_defs.proofs.TurnLemmas.{Turn, Quiet, Takes, Gives, Off, turn, settle_all_keeps, has_hop, has_label}
use Rattle.label_defs.proofs.OwnLemmas.{rest_tree, rest_ready}
use Rattle.label_defs.proofs.CountLemmas.{Distinct, distinct_in_order, contains-passing, has_member, fewer}
use Rattle.label_defs.proofs.LackLemmas.{stuck, none_free, needs_as, is_mapped_by, turn_count, SameMaps}
use Rattle.label_defs.proofs.StepLemmas.{counted_settled}
use Rattle.label_defs.proofs.RestLemmas.{turn_stays}
use Rattle.label_defs.proofs.TakenLemmas.{stays_mapped}
use Rattle.label_defs.proofs.WithdrawLemmas.{mapped_then}

pub trees_once : (part : LabelData) → Distinct (trees part)
trees_once part = distinct_in_order _

-- ---- two turns of a tree

record TwoTurns (place : Place) (fec : Fec) (more : List Fec) (old new : Stepped) : Type 0 where
  mid : LabelData
  next : LabelData
  first : changed old.part fec (change_of place old.part fec) ≡ Some mid
  second : changed mid fec (change_of place mid fec) ≡ Some next
  begun : Begun place old.part fec mid
  after : After place mid fec next
  rest : settle_all place more (record {
    part = next;
    puts =
        (old.puts ++ put_by fec (change_of place old.part fec)) ++ put_by fec (change_of place mid fec);
  }) ≡ Some new

two_turns : (place : Place) (fec : Fec) (more : List Fec) (old new : Stepped) → Loose old.part fec
    → settle_all place (fec ∷ fec ∷ more) old ≡ Some new → TwoTurns place fec more old new
two_turns place fec more old new l e =
    let put = put_by fec (change_of place old.part fec) in
    let x = bind_some (changed old.part fec (change_of place old.part fec))
    (λ mid. settle_all place (fec ∷ more) (record { part = mid; puts = old.puts ++ put })) new e in
    let y = bind_some (changed x.0 fec (change_of place x.0 fec))
    (λ next. settle_all place more (record { part = next; puts = (old.puts ++ put) ++ put_by fec (change_of place x.0 fec) })) new x.2 in
    let begun = step_begun place old.part fec x.0 l x.1 in
    record { mid = x.0; next = y.0; first = x.1; second = y.1; begun = begun; after = step_after place x.0 fec y.0 begun.here y.1; rest = y.2 }

-- two changes that leave a tree as it was
module _ (place : Place) (old mid next : LabelData) (fec : Fec) (begun : Begun place old fec mid) (after : After place mid fec next) where
  pub all_loose : ((other : Fec) → Loose old other) → (other : Fec) → Loose next other
  all_loose all other = elim (fec_cases other fec) [
    | inl e ↦ subst (Loose next) (sym e) (loose place next fec after.done)
    | inr ne ↦ beside_loose mid next other (after.others other ne) (beside_loose old mid other (begun.others other ne) (all other))
  ]

  pub more_settled : (more : List Fec) → ((other : Fec) → list_any (same_fec other) (fec ∷ more) ≡ false → Settled place old other) → (other : Fec)
      → list_any (same_fec other) more ≡ false → Settled place next other
  more_settled more settled other h = elim (fec_cases other fec) [
    | inl e ↦ subst (Settled place next) (sym e) after.done
    | inr ne ↦ beside_settled place mid next other (after.others other ne) (beside_settled place old mid other (begun.others other ne)
        (settled other (ap (λ b. b || list_any (same_fec other) more) (fec_apart other fec ne) ∙ h)))
  ]

moves_settle : (place : Place) (fecs : List Fec) (old new : Stepped) → ((fec : Fec) → Loose old.part fec)
    → ((fec : Fec) → list_any (same_fec fec) fecs ≡ false → Settled place old.part fec)
    → settle_all place (twice fecs) old ≡ Some new → AllSettled place new.part
moves_settle place [] old new all settled e = λ fec. subst (λ (s : Stepped). Settled place s.part fec) (same_Some old new e) (settled fec refl)
moves_settle place (fec ∷ more) old new all settled e =
    let t = two_turns place fec (twice more) old new (all fec) e in
    moves_settle place more (record {
      part = t.next;
      puts =
          (old.puts ++ put_by fec (change_of place old.part fec)) ++ put_by fec (change_of place t.mid fec);
    }) new
    (all_loose place old.part t.mid t.next fec t.begun t.after all) (more_settled place old.part t.mid t.next fec t.begun t.after more settled) t.rest

-- a tree that the node does not have is settled by any next hops
foreign_settled : (old place : Place) (part : LabelData) (fec : Fec) → Settled old part fec → list_any (same_fec fec) (trees part) ≡ false
    → Settled place part fec
foreign_settled old place part fec s h =
    let a = absent part fec h in
    let off : has_tree part fec ≡ false = or_from (has_branch part fec) (sets.contains part.leaves fec) a.branches a.leaves in
    record {
      one = s.one;
      toward = λ i u p. absurd (a.none i u p);
      needed = s.needed;
      mapped = λ u tree e r. absurd (not_both (has_tree part fec) tree off);
      waiting = s.waiting ∙ and_left (has_tree part fec) _ off ∙ sym (and_left (has_tree part fec) _ off);
    }

pub rerouted_settled : (old place : Place) (now : ℕ) (part : LabelData) (new : Stepped) → AllSettled old part
    → label_step place now part Rerouted ≡ Some new → AllSettled place new.part
rerouted_settled old place now part new all e fec =
    let start : Stepped = record { part = part; puts = [] } in
    let x = map_some counted (settle_all place (twice (trees part)) start) new e in
    let settled =
    moves_settle place (trees part) start x.0 (λ own. loose old part own (all own)) (λ own h. foreign_settled old place part own (all own) h) x.1
    in
    subst (λ (s : Stepped). Settled place s.part fec) x.2 (counted_settled place x.0 fec (settled fec))

-- ---- a tree that moves leaves its old neighbour

pub moved_leaves : (old place : Place) (now : ℕ) (part : LabelData) (new : Stepped) (fec : Fec) (label : ℕ) (old_hop : NodeId) → AllSettled old part
    → label_step place now part Rerouted ≡ Some new
    → Maps part fec label old_hop → place.upstream fec ≢ Some old_hop → WithdrawnThen new.part new.puts fec old_hop label
moved_leaves old place now part new fec label old_hop all e is away = elim (mapped_then place now part Rerouted new label fec old_hop e is) [
  | inl (inl still) ↦ (let x = (rerouted_settled old place now part new all e fec).toward label old_hop still in absurd (away x.0))
  | inl (inr gone) ↦ gone
  | inr loss ↦ absurd cc
]

-- ---- and is mapped to the new one

-- after the turn in which the label leaves, none is mapped
none_left : (place : Place) (old : LabelData) (fec : Fec) (mid : LabelData) (puts : List Put) → Loose old fec → Gives place old fec mid puts
    → (label : ℕ) (u : NodeId) → Maps mid fec label u → ⊥
none_left place old fec mid puts l w label u is =
    withdraw_none old fec w.to w.label w.was l.one label u (sym (ap (λ (labels : List LabelUse). used labels label) w.labels) ∙ is)

unmapped : (part : LabelData) (fec : Fec) → ((label : ℕ) (u : NodeId) → Maps part fec label u → ⊥) → mapped_label part fec ≡ None
unmapped part fec none = by (mapped_label part fec) refl
  where
    by : (o : Option ℕ) → mapped_label part fec ≡ o → o ≡ None
    by None e = refl
    by (Some label) e = (let x = mapped_some part fec label e in absurd (none label x.0 x.1))

record Moved (part : LabelData) (puts : List Put) (fec : Fec) (old_hop new_hop : NodeId) (label : ℕ) : Type 0 where
  tree : has_tree part fec ≡ true
  moved : MovedThen part puts fec old_hop new_hop label

moved_turn : (place : Place) (own : Fec) (old_hop new_hop : NodeId) (label : ℕ) → place.upstream own ≡ Some new_hop
    → (old : LabelData) (puts : List Put) (fec : Fec) (next : LabelData) (more : List Put) → Turn place old fec next more
    → Moved old puts own old_hop new_hop label → Moved next (puts ++ more) own old_hop new_hop label
moved_turn place own old_hop new_hop label toward old puts fec next more t x =
    let m = x.moved in
    record {
      tree = rest_tree old next t.rest own ∙ x.tree;
      moved = record {
        taken = m.taken;
        before = m.before;
        thereafter = m.thereafter ++ more;
        maps = stays_mapped place old fec next more t m.taken own new_hop x.tree toward m.maps;
        leaves = turn_stays place old fec next more t label (uses.Leaving own old_hop) (λ h. absurd cc) (λ f u h. absurd cc) m.leaves;
        put = ap (λ (ps : List Put). ps ++ more) m.put
            ∙ append_assoc m.before (withdraw_to old_hop own label ∷ mapping_to new_hop own m.taken ∷ m.thereafter) more;
      };
    }

-- the two turns in which the tree moves
module _ (place : Place) (old : LabelData) (fec : Fec) (mid next : LabelData) (puts first second : List Put) (l : Loose old fec)
    (begun : Begun place old fec mid)
    (t : Turn place old fec mid first) (s : Turn place mid fec next second)
    (label : ℕ) (old_hop new_hop : NodeId) (is : Maps old fec label old_hop) (apart : old_hop ≢ new_hop) (toward : place.upstream fec ≡ Some new_hop)
    (ready : is_ready old new_hop ≡ true) where
  not_quiet : Quiet place old fec mid first → ⊥
  not_quiet q =
      let still : Maps mid fec label old_hop = ap (λ (labels : List LabelUse). used labels label) q.labels ∙ is in
      apart (same_Some old_hop new_hop (sym (begun.here.toward label old_hop still).0 ∙ toward))

  on_mid : has_tree mid fec ≡ true
  on_mid = rest_tree old mid t.rest fec ∙ l.needed label old_hop is

  not_again : Gives place old fec mid first → Quiet place mid fec next second → ⊥
  not_again w q =
      let none = unmapped mid fec (none_left place old fec mid first l w) in
      let need : needs_label place mid fec ≡ true =
      and_from (has_tree mid fec) (not (is_some (mapped_label mid fec)) && is_ready_to mid (place.upstream fec)) on_mid
      (and_from (not (is_some (mapped_label mid fec))) (is_ready_to mid (place.upstream fec)) (ap (λ (o : Option ℕ). not (is_some o)) none)
      (ap (is_ready_to mid) toward ∙ rest_ready old mid t.rest new_hop ∙ ready)) in
      not_both (needs_label place mid fec) need q.content

  both : Gives place old fec mid first → Takes place mid fec next second → Moved next ((puts ++ first) ++ second) fec old_hop new_hop label
  both w m =
      let same = l.one w.label label w.to old_hop w.was is in
      let hops = one_tree fec fec w.to old_hop (same_Some (uses.Mapped fec w.to) (uses.Mapped fec old_hop) (sym w.was ∙ ap (use_of old) same ∙ is)) in
      let hop : m.to ≡ new_hop = same_Some m.to new_hop (sym m.toward ∙ toward) in
      let gone : use_of mid label ≡ Some (uses.Leaving fec old_hop) =
      ap (λ (labels : List LabelUse). used labels label) w.labels ∙ ap (use_of (with_use old w.label (uses.Leaving fec w.to))) (sym same)
      ∙ set_here old w.label (uses.Mapped fec w.to) (uses.Leaving fec w.to) w.was
      ∙ ap (λ (u : NodeId). Some (uses.Leaving fec u)) hops.1 in
      record {
        tree = rest_tree mid next s.rest fec ∙ on_mid;
        moved = record {
          taken = m.label;
          before = puts;
          thereafter = [];
          maps = ap (λ (labels : List LabelUse). used labels m.label) m.labels ∙ set_here mid m.label uses.Free (uses.Mapped fec m.to) m.least.free
              ∙ ap (λ (u : NodeId). Some (uses.Mapped fec u)) hop;
          leaves = turn_stays place mid fec next second s label (uses.Leaving fec old_hop) (λ h. absurd cc) (λ f u h. absurd cc) gone;
          put = (λ i. (puts ++ w.put i) ++ m.put i) ∙ append_assoc puts (withdraw_to w.to fec w.label ∷ []) (mapping_to m.to fec m.label ∷ [])
              ∙ (λ i. puts ++ withdraw_to (hops.1 i) fec (same i) ∷ mapping_to (hop i) fec m.label ∷ []);
        };
      }

  moved_by_two : Moved next ((puts ++ first) ++ second) fec old_hop new_hop label
  moved_by_two = elim t.how [
    | inl q ↦ absurd (not_quiet q)
    | inr (inl m) ↦ absurd (mapped_none old fec m.unmapped label old_hop is)
    | inr (inr w) ↦ elim s.how [
      | inl q ↦ absurd (not_again w q)
      | inr (inl m) ↦ both w m
      | inr (inr v) ↦ absurd (none_left place old fec mid first l w v.label v.to v.was)
    ]
  ]

moves_map : (place : Place) (fec : Fec) (label : ℕ) (old_hop new_hop : NodeId) → old_hop ≢ new_hop → place.upstream fec ≡ Some new_hop
    → (fecs : List Fec) (old new : Stepped) → ((other : Fec) → Loose old.part other) → list_any (same_fec fec) fecs ≡ true
    → Maps old.part fec label old_hop → is_ready old.part new_hop ≡ true
    → settle_all place (twice fecs) old ≡ Some new → Moved new.part new.puts fec old_hop new_hop label
moves_map place fec label old_hop new_hop apart toward [] old new all listed is ready e = absurd cc
moves_map place fec label old_hop new_hop apart toward (head ∷ more) old new all listed is ready e =
    let t = two_turns place head (twice more) old new (all head) e in
    let first = put_by head (change_of place old.part head) in
    let second = put_by head (change_of place t.mid head) in
    let next : Stepped = record { part = t.next; puts = (old.puts ++ first) ++ second } in
    elim (fec_cases head fec) [
      | inl same ↦
          let moved : Moved t.next ((old.puts ++ first) ++ second) head old_hop new_hop label =
          moved_by_two place old.part head t.mid t.next old.puts first second (all head) t.begun (turn place old.part head t.mid t.first)
          (turn place t.mid head t.next t.second)
          label old_hop new_hop (subst (λ (f : Fec). Maps old.part f label old_hop) (sym same) is) apart (ap place.upstream same ∙ toward) ready in
          settle_all_keeps place (λ p puts. Moved p puts fec old_hop new_hop label) (moved_turn place fec old_hop new_hop label toward) (twice more)
          next new
          (subst (λ (f : Fec). Moved t.next ((old.puts ++ first) ++ second) f old_hop new_hop label) same moved) t.rest
      | inr ne ↦
          let away : fec ≡ head → ⊥ = λ h. ne (sym h) in
          let begun = t.begun.others fec away in
          let after = t.after.others fec away in
          moves_map place fec label old_hop new_hop apart toward more next new (all_loose place old.part t.mid t.next head t.begun t.after all)
          (sym (ap (λ b. b || list_any (same_fec fec) more) (fec_apart fec head away)) ∙ listed)
          (after.back label old_hop (begun.back label old_hop is)) (after.like.ready new_hop ∙ begun.like.ready new_hop ∙ ready) t.rest
    ]

pub moved_maps : (old place : Place) (now : ℕ) (part : LabelData) (new : Stepped) (fec : Fec) (label : ℕ) (old_hop new_hop : NodeId)
    → AllSettled old part → label_step place now part Rerouted ≡ Some new
    → Maps part fec label old_hop → old_hop ≢ new_hop → place.upstream fec ≡ Some new_hop → is_ready part new_hop ≡ true
    → MovedThen new.part new.puts fec old_hop new_hop label
moved_maps old place now part new fec label old_hop new_hop all e is apart toward ready =
    let start : Stepped = record { part = part; puts = [] } in
    let x = map_some counted (settle_all place (twice (trees part)) start) new e in
    let listed : list_any (same_fec fec) (trees part) ≡ true =
    true_from_ne_false (list_any (same_fec fec) (trees part)) (λ h. (absent part fec h).none label old_hop is) in
    let moved =
    (moves_map place fec label old_hop new_hop apart toward (trees part) start x.0 (λ own. loose old part own (all own)) listed is ready
    x.1).moved in
    subst (λ (s : Stepped). MovedThen s.part s.puts fec old_hop new_hop label) x.2
    (record { taken = moved.taken; before = moved.before; thereafter = moved.thereafter; maps = moved.maps; leaves = moved.leaves; put = moved.put })

-- ---- where labels are lacking

holder_cases : (part : LabelData) (fec : Fec)
    → ((holder_of part fec ≡ None) × ((label : ℕ) (u : NodeId) → Maps part fec label u → ⊥))
    ⊎ ((label : ℕ) × (u : NodeId) × Maps part fec label u × (holder_of part fec ≡ Some u))
holder_cases part fec = by (mapped_label part fec) refl
  where
    by : (o : Option ℕ) → mapped_label part fec ≡ o
        → ((holder_of part fec ≡ None) × ((label : ℕ) (u : NodeId) → Maps part fec label u → ⊥))
        ⊎ ((label : ℕ) × (u : NodeId) × Maps part fec label u × (holder_of part fec ≡ Some u))
    by None e = inl (ap (λ (o : Option ℕ). o >>? λ label. upstream_of (use_of part label)) e, mapped_none part fec e)
    by (Some l) e =
        (let x = mapped_some part fec l e in
        inr (l, x.0, x.1, ap (λ (o : Option ℕ). o >>? λ label. upstream_of (use_of part label)) e ∙ holder part fec l x.0 x.1))

holder_one : (part : LabelData) (fec : Fec) (label : ℕ) (u : NodeId) → Loose part fec → Maps part fec label u → holder_of part fec ≡ Some u
holder_one part fec label u l is = elim (holder_cases part fec) [
  | inl none ↦ absurd (none.1 label u is)
  | inr x ↦
      let same = l.one x.0 label x.1 u x.2 is in
      let hops = one_tree fec fec x.1 u (same_Some (uses.Mapped fec x.1) (uses.Mapped fec u) (sym x.2 ∙ ap (use_of part) same ∙ is)) in
      x.3 ∙ ap (λ (v : NodeId). Some v) hops.1
]

same_holder : (old new : LabelData) (fec : Fec) → Loose old fec → Beside old new fec → holder_of new fec ≡ holder_of old fec
same_holder old new fec l b = elim (holder_cases old fec) [
  | inr x ↦ holder_one new fec x.0 x.1 (beside_loose old new fec b l) (b.back x.0 x.1 x.2) ∙ sym x.3
  | inl none ↦ elim (holder_cases new fec) [
    | inl also ↦ also.0 ∙ sym none.0
    | inr x ↦ absurd (none.1 x.0 x.1 (b.like.maps x.0 x.1 x.2))
  ]
]

hops_as : (place : Place) (old new : LabelData) (fec : Fec) → Loose old fec → Beside old new fec
    → needs_new_label place new fec ≡ needs_new_label place old fec
hops_as place old new fec l b =
    λ i. b.tree i && (not (same_neighbour (same_holder old new fec l b i) (place.upstream fec))
    && same_ready old new b.like.ready (place.upstream fec) i)

-- a tree that has no label needs one by any next hops
needs_then_new : (place : Place) (part : LabelData) (fec : Fec) → needs_label place part fec ≡ true → needs_new_label place part fec ≡ true
needs_then_new place part fec need =
    let x = and_parts (has_tree part fec) (not (is_some (mapped_label part fec)) && is_ready_to part (place.upstream fec)) need in
    let y = and_parts (not (is_some (mapped_label part fec))) (is_ready_to part (place.upstream fec)) x.1 in
    and_from (has_tree part fec) (not (same_neighbour (holder_of part fec) (place.upstream fec)) && is_ready_to part (place.upstream fec)) x.0
    (and_from (not (same_neighbour (holder_of part fec) (place.upstream fec))) (is_ready_to part (place.upstream fec))
    (by (mapped_label part fec) (place.upstream fec) y.0 y.1) y.1)
  where
    by : (o : Option ℕ) (up : Option NodeId) → not (is_some o) ≡ true → is_ready_to part up ≡ true
        → not (same_neighbour (o >>? λ label. upstream_of (use_of part label)) up) ≡ true
    by None (Some u) e r = refl
    by None None e r = absurd cc
    by (Some label) up e r = absurd cc

nothing_more : (n : ℕ) → 0 + n ≡ n
nothing_more n = omega arith

-- two turns take one label exactly where the tree needs one by the new next hops
one_label : (place : Place) (old : LabelData) (fec : Fec) (mid : LabelData) (puts : List Put) → Loose old fec → Turn place old fec mid puts
    → cond {A = ℕ} (needs_label place old fec) 1 0 + cond (needs_label place mid fec) 1 0 ≡ cond (needs_new_label place old fec) 1 0
one_label place old fec mid puts l t = elim t.how [
  | inl q ↦
      let same : SameMaps old mid fec =
      record {
        back = λ k u p. sym (ap (λ (labels : List LabelUse). used labels k) q.labels) ∙ p;
        on =
            λ k u p. ap (λ (labels : List LabelUse). used labels k) q.labels ∙ p;
      } in
      let still = needs_as place old mid fec t.rest same ∙ q.content in
      (λ i. cond {A = ℕ} (q.content i) 1 0 + cond (still i) 1 0) ∙ sym (λ i. cond {A = ℕ} (q.at_hop i) 1 0)
  | inr (inl m) ↦
      let need : needs_label place old fec ≡ true =
      and_from (has_tree old fec) (not (is_some (mapped_label old fec)) && is_ready_to old (place.upstream fec)) m.tree
      (and_from (not (is_some (mapped_label old fec))) (is_ready_to old (place.upstream fec)) (ap (λ (o : Option ℕ). not (is_some o)) m.unmapped)
      (ap (is_ready_to old) m.toward ∙ m.ready)) in
      let has =
      is_mapped_by mid fec m.label m.to (ap (λ (labels : List LabelUse). used labels m.label) m.labels
      ∙ set_here old m.label uses.Free (uses.Mapped fec m.to) m.least.free) in
      let no_more = has_hop (has_tree mid fec) (is_some (mapped_label mid fec)) (is_ready_to mid (place.upstream fec)) has in
      (λ i. cond {A = ℕ} (need i) 1 0 + cond (no_more i) 1 0) ∙ sym (λ i. cond {A = ℕ} (needs_then_new place old fec need i) 1 0)
  | inr (inr w) ↦
      let content = has_label (has_tree old fec) (mapped_label old fec) w.label (is_ready_to old (place.upstream fec)) w.first in
      let none = unmapped mid fec (none_left place old fec mid puts l w) in
      let then : needs_label place mid fec ≡ (has_tree old fec && is_ready_to old (place.upstream fec)) =
      λ i. rest_tree old mid t.rest fec i && (not (is_some (none i)) && same_ready old mid (rest_ready old mid t.rest) (place.upstream fec) i) in
      let holds = holder_one old fec w.label w.to l w.was in
      (λ i. cond {A = ℕ} (content i) 1 0 + cond (then i) 1 0)
      ∙ nothing_more (cond {A = ℕ} (has_tree old fec && is_ready_to old (place.upstream fec)) 1 0)
      ∙ ap (λ b. cond {A = ℕ} b 1 0) (by w.off (same_neighbour (Some w.to) (place.upstream fec))
      (ap (λ o. same_neighbour o (place.upstream fec)) holds) refl)
]
  where
    by : {to : NodeId} → Off place old fec to → (s : Bool) → same_neighbour (holder_of old fec) (place.upstream fec) ≡ s
        → same_neighbour (Some to) (place.upstream fec) ≡ s
        → (has_tree old fec && is_ready_to old (place.upstream fec))
        ≡ (has_tree old fec && (not (same_neighbour (holder_of old fec) (place.upstream fec)) && is_ready_to old (place.upstream fec)))
    by (inl off) s e h = and_left (has_tree old fec) _ off ∙ sym (and_left (has_tree old fec) _ off)
    by (inr away) false e h = sym (ap (λ b. has_tree old fec && (not b && is_ready_to old (place.upstream fec))) e)
    by (inr away) true e h = absurd (away (sym (neighbours_equal _ (place.upstream fec) h)))

abbrev lacks_new : Place → List Fec → LabelData → Type 0
lacks_new place fecs part = count_by is_free part.labels < sets.len (passing (needs_new_label place part) fecs)

pub none_moves : (place : Place) (fecs : List Fec) (old : Stepped) → Distinct fecs → ((fec : Fec) → Loose old.part fec)
    → (settle_all place (twice fecs) old ≡ None) ↔ lacks_new place fecs old.part
none_moves place [] old once all =
    (λ e. absurd (none-some old (sym e)), λ lt. (let none = sets.len-empty fec_cmp in absurd (omega (arith, lt, none))))
none_moves place (fec ∷ more) old once all =
    by (λ next puts loose. none_moves place more (record { part = next; puts = puts }) once.1 loose)
    (changed old.part fec (change_of place old.part fec)) refl
  where
    first : List Put
    first = put_by fec (change_of place old.part fec)

    listed : needs_new_label place old.part fec ≡ true → 0 < sets.len (passing (needs_new_label place old.part) (fec ∷ more))
    listed need =
        has_member (passing (needs_new_label place old.part) (fec ∷ more)) fec (contains-passing (needs_new_label place old.part) fec (fec ∷ more)
        ∙ and_from (needs_new_label place old.part fec) (list_any (same_fec fec) (fec ∷ more)) need
        (or_left (same_fec fec fec) (list_any (same_fec fec) more) (same_fec_itself fec)))

    thereafter : (mid : LabelData) → changed old.part fec (change_of place old.part fec) ≡ Some mid
        → ((next : LabelData) (puts : List Put) → ((other : Fec) → Loose next other)
        → (settle_all place (twice more) (record { part = next; puts = puts }) ≡ None) ↔ lacks_new place more next)
        → (o : Option LabelData) → changed mid fec (change_of place mid fec) ≡ o
        → ((o >>? λ next. settle_all place (twice more) (record { part = next; puts = (old.puts ++ first) ++ put_by fec (change_of place mid fec) }))
        ≡ None) ↔ lacks_new place (fec ∷ more) old.part
    thereafter mid e rest None h =
        let t = turn place old.part fec mid e in
        let s = stuck place mid fec h in
        let zero_free = none_free mid s.none in
        let count = turn_count place old.part fec mid first t in
        let one = one_label place old.part fec mid first (all fec) t in
        let need : cond {A = ℕ} (needs_label place mid fec) 1 0 ≡ 1 = ap (λ b. cond {A = ℕ} b 1 0) s.need in
        (λ x. lacking zero_free count one need (needs_new_label place old.part fec) refl, λ x. refl)
      where
        lacking : count_by is_free mid.labels ≡ 0 → count_by is_free mid.labels + cond (needs_label place old.part fec) 1 0
            ≡ count_by is_free old.part.labels
            → cond {A = ℕ} (needs_label place old.part fec) 1 0 + cond (needs_label place mid fec) 1 0 ≡ cond (needs_new_label place old.part fec) 1 0
            → cond {A = ℕ} (needs_label place mid fec) 1 0 ≡ 1
            → (t : Bool) → needs_new_label place old.part fec ≡ t → lacks_new place (fec ∷ more) old.part
        lacking z c o n true is =
            (let some = listed is in let top : cond {A = ℕ} (needs_new_label place old.part fec) 1 0 ≡ 1 = ap (λ b. cond {A = ℕ} b 1 0) is in
            omega (arith, z, c, o, n, some, top))
        lacking z c o n false is =
            (let top : cond {A = ℕ} (needs_new_label place old.part fec) 1 0 ≡ 0 = ap (λ b. cond {A = ℕ} b 1 0) is in
            absurd (omega (arith, o, n, top)))
    thereafter mid e rest (Some next) h =
        let t = turn place old.part fec mid e in
        let s = turn place mid fec next h in
        let begun = step_begun place old.part fec mid (all fec) e in
        let after = step_after place mid fec next begun.here h in
        let count = turn_count place old.part fec mid first t in
        let again = turn_count place mid fec next (put_by fec (change_of place mid fec)) s in
        let one = one_label place old.part fec mid first (all fec) t in
        let len = fewer (needs_new_label place old.part) (needs_new_label place next) fec more once.0 (λ other ne.
        hops_as place mid next other (beside_loose old.part mid other (begun.others other ne) (all other)) (after.others other ne)
        ∙ hops_as place old.part mid other (all other) (begun.others other ne)) in
        let r = rest next ((old.puts ++ first) ++ put_by fec (change_of place mid fec)) (all_loose place old.part mid next fec begun after all) in
        (λ x. (let lt = r.0 x in omega (arith, count, again, one, len, lt)), λ lt. r.1 (omega (arith, count, again, one, len, lt)))

    by : ((next : LabelData) (puts : List Put) → ((other : Fec) → Loose next other)
        → (settle_all place (twice more) (record { part = next; puts = puts }) ≡ None) ↔ lacks_new place more next)
        → (o : Option LabelData) → changed old.part fec (change_of place old.part fec) ≡ o
        → ((o >>? λ mid. settle_all place (fec ∷ twice more) (record { part = mid; puts = old.puts ++ first })) ≡ None) ↔ lacks_new place (fec ∷ more)
        old.part
    by rest None e =
        let s = stuck place old.part fec e in
        let zero_free = none_free old.part s.none in
        let some = listed (needs_then_new place old.part fec s.need) in
        (λ h. omega (arith, zero_free, some), λ h. refl)
    by rest (Some mid) e = thereafter mid e rest (changed mid fec (change_of place mid fec)) refl
