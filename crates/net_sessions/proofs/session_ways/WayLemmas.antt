-- Facts about the directions that lead away from nodes.
use Rattle.std.proofs.Common.{◌≡◌, ℕ, ◌+◌, zero, suc, Bool, true, false, cond, eqb, eq-eqb, List, [], ◌∷◌, ◌++◌, map, flat_map, refl, sym, ap, ◌∙◌, arith}
use Rattle.std.proofs.lemmas.List.{map-append}
use Rattle.mv_base.specs.declared.ids.NodeId.{NodeId}
use Rattle.network_defs.specs.declared.session_defs.direction.Direction.{Direction}
use Rattle.network_defs.specs.Counts.{node_ids}
use Rattle.net_sessions.specs.session_ways.Ways.{is_from, ways_from}

abbrev node_of : ℕ → NodeId
node_of number = record { 0 = number }

-- One node more stands after the others.
ids_more : (number count : ℕ) → node_ids number (count + 1) ≡ node_ids number count ++ record { 0 = number + count } ∷ []
ids_more number zero =
    let same : number ≡ number + 0 = omega arith in
    ap (λ k. node_of k ∷ []) same
ids_more number (suc count) =
    let counted : suc count + 1 ≡ suc (count + 1) = omega arith in
    let last : number + 1 + count ≡ number + suc count = omega arith in
    ap (node_ids number) counted
    ∙ ap (λ rest. node_of number ∷ rest) (ids_more (number + 1) count)
    ∙ ap (λ k. node_of number ∷ node_ids (number + 1) count ++ node_of k ∷ []) last

-- What is made of the first nodes, and of one node more.
pub made_of_more : {A : Type 0} (made : NodeId → A) (count : ℕ)
    → map made (node_ids 0 (count + 1)) ≡ map made (node_ids 0 count) ++ made (record { 0 = count }) ∷ []
made_of_more made count =
    let last : 0 + count ≡ count = omega arith in
    ap (map made) (ids_more 0 count)
    ∙ map-append made (node_ids 0 count) (node_of (0 + count) ∷ [])
    ∙ ap (λ k. map made (node_ids 0 count) ++ made (node_of k) ∷ []) last

-- What is made of those directions that lead away from a node is what is made of all, where nothing is made of the others.
pub made_by_ways : {A : Type 0} (made : Direction → List A) (n : NodeId) (all : List Direction)
    → ((over : Direction) → ¬ (over.from ≡ n) → made over ≡ []) →
    flat_map made (ways_from n all) ≡ flat_map made all
made_by_ways made n [] nothing = refl
made_by_ways made n (over ∷ more) nothing = by (is_from n over) refl (made_by_ways made n more nothing)
  where
    by : (here : Bool) → is_from n over ≡ here → flat_map made (ways_from n more) ≡ flat_map made more
        → flat_map made (cond here (over ∷ ways_from n more) (ways_from n more)) ≡ made over ++ flat_map made more
    by true is rest = ap (λ lines. made over ++ lines) rest
    by false is rest =
        let other : ¬ (over.from ≡ n) = λ same. let equal : eqb over.from.0 n.0 ≡ true = eq-eqb over.from.0 n.0 (ap (λ (m : NodeId). m.0) same) in
        absurd cc in
        rest ∙ ap (λ first. first ++ flat_map made more) (sym (nothing over other))
