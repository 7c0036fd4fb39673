-- What the trees of an edge want, and the inclusive routes that its VRFs import, are of what the edge is to be a leaf.
use Rattle.std.proofs.Common.{◌≡◌, ◌↔◌, ℕ, ◌+◌, ◌<◌, ◌⊎◌, inl, inr, ◌||◌, Bool, true, false, cond, List, [], ◌∷◌, ◌++◌, map, take, get_or, length, refl, sym, ap, ◌∙◌, append-nil}
use Rattle.std.specs.List.{AllByRecursion, filter, list_any}
use Rattle.std.specs.FinSet as sets
use Rattle.std.proofs.lemmas.Bool.{or_cases, or_left, or_right}
use Rattle.std.proofs.lemmas.List.Elements.{filter_more}
use Rattle.mldp.specs.declared.mldp_fec.fec.Fec.{Fec}
use Rattle.mv_base.specs.core_walks.Core.{Core}
use Rattle.label_defs.specs.LabelData.{same_fec}
use Rattle.label_defs.proofs.KeyLemmas.{same_fec_equal}
use Rattle.vrf_words.specs.tree_defs.Trees.{TreeData}
use Rattle.edge_defs.specs.Edge.{Control}
use Rattle.edge_defs.specs.Place.{EdgePlace, OwnVrf, own_vrfs}
use Rattle.edge_defs.specs.Tunnels.{leaves}
use Rattle.edge_routes.specs.edge_home.Home.{place_of}
use Rattle.edge_words.proofs.calm_laws.Lists.{any_among, any_from, among_filter, filter_among}
use Rattle.edge_words.specs.Leaf.{IsInclusive}
use Rattle.edge_words.proofs.Members.{either}
use Rattle.vrf_words.specs.tree_laws.TreeOf.{IsTreeOf}
use Rattle.vrf_words.specs.tree_laws.Wanting.{AreTreesOf, IsWantedIn}
use Rattle.vrf_words.proofs.tree_laws.Wanting.{leaves_are}
use Rattle.control_laws.specs.Control.{AreTrees, Kept, OwnTree, control_of, own_trees}

-- ---- the trees

trees_of_each : (place : EdgePlace) (control : Control) (owns : List OwnVrf) (trees : List TreeData)
    → AllByRecursion (λ (it : OwnTree). IsTreeOf place control it.own it.tree) (own_trees owns trees)
    → map (λ (it : OwnTree). it.own) (own_trees owns trees) ≡ owns → map (λ (it : OwnTree). it.tree) (own_trees owns trees) ≡ trees
    → AreTreesOf place control owns trees
trees_of_each place control [] [] h e k = tt
trees_of_each place control [] (tree ∷ trees) h e k = absurd cc
trees_of_each place control (own ∷ owns) [] h e k = absurd cc
trees_of_each place control (own ∷ owns) (tree ∷ trees) h e k =
    let first : map (λ (it : OwnTree). it.own) (own_trees owns trees) ≡ owns = cc in
    let second : map (λ (it : OwnTree). it.tree) (own_trees owns trees) ≡ trees = cc in
    (h.0, trees_of_each place control owns trees h.1 first second)

module _ (kept : Kept) (trees : AreTrees kept) (core : Core) where
  abbrev place : EdgePlace
  place = place_of kept.home core

  abbrev wants_it : Fec → TreeData → Bool
  wants_it fec tree = sets.contains tree.wants fec

  are_trees_of : AreTreesOf place (control_of kept) (own_vrfs place) kept.trees
  are_trees_of = trees_of_each place (control_of kept) (own_vrfs place) kept.trees (trees.each core) trees.all trees.full

  module _ (fec : Fec) (inclusive wanted : Bool) (is : (inclusive ≡ true) ↔ IsInclusive place (control_of kept) fec)
      (any : wanted ≡ list_any (wants_it fec) kept.trees) where
    wanted_in : wanted ≡ true → IsWantedIn kept.trees fec
    wanted_in h = (let found = any_among (wants_it fec) kept.trees (sym any ∙ h) in record { tree = found.0; among = found.1; wants = found.2 })

    in_wanted : IsWantedIn kept.trees fec → wanted ≡ true
    in_wanted w = any ∙ any_from (wants_it fec) w.tree kept.trees w.among w.wants

    told : IsInclusive place (control_of kept) fec ⊎ IsWantedIn kept.trees fec → (inclusive || wanted) ≡ true
    told (inl i) = or_left inclusive wanted (is.1 i)
    told (inr w) = or_right inclusive wanted (in_wanted w)

    back : (inclusive || wanted) ≡ true → IsInclusive place (control_of kept) fec ⊎ IsWantedIn kept.trees fec
    back h = elim (or_cases inclusive wanted h) [ inl i ↦ inl (is.0 i) | inr w ↦ inr (wanted_in w) ]

    pub leaf_told : (inclusive || wanted) ≡ sets.contains (leaves place (control_of kept)) fec
    leaf_told =
        let law = leaves_are place (control_of kept) kept.trees fec are_trees_of in
        either (inclusive || wanted) (sets.contains (leaves place (control_of kept)) fec) (λ h. law.1 (back h)) (λ h. told (law.0 h))

pub or_none : (inclusive wanted : Bool) → wanted ≡ false → inclusive ≡ (inclusive || wanted)
or_none true wanted none = refl
or_none false wanted none = sym none

-- one that a flow of a VRF wants
pub leaf_wanted : (kept : Kept) → AreTrees kept → (core : Core) (fec : Fec) (wanted : Bool) → wanted ≡ true
    → wanted ≡ list_any (λ (tree : TreeData). sets.contains tree.wants fec) kept.trees
    → wanted ≡ sets.contains (leaves (place_of kept.home core) (control_of kept)) fec
leaf_wanted kept trees core fec wanted h any =
    let found = any_among (λ (tree : TreeData). sets.contains tree.wants fec) kept.trees (sym any ∙ h) in
    let wants : IsWantedIn kept.trees fec = record { tree = found.0; among = found.1; wants = found.2 } in
    h ∙ sym ((leaves_are (place_of kept.home core) (control_of kept) kept.trees fec (are_trees_of kept trees core)).1 (inr wants))

-- ---- those that are wanted

-- one of a list that passes is among those that do
pub listed : (p : Fec → Bool) (fecs : List Fec) (fec : Fec) → list_any (same_fec fec) fecs ≡ true → list_any (same_fec fec) (filter p fecs) ≡ p fec
listed p fecs fec h = either (list_any (same_fec fec) (filter p fecs)) (p fec) there back
  where
    there : list_any (same_fec fec) (filter p fecs) ≡ true → p fec ≡ true
    there k =
        let found = any_among (same_fec fec) (filter p fecs) k in
        ap p (same_fec_equal fec found.0 found.2) ∙ (filter_among p found.0 fecs found.1).1

    back : p fec ≡ true → list_any (same_fec fec) (filter p fecs) ≡ true
    back k =
        let found = any_among (same_fec fec) fecs h in
        let same = same_fec_equal fec found.0 found.2 in
        any_from (same_fec fec) found.0 (filter p fecs) (among_filter p found.0 fecs (ap p (sym same) ∙ k) found.1) found.2

-- one more of the list, where it is wanted and where it is not
pub more_wanted : (p : Fec → Bool) (fecs found new : List Fec) (n : ℕ) (fec : Fec) (passes : Bool) → n < length fecs → fec ≡ get_or fecs n fec
    → found ≡ filter p (take n fecs) → passes ≡ p fec
    → passes ≡ true → new ≡ found ++ fec ∷ [] → new ≡ filter p (take (n + 1) fecs)
more_wanted p fecs found new n fec passes within is before e so added =
    added ∙ (λ i. before i ++ is i ∷ []) ∙ ap (λ (b : Bool). filter p (take n fecs) ++ cond b (get_or fecs n fec ∷ []) []) (sym so ∙ e ∙ ap p is)
    ∙ sym (filter_more p fecs n fec within)

pub none_wanted : (p : Fec → Bool) (fecs found new : List Fec) (n : ℕ) (fec : Fec) (passes : Bool) → n < length fecs → fec ≡ get_or fecs n fec
    → found ≡ filter p (take n fecs) → passes ≡ p fec
    → passes ≡ false → new ≡ found → new ≡ filter p (take (n + 1) fecs)
none_wanted p fecs found new n fec passes within is before e so same =
    same ∙ before ∙ sym (append-nil (filter p (take n fecs)))
    ∙ ap (λ (b : Bool). filter p (take n fecs) ++ cond b (get_or fecs n fec ∷ []) []) (sym so ∙ e ∙ ap p is)
    ∙ sym (filter_more p fecs n fec within)
