-- Of which trees an edge is to be a leaf before and after a step.
use Rattle.std.proofs.Common.{◌≡◌, ◌↔◌, ◌++◌, ◌||◌, inl, inr, Bool, true, false, List, [], ◌∷◌, refl, sym, ap, subst, ◌∙◌}
use Rattle.std.specs.Cmp.{both_ways}
use Rattle.std.specs.List.{list_any}
use Rattle.std.specs.FinSet as sets
use Rattle.std.specs.FinSet.{FinSet}
use Rattle.std.proofs.lemmas.List.Folds.{list_any-append}
use Rattle.std.proofs.lemmas.Bool.{or_left, or_right}
use Rattle.mv_base.specs.Lists.{Among}
use Rattle.mldp.specs.declared.mldp_fec.fec.Fec.{Fec}
use Rattle.label_defs.specs.Keys.{fec_cmp}
use Rattle.label_defs.specs.LabelData.{same_fec}
use Rattle.vrf_words.specs.tree_defs.Trees.{TreeData}
use Rattle.edge_defs.specs.Edge.{Control}
use Rattle.edge_defs.specs.Place.{EdgePlace, own_vrfs}
use Rattle.edge_defs.specs.Tunnels.{leaves}
use Rattle.edge_words.specs.Leaf.{IsInclusive}
use Rattle.vrf_words.specs.tree_laws.Wanting.{AreTreesOf, IsWantedIn}
use Rattle.vrf_words.proofs.tree_laws.Wanting.{leaves_are}
use Rattle.control_laws.specs.Control.{own_trees}
use Rattle.edge_control.specs.Sound.{wants_of}

-- ---- what they want

pub any_wants : (fec : Fec) (trees : List TreeData) → list_any (λ tree. sets.contains tree.wants fec) trees ≡ true → IsWantedIn trees fec
any_wants fec [] h = absurd cc
any_wants fec (tree ∷ trees) h = by (sets.contains tree.wants fec) refl (any_wants fec trees)
  where
    by : (b : Bool) → sets.contains tree.wants fec ≡ b → (list_any (λ tree. sets.contains tree.wants fec) trees ≡ true → IsWantedIn trees fec)
        → IsWantedIn (tree ∷ trees) fec
    by true e rest = record { tree = tree; among = inl refl; wants = e }
    by false e rest =
        let w = rest (sym (ap (λ (b : Bool). b || list_any (λ tree. sets.contains tree.wants fec) trees) e) ∙ h) in
        record { tree = w.tree; among = inr w.among; wants = w.wants }

pub wants_any : (fec : Fec) (trees : List TreeData) (tree : TreeData) → Among tree trees → sets.contains tree.wants fec ≡ true
    → list_any (λ tree. sets.contains tree.wants fec) trees ≡ true
wants_any fec [] tree among h = absurd among
wants_any fec (own ∷ trees) tree (inl e) h =
    or_left (sets.contains own.wants fec) (list_any (λ tree. sets.contains tree.wants fec) trees)
    (subst (λ (t : TreeData). sets.contains t.wants fec ≡ true) e h)
wants_any fec (own ∷ trees) tree (inr a) h =
    or_right (sets.contains own.wants fec) (list_any (λ tree. sets.contains tree.wants fec) trees) (wants_any fec trees tree a h)

any_of : (fec : Fec) (trees : List TreeData) → list_any (λ tree. sets.contains tree.wants fec) trees
    ≡ list_any (λ wants. sets.contains wants fec) (wants_of trees)
any_of fec [] = refl
any_of fec (tree ∷ trees) = ap (λ (b : Bool). sets.contains tree.wants fec || b) (any_of fec trees)

pub same_wants : (fec : Fec) (olds news : List TreeData) → wants_of news ≡ wants_of olds
    → list_any (λ tree. sets.contains tree.wants fec) olds ≡ list_any (λ tree. sets.contains tree.wants fec) news
same_wants fec olds news e =
    any_of fec olds ∙ (ap (λ (w : List (FinSet fec_cmp)). list_any (λ wants. sets.contains wants fec) w) (sym e) ∙ sym (any_of fec news))

-- ---- leaves

module _ (place : EdgePlace) (old new : Control) (olds news : List TreeData) (fec : Fec) (old_trees : AreTreesOf place old (own_vrfs place) olds)
    (new_trees : AreTreesOf place new (own_vrfs place) news) where
  one_way : (a b : Control) (own_trees other_trees : List TreeData) → AreTreesOf place a (own_vrfs place) own_trees
      → AreTreesOf place b (own_vrfs place) other_trees → (IsInclusive place a fec → IsInclusive place b fec)
      → (list_any (λ tree. sets.contains tree.wants fec) own_trees ≡ true → list_any (λ tree. sets.contains tree.wants fec) other_trees ≡ true)
      → sets.contains (leaves place a) fec ≡ true → sets.contains (leaves place b) fec ≡ true
  one_way a b own_trees other_trees a_trees b_trees inclusive wanted h =
      (leaves_are place b other_trees fec b_trees).1 (elim ((leaves_are place a own_trees fec a_trees).0 h) [
        | inl i ↦ inl (inclusive i)
        | inr w ↦ inr (any_wants fec other_trees (wanted (wants_any fec own_trees w.tree w.among w.wants)))
      ])

  pub same_leaf : IsInclusive place old fec ↔ IsInclusive place new fec
      → list_any (λ tree. sets.contains tree.wants fec) olds ≡ list_any (λ tree. sets.contains tree.wants fec) news
      → sets.contains (leaves place old) fec ≡ sets.contains (leaves place new) fec
  same_leaf inclusive wanted = both_ways (sets.contains (leaves place old) fec) (sets.contains (leaves place new) fec)
      (one_way old new olds news old_trees new_trees inclusive.0 (λ h. sym wanted ∙ h))
      (one_way new old news olds new_trees old_trees inclusive.1 (λ h. wanted ∙ h))

-- ---- candidates

either_false : (a b : Bool) → (a || b) ≡ false → (a ≡ false) × (b ≡ false)
either_false true b h = absurd cc
either_false false b h = (refl, h)

pub neither : (fec : Fec) (xs ys : List Fec) → list_any (same_fec fec) (xs ++ ys) ≡ false
    → (list_any (same_fec fec) xs ≡ false) × (list_any (same_fec fec) ys ≡ false)
neither fec xs ys h = either_false (list_any (same_fec fec) xs) (list_any (same_fec fec) ys) (sym (list_any-append (same_fec fec) xs ys) ∙ h)
