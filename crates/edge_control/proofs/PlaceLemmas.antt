-- The place of a VRF among those of the edge, and the tree that is there.
use Rattle.std.proofs.Common.{◌≡◌, ℕ, zero, suc, ◌+◌, ◌<◌, ◌==◌, Bool, true, false, cond, not, ◌||◌, nat_lt, List, [], ◌∷◌, map, length, get_or, Option, Some, None, slice_get, slice_set, position, refl, sym, ap, subst, ◌∙◌, arith}
use Rattle.std.specs.List.{AllByRecursion, list_any, position_or_len}
use Rattle.std.proofs.lemmas.Bool.{eqb-true, lt-ltb}
use Rattle.std.proofs.lemmas.List.Quantifiers.{position-Some}
use Rattle.std.proofs.lemmas.Option.{slice_get_within}
use Rattle.mv_base.specs.declared.ids.VrfId.{VrfId}
use Rattle.vrf_words.specs.tree_defs.Trees.{TreeData}
use Rattle.edge_defs.specs.Place as places
use Rattle.edge_routes.specs.edge_home.Home.{Home, AreOwn, as_own}
use Rattle.edge_routes.specs.declared.edge_home.own_vrf.OwnVrf.{OwnVrf}
use Rattle.control_laws.specs.Control.{Kept, OwnTree, trees_of}
use Rattle.control_laws.proofs.CustomersCounts.{tree_there}
use Rattle.control_laws.proofs.Parts.{AreFull, no_core}
use Rattle.control_laws.proofs.Replaced.{it_among}
use Rattle.edge_control.specs.Places.{IsPlace, IsTreeAt, changed_at, vrfs_of}

-- ---- lists

pub get_mapped : {X Y : Type 0} (f : X → Y) (xs : List X) (n : ℕ) (y : Y) → slice_get (map f xs) n ≡ Some y
    → (x : X) × (slice_get xs n ≡ Some x) × (f x ≡ y)
get_mapped f [] n y h = absurd cc
get_mapped f (x ∷ xs) zero y h = (let same : f x ≡ y = cc in (x, refl, same))
get_mapped f (x ∷ xs) (suc n) y h = get_mapped f xs n y h

pub get_at : {X : Type 0} (xs : List X) (n : ℕ) (d : X) → n < length xs → slice_get xs n ≡ Some (get_or xs n d)
get_at [] n d lt = absurd (omega (arith, lt))
get_at (x ∷ xs) zero d lt = refl
get_at (x ∷ xs) (suc n) d lt = get_at xs n d (omega (arith, lt))

pub map_set : {X Y : Type 0} (f : X → Y) (xs : List X) (n : ℕ) (y : X) → map f (slice_set xs n y) ≡ slice_set (map f xs) n (f y)
map_set f [] n y = refl
map_set f (x ∷ xs) zero y = refl
map_set f (x ∷ xs) (suc n) y = ap (λ (ys : List _). f x ∷ ys) (map_set f xs n y)

pub all_at : {X : Type 0} (P : X → Type 0) (xs : List X) (n : ℕ) (x : X) → AllByRecursion P xs → slice_get xs n ≡ Some x → P x
all_at P [] n x h e = absurd cc
all_at P (y ∷ xs) zero x h e = (let same : y ≡ x = cc in subst P same h.0)
all_at P (y ∷ xs) (suc n) x h e = all_at P xs n x h.1 e

pub all_set : {X : Type 0} (P : X → Type 0) (xs : List X) (n : ℕ) (x : X) → AllByRecursion P xs → P x → AllByRecursion P (slice_set xs n x)
all_set P [] n x h new = tt
all_set P (y ∷ xs) zero x h new = (new, h.1)
all_set P (y ∷ xs) (suc n) x h new = (h.0, all_set P xs n x h.1 new)

before_by : {X : Type 0} (p : X → Bool) (x : X) (xs : List X) → (list_any p xs ≡ true → position_or_len p xs < length xs) → (b : Bool) → p x ≡ b
    → list_any p (x ∷ xs) ≡ true
    → position_or_len p (x ∷ xs) < length (x ∷ xs)
before_by p x xs rest true e h =
    let first : position_or_len p (x ∷ xs) ≡ 0 = ap (λ (b : Bool). cond (not b) (1 + position_or_len p xs) 0) e in
    omega (arith, first)
before_by p x xs rest false e h =
    let first : position_or_len p (x ∷ xs) ≡ 1 + position_or_len p xs = ap (λ (b : Bool). cond (not b) (1 + position_or_len p xs) 0) e in
    let more = rest (sym (ap (λ (b : Bool). b || list_any p xs) e) ∙ h) in
    omega (arith, first, more)

pub any_before : {X : Type 0} (p : X → Bool) (xs : List X) → list_any p xs ≡ true → position_or_len p xs < length xs
any_before p [] h = absurd cc
any_before p (x ∷ xs) h = before_by p x xs (any_before p xs) (p x) refl h

pub mapped : {X Y : Type 0} (f : X → Y) (xs : List X) (n : ℕ) (x : X) → slice_get xs n ≡ Some x → slice_get (map f xs) n ≡ Some (f x)
mapped f [] n x e = absurd cc
mapped f (y ∷ xs) zero x e = (let same : y ≡ x = cc in ap (λ (z : _). Some (f z)) same)
mapped f (y ∷ xs) (suc n) x e = mapped f xs n x e

never : (b : Bool) (n : ℕ) → b ≡ true → ◌≡◌ {A = Option ℕ} (cond b (Some n) None) None → ⊥
never true n e h = absurd cc
never false n e h = absurd cc

-- ---- the place of the first that passes a test

module _ (home : Home) (vrfs : List OwnVrf) (own : AreOwn home vrfs) (test : places.OwnVrf → Bool) where
  abbrev passes : OwnVrf → Bool
  passes vrf = test (as_own vrf)

  pub placed : (place : ℕ) → position passes vrfs ≡ Some place → IsPlace home place test
  placed place h = by vrfs refl
    where
      by : (all : List OwnVrf) → vrfs ≡ all → IsPlace home place test
      by [] e = absurd (let none : position passes [] ≡ Some place = subst (λ (l : List OwnVrf). position passes l ≡ Some place) e h in cc)
      by (d ∷ all) e =
          let found = position-Some passes vrfs place d h in
          record {
            own = as_own (get_or vrfs place d);
            at = ap (λ (l : List places.OwnVrf). slice_get l place) (sym (own.vrfs no_core))
                ∙ mapped as_own vrfs place (get_or vrfs place d) (get_at vrfs place d found.0);
            passes = found.1;
          }

  any_mapped : (xs : List OwnVrf) → list_any test (map as_own xs) ≡ list_any passes xs
  any_mapped [] = refl
  any_mapped (x ∷ xs) = ap (λ (b : Bool). passes x || b) (any_mapped xs)

  pub none_placed : position passes vrfs ≡ None → list_any test (vrfs_of home) ≡ true → ⊥
  none_placed none h =
      let any : list_any passes vrfs ≡ true = sym (any_mapped vrfs) ∙ ap (list_any test) (own.vrfs no_core) ∙ h in
      never (nat_lt (position_or_len passes vrfs) (length vrfs)) (position_or_len passes vrfs) (lt-ltb _ _ (any_before passes vrfs any)) none

-- ---- the tree there

pub record Stands (kept : Kept) (place : ℕ) (test : places.OwnVrf → Bool) : Type 0 where
  pub it : OwnTree
  pub at : slice_get (trees_of kept) place ≡ Some it
  pub passes : test it.own ≡ true

module _ (kept : Kept) (full : AreFull kept) (place : ℕ) (test : places.OwnVrf → Bool) (is : IsPlace kept.home place test) where
  pub stands : Stands kept place test
  stands =
      let found =
      get_mapped (λ (it : OwnTree). it.own) (trees_of kept) place is.own (ap (λ (l : List places.OwnVrf). slice_get l place) full.all ∙ is.at) in
      record { it = found.0; at = found.1; passes = ap test found.2 ∙ is.passes }

  pub tree_is : slice_get kept.trees place ≡ Some (stands.it.tree)
  tree_is = tree_there (vrfs_of kept.home) kept.trees place stands.it stands.at

  pub there : place < length kept.trees
  there = slice_get_within kept.trees place stands.it.tree tree_is

  pub changed_is : (change : TreeData → TreeData) → changed_at place change kept.trees ≡ slice_set kept.trees place (change stands.it.tree)
  changed_is change = ap (λ (o : Option TreeData). elim o [ None ↦ kept.trees | Some tree ↦ slice_set kept.trees place (change tree) ]) tree_is

  -- what an index gives is that tree
  pub indexed : (tree : TreeData) → tree ≡ get_or kept.trees place tree → tree ≡ stands.it.tree
  indexed tree e =
      let one : Some tree ≡ Some (stands.it.tree) = ap Some e ∙ sym (get_at kept.trees place tree there) ∙ tree_is in cc

-- the tree of a VRF
pub tree_at : (kept : Kept) → AreFull kept → (place : ℕ) (vrf : VrfId) → IsPlace kept.home place (λ own. own.id.0 == vrf.0) → (tree : TreeData)
    → tree ≡ get_or kept.trees place tree
    → IsTreeAt kept vrf tree
tree_at kept full place vrf is tree e =
    let here = stands kept full place (λ own. own.id.0 == vrf.0) is in
    let number = eqb-true here.it.own.id.0 vrf.0 here.passes in
    record {
      it = here.it;
      among = it_among kept place here.it here.at;
      id = λ i. record { 0 = number i };
      is = sym (indexed kept full place (λ own. own.id.0 == vrf.0) is tree e);
    }
