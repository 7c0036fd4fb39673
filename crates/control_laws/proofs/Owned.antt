-- The VRFs of an edge with their trees: their numbers differ, and what each has of something that is of one VRF alone.
use Rattle.std.proofs.Common.{◌≡◌, ◌⊎◌, ℕ, zero, suc, ◌+◌, ◌≤◌, ◌==◌, Bool, true, false, cond, inl, inr, List, [], ◌∷◌, ◌++◌, length, map, slice_get, slice_set, Some, refl, sym, ap, subst, ◌∙◌, arith}
use Rattle.std.specs.List.{AllByRecursion}
use Rattle.std.proofs.lemmas.Bool.{eqb-true}
use Rattle.mv_base.specs.Lists.{Among}
use Rattle.mv_base.specs.declared.ids.NodeId.{NodeId}
use Rattle.scenario_defs.specs.declared.scenario.Vrf.{Vrf}
use Rattle.vrf_words.specs.tree_defs.Trees.{TreeData}
use Rattle.edge_defs.specs.Place.{OwnVrf, vrfs_from}
use Rattle.vrf_words.proofs.edge_words.calm_laws.Lists.{among_front, among_after}
use Rattle.control_laws.specs.Control.{OwnTree, own_trees}
use Rattle.control_laws.proofs.Gathered.{gathered, HasNone, gathered_none, gathered_one, gathered_same}

-- ---- numbers

-- no two of them have one number
abbrev pub AreApart : List OwnTree → Type 0
AreApart [] = Unit {0}
AreApart (it ∷ more) = ((other : OwnTree) → Among other more → other.own.id.0 ≡ it.own.id.0 → ⊥) × AreApart more

later : (me : NodeId) (number : ℕ) (vrfs : List Vrf) (trees : List TreeData) (it : OwnTree) → Among it (own_trees (vrfs_from me number vrfs) trees)
    → number ≤ it.own.id.0
later me number [] trees it a = absurd a
later me number (vrf ∷ more) trees it a =
    by (vrf.edge.0 == me.0) trees (λ others b. (let thereafter = later me (number + 1) more others it b in omega (arith, thereafter))) a
  where
    by : (b : Bool) (trees : List TreeData) → ((others : List TreeData) → Among it (own_trees (vrfs_from me (number + 1) more) others)
        → number ≤ it.own.id.0)
        → Among it (own_trees (cond b (record { id = record { 0 = number }; vrf = vrf } ∷ vrfs_from me (number + 1) more)
        (vrfs_from me (number + 1) more)) trees) → number ≤ it.own.id.0
    by true [] further b = absurd b
    by true (tree ∷ trees) further (inl e) = let same : it.own.id.0 ≡ number = ap (λ (x : OwnTree). x.own.id.0) e in omega (arith, same)
    by true (tree ∷ trees) further (inr b) = further trees b
    by false trees further b = further trees b

pub apart_from : (me : NodeId) (number : ℕ) (vrfs : List Vrf) (trees : List TreeData) → AreApart (own_trees (vrfs_from me number vrfs) trees)
apart_from me number [] trees = tt
apart_from me number (vrf ∷ more) trees = by (vrf.edge.0 == me.0) trees (apart_from me (number + 1) more)
  where
    by : (b : Bool) (trees : List TreeData) → ((others : List TreeData) → AreApart (own_trees (vrfs_from me (number + 1) more) others))
        → AreApart (own_trees (cond b (record { id = record { 0 = number }; vrf = vrf } ∷ vrfs_from me (number + 1) more)
        (vrfs_from me (number + 1) more)) trees)
    by true [] rest = tt
    by true (tree ∷ trees) rest = (λ other a e. (let thereafter = later me (number + 1) more trees other a in omega (arith, thereafter, e)), rest trees)
    by false trees rest = rest trees

pub apart_before : (before : List OwnTree) (it : OwnTree) (after : List OwnTree) → AreApart (before ++ it ∷ after) → (other : OwnTree)
    → Among other before → other.own.id.0 ≡ it.own.id.0 → ⊥
apart_before [] it after h other a e = a
apart_before (one ∷ before) it after h other (inl same) e =
    h.0 it (among_after it before (it ∷ after) (inl refl)) (sym e ∙ ap (λ (x : OwnTree). x.own.id.0) same)
apart_before (one ∷ before) it after h other (inr a) e = apart_before before it after h.1 other a e

pub apart_after : (before : List OwnTree) (it : OwnTree) (after : List OwnTree) → AreApart (before ++ it ∷ after) → (other : OwnTree)
    → Among other after → other.own.id.0 ≡ it.own.id.0 → ⊥
apart_after [] it after h other a e = h.0 other a e
apart_after (one ∷ before) it after h other a e = apart_after before it after h.1 other a e

pub one_of_number : (its : List OwnTree) → AreApart its → (it other : OwnTree) → Among it its → Among other its → it.own.id.0 ≡ other.own.id.0
    → it ≡ other
one_of_number [] apart it other a b e = absurd a
one_of_number (first ∷ more) apart it other (inl h) (inl k) e = h ∙ sym k
one_of_number (first ∷ more) apart it other (inl h) (inr b) e = absurd (apart.0 other b (sym e ∙ ap (λ (x : OwnTree). x.own.id.0) h))
one_of_number (first ∷ more) apart it other (inr a) (inl k) e = absurd (apart.0 it a (e ∙ ap (λ (x : OwnTree). x.own.id.0) k))
one_of_number (first ∷ more) apart it other (inr a) (inr b) e = one_of_number more apart.1 it other a b e

-- ---- one tree of the edge

-- the same VRF with that tree
abbrev pub with : OwnTree → TreeData → OwnTree
with it tree = record { own = it.own; tree = tree }

-- It is there, and another tree in its place changes nothing else.
pub record IsOneOf (owns : List OwnVrf) (trees : List TreeData) (number : ℕ) (it : OwnTree) : Type 0 where
  pub before : List OwnTree
  pub after : List OwnTree
  pub is : own_trees owns trees ≡ before ++ it ∷ after
  pub changed : (tree : TreeData) → own_trees owns (slice_set trees number tree) ≡ before ++ with it tree ∷ after

pub one_of : (owns : List OwnVrf) (trees : List TreeData) (number : ℕ) (it : OwnTree) → slice_get (own_trees owns trees) number ≡ Some it
    → IsOneOf owns trees number it
one_of [] trees number it h = absurd cc
one_of (own ∷ owns) [] number it h = absurd cc
one_of (own ∷ owns) (tree ∷ trees) zero it h =
    let same : record { own = own; tree = tree } ≡ it = cc in
    record {
      before = [];
      after = own_trees owns trees;
      is = ap (λ (x : OwnTree). x ∷ own_trees owns trees) same;
      changed = λ new i. record { own = (same i).own; tree = new } ∷ own_trees owns trees;
    }
one_of (own ∷ owns) (tree ∷ trees) (suc number) it h =
    let rest = one_of owns trees number it h in
    let here : OwnTree = record { own = own; tree = tree } in
    record {
      before = here ∷ rest.before;
      after = rest.after;
      is = ap (λ (xs : List OwnTree). here ∷ xs) rest.is;
      changed = λ new. ap (λ (xs : List OwnTree). here ∷ xs) (rest.changed new);
    }

pub there : (owns : List OwnVrf) (trees : List TreeData) (number : ℕ) (own : OwnVrf) (tree : TreeData) → slice_get owns number ≡ Some own
    → slice_get trees number ≡ Some tree
    → slice_get (own_trees owns trees) number ≡ Some (record { own = own; tree = tree })
there [] trees number own tree h k = absurd cc
there (one ∷ owns) [] number own tree h k = absurd cc
there (one ∷ owns) (first ∷ trees) zero own tree h k =
    let same : one ≡ own = cc in
    let trees : first ≡ tree = cc in
    λ i. Some (record { own = same i; tree = trees i })
there (one ∷ owns) (first ∷ trees) (suc number) own tree h k = there owns trees number own tree h k

-- as many trees as before are each at its VRF
pub paired : (owns : List OwnVrf) (trees others : List TreeData) → map (λ (it : OwnTree). it.own) (own_trees owns trees) ≡ owns
    → map (λ (it : OwnTree). it.tree) (own_trees owns trees) ≡ trees
    → length others ≡ length trees
    → (map (λ (it : OwnTree). it.own) (own_trees owns others) ≡ owns) × (map (λ (it : OwnTree). it.tree) (own_trees owns others) ≡ others)
paired [] [] [] h k e = (refl, refl)
paired [] [] (other ∷ others) h k e = absurd (omega (arith, e))
paired [] (tree ∷ trees) others h k e = absurd cc
paired (own ∷ owns) [] others h k e = absurd cc
paired (own ∷ owns) (tree ∷ trees) [] h k e = absurd (omega (arith, e))
paired (own ∷ owns) (tree ∷ trees) (other ∷ others) h k e =
    let of_owns : map (λ (it : OwnTree). it.own) (own_trees owns trees) ≡ owns = cc in
    let of_trees : map (λ (it : OwnTree). it.tree) (own_trees owns trees) ≡ trees = cc in
    let rest = paired owns trees others of_owns of_trees (omega (arith, e)) in
    (ap (λ (xs : List OwnVrf). own ∷ xs) rest.0, ap (λ (xs : List TreeData). other ∷ xs) rest.1)

pub trees_map : (change : TreeData → TreeData) (owns : List OwnVrf) (trees : List TreeData)
    → own_trees owns (map change trees) ≡ map (λ (it : OwnTree). with it (change it.tree)) (own_trees owns trees)
trees_map change [] trees = refl
trees_map change (own ∷ owns) [] = refl
trees_map change (own ∷ owns) (tree ∷ trees) =
    ap (λ (xs : List OwnTree). with (record { own = own; tree = tree }) (change tree) ∷ xs) (trees_map change owns trees)

-- ---- what holds of each

pub of_each : {X : Type 0} (P : X → Type 0) (xs : List X) → AllByRecursion P xs → (x : X) → Among x xs → P x
of_each P [] h x a = absurd a
of_each P (y ∷ ys) h x (inl e) = subst P (sym e) h.0
of_each P (y ∷ ys) h x (inr a) = of_each P ys h.1 x a

pub each_of : {X : Type 0} (P : X → Type 0) (xs : List X) → ((x : X) → Among x xs → P x) → AllByRecursion P xs
each_of P [] h = tt
each_of P (y ∷ ys) h = (h y (inl refl), each_of P ys (λ x a. h x (inr a)))

pub all_but : {X : Type 0} (P : X → Type 0) (before : List X) (x y : X) (after : List X) → AllByRecursion P (before ++ x ∷ after) → P y
    → AllByRecursion P (before ++ y ∷ after)
all_but P [] x y after h new = (new, h.1)
all_but P (z ∷ before) x y after h new = (h.0, all_but P before x y after h.1 new)

pub all_mapped : {X Y : Type 0} (P : X → Type 0) (Q : Y → Type 0) (f : X → Y) → ((x : X) → P x → Q (f x)) → (xs : List X) → AllByRecursion P xs
    → AllByRecursion Q (map f xs)
all_mapped P Q f k [] h = tt
all_mapped P Q f k (x ∷ xs) h = (k x h.0, all_mapped P Q f k xs h.1)

pub split_at : {X : Type 0} (x : X) (xs : List X) → Among x xs → (before : List X) × (after : List X) × (xs ≡ before ++ x ∷ after)
split_at x [] a = absurd a
split_at x (y ∷ ys) (inl e) = ([], ys, ap (λ z. z ∷ ys) (sym e))
split_at x (y ∷ ys) (inr a) = let (before, after, is) = split_at x ys a in (y ∷ before, after, ap (λ zs. y ∷ zs) is)

-- ---- what is of one VRF alone

-- a test that VRFs of one number alone pass
pub record IsOfOne (test : OwnVrf → Bool) : Type 0 where
  pub one : (own other : OwnVrf) → test own ≡ true → test other ≡ true → own.id.0 ≡ other.id.0

pub of_number : (number : ℕ) → IsOfOne (λ (own : OwnVrf). own.id.0 == number)
of_number number = record { one = λ own other h k. eqb-true own.id.0 number h ∙ sym (eqb-true other.id.0 number k) }

module _ {X : Type 0} {none : X} {or : X → X → X} (laws : HasNone none or) (test : OwnVrf → Bool) (one : IsOfOne test) (part : OwnTree → X) where
  -- a tree has nothing of it where its VRF does not pass
  abbrev pub IsOwned : OwnTree → Type 0
  IsOwned it = test it.own ≡ false → part it ≡ none

  other_none : (it other : OwnTree) → test it.own ≡ true → IsOwned other → (other.own.id.0 ≡ it.own.id.0 → ⊥) → part other ≡ none
  other_none it other h owned ne = by (test other.own) refl
    where
      by : (b : Bool) → test other.own ≡ b → part other ≡ none
      by true e = absurd (ne (one.one other.own it.own e h))
      by false e = owned e

  -- the tree of the VRF has all of it
  pub all_at : (before : List OwnTree) (it : OwnTree) (after : List OwnTree) → AreApart (before ++ it ∷ after)
      → ((other : OwnTree) → Among other (before ++ it ∷ after) → IsOwned other)
      → test it.own ≡ true → gathered none or part (before ++ it ∷ after) ≡ part it
  all_at before it after apart owned h =
      gathered_one laws part before it after
      (λ other a. other_none it other h (owned other (among_front other before (it ∷ after) a)) (apart_before before it after apart other a))
      (λ other a. other_none it other h (owned other (among_after other before (it ∷ after) (inr a))) (apart_after before it after apart other a))

  -- what is of none of the VRFs is nowhere
  pub all_none : (its : List OwnTree) → ((other : OwnTree) → Among other its → IsOwned other)
      → ((other : OwnTree) → Among other its → test other.own ≡ false) → gathered none or part its ≡ none
  all_none its owned h = gathered_none laws part its (λ other a. owned other a (h other a))

  -- with another tree of one VRF, what is of that VRF is the new tree's, and all else is as before
  pub all_changed : (before : List OwnTree) (it : OwnTree) (after : List OwnTree) (tree : TreeData) → AreApart (before ++ it ∷ after)
      → AreApart (before ++ with it tree ∷ after)
      → ((other : OwnTree) → Among other (before ++ it ∷ after) → IsOwned other)
      → ((other : OwnTree) → Among other (before ++ with it tree ∷ after) → IsOwned other)
      → gathered none or part (before ++ with it tree ∷ after)
      ≡ cond (test it.own) (part (with it tree)) (gathered none or part (before ++ it ∷ after))
  all_changed before it after tree apart apart_then owned owned_then = by (test it.own) refl
    where
      by : (b : Bool) → test it.own ≡ b → gathered none or part (before ++ with it tree ∷ after)
          ≡ cond b (part (with it tree)) (gathered none or part (before ++ it ∷ after))
      by true h = all_at before (with it tree) after apart_then owned_then h
      by false h = gathered_same none or part before (with it tree) it after
          (owned_then (with it tree) (among_after (with it tree) before (with it tree ∷ after) (inl refl)) h
          ∙ sym (owned it (among_after it before (it ∷ after) (inl refl)) h))

  -- so for each of a list
  pub all_of : (its : List OwnTree) (it : OwnTree) → Among it its → AreApart its → ((other : OwnTree) → Among other its → IsOwned other)
      → test it.own ≡ true → gathered none or part its ≡ part it
  all_of its it a apart owned h =
      let (before, after, is) = split_at it its a in
      subst (λ (xs : List OwnTree). AreApart xs → ((other : OwnTree) → Among other xs → IsOwned other) → gathered none or part xs ≡ part it) (sym is)
      (λ own_apart own_owned. all_at before it after own_apart own_owned h) apart owned

  pub or_not : (its : List OwnTree) → ((it : OwnTree) × Among it its × (test it.own ≡ true)) ⊎ ((it : OwnTree) → Among it its → test it.own ≡ false)
  or_not [] = inr (λ it a. absurd a)
  or_not (first ∷ more) = by (test first.own) refl (or_not more)
    where
      by : (b : Bool) → test first.own ≡ b → ((it : OwnTree) × Among it more × (test it.own ≡ true))
          ⊎ ((it : OwnTree) → Among it more → test it.own ≡ false)
          → ((it : OwnTree) × Among it (first ∷ more) × (test it.own ≡ true)) ⊎ ((it : OwnTree) → Among it (first ∷ more) → test it.own ≡ false)
      by true h rest = inl (first, inl refl, h)
      by false h (inl found) = inl (found.0, inr found.1, found.2)
      by false h (inr none) = inr (λ it a. elim a [ inl e ↦ ap (λ (x : OwnTree). test x.own) e ∙ h | inr b ↦ none it b ])

module _ {X : Type 0} {none : X} {or : X → X → X} (laws : HasNone none or) (test : OwnVrf → Bool) (one : IsOfOne test) (part : OwnTree → X) where
  -- what changes the part of each changes all of it
  pub all_through : (its : List OwnTree) → AreApart its → ((other : OwnTree) → Among other its → IsOwned laws test one part other) → (change : X → X)
      → change none ≡ none
      → gathered none or (λ it. change (part it)) its ≡ change (gathered none or part its)
  all_through its apart owned change nothing = elim (or_not laws test one part its) [
    | inl found ↦ all_of laws test one (λ it. change (part it)) its found.0 found.1 apart (λ other a h. ap change (owned other a h) ∙ nothing) found.2
        ∙ ap change (sym (all_of laws test one part its found.0 found.1 apart owned found.2))
    | inr none_of ↦ gathered_none laws (λ it. change (part it)) its (λ it a. ap change (owned it a (none_of it a)) ∙ nothing)
        ∙ sym (ap change (all_none laws test one part its owned none_of) ∙ nothing)
  ]
