-- Elements of a list that pass a test, and lists of nodes of which one changes.
use Rattle.std.proofs.Common.{◌≡◌, ◌∙◌, refl, sym, ap, arith, ℕ, zero, suc, ◌<◌, inl, inr, Bool, true, false, cond, List, [], ◌∷◌, ◌++◌, length, slice_get, slice_set, get_or, Some}
use Rattle.std.proofs.lemmas.Option.{none-some, same_Some}
use Rattle.std.specs.List.{filter, flat_map}
use Rattle.mv_base.specs.Lists.{Among}
use Rattle.network_nodes.proofs.wire_laws.AmongLemmas.{Once}

-- ---- those that pass a test

pub among_kept : {X : Type 0} (test : X → Bool) (x : X) (xs : List X) → Among x (filter test xs) → Among x xs × (test x ≡ true)
among_kept test x [] a = absurd a
among_kept {X} test x (y ∷ xs) a = by (test y) refl (among_kept test x xs) a
  where
    by : (b : Bool) → test y ≡ b → (Among x (filter test xs) → Among x xs × (test x ≡ true)) → Among x (cond b (y ∷ filter test xs) (filter test xs))
        → Among x (y ∷ xs) × (test x ≡ true)
    by true e rest (inl same) = (inl same, ap test same ∙ e)
    by true e rest (inr later) = (let r = rest later in (inr r.0, r.1))
    by false e rest later = (let r = rest later in (inr r.0, r.1))

pub among_passing : {X : Type 0} (test : X → Bool) (x : X) (xs : List X) → Among x xs → test x ≡ true → Among x (filter test xs)
among_passing test x [] a passes = absurd a
among_passing {X} test x (y ∷ xs) a passes = by (test y) refl (λ later. among_passing test x xs later passes) a
  where
    by : (b : Bool) → test y ≡ b → (Among x xs → Among x (filter test xs)) → Among x (y ∷ xs) → Among x (cond b (y ∷ filter test xs) (filter test xs))
    by true e rest (inl same) = inl same
    by true e rest (inr later) = inr (rest later)
    by false e rest (inl same) = absurd (let f : test x ≡ false = ap test same ∙ e in cc)
    by false e rest (inr later) = rest later

pub once_kept : {X : Type 0} (test : X → Bool) (xs : List X) → Once xs → Once (filter test xs)
once_kept test [] once = tt
once_kept {X} test (y ∷ xs) once = by (test y) (once_kept test xs once.1)
  where
    by : (b : Bool) → Once (filter test xs) → Once (cond b (y ∷ filter test xs) (filter test xs))
    by true rest = ((λ a. once.0 (among_kept test y xs a).0), rest)
    by false rest = rest

-- where the others give nothing, those that pass give all
pub flat_kept : {X Y : Type 0} (test : X → Bool) (give : X → List Y) (xs : List X) → ((x : X) → test x ≡ false → give x ≡ [])
    → flat_map give (filter test xs) ≡ flat_map give xs
flat_kept test give [] none = refl
flat_kept {X} {Y} test give (y ∷ xs) none = by (test y) refl (flat_kept test give xs none)
  where
    by : (b : Bool) → test y ≡ b → flat_map give (filter test xs) ≡ flat_map give xs
        → flat_map give (cond b (y ∷ filter test xs) (filter test xs)) ≡ flat_map give (y ∷ xs)
    by true e rest = ap (λ (l : List Y). give y ++ l) rest
    by false e rest = rest ∙ ap (λ (l : List Y). l ++ flat_map give xs) (sym (none y e))

-- ---- one that changes

pub get_set : {X : Type 0} (xs : List X) (place : ℕ) (x : X) → place < length xs → slice_get (slice_set xs place x) place ≡ Some x
get_set [] place x within = absurd (omega (arith, within))
get_set (y ∷ xs) zero x within = refl
get_set (y ∷ xs) (suc place) x within = get_set xs place x (omega (arith, within))

pub get_set_other : {X : Type 0} (xs : List X) (place other : ℕ) (x : X) → (other ≡ place → ⊥)
    → slice_get (slice_set xs place x) other ≡ slice_get xs other
get_set_other [] place other x apart = refl
get_set_other (y ∷ xs) zero zero x apart = absurd (apart refl)
get_set_other (y ∷ xs) zero (suc other) x apart = refl
get_set_other (y ∷ xs) (suc place) zero x apart = refl
get_set_other (y ∷ xs) (suc place) (suc other) x apart = get_set_other xs place other x (λ e. apart (ap suc e))

pub set_length : {X : Type 0} (xs : List X) (place : ℕ) (x : X) → length (slice_set xs place x) ≡ length xs
set_length [] place x = refl
set_length (y ∷ xs) zero x = refl
set_length (y ∷ xs) (suc place) x = ap suc (set_length xs place x)

-- what stands at a place
pub found : {X : Type 0} (xs : List X) (place : ℕ) (x d : X) → slice_get xs place ≡ Some x → get_or xs place d ≡ x
found [] place x d e = absurd (none-some x e)
found (y ∷ xs) zero x d e = same_Some y x e
found (y ∷ xs) (suc place) x d e = found xs place x d e
