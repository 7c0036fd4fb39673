-- What is noted of labels, after a change.
use Rattle.std.proofs.Common.{◌≡◌, ℕ, suc, ◌+◌, ◌<◌, ◌^◌, Bool, true, false, not, cond, List, [], ◌∷◌, ◌++◌, length, get_or, position, Option, Some, None, Result, Ok, Err, refl, sym, ap, subst, ◌∙◌, arith}
use Rattle.std.specs.Prelude.{IfSome, IsOk, OnOk}
use Rattle.std.specs.List.{sum_by, swap_remove, position_or_len, prefix_len}
use Rattle.std.specs.Map.{lookup, keys_of}
use Rattle.std.specs.Option.{option_map_or}
use Rattle.std.proofs.lemmas.List.Sums.{sum_by-cons, sum_by-append, sum_by-swap_remove, count_by-le-length}
use Rattle.std.proofs.lemmas.Bool.{lt-ltb}
use Rattle.indexmap.specs.IndexMap.{swap_remove_entry}
use Rattle.label_defs.specs.mldp.declared.mldp_fec.fec.Fec.{Fec}
use Rattle.label_forwarding.specs.declared.branch.Branch.{Branch}
use Rattle.label_forwarding.specs.Slots.{is_fec, noted}

pub noted_push : (es : List (Branch × Fec)) (at : Branch) (fec own : Fec)
    → noted own (es ++ (at, fec) ∷ []) ≡ noted own es + cond (is_fec own fec) 1 0
noted_push es at fec own =
    let f : Branch × Fec → ℕ = λ note. cond (is_fec own note.1) 1 0 in
    let one = sum_by-append f es ((at, fec) ∷ []) in
    let last = sum_by-cons f (at, fec) [] in
    omega (arith, one, last)

place : (Branch → Bool) → List (Branch × Fec) → ℕ
place test es = position_or_len test (keys_of es)

place-cons : (test : Branch → Bool) (e : Branch × Fec) (es : List (Branch × Fec)) (t : Bool) → test e.0 ≡ t
    → place test (e ∷ es) ≡ cond t 0 (suc (place test es))
unfolding place
place-cons test e es true h = rw h refl
place-cons test e es false h = rw h (next (prefix_len (λ k. not (test k)) (keys_of es)))
  where
    next : (n : ℕ) → 1 + n ≡ suc n
    next n = omega arith

-- the first entry that passes is the one that is looked up
found : (test : Branch → Bool) (es : List (Branch × Fec)) (fec : Fec) → lookup test es ≡ Some fec
    → (place test es < length es) × ((d : Branch × Fec) → (get_or es (place test es) d).1 ≡ fec)
found test [] fec at = absurd cc
found test (e ∷ es) fec at = by (found test es fec) (test e.0) refl at
  where
    by : (lookup test es ≡ Some fec → (place test es < length es) × ((d : Branch × Fec) → (get_or es (place test es) d).1 ≡ fec))
        → (t : Bool) → test e.0 ≡ t → cond (test e.0) (Some e.1) (lookup test es) ≡ Some fec
        → (place test (e ∷ es) < length (e ∷ es)) × ((d : Branch × Fec) → (get_or (e ∷ es) (place test (e ∷ es)) d).1 ≡ fec)
    by thereafter true s at =
        let here : Some e.1 ≡ Some fec = sym (ap (λ (b : Bool). cond b (Some e.1) (lookup test es)) s) ∙ at in
        let same : e.1 ≡ fec = cc in
        subst (λ (i : ℕ). (i < length (e ∷ es)) × ((d : Branch × Fec) → (get_or (e ∷ es) i d).1 ≡ fec)) (sym (place-cons test e es true s))
        (omega arith, λ d. same)
    by thereafter false s at =
        let rest = thereafter (sym (ap (λ (b : Bool). cond b (Some e.1) (lookup test es)) s) ∙ at) in
        let lt : place test es < length es = rest.0 in
        subst (λ (i : ℕ). (i < length (e ∷ es)) × ((d : Branch × Fec) → (get_or (e ∷ es) i d).1 ≡ fec)) (sym (place-cons test e es false s))
        (omega arith, rest.1)

length-keys : (es : List (Branch × Fec)) → length (keys_of es) ≡ length es
length-keys [] = refl
length-keys (e ∷ es) = ap suc (length-keys es)

stands : (test : Branch → Bool) (es : List (Branch × Fec)) → place test es < length es → position test (keys_of es) ≡ Some (place test es)
unfolding place
stands test es lt =
    rw (lt-ltb (position_or_len test (keys_of es)) (length (keys_of es))
    (subst (λ (n : ℕ). position_or_len test (keys_of es) < n) (sym (length-keys es)) lt)) refl

pub noted_cut : (test : Branch → Bool) (es : List (Branch × Fec)) (fec own : Fec) → lookup test es ≡ Some fec
    → noted own (swap_remove_entry test es) + cond (is_fec own fec) 1 0 ≡ noted own es
noted_cut test [] fec own at = absurd cc
noted_cut test (e ∷ es) fec own at =
    let f : Branch × Fec → ℕ = λ note. cond (is_fec own note.1) 1 0 in
    let i : ℕ = place test (e ∷ es) in
    let here = found test (e ∷ es) fec at in
    let sum = sum_by-swap_remove f (e ∷ es) i e here.0 in
    let there : f (get_or (e ∷ es) i e) ≡ cond (is_fec own fec) 1 0 = ap (λ (x : Fec). cond (is_fec own x) 1 0) (here.1 e) in
    ap (λ (o : Option ℕ). noted own (option_map_or (λ j. swap_remove (e ∷ es) j e) o (e ∷ es)) + cond (is_fec own fec) 1 0)
    (stands test (e ∷ es) here.0)
    ∙ (ap (λ (n : ℕ). sum_by f (swap_remove (e ∷ es) i e) + n) (sym there) ∙ sum)

pub noted_few : (es : List (Branch × Fec)) (own : Fec) → length es < 2 ^ 64 → noted own es < 2 ^ 64
noted_few es own lt = omega (arith, count_by-le-length (λ (note : Branch × Fec). is_fec own note.1) es)

-- an answer that is there
pub ok_then : {A E P : Type 0} (r : Result A E) → IsOk r → OnOk r P → P
ok_then (Ok x) h p = p
ok_then (Err e) h p = absurd cc

pub some_then : (o : Option Fec) (P : Fec → Type 0) → ((fec : Fec) → o ≡ Some fec → P fec) → IfSome o P
some_then (Some fec) P f = f fec refl
some_then None P f = tt
