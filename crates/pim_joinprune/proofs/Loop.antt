-- The loop that reads elements: what was read, and what is still read, is what is read from the start.
use Rattle.std.proofs.Common.{◌≡◌, ℕ, suc, ◌+◌, ◌-◌, ◌<◌, ◌≤◌, List, [], ◌∷◌, ◌++◌, Ok, Err, refl, sym, ap, ◌∙◌, append_assoc, arith}
use Rattle.std.proofs.lemmas.List.{append-nil}
use Rattle.mv_base.specs.Cursor.{◌>>=◌}
use Rattle.pim_joinprune.specs.declared.fault.ReadFault.{ReadFault}
use Rattle.pim_joinprune.specs.declared.fault.ReadFault.TheVariants.{Bad, NoMemory}
use Rattle.pim_joinprune.specs.Fields.{Read, all_at}
use Rattle.pim_joinprune.specs.Answers.{Fails}

abbrev pub with_front : {A : Type 0} → List A → Read (List A) → Read (List A)
with_front front read = read >>= λ x. Ok (front ++ x.0, x.1)

regroup : {A : Type 0} (front : List A) (n : A) (read : Read (List A))
    → with_front front (read >>= λ x. Ok (n ∷ x.0, x.1)) ≡ with_front (front ++ n ∷ []) read
regroup {A} front n (Ok x) = ap (λ (ns : List A). Ok (ns, x.1)) (sym (append_assoc front (n ∷ []) x.0))
regroup front n (Err f) = refl

pub goes_on : {A : Type 0} (read : List ℕ → Read A) (front : List A) (count i : ℕ) (octets : List ℕ) (n : A) (after : List ℕ) (total : Read (List A))
    → i < count → read octets ≡ Ok (n, after)
    → with_front front (all_at read (count - i) octets) ≡ total → with_front (front ++ n ∷ []) (all_at read (count - (i + 1)) after) ≡ total
unfolding all_at
goes_on read front count i octets n after total lt h so_far =
    let k : count - i ≡ suc (count - (i + 1)) = omega arith in
    let one : with_front front (all_at read (count - i) octets) ≡ with_front (front ++ n ∷ []) (all_at read (count - (i + 1)) after) =
    rw (k, h) (regroup front n (all_at read (count - (i + 1)) after)) in
    sym one ∙ so_far

pub ends : {A : Type 0} (e : ReadFault) (read : List ℕ → Read A) (front : List A) (count i : ℕ) (octets : List ℕ) (total : Read (List A)) → i < count
    → Fails e (read octets)
    → with_front front (all_at read (count - i) octets) ≡ total → Fails e total
unfolding all_at
ends NoMemory read front count i octets total lt h so_far = tt
ends (Bad left fault) read front count i octets total lt h so_far =
    let k : count - i ≡ suc (count - (i + 1)) = omega arith in
    let one : with_front front (all_at read (count - i) octets) ≡ Err (left, fault) = rw (k, h) refl in
    sym so_far ∙ one

pub is_done : {A : Type 0} (read : List ℕ → Read A) (front : List A) (count i : ℕ) (octets : List ℕ) (total : Read (List A)) → count ≤ i
    → with_front front (all_at read (count - i) octets) ≡ total → total ≡ Ok (front, octets)
unfolding all_at
is_done {A} read front count i octets total le so_far =
    let k : count - i ≡ 0 = omega arith in
    let one : with_front front (all_at read (count - i) octets) ≡ Ok (front, octets) =
    rw k (ap (λ (ns : List A). Ok (ns, octets)) (append-nil front)) in
    sym so_far ∙ one
