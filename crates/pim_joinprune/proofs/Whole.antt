-- The whole message: it is read exactly where it is spelled, and its first fault.
use Rattle.std.proofs.Common.{◌≡◌, ◌≢◌, ℕ, suc, ◌+◌, ◌-◌, ◌/◌, ◌%◌, ◌^◌, ◌<◌, ◌≤◌, ◌⊎◌, eqb, List, [], ◌∷◌, ◌++◌, length, Ok, Err, refl, sym, ap, subst, ◌∙◌, arith, inl, inr}
use Rattle.std.specs.Prelude.{⊤}
use Rattle.std.specs.Int.{w16, from_be_bytes, to_be_bytes}
use Rattle.std.proofs.lemmas.Bool.{eqb-true, eqb-false, eq-eqb, ne_eqb}
use Rattle.std.proofs.lemmas.List.{append-nil, nil_from_length, length-append}
use Rattle.mv_base.specs.Octets.{IsOctets}
use Rattle.mv_base.specs.Cursor.{◌>>=◌, checked}
use Rattle.mv_base.proofs.Fields.{wide16, octets_before, octets_after, bind_ok, bind_err, checked_ok, checked_err, chosen, err_is}
use Rattle.pim_joinprune.specs.declared.fault.PimFault.{PimFault}
use Rattle.pim_joinprune.specs.declared.fault.PimFault.TheVariants as reasons
use Rattle.pim_joinprune.specs.declared.message.JoinPrune.{JoinPrune}
use Rattle.pim_joinprune.specs.Fields.{here, thereafter}
use Rattle.pim_joinprune.specs.Checksums.{sum_of}
use Rattle.pim_joinprune.specs.Reading.{fields_at, whole_of, typed, summed, headed, message_of}
use Rattle.pim_joinprune.specs.Spelling.{SpellsFields, Spells}
use Rattle.pim_joinprune.specs.FirstFault as faults
use Rattle.pim_joinprune.specs.FirstFault.{FieldsFail, Trails, RestFails, FirstFault}
use Rattle.pim_joinprune.proofs.PartReaders.{fields_reader}
use Rattle.pim_joinprune.proofs.Sizes.{rest_close}

abbrev at_fault : ℕ → PimFault → ℕ × PimFault
at_fault left fault = (left, fault)

-- Equal faults have equal parts.
first_is : (a c : ℕ) (b d : PimFault) → at_fault a b ≡ at_fault c d → a ≡ c
first_is a c b d e = ap (λ (f : ℕ × PimFault). f.0) e

second_is : (a c : ℕ) (b d : PimFault) → at_fault a b ≡ at_fault c d → b ≡ d
second_is a c b d e = ap (λ (f : ℕ × PimFault). f.1) e

-- ---- what stands after the checksum

whole_ok : (octets : List ℕ) (m : JoinPrune) → fields_at octets ≡ Ok (m, []) → whole_of octets ≡ Ok m
unfolding whole_of
whole_ok octets m e = rw e refl

whole_err : (octets : List ℕ) (f : ℕ × PimFault) → fields_at octets ≡ Err f → whole_of octets ≡ Err f
unfolding whole_of
whole_err octets f e = rw e refl

whole_more : (octets : List ℕ) (m : JoinPrune) (rest : List ℕ) → fields_at octets ≡ Ok (m, rest) → 0 < length rest
    → whole_of octets ≡ Err (length rest, reasons.Trailing)
unfolding whole_of
whole_more octets m rest e more = rw (e, ne_eqb (length rest) 0 (λ none. omega (arith, more, none))) refl

rest_taken : (octets : List ℕ) (m : JoinPrune) → IsOctets octets → whole_of octets ≡ Ok m → SpellsFields m octets
unfolding whole_of
rest_taken octets m fits e =
    let a = bind_ok (fields_at octets) (λ x. checked (eqb (length x.1) 0) (length x.1, reasons.Trailing) x.0) m e in
    let k = checked_ok (eqb (length a.0.1) 0) (length a.0.1, reasons.Trailing) a.0.0 m a.2 in
    let p = fields_reader.taken octets a.0 fits a.1 in
    let nothing : a.0.1 ≡ [] = nil_from_length a.0.1 (eqb-true _ _ k.0) in
    let whole : octets ≡ p.0 = p.2 ∙ ap (λ (xs : List ℕ). p.0 ++ xs) nothing ∙ append-nil p.0 in
    subst (λ (n : JoinPrune). SpellsFields n octets) (sym k.1) (subst (SpellsFields a.0.0) (sym whole) p.1)

rest_again : (m : JoinPrune) (text : List ℕ) → SpellsFields m text → whole_of text ≡ Ok m
rest_again m text s =
    whole_ok text m (ap fields_at (sym (append-nil text)) ∙ fields_reader.again m text [] s)

rest_fails : (octets : List ℕ) (left : ℕ) (fault : PimFault) → IsOctets octets → whole_of octets ≡ Err (left, fault) → RestFails octets left fault
unfolding whole_of
rest_fails octets left fault fits e =
    elim (bind_err (fields_at octets) (λ x. checked (eqb (length x.1) 0) (length x.1, reasons.Trailing) x.0) (left, fault) e) [
      | inl first ↦ here (fields_reader.fails octets left fault fits first)
      | inr a ↦
          let p = fields_reader.taken octets a.0 fits a.1 in
          let k = checked_err (eqb (length a.0.1) 0) (length a.0.1, reasons.Trailing) a.0.0 (left, fault) a.2 in
          let some = eqb-false _ _ k.0 in
          thereafter a.0.0 p.0 a.0.1 p.1 p.2 (trail a.0.1 left fault some k.1)
    ]
  where
    trail : (rest : List ℕ) (left : ℕ) (fault : PimFault) → length rest ≢ 0 → at_fault left fault ≡ at_fault (length rest) reasons.Trailing
        → Trails rest left fault
    trail rest left fault some is =
        record {
          more = omega (arith, some);
          at = first_is left (length rest) fault reasons.Trailing is;
          is =
              second_is left (length rest) fault reasons.Trailing is;
        }

fails_rest : (octets : List ℕ) (left : ℕ) (fault : PimFault) → RestFails octets left fault → whole_of octets ≡ Err (left, fault)
fails_rest octets left fault (here first) = whole_err octets (left, fault) (fields_reader.faulty octets left fault first)
fails_rest octets left fault (thereafter m text rest spells parts t) =
    whole_more octets m rest (ap fields_at parts ∙ fields_reader.again m text rest spells) t.more ∙ rw (t.at, t.is) refl

-- ---- version and type

typed_ok : (first len : ℕ) (x : ⊤) → typed first len ≡ Ok x → first ≡ 0x23
typed_ok first len x e =
    elim (chosen (eqb (first / 16) 2) _ _ _ e) [
      | inl a ↦
          let k = checked_ok (eqb (first % 16) 3) (len, reasons.PimType) tt x a.1 in
          omega (arith, eqb-true _ _ a.0, eqb-true _ _ k.0)
      | inr b ↦ absurd cc
    ]

typed_err : (first len left : ℕ) (fault : PimFault) → typed first len ≡ Err (left, fault)
    → ((first / 16 ≢ 2) × (left ≡ len) × (fault ≡ reasons.Version)) ⊎ ((first / 16 ≡ 2) × (first % 16 ≢ 3) × (left ≡ len) × (fault ≡ reasons.PimType))
typed_err first len left fault e =
    elim (chosen (eqb (first / 16) 2) _ _ _ e) [
      | inl a ↦
          let k = checked_err (eqb (first % 16) 3) (len, reasons.PimType) tt (left, fault) a.1 in
          inr (eqb-true _ _ a.0, eqb-false _ _ k.0, first_is left len fault reasons.PimType k.1, second_is left len fault reasons.PimType k.1)
      | inr b ↦
          let is : at_fault len reasons.Version ≡ at_fault left fault = err_is {A = ⊤} (len, reasons.Version) (left, fault) b.1 in
          inl (eqb-false _ _ b.0, sym (first_is len left reasons.Version fault is), sym (second_is len left reasons.Version fault is))
    ]

version_err : (first reserved sum : ℕ) (rest : List ℕ) → first / 16 ≢ 2 → headed first reserved sum rest ≡ Err (4 + length rest, reasons.Version)
version_err first reserved sum rest other = rw (ne_eqb (first / 16) 2 other) refl

type_err : (first reserved sum : ℕ) (rest : List ℕ) → first / 16 ≡ 2 → first % 16 ≢ 3
    → headed first reserved sum rest ≡ Err (4 + length rest, reasons.PimType)
type_err first reserved sum rest two other = rw (eq-eqb (first / 16) 2 two, ne_eqb (first % 16) 3 other) refl

-- ---- the checksum

sum_below : (reserved : ℕ) (rest : List ℕ) → sum_of 0x23 reserved rest < 2 ^ 16
unfolding sum_of
sum_below reserved rest = omega arith

summed_is : (reserved sum : ℕ) (rest : List ℕ) → sum_of 0x23 reserved rest ≡ sum → headed 0x23 reserved sum rest ≡ whole_of rest
summed_is reserved sum rest same = rw (eq-eqb (sum_of 0x23 reserved rest) sum same) refl

summed_err : (reserved sum : ℕ) (rest : List ℕ) → sum_of 0x23 reserved rest ≢ sum
    → headed 0x23 reserved sum rest ≡ Err (2 + length rest, reasons.Checksum)
summed_err reserved sum rest other = rw (ne_eqb (sum_of 0x23 reserved rest) sum other) refl

-- the octets of a message with that checksum
abbrev with_sum : ℕ → ℕ → List ℕ → List ℕ
with_sum reserved sum rest = 0x23 ∷ reserved ∷ (to_be_bytes w16 sum ++ rest)

message_is : (reserved sum : ℕ) (rest : List ℕ)
    → message_of (with_sum reserved sum rest) ≡ headed 0x23 reserved (from_be_bytes w16 (to_be_bytes w16 sum)) rest
unfolding message_of
message_is reserved sum rest = refl

summed_message : (reserved : ℕ) (rest : List ℕ) → message_of (with_sum reserved (sum_of 0x23 reserved rest) rest) ≡ whole_of rest
summed_message reserved rest =
    let sum = sum_of 0x23 reserved rest in
    message_is reserved sum rest ∙ summed_is reserved (from_be_bytes w16 (to_be_bytes w16 sum)) rest
    (sym (wide16.again sum (sum_below reserved rest)))

-- ---- what is read is spelled

headed_taken : (first reserved high low : ℕ) (rest : List ℕ) (m : JoinPrune) → IsOctets (first ∷ reserved ∷ high ∷ low ∷ rest)
    → headed first reserved (from_be_bytes w16 (high ∷ low ∷ [])) rest ≡ Ok m → Spells m (first ∷ reserved ∷ high ∷ low ∷ rest)
headed_taken first reserved high low rest m fits e =
    let octets : List ℕ = first ∷ reserved ∷ high ∷ low ∷ rest in
    let sum : ℕ = from_be_bytes w16 (high ∷ low ∷ []) in
    let a = bind_ok (typed first (4 + length rest)) (λ v. summed first reserved sum rest >>= λ c. whole_of rest) m e in
    let b = bind_ok (summed first reserved sum rest) (λ c. whole_of rest) m a.2 in
    let is : first ≡ 0x23 = typed_ok first (4 + length rest) a.0 a.1 in
    let k = checked_ok (eqb (sum_of first reserved rest) sum) (2 + length rest, reasons.Checksum) tt b.0 b.1 in
    let same : sum_of 0x23 reserved rest ≡ sum = ap (λ (n : ℕ). sum_of n reserved rest) (sym is) ∙ eqb-true _ _ k.0 in
    let two : IsOctets (high ∷ low ∷ []) = octets_before 2 (high ∷ low ∷ rest) (octets_after 2 octets fits) in
    let words : to_be_bytes w16 (sum_of 0x23 reserved rest) ≡ high ∷ low ∷ [] = ap (to_be_bytes w16) same ∙ wide16.back (high ∷ low ∷ []) refl two in
    record {
      reserved = reserved;
      octet = fits 1;
      fields = rest;
      spelled = rest_taken rest m (octets_after 4 octets fits) b.2;
      octets = ap (λ (n : ℕ). n ∷ reserved ∷ high ∷ low ∷ rest) is ∙ ap (λ (xs : List ℕ). 0x23 ∷ reserved ∷ (xs ++ rest)) (sym words);
    }

pub message_taken : (octets : List ℕ) (m : JoinPrune) → IsOctets octets → message_of octets ≡ Ok m → Spells m octets
unfolding message_of
message_taken [] m fits e = absurd cc
message_taken (a ∷ []) m fits e = absurd cc
message_taken (a ∷ b ∷ []) m fits e = absurd cc
message_taken (a ∷ b ∷ c ∷ []) m fits e = absurd cc
message_taken (a ∷ b ∷ c ∷ d ∷ rest) m fits e = headed_taken a b c d rest m fits e

pub message_again : (m : JoinPrune) (text : List ℕ) → Spells m text → message_of text ≡ Ok m
message_again m text s = ap message_of s.octets ∙ summed_message s.reserved s.fields ∙ rest_again m s.fields s.spelled

-- ---- first faults

-- the fault that stands there, and the octets from there on
abbrev Stands : List ℕ → ℕ → PimFault → Type 0
Stands octets left fault = (place : ℕ) × FirstFault octets place fault × (place + left ≡ length octets)

headed_fails : (first reserved high low : ℕ) (rest : List ℕ) (left : ℕ) (fault : PimFault) → IsOctets (first ∷ reserved ∷ high ∷ low ∷ rest)
    → headed first reserved (from_be_bytes w16 (high ∷ low ∷ [])) rest ≡ Err (left, fault) → Stands (first ∷ reserved ∷ high ∷ low ∷ rest) left fault
headed_fails first reserved high low rest left fault fits e =
    let octets : List ℕ = first ∷ reserved ∷ high ∷ low ∷ rest in
    let sum : ℕ = from_be_bytes w16 (high ∷ low ∷ []) in
    elim (bind_err (typed first (4 + length rest)) (λ v. summed first reserved sum rest >>= λ c. whole_of rest) (left, fault) e) [
      | inl head ↦ elim (typed_err first (4 + length rest) left fault head) [
        | inl v ↦ (0, faults.version first (reserved ∷ high ∷ low ∷ rest) refl (omega arith) v.0 refl v.2, omega (arith, v.1))
        | inr t ↦ (0, faults.type first (reserved ∷ high ∷ low ∷ rest) refl (omega arith) t.0 t.1 refl t.3, omega (arith, t.2))
      ]
      | inr a ↦
          let is : first ≡ 0x23 = typed_ok first (4 + length rest) a.0 a.1 in
          summed_fails first reserved high low rest left fault fits is a.2
    ]
  where
    summed_fails : (first reserved high low : ℕ) (rest : List ℕ) (left : ℕ) (fault : PimFault) → IsOctets (first ∷ reserved ∷ high ∷ low ∷ rest)
        → first ≡ 0x23 → (summed first reserved (from_be_bytes w16 (high ∷ low ∷ [])) rest >>= λ c. whole_of rest) ≡ Err (left, fault)
        → Stands (first ∷ reserved ∷ high ∷ low ∷ rest) left fault
    summed_fails first reserved high low rest left fault fits is e =
        let octets : List ℕ = first ∷ reserved ∷ high ∷ low ∷ rest in
        let sum : ℕ = from_be_bytes w16 (high ∷ low ∷ []) in
        let head : octets ≡ 0x23 ∷ reserved ∷ high ∷ low ∷ rest = ap (λ (n : ℕ). n ∷ reserved ∷ high ∷ low ∷ rest) is in
        let two : IsOctets (high ∷ low ∷ []) = octets_before 2 (high ∷ low ∷ rest) (octets_after 2 octets fits) in
        let moved : sum_of 0x23 reserved rest ≡ sum_of first reserved rest = ap (λ (n : ℕ). sum_of n reserved rest) (sym is) in
        elim (bind_err (summed first reserved sum rest) (λ c. whole_of rest) (left, fault) e) [
          | inl wrong ↦
              let k = checked_err (eqb (sum_of first reserved rest) sum) (2 + length rest, reasons.Checksum) tt (left, fault) wrong in
              let other = eqb-false _ _ k.0 in
              let differ : high ∷ low ∷ [] ≢ to_be_bytes w16 (sum_of 0x23 reserved rest) =
              λ same. other (sym moved ∙ sym (ap (from_be_bytes w16) same ∙ wide16.again (sum_of 0x23 reserved rest) (sum_below reserved rest)))
              in (
                2,
                faults.sum reserved (high ∷ low ∷ []) rest head refl differ refl (second_is left (2 + length rest) fault reasons.Checksum k.1),
                omega (arith, first_is left (2 + length rest) fault reasons.Checksum k.1),
              )
          | inr b ↦
              let k = checked_ok (eqb (sum_of first reserved rest) sum) (2 + length rest, reasons.Checksum) tt b.0 b.1 in
              let same : sum_of 0x23 reserved rest ≡ sum = moved ∙ eqb-true _ _ k.0 in
              let words : to_be_bytes w16 (sum_of 0x23 reserved rest) ≡ high ∷ low ∷ [] =
              ap (to_be_bytes w16) same ∙ wide16.back (high ∷ low ∷ []) refl two in
              let f = rest_fails rest left fault (octets_after 4 octets fits) b.2 in
              let near = rest_close rest left fault f in
              let at : (4 + length rest - left) + left ≡ length (first ∷ reserved ∷ high ∷ low ∷ rest) = omega (arith, near.0) in (
                4 + length rest - left,
                faults.field reserved rest left (head ∙ ap (λ (xs : List ℕ). 0x23 ∷ reserved ∷ (xs ++ rest)) (sym words)) f at,
                at,
              )
        ]

short_stands : (octets : List ℕ) (left : ℕ) (fault : PimFault) → length octets < 4 → at_fault 0 reasons.Short ≡ at_fault left fault
    → Stands octets left fault
short_stands octets left fault few is =
    (length octets, faults.short few refl (sym (second_is 0 left reasons.Short fault is)), omega (arith, first_is 0 left reasons.Short fault is))

-- A fault that is answered is the first one.
pub message_fails : (octets : List ℕ) (left : ℕ) (fault : PimFault) → IsOctets octets → message_of octets ≡ Err (left, fault)
    → Stands octets left fault
unfolding message_of
message_fails [] left fault fits e = short_stands [] left fault (omega arith) (err_is {A = JoinPrune} (0, reasons.Short) (left, fault) e)
message_fails (a ∷ []) left fault fits e = short_stands (a ∷ []) left fault (omega arith) (err_is {A = JoinPrune} (0, reasons.Short) (left, fault) e)
message_fails (a ∷ b ∷ []) left fault fits e =
    short_stands (a ∷ b ∷ []) left fault (omega arith) (err_is {A = JoinPrune} (0, reasons.Short) (left, fault) e)
message_fails (a ∷ b ∷ c ∷ []) left fault fits e =
    short_stands (a ∷ b ∷ c ∷ []) left fault (omega arith) (err_is {A = JoinPrune} (0, reasons.Short) (left, fault) e)
message_fails (a ∷ b ∷ c ∷ d ∷ rest) left fault fits e = headed_fails a b c d rest left fault fits e

-- what is answered where a fault stands
abbrev Answered : List ℕ → ℕ → PimFault → Type 0
Answered octets place fault = (left : ℕ) × (message_of octets ≡ Err (left, fault)) × (length octets - left ≡ place)

short_answered : (octets : List ℕ) → length octets < 4 → message_of octets ≡ Err (0, reasons.Short)
unfolding message_of
short_answered [] few = refl
short_answered (a ∷ []) few = refl
short_answered (a ∷ b ∷ []) few = refl
short_answered (a ∷ b ∷ c ∷ []) few = refl
short_answered (a ∷ b ∷ c ∷ d ∷ rest) few = absurd (omega (arith, few))

version_answered : (first : ℕ) (rest : List ℕ) → 3 ≤ length rest → first / 16 ≢ 2
    → message_of (first ∷ rest) ≡ Err (suc (length rest), reasons.Version)
unfolding message_of
version_answered first [] few other = absurd (omega (arith, few))
version_answered first (b ∷ []) few other = absurd (omega (arith, few))
version_answered first (b ∷ c ∷ []) few other = absurd (omega (arith, few))
version_answered first (b ∷ c ∷ d ∷ rest) few other =
    version_err first b (from_be_bytes w16 (c ∷ d ∷ [])) rest other ∙ ap (λ (n : ℕ). Err (n, reasons.Version)) (omega arith)

type_answered : (first : ℕ) (rest : List ℕ) → 3 ≤ length rest → first / 16 ≡ 2 → first % 16 ≢ 3
    → message_of (first ∷ rest) ≡ Err (suc (length rest), reasons.PimType)
unfolding message_of
type_answered first [] few two other = absurd (omega (arith, few))
type_answered first (b ∷ []) few two other = absurd (omega (arith, few))
type_answered first (b ∷ c ∷ []) few two other = absurd (omega (arith, few))
type_answered first (b ∷ c ∷ d ∷ rest) few two other =
    type_err first b (from_be_bytes w16 (c ∷ d ∷ [])) rest two other ∙ ap (λ (n : ℕ). Err (n, reasons.PimType)) (omega arith)

sum_answered : (reserved : ℕ) (sum fields : List ℕ) → IsOctets (0x23 ∷ reserved ∷ (sum ++ fields)) → length sum ≡ 2
    → sum ≢ to_be_bytes w16 (sum_of 0x23 reserved fields) → message_of (0x23 ∷ reserved ∷ (sum ++ fields)) ≡ Err (2 + length fields, reasons.Checksum)
unfolding message_of
sum_answered reserved [] fields fits len differ = absurd (omega (arith, len))
sum_answered reserved (a ∷ []) fields fits len differ = absurd (omega (arith, len))
sum_answered reserved (a ∷ b ∷ []) fields fits len differ =
    let two : IsOctets (a ∷ b ∷ []) = octets_before 2 (a ∷ b ∷ fields) (octets_after 2 (0x23 ∷ reserved ∷ a ∷ b ∷ fields) fits) in
    summed_err reserved (from_be_bytes w16 (a ∷ b ∷ [])) fields (λ same. differ (sym (ap (to_be_bytes w16) same ∙ wide16.back (a ∷ b ∷ []) refl two)))
sum_answered reserved (a ∷ b ∷ c ∷ more) fields fits len differ = absurd (omega (arith, len))

-- The first fault is answered.
pub fails_message : (octets : List ℕ) (place : ℕ) (fault : PimFault) → IsOctets octets → FirstFault octets place fault → Answered octets place fault
fails_message octets place fault fits (faults.short few at is) =
    (0, short_answered octets few ∙ ap (λ (g : PimFault). Err (0, g)) (sym is), omega (arith, at))
fails_message octets place fault fits (faults.version first rest parts long other at is) = (
  suc (length rest),
  ap message_of parts ∙ version_answered first rest long other ∙ ap (λ (g : PimFault). Err (suc (length rest), g)) (sym is),
  omega (arith, at, ap (λ (xs : List ℕ). length xs) parts),
)
fails_message octets place fault fits (faults.type first rest parts long two other at is) = (
  suc (length rest),
  ap message_of parts ∙ type_answered first rest long two other ∙ ap (λ (g : PimFault). Err (suc (length rest), g)) (sym is),
  omega (arith, at, ap (λ (xs : List ℕ). length xs) parts),
)
fails_message octets place fault fits (faults.sum reserved sum fields parts len differ at is) = (
  2 + length fields,
  ap message_of parts ∙ sum_answered reserved sum fields (subst IsOctets parts fits) len differ
      ∙ ap (λ (g : PimFault). Err (2 + length fields, g)) (sym is),
  omega (arith, at, ap (λ (xs : List ℕ). length xs) parts, length-append sum fields, len),
)
fails_message octets place fault fits (faults.field reserved fields left parts wrong at) =
    (left, ap message_of parts ∙ summed_message reserved fields ∙ fails_rest fields left fault wrong, omega (arith, at))

-- A fault stands among the octets or right after them, and its place has 32 bits.
pub fault_within : (octets : List ℕ) (place : ℕ) (fault : PimFault) → FirstFault octets place fault → (place ≤ length octets) × (place < 2 ^ 32)
fault_within octets place fault (faults.short few at is) = (omega (arith, at), omega (arith, at, few))
fault_within octets place fault (faults.version first rest parts long other at is) = (omega (arith, at), omega (arith, at))
fault_within octets place fault (faults.type first rest parts long two other at is) = (omega (arith, at), omega (arith, at))
fault_within octets place fault (faults.sum reserved sum fields parts len differ at is) =
    (omega (arith, at, ap (λ (xs : List ℕ). length xs) parts), omega (arith, at))
fault_within octets place fault (faults.field reserved fields left parts wrong at) =
    let near = rest_close fields left fault wrong in
    (omega (arith, at), omega (arith, at, near.1, ap (λ (xs : List ℕ). length xs) parts))
