-- The opaque length and the opaque value: read exactly where they stand, and their faults.
use Rattle.std.proofs.Common.{◌≡◌, ℕ, ◌+◌, ◌^◌, ◌≤◌, leb, List, length, Option, Some, None, Ok, Err, refl, sym, ap, subst, arith, inl, inr}
use Rattle.std.specs.Int.{w16, to_be_bytes}
use Rattle.std.proofs.lemmas.Bool.{leb-true, leb-false, le-leb, lt-leb}
use Rattle.mv_base.specs.framing.Walk.{walk}
use Rattle.mv_base.proofs.framing.Walks.{whole_again, whole_found, stop_again, stop_found}
use Rattle.mv_base.specs.Octets.{Cursor, Passes, IsOctets}
use Rattle.mv_base.specs.Cursor.{octets_at, number_at, checked}
use Rattle.mv_base.proofs.Fields.{passes_then, passes_octets, passes_is, passes_split, passes_text, octets_taken, octets_again, octets_short, lacks_octets, wide16, number_taken, number_again, number_short, lacks_number, bind_ok, bind_err, ok_is, err_again, field_ok, checked_ok, checked_err}
use Rattle.mldp.specs.declared.mldp_fec.fault.FecFault.{FecFault}
use Rattle.mldp.specs.declared.mldp_fec.fault.FecReason.TheVariants as reasons
use Rattle.mldp.specs.mldp_fec.Shape.{tlv_len}
use Rattle.mldp.specs.mldp_fec.Reading.{fault, part, shaped, opaque_at}
use Rattle.mldp.specs.mldp_fec.Spelling.{tlv, IsTlv, opaque, IsOpaque}
use Rattle.mldp.specs.mldp_fec.FirstFault as faults
use Rattle.mldp.specs.mldp_fec.FirstFault.{Is, OpaqueFault}
use Rattle.mldp.proofs.mldp_fec.TlvLemmas.{tlvs}

shaped_ok : {A : Type 0} (place : ℕ) (o : Option ℕ) (x y : A) → shaped place o x ≡ Ok y → (o ≡ None) × (x ≡ y)
shaped_ok place None x y e = (refl, ok_is x y e)
shaped_ok place (Some p) x y e = absurd cc

shaped_err : {A : Type 0} (place : ℕ) (o : Option ℕ) (x : A) (f : FecFault) → shaped place o x ≡ Err f
    → (offset : ℕ) × (o ≡ Some offset) × Is f (place + offset) reasons.OpaqueShape
shaped_err place None x f e = absurd cc
shaped_err place (Some p) x f e = (p, refl, cc)

-- What is read stands there.
pub opaque_taken : (c : Cursor) (x : List ℕ × Cursor) → IsOctets c.left → opaque_at c ≡ Ok x
    → Passes c (opaque x.0) x.1 × (length x.0 ≤ 64) × IsOpaque x.0
unfolding opaque_at
opaque_taken c x fits e =
    let a = bind_ok (part (number_at w16 c)) _ x e in
    let b = bind_ok (checked (leb a.0.0 64) (fault c.place reasons.OpaqueTooLong) a.0.1) _ x a.2 in
    let o = bind_ok (part (octets_at a.0.0 b.0)) _ x b.2 in
    let k = checked_ok (leb a.0.0 64) (fault c.place reasons.OpaqueTooLong) a.0.1 b.0 b.1 in
    let p = number_taken w16 (2 ^ 16) wide16 c a.0 fits (field_ok _ (number_at w16 c) a.0 a.1) in
    let q = octets_taken a.0.0 b.0 o.0 (field_ok _ (octets_at a.0.0 b.0) o.0 o.1) in
    let first =
    passes_is c (to_be_bytes w16 a.0.0) (to_be_bytes w16 (length o.0.0)) a.0.1 b.0 p.0 (ap (λ n. to_be_bytes w16 n) (sym q.1)) (sym k.1) in
    let s = shaped_ok b.0.place (walk tlv_len 0 0 o.0.0) o.0 x o.2 in
    let value_fits : IsOctets o.0.0 = passes_text b.0 o.0.0 o.0.1 q.0 (passes_octets c (to_be_bytes w16 (length o.0.0)) b.0 first fits) in
    let short : length o.0.0 ≤ 64 = omega (arith, q.1, leb-true a.0.0 64 k.0) in
    subst (λ (y : List ℕ × Cursor). Passes c (opaque y.0) y.1 × (length y.0 ≤ 64) × IsOpaque y.0) s.1
    (passes_then c (to_be_bytes w16 (length o.0.0)) b.0 o.0.0 o.0.1 first q.0, short, whole_found tlv_len tlv IsTlv tlvs o.0.0 value_fits s.0)

-- What stands there is read.
pub opaque_read : (c : Cursor) (value : List ℕ) (d : Cursor) → Passes c (opaque value) d → length value ≤ 64 → IsOpaque value
    → opaque_at c ≡ Ok (value, d)
unfolding opaque_at
opaque_read c value d p le shape =
    let s = passes_split c (to_be_bytes w16 (length value)) value d p in
    rw (
      number_again w16 (2 ^ 16) wide16 c (length value) s.0 s.1 (omega arith),
      le-leb (length value) 64 le,
      octets_again (length value) s.0 value d s.2 refl,
      whole_again tlv_len tlv IsTlv tlvs value shape,
    ) refl

-- A fault that is answered is the first one.
pub opaque_fails : (c : Cursor) (f : FecFault) → IsOctets c.left → opaque_at c ≡ Err f → OpaqueFault c f
unfolding opaque_at
opaque_fails c f fits e =
    elim (bind_err (part (number_at w16 c)) _ f e) [
      | inl short ↦ faults.len_short (number_short w16 c (λ place. fault place reasons.Short) f short)
      | inr a ↦
          let p = number_taken w16 (2 ^ 16) wide16 c a.0 fits (field_ok _ (number_at w16 c) a.0 a.1) in
          elim (bind_err (checked (leb a.0.0 64) (fault c.place reasons.OpaqueTooLong) a.0.1) _ f a.2) [
            | inl long ↦
                let k = checked_err (leb a.0.0 64) (fault c.place reasons.OpaqueTooLong) a.0.1 f long in
                faults.too_long a.0.0 a.0.1 p.0 p.1 (leb-false a.0.0 64 k.0) k.1
            | inr b ↦
                let k = checked_ok (leb a.0.0 64) (fault c.place reasons.OpaqueTooLong) a.0.1 b.0 b.1 in
                let first = passes_is c (to_be_bytes w16 a.0.0) (to_be_bytes w16 a.0.0) a.0.1 b.0 p.0 refl (sym k.1) in
                elim (bind_err (part (octets_at a.0.0 b.0)) _ f b.2) [
                  | inl short ↦ faults.short a.0.0 b.0 first (leb-true a.0.0 64 k.0)
                      (octets_short a.0.0 b.0 (λ place. fault place reasons.Short) f short)
                  | inr o ↦
                      let q = octets_taken a.0.0 b.0 o.0 (field_ok _ (octets_at a.0.0 b.0) o.0 o.1) in
                      let m = shaped_err b.0.place (walk tlv_len 0 0 o.0.0) o.0 f o.2 in
                      let sized =
                      passes_is c (to_be_bytes w16 a.0.0) (to_be_bytes w16 (length o.0.0)) b.0 b.0 first (ap (λ n. to_be_bytes w16 n) (sym q.1))
                      refl in
                      let value_fits : IsOctets o.0.0 = passes_text b.0 o.0.0 o.0.1 q.0 (passes_octets c (to_be_bytes w16 a.0.0) b.0 first fits) in
                      let short : length o.0.0 ≤ 64 = omega (arith, q.1, leb-true a.0.0 64 k.0) in
                      faults.misshapen o.0.0 b.0 o.0.1 m.0 sized short q.0 (stop_found tlv_len tlv IsTlv tlvs o.0.0 m.0 value_fits m.1) m.2
                ]
          ]
    ]

-- The first fault is answered.
pub fails_opaque : (c : Cursor) (f : FecFault) → IsOctets c.left → OpaqueFault c f → opaque_at c ≡ Err f
unfolding opaque_at
fails_opaque c f fits (faults.len_short h) = rw (lacks_number w16 c h.0) (err_again (sym h.1))
fails_opaque c f fits (faults.too_long n d p lt long is) = rw (number_again w16 (2 ^ 16) wide16 c n d p lt, lt-leb n 64 long) (err_again (sym is))
fails_opaque c f fits (faults.short n d p le h) =
    rw (number_again w16 (2 ^ 16) wide16 c n d p (omega arith), le-leb n 64 le, lacks_octets n d h.0) (err_again (sym h.1))
fails_opaque c f fits (faults.misshapen value d e offset p le q m is) =
    let value_fits : IsOctets value = passes_text d value e q (passes_octets c (to_be_bytes w16 (length value)) d p fits) in
    rw (
      number_again w16 (2 ^ 16) wide16 c (length value) d p (omega arith),
      le-leb (length value) 64 le,
      octets_again (length value) d value e q refl,
      stop_again tlv_len tlv IsTlv tlvs value offset value_fits m,
    ) (err_again (sym is))
