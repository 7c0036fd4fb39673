-- The kind: it is read exactly where it stands, and its faults.
use Rattle.std.proofs.Common.{◌≡◌, ℕ, eqb, [], ◌∷◌, Some, Ok, Err, refl, sym, ap, inl, inr}
use Rattle.std.proofs.lemmas.Bool.{eqb-true}
use Rattle.mv_base.specs.Octets.{Cursor, Passes}
use Rattle.mv_base.specs.Cursor.{octet_at}
use Rattle.mv_base.proofs.Fields.{passes_is, octet_taken, octet_again, octet_short, lacks_octet, bind_ok, bind_err, err_again, field_ok, known_ok, known_err, IsCode, code_none, code_past, chosen}
use Rattle.mldp.specs.declared.mldp_fec.fault.FecFault.{FecFault}
use Rattle.mldp.specs.declared.mldp_fec.fault.FecReason.TheVariants as reasons
use Rattle.mldp.specs.declared.mldp_fec.fec.FecKind.{FecKind}
use Rattle.mldp.specs.declared.mldp_fec.fec.FecKind.TheVariants.{P2mp, Up, Down}
use Rattle.mldp.specs.mldp_fec.Reading.{fault, part, kind_of, kind_at}
use Rattle.mldp.specs.mldp_fec.Spelling.{kind_octet}
use Rattle.mldp.specs.mldp_fec.FirstFault as faults
use Rattle.mldp.specs.mldp_fec.FirstFault.{KindFault}

kind_of_is : (n : ℕ) (k : FecKind) → kind_of n ≡ Some k → n ≡ kind_octet k
kind_of_is n k e =
    elim (chosen (eqb n 6) _ _ _ e) [
      | inl a ↦ let same : P2mp ≡ k = cc in rw (← same) (eqb-true n 6 a.0)
      | inr b ↦ elim (chosen (eqb n 7) _ _ _ b.1) [
        | inl a ↦ let same : Up ≡ k = cc in rw (← same) (eqb-true n 7 a.0)
        | inr b ↦ elim (chosen (eqb n 8) _ _ _ b.1) [
          | inl a ↦ let same : Down ≡ k = cc in rw (← same) (eqb-true n 8 a.0)
          | inr b ↦ absurd cc
        ]
      ]
    ]

kind_again_code : (k : FecKind) → kind_of (kind_octet k) ≡ Some k
kind_again_code P2mp = refl
kind_again_code Up = refl
kind_again_code Down = refl

kinds : IsCode kind_of kind_octet
kinds = record { is = kind_of_is; again = kind_again_code }

-- What is read stands there.
pub kind_taken : (c : Cursor) (x : FecKind × Cursor) → kind_at c ≡ Ok x → Passes c (kind_octet x.0 ∷ []) x.1
unfolding kind_at
kind_taken c x e =
    let a = bind_ok (part (octet_at c)) _ x e in
    let p = octet_taken c a.0 (field_ok _ (octet_at c) a.0 a.1) in
    let k = known_ok (kind_of a.0.0) (fault c.place reasons.Kind) a.0.1 x a.2 in
    passes_is c (a.0.0 ∷ []) (kind_octet x.0 ∷ []) a.0.1 x.1 p (ap (λ n. n ∷ []) (kinds.is a.0.0 x.0 k.0)) (sym k.1)

-- What stands there is read.
pub kind_again : (c : Cursor) (k : FecKind) (d : Cursor) → Passes c (kind_octet k ∷ []) d → kind_at c ≡ Ok (k, d)
unfolding kind_at
kind_again c k d p = rw (octet_again c (kind_octet k) d p, kinds.again k) refl

-- A fault that is answered is the first one.
pub kind_fails : (c : Cursor) (f : FecFault) → kind_at c ≡ Err f → KindFault c f
unfolding kind_at
kind_fails c f e =
    elim (bind_err (part (octet_at c)) _ f e) [
      | inl short ↦ faults.short (octet_short c (λ place. fault place reasons.Short) f short)
      | inr a ↦
          let k = known_err (kind_of a.0.0) (fault c.place reasons.Kind) a.0.1 f a.2 in
          faults.wrong a.0.0 a.0.1 (octet_taken c a.0 (field_ok _ (octet_at c) a.0 a.1)) (code_none kind_of kind_octet kinds a.0.0 k.0) k.1
    ]

-- The first fault is answered.
pub fails_kind : (c : Cursor) (f : FecFault) → KindFault c f → kind_at c ≡ Err f
unfolding kind_at
fails_kind c f (faults.short h) = rw (lacks_octet c h.0) (err_again (sym h.1))
fails_kind c f (faults.wrong octet d p other is) = rw (octet_again c octet d p, code_past kind_of kind_octet kinds octet other) (err_again (sym is))
