-- Family, address length and address of the root: read exactly where they stand, and their faults.
use Rattle.std.proofs.Common.{◌≡◌, ◌≢◌, ℕ, ◌^◌, ◌<◌, ◌⊎◌, eqb, List, [], ◌∷◌, ◌++◌, length, Some, Ok, Err, refl, sym, ap, subst, arith, inl, inr}
use Rattle.std.specs.Int.{w16, to_be_bytes}
use Rattle.std.proofs.lemmas.Bool.{eqb-true, eq-eqb, ne_eqb, eqb-false}
use Rattle.mv_base.specs.Address.{IsAddr}
use Rattle.mv_base.specs.declared.addr.Addr.{Addr}
use Rattle.mv_base.specs.declared.addr.Addr.TheVariants.{V4, V6}
use Rattle.mv_base.specs.Octets.{Cursor, Passes, IsOctets}
use Rattle.mv_base.specs.Cursor.{octet_at, octets_at, number_at, known}
use Rattle.mv_base.proofs.Fields.{passes_then, passes_is, passes_split, octets_taken, octets_again, octets_short, lacks_octets, octet_taken, octet_again, octet_short, lacks_octet, wide16, number_taken, number_again, number_short, lacks_number, bind_ok, bind_err, ok_is, err_again, field_ok, known_ok, known_err, checked_ok, checked_err, IsCode, code_none, code_past, chosen}
use Rattle.mldp.specs.declared.mldp_fec.fault.FecFault.{FecFault}
use Rattle.mldp.specs.declared.mldp_fec.fault.FecReason.TheVariants as reasons
use Rattle.mldp.specs.mldp_fec.Reading.{fault, part, version_of, addr_of, len_at, root_at}
use Rattle.mldp.specs.mldp_fec.Spelling.{root, Version, four, six, family, address_len}
use Rattle.mldp.specs.mldp_fec.FirstFault as faults
use Rattle.mldp.specs.mldp_fec.FirstFault.{Is, Lacks, RootFault}

version_of_is : (n : ℕ) (v : Version) → version_of n ≡ Some v → n ≡ family v
version_of_is n v e =
    elim (chosen (eqb n 1) _ _ _ e) [
      | inl a ↦ let same : four ≡ v = cc in rw (← same) (eqb-true n 1 a.0)
      | inr b ↦ elim (chosen (eqb n 2) _ _ _ b.1) [
        | inl a ↦ let same : six ≡ v = cc in rw (← same) (eqb-true n 2 a.0)
        | inr b ↦ absurd cc
      ]
    ]

version_again : (v : Version) → version_of (family v) ≡ Some v
version_again four = refl
version_again six = refl

versions : IsCode version_of family
versions = record { is = version_of_is; again = version_again }

family_below : (v : Version) → family v < 2 ^ 16
family_below four = omega arith
family_below six = omega arith

root_text : (v : Version) (octets : List ℕ) → to_be_bytes w16 (family v) ++ (address_len v ∷ octets) ≡ root (addr_of v octets)
root_text four octets = refl
root_text six octets = refl

is_addr : (v : Version) (octets : List ℕ) → length octets ≡ address_len v → IsAddr (addr_of v octets)
is_addr four octets h = h
is_addr six octets h = h

len_taken : (w : ℕ) (c : Cursor) (x : Unit {0} × Cursor) → len_at w c ≡ Ok x → Passes c (w ∷ []) x.1
len_taken w c x e =
    let a = bind_ok (part (octet_at c)) _ x e in
    let k = checked_ok (eqb a.0.0 w) (fault c.place reasons.AddressLength) (tt, a.0.1) x a.2 in
    passes_is c (a.0.0 ∷ []) (w ∷ []) a.0.1 x.1 (octet_taken c a.0 (field_ok _ (octet_at c) a.0 a.1)) (ap (λ n. n ∷ []) (eqb-true a.0.0 w k.0))
    (ap (λ p. p.1) (sym k.1))

len_again : (w : ℕ) (c : Cursor) (d : Cursor) → Passes c (w ∷ []) d → len_at w c ≡ Ok (tt, d)
len_again w c d p = rw (octet_again c w d p, eq-eqb w w refl) refl

-- What is read stands there.
pub root_taken : (c : Cursor) (x : Addr × Cursor) → IsOctets c.left → root_at c ≡ Ok x → Passes c (root x.0) x.1 × IsAddr x.0
unfolding root_at
root_taken c x fits e =
    let a = bind_ok (part (number_at w16 c)) _ x e in
    let b = bind_ok (known (version_of a.0.0) (fault c.place reasons.Family) a.0.1) _ x a.2 in
    let k = known_ok (version_of a.0.0) (fault c.place reasons.Family) a.0.1 b.0 b.1 in
    let v = b.0.0 in
    let l = bind_ok (len_at (address_len v) b.0.1) _ x b.2 in
    let o = bind_ok (part (octets_at (address_len v) l.0.1)) _ x l.2 in
    let p = number_taken w16 (2 ^ 16) wide16 c a.0 fits (field_ok _ (number_at w16 c) a.0 a.1) in
    let number : to_be_bytes w16 a.0.0 ≡ to_be_bytes w16 (family v) = ap (λ n. to_be_bytes w16 n) (versions.is a.0.0 v k.0) in
    let first = passes_is c (to_be_bytes w16 a.0.0) (to_be_bytes w16 (family v)) a.0.1 b.0.1 p.0 number (sym k.1) in
    let second = len_taken (address_len v) b.0.1 l.0 l.1 in
    let third = octets_taken (address_len v) l.0.1 o.0 (field_ok _ (octets_at (address_len v) l.0.1) o.0 o.1) in
    let both = passes_then b.0.1 (address_len v ∷ []) l.0.1 o.0.0 o.0.1 second third.0 in
    let all = passes_then c (to_be_bytes w16 (family v)) b.0.1 (address_len v ∷ o.0.0) o.0.1 first both in
    let made : Addr × Cursor = (addr_of v o.0.0, o.0.1) in
    let same : made ≡ x = ok_is made x o.2 in
    subst (λ (y : Addr × Cursor). Passes c (root y.0) y.1 × IsAddr y.0) same
    (passes_is c _ (root made.0) o.0.1 o.0.1 all (root_text v o.0.0) refl, is_addr v o.0.0 third.1)

root_again_at : (v : Version) (octets : List ℕ) (c d : Cursor) → Passes c (to_be_bytes w16 (family v) ++ (address_len v ∷ octets)) d
    → length octets ≡ address_len v → root_at c ≡ Ok (addr_of v octets, d)
unfolding root_at
root_again_at v octets c d p len =
    let s = passes_split c (to_be_bytes w16 (family v)) (address_len v ∷ octets) d p in
    let t = passes_split s.0 (address_len v ∷ []) octets d s.2 in
    rw (
      number_again w16 (2 ^ 16) wide16 c (family v) s.0 s.1 (family_below v),
      versions.again v,
      octet_again s.0 (address_len v) t.0 t.1,
      eq-eqb (address_len v) (address_len v) refl,
      octets_again (address_len v) t.0 octets d t.2 len,
    ) refl

-- What stands there is read.
pub root_again : (c : Cursor) (a : Addr) (d : Cursor) → Passes c (root a) d → IsAddr a → root_at c ≡ Ok (a, d)
root_again c (V4 octets) d p h = root_again_at four octets c d p h
root_again c (V6 octets) d p h = root_again_at six octets c d p h

len_fails : (w : ℕ) (c : Cursor) (f : FecFault) → len_at w c ≡ Err f
    → Lacks c 1 f ⊎ ((octet : ℕ) × (d : Cursor) × Passes c (octet ∷ []) d × (octet ≢ w) × Is f c.place reasons.AddressLength)
len_fails w c f e =
    elim (bind_err (part (octet_at c)) _ f e) [
      | inl short ↦ inl (octet_short c (λ place. fault place reasons.Short) f short)
      | inr a ↦
          let k = checked_err (eqb a.0.0 w) (fault c.place reasons.AddressLength) (tt, a.0.1) f a.2 in
          inr (a.0.0, a.0.1, octet_taken c a.0 (field_ok _ (octet_at c) a.0 a.1), eqb-false a.0.0 w k.0, k.1)
    ]

-- A fault that is answered is the first one.
pub root_fails : (c : Cursor) (f : FecFault) → IsOctets c.left → root_at c ≡ Err f → RootFault c f
unfolding root_at
root_fails c f fits e =
    elim (bind_err (part (number_at w16 c)) _ f e) [
      | inl short ↦ faults.family_short (number_short w16 c (λ place. fault place reasons.Short) f short)
      | inr a ↦
          let p = number_taken w16 (2 ^ 16) wide16 c a.0 fits (field_ok _ (number_at w16 c) a.0 a.1) in
          elim (bind_err (known (version_of a.0.0) (fault c.place reasons.Family) a.0.1) _ f a.2) [
            | inl unknown ↦
                let k = known_err (version_of a.0.0) (fault c.place reasons.Family) a.0.1 f unknown in
                faults.family_wrong a.0.0 a.0.1 p.0 p.1 (code_none version_of family versions a.0.0 k.0) k.1
            | inr b ↦
                let k = known_ok (version_of a.0.0) (fault c.place reasons.Family) a.0.1 b.0 b.1 in
                let v = b.0.0 in
                let number : to_be_bytes w16 a.0.0 ≡ to_be_bytes w16 (family v) = ap (λ n. to_be_bytes w16 n) (versions.is a.0.0 v k.0) in
                let first = passes_is c (to_be_bytes w16 a.0.0) (to_be_bytes w16 (family v)) a.0.1 b.0.1 p.0 number (sym k.1) in
                elim (bind_err (len_at (address_len v) b.0.1) _ f b.2) [
                  | inl wrong ↦ elim (len_fails (address_len v) b.0.1 f wrong) [
                    | inl short ↦ faults.len_short v b.0.1 first short
                    | inr w ↦ faults.len_wrong v b.0.1 w.0 w.1 first w.2 w.3 w.4
                  ]
                  | inr l ↦
                      let second = len_taken (address_len v) b.0.1 l.0 l.1 in
                      elim (bind_err (part (octets_at (address_len v) l.0.1)) _ f l.2) [
                        | inl short ↦ faults.address_short v b.0.1 l.0.1 first second
                            (octets_short (address_len v) l.0.1 (λ place. fault place reasons.Short) f short)
                        | inr o ↦ absurd cc
                      ]
                ]
          ]
    ]

-- The first fault is answered.
pub fails_root : (c : Cursor) (f : FecFault) → RootFault c f → root_at c ≡ Err f
unfolding root_at
fails_root c f (faults.family_short h) = rw (lacks_number w16 c h.0) (err_again (sym h.1))
fails_root c f (faults.family_wrong n d p lt other is) =
    rw (number_again w16 (2 ^ 16) wide16 c n d p lt, code_past version_of family versions n other) (err_again (sym is))
fails_root c f (faults.len_short v d p h) =
    rw (number_again w16 (2 ^ 16) wide16 c (family v) d p (family_below v), versions.again v, lacks_octet d h.0) (err_again (sym h.1))
fails_root c f (faults.len_wrong v d octet e p q other is) =
    rw (
      number_again w16 (2 ^ 16) wide16 c (family v) d p (family_below v),
      versions.again v,
      octet_again d octet e q,
      ne_eqb octet (address_len v) other,
    ) (err_again (sym is))
fails_root c f (faults.address_short v d e p q h) =
    rw (
      number_again w16 (2 ^ 16) wide16 c (family v) d p (family_below v),
      versions.again v,
      octet_again d (address_len v) e q,
      eq-eqb (address_len v) (address_len v) refl,
      lacks_octets (address_len v) e h.0,
    ) (err_again (sym h.1))
