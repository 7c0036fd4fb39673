-- What the calls promise.
use Rattle.std.proofs.Common.{◌≡◌, ℕ, ◌+◌, ◌≤◌, List, [], ◌∷◌, ◌++◌, length, take, drop, Result, Ok, Err, refl, sym, ap, subst, ◌∙◌, append_assoc, arith, inl, inr}
use Rattle.std.specs.Int.{w16, to_be_bytes}
use Rattle.std.specs.List.{flat_map}
use Rattle.std.specs.Prelude.{IfOk, IfErr}
use Rattle.std.proofs.Math.Nat.{zero-add}
use Rattle.std.proofs.lemmas.Bool.{cases_lt}
use Rattle.std.proofs.lemmas.List.{take_at, take_all, take-append-drop, length-append, length-take-le}
use Rattle.mv_base.specs.Address.{IsAddr}
use Rattle.mv_base.specs.declared.addr.Addr.{Addr}
use Rattle.mv_base.specs.declared.addr.Addr.TheVariants.{V4, V6}
use Rattle.mv_base.specs.Octets.{Cursor, Passes, IsOctets}
use Rattle.mv_base.specs.Cursor.{start, IsRead}
use Rattle.mv_base.proofs.Fields.{octets_before, passes_end, ok_is, err_is, ok_or_err, err_again, pair_is}
use Rattle.mldp.specs.declared.mldp_fec.fault.FecFault.{FecFault}
use Rattle.mldp.specs.declared.mldp_fec.fault.FecReason.{FecReason}
use Rattle.mldp.specs.declared.mldp_fec.fault.FecReason.TheVariants as reasons
use Rattle.mldp.specs.declared.mldp_fec.fec.Fec.{Fec}
use Rattle.mldp.specs.mldp_fec.Reading.{fec_at}
use Rattle.mldp.specs.mldp_fec.Spelling.{tlv, kind_octet, root, written, Spells, Version, four, six, family, address_len}
use Rattle.mldp.specs.mldp_fec.FirstFault as faults
use Rattle.mldp.specs.mldp_fec.FirstFault.{Is, Lacks, KindFault, RootFault, OpaqueFault, FirstFault}
use Rattle.mldp.proofs.mldp_fec.FecLemmas.{fec_taken, fec_again, fec_fails, fails_fec}

-- ---- octets after the first 86 change nothing

-- more octets after those that are left
abbrev longer : Cursor → List ℕ → Cursor
longer c more = record { left = c.left ++ more; place = c.place }

further : (c : Cursor) (text : List ℕ) (d : Cursor) (more : List ℕ) → Passes c text d → Passes (longer c more) text (longer d more)
further c text d more p = record {
  parts = ap (λ (xs : List ℕ). xs ++ more) p.parts ∙ append_assoc text d.left more;
  place = p.place;
}

-- so many octets are there
enough : {P : Type 0} (c : Cursor) (n : ℕ) (f : FecFault) → n ≤ length c.left → Lacks c n f → P
enough c n f room lack = absurd (omega (arith, lack.0))

len_room : (v : Version) → address_len v ≤ 16
len_room four = omega arith
len_room six = omega arith

left_of : (c : Cursor) (text : List ℕ) (d : Cursor) → Passes c text d → length c.left ≡ length text + length d.left
left_of c text d p = ap (λ (xs : List ℕ). length xs) p.parts ∙ length-append text d.left

kind_longer : (c : Cursor) (f : FecFault) (more : List ℕ) → 1 ≤ length c.left → KindFault c f → KindFault (longer c more) f
kind_longer c f more room (faults.short h) = enough c 1 f room h
kind_longer c f more room (faults.wrong octet d p other is) = faults.wrong octet (longer d more) (further c (octet ∷ []) d more p) other is

root_longer : (c : Cursor) (f : FecFault) (more : List ℕ) → 19 ≤ length c.left → RootFault c f → RootFault (longer c more) f
root_longer c f more room (faults.family_short h) = enough c 2 f (omega (arith, room)) h
root_longer c f more room (faults.family_wrong n d p lt other is) =
    faults.family_wrong n (longer d more) (further c (to_be_bytes w16 n) d more p) lt other is
root_longer c f more room (faults.len_short v d p h) = enough d 1 f (omega (arith, room, left_of c (to_be_bytes w16 (family v)) d p)) h
root_longer c f more room (faults.len_wrong v d octet e p q other is) =
    faults.len_wrong v (longer d more) octet (longer e more) (further c (to_be_bytes w16 (family v)) d more p) (further d (octet ∷ []) e more q) other
    is
root_longer c f more room (faults.address_short v d e p q h) =
    enough e (address_len v) f (omega (arith, room, len_room v, left_of c (to_be_bytes w16 (family v)) d p, left_of d (address_len v ∷ []) e q)) h

opaque_longer : (c : Cursor) (f : FecFault) (more : List ℕ) → 66 ≤ length c.left → OpaqueFault c f → OpaqueFault (longer c more) f
opaque_longer c f more room (faults.len_short h) = enough c 2 f (omega (arith, room)) h
opaque_longer c f more room (faults.too_long n d p lt long is) = faults.too_long n (longer d more) (further c (to_be_bytes w16 n) d more p) lt long is
opaque_longer c f more room (faults.short n d p le h) = enough d n f (omega (arith, room, le, left_of c (to_be_bytes w16 n) d p)) h
opaque_longer c f more room (faults.misshapen value d e offset p le q m is) =
    faults.misshapen value (longer d more) (longer e more) offset (further c (to_be_bytes w16 (length value)) d more p) le (further d value e more q)
    m is

root_room : (a : Addr) → IsAddr a → length (root a) ≤ 19
root_room (V4 octets) h = omega (arith, h)
root_room (V6 octets) h = omega (arith, h)

first_longer : (c : Cursor) (f : FecFault) (more : List ℕ) → 86 ≤ length c.left → FirstFault c f → FirstFault (longer c more) f
first_longer c f more room (faults.in_kind h) = faults.in_kind (kind_longer c f more (omega (arith, room)) h)
first_longer c f more room (faults.in_root k d p h) =
    faults.in_root k (longer d more) (further c (kind_octet k ∷ []) d more p)
    (root_longer d f more (omega (arith, room, left_of c (kind_octet k ∷ []) d p)) h)
first_longer c f more room (faults.in_opaque k a d e p addr q h) =
    faults.in_opaque k a (longer d more) (longer e more) (further c (kind_octet k ∷ []) d more p) addr (further d (root a) e more q)
    (opaque_longer e f more (omega (arith, room, root_room a addr, left_of c (kind_octet k ∷ []) d p, left_of d (root a) e q)) h)

-- What is read of a front of at least 86 octets is read of all.
front_read : (r : Result (Fec × ℕ) FecFault) (front more : List ℕ) → IsOctets front → IsOctets (front ++ more) → 86 ≤ length front
    → IsRead r (fec_at (start front)) → IsRead r (fec_at (start (front ++ more)))
front_read (Ok x) front more fits all room h =
    let t = fec_taken (start front) (x.0, h.0) fits h.1 in (
      longer h.0 more,
      fec_again (start (front ++ more)) x.0 (written x.0) (longer h.0 more) t.1 (further (start front) (written x.0) h.0 more t.0),
      h.2,
    )
front_read (Err f) front more fits all room h =
    fails_fec (start (front ++ more)) f all (first_longer (start front) f more room (fec_fails (start front) f fits h))

-- What is read of the first 86 octets is read of all.
pub all_read : (r : Result (Fec × ℕ) FecFault) (bytes : List ℕ) → IsOctets bytes → IsRead r (fec_at (start (take 86 bytes)))
    → IsRead r (fec_at (start bytes))
all_read r bytes fits h =
    elim (cases_lt 86 (length bytes)) [
      | inl more ↦
          let parts : take 86 bytes ++ drop 86 bytes ≡ bytes = take-append-drop 86 bytes in
          let len : length (take 86 bytes) ≡ 86 = length-take-le 86 bytes (omega (arith, more)) in
          let all : IsOctets (take 86 bytes ++ drop 86 bytes) = subst IsOctets (sym parts) fits in
          subst (λ (xs : List ℕ). IsRead r (fec_at (start xs))) parts
          (front_read r (take 86 bytes) (drop 86 bytes) (octets_before 86 bytes fits) all (omega (arith, len)) h)
      | inr few ↦ subst (λ (xs : List ℕ). IsRead r (fec_at (start xs))) (take_all 86 bytes (omega (arith, few))) h
    ]

-- ---- where a fault stands

is_at : (f : FecFault) (place n : ℕ) (reason : FecReason) → Is f place reason → place ≤ n → f.place ≤ n
is_at f place n reason is le = omega (arith, ap (λ (g : FecFault). g.place) is)

root_within : (c : Cursor) (f : FecFault) → RootFault c f → f.place ≤ c.place + length c.left
root_within c f (faults.family_short h) = is_at f c.place _ reasons.Short h.1 (omega arith)
root_within c f (faults.family_wrong n d p lt other is) = is_at f c.place _ reasons.Family is (omega arith)
root_within c f (faults.len_short v d p h) = is_at f d.place _ reasons.Short h.1 (omega (arith, passes_end c _ d p))
root_within c f (faults.len_wrong v d octet e p q other is) = is_at f d.place _ reasons.AddressLength is (omega (arith, passes_end c _ d p))
root_within c f (faults.address_short v d e p q h) = is_at f e.place _ reasons.Short h.1 (omega (arith, passes_end c _ d p, passes_end d _ e q))

opaque_within : (c : Cursor) (f : FecFault) → OpaqueFault c f → f.place ≤ c.place + length c.left
opaque_within c f (faults.len_short h) = is_at f c.place _ reasons.Short h.1 (omega arith)
opaque_within c f (faults.too_long n d p lt long is) = is_at f c.place _ reasons.OpaqueTooLong is (omega arith)
opaque_within c f (faults.short n d p le h) = is_at f d.place _ reasons.Short h.1 (omega (arith, passes_end c _ d p))
opaque_within c f (faults.misshapen value d e offset p le q m is) =
    is_at f (d.place + offset) _ reasons.OpaqueShape is
    (omega (
      arith,
      passes_end c _ d p,
      q.place,
      passes_end d value e q,
      m.place,
      ap (λ (xs : List ℕ). length xs) m.parts,
      length-append (flat_map tlv m.elements) m.rest,
    ))

-- A fault stands within the octets or right after them.
fault_within : (c : Cursor) (f : FecFault) → FirstFault c f → f.place ≤ c.place + length c.left
fault_within c f (faults.in_kind (faults.short h)) = is_at f c.place _ reasons.Short h.1 (omega arith)
fault_within c f (faults.in_kind (faults.wrong octet d p other is)) = is_at f c.place _ reasons.Kind is (omega arith)
fault_within c f (faults.in_root k d p h) = omega (arith, root_within d f h, passes_end c _ d p)
fault_within c f (faults.in_opaque k a d e p addr q h) = omega (arith, opaque_within e f h, passes_end c _ d p, passes_end d _ e q)

-- ---- what decoding promises

is_spelled : (bytes : List ℕ) (x : Fec × ℕ) (d : Cursor) → IsOctets bytes → fec_at (start bytes) ≡ Ok (x.0, d) → x.1 ≡ d.place
    → Spells x.0 (take x.1 bytes) × (x.1 ≤ length bytes)
is_spelled bytes x d fits e at =
    let t = fec_taken (start bytes) (x.0, d) fits e in
    let len : x.1 ≡ length (written x.0) = omega (arith, at, t.0.place) in
    let front : take x.1 bytes ≡ written x.0 = ap (λ (xs : List ℕ). take x.1 xs) t.0.parts ∙ take_at (written x.0) d.left x.1 (sym len) in (
      record { root = t.1.root; fits = t.1.fits; shape = t.1.shape; octets = front },
      omega (arith, len, ap (λ (xs : List ℕ). length xs) t.0.parts, length-append (written x.0) d.left),
    )

-- What was answered is spelled, or is the first fault.
pub read_is : (r : Result (Fec × ℕ) FecFault) (bytes : List ℕ) → IsOctets bytes → IsRead r (fec_at (start bytes))
    → IfOk r (λ x. Spells x.0 (take x.1 bytes) × (x.1 ≤ length bytes)) × IfErr r (λ f. FirstFault (start bytes) f)
read_is (Ok x) bytes fits h = (is_spelled bytes x h.0 fits h.1 h.2, tt)
read_is (Err f) bytes fits h = (tt, fec_fails (start bytes) f fits h)

-- What is spelled is answered.
pub spelled_is_read : (r : Result (Fec × ℕ) FecFault) (bytes : List ℕ) → IsRead r (fec_at (start bytes)) → (f : Fec) (text rest : List ℕ)
    → Spells f text → bytes ≡ text ++ rest → r ≡ Ok (f, length text)
spelled_is_read (Ok x) bytes h f text rest spelled parts =
    let p : Passes (start bytes) text (record { left = rest; place = 0 + length text }) = record { parts = parts; place = refl } in
    let same : Ok (x.0, h.0) ≡ Ok (f, record { left = rest; place = 0 + length text }) =
    sym h.1 ∙ fec_again (start bytes) f text (record { left = rest; place = 0 + length text }) spelled p in
    let both : (x.0, h.0) ≡ (f, record { left = rest; place = 0 + length text }) = ok_is _ _ same in
    let place : x.1 ≡ length text = h.2 ∙ ap (λ (y : Fec × Cursor). y.1.place) both ∙ zero-add (length text) in
    let made : x ≡ (f, length text) = pair_is x (f, length text) (ap (λ (y : Fec × Cursor). y.0) both) place in
    ap (λ (y : Fec × ℕ). Ok y) made
spelled_is_read (Err e) bytes h f text rest spelled parts =
    let p : Passes (start bytes) text (record { left = rest; place = 0 + length text }) = record { parts = parts; place = refl } in
    ok_or_err (f, record { left = rest; place = 0 + length text }) e
    (sym (fec_again (start bytes) f text (record { left = rest; place = 0 + length text }) spelled p) ∙ h)

-- The first fault is answered.
pub fault_is_read : (r : Result (Fec × ℕ) FecFault) (bytes : List ℕ) → IsOctets bytes → IsRead r (fec_at (start bytes)) → (f : FecFault)
    → FirstFault (start bytes) f → r ≡ Err f
fault_is_read (Ok x) bytes fits h f first = ok_or_err (x.0, h.0) f (sym h.1 ∙ fails_fec (start bytes) f fits first)
fault_is_read (Err e) bytes fits h f first = err_again (err_is e f (sym h ∙ fails_fec (start bytes) f fits first))

-- Two spellings at one front are one, of one value.
pub one : (v w : Fec) (a b x y : List ℕ) → Spells v a → Spells w b → a ++ x ≡ b ++ y → (v ≡ w) × (a ≡ b)
one v w a b x y p q same =
    let first = fec_again (start (a ++ x)) v a (record { left = x; place = 0 + length a }) p (record { parts = refl; place = refl }) in
    let second = fec_again (start (a ++ x)) w b (record { left = y; place = 0 + length b }) q (record { parts = same; place = refl }) in
    let both : (v, record { left = x; place = 0 + length a }) ≡ (w, record { left = y; place = 0 + length b }) = ok_is _ _ (sym first ∙ second) in
    let value : v ≡ w = ap (λ (z : Fec × Cursor). z.0) both in
    (value, p.octets ∙ ap written value ∙ sym q.octets)

-- A fault that was answered stands within the octets or right after them.
pub read_within : (r : Result (Fec × ℕ) FecFault) (bytes : List ℕ) → IsOctets bytes → IsRead r (fec_at (start bytes))
    → IfErr r (λ f. f.place ≤ length bytes)
read_within (Ok x) bytes fits h = tt
read_within (Err f) bytes fits h = omega (arith, fault_within (start bytes) f (fec_fails (start bytes) f fits h))
