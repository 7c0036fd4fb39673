-- A TLV: it is read exactly where it is spelled, and its faults.
use Rattle.std.proofs.Common.{◌≡◌, ℕ, ◌+◌, ◌*◌, ◌/◌, ◌%◌, ◌^◌, ◌<◌, ◌≤◌, inl, inr, true, false, ltb, List, [], ◌++◌, length, take, drop, Option, Some, None, Result, Ok, Err, refl, sym, ap, subst, ◌∙◌, arith}
use Rattle.std.specs.Int.{w16, to_be_bytes}
use Rattle.std.proofs.lemmas.Bool.{ltb-false, ltb-true, le-ltb, lt-ltb}
use Rattle.std.proofs.lemmas.List.{length-append, length-drop, take_at}
use Rattle.mv_base.specs.Octets.{IsOctets}
use Rattle.mv_base.proofs.Fields.{wide16, octets_before, octets_after}
use Rattle.mv_base.proofs.framing.Fronts.{skip, take_branch}
use Rattle.mv_base.proofs.framing.Headers.{headed, second_headed}
use Rattle.mv_base.proofs.framing.PartsLemmas.{IsPartReader}
use Rattle.mldp.specs.declared.mldp_msgs.fault.LdpFault.{LdpFault}
use Rattle.mldp.specs.declared.mldp_msgs.fault.LdpFault.TheVariants as faults
use Rattle.mldp.specs.declared.mldp_msgs.tlv.Found.{Found}
use Rattle.mldp.specs.declared.mldp_msgs.tlv.Stop.{Stop}
use Rattle.mldp.specs.declared.mldp_msgs.tlv.Stop.TheVariants as stops
use Rattle.mldp.specs.declared.mldp_msgs.tlv.Tlv.{Tlv}
use Rattle.mldp.specs.declared.mldp_msgs.tlv.Tlv.TheVariants as tlvs
use Rattle.mldp.specs.declared.mldp_msgs.tlv.TlvKind.{TlvKind}
use Rattle.mldp.specs.declared.mldp_msgs.tlv.TlvKind.TheVariants as kinds
use Rattle.mldp.specs.mldp_msgs.Spelling.{IsType, tlv_type, tlv, Says, fec_of, NoneTells, SpellsTlv, IsNew, UnlikeStands}
use Rattle.mldp.specs.mldp_msgs.FirstFault as faulty
use Rattle.mldp.specs.mldp_msgs.FirstFault.{IsUnknown, IsCut, TlvFault}
use Rattle.mldp.specs.mldp_msgs.Reading.{first, second, sized, misfit, found_of, kind_of, value_of, tlv_by, tlv_at, next_tlv}
use Rattle.mldp.proofs.mldp_msgs.Fronts.{fault_is, meets}
use Rattle.mldp.proofs.mldp_msgs.Heads.{value_in, after_in, first_below, second_below, first_stands, second_stands, Whole, whole_is, inner_octets}
use Rattle.mldp.proofs.mldp_msgs.Values.{KindIs, kind_is, kind_again, only_kind, StopMeans, ValueMeans, value_is, value_again, value_fails, value_unlike}

-- ---- what was read

-- why no TLV is read
abbrev pub TlvStops : List Tlv → List ℕ → ℕ → Stop → Type 0
TlvStops before octets offset stops.Unlike = (offset ≡ 0) × NoneTells fec_of before × UnlikeStands octets
TlvStops before octets offset (stops.Fault e) = TlvFault before octets offset e

-- what the answer says of the octets, after those TLVs
abbrev TlvMeans : List Tlv → List ℕ → Result (Tlv × ℕ) (ℕ × Stop) → Type 0
TlvMeans before octets (Ok x) = (0 < x.1) × (x.1 ≤ length octets) × SpellsTlv x.0 (take x.1 octets) × IsNew before x.0
TlvMeans before octets (Err f) = TlvStops before octets f.0 f.1

-- the bits and the type in a number of 16 bits
abbrev bits_in : ℕ → ℕ
bits_in n = n / 2 ^ 14

abbrev kind_in : ℕ → ℕ
kind_in n = n % 2 ^ 14

number_is : (n : ℕ) → n ≡ bits_in n * 2 ^ 14 + kind_in n
number_is n = omega arith

type_in : (n : ℕ) → n < 2 ^ 16 → IsType (bits_in n) (kind_in n)
type_in n lt = (omega (arith, lt), omega arith)

kind_known : (bits kind : ℕ) (k : TlvKind) → KindIs bits kind (Some k) → ¬ IsUnknown bits kind
kind_known bits kind k is u = let clash : Some k ≡ None = only_kind bits kind (Some k) None is u in absurd cc

kind_met : (n : ℕ) → n < 2 ^ 16 → KindIs (bits_in n) (kind_in n) (kind_of n)
kind_met n lt = subst (λ (m : ℕ). KindIs (bits_in n) (kind_in n) (kind_of m)) (sym (number_is n)) (kind_is (bits_in n) (kind_in n) (type_in n lt))

type_stands : (xs : List ℕ) → IsOctets xs → 2 ≤ length xs → xs ≡ tlv_type (bits_in (first xs)) (kind_in (first xs)) ++ drop 2 xs
type_stands xs fits le = first_stands xs fits le ∙ ap (λ (n : ℕ). to_be_bytes w16 n ++ drop 2 xs) (number_is (first xs))

tlv_stands : (xs : List ℕ) → Whole xs → xs ≡ tlv (bits_in (first xs)) (kind_in (first xs)) (value_in xs) ++ after_in xs
tlv_stands xs w = w.parts ∙ ap (λ (n : ℕ). headed n (length (value_in xs)) (value_in xs ++ after_in xs)) (number_is (first xs))

-- what the answer on the value says of the TLV
by_stop : (before : List Tlv) (xs : List ℕ) → IsOctets xs → Whole xs → (offset : ℕ) (s : Stop)
    → StopMeans before (kind_in (first xs)) (value_in xs) offset s → TlvStops before xs offset s
by_stop before xs fits w offset stops.Unlike h = (
  h.2,
  h.1,
  record {
    bits = bits_in (first xs);
    value = value_in xs;
    after = after_in xs;
    is_bits = (type_in (first xs) (first_below xs fits)).0;
    fits = omega (arith, w.len, second_below xs fits);
    parts = tlv_stands xs w ∙ ap (λ (kind : ℕ). tlv (bits_in (first xs)) kind (value_in xs) ++ after_in xs) h.0;
    unlike = h.3;
  },
)
by_stop before xs fits w offset (stops.Fault e) h =
    faulty.in_value (bits_in (first xs)) (kind_in (first xs)) (value_in xs) (after_in xs) (type_in (first xs) (first_below xs fits))
    (omega (arith, w.len, second_below xs fits)) (tlv_stands xs w) h

by_value : (before : List Tlv) (xs : List ℕ) → IsOctets xs → 4 + second xs ≤ length xs → (r : Result Tlv (ℕ × Stop))
    → ValueMeans before (bits_in (first xs)) (kind_in (first xs)) (value_in xs) r → TlvMeans before xs (sized (4 + second xs) r)
by_value before xs fits room (Err f) h = by_stop before xs fits (whole_is xs fits room) f.0 f.1 h
by_value before xs fits room (Ok t) h =
    let w = whole_is xs fits room in (
      omega arith,
      room,
      record {
        bits = bits_in (first xs);
        kind = kind_in (first xs);
        value = value_in xs;
        is_type = type_in (first xs) (first_below xs fits);
        fits = omega (arith, w.len, second_below xs fits);
        parts = w.front ∙ ap (λ (n : ℕ). headed n (length (value_in xs)) (value_in xs)) (number_is (first xs));
        says = h.0;
      },
      h.1,
    )

-- what the answer on the type says of the TLV
by_kind : (before : List Tlv) (xs : List ℕ) → IsOctets xs → 2 ≤ length xs → (o : Option TlvKind) → KindIs (bits_in (first xs)) (kind_in (first xs)) o
    → TlvMeans before xs (tlv_by (found_of before) o xs)
by_kind before xs fits two None is =
    faulty.unknown (bits_in (first xs)) (kind_in (first xs)) (drop 2 xs) (type_in (first xs) (first_below xs fits)) is (type_stands xs fits two) refl
    refl
by_kind before xs fits two (Some k) is =
    let P : Result (Tlv × ℕ) (ℕ × Stop) → Type 0 = TlvMeans before xs in
    let z : Result (Tlv × ℕ) (ℕ × Stop) = tlv_by (found_of before) (Some k) xs in
    let type : IsType (bits_in (first xs)) (kind_in (first xs)) = type_in (first xs) (first_below xs fits) in
    let cut : IsCut (drop 2 xs) → TlvFault before xs 0 faults.TlvLength = λ h.
    faulty.cut (bits_in (first xs)) (kind_in (first xs)) (drop 2 xs) type (kind_known (bits_in (first xs)) (kind_in (first xs)) k is)
    (type_stands xs fits two) h refl refl in
    meets P (ltb (length xs) 4) _ _ z refl (λ t. let lt : length xs < 4 = ltb-true _ _ t in cut (inl (omega (arith, length-drop 2 xs, lt, two))))
    (λ f0 e0.
    let four : 4 ≤ length xs = ltb-false _ _ f0 in
    meets P (ltb (length xs) (4 + second xs)) _ _ z e0
    (λ t.
    let lt : length xs < 4 + second xs = ltb-true _ _ t in
    cut (inr (second xs, drop 4 xs, second_below xs fits, second_stands xs fits four, omega (arith, length-drop 4 xs, lt, four))))
    (λ f1 e1.
    let room : 4 + second xs ≤ length xs = ltb-false _ _ f1 in
    let value_fits : IsOctets (value_in xs) = octets_before (second xs) (drop 4 xs) (octets_after 4 xs fits) in
    subst P e1 (by_value before xs fits room (value_of (found_of before) k (value_in xs))
    (value_is before (bits_in (first xs)) (kind_in (first xs)) k (value_in xs) is value_fits))))

tlv_is : (before : List Tlv) (xs : List ℕ) → IsOctets xs → 0 < length xs → TlvMeans before xs (next_tlv before xs)
unfolding tlv_at
tlv_is before xs fits pos =
    let P : Result (Tlv × ℕ) (ℕ × Stop) → Type 0 = TlvMeans before xs in
    meets P (ltb (length xs) 2) _ _ (next_tlv before xs) refl
    (λ t. let lt : length xs < 2 = ltb-true _ _ t in faulty.kind_cut (omega (arith, lt, pos)) refl refl) (λ f e.
    subst P e (by_kind before xs fits (ltb-false _ _ f) (kind_of (first xs)) (kind_met (first xs) (first_below xs fits))))

-- ---- what is spelled is read

abbrev wrong : ℕ → LdpFault → Result (Tlv × ℕ) (ℕ × Stop)
wrong offset e = Err (misfit offset e)

number_below : (bits kind : ℕ) → IsType bits kind → bits * 2 ^ 14 + kind < 2 ^ 16
number_below bits kind is = omega (arith, is.0, is.1)

-- the type at the front
at_type : (found : Found) (bits kind : ℕ) (after : List ℕ) (o : Option TlvKind) → IsType bits kind → KindIs bits kind o
    → tlv_at found (tlv_type bits kind ++ after) ≡ tlv_by found o (tlv_type bits kind ++ after)
unfolding tlv_at
at_type found bits kind after o is k =
    let xs : List ℕ = tlv_type bits kind ++ after in
    let long : ltb (length xs) 2 ≡ false = le-ltb _ _ (omega arith) in
    let number : first xs ≡ bits * 2 ^ 14 + kind = wide16.again (bits * 2 ^ 14 + kind) (number_below bits kind is) in
    skip (ltb (length xs) 2) (wrong 0 faults.TlvLength) _ long
    ∙ ap (λ (p : Option TlvKind). tlv_by found p xs) (ap kind_of number ∙ kind_again bits kind o is k)

-- a whole TLV at the front
at_whole : (found : Found) (bits kind : ℕ) (value after : List ℕ) (k : TlvKind) → IsType bits kind → length value < 2 ^ 16 → KindIs bits kind (Some k)
    → tlv_at found (tlv bits kind value ++ after) ≡ sized (4 + length value) (value_of found k value)
at_whole found bits kind value after k is fits met =
    let xs : List ℕ = tlv bits kind value ++ after in
    let size : length xs ≡ 4 + length value + length after = omega (arith, length-append value after) in
    let len : second xs ≡ length value = second_headed (bits * 2 ^ 14 + kind) (length value) (value ++ after) fits in
    let four : ltb (length xs) 4 ≡ false = le-ltb _ _ (omega (arith, size)) in
    let room : ltb (length xs) (4 + second xs) ≡ false = le-ltb _ _ (omega (arith, size, len)) in
    at_type found bits kind (to_be_bytes w16 (length value) ++ (value ++ after)) (Some k) is met
    ∙ skip (ltb (length xs) 4) (wrong 0 faults.TlvLength) _ four
    ∙ skip (ltb (length xs) (4 + second xs)) (wrong 0 faults.TlvLength) _ room
    ∙ ap (λ (n : ℕ). sized (4 + n) (value_of found k (take n (value ++ after)))) len
    ∙ ap (λ (v : List ℕ). sized (4 + length value) (value_of found k v)) (take_at value after (length value) refl)

-- the way to read the value of a TLV that says this
says_kind : (bits kind : ℕ) (value : List ℕ) (t : Tlv) → Says bits kind value t → (k : TlvKind) × KindIs bits kind (Some k)
says_kind bits kind value (tlvs.Fec f) h = (kinds.Fec, h.0)
says_kind bits kind value (tlvs.Label l) h = (kinds.Label, h.0)
says_kind bits kind value tlvs.Passed h = (kinds.Passed, h)

tlv_again : (before : List Tlv) (t : Tlv) (text after : List ℕ) → SpellsTlv t text → IsNew before t
    → next_tlv before (text ++ after) ≡ Ok (t, length text)
tlv_again before t text after s new =
    let k = says_kind s.bits s.kind s.value t s.says in
    let size : 4 + length s.value ≡ length text = sym (ap (λ (xs : List ℕ). length xs) s.parts ∙ omega arith) in
    ap (λ (xs : List ℕ). next_tlv before (xs ++ after)) s.parts
    ∙ at_whole (found_of before) s.bits s.kind s.value after k.0 s.is_type s.fits k.1
    ∙ ap (sized (4 + length s.value)) (value_again before s.bits s.kind k.0 s.value t k.1 s.says new)
    ∙ ap (λ (n : ℕ). Ok (t, n)) size

-- ---- what stops it is answered

kind_of_known : (bits kind : ℕ) → IsType bits kind → (¬ IsUnknown bits kind) → (k : TlvKind) × KindIs bits kind (Some k)
kind_of_known bits kind is known = by_kind_of (kind_of (bits * 2 ^ 14 + kind)) (kind_is bits kind is)
  where
    by_kind_of : (o : Option TlvKind) → KindIs bits kind o → (k : TlvKind) × KindIs bits kind (Some k)
    by_kind_of None h = absurd (known h)
    by_kind_of (Some k) h = (k, h)

cut_at_type : (found : Found) (k : TlvKind) (bits kind : ℕ) (after : List ℕ) → IsCut after
    → tlv_by found (Some k) (tlv_type bits kind ++ after) ≡ wrong 0 faults.TlvLength
cut_at_type found k bits kind after (inl few) =
    let xs : List ℕ = tlv_type bits kind ++ after in
    let short : ltb (length xs) 4 ≡ true = lt-ltb _ _ (omega (arith, few)) in
    take_branch (ltb (length xs) 4) (wrong 0 faults.TlvLength) _ short
cut_at_type found k bits kind after (inr (len, value, fits, parts, few)) =
    let P : List ℕ → Type 0 = λ ys. tlv_by found (Some k) (tlv_type bits kind ++ ys) ≡ wrong 0 faults.TlvLength in
    let xs : List ℕ = tlv_type bits kind ++ (to_be_bytes w16 len ++ value) in
    let four : ltb (length xs) 4 ≡ false = le-ltb _ _ (omega arith) in
    let number : second xs ≡ len = wide16.again len fits in
    let short : ltb (length xs) (4 + second xs) ≡ true = lt-ltb _ _ (omega (arith, number, few)) in
    subst P (sym parts) (skip (ltb (length xs) 4) (wrong 0 faults.TlvLength) _ four
    ∙ take_branch (ltb (length xs) (4 + second xs)) (wrong 0 faults.TlvLength) _ short)

one_octet : (found : Found) (xs : List ℕ) → length xs ≡ 1 → tlv_at found xs ≡ wrong 0 faults.TlvLength
unfolding tlv_at
one_octet found xs len = take_branch (ltb (length xs) 2) (wrong 0 faults.TlvLength) _ (lt-ltb _ _ (omega (arith, len)))

fails_tlv : (before : List Tlv) (xs : List ℕ) (offset : ℕ) (e : LdpFault) → IsOctets xs → TlvFault before xs offset e
    → next_tlv before xs ≡ wrong offset e
fails_tlv before xs offset e fits (faulty.kind_cut len at is) = one_octet (found_of before) xs len ∙ fault_is wrong offset 0 e faults.TlvLength at is
fails_tlv before xs offset e fits (faulty.unknown bits kind after type unknown parts at is) =
    ap (next_tlv before) parts ∙ at_type (found_of before) bits kind after None type unknown ∙ fault_is wrong offset 0 e faults.UnknownTlv at is
fails_tlv before xs offset e fits (faulty.cut bits kind after type known parts cut at is) =
    let k = kind_of_known bits kind type known in
    ap (next_tlv before) parts ∙ at_type (found_of before) bits kind after (Some k.0) type k.1 ∙ cut_at_type (found_of before) k.0 bits kind after cut
    ∙ fault_is wrong offset 0 e faults.TlvLength at is
fails_tlv before xs offset e fits (faulty.in_value bits kind value after type len parts h) =
    let v = value_fails before bits kind value offset e (inner_octets (headed (bits * 2 ^ 14 + kind) (length value) []) value after xs fits parts) h
    in
    ap (next_tlv before) parts ∙ at_whole (found_of before) bits kind value after v.0 type len v.1 ∙ ap (sized (4 + length value)) v.2

-- An element of no multipoint LSP stops it.
pub unlike_tlv : (before : List Tlv) (xs : List ℕ) → NoneTells fec_of before → UnlikeStands xs → next_tlv before xs ≡ Err (0, stops.Unlike)
unlike_tlv before xs new u =
    ap (next_tlv before) u.parts
    ∙ at_whole (found_of before) u.bits 0x0100 u.value u.after kinds.Fec (u.is_bits, omega arith) u.fits refl
    ∙ ap (sized (4 + length u.value)) (value_unlike before u.value new u.unlike)

stops_tlv : (before : List Tlv) (xs : List ℕ) (offset : ℕ) (s : Stop) → IsOctets xs → TlvStops before xs offset s
    → next_tlv before xs ≡ Err (offset, s)
stops_tlv before xs offset (stops.Fault e) fits h = fails_tlv before xs offset e fits h
stops_tlv before xs offset stops.Unlike fits (at, new, u) = unlike_tlv before xs new u ∙ ap (λ (n : ℕ). Err (n, stops.Unlike)) (sym at)

-- ---- the reader

pub tlv_reader : IsPartReader next_tlv SpellsTlv IsNew TlvStops
tlv_reader = record {
  taken = λ before xs t n fits pos e. subst (TlvMeans before xs) e (tlv_is before xs fits pos);
  again = λ before t text after s new. tlv_again before t text after s new;
  filled = λ t text s. omega (arith, ap (λ (xs : List ℕ). length xs) s.parts);
  fails = λ before xs offset s fits pos e. subst (TlvMeans before xs) e (tlv_is before xs fits pos);
  faulty = λ before xs offset s fits pos h. stops_tlv before xs offset s fits h;
}
