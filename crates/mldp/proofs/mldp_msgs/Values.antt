-- The value of a TLV: it is read exactly where it is spelled, and its faults.
use Rattle.std.proofs.Common.{◌≡◌, ◌≢◌, ℕ, ◌+◌, ◌*◌, ◌/◌, ◌%◌, ◌^◌, ◌<◌, ◌≤◌, ◌⊎◌, inl, inr, Bool, true, false, ltb, eqb, not, ◌||◌, List, [], ◌∷◌, ◌++◌, length, Option, Some, None, is_some, Result, Ok, Err, refl, sym, ap, subst, ◌∙◌, arith}
use Rattle.std.specs.Int.{w32, to_be_bytes, from_be_bytes}
use Rattle.std.proofs.lemmas.Bool.{ltb-false, ltb-true, le-ltb, lt-ltb, eqb-true, eqb-false, eq-eqb, ne_eqb}
use Rattle.std.proofs.lemmas.List.{nil_from_length, append-nil, length-append}
use Rattle.mv_base.specs.Octets.{Cursor, IsOctets}
use Rattle.mv_base.specs.Cursor.{start}
use Rattle.mv_base.proofs.Fields.{wide32, passes_end}
use Rattle.mldp.specs.mldp_fec.Reading.{fec_at}
use Rattle.mldp.specs.mldp_fec.Spelling as fec
use Rattle.mldp.specs.mldp_fec.FirstFault as fec_faults
use Rattle.mldp.specs.declared.mldp_fec.fec.Fec.{Fec}
use Rattle.mldp.specs.declared.mldp_fec.fec.FecKind.{FecKind}
use Rattle.mldp.specs.declared.mldp_fec.fec.FecKind.TheVariants.{P2mp, Up, Down}
use Rattle.mldp.specs.declared.mldp_fec.fault.FecFault.{FecFault}
use Rattle.mldp.proofs.mldp_fec.FecLemmas.{fec_taken, fec_again, fec_fails, fails_fec}
use Rattle.mldp.specs.declared.mldp_msgs.fault.LdpFault.{LdpFault}
use Rattle.mldp.specs.declared.mldp_msgs.fault.LdpFault.TheVariants as faults
use Rattle.mldp.specs.declared.mldp_msgs.tlv.Stop.{Stop}
use Rattle.mldp.specs.declared.mldp_msgs.tlv.Stop.TheVariants as stops
use Rattle.mldp.specs.declared.mldp_msgs.tlv.Tlv.{Tlv}
use Rattle.mldp.specs.declared.mldp_msgs.tlv.Tlv.TheVariants as tlvs
use Rattle.mldp.specs.declared.mldp_msgs.tlv.TlvKind.{TlvKind}
use Rattle.mldp.specs.declared.mldp_msgs.tlv.TlvKind.TheVariants as kinds
use Rattle.mldp.specs.mldp_msgs.Spelling.{IsType, IsOther, IsPassedType, IsPassed, Says, fec_of, label_of, NoneTells, IsNew, IsUnlikeValue}
use Rattle.mldp.specs.mldp_msgs.FirstFault as first
use Rattle.mldp.specs.mldp_msgs.FirstFault.{IsUnknown, IsAgain, ValueFault}
use Rattle.mldp.specs.mldp_msgs.Reading.{misfit, latest, found_of, kind_by, kind_of, is_unlike, element_by, element_of, first_element, label_by, label_at, value_of}
use Rattle.mldp.proofs.mldp_msgs.Fronts.{fault_is, meets, not_true, not_false}
use Rattle.mldp.proofs.mldp_msgs.Tells.{untold, untold_again, is_told, told_again}

-- ---- how a value is read

-- what tells how the value of a TLV is read
abbrev pub KindIs : ℕ → ℕ → Option TlvKind → Type 0
KindIs bits kind (Some kinds.Fec) = kind ≡ 0x0100
KindIs bits kind (Some kinds.Label) = kind ≡ 0x0200
KindIs bits kind (Some kinds.Passed) = IsPassed bits kind
KindIs bits kind None = IsUnknown bits kind

kind_by_is : (bits kind unknown : ℕ) → bits < 4 → unknown ≡ bits / 2 → KindIs bits kind (kind_by kind unknown)
kind_by_is bits kind unknown below at =
    let P : Option TlvKind → Type 0 = KindIs bits kind in
    let z : Option TlvKind = kind_by kind unknown in
    meets P (eqb kind 0x0100) _ _ z refl (λ t. eqb-true _ _ t) (λ f0 e0.
    meets P (eqb kind 0x0200) _ _ z e0 (λ t. eqb-true _ _ t) (λ f1 e1.
    let other : IsOther kind = (eqb-false _ _ f0, eqb-false _ _ f1) in
    meets P (eqb kind 0x0103) _ _ z e1 (λ t. (other, inl (inl (eqb-true _ _ t)))) (λ f2 e2.
    meets P (eqb kind 0x0104) _ _ z e2 (λ t. (other, inl (inr (inl (eqb-true _ _ t))))) (λ f3 e3.
    meets P (eqb kind 0x0300) _ _ z e3 (λ t. (other, inl (inr (inr (inl (eqb-true _ _ t)))))) (λ f4 e4.
    meets P (eqb kind 0x0600) _ _ z e4 (λ t. (other, inl (inr (inr (inr (eqb-true _ _ t)))))) (λ f5 e5.
    let none : ¬ IsPassedType kind = λ h. elim h [
      | inl a ↦ eqb-false _ _ f2 a
      | inr b ↦ elim b [ inl a ↦ eqb-false _ _ f3 a | inr d ↦ elim d [ inl a ↦ eqb-false _ _ f4 a | inr a ↦ eqb-false _ _ f5 a ] ]
    ] in
    meets P (eqb unknown 1) _ _ z e5 (λ t. let one : unknown ≡ 1 = eqb-true _ _ t in (other, inr (omega (arith, one, at)))) (λ f6 e6.
    let not_one : unknown ≢ 1 = eqb-false _ _ f6 in subst P e6 (other, none, omega (arith, not_one, at, below)))))))))

pub kind_is : (bits kind : ℕ) → IsType bits kind → KindIs bits kind (kind_of (bits * 2 ^ 14 + kind))
unfolding kind_of
kind_is bits kind is =
    let low : (bits * 2 ^ 14 + kind) % 2 ^ 14 ≡ kind = omega (arith, is.1) in
    let high : (bits * 2 ^ 14 + kind) / 2 ^ 15 ≡ bits / 2 = omega (arith, is.1) in
    subst (λ (k : ℕ). KindIs bits kind (kind_by k ((bits * 2 ^ 14 + kind) / 2 ^ 15))) (sym low)
    (kind_by_is bits kind ((bits * 2 ^ 14 + kind) / 2 ^ 15) is.0 high)

two_kinds : {P : Type 0} (kind : ℕ) → kind ≡ 0x0100 → kind ≡ 0x0200 → P
two_kinds kind a b = absurd (omega (arith, a, b))

passed_unknown : {P : Type 0} (bits kind : ℕ) → IsPassed bits kind → IsUnknown bits kind → P
passed_unknown bits kind (other, inl passed) u = absurd (u.1 passed)
passed_unknown bits kind (other, inr high) u = absurd (omega (arith, high, u.2))

-- there is one way
pub only_kind : (bits kind : ℕ) (o p : Option TlvKind) → KindIs bits kind o → KindIs bits kind p → o ≡ p
only_kind bits kind (Some kinds.Fec) (Some kinds.Fec) a b = refl
only_kind bits kind (Some kinds.Fec) (Some kinds.Label) a b = two_kinds kind a b
only_kind bits kind (Some kinds.Fec) (Some kinds.Passed) a b = absurd (b.0.0 a)
only_kind bits kind (Some kinds.Fec) None a b = absurd (b.0.0 a)
only_kind bits kind (Some kinds.Label) (Some kinds.Fec) a b = two_kinds kind b a
only_kind bits kind (Some kinds.Label) (Some kinds.Label) a b = refl
only_kind bits kind (Some kinds.Label) (Some kinds.Passed) a b = absurd (b.0.1 a)
only_kind bits kind (Some kinds.Label) None a b = absurd (b.0.1 a)
only_kind bits kind (Some kinds.Passed) (Some kinds.Fec) a b = absurd (a.0.0 b)
only_kind bits kind (Some kinds.Passed) (Some kinds.Label) a b = absurd (a.0.1 b)
only_kind bits kind (Some kinds.Passed) (Some kinds.Passed) a b = refl
only_kind bits kind (Some kinds.Passed) None a b = passed_unknown bits kind a b
only_kind bits kind None (Some kinds.Fec) a b = absurd (a.0.0 b)
only_kind bits kind None (Some kinds.Label) a b = absurd (a.0.1 b)
only_kind bits kind None (Some kinds.Passed) a b = passed_unknown bits kind b a
only_kind bits kind None None a b = refl

pub kind_again : (bits kind : ℕ) (o : Option TlvKind) → IsType bits kind → KindIs bits kind o → kind_of (bits * 2 ^ 14 + kind) ≡ o
kind_again bits kind o is k = only_kind bits kind (kind_of (bits * 2 ^ 14 + kind)) o (kind_is bits kind is) k

-- ---- what was read of a value

-- why it is not read on
abbrev pub StopMeans : List Tlv → ℕ → List ℕ → ℕ → Stop → Type 0
StopMeans before kind value offset stops.Unlike = (kind ≡ 0x0100) × NoneTells fec_of before × (offset ≡ 0) × IsUnlikeValue value
StopMeans before kind value offset (stops.Fault e) = ValueFault before kind value offset e

-- what the answer says of the value, after those TLVs
abbrev pub ValueMeans : List Tlv → ℕ → ℕ → List ℕ → Result Tlv (ℕ × Stop) → Type 0
ValueMeans before bits kind value (Ok t) = Says bits kind value t × IsNew before t
ValueMeans before bits kind value (Err f) = StopMeans before kind value f.0 f.1

-- the first octet is that of a kind, or there is none
unlike_is : (value : List ℕ) → is_unlike value ≡ true → IsUnlikeValue value
unlike_is [] e = absurd cc
unlike_is (octet ∷ more) e = record { octet = octet; more = more; parts = refl; other = other octet (either (ltb octet 6) (ltb 8 octet) e) }
  where
    either : (a b : Bool) → (a || b) ≡ true → (a ≡ true) ⊎ (b ≡ true)
    either true b e = inl refl
    either false b e = inr e

    other : (octet : ℕ) → (ltb octet 6 ≡ true) ⊎ (ltb 8 octet ≡ true) → (k : FecKind) → octet ≢ fec.kind_octet k
    other octet (inl low) P2mp same = let lt : octet < 6 = ltb-true _ _ low in absurd (omega (arith, lt, same))
    other octet (inl low) Up same = let lt : octet < 6 = ltb-true _ _ low in absurd (omega (arith, lt, same))
    other octet (inl low) Down same = let lt : octet < 6 = ltb-true _ _ low in absurd (omega (arith, lt, same))
    other octet (inr high) P2mp same = let lt : 8 < octet = ltb-true _ _ high in absurd (omega (arith, lt, same))
    other octet (inr high) Up same = let lt : 8 < octet = ltb-true _ _ high in absurd (omega (arith, lt, same))
    other octet (inr high) Down same = let lt : 8 < octet = ltb-true _ _ high in absurd (omega (arith, lt, same))

unlike_again : (value : List ℕ) → IsUnlikeValue value → is_unlike value ≡ true
unlike_again value h = ap is_unlike h.parts ∙ outside h.octet (h.other P2mp) (h.other Up) (h.other Down) (ltb h.octet 6) refl
  where
    outside : (octet : ℕ) → octet ≢ 6 → octet ≢ 7 → octet ≢ 8 → (b : Bool) → ltb octet 6 ≡ b → (b || ltb 8 octet) ≡ true
    outside octet p q r true e = refl
    outside octet p q r false e = let le : 6 ≤ octet = ltb-false _ _ e in lt-ltb _ _ (omega (arith, le, p, q, r))

not_unlike : (value : List ℕ) → is_unlike value ≡ false → ¬ IsUnlikeValue value
not_unlike value e h = let clash : true ≡ false = sym (unlike_again value h) ∙ e in absurd cc

like_again : (value : List ℕ) → (¬ IsUnlikeValue value) → is_unlike value ≡ false
like_again value h = by_test (is_unlike value) refl
  where
    by_test : (b : Bool) → is_unlike value ≡ b → b ≡ false
    by_test true e = absurd (h (unlike_is value e))
    by_test false e = refl

-- a value that begins with an element is of a kind
spelled_like : (f : Fec) (text more : List ℕ) (value : List ℕ) → fec.Spells f text → value ≡ text ++ more → ¬ IsUnlikeValue value
spelled_like f text more value s parts h =
    let same : h.octet ∷ h.more ≡ fec.kind_octet f.kind ∷ ((fec.root f.root ++ fec.opaque f.opaque) ++ more) =
    sym h.parts ∙ parts ∙ ap (λ (xs : List ℕ). xs ++ more) s.octets in
    let one : h.octet ≡ fec.kind_octet f.kind = cc in
    h.other f.kind one

-- ---- the FEC element

element_is : (before : List Tlv) (bits kind : ℕ) (value : List ℕ) → kind ≡ 0x0100 → NoneTells fec_of before → IsOctets value → (¬ IsUnlikeValue value)
    → ValueMeans before bits kind value (element_of value)
unfolding element_of
element_is before bits kind value is new fits like = by_read (fec_at (start value)) refl
  where
    whole : (x : Fec × Cursor) → fec_at (start value) ≡ Ok x → x.1.place ≡ length value → fec.Spells x.0 value
    whole x e at =
        let p = fec_taken (start value) x fits e in
        let nothing : x.1.left ≡ [] = nil_from_length x.1.left (omega (arith, at, passes_end (start value) (fec.written x.0) x.1 p.0)) in
        let all : value ≡ fec.written x.0 = p.0.parts ∙ ap (λ (xs : List ℕ). fec.written x.0 ++ xs) nothing ∙ append-nil (fec.written x.0) in
        record { root = p.1.root; fits = p.1.fits; shape = p.1.shape; octets = all }

    thereafter : (x : Fec × Cursor) → fec_at (start value) ≡ Ok x → x.1.place ≢ length value → ValueFault before kind value 0 faults.TlvLength
    thereafter x e at =
        let p = fec_taken (start value) x fits e in
        let more : 0 < length x.1.left = omega (arith, at, passes_end (start value) (fec.written x.0) x.1 p.0) in
        first.after_fec is new x.0 (fec.written x.0) x.1.left p.1 p.0.parts more refl refl

    by_read : (r : Result (Fec × Cursor) FecFault) → fec_at (start value) ≡ r → ValueMeans before bits kind value (element_by (length value) r)
    by_read (Err f) e = first.in_fec is new like f (fec_fails (start value) f fits e) refl refl
    by_read (Ok x) e =
        meets (ValueMeans before bits kind value) (not (eqb x.1.place (length value))) _ _ (element_by (length value) (Ok x)) refl
        (λ t. thereafter x e (eqb-false _ _ (not_true (eqb x.1.place (length value)) t)))
        (λ f g. subst (ValueMeans before bits kind value) g ((is, whole x e (eqb-true _ _ (not_false (eqb x.1.place (length value)) f))), new))

fec_is : (before : List Tlv) (bits kind : ℕ) (value : List ℕ) → kind ≡ 0x0100 → IsOctets value
    → ValueMeans before bits kind value (first_element (is_some (latest fec_of None before)) value)
fec_is before bits kind value is fits =
    let P : Result Tlv (ℕ × Stop) → Type 0 = ValueMeans before bits kind value in
    let known : Bool = is_some (latest fec_of None before) in
    let z : Result Tlv (ℕ × Stop) = first_element known value in
    meets P known _ _ z refl (λ t. first.again (inl (is, is_told fec_of before t)) refl refl) (λ f0 e0.
    let new : NoneTells fec_of before = untold fec_of before f0 in
    meets P (is_unlike value) _ _ z e0 (λ t. (is, new, refl, unlike_is value t)) (λ f1 e1.
    subst P e1 (element_is before bits kind value is new fits (not_unlike value f1))))

-- ---- the label

label_text : (value : List ℕ) → length value ≡ 4 → IsOctets value
    → value ≡ to_be_bytes w32 (from_be_bytes w32 value / 2 ^ 20 * 2 ^ 20 + from_be_bytes w32 value % 2 ^ 20)
label_text value len fits =
    let n : ℕ = from_be_bytes w32 value in
    let same : n ≡ n / 2 ^ 20 * 2 ^ 20 + n % 2 ^ 20 = omega arith in
    sym (wide32.back value len fits) ∙ ap (to_be_bytes w32) same

label_is : (before : List Tlv) (bits kind : ℕ) (value : List ℕ) → kind ≡ 0x0200 → IsOctets value
    → ValueMeans before bits kind value (label_at (is_some (latest label_of None before)) value)
unfolding label_at
label_is before bits kind value is fits =
    let P : Result Tlv (ℕ × Stop) → Type 0 = ValueMeans before bits kind value in
    let known : Bool = is_some (latest label_of None before) in
    let z : Result Tlv (ℕ × Stop) = label_at known value in
    let n : ℕ = from_be_bytes w32 value in
    let below : n < 2 ^ 32 = wide32.below value fits in
    meets P known _ _ z refl (λ t. first.again (inr (is, is_told label_of before t)) refl refl) (λ f0 e0.
    let new : NoneTells label_of before = untold label_of before f0 in
    meets P (not (eqb (length value) 4)) _ _ z e0 (λ t. first.label_length is new (eqb-false _ _ (not_true (eqb (length value) 4) t)) refl refl)
    (λ f1 e1.
    let len : length value ≡ 4 = eqb-true _ _ (not_false (eqb (length value) 4) f1) in
    meets P (ltb (n % 2 ^ 20) 16) _ _ z e1 (λ t. first.label_low is new (n / 2 ^ 20) (n % 2 ^ 20) (omega (arith, below)) (ltb-true _ _ t)
    (label_text value len fits) refl refl) (λ f2 e2.
    let low : 16 ≤ n % 2 ^ 20 = ltb-false _ _ f2 in
    subst P e2 ((is, (low, omega arith), (n / 2 ^ 20, omega (arith, below), label_text value len fits)), new))))

-- ---- the value

pub value_is : (before : List Tlv) (bits kind : ℕ) (k : TlvKind) (value : List ℕ) → KindIs bits kind (Some k) → IsOctets value
    → ValueMeans before bits kind value (value_of (found_of before) k value)
unfolding value_of
value_is before bits kind kinds.Fec value is fits = fec_is before bits kind value is fits
value_is before bits kind kinds.Label value is fits = label_is before bits kind value is fits
value_is before bits kind kinds.Passed value is fits = (is, tt)

-- ---- what is spelled is read

element_again : (f : Fec) (value : List ℕ) → fec.Spells f value → element_of value ≡ Ok (tlvs.Fec f)
unfolding element_of
element_again f value s =
    let d : Cursor = record { left = []; place = 0 + length value } in
    let read : fec_at (start value) ≡ Ok (f, d) = fec_again (start value) f value d s (record { parts = sym (append-nil value); place = refl }) in
    let same : eqb (0 + length value) (length value) ≡ true = eq-eqb _ _ (omega arith) in
    ap (element_by (length value)) read ∙ rw same refl

label_number : (high label : ℕ) → high < 2 ^ 12 → label < 2 ^ 20 → (value : List ℕ) → value ≡ to_be_bytes w32 (high * 2 ^ 20 + label)
    → from_be_bytes w32 value % 2 ^ 20 ≡ label
label_number high label h l value parts =
    let n : from_be_bytes w32 value ≡ high * 2 ^ 20 + label =
    ap (from_be_bytes w32) parts ∙ wide32.again (high * 2 ^ 20 + label) (omega (arith, h, l)) in
    omega (arith, n, l)

-- the value of a new label TLV, of four octets
label_at_is : (before : List Tlv) (high label : ℕ) → high < 2 ^ 12 → label < 2 ^ 20 → (value : List ℕ)
    → value ≡ to_be_bytes w32 (high * 2 ^ 20 + label) → NoneTells label_of before
    → label_at (is_some (latest label_of None before)) value ≡ label_by label
unfolding label_at
label_at_is before high label h l value parts new =
    let four : eqb (length value) 4 ≡ true = eq-eqb _ _ (ap (λ (xs : List ℕ). length xs) parts) in
    rw (untold_again label_of before new, four) (ap label_by (label_number high label h l value parts))

pub value_again : (before : List Tlv) (bits kind : ℕ) (k : TlvKind) (value : List ℕ) (t : Tlv) → KindIs bits kind (Some k) → Says bits kind value t
    → IsNew before t → value_of (found_of before) k value ≡ Ok t
unfolding value_of
value_again before bits kind kinds.Fec value (tlvs.Fec f) is says new =
    let like : is_unlike value ≡ false = like_again value (spelled_like f value [] value says.1 (sym (append-nil value))) in
    rw (untold_again fec_of before new, like) (element_again f value says.1)
value_again before bits kind kinds.Label value (tlvs.Fec f) is says new = two_kinds kind says.0 is
value_again before bits kind kinds.Passed value (tlvs.Fec f) is says new = absurd (is.0.0 says.0)
value_again before bits kind kinds.Fec value (tlvs.Label l) is says new = two_kinds kind is says.0
value_again before bits kind kinds.Label value (tlvs.Label l) is says new =
    let high = says.2 in
    let low : ltb l 16 ≡ false = le-ltb _ _ says.1.0 in
    label_at_is before high.0 l high.1 says.1.1 value high.2 new ∙ rw low refl
value_again before bits kind kinds.Passed value (tlvs.Label l) is says new = absurd (is.0.1 says.0)
value_again before bits kind kinds.Fec value tlvs.Passed is says new = absurd (says.0.0 is)
value_again before bits kind kinds.Label value tlvs.Passed is says new = absurd (says.0.1 is)
value_again before bits kind kinds.Passed value tlvs.Passed is says new = refl

-- ---- what stops it is answered

abbrev pub answer : ℕ → LdpFault → Result Tlv (ℕ × Stop)
answer offset e = Err (misfit offset e)

-- how a FEC and a label TLV are read
as_fec : (before : List Tlv) (value : List ℕ) → value_of (found_of before) kinds.Fec value ≡ first_element (is_some (latest fec_of None before)) value
unfolding value_of
as_fec before value = refl

as_label : (before : List Tlv) (value : List ℕ)
    → value_of (found_of before) kinds.Label value ≡ label_at (is_some (latest label_of None before)) value
unfolding value_of
as_label before value = refl

-- a new FEC TLV
as_element : (before : List Tlv) (value : List ℕ) → NoneTells fec_of before → (¬ IsUnlikeValue value)
    → first_element (is_some (latest fec_of None before)) value ≡ element_of value
as_element before value new like = rw (untold_again fec_of before new, like_again value like) refl

element_fails : (value : List ℕ) (f : FecFault) → IsOctets value → fec_faults.FirstFault (start value) f
    → element_of value ≡ answer (4 + f.place) (faults.Fec f.reason)
unfolding element_of
element_fails value f fits h = ap (element_by (length value)) (fails_fec (start value) f fits h)

element_after : (value : List ℕ) (f : Fec) (text more : List ℕ) → fec.Spells f text → value ≡ text ++ more → 0 < length more
    → element_of value ≡ answer 0 faults.TlvLength
unfolding element_of
element_after value f text more s parts pos =
    let d : Cursor = record { left = more; place = 0 + length text } in
    let read : fec_at (start value) ≡ Ok (f, d) = fec_again (start value) f text d s (record { parts = parts; place = refl }) in
    let other : eqb (0 + length text) (length value) ≡ false =
    ne_eqb _ _ (λ same. absurd (omega (arith, same, pos, ap (λ (xs : List ℕ). length xs) parts, length-append text more))) in
    ap (element_by (length value)) read ∙ rw other refl

label_long : (before : List Tlv) (value : List ℕ) → NoneTells label_of before → length value ≢ 4
    → label_at (is_some (latest label_of None before)) value ≡ answer 0 faults.TlvLength
unfolding label_at
label_long before value new len = rw (untold_again label_of before new, ne_eqb _ _ len) refl

fec_again_fails : (before : List Tlv) (value : List ℕ) → (¬ NoneTells fec_of before)
    → first_element (is_some (latest fec_of None before)) value ≡ answer 0 faults.TlvLength
fec_again_fails before value h = rw (told_again fec_of before h) refl

label_again_fails : (before : List Tlv) (value : List ℕ) → (¬ NoneTells label_of before)
    → label_at (is_some (latest label_of None before)) value ≡ answer 0 faults.TlvLength
unfolding label_at
label_again_fails before value h = rw (told_again label_of before h) refl

-- the way to read a value of that type
abbrev pub ValueFails : List Tlv → ℕ → ℕ → List ℕ → ℕ → Stop → Type 0
ValueFails before bits kind value offset s = (k : TlvKind) × KindIs bits kind (Some k) × (value_of (found_of before) k value ≡ Err (offset, s))

pub value_fails : (before : List Tlv) (bits kind : ℕ) (value : List ℕ) (offset : ℕ) (e : LdpFault) → IsOctets value
    → ValueFault before kind value offset e → ValueFails before bits kind value offset (stops.Fault e)
value_fails before bits kind value offset e fits (first.again (inl (is, told)) at same) =
    (kinds.Fec, is, as_fec before value ∙ fec_again_fails before value told ∙ fault_is answer offset 0 e faults.TlvLength at same)
value_fails before bits kind value offset e fits (first.again (inr (is, told)) at same) =
    (kinds.Label, is, as_label before value ∙ label_again_fails before value told ∙ fault_is answer offset 0 e faults.TlvLength at same)
value_fails before bits kind value offset e fits (first.in_fec is new like f h at same) = (
  kinds.Fec,
  is,
  as_fec before value ∙ as_element before value new like ∙ element_fails value f fits h
      ∙ fault_is answer offset (4 + f.place) e (faults.Fec f.reason) at same,
)
value_fails before bits kind value offset e fits (first.after_fec is new f text more s parts pos at same) = (
  kinds.Fec,
  is,
  as_fec before value ∙ as_element before value new (spelled_like f text more value s parts)
      ∙ element_after value f text more s parts pos ∙ fault_is answer offset 0 e faults.TlvLength at same,
)
value_fails before bits kind value offset e fits (first.label_length is new len at same) =
    (kinds.Label, is, as_label before value ∙ label_long before value new len ∙ fault_is answer offset 0 e faults.TlvLength at same)
value_fails before bits kind value offset e fits (first.label_low is new high label h low parts at same) =
    let below : ltb label 16 ≡ true = lt-ltb _ _ low in (
      kinds.Label,
      is,
      as_label before value ∙ label_at_is before high label h (omega (arith, low)) value parts new
          ∙ rw below (fault_is answer offset 4 e faults.Label at same),
    )

-- an element of no multipoint LSP is answered
pub value_unlike : (before : List Tlv) (value : List ℕ) → NoneTells fec_of before → IsUnlikeValue value
    → value_of (found_of before) kinds.Fec value ≡ Err (0, stops.Unlike)
unfolding value_of
value_unlike before value new unlike = rw (untold_again fec_of before new, unlike_again value unlike) refl
