-- What stands after the message id: it is read exactly where it is spelled, and its faults.
use Rattle.std.proofs.Common.{◌≡◌, ℕ, ◌+◌, ◌-◌, ◌<◌, ◌≤◌, ◌⊎◌, inl, inr, eqb, List, [], length, Option, Some, None, Result, Ok, Err, refl, ap, subst, ◌∙◌, arith}
use Rattle.std.specs.List.{Contains}
use Rattle.std.proofs.lemmas.Bool.{eqb-true, eqb-false}
use Rattle.mv_base.specs.Octets.{IsOctets}
use Rattle.mv_base.specs.framing.Parts.{PartFails, parts_of}
use Rattle.mv_base.proofs.framing.PartsLemmas.{parts_found, parts_again, fault_found, fault_again, rest_within, past_all, stops as stop_here}
use Rattle.mldp.specs.declared.mldp_fec.fec.Fec.{Fec}
use Rattle.mldp.specs.declared.mldp_msgs.fault.LdpFault.{LdpFault}
use Rattle.mldp.specs.declared.mldp_msgs.fault.LdpFault.TheVariants as faults
use Rattle.mldp.specs.declared.mldp_msgs.message.LabelMessage.{LabelMessage}
use Rattle.mldp.specs.declared.mldp_msgs.message.LabelMessage.TheVariants as messages
use Rattle.mldp.specs.declared.mldp_msgs.reading.LabelType.{LabelType}
use Rattle.mldp.specs.declared.mldp_msgs.reading.LabelType.TheVariants as types
use Rattle.mldp.specs.declared.mldp_msgs.tlv.Stop.{Stop}
use Rattle.mldp.specs.declared.mldp_msgs.tlv.Stop.TheVariants as stops
use Rattle.mldp.specs.declared.mldp_msgs.tlv.Tlv.{Tlv}
use Rattle.mldp.specs.declared.mldp_msgs.tlv.Tlv.TheVariants as tlvs
use Rattle.mldp.specs.mldp_msgs.Spelling.{fec_of, label_of, NoneTells, SpellsTlv, IsNew, AreTlvs, IsLabelType, Carries, IsUnlike, Means}
use Rattle.mldp.specs.mldp_msgs.FirstFault.{TlvFault}
use Rattle.mldp.specs.mldp_msgs.Reading.{latest, found_in, next_tlv, label_type, message_of, labelled, stopped, content_by, body_by, body_of}
use Rattle.mldp.proofs.mldp_msgs.Fronts.{fault_is, meets}
use Rattle.mldp.proofs.mldp_msgs.Tells.{none_latest, latest_none, latest_some, fecs_new, labels_new, known}
use Rattle.mldp.proofs.mldp_msgs.Tlvs.{TlvStops, tlv_reader, unlike_tlv}

-- ---- the type

abbrev number_of : LabelType → ℕ
number_of types.Mapping = 0x0400
number_of types.Withdraw = 0x0402
number_of types.Release = 0x0403

-- the number is that of the type, or of none
abbrev TypeIs : ℕ → Option LabelType → Type 0
TypeIs kind (Some t) = kind ≡ number_of t
TypeIs kind None = ¬ IsLabelType kind

type_is : (kind : ℕ) → TypeIs kind (label_type kind)
type_is kind =
    let P : Option LabelType → Type 0 = TypeIs kind in
    let z : Option LabelType = label_type kind in
    meets P (eqb kind 0x0400) _ _ z refl (λ t. eqb-true _ _ t) (λ f0 e0.
    meets P (eqb kind 0x0402) _ _ z e0 (λ t. eqb-true _ _ t) (λ f1 e1.
    meets P (eqb kind 0x0403) _ _ z e1 (λ t. eqb-true _ _ t) (λ f2 e2.
    let none : ¬ IsLabelType kind =
    λ h. elim h [ inl a ↦ eqb-false _ _ f0 a | inr b ↦ elim b [ inl a ↦ eqb-false _ _ f1 a | inr a ↦ eqb-false _ _ f2 a ] ] in
    subst P e2 none)))

is_label : (t : LabelType) (kind : ℕ) → kind ≡ number_of t → IsLabelType kind
is_label types.Mapping kind h = inl h
is_label types.Withdraw kind h = inr (inl h)
is_label types.Release kind h = inr (inr h)

label_is : (kind : ℕ) → IsLabelType kind → (t : LabelType) × (kind ≡ number_of t)
label_is kind (inl h) = (types.Mapping, h)
label_is kind (inr (inl h)) = (types.Withdraw, h)
label_is kind (inr (inr h)) = (types.Release, h)

type_again : (t : LabelType) (kind : ℕ) → kind ≡ number_of t → label_type kind ≡ Some t
type_again t kind h = ap label_type h ∙ own t
  where
    own : (t : LabelType) → label_type (number_of t) ≡ Some t
    own types.Mapping = refl
    own types.Withdraw = refl
    own types.Release = refl

type_none : (kind : ℕ) → (¬ IsLabelType kind) → label_type kind ≡ None
type_none kind h = by_type (label_type kind) (type_is kind) refl
  where
    by_type : (o : Option LabelType) → TypeIs kind o → label_type kind ≡ o → label_type kind ≡ None
    by_type None is e = e
    by_type (Some t) is e = absurd (h (is_label t kind is))

-- ---- the TLVs

fec_told : (t : Tlv) (f : Fec) → fec_of t ≡ Some f → t ≡ tlvs.Fec f
fec_told (tlvs.Fec g) f e = let same : g ≡ f = cc in ap (λ (h : Fec). tlvs.Fec h) same
fec_told (tlvs.Label l) f e = absurd cc
fec_told tlvs.Passed f e = absurd cc

label_told : (t : Tlv) (l : ℕ) → label_of t ≡ Some l → t ≡ tlvs.Label l
label_told (tlvs.Fec g) l e = absurd cc
label_told (tlvs.Label k) l e = let same : k ≡ l = cc in ap (λ (n : ℕ). tlvs.Label n) same
label_told tlvs.Passed l e = absurd cc

has_fec : (ts : List Tlv) (f : Fec) → latest fec_of None ts ≡ Some f → Contains ts (tlvs.Fec f)
has_fec ts f e =
    elim (latest_some fec_of None ts f e) [ inl none ↦ absurd cc | inr some ↦ subst (Contains ts) (fec_told some.0 f some.2) some.1 ]

has_label : (ts : List Tlv) (l : ℕ) → latest label_of None ts ≡ Some l → Contains ts (tlvs.Label l)
has_label ts l e =
    elim (latest_some label_of None ts l e) [ inl none ↦ absurd cc | inr some ↦ subst (Contains ts) (label_told some.0 l some.2) some.1 ]

-- ---- what was read

-- a fault of the TLVs, or that one is missing
abbrev pub BodyFault : ℕ → List ℕ → ℕ → LdpFault → Type 0
BodyFault kind body offset e =
    IsLabelType kind × (((place : ℕ) × PartFails SpellsTlv IsNew TlvFault body place e × (offset ≡ 8 + place))
    ⊎ ((ts : List Tlv) × AreTlvs body ts × (NoneTells fec_of ts ⊎ NoneTells label_of ts) × (offset ≡ 0) × (e ≡ faults.MissingTlv)))

-- what the answer says of the octets
abbrev pub BodyMeans : ℕ → List ℕ → Result LabelMessage (ℕ × LdpFault) → Type 0
BodyMeans kind body (Ok m) = Means m kind body
BodyMeans kind body (Err f) = BodyFault kind body f.0 f.1

carried : (t : LabelType) (kind : ℕ) (f : Fec) (l : ℕ) (body : List ℕ) → kind ≡ number_of t → Carries f l body → Means (message_of t f l) kind body
carried types.Mapping kind f l body is c = (is, c)
carried types.Withdraw kind f l body is c = (is, c)
carried types.Release kind f l body is c = (is, c)

by_found : (t : LabelType) (kind : ℕ) (body : List ℕ) (ts : List Tlv) → kind ≡ number_of t → AreTlvs body ts → (o : Option Fec) (p : Option ℕ)
    → latest fec_of None ts ≡ o → latest label_of None ts ≡ p → BodyMeans kind body (labelled t o p)
by_found t kind body ts is are (Some f) (Some l) d e =
    carried t kind f l body is (record { said = ts; are = are; has_fec = has_fec ts f d; has_label = has_label ts l e })
by_found t kind body ts is are (Some f) None d e = (is_label t kind is, inr (ts, are, inr (latest_none label_of None ts e).1, refl, refl))
by_found t kind body ts is are None p d e = (is_label t kind is, inr (ts, are, inl (latest_none fec_of None ts d).1, refl, refl))

by_stop : (t : LabelType) (kind : ℕ) (body : List ℕ) → kind ≡ number_of t → (place : ℕ) (s : Stop) → PartFails SpellsTlv IsNew TlvStops body place s
    → BodyMeans kind body (stopped kind place s)
by_stop t kind body is place (stops.Fault e) h = (
  is_label t kind is,
  inl (
    place,
    record {
      parts = h.parts;
      rest = h.rest;
      offset = h.offset;
      stand = h.stand;
      follow = h.follow;
      at = h.at;
      faulty = h.faulty;
    },
    refl,
  ),
)
by_stop t kind body is place stops.Unlike h = (
  refl,
  inr (
    is_label t kind is,
    record {
      before = h.parts;
      rest = h.rest;
      are = h.stand;
      no_fec = h.faulty.1;
      stands = h.faulty.2;
    },
  ),
)

by_parts : (t : LabelType) (kind : ℕ) (body : List ℕ) → kind ≡ number_of t → IsOctets body → (r : Result (List Tlv) (ℕ × Stop))
    → parts_of next_tlv body ≡ r → BodyMeans kind body (content_by t kind (found_in r))
by_parts t kind body is fits (Ok ts) e =
    by_found t kind body ts is (parts_found next_tlv SpellsTlv IsNew TlvStops tlv_reader body ts fits e) (latest fec_of None ts)
    (latest label_of None ts) refl refl
by_parts t kind body is fits (Err f) e = by_stop t kind body is f.0 f.1 (fault_found next_tlv SpellsTlv IsNew TlvStops tlv_reader body f.0 f.1 fits e)

by_type : (o : Option LabelType) (kind : ℕ) (body : List ℕ) → TypeIs kind o → IsOctets body → BodyMeans kind body (body_by o kind body)
by_type None kind body is fits = (refl, inl is)
by_type (Some t) kind body is fits = by_parts t kind body is fits (parts_of next_tlv body) refl

pub body_is : (kind : ℕ) (body : List ℕ) → IsOctets body → BodyMeans kind body (body_of kind body)
unfolding body_of
body_is kind body fits = by_type (label_type kind) kind body (type_is kind) fits

-- ---- what is spelled is read

of_type : (t : LabelType) (kind : ℕ) (body : List ℕ) → kind ≡ number_of t → body_of kind body ≡ content_by t kind (found_in (parts_of next_tlv body))
unfolding body_of
of_type t kind body is = ap (λ (o : Option LabelType). body_by o kind body) (type_again t kind is)

of_none : (kind : ℕ) (body : List ℕ) → (¬ IsLabelType kind) → body_of kind body ≡ Ok (messages.Ignored kind)
unfolding body_of
of_none kind body not = ap (λ (o : Option LabelType). body_by o kind body) (type_none kind not)

of_tlvs : (t : LabelType) (kind : ℕ) (body : List ℕ) (ts : List Tlv) → kind ≡ number_of t → AreTlvs body ts
    → body_of kind body ≡ labelled t (latest fec_of None ts) (latest label_of None ts)
of_tlvs t kind body ts is are =
    of_type t kind body is ∙ ap (λ (r : Result (List Tlv) (ℕ × Stop)). content_by t kind (found_in r))
    (parts_again next_tlv SpellsTlv IsNew TlvStops tlv_reader body ts are)

carries_again : (t : LabelType) (kind : ℕ) (f : Fec) (l : ℕ) (body : List ℕ) → kind ≡ number_of t → Carries f l body
    → body_of kind body ≡ Ok (message_of t f l)
carries_again t kind f l body is c =
    of_tlvs t kind body c.said is c.are
    ∙ ap (λ (o : Option Fec). labelled t o (latest label_of None c.said))
    (known fec_of fecs_new None [] body c.said [] c.are (tlvs.Fec f) f c.has_fec refl)
    ∙ ap (λ (o : Option ℕ). labelled t (Some f) o) (known label_of labels_new None [] body c.said [] c.are (tlvs.Label l) l c.has_label refl)

-- TLVs without a FEC, and then an element of no multipoint LSP
unlike_parts : (body : List ℕ) → IsUnlike body → (place : ℕ) × (parts_of next_tlv body ≡ Err (place, stops.Unlike))
unlike_parts body u =
    let within : length u.rest ≤ length body = rest_within SpellsTlv IsNew [] body u.before u.rest u.are in
    let there : ℕ = length body - length u.rest in
    let more : 0 < length u.rest = omega (arith, ap (λ (xs : List ℕ). length xs) u.stands.parts) in (
      there + 0,
      past_all next_tlv SpellsTlv IsNew TlvStops tlv_reader [] 0 there body u.before u.rest u.are (omega (arith, within))
          ∙ stop_here next_tlv u.before there 0 stops.Unlike u.rest more (unlike_tlv u.before u.rest u.no_fec u.stands),
    )

unlike_again : (kind : ℕ) (body : List ℕ) → IsLabelType kind → IsUnlike body → body_of kind body ≡ Ok (messages.Ignored kind)
unlike_again kind body is u =
    let t = label_is kind is in
    of_type t.0 kind body t.1 ∙ ap (λ (r : Result (List Tlv) (ℕ × Stop)). content_by t.0 kind (found_in r)) (unlike_parts body u).1

ignored_again : (kind own : ℕ) (body : List ℕ) → kind ≡ own → (¬ IsLabelType kind) ⊎ (IsLabelType kind × IsUnlike body)
    → body_of kind body ≡ Ok (messages.Ignored own)
ignored_again kind own body same (inl not) = of_none kind body not ∙ ap (λ (n : ℕ). Ok (messages.Ignored n)) same
ignored_again kind own body same (inr (is, u)) = unlike_again kind body is u ∙ ap (λ (n : ℕ). Ok (messages.Ignored n)) same

pub body_again : (m : LabelMessage) (kind : ℕ) (body : List ℕ) → Means m kind body → body_of kind body ≡ Ok m
body_again (messages.Mapping f l) kind body (is, c) = carries_again types.Mapping kind f l body is c
body_again (messages.Withdraw f l) kind body (is, c) = carries_again types.Withdraw kind f l body is c
body_again (messages.Release f l) kind body (is, c) = carries_again types.Release kind f l body is c
body_again (messages.Ignored own) kind body (same, why) = ignored_again kind own body same why

-- ---- the first fault is answered

abbrev wrong : ℕ → LdpFault → Result LabelMessage (ℕ × LdpFault)
wrong offset e = Err (offset, e)

missing : (t : LabelType) (ts : List Tlv) → NoneTells fec_of ts ⊎ NoneTells label_of ts
    → labelled t (latest fec_of None ts) (latest label_of None ts) ≡ wrong 0 faults.MissingTlv
missing t ts (inl none) = ap (λ (o : Option Fec). labelled t o (latest label_of None ts)) (none_latest fec_of None ts none)
missing t ts (inr none) =
    ap (λ (o : Option ℕ). labelled t (latest fec_of None ts) o) (none_latest label_of None ts none) ∙ without (latest fec_of None ts)
  where
    without : (o : Option Fec) → labelled t o None ≡ wrong 0 faults.MissingTlv
    without None = refl
    without (Some f) = refl

in_parts : (body : List ℕ) (place : ℕ) (e : LdpFault) → IsOctets body → PartFails SpellsTlv IsNew TlvFault body place e
    → parts_of next_tlv body ≡ Err (place, stops.Fault e)
in_parts body place e fits h =
    let f : PartFails SpellsTlv IsNew TlvStops body place (stops.Fault e) =
    record { parts = h.parts; rest = h.rest; offset = h.offset; stand = h.stand; follow = h.follow; at = h.at; faulty = h.faulty } in
    fault_again next_tlv SpellsTlv IsNew TlvStops tlv_reader body place (stops.Fault e) fits f

pub fails_body : (kind : ℕ) (body : List ℕ) (offset : ℕ) (e : LdpFault) → IsOctets body → BodyFault kind body offset e
    → body_of kind body ≡ Err (offset, e)
fails_body kind body offset e fits (is, inl (place, h, at)) =
    let t = label_is kind is in
    of_type t.0 kind body t.1 ∙ ap (λ (r : Result (List Tlv) (ℕ × Stop)). content_by t.0 kind (found_in r)) (in_parts body place e fits h)
    ∙ fault_is wrong offset (8 + place) e e at refl
fails_body kind body offset e fits (is, inr (ts, are, none, at, same)) =
    let t = label_is kind is in
    of_tlvs t.0 kind body ts t.1 are ∙ missing t.0 ts none ∙ fault_is wrong offset 0 e faults.MissingTlv at same
