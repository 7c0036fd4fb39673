-- The messages of a PDU in octets are sound.
use Rattle.std.proofs.Common.{◌≡◌, ℕ, zero, suc, ◌+◌, ◌*◌, ◌^◌, List, [], ◌∷◌, ◌++◌, length, refl, sym, subst, arith}
use Rattle.std.specs.Int.{w16, to_be_bytes}
use Rattle.std.specs.List.{AllByRecursion, Contains}
use Rattle.mv_base.specs.Octets.{IsOctets}
use Rattle.mv_base.specs.framing.Parts.{ArePartsAfter}
use Rattle.mv_base.specs.framing.Units.{Spelled, AreUnits, octets_of, messages_of}
use Rattle.mv_base.proofs.framing.Cuts.{IsOctets-before, IsOctets-after}
use Rattle.mldp.specs.mldp_fec.Spelling as fecs
use Rattle.mldp.specs.declared.mldp_fec.fec.Fec.{Fec}
use Rattle.mldp.specs.mldp_msgs.Spelling.{IsLabel, SpellsTlv, IsNew, Carries, Means, SpellsMessage, SpellsPdu}
use Rattle.mldp.specs.declared.mldp_msgs.message.LabelMessage.{LabelMessage}
use Rattle.mldp.specs.declared.mldp_msgs.message.LabelMessage.TheVariants as messages
use Rattle.bgp_messages.specs.declared.bgp_attributes.update.Message.{Message}
use Rattle.bgp_messages.specs.bgp_update.Spelling as updates
use Rattle.scenario_defs.specs.declared.event.Kind.{Kind}
use Rattle.scenario_defs.specs.declared.event.Kind.TheVariants as kinds
use Rattle.network_defs.specs.session_defs.Message.{SessionMessage, Bgp, Label, IsPut}
use Rattle.network_defs.specs.session_defs.Refined.{IsCarried}
use Rattle.network_laws.specs.Sound.{IsSoundFec}
use Rattle.network_laws.proofs.Lists.{each_append, each_map, each_inner}
use Rattle.network_laws.proofs.LabelSound.{IsSoundLabelMessage}

-- ---- octets among octets

-- after two numbers of two octets
after_two : (a b : ℕ) (rest text : List ℕ) → text ≡ to_be_bytes w16 a ++ (to_be_bytes w16 b ++ rest) → IsOctets text → IsOctets rest
after_two a b rest text parts fits =
    IsOctets-after (to_be_bytes w16 b) rest (IsOctets-after (to_be_bytes w16 a) (to_be_bytes w16 b ++ rest) (subst IsOctets parts fits))

-- the octets of parts are octets
part_octets : {M : Type 0} (Spells : M → List ℕ → Type 0) (Fits : List M → M → Type 0) (before : List M) (octets : List ℕ) (ms : List M)
    → ArePartsAfter Spells Fits before octets ms [] → IsOctets octets
    → AllByRecursion (λ m. (text : List ℕ) × Spells m text × IsOctets text) ms
part_octets Spells Fits before octets [] are fits = tt
part_octets Spells Fits before octets (m ∷ ms) (text, after, spells, new, parts, more) fits =
    let both : IsOctets (text ++ after) = subst IsOctets parts fits in
    ((text, spells, IsOctets-before text after both), part_octets Spells Fits (before ++ m ∷ []) after ms more (IsOctets-after text after both))

pub contained : {X : Type 0} (P : X → Type 0) (xs : List X) (x : X) → AllByRecursion P xs → Contains xs x → P x
contained P [] x p (k, within, e) = absurd (omega (arith, within))
contained P (y ∷ ys) x p (zero, within, e) = subst P e p.0
contained P (y ∷ ys) x p (suc k, within, e) = contained P ys x p.1 (k, omega (arith, within), e)

-- ---- messages

spelled_sound : (fec : Fec) (value : List ℕ) → fecs.Spells fec value → IsOctets value → IsSoundFec fec
spelled_sound fec value s fits = (record { root = s.root; fits = s.fits; shape = s.shape; octets = refl }, subst IsOctets s.octets fits)

carried_sound : (fec : Fec) (label : ℕ) (body : List ℕ) → Carries fec label body → IsOctets body → IsSoundFec fec × IsLabel label
carried_sound fec label body c fits =
    let all = part_octets SpellsTlv IsNew [] body c.said c.are fits in
    let a = contained (λ t. (text : List ℕ) × SpellsTlv t text × IsOctets text) c.said _ all c.has_fec in
    let b = contained (λ t. (text : List ℕ) × SpellsTlv t text × IsOctets text) c.said _ all c.has_label in
    let value : IsOctets a.1.value = after_two (a.1.bits * 2 ^ 14 + a.1.kind) (length a.1.value) a.1.value a.0 a.1.parts a.2 in
    (spelled_sound fec a.1.value a.1.says.1 value, b.1.says.1)

meant_sound : (message : LabelMessage) (kind : ℕ) (body : List ℕ) → Means message kind body → IsOctets body → IsSoundLabelMessage message
meant_sound (messages.Mapping fec label) kind body m fits = carried_sound fec label body m.1 fits
meant_sound (messages.Withdraw fec label) kind body m fits = carried_sound fec label body m.1 fits
meant_sound (messages.Release fec label) kind body m fits = carried_sound fec label body m.1 fits
meant_sound (messages.Ignored own) kind body m fits = tt

abbrev AreSoundMessages : List LabelMessage → Type 0
AreSoundMessages ms = AllByRecursion IsSoundLabelMessage ms

unit_sound : (ms : List LabelMessage) (text : List ℕ) → SpellsMessage ms text → IsOctets text → AreSoundMessages ms
unit_sound ms text s fits =
    let inner : IsOctets s.body = IsOctets-after s.id s.body (after_two s.kind (4 + length s.body) (s.id ++ s.body) text s.parts fits) in
    subst AreSoundMessages (sym s.one) (meant_sound s.message s.kind s.body s.means inner, tt)

units_sound : (units : List (Spelled LabelMessage)) → AreUnits SpellsMessage units → IsOctets (octets_of units) → AreSoundMessages (messages_of units)
units_sound [] each fits = tt
units_sound (unit ∷ more) each fits =
    each_append IsSoundLabelMessage unit.messages (messages_of more)
    (unit_sound unit.messages unit.octets each.0 (IsOctets-before unit.octets (octets_of more) fits))
    (units_sound more each.1 (IsOctets-after unit.octets (octets_of more) fits))

-- ---- a PDU

pub taken_message_is_sound : (plain : List LabelMessage) (text : List ℕ) → SpellsPdu plain text → IsOctets text
    → AllByRecursion IsSoundLabelMessage plain
taken_message_is_sound plain text s fits =
    let inner : IsOctets s.body = IsOctets-after s.ident s.body (after_two 1 (6 + length s.body) (s.ident ++ s.body) text s.parts fits) in
    let all : IsOctets (octets_of s.messages.units) = IsOctets-before (octets_of s.messages.units) [] (subst IsOctets s.messages.parts inner) in
    subst AreSoundMessages (sym s.messages.carried) (units_sound s.messages.units s.messages.each all)

-- ---- the messages of a unit

-- A message that a unit carries: one over BGP is spelled in octets, and one over LDP is sound.
abbrev pub IsSoundMessage : SessionMessage → Type 0
IsSoundMessage (Bgp message) = (text : List ℕ) × updates.SpellsMessage (message ∷ []) text × IsOctets text
IsSoundMessage (Label message) = IsSoundLabelMessage message

unit_messages : (kind : Kind) (ms : List SessionMessage) (text : List ℕ) → IsPut kind ms text → AllByRecursion IsSoundMessage ms
unit_messages kinds.Bgp ms text ((plain, same, spells), fits) =
    let as_message : Message → SessionMessage = λ message. Bgp message in
    let one : updates.SpellsMessage (spells.message ∷ []) text = subst (λ (list : List Message). updates.SpellsMessage list text) spells.one spells in
    let each : AllByRecursion (λ message. IsSoundMessage (as_message message)) plain =
    subst (AllByRecursion (λ message. IsSoundMessage (as_message message))) (sym spells.one) ((text, one, fits), tt) in
    subst (AllByRecursion IsSoundMessage) (sym same) (each_map IsSoundMessage as_message plain each)
unit_messages kinds.Ldp ms text ((plain, same, spells), fits) =
    let as_message : LabelMessage → SessionMessage = λ message. Label message in
    subst (AllByRecursion IsSoundMessage) (sym same) (each_map IsSoundMessage as_message plain (taken_message_is_sound plain text spells fits))

-- one of the messages of a unit
pub carried_is_sound : (kind : Kind) (message : SessionMessage) → IsCarried kind message → IsSoundMessage message
carried_is_sound kind message carried =
    each_inner IsSoundMessage carried.before message carried.thereafter
    (unit_messages kind (carried.before ++ message ∷ carried.thereafter) carried.text carried.put)
