-- The formats of `decode` are apart: octets are whole, or have a fault.
use Rattle.std.proofs.Common.{◌≡◌, ℕ, zero, suc, ◌+◌, ◌<◌, ◌≤◌, Bool, true, false, List, ◌∷◌, ◌++◌, length, take, Result, arith, refl, sym, ◌∙◌}
use Rattle.std.specs.Prelude.{IfOk}
use Rattle.std.proofs.lemmas.Result.{IfOk-weaker}
use Rattle.mv_base.specs.Cursor.{start}
use Rattle.mv_base.specs.Octets.{IsOctets}
use Rattle.mv_base.proofs.Fields.{ok_or_err}
use Rattle.mldp.specs.declared.mldp_fec.fec.Fec.{Fec}
use Rattle.mldp.specs.declared.mldp_fec.fault.FecFault.{FecFault}
use Rattle.mldp.specs.mldp_fec.Spelling as fecs
use Rattle.mldp.specs.mldp_fec.FirstFault as fec_faults
use Rattle.mldp.proofs.mldp_fec.CallLemmas as fec_calls
use Rattle.mldp.proofs.mldp_fec.FecLemmas.{fec_again, fails_fec}
use Rattle.bgp_values.proofs.pmsi_attr.PmsiLemmas.{pmsi_again, fails_pmsi}
use Rattle.pim_joinprune.proofs.Whole.{message_again, fails_message}
use Rattle.bgp_values.specs.declared.mvpn_nlri.route.Route.{Route}
use Rattle.bgp_values.specs.declared.mvpn_nlri.route.Afi.TheVariants.{Ipv4}
use Rattle.bgp_values.specs.declared.mvpn_nlri.fault.RouteFault.{RouteFault}
use Rattle.bgp_values.specs.mvpn_nlri.Spelling as routes
use Rattle.bgp_values.specs.mvpn_nlri.FirstFault as route_faults
use Rattle.bgp_values.specs.mvpn_nlri.Reading.{route_at}
use Rattle.bgp_values.proofs.mvpn_nlri.CallLemmas as route_calls
use Rattle.mldp.specs.mldp_msgs.Reading.{pdu_front}
use Rattle.mldp.proofs.mldp_msgs.Pdus.{pdu_format}
use Rattle.bgp_messages.specs.bgp_update.Reading.{message_front}
use Rattle.bgp_messages.proofs.bgp_update.Messages.{message_format}
use Rattle.decode_text.specs.declared.format.Format.{Format}
use Rattle.decode_text.specs.declared.format.Format.TheVariants as formats
use Rattle.decode_text.specs.declared.telling.Told.{Told}
use Rattle.decode_text.specs.Formats.{of_fecs, of_routes, of_pmsi, of_pim, of_bgp, of_ldp, IsWhole, HasFault, Tells}
use Rattle.decode_text.specs.Single.{Single, TellsOne}
use Rattle.decode_text.specs.Values.{Stands}
use Rattle.decode_text.proofs.TellLemmas.{IsApart, whole_told, fault_told}
use Rattle.decode_text.proofs.SessionLemmas.{units_told, stop_told}

fec_or_fault : (octets after : List ℕ) (fec : Fec) (fault : FecFault) → IsOctets octets → fecs.Spells fec (fecs.written fec)
    → octets ≡ fecs.written fec ++ after → fec_faults.FirstFault (start octets) fault → ⊥
fec_or_fault octets after fec fault fits is parts first =
    ok_or_err (fec, record { left = after; place = 0 + length (fecs.written fec) }) fault
    (sym (fec_again (start octets) fec (fecs.written fec) (record { left = after; place = 0 + length (fecs.written fec) }) is
    (record { parts = parts; place = refl })) ∙ fails_fec (start octets) fault fits first)

pub fecs_apart : IsApart of_fecs
fecs_apart = record {
  one = λ v w x y p q same. (fec_calls.one v w (fecs.written v) (fecs.written w) x y p q same).1;
  not_both = fec_or_fault;
}

spelled_route : (route : Route) → routes.IsRoute Ipv4 route → routes.Spells Ipv4 route (routes.written route)
spelled_route route is = record { route = is; octets = refl }

route_or_fault : (octets after : List ℕ) (route : Route) (fault : RouteFault) → IsOctets octets → routes.IsRoute Ipv4 route
    → octets ≡ routes.written route ++ after → route_faults.FirstFault Ipv4 octets fault → ⊥
route_or_fault octets after route fault fits is parts first =
    ok_or_err (route, length (routes.written route)) fault
    (sym (route_calls.spelled_is_read (route_at Ipv4 octets) Ipv4 octets refl route (routes.written route) after (spelled_route route is) parts)
    ∙ route_calls.fault_is_read (route_at Ipv4 octets) Ipv4 octets refl fault first)

pub routes_apart : IsApart of_routes
routes_apart = record {
  one = λ v w x y p q same. (route_calls.one Ipv4 v w (routes.written v) (routes.written w) x y (spelled_route v p) (spelled_route w q) same).1;
  not_both = route_or_fault;
}

-- No octets are a value and have a fault.
abbrev IsValueOrFault : {V F : Type 0} → Single V F → Type 0
IsValueOrFault {V} {F} s = (octets : List ℕ) (value : V) (fault : F) → IsOctets octets → s.Spells value octets → s.First octets fault → ⊥

pmsi_or_fault : IsValueOrFault of_pmsi
pmsi_or_fault octets pmsi fault fits spells first = ok_or_err pmsi fault (sym (pmsi_again pmsi octets spells) ∙ fails_pmsi octets fault fits first)

joinprune_or_fault : IsValueOrFault of_pim
joinprune_or_fault octets message fault fits spells first =
    let answered = fails_message octets fault.0 fault.1 fits first in
    ok_or_err message (answered.0, fault.1) (sym (message_again message octets spells) ∙ answered.1)

-- Octets that are a value have no line of a fault.
value_told : {V F : Type 0} (s : Single V F) → IsValueOrFault s → (refused : Bool) (octets told : List ℕ) → IsOctets octets
    → TellsOne s refused octets told → (value : V) → s.Spells value octets → refused ≡ false
value_told s law false octets told fits tells value spells = refl
value_told s law true octets told fits tells value spells = absurd (law octets value tells.0 fits spells tells.1)

-- Octets that have a fault have its line.
refusal_told : {V F : Type 0} (s : Single V F) → IsValueOrFault s → (refused : Bool) (octets told : List ℕ) → IsOctets octets
    → TellsOne s refused octets told → (fault : F) → s.First octets fault → refused ≡ true
refusal_told s law true octets told fits tells fault first = refl
refusal_told s law false octets told fits tells fault first = absurd (law octets tells.0 fault fits tells.1 first)

-- Octets that are whole have no line of a fault.
whole_format : (format : Format) (refused : Bool) (octets told : List ℕ) → IsOctets octets → IsWhole format octets → Tells format refused octets told
    → refused ≡ false
whole_format formats.Fec refused octets told fits whole tells = whole_told of_fecs fecs_apart refused octets told fits tells whole.0 whole.1
whole_format formats.Nlri refused octets told fits whole tells = whole_told of_routes routes_apart refused octets told fits tells whole.0 whole.1
whole_format formats.Bgp refused octets told fits whole tells =
    units_told message_front of_bgp 4096 message_format refused octets told whole.0 fits whole.1 tells
whole_format formats.Ldp refused octets told fits whole tells =
    units_told pdu_front of_ldp 4100 pdu_format refused octets told whole.0 fits whole.1 tells
whole_format formats.Pmsi refused octets told fits whole tells = value_told of_pmsi pmsi_or_fault refused octets told fits tells whole.0 whole.1
whole_format formats.Pim refused octets told fits whole tells = value_told of_pim joinprune_or_fault refused octets told fits tells whole.0 whole.1

-- Octets with a first fault have its line.
fault_format : (format : Format) (refused : Bool) (octets told : List ℕ) → IsOctets octets → HasFault format octets → Tells format refused octets told
    → refused ≡ true
fault_format formats.Fec refused octets told fits has tells = fault_told of_fecs fecs_apart refused octets told fits tells has.0 has.1 has.2
fault_format formats.Nlri refused octets told fits has tells = fault_told of_routes routes_apart refused octets told fits tells has.0 has.1 has.2
fault_format formats.Bgp refused octets told fits has tells =
    stop_told message_front of_bgp 4096 message_format refused octets told has.0 has.1 has.2 fits has.3 tells
fault_format formats.Ldp refused octets told fits has tells =
    stop_told pdu_front of_ldp 4100 pdu_format refused octets told has.0 has.1 has.2 fits has.3 tells
fault_format formats.Pmsi refused octets told fits has tells = refusal_told of_pmsi pmsi_or_fault refused octets told fits tells has.0 has.1
fault_format formats.Pim refused octets told fits has tells =
    refusal_told of_pim joinprune_or_fault refused octets told fits tells (has.0, has.1) has.2

-- ---- what is read stands at the front

not_none : (len b : ℕ) (octets text : List ℕ) → take len octets ≡ b ∷ text → 0 < len
not_none zero b octets text e = absurd cc
not_none (suc len) b octets text e = omega arith

pub fec_stands : (octets : List ℕ) (fec : Fec) (len : ℕ) → fecs.Spells fec (take len octets) × (len ≤ length octets) → Stands of_fecs octets fec len
fec_stands octets fec len h = record {
  is = record { root = h.0.root; fits = h.0.fits; shape = h.0.shape; octets = refl };
  some = not_none len (fecs.kind_octet fec.kind) octets (fecs.root fec.root ++ fecs.opaque fec.opaque) h.0.octets;
  within = h.1;
  text = h.0.octets;
}

pub route_stands : (octets : List ℕ) (route : Route) (len : ℕ) → routes.Spells Ipv4 route (take len octets) × (len ≤ length octets)
    → Stands of_routes octets route len
route_stands octets route len h = record {
  is = h.0.route;
  some = not_none len (routes.kind route) octets (length (routes.fields route) ∷ routes.fields route) h.0.octets;
  within = h.1;
  text = h.0.octets;
}

-- ---- what is told, or memory is wanting

pub whole_tells : {E : Type 0} (format : Format) (octets : List ℕ) (told : Result Told E) → IsOctets octets → IsWhole format octets
    → IfOk told (λ t. Tells format t.refused octets t.text) → IfOk told (λ t. t.refused ≡ false)
whole_tells format octets told fits whole tells =
    IfOk-weaker told (λ t. Tells format t.refused octets t.text) (λ t. t.refused ≡ false)
    (λ t h. whole_format format t.refused octets t.text fits whole h) tells

pub fault_tells : {E : Type 0} (format : Format) (octets : List ℕ) (told : Result Told E) → IsOctets octets → HasFault format octets
    → IfOk told (λ t. Tells format t.refused octets t.text) → IfOk told (λ t. t.refused ≡ true)
fault_tells format octets told fits fault tells =
    IfOk-weaker told (λ t. Tells format t.refused octets t.text) (λ t. t.refused ≡ true)
    (λ t h. fault_format format t.refused octets t.text fits fault h) tells
