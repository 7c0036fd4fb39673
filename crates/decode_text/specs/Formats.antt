-- The formats of `decode`: which octets are whole, where they have a fault, and what is told of them.
use Rattle.std.specs.Prelude.{ℕ, ◌+◌, Bool, List}
use Rattle.mv_base.specs.Cursor.{start}
use Rattle.mldp.specs.declared.mldp_fec.fault.FecFault.{FecFault}
use Rattle.mldp.specs.declared.mldp_fec.fec.Fec.{Fec}
use Rattle.mldp.specs.mldp_fec.FirstFault as fec_faults
use Rattle.mldp.specs.mldp_fec.Spelling as fecs
use Rattle.bgp_values.specs.declared.pmsi_attr.fault.PmsiFault.{PmsiFault}
use Rattle.bgp_values.specs.declared.pmsi_attr.pmsi.Pmsi.{Pmsi}
use Rattle.bgp_values.specs.pmsi_attr.FirstFault as pmsi_faults
use Rattle.bgp_values.specs.pmsi_attr.Spelling as pmsis
use Rattle.pim_joinprune.specs.declared.fault.PimFault.{PimFault}
use Rattle.pim_joinprune.specs.declared.message.JoinPrune.{JoinPrune}
use Rattle.pim_joinprune.specs.FirstFault as joinprune_faults
use Rattle.pim_joinprune.specs.Spelling as joinprunes
use Rattle.bgp_values.specs.declared.mvpn_nlri.fault.RouteFault.{RouteFault}
use Rattle.bgp_values.specs.declared.mvpn_nlri.route.Route.{Route}
use Rattle.bgp_values.specs.declared.mvpn_nlri.route.Afi.TheVariants.{Ipv4}
use Rattle.bgp_values.specs.mvpn_nlri.FirstFault as route_faults
use Rattle.bgp_values.specs.mvpn_nlri.Spelling as routes
use Rattle.bgp_messages.specs.declared.bgp_attributes.fault.StreamFault.{StreamFault}
use Rattle.bgp_messages.specs.declared.bgp_attributes.update.Message.{Message}
use Rattle.bgp_messages.specs.bgp_update.FirstFault.{UnitFault}
use Rattle.bgp_messages.specs.bgp_update.Spelling.{SpellsMessage}
use Rattle.mldp.specs.declared.mldp_msgs.fault.LdpFault.{LdpFault}
use Rattle.mldp.specs.declared.mldp_msgs.message.LabelMessage.{LabelMessage}
use Rattle.mldp.specs.mldp_msgs.FirstFault.{PduFault}
use Rattle.mldp.specs.mldp_msgs.Spelling.{SpellsPdu}
use Rattle.value_text.specs.MessageText.{message_lines, bgp_word, label_message_line, ldp_word}
use Rattle.value_text.specs.JoinPruneText.{joinprune_lines, pim_word}
use Rattle.decode_text.specs.declared.format.Format.{Format}
use Rattle.decode_text.specs.declared.format.Format.TheVariants as formats
use Rattle.value_text.specs.ValueText.{fec_line, fec_word, pmsi_line, pmsi_word, route_line, route_word, refused_line}
use Rattle.decode_text.specs.Values.{Telling, Whole, Stop, TellsEach}
use Rattle.decode_text.specs.Single.{Single, TellsOne}
use Rattle.decode_text.specs.Sessions.{Session, AreUnits, StopsAt, TellsSession}

-- FEC elements
abbrev pub of_fecs : Telling Fec FecFault
of_fecs = record {
  text = fecs.written;
  Is = λ fec. fecs.Spells fec (fecs.written fec);
  First = λ octets fault. fec_faults.FirstFault (start octets) fault;
  line = fec_line;
  refusal = λ thereafter fault. refused_line (thereafter + fault.place) (fec_word fault.reason);
}

-- routes of AFI 1
abbrev pub of_routes : Telling Route RouteFault
of_routes = record {
  text = routes.written;
  Is = λ route. routes.IsRoute Ipv4 route;
  First = λ octets fault. route_faults.FirstFault Ipv4 octets fault;
  line = route_line;
  refusal = λ thereafter fault. refused_line (thereafter + fault.place) (route_word fault.reason);
}

-- one tunnel attribute
abbrev pub of_pmsi : Single Pmsi PmsiFault
of_pmsi = record {
  Spells = pmsis.Spells;
  First = pmsi_faults.FirstFault;
  lines = pmsi_line;
  refusal = λ fault. refused_line fault.place (pmsi_word fault.reason);
}

-- one Join/Prune message; a fault is told with its place, which stands first
abbrev pub of_pim : Single JoinPrune (ℕ × PimFault)
of_pim = record {
  Spells = joinprunes.Spells;
  First = λ octets fault. joinprune_faults.FirstFault octets fault.0 fault.1;
  lines = joinprune_lines;
  refusal = λ fault. refused_line fault.0 (pim_word fault.1);
}

-- messages of BGP
abbrev pub of_bgp : Session Message StreamFault
of_bgp = record { Spells = SpellsMessage; Faulty = UnitFault; lines = message_lines; word = bgp_word }

-- PDUs of LDP, with their label messages
abbrev pub of_ldp : Session LabelMessage LdpFault
of_ldp = record { Spells = SpellsPdu; Faulty = PduFault; lines = label_message_line; word = ldp_word }

-- The octets are whole: FEC elements or routes end to end, one tunnel attribute, one Join/Prune message, or messages or
-- PDUs of a session end to end.
abbrev pub IsWhole : Format → List ℕ → Type 0
IsWhole formats.Fec octets = (values : List Fec) × Whole of_fecs octets values
IsWhole formats.Pmsi octets = (pmsi : Pmsi) × pmsis.Spells pmsi octets
IsWhole formats.Nlri octets = (values : List Route) × Whole of_routes octets values
IsWhole formats.Bgp octets = (messages : List Message) × AreUnits of_bgp octets messages
IsWhole formats.Ldp octets = (messages : List LabelMessage) × AreUnits of_ldp octets messages
IsWhole formats.Pim octets = (message : JoinPrune) × joinprunes.Spells message octets

-- The octets have a first fault, after the values before it; those of a session may also end inside a message or PDU.
abbrev pub HasFault : Format → List ℕ → Type 0
HasFault formats.Fec octets = (values : List Fec) × (fault : FecFault) × Stop of_fecs octets values fault
HasFault formats.Pmsi octets = (fault : PmsiFault) × pmsi_faults.FirstFault octets fault
HasFault formats.Nlri octets = (values : List Route) × (fault : RouteFault) × Stop of_routes octets values fault
HasFault formats.Bgp octets = (messages : List Message) × (place : ℕ) × (word : List ℕ) × StopsAt of_bgp octets messages place word
HasFault formats.Ldp octets = (messages : List LabelMessage) × (place : ℕ) × (word : List ℕ) × StopsAt of_ldp octets messages place word
HasFault formats.Pim octets = (place : ℕ) × (fault : PimFault) × joinprune_faults.FirstFault octets place fault

-- what a text tells of octets, by whether a fault was met
abbrev pub Tells : Format → Bool → List ℕ → List ℕ → Type 0
Tells formats.Fec refused octets told = TellsEach of_fecs refused octets told
Tells formats.Pmsi refused octets told = TellsOne of_pmsi refused octets told
Tells formats.Nlri refused octets told = TellsEach of_routes refused octets told
Tells formats.Bgp refused octets told = TellsSession of_bgp refused octets told
Tells formats.Ldp refused octets told = TellsSession of_ldp refused octets told
Tells formats.Pim refused octets told = TellsOne of_pim refused octets told
