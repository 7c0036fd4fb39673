-- The lines that `probe` writes of an edge.
use Rattle.std.specs.Prelude.{◌≡◌, ℕ, ◌++◌, Bool, List, [], codes, is_some, slice_get, Option, None, Some}
use Rattle.std.specs.List.{flat_map}
use Rattle.mv_base.specs.declared.ids.VrfId.{VrfId}
use Rattle.bgp_messages.specs.declared.bgp_attributes.fault.StreamFault.{StreamFault}
use Rattle.bgp_messages.specs.declared.bgp_attributes.key.Key.{Key}
use Rattle.bgp_messages.specs.declared.bgp_attributes.update.Message.{Message}
use Rattle.mldp.specs.declared.mldp_fec.fec.Fec.{Fec}
use Rattle.scenario_defs.specs.declared.scenario.Scenario.{Scenario}
use Rattle.value_text.specs.MessageText.{bgp_word, nlri_text}
use Rattle.value_text.specs.ValueText.{fec_line, refused_line}
use Rattle.probe_text.specs.probe_defs.Lines.{octets_of}
use Rattle.probe_text.specs.probe_defs.Probed.{Probed, Yield}
use Rattle.probe_text.specs.probe_defs.Imports.{Import}
use Rattle.probe_text.specs.probe_defs.declared.probe.ProbeReport.{ProbeReport}
use Rattle.probe_text.specs.declared.input.ProbeText.{ProbeText}

-- ---- lines

abbrev pub vrf_name : Scenario → VrfId → List ℕ
vrf_name scenario vrf = elim (slice_get scenario.vrfs vrf.0) [ None ↦ [] | Some found ↦ found.name ]

-- a route that the VRF of that name takes
abbrev pub named_import : List ℕ → Key → List ℕ
named_import name key = codes "import " ++ name ++ codes " " ++ nlri_text key ++ codes "\n"

abbrev pub import_line : Scenario → Import → List ℕ
import_line scenario import = named_import (vrf_name scenario import.vrf) import.key

-- a tunnel that the edge wants
abbrev pub want_line : Fec → List ℕ
want_line fec = codes "want " ++ fec_line fec

-- the first fault of the peer's octets, if they have one
abbrev pub refused_text : Option (ℕ × StreamFault) → List ℕ
refused_text None = []
refused_text (Some fault) = refused_line fault.0 (bgp_word fault.1)

-- the lines of a report: what VRFs take, what the edge wants, and the first fault last
abbrev pub report_text : Scenario → ProbeReport → List ℕ
report_text scenario report = flat_map (import_line scenario) report.imports ++ flat_map want_line report.wants ++ refused_text report.fault

-- These are the lines of what the edge makes of what it is given; the last one shows a fault of the peer's octets where it says so.
pub record TellsProbe (refused : Bool) (what : ProbeText) (text : List ℕ) : Type 0 where
  pub report : ProbeReport
  pub probed : Probed what.scenario what.ends.edge what.ends.peer what.lines report
  pub lines : text ≡ report_text what.scenario report
  pub faulty : refused ≡ is_some report.fault

-- the peer's octets have no fault, and they have a first one
abbrev pub IsSound : ProbeText → Type 0
IsSound what = (messages : List Message) × Yield (octets_of what.lines) messages None

abbrev pub HasPeerFault : ProbeText → Type 0
HasPeerFault what = (messages : List Message) × (fault : ℕ × StreamFault) × Yield (octets_of what.lines) messages (Some fault)
