-- Why a Join/Prune message that comes to an interface is refused (RFC 7761 section 4.9.5): it is for another neighbour, or its
-- octets have a first fault.
use Rattle.std.specs.Prelude.{ℕ, Bool, List, Option, None, Some, Ok, Err}
use Rattle.mv_base.specs.Address.{same_addr}
use Rattle.pim_defs.specs.pim_joinprune.declared.fault.PimFault.{PimFault}
use Rattle.pim_defs.specs.pim_joinprune.declared.fault.PimFault.TheVariants as faults
use Rattle.pim_defs.specs.pim_joinprune.Reading.{decoded}
use Rattle.scenario_defs.specs.declared.scenario.Scenario.{Scenario}
use Rattle.scenario_defs.specs.declared.report.Refusal.{Refusal}
use Rattle.scenario_defs.specs.declared.report.Refusal.TheVariants as refusals
use Rattle.scenario_defs.specs.declared.report.FaultWord.{FaultWord}
use Rattle.scenario_defs.specs.declared.report.FaultWord.TheVariants as words
use Rattle.mvpn_model.specs.declared.message.Given.{Given}
use Rattle.mvpn_model.specs.Messages.{own_addr}

-- whether the message is for the interface that it came to: its upstream neighbour is that interface's own address
abbrev pub is_ours : Scenario → Given → Bool
is_ours scenario given = same_addr given.message.neighbour (own_addr scenario given.iface)

-- the word that tells the fault of a Join/Prune message
abbrev pub fault_word : PimFault → FaultWord
fault_word faults.Short = words.Short
fault_word faults.Version = words.Version
fault_word faults.PimType = words.PimType
fault_word faults.Checksum = words.Checksum
fault_word faults.Family = words.Family
fault_word faults.Encoding = words.Encoding
fault_word faults.MaskLength = words.MaskLength
fault_word faults.Flags = words.Flags
fault_word faults.NotMulticast = words.NotMulticast
fault_word faults.Trailing = words.Trailing

-- why the octets of a message are refused, if they are: they have a first fault
abbrev pub octets_refusal : List ℕ → Option Refusal
octets_refusal octets = elim (decoded octets) [ Ok message ↦ None | Err fault ↦ Some (refusals.Bytes fault.0 (fault_word fault.1)) ]
