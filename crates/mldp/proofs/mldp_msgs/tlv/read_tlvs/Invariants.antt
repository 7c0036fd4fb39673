use Rattle.std.proofs.Common.{◌≡◌, ◌-◌, length, List}
use Rattle.mv_base.proofs.framing.PartsLemmas.{OnParts}
use Rattle.mldp.specs.declared.mldp_msgs.tlv.Tlv.{Tlv}
use Rattle.mldp.specs.mldp_msgs.Reading.{found_of, next_tlv}
use Rattle.mldp.proofs.mldp_msgs.tlv.read_tlvs.Given as goal

-- what was found is what the TLVs before told, and the octets from here on are read as from the start
abbrev pub invariant-tlvs : goal.invariant-tlvs
invariant-tlvs l = (before : List Tlv) × OnParts next_tlv l.octets l.place before × (l.found ≡ found_of before)

abbrev pub decreases-tlvs : goal.decreases-tlvs
decreases-tlvs l = length l.octets - l.place
