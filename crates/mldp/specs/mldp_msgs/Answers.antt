-- What a reader of one PDU answered.
use Rattle.std.specs.Prelude.{ℕ, ◌<◌, ◌≤◌, Option, Some, None}
use Rattle.mv_base.specs.framing.Cut.{Front}
use Rattle.mv_base.specs.framing.Cut.Front.{more, whole, bad}
use Rattle.mldp.specs.declared.mldp_msgs.fault.LdpFault.{LdpFault}
use Rattle.mldp.specs.declared.mldp_msgs.message.LabelMessage.{LabelMessage}
use Rattle.mldp.specs.declared.mldp_msgs.pdu.Front as pdu
use Rattle.mldp.specs.declared.mldp_msgs.pdu.Front.TheVariants.{More, Whole, Bad}

-- what stands at the front
abbrev pub front_of : pdu.Front → Front LabelMessage LdpFault
front_of More = more
front_of (Whole n messages) = whole n messages.items
front_of (Bad messages offset fault) = bad messages.items offset fault

-- a PDU is among so many octets, and a fault too
abbrev pub IsRoom : pdu.Front → ℕ → Type 0
IsRoom More len = Unit {0}
IsRoom (Whole n messages) len = (0 < n) × (n ≤ len)
IsRoom (Bad messages offset fault) len = offset ≤ len
