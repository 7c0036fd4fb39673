use Rattle.std.proofs.Common.{◌≡◌, ◌-◌, ◌≤◌, length, drop}
use Rattle.mv_base.specs.framing.Walk.{walk}
use Rattle.mldp.specs.mldp_fec.Shape.{tlv_len}
use Rattle.mldp.proofs.mldp_fec.shape.first_misshapen.Given as goal

-- from here on the answer is that from the start
abbrev pub invariant-loop-place : goal.invariant-loop-place
invariant-loop-place l = (l.place ≤ length l.octets) × (walk tlv_len l.place 0 (drop l.place l.octets) ≡ walk tlv_len 0 0 l.octets)

abbrev pub decreases-loop-place : goal.decreases-loop-place
decreases-loop-place l = length l.octets - l.place
