use Rattle.std.proofs.Common.{take}
use Rattle.data_plane.specs.link_copies.Kept.{ArePut}
use Rattle.data_plane.proofs.link_copies.sending.put_on_each.Given as goal

abbrev pub invariant-loop-place : goal.invariant-loop-place
invariant-loop-place l = ArePut l.fn.ttl l.fn.now l.fn.datagram (take l.place l.fn.hops) l.fn.ways l.ways
