use Rattle.std.proofs.Common.{◌≡◌, ◌++◌, map, take}
use Rattle.network_defs.specs.Acts.{hop_line}
use Rattle.data_plane.proofs.datagram_acts.leaving.tell_hops.Given as goal

abbrev pub invariant-loop-branch : goal.invariant-loop-branch
invariant-loop-branch l = l.lines ≡ l.fn.lines ++ map (hop_line l.fn.node l.fn.ttl l.fn.number) (take l.branch-index l.fn.branches)
