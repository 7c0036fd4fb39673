use Rattle.std.proofs.Common.{◌≡◌, ◌++◌, map, take}
use Rattle.data_plane.specs.datagram_acts.Stored.{hop_at}
use Rattle.data_plane.proofs.datagram_acts.datagrams.Datagrams.enter.Given as goal

abbrev pub invariant-loop-branch : goal.invariant-loop-branch
invariant-loop-branch l = record {
  hops : l.self-inside.hops.items ≡ l.initial.self-inside.hops.items ++ map (hop_at l.fn.node) (take l.branch-index l.fn.branches);
  copies : l.self-inside.copies ≡ l.initial.self-inside.copies;
  count : l.self-inside.count ≡ l.initial.self-inside.count;
  number : l.self-inside.number ≡ l.initial.self-inside.number;
}
