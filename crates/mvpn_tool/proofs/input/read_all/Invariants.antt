use Rattle.std.proofs.Common.{◌≡◌, ◌-◌, ◌≤◌, vec_len, length}
use Rattle.std.specs.Io.KnownBytes.{Consumes}
use Rattle.mvpn_tool.proofs.input.read_all.Given as goal

abbrev pub invariant-reading : goal.invariant-reading
invariant-reading g l = record {
  taken : Consumes (g.S.Source.left l.initial.source) (g.S.Source.left l.source) l.input.items;
  within : vec_len l.input ≤ 16777217;
  piece : length l.piece ≡ 65536;
  later : g.S.Source.faults l.initial.source ≤ g.S.Source.faults l.source;
}

abbrev pub decreases-reading : goal.decreases-reading
decreases-reading g l = 16777217 - vec_len l.input
