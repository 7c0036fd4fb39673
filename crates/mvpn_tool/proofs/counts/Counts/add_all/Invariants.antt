use Rattle.std.proofs.Common.{◌≡◌, take}
use Rattle.std.specs.Prelude.{fold}
use Rattle.mvpn_tool.specs.Sweep.{with_line}
use Rattle.mvpn_tool.proofs.counts.Counts.add_all.Given as goal

abbrev pub invariant-loop-line : goal.invariant-loop-line
invariant-loop-line l = l.self ≡ fold with_line l.initial.self (take l.line-index l.lines)
