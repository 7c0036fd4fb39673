use Rattle.std.proofs.Common.{◌≡◌, take}
use Rattle.mvpn_tool.specs.HopLines.{hop_lines}
use Rattle.mvpn_tool.proofs.hop_lines.lines_of.Given as goal

abbrev pub invariant-loop-hop : goal.invariant-loop-hop
invariant-loop-hop l = l.text ≡ hop_lines (take l.hop-index l.hops)
