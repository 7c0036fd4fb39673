use Rattle.std.proofs.Common.{All, take}
use Rattle.report_text.specs.report_lines.Bounds.{HasTypeBounds}
use Rattle.mvpn_tool.proofs.report.have_type_bounds.Given as goal

abbrev pub invariant-loop-line : goal.invariant-loop-line
invariant-loop-line l = All HasTypeBounds (take l.line-index l.lines)
