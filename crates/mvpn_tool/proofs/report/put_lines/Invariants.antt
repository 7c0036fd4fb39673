use Rattle.std.proofs.Common.{◌≡◌, ◌++◌, take}
use Rattle.mvpn_tool.specs.Report.{lines_text}
use Rattle.mvpn_tool.proofs.report.put_lines.Given as goal

abbrev pub invariant-loop-line : goal.invariant-loop-line
invariant-loop-line l = l.text ≡ l.initial.text ++ lines_text l.detail l.scenario (take l.line-index l.lines)
