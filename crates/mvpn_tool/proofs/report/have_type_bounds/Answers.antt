use Rattle.std.proofs.Common.{All, List, subst, arith}
use Rattle.std.proofs.lemmas.List.{take_all}
use Rattle.std.proofs.lemmas.List.Elements.{All-more}
use Rattle.scenario_defs.specs.declared.report.ReportLine.{ReportLine}
use Rattle.report_text.specs.report_lines.Bounds.{HasTypeBounds}
use Rattle.mvpn_tool.proofs.report.have_type_bounds.Goals as goal

pub loop-line-preserved : goal.loop-line-preserved
loop-line-preserved c =
    All-more HasTypeBounds c.args.lines.now c.loop-line.line-index c.line-item.result c.loop-line-test.true c.loop-line.invariant
    (subst HasTypeBounds c.line-item.is c.has_type_bounds.ensures)

pub returns : goal.returns
returns c =
    subst (λ (l : List ReportLine). All HasTypeBounds l) (take_all c.loop-line.line-index c.args.lines.now (omega (arith, c.loop-line-test.false)))
    c.loop-line.invariant
