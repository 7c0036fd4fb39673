use Rattle.std.proofs.Common.{sym}
use Rattle.std.proofs.lemmas.List.{take_rest}
use Rattle.audit_text.proofs.CutLemmas.{next_rest}
use Rattle.audit_text.proofs.mark.parts_of.Goals as goal

pub lines-preserved : goal.lines-preserved
lines-preserved c =
    rw c.line_length-place.ensures (next_rest c.args.text.now _ c.lines.place c.lines.number c.split_line.result.0.now c.split_line.result.1.now
    (take_rest c.args.text.now c.lines.place) c.lines.invariant c.lines-test.true c.split_line.ensures.line (sym c.if-is_mark.ensures))
