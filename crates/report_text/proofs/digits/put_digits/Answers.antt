use Rattle.report_text.proofs.DigitLemmas.{piece_written}
use Rattle.std.proofs.Common.{◌∙◌}
use Rattle.report_text.proofs.digits.put_digits.Goals as goal

pub loop-rest-preserved : goal.loop-rest-preserved
loop-rest-preserved c =
    piece_written c.loop-rest.out c.put_piece.new.out c.loop-rest.rest.now c.split_at.result.0.now c.split_at.result.1.now 32 c.split_at.ensures.front
    c.split_at.ensures.back c.in_ok-put_piece.ensures ∙ c.loop-rest.invariant
