use Rattle.std.proofs.lemmas.Result.{IfOk-weaker}
use Rattle.decode_text.proofs.FormatLemmas.{fec_stands}
use Rattle.decode_text.proofs.values.FecValue.read.Goals as goal

pub returns-clause-stands : goal.returns-clause-stands
returns-clause-stands c = IfOk-weaker c.decode.result _ _ (λ x h. fec_stands c.args.octets.now x.0 x.1 h) c.decode.ensures.spelled
