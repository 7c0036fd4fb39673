use Rattle.std.proofs.lemmas.Result.{IfOk-weaker}
use Rattle.decode_text.proofs.FormatLemmas.{route_stands}
use Rattle.decode_text.proofs.values.RouteValue.read.Goals as goal

pub returns-clause-stands : goal.returns-clause-stands
returns-clause-stands c = IfOk-weaker c.decode.result _ _ (λ x h. route_stands c.args.octets.now x.0 x.1 h) c.decode.ensures.spelled
