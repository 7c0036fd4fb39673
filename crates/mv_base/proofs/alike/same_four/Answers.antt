use Rattle.std.proofs.Common.{rules}
use Rattle.mv_base.proofs.AlikeLemmas.{alike_four}
use Rattle.mv_base.proofs.alike.same_four.Goals as goal

pub returns : goal.returns
returns c = alike_four c.args.own c.args.other c.from_be_bytes.result c.from_be_bytes-2.result (search rules) (search rules) (search rules) (search rules) c.from_be_bytes.ensures c.from_be_bytes-2.ensures
