use Rattle.std.proofs.Common.{rules}
use Rattle.mv_base.proofs.AlikeLemmas.{alike_eight}
use Rattle.mv_base.proofs.alike.same_eight.Goals as goal

pub returns : goal.returns
returns c = alike_eight c.args.own c.args.other c.from_be_bytes.result c.from_be_bytes-2.result (search rules) (search rules) (search rules) (search rules) c.from_be_bytes.ensures c.from_be_bytes-2.ensures
