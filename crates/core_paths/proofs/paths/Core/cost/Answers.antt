use Rattle.std.proofs.Common.{arith}
use Rattle.core_paths.proofs.TableLemmas.{in_table, cost_at}
use Rattle.core_paths.proofs.paths.Core.cost.Goals as goal

pub index-requires : goal.index-requires
index-requires c =
    let size = c.self.invariant.least.size in
    in_table _ _ _ _ _ _ c.self.view_is c.requires.from c.requires.to c.place.ensures (omega arith)

pub returns : goal.returns
returns c =
    cost_at _ _ c.self.inside.tables.costs.items _ _ c.place.result _ c.self.view_is c.self.invariant.least c.requires.from c.requires.to
    c.place.ensures (cc)
