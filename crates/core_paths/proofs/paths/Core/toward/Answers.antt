use Rattle.std.proofs.Common.{arith}
use Rattle.core_paths.proofs.TableLemmas.{in_table, next_at}
use Rattle.core_paths.proofs.paths.Core.toward.Goals as goal

pub index-requires : goal.index-requires
index-requires c =
    let size = c.self.invariant.toward.size in
    in_table _ _ _ _ _ _ c.self.view_is c.requires.from c.requires.to c.place.ensures (omega arith)

pub returns-clause-next : goal.returns-clause-next
returns-clause-next c =
    next_at _ _ c.self.inside.tables.nexts.items _ _ c.place.result _ c.self.view_is c.self.invariant.toward c.requires.from c.requires.to
    c.if-from-to.false c.place.ensures c.index.ensures
