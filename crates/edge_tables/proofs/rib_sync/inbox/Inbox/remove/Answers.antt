use Rattle.mv_base.specs.declared.table_defs.change.Change.TheVariants.{Unreach}
use Rattle.edge_tables.proofs.rib_sync.RibLemmas.{taken}
use Rattle.edge_tables.proofs.rib_sync.inbox.Inbox.remove.Goals as goal

pub returns : goal.returns
returns g c =
    taken g.K.Ord.cmp g.met.K.Ord.total c.requires c.args.self.now c.self.inside.map c.remove.new.self (Unreach c.args.key.now) c.self.view_is
    c.self.invariant c.remove.ensures.ordered c.remove.ensures.updates.0
