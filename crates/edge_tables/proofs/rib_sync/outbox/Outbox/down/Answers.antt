use Rattle.edge_tables.proofs.rib_sync.RibLemmas.{downed}
use Rattle.edge_tables.proofs.rib_sync.outbox.Outbox.down.Goals as goal

pub returns : goal.returns
returns g c =
    downed g.K.Ord.cmp g.met.K.Ord.total c.args.self.now c.self.inside.kept c.down.new.self c.self.view_is c.down.ensures.up c.down.ensures.set
