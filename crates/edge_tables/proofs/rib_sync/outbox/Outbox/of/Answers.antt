use Rattle.edge_tables.proofs.rib_sync.RibLemmas.{began}
use Rattle.edge_tables.proofs.rib_sync.outbox.Outbox.of.Goals as goal

pub returns : goal.returns
returns g c = began g.K.Ord.cmp g.met.K.Ord.total c.of.result c.of.ensures.up c.of.ensures.set
