use Rattle.table_laws.proofs.OrderLemmas.{first_are}
use Rattle.table_laws.proofs.changes.first_changes.Goals as goal

pub returns : goal.returns
returns g c = first_are g.met.K.Ord.total c.requires g.V.PartialEq.eq
