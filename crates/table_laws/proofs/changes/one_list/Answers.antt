use Rattle.table_laws.proofs.OrderLemmas.{changes_are}
use Rattle.table_laws.proofs.changes.one_list.Goals as goal

pub returns : goal.returns
returns g c = changes_are g.met.K.Ord.total c.requires g.V.PartialEq.eq
