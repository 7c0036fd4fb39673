use Rattle.table_laws.proofs.TableLemmas.{after_is}
use Rattle.table_laws.proofs.changes.one_change.Goals as goal

pub returns : goal.returns
returns g c = after_is g.met.K.Ord.total c.requires
