use Rattle.table_laws.proofs.TableLemmas.{get-applied_all}
use Rattle.table_laws.proofs.KeyLemmas.{values_at-changes}
use Rattle.table_laws.proofs.changes.each_key.Goals as goal

pub returns-clause-values : goal.returns-clause-values
returns-clause-values g c = values_at-changes g.met.K.Ord.total g.V.PartialEq.eq

pub returns-clause-last : goal.returns-clause-last
returns-clause-last g c = get-applied_all g.met.K.Ord.total
