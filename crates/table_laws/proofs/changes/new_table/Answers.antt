use Rattle.mv_base.specs.table_defs.Changes.{changes}
use Rattle.table_laws.proofs.OrderLemmas.{none_are}
use Rattle.table_laws.proofs.PendingLemmas.{changes_lead, changes_changing, all_taken}
use Rattle.table_laws.proofs.changes.new_table.Goals as goal

pub returns-clause-reached : goal.returns-clause-reached
returns-clause-reached g c =
    λ old new. all_taken g.met.K.Ord.total c.requires.keys old new (changes g.V.PartialEq.eq old new)
    (changes_lead g.met.K.Ord.total g.V.PartialEq.eq c.requires.values old new)

pub returns-clause-changing : goal.returns-clause-changing
returns-clause-changing g c = changes_changing g.met.K.Ord.total g.V.PartialEq.eq c.requires.values

pub returns-clause-none : goal.returns-clause-none
returns-clause-none g c = none_are g.met.K.Ord.total c.requires.keys g.V.PartialEq.eq c.requires.values
