use Rattle.table_laws.proofs.PendingLemmas.{sent_leads, taken_leads, none_pending, all_taken, each_changing}
use Rattle.table_laws.proofs.pending.pending_changes.Goals as goal

pub returns-clause-sent : goal.returns-clause-sent
returns-clause-sent g c = sent_leads g.met.K.Ord.total g.V.PartialEq.eq c.requires.values

pub returns-clause-taken : goal.returns-clause-taken
returns-clause-taken g c = taken_leads g.met.K.Ord.total

pub returns-clause-none : goal.returns-clause-none
returns-clause-none g c = none_pending g.met.K.Ord.total c.requires.keys

pub returns-clause-reached : goal.returns-clause-reached
returns-clause-reached g c = all_taken g.met.K.Ord.total c.requires.keys

pub returns-clause-changing : goal.returns-clause-changing
returns-clause-changing g c = each_changing g.met.K.Ord.total
