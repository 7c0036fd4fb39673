use Rattle.pim_defs.proofs.EntriesLemmas.{get-applied, get-kept}
use Rattle.pim_defs.proofs.laws.each_entry.Goals as goal

pub returns-clause-message : goal.returns-clause-message
returns-clause-message c = get-applied

pub returns-clause-timers : goal.returns-clause-timers
returns-clause-timers c = get-kept
