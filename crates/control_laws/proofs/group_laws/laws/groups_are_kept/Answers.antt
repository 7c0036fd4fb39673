use Rattle.control_laws.proofs.group_laws.Effects.{first_groups, effect_groups}
use Rattle.control_laws.proofs.group_laws.Refreshes.{refreshed_groups, step_groups}
use Rattle.control_laws.proofs.group_laws.laws.groups_are_kept.Goals as goal

pub returns-clause-first : goal.returns-clause-first
returns-clause-first c = first_groups

pub returns-clause-call : goal.returns-clause-call
returns-clause-call c = effect_groups

pub returns-clause-refresh : goal.returns-clause-refresh
returns-clause-refresh c = refreshed_groups

pub returns-clause-step : goal.returns-clause-step
returns-clause-step c = step_groups
