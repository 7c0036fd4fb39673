use Rattle.control_laws.proofs.Between.{full_between, step_is, trees_refreshed}
use Rattle.control_laws.proofs.refreshes.flows_are_refreshed.Goals as goal

pub returns-clause-trees : goal.returns-clause-trees
returns-clause-trees c =
    λ kept core now others zip between rules nodes whole. trees_refreshed kept core now others zip (full_between kept between) between rules nodes
    whole

pub returns-clause-step : goal.returns-clause-step
returns-clause-step c = step_is
