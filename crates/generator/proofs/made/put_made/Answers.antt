use Rattle.std.proofs.Common.{◌++◌}
use Rattle.generator.specs.Made as made
use Rattle.generator.specs.Made.{made as whole}
use Rattle.generator.proofs.TextLemmas.{more}
use Rattle.generator.proofs.made.put_made.Goals as goal

pub returns : goal.returns
unfolding whole
returns c =
    more _ (made.scenario ++ made.first_part c.args.number) (made.last_part c.args.number) _ _
    (more _ made.scenario (made.first_part c.args.number) _ _ c.in_ok-put_scenario.ensures c.in_ok-put_first_sends.ensures)
    c.in_ok-put_last_sends.ensures
