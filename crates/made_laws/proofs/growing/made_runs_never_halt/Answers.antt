use Rattle.made_laws.specs.MadeScript.{made_script}
use Rattle.made_laws.proofs.growing.made_runs_never_halt.Goals as goal

pub returns : goal.returns
returns c = λ cores number report node.
    c.growing_runs_never_halt.ensures.no_halt cores (made_script number) report node (c.made_scripts_meet_the_rules.ensures.rules number)
    (c.made_scripts_meet_the_rules.ensures.octets number)
    (c.made_scripts_only_grow.ensures number)
