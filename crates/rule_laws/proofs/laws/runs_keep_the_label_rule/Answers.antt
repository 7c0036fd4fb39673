use Rattle.rule_laws.proofs.Start.{run_keeps_rule, run_throughout}
use Rattle.rule_laws.proofs.laws.runs_keep_the_label_rule.Goals as goal

pub returns-clause-after : goal.returns-clause-after
returns-clause-after c cores script events trace new s = run_keeps_rule script.scenario cores events trace new s.scenario s.sound_events s.run

pub returns-clause-throughout : goal.returns-clause-throughout
returns-clause-throughout c cores script events more trace new s then_sound =
    run_throughout script.scenario cores events more trace new s.scenario s.sound_events then_sound s.run
