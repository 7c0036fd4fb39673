use Rattle.edge_probe.proofs.ProbeLemmas.{is_fresh}
use Rattle.edge_probe.proofs.report.probe.Goals as goal

pub tell-told-requires-clause-fresh : goal.tell-told-requires-clause-fresh
tell-told-requires-clause-fresh c =
    is_fresh c.args.scenario.now c.args.edge c.in_ok-core.core c.in_ok-own.own c.requires.rules c.each_scenario_has_cores.ensures c.in_ok-core.ensures
    c.in_ok-own.ensures.home c.in_ok-own.ensures.unspent c.in_ok-own.ensures.is
