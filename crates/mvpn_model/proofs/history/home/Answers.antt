use Rattle.scenario_defs.specs.Home.{routes}
use Rattle.mvpn_model.proofs.LongestLemmas.{if_longest, if_uncovered}
use Rattle.mvpn_model.proofs.history.home.Goals as goal

pub returns-clause-longest : goal.returns-clause-longest
returns-clause-longest c =
    if_longest (routes c.args.history.now.script.now.scenario c.args.vrf) c.args.source c.site_of_longest.result c.site_of_longest.ensures

pub returns-clause-none : goal.returns-clause-none
returns-clause-none c =
    if_uncovered (routes c.args.history.now.script.now.scenario c.args.vrf) c.args.source c.site_of_longest.result c.site_of_longest.ensures
