use Rattle.std.proofs.Common.{sym, ap, ◌∙◌}
use Rattle.scenario_defs.specs.declared.scenario.Scenario.{Scenario}
use Rattle.edge_defs.specs.Place.{node_with}
use Rattle.edge_routes.specs.edge_home.Home.{Home}
use Rattle.edge_routing.proofs.edge_datagrams.LeavingLemmas.{none_leave, root_is}
use Rattle.edge_routing.proofs.edge_datagrams.egress.leaving.Goals as goal

pub all_outs-requires-clause-rooted : goal.all_outs-requires-clause-rooted
all_outs-requires-clause-rooted c =
    let scenario = c.scenario.ensures.scenario ∙ ap (λ (home : Home). home.scenario) c.home.ensures.home in
    (root_is c.args.control.now.home.scenario c.args.fec.now.root c.in-Some.root
    (sym (ap (λ (s : Scenario). node_with s c.args.fec.now.root) scenario) ∙ sym c.root_of.ensures ∙ c.in-Some.is)).1

pub returns-in-None : goal.returns-in-None
returns-in-None c = λ walks is.
    let scenario = c.scenario.ensures.scenario ∙ ap (λ (home : Home). home.scenario) c.home.ensures.home in
    c.new.ensures
    ∙ sym (none_leave c.args.control.now c.home.ensures.sound walks c.args.now c.args.fec.now
    (record { source = c.args.source; group = c.args.group })
    (sym (ap (λ (s : Scenario). node_with s c.args.fec.now.root) scenario) ∙ sym c.root_of.ensures ∙ c.in-None.is))
