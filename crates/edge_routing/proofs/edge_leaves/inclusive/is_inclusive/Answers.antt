use Rattle.std.proofs.Common.{sym, ap, subst, ◌∙◌}
use Rattle.scenario_defs.specs.declared.scenario.Scenario.{Scenario}
use Rattle.edge_defs.specs.Place.{node_with}
use Rattle.edge_routes.specs.edge_home.Home.{AreOwn, Home}
use Rattle.edge_routing.proofs.edge_leaves.InclusiveLemmas.{inclusive_is, no_inclusive}
use Rattle.edge_routing.proofs.edge_leaves.inclusive.is_inclusive.Goals as goal

pub returns-in-None : goal.returns-in-None
returns-in-None c = λ core.
    let scenario = c.scenario.ensures.scenario ∙ ap (λ (home : Home). home.scenario) c.home.ensures.home in
    let none = sym (ap (λ (s : Scenario). node_with s c.args.fec.now.root) scenario) ∙ sym c.root_of.ensures ∙ c.in-None.is in
    (λ h. absurd (cc), λ is. absurd (no_inclusive c.args.control.now c.home.ensures.sound core c.args.fec.now none is))

pub returns-in-Some : goal.returns-in-Some
returns-in-Some c = λ core.
    let scenario = c.scenario.ensures.scenario ∙ ap (λ (home : Home). home.scenario) c.home.ensures.home in
    let root = sym (ap (λ (s : Scenario). node_with s c.args.fec.now.root) scenario) ∙ sym c.root_of.ensures ∙ c.in-Some.is in
    inclusive_is c.args.control.now c.home.ensures.sound core c.args.fec.now c.in-Some.root root c.any_imports_near.result c.vrfs.result.now
    (subst (λ (home : Home). AreOwn home c.vrfs.result.now) c.home-in-Some.ensures.home c.vrfs.ensures.vrfs) (c.any_imports_near.ensures core)
