use Rattle.std.proofs.Common.{sym, subst}
use Rattle.edge_routes.specs.edge_home.Home.{Home, IsHome}
use Rattle.edge_control.proofs.StartLemmas.{control_first, sound_first, wanted_first}
use Rattle.edge_control.proofs.control.EdgeControl.of.Goals as goal

pub invariant_of-result : goal.invariant_of-result
invariant_of-result c =
    let is_home = subst (λ (h : Home). IsHome h.scenario h.me) (sym c.in_ok-home.ensures) c.requires in
    sound_first c.in_ok-home.home is_home c.in_ok-trees.trees.items c.of-2.result c.in_ok-trees.ensures c.of-2.ensures

pub returns-clause-nothing : goal.returns-clause-nothing
returns-clause-nothing c =
    let is_home = subst (λ (h : Home). IsHome h.scenario h.me) (sym c.in_ok-home.ensures) c.requires in
    control_first c.in_ok-home.home is_home c.in_ok-trees.trees.items c.of-2.result c.in_ok-trees.ensures c.of-2.ensures

pub returns-clause-wanted : goal.returns-clause-wanted
returns-clause-wanted c =
    let is_home = subst (λ (h : Home). IsHome h.scenario h.me) (sym c.in_ok-home.ensures) c.requires in
    wanted_first c.in_ok-home.home is_home c.in_ok-trees.trees.items c.of-2.result c.in_ok-trees.ensures c.of-2.ensures
