use Rattle.std.proofs.Common.{refl, ap, subst}
use Rattle.mv_base.specs.declared.ids.VrfId.{VrfId}
use Rattle.edge_defs.specs.Edge.{Control}
use Rattle.edge_defs.specs.Steps.{Customer, Unselect}
use Rattle.edge_routes.specs.edge_home.Home.{place_of}
use Rattle.edge_words.specs.held_laws.Held.{without_selected}
use Rattle.held_tables.specs.Holding.{HoldAll}
use Rattle.control_laws.specs.Control.{control_of}
use Rattle.control_laws.proofs.Parts.{no_core}
use Rattle.edge_routing.proofs.CustomerCalls.{held_at, own_at}
use Rattle.edge_routing.proofs.Selections.{settled, unselect_made}
use Rattle.edge_routing.proofs.routing.EdgeRouting.unselect.Goals as goal

pub returns-clause-stepped : goal.returns-clause-stepped
returns-clause-stepped c = λ core now.
    let old = c.args.self.now in
    let control = c.unselect.new.self in
    let tables = c.drop_selection.new.tables in
    let own = c.own_of_vrf-own.result.now in
    let vrf = c.args.vrf in
    let pattern = c.args.pattern in
    settled core now (Customer (Unselect vrf pattern)) old control tables c.put.new.self c.none.result c.requires.step refl
    (unselect_made vrf pattern now old control tables c.unselect.ensures.home (λ walks. c.unselect.ensures.unselected walks now)
    c.unselect.ensures.wants
    (λ walks. subst (λ (v : VrfId). HoldAll (place_of control.home walks) (without_selected (control_of old.control) v pattern) tables)
    c.own_of_vrf-own.ensures.of
    (c.in_ok-drop_selection.ensures.held (place_of control.home walks) (control_of old.control)
    (own_at control c.home.result.now own c.home.ensures.home c.home.ensures.sound c.own_of_vrf-own.ensures.among c.own_of_vrf-own.ensures.at walks)
    (held_at old control c.requires.step c.unselect.ensures.home walks))) c.drop_selection.ensures.told)
    (ap (λ (made : Control). made.peers) (c.unselect.ensures.unselected no_core now)) c.home.ensures.sound c.in_ok-put.ensures.put
    c.none.ensures.candidates
