use Rattle.std.proofs.Common.{refl, ap, subst}
use Rattle.mv_base.specs.declared.ids.VrfId.{VrfId}
use Rattle.edge_defs.specs.Edge.{Control}
use Rattle.edge_defs.specs.Steps.{Customer, Select}
use Rattle.edge_routes.specs.edge_home.Home.{place_of}
use Rattle.edge_words.specs.held_laws.Held.{with_selected}
use Rattle.held_tables.specs.Holding.{HoldAll}
use Rattle.control_laws.specs.Control.{control_of}
use Rattle.control_laws.proofs.Parts.{no_core}
use Rattle.edge_control.specs.Places.{number_after}
use Rattle.edge_routing.proofs.CustomerCalls.{held_at, own_at}
use Rattle.edge_routing.proofs.Selections.{lsp_is, lsp_large, select_made, selected_now, settled}
use Rattle.edge_routing.proofs.routing.EdgeRouting.select.Goals as goal

pub hold_selected-requires-clause-number : goal.hold_selected-requires-clause-number
hold_selected-requires-clause-number c =
    let old = c.args.self.now.control in
    let own = c.own_of_vrf-own.result.now in
    lsp_large own.local.vrf (number_after (control_of old) c.args.vrf) c.in_ok-lsp.lsp
    (lsp_is c.args.vrf old c.select.new.self c.home.result.now own c.in_ok-lsp.lsp c.home.ensures.home c.select.ensures.home
    c.own_of_vrf-own.ensures.among c.own_of_vrf-own.ensures.of
    c.in_ok-lsp.ensures.number)

pub returns-clause-stepped : goal.returns-clause-stepped
returns-clause-stepped c = λ core.
    let old = c.args.self.now in
    let control = c.select.new.self in
    let tables = c.hold_selected.new.tables in
    let own = c.own_of_vrf-own.result.now in
    let vrf = c.args.vrf in
    let pattern = c.args.pattern in
    let selected = selected_now (control_of old.control) vrf c.args.now in
    settled core c.args.now (Customer (Select vrf pattern)) old control tables c.put.new.self c.none.result c.requires.step refl
    (select_made vrf pattern c.args.now old control tables c.select.ensures.home c.in_ok-lsp.ensures.selected c.select.ensures.wants
    (λ walks. subst (λ (v : VrfId). HoldAll (place_of control.home walks) (with_selected (control_of old.control) v pattern selected) tables)
    c.own_of_vrf-own.ensures.of
    (c.in_ok-hold_selected.ensures.held (place_of control.home walks) (control_of old.control) selected
    (own_at control c.home.result.now own c.home.ensures.home c.home.ensures.sound c.own_of_vrf-own.ensures.among c.own_of_vrf-own.ensures.at walks)
    (lsp_is vrf old.control control c.home.result.now own c.in_ok-lsp.lsp c.home.ensures.home c.select.ensures.home c.own_of_vrf-own.ensures.among
    c.own_of_vrf-own.ensures.of
    c.in_ok-lsp.ensures.number)
    (held_at old control c.requires.step c.select.ensures.home walks))) c.hold_selected.ensures.told)
    (ap (λ (made : Control). made.peers) (c.in_ok-lsp.ensures.selected no_core)) c.home.ensures.sound c.in_ok-put.ensures.put
    c.none.ensures.candidates
