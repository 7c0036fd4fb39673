use Rattle.std.proofs.Common.{sym, ap, subst, ◌∙◌}
use Rattle.std.proofs.lemmas.Result.{IfOk-weaker}
use Rattle.mv_base.specs.Lists.{Among}
use Rattle.mv_base.specs.declared.ids.VrfId.{VrfId}
use Rattle.scenario_defs.specs.declared.scenario.Vrf.{Vrf}
use Rattle.edge_defs.specs.Place.{OwnVrf, own_vrfs}
use Rattle.edge_routes.specs.edge_home.Home.{Home, as_own, place_of}
use Rattle.edge_routing.proofs.edge_words.calm_laws.Vrfs.{one_number}
use Rattle.edge_routing.specs.control_laws.Control.{control_of}
use Rattle.edge_routing.specs.edge_control.Places.{vrfs_of}
use Rattle.edge_core.specs.Listed.{admitted_from}
use Rattle.edge_core.specs.State.{data_of, home_of}
use Rattle.edge_core.specs.View.{EdgeView}
use Rattle.edge_core.proofs.edge.Edge.imports.Goals as goal

pub returns : goal.returns
returns c = λ walks own a id.
    let home = c.self.inside.parts.routing.control.home in
    let found = as_own c.own_of_vrf.result.now in
    let among = subst (λ (h : Home). Among found (own_vrfs (place_of h walks))) c.home.ensures.home (c.own_of_vrf.ensures.among walks) in
    let here = subst (λ (e : EdgeView). Among own (vrfs_of (home_of e))) (sym c.self.view_is) a in
    let same = one_number (place_of home walks) found own among here (ap (λ (v : VrfId). v.0) (c.own_of_vrf.ensures.of ∙ sym id)) in
    let vrf = c.vrf.ensures.vrf ∙ ap (λ (o : OwnVrf). o.vrf) same in
    IfOk-weaker c.keys_from.result _ _ (λ keys is.
    is ∙ (ap (λ (v : Vrf). admitted_from home (control_of c.self.inside.parts.routing.control) v) vrf
    ∙ ap (λ (e : EdgeView). admitted_from (home_of e) (data_of e).control own.vrf) c.self.view_is)) c.keys_from.ensures
