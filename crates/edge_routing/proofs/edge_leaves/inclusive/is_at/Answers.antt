use Rattle.std.proofs.Common.{Bool, ap, sym, ◌∙◌}
use Rattle.std.specs.List.{list_any}
use Rattle.std.specs.FinMap as maps
use Rattle.bgp_messages.specs.declared.bgp_attributes.key.Key.{Key}
use Rattle.mv_base.specs.declared.addr.Addr.{Addr}
use Rattle.edge_defs.specs.Datagrams.{is_tunnel}
use Rattle.edge_defs.specs.Edge.{TakenRoute}
use Rattle.edge_defs.specs.Imported.{imported_inclusive, taken_from}
use Rattle.edge_defs.specs.Place.{addr_of}
use Rattle.edge_routes.specs.edge_home.Home.{Home, as_own}
use Rattle.edge_routes.specs.declared.edge_home.own_vrf.OwnVrf.{OwnVrf}
use Rattle.control_laws.specs.Control.{control_of}
use Rattle.edge_routing.proofs.edge_datagrams.ImportLemmas.{one_passes}
use Rattle.edge_routing.proofs.edge_leaves.InclusiveLemmas.{any_swap}
use Rattle.edge_routing.proofs.edge_leaves.inclusive.is_at.Goals as goal

pub returns-in-Some-get : goal.returns-in-Some-get
returns-in-Some-get c = λ core passes.
    let addr = c.addr_of.ensures ∙ ap (λ (home : Home). addr_of home.scenario c.args.edge) c.home.ensures.home in
    let test : Addr → Key × TakenRoute → OwnVrf → Bool = λ a entry own. is_tunnel c.args.fec.now (imported_inclusive (as_own own).vrf a entry) in
    let all = addr_of c.args.control.now.home.scenario c.args.edge in
    let entry = c.in-Some-get.entry.now in
    let own = (λ i. list_any (test (sym addr i) (c.in-Some.key.now, entry)) c.args.vrfs.now) ∙ sym c.is_route_of.ensures ∙ passes in
    sym (any_swap (test all) (maps.entries (taken_from (control_of c.args.control.now) c.args.edge)) c.args.vrfs.now)
    ∙ one_passes c.args.control.now c.taken.result.now c.taken.ensures c.args.edge (λ entry. list_any (test all entry) c.args.vrfs.now)
    c.in-Some.key.now entry c.in-Some-get.ensures.route own
