use Rattle.std.proofs.Common.{Bool, ap, ◌∙◌}
use Rattle.std.specs.List.{list_any}
use Rattle.bgp_messages.specs.declared.bgp_attributes.key.Key.{Key}
use Rattle.mv_base.specs.declared.addr.Addr.{Addr}
use Rattle.edge_defs.specs.Datagrams.{is_tunnel}
use Rattle.edge_defs.specs.Edge.{TakenRoute}
use Rattle.edge_defs.specs.Imported.{imported_inclusive}
use Rattle.edge_defs.specs.Place.{addr_of}
use Rattle.edge_routes.specs.edge_home.Home.{Home, as_own}
use Rattle.edge_routes.specs.declared.edge_home.own_vrf.OwnVrf.{OwnVrf}
use Rattle.edge_routing.proofs.edge_datagrams.ImportLemmas.{any_passes, none_passes}
use Rattle.edge_routing.proofs.edge_leaves.InclusiveLemmas.{any_swap}
use Rattle.edge_routing.proofs.edge_leaves.inclusive.any_imports.Goals as goal

pub returns-in-None : goal.returns-in-None
returns-in-None c = λ core.
    let addr = addr_of c.args.control.now.home.scenario c.args.edge in
    let test : Key × TakenRoute → OwnVrf → Bool = λ entry own. is_tunnel c.args.fec.now (imported_inclusive (as_own own).vrf addr entry) in
    none_passes c.args.control.now c.taken.result.now c.taken.ensures c.args.edge (λ entry. list_any (test entry) c.args.vrfs.now)
    c.in-None.ensures.entries ∙ any_swap test _ c.args.vrfs.now

pub returns-in-Some : goal.returns-in-Some
returns-in-Some c = λ core.
    let addr = c.addr_of.ensures ∙ ap (λ (home : Home). addr_of home.scenario c.args.edge) c.home.ensures.home in
    let test : Addr → Key × TakenRoute → OwnVrf → Bool = λ a entry own. is_tunnel c.args.fec.now (imported_inclusive (as_own own).vrf a entry) in
    let all = addr_of c.args.control.now.home.scenario c.args.edge in
    c.has_route.ensures ∙ ap (λ (a : Addr). list_any (λ entry. list_any (test a entry) c.args.vrfs.now) c.in-Some.entries) addr
    ∙ any_passes c.args.control.now c.taken.result.now c.taken.ensures c.args.edge (λ entry. list_any (test all entry) c.args.vrfs.now)
    c.in-Some.entries c.in-Some.ensures.entries
    ∙ any_swap (test all) _ c.args.vrfs.now
