use Rattle.std.proofs.Common.{◌≡◌, None, Some, option_map, sym, ap, subst, ◌∙◌, ◌++◌, append-nil}
use Rattle.std.proofs.lemmas.Result.{on_ok_weaker}
use Rattle.std.specs.FinMap as maps
use Rattle.edge_defs.specs.Edge.{Taken}
use Rattle.edge_routes.specs.Judged.{value_of}
use Rattle.edge_routes.specs.edge_home.Home.{Home}
use Rattle.edge_routing.specs.edge_updates.Tunnels.{tunnels_by}
use Rattle.edge_control.specs.edge_tables.taken_tables.Tables.{Tables}
use Rattle.edge_routing.proofs.edge_updates.ListLemmas.{from_none, from_some}
use Rattle.edge_routing.proofs.edge_updates.inclusive.append_from.Goals as goal

pub returns-in-None : goal.returns-in-None
returns-in-None c =
    let none : None ≡ option_map (λ (taken : Taken). maps.entries taken) (maps.get c.args.control.now.peers c.args.peer) =
    subst (λ (tables : Tables). None ≡ option_map (λ (taken : Taken). maps.entries taken) (maps.get tables c.args.peer)) c.taken.ensures
    c.in-None.ensures.entries in
    sym (ap (λ fecs. c.args.fecs.now.items ++ fecs) (from_none c.args.control.now.home (maps.get c.args.control.now.peers c.args.peer) c.args.peer
    c.args.key.now (value_of c.args.value.now) none) ∙ append-nil c.args.fecs.now.items)

pub returns-in-Some : goal.returns-in-Some
returns-in-Some c =
    let some : Some c.in-Some.field-0 ≡ option_map (λ (taken : Taken). maps.entries taken) (maps.get c.args.control.now.peers c.args.peer) =
    subst (λ (tables : Tables). Some c.in-Some.field-0 ≡ option_map (λ (taken : Taken). maps.entries taken) (maps.get tables c.args.peer))
    c.taken.ensures c.in-Some.ensures.entries in
    on_ok_weaker c.append_of_route.result (λ e.
    e
    ∙ ap (λ (home : Home). c.args.fecs.now.items ++ tunnels_by home c.args.peer c.args.key.now (value_of c.args.value.now)) c.home-home.ensures.home
    ∙ ap (λ fecs. c.args.fecs.now.items ++ fecs) (sym (from_some c.args.control.now.home (maps.get c.args.control.now.peers c.args.peer) c.args.peer
    c.args.key.now (value_of c.args.value.now) c.in-Some.field-0 some)))
    c.append_of_route.ensures
