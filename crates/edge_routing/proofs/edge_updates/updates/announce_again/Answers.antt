use Rattle.std.proofs.Common.{◌++◌, ap, ◌∙◌}
use Rattle.std.proofs.lemmas.Result.{on_ok_weaker}
use Rattle.edge_routes.specs.edge_home.Home.{Home}
use Rattle.edge_control.specs.edge_tables.taken_tables.Routes.{handed}
use Rattle.edge_control.specs.edge_tables.taken_tables.Tables.{reach, route_at}
use Rattle.edge_routing.specs.edge_updates.Tunnels.{tunnels_at}
use Rattle.edge_routing.proofs.edge_updates.TakenLemmas.{change_taken}
use Rattle.edge_routing.proofs.edge_updates.updates.announce_again.Goals as goal

pub returns-clause-taken : goal.returns-clause-taken
returns-clause-taken c =
    let old = c.args.control.now in
    let new = c.announce.new.self in
    let before = c.args.fecs.now.items in
    let key = c.args.key.now in
    let first = tunnels_at old.home c.args.peer key (route_at old.peers c.args.peer key) in
    let next : Home → _ = λ home. tunnels_at home c.args.peer key (route_at new.peers c.args.peer key) in
    on_ok_weaker c.append_at-2.result (λ e.
    change_taken c.args.now c.args.peer (reach key (handed c.args.value.now)) old new before c.append_at-2.new.fecs.items c.announce.ensures.home
    c.announce.ensures.wants
    c.in_ok-announce.ensures.announced (e ∙ ap (λ fecs. fecs ++ next new.home) c.in_ok-append_at.ensures
    ∙ ap (λ home. (before ++ first) ++ next home) c.announce.ensures.home)) c.append_at-2.ensures
