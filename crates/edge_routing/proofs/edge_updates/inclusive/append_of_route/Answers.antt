use Rattle.std.proofs.Common.{◌++◌, ap, ◌∙◌}
use Rattle.std.proofs.lemmas.Result.{on_ok_weaker}
use Rattle.edge_routes.specs.Judged.{value_of}
use Rattle.edge_routing.specs.edge_updates.Tunnels.{tunnels_to}
use Rattle.edge_routing.proofs.edge_updates.ListLemmas.{tunnels_all}
use Rattle.edge_routing.proofs.edge_updates.inclusive.append_of_route.Goals as goal

pub returns : goal.returns
returns c =
    on_ok_weaker c.append_imported.result (λ e.
    e
    ∙ ap (λ addr. c.args.fecs.now.items ++ tunnels_to addr c.args.key.now (value_of c.args.value.now) c.vrfs.result.now) c.addr_of-addr.ensures
    ∙ ap (λ fecs. c.args.fecs.now.items ++ fecs)
    (tunnels_all c.args.home.now c.args.peer c.args.key.now (value_of c.args.value.now) c.vrfs.result.now c.vrfs.ensures.vrfs))
    c.append_imported.ensures
