use Rattle.std.proofs.Common.{◌≡◌, ◌<◌, ◌++◌, length, refl, ap, sym, ◌∙◌, append_assoc, take, arith}
use Rattle.edge_defs.specs.Imported.{imported_inclusive}
use Rattle.edge_routes.specs.Judged.{value_of}
use Rattle.edge_routing.specs.edge_updates.Tunnels.{listed, route_of, tunnels_to}
use Rattle.edge_routing.proofs.edge_updates.ListLemmas.{tunnels_more}
use Rattle.edge_routing.proofs.edge_updates.inclusive.append_imported.Goals as goal

pub loop-own-preserved : goal.loop-own-preserved
loop-own-preserved c =
    let value = value_of c.args.value.now in
    let own = c.own-item.result in
    let lt : c.loop-own.own-index < length c.args.vrfs.now = omega arith in
    let told : c.imported_inclusive.result ≡ imported_inclusive own.local.vrf c.args.peer (c.args.key.now, route_of value) =
    c.imported_inclusive.ensures (route_of value) refl
    ∙ ap (λ vrf. imported_inclusive vrf c.args.peer (c.args.key.now, route_of value)) c.vrf.ensures.vrf in
    c.in_ok-append.ensures
    ∙ ap (λ fecs. fecs ++ listed c.imported_inclusive.result) c.loop-own.invariant
    ∙ append_assoc c.args.fecs.now.items (tunnels_to c.args.peer c.args.key.now value (take c.loop-own.own-index c.args.vrfs.now))
    (listed c.imported_inclusive.result)
    ∙ ap (λ fecs. c.args.fecs.now.items ++ fecs)
    (ap (λ one. tunnels_to c.args.peer c.args.key.now value (take c.loop-own.own-index c.args.vrfs.now) ++ listed one) told
    ∙ sym (tunnels_more c.args.peer c.args.key.now value c.args.vrfs.now c.loop-own.own-index own lt c.own-item.is))
