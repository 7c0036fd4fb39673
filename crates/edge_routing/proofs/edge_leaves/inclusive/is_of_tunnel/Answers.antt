use Rattle.std.proofs.Common.{Bool, ◌&&◌, sym, ap, ◌∙◌}
use Rattle.std.specs.Prelude.{is_some}
use Rattle.edge_defs.specs.Imported.{is_admitted}
use Rattle.edge_routes.specs.Judged.{inclusive_tunnel}
use Rattle.edge_routing.proofs.edge_leaves.InclusiveLemmas.{tunnel_admitted, tunnel_first}
use Rattle.edge_routing.proofs.edge_leaves.inclusive.is_of_tunnel.Goals as goal

pub returns-else-has_tunnel : goal.returns-else-has_tunnel
returns-else-has_tunnel c = λ vrf.
    let value = c.args.entry.now.value in
    let other = sym c.has_tunnel.ensures ∙ c.if-has_tunnel.false in
    tunnel_admitted c.args.fec.now c.args.addr c.args.key.now c.args.entry.now vrf
    ∙ ap (λ (b : Bool). b && is_admitted vrf value.comms)
    (tunnel_first c.args.fec.now c.args.addr c.args.key.now value
    ∙ ap (λ (b : Bool). b && is_some (inclusive_tunnel c.args.addr c.args.key.now value)) other ∙ sym c.if-has_tunnel.false)
