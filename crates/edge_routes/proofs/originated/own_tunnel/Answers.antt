use Rattle.std.proofs.Common.{rules, false, None, Some, length, ◌≡◌, sym, subst}
use Rattle.edge_defs.specs.bgp_messages.bgp_update.Written.{IsTunnel}
use Rattle.bgp_values.specs.declared.pmsi_attr.pmsi.Tunnel.TheVariants as tunnels
use Rattle.bgp_values.specs.mldp.declared.mldp_fec.fec.Fec.{Fec}
use Rattle.edge_routes.proofs.ValueLemmas.{tunnel_writable}
use Rattle.edge_routes.proofs.originated.own_tunnel.Goals as goal

pub returns-clause-writable : goal.returns-clause-writable
returns-clause-writable c =
    let four : length c.args.addr ≡ 4 = search rules in
    subst (λ (fec : Fec). IsTunnel (Some (record { leaf_info = false; tunnel = tunnels.Mldp fec; label = None }))) (sym c.lsp.ensures)
    (tunnel_writable c.args.addr c.args.number four)
