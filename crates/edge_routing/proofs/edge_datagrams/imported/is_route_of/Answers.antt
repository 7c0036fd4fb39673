use Rattle.std.proofs.Common.{rules, ◌≡◌, false}
use Rattle.edge_defs.specs.Datagrams.{is_tunnel}
use Rattle.edge_defs.specs.Imported.{lsp_of}
use Rattle.edge_routes.specs.edge_home.Home.{as_own}
use Rattle.edge_routing.proofs.edge_datagrams.ImportLemmas.{other_tunnel}
use Rattle.edge_routing.proofs.edge_datagrams.imported.is_route_of.Goals as goal

pub returns-then-not-has_tunnel : goal.returns-then-not-has_tunnel
returns-then-not-has_tunnel c = λ place peer at.
    let other : is_tunnel c.args.fec.now (lsp_of c.args.entry.now.value.pmsi) ≡ false = search rules in
    other_tunnel place (as_own c.args.own.now) peer c.args.fec.now c.args.key.now c.args.entry.now other
