use Rattle.std.proofs.Common.{sym, ap, ◌∙◌}
use Rattle.edge_defs.specs.Datagrams.{is_tunnel}
use Rattle.edge_tables.proofs.taken_tables.TunnelLemmas.{fec_equals}
use Rattle.edge_tables.proofs.taken_tables.entry.is_tunnel.Goals as goal

pub returns-in-Some : goal.returns-in-Some
returns-in-Some c = fec_equals c.args.fec.now c.in-Some.own c.eq.result c.eq.ensures ∙ ap (is_tunnel c.args.fec.now) (sym c.in-Some.is)
