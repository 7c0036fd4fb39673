use Rattle.std.proofs.Common.{◌≡◌, None, ◌++◌, option_map, sym, ap, subst, ◌∙◌, append-nil}
use Rattle.std.specs.FinMap as maps
use Rattle.edge_defs.specs.Edge.{Taken}
use Rattle.edge_control.specs.edge_tables.taken_tables.Tables.{Tables}
use Rattle.edge_control.proofs.PeerCalls.{no_table}
use Rattle.edge_routing.specs.edge_updates.Tunnels.{tunnels_by_all}
use Rattle.edge_routing.proofs.edge_updates.inclusive.append_of_table.Goals as goal

pub returns-in-None : goal.returns-in-None
returns-in-None c =
    let none : None ≡ option_map (λ (taken : Taken). maps.entries taken) (maps.get c.args.control.now.peers c.args.peer) =
    subst (λ (tables : Tables). None ≡ option_map (λ (taken : Taken). maps.entries taken) (maps.get tables c.args.peer)) c.taken.ensures
    c.in-None.ensures.entries in
    sym (ap (λ entries. c.args.fecs.now.items ++ tunnels_by_all c.args.control.now.home c.args.peer entries)
    (no_table c.args.control.now.peers c.args.peer none) ∙ append-nil c.args.fecs.now.items)
