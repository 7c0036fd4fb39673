use Rattle.std.proofs.Common.{◌≡◌, ◌↔◌, true, ◌++◌, sym, ap, subst, ◌∙◌}
use Rattle.std.specs.List.{list_any}
use Rattle.std.specs.FinMap as maps
use Rattle.label_defs.specs.LabelData.{same_fec}
use Rattle.edge_routes.specs.edge_home.Home.{place_of}
use Rattle.control_laws.specs.Control.{control_of}
use Rattle.edge_control.specs.Taking.{table_of}
use Rattle.edge_routing.specs.edge_updates.Inclusive.{IsInclusiveFrom}
use Rattle.edge_routing.specs.edge_updates.Tunnels.{tunnels_by_all}
use Rattle.edge_routing.proofs.edge_updates.TakenLemmas.{all_listed}
use Rattle.edge_routing.proofs.edge_updates.inclusive.inclusive_from.Goals as goal

pub returns : goal.returns
returns c = λ core fec.
    let kept = c.args.control.now in
    let all : c.append_of_table.new.fecs.items ≡ tunnels_by_all kept.home c.args.peer (maps.entries (table_of kept.peers c.args.peer)) =
    c.in_ok-append_of_table.ensures ∙ ap (λ fecs. fecs ++ tunnels_by_all kept.home c.args.peer (maps.entries (table_of kept.peers c.args.peer)))
    c.new-fecs.ensures.items in
    subst (λ fecs. IsInclusiveFrom (place_of kept.home core) (control_of kept) c.args.peer fec ↔ (list_any (same_fec fec) fecs ≡ true)) (sym all)
    (all_listed kept.home core c.args.peer (control_of kept) fec)
