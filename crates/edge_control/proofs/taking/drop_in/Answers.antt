use Rattle.std.proofs.Common.{Option, Some, sym, ap, ◌∙◌}
use Rattle.bgp_messages.specs.declared.bgp_attributes.key.Key.{Key}
use Rattle.edge_defs.specs.Edge.{TakenRoute}
use Rattle.edge_defs.specs.Place.{vrfs_from}
use Rattle.edge_tables.specs.taken_tables.Tables.{route_at}
use Rattle.edge_control.specs.Taking.{dropping, forgetting, turned_all}
use Rattle.edge_control.proofs.PeerTaken.{none_turned}
use Rattle.edge_control.proofs.taking.drop_in.Goals as goal

pub returns-in-None : goal.returns-in-None
returns-in-None c = λ core now.
    sym (ap (λ route. turned_all (dropping c.args.home.now core c.args.peer now c.args.key.now route)
    (vrfs_from c.args.home.now.me 0 c.args.home.now.scenario.vrfs) c.args.trees.now.items) (sym (c.in-None.ensures.route ∙ ap (route_at c.args.taken.now c.args.peer) c.kept.ensures))
    ∙ none_turned (vrfs_from c.args.home.now.me 0 c.args.home.now.scenario.vrfs) c.args.trees.now.items c.requires.each)

pub returns-in-Some : goal.returns-in-Some
returns-in-Some c = λ core now.
    c.forget_in.ensures core now (Some c.in-Some.entry.now) (sym c.value.ensures)
    ∙ ap (λ (key : Key). turned_all (forgetting c.args.home.now core c.args.peer now key (Some c.in-Some.entry.now))
    (vrfs_from c.args.home.now.me 0 c.args.home.now.scenario.vrfs) c.args.trees.now.items) c.key.ensures.key
    ∙ ap (λ (route : Option TakenRoute). turned_all (dropping c.args.home.now core c.args.peer now c.args.key.now route)
    (vrfs_from c.args.home.now.me 0 c.args.home.now.scenario.vrfs) c.args.trees.now.items) (c.in-Some.ensures.route ∙ ap (route_at c.args.taken.now c.args.peer) c.kept.ensures)
