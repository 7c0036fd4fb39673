use Rattle.std.proofs.Common.{List, ap, ◌∙◌}
use Rattle.vrf_words.specs.tree_defs.Trees.{TreeData}
use Rattle.edge_defs.specs.Place.{vrfs_from}
use Rattle.edge_routes.specs.edge_home.Home.{place_of}
use Rattle.edge_control.specs.Taking.{forgetting, learning, turned_all}
use Rattle.edge_control.proofs.PeerKinds.{with_back}
use Rattle.edge_control.proofs.PeerTurns.{turned_back}
use Rattle.edge_control.proofs.each.learn_or_forget.Goals as goal

pub returns-in-Err-clause-forgot : goal.returns-in-Err-clause-forgot
returns-in-Err-clause-forgot c = λ core at taken says.
    c.forget_in.ensures core at taken says
    ∙ ap (λ (trees : List TreeData). turned_all (forgetting c.args.home.now core c.args.peer at c.args.key.now taken)
    (vrfs_from c.args.home.now.me 0 c.args.home.now.scenario.vrfs) trees) (c.in-Err.ensures.partly.1 core taken says)
    ∙ turned_back (forgetting c.args.home.now core c.args.peer at c.args.key.now taken)
    (learning c.args.home.now core c.args.peer c.args.now c.args.key.now taken)
    (λ own tree. with_back (place_of c.args.home.now core) own c.args.peer at c.args.now c.args.key.now taken tree)
    c.in-Err.ensures.partly.0 (vrfs_from c.args.home.now.me 0 c.args.home.now.scenario.vrfs) c.args.trees.now.items
