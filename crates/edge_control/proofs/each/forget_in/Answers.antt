use Rattle.std.proofs.Common.{◌<◌, length, refl, ap, ◌∙◌, arith}
use Rattle.std.proofs.lemmas.List.{length-set}
use Rattle.edge_defs.specs.Place.{vrfs_from}
use Rattle.edge_routes.specs.edge_home.Home.{as_own, place_of}
use Rattle.edge_control.specs.Taking.{forgetting}
use Rattle.edge_control.proofs.PeerTurns.{turned_end, turned_more}
use Rattle.edge_control.proofs.each.forget_in.Goals as goal

pub loop-place-init : goal.loop-place-init
loop-place-init c = record { long = refl; each = λ core now taken says. refl }

pub loop-place-preserved : goal.loop-place-preserved
loop-place-preserved c =
    let lt : c.loop-place.place < length c.args.trees.now.items = omega arith in
    record {
      long = length-set c.loop-place.trees.items c.loop-place.place c.forget_route.new.tree ∙ c.loop-place.invariant.long;
      each = λ core now taken says.
          turned_more (forgetting c.args.home.now core c.args.peer now c.args.key.now taken) c.loop-place.place
          (vrfs_from c.args.home.now.me 0 c.args.home.now.scenario.vrfs) c.args.trees.now.items c.loop-place.trees.items
          (as_own c.own_at-own.result.now) c.index_mut.result.now c.forget_route.new.tree lt c.own_at-own.ensures.own
          (c.loop-place.invariant.each core now taken says)
          (c.forget_route.ensures (place_of c.args.home.now core) now taken
          (record { of_edge = c.own_at-own.ensures.at core; address = c.requires.addr }) says
          ∙ ap (forgetting c.args.home.now core c.args.peer now c.args.key.now taken (as_own c.own_at-own.result.now)) c.index_mut.ensures.value);
    }

pub returns : goal.returns
returns c = λ core now taken says.
    c.loop-place.invariant.each core now taken says
    ∙ turned_end (forgetting c.args.home.now core c.args.peer now c.args.key.now taken) c.loop-place.place
    (vrfs_from c.args.home.now.me 0 c.args.home.now.scenario.vrfs) c.args.trees.now.items (omega arith) c.requires.each
