use Rattle.std.proofs.Common.{◌<◌, length, set, refl, ap, ◌∙◌, arith}
use Rattle.std.proofs.lemmas.List.{length-set}
use Rattle.edge_defs.specs.Place.{vrfs_from}
use Rattle.edge_routes.specs.edge_home.Home.{as_own, place_of}
use Rattle.edge_control.specs.Taking.{learning}
use Rattle.edge_control.proofs.PeerTurns.{on_err, set_itself, turned_end, turned_more}
use Rattle.edge_control.proofs.each.learn_in.Goals as goal

pub loop-place-init : goal.loop-place-init
loop-place-init c = record { long = refl; each = λ core taken says. refl }

pub returns-in_err-learn_route-clause-partly : goal.returns-in_err-learn_route-clause-partly
returns-in_err-learn_route-clause-partly c =
    on_err c.from_residual.result _ (
      c.loop-place.place,
      λ core taken says.
          ap (λ tree. set c.loop-place.trees.items c.loop-place.place tree) c.in_err-learn_route.ensures.unchanged
          ∙ set_itself c.loop-place.trees.items c.loop-place.place c.index_mut.result.now c.index_mut.ensures.value
          ∙ c.loop-place.invariant.each core taken says,
    )

pub loop-place-preserved : goal.loop-place-preserved
loop-place-preserved c =
    let lt : c.loop-place.place < length c.args.trees.now.items = omega arith in
    record {
      long = length-set c.loop-place.trees.items c.loop-place.place c.learn_route.new.tree ∙ c.loop-place.invariant.long;
      each = λ core taken says.
          turned_more (learning c.args.home.now core c.args.peer c.args.now c.args.key.now taken) c.loop-place.place
          (vrfs_from c.args.home.now.me 0 c.args.home.now.scenario.vrfs) c.args.trees.now.items c.loop-place.trees.items
          (as_own c.own_at-own.result.now) c.index_mut.result.now c.learn_route.new.tree lt c.own_at-own.ensures.own
          (c.loop-place.invariant.each core taken says)
          (c.in_ok-learn_route.ensures.learned (place_of c.args.home.now core) taken
          (record { of_edge = c.own_at-own.ensures.at core; address = c.requires.addr }) says
          ∙ ap (learning c.args.home.now core c.args.peer c.args.now c.args.key.now taken (as_own c.own_at-own.result.now))
          c.index_mut.ensures.value);
    }

pub returns-clause-learned : goal.returns-clause-learned
returns-clause-learned c = λ core taken says.
    c.loop-place.invariant.each core taken says
    ∙ turned_end (learning c.args.home.now core c.args.peer c.args.now c.args.key.now taken) c.loop-place.place
    (vrfs_from c.args.home.now.me 0 c.args.home.now.scenario.vrfs) c.args.trees.now.items (omega arith) c.requires.each

pub returns-in_err-learn_route-clause-long : goal.returns-in_err-learn_route-clause-long
returns-in_err-learn_route-clause-long c = length-set c.loop-place.trees.items c.loop-place.place c.learn_route.new.tree ∙ c.loop-place.invariant.long
