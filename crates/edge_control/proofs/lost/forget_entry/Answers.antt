use Rattle.std.proofs.Common.{◌<◌, length, Some, refl, sym, ap, ◌∙◌, arith}
use Rattle.std.proofs.lemmas.List.{length-set}
use Rattle.bgp_messages.specs.declared.bgp_attributes.key.Key.{Key}
use Rattle.edge_defs.specs.Place.{addr_of, vrfs_from}
use Rattle.edge_routes.specs.edge_home.Home.{as_own, place_of}
use Rattle.edge_control.specs.Taking.{losing_row, tree_losing}
use Rattle.edge_control.proofs.PeerKinds.{losing_is}
use Rattle.edge_control.proofs.PeerLost.{rest_is, turned_same}
use Rattle.edge_control.proofs.PeerTurns.{turned_end, turned_more}
use Rattle.edge_control.proofs.lost.forget_entry.Goals as goal

pub returns-then-not-is_of_flow-clause-each : goal.returns-then-not-is_of_flow-clause-each
returns-then-not-is_of_flow-clause-each c = λ core.
    sym (turned_same (losing_row c.args.home.now core c.args.peer (c.args.key.now, c.args.entry.now))
    (λ own tree. rest_is (place_of c.args.home.now core) own c.args.peer c.args.key.now c.args.entry.now tree
    (sym c.is_of_flow.ensures ∙ c.if-not-is_of_flow.true))
    (vrfs_from c.args.home.now.me 0 c.args.home.now.scenario.vrfs) c.args.trees.now.items c.requires)

pub loop-place-init : goal.loop-place-init
loop-place-init c = record { long = refl; each = λ core. refl }

pub loop-place-preserved : goal.loop-place-preserved
loop-place-preserved c =
    let lt : c.loop-place.place < length c.args.trees.now.items = omega arith in
    record {
      long = length-set c.loop-place.trees.items c.loop-place.place c.forget_row.new.tree ∙ c.loop-place.invariant.long;
      each = λ core.
          let place = place_of c.args.home.now core in
          let own = as_own c.own_at-own.result.now in
          turned_more (losing_row c.args.home.now core c.args.peer (c.args.key.now, c.args.entry.now)) c.loop-place.place
          (vrfs_from c.args.home.now.me 0 c.args.home.now.scenario.vrfs) c.args.trees.now.items c.loop-place.trees.items
          own c.index_mut.result.now c.forget_row.new.tree lt c.own_at-own.ensures.own
          (c.loop-place.invariant.each core)
          (c.forget_row.ensures place (addr_of place.scenario c.args.peer) (Some c.args.entry.now)
          (record { of_edge = c.own_at-own.ensures.at core; address = refl }) (sym c.value.ensures)
          ∙ ap (λ (key : Key). tree_losing place own c.args.peer key (Some c.args.entry.now) c.index_mut.result.now) c.key-lost.ensures.key
          ∙ losing_is place own c.args.peer c.args.key.now c.args.entry.now c.index_mut.result.now
          ∙ ap (losing_row c.args.home.now core c.args.peer (c.args.key.now, c.args.entry.now) own) c.index_mut.ensures.value);
    }

pub returns-clause-each : goal.returns-clause-each
returns-clause-each c = λ core.
    c.loop-place.invariant.each core
    ∙ turned_end (losing_row c.args.home.now core c.args.peer (c.args.key.now, c.args.entry.now)) c.loop-place.place
    (vrfs_from c.args.home.now.me 0 c.args.home.now.scenario.vrfs) c.args.trees.now.items (omega arith) c.requires
