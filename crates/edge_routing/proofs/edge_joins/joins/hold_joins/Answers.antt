use Rattle.edge_control.proofs.edge_tables.WayLemmas.{on_err}
use Rattle.edge_routing.proofs.edge_joins.TurnLemmas.{all_alike, all_alike_then, way_cut, way_end, way_more}
use Rattle.edge_routing.proofs.edge_joins.joins.hold_joins.Goals as goal

pub loop-join-init : goal.loop-join-init
loop-join-init c = record { held = λ core of_vrfs ipv4 hold. hold; told = all_alike c.args.tables.now }

pub loop-join-preserved : goal.loop-join-preserved
loop-join-preserved c = record {
  held = way_more c.args.control.now c.args.joins.now c.loop-join.join-index c.loop-join-test.true c.args.tables.now c.loop-join.tables
      c.hold_one.new.tables c.loop-join.invariant.held
      c.in_ok-hold_one.ensures.held;
  told = all_alike_then c.args.tables.now c.loop-join.tables c.hold_one.new.tables c.loop-join.invariant.told c.in_ok-hold_one.ensures.told;
}

pub returns-in_err-hold_one-clause-left : goal.returns-in_err-hold_one-clause-left
returns-in_err-hold_one-clause-left c =
    on_err c.from_residual.result _
    (way_cut c.args.control.now c.args.joins.now c.loop-join.join-index c.args.tables.now c.loop-join.tables c.hold_one.new.tables
    c.loop-join.invariant.held c.in_err-hold_one.ensures.unchanged)

pub returns-in_err-hold_one-clause-told : goal.returns-in_err-hold_one-clause-told
returns-in_err-hold_one-clause-told c =
    all_alike_then c.args.tables.now c.loop-join.tables c.hold_one.new.tables c.loop-join.invariant.told c.in_err-hold_one.ensures.told

pub returns-clause-held : goal.returns-clause-held
returns-clause-held c =
    way_end c.args.control.now c.args.joins.now c.loop-join.join-index c.loop-join-test.false c.args.tables.now c.loop-join.tables
    c.loop-join.invariant.held
