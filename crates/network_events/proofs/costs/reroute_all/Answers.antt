use Rattle.std.proofs.Common.{◌≡◌, refl, subst, arith, [], map, Ok}
use Rattle.network_defs.specs.Acts as acts
use Rattle.network_defs.specs.Counts.{node_ids}
use Rattle.network_defs.specs.Events.{row}
use Rattle.network_events.specs.Doing.{Does}
use Rattle.network_events.specs.Parts.{IsRepriced}
use Rattle.network_events.proofs.CostLemmas.{reroutes_all, reroutes_more, reroutes_stop, some_within, with_first}
use Rattle.network_events.proofs.RowLemmas.{does_nothing}
use Rattle.network_events.proofs.costs.reroute_all.Goals as goal

pub loop-number-init : goal.loop-number-init
loop-number-init c = does_nothing IsRepriced (row []) c.args.network.now c.args.lines.now (λ at fits is. refl)

pub reroute_at-requires : goal.reroute_at-requires
reroute_at-requires c = record {
  network =
      some_within c.loop-number.number c.args.nodes c.args.network.now c.loop-number.network c.args.lines.now c.loop-number.lines c.requires.nodes
      c.loop-number-test.true c.loop-number.invariant c.requires.network;
}

pub loop-number-preserved : goal.loop-number-preserved
loop-number-preserved c =
    reroutes_more c.loop-number.number c.args.nodes c.args.network.now c.loop-number.network c.args.lines.now c.loop-number.lines c.requires.nodes
    c.loop-number-test.true c.loop-number.invariant
    c.reroute_at.new.network c.reroute_at.new.lines c.in_default.ensures

pub returns-in-Err : goal.returns-in-Err
returns-in-Err c =
    reroutes_stop c.loop-number.number c.args.nodes c.args.network.now c.loop-number.network c.args.lines.now c.loop-number.lines c.requires.nodes
    c.loop-number-test.true c.loop-number.invariant
    c.reroute_at.new.network c.reroute_at.new.lines c.in-Err.halt c.in-Err.ensures

pub returns : goal.returns
returns c =
    let all : c.loop-number.number ≡ c.args.nodes = omega (arith, c.loop-number-test.false, c.loop-number.auto.number-end) in
    reroutes_all c.args.nodes c.args.network.now c.loop-number.network c.args.lines.now c.loop-number.lines c.requires.nodes
    (subst (λ n. Does IsRepriced (with_first n) (row (map (λ m. acts.Reroute m) (node_ids 0 n))) c.args.network.now c.loop-number.network
    c.args.lines.now c.loop-number.lines (Ok tt)) all c.loop-number.invariant)
