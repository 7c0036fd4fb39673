use Rattle.network_events.proofs.HopLemmas.{rounds_all, rounds_end, rounds_more, rounds_none}
use Rattle.network_events.proofs.draining.rounds.Goals as goal

pub loop-round-init : goal.loop-round-init
loop-round-init c = rounds_none c.args.network.now c.args.lines.now c.requires.network

pub returns-then-not-branch : goal.returns-then-not-branch
returns-then-not-branch c =
    rounds_end c.args.network.now c.loop-round.network c.round.new.network c.loop-round._round c.args.lines.now c.loop-round.lines c.round.new.lines
    c.loop-round.invariant c.in_ok-round.field-0 c.in_ok-round.ensures
    c.if-not-branch.true 255 c.loop-round.auto._round-end

pub loop-round-preserved : goal.loop-round-preserved
loop-round-preserved c =
    rounds_more c.args.network.now c.loop-round.network c.round.new.network c.loop-round._round c.args.lines.now c.loop-round.lines c.round.new.lines
    c.loop-round.invariant c.in_ok-round.field-0 c.in_ok-round.ensures

pub returns : goal.returns
returns c =
    rounds_all c.args.network.now c.loop-round.network c.loop-round._round 255 c.args.lines.now c.loop-round.lines c.loop-round.auto._round-end
    c.loop-round-test.false c.loop-round.invariant
