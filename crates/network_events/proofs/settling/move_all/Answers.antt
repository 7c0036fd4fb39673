use Rattle.std.proofs.Common.{sym, subst, Result}
use Rattle.network_defs.specs.Events.{turn}
use Rattle.network_acts.specs.Words.{same_moment}
use Rattle.network_events.specs.Doing.{Does}
use Rattle.network_events.specs.Meeting.{IsResting}
use Rattle.network_events.specs.declared.halt.Halt.{Halt}
use Rattle.network_events.proofs.SettleLemmas.{some_movable, turn_does, turn_passes}
use Rattle.network_events.proofs.settling.move_all.Goals as goal

pub returns-then-count-eq0 : goal.returns-then-count-eq0
returns-then-count-eq0 c =
    turn_passes c.args.over c.args.network.now c.transit-count.result c.transit-count.ensures c.if-count-eq0.true c.args.lines.now

pub move_octets-requires : goal.move_octets-requires
move_octets-requires c =
    record {
      network =
          some_movable c.args.over c.args.network.now c.transit-count.result c.transit-count.ensures c.if-count-eq0.false c.requires.way c.requires.network;
    }

pub returns : goal.returns
returns c =
    subst (λ (r : Result (Unit {0}) Halt). Does IsResting same_moment (turn c.args.over) c.args.network.now c.move_octets.new.self c.args.lines.now
    c.move_octets.new.lines r) (sym c.answer_at.ensures)
    (turn_does c.args.over c.args.network.now c.transit-count.result c.transit-count.ensures c.if-count-eq0.false c.requires.way
    c.move_octets.new.self c.args.lines.now c.move_octets.new.lines c.move_octets.result c.move_octets.ensures)
