use Rattle.std.proofs.Common.{◌≡◌, ◌+◌, ◌<◌, ◌^◌, drop}
use Rattle.std.specs.List.{fold}
use Rattle.mvpn_model.specs.Past.{ticks_in, stands_after}
use Rattle.mvpn_model.proofs.standing.stand_after.Given as goal

abbrev pub invariant-loop-timed : goal.invariant-loop-timed
invariant-loop-timed l =
    (l.standing.clock + ticks_in (drop l.timed-index l.events) < 2 ^ 63)
    × (fold (stands_after l.followed.scenario.now l.followed.refused.now l.followed.iface l.followed.entry) l.standing (drop l.timed-index l.events)
    ≡ fold (stands_after l.followed.scenario.now l.followed.refused.now l.followed.iface l.followed.entry) l.initial.standing l.events)
