use Rattle.std.proofs.Common.{◌≡◌, ◌+◌, ◌<◌, ◌^◌, drop}
use Rattle.std.specs.List.{fold}
use Rattle.mvpn_model.specs.Past.{ticks_in}
use Rattle.mvpn_model.specs.OneSession.{after_one}
use Rattle.mvpn_model.proofs.readiness.stands_one.Given as goal

abbrev pub invariant-loop-timed : goal.invariant-loop-timed
invariant-loop-timed l =
    (l.stands.clock + ticks_in (drop l.timed-index l.events) < 2 ^ 63)
    × (fold (after_one l.following.life l.following.refused.now l.following.session) l.stands (drop l.timed-index l.events)
    ≡ fold (after_one l.following.life l.following.refused.now l.following.session) l.initial.stands l.events)
