use Rattle.std.proofs.Common.{◌≡◌, drop}
use Rattle.std.specs.List.{fold}
use Rattle.mvpn_model.specs.Past.{noted_after}
use Rattle.mvpn_model.proofs.active.noted_thereafter.Given as goal

abbrev pub invariant-loop-timed : goal.invariant-loop-timed
invariant-loop-timed l =
    fold (noted_after l.noted.scenario.now l.noted.refused.now l.noted.iface l.noted.source l.noted.group) l.is_noted (drop l.timed-index l.events)
    ≡ fold (noted_after l.noted.scenario.now l.noted.refused.now l.noted.iface l.noted.source l.noted.group) l.initial.is_noted l.events
