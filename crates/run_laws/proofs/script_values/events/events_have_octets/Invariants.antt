use Rattle.std.proofs.Common.{All, take}
use Rattle.run_laws.specs.Octets.{EventHasOctets}
use Rattle.run_laws.proofs.script_values.events.events_have_octets.Given as goal

abbrev pub invariant-loop-timed : goal.invariant-loop-timed
invariant-loop-timed l = All (λ timed. EventHasOctets timed.event) (take l.timed-index l.timeds)
