use Rattle.std.proofs.Common.{All, take}
use Rattle.mv_base.specs.Octets.{IsOctets}
use Rattle.run_laws.proofs.script_values.scenarios.targets_have_octets.Given as goal

abbrev pub invariant-loop-target : goal.invariant-loop-target
invariant-loop-target l = All (λ target. IsOctets target.0.0) (take l.target-index l.targets)
