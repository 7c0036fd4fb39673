use Rattle.std.proofs.Common.{◌≡◌, drop, length}
use Rattle.tunnel_bindings.specs.Resting.{freed}
use Rattle.tunnel_bindings.proofs.space.free_rested.Given as goal

abbrev pub invariant-loop-rest : goal.invariant-loop-rest
invariant-loop-rest l = record {
  rest : freed l.now (drop l.rest-index l.rests) l.numbers ≡ freed l.now l.rests l.initial.numbers;
  long : length l.numbers ≡ length l.initial.numbers;
}
