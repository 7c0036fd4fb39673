use Rattle.std.proofs.Common.{◌≡◌, ◌≤◌, ◌+◌, ◌-◌, ◌++◌, length, replicate, vec_capacity}
use Rattle.tunnel_bindings.specs.declared.state.LabelState.TheVariants.{Free}
use Rattle.tunnel_bindings.specs.Numbers.{AreMarked}
use Rattle.tunnel_bindings.proofs.numbers.reach.Given as goal

abbrev pub invariant-written : goal.invariant-written
invariant-written l = record {
  rest : l.states.items ++ replicate (l.number + 1 - length l.states.items) Free
      ≡ l.initial.states.items ++ replicate (l.number + 1 - length l.initial.states.items) Free;
  capacity : vec_capacity l.initial.states ≤ vec_capacity l.states;
  marks : length l.free ≡ length l.initial.free;
  marked : AreMarked l.states.items l.free;
}

abbrev pub decreases-written : goal.decreases-written
decreases-written l = l.number + 1 - length l.states.items
