use Rattle.std.proofs.Common.{◌≡◌, ℕ}
use Rattle.std.specs.Prelude.{replicate}
use Rattle.audit_events.proofs.joined.Joined.of.Given as goal

abbrev pub invariant-loop-node : goal.invariant-loop-node
invariant-loop-node l = l.restarts.items ≡ replicate {A = ℕ} l._node 0
