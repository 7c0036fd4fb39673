use Rattle.std.proofs.Common.{length}
use Rattle.tunnel_bindings.specs.Labels.{Space}
use Rattle.tunnel_bindings.specs.Places.{AreReady, AreEnded}
use Rattle.tunnel_bindings.proofs.places.end_all.Given as goal

abbrev pub invariant-loop-place : goal.invariant-loop-place
invariant-loop-place l = record {
  ready : AreReady l.places.items l.space;
  thereafter : (last : Space) → AreEnded l.places.items l.space last → AreEnded l.fn.places.items l.fn.space last;
}

abbrev pub decreases-loop-place : goal.decreases-loop-place
decreases-loop-place l = length l.places.items
