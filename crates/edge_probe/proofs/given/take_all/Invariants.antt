use Rattle.std.proofs.Common.{◌≡◌, ◌++◌, ◌∷◌, [], List, ℕ, length}
use Rattle.edge_core.specs.State.{home_of}
use Rattle.edge_probe.specs.Behind.{IsTold}
use Rattle.probe_defs.specs.declared.probe.ProbeLine.{ProbeLine as Line}
use Rattle.probe_defs.specs.declared.probe.ProbeLine.TheVariants as lines
use Rattle.edge_probe.proofs.given.take_all.Given as goal

-- the edge was given the octets before the rest
abbrev pub invariant-loop-fault : goal.invariant-loop-fault
invariant-loop-fault l = record {
  front : List ℕ;
  are : l.initial.rest ≡ front ++ l.rest;
  told : (done : List Line) → IsTold l.core l.peer done l.initial.fault l.initial.own → IsTold l.core l.peer (done ++ lines.Piece front ∷ []) l.fault l.own;
  home : home_of l.own ≡ home_of l.initial.own;
}

abbrev pub decreases-loop-fault : goal.decreases-loop-fault
decreases-loop-fault l = length l.rest
