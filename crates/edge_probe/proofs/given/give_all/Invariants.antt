use Rattle.std.proofs.Common.{◌≡◌, take}
use Rattle.edge_core.specs.State.{home_of}
use Rattle.edge_probe.specs.Behind.{IsTold}
use Rattle.edge_probe.proofs.given.give_all.Given as goal

abbrev pub invariant-loop-line : goal.invariant-loop-line
invariant-loop-line l = record {
  told : IsTold l.core l.peer (take l.line-index l.all) l.fault l.own;
  home : home_of l.own ≡ home_of l.fn.own;
}
