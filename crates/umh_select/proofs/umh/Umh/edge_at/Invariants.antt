use Rattle.std.proofs.Common.{◌≡◌, ◌≤◌, length, slice_get}
use Rattle.std.specs.FinMap.{entries}
use Rattle.umh_select.specs.Edges.{edges_in}
use Rattle.umh_select.specs.Routes.{at_length}
use Rattle.umh_select.proofs.umh.Umh.edge_at.Given as goal

abbrev pub invariant-loop-passed : goal.invariant-loop-passed
invariant-loop-passed l = record {
  edge : l.edge ≡ slice_get (edges_in (at_length l.source l.bits (entries l.self.learned))) l.passed;
  within : l.passed ≤ length (edges_in (at_length l.source l.bits (entries l.self.learned)));
}
