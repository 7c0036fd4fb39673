use Rattle.std.proofs.Common.{◌≡◌, ◌||◌}
use Rattle.std.specs.List.{IsDistinct}
use Rattle.mldp.specs.declared.mldp_fec.fec.Fec.{Fec}
use Rattle.vrf_trees.specs.Plan.{comes}
use Rattle.vrf_trees.specs.Wants.{is_fec, is_in}
use Rattle.vrf_trees.proofs.exchange.coming.Given as goal

abbrev pub invariant-loop-next : goal.invariant-loop-next
invariant-loop-next l = record {
  each : (fec : Fec) → (is_in fec l.set.keys || comes l.next-iterator fec) ≡ comes l.plan.entries fec;
  once : IsDistinct is_fec l.set.keys;
}
