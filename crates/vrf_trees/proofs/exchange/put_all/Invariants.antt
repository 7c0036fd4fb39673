use Rattle.std.proofs.Common.{◌≡◌, ◌||◌, take}
use Rattle.std.specs.List.{IsDistinct}
use Rattle.mldp.specs.declared.mldp_fec.fec.Fec.{Fec}
use Rattle.vrf_trees.specs.Wants.{is_fec, is_in}
use Rattle.vrf_trees.proofs.exchange.put_all.Given as goal

abbrev pub invariant-loop-fec : goal.invariant-loop-fec
invariant-loop-fec l = record {
  each : (fec : Fec) → is_in fec l.set.keys ≡ (is_in fec (take l.fec-index l.fecs) || is_in fec l.initial.set.keys);
  once : IsDistinct is_fec l.set.keys;
}
