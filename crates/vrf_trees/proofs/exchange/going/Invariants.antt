use Rattle.std.proofs.Common.{◌≡◌, ◌||◌}
use Rattle.std.specs.List.{IsDistinct}
use Rattle.indexmap.specs.IndexMap.{get}
use Rattle.mldp.specs.declared.mldp_fec.fec.Fec.{Fec}
use Rattle.vrf_words.specs.tree_defs.Keys.{same_flow}
use Rattle.vrf_trees.specs.Plan.{goes}
use Rattle.vrf_trees.specs.Wants.{is_fec, is_in}
use Rattle.vrf_trees.proofs.exchange.going.Given as goal

abbrev pub invariant-loop-flow : goal.invariant-loop-flow
invariant-loop-flow l = record {
  each : (fec : Fec) → (is_in fec l.set.keys || goes (get same_flow l.wants) l.flow-iterator fec) ≡ goes (get same_flow l.wants) l.plan.entries fec;
  once : IsDistinct is_fec l.set.keys;
}
