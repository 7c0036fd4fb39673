use Rattle.std.proofs.Common.{◌≡◌, is_some, true}
use Rattle.indexmap.specs.IndexMap.{get, IsUnique}
use Rattle.vrf_words.specs.declared.tree_defs.flow.Flow.{Flow}
use Rattle.vrf_words.specs.tree_defs.Keys.{same_flow}
use Rattle.vrf_flows.specs.Sight.{needs}
use Rattle.vrf_flows.specs.Plan.{sets, settled_by}
use Rattle.vrf_flows.proofs.plan.settle_each.Given as goal

abbrev pub invariant-loop-flow : goal.invariant-loop-flow
invariant-loop-flow l = record {
  each : (q : Flow) → sets (λ flow now. settled_by (needs l.sight flow) now) l.flow-iterator (get same_flow l.flows q) q
      ≡ sets (λ flow now. settled_by (needs l.sight flow) now) l.fn.plan.entries (get same_flow l.initial.flows q) q;
  held : (q : Flow) → needs l.sight q ≡ true → is_some (get same_flow l.initial.flows q) ≡ true → is_some (get same_flow l.flows q) ≡ true;
  unique : IsUnique same_flow l.flows;
}
