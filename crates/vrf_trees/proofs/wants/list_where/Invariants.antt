use Rattle.std.proofs.Common.{◌≡◌, ◌||◌, true}
use Rattle.std.specs.List.{list_any}
use Rattle.vrf_words.specs.declared.tree_defs.flow.Flow.{Flow}
use Rattle.vrf_trees.specs.Wants.{is_news}
use Rattle.vrf_flows.specs.Stale.{is_listed}
use Rattle.vrf_flows.proofs.StaleLemmas.{is_entry}
use Rattle.vrf_trees.proofs.wants.list_where.Given as goal

abbrev pub invariant-loop-flow : goal.invariant-loop-flow
invariant-loop-flow l = record {
  listed : (q : Flow) → list_any (is_entry (is_news l.cause) q) l.wants.entries ≡ true
      → (is_listed l.stale q || list_any (is_entry (is_news l.cause) q) l.flow-iterator) ≡ true;
  kept : (q : Flow) → is_listed l.initial.stale q ≡ true → is_listed l.stale q ≡ true;
}
