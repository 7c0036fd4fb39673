use Rattle.std.proofs.Common.{◌≡◌, ◌||◌, is_some}
use Rattle.std.specs.List.{IsDistinct}
use Rattle.std.specs.Map.{keys_of, lookup}
use Rattle.indexmap.specs.IndexMap.{get}
use Rattle.scenario_defs.specs.declared.event.IfaceEntry.{IfaceEntry}
use Rattle.pim_defs.specs.Expiry.{remaining}
use Rattle.pim_state.specs.Plan.{is_at}
use Rattle.pim_state.specs.Index.{is_listed}
use Rattle.pim_state.proofs.IndexLemmas.{IsRestOf}
use Rattle.pim_state.proofs.index.unlist_ended.Given as goal

abbrev pub invariant-loop-at : goal.invariant-loop-at
invariant-loop-at l = record {
  rest : IsRestOf l.at-iterator l.entries.entries;
  distinct : IsDistinct is_at (keys_of l.at-iterator);
  after : (at : IfaceEntry) → is_listed l.index at
      ≡ (is_some (remaining l.now (get is_at l.entries at)) || is_some (lookup (is_at at) l.at-iterator));
}
