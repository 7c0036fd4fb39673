use Rattle.std.proofs.Common.{List, ap, ◌∙◌}
use Rattle.indexmap.specs.IndexMap.{get}
use Rattle.scenario_defs.specs.declared.event.IfaceEntry.{IfaceEntry}
use Rattle.pim_state.specs.Plan.{is_at, ends_among, told_at}
use Rattle.pim_state.proofs.PlanLemmas.{ended-more}
use Rattle.pim_state.proofs.arrival.Arrival.plan_all_ended.Goals as goal

pub loop-entry-preserved : goal.loop-entry-preserved
loop-entry-preserved c = record {
  each = λ at.
      ended-more c.args.self.now c.args.entries.now c.args.index.now c.as_slice-joined.result.now c.loop-entry.entry-index _ at _ _ _
      c.loop-entry-test.true
      (c.in_ok-plan_listed.ensures.each at
      ∙ ap (λ (l : List IfaceEntry). told_at c.args.self.now c.args.entries.now (ends_among c.args.self.now c.args.entries.now l at)
      (get is_at c.loop-entry.changes at) at) c.pruned_by.ensures)
      (c.loop-entry.invariant.each at);
  unique = c.plan_listed.ensures.unique;
}
