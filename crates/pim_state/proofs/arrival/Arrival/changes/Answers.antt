use Rattle.std.proofs.Common.{◌≡◌, List, Option, None, ap, ◌∙◌}
use Rattle.std.specs.Map.{lookup}
use Rattle.indexmap.specs.IndexMap.{get}
use Rattle.scenario_defs.specs.declared.event.IfaceEntry.{IfaceEntry}
use Rattle.pim_defs.specs.declared.expiry.Expiry.{Expiry}
use Rattle.pim_state.specs.Plan.{is_at, is_named, told_at}
use Rattle.pim_state.proofs.PlanLemmas.{all-ended, plan-applied}
use Rattle.pim_state.proofs.arrival.Arrival.changes.Goals as goal

pub returns : goal.returns
returns c = λ message tells.
    let arrival = c.args.self.now in
    let entries = c.args.entries.now in
    plan-applied arrival entries message c.plan_all_ended.new.changes.entries tells c.plan_all_ended.ensures.unique (λ at.
    let empty : get is_at c.new-changes.result at ≡ None =
    ap (λ (es : List (IfaceEntry × Option Expiry)). lookup (is_at at) es) c.new-changes.ensures.empty in
    let first : get is_at c.plan_named.new.changes at ≡ told_at arrival entries (is_named arrival arrival.joins.keys at) None at =
    c.in_ok-plan_named.ensures.each at ∙ (λ i. told_at arrival entries (is_named arrival (c.as_slice.ensures.keys i) at) (empty i) at) in
    let second =
    c.in_ok-plan_named-2.ensures.each at ∙ (λ i. told_at arrival entries (is_named arrival (c.as_slice-2.ensures.keys i) at) (first i) at) in
    c.in_ok-plan_all_ended.ensures.each at ∙ (λ i. told_at arrival entries (all-ended arrival entries c.args.index.now at c.requires.exact i)
    (second i) at))
