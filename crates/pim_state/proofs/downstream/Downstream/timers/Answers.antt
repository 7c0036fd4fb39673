use Rattle.std.proofs.Common.{rules, fold, ◌≡◌, ◌≤◌, length, List, Option, arith, ap, is_some, not, refl, sym, ◌∙◌}
use Rattle.std.specs.Map.{lookup}
use Rattle.std.specs.FinMap.{from_entries, len}
use Rattle.std.proofs.lemmas.List.Filters.{length-filter_both}
use Rattle.indexmap.proofs.CallerLemmas.{filter-RetainsPairs}
use Rattle.scenario_defs.specs.declared.event.IfaceEntry.{IfaceEntry}
use Rattle.pim_defs.specs.declared.expiry.Expiry.{Expiry}
use Rattle.pim_defs.specs.Expiry.{is_after}
use Rattle.pim_defs.specs.Entries.{entry_cmp, Entries, kept_at}
use Rattle.pim_state.specs.Plan.{is_at}
use Rattle.pim_defs.specs.declared.expiry.Expiry.TheVariants.{Never}
use Rattle.pim_state.specs.Ends.{sooner}
use Rattle.pim_state.proofs.EndLemmas.{soonest_bound}
use Rattle.pim_state.proofs.MapLemmas.{left-kept, left_at, length-map, lookup-left}
use Rattle.pim_state.proofs.downstream.Downstream.timers.Goals as goal

pub returns-clause-kept : goal.returns-clause-kept
returns-clause-kept c =
    let left : c.retain.new.self.entries ≡ left_at c.args.now c.self.inside.entries.entries =
    filter-RetainsPairs _ _ _ (λ k v b w g call. search rules) _ _ c.retain.ensures.filtered in
    ap (from_entries {R = entry_cmp}) left ∙ (left-kept c.args.now c.self.inside.entries.entries c.self.invariant.0
    ∙ ap (λ (m : Entries). kept_at m c.args.now) c.self.view_is)

pub returns-clause-fewer : goal.returns-clause-fewer
returns-clause-fewer c =
    let left : c.retain.new.self.entries ≡ left_at c.args.now c.self.inside.entries.entries =
    filter-RetainsPairs _ _ _ (λ k v b w g call. search rules) _ _ c.retain.ensures.filtered in
    let before : len (from_entries {R = entry_cmp} c.self.inside.entries.entries) ≡ length c.self.inside.entries.entries =
    length-map c.self.inside.entries.entries c.self.invariant.0 in
    let thereafter : len (from_entries {R = entry_cmp} c.retain.new.self.entries) ≡ length c.retain.new.self.entries =
    length-map c.retain.new.self.entries c.retain.ensures.unique in
    let fewer : length c.retain.new.self.entries ≤ length c.self.inside.entries.entries =
    omega (
      arith,
      ap length left,
      length-filter_both (λ (e : IfaceEntry × Expiry). is_after e.1 c.args.now) (λ e. not (is_after e.1 c.args.now))
          (λ _. refl) c.self.inside.entries.entries,
    ) in
    omega (arith, before, thereafter, fewer, ap (λ (m : Entries). len m) c.self.view_is)

pub invariant_of-self : goal.invariant_of-self
invariant_of-self c =
    let left : c.retain.new.self.entries ≡ left_at c.args.now c.self.inside.entries.entries =
    filter-RetainsPairs _ _ _ (λ k v b w g call. search rules) _ _ c.retain.ensures.filtered in
    let fewer : length c.retain.new.self.entries ≤ length c.self.inside.entries.entries =
    omega (
      arith,
      ap length left,
      length-filter_both (λ (e : IfaceEntry × Expiry). is_after e.1 c.args.now) (λ e. not (is_after e.1 c.args.now))
          (λ _. refl) c.self.inside.entries.entries,
    ) in (
      c.retain.ensures.unique,
      omega (arith, fewer, c.self.invariant.1),
      λ at.
          c.unlist_ended.ensures at
          ∙ ap (λ (o : Option Expiry). is_some o) (sym (ap (λ (es : List (IfaceEntry × Expiry)). lookup (is_at at) es) left
          ∙ lookup-left c.args.now at c.self.inside.entries.entries c.self.invariant.0)),
      soonest_bound c.soonest-self-inside.result c.retain.new.self.entries
          (c.soonest-self-inside.ensures ∙ ap (fold sooner Never) (c.as_slice.ensures ∙ c.values.ensures.rest)),
    )
