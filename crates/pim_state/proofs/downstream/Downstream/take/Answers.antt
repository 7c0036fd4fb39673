use Rattle.std.proofs.Common.{rules, fold, subst, ◌≡◌, ◌≤◌, ◌||◌, ◌&&◌, not, is_some, Bool, Option, length, arith, sym, ap, ◌∙◌, List}
use Rattle.std.specs.List.{list_any}
use Rattle.std.specs.FinMap.{from_entries, len}
use Rattle.std.specs.Map.{keys_of, lookup, values_of}
use Rattle.indexmap.specs.IndexMap.{get}
use Rattle.scenario_defs.specs.declared.event.IfaceEntry.{IfaceEntry}
use Rattle.pim_defs.specs.declared.expiry.Expiry.{Expiry}
use Rattle.pim_defs.specs.Entries.{Entries, entry_cmp}
use Rattle.pim_state.specs.Changes.{changed_by, then_at}
use Rattle.pim_state.specs.Index.{is_kept, is_listed}
use Rattle.pim_state.specs.Plan.{is_at}
use Rattle.pim_state.specs.Ends.{IsBound, sooner_where}
use Rattle.pim_state.proofs.EndLemmas.{changed_bound}
use Rattle.pim_state.proofs.ChangesLemmas.{made-changes}
use Rattle.pim_state.proofs.IndexLemmas.{changed-keys, then-exact}
use Rattle.pim_state.proofs.MapLemmas.{length-map}
use Rattle.pim_state.proofs.downstream.Downstream.take.Goals as goal

pub list_all-requires : goal.list_all-requires
list_all-requires c = λ at.
    c.self.invariant.2 at ∙ ap (λ (es : List (IfaceEntry × Expiry)). is_some (lookup (is_at at) es)) (sym c.reserve.ensures.entries)

pub invariant_of-self-2 : goal.invariant_of-self-2
invariant_of-self-2 c =
    let changes = c.in_ok-changes.changes.entries in
    let few : c.count_after.result ≤ 1024 = search rules in
    let made : (at : IfaceEntry) → get is_at c.loop-at.self-inside.entries at ≡ then_at changes (get is_at c.reserve.new.self at) at =
    λ at. search rules in
    let all : from_entries {R = entry_cmp} c.loop-at.self-inside.entries.entries ≡ changed_by (from_entries c.self.inside.entries.entries) changes =
    made-changes c.self.inside.entries.entries c.loop-at.self-inside.entries.entries changes (λ at.
    made at ∙ ap (λ (es : List (IfaceEntry × Expiry)). then_at changes (lookup (is_at at) es) at) c.reserve.ensures.entries) in
    let thereafter : len (from_entries {R = entry_cmp} c.loop-at.self-inside.entries.entries) ≡ length c.loop-at.self-inside.entries.entries =
    length-map c.loop-at.self-inside.entries.entries c.loop-at.invariant.unique in (
      c.loop-at.invariant.unique,
      omega (arith, few, thereafter, ap (λ (m : Entries). len m) all, c.count_after.ensures),
      (λ at.
          let there = get is_at c.reserve.new.self at in
          let own : is_listed c.self.inside.index at ≡ is_some there =
          c.self.invariant.2 at ∙ ap (λ (es : List (IfaceEntry × Expiry)). is_some (lookup (is_at at) es)) (sym c.reserve.ensures.entries) in
          c.unlist_gone.ensures at
          ∙ ((λ i. is_listed (c.loop-at.invariant.index i) at
          && (not (list_any (λ own. is_at own at) (keys_of changes)) || is_some (made at i)))
          ∙ (then-exact changes there at (is_listed c.list_all.new.index at) _
          (c.in_ok-list_all.ensures.each at ∙ ap (λ (b : Bool). b || is_kept changes at) own)
          (changed-keys changes at)
          ∙ ap (λ (o : Option Expiry). is_some o) (sym (made at))))),
      subst (λ (m : Entries). IsBound c.soonest_with-self-inside.result m) (sym all)
          (subst (λ (next : Expiry). IsBound next (changed_by (from_entries c.self.inside.entries.entries) changes)) (sym (c.soonest_with-self-inside.ensures
          ∙ ap (λ (next : Expiry). fold sooner_where next (values_of changes)) c.loop-at.invariant.next))
          (changed_bound changes c.self.inside.next (from_entries c.self.inside.entries.entries) c.self.invariant.3)),
    )

pub returns-clause-taken : goal.returns-clause-taken
returns-clause-taken c =
    let changes = c.in_ok-changes.changes.entries in
    let made : (at : IfaceEntry) → get is_at c.loop-at.self-inside.entries at ≡ then_at changes (get is_at c.reserve.new.self at) at =
    λ at. search rules in
    let all : from_entries {R = entry_cmp} c.loop-at.self-inside.entries.entries ≡ changed_by (from_entries c.self.inside.entries.entries) changes =
    made-changes c.self.inside.entries.entries c.loop-at.self-inside.entries.entries changes (λ at.
    made at ∙ ap (λ (es : List (IfaceEntry × Expiry)). then_at changes (lookup (is_at at) es) at) c.reserve.ensures.entries) in
    all ∙ (ap (λ (m : Entries). changed_by m changes) c.self.view_is ∙ c.in_ok-changes.ensures)
