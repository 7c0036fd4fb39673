-- The selections of an edge have small numbers.
use Rattle.std.proofs.Common.{ℕ, zero, suc, ◌+◌, ◌<◌, ◌≤◌, Bool, true, false, cond, map, Option, Some, None, sym, ◌∙◌, arith}
use Rattle.std.specs.List.{fold, list_any}
use Rattle.std.specs.FinMap as maps
use Rattle.std.specs.FinMap.{FinMap}
use Rattle.std.proofs.lemmas.Option.{none-some}
use Rattle.mv_base.specs.declared.ids.NodeId.{NodeId}
use Rattle.bgp_messages.specs.declared.bgp_attributes.update.Message.{Message}
use Rattle.bgp_messages.specs.bgp_update.Table.{changes_of}
use Rattle.scenario_defs.specs.declared.event.Kind.TheVariants as kinds
use Rattle.edge_defs.proofs.KeyLemmas.{pattern_total, pattern_exact}
use Rattle.edge_defs.specs.Edge.{VrfPattern, pattern_cmp, Selected, Taken, Control, no_control}
use Rattle.edge_defs.specs.Place.{EdgePlace}
use Rattle.selective_defs.specs.Selective.{free_number}
use Rattle.edge_defs.specs.Steps as steps
use Rattle.edge_defs.specs.Steps.{is_used, selection_run, selections_run, taken_change, effect, control_step}
use Rattle.network_laws.proofs.Lists.{each_map}
use Rattle.network_laws.proofs.Maps.{Each, all_entries, made_meets, put_meets, cut_meets}

-- a number of 20 bits
abbrev pub IsSmall : VrfPattern → Selected → Type 0
IsSmall key selected = selected.number < 1048576

abbrev pub NumbersOk : Control → Type 0
NumbersOk control = Each IsSmall control.selections

-- there is room for one more selection
abbrev pub HasRoom : Control → steps.Call → Type 0
HasRoom control (steps.Customer (steps.Select vrf pattern)) = maps.len control.selections < 1000000
HasRoom control other = Unit {0}

number_within : (used : ℕ → Bool) (count number : ℕ) → free_number used count number ≤ number + count
number_within used zero number = omega arith
number_within used (suc count) number =
    let rest = number_within used count (number + 1) in
    elim (used number) as (λ b. cond b (free_number used count (number + 1)) number ≤ number + suc count) [
      | true ↦ omega (arith, rest)
      | false ↦ omega arith
    ]

run_numbers : (delay now : ℕ) (old : FinMap pattern_cmp Selected) → Each IsSmall old → Each IsSmall (selections_run delay now old)
run_numbers delay now old h =
    made_meets pattern_total pattern_exact IsSmall (map (λ entry. (entry.0, selection_run delay now entry.1)) (maps.entries old))
    (each_map (λ entry. IsSmall entry.0 entry.1) (λ entry. (entry.0, selection_run delay now entry.1)) (maps.entries old)
    (all_entries pattern_total IsSmall old h))

updated_numbers : (now : ℕ) (peer : NodeId) (message : Message) (old : Control) (o : Option Taken) → NumbersOk old → NumbersOk (elim o [
  | None ↦ old
  | Some taken ↦ record old { peers = maps.insert old.peers peer (fold (taken_change now) taken (changes_of message)) }
])
updated_numbers now peer message old None h = h
updated_numbers now peer message old (Some taken) h = h

effect_numbers : (place : EdgePlace) (now : ℕ) (old : Control) (call : steps.Call) → HasRoom old call → NumbersOk old
    → NumbersOk (effect place now old call)
effect_numbers place now old (steps.Update peer message) room h = updated_numbers now peer message old (maps.get old.peers peer) h
effect_numbers place now old (steps.Label neighbour message) room h = h
effect_numbers place now old (steps.Customer (steps.Select vrf pattern)) room h =
    let used = λ (number : ℕ). list_any (is_used vrf number) (maps.entries old.selections) in
    let within = number_within used (maps.len old.selections) 1 in
    put_meets pattern_total pattern_exact IsSmall old.selections (record { vrf = vrf; pattern = pattern })
    (record { number = free_number used (maps.len old.selections) 1; since = now; run = false }) h (omega (arith, within, room))
effect_numbers place now old (steps.Customer (steps.Unselect vrf pattern)) room h =
    cut_meets pattern_total pattern_exact IsSmall old.selections (record { vrf = vrf; pattern = pattern }) h
effect_numbers place now old (steps.Customer other) room h = h
effect_numbers place now old (steps.Raised kinds.Bgp peer) room h = h
effect_numbers place now old (steps.Raised kinds.Ldp peer) room h = h
effect_numbers place now old (steps.Noticed kinds.Bgp peer) room h = h
effect_numbers place now old (steps.Noticed kinds.Ldp peer) room h = h
effect_numbers place now old steps.Rerouted room h = h
effect_numbers place now old steps.Timers room h = run_numbers place.scenario.delay now old.selections h

pub step_numbers : (place : EdgePlace) (now : ℕ) (old : Control) (call : steps.Call) → HasRoom old call → NumbersOk old
    → NumbersOk (control_step place now old call)
step_numbers place now old call room h = effect_numbers place now old call room h

pub no_numbers : NumbersOk no_control
no_numbers key selected e = absurd (none-some selected (sym (maps.get-empty pattern_cmp key) ∙ e))
