-- A network that is after the first events of a script: what is true of the next one, and what it is after then.
use Rattle.std.proofs.Common.{◌≡◌, ◌∙◌, refl, sym, ap, subst, arith, ℕ, zero, suc, ◌+◌, ◌*◌, ◌≤◌, ◌<◌, List, [], ◌∷◌, ◌++◌, length, take, get_or, slice_get, Option, Some, None}
use Rattle.std.specs.Prelude.{fold}
use Rattle.std.specs.List.{AllByRecursion}
use Rattle.std.proofs.lemmas.Bool.{cond_both}
use Rattle.std.proofs.lemmas.List.{take_more}
use Rattle.std.proofs.lemmas.Option.{none-some, same_Some, slice_get-get_or}
use Rattle.mv_base.specs.declared.addr.Addr.TheVariants.{V4}
use Rattle.mv_base.specs.declared.ids.IfaceId.{IfaceId}
use Rattle.scenario_defs.specs.Rules.{IsEventOf, Rises, ScriptRules}
use Rattle.scenario_defs.specs.declared.event.JoinEntry.{JoinEntry}
use Rattle.scenario_defs.specs.declared.event.JoinEntry.TheVariants as entries
use Rattle.scenario_defs.specs.declared.event.Script.{Script}
use Rattle.scenario_defs.specs.declared.event.Timed.{Timed}
use Rattle.scenario_defs.specs.declared.scenario.Scenario.{Scenario}
use Rattle.mvpn_model.specs.Past.{Past, is_accepted, expiry_by, standing, stands_after, ticks_of}
use Rattle.mvpn_model.specs.declared.standing.Standing.{Standing}
use Rattle.mvpn_model.proofs.TicksLemmas.{ticks_few}
use Rattle.network_defs.specs.Costs.{Cores}
use Rattle.network_defs.specs.Events.{Happened}
use Rattle.network_defs.specs.Run.{Traced, traced}
use Rattle.network_defs.specs.World.{World, clock_of}
use Rattle.once_laws.specs.delivery_laws.Once.{past_of}
use Rattle.once_laws.proofs.delivery_laws.Copies.{all_take}
use Rattle.once_laws.proofs.StandRuns.{entries_told}
use Rattle.network_acts.proofs.network_laws.Lists.{each_at}
use Rattle.network_events.specs.Behind.{IsBehind}
use Rattle.network_events.specs.WorldView.{WorldView}
use Rattle.network_events.proofs.BehindLemmas.{network_scenario}

-- ---- the next event

within : {X : Type 0} (xs : List X) (place : ℕ) (x : X) → slice_get xs place ≡ Some x → place < length xs
within [] place x at = absurd (none-some x at)
within (y ∷ xs) zero x at = omega arith
within (y ∷ xs) (suc place) x at = (let less = within xs place x at in omega (arith, less))

take_next : {X : Type 0} (xs : List X) (place : ℕ) (x : X) → slice_get xs place ≡ Some x → take (place + 1) xs ≡ take place xs ++ x ∷ []
take_next xs place x at =
    let less = within xs place x at in
    take_more xs place x less ∙ ap (λ y. take place xs ++ y ∷ []) (same_Some (get_or xs place x) x (sym (slice_get-get_or xs place x less) ∙ at))

length_next : {X : Type 0} (xs : List X) (place : ℕ) → place ≤ length xs → length (take place xs) ≡ place
length_next xs zero less = refl
length_next [] (suc place) less = absurd (omega (arith, less))
length_next (x ∷ xs) (suc place) less = (let rest = length_next xs place (omega (arith, less)) in omega (arith, rest))

rises_first : (number count : ℕ) (all : List Timed) → Rises number all → Rises number (take count all)
rises_first number zero all h = tt
rises_first number (suc count) [] h = tt
rises_first number (suc count) (timed ∷ more) h = (h.0, rises_first timed.line count more h.1)

-- ---- the clock

one_more : (scenario : Scenario) (refused : List ℕ) (iface : IfaceId) (entry : JoinEntry) (old : Standing) (timed : Timed)
    → IsEventOf scenario timed.event
    → (stands_after scenario refused iface entry old timed).clock ≤ old.clock + 1000000
one_more scenario refused iface entry old timed is =
    let few = ticks_few scenario timed.event is in
    cond_both (is_accepted refused timed) (record {
      clock = old.clock + ticks_of timed.event;
      expiry =
          expiry_by scenario iface entry old.clock timed.event old.expiry;
    }) old
    (λ (s : Standing). s.clock ≤ old.clock + 1000000) (λ t. omega (arith, few)) (λ f. omega arith)

ticks_by : (scenario : Scenario) (refused : List ℕ) (iface : IfaceId) (entry : JoinEntry) (all : List Timed) (old : Standing)
    → AllByRecursion (λ (timed : Timed). IsEventOf scenario timed.event) all
    → (fold (stands_after scenario refused iface entry) old all).clock ≤ old.clock + length all * 1000000
ticks_by scenario refused iface entry [] old is = omega arith
ticks_by scenario refused iface entry (timed ∷ more) old is =
    let first = one_more scenario refused iface entry old timed is.0 in
    let rest = ticks_by scenario refused iface entry more (stands_after scenario refused iface entry old timed) is.1 in
    omega (arith, first, rest)

-- The clock after events is no more than they can make it.
clock_few : (past : Past) (iface : IfaceId) (entry : JoinEntry) → AllByRecursion (λ (timed : Timed). IsEventOf past.scenario timed.event) past.events
    → (standing past iface entry).clock ≤ length past.events * 1000000
clock_few past iface entry is =
    (let all = ticks_by past.scenario past.refused iface entry past.events (record { clock = 0; expiry = None }) is in omega (arith, all))

-- ---- the next event of a script

module _ (cores : Cores) (script : Script) (rules : ScriptRules script) (count : ℕ) (trace : List Traced) (world : World) (view : WorldView)
    (thereafter : IsBehind cores script.scenario (take count script.events) trace world view) (timed : Timed)
    (at : slice_get script.events count ≡ Some timed) where
  abbrev first : List Timed
  first = take count script.events

  less : count < length script.events
  less = within script.events count timed at

  few_first : length first ≡ count
  few_first = length_next script.events count (omega (arith, less))

  own_event : IsEventOf script.scenario timed.event
  own_event = each_at (λ (t : Timed). IsEventOf script.scenario t.event) script.events count timed rules.events at

  -- it is one of the scenario
  pub next_event : IsEventOf view.network.scenario timed.event
  next_event =
      subst (λ (s : Scenario). IsEventOf s timed.event) (sym (network_scenario cores script.scenario first trace world view thereafter)) own_event

  clock_small : clock_of world ≤ length first * 1000000
  clock_small =
      let past = past_of script.scenario first trace in
      let iface : IfaceId = record { 0 = 0 } in
      let entry : JoinEntry = entries.Star (V4 []) in
      let e = entries_told cores script.scenario first trace world rules.scenario (rises_first 0 count script.events rules.lines) thereafter.run in
      subst (λ (k : ℕ). k ≤ length first * 1000000) (e.clock iface entry)
      (clock_few past iface entry (all_take (λ (t : Timed). IsEventOf script.scenario t.event) count script.events rules.events))

  -- and the clock after it is small
  pub next_clock : view.network.plane.clock + ticks_of timed.event < 9223372036854775808
  next_clock =
      let clock : clock_of world ≡ view.network.plane.clock = thereafter.stands.plane.around.clock in
      let few = rules.few in
      let ticks = ticks_few script.scenario timed.event own_event in
      omega (arith, clock, clock_small, few_first, less, few, ticks)

  -- the network that is after it too
  pub after_next : (acts : List Happened) (next : World) (now : WorldView)
      → IsBehind cores script.scenario (first ++ timed ∷ []) (trace ++ traced (length first) acts) next now
      → IsBehind cores script.scenario (take (count + 1) script.events) (trace ++ traced count acts) next now
  after_next acts next now is =
      subst (λ (l : List Timed). IsBehind cores script.scenario l (trace ++ traced count acts) next now)
      (sym (take_next script.events count timed at))
      (subst (λ (k : ℕ). IsBehind cores script.scenario (first ++ timed ∷ []) (trace ++ traced k acts) next now) few_first is)
