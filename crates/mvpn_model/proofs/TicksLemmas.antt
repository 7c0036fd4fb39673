-- The clock of a script stays small.
use Rattle.std.proofs.Common.{ℕ, ◌*◌, ◌<◌, ◌≤◌, ◌^◌, List, [], ◌∷◌, length, take, zero, suc, arith}
use Rattle.std.specs.List.{AllByRecursion}
use Rattle.scenario_defs.specs.declared.scenario.Scenario.{Scenario}
use Rattle.scenario_defs.specs.declared.event.Event.{Event}
use Rattle.scenario_defs.specs.declared.event.Event.TheVariants as events
use Rattle.scenario_defs.specs.declared.event.Timed.{Timed}
use Rattle.scenario_defs.specs.declared.event.Script.{Script}
use Rattle.scenario_defs.specs.Rules.{ScriptRules, IsEventOf}
use Rattle.mvpn_model.specs.Past.{ticks_of, ticks_in}

-- An event moves the clock by a million at most.
pub ticks_few : (scenario : Scenario) (event : Event) → IsEventOf scenario event → ticks_of event ≤ 1000000
ticks_few scenario (events.Tick count) h = h.1
ticks_few scenario other h = omega arith

ticks_take : (scenario : Scenario) (n : ℕ) (list : List Timed) → AllByRecursion (λ timed. IsEventOf scenario timed.event) list
    → ticks_in (take n list) ≤ 1000000 * length list
ticks_take scenario zero list h = omega arith
ticks_take scenario (suc n) [] h = omega arith
ticks_take scenario (suc n) (timed ∷ more) h = omega (arith, ticks_few scenario timed.event h.0, ticks_take scenario n more h.1)

-- The clock after the first events of a script.
pub clock_small : (script : Script) (n : ℕ) → ScriptRules script → ticks_in (take n script.events) < 2 ^ 63
clock_small script n rules = omega (arith, ticks_take script.scenario n script.events rules.events, rules.few)
