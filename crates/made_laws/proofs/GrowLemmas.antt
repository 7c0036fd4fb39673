-- The script of each number takes nothing back.
use Rattle.std.proofs.Common.{◌≡◌, ℕ, zero, suc, ◌+◌, ◌*◌, ◌%◌, ◌≤◌, ◌==◌, ◌&&◌, not, Bool, true, false, cond, List, [], ◌∷◌, ◌++◌, length, take, sum_by, count_by, refl, ap, ◌∙◌, sym, arith, suc-mul}
use Rattle.std.specs.List.{AllByRecursion}
use Rattle.std.proofs.lemmas.List.Sums.{sum_by-cons, sum_by-append, sum_by-take-drop}
use Rattle.scenario_defs.specs.declared.event.Event.{Event}
use Rattle.scenario_defs.specs.declared.event.Event.TheVariants as events
use Rattle.scenario_defs.specs.declared.event.Timed.{Timed}
use Rattle.growth_laws.proofs.network_laws.Lists.{each_append}
use Rattle.growth_laws.specs.Scripts.{OnlyAdds, ticks_of, is_selection, OnlyGrows}
use Rattle.made_laws.specs.MadeScript.{each, all, join, send, selection, source_edge, first_events, last_events, made_events, from_line, made_script}
use Rattle.made_laws.proofs.HomeLemmas.{made_home, labels_are, vrfs_long}

-- The events take nothing back, last so many ticks, and no more of them are selections.
record Adds (time most : ℕ) (row : List Event) : Type 0 where
  adds : AllByRecursion OnlyAdds row
  ticks : sum_by ticks_of row ≡ time
  selections : count_by is_selection row ≤ most

-- ---- rows of events

-- an event, or none
one_adds : (b : Bool) (event : Event) (most : ℕ) → OnlyAdds event → ticks_of event ≡ 0 → cond (is_selection event) 1 0 ≤ most
    → Adds 0 most (cond b (event ∷ []) [])
one_adds true event most h time few = record { adds = (h, tt); ticks = omega (arith, time); selections = omega (arith, few) }
one_adds false event most h time few = record { adds = tt; ticks = refl; selections = omega arith }

-- some events before others
then_adds : (time most later more : ℕ) (row rest : List Event) → Adds time most row → Adds later more rest
    → Adds (time + later) (most + more) (row ++ rest)
then_adds time most later more row rest a b = record {
  adds = each_append OnlyAdds row rest a.adds b.adds;
  ticks = omega (arith, a.ticks, b.ticks, sum_by-append ticks_of row rest);
  selections = omega (arith, a.selections, b.selections, sum_by-append (λ (event : Event). cond (is_selection event) 1 0) row rest);
}

-- those of each number, which take no time
each_adds : (of : ℕ → List Event) (most : ℕ) → ((number : ℕ) → Adds 0 most (of number)) → (count : ℕ) → Adds 0 (count * most) (each of count)
each_adds of most h zero = record { adds = tt; ticks = refl; selections = omega arith }
each_adds of most h (suc count) =
    let both = then_adds 0 (count * most) 0 most (each of count) (of (suc count)) (each_adds of most h count) (h (suc count)) in
    record { adds = both.adds; ticks = both.ticks; selections = omega (arith, both.selections, suc-mul count most) }

-- ---- the events of a number

join_adds : (number vpn edge : ℕ) → Adds 0 0 (join number vpn edge)
join_adds number vpn edge = one_adds (not (edge == source_edge number vpn) && (edge + vpn + number) % 4 == 0) _ 0 tt refl (omega arith)

selection_adds : (number vpn : ℕ) → Adds 0 1 (selection number vpn)
selection_adds number vpn = one_adds (vpn % 2 == 1) _ 1 refl refl (omega arith)

-- of every second VPN
selections_add : (number : ℕ) → Adds 0 4 (each (selection number) 8)
selections_add number =
    let all = each_adds (selection number) 1 (selection_adds number) 8 in
    let four : count_by is_selection (each (selection number) 8) ≡ 4 = refl in
    record { adds = all.adds; ticks = all.ticks; selections = omega (arith, four) }

sends_add : (number octet : ℕ) → Adds 0 0 (all (send number octet) 8)
sends_add number octet = each_adds (λ vpn. send number octet vpn ∷ []) 0 (λ vpn. one_adds true (send number octet vpn) 0 tt refl (omega arith)) 8

first_add : (number : ℕ) → Adds 3 0 (first_events number)
first_add number =
    let raise : List Event = events.Heal ∷ events.Settle ∷ events.Tick 3 ∷ events.Settle ∷ [] in
    let joins : List Event = each (λ vpn. each (join number vpn) 32) 8 in
    let state : List Event = events.Settle ∷ events.State ∷ [] in
    let sends : List Event = all (send number 1) 8 in
    let drain : List Event = events.Drain ∷ [] in
    let raised : Adds 3 0 raise = record { adds = (tt, (tt, (tt, (tt, tt)))); ticks = refl; selections = omega arith } in
    let joined : Adds 0 0 joins = each_adds (λ vpn. each (join number vpn) 32) 0 (λ vpn. each_adds (join number vpn) 0 (join_adds number vpn) 32) 8 in
    let stated : Adds 0 0 state = record { adds = (tt, (tt, tt)); ticks = refl; selections = omega arith } in
    let drained : Adds 0 0 drain = record { adds = (tt, tt); ticks = refl; selections = omega arith } in
    then_adds 3 0 0 0 (raise ++ joins ++ state ++ sends) drain
    (then_adds 3 0 0 0 (raise ++ joins ++ state) sends
    (then_adds 3 0 0 0 (raise ++ joins) state (then_adds 3 0 0 0 raise joins raised joined) stated) (sends_add number 1)) drained

last_add : (number : ℕ) → Adds 3 4 (last_events number)
last_add number =
    let picks : List Event = each (selection number) 8 in
    let state : List Event = events.Settle ∷ events.State ∷ [] in
    let sends : List Event = all (send number 2) 8 in
    let wait : List Event = events.Drain ∷ events.Tick 3 ∷ events.Settle ∷ events.State ∷ [] in
    let more : List Event = all (send number 3) 8 in
    let drain : List Event = events.Drain ∷ events.State ∷ [] in
    let picked : Adds 0 4 picks = selections_add number in
    let stated : Adds 0 0 state = record { adds = (tt, (tt, tt)); ticks = refl; selections = omega arith } in
    let waited : Adds 3 0 wait = record { adds = (tt, (tt, (tt, (tt, tt)))); ticks = refl; selections = omega arith } in
    let drained : Adds 0 0 drain = record { adds = (tt, (tt, tt)); ticks = refl; selections = omega arith } in
    then_adds 3 4 0 0 (picks ++ state ++ sends ++ wait ++ more) drain
    (then_adds 3 4 0 0 (picks ++ state ++ sends ++ wait) more
    (then_adds 0 4 3 0 (picks ++ state ++ sends) wait
    (then_adds 0 4 0 0 (picks ++ state) sends (then_adds 0 4 0 0 picks state picked stated) (sends_add number 2)) waited)
    (sends_add number 3)) drained

events_add : (number : ℕ) → Adds 6 4 (made_events number)
unfolding made_events
events_add number = then_adds 3 0 3 4 (first_events number) (last_events number) (first_add number) (last_add number)

-- ---- with the numbers of their lines

pub lines_have : (P : Event → Type 0) (line : ℕ) (row : List Event) → AllByRecursion P row
    → AllByRecursion (λ (timed : Timed). P timed.event) (from_line line row)
lines_have P line [] h = tt
lines_have P line (event ∷ row) h = (h.0, lines_have P (line + 1) row h.1)

lines_sum : (f : Event → ℕ) (line : ℕ) (row : List Event) → sum_by (λ (timed : Timed). f timed.event) (from_line line row) ≡ sum_by f row
lines_sum f line [] = refl
lines_sum f line (event ∷ row) =
    sum_by-cons (λ (timed : Timed). f timed.event) (record { line = line; event = event }) (from_line (line + 1) row)
    ∙ ap (λ (n : ℕ). f event + n) (lines_sum f (line + 1) row) ∙ sym (sum_by-cons f event row)

-- ---- the script

pub made_grows : (number : ℕ) → OnlyGrows (made_script number)
unfolding made_script
made_grows number =
    let row : List Event = made_events number in
    let adds = events_add number in
    let time = lines_sum ticks_of 866 row in
    let selected = lines_sum (λ (event : Event). cond (is_selection event) 1 0) 866 row in
    record {
      adds = lines_have OnlyAdds 866 row adds.adds;
      short = omega (arith, time, adds.ticks);
      home = made_home;
      labels = omega (arith, selected, adds.selections, vrfs_long, labels_are);
    }

-- as many of first events are selections as of all at most, which are four
pub few_selections : (number count : ℕ) → count_by (λ (timed : Timed). is_selection timed.event) (take count (made_script number).events) ≤ 4
unfolding made_script
few_selections number count =
    let adds = events_add number in
    let passes : Timed → ℕ = λ timed. cond (is_selection timed.event) 1 0 in
    let parts = sum_by-take-drop passes (from_line 866 (made_events number)) count in
    let all = lines_sum (λ (event : Event). cond (is_selection event) 1 0) 866 (made_events number) in
    omega (arith, parts, all, adds.selections)

-- so a node holds few labels, where it holds no more than there are VRFs and selections
pub few_labels : (number count held : ℕ) → held ≤ length (made_script number).scenario.vrfs + count_by (λ (timed : Timed). is_selection timed.event)
    (take count (made_script number).events) → held ≤ 260
unfolding made_script
few_labels number count held fits = omega (arith, fits, few_selections number count, vrfs_long)
