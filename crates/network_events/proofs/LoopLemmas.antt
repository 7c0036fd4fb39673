-- Loops over nodes, turns and rounds, in which nothing is under way between two of them.
use Rattle.std.proofs.Common.{◌≡◌, ◌∙◌, sym, ap, arith, inl, inr, ℕ, zero, suc, ◌+◌, ◌-◌, ◌<◌, List, [], ◌∷◌, length, map, take, drop, get_or, Result, Ok, Err}
use Rattle.std.proofs.lemmas.List.{take-append-drop, take_more}
use Rattle.mv_base.specs.Lists.{Among}
use Rattle.mv_base.specs.declared.ids.NodeId.{NodeId}
use Rattle.scenario_defs.specs.declared.report.ReportLine.{ReportLine}
use Rattle.network_defs.specs.Acts.{Act}
use Rattle.network_defs.specs.Counts.{node_ids}
use Rattle.network_defs.specs.Events.{Outcome, Done, each, row, times}
use Rattle.network_defs.specs.World.{World}
use Rattle.network_acts.specs.Instant.{Instant, IsWorld}
use Rattle.network_acts.specs.NetworkView.{NetworkView}
use Rattle.network_acts.specs.Words.{same_moment}
use Rattle.network_events.specs.Doing.{Does}
use Rattle.network_events.specs.Meeting.{IsResting}
use Rattle.network_events.specs.declared.halt.Halt.{Halt}
use Rattle.network_events.proofs.KeptLemmas.{KeepsEven, each_even, rests_on, row_even, times_even}
use Rattle.network_events.proofs.RowLemmas.{does_more, each_append, each_more, halts_early, nodes_append, nodes_more, rest_idle, times_append, times_idle, times_more}

-- ---- acts of all nodes

module _ (one : NodeId → Act) (count : ℕ) (old mid : NetworkView) (lines mid_lines : List ReportLine)
    (done : Does IsResting same_moment (row (map one (node_ids 0 count))) old mid lines mid_lines (Ok tt)) (new : NetworkView)
    (new_lines : List ReportLine) where
  abbrev first_nodes : ℕ → World → Outcome
  first_nodes n = row (map one (node_ids 0 n))

  next_node : (result : Result (Unit {0}) Halt)
      → Does IsResting same_moment (row (one (record { 0 = count }) ∷ [])) mid new mid_lines new_lines result
      → Does IsResting same_moment (first_nodes (count + 1)) old new lines new_lines result
  next_node result turn =
      does_more IsResting IsResting (first_nodes count) (row (one (record { 0 = count }) ∷ [])) (first_nodes (count + 1)) old mid lines mid_lines
      (nodes_more one count) new new_lines result done
      (rests_on (first_nodes count) (row_even (map one (node_ids 0 count))) old mid lines mid_lines (row (one (record { 0 = count }) ∷ [])) new
      new_lines) turn

  pub node_more : Does IsResting same_moment (row (one (record { 0 = count }) ∷ [])) mid new mid_lines new_lines (Ok tt)
      → Does IsResting same_moment (row (map one (node_ids 0 (count + 1)))) old new lines new_lines (Ok tt)
  node_more turn = next_node (Ok tt) turn

  pub node_stops : (nodes : ℕ) → count < nodes → (halt : Halt)
      → Does IsResting same_moment (row (one (record { 0 = count }) ∷ [])) mid new mid_lines new_lines (Err halt)
      → Does IsResting same_moment (row (map one (node_ids 0 nodes))) old new lines new_lines (Err halt)
  node_stops nodes below halt turn =
      let more = nodes - (count + 1) in
      let split : count + 1 + more ≡ nodes = omega (arith, below) in
      halts_early IsResting IsResting (first_nodes (count + 1)) (row (map one (node_ids (0 + (count + 1)) more))) (first_nodes nodes) old new lines
      new_lines
      (λ world. ap (λ n. first_nodes n world) (sym split) ∙ nodes_append one (count + 1) more world) halt (next_node (Err halt) turn)

-- ---- turns

module _ {A : Type 0} (turn : A → World → Outcome) (keeps : (x : A) → KeepsEven (turn x)) (all : List A) (place : ℕ) (d : A)
    (below : place < length all) (old mid : NetworkView) (lines mid_lines : List ReportLine)
    (done : Does IsResting same_moment (each turn (take place all)) old mid lines mid_lines (Ok tt)) (new : NetworkView) (new_lines : List ReportLine)
  where
    next_turn : (result : Result (Unit {0}) Halt) → Does IsResting same_moment (turn (get_or all place d)) mid new mid_lines new_lines result
        → Does IsResting same_moment (each turn (take (place + 1) all)) old new lines new_lines result
    next_turn result one =
        does_more IsResting IsResting (each turn (take place all)) (turn (get_or all place d)) (each turn (take (place + 1) all)) old mid lines
        mid_lines
        (λ world. ap (λ (l : List A). each turn l world) (take_more all place d below) ∙ each_more turn (take place all) (get_or all place d) world) new
        new_lines result done
        (rests_on (each turn (take place all)) (each_even turn keeps (take place all)) old mid lines mid_lines (turn (get_or all place d)) new
        new_lines) one

    pub turn_more : Does IsResting same_moment (turn (get_or all place d)) mid new mid_lines new_lines (Ok tt)
        → Does IsResting same_moment (each turn (take (place + 1) all)) old new lines new_lines (Ok tt)
    turn_more one = next_turn (Ok tt) one

    pub turn_stops : (halt : Halt) → Does IsResting same_moment (turn (get_or all place d)) mid new mid_lines new_lines (Err halt)
        → Does IsResting same_moment (each turn all) old new lines new_lines (Err halt)
    turn_stops halt one =
        halts_early IsResting IsResting (each turn (take (place + 1) all)) (each turn (drop (place + 1) all)) (each turn all) old new lines new_lines
        (λ world. ap (λ (l : List A). each turn l world) (sym (take-append-drop (place + 1) all))
        ∙ each_append turn (take (place + 1) all) (drop (place + 1) all) world) halt (next_turn (Err halt) one)

-- ---- rounds

module _ (round : World → Outcome) (keeps : KeepsEven round) (count : ℕ) (old mid : NetworkView) (lines mid_lines : List ReportLine)
    (done : Does IsResting same_moment (times round count) old mid lines mid_lines (Ok tt)) where
  next_round : (new : NetworkView) (new_lines : List ReportLine) (result : Result (Unit {0}) Halt)
      → Does IsResting same_moment round mid new mid_lines new_lines result
      → Does IsResting same_moment (times round (count + 1)) old new lines new_lines result
  next_round new new_lines result one =
      does_more IsResting IsResting (times round count) round (times round (count + 1)) old mid lines mid_lines (times_more round count) new new_lines
      result done
      (rests_on (times round count) (times_even round keeps count) old mid lines mid_lines round new new_lines) one

  pub round_more : (new : NetworkView) (new_lines : List ReportLine) → Does IsResting same_moment round mid new mid_lines new_lines (Ok tt)
      → Does IsResting same_moment (times round (count + 1)) old new lines new_lines (Ok tt)
  round_more new new_lines one = next_round new new_lines (Ok tt) one

  module _ (rounds : ℕ) (below : count < rounds) where
    abbrev left : ℕ
    left = rounds - (count + 1)

    pub round_stops : (new : NetworkView) (new_lines : List ReportLine) (halt : Halt)
        → Does IsResting same_moment round mid new mid_lines new_lines (Err halt)
        → Does IsResting same_moment (times round rounds) old new lines new_lines (Err halt)
    round_stops new new_lines halt one =
        let split : count + 1 + (rounds - (count + 1)) ≡ rounds = omega (arith, below) in
        halts_early IsResting IsResting (times round (count + 1)) (times round left) (times round rounds) old new lines new_lines
        (λ world. ap (λ n. times round n world) (sym split) ∙ times_append round (count + 1) left world) halt
        (next_round new new_lines (Err halt) one)

    -- Once a round has nothing to do, no later one has.
    pub rounds_end : ((at : Instant) → IsWorld at mid → round at.world ≡ Done [] at.world)
        → Does IsResting same_moment (times round rounds) old mid lines mid_lines (Ok tt)
    rounds_end idle =
        let split : count + (rounds - count) ≡ rounds = omega (arith, below) in
        rest_idle IsResting IsResting (times round count) (times round (rounds - count)) (times round rounds) old mid lines mid_lines
        (λ world. ap (λ n. times round n world) (sym split) ∙ times_append round count (rounds - count) world) done
        (λ at resting is world happened e stands. times_idle round (rounds - count) world
        (idle (record { cores = at.cores; moment = at.moment; world = world }) stands))

-- ---- what stands at a place

pub among_place : {X : Type 0} (xs : List X) (place : ℕ) (x d : X) → place < length xs → x ≡ get_or xs place d → Among x xs
among_place [] place x d below same = absurd (omega (arith, below))
among_place (y ∷ xs) zero x d below same = inl same
among_place (y ∷ xs) (suc place) x d below same = inr (among_place xs place x d (omega (arith, below)) same)
