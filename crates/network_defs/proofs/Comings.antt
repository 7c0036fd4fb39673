-- What comes of each event of the worked row.
use Rattle.std.proofs.Common.{◌≡◌, ℕ, ◌||◌, true, false, not, List, [], ◌∷◌, ◌++◌, Some, None, Ok, Err, ap, ◌∙◌}
use Rattle.mv_base.specs.declared.ids.NodeId.{NodeId}
use Rattle.scenario_defs.specs.declared.event.Event.TheVariants as events
use Rattle.scenario_defs.specs.declared.event.Kind.TheVariants as kinds
use Rattle.scenario_defs.specs.declared.event.Timed.{Timed}
use Rattle.scenario_defs.specs.declared.report.Refusal.{Refusal}
use Rattle.scenario_defs.specs.declared.report.Refusal.TheVariants as refusals
use Rattle.scenario_defs.specs.declared.report.ReportLine.TheVariants as lines
use Rattle.network_defs.specs.Acts.{Act, Tick, Timers, Lose, Notice, RaiseFirst, RaiseSecond, Tell, is_of_session}
use Rattle.network_defs.specs.Counts.{direction}
use Rattle.network_defs.specs.Events.{Happened, Outcome, Done, Halted, one_act, and_then, row, done}
use Rattle.network_defs.specs.Example.{core_node, network, cores, at}
use Rattle.network_defs.specs.Refusals.{refusal, refused_if}
use Rattle.network_defs.specs.Run.{outcome}
use Rattle.network_defs.proofs.Small.{Small, end_up, holds_up, end_down, later, joined_but, first_up, Does, ticks, runs_timers, loses, takes_notice, raises_first, raises_second}
use Rattle.network_defs.proofs.Readings.{world, has_end, up_is, line_of, line_is}

-- ---- acts and rows

abbrev pub quiet : Act → Happened
quiet what = record { act = Some what; lines = [] }

one_done : (what : Act) (old new : Small) → Does network cores what old new → one_act (world old) what ≡ Done (quiet what ∷ []) (world new)
one_done what old new does =
    λ i. elim (does i) [ Ok acted ↦ Done (record { act = Some what; lines = acted.lines } ∷ []) acted.world | Err node ↦ Halted [] node ]

row_one : (what : Act) (old new : Small) → Does network cores what old new → row (what ∷ []) (world old) ≡ Done (quiet what ∷ []) (world new)
row_one what old new does = λ i. and_then (one_done what old new does i) (row [])

abbrev thereafter : List Happened → Outcome → Outcome
thereafter before rest = elim rest [ Done more new ↦ Done (before ++ more) new | Halted more node ↦ Halted (before ++ more) node ]

row_two : (first second : Act) (old between new : Small) → Does network cores first old between → Does network cores second between new
    → row (first ∷ second ∷ []) (world old) ≡ Done (quiet first ∷ quiet second ∷ []) (world new)
row_two first second old between new does does_more =
    (λ i. and_then (one_done first old between does i) (row (second ∷ []))) ∙ ap (thereafter (quiet first ∷ [])) (row_one second between new does_more)

-- ---- events

abbrev pub Comes : Small → Timed → List Happened → Small → Type 0
Comes old timed acts new = outcome (world old) timed ≡ Done acts (world new)

pub tells : (line : ℕ) (small : Small) → Comes small (at line events.State) (record { act = Some Tell; lines = line_of small ∷ [] } ∷ []) small
tells line small = λ i. Done (record { act = Some Tell; lines = line_is small i ∷ [] } ∷ []) (world small)

accepted : (small : Small) (timed : Timed) → refusal (world small) timed.event ≡ None → outcome (world small) timed ≡ done (world small) timed.event
accepted small timed none =
    λ i. elim (none i) [
      | None ↦ done (world small) timed.event
      | Some reason ↦
          Done (record { act = None; lines = lines.Refused timed.line reason ∷ [] } ∷ []) (world small)
    ]

refuses : (small : Small) (timed : Timed) (reason : Refusal) → refusal (world small) timed.event ≡ Some reason
    → Comes small timed (record { act = None; lines = lines.Refused timed.line reason ∷ [] } ∷ []) small
refuses small timed reason some =
    λ i. elim (some i) [
      | None ↦ done (world small) timed.event
      | Some why ↦
          Done (record { act = None; lines = lines.Refused timed.line why ∷ [] } ∷ []) (world small)
    ]

pub waits : (line count : ℕ) (old : Small) → Comes old (at line (events.Tick count)) (quiet (Tick count) ∷ []) (later count old)
waits line count old = row_one (Tick count) old (later count old) (ticks network cores count old)

pub timers : (line : ℕ) (n : NodeId) (old : Small) → Comes old (at line (events.Timers n)) (quiet (Timers n) ∷ []) (holds_up 2 n old)
timers line n old = row_one (Timers n) old (holds_up 2 n old) (runs_timers network cores n old)

abbrev pub lost_between : NodeId → NodeId → Small → Small
lost_between a b small = joined_but (is_of_session kinds.Ldp a b) small

pub is_lost : (line : ℕ) (a b : NodeId) (old : Small) → old.joined (direction kinds.Ldp a b) ≡ true
    → Comes old (at line (events.Lose kinds.Ldp a b)) (quiet (Lose kinds.Ldp a b) ∷ []) (lost_between a b old)
is_lost line a b old joined =
    accepted old (at line (events.Lose kinds.Ldp a b)) (λ i. refused_if (not (joined i)) refusals.State)
    ∙ row_one (Lose kinds.Ldp a b) old (lost_between a b old) (loses network cores a b old)

pub is_noticed : (line : ℕ) (a b : NodeId) (old : Small) → old.joined (direction kinds.Ldp a b) ≡ false → has_end old a b ≡ true
    → Comes old (at line (events.Notice kinds.Ldp a b)) (quiet (Notice kinds.Ldp a b) ∷ []) (end_down a b old)
is_noticed line a b old joined up =
    accepted old (at line (events.Notice kinds.Ldp a b)) (λ i. refused_if (joined i || not ((up_is old a b ∙ up) i)) refusals.State)
    ∙ row_one (Notice kinds.Ldp a b) old (end_down a b old) (takes_notice network cores a b old)

-- of an edge and the core node
abbrev pub both_up : NodeId → Small → Small
both_up a small = end_up core_node a (first_up a core_node small)

pub is_raised : (line : ℕ) (a : NodeId) (old : Small)
    → done (world old) (events.Raise kinds.Ldp a core_node)
    ≡ row (RaiseFirst kinds.Ldp a core_node ∷ RaiseSecond kinds.Ldp a core_node ∷ []) (world old) → has_end old a core_node ≡ false
    → has_end old core_node a ≡ false
    → Comes old (at line (events.Raise kinds.Ldp a core_node))
    (quiet (RaiseFirst kinds.Ldp a core_node) ∷ quiet (RaiseSecond kinds.Ldp a core_node) ∷ []) (both_up a old)
is_raised line a old acts down other_down =
    accepted old (at line (events.Raise kinds.Ldp a core_node))
    (λ i. refused_if ((up_is old a core_node ∙ down) i || (up_is old core_node a ∙ other_down) i) refusals.State)
    ∙ acts
    ∙ row_two (RaiseFirst kinds.Ldp a core_node) (RaiseSecond kinds.Ldp a core_node) old (first_up a core_node old) (both_up a old)
    (raises_first network cores a core_node old) (raises_second network cores a core_node (first_up a core_node old))

pub is_refused : (line : ℕ) (a : NodeId) (old : Small) → (has_end old a core_node || has_end old core_node a) ≡ true
    → Comes old (at line (events.Raise kinds.Ldp a core_node)) (record { act = None; lines = lines.Refused line refusals.State ∷ [] } ∷ []) old
is_refused line a old up =
    refuses old (at line (events.Raise kinds.Ldp a core_node)) refusals.State
    ((λ i. refused_if (up_is old a core_node i || up_is old core_node a i) refusals.State) ∙ ap (λ b. refused_if b refusals.State) up)
