-- What became of each event, and which events a window may close after.
use Rattle.std.specs.Prelude.{ℕ, ◌+◌, ◌==◌, ◌&&◌, ◌||◌, Bool, true, false, List, [], ◌∷◌, if◌then◌else◌}
use Rattle.audit_defs.specs.scenario_defs.declared.event.Event.{Event}
use Rattle.audit_defs.specs.scenario_defs.declared.event.Event.TheVariants as events
use Rattle.audit_defs.specs.scenario_defs.declared.event.Timed.{Timed}
use Rattle.audit_defs.specs.Cut.{is_malformed}
use Rattle.audit_events.specs.declared.fate.Fate.{Fate}
use Rattle.audit_events.specs.declared.fate.Fate.TheVariants as fates
use Rattle.audit_events.specs.declared.fate.Marked.{Marked}

-- what became of an event without a marker
abbrev pub unmarked : Timed → Fate
unmarked timed = if is_malformed timed.event then fates.Refused else fates.Accepted

-- what became of the event of that number, by the marked events from there on
abbrev pub fate_at : ℕ → Timed → List Marked → Fate
fate_at number timed [] = unmarked timed
fate_at number timed (mark ∷ more) = if mark.place == number then mark.fate else unmarked timed

-- the marked events after the event of that number
abbrev pub left_after : ℕ → List Marked → List Marked
left_after number [] = []
left_after number (mark ∷ more) = if mark.place == number then more else mark ∷ more

-- what became of the events, which are numbered from that number on
abbrev pub fates_from : ℕ → List Timed → List Marked → List Fate
fates_from number [] marked = []
fates_from number (timed ∷ more) marked = fate_at number timed marked ∷ fates_from (number + 1) more (left_after number marked)

abbrev pub is_refused : Fate → Bool
is_refused fates.Refused = true
is_refused other = false

-- whether the state line of the event tells of no copy on a link
abbrev pub is_clear : Fate → Bool
is_clear fates.Calm = true
is_clear fates.Clear = true
is_clear other = false

abbrev pub is_calm : Fate → Bool
is_calm fates.Calm = true
is_calm other = false

-- whether the event sends, lands or drains, or asks for the state
abbrev pub is_of_window : Event → Bool
is_of_window (events.Send site source group payload) = true
is_of_window (events.Packet site bytes) = true
is_of_window (events.Hop from to place) = true
is_of_window events.Drain = true
is_of_window events.State = true
is_of_window other = false

abbrev pub is_drain : Event → Bool
is_drain events.Drain = true
is_drain other = false

-- whether a window may end with the event
abbrev pub may_end : Timed → Fate → Bool
may_end timed fate = is_drain timed.event || is_clear fate

-- whether a window goes on over the event
abbrev pub goes_on : Timed → Fate → Bool
goes_on timed fate = is_refused fate || is_of_window timed.event

-- whether a window that is open before the first of the events ends among them
abbrev pub closes : List Timed → List Fate → Bool
closes [] fates = false
closes (timed ∷ more) [] = false
closes (timed ∷ more) (fate ∷ rest) = may_end timed fate || (goes_on timed fate && closes more rest)

-- the same, from each of the events on
abbrev pub closings : List Timed → List Fate → List Bool
closings [] fates = []
closings (timed ∷ more) [] = []
closings (timed ∷ more) (fate ∷ rest) = closes (timed ∷ more) (fate ∷ rest) ∷ closings more rest

-- whether a window is open after the event, by whether one was before it
abbrev pub opens_after : Bool → Timed → Fate → Bool
opens_after before timed fate = is_calm fate || (before && goes_on timed fate)

-- whether a window is open after the events, by whether one was before them
abbrev pub opened : Bool → List Timed → List Fate → Bool
opened before [] fates = before
opened before (timed ∷ more) [] = before
opened before (timed ∷ more) (fate ∷ rest) = opened (opens_after before timed fate) more rest
