-- After a run the sessions of the network stand as the events tell.
use Rattle.std.specs.Prelude.{if◌then◌else◌}
use Rattle.std.proofs.Common.{◌≡◌, ℕ, ◌+◌, ◌<◌, ◌≤◌, ◌==◌, Bool, true, false, not, ◌||◌, ◌++◌, map, List, [], ◌∷◌, Option, Some, None, refl, sym, ap, subst, ◌∙◌, append_assoc, arith}
use Rattle.std.specs.List.{fold, filter, flat_map, list_any}
use Rattle.std.proofs.lemmas.Bool.{ne_eqb, eq-eqb, or_from}
use Rattle.std.proofs.lemmas.List.Concat.{flat_map-append}
use Rattle.std.proofs.lemmas.List.Folds.{list_any-append}
use Rattle.scenario_defs.specs.Rules.{Rises}
use Rattle.scenario_defs.specs.declared.event.Event.{Event}
use Rattle.scenario_defs.specs.declared.event.Timed.{Timed}
use Rattle.scenario_defs.specs.declared.report.Refusal.{Refusal}
use Rattle.scenario_defs.specs.declared.report.ReportLine.TheVariants as lines
use Rattle.scenario_defs.specs.declared.scenario.Scenario.{Scenario}
use Rattle.network_defs.specs.mvpn_model.Past.{is_accepted}
use Rattle.network_defs.specs.mvpn_model.Report.{lines_of, refused_line, refused_lines}
use Rattle.network_defs.specs.Events.{Happened, Done, done}
use Rattle.network_defs.specs.Refusals.{refusal}
use Rattle.network_defs.specs.Run.{Traced, outcome, traced, report_of, Runs}
use Rattle.network_defs.specs.mvpn_model.Unready.{SessionsStand, thereafter}
use Rattle.network_defs.specs.World.{World}
use Rattle.network_laws.proofs.ready_laws.ActsStand.{refused_in}
use Rattle.network_laws.proofs.ready_laws.Outcomes.{Comes, lines_in}
use Rattle.network_laws.proofs.ready_laws.TimersAlike.{HasNodes}
use Rattle.network_laws.proofs.ready_laws.EventsStand.{Tells}
use Rattle.network_laws.proofs.ready_laws.EventsTell.{event_tells}

-- ---- one event

-- the line of an event, if it is refused
abbrev line_if : Bool → ℕ → List ℕ
line_if refused line = if refused then line ∷ [] else []

-- What comes of an event: it is refused, which its line says and nothing changes; or no line refuses an event.
record Turned (scenario : Scenario) (told : SessionsStand) (timed : Timed) (acts : List Happened) (next : World) : Type 0 where
  refused : Bool
  lines : refused_in (lines_in acts) ≡ line_if refused timed.line
  tells : Tells scenario (if refused then told else thereafter scenario told timed.event) next

events_of : (scenario : Scenario) → HasNodes scenario → (told : SessionsStand) (world : World) → Tells scenario told world → (event : Event)
    → Comes (Tells scenario (thereafter scenario told event)) (done world event)
events_of scenario has told world t event =
    subst (λ (x : Scenario). HasNodes x → Tells x told world → Comes (Tells x (thereafter x told event)) (done world event)) t.stands.nodes.place
    (λ own tells. event_tells told world own tells event) has t

done_turned : (scenario : Scenario) (told : SessionsStand) (timed : Timed) (acts : List Happened) (next : World)
    → Comes (Tells scenario (thereafter scenario told timed.event)) (Done acts next) → Turned scenario told timed acts next
done_turned scenario told timed acts next c = record { refused = false; lines = c.0; tells = c.1 }

turned : (scenario : Scenario) → HasNodes scenario → (told : SessionsStand) (old : World) → Tells scenario told old
    → (timed : Timed) (acts : List Happened) (next : World) → outcome old timed ≡ Done acts next → Turned scenario told timed acts next
turned scenario has told old t timed acts next e = by (refusal old timed.event) e
  where
    by : (o : Option Refusal) → (elim o [
      | None ↦ done old timed.event
      | Some reason ↦
          Done (record { act = None; lines = lines.Refused timed.line reason ∷ [] } ∷ []) old
    ]) ≡ Done acts next → Turned scenario told timed acts next
    by None is =
        done_turned scenario told timed acts next (subst (Comes (Tells scenario (thereafter scenario told timed.event))) is
        (events_of scenario has told old t timed.event))
    by (Some reason) is =
        let first : List Happened = record { act = None; lines = lines.Refused timed.line reason ∷ [] } ∷ [] in
        let same : first ≡ acts = cc in
        let world : old ≡ next = cc in
        record {
          refused = true;
          lines = ap (λ (all : List Happened). refused_in (lines_in all)) (sym same);
          tells =
              subst (Tells scenario told) world t;
        }

-- ---- the lines that a run refuses

pub first_lines : (number : ℕ) (acts : List Happened) (rest : List Traced)
    → lines_of (report_of (traced number acts ++ rest)) ≡ lines_in acts ++ lines_of (report_of rest)
first_lines number [] rest = refl
first_lines number (happened ∷ more) rest =
    ap (λ l. happened.lines ++ l) (first_lines number more rest) ∙ sym (append_assoc happened.lines (lines_in more) (lines_of (report_of rest)))

refused_first : (number : ℕ) (acts : List Happened) (rest : List Traced) (own : List ℕ) → refused_in (lines_in acts) ≡ own
    → refused_lines (report_of (traced number acts ++ rest)) ≡ own ++ refused_lines (report_of rest)
refused_first number acts rest own e =
    ap (flat_map refused_line) (first_lines number acts rest) ∙ flat_map-append refused_line (lines_in acts) (lines_of (report_of rest))
    ∙ ap (λ l. l ++ refused_lines (report_of rest)) e

-- whether the line is one of those
abbrev is_among : List ℕ → ℕ → Bool
is_among refused line = list_any (λ l. l == line) refused

own_other : (b : Bool) (own line : ℕ) → (own ≡ line → ⊥) → is_among (line_if b own) line ≡ false
own_other true own line h = or_from (own == line) false (ne_eqb own line h) refl
own_other false own line h = refl

own_itself : (b : Bool) (own : ℕ) → is_among (line_if b own) own ≡ b
own_itself true own = rw (eq-eqb own own refl) refl
own_itself false own = refl

-- No line up to that number is refused by later events.
refused_above : (scenario : Scenario) → HasNodes scenario
    → (events : List Timed) (old : World) (number : ℕ) (trace : List Traced) (new : World) (told : SessionsStand) (above line : ℕ)
    → Rises above events → line ≤ above → Tells scenario told old → Runs old number events trace new
    → is_among (refused_lines (report_of trace)) line ≡ false
refused_above scenario has [] old number trace new told above line h le t run =
    ap (λ (all : List Traced). is_among (refused_lines (report_of all)) line) run.0
refused_above scenario has (timed ∷ more) old number trace new told above line h le t run =
    let x = turned scenario has told old t timed run.0 run.1 run.3 in
    let own = line_if x.refused timed.line in
    ap (λ (all : List Traced). is_among (refused_lines (report_of all)) line) run.4
    ∙ ap (λ l. is_among l line) (refused_first number run.0 run.2 own x.lines)
    ∙ list_any-append (λ l. l == line) own (refused_lines (report_of run.2))
    ∙ or_from (is_among own line) (is_among (refused_lines (report_of run.2)) line)
    (own_other x.refused timed.line line (λ e. (let lt = h.0 in omega (arith, e, le, lt))))
    (refused_above scenario has more run.1 (number + 1) run.2 new _ timed.line line h.1 (let lt = h.0 in omega (arith, le, lt)) x.tells run.5)

-- a test of any of three of which only the second can be true
pub any_middle : (a b c r : Bool) → a ≡ false → b ≡ r → c ≡ false → (a || (b || c)) ≡ r
any_middle a b c true d e f = rw (d, e) refl
any_middle a b c false d e f = rw (d, e, f) refl

-- ---- runs

one_more : (scenario : Scenario) (told : SessionsStand) (timed : Timed) (more : List Timed) (accepted refused : Bool) → accepted ≡ not refused
    → fold (thereafter scenario) told (map (λ (x : Timed). x.event) (if accepted then timed ∷ more else more))
    ≡ fold (thereafter scenario) (if refused then told else thereafter scenario told timed.event) (map (λ (x : Timed). x.event) more)
one_more scenario told timed more true false e = refl
one_more scenario told timed more false true e = refl
one_more scenario told timed more true true e = absurd cc
one_more scenario told timed more false false e = absurd cc

-- Where earlier events refused the front of the lines, the sessions stand after the later ones as those tell.
pub runs_tell : (scenario : Scenario) → HasNodes scenario
    → (events : List Timed) (old : World) (number : ℕ) (trace : List Traced) (new : World) (told : SessionsStand) (above : ℕ) (front refused : List ℕ)
    → Rises above events
    → ((line : ℕ) → above < line → is_among front line ≡ false) → refused ≡ front ++ refused_lines (report_of trace) → Tells scenario told old
    → Runs old number events trace new
    → Tells scenario (fold (thereafter scenario) told (map (λ (timed : Timed). timed.event) (filter (is_accepted refused) events))) new
runs_tell scenario has [] old number trace new told above front refused h k e t run = subst (Tells scenario told) (sym run.1) t
runs_tell scenario has (timed ∷ more) old number trace new told above front refused h k e t run =
    let x = turned scenario has told old t timed run.0 run.1 run.3 in
    let own = line_if x.refused timed.line in
    let rest = refused_lines (report_of run.2) in
    let all : refused ≡ front ++ (own ++ rest) =
    e ∙ ap (λ (steps : List Traced). front ++ refused_lines (report_of steps)) run.4
    ∙ ap (λ l. front ++ l) (refused_first number run.0 run.2 own x.lines) in
    let here : is_among refused timed.line ≡ x.refused =
    ap (λ l. is_among l timed.line) all
    ∙ list_any-append (λ l. l == timed.line) front (own ++ rest)
    ∙ ap (λ b. is_among front timed.line || b) (list_any-append (λ l. l == timed.line) own rest)
    ∙ any_middle (is_among front timed.line) (is_among own timed.line) (is_among rest timed.line) x.refused (k timed.line h.0)
    (own_itself x.refused timed.line)
    (refused_above scenario has more run.1 (number + 1) run.2 new _ timed.line timed.line h.1 (omega arith) x.tells run.5) in
    let before : (line : ℕ) → timed.line < line → is_among (front ++ own) line ≡ false = λ line lt.
    list_any-append (λ l. l == line) front own
    ∙ or_from (is_among front line) (is_among own line) (k line (let low = h.0 in omega (arith, lt, low)))
    (own_other x.refused timed.line line (λ q. omega (arith, q, lt))) in
    subst (λ (standing : SessionsStand). Tells scenario standing new)
    (sym (one_more scenario told timed (filter (is_accepted refused) more) (is_accepted refused timed) x.refused (ap not here)))
    (runs_tell scenario has more run.1 (number + 1) run.2 new _ timed.line (front ++ own) refused h.1 before (all ∙ sym (append_assoc front own rest))
    x.tells run.5)
