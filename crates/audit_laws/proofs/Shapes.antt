-- A report of a run, event by event: what its markers and its other lines are.
use Rattle.std.specs.Prelude.{◌&&◌, filter, is_some}
use Rattle.std.proofs.Common.{◌≡◌, ℕ, ◌+◌, ◌==◌, Bool, true, false, not, ◌||◌, cond, ◌++◌, length, List, [], ◌∷◌, Option, None, Some, refl, sym, ap, subst, ◌∙◌, arith}
use Rattle.std.specs.Option.{option_or}
use Rattle.std.specs.List.{AllByRecursion, flat_map, list_any}
use Rattle.std.proofs.lemmas.Bool.{true≢false, eq-eqb}
use Rattle.std.proofs.lemmas.List.{map-append}
use Rattle.std.proofs.lemmas.List.Concat.{flat_map-append}
use Rattle.std.proofs.lemmas.List.Elements.{filter-append}
use Rattle.std.proofs.lemmas.List.Folds.{list_any-append}
use Rattle.std.proofs.lemmas.Option.{none-some}
use Rattle.scenario_defs.specs.declared.event.Event.{Event}
use Rattle.scenario_defs.specs.declared.event.CustomerEvent.TheVariants as customers
use Rattle.scenario_defs.specs.declared.event.Event.TheVariants as events
use Rattle.scenario_defs.specs.declared.event.Timed.{Timed}
use Rattle.scenario_defs.specs.declared.report.Refusal.{Refusal}
use Rattle.scenario_defs.specs.declared.report.Refusal.TheVariants as refusals
use Rattle.scenario_defs.specs.declared.report.ReportLine.{ReportLine}
use Rattle.scenario_defs.specs.declared.report.ReportLine.TheVariants as lines
use Rattle.mvpn_model.specs.Packets.{packet_fault}
use Rattle.mvpn_model.specs.Past.{is_accepted}
use Rattle.mvpn_model.specs.Refused.{octets_refusal}
use Rattle.mvpn_model.specs.Report.{Entry, lines_of}
use Rattle.network_defs.specs.Acts.{Tell}
use Rattle.network_defs.specs.Counts.{state_line}
use Rattle.network_defs.specs.Events.{Happened, Done, done}
use Rattle.network_defs.specs.Refusals.{refusal, message_refusal, refused_if, are_links_full}
use Rattle.network_defs.specs.Run.{Traced, outcome, traced, report_of, Runs}
use Rattle.network_defs.specs.World.{World, scenario_of}
use Rattle.mvpn_model.specs.Messages.{message_of}
use Rattle.network_laws.proofs.Lists.{each_map, each_filter}
use Rattle.once_laws.specs.delivery_laws.Flood.{lines_in}
use Rattle.once_laws.proofs.delivery_laws.Accepted.{accepts, TellsAccepted}
use Rattle.run_laws.specs.Plain.{is_plain, plain_entry, plain}
use Rattle.run_laws.proofs.Plain.{plain_lines}
use Rattle.audit_defs.specs.Markers.{is_marker, is_state, is_refusable, is_named, is_marked, marks, mark_each}
use Rattle.audit_defs.specs.Cut.{is_malformed, unnamed}
use Rattle.audit_defs.specs.Verdicts.{is_halt}
use Rattle.audit_defs.proofs.Lists.{and_true, or_right, or_left}
use Rattle.audit_laws.proofs.EventLines.{special, SaysNothing, done_says_nothing}

-- ---- what each event gives

-- a line that is no marker, and no halt
pub record IsOrdinary (line : ReportLine) : Type 0 where
  pub marker : is_marker line ≡ false
  pub halt : is_halt line ≡ false

-- The lines of an event: its marker alone, or lines that are none where it has none.
pub data Head (own : List ℕ) (timed : Timed) (all : List ReportLine) : Type 0 where
  Marked : (marker : ReportLine) → all ≡ marker ∷ [] → is_marker marker ≡ true → marks timed marker ≡ true → is_marked own timed ≡ true
      → Head own timed all
  Unmarked : is_marked own timed ≡ false → AllByRecursion IsOrdinary all → Head own timed all

-- the entries of an event
pub record Turn (own : List ℕ) (number : ℕ) (timed : Timed) (mine : List Entry) : Type 0 where
  pub of_event : AllByRecursion (λ (entry : Entry). entry.event ≡ number) mine
  pub head : Head own timed (lines_of mine)
  pub formed : (is_malformed timed.event && is_accepted own timed) ≡ false

-- The entries are those of the events, one after another.
abbrev pub Shaped : List ℕ → ℕ → List Timed → List Entry → Type 0
Shaped own number [] report = report ≡ []
Shaped own number (timed ∷ more) report =
    (mine : List Entry) × (rest : List Entry) × (report ≡ mine ++ rest) × Turn own number timed mine × Shaped own (number + 1) more rest

-- ---- lines

no_cons : {X : Type 0} (x : X) (xs : List X) → x ∷ xs ≡ [] → ⊥
no_cons x xs e = (let long = ap length e in omega (arith, long))

quiet_each : (all : List ReportLine) → SaysNothing all → AllByRecursion IsOrdinary all
quiet_each [] e = tt
quiet_each (line ∷ more) e = (let r = by line e in (r.0, quiet_each more r.1))
  where
    by : (line : ReportLine) → special line ++ flat_map special more ≡ [] → IsOrdinary line × SaysNothing more
    by (lines.State bytes copies buffers due unready) e = absurd (no_cons (lines.State bytes copies buffers due unready) (flat_map special more) e)
    by (lines.Refused refused reason) e = absurd (no_cons (lines.Refused refused reason) (flat_map special more) e)
    by (lines.Halt halted node) e = absurd (no_cons (lines.Halt halted node) (flat_map special more) e)
    by (lines.Out number iface bytes) e = (record { marker = refl; halt = refl }, e)
    by (lines.Put kind from to bytes) e = (record { marker = refl; halt = refl }, e)
    by (lines.Take kind from to bytes) e = (record { marker = refl; halt = refl }, e)
    by (lines.Hop from to label ttl number) e = (record { marker = refl; halt = refl }, e)
    by (lines.Land from to label number) e = (record { marker = refl; halt = refl }, e)

ordinary_markers : (all : List ReportLine) → AllByRecursion IsOrdinary all → filter is_marker all ≡ []
ordinary_markers [] h = refl
ordinary_markers (line ∷ all) h = ap (λ b. cond b (line ∷ filter is_marker all) (filter is_marker all)) h.0.marker ∙ ordinary_markers all h.1

ordinary_halts : (all : List ReportLine) → AllByRecursion IsOrdinary all → list_any is_halt all ≡ false
ordinary_halts [] h = refl
ordinary_halts (line ∷ all) h = (λ i. h.0.halt i || ordinary_halts all h.1 i)

marker_no_halt : (line : ReportLine) → is_marker line ≡ true → is_halt line ≡ false
marker_no_halt (lines.State bytes copies buffers due unready) e = refl
marker_no_halt (lines.Refused refused reason) e = refl
marker_no_halt (lines.Halt halted node) e = absurd (true≢false (sym e))
marker_no_halt (lines.Out number iface bytes) e = refl
marker_no_halt (lines.Put kind from to bytes) e = refl
marker_no_halt (lines.Take kind from to bytes) e = refl
marker_no_halt (lines.Hop from to label ttl number) e = refl
marker_no_halt (lines.Land from to label number) e = refl

marker_is_plain : (line : ReportLine) → is_marker line ≡ true → is_plain line ≡ true
marker_is_plain (lines.State bytes copies buffers due unready) e = refl
marker_is_plain (lines.Refused refused reason) e = refl
marker_is_plain (lines.Halt halted node) e = refl
marker_is_plain (lines.Out number iface bytes) e = refl
marker_is_plain (lines.Put kind from to bytes) e = absurd (true≢false (sym e))
marker_is_plain (lines.Take kind from to bytes) e = absurd (true≢false (sym e))
marker_is_plain (lines.Hop from to label ttl number) e = absurd (true≢false (sym e))
marker_is_plain (lines.Land from to label number) e = absurd (true≢false (sym e))

-- ---- what a report of such a shape says

pub lines_both : (first more : List Entry) → lines_of (first ++ more) ≡ lines_of first ++ lines_of more
lines_both first more = flat_map-append (λ (entry : Entry). entry.lines) first more

module _ (own : List ℕ) where
  pub marks_all : (number : ℕ) (all : List Timed) (report : List Entry) → Shaped own number all report
      → mark_each (filter (is_marked own) all) (filter is_marker (lines_of report)) ≡ true
  marks_all number [] report e = ap (λ (l : List Entry). mark_each [] (filter is_marker (lines_of l))) e
  marks_all number (timed ∷ all) report (mine, rest, whole, turn, later) =
      ap (λ (l : List Entry). mark_each (filter (is_marked own) (timed ∷ all)) (filter is_marker (lines_of l))) whole
      ∙ ap (λ (l : List ReportLine). mark_each (filter (is_marked own) (timed ∷ all)) l)
      (ap (filter is_marker) (lines_both mine rest) ∙ filter-append is_marker (lines_of mine) (lines_of rest))
      ∙ by (lines_of mine) turn.head (marks_all (number + 1) all rest later)
    where
      by : (first : List ReportLine) → Head own timed first → mark_each (filter (is_marked own) all) (filter is_marker (lines_of rest)) ≡ true
          → mark_each (filter (is_marked own) (timed ∷ all)) (filter is_marker first ++ filter is_marker (lines_of rest)) ≡ true
      by first (Marked marker only is fits marked) later =
          ap (λ b. mark_each (cond b (timed ∷ filter (is_marked own) all) (filter (is_marked own) all))
          (filter is_marker first ++ filter is_marker (lines_of rest))) marked
          ∙ ap (λ (l : List ReportLine). mark_each (timed ∷ filter (is_marked own) all) (l ++ filter is_marker (lines_of rest)))
          (ap (filter is_marker) only ∙ ap (λ b. cond b (marker ∷ []) []) is)
          ∙ and_true (marks timed marker) (mark_each (filter (is_marked own) all) (filter is_marker (lines_of rest))) fits later
      by first (Unmarked marked ordinary) later =
          ap (λ b. mark_each (cond b (timed ∷ filter (is_marked own) all) (filter (is_marked own) all))
          (filter is_marker first ++ filter is_marker (lines_of rest))) marked
          ∙ ap (λ (l : List ReportLine). mark_each (filter (is_marked own) all) (l ++ filter is_marker (lines_of rest)))
          (ordinary_markers first ordinary) ∙ later

  pub no_halts : (number : ℕ) (all : List Timed) (report : List Entry) → Shaped own number all report → list_any is_halt (lines_of report) ≡ false
  no_halts number [] report e = ap (λ (l : List Entry). list_any is_halt (lines_of l)) e
  no_halts number (timed ∷ all) report (mine, rest, whole, turn, later) =
      ap (λ (l : List Entry). list_any is_halt (lines_of l)) whole ∙ ap (list_any is_halt) (lines_both mine rest)
      ∙ list_any-append is_halt (lines_of mine) (lines_of rest)
      ∙ (λ i. by (lines_of mine) turn.head i || no_halts (number + 1) all rest later i)
    where
      by : (first : List ReportLine) → Head own timed first → list_any is_halt first ≡ false
      by first (Marked marker only is fits marked) = ap (list_any is_halt) only ∙ ap (λ b. b || false) (marker_no_halt marker is)
      by first (Unmarked marked ordinary) = ordinary_halts first ordinary

  pub none_unnamed : (number : ℕ) (all : List Timed) (report : List Entry) → Shaped own number all report → unnamed own all ≡ []
  none_unnamed number [] report e = refl
  none_unnamed number (timed ∷ all) report (mine, rest, whole, turn, later) =
      (λ i. cond (turn.formed i) (timed.line ∷ []) [] ++ none_unnamed (number + 1) all rest later i)

  -- ---- plain reports

  plain_head : (timed : Timed) (all : List ReportLine) → Head own timed all → Head own timed (filter is_plain all)
  plain_head timed all (Marked marker only is fits marked) =
      Marked marker (ap (filter is_plain) only ∙ ap (λ b. cond b (marker ∷ []) []) (marker_is_plain marker is)) is fits marked
  plain_head timed all (Unmarked marked ordinary) = Unmarked marked (each_filter IsOrdinary is_plain all ordinary)

  pub plain_shaped : (number : ℕ) (all : List Timed) (report : List Entry) → Shaped own number all report → Shaped own number all (plain report)
  plain_shaped number [] report e = ap plain e
  plain_shaped number (timed ∷ all) report (mine, rest, whole, turn, later) = (
    plain mine,
    plain rest,
    ap plain whole ∙ map-append plain_entry mine rest,
    record {
      of_event = each_map (λ (entry : Entry). entry.event ≡ number) plain_entry mine turn.of_event;
      head = subst (Head own timed) (sym (plain_lines mine)) (plain_head timed (lines_of mine) turn.head);
      formed = turn.formed;
    },
    plain_shaped (number + 1) all rest later,
  )

-- ---- runs

refusable : (world : World) (event : Event) (reason : Refusal) → refusal world event ≡ Some reason → is_refusable event ≡ true
refusable world (events.Tick count) reason e = absurd (none-some reason e)
refusable world (events.Timers node) reason e = absurd (none-some reason e)
refusable world (events.Restart node) reason e = absurd (none-some reason e)
refusable world (events.Cost a b cost) reason e = absurd (none-some reason e)
refusable world events.Heal reason e = absurd (none-some reason e)
refusable world events.Settle reason e = absurd (none-some reason e)
refusable world events.Drain reason e = absurd (none-some reason e)
refusable world events.State reason e = absurd (none-some reason e)
refusable world (events.Move kind from to count) reason e = refl
refusable world (events.Lose kind a b) reason e = refl
refusable world (events.Notice kind a b) reason e = refl
refusable world (events.Raise kind a b) reason e = refl
refusable world (events.Customer event) reason e = refl
refusable world (events.Send site source group payload) reason e = refl
refusable world (events.Packet site octets) reason e = refl
refusable world (events.Hop from to place) reason e = refl
refusable world (events.DropCopy from to place) reason e = refl

-- the first of two reasons
or_first : (o p : Option Refusal) → is_some o ≡ true → accepts (option_or o p) ≡ false
or_first None p e = absurd (true≢false (sym e))
or_first (Some reason) p e = refl

malformed_refused : (world : World) (event : Event) → is_malformed event ≡ true → accepts (refusal world event) ≡ false
malformed_refused world (events.Customer (customers.Pim iface octets)) e =
    or_first (octets_refusal octets) (message_refusal world (message_of (scenario_of world) (events.Customer (customers.Pim iface octets)))) e
malformed_refused world (events.Packet site octets) e = or_first (packet_fault octets) (refused_if (are_links_full world) refusals.Full) e
malformed_refused world other e = absurd (true≢false (sym e))

-- a `state` event gives its line
state_lines : (world : World) (event : Event) (acts : List Happened) (next : World) → is_state event ≡ true → done world event ≡ Done acts next
    → lines_in acts ≡ state_line world ∷ []
state_lines world events.State acts next is e =
    let one : List Happened = record { act = Some Tell; lines = state_line world ∷ [] } ∷ [] in
    let told : Done one world ≡ Done acts next = e in
    let same : one ≡ acts = cc in
    ap lines_in (sym same)
state_lines world (events.Tick count) acts next is e = absurd (true≢false (sym is))
state_lines world other acts next is e = absurd (true≢false (sym is))

own_lines : (number : ℕ) (acts : List Happened) → lines_of (report_of (traced number acts)) ≡ lines_in acts
own_lines number [] = refl
own_lines number (happened ∷ more) = ap (λ (l : List ReportLine). happened.lines ++ l) (own_lines number more)

module _ (own : List ℕ) where
  formed_by : (world : World) (timed : Timed) → is_accepted own timed ≡ accepts (refusal world timed.event)
      → (is_malformed timed.event && is_accepted own timed) ≡ false
  formed_by world timed tells = by (is_malformed timed.event) refl
    where
      by : (b : Bool) → is_malformed timed.event ≡ b → (is_malformed timed.event && is_accepted own timed) ≡ false
      by true is = (λ i. is i && (tells ∙ malformed_refused world timed.event is) i)
      by false is = ap (λ b. b && is_accepted own timed) is

  named_by : (timed : Timed) (b : Bool) → is_accepted own timed ≡ b → is_named own timed ≡ not b
  named_by timed b e = (let twice = not_not (is_named own timed) in sym twice ∙ ap not e)
    where
      not_not : (b : Bool) → not (not b) ≡ b
      not_not true = refl
      not_not false = refl

  head_by : (world : World) (timed : Timed) (acts : List Happened) (next : World) → is_accepted own timed ≡ accepts (refusal world timed.event)
      → outcome world timed ≡ Done acts next → Head own timed (lines_in acts)
  head_by world timed acts next tells is = by (refusal world timed.event) refl tells is
    where
      done_by : (b : Bool) → is_state timed.event ≡ b → is_accepted own timed ≡ true → done world timed.event ≡ Done acts next
          → Head own timed (lines_in acts)
      done_by false other accepted e =
          Unmarked (λ i. other i || named_by timed true accepted i)
          (quiet_each (lines_in acts) (done_says_nothing world timed.event acts next other e))
      done_by true state accepted e =
          (let r = state_lines world timed.event acts next state e in
          Marked (state_line world) r refl state (or_left (is_state timed.event) (is_named own timed) state))

      by : (o : Option Refusal) → refusal world timed.event ≡ o → is_accepted own timed ≡ accepts o
          → (elim o [
            | None ↦ done world timed.event
            | Some reason ↦
                Done (record { act = None; lines = lines.Refused timed.line reason ∷ [] } ∷ []) world
          ]) ≡ Done acts next
          → Head own timed (lines_in acts)
      by None why tells e = done_by (is_state timed.event) refl tells e
      by (Some reason) why tells e =
          let first : List Happened = record { act = None; lines = lines.Refused timed.line reason ∷ [] } ∷ [] in
          let same : first ≡ acts = cc in
          Marked (lines.Refused timed.line reason) (ap lines_in (sym same)) refl
          (and_true (timed.line == timed.line) (is_refusable timed.event) (eq-eqb timed.line timed.line refl)
          (refusable world timed.event reason why))
          (or_right (is_state timed.event) (is_named own timed) (named_by timed false tells))

  own_entries : (number : ℕ) (acts : List Happened) → AllByRecursion (λ (entry : Entry). entry.event ≡ number) (report_of (traced number acts))
  own_entries number [] = tt
  own_entries number (happened ∷ more) = (refl, own_entries number more)

  pub run_shaped : (all : List Timed) (old : World) (number : ℕ) (trace : List Traced) (new : World) → TellsAccepted own old all
      → Runs old number all trace new → Shaped own number all (report_of trace)
  run_shaped [] old number trace new tells run = ap report_of run.0
  run_shaped (timed ∷ all) old number trace new tells run = (
    report_of (traced number run.0),
    report_of run.2,
    ap report_of run.4 ∙ map-append {A = Traced} {B = Entry} (λ step. record { event = step.event; lines = step.happened.lines })
        (traced number run.0) run.2,
    record {
      of_event = own_entries number run.0;
      head = subst (Head own timed) (sym (own_lines number run.0)) (head_by old timed run.0 run.1 tells.0 run.3);
      formed = formed_by old timed tells.0;
    },
    run_shaped all run.1 (number + 1) run.2 new (tells.1 run.0 run.1 run.3) run.5,
  )
