-- The least offence of a report whose markers fit.
use Rattle.std.specs.Prelude.{◌||◌, ◌==◌, count_by, option_map}
use Rattle.std.proofs.Common.{◌≡◌, ℕ, zero, suc, ◌+◌, ◌<◌, ◌≤◌, ◌⊎◌, Bool, true, false, not, cond, inl, inr, map, take, length, List, [], ◌∷◌, slice_get, Option, None, Some, refl, sym, ap, subst, ◌∙◌, arith}
use Rattle.std.specs.List.{list_any}
use Rattle.std.proofs.lemmas.Bool.{true≢false, eq-eqb, eqb-true}
use Rattle.std.proofs.lemmas.List.Sums.{sum_by-cons}
use Rattle.std.proofs.lemmas.Option.{none-some, slice_get_within}
use Rattle.audit_events.specs.mv_base.declared.ids.IfaceId.{IfaceId}
use Rattle.audit_events.specs.scenario_defs.Rules.{Rises}
use Rattle.audit_events.specs.scenario_defs.declared.event.Timed.{Timed}
use Rattle.audit_events.specs.scenario_defs.declared.report.ReportLine.{ReportLine}
use Rattle.audit_events.specs.scenario_defs.declared.report.ReportLine.TheVariants as lines
use Rattle.audit_events.specs.mvpn_model.Past.{receivers}
use Rattle.audit_events.specs.mvpn_model.Report.{Datagram, lines_of, is_out_at, outs_at}
use Rattle.audit_events.specs.audit_defs.declared.verdict.Numbered.{Numbered}
use Rattle.audit_events.specs.audit_defs.declared.verdict.Offence.{Offence}
use Rattle.audit_events.specs.audit_defs.declared.verdict.Offence.TheVariants as offences
use Rattle.audit_events.specs.audit_defs.Cut.{Given, Audited, give, places_after, entry_of, cut}
use Rattle.audit_events.specs.audit_defs.Markers.{values, markers, fit, begin, is_marker}
use Rattle.audit_events.specs.audit_defs.Offences.{OutLine, OutOf, EarlierOut, IsMissing}
use Rattle.audit_events.specs.audit_defs.Verdicts.{is_halt, Offends, HasNoOffence, IsLeast, rank}
use Rattle.audit_events.proofs.audit_defs.Fitting.{begins_to_fit}
use Rattle.audit_events.proofs.audit_defs.Lists.{some_same, both_no, any_got, got_any, got_map}
use Rattle.audit_events.specs.declared.case.Case.{Case}
use Rattle.mvpn_audit.specs.declared.findings.Findings.{Findings}
use Rattle.mvpn_audit.specs.declared.judging.Found.{Found}
use Rattle.mvpn_audit.specs.declared.judging.Reading.{Reading}
use Rattle.audit_events.specs.declared.sents.Sent.{Sent}
use Rattle.audit_events.specs.Case.{events_of, audited_of, past_of, is_windowed, IsCase}
use Rattle.mvpn_audit.specs.Exits.{exit, has_out}
use Rattle.mvpn_audit.specs.Judging.{has_left, IsFaultOf, IsFaultAt, IsFault, AreFaultless, IsFirstFault, IsFirst, IsRead}
use Rattle.audit_events.specs.Marking.{last_line}
use Rattle.mvpn_audit.specs.Findings.{AreFound}
use Rattle.mvpn_audit.specs.Missing.{has_not_left, lacks, is_missing, line_in, FirstMissing, IsMissed}
use Rattle.audit_events.specs.Sents.{sent_of, sents_of}
use Rattle.audit_events.proofs.DatagramLemmas.{sent_there, in_order}
use Rattle.audit_events.proofs.FateLemmas.{got_above}
use Rattle.audit_events.proofs.InWindows.{got_front, front_got}
use Rattle.audit_events.proofs.MarkingLemmas.{Order, Before, Same, After, order, rise_above, rise_between}
use Rattle.mvpn_audit.proofs.NamedLemmas.{got_mapped, sent_list, in_window, windowed}

-- ---- lines of events, and of the report

-- the last line of the events is at or after each of them
up_to_last : (all : List Timed) (place : ℕ) (timed : Timed) (bound : ℕ) → Rises bound all → slice_get all place ≡ Some timed
    → timed.line ≤ last_line all
up_to_last [] place timed bound rises e = absurd (none-some timed e)
up_to_last (first ∷ []) zero timed bound rises e = (let same = ap (λ (t : Timed). t.line) (some_same first timed e) in omega (arith, same))
up_to_last (first ∷ []) (suc place) timed bound rises e = absurd (none-some timed e)
up_to_last (first ∷ second ∷ more) zero timed bound rises e =
    let same = ap (λ (t : Timed). t.line) (some_same first timed e) in
    let less = rises.1.0 in
    let rest = up_to_last (second ∷ more) zero second first.line rises.1 refl in
    omega (arith, same, less, rest)
up_to_last (first ∷ second ∷ more) (suc place) timed bound rises e = up_to_last (second ∷ more) place timed first.line rises.1 e

later_event : (bound : ℕ) (all : List Timed) → Rises bound all → (i j : ℕ) (a b : Timed) → i < j → slice_get all i ≡ Some a → slice_get all j ≡ Some b
    → a.line < b.line
later_event bound [] rises i j a b less e f = absurd (none-some a e)
later_event bound (first ∷ more) rises i zero a b less e f = absurd (omega (arith, less))
later_event bound (first ∷ more) rises zero (suc j) a b less e f =
    (let above = got_above first.line more rises.1 j b f in let same = ap (λ (t : Timed). t.line) (some_same first a e) in omega (arith, above, same))
later_event bound (first ∷ more) rises (suc i) (suc j) a b less e f = later_event first.line more rises.1 i j a b (omega (arith, less)) e f

given_line : (end : ℕ) (places : List ℕ) (all : List Numbered) (place : ℕ) (given : Given) → slice_get (give end places all) place ≡ Some given →
    (numbered : Numbered) × (slice_get all place ≡ Some numbered) × (numbered.line ≡ given.line)
given_line end places [] place given e = absurd (none-some given e)
given_line end places (numbered ∷ all) zero given e = (numbered, refl, ap (λ (g : Given). g.line) (some_same _ given e))
given_line end places (numbered ∷ all) (suc place) given e = given_line end (places_after (is_marker numbered.value) places) all place given e

-- ---- counts

nothing_more : (n : ℕ) → 0 + n ≡ n
nothing_more n = omega arith

module _ (number : ℕ) (iface : IfaceId) where
  abbrev tally : List Given → ℕ
  tally all = count_by (is_out_at number iface) (lines_of (map entry_of all))

  abbrev some_out : List Given → Bool
  some_out all = list_any (λ (g : Given). is_out_at number iface g.value) all

  one_more : (given : Given) (all : List Given) (b : Bool) → is_out_at number iface given.value ≡ b → tally (given ∷ all) ≡ cond b 1 0 + tally all
  one_more given all b is =
      sum_by-cons (λ (line : ReportLine). cond (is_out_at number iface line) 1 0) given.value (lines_of (map entry_of all))
      ∙ ap (λ b. cond b 1 0 + tally all) is

  none_counted : (all : List Given) → some_out all ≡ false → tally all ≡ 0
  none_counted [] e = refl
  none_counted (given ∷ all) e = by (λ none. none_counted all none) (is_out_at number iface given.value) refl e
    where
      by : (some_out all ≡ false → tally all ≡ 0) → (b : Bool) → is_out_at number iface given.value ≡ b
          → (is_out_at number iface given.value || some_out all) ≡ false → tally (given ∷ all) ≡ 0
      by rest true is none = absurd (true≢false (sym (ap (λ b. b || some_out all) is) ∙ none))
      by rest false is none = one_more given all false is ∙ (nothing_more (tally all) ∙ rest (sym (ap (λ b. b || some_out all) is) ∙ none))

  one_counted : (all : List Given) → some_out all ≡ true → tally all ≡ 0 → ⊥
  one_counted [] e none = true≢false (sym e)
  one_counted (given ∷ all) e none = by (λ some zero_so. one_counted all some zero_so) (is_out_at number iface given.value) refl e none
    where
      by : (some_out all ≡ true → tally all ≡ 0 → ⊥) → (b : Bool) → is_out_at number iface given.value ≡ b
          → (is_out_at number iface given.value || some_out all) ≡ true → tally (given ∷ all) ≡ 0 → ⊥
      by rest true is some zero_so = (let same : 1 + tally all ≡ 0 = sym (one_more given all true is) ∙ zero_so in absurd (omega (arith, same)))
      by rest false is some zero_so =
          rest (sym (ap (λ b. b || some_out all) is) ∙ some) (sym (one_more given all false is ∙ nothing_more (tally all)) ∙ zero_so)

-- ---- where an offence comes from

module _ (case : Case) (is : IsCase case) where
  abbrev a : Audited
  a = audited_of case

  -- an offence of a line, or of a datagram that is missing
  data Source (line : ℕ) (reason : Offence) : Type 0 where
    AtLine : (place : ℕ) (given : Given) → slice_get a.lines place ≡ Some given → given.line ≡ line → IsFault a place given reason
        → Source line reason
    AtEvent : IsMissing a line → reason ≡ offences.Missing → Source line reason

  earlier_left : (place number : ℕ) (iface : IfaceId) → EarlierOut a place number iface → has_left (take place a.lines) number iface ≡ true
  earlier_left place number iface e =
      got_any (λ (g : Given). is_out_at number iface g.value) (take place a.lines) e.earlier e.given
      (front_got a.lines place e.earlier e.given e.before e.at) e.says

  left_earlier : (place number : ℕ) (iface : IfaceId) → has_left (take place a.lines) number iface ≡ true → EarlierOut a place number iface
  left_earlier place number iface h =
      let r = any_got (λ (g : Given). is_out_at number iface g.value) (take place a.lines) h in
      let front = got_front a.lines place r.0 r.1 r.2 in
      record { earlier = r.0; before = front.0; given = r.1; at = front.1; says = r.3 }

  of_out : (line : ℕ) (reason : Offence) (of : OutOf a line) → IsFaultOf a of.out.place of.out.event of.out.number of.out.iface of.out.octets reason
      → Source line reason
  of_out line reason of fault =
      AtLine of.out.place (record { line = line; event = of.out.event; value = lines.Out of.out.number of.out.iface of.out.octets }) of.out.at refl
      fault

  source_of : (line : ℕ) (reason : Offence) → Offends case.script.now case.report.now line reason → Source line reason
  source_of line offences.Markers (inl h) =
      absurd (both_no (begin (events_of case) (markers (take (h.place + 1) case.report.now.lines)))
      (begins_to_fit (events_of case) case.report.now.lines (h.place + 1) is.marked.judged.fitting) h.with)
  source_of line offences.Markers (inr h) = absurd (both_no (fit (events_of case) (markers case.report.now.lines)) is.marked.judged.fitting h.misfits)
  source_of line offences.Halt h =
      absurd (both_no (list_any is_halt (values case.report.now.lines))
      (got_any is_halt (values case.report.now.lines) h.place h.halt.value
      (got_map (λ (n : Numbered). n.value) case.report.now.lines h.place h.halt h.at) h.is) is.marked.judged.unhalted)
  source_of line offences.Number h =
      AtLine h.1.0.place (record { line = line; event = h.1.0.event; value = lines.Out h.1.0.number h.1.0.iface h.1.0.octets }) h.1.0.at refl h.1.1
  source_of line offences.Bytes h = of_out line offences.Bytes h.1.0 (h.1.0.datagram, h.1.0.names, h.1.1)
  source_of line offences.Admit h = of_out line offences.Admit h.1.0 (h.1.0.datagram, h.1.0.names, h.1.1)
  source_of line offences.Again h =
      of_out line offences.Again h.1.0 (h.1.0.datagram, h.1.0.names, h.1.1, earlier_left h.1.0.out.place h.1.0.out.number h.1.0.out.iface h.1.2)
  source_of line offences.Asked h = of_out line offences.Asked h.1.0 (h.1.0.datagram, h.1.0.names, h.1.1, h.1.2)
  source_of line offences.Missing h = AtEvent h.1 refl

  abbrev out_line : (place line event number : ℕ) (iface : IfaceId) (octets : List ℕ)
      → slice_get a.lines place ≡ Some (record { line = line; event = event; value = lines.Out number iface octets }) → OutLine a line
  out_line place line event number iface octets at = record { place = place; event = event; number = number; iface = iface; octets = octets; at = at }

  -- A fault of a line is an offence at that line.
  offends_by : (place line event : ℕ) (value : ReportLine) (reason : Offence)
      → slice_get a.lines place ≡ Some (record { line = line; event = event; value = value }) →
      IsFaultAt a place event value reason → Offends case.script.now case.report.now line reason
  offends_by place line event (lines.Out number iface octets) offences.Markers at h = absurd h
  offends_by place line event (lines.Out number iface octets) offences.Halt at h = absurd h
  offends_by place line event (lines.Out number iface octets) offences.Number at h =
      (is.marked.judged, (out_line place line event number iface octets at, h))
  offends_by place line event (lines.Out number iface octets) offences.Bytes at (datagram, names, apart) =
      (is.marked.judged, (record { out = out_line place line event number iface octets at; datagram = datagram; names = names }, apart))
  offends_by place line event (lines.Out number iface octets) offences.Admit at (datagram, names, f) =
      (is.marked.judged, (record { out = out_line place line event number iface octets at; datagram = datagram; names = names }, f))
  offends_by place line event (lines.Out number iface octets) offences.Again at (datagram, names, window, left) = (
    is.marked.judged,
    (
      record { out = out_line place line event number iface octets at; datagram = datagram; names = names },
      window,
      left_earlier place number iface left,
    ),
  )
  offends_by place line event (lines.Out number iface octets) offences.Asked at (datagram, names, window, f) =
      (is.marked.judged, (record { out = out_line place line event number iface octets at; datagram = datagram; names = names }, window, f))
  offends_by place line event (lines.Out number iface octets) offences.Missing at h = absurd h
  offends_by place line event (lines.Refused refused reason) own at h = absurd h
  offends_by place line event (lines.State bytes copies buffers due unready) own at h = absurd h
  offends_by place line event (lines.Halt halted node) own at h = absurd h
  offends_by place line event (lines.Put kind from to bytes) own at h = absurd h
  offends_by place line event (lines.Take kind from to bytes) own at h = absurd h
  offends_by place line event (lines.Hop from to label ttl number) own at h = absurd h
  offends_by place line event (lines.Land from to label number) own at h = absurd h

  -- ---- the order of lines

  given_before : (first second : ℕ) (one other : Given) → first < second → slice_get a.lines first ≡ Some one → slice_get a.lines second ≡ Some other
      → one.line < other.line
  given_before first second one other less e f =
      let x = given_line _ _ case.report.now.lines first one e in
      let y = given_line _ _ case.report.now.lines second other f in
      let rise = rise_between (last_line (events_of case)) case.report.now.end case.report.now.lines first second x.0 y.0 is.after x.1 y.1 less in
      let p = x.2 in
      let q = y.2 in
      omega (arith, rise, p, q)

  event_before : (event : ℕ) (timed : Timed) (place : ℕ) (given : Given) → slice_get (events_of case) event ≡ Some timed
      → slice_get a.lines place ≡ Some given → timed.line < given.line
  event_before event timed place given e f =
      let y = given_line _ _ case.report.now.lines place given f in
      let low = up_to_last (events_of case) event timed 0 is.rules.lines e in
      let high = rise_above (last_line (events_of case)) case.report.now.end case.report.now.lines place y.0 is.after y.1 in
      let q = y.2 in
      omega (arith, low, high, q)

  -- ---- datagrams that are missing

  abbrev reported : List Numbered
  reported = case.report.now.lines

  out_there : (number : ℕ) (iface : IfaceId) → has_out reported (exit number iface) ≡ list_any (λ (g : Given). is_out_at number iface g.value) a.lines
  out_there number iface = sym (all_say (λ (v : ReportLine). is_out_at number iface v) _ _ reported)
    where
      -- what all lines say, once they are given to events
      all_say : (test : ReportLine → Bool) (end : ℕ) (places : List ℕ) (all : List Numbered) →
          list_any (λ (g : Given). test g.value) (give end places all) ≡ list_any (λ (line : Numbered). test line.value) all
      all_say test end places [] = refl
      all_say test end places (line ∷ all) = ap (λ b. test line.value || b) (all_say test end (places_after (is_marker line.value) places) all)

  not_said : (number : ℕ) (iface : IfaceId) → has_not_left reported number iface ≡ true → outs_at (cut a) number iface ≡ 0
  not_said number iface h = none_counted number iface a.lines (sym (out_there number iface) ∙ negated (has_out reported (exit number iface)) h)
    where
      negated : (b : Bool) → not b ≡ true → b ≡ false
      negated true e = absurd (true≢false (sym e))
      negated false e = refl

  said_not : (number : ℕ) (iface : IfaceId) → outs_at (cut a) number iface ≡ 0 → has_not_left reported number iface ≡ true
  said_not number iface none = by (has_out reported (exit number iface)) refl
    where
      by : (b : Bool) → has_out reported (exit number iface) ≡ b → not b ≡ true
      by true e = absurd (one_counted number iface a.lines (sym (out_there number iface) ∙ e) none)
      by false e = refl

  abbrev asked_of : Datagram → List IfaceId
  asked_of datagram = receivers (past_of case datagram.event) datagram.site datagram.source datagram.group

  missing_by : (datagram : Datagram) (number : ℕ) (w : Bool) → is_windowed case datagram.event ≡ w
      → ◌≡◌ {A = Bool} (elim (cond w (Some (asked_of datagram)) None) [ None ↦ false | Some asked ↦ lacks reported number asked ]) true →
      (is_windowed case datagram.event ≡ true) × (lacks reported number (asked_of datagram) ≡ true)
  missing_by datagram number true w e = (w, e)
  missing_by datagram number false w e = absurd (true≢false (sym e))

  -- a datagram that lacks a receiver is missing
  missing_is : (place : ℕ) (datagram : Datagram) (timed : Timed) → slice_get (sent_list case is) place ≡ Some datagram
      → slice_get (events_of case) datagram.event ≡ Some timed →
      is_missing reported (place + 1) (sent_of case datagram) ≡ true → IsMissing a timed.line
  missing_is place datagram timed at event h =
      let both = missing_by datagram (place + 1) (is_windowed case datagram.event) refl h in
      let r = any_got (has_not_left reported (place + 1)) (asked_of datagram) both.1 in
      record {
        place = place;
        datagram = datagram;
        accepted = at;
        timed = timed;
        sent = event;
        of_line = refl;
        in_window = in_window case is datagram both.0;
        iface = r.1;
        asked = got_any (λ (receiver : IfaceId). receiver.0 == r.1.0) (asked_of datagram) r.0 r.1 r.2 (same_number r.1.0);
        none = not_said (place + 1) r.1 r.3;
      }
    where
      same_number : (n : ℕ) → (n == n) ≡ true
      same_number n = eq-eqb n n refl

  -- a datagram that is missing lacks a receiver
  is_missing_so : (line : ℕ) (m : IsMissing a line) → is_missing reported (m.place + 1) (sent_of case m.datagram) ≡ true
  is_missing_so line m =
      ap (λ b. elim (cond b (Some (asked_of m.datagram)) None) [ None ↦ false | Some asked ↦ lacks reported (m.place + 1) asked ])
      (windowed case is m.datagram m.in_window)
      ∙ (let r = any_got (λ (receiver : IfaceId). receiver.0 == m.iface.0) (asked_of m.datagram) m.asked in
      got_any (has_not_left reported (m.place + 1)) (asked_of m.datagram) r.0 r.1 r.2
      (said_not (m.place + 1) r.1 (ap (λ (n : ℕ). outs_at (cut a) (m.place + 1) (record { 0 = n })) (eqb-true r.1.0 m.iface.0 r.3) ∙ m.none)))

  noted_at : (place : ℕ) (datagram : Datagram) → slice_get (sent_list case is) place ≡ Some datagram
      → slice_get (sents_of case) place ≡ Some (sent_of case datagram)
  noted_at place datagram e = got_mapped (sent_of case) (sent_list case is) place ∙ ap (λ (o : Option Datagram). option_map (sent_of case) o) e

  -- ---- verdicts

  none_verdict : IsMissed reported (sents_of case) None → (reading : Reading) → IsRead case (length reported) reading → reading.first ≡ None
      → HasNoOffence case.script.now case.report.now
  none_verdict missed reading read first line reason h = by (source_of line reason h)
    where
      clean : AreFaultless a (length case.report.now.lines)
      clean = subst (IsFirst a (length case.report.now.lines)) first read.first

      by : Source line reason → ⊥
      by (AtLine place given at of_line fault) =
          let x = given_line _ _ case.report.now.lines place given at in
          clean place given reason (slice_get_within case.report.now.lines place x.0 x.1) at fault
      by (AtEvent missing same) =
          true≢false (sym (is_missing_so line missing)
          ∙ missed missing.place (sent_of case missing.datagram) (noted_at missing.place missing.datagram missing.accepted))

  first_verdict : IsMissed reported (sents_of case) None → (reading : Reading) → IsRead case (length reported) reading → (found : Found)
      → reading.first ≡ Some found → IsLeast case.script.now case.report.now found.line found.reason
  first_verdict missed reading read found first = record {
    offends =
        subst (λ n. Offends case.script.now case.report.now n found.reason) f.of_line
        (offends_by f.place f.given.line f.given.event f.given.value found.reason f.at f.is.fault);
    least = least;
  }
    where
      f : IsFirstFault a (length case.report.now.lines) found
      f = subst (IsFirst a (length case.report.now.lines)) first read.first

      by : (other : ℕ) (another : Offence) → Source other another → (found.line < other) ⊎ ((found.line ≡ other) × (rank found.reason ≤ rank another))
      by other another (AtEvent missing same) =
          absurd (true≢false (sym (is_missing_so other missing)
          ∙ missed missing.place (sent_of case missing.datagram) (noted_at missing.place missing.datagram missing.accepted)))
      by other another (AtLine place given at of_line fault) = elim (order f.place place) [
        | Before less ↦ (let line = given_before f.place place f.given given less f.at at in let p = f.of_line in
            inl (omega (arith, line, p, of_line)))
        | Same same ↦
            let one : given ≡ f.given = some_same given f.given (sym at ∙ (ap (slice_get a.lines) (sym same) ∙ f.at)) in
            inr (
              sym f.of_line ∙ (ap (λ (g : Given). g.line) (sym one) ∙ of_line),
              f.is.least another (subst (λ (g : Given). IsFault a f.place g another) one (subst (λ k. IsFault a k given another) (sym same) fault)),
            )
        | After more ↦ absurd (f.before place given another more at fault)
      ]

      least : (other : ℕ) (another : Offence) → Offends case.script.now case.report.now other another
          → (found.line < other) ⊎ ((found.line ≡ other) × (rank found.reason ≤ rank another))
      least other another h = by other another (source_of other another h)

  -- the datagram that is noted at a place
  datagram_at : (place : ℕ) (sent : Sent) → slice_get (sents_of case) place ≡ Some sent
      → (datagram : Datagram) × (slice_get (sent_list case is) place ≡ Some datagram) × (sent_of case datagram ≡ sent)
  datagram_at place sent e = by (slice_get (sent_list case is) place) refl (sym (got_mapped (sent_of case) (sent_list case is) place) ∙ e)
    where
      by : (o : Option Datagram) → slice_get (sent_list case is) place ≡ o → option_map (sent_of case) o ≡ Some sent
          → (datagram : Datagram) × (slice_get (sent_list case is) place ≡ Some datagram) × (sent_of case datagram ≡ sent)
      by None at same = absurd (none-some sent same)
      by (Some datagram) at same = (datagram, at, some_same (sent_of case datagram) sent same)

  -- the event of a datagram
  event_at : (place : ℕ) (datagram : Datagram) → slice_get (sent_list case is) place ≡ Some datagram
      → (timed : Timed) × (slice_get (events_of case) datagram.event ≡ Some timed)
  event_at place datagram e =
      let r = sent_there a.refused 0 (events_of case) place datagram e in
      (r.timed, ap (slice_get (events_of case)) (let there = r.there in let same : datagram.event ≡ r.offset = omega (arith, there) in same) ∙ r.at)

  missing_event : (event : ℕ) → FirstMissing reported (sents_of case) event → (timed : Timed) × (slice_get (events_of case) event ≡ Some timed)
  missing_event event m =
      let d = datagram_at m.place m.sent m.at in
      let t = event_at m.place d.0 d.1 in
      (t.0, ap (slice_get (events_of case)) (sym (ap (λ (s : Sent). s.event) d.2 ∙ m.of_event)) ∙ t.1)

  missing_verdict : (event : ℕ) → FirstMissing reported (sents_of case) event → (timed : Timed) → slice_get (events_of case) event ≡ Some timed →
      IsLeast case.script.now case.report.now timed.line offences.Missing
  missing_verdict event m timed e = record {
    offends = (
      is.marked.judged,
      missing_is m.place d.0 timed d.1 at_event (ap (is_missing reported (m.place + 1)) d.2 ∙ m.is),
    );
    least = λ other another h. by other another (source_of other another h);
  }
    where
      d : (datagram : Datagram) × (slice_get (sent_list case is) m.place ≡ Some datagram) × (sent_of case datagram ≡ m.sent)
      d = datagram_at m.place m.sent m.at

      own_event : d.0.event ≡ event
      own_event = ap (λ (s : Sent). s.event) d.2 ∙ m.of_event

      at_event : slice_get (events_of case) d.0.event ≡ Some timed
      at_event = ap (slice_get (events_of case)) own_event ∙ e

      others : (other : ℕ) (missing : IsMissing a other) → Order m.place missing.place
          → (timed.line < other) ⊎ ((timed.line ≡ other) × (rank offences.Missing ≤ rank offences.Missing))
      others other missing (Before less) =
          let later = in_order a.refused 0 (events_of case) m.place missing.place d.0 missing.datagram less d.1 missing.accepted in
          let line = later_event 0 (events_of case) is.rules.lines d.0.event missing.datagram.event timed missing.timed later at_event missing.sent in
          let of = missing.of_line in
          inl (omega (arith, line, of))
      others other missing (Same same) =
          let one : d.0 ≡ missing.datagram =
          some_same d.0 missing.datagram (sym d.1 ∙ (ap (slice_get (sent_list case is)) same ∙ missing.accepted)) in
          let own : timed ≡ missing.timed =
          some_same timed missing.timed (sym at_event ∙ (ap (λ (g : Datagram). slice_get (events_of case) g.event) one ∙ missing.sent)) in
          inr (ap (λ (t : Timed). t.line) own ∙ missing.of_line, omega arith)
      others other missing (After more) =
          absurd (true≢false (sym (is_missing_so other missing)
          ∙ m.before missing.place (sent_of case missing.datagram) more (noted_at missing.place missing.datagram missing.accepted)))

      by : (other : ℕ) (another : Offence) → Source other another
          → (timed.line < other) ⊎ ((timed.line ≡ other) × (rank offences.Missing ≤ rank another))
      by other another (AtLine place given at of_line fault) =
          (let less = event_before event timed place given e at in inl (omega (arith, less, of_line)))
      by other another (AtEvent missing same) =
          subst (λ (r : Offence). (timed.line < other) ⊎ ((timed.line ≡ other) × (rank offences.Missing ≤ rank r))) (sym same)
          (others other missing (order m.place missing.place))

  -- ---- what is answered

  pub missing_answer : (findings : Findings) → AreFound reported (sents_of case) findings → (event : ℕ) → findings.missing ≡ Some event → (line : ℕ)
      → line ≡ line_in (events_of case) event →
      IsLeast case.script.now case.report.now line offences.Missing
  missing_answer findings found event missing line e =
      let m : FirstMissing reported (sents_of case) event = subst (λ (o : Option ℕ). IsMissed reported (sents_of case) o) missing found.missing in
      let t = missing_event event m in
      subst (λ n. IsLeast case.script.now case.report.now n offences.Missing)
      (sym (e ∙ ap (λ (o : Option Timed). elim o [ None ↦ 0 | Some timed ↦ timed.line ]) t.1))
      (missing_verdict event m t.0 t.1)

  none_missing : (findings : Findings) → AreFound reported (sents_of case) findings → findings.missing ≡ None → IsMissed reported (sents_of case) None
  none_missing findings found none = subst (λ (o : Option ℕ). IsMissed reported (sents_of case) o) none found.missing

  pub first_answer : (findings : Findings) → AreFound reported (sents_of case) findings → findings.missing ≡ None → (reading : Reading)
      → IsRead case (length reported) reading →
      (found : Found) → reading.first ≡ Some found → IsLeast case.script.now case.report.now found.line found.reason
  first_answer findings are none reading read found first = first_verdict (none_missing findings are none) reading read found first

  pub none_answer : (findings : Findings) → AreFound reported (sents_of case) findings → findings.missing ≡ None → (reading : Reading)
      → IsRead case (length reported) reading →
      reading.first ≡ None → HasNoOffence case.script.now case.report.now
  none_answer findings are none reading read first = none_verdict (none_missing findings are none) reading read first
