-- Of a run that halts: its report is safe, and each datagram of a window before is delivered once.
use Rattle.std.proofs.Common.{◌≡◌, ℕ, zero, suc, ◌+◌, ◌-◌, ◌++◌, take, length, List, [], ◌∷◌, slice_get, Some, refl, sym, ap, subst, ◌∙◌}
use Rattle.std.specs.List.{AllByRecursion, flat_map}
use Rattle.std.proofs.lemmas.List.{append-nil, map-append}
use Rattle.std.proofs.lemmas.List.Concat.{flat_map-append}
use Rattle.std.proofs.lemmas.Option.{none-some}
use Rattle.mv_base.specs.declared.ids.IfaceId.{IfaceId}
use Rattle.mv_base.specs.declared.ids.NodeId.{NodeId}
use Rattle.scenario_defs.specs.Rules.{Rises}
use Rattle.scenario_defs.specs.declared.event.Script.{Script}
use Rattle.scenario_defs.specs.declared.event.Timed.{Timed}
use Rattle.scenario_defs.specs.declared.report.ReportLine.{ReportLine}
use Rattle.scenario_defs.specs.declared.report.ReportLine.TheVariants as lines
use Rattle.scenario_defs.specs.declared.scenario.Scenario.{Scenario}
use Rattle.mvpn_model.specs.Once.{Once}
use Rattle.mvpn_model.specs.Report.{Entry, datagrams, lines_of, refused_line, refused_lines}
use Rattle.mvpn_model.specs.Safe.{IsSafeOut, IsSafeLine, IsSafeEntry, Safe}
use Rattle.network_defs.specs.Costs.{Cores}
use Rattle.network_defs.specs.Events.{Happened}
use Rattle.network_defs.specs.Run.{Traced, traced, report_of}
use Rattle.network_laws.proofs.Lists.{each_append, each_weaker}
use Rattle.rule_laws.specs.SoundHalt.{SoundHalt}
use Rattle.rule_laws.proofs.Halting.{run_before, acts_quiet}
use Rattle.rule_laws.proofs.Plain.{IsPlainLine, IsQuiet, of_plain}
use Rattle.delivery_laws.proofs.Sendings.{datagrams_both}
use Rattle.once_laws.proofs.Once.{deliver_once}
use Rattle.once_laws.proofs.SafeRuns.{safe}

-- ---- what is safe stays so when events are added

got_still : {X : Type 0} (xs ys : List X) (place : ℕ) (x : X) → slice_get xs place ≡ Some x → slice_get (xs ++ ys) place ≡ Some x
got_still [] ys place x e = absurd (none-some x e)
got_still (first ∷ xs) ys zero x e = e
got_still (first ∷ xs) ys (suc place) x e = got_still xs ys place x e

take_more : (first more : List Timed) (count : ℕ) → (rest : List Timed) × (take count (first ++ more) ≡ take count first ++ rest)
take_more first more zero = ([], refl)
take_more [] more (suc count) = (take (suc count) more, refl)
take_more (timed ∷ first) more (suc count) = (let x = take_more first more count in (x.0, λ i. timed ∷ x.1 i))

rises_first : (first more : List Timed) (number : ℕ) → Rises number (first ++ more) → Rises number first
rises_first [] more number h = tt
rises_first (timed ∷ first) more number h = (h.0, rises_first first more timed.line h.1)

module _ (scenario : Scenario) (refused : List ℕ) where
  out_more : (first more : List Timed) (number : ℕ) (iface : IfaceId) (bytes : List ℕ) → IsSafeOut scenario first refused number iface bytes
      → IsSafeOut scenario (first ++ more) refused number iface bytes
  out_more first more number iface bytes is = record {
    datagram = is.datagram;
    counted = is.counted;
    accepted =
        ap (λ list. slice_get list (number - 1)) (datagrams_both refused first more 0 (0 + length first) refl)
        ∙ got_still (datagrams refused 0 first) (datagrams refused (0 + length first) more) (number - 1) is.datagram is.accepted;
    carried = is.carried;
    admitted = is.admitted;
  }

  line_more : (first more : List Timed) (line : ReportLine) → IsSafeLine scenario first refused line
      → IsSafeLine scenario (first ++ more) refused line
  line_more first more (lines.Out number iface bytes) is = out_more first more number iface bytes is
  line_more first more (lines.Put kind from to bytes) is = tt
  line_more first more (lines.Take kind from to bytes) is = tt
  line_more first more (lines.Land from to label number) is = tt
  line_more first more (lines.Hop from to label ttl number) is = tt
  line_more first more (lines.Refused line reason) is = tt
  line_more first more (lines.Halt line node) is = tt
  line_more first more (lines.State bytes copies buffers due unready) is = tt

  entry_more : (first more : List Timed) (entry : Entry) → IsSafeEntry scenario first refused entry
      → IsSafeEntry scenario (first ++ more) refused entry
  entry_more first more entry is =
      let own : List Timed = take (entry.event + 1) first in
      let x = take_more first more (entry.event + 1) in
      subst (λ (events : List Timed). AllByRecursion (IsSafeLine scenario events refused) entry.lines) (sym x.1)
      (each_weaker (IsSafeLine scenario own refused) (IsSafeLine scenario (own ++ x.0) refused) (line_more own x.0) entry.lines is)

  -- ---- the acts of the event that lacks a label

  quiet_safe : (events : List Timed) (number : ℕ) (acts : List Happened) → AllByRecursion IsQuiet acts
      → Safe scenario events refused (report_of (traced number acts))
  quiet_safe events number [] q = tt
  quiet_safe events number (happened ∷ more) q =
      let upto : List Timed = take (number + 1) events in (
        each_weaker IsPlainLine (IsSafeLine scenario upto refused)
            (of_plain (IsSafeLine scenario upto refused) (λ kind from to bytes. tt) (λ kind from to bytes. tt)
            (λ bytes copies buffers due unready. tt)) happened.lines q.0.lines,
        quiet_safe events number more q.1,
      )

plain_refuses : (all : List ReportLine) → AllByRecursion IsPlainLine all → flat_map refused_line all ≡ []
plain_refuses [] p = refl
plain_refuses (line ∷ more) p =
    (λ i. of_plain (λ (own : ReportLine). refused_line own ≡ []) (λ kind from to bytes. refl) (λ kind from to bytes. refl)
    (λ bytes copies buffers due unready. refl) line p.0 i ++ plain_refuses more p.1 i)

refused_both : (first more : List Entry) → refused_lines (first ++ more) ≡ refused_lines first ++ refused_lines more
refused_both first more =
    ap (flat_map refused_line) (flat_map-append (λ (entry : Entry). entry.lines) first more)
    ∙ flat_map-append refused_line (lines_of first) (lines_of more)

quiet_refuses : (number : ℕ) (acts : List Happened) → AllByRecursion IsQuiet acts → refused_lines (report_of (traced number acts)) ≡ []
quiet_refuses number [] q = refl
quiet_refuses number (happened ∷ more) q =
    flat_map-append refused_line happened.lines (lines_of (report_of (traced number more)))
    ∙ (λ i. plain_refuses happened.lines q.0.lines i ++ quiet_refuses number more q.1 i)

-- ---- runs that halt

module _ (cores : Cores) (script : Script) (report : List Entry) (node : NodeId) (s : SoundHalt cores script report node)
    (rises : Rises 0 script.events) where
  abbrev late : List Timed
  late = s.halt.timed ∷ s.halt.after

  abbrev begun : List Entry
  begun = report_of s.halt.trace

  abbrev ending : List Entry
  ending = report_of (traced (length s.halt.before) s.halt.acts)

  abbrev halted : List Entry
  halted = record { event = length s.halt.before; lines = lines.Halt s.halt.timed.line node ∷ [] } ∷ []

  report_is : report ≡ (begun ++ ending) ++ halted
  report_is =
      s.halt.whole ∙ ap (λ (entries : List Entry). entries ++ halted)
      (map-append {A = Traced} {B = Entry} (λ step. record { event = step.event; lines = step.happened.lines }) s.halt.trace
      (traced (length s.halt.before) s.halt.acts))

  -- the events that are refused are those of the events before
  refused_is : refused_lines report ≡ refused_lines begun
  refused_is =
      ap refused_lines report_is ∙ refused_both (begun ++ ending) halted ∙ append-nil (refused_lines (begun ++ ending)) ∙ refused_both begun ending
      ∙ ap (λ (l : List ℕ). refused_lines begun ++ l) (quiet_refuses (length s.halt.before) s.halt.acts (acts_quiet cores script report node s))
      ∙ append-nil (refused_lines begun)

  rises_before : Rises 0 s.halt.before
  rises_before = rises_first s.halt.before late 0 (subst (Rises 0) s.halt.events rises)

  pub halt_delivers_once : Once script.scenario s.halt.before (refused_lines begun) begun
  halt_delivers_once = deliver_once cores script s.halt.before s.halt.trace s.halt.world (run_before cores script report node s) rises_before

  pub halt_is_safe : Safe script.scenario script.events (refused_lines report) report
  halt_is_safe =
      let refused : List ℕ = refused_lines report in
      let early : Safe script.scenario s.halt.before refused begun =
      subst (λ (l : List ℕ). Safe script.scenario s.halt.before l begun) (sym refused_is)
      (safe cores script s.halt.before s.halt.trace s.halt.world (run_before cores script report node s) rises_before) in
      let first : Safe script.scenario script.events refused begun =
      subst (λ (l : List Timed). Safe script.scenario l refused begun) (sym s.halt.events)
      (each_weaker (IsSafeEntry script.scenario s.halt.before refused) (IsSafeEntry script.scenario (s.halt.before ++ late) refused)
      (entry_more script.scenario refused s.halt.before late) begun early) in
      let quiet : Safe script.scenario script.events refused ending =
      quiet_safe script.scenario refused script.events (length s.halt.before) s.halt.acts (acts_quiet cores script report node s) in
      let Entries : Entry → Type 0 = IsSafeEntry script.scenario script.events refused in
      subst (Safe script.scenario script.events refused) (sym report_is)
      (each_append Entries (begun ++ ending) halted (each_append Entries begun ending first quiet) ((tt, tt), tt))
