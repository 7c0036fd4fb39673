-- The octets of the datagrams that were sent, after one event more.
use Rattle.std.proofs.Common.{◌≡◌, ℕ, suc, ◌+◌, ◌==◌, ◌||◌, Bool, true, false, not, ◌++◌, map, take, length, slice_get, List, [], ◌∷◌, Option, None, Some, refl, sym, ap, subst, ◌∙◌, append-nil, arith}
use Rattle.std.specs.Prelude.{if◌then◌else◌}
use Rattle.std.specs.List.{flat_map, list_any}
use Rattle.std.proofs.Math.Bool.{or-false}
use Rattle.std.proofs.lemmas.Bool.{eq-eqb}
use Rattle.std.proofs.lemmas.List.{map-append}
use Rattle.std.proofs.lemmas.List.Folds.{list_any-append}
use Rattle.scenario_defs.specs.Rules.{ScriptRules}
use Rattle.scenario_defs.specs.declared.event.Event.{Event}
use Rattle.scenario_defs.specs.declared.event.Event.TheVariants as events
use Rattle.scenario_defs.specs.declared.event.Script.{Script}
use Rattle.scenario_defs.specs.declared.event.Timed.{Timed}
use Rattle.scenario_defs.specs.declared.report.Refusal.{Refusal}
use Rattle.scenario_defs.specs.declared.report.ReportLine.{ReportLine}
use Rattle.scenario_defs.specs.declared.report.ReportLine.TheVariants as lines
use Rattle.mvpn_model.specs.Past.{is_accepted}
use Rattle.mvpn_model.specs.Report.{Datagram, datagrams, refused_line, refused_lines, sent_by}
use Rattle.network_defs.specs.Costs.{Cores}
use Rattle.network_defs.specs.Events.{Happened, Done, done}
use Rattle.network_defs.specs.Refusals.{refusal}
use Rattle.network_defs.specs.Run.{Run, Traced, outcome, report_of, traced}
use Rattle.network_defs.specs.World.{World, start}
use Rattle.delivery_laws.specs.Flood.{lines_in}
use Rattle.delivery_laws.proofs.Accepted.{TellsAccepted, accepts}
use Rattle.delivery_laws.proofs.Sendings.{datagrams_both, tells_later}
use Rattle.delivery_laws.proofs.Splits.{take_to}
use Rattle.hop_laws.specs.Hops.{refuses, sent_in}
use Rattle.hop_laws.proofs.Ends.{all_tell, first_alike, length_at, rises_next, run_next}
use Rattle.hop_laws.proofs.Hops.{AreAlike, acts_refused, same_datagrams}

-- ---- refused lines

among_line : (number : ℕ) (line : ReportLine) → list_any (λ l. l == number) (refused_line line) ≡ refuses number line
among_line number (lines.Refused line reason) = or-false (line == number)
among_line number other = refl

among_lines : (number : ℕ) (all : List ReportLine) → list_any (λ l. l == number) (flat_map refused_line all) ≡ list_any (refuses number) all
among_lines number [] = refl
among_lines number (line ∷ more) =
    list_any-append (λ l. l == number) (refused_line line) (flat_map refused_line more) ∙ (λ i. among_line number line i || among_lines number more i)

second_false : (a b : Bool) → not (a || b) ≡ true → b ≡ false
second_false true b e = absurd cc
second_false false true e = absurd cc
second_false false false e = refl

-- ---- what an event brings

-- its number is not part of the octets
any_number : (number : ℕ) (event : Event) → map (λ (datagram : Datagram). datagram.octets) (sent_by number event)
    ≡ map (λ (datagram : Datagram). datagram.octets) (sent_by 0 event)
any_number number (events.Send site source group payload) = refl
any_number number (events.Packet site octets) = refl
any_number number other = refl

brings : (accepted refused : Bool) (number : ℕ) (event : Event) → accepted ≡ not refused →
    map (λ (datagram : Datagram). datagram.octets) ((if accepted then sent_by number event else []) ++ [])
    ≡ (if refused then [] else map (λ (datagram : Datagram). datagram.octets) (sent_by 0 event))
brings accepted true number event e = ap (λ b. map (λ (datagram : Datagram). datagram.octets) ((if b then sent_by number event else []) ++ [])) e
brings accepted false number event e =
    ap (λ b. map (λ (datagram : Datagram). datagram.octets) ((if b then sent_by number event else []) ++ [])) e
    ∙ ap (map (λ (datagram : Datagram). datagram.octets)) (append-nil (sent_by number event)) ∙ any_number number event

-- Its lines say whether it is accepted.
module _ (old : World) (timed : Timed) (acts : List Happened) (next : World) (is : outcome old timed ≡ Done acts next) (front : List ℕ)
    (accepted : is_accepted (front ++ flat_map refused_line (lines_in acts)) timed ≡ accepts (refusal old timed.event)) where
  not_refused : accepts (refusal old timed.event) ≡ true → list_any (refuses timed.line) (lines_in acts) ≡ false
  not_refused taken =
      let own = flat_map refused_line (lines_in acts) in
      let none : not (list_any (λ l. l == timed.line) front || list_any (λ l. l == timed.line) own) ≡ true =
      ap not (sym (list_any-append (λ l. l == timed.line) front own)) ∙ accepted ∙ taken in
      sym (among_lines timed.line (lines_in acts)) ∙ second_false (list_any (λ l. l == timed.line) front) (list_any (λ l. l == timed.line) own) none

  by_refusal : (o : Option Refusal) → refusal old timed.event ≡ o
      → (elim o [ None ↦ done old timed.event | Some reason ↦ Done (record { act = None; lines = lines.Refused timed.line reason ∷ [] } ∷ []) old ])
      ≡ Done acts next →
      accepts o ≡ not (list_any (refuses timed.line) (lines_in acts))
  by_refusal None e same = ap not (sym (not_refused (ap accepts e)))
  by_refusal (Some reason) e same =
      let first : List Happened = record { act = None; lines = lines.Refused timed.line reason ∷ [] } ∷ [] in
      let own : first ≡ acts = cc in
      let own_line : list_any (refuses timed.line) (lines_in first) ≡ true = (rw (eq-eqb timed.line timed.line refl) refl) in
      ap not (sym (ap (λ (all : List Happened). list_any (refuses timed.line) (lines_in all)) (sym own) ∙ own_line))

  pub lines_accept : accepts (refusal old timed.event) ≡ not (list_any (refuses timed.line) (lines_in acts))
  lines_accept = by_refusal (refusal old timed.event) refl is

-- ---- after the first events

module _ (cores : Cores) (script : Script) (count : ℕ) (trace : List Traced) (state : World)
    (run : Run cores script (take count script.events) trace state) (rules : ScriptRules script)
    (timed : Timed) (at : slice_get script.events count ≡ Some timed) (acts : List Happened) (next : World)
    (is : outcome state timed ≡ Done acts next) where
  abbrev first : List Timed
  first = take count script.events

  abbrev refused : List ℕ
  refused = refused_lines (report_of trace)

  abbrev all_refused : List ℕ
  all_refused = refused ++ flat_map refused_line (lines_in acts)

  -- What was sent up to the event is what was sent before it, and what it sends, unless one of its lines refuses it.
  pub sent_next : sent_in script.events all_refused (count + 1)
      ≡ sent_in script.events refused count ++ (if list_any (refuses timed.line) (lines_in acts) then [] else map
      (λ (datagram : Datagram). datagram.octets) (sent_by 0 timed.event))
  sent_next =
      let octets = λ (list : List Datagram). map (λ (datagram : Datagram). datagram.octets) list in
      let begin = start script.scenario cores in
      let lists : refused ++ refused_lines (report_of (traced count acts)) ≡ all_refused =
      ap (λ (own : List ℕ). refused ++ own) (acts_refused count acts) in
      let rises = rises_next cores script count trace state run rules timed at in
      let whole = run_next cores script count trace state run rules timed at acts next is in
      let tells =
      subst (λ (l : List ℕ). TellsAccepted l begin (first ++ timed ∷ [])) lists
      (all_tell cores script count trace state run (timed ∷ []) (traced count acts) next rises whole) in
      let alike =
      subst (λ (l : List ℕ). AreAlike l refused first) lists
      (first_alike cores script count trace state run (timed ∷ []) (traced count acts) next rises whole) in
      let accepted : is_accepted all_refused timed ≡ accepts (refusal state timed.event) =
      (tells_later all_refused first (timed ∷ []) begin 0 trace state tells run).0 in
      let place : count ≡ 0 + length first = omega (arith, length_at script.events count timed at) in
      let taken : take (count + 1) script.events ≡ first ++ timed ∷ [] =
      (let same : count + 1 ≡ suc count = omega arith in ap (λ (n : ℕ). take n script.events) same ∙ take_to script.events count timed at) in
      ap (λ (l : List Timed). octets (datagrams all_refused 0 l)) taken
      ∙ ap octets (datagrams_both all_refused first (timed ∷ []) 0 count place)
      ∙ map-append (λ (datagram : Datagram). datagram.octets) (datagrams all_refused 0 first) (datagrams all_refused count (timed ∷ []))
      ∙ (λ i. octets (same_datagrams all_refused refused 0 first alike i)
      ++ brings (is_accepted all_refused timed) (list_any (refuses timed.line) (lines_in acts)) count timed.event
      (accepted ∙ lines_accept state timed acts next is refused accepted) i)
