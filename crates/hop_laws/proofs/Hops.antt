-- What more entries of a report add to its hops.
use Rattle.std.proofs.Common.{◌≡◌, ℕ, zero, suc, ◌+◌, ◌<◌, ◌≤◌, ◌++◌, map, take, List, [], ◌∷◌, refl, sym, ap, ◌∙◌, arith}
use Rattle.std.specs.Prelude.{if◌then◌else◌}
use Rattle.std.specs.List.{flat_map, AllByRecursion}
use Rattle.std.proofs.lemmas.List.Concat.{flat_map-append}
use Rattle.core_pcap.specs.declared.hop.CoreHop.{CoreHop}
use Rattle.scenario_defs.specs.declared.event.Timed.{Timed}
use Rattle.scenario_defs.specs.declared.report.ReportLine.{ReportLine}
use Rattle.mvpn_model.specs.Past.{is_accepted, ticks_in}
use Rattle.mvpn_model.specs.Report.{Datagram, Entry, datagrams, lines_of, refused_line, refused_lines, sent_by}
use Rattle.network_defs.specs.Events.{Happened}
use Rattle.network_defs.specs.Run.{report_of, traced}
use Rattle.delivery_laws.specs.Flood.{lines_in}
use Rattle.hop_laws.specs.Hops.{hop_by, hops_in, hops_of, sent_in}

-- ---- later refusals change no earlier hop

-- Both say the same of each event.
abbrev pub AreAlike : List ℕ → List ℕ → List Timed → Type 0
AreAlike a b events = AllByRecursion (λ (timed : Timed). is_accepted a timed ≡ is_accepted b timed) events

pub same_datagrams : (a b : List ℕ) (number : ℕ) (list : List Timed) → AreAlike a b list → datagrams a number list ≡ datagrams b number list
same_datagrams a b number [] same = refl
same_datagrams a b number (timed ∷ rest) same =
    (λ i. (if same.0 i then sent_by number timed.event else []) ++ same_datagrams a b (number + 1) rest same.1 i)

fewer : {X : Type 0} (P : X → Type 0) (less more : ℕ) (xs : List X) → less ≤ more → AllByRecursion P (take more xs) → AllByRecursion P (take less xs)
fewer P zero more xs few all = tt
fewer P (suc less) zero xs few all = absurd (omega (arith, few))
fewer P (suc less) (suc more) [] few all = tt
fewer P (suc less) (suc more) (x ∷ xs) few all = (all.0, fewer P less more xs (omega (arith, few)) all.1)

-- the entry is one of the first so many events
abbrev pub IsBefore : ℕ → Entry → Type 0
IsBefore count entry = entry.event < count

module _ (events : List Timed) (count : ℕ) (a b : List ℕ) (alike : AreAlike a b (take count events)) where
  same_sent : (less : ℕ) → less ≤ count → sent_in events a less ≡ sent_in events b less
  same_sent less few =
      ap (map (λ (datagram : Datagram). datagram.octets))
      (same_datagrams a b 0 (take less events) (fewer (λ (timed : Timed). is_accepted a timed ≡ is_accepted b timed) less count events few alike))

  same_entry : (entry : Entry) → IsBefore count entry → hops_in events a entry ≡ hops_in events b entry
  same_entry entry is =
      ap (λ (sent : List (List ℕ)). flat_map (hop_by (ticks_in (take entry.event events)) sent) entry.lines)
      (same_sent (entry.event + 1) (omega (arith, is)))

  same_hops : (report : List Entry) → AllByRecursion (IsBefore count) report → flat_map (hops_in events a) report ≡ flat_map (hops_in events b) report
  same_hops [] all = refl
  same_hops (entry ∷ rest) all = (λ i. same_entry entry all.0 i ++ same_hops rest all.1 i)

-- ---- more entries

lines-append : (first more : List Entry) → lines_of (first ++ more) ≡ lines_of first ++ lines_of more
lines-append first more = flat_map-append (λ (entry : Entry). entry.lines) first more

pub refused-append : (first more : List Entry) → refused_lines (first ++ more) ≡ refused_lines first ++ refused_lines more
refused-append first more = ap (flat_map refused_line) (lines-append first more) ∙ flat_map-append refused_line (lines_of first) (lines_of more)

-- Entries of later events come after the hops of those before, which stay as they are.
pub hops_more : (events : List Timed) (count : ℕ) (report more : List Entry) → AllByRecursion (IsBefore count) report →
    AreAlike (refused_lines report ++ refused_lines more) (refused_lines report) (take count events) →
    hops_of events (report ++ more) ≡ hops_of events report ++ flat_map (hops_in events (refused_lines report ++ refused_lines more)) more
hops_more events count report more before alike =
    let all = refused_lines report ++ refused_lines more in
    ap (λ (refused : List ℕ). flat_map (hops_in events refused) (report ++ more)) (refused-append report more)
    ∙ flat_map-append (hops_in events all) report more
    ∙ ap (λ (hops : List CoreHop). hops ++ flat_map (hops_in events all) more) (same_hops events count all (refused_lines report) alike report before)

-- ---- the acts of one event

-- the acts of an event, put together
abbrev pub entry_at : ℕ → List ReportLine → Entry
entry_at number all = record { event = number; lines = all }

-- The hops of the acts of an event are those of all their lines.
pub acts_hops : (events : List Timed) (refused : List ℕ) (number : ℕ) (acts : List Happened) →
    flat_map (hops_in events refused) (report_of (traced number acts)) ≡ hops_in events refused (entry_at number (lines_in acts))
acts_hops events refused number [] = refl
acts_hops events refused number (happened ∷ more) =
    ap (λ (hops : List CoreHop). hops_in events refused (entry_at number happened.lines) ++ hops) (acts_hops events refused number more)
    ∙ sym (flat_map-append (hop_by (ticks_in (take number events)) (sent_in events refused (number + 1))) happened.lines (lines_in more))

acts_lines : (number : ℕ) (acts : List Happened) → lines_of (report_of (traced number acts)) ≡ lines_in acts
acts_lines number [] = refl
acts_lines number (happened ∷ more) = ap (λ (all : List ReportLine). happened.lines ++ all) (acts_lines number more)

-- the lines that they refuse
pub acts_refused : (number : ℕ) (acts : List Happened) → refused_lines (report_of (traced number acts)) ≡ flat_map refused_line (lines_in acts)
acts_refused number acts = ap (flat_map refused_line) (acts_lines number acts)
