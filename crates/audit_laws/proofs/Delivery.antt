-- No offence of a datagram of a window is that the report delivers once.
use Rattle.std.specs.Prelude.{◌&&◌}
use Rattle.std.proofs.Common.{◌≡◌, ℕ, zero, suc, ◌+◌, ◌<◌, ◌≤◌, ◌==◌, Bool, true, false, cond, map, take, length, List, [], ◌∷◌, slice_get, Option, None, Some, refl, sym, ap, ◌∙◌, arith}
use Rattle.std.proofs.lemmas.Bool.{true≢false, eqb-true, eq-eqb}
use Rattle.std.proofs.lemmas.List.Sums.{sum_by-cons}
use Rattle.std.proofs.lemmas.Option.{none-some}
use Rattle.mv_base.specs.declared.ids.IfaceId.{IfaceId}
use Rattle.scenario_defs.specs.declared.event.Timed.{Timed}
use Rattle.scenario_defs.specs.declared.report.ReportLine.{ReportLine}
use Rattle.scenario_defs.specs.declared.report.ReportLine.TheVariants as lines
use Rattle.mvpn_model.specs.Once.{Once}
use Rattle.mvpn_model.specs.Report.{Datagram, datagrams, lines_of, is_out_at, outs_at}
use Rattle.once_laws.proofs.delivery_laws.Sendings.{datagrams_both, datagrams_within}
use Rattle.audit_defs.specs.Cut.{Given, Audited, entry_of, cut}
use Rattle.audit_defs.specs.Offences.{named_before, InWindow, is_receiver, OutLine, OutOf, HasNoDatagram, IsAgain, IsNotAsked, IsMissing}
use Rattle.audit_defs.proofs.Lists.{and_both, front_of, got_still, each_got, step_count, counted, one_found, two_found, found_one, found_two}

-- ---- which lines say so

abbrev pub says_at : ℕ → IfaceId → Given → Bool
says_at number iface given = is_out_at number iface given.value

pub outs_are : (number : ℕ) (iface : IfaceId) (all : List Given) → outs_at (map entry_of all) number iface ≡ counted (says_at number iface) all
outs_are number iface [] = refl
outs_are number iface (given ∷ all) =
    sum_by-cons (λ (line : ReportLine). cond (is_out_at number iface line) 1 0) given.value (lines_of (map entry_of all))
    ∙ ap (λ (n : ℕ). cond (is_out_at number iface given.value) 1 0 + n) (outs_are number iface all)
    ∙ step_count (is_out_at number iface given.value) (counted (says_at number iface) all)

-- what such a line is
out_of : (number : ℕ) (iface : IfaceId) (value : ReportLine) → is_out_at number iface value ≡ true
    → (bytes : List ℕ) × (value ≡ lines.Out number iface bytes)
out_of number iface (lines.Out own_number own_iface bytes) e =
    let both = and_both (own_number == number) (own_iface.0 == iface.0) e in
    let numbers : own_number ≡ number = eqb-true own_number number both.0 in
    let ifaces : own_iface.0 ≡ iface.0 = eqb-true own_iface.0 iface.0 both.1 in
    (bytes, (λ i. lines.Out (numbers i) (record { 0 = ifaces i }) bytes))
out_of number iface (lines.Refused line reason) e = absurd (true≢false (sym e))
out_of number iface (lines.State a b c d f) e = absurd (true≢false (sym e))
out_of number iface (lines.Halt line node) e = absurd (true≢false (sym e))
out_of number iface (lines.Put kind from to bytes) e = absurd (true≢false (sym e))
out_of number iface (lines.Take kind from to bytes) e = absurd (true≢false (sym e))
out_of number iface (lines.Hop from to label ttl own) e = absurd (true≢false (sym e))
out_of number iface (lines.Land from to label own) e = absurd (true≢false (sym e))

-- ---- datagrams

pub still_named : (refused : List ℕ) (events : List Timed) (count place : ℕ) (datagram : Datagram)
    → slice_get (datagrams refused 0 (take count events)) place ≡ Some datagram → slice_get (datagrams refused 0 events) place ≡ Some datagram
still_named refused events count place datagram e =
    let r = front_of events count in
    ap (λ l. slice_get (datagrams refused 0 l) place) (sym r.1)
    ∙ ap (λ (l : List Datagram). slice_get l place) (datagrams_both refused (take count events) r.0 0 (0 + length (take count events)) refl)
    ∙ got_still (datagrams refused 0 (take count events)) (datagrams refused (0 + length (take count events)) r.0) place datagram e

at_place : {X : Type 0} (xs : List X) (place : ℕ) → place < length xs → (x : X) × (slice_get xs place ≡ Some x)
at_place [] place less = absurd (omega (arith, less))
at_place (x ∷ xs) zero less = (x, refl)
at_place (x ∷ xs) (suc place) less = at_place xs place (omega (arith, less))

its_event : (refused : List ℕ) (events : List Timed) (place : ℕ) (datagram : Datagram) → slice_get (datagrams refused 0 events) place ≡ Some datagram
    → (timed : Timed) × (slice_get events datagram.event ≡ Some timed)
its_event refused events place datagram e =
    let within =
    each_got (λ (d : Datagram). (0 ≤ d.event) × (d.event < length events)) (datagrams refused 0 events) place datagram
    (datagrams_within refused events 0 0 (length events) (omega arith) (omega arith)) e in
    at_place events datagram.event within.1

-- ---- both ways

module _ (a : Audited) where
  module _ (no_datagram : (line : ℕ) → HasNoDatagram a line → ⊥) where
    -- an `out` line names the datagram of its number
    abbrev line_of : (place number : ℕ) (iface : IfaceId) (given : Given) → slice_get a.lines place ≡ Some given → says_at number iface given ≡ true
        → OutLine a given.line
    line_of place number iface given at is = record {
      place = place;
      event = given.event;
      number = number;
      iface = iface;
      octets = (out_of number iface given.value is).0;
      at = at ∙ (λ i. Some (record { line = given.line; event = given.event; value = (out_of number iface given.value is).1 i }));
    }

    names_it : (place number : ℕ) (iface : IfaceId) (datagram : Datagram) (given : Given)
        → slice_get (datagrams a.refused 0 a.events) number ≡ Some datagram
        → slice_get a.lines place ≡ Some given → says_at (suc number) iface given ≡ true → named_before a given.event (suc number) ≡ Some datagram
    names_it place number iface datagram given accepted at is = by (slice_get (datagrams a.refused 0 (take given.event a.events)) number) refl
      where
        by : (o : Option Datagram) → slice_get (datagrams a.refused 0 (take given.event a.events)) number ≡ o
            → named_before a given.event (suc number) ≡ Some datagram
        by None e = absurd (no_datagram given.line (line_of place (suc number) iface given at is, e))
        by (Some other) e = e ∙ sym (still_named a.refused a.events given.event number other e) ∙ accepted

    abbrev of_line : (place number : ℕ) (iface : IfaceId) (datagram : Datagram) (given : Given)
        → slice_get (datagrams a.refused 0 a.events) number ≡ Some datagram
        → slice_get a.lines place ≡ Some given → says_at (suc number) iface given ≡ true → OutOf a given.line
    of_line place number iface datagram given accepted at is = record {
      out = line_of place (suc number) iface given at is;
      datagram = datagram;
      names = names_it place number iface datagram given accepted at is;
    }

    module _ (no_again : (line : ℕ) → IsAgain a line → ⊥) (no_other : (line : ℕ) → IsNotAsked a line → ⊥)
        (none_missing : (line : ℕ) → IsMissing a line → ⊥) where
      counts : (place : ℕ) (datagram : Datagram) → slice_get (datagrams a.refused 0 a.events) place ≡ Some datagram → InWindow a datagram
          → (iface : IfaceId)
          → (b : Bool) → is_receiver a datagram iface ≡ b → (count : ℕ) → counted (says_at (suc place) iface) a.lines ≡ count
          → outs_at (cut a) (place + 1) iface ≡ count → count ≡ cond b 1 0
      counts place datagram accepted window iface false asked zero e outs = refl
      counts place datagram accepted window iface false asked (suc count) e outs =
          let some : 0 < counted (says_at (suc place) iface) a.lines = omega (arith, e) in
          let r = one_found (says_at (suc place) iface) a.lines some in
          absurd (no_other r.1.line (of_line r.0 place iface datagram r.1 accepted r.2 r.3, window, asked))
      counts place datagram accepted window iface true asked zero e outs =
          let sent = its_event a.refused a.events place datagram accepted in
          absurd (none_missing sent.0.line (record {
            place = place;
            datagram = datagram;
            accepted = accepted;
            timed = sent.0;
            sent = sent.1;
            of_line = refl;
            in_window = window;
            iface = iface;
            asked = asked;
            none = outs;
          }))
      counts place datagram accepted window iface true asked (suc zero) e outs = refl
      counts place datagram accepted window iface true asked (suc (suc count)) e outs =
          let some : 1 < counted (says_at (suc place) iface) a.lines = omega (arith, e) in
          let r = two_found (says_at (suc place) iface) a.lines some in
          absurd (no_again r.3.line (
            of_line r.2 place iface datagram r.3 accepted r.7 r.8,
            window,
            record { earlier = r.0; before = r.4; given = r.1; at = r.5; says = r.6 },
          ))

      pub once_there : Once a.scenario a.events a.refused (cut a)
      once_there first last window place datagram accepted low high iface =
          let next : place + 1 ≡ suc place = omega arith in
          let outs : outs_at (cut a) (place + 1) iface ≡ counted (says_at (suc place) iface) a.lines =
          ap (λ n. outs_at (cut a) n iface) next ∙ outs_are (suc place) iface a.lines in
          outs ∙ counts place datagram accepted (first, last, window, low, high) iface (is_receiver a datagram iface) refl
          (counted (says_at (suc place) iface) a.lines) refl outs

  module _ (once : Once a.scenario a.events a.refused (cut a)) where
    -- an `out` line of a datagram of a window is one of as many as the receivers ask for
    counts_back : (place : ℕ) (datagram : Datagram) → slice_get (datagrams a.refused 0 a.events) place ≡ Some datagram → InWindow a datagram
        → (iface : IfaceId)
        → counted (says_at (suc place) iface) a.lines ≡ cond (is_receiver a datagram iface) 1 0
    counts_back place datagram accepted window iface =
        let next : suc place ≡ place + 1 = omega arith in
        sym (outs_are (suc place) iface a.lines) ∙ ap (λ n. outs_at (cut a) n iface) next
        ∙ once window.0 window.1 window.2 place datagram accepted window.3 window.4 iface

    at_most_one : (b : Bool) → cond b 1 0 ≤ 1
    at_most_one true = omega arith
    at_most_one false = omega arith

    -- what is said of the number of an `out` line
    module _ (line : ℕ) (of : OutOf a line) where
      abbrev own : Given
      own = record { line = line; event = of.out.event; value = lines.Out of.out.number of.out.iface of.out.octets }

      itself : says_at of.out.number of.out.iface own ≡ true
      itself = (λ i. eq-eqb of.out.number of.out.number refl i && eq-eqb of.out.iface.0 of.out.iface.0 refl i)

      number_is : (n : ℕ) → named_before a of.out.event n ≡ Some of.datagram
          → (place : ℕ) × (n ≡ suc place) × (slice_get (datagrams a.refused 0 a.events) place ≡ Some of.datagram)
      number_is zero e = absurd (none-some of.datagram e)
      number_is (suc place) e = (place, refl, still_named a.refused a.events of.out.event place of.datagram e)

      counts_here : InWindow a of.datagram → counted (says_at of.out.number of.out.iface) a.lines ≡ cond (is_receiver a of.datagram of.out.iface) 1 0
      counts_here window =
          let n = number_is of.out.number of.names in
          ap (λ k. counted (says_at k of.out.iface) a.lines) n.1 ∙ counts_back n.0 of.datagram n.2 window of.out.iface

    pub none_again : (line : ℕ) → IsAgain a line → ⊥
    none_again line (of, window, earlier) =
        let two =
        found_two (says_at of.out.number of.out.iface) a.lines earlier.earlier earlier.given of.out.place (own line of) earlier.before earlier.at
        earlier.says of.out.at (itself line of) in
        let here = counts_here line of window in
        let most = at_most_one (is_receiver a of.datagram of.out.iface) in
        omega (arith, two, here, most)

    pub all_asked : (line : ℕ) → IsNotAsked a line → ⊥
    all_asked line (of, window, other) =
        let one = found_one (says_at of.out.number of.out.iface) a.lines of.out.place (own line of) of.out.at (itself line of) in
        let here : counted (says_at of.out.number of.out.iface) a.lines ≡ 0 = counts_here line of window ∙ ap (λ (b : Bool). cond b 1 0) other in
        omega (arith, one, here)

    pub not_missing : (line : ℕ) → IsMissing a line → ⊥
    not_missing line missing =
        let w = missing.in_window in
        let one : outs_at (cut a) (missing.place + 1) missing.iface ≡ 1 =
        once w.0 w.1 w.2 missing.place missing.datagram missing.accepted w.3 w.4 missing.iface ∙ ap (λ (b : Bool). cond b 1 0) missing.asked in
        let none = missing.none in
        let both : 0 ≡ 1 = sym none ∙ one in
        omega (arith, both)
