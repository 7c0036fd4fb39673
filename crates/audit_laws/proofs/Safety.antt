-- No offence of an `out` line by itself is that the report is safe.
use Rattle.std.proofs.Common.{◌≡◌, ℕ, zero, suc, ◌+◌, ◌-◌, ◌<◌, ◌≤◌, ◌==◌, Bool, true, false, not, ◌||◌, cond, ◌++◌, take, length, List, [], ◌∷◌, slice_get, Option, None, Some, nat_eq, refl, sym, ap, subst, ◌∙◌, arith}
use Rattle.std.specs.List.{AllByRecursion, list_any, list_all}
use Rattle.std.specs.Cmp.Lexicographic.{same_text, pointwise}
use Rattle.std.proofs.lemmas.Cmp.{nat_list_eq_equiv}
use Rattle.std.proofs.lemmas.Bool.{true≢false}
use Rattle.std.proofs.lemmas.List.Folds.{list_any-append}
use Rattle.std.proofs.lemmas.Option.{none-some}
use Rattle.mv_base.specs.declared.ids.IfaceId.{IfaceId}
use Rattle.mv_base.specs.declared.ids.SiteId.{SiteId}
use Rattle.scenario_defs.specs.Vpn.{admits, is_of_site}
use Rattle.scenario_defs.specs.declared.event.Event.{Event}
use Rattle.scenario_defs.specs.declared.event.Event.TheVariants as events
use Rattle.scenario_defs.specs.declared.event.Script.{Script}
use Rattle.scenario_defs.specs.declared.event.Timed.{Timed}
use Rattle.scenario_defs.specs.declared.report.ReportLine.{ReportLine}
use Rattle.scenario_defs.specs.declared.report.ReportLine.TheVariants as lines
use Rattle.scenario_defs.specs.declared.scenario.Iface.{Iface}
use Rattle.scenario_defs.specs.declared.scenario.Scenario.{Scenario}
use Rattle.mvpn_model.specs.Past.{is_accepted}
use Rattle.mvpn_model.specs.Report.{Datagram, sent_by, datagrams}
use Rattle.mvpn_model.specs.Safe.{IsAdmitted, IsSafeOut, IsSafeLine, IsSafeEntry, Safe}
use Rattle.network_laws.proofs.Lists.{each_map}
use Rattle.audit_defs.specs.declared.verdict.Numbered.{Numbered}
use Rattle.audit_defs.specs.Markers.{values, is_marker, named, is_state, is_named, is_marked, marked_places}
use Rattle.audit_defs.specs.Cut.{unnamed, refused_by, Given, next_of, places_after, give, Audited, audited, entry_of, cut}
use Rattle.audit_defs.specs.Offences.{named_before, iface_admits, site_admitted, OutLine, OutOf, HasNoDatagram, HasOtherOctets, IsNotAdmitted}
use Rattle.audit_defs.proofs.Lists.{and_both, and_true, or_left, or_right, or_other, both_no, some_same, each_from, each_got, got_map, any_got, all_got, got_all}

-- ---- events with a marker send nothing

-- the event of that place sends nothing
abbrev pub IsQuiet : List ℕ → List Timed → ℕ → Type 0
IsQuiet refused events place = datagrams refused 0 (take (suc place) events) ≡ datagrams refused 0 (take place events)

sends_none : (b : Bool) (number : ℕ) (event : Event) → b ≡ false → (cond b (sent_by number event) []) ++ [] ≡ []
sends_none b number event e = ap (λ x. (cond x (sent_by number event) []) ++ []) e

state_sends_none : (b : Bool) (number : ℕ) (event : Event) → is_state event ≡ true → (cond b (sent_by number event) []) ++ [] ≡ []
state_sends_none false number event e = refl
state_sends_none true number events.State e = refl
state_sends_none true number (events.Tick count) e = refl
state_sends_none true number (events.Send site source group payload) e = absurd (true≢false (sym e))
state_sends_none true number (events.Packet site octets) e = absurd (true≢false (sym e))
state_sends_none true number other e = refl

module _ (refused own : List ℕ) (within : (timed : Timed) → is_named own timed ≡ true → is_accepted refused timed ≡ false) where
  marked_sends_none : (number : ℕ) (timed : Timed) → is_marked own timed ≡ true → datagrams refused number (timed ∷ []) ≡ []
  marked_sends_none number timed e = by (is_state timed.event) refl
    where
      by : (b : Bool) → is_state timed.event ≡ b → datagrams refused number (timed ∷ []) ≡ []
      by true is = state_sends_none (is_accepted refused timed) number timed.event is
      by false is = sends_none (is_accepted refused timed) number timed.event (within timed (sym (ap (λ b. b || is_named own timed) is) ∙ e))

  quiet_at : (number : ℕ) (list : List Timed) (place : ℕ) (timed : Timed) → slice_get list place ≡ Some timed → is_marked own timed ≡ true
      → datagrams refused number (take (suc place) list) ≡ datagrams refused number (take place list)
  quiet_at number [] place timed e is = absurd (none-some timed e)
  quiet_at number (first ∷ list) zero timed e is = marked_sends_none number first (ap (is_marked own) (some_same first timed e) ∙ is)
  quiet_at number (first ∷ list) (suc place) timed e is =
      ap (λ (l : List Datagram). (cond (is_accepted refused first) (sent_by number first.event) []) ++ l)
      (quiet_at (number + 1) list place timed e is)

  -- each place is that of an event with a marker, from that number on
  abbrev IsMarkedFrom : ℕ → List Timed → ℕ → Type 0
  IsMarkedFrom number list place =
      (offset : ℕ) × (timed : Timed) × (place ≡ number + offset) × (slice_get list offset ≡ Some timed) × (is_marked own timed ≡ true)

  one_more : (number : ℕ) (first : Timed) (list : List Timed) (places : List ℕ) → AllByRecursion (IsMarkedFrom (number + 1) list) places
      → AllByRecursion (IsMarkedFrom number (first ∷ list)) places
  one_more number first list [] h = tt
  one_more number first list (place ∷ places) h =
      ((suc h.0.0, h.0.1, (let e = h.0.2 in omega (arith, e)), h.0.3, h.0.4), one_more number first list places h.1)

  all_marked : (number : ℕ) (list : List Timed) → AllByRecursion (IsMarkedFrom number list) (marked_places own number list)
  all_marked number [] = tt
  all_marked number (first ∷ list) =
      by (is_marked own first) refl (one_more number first list (marked_places own (number + 1) list) (all_marked (number + 1) list))
    where
      by : (b : Bool) → is_marked own first ≡ b → AllByRecursion (IsMarkedFrom number (first ∷ list)) (marked_places own (number + 1) list)
          → AllByRecursion (IsMarkedFrom number (first ∷ list))
          (cond b (number ∷ marked_places own (number + 1) list) (marked_places own (number + 1) list))
      by true is rest = ((zero, first, omega arith, refl, is), rest)
      by false is rest = rest

  places_quiet : (list : List Timed) (places : List ℕ) → AllByRecursion (IsMarkedFrom 0 list) places → AllByRecursion (IsQuiet refused list) places
  places_quiet list [] h = tt
  places_quiet list (place ∷ places) h =
      let at : h.0.0 ≡ place = (let e = h.0.2 in omega (arith, e)) in
      (subst (IsQuiet refused list) at (quiet_at 0 list h.0.0 h.0.1 h.0.3 h.0.4), places_quiet list places h.1)

all_taken : (xs : List Timed) (count : ℕ) → length xs ≤ count → take count xs ≡ xs
all_taken [] zero le = refl
all_taken [] (suc count) le = refl
all_taken (x ∷ xs) zero le = absurd (omega (arith, le))
all_taken (x ∷ xs) (suc count) le = (λ i. x ∷ all_taken xs count (omega (arith, le)) i)

end_quiet : (refused : List ℕ) (list : List Timed) → IsQuiet refused list (length list)
end_quiet refused list =
    ap (λ l. datagrams refused 0 l) (all_taken list (suc (length list)) (omega arith) ∙ sym (all_taken list (length list) (omega arith)))

module _ (P : ℕ → Type 0) (end : ℕ) (at_end : P end) where
  next_meets : (places : List ℕ) → AllByRecursion P places → P (next_of end places)
  next_meets [] h = at_end
  next_meets (place ∷ places) h = h.0

  after_meets : (b : Bool) (places : List ℕ) → AllByRecursion P places → AllByRecursion P (places_after b places)
  after_meets false places h = h
  after_meets true [] h = h
  after_meets true (place ∷ places) h = h.1

  given_meets : (all : List Numbered) (places : List ℕ) → AllByRecursion P places
      → AllByRecursion (λ (given : Given). P given.event) (give end places all)
  given_meets [] places h = tt
  given_meets (line ∷ all) places h =
      (next_meets places h, given_meets all (places_after (is_marker line.value) places) (after_meets (is_marker line.value) places h))

named_refused : (events : List Timed) (all : List ReportLine) (timed : Timed) → is_named (named all) timed ≡ true
    → is_accepted (refused_by events all) timed ≡ false
named_refused events all timed e =
    ap not (list_any-append (λ l. l == timed.line) (named all) (unnamed (named all) events)
    ∙ or_left (is_named (named all) timed) (list_any (λ l. l == timed.line) (unnamed (named all) events)) e)

abbrev pub AreQuiet : Audited → Type 0
AreQuiet a = AllByRecursion (λ (given : Given). IsQuiet a.refused a.events given.event) a.lines

pub lines_are_quiet : (script : Script) (all : List Numbered) → AreQuiet (audited script all)
lines_are_quiet script all =
    let own = named (values all) in
    let refused = refused_by script.events (values all) in
    let within = named_refused script.events (values all) in
    given_meets (IsQuiet refused script.events) (length script.events) (end_quiet refused script.events) all (marked_places own 0 script.events)
    (places_quiet refused own within script.events (marked_places own 0 script.events) (all_marked refused own within 0 script.events))

-- ---- admission

pub admitted_there : (scenario : Scenario) (iface : IfaceId) (site : SiteId) → site_admitted scenario iface site ≡ true
    → IsAdmitted scenario iface site
admitted_there scenario iface site e = by (slice_get scenario.ifaces iface.0) refl
  where
    each : (i : ℕ) (other : Iface) → slice_get scenario.ifaces i ≡ Some other → is_of_site site other ≡ true
        → iface_admits scenario iface other.vrf ≡ true
    each i other at is =
        let both =
        and_both (list_any (is_of_site site) scenario.ifaces)
        (list_all (λ (own : Iface). not (is_of_site site own) || iface_admits scenario iface own.vrf) scenario.ifaces) e in
        or_other (is_of_site site other) (iface_admits scenario iface other.vrf) is
        (all_got (λ (own : Iface). not (is_of_site site own) || iface_admits scenario iface own.vrf) scenario.ifaces i other both.1 at)

    some : list_any (is_of_site site) scenario.ifaces ≡ true
    some = (and_both (list_any (is_of_site site) scenario.ifaces)
        (list_all (λ (own : Iface). not (is_of_site site own) || iface_admits scenario iface own.vrf) scenario.ifaces) e).0

    by : (o : Option Iface) → slice_get scenario.ifaces iface.0 ≡ o → IsAdmitted scenario iface site
    by None is =
        let one = any_got (is_of_site site) scenario.ifaces some in
        absurd (true≢false (sym (each one.0 one.1 one.2 one.3)
        ∙ ap (λ (o : Option Iface). elim o [ None ↦ false | Some own ↦ admits scenario own.vrf one.1.vrf ]) is))
    by (Some own) is = record {
      own = own;
      known = is;
      attached = some;
      admitted =
          λ i other at of. sym (ap (λ (o : Option Iface). elim o [ None ↦ false | Some own ↦ admits scenario own.vrf other.vrf ]) is)
          ∙ each i other at of;
    }

pub admitted_back : (scenario : Scenario) (iface : IfaceId) (site : SiteId) → IsAdmitted scenario iface site
    → site_admitted scenario iface site ≡ true
admitted_back scenario iface site h =
    and_true (list_any (is_of_site site) scenario.ifaces)
    (list_all (λ (own : Iface). not (is_of_site site own) || iface_admits scenario iface own.vrf) scenario.ifaces) h.attached
    (got_all (λ (own : Iface). not (is_of_site site own) || iface_admits scenario iface own.vrf) scenario.ifaces
    (λ i other at. by i other at (is_of_site site other) refl))
  where
    by : (i : ℕ) (other : Iface) → slice_get scenario.ifaces i ≡ Some other → (b : Bool) → is_of_site site other ≡ b
        → (not (is_of_site site other) || iface_admits scenario iface other.vrf) ≡ true
    by i other at true is =
        or_right (not (is_of_site site other)) (iface_admits scenario iface other.vrf)
        (ap (λ (o : Option Iface). elim o [ None ↦ false | Some own ↦ admits scenario own.vrf other.vrf ]) h.known ∙ h.admitted i other at is)
    by i other at false is = or_left (not (is_of_site site other)) (iface_admits scenario iface other.vrf) (ap not is)

-- ---- lines

pub is_true : (b : Bool) → (b ≡ false → ⊥) → b ≡ true
is_true true h = refl
is_true false h = absurd (h refl)

not_other : (one other : List ℕ) → ((one ≡ other → ⊥) → ⊥) → one ≡ other
not_other one other h = by (pointwise nat_eq one other) refl
  where
    by : (b : Bool) → pointwise nat_eq one other ≡ b → one ≡ other
    by true is = same_text one other (sym is)
    by false is = absurd (h (λ e. true≢false (sym (nat_list_eq_equiv.refl one) ∙ ap (λ l. pointwise nat_eq one l) e ∙ is)))

module _ (a : Audited) (quiet : AreQuiet a) where
  abbrev upto : ℕ → List Timed
  upto event = take (event + 1) a.events

  -- what is sent before the event of a line, and up to it
  same_upto : (place : ℕ) (given : Given) → slice_get a.lines place ≡ Some given
      → datagrams a.refused 0 (upto given.event) ≡ datagrams a.refused 0 (take given.event a.events)
  same_upto place given at =
      let next : given.event + 1 ≡ suc given.event = omega arith in
      ap (λ k. datagrams a.refused 0 (take k a.events)) next
      ∙ each_got (λ (given : Given). IsQuiet a.refused a.events given.event) a.lines place given quiet at

  module _ (no_datagram : (line : ℕ) → HasNoDatagram a line → ⊥) (other_octets : (line : ℕ) → HasOtherOctets a line → ⊥)
      (not_admitted : (line : ℕ) → IsNotAdmitted a line → ⊥) where
    out_safe : (place line event number : ℕ) (iface : IfaceId) (octets : List ℕ)
        → slice_get a.lines place ≡ Some (record { line = line; event = event; value = lines.Out number iface octets })
        → IsSafeOut a.scenario (upto event) a.refused number iface octets
    out_safe place line event number iface octets at = by number at (named_before a event number) refl
      where
        by : (number : ℕ) → slice_get a.lines place ≡ Some (record { line = line; event = event; value = lines.Out number iface octets })
            → (o : Option Datagram) → named_before a event number ≡ o
            → IsSafeOut a.scenario (upto event) a.refused number iface octets
        by zero at o is =
            absurd (no_datagram line (record { place = place; event = event; number = zero; iface = iface; octets = octets; at = at }, refl))
        by (suc n) at None is =
            absurd (no_datagram line (record { place = place; event = event; number = suc n; iface = iface; octets = octets; at = at }, is))
        by (suc n) at (Some datagram) is =
            let of : OutOf a line =
            record {
              out = record { place = place; event = event; number = suc n; iface = iface; octets = octets; at = at };
              datagram =
                  datagram;
              names = is;
            } in
            let less : suc n - 1 ≡ n = omega arith in
            record {
              datagram = datagram;
              counted = omega arith;
              accepted =
                  ap (λ k. slice_get (datagrams a.refused 0 (upto event)) k) less
                  ∙ ap (λ (list : List Datagram). slice_get list n)
                  (same_upto place (record { line = line; event = event; value = lines.Out (suc n) iface octets }) at) ∙ is;
              carried = not_other octets datagram.octets (λ other. other_octets line (of, other));
              admitted =
                  admitted_there a.scenario iface datagram.site
                  (is_true (site_admitted a.scenario iface datagram.site) (λ other. not_admitted line (of, other)));
            }

    value_safe : (place line event : ℕ) (value : ReportLine) → slice_get a.lines place ≡ Some (record { line = line; event = event; value = value })
        → IsSafeLine a.scenario (upto event) a.refused value
    value_safe place line event (lines.Out number iface octets) at = out_safe place line event number iface octets at
    value_safe place line event (lines.Put kind from to bytes) at = tt
    value_safe place line event (lines.Take kind from to bytes) at = tt
    value_safe place line event (lines.Land from to label number) at = tt
    value_safe place line event (lines.Hop from to label ttl number) at = tt
    value_safe place line event (lines.Refused refused reason) at = tt
    value_safe place line event (lines.Halt halted node) at = tt
    value_safe place line event (lines.State bytes copies buffers due unready) at = tt

    pub safe_there : Safe a.scenario a.events a.refused (cut a)
    safe_there =
        each_map (IsSafeEntry a.scenario a.events a.refused) entry_of a.lines
        (each_from (λ (given : Given). IsSafeEntry a.scenario a.events a.refused (entry_of given)) a.lines
        (λ place given at. (value_safe place given.line given.event given.value at, tt)))

  module _ (safe : Safe a.scenario a.events a.refused (cut a)) where
    -- what is said of an `out` line
    line_of : (line : ℕ) (out : OutLine a line) → IsSafeOut a.scenario (upto out.event) a.refused out.number out.iface out.octets
    line_of line out =
        let given : Given = record { line = line; event = out.event; value = lines.Out out.number out.iface out.octets } in
        (each_got (IsSafeEntry a.scenario a.events a.refused) (cut a) out.place (entry_of given) safe
        (got_map entry_of a.lines out.place given out.at)).0

    names_it : (line : ℕ) (out : OutLine a line) → named_before a out.event out.number ≡ Some (line_of line out).datagram
    names_it line out = by out.number (line_of line out).counted (line_of line out).accepted
      where
        by : (number : ℕ) → 0 < number → slice_get (datagrams a.refused 0 (upto out.event)) (number - 1) ≡ Some (line_of line out).datagram
            → named_before a out.event number ≡ Some (line_of line out).datagram
        by zero some e = absurd (omega (arith, some))
        by (suc n) some e =
            let less : n ≡ suc n - 1 = omega arith in
            ap (λ (list : List Datagram). slice_get list n)
            (sym (same_upto out.place (record { line = line; event = out.event; value = lines.Out out.number out.iface out.octets }) out.at))
            ∙ ap (λ k. slice_get (datagrams a.refused 0 (upto out.event)) k) less ∙ e

    pub has_datagram : (line : ℕ) → HasNoDatagram a line → ⊥
    has_datagram line (out, none) = none-some (line_of line out).datagram (sym none ∙ names_it line out)

    says_of : (line : ℕ) (of : OutOf a line) → (line_of line of.out).datagram ≡ of.datagram
    says_of line of = some_same (line_of line of.out).datagram of.datagram (sym (names_it line of.out) ∙ of.names)

    pub has_octets : (line : ℕ) → HasOtherOctets a line → ⊥
    has_octets line (of, other) = other ((line_of line of.out).carried ∙ ap (λ (datagram : Datagram). datagram.octets) (says_of line of))

    pub is_admitted : (line : ℕ) → IsNotAdmitted a line → ⊥
    is_admitted line (of, refused) =
        both_no (site_admitted a.scenario of.out.iface of.datagram.site)
        (admitted_back a.scenario of.out.iface of.datagram.site
        (subst (λ (datagram : Datagram). IsAdmitted a.scenario of.out.iface datagram.site) (says_of line of) (line_of line of.out).admitted))
        refused
