-- Which offence an `out` line has, by the datagram that it names.
use Rattle.std.specs.Prelude.{◌&&◌, nat_eq, nat_lt, is_some, option_map}
use Rattle.std.proofs.Common.{◌≡◌, ℕ, zero, suc, ◌+◌, ◌<◌, ◌≤◌, Bool, true, false, not, cond, map, take, length, List, [], ◌∷◌, slice_get, Option, None, Some, refl, sym, ap, subst, ◌∙◌, arith}
use Rattle.std.specs.Cmp.Lexicographic.{pointwise, bytes_decides}
use Rattle.std.proofs.lemmas.Bool.{true≢false}
use Rattle.std.proofs.lemmas.Option.{none-some, slice_get_within}
use Rattle.audit_events.specs.scenario_defs.Rules.{IsEventOf}
use Rattle.audit_events.specs.mv_base.declared.ids.IfaceId.{IfaceId}
use Rattle.audit_events.specs.scenario_defs.declared.event.Event.{Event}
use Rattle.audit_events.specs.scenario_defs.declared.event.Event.TheVariants as events
use Rattle.audit_events.specs.scenario_defs.declared.event.Timed.{Timed}
use Rattle.audit_events.specs.mvpn_model.Past.{receivers}
use Rattle.audit_events.specs.mvpn_model.Report.{Datagram, sent_by, datagrams}
use Rattle.audit_events.specs.audit_defs.declared.verdict.Offence.{Offence}
use Rattle.audit_events.specs.audit_defs.declared.verdict.Offence.TheVariants as offences
use Rattle.audit_events.specs.audit_defs.Offences.{named_before, site_admitted, InWindow, is_receiver}
use Rattle.audit_events.specs.audit_defs.Verdicts.{rank}
use Rattle.audit_events.proofs.audit_defs.Lists.{and_both, some_same, both_no, each_got}
use Rattle.audit_events.specs.declared.case.Case.{Case}
use Rattle.mvpn_audit.specs.declared.findings.Findings.{Findings}
use Rattle.mvpn_audit.specs.declared.findings.Noted.{Noted}
use Rattle.mvpn_audit.specs.declared.judging.Out.{Out}
use Rattle.audit_events.specs.declared.sents.Sent.{Sent}
use Rattle.audit_events.specs.Case.{scenario_of, events_of, audited_of, past_of, is_windowed, IsCase}
use Rattle.mvpn_audit.specs.Exits.{exit, has_out}
use Rattle.mvpn_audit.specs.Findings.{noted_of, is_asked, is_asked_by, was_asked, AreFound}
use Rattle.mvpn_audit.specs.Judging.{IsShort, octets_sent, octets_at, sent_named, noted_named, fault_in, fault_by, fault_of, is_asked_in, has_left, IsFaultOf}
use Rattle.audit_events.specs.Sents.{sent_of, sents_of}
use Rattle.audit_events.proofs.DatagramLemmas.{before, named_front, sent_there}
use Rattle.audit_events.proofs.InWindows.{window_bits, bits_window}

-- ---- datagrams and what is noted of them

pub got_mapped : {X Y : Type 0} (f : X → Y) (xs : List X) (place : ℕ) → slice_get (map f xs) place ≡ option_map f (slice_get xs place)
got_mapped f [] place = refl
got_mapped f (x ∷ xs) zero = refl
got_mapped f (x ∷ xs) (suc place) = got_mapped f xs place

mapped_some : {X Y : Type 0} (f : X → Y) (o : Option X) (y : Y) → option_map f o ≡ Some y → (x : X) × (o ≡ Some x) × (f x ≡ y)
mapped_some f None y e = absurd (none-some y e)
mapped_some f (Some x) y e = (x, refl, some_same (f x) y e)

same_one : (a b : Datagram) → a ∷ [] ≡ b ∷ [] → a ≡ b
same_one a b e = cc

octets_same : (number : ℕ) (event : Event) (datagram : Datagram) → sent_by number event ≡ datagram ∷ [] → octets_sent event ≡ datagram.octets
octets_same number (events.Send site source group payload) datagram e = ap (λ (d : Datagram). d.octets) (same_one _ datagram e)
octets_same number (events.Packet site octets) datagram e = ap (λ (d : Datagram). d.octets) (same_one _ datagram e)
octets_same number other datagram e = absurd cc

before_some : (limit : ℕ) (o : Option Datagram) (datagram : Datagram) → before limit o ≡ Some datagram → o ≡ Some datagram
before_some limit None datagram e = absurd (none-some datagram e)
before_some limit (Some own) datagram e = by (nat_lt own.event limit) e
  where
    by : (b : Bool) → cond b (Some own) None ≡ Some datagram → Some own ≡ Some datagram
    by true same = same
    by false same = absurd (none-some datagram same)

module _ (case : Case) (is : IsCase case) where
  abbrev pub sent_list : List Datagram
  sent_list = datagrams (audited_of case).refused 0 (events_of case)

  -- a datagram that is named is one of all
  pub among_all : (event place : ℕ) (datagram : Datagram) → named_before (audited_of case) event (suc place) ≡ Some datagram
      → slice_get sent_list place ≡ Some datagram
  among_all event place datagram e =
      before_some (0 + event) (slice_get sent_list place) datagram (sym (named_front (audited_of case).refused 0 (events_of case) event place) ∙ e)

  -- the octets of a datagram
  pub octets_are : (place : ℕ) (datagram : Datagram) → slice_get sent_list place ≡ Some datagram
      → octets_at (events_of case) datagram.event ≡ datagram.octets
  octets_are place datagram e =
      let r = sent_there (audited_of case).refused 0 (events_of case) place datagram e in
      let there = r.there in
      let own : datagram.event ≡ r.offset = omega (arith, there) in
      ap (λ (o : Option Timed). elim o [ None ↦ [] | Some timed ↦ octets_sent timed.event ]) (ap (slice_get (events_of case)) own ∙ r.at)
      ∙ octets_same datagram.event r.timed.event datagram r.sends

  -- what is noted of the datagram that is named
  pub named_sent : (event number : ℕ) → sent_named (sents_of case) event number
      ≡ option_map (sent_of case) (named_before (audited_of case) event number)
  named_sent event zero = refl
  named_sent event (suc place) =
      ap (λ (o : Option Sent). elim o [ None ↦ None | Some sent ↦ cond (nat_lt sent.event event) (Some sent) None ])
      (got_mapped (sent_of case) sent_list place)
      ∙ (by (slice_get sent_list place)
      ∙ ap (option_map (sent_of case)) (ap (λ n. before n (slice_get sent_list place)) (let plain : event ≡ 0 + event = omega arith in plain)
      ∙ sym (named_front (audited_of case).refused 0 (events_of case) event place)))
    where
      lifted : (b : Bool) (datagram : Datagram) → cond b (Some (sent_of case datagram)) None ≡ option_map (sent_of case) (cond b (Some datagram) None)
      lifted true datagram = refl
      lifted false datagram = refl

      by : (o : Option Datagram) → ◌≡◌ {A = Option Sent}
          (elim (option_map (sent_of case) o) [ None ↦ None | Some sent ↦ cond (nat_lt sent.event event) (Some sent) None ])
          (option_map (sent_of case) (before event o))
      by None = refl
      by (Some datagram) = lifted (nat_lt datagram.event event) datagram

  named_place : (event number : ℕ) (datagram : Datagram) → named_before (audited_of case) event number ≡ Some datagram
      → (at : ℕ) × (slice_get sent_list at ≡ Some datagram)
  named_place event zero datagram e = absurd (none-some datagram e)
  named_place event (suc at) datagram e = (at, among_all event at datagram e)

  -- the event of what is named is one of the script
  pub named_within : (event number : ℕ) (sent : Sent) → sent_named (sents_of case) event number ≡ Some sent → sent.event < length (events_of case)
  named_within event number sent e =
      let m = mapped_some (sent_of case) (named_before (audited_of case) event number) sent (sym (named_sent event number) ∙ e) in
      let at = named_place event number m.0 m.1 in
      let r = sent_there (audited_of case).refused 0 (events_of case) at.0 m.0 at.1 in
      let less = slice_get_within (events_of case) r.offset r.timed r.at in
      let there = r.there in
      let same : m.0.event ≡ sent.event = ap (λ (s : Sent). s.event) m.2 in
      omega (arith, less, there, same)

  -- the event's octets are few
  pub is_short : (event : ℕ) (timed : Timed) → slice_get (events_of case) event ≡ Some timed → IsShort timed.event
  is_short event timed e =
      by timed.event (each_got (λ (t : Timed). IsEventOf (scenario_of case) t.event) (events_of case) event timed is.rules.events e)
    where
      by : (own : Event) → IsEventOf (scenario_of case) own → IsShort own
      by (events.Send site source group payload) h = h.2
      by other h = tt

  -- ---- what is found of the datagram that is named

  noted_same : (sents : List Sent) (event number : ℕ)
      → noted_named (map noted_of sents) event number ≡ option_map noted_of (sent_named sents event number)
  noted_same sents event zero = refl
  noted_same sents event (suc place) =
      ap (λ (o : Option Noted). elim o [ None ↦ None | Some noted ↦ cond (nat_lt noted.event event) (Some noted) None ])
      (got_mapped noted_of sents place) ∙ by (slice_get sents place)
    where
      lifted : (b : Bool) (sent : Sent) → cond b (Some (noted_of sent)) None ≡ option_map noted_of (cond b (Some sent) None)
      lifted true sent = refl
      lifted false sent = refl

      by : (o : Option Sent) → ◌≡◌ {A = Option Noted}
          (elim (option_map noted_of o) [ None ↦ None | Some noted ↦ cond (nat_lt noted.event event) (Some noted) None ])
          (option_map noted_of (elim o [ None ↦ None | Some sent ↦ cond (nat_lt sent.event event) (Some sent) None ]))
      by None = refl
      by (Some sent) = lifted (nat_lt sent.event event) sent

  named_asked : (sents : List Sent) (event number : ℕ) (iface : IfaceId) (sent : Sent) → sent_named sents event number ≡ Some sent
      → was_asked sents number iface ≡ is_asked_by sent iface
  named_asked sents event zero iface sent e = absurd (none-some sent e)
  named_asked sents event (suc place) iface sent e = by (slice_get sents place) e
    where
      by : (o : Option Sent) → ◌≡◌ {A = Option Sent} (elim o [ None ↦ None | Some own ↦ cond (nat_lt own.event event) (Some own) None ]) (Some sent) →
          ◌≡◌ {A = Bool} (elim o [ None ↦ false | Some own ↦ is_asked_by own iface ]) (is_asked_by sent iface)
      by None same = absurd (none-some sent same)
      by (Some own) same = under (nat_lt own.event event) same
        where
          under : (b : Bool) → cond b (Some own) None ≡ Some sent → is_asked_by own iface ≡ is_asked_by sent iface
          under true one = ap (λ (s : Sent). is_asked_by s iface) (some_same own sent one)
          under false one = absurd (none-some sent one)

  module _ (findings : Findings) (found : AreFound case.report.now.lines (sents_of case) findings) (out : Out)
      (said : has_out case.report.now.lines (exit out.number out.iface) ≡ true) where
    noted_so : noted_named findings.noted out.event out.number ≡ option_map noted_of (sent_named (sents_of case) out.event out.number)
    noted_so = ap (λ (l : List Noted). noted_named l out.event out.number) found.noted ∙ noted_same (sents_of case) out.event out.number

    of_noted : (noted : Noted) → noted_named findings.noted out.event out.number ≡ Some noted →
        (sent : Sent) × (sent_named (sents_of case) out.event out.number ≡ Some sent) × (noted_of sent ≡ noted)
    of_noted noted e = mapped_some noted_of (sent_named (sents_of case) out.event out.number) noted (sym noted_so ∙ e)

    pub noted_within : (noted : Noted) → noted_named findings.noted out.event out.number ≡ Some noted → noted.event < length (events_of case)
    noted_within noted e =
        let m = of_noted noted e in
        let less = named_within out.event out.number m.0 m.1 in
        let same = ap (λ (n : Noted). n.event) m.2 in
        omega (arith, less, same)

    asked_so : (sent : Sent) → sent_named (sents_of case) out.event out.number ≡ Some sent
        → is_asked_in findings.outs.exits (exit out.number out.iface) ≡ is_asked_by sent out.iface
    asked_so sent e =
        ap (λ (o : Option Bool). elim o [ None ↦ false | Some asked ↦ asked ])
        (found.asked (exit out.number out.iface) ∙ ap (λ b. cond b (Some (was_asked (sents_of case) out.number out.iface)) None) said)
        ∙ named_asked (sents_of case) out.event out.number out.iface sent e

    -- The offence of an `out` line that names a datagram is that by what is noted of it.
    pub fault_noted : (noted : Noted) → noted_named findings.noted out.event out.number ≡ Some noted → (asked earlier : Bool)
        → asked ≡ is_asked_in findings.outs.exits (exit out.number out.iface) →
        fault_by case noted out asked earlier ≡ fault_of case out earlier
    fault_noted noted e asked earlier same =
        let m = of_noted noted e in
        (λ i. fault_by case (sym m.2 i) out ((same ∙ asked_so m.0 m.1) i) earlier)
        ∙ ap (λ (o : Option Sent). elim o [
          | None ↦ Some offences.Number
          | Some sent ↦
              fault_by case (noted_of sent) out (is_asked_by sent out.iface) earlier
        ]) (sym m.1)

    pub fault_unnamed : noted_named findings.noted out.event out.number ≡ None → (earlier : Bool) → Some offences.Number ≡ fault_of case out earlier
    fault_unnamed e earlier = by (sent_named (sents_of case) out.event out.number) (sym noted_so ∙ e)
      where
        by : (o : Option Sent) → option_map noted_of o ≡ None →
            ◌≡◌ {A = Option Offence} (Some offences.Number)
            (elim o [ None ↦ Some offences.Number | Some sent ↦ fault_by case (noted_of sent) out (is_asked_by sent out.iface) earlier ])
        by None same = refl
        by (Some sent) same = absurd (none-some (noted_of sent) (sym same))

  pub in_window : (datagram : Datagram) → is_windowed case datagram.event ≡ true → InWindow (audited_of case) datagram
  in_window datagram e =
      let both = and_both _ _ e in
      bits_window case.script.now case.report.now case.marked is.rules.lines is.marked datagram both.0 both.1

  pub windowed : (datagram : Datagram) → InWindow (audited_of case) datagram → is_windowed case datagram.event ≡ true
  windowed datagram h =
      let both = window_bits case.script.now case.report.now case.marked is.rules.lines is.marked datagram h in
      (λ i. both.0 i && both.1 i)

  -- ---- one `out` line

  module _ (place : ℕ) (out : Out) where
    abbrev Has : Offence → Type 0
    Has reason = IsFaultOf (audited_of case) place out.event out.number out.iface out.bytes.now reason

    -- the offence is one of the line, and none of its offences comes earlier in the order
    abbrev pub Says : Option Offence → Type 0
    Says None = (reason : Offence) → Has reason → ⊥
    Says (Some own) = Has own × ((reason : Offence) → Has reason → rank own ≤ rank reason)

    abbrev earlier : Bool
    earlier = has_left (take place (audited_of case).lines) out.number out.iface

    module _ (datagram : Datagram) (named : named_before (audited_of case) out.event out.number ≡ Some datagram) where
      not_number : Has offences.Number → ⊥
      not_number e = none-some datagram (sym e ∙ named)

      one : (other : Datagram) → named_before (audited_of case) out.event out.number ≡ Some other → other ≡ datagram
      one other e = some_same other datagram (sym e ∙ named)

      not_bytes : out.bytes.now ≡ datagram.octets → Has offences.Bytes → ⊥
      not_bytes same (other, e, apart) = apart (same ∙ ap (λ (d : Datagram). d.octets) (sym (one other e)))

      not_admit : site_admitted (scenario_of case) out.iface datagram.site ≡ true → Has offences.Admit → ⊥
      not_admit t (other, e, f) = both_no _ t (ap (λ (d : Datagram). site_admitted (scenario_of case) out.iface d.site) (sym (one other e)) ∙ f)

      not_again : earlier ≡ false → Has offences.Again → ⊥
      not_again f (other, e, window, t) = both_no _ t f

      not_asked : is_receiver (audited_of case) datagram out.iface ≡ true → Has offences.Asked → ⊥
      not_asked t (other, e, window, f) = both_no _ t (ap (λ (d : Datagram). is_receiver (audited_of case) d out.iface) (sym (one other e)) ∙ f)

      no_window : is_windowed case datagram.event ≡ false → (other : Datagram) → named_before (audited_of case) out.event out.number ≡ Some other
          → InWindow (audited_of case) other → ⊥
      no_window f other e window = both_no _ (windowed datagram (subst (InWindow (audited_of case)) (one other e) window)) f

      says_bytes : (out.bytes.now ≡ datagram.octets → ⊥) → Says (Some offences.Bytes)
      says_bytes apart = ((datagram, named, apart), least)
        where
          least : (reason : Offence) → Has reason → rank offences.Bytes ≤ rank reason
          least offences.Markers h = absurd h
          least offences.Halt h = absurd h
          least offences.Number h = absurd (not_number h)
          least offences.Bytes h = omega arith
          least offences.Admit h = omega arith
          least offences.Again h = omega arith
          least offences.Asked h = omega arith
          least offences.Missing h = absurd h

      says_admit : out.bytes.now ≡ datagram.octets → site_admitted (scenario_of case) out.iface datagram.site ≡ false → Says (Some offences.Admit)
      says_admit same f = ((datagram, named, f), least)
        where
          least : (reason : Offence) → Has reason → rank offences.Admit ≤ rank reason
          least offences.Markers h = absurd h
          least offences.Halt h = absurd h
          least offences.Number h = absurd (not_number h)
          least offences.Bytes h = absurd (not_bytes same h)
          least offences.Admit h = omega arith
          least offences.Again h = omega arith
          least offences.Asked h = omega arith
          least offences.Missing h = absurd h

      module _ (same : out.bytes.now ≡ datagram.octets) (admitted : site_admitted (scenario_of case) out.iface datagram.site ≡ true) where
        no_again : is_windowed case datagram.event ≡ false → Has offences.Again → ⊥
        no_again w (other, e, window, t) = no_window w other e window

        no_asked : is_windowed case datagram.event ≡ false → Has offences.Asked → ⊥
        no_asked w (other, e, window, f) = no_window w other e window

        says_none : (Has offences.Again → ⊥) → (Has offences.Asked → ⊥) → Says None
        says_none again asked offences.Markers h = h
        says_none again asked offences.Halt h = h
        says_none again asked offences.Number h = not_number h
        says_none again asked offences.Bytes h = not_bytes same h
        says_none again asked offences.Admit h = not_admit admitted h
        says_none again asked offences.Again h = again h
        says_none again asked offences.Asked h = asked h
        says_none again asked offences.Missing h = h

        says_again : is_windowed case datagram.event ≡ true → earlier ≡ true → Says (Some offences.Again)
        says_again w t = ((datagram, named, in_window datagram w, t), least)
          where
            least : (reason : Offence) → Has reason → rank offences.Again ≤ rank reason
            least offences.Markers h = absurd h
            least offences.Halt h = absurd h
            least offences.Number h = absurd (not_number h)
            least offences.Bytes h = absurd (not_bytes same h)
            least offences.Admit h = absurd (not_admit admitted h)
            least offences.Again h = omega arith
            least offences.Asked h = omega arith
            least offences.Missing h = absurd h

        says_asked : is_windowed case datagram.event ≡ true → earlier ≡ false → is_receiver (audited_of case) datagram out.iface ≡ false
            → Says (Some offences.Asked)
        says_asked w f isnt = ((datagram, named, in_window datagram w, isnt), least)
          where
            least : (reason : Offence) → Has reason → rank offences.Asked ≤ rank reason
            least offences.Markers h = absurd h
            least offences.Halt h = absurd h
            least offences.Number h = absurd (not_number h)
            least offences.Bytes h = absurd (not_bytes same h)
            least offences.Admit h = absurd (not_admit admitted h)
            least offences.Again h = absurd (not_again f h)
            least offences.Asked h = omega arith
            least offences.Missing h = absurd h

        abbrev asked_here : List IfaceId
        asked_here = receivers (past_of case datagram.event) datagram.site datagram.source datagram.group

        says_in : (w e a : Bool) → is_windowed case datagram.event ≡ w → earlier ≡ e → is_receiver (audited_of case) datagram out.iface ≡ a →
            Says (fault_in (is_some (cond w (Some asked_here) None))
            (elim (cond w (Some asked_here) None) [ None ↦ false | Some asked ↦ is_asked asked out.iface ]) e)
        says_in false e a w d r = says_none (no_again w) (no_asked w)
        says_in true true a w d r = says_again w d
        says_in true false a w d r = by a r
          where
            by : (b : Bool) → is_receiver (audited_of case) datagram out.iface ≡ b
                → Says (cond (is_asked asked_here out.iface) None (Some offences.Asked))
            by true t = subst (λ b. Says (cond b None (Some offences.Asked))) (sym t) (says_none (not_again d) (not_asked t))
            by false f = subst (λ b. Says (cond b None (Some offences.Asked))) (sym f) (says_asked w d f)

      says_by : (bytes admitted : Bool) → pointwise nat_eq out.bytes.now datagram.octets ≡ bytes
          → site_admitted (scenario_of case) out.iface datagram.site ≡ admitted →
          Says (cond (not bytes) (Some offences.Bytes)
          (cond (not admitted) (Some offences.Admit)
          (fault_in (is_some (sent_of case datagram).asked) (is_asked_by (sent_of case datagram) out.iface) earlier)))
      says_by false admitted b a = says_bytes (λ same. true≢false (sym ((bytes_decides out.bytes.now datagram.octets).1 same) ∙ b))
      says_by true false b a = says_admit ((bytes_decides out.bytes.now datagram.octets).0 b) a
      says_by true true b a =
          says_in ((bytes_decides out.bytes.now datagram.octets).0 b) a (is_windowed case datagram.event) earlier
          (is_receiver (audited_of case) datagram out.iface) refl refl refl

      says_named : (at : ℕ) → slice_get sent_list at ≡ Some datagram
          → Says (fault_by case (noted_of (sent_of case datagram)) out (is_asked_by (sent_of case datagram) out.iface) earlier)
      says_named at e =
          subst (λ (l : List ℕ). Says (cond (not (pointwise nat_eq out.bytes.now l)) (Some offences.Bytes)
          (cond (not (site_admitted (scenario_of case) out.iface datagram.site)) (Some offences.Admit)
          (fault_in (is_some (sent_of case datagram).asked) (is_asked_by (sent_of case datagram) out.iface) earlier))))
          (sym (octets_are at datagram e))
          (says_by (pointwise nat_eq out.bytes.now datagram.octets) (site_admitted (scenario_of case) out.iface datagram.site) refl refl)

    -- The offence of an `out` line is the first one of its offences.
    pub fault_says : Says (fault_of case out earlier)
    fault_says =
        subst (λ (o : Option Sent). Says (elim o [
          | None ↦ Some offences.Number
          | Some sent ↦
              fault_by case (noted_of sent) out (is_asked_by sent out.iface) earlier
        ])) (sym (named_sent out.event out.number))
        (by (named_before (audited_of case) out.event out.number) refl)
      where
        by : (o : Option Datagram) → named_before (audited_of case) out.event out.number ≡ o →
            Says (elim (option_map (sent_of case) o) [
              | None ↦ Some offences.Number
              | Some sent ↦
                  fault_by case (noted_of sent) out (is_asked_by sent out.iface) earlier
            ])
        by None e = unnamed_least e
          where
            unnamed_least : named_before (audited_of case) out.event out.number ≡ None → Says (Some offences.Number)
            unnamed_least none = (none, least)
              where
                least : (reason : Offence) → Has reason → rank offences.Number ≤ rank reason
                least offences.Markers h = absurd h
                least offences.Halt h = absurd h
                least offences.Number h = omega arith
                least offences.Bytes h = omega arith
                least offences.Admit h = omega arith
                least offences.Again h = omega arith
                least offences.Asked h = omega arith
                least offences.Missing h = absurd h
        by (Some datagram) e = (let at = named_place out.event out.number datagram e in says_named datagram e at.0 at.1)
