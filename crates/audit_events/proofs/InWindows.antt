-- A datagram is of a window exactly where a window is open before its event and ends with it or later.
use Rattle.std.specs.Prelude.{◌&&◌, ◌||◌}
use Rattle.std.proofs.Common.{◌≡◌, ℕ, zero, suc, ◌+◌, ◌<◌, ◌≤◌, ◌==◌, ◌⊎◌, Bool, true, false, cond, not, inl, inr, take, drop, length, List, [], ◌∷◌, slice_get, Some, refl, sym, ap, subst, ◌∙◌, arith}
use Rattle.std.proofs.lemmas.Bool.{true≢false, cases_Bool, or_cases, eqb-true}
use Rattle.std.proofs.lemmas.Option.{none-some, slice_get_within}
use Rattle.audit_defs.specs.scenario_defs.Rules.{Rises}
use Rattle.audit_defs.specs.scenario_defs.declared.event.Script.{Script}
use Rattle.audit_defs.specs.scenario_defs.declared.event.Event.{Event}
use Rattle.audit_defs.specs.scenario_defs.declared.event.Event.TheVariants as events
use Rattle.audit_defs.specs.scenario_defs.declared.event.Timed.{Timed}
use Rattle.audit_defs.specs.scenario_defs.declared.report.ReportLine.TheVariants as lines
use Rattle.audit_defs.specs.mvpn_model.Once.{TellsState, IsCalm, EndsWindow, IsOfWindow, IsWindow}
use Rattle.audit_defs.specs.mvpn_model.Past.{is_accepted}
use Rattle.audit_defs.specs.mvpn_model.Report.{Datagram}
use Rattle.audit_defs.specs.declared.verdict.ReportLines.{ReportLines}
use Rattle.audit_defs.specs.Cut.{is_malformed, audited, cut}
use Rattle.audit_defs.specs.Markers.{is_state}
use Rattle.audit_defs.specs.Offences.{InWindow}
use Rattle.audit_defs.proofs.Lists.{and_both, some_same}
use Rattle.audit_events.specs.declared.fate.Fate.{Fate}
use Rattle.audit_events.specs.declared.fate.Fate.TheVariants as fates
use Rattle.audit_events.specs.declared.fate.Marked.{Marked}
use Rattle.audit_events.specs.Fates.{fates_from, left_after, is_refused, is_calm, is_clear, is_drain, is_of_window, may_end, goes_on, closes, opened}
use Rattle.audit_events.specs.Marking.{AreMarked}
use Rattle.audit_events.specs.Placed.{fate_of}
use Rattle.audit_events.proofs.FateLemmas.{FateOf, ByMarker, Plain, event_judged, state_only}
use Rattle.audit_events.proofs.StateLemmas.{told_fate, state_told}
use Rattle.audit_events.proofs.WindowLemmas.{At, GoOn, Ends, closes_says, says_closes, Before, Calm, opened_says, says_opened}

-- ---- places in fronts and rests of lists

pub got_front : {X : Type 0} (xs : List X) (count place : ℕ) (x : X) → slice_get (take count xs) place ≡ Some x
    → (place < count) × (slice_get xs place ≡ Some x)
got_front xs zero place x e = absurd (none-some x e)
got_front [] (suc count) place x e = absurd (none-some x e)
got_front (y ∷ xs) (suc count) zero x e = (omega arith, e)
got_front (y ∷ xs) (suc count) (suc place) x e = (let r = got_front xs count place x e in let less = r.0 in (omega (arith, less), r.1))

pub front_got : {X : Type 0} (xs : List X) (count place : ℕ) (x : X) → place < count → slice_get xs place ≡ Some x
    → slice_get (take count xs) place ≡ Some x
front_got xs zero place x less e = absurd (omega (arith, less))
front_got [] (suc count) place x less e = absurd (none-some x e)
front_got (y ∷ xs) (suc count) zero x less e = e
front_got (y ∷ xs) (suc count) (suc place) x less e = front_got xs count place x (omega (arith, less)) e

got_rest : {X : Type 0} (xs : List X) (count place : ℕ) → slice_get (drop count xs) place ≡ slice_get xs (count + place)
got_rest xs zero place = ap (slice_get xs) (let same : place ≡ zero + place = omega arith in same)
got_rest [] (suc count) place = refl
got_rest (y ∷ xs) (suc count) place =
    got_rest xs count place ∙ ap (slice_get (y ∷ xs)) (let same : suc (count + place) ≡ suc count + place = omega arith in same)

pub length_fates : (number : ℕ) (all : List Timed) (marked : List Marked) → length (fates_from number all marked) ≡ length all
length_fates number [] marked = refl
length_fates number (timed ∷ all) marked = ap suc (length_fates (number + 1) all (left_after number marked))

length_front : {X Y : Type 0} (xs : List X) (ys : List Y) (count : ℕ) → length xs ≡ length ys → length (take count xs) ≡ length (take count ys)
length_front xs ys zero same = refl
length_front [] [] (suc count) same = refl
length_front [] (y ∷ ys) (suc count) same = absurd (omega (arith, same))
length_front (x ∷ xs) [] (suc count) same = absurd (omega (arith, same))
length_front (x ∷ xs) (y ∷ ys) (suc count) same = ap suc (length_front xs ys count (omega (arith, same)))

pub split : (a b : ℕ) → (a < b) ⊎ (b ≤ a)
split zero zero = inr (omega arith)
split zero (suc b) = inl (omega arith)
split (suc a) zero = inr (omega arith)
split (suc a) (suc b) = elim (split a b) [ inl less ↦ inl (omega (arith, less)) | inr more ↦ inr (omega (arith, more)) ]

offset : (low high : ℕ) → low ≤ high → (k : ℕ) × (high ≡ low + k)
offset zero high h = (high, omega arith)
offset (suc low) zero h = absurd (omega (arith, h))
offset (suc low) (suc high) h = (let r = offset low high (omega (arith, h)) in let same = r.1 in (r.0, omega (arith, same)))

-- ---- what fates say of state lines

zero_by : (number : ℕ) → (number == 0) ≡ true → number ≡ 0
zero_by number is = eqb-true number 0 is

clear_copies : (bytes copies buffers due unready : ℕ) → is_clear (fate_of (lines.State bytes copies buffers due unready)) ≡ true → copies ≡ 0
clear_copies bytes copies buffers due unready is = elim (cases_Bool (copies == 0)) [
  | inl t ↦ zero_by copies t
  | inr f ↦ absurd (true≢false (sym is ∙ ap (λ b. is_clear
      (cond b (cond ((bytes == 0) && (buffers == 0) && (due == 0) && (unready == 0)) fates.Calm fates.Clear) fates.Busy)) f))
]

calm_zeros : (bytes copies buffers due unready : ℕ) → is_calm (fate_of (lines.State bytes copies buffers due unready)) ≡ true →
    (copies ≡ 0) × (((((bytes == 0) && (buffers == 0)) && (due == 0)) && (unready == 0)) ≡ true)
calm_zeros bytes copies buffers due unready is = elim (cases_Bool (copies == 0)) [
  | inl t ↦ (
    zero_by copies t,
    elim (cases_Bool ((((bytes == 0) && (buffers == 0)) && (due == 0)) && (unready == 0))) [
      | inl all ↦ all
      | inr some ↦ absurd (true≢false (sym is ∙ (λ i. is_calm (cond (t i) (cond (some i) fates.Calm fates.Clear) fates.Busy))))
    ],
  )
  | inr f ↦ absurd (true≢false (sym is ∙ ap (λ b. is_calm
      (cond b (cond ((bytes == 0) && (buffers == 0) && (due == 0) && (unready == 0)) fates.Calm fates.Clear) fates.Busy)) f))
]

window_of : (event : Event) → is_of_window event ≡ true → IsOfWindow event
window_of (events.Send site source group payload) is = tt
window_of (events.Packet site bytes) is = tt
window_of (events.Hop from to place) is = tt
window_of events.Drain is = tt
window_of events.State is = tt
window_of (events.Tick count) is = absurd (true≢false (sym is))
window_of (events.Timers node) is = absurd (true≢false (sym is))
window_of (events.Restart node) is = absurd (true≢false (sym is))
window_of (events.Move kind from to count) is = absurd (true≢false (sym is))
window_of (events.Lose kind a b) is = absurd (true≢false (sym is))
window_of (events.Notice kind a b) is = absurd (true≢false (sym is))
window_of (events.Raise kind a b) is = absurd (true≢false (sym is))
window_of (events.Customer event) is = absurd (true≢false (sym is))
window_of (events.DropCopy from to place) is = absurd (true≢false (sym is))
window_of (events.Cost a b cost) is = absurd (true≢false (sym is))
window_of events.Heal is = absurd (true≢false (sym is))
window_of events.Settle is = absurd (true≢false (sym is))

of_window : (event : Event) → IsOfWindow event → is_of_window event ≡ true
of_window (events.Send site source group payload) is = refl
of_window (events.Packet site bytes) is = refl
of_window (events.Hop from to place) is = refl
of_window events.Drain is = refl
of_window events.State is = refl
of_window (events.Tick count) is = absurd is
of_window (events.Timers node) is = absurd is
of_window (events.Restart node) is = absurd is
of_window (events.Move kind from to count) is = absurd is
of_window (events.Lose kind a b) is = absurd is
of_window (events.Notice kind a b) is = absurd is
of_window (events.Raise kind a b) is = absurd is
of_window (events.Customer event) is = absurd is
of_window (events.DropCopy from to place) is = absurd is
of_window (events.Cost a b cost) is = absurd is
of_window events.Heal is = absurd is
of_window events.Settle is = absurd is

drain_only : (event : Event) → is_drain event ≡ true → event ≡ events.Drain
drain_only events.Drain is = refl
drain_only (events.Send site source group payload) is = absurd (true≢false (sym is))
drain_only (events.Packet site bytes) is = absurd (true≢false (sym is))
drain_only (events.Hop from to place) is = absurd (true≢false (sym is))
drain_only events.State is = absurd (true≢false (sym is))
drain_only (events.Tick count) is = absurd (true≢false (sym is))
drain_only (events.Timers node) is = absurd (true≢false (sym is))
drain_only (events.Restart node) is = absurd (true≢false (sym is))
drain_only (events.Move kind from to count) is = absurd (true≢false (sym is))
drain_only (events.Lose kind a b) is = absurd (true≢false (sym is))
drain_only (events.Notice kind a b) is = absurd (true≢false (sym is))
drain_only (events.Raise kind a b) is = absurd (true≢false (sym is))
drain_only (events.Customer event) is = absurd (true≢false (sym is))
drain_only (events.DropCopy from to place) is = absurd (true≢false (sym is))
drain_only (events.Cost a b cost) is = absurd (true≢false (sym is))
drain_only events.Heal is = absurd (true≢false (sym is))
drain_only events.Settle is = absurd (true≢false (sym is))

-- a clear fate is that of a `state` event
clear_state : (N : List ℕ) (timed : Timed) (fate : Fate) → FateOf N timed fate → is_clear fate ≡ true → is_state timed.event ≡ true
clear_state N timed fate (Plain isnt e) is = absurd (true≢false (sym is ∙ (ap is_clear e ∙ by (is_malformed timed.event))))
  where
    by : (b : Bool) → is_clear (cond b fates.Refused fates.Accepted) ≡ false
    by true = refl
    by false = refl
clear_state N timed fate (ByMarker (lines.State bytes copies buffers due unready) is m e) clear = m
clear_state N timed fate (ByMarker (lines.Refused line reason) is m e) clear = absurd (true≢false (sym clear ∙ ap is_clear e))
clear_state N timed fate (ByMarker (lines.Out number iface bytes) is m e) clear = absurd (true≢false (sym m))
clear_state N timed fate (ByMarker (lines.Halt line node) is m e) clear = absurd (true≢false (sym m))
clear_state N timed fate (ByMarker (lines.Put kind from to bytes) is m e) clear = absurd (true≢false (sym m))
clear_state N timed fate (ByMarker (lines.Take kind from to bytes) is m e) clear = absurd (true≢false (sym m))
clear_state N timed fate (ByMarker (lines.Hop from to label ttl number) is m e) clear = absurd (true≢false (sym m))
clear_state N timed fate (ByMarker (lines.Land from to label number) is m e) clear = absurd (true≢false (sym m))

calm_clear : (fate : Fate) → is_calm fate ≡ true → is_clear fate ≡ true
calm_clear fates.Calm is = refl
calm_clear fates.Clear is = refl
calm_clear fates.Accepted is = absurd (true≢false (sym is))
calm_clear fates.Refused is = absurd (true≢false (sym is))
calm_clear fates.Busy is = absurd (true≢false (sym is))

module _ (script : Script) (report : ReportLines) (marked : List Marked) (rises : Rises 0 script.events) (are : AreMarked script report marked) where
  abbrev own_fates : List Fate
  own_fates = fates_from 0 script.events marked

  fate_same : (place : ℕ) (at : At script.events own_fates place)
      → (event_judged script report marked rises are place at.timed at.event_at).there.fate ≡ at.fate
  fate_same place at =
      let j = event_judged script report marked rises are place at.timed at.event_at in
      some_same j.there.fate at.fate (sym j.there.at ∙ at.fate_at)

  state_of : (place : ℕ) (at : At script.events own_fates place) → is_clear at.fate ≡ true → is_state at.timed.event ≡ true
  state_of place at is =
      let j = event_judged script report marked rises are place at.timed at.event_at in
      clear_state _ at.timed j.there.fate j.there.of (ap is_clear (fate_same place at) ∙ is)

  calm_is : (place : ℕ) (at : At script.events own_fates place) → is_calm at.fate ≡ true
      → IsCalm script.events (cut (audited script report.lines)) place
  calm_is place at is =
      let line = state_told script report marked are place at.timed at.event_at (state_of place at (calm_clear at.fate is)) in
      let fate : fate_of (lines.State line.bytes line.copies line.buffers line.due line.unready) ≡ at.fate =
      some_same _ at.fate (sym line.fate ∙ at.fate_at) in
      let zeros = calm_zeros line.bytes line.copies line.buffers line.due line.unready (ap is_calm fate ∙ is) in
      let four = and_both (((line.bytes == 0) && (line.buffers == 0)) && (line.due == 0)) (line.unready == 0) zeros.1 in
      let three = and_both ((line.bytes == 0) && (line.buffers == 0)) (line.due == 0) four.0 in
      let two = and_both (line.bytes == 0) (line.buffers == 0) three.0 in
      all_zero place line.bytes line.copies line.buffers line.due line.unready (zero_by line.bytes two.0) zeros.0 (zero_by line.buffers two.1)
      (zero_by line.due three.1) (zero_by line.unready four.1) line.tells
    where
      all_zero : (place bytes copies buffers due unready : ℕ) → bytes ≡ 0 → copies ≡ 0 → buffers ≡ 0 → due ≡ 0 → unready ≡ 0 →
          TellsState script.events (cut (audited script report.lines)) place bytes copies buffers due unready
          → IsCalm script.events (cut (audited script report.lines)) place
      all_zero place bytes copies buffers due unready a b c d e tells =
          subst (λ n. TellsState script.events (cut (audited script report.lines)) place n 0 0 0 0) a
          (subst (λ n. TellsState script.events (cut (audited script report.lines)) place bytes n 0 0 0) b
          (subst (λ n. TellsState script.events (cut (audited script report.lines)) place bytes copies n 0 0) c
          (subst (λ n. TellsState script.events (cut (audited script report.lines)) place bytes copies buffers n 0) d
          (subst (λ n. TellsState script.events (cut (audited script report.lines)) place bytes copies buffers due n) e tells))))

  ends_is : (place : ℕ) (at : At script.events own_fates place) → may_end at.timed at.fate ≡ true
      → EndsWindow script.events (cut (audited script report.lines)) place
  ends_is place at is = elim (or_cases (is_drain at.timed.event) (is_clear at.fate) is) [
    | inl drain ↦ inl (
      at.timed.line,
      at.event_at
          ∙ ap (λ (event : Event). Some (record { line = at.timed.line; event = event })) (drain_only at.timed.event drain),
    )
    | inr clear ↦
        let line = state_told script report marked are place at.timed at.event_at (state_of place at clear) in
        let fate : fate_of (lines.State line.bytes line.copies line.buffers line.due line.unready) ≡ at.fate =
        some_same _ at.fate (sym line.fate ∙ at.fate_at) in
        let none = clear_copies line.bytes line.copies line.buffers line.due line.unready (ap is_clear fate ∙ clear) in
        inr (
          line.bytes,
          line.buffers,
          line.due,
          line.unready,
          subst (λ n. TellsState script.events (cut (audited script report.lines)) place line.bytes n line.buffers line.due line.unready) none
              line.tells,
        )
  ]

  calm_says : (place : ℕ) → IsCalm script.events (cut (audited script report.lines)) place
      → (at : At script.events own_fates place) × (is_calm at.fate ≡ true)
  calm_says place tells = (
    record {
      timed = record { line = tells.line; event = events.State };
      fate = fates.Calm;
      event_at = tells.at;
      fate_at =
          told_fate script report marked are place 0 0 0 0 0 tells;
    },
    refl,
  )

  ends_says : (place : ℕ) → EndsWindow script.events (cut (audited script report.lines)) place
      → (at : At script.events own_fates place) × (may_end at.timed at.fate ≡ true)
  ends_says place (inl (line, e)) =
      let j = event_judged script report marked rises are place (record { line = line; event = events.Drain }) e in
      (record { timed = record { line = line; event = events.Drain }; fate = j.there.fate; event_at = e; fate_at = j.there.at }, refl)
  ends_says place (inr (bytes, buffers, due, unready, tells)) = (
    record {
      timed = record { line = tells.line; event = events.State };
      fate = fate_of (lines.State bytes 0 buffers due unready);
      event_at = tells.at;
      fate_at = told_fate script report marked are place bytes 0 buffers due unready tells;
    },
    either ((((bytes == 0) && (buffers == 0)) && (due == 0)) && (unready == 0)),
  )
    where
      either : (z : Bool) → is_clear (cond z fates.Calm fates.Clear) ≡ true
      either true = refl
      either false = refl

  abbrev accepted : Timed → Bool
  accepted timed = is_accepted (audited script report.lines).refused timed

  refused_so : (place : ℕ) (at : At script.events own_fates place) → is_refused at.fate ≡ not (accepted at.timed)
  refused_so place at =
      let j = event_judged script report marked rises are place at.timed at.event_at in
      sym (ap is_refused (fate_same place at)) ∙ j.refused

  goes_says : (place : ℕ) (at : At script.events own_fates place) → goes_on at.timed at.fate ≡ true → accepted at.timed ≡ true
      → IsOfWindow at.timed.event
  goes_says place at is holds =
      window_of at.timed.event (sym (ap (λ b. b || is_of_window at.timed.event) (refused_so place at ∙ ap not holds)) ∙ is)

  says_goes : (place : ℕ) (at : At script.events own_fates place) → (accepted at.timed ≡ true → IsOfWindow at.timed.event)
      → goes_on at.timed at.fate ≡ true
  says_goes place at h = elim (cases_Bool (accepted at.timed)) [
    | inl holds ↦ ap (λ b. b || is_of_window at.timed.event) (refused_so place at ∙ ap not holds) ∙ of_window at.timed.event (h holds)
    | inr not_so ↦ ap (λ b. b || is_of_window at.timed.event) (refused_so place at ∙ ap not not_so)
  ]

  ends_go : (place : ℕ) (at : At script.events own_fates place) → may_end at.timed at.fate ≡ true → IsOfWindow at.timed.event
  ends_go place at is = elim (or_cases (is_drain at.timed.event) (is_clear at.fate) is) [
    | inl drain ↦ subst IsOfWindow (sym (drain_only at.timed.event drain)) tt
    | inr clear ↦ subst IsOfWindow (sym (state_only at.timed.event (state_of place at clear))) tt
  ]

  -- Where a window is open before the event and ends with it or later, the datagram is of a window.
  pub bits_window : (datagram : Datagram) → opened false (take datagram.event script.events) (take datagram.event own_fates) ≡ true →
      closes (drop datagram.event script.events) (drop datagram.event own_fates) ≡ true → InWindow (audited script report.lines) datagram
  bits_window datagram o c =
      elim (opened_says false (take datagram.event script.events) (take datagram.event own_fates)
      (length_front script.events own_fates datagram.event (sym (length_fates 0 script.events marked))) o) [
        | Before is on ↦ absurd (true≢false (sym is))
        | Calm calm at is on ↦ found datagram.event calm at is on (closes_says (drop datagram.event script.events) (drop datagram.event own_fates) c)
      ]
    where
      found : (e calm : ℕ) (at : At (take e script.events) (take e own_fates) calm) → is_calm at.fate ≡ true
          → GoOn (take e script.events) (take e own_fates) (suc calm) (length (take e script.events)) →
          Ends (drop e script.events) (drop e own_fates) →
          (first : ℕ) × (last : ℕ) × IsWindow script.events (audited script report.lines).refused (cut (audited script report.lines)) first last
          × (first ≤ e) × (e ≤ last)
      found e calm at is on ends =
          let event = got_front script.events e calm at.timed at.event_at in
          let fate = got_front own_fates e calm at.fate at.fate_at in
          let less = event.0 in (
            calm + 1,
            e + ends.last,
            record {
              calm = calm;
              opens = refl;
              is_calm = calm_is calm (record { timed = at.timed; fate = at.fate; event_at = event.1; fate_at = fate.1 }) is;
              closes = ends_is (e + ends.last) end_at ends.ends;
              within = within;
            },
            omega (arith, less),
            omega arith,
          )
        where
          end_at : At script.events own_fates (e + ends.last)
          end_at = record {
            timed = ends.at.timed;
            fate = ends.at.fate;
            event_at = sym (got_rest script.events e ends.last) ∙ ends.at.event_at;
            fate_at = sym (got_rest own_fates e ends.last) ∙ ends.at.fate_at;
          }

          at_place : (place : ℕ) (timed : Timed) → slice_get script.events place ≡ Some timed → At script.events own_fates place
          at_place place timed same =
              let j = event_judged script report marked rises are place timed same in
              record { timed = timed; fate = j.there.fate; event_at = same; fate_at = j.there.at }

          before : (place : ℕ) (timed : Timed) (same : slice_get script.events place ≡ Some timed) → calm + 1 ≤ place → place < e
              → accepted timed ≡ true → IsOfWindow timed.event
          before place timed same low less holds =
              let own = at_place place timed same in
              let here = front_got script.events e place timed less same in
              goes_says place own
              (on place (omega (arith, low)) (slice_get_within (take e script.events) place timed here)
              (record { timed = timed; fate = own.fate; event_at = here; fate_at = front_got own_fates e place own.fate less own.fate_at })) holds

          later : (place : ℕ) (timed : Timed) (same : slice_get script.events place ≡ Some timed) (k : ℕ) → place ≡ e + k → place ≤ e + ends.last
              → accepted timed ≡ true → IsOfWindow timed.event
          later place timed same k sum high holds = elim (split k ends.last) [
            | inl less ↦
                let own = at_place place timed same in
                goes_says place own
                (ends.on k (omega arith) less (record {
                  timed = timed;
                  fate = own.fate;
                  event_at = got_rest script.events e k ∙ (ap (slice_get script.events) (sym sum) ∙ same);
                  fate_at = got_rest own_fates e k ∙ (ap (slice_get own_fates) (sym sum) ∙ own.fate_at);
                })) holds
            | inr more ↦
                let equal : place ≡ e + ends.last = omega (arith, sum, high, more) in
                let one : ends.at.timed ≡ timed =
                some_same ends.at.timed timed (sym end_at.event_at ∙ (ap (slice_get script.events) (sym equal) ∙ same)) in
                subst (λ (t : Timed). IsOfWindow t.event) one (ends_go (e + ends.last) end_at ends.ends)
          ]

          within : (place : ℕ) (timed : Timed) → calm + 1 ≤ place → place ≤ e + ends.last → slice_get script.events place ≡ Some timed
              → accepted timed ≡ true → IsOfWindow timed.event
          within place timed low high same holds = elim (split place e) [
            | inl less ↦ before place timed same low less holds
            | inr more ↦ (let k = offset e place more in later place timed same k.0 k.1 high holds)
          ]

  -- Where the datagram is of a window, one is open before its event, and ends with it or later.
  pub window_bits : (datagram : Datagram) → InWindow (audited script report.lines) datagram →
      (opened false (take datagram.event script.events) (take datagram.event own_fates) ≡ true)
      × (closes (drop datagram.event script.events) (drop datagram.event own_fates) ≡ true)
  window_bits datagram (first, last, window, low, high) =
      let calm = calm_says window.calm window.is_calm in
      let ends = ends_says last window.closes in
      let opens = window.opens in
      let k = offset datagram.event last high in (
        opened_so datagram.event calm.0 calm.1 (omega (arith, opens, low)) high,
        closes_so datagram.event k.0 k.1 ends.0 ends.1 low,
      )
    where
      goes : (place : ℕ) (at : At script.events own_fates place) → first ≤ place → place ≤ last → goes_on at.timed at.fate ≡ true
      goes place at from to = says_goes place at (λ holds. window.within place at.timed from to at.event_at holds)

      opened_so : (e : ℕ) (at : At script.events own_fates window.calm) → is_calm at.fate ≡ true → window.calm < e → e ≤ last
          → opened false (take e script.events) (take e own_fates) ≡ true
      opened_so e at is less high =
          says_opened false (take e script.events) (take e own_fates)
          (length_front script.events own_fates e (sym (length_fates 0 script.events marked))) window.calm
          (record {
            timed = at.timed;
            fate = at.fate;
            event_at = front_got script.events e window.calm at.timed less at.event_at;
            fate_at =
                front_got own_fates e window.calm at.fate less at.fate_at;
          }) is
          (λ place from to own.
          let event = got_front script.events e place own.timed own.event_at in
          let fate = got_front own_fates e place own.fate own.fate_at in
          let before = event.0 in
          let opens = window.opens in
          goes place (record { timed = own.timed; fate = own.fate; event_at = event.1; fate_at = fate.1 }) (omega (arith, from, opens))
          (omega (arith, before, high)))

      closes_so : (e k : ℕ) → last ≡ e + k → (at : At script.events own_fates last) → may_end at.timed at.fate ≡ true → first ≤ e
          → closes (drop e script.events) (drop e own_fates) ≡ true
      closes_so e k sum at is low =
          says_closes (drop e script.events) (drop e own_fates) k
          (record {
            timed = at.timed;
            fate = at.fate;
            event_at = got_rest script.events e k ∙ (ap (slice_get script.events) (sym sum) ∙ at.event_at);
            fate_at = got_rest own_fates e k ∙ (ap (slice_get own_fates) (sym sum) ∙ at.fate_at);
          }) is
          (λ place from to own.
          goes (e + place) (record {
            timed = own.timed;
            fate = own.fate;
            event_at = sym (got_rest script.events e place) ∙ own.event_at;
            fate_at = sym (got_rest own_fates e place) ∙ own.fate_at;
          }) (omega (arith, low)) (omega (arith, to, sum)))
