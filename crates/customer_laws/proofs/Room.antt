-- Where there was room for what a VPN asked for, which of its events were refused is told by the events themselves.
use Rattle.std.proofs.Common.{◌≡◌, ℕ, ◌+◌, ◌⊎◌, inl, inr, ◌&&◌, not, Bool, true, false, cond, suc, List, [], ◌∷◌, ◌++◌, map, slice_get, Option, Some, None, refl, sym, ap, subst, ◌∙◌}
use Rattle.std.specs.Option.{option_or}
use Rattle.std.specs.List.{list_any, filter, AllByRecursion}
use Rattle.std.proofs.lemmas.Bool.{true≢false, false≢true, or_parts, or_left, eq-eqb}
use Rattle.std.proofs.lemmas.List.Folds.{list_any-append}
use Rattle.mv_base.specs.declared.ids.VrfId.{VrfId}
use Rattle.pim_defs.specs.Entries.{applied, are_too_many}
use Rattle.scenario_defs.specs.Vpn.{edge_of}
use Rattle.scenario_defs.specs.declared.event.Event.{Event}
use Rattle.scenario_defs.specs.declared.event.CustomerEvent.{CustomerEvent}
use Rattle.scenario_defs.specs.declared.event.CustomerEvent.TheVariants as customers
use Rattle.scenario_defs.specs.declared.event.Event.TheVariants as events
use Rattle.scenario_defs.specs.declared.event.Timed.{Timed}
use Rattle.scenario_defs.specs.declared.report.Refusal.{Refusal}
use Rattle.scenario_defs.specs.declared.report.Refusal.TheVariants as refusals
use Rattle.scenario_defs.specs.declared.report.ReportLine.{ReportLine}
use Rattle.scenario_defs.specs.declared.report.ReportLine.TheVariants as lines
use Rattle.scenario_defs.specs.declared.scenario.Scenario.{Scenario}
use Rattle.mvpn_model.specs.Messages.{message_of}
use Rattle.mvpn_model.specs.Packets.{packet_fault}
use Rattle.mvpn_model.specs.Past.{is_accepted}
use Rattle.mvpn_model.specs.Refused.{is_ours, octets_refusal}
use Rattle.mvpn_model.specs.Report.{lines_of, refused_lines}
use Rattle.mvpn_model.specs.declared.message.Given.{Given}
use Rattle.network_defs.specs.Events.{Happened, Outcome, Done, done}
use Rattle.network_defs.specs.Refusals.{refusal, refused_if, message_refusal, control_at, are_sessions_full, are_links_full}
use Rattle.network_defs.specs.Run.{Traced, Runs, outcome, report_of}
use Rattle.network_defs.specs.World.{World, start, scenario_of, clock_of}
use Rattle.network_laws.specs.Honest.{IsSoundEvent}
use Rattle.network_laws.proofs.RunActs.{WorldStays}
use Rattle.network_laws.proofs.RunEvents.{turned_stays, start_stays}
use Rattle.network_laws.proofs.ready_laws.RunsTell.{first_lines}
use Rattle.once_laws.specs.delivery_laws.Flood.{lines_in}
use Rattle.once_laws.proofs.delivery_laws.Accepted.{accepts, TellsAccepted, tells_accepted}
use Rattle.customer_laws.specs.Concerns.{concerns, Answered, answered, AreAlike}
use Rattle.customer_laws.specs.Room.{OneRun, past_in, asked_in, says_full, HasRoom}

-- ---- refusals that no room can mend

abbrev not_ours : Scenario → Option Given → Option Refusal
not_ours scenario None = None
not_ours scenario (Some given) = refused_if (not (is_ours scenario given)) refusals.Ours

-- why an event is refused by itself
abbrev own_refusal : Scenario → Event → Option Refusal
own_refusal scenario (events.Customer (customers.Join iface entry)) = not_ours scenario (message_of scenario (events.Customer (customers.Join iface entry)))
own_refusal scenario (events.Customer (customers.Prune iface entry)) = not_ours scenario (message_of scenario (events.Customer (customers.Prune iface entry)))
own_refusal scenario (events.Customer (customers.Pim iface bytes)) =
    option_or (octets_refusal bytes) (not_ours scenario (message_of scenario (events.Customer (customers.Pim iface bytes))))
own_refusal scenario (events.Packet site octets) = packet_fault octets
own_refusal scenario other = None

abbrev Either : Option Refusal → Option Refusal → Type 0
Either came own = (came ≡ own) ⊎ (came ≡ Some refusals.Full)

none_or_full : (b : Bool) → Either (refused_if b refusals.Full) None
none_or_full true = inr refl
none_or_full false = inl refl

ours_or_full : (a b c : Bool) → Either (cond a (Some refusals.Ours) (cond b (Some refusals.Full) (refused_if c refusals.Full)))
    (refused_if a refusals.Ours)
ours_or_full true b c = inl refl
ours_or_full false true c = inr refl
ours_or_full false false true = inr refl
ours_or_full false false false = inl refl

message_told : (world : World) (given : Option Given) → Either (message_refusal world given) (not_ours (scenario_of world) given)
message_told world None = inl refl
message_told world (Some given) =
    ours_or_full (not (is_ours (scenario_of world) given)) (are_sessions_full world)
    (are_too_many (applied (control_at world (edge_of (scenario_of world) given.iface)).entries given.iface given.message (clock_of world)))

-- a fault that comes first
first_told : (fault came own : Option Refusal) → Either came own → Either (option_or fault came) (option_or fault own)
first_told None came own h = h
first_told (Some reason) came own h = inl refl

or_nothing : (fault : Option Refusal) → option_or fault None ≡ fault
or_nothing None = refl
or_nothing (Some reason) = refl

customer_told : (world : World) (vrf : VrfId) (event : CustomerEvent) → concerns (scenario_of world) vrf (events.Customer event) ≡ true
    → Either (refusal world (events.Customer event)) (own_refusal (scenario_of world) (events.Customer event))
customer_told world vrf (customers.Join iface entry) h =
    message_told world (message_of (scenario_of world) (events.Customer (customers.Join iface entry)))
customer_told world vrf (customers.Prune iface entry) h =
    message_told world (message_of (scenario_of world) (events.Customer (customers.Prune iface entry)))
customer_told world vrf (customers.Pim iface bytes) h =
    first_told (octets_refusal bytes) (message_refusal world (message_of (scenario_of world) (events.Customer (customers.Pim iface bytes))))
    (not_ours (scenario_of world) (message_of (scenario_of world) (events.Customer (customers.Pim iface bytes))))
    (message_told world (message_of (scenario_of world) (events.Customer (customers.Pim iface bytes))))
customer_told world vrf (customers.Select own pattern) h = absurd (false≢true h)
customer_told world vrf (customers.Unselect own pattern) h = absurd (false≢true h)
customer_told world vrf other h = none_or_full _

refusal_told : (world : World) (vrf : VrfId) (event : Event) → concerns (scenario_of world) vrf event ≡ true
    → Either (refusal world event) (own_refusal (scenario_of world) event)
refusal_told world vrf (events.Customer event) h = customer_told world vrf event h
refusal_told world vrf (events.Send site source group payload) h = none_or_full (are_links_full world)
refusal_told world vrf (events.Packet site octets) h =
    subst (Either (refusal world (events.Packet site octets))) (or_nothing (packet_fault octets))
    (first_told (packet_fault octets) (refused_if (are_links_full world) refusals.Full) None (none_or_full (are_links_full world)))
refusal_told world vrf (events.Tick count) h = inl refl
refusal_told world vrf (events.Timers node) h = inl refl
refusal_told world vrf events.Settle h = inl refl
refusal_told world vrf (events.Restart node) h = inl refl
refusal_told world vrf other h = absurd (false≢true h)

-- ---- one event

-- an event that is refused gives the line that says so
refused_line : (old : World) (timed : Timed) (reason : Refusal) (acts : List Happened) (next : World) → refusal old timed.event ≡ Some reason
    → outcome old timed ≡ Done acts next →
    lines_in acts ≡ lines.Refused timed.line reason ∷ []
refused_line old timed reason acts next is e =
    let first : List Happened = record { act = None; lines = lines.Refused timed.line reason ∷ [] } ∷ [] in
    let same : ◌≡◌ {A = Outcome} (Done first old) (Done acts next) =
    sym (ap (λ (o : Option Refusal). elim o [
      | None ↦ done old timed.event
      | Some why ↦
          Done (record { act = None; lines = lines.Refused timed.line why ∷ [] } ∷ []) old
    ]) is) ∙ e in
    let acts_same : first ≡ acts = cc in
    ap lines_in (sym acts_same)

says_own : (line : ℕ) → says_full line (lines.Refused line refusals.Full) ≡ true
says_own line = ap (λ b. b && true) (eq-eqb line line refl)

module _ (scenario : Scenario) (vrf : VrfId) (refused : List ℕ) where
  abbrev judged : Event → Answered
  judged event = record { event = event; accepted = accepts (own_refusal scenario event) }

  -- there was room for it
  abbrev Room : List Timed → List Traced → Type 0
  Room all trace =
      (place : ℕ) (timed : Timed) → slice_get all place ≡ Some timed → concerns scenario vrf timed.event ≡ true
      → list_any (says_full timed.line) (lines_of (report_of trace)) ≡ false

  -- the answer to an event of the VPN is that of the event itself
  answer_told : (old : World) (timed : Timed) (acts : List Happened) (next : World) (rest : List ReportLine) → scenario_of old ≡ scenario
      → outcome old timed ≡ Done acts next →
      concerns scenario vrf timed.event ≡ true → list_any (says_full timed.line) (lines_in acts ++ rest) ≡ false
      → is_accepted refused timed ≡ accepts (refusal old timed.event) →
      answered refused timed ≡ judged timed.event
  answer_told old timed acts next rest same e own room is =
      elim (subst (λ (s : Scenario). Either (refusal old timed.event) (own_refusal s timed.event)) same
      (refusal_told old vrf timed.event (ap (λ (s : Scenario). concerns s vrf timed.event) same ∙ own))) [
        | inl by_itself ↦ (let flag = is ∙ ap accepts by_itself in (λ i. record { event = timed.event; accepted = flag i }))
        | inr full ↦ absurd (true≢false (
            sym (or_left (says_full timed.line (lines.Refused timed.line refusals.Full)) (list_any (says_full timed.line) rest) (says_own timed.line))
            ∙ sym (ap (λ (l : List ReportLine). list_any (says_full timed.line) (l ++ rest)) (refused_line old timed refusals.Full acts next full e))
            ∙ room))
      ]

  own_answers : (all : List Timed) → AllByRecursion (λ (timed : Timed). IsSoundEvent scenario timed.event) all
      → (old : World) (number : ℕ) (trace : List Traced) (new : World) →
      WorldStays scenario old → TellsAccepted refused old all → Room all trace → Runs old number all trace new →
      filter (λ (own : Answered). concerns scenario vrf own.event) (map (answered refused) all)
      ≡ map judged (filter (concerns scenario vrf) (map (λ (timed : Timed). timed.event) all))
  own_answers [] sound old number trace new stays tells room run = refl
  own_answers (timed ∷ more) sound old number trace new stays tells room run =
      by (own_answers more sound.1 run.1 (number + 1) run.2 new (turned_stays scenario old stays timed sound.0 run.0 run.1 run.3)
      (tells.1 run.0 run.1 run.3) thereafter run.5)
      (concerns scenario vrf timed.event) refl
    where
      all_lines : lines_of (report_of trace) ≡ lines_in run.0 ++ lines_of (report_of run.2)
      all_lines = ap (λ (t : List Traced). lines_of (report_of t)) run.4 ∙ first_lines number run.0 run.2

      thereafter : Room more run.2
      thereafter place own at is =
          (or_parts (list_any (says_full own.line) (lines_in run.0)) (list_any (says_full own.line) (lines_of (report_of run.2)))
          (sym (list_any-append (says_full own.line) (lines_in run.0) (lines_of (report_of run.2)))
          ∙ sym (ap (list_any (says_full own.line)) all_lines)
          ∙ room (suc place) own at is)).1

      by : filter (λ (own : Answered). concerns scenario vrf own.event) (map (answered refused) more)
          ≡ map judged (filter (concerns scenario vrf) (map (λ (t : Timed). t.event) more)) →
          (b : Bool) → concerns scenario vrf timed.event ≡ b →
          cond b (answered refused timed ∷ filter (λ (own : Answered). concerns scenario vrf own.event) (map (answered refused) more))
          (filter (λ (own : Answered). concerns scenario vrf own.event) (map (answered refused) more))
          ≡ map judged (cond b (timed.event ∷ filter (concerns scenario vrf) (map (λ (t : Timed). t.event) more))
          (filter (concerns scenario vrf) (map (λ (t : Timed). t.event) more)))
      by rest true is =
          let here = answer_told old timed run.0 run.1 (lines_of (report_of run.2)) stays.0.same run.3 is
          (ap (list_any (says_full timed.line)) (sym all_lines) ∙ room 0 timed refl is) tells.0 in
          (λ i. here i ∷ rest i)
      by rest false is = rest

-- ---- two runs

pub answers_in : (vrf : VrfId) (run : OneRun) → HasRoom vrf run →
    filter (λ (own : Answered). concerns run.script.scenario vrf own.event) (map (answered (refused_lines (report_of run.trace))) run.events)
    ≡ map (judged run.script.scenario vrf (refused_lines (report_of run.trace))) (asked_in vrf run)
answers_in vrf run room =
    let scenario = run.script.scenario in
    own_answers scenario vrf (refused_lines (report_of run.trace)) run.events run.sound.sound_events (start scenario run.cores) 0 run.trace run.world
    (start_stays scenario run.cores run.sound.scenario)
    (tells_accepted run.events (start scenario run.cores) 0 run.trace run.world 0 [] (refused_lines (report_of run.trace)) run.rises
    (λ line less. refl) refl run.sound.run)
    room run.sound.run

pub runs_are_alike : (vrf : VrfId) (one other : OneRun) → one.script.scenario ≡ other.script.scenario → asked_in vrf one ≡ asked_in vrf other
    → HasRoom vrf one → HasRoom vrf other →
    AreAlike vrf (past_in one) (past_in other)
runs_are_alike vrf one other same asked room other_room = record {
  scenario = same;
  events = answers_in vrf one room
      ∙ (λ i. map (λ (event : Event). record { event = event; accepted = accepts (own_refusal (same i) event) }) (asked i))
      ∙ sym (answers_in vrf other other_room);
}
