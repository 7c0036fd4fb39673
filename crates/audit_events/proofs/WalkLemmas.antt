-- The pass over the events, event by event.
use Rattle.std.specs.Prelude.{◌&&◌}
use Rattle.std.proofs.Common.{◌≡◌, ℕ, zero, suc, ◌+◌, ◌<◌, ◌^◌, Bool, true, false, not, cond, ◌++◌, map, take, drop, length, List, [], ◌∷◌, slice_get, Option, None, Some, refl, sym, ap, subst, ◌∙◌, arith}
use Rattle.std.proofs.lemmas.Bool.{true≢false}
use Rattle.std.proofs.lemmas.Option.{none-some, slice_get_within}
use Rattle.audit_defs.specs.scenario_defs.Rules.{IsEventOf}
use Rattle.audit_defs.specs.scenario_defs.declared.event.Event.{Event}
use Rattle.audit_defs.specs.scenario_defs.declared.event.CustomerEvent.TheVariants as customers
use Rattle.audit_defs.specs.scenario_defs.declared.event.Event.TheVariants as events
use Rattle.audit_defs.specs.scenario_defs.declared.event.Timed.{Timed}
use Rattle.audit_defs.specs.scenario_defs.declared.scenario.Scenario.{Scenario}
use Rattle.audit_defs.specs.mvpn_model.declared.message.Given.{Given}
use Rattle.audit_defs.specs.mvpn_model.Messages.{message_of}
use Rattle.audit_defs.specs.mvpn_model.Past.{Past, is_accepted, ticks_of, ticks_in}
use Rattle.audit_defs.specs.mvpn_model.Packet.{packet}
use Rattle.audit_defs.specs.mvpn_model.Packets.{source_in, group_in}
use Rattle.audit_defs.specs.mvpn_model.Report.{Datagram, sent_by, datagrams}
use Rattle.audit_defs.proofs.mvpn_model.TicksLemmas.{clock_small}
use Rattle.audit_defs.proofs.Fitting.{take_whole}
use Rattle.audit_defs.proofs.Lists.{some_same, each_got}
use Rattle.audit_events.specs.declared.case.Case.{Case}
use Rattle.audit_events.specs.declared.fate.Fate.{Fate}
use Rattle.audit_events.specs.declared.fate.Fate.TheVariants as fates
use Rattle.audit_events.specs.declared.joined.Joined.{Joined}
use Rattle.audit_events.specs.declared.receivers.Flow.{Flow}
use Rattle.audit_events.specs.declared.sents.Sent.{Sent}
use Rattle.audit_events.specs.declared.sents.Walk.{Walk}
use Rattle.audit_events.specs.Case.{scenario_of, events_of, audited_of, past_of, fates_of, is_open, IsCase}
use Rattle.audit_events.specs.Fates.{is_refused, opened, opens_after, closes, closings}
use Rattle.audit_events.specs.Joined.{Kept, kept_of, Follows, TakesGiven, Steps, IsEmpty, IsFresh}
use Rattle.audit_events.specs.Sents.{flow_of, fate_in, closing_in, sent_now, sent_if_any, sent_of, sents_before, listed, sents_of, IsStepped, IsWalked}
use Rattle.audit_events.proofs.DatagramLemmas.{sent_at, one_more_sent}
use Rattle.audit_events.proofs.FateLemmas.{event_judged}
use Rattle.audit_events.proofs.FollowLemmas.{one_more, refused_follows, steps_follow, empty_follows}
use Rattle.audit_events.proofs.ReceiverLemmas.{receivers_same}

-- ---- lists

pub next_is : (n : ℕ) → n + 1 ≡ suc n
next_is n = omega arith

pub take_next : {X : Type 0} (xs : List X) (n : ℕ) (x : X) → slice_get xs n ≡ Some x → take (suc n) xs ≡ take n xs ++ x ∷ []
take_next [] n x e = absurd (none-some x e)
take_next (y ∷ ys) zero x e = (λ i. some_same y x e i ∷ [])
take_next (y ∷ ys) (suc n) x e = (λ i. y ∷ take_next ys n x e i)

ticks_next : (all : List Timed) (n : ℕ) (timed : Timed) → slice_get all n ≡ Some timed
    → ticks_in (take (suc n) all) ≡ ticks_in (take n all) + ticks_of timed.event
ticks_next [] n timed e = absurd (none-some timed e)
ticks_next (first ∷ more) zero timed e =
    ap (λ (t : Timed). ticks_of t.event + 0) (some_same first timed e)
    ∙ (let same : ticks_of timed.event + 0 ≡ 0 + ticks_of timed.event = omega arith in same)
ticks_next (first ∷ more) (suc n) timed e =
    ap (λ k. ticks_of first.event + k) (ticks_next more n timed e)
    ∙ (let same : ticks_of first.event + (ticks_in (take n more) + ticks_of timed.event)
    ≡ ticks_of first.event + ticks_in (take n more) + ticks_of timed.event = omega arith in same)

opened_next : (before : Bool) (all : List Timed) (fates : List Fate) (n : ℕ) (timed : Timed) (fate : Fate) → slice_get all n ≡ Some timed
    → slice_get fates n ≡ Some fate →
    opened before (take (suc n) all) (take (suc n) fates) ≡ opens_after (opened before (take n all) (take n fates)) timed fate
opened_next before [] fates n timed fate e f = absurd (none-some timed e)
opened_next before (first ∷ all) [] n timed fate e f = absurd (none-some fate f)
opened_next before (first ∷ all) (own ∷ fates) zero timed fate e f = (λ i. opens_after before (some_same first timed e i) (some_same own fate f i))
opened_next before (first ∷ all) (own ∷ fates) (suc n) timed fate e f = opened_next (opens_after before first own) all fates n timed fate e f

pub map_append : {X Y : Type 0} (f : X → Y) (xs ys : List X) → map f (xs ++ ys) ≡ map f xs ++ map f ys
map_append f [] ys = refl
map_append f (x ∷ xs) ys = (λ i. f x ∷ map_append f xs ys i)

closing_at : (all : List Timed) (fates : List Fate) (n : ℕ) (timed : Timed) (fate : Fate) → slice_get all n ≡ Some timed
    → slice_get fates n ≡ Some fate →
    slice_get (closings all fates) n ≡ Some (closes (drop n all) (drop n fates))
closing_at [] fates n timed fate e f = absurd (none-some timed e)
closing_at (first ∷ all) [] n timed fate e f = absurd (none-some fate f)
closing_at (first ∷ all) (own ∷ fates) zero timed fate e f = refl
closing_at (first ∷ all) (own ∷ fates) (suc n) timed fate e f = closing_at all fates n timed fate e f

-- ---- the clock, and how many events there were

record Moved (event : Event) (old new : Kept) : Type 0 where
  clock : new.clock ≡ old.clock + ticks_of event
  now : new.now ≡ old.now + 1

given_on : (scenario : Scenario) (o : Option Given) (old new : Kept) → TakesGiven scenario o old new
    → (new.clock ≡ old.clock + 0) × (new.now ≡ old.now + 1)
given_on scenario None old new goes = (goes.clock, goes.now)
given_on scenario (Some given) old new takes = ((let e = takes.clock in omega (arith, e)), takes.now)

steps_on : (scenario : Scenario) (event : Event) (old new : Kept) → Steps scenario event old new → Moved event old new
steps_on scenario (events.Tick count) old new steps = record { clock = steps.clock; now = steps.now }
steps_on scenario (events.Restart node) old new steps = record { clock = steps.clock; now = steps.now }
steps_on scenario (events.Customer (customers.Join iface entry)) old new steps =
    (let r = given_on scenario (message_of scenario (events.Customer (customers.Join iface entry))) old new steps in record { clock = r.0; now = r.1 })
steps_on scenario (events.Customer (customers.Prune iface entry)) old new steps =
    (let r = given_on scenario (message_of scenario (events.Customer (customers.Prune iface entry))) old new steps in record { clock = r.0; now = r.1 })
steps_on scenario (events.Customer (customers.Pim iface bytes)) old new steps =
    (let r = given_on scenario (message_of scenario (events.Customer (customers.Pim iface bytes))) old new steps in record { clock = r.0; now = r.1 })
steps_on scenario (events.Customer other) old new steps = record { clock = (let e = steps.clock in omega (arith, e)); now = steps.now }
steps_on scenario other old new steps = record { clock = steps.clock; now = steps.now }

-- ---- one event

module _ (case : Case) (is : IsCase case) (number : ℕ) (timed : Timed) (at : slice_get (events_of case) number ≡ Some timed) where
  abbrev refused : List ℕ
  refused = (audited_of case).refused

  pub fate_there : (fate : Fate) × (slice_get (fates_of case) number ≡ Some fate) × (is_refused fate ≡ not (is_accepted refused timed))
  fate_there =
      let j = event_judged case.script.now case.report.now case.marked is.rules.lines is.marked number timed at in
      (j.there.fate, j.there.at, j.refused)

  number_small : number < 200000
  number_small = (let less = slice_get_within (events_of case) number timed at in let few = is.rules.few in omega (arith, less, few))

  pub fate_is : (fate : Fate) → slice_get case.fates number ≡ Some fate
      → (slice_get (fates_of case) number ≡ Some fate) × (is_refused fate ≡ not (is_accepted refused timed))
  fate_is fate e =
      let t = fate_there in
      let there : slice_get (fates_of case) number ≡ Some fate = ap (λ (l : List Fate). slice_get l number) (sym is.fates) ∙ e in
      (there, ap is_refused (some_same fate t.0 (sym there ∙ t.1)) ∙ t.2)

  pub opens_next : (fate : Fate) → slice_get (fates_of case) number ≡ Some fate
      → is_open case (number + 1) ≡ opens_after (is_open case number) timed fate
  opens_next fate e =
      ap (λ n. opened false (take n (events_of case)) (take n (fates_of case))) (next_is number)
      ∙ opened_next false (events_of case) (fates_of case) number timed fate at e

  pub past_next : past_of case (number + 1) ≡ one_more (past_of case number) timed
  past_next =
      ap (λ n. past_of case n) (next_is number)
      ∙ ap (λ (l : List Timed). record { scenario = scenario_of case; events = l; refused = refused }) (take_next (events_of case) number timed at)

  -- ---- what is said of its datagram

  sents_next : sents_before case (number + 1) ≡ sents_before case number ++ map (sent_of case) (sent_at refused number timed)
  sents_next =
      ap (λ n. map (sent_of case) (datagrams refused 0 (take n (events_of case)))) (next_is number)
      ∙ (ap (map (sent_of case)) (one_more_sent refused 0 (events_of case) number timed at)
      ∙ (map_append (sent_of case) (datagrams refused 0 (take number (events_of case))) (sent_at refused (0 + number) timed)
      ∙ ap (λ n. sents_before case number ++ map (sent_of case) (sent_at refused n timed)) (let plain : 0 + number ≡ number = omega arith in plain)))

  pub refused_sents : is_accepted refused timed ≡ false → sents_before case (number + 1) ≡ sents_before case number ++ []
  refused_sents isnt = sents_next ∙ ap (λ b. sents_before case number ++ map (sent_of case) (cond b (sent_by number timed.event) [])) isnt

  accepted_sents : is_accepted refused timed ≡ true
      → sents_before case (number + 1) ≡ sents_before case number ++ map (sent_of case) (sent_by number timed.event)
  accepted_sents holds = sents_next ∙ ap (λ b. sents_before case number ++ map (sent_of case) (cond b (sent_by number timed.event) [])) holds

  quiet_sents : is_accepted refused timed ≡ true → flow_of timed.event ≡ None → sents_before case (number + 1) ≡ sents_before case number ++ []
  quiet_sents holds none = accepted_sents holds ∙ ap (λ (l : List Datagram). sents_before case number ++ map (sent_of case) l) (by timed.event none)
    where
      by : (event : Event) → flow_of event ≡ None → sent_by number event ≡ []
      by (events.Send site source group payload) e = absurd (none-some _ (sym e))
      by (events.Packet site octets) e = absurd (none-some _ (sym e))
      by other e = refl

  windowed_is : (closing : Bool) → slice_get case.closings number ≡ Some closing
      → closing ≡ closes (drop number (events_of case)) (drop number (fates_of case))
  windowed_is closing e =
      let t = fate_there in
      some_same closing (closes (drop number (events_of case)) (drop number (fates_of case)))
      (sym e ∙ (ap (λ (l : List Bool). slice_get l number) is.closings ∙ closing_at (events_of case) (fates_of case) number timed t.0 at t.1))

  pub flow_sents : (walk : Walk) → IsWalked case number walk → is_accepted refused timed ≡ true → (flow : Flow) → flow_of timed.event ≡ Some flow
      → (closing : Bool) → slice_get case.closings number ≡ Some closing →
      sents_before case (number + 1) ≡ sents_before case number ++ sent_now case (kept_of walk.joined) (walk.is_open && closing) number flow ∷ []
  flow_sents walk walked holds flow e closing c = accepted_sents holds ∙ ap (λ (l : List Sent). sents_before case number ++ l) (by timed.event e)
    where
      noted : (datagram : Datagram) → datagram.event ≡ number → datagram.site ≡ flow.site → datagram.source ≡ flow.source
          → datagram.group ≡ flow.group →
          sent_of case datagram ≡ sent_now case (kept_of walk.joined) (walk.is_open && closing) number flow
      noted datagram event site source group =
          (λ i. sent_of case (record { event = event i; site = site i; source = source i; group = group i; octets = datagram.octets }))
          ∙ (λ i. record {
            event = number;
            site = flow.site;
            asked = cond (sym walked.opened i && sym (windowed_is closing c) i)
                (Some (sym (receivers_same (past_of case number) (kept_of walk.joined) walked.follows is.rules.scenario case.vpns is.vpns flow) i))
                None;
          })

      by : (event : Event) → flow_of event ≡ Some flow
          → map (sent_of case) (sent_by number event) ≡ sent_now case (kept_of walk.joined) (walk.is_open && closing) number flow ∷ []
      by (events.Send site source group payload) same =
          let own : Flow = record { site = site; source = source; group = group } in
          let one : own ≡ flow = some_same own flow same in
          let datagram : Datagram = record { event = number; site = site; source = source; group = group; octets = packet source group payload } in
          ap (λ (s : Sent). s ∷ []) (noted datagram refl (ap (λ (f : Flow). f.site) one) (ap (λ (f : Flow). f.source) one)
          (ap (λ (f : Flow). f.group) one))
      by (events.Packet site octets) same =
          let own : Flow = record { site = site; source = source_in octets; group = group_in octets } in
          let one : own ≡ flow = some_same own flow same in
          let datagram : Datagram = record { event = number; site = site; source = source_in octets; group = group_in octets; octets = octets } in
          ap (λ (s : Sent). s ∷ []) (noted datagram refl (ap (λ (f : Flow). f.site) one) (ap (λ (f : Flow). f.source) one)
          (ap (λ (f : Flow). f.group) one))
      by other same = absurd (none-some flow same)

  closing_got : slice_get case.closings number ≡ Some (closes (drop number (events_of case)) (drop number (fates_of case)))
  closing_got =
      let t = fate_there in
      ap (λ (l : List Bool). slice_get l number) is.closings ∙ closing_at (events_of case) (fates_of case) number timed t.0 at t.1

  pub closing_is : (closing : Bool) → closing ≡ closing_in case.closings number → slice_get case.closings number ≡ Some closing
  closing_is closing e =
      closing_got ∙ ap (λ (b : Bool). Some b) (sym (e ∙ ap (λ (o : Option Bool). elim o [ None ↦ false | Some b ↦ b ]) closing_got))

  pub taken_sents : (walk : Walk) → IsWalked case number walk → is_accepted refused timed ≡ true → (sent : Option Sent)
      → sent ≡ sent_if_any case walk number timed.event →
      sents_before case (number + 1) ≡ sents_before case number ++ listed sent
  taken_sents walk walked holds sent same =
      by (flow_of timed.event) refl ∙ ap (λ (s : Option Sent). sents_before case number ++ listed s) (sym same)
    where
      closing : Bool
      closing = closing_in case.closings number

      of_flow : Option Flow → Option Sent
      of_flow flow =
          elim flow [ None ↦ None | Some f ↦ Some (sent_now case (kept_of walk.joined) (walk.is_open && closing) number f) ]

      by : (flow : Option Flow) → flow_of timed.event ≡ flow
          → sents_before case (number + 1) ≡ sents_before case number ++ listed (of_flow (flow_of timed.event))
      by None e = quiet_sents holds e ∙ ap (λ (f : Option Flow). sents_before case number ++ listed (of_flow f)) (sym e)
      by (Some flow) e =
          flow_sents walk walked holds flow e closing (closing_is closing refl)
          ∙ ap (λ (f : Option Flow). sents_before case number ++ listed (of_flow f)) (sym e)

  pub fate_got : (fate : Fate) → fate ≡ fate_in case.fates number → slice_get case.fates number ≡ Some fate
  fate_got fate e =
      let t = fate_there in
      let got : slice_get case.fates number ≡ Some t.0 = ap (λ (l : List Fate). slice_get l number) is.fates ∙ t.1 in
      got ∙ ap (λ (f : Fate). Some f) (sym (e ∙ ap (λ (o : Option Fate). elim o [ None ↦ fates.Accepted | Some f ↦ f ]) got))

  -- ---- the state after it

  pub clock_fits : (walk : Walk) → IsWalked case number walk → walk.joined.clock + ticks_of timed.event < 2 ^ 63
  clock_fits walk walked =
      let few = clock_small case.script.now (suc number) is.rules in
      let next = ticks_next (events_of case) number timed at in
      let clock = walked.clock in
      omega (arith, few, next, clock)

  pub count_fits : (walk : Walk) → IsWalked case number walk → walk.joined.count < 2 ^ 63
  count_fits walk walked = (let small = number_small in let count = walked.count in omega (arith, small, count))

  pub is_fresh : (walk : Walk) → IsWalked case number walk → IsFresh walk.joined.count walk.joined.entries
  is_fresh walk walked own held e = walked.follows.earlier.entry own held e

  pub is_known : IsEventOf (scenario_of case) timed.event
  is_known = each_got (λ (t : Timed). IsEventOf (scenario_of case) t.event) (events_of case) number timed is.rules.events at

  pub stepped : (old : Walk) (new : Joined) → IsWalked case number old → is_accepted refused timed ≡ true
      → Steps (scenario_of case) timed.event (kept_of old.joined) (kept_of new) →
      IsStepped case number (record old { joined = new })
  stepped old new walked holds steps =
      let on = steps_on (scenario_of case) timed.event (kept_of old.joined) (kept_of new) steps in
      let next = ticks_next (events_of case) number timed at in
      let one = ap (λ n. ticks_in (take n (events_of case))) (next_is number) in
      record {
        follows =
            subst (λ (past : Past). Follows past (kept_of new)) (sym past_next)
            (steps_follow (past_of case number) timed (kept_of old.joined) (kept_of new) is_known holds walked.follows steps);
        clock = (let clock = on.clock in let before = walked.clock in omega (arith, clock, before, next, one));
        count = (let now = on.now in let before = walked.count in omega (arith, now, before));
        opened = walked.opened;
      }

  pub unstepped : (old : Walk) → IsWalked case number old → is_accepted refused timed ≡ false → IsStepped case number old
  unstepped old walked isnt =
      let next = ticks_next (events_of case) number timed at in
      let one = ap (λ n. ticks_in (take n (events_of case))) (next_is number) in
      record {
        follows =
            subst (λ (past : Past). Follows past (kept_of old.joined)) (sym past_next)
            (refused_follows (past_of case number) timed (kept_of old.joined) isnt walked.follows);
        clock = (let before = walked.clock in omega (arith, before, next, one));
        count = (let before = walked.count in omega (arith, before));
        opened = walked.opened;
      }

  pub walked_next : (walk : Walk) → IsStepped case number walk → (fate : Fate) → slice_get (fates_of case) number ≡ Some fate → (now : Bool)
      → now ≡ opens_after walk.is_open timed fate →
      IsWalked case (number + 1) (record walk { is_open = now })
  walked_next walk stepped fate e now same = record {
    follows = stepped.follows;
    clock = stepped.clock;
    count = stepped.count;
    opened = same ∙ (ap (λ b. opens_after b timed fate) stepped.opened ∙ sym (opens_next fate e));
  }

  -- an event that was accepted
  pub is_taken : (fate : Fate) (b : Bool) → slice_get case.fates number ≡ Some fate → b ≡ is_refused fate → b ≡ false
      → is_accepted refused timed ≡ true
  is_taken fate b e same isnt = by (is_accepted refused timed) (sym (fate_is fate e).1 ∙ (sym same ∙ isnt))
    where
      by : (holds : Bool) → not holds ≡ false → holds ≡ true
      by true f = refl
      by false f = absurd (true≢false f)

  -- an event that was refused
  pub is_left : (fate : Fate) (b : Bool) → slice_get case.fates number ≡ Some fate → b ≡ is_refused fate → b ≡ true
      → is_accepted refused timed ≡ false
  is_left fate b e same is_so = by (is_accepted refused timed) (sym (fate_is fate e).1 ∙ (sym same ∙ is_so))
    where
      by : (holds : Bool) → not holds ≡ true → holds ≡ false
      by true f = absurd (true≢false (sym f))
      by false f = refl

  pub refused_none : (fate : Fate) (b : Bool) → slice_get case.fates number ≡ Some fate → b ≡ is_refused fate → b ≡ true
      → sents_before case (number + 1) ≡ sents_before case number ++ []
  refused_none fate b e same is_so = refused_sents (is_left fate b e same is_so)

  pub refused_walked : (old : Walk) (fate : Fate) (b now : Bool) → IsWalked case number old → slice_get case.fates number ≡ Some fate
      → b ≡ is_refused fate → b ≡ true →
      now ≡ opens_after old.is_open timed fate → IsWalked case (number + 1) (record old { is_open = now })
  refused_walked old fate b now walked e same is_so opens =
      walked_next old (unstepped old walked (is_left fate b e same is_so)) fate (fate_is fate e).0 now opens

  pub accepted_walked : (mid : Walk) (fate : Fate) (now : Bool) → IsStepped case number mid → slice_get case.fates number ≡ Some fate →
      now ≡ opens_after mid.is_open timed fate → IsWalked case (number + 1) (record mid { is_open = now })
  accepted_walked mid fate now steps e opens = walked_next mid steps fate (fate_is fate e).0 now opens

-- ---- before the first event, and after the last

pub first_walked : (case : Case) (walk : Walk) → IsEmpty (length (scenario_of case).nodes) (kept_of walk.joined) → walk.is_open ≡ false
    → IsWalked case 0 walk
first_walked case walk empty closed = record {
  follows = empty_follows (past_of case 0) (kept_of walk.joined) refl empty;
  clock = (let e = empty.clock in let same : walk.joined.clock ≡ 0 = e in omega (arith, same));
  count = (let e = empty.now in let same : walk.joined.count ≡ 0 = e in omega (arith, same));
  opened = closed;
}

pub all_sent : (case : Case) (count : ℕ) → count ≡ length (events_of case) → sents_before case count ≡ sents_of case
all_sent case count same =
    ap (λ (l : List Timed). map (sent_of case) (datagrams (audited_of case).refused 0 l))
    (ap (λ n. take n (events_of case)) same ∙ take_whole (events_of case))
