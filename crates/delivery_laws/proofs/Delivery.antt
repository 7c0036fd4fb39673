-- Each datagram that is sent in a window is delivered once.
use Rattle.std.specs.Prelude.{⊤, sum_by, count_by, slice_get, ◌==◌}
use Rattle.std.proofs.Common.{◌≡◌, ◌≢◌, ℕ, ◌+◌, ◌-◌, ◌<◌, ◌≤◌, nat_le, Bool, cond, ◌++◌, length, List, [], ◌∷◌, Option, None, Some, refl, sym, ap, subst, inl, inr, ◌⊎◌, ⊎_elim, ◌∙◌, append_assoc, append-nil, length-append, arith}
use Rattle.std.specs.List.{flat_map, AllByRecursion}
use Rattle.std.proofs.lemmas.Bool.{cases_Bool, and_parts, cond-true, cond-false, leb-true, le-leb}
use Rattle.std.proofs.lemmas.Option.{slice_get_within}
use Rattle.mv_base.specs.declared.addr.Addr.{Addr}
use Rattle.mv_base.specs.declared.ids.IfaceId.{IfaceId}
use Rattle.mv_base.specs.declared.ids.NodeId.{NodeId}
use Rattle.mv_base.specs.declared.ids.SiteId.{SiteId}
use Rattle.scenario_defs.specs.declared.event.Event.{Event}
use Rattle.scenario_defs.specs.declared.event.Event.TheVariants as events
use Rattle.scenario_defs.specs.declared.event.Script.{Script}
use Rattle.scenario_defs.specs.declared.event.Timed.{Timed}
use Rattle.scenario_defs.specs.declared.report.Refusal.{Refusal}
use Rattle.scenario_defs.specs.declared.report.ReportLine.TheVariants as lines
use Rattle.network_defs.specs.session_defs.Octets.{OctetNetwork}
use Rattle.mvpn_model.specs.Once.{IsOfWindow}
use Rattle.mvpn_model.specs.Report.{lines_of, is_out_at, outs_at}
use Rattle.network_defs.specs.Costs.{Cores}
use Rattle.network_defs.specs.Counts.{link_ways}
use Rattle.network_defs.specs.Events.{Happened, Done, done}
use Rattle.network_defs.specs.Nodes.{Nodes}
use Rattle.network_defs.specs.Refusals.{refusal}
use Rattle.network_defs.specs.Run.{Traced, outcome, traced, report_of, Runs, IsDrained}
use Rattle.network_defs.specs.World.{World, Datagram, LinkCopy, start as fresh_world, scenario_of}
use Rattle.network_defs.proofs.Numbered.{numbered_at}
use Rattle.delivery_laws.specs.Flood.{is_way, SoundCopy, OnLinks, owed_by, fates_in, written_of, lines_in, outs_in}
use Rattle.delivery_laws.specs.Calm.{CalmWorld}
use Rattle.delivery_laws.specs.Window.{AreOfWindow, WindowRun, AreDeliveredOnce}
use Rattle.delivery_laws.specs.Once.{brought_by}
use Rattle.delivery_laws.proofs.Totals.{count-append}
use Rattle.delivery_laws.proofs.Copies.{EachCopy}
use Rattle.delivery_laws.proofs.Trees.{sum-zero}
use Rattle.delivery_laws.proofs.Rows.{Ready, owed}
use Rattle.delivery_laws.proofs.Windows.{had, IsAmong, EventStep, quiet_step, event_step}
use Rattle.delivery_laws.proofs.Outcomes.{Leads}
use Rattle.delivery_laws.proofs.Events.{Before, event_leads}
use Rattle.delivery_laws.proofs.Silent.{Sent, any_lines, act_sent, Silent, Entering, WritesNothing, write_nothing, act_silent, entry_silent}
use Rattle.delivery_laws.proofs.Tunnels.{flow_writes}
use Rattle.delivery_laws.proofs.Splits.{get_first}
use Rattle.edge_words.proofs.edge_laws.Local.{both_none}
use Rattle.label_defs.proofs.KeyLemmas.{node_equal}
use Rattle.label_defs.proofs.MemberLemmas.{count-cons}
use Rattle.network_laws.proofs.ready_laws.RunsTell.{first_lines}

-- ---- lists

outs_first : (number : ℕ) (acts : List Happened) (rest : List Traced) (own : ℕ) (iface : IfaceId)
    → outs_at (report_of (traced number acts ++ rest)) own iface ≡ outs_in own iface (lines_in acts) + outs_at (report_of rest) own iface
outs_first number acts rest own iface =
    ap (count_by (is_out_at own iface)) (first_lines number acts rest)
    ∙ count-append (is_out_at own iface) (lines_in acts) (lines_of (report_of rest))

outs_both : (first more : List Traced) (own : ℕ) (iface : IfaceId)
    → outs_at (report_of (first ++ more)) own iface ≡ outs_at (report_of first) own iface + outs_at (report_of more) own iface
outs_both [] more own iface = omega arith
outs_both (step ∷ first) more own iface =
    let rest = outs_both first more own iface in
    let own_lines = step.happened.lines in
    omega (
      arith,
      rest,
      count-append (is_out_at own iface) own_lines (lines_of (report_of (first ++ more))),
      count-append (is_out_at own iface) own_lines (lines_of (report_of first)),
    )

-- ---- one event of a window

turned : (network : OctetNetwork Nodes) → OnLinks network → (old : World) → Ready network old.datagrams old → (timed : Timed)
    → (refusal old timed.event ≡ None → IsOfWindow timed.event) → (acts : List Happened) (next : World) → outcome old timed ≡ Done acts next
    → EventStep network old (lines_in acts) next
turned network links old r timed w acts next e = by (refusal old timed.event) refl e
  where
    by : (o : Option Refusal) → refusal old timed.event ≡ o
        → (elim o [ None ↦ done old timed.event | Some reason ↦ Done (record { act = None; lines = lines.Refused timed.line reason ∷ [] } ∷ []) old ])
        ≡ Done acts next → EventStep network old (lines_in acts) next
    by None n is = event_step network links old r timed.event (w n) acts next is
    by (Some reason) n is =
        quiet_step network links old r (Done (record { act = None; lines = lines.Refused timed.line reason ∷ [] } ∷ []) old)
        (λ number datagram iface among. record { ready = r; flow = omega arith }) acts next is

-- ---- the events of a window

-- What an `EventStep` says, of a row of events, by what their report says.
pub record Windowed (network : OctetNetwork Nodes) (old : World) (trace : List Traced) (new : World) : Type 0 where
  pub more : List Datagram
  pub grows : new.datagrams ≡ old.datagrams ++ more
  pub ready : Ready network new.datagrams new
  pub flow : (number : ℕ) (datagram : Datagram) (iface : IfaceId) → 0 < number → IsAmong number datagram new.datagrams
      → outs_at (report_of trace) number iface + (owed network number datagram iface new + had network number datagram iface old.datagrams)
      ≡ owed network number datagram iface old + had network number datagram iface new.datagrams

among_first : (number : ℕ) (datagram : Datagram) (first more all : List Datagram) → all ≡ first ++ more → 0 < number → IsAmong number datagram all
    → IsAmong number datagram first
among_first number datagram first more all e some h le =
    let long : length all ≡ length first + length more = ap (λ (d : List Datagram). length d) e ∙ length-append first more in
    numbered_at first number some
    ∙ sym (get_first first more (number - 1) (omega (arith, some, le)))
    ∙ ap (λ (d : List Datagram). slice_get d (number - 1)) (sym e)
    ∙ sym (numbered_at all number some)
    ∙ h (omega (arith, long, le))

pub windowed : (network : OctetNetwork Nodes) → OnLinks network → (events : List Timed) (old : World) (start : ℕ) (trace : List Traced) (new : World)
    → Ready network old.datagrams old → AreOfWindow old events → Runs old start events trace new → Windowed network old trace new
windowed network links [] old start trace new r w run =
    let stays : Windowed network old [] old =
    record { more = []; grows = sym (append-nil old.datagrams); ready = r; flow = λ number datagram iface some is. omega arith } in
    subst (λ (t : List Traced). Windowed network old t new) (sym run.0) (subst (λ (x : World). Windowed network old [] x) (sym run.1) stays)
windowed network links (timed ∷ more) old start trace new r w run =
    let acts = run.0 in
    let next = run.1 in
    let first = turned network links old r timed w.0 acts next run.3 in
    let rest = windowed network links more next (start + 1) run.2 new first.ready (w.1 acts next run.3) run.5 in
    subst (λ (t : List Traced). Windowed network old t new) (sym run.4) (record {
      more = first.more ++ rest.more;
      grows = rest.grows ∙ ap (λ (d : List Datagram). d ++ rest.more) first.grows ∙ append_assoc old.datagrams first.more rest.more;
      ready = rest.ready;
      flow = λ number datagram iface some is.
          let one = first.flow number datagram iface (among_first number datagram next.datagrams rest.more new.datagrams rest.grows some is) in
          let others = rest.flow number datagram iface some is in
          omega (arith, one, others, outs_first start acts run.2 number iface);
    })

-- ---- no copies

-- Without copies nothing is owed.
owes_nothing : (network : OctetNetwork Nodes) (number : ℕ) (datagram : Datagram) (iface : IfaceId) (world : World)
    → ((u n : NodeId) → world.copies u n ≡ []) → owed network number datagram iface world ≡ 0
owes_nothing network number datagram iface world h =
    sum-zero (λ (way : NodeId × NodeId). sum_by (owed_by (fates_in network datagram) number iface way.0 way.1) (world.copies way.0 way.1))
    (λ way. ap (sum_by (owed_by (fates_in network datagram) number iface way.0 way.1)) (h way.0 way.1)) (link_ways network.state.scenario)

-- Where no copy is on a link, none is anywhere.
pub drained_empty : (network : OctetNetwork Nodes) (world : World) → Ready network world.datagrams world → IsDrained world → (u n : NodeId)
    → world.copies u n ≡ []
drained_empty network world r d u n = by (world.copies u n) refl (r.sound u n)
  where
    along : (ways : List (NodeId × NodeId)) → flat_map (λ (way : NodeId × NodeId). world.copies way.0 way.1) ways ≡ []
        → count_by (is_way u n) ways ≡ 1 → world.copies u n ≡ []
    along [] e h = absurd (omega (arith, h))
    along (way ∷ more) e h =
        let parts = both_none (world.copies way.0 way.1) (flat_map (λ (w : NodeId × NodeId). world.copies w.0 w.1) more) e in
        elim (cases_Bool (is_way u n way)) [
          | inl t ↦ (let same = and_parts (way.0.0 == u.0) (way.1.0 == n.0) t in
              (λ i. world.copies (sym (node_equal way.0 u same.0) i) (sym (node_equal way.1 n same.1) i)) ∙ parts.0)
          | inr f ↦ (let none : cond {A = ℕ} (is_way u n way) 1 0 ≡ 0 = cond-false (is_way u n way) 1 0 f in
              along more parts.1 (omega (arith, count-cons (is_way u n) way more, none, h)))
        ]

    by : (list : List LinkCopy) → world.copies u n ≡ list
        → AllByRecursion (SoundCopy (link_ways network.state.scenario) (length world.datagrams) u n) list → world.copies u n ≡ []
    by [] e s = e
    by (copy ∷ more) e s =
        along (link_ways (scenario_of world)) d (subst (λ (x : OctetNetwork Nodes). count_by (is_way u n) (link_ways x.state.scenario) ≡ 1)
        (sym r.network_is) s.0.on_way)

-- ---- outside of the window

-- What comes of an event that is not refused, and of one that is.
pub record Came (old : World) (timed : Timed) (acts : List Happened) (next : World) : Type 0 where
  pub is : (done old timed.event ≡ Done acts next)
      ⊎ ((reason : Refusal) × ((record { act = None; lines = lines.Refused timed.line reason ∷ [] } ∷ []) ≡ acts) × (old ≡ next))

pub came : (old : World) (timed : Timed) (acts : List Happened) (next : World) → outcome old timed ≡ Done acts next → Came old timed acts next
came old timed acts next e = by (refusal old timed.event) e
  where
    by : (o : Option Refusal) → (elim o [
      | None ↦ done old timed.event
      | Some reason ↦
          Done (record { act = None; lines = lines.Refused timed.line reason ∷ [] } ∷ []) old
    ]) ≡ Done acts next → Came old timed acts next
    by None is = record { is = inl is }
    by (Some reason) is =
        let first : List Happened = record { act = None; lines = lines.Refused timed.line reason ∷ [] } ∷ [] in
        record { is = inr (reason, (let same : first ≡ acts = cc in same), (let world : old ≡ next = cc in world)) }

-- the datagrams after an event
pub done_sends : (old : World) (event : Event) (acts : List Happened) (next : World) → done old event ≡ Done acts next
    → next.datagrams ≡ old.datagrams ++ brought_by event
done_sends old event acts next e =
    let all = old.datagrams ++ brought_by event in
    (subst (Leads (λ l. ⊤) (Sent all)) e (event_leads (λ l. ⊤) any_lines (Sent all) (Sent all) (λ one k world s. act_sent all one world s)
    (λ one k world s. act_sent all one world s) (λ world s. s) old event (before event))).1
  where
    before : (one : Event) → Before (λ l. ⊤) any_lines (Sent (old.datagrams ++ brought_by one)) (Sent (old.datagrams ++ brought_by one))
        (λ a k world s. act_sent (old.datagrams ++ brought_by one) a world s) (λ a k world s. act_sent (old.datagrams ++ brought_by one) a world s)
        (λ world s. s) old one
    before (events.Send site source group payload) = refl
    before (events.Packet site octets) = refl
    before other = sym (append-nil old.datagrams)

-- Datagrams are never forgotten.
not_fewer : (events : List Timed) (old : World) (start : ℕ) (trace : List Traced) (new : World) → Runs old start events trace new
    → length old.datagrams ≤ length new.datagrams
not_fewer [] old start trace new run = (let same = ap (λ (w : World). length w.datagrams) run.1 in omega (arith, same))
not_fewer (timed ∷ more) old start trace new run =
    let rest = not_fewer more run.1 (start + 1) run.2 new run.5 in
    elim (came old timed run.0 run.1 run.3).is [
      | inl is ↦ (let long = ap (λ (d : List Datagram). length d) (done_sends old timed.event run.0 run.1 is) in
          omega (arith, rest, long, length-append old.datagrams (brought_by timed.event)))
      | inr r ↦ (let same = ap (λ (w : World). length w.datagrams) r.2 in omega (arith, rest, same))
    ]

module _ (number : ℕ) (iface : IfaceId) where
  before_silent : (world : World) (event : Event) → Silent number iface world
      → (length world.datagrams < length (world.datagrams ++ brought_by event) → length (world.datagrams ++ brought_by event) ≢ number)
      → Before (WritesNothing number iface) (write_nothing number iface) (Silent number iface) (Entering number iface) (act_silent number iface)
      (entry_silent number iface) (λ w s. s.silent) world event
  before_silent world (events.Send site source group payload) s h =
      record {
        not_last = h (omega (arith, length-append world.datagrams (brought_by (events.Send site source group payload))));
        silent =
            record { no_copy = s.no_copy };
      }
  before_silent world (events.Packet site octets) s h =
      record {
        not_last = h (omega (arith, length-append world.datagrams (brought_by (events.Packet site octets))));
        silent =
            record { no_copy = s.no_copy };
      }
  before_silent world other s h = s

  -- A datagram without copies that is not sent among these events leaves nowhere.
  silent_runs : (events : List Timed) (old : World) (start : ℕ) (trace : List Traced) (new : World) → Silent number iface old
      → (number ≤ length old.datagrams) ⊎ (length new.datagrams < number) → Runs old start events trace new
      → outs_at (report_of trace) number iface ≡ 0
  silent_runs [] old start trace new s side run = ap (λ (t : List Traced). outs_at (report_of t) number iface) run.0
  silent_runs (timed ∷ more) old start trace new s side run =
      let acts = run.0 in
      let next = run.1 in
      let all = old.datagrams ++ brought_by timed.event in
      ap (λ (t : List Traced). outs_at (report_of t) number iface) run.4 ∙ elim (came old timed acts next run.3).is [
        | inl is ↦
            let sent : next.datagrams ≡ all = done_sends old timed.event acts next is in
            let long : length next.datagrams ≡ length all = ap (λ (d : List Datagram). length d) sent in
            let least = not_fewer more next (start + 1) run.2 new run.5 in
            let not_last : length old.datagrams < length all → length all ≢ number =
            λ lt e. ⊎_elim (λ le. absurd (omega (arith, le, lt, e))) (λ gt. absurd (omega (arith, gt, least, long, e))) side in
            let leads = subst (Leads (WritesNothing number iface) (Silent number iface)) is
            (event_leads (WritesNothing number iface) (write_nothing number iface) (Silent number iface) (Entering number iface)
            (act_silent number iface) (entry_silent number iface) (λ w x. x.silent) old timed.event (before_silent old timed.event s not_last)) in
            let none = leads.0 in
            let rest =
            silent_runs more next (start + 1) run.2 new leads.1
            (⊎_elim (λ le. inl (omega (arith, le, long, length-append old.datagrams (brought_by timed.event)))) (λ gt. inr gt) side) run.5 in
            omega (arith, outs_first start acts run.2 number iface, none, rest)
        | inr r ↦
            let none : outs_in number iface (lines_in acts) ≡ 0 = ap (λ (a : List Happened). outs_in number iface (lines_in a)) (sym r.1) in
            let rest =
            silent_runs more next (start + 1) run.2 new (subst (Silent number iface) r.2 s)
            (⊎_elim (λ le. inl (subst (λ (w : World). number ≤ length w.datagrams) r.2 le)) (λ gt. inr gt) side) run.5 in
            omega (arith, outs_first start acts run.2 number iface, none, rest)
      ]

-- ---- the whole

no_copies : (world : World) → ((u n : NodeId) → world.copies u n ≡ []) → (P : NodeId → NodeId → LinkCopy → Type 0) → EachCopy P world.copies
no_copies world h P u n = subst (AllByRecursion (P u n)) (sym (h u n)) tt

-- the copies of a calm network are sound, since there are none
pub ready_calm : (receives : SiteId → Addr → Addr → IfaceId → Bool) (world : World) → CalmWorld receives world
    → Ready world.network world.datagrams world
ready_calm receives world calm =
    record {
      network_is = refl;
      datagrams_are = refl;
      sound =
          no_copies world calm.empty (SoundCopy (link_ways world.network.state.scenario) (length world.datagrams));
    }

pub delivered_once : (receives : SiteId → Addr → Addr → IfaceId → Bool) (cores : Cores) (script : Script) (before within after : List Timed)
    (trace : List Traced) (calm last new : World)
    → WindowRun receives cores script before within after trace calm last new → AreDeliveredOnce receives trace calm last
delivered_once receives cores script before within after trace calm last new run place datagram iface le at =
    let network = calm.network in
    let number = place + 1 in
    let empty = run.is_calm.empty in
    let ready = ready_calm receives calm run.is_calm in
    let w = windowed network run.is_calm.links within calm (length before) run.middle last ready run.of_window run.window in
    let gone = drained_empty network last w.ready run.drained in
    let within_last = slice_get_within last.datagrams place datagram at in
    let here : number - 1 ≡ place = omega arith in
    let flow =
    w.flow number datagram iface (omega arith) (λ x. numbered_at last.datagrams number (omega arith) ∙ ap (slice_get last.datagrams) here ∙ at) in
    let none_before = owes_nothing network number datagram iface calm empty in
    let none_after = owes_nothing network number datagram iface last gone in
    let not_yet : had network number datagram iface calm.datagrams ≡ 0 =
    cond-false (nat_le number (length calm.datagrams)) (written_of network datagram iface) 0
    (elim (cases_Bool (nat_le number (length calm.datagrams))) [
      | inl t ↦ (let less = leb-true number (length calm.datagrams) t in absurd (omega (arith, less, le)))
      | inr f ↦ f
    ]) in
    let all_of_it : had network number datagram iface last.datagrams ≡ written_of network datagram iface =
    cond-true (nat_le number (length last.datagrams)) (written_of network datagram iface) 0
    (le-leb number (length last.datagrams) (omega (arith, within_last))) in
    let early =
    silent_runs number iface before (fresh_world script.scenario cores) 0 run.first calm (record { no_copy = λ u n. tt })
    (inr (omega (arith, le))) run.up_to in
    let late =
    silent_runs number iface after last (length before + length within) run.rest new
    (record { no_copy = no_copies last gone (λ u n copy. copy.number ≢ number) }) (inl (omega (arith, within_last))) run.later in
    let written = flow_writes network (receives datagram.site datagram.source datagram.group) datagram (run.is_calm.flows datagram) iface in
    let split = ap (λ (t : List Traced). outs_at (report_of t) number iface) run.whole ∙ outs_both run.first (run.middle ++ run.rest) number iface in
    omega (arith, split, outs_both run.middle run.rest number iface, flow, none_before, none_after, not_yet, all_of_it, early, late, written)
