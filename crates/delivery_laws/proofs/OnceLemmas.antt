-- Each datagram of a window leaves once at each interface that receives it.
use Rattle.std.specs.Prelude.{slice_get, option_map, if◌then◌else◌}
use Rattle.std.proofs.Common.{◌≡◌, ℕ, zero, suc, ◌+◌, ◌-◌, ◌≤◌, ◌++◌, take, drop, length, List, [], ◌∷◌, Some, Bool, refl, sym, ap, subst, inl, inr, ◌∙◌, length-append, arith}
use Rattle.std.specs.List.{flat_map, AllByRecursion}
use Rattle.std.proofs.lemmas.Bool.{cases_lt}
use Rattle.std.proofs.lemmas.Option.{slice_get_within, slice_get-map}
use Rattle.mv_base.specs.declared.addr.Addr.{Addr}
use Rattle.mv_base.specs.declared.ids.IfaceId.{IfaceId}
use Rattle.mv_base.specs.declared.ids.NodeId.{NodeId}
use Rattle.mv_base.specs.declared.ids.SiteId.{SiteId}
use Rattle.scenario_defs.specs.Rules.{Rules, Rises}
use Rattle.scenario_defs.specs.declared.event.Event.TheVariants as event
use Rattle.scenario_defs.specs.declared.event.Script.{Script}
use Rattle.scenario_defs.specs.declared.event.Timed.{Timed}
use Rattle.scenario_defs.specs.declared.report.ReportLine.TheVariants as lines
use Rattle.scenario_defs.specs.declared.scenario.Scenario.{Scenario}
use Rattle.mvpn_model.specs.Once.{EndsWindow, IsWindow, past_at, Once}
use Rattle.mvpn_model.specs.Report.{Datagram as Accepted, datagrams, refused_lines, outs_at}
use Rattle.network_defs.specs.session_defs.Octets.{OctetNetwork}
use Rattle.network_defs.specs.Costs.{Cores}
use Rattle.network_defs.specs.Counts.{state_line, link_ways, all_copies}
use Rattle.network_defs.specs.Events.{Happened, Done}
use Rattle.network_defs.specs.Nodes.{Nodes}
use Rattle.network_defs.specs.Run.{Traced, outcome, report_of, Runs, Run, IsDrained}
use Rattle.network_defs.specs.World.{World, Datagram, start, scenario_of}
use Rattle.delivery_laws.specs.Calm.{CalmWorld}
use Rattle.delivery_laws.specs.Flood.{OnLinks, SoundCopy, AreSound}
use Rattle.delivery_laws.specs.Once.{in_network, receives_by, ZerosAreCalm, FlowsAreCalm, ChoicesAreCalm}
use Rattle.delivery_laws.proofs.Choice.{calm_flow}
use Rattle.delivery_laws.specs.Linked.{LinksOnce}
use Rattle.delivery_laws.proofs.LinksOnce.{links_once}
use Rattle.delivery_laws.proofs.LinkedRuns.{on_links}
use Rattle.delivery_laws.proofs.LinkedEvents.{run_is_linked}
use Rattle.delivery_laws.specs.Window.{AreOfWindow, WindowRun}
use Rattle.delivery_laws.proofs.Copies.{all_at, all_take, EachCopy}
use Rattle.delivery_laws.proofs.Rows.{Ready}
use Rattle.delivery_laws.proofs.Drains.{IsEmpty, drain_empties}
use Rattle.delivery_laws.proofs.Accepted.{TellsAccepted, tells_accepted}
use Rattle.delivery_laws.proofs.Splits.{cut_at, take_to, get_first, get_after, all_from_places, runs_split, runs_join, long_take, take_two, cut_in_two}
use Rattle.delivery_laws.proofs.Sendings.{in_networks, runs_send, IsWithin, datagrams_within, datagrams_both, tells_first, tells_later, IsWindowIf, are_of_window, tell_same, window_standing, window_noted, same_receivers}
use Rattle.delivery_laws.proofs.Told.{state_acts, state_at}
use Rattle.delivery_laws.proofs.Delivery.{drained_empty, ready_calm, windowed, delivered_once}
use Rattle.edge_words.proofs.calm_laws.Maps.{none_of_length}
use Rattle.network_laws.proofs.Lists.{length_map}

-- ---- the end of a window

empty_drained : (world : World) → IsEmpty world → IsDrained world
empty_drained world h = along (link_ways (scenario_of world))
  where
    along : (ways : List (NodeId × NodeId)) → flat_map (λ (way : NodeId × NodeId). world.copies way.0 way.1) ways ≡ []
    along [] = refl
    along (way ∷ more) = (λ i. h way.0 way.1 i ++ along more i)

told_copies : (world : World) (bytes buffers due unready : ℕ) → state_line world ≡ lines.State bytes 0 buffers due unready → IsDrained world
told_copies world bytes buffers due unready e = none_of_length (all_copies world) cc

take_within : {X : Type 0} (count : ℕ) (xs ys : List X) → count ≤ length xs → take count (xs ++ ys) ≡ take count xs
take_within zero xs ys h = refl
take_within (suc count) [] ys h = absurd (omega (arith, h))
take_within (suc count) (x ∷ xs) ys h = ap (λ l. x ∷ l) (take_within count xs ys (omega (arith, h)))

pub rises_first : (number : ℕ) (first more : List Timed) → Rises number (first ++ more) → Rises number first
rises_first number [] more h = tt
rises_first number (timed ∷ first) more h = (h.0, rises_first timed.line first more h.1)

-- the event that ends a window
abbrev end_at : (events : List Timed) (trace : List Traced) (last : ℕ) → EndsWindow events (report_of trace) last
    → (timed : Timed) × (slice_get events last ≡ Some timed)
end_at events trace last (inl (line, at)) = (record { line = line; event = event.Drain }, at)
end_at events trace last (inr (bytes, buffers, due, unready, tells)) = (record { line = tells.line; event = event.State }, tells.at)

module _ (cores : Cores) (script : Script) (events : List Timed) (trace : List Traced) (new : World) (run : Run cores script events trace new) where
  -- After the event that ends a window no copy is on a link.
  end_drains : (last : ℕ) (closes : EndsWindow events (report_of trace) last) (early : List Traced) (world next : World) (acts : List Happened)
      → Run cores script (take last events) early world → (network : OctetNetwork Nodes) → OnLinks network → Ready network world.datagrams world
      → outcome world (end_at events trace last closes).0 ≡ Done acts next → IsDrained next
  end_drains last (inl (line, at)) early world next acts before network links ready is =
      empty_drained next (drain_empties network world.datagrams links world ready acts next is)
  end_drains last (inr (bytes, buffers, due, unready, tells)) early world next acts before network links ready is =
      subst IsDrained (sym (state_acts world tells.line acts next is).stays)
      (told_copies world bytes buffers due unready
      (state_at cores script events trace new run last bytes 0 buffers due unready tells early world before))

  -- What is needed of a window: its worlds, and the runs before it, in it and after it.
  record Cut (first last : ℕ) : Type 0 where
    within : List Timed
    after : List Timed
    calm : World
    end : World
    early : List Traced
    middle : List Traced
    late : List Traced
    post_is : drop first events ≡ within ++ after
    events_are : events ≡ take first events ++ (within ++ after)
    trace_is : trace ≡ early ++ (middle ++ late)
    begins : Run cores script (take first events) early calm
    goes_on : Runs calm first within middle end
    ends : Runs end (first + length within) after late new
    long : length (take first events) ≡ first
    count : first + length within ≡ last + 1

  module _ (rises : Rises 0 events) (zeros : ZerosAreCalm cores script events) (first last : ℕ)
      (window : IsWindow events (refused_lines (report_of trace)) (report_of trace) first last) (some : first ≤ last) where
    end : (timed : Timed) × (slice_get events last ≡ Some timed)
    end = end_at events trace last window.closes

    cut : Cut first last
    cut =
        let lt = slice_get_within events last end.0 end.1 in
        let post = drop first events in
        let few = last - first + 1 in
        let long : length (take first events) ≡ first = long_take first events (omega (arith, lt, some)) in
        let all : length events ≡ length (take first events) + length post =
        ap (λ (l : List Timed). length l) (cut_in_two first events) ∙ length-append (take first events) post in
        let a = runs_split (take first events) post (start script.scenario cores) 0 trace new
        (subst (λ (l : List Timed). Run cores script l trace new) (cut_in_two first events) run) in
        let onward = a.goes_on first (omega (arith, long)) in
        let b = runs_split (take few post) (drop few post) a.middle first a.late new
        (subst (λ (l : List Timed). Runs a.middle first l a.late new) (cut_in_two few post) onward) in
        record {
          within = take few post;
          after = drop few post;
          calm = a.middle;
          end = b.middle;
          early = a.early;
          middle = b.early;
          late = b.late;
          post_is = cut_in_two few post;
          events_are = cut_in_two first events ∙ ap (λ (l : List Timed). take first events ++ l) (cut_in_two few post);
          trace_is = a.whole ∙ ap (λ (l : List Traced). a.early ++ l) b.whole;
          begins = a.begins;
          goes_on = b.begins;
          ends = b.goes_on (first + length (take few post)) refl;
          long = long;
          count = (let size = long_take few post (omega (arith, all, long, lt, some)) in omega (arith, size, some));
        }

  -- What holds of a window, given where it is cut.
  module _ (rises : Rises 0 events) (zeros : ZerosAreCalm cores script events) (first last : ℕ)
      (window : IsWindow events (refused_lines (report_of trace)) (report_of trace) first last) (some : first ≤ last) (c : Cut first last) where
    abbrev all_refused : List ℕ
    all_refused = refused_lines (report_of trace)

    abbrev early_refused : List ℕ
    early_refused = refused_lines (report_of c.early)

    abbrev begin : World
    begin = start script.scenario cores

    abbrev before : List Timed
    before = take first events

    abbrev receives : SiteId → Addr → Addr → IfaceId → Bool
    receives = receives_by (record { scenario = script.scenario; events = before; refused = early_refused })

    -- the network after the calm line is calm
    calm_zeros : state_line c.calm ≡ lines.State 0 0 0 0 0
    calm_zeros =
        let told = window.is_calm in
        let timed : Timed = record { line = told.line; event = event.State } in
        let next_place : first ≡ suc window.calm = omega (arith, window.opens) in
        let shape : before ≡ take window.calm events ++ timed ∷ [] = ap (λ n. take n events) next_place ∙ take_to events window.calm timed told.at in
        let d = runs_split (take window.calm events) (timed ∷ []) begin 0 c.early c.calm
        (subst (λ (l : List Timed). Run cores script l c.early c.calm) shape c.begins) in
        let long = long_take window.calm events (let lt = slice_get_within events window.calm timed told.at in omega (arith, lt)) in
        let r = d.goes_on window.calm (omega (arith, long)) in
        let same : c.calm ≡ d.middle = r.5.1 ∙ (state_acts d.middle told.line r.0 r.1 r.3).stays in
        ap state_line same ∙ state_at cores script events trace new run window.calm 0 0 0 0 0 told d.early d.middle d.begins

    is_calm : CalmWorld receives c.calm
    is_calm = zeros first c.early c.calm c.begins calm_zeros

    tells : TellsAccepted all_refused begin (before ++ (c.within ++ c.after))
    tells = subst (λ (l : List Timed). TellsAccepted all_refused begin l) c.events_are
        (tells_accepted events begin 0 trace new 0 [] all_refused rises (λ line lt. refl) refl run)

    tells_before : TellsAccepted all_refused begin before
    tells_before = tells_first all_refused before (c.within ++ c.after) begin tells

    tells_within : TellsAccepted all_refused c.calm c.within
    tells_within =
        tells_first all_refused c.within c.after c.calm (tells_later all_refused before (c.within ++ c.after) begin 0 c.early c.calm tells c.begins)

    tells_early : TellsAccepted early_refused begin before
    tells_early =
        tells_accepted before begin 0 c.early c.calm 0 [] early_refused
        (rises_first 0 before (c.within ++ c.after) (subst (Rises 0) c.events_are rises)) (λ line lt. refl) refl c.begins

    -- an event of the window by its place
    place_of : (place : ℕ) (timed : Timed) → slice_get c.within place ≡ Some timed → slice_get events (first + place) ≡ Some timed
    place_of place timed e =
        let lt = slice_get_within c.within place timed e in
        let long = c.long in
        let here : first + place - length before ≡ place = omega (arith, long) in
        ap (λ (l : List Timed). slice_get l (first + place)) c.events_are
        ∙ get_after before (c.within ++ c.after) (first + place) (omega (arith, long))
        ∙ ap (slice_get (c.within ++ c.after)) here
        ∙ get_first c.within c.after place lt
        ∙ e

    all_window : AllByRecursion (IsWindowIf all_refused) c.within
    all_window = all_from_places (IsWindowIf all_refused) c.within by
      where
        by : (place : ℕ) (timed : Timed) → slice_get c.within place ≡ Some timed → IsWindowIf all_refused timed
        by place timed e accepted =
            let lt = slice_get_within c.within place timed e in
            let count = c.count in
            window.within (first + place) timed (omega arith) (omega (arith, lt, count)) (place_of place timed e) accepted

    -- ---- the end

    steps : ℕ
    steps = last - first

    drained_after : IsDrained c.end
    drained_after =
        let n = last - first in
        let e = end_at events trace last window.closes in
        let count = c.count in
        let long = c.long in
        let size : length c.within ≡ suc n = omega (arith, count, some) in
        let here : last - length before ≡ n = omega (arith, long) in
        let last_one : slice_get c.within n ≡ Some e.0 =
        sym (get_first c.within c.after n (omega (arith, size))) ∙ ap (slice_get (c.within ++ c.after)) (sym here)
        ∙ sym (get_after before (c.within ++ c.after) last (omega (arith, long, some)))
        ∙ ap (λ (l : List Timed). slice_get l last) (sym c.events_are) ∙ e.1 in
        let shape : c.within ≡ take n c.within ++ (e.0 ∷ drop (suc n) c.within) = cut_at c.within n e.0 last_one in
        let few : length (take n c.within) ≡ n = long_take n c.within (omega (arith, size)) in
        let total : length c.within ≡ length (take n c.within) + suc (length (drop (suc n) c.within)) =
        ap (λ (l : List Timed). length l) shape ∙ length-append (take n c.within) (e.0 ∷ drop (suc n) c.within) in
        let nothing : drop (suc n) c.within ≡ [] = none_of_length (drop (suc n) c.within) (omega (arith, total, few, size)) in
        let f = runs_split (take n c.within) (e.0 ∷ drop (suc n) c.within) c.calm first c.middle c.end
        (subst (λ (l : List Timed). Runs c.calm first l c.middle c.end) shape c.goes_on) in
        let r = f.goes_on last (omega (arith, few, some)) in
        let rest : Runs r.1 (last + 1) [] r.2 c.end = subst (λ (l : List Timed). Runs r.1 (last + 1) l r.2 c.end) nothing r.5 in
        let up_to : Run cores script (before ++ take n c.within) (c.early ++ f.early) f.middle =
        runs_join before (take n c.within) begin c.calm f.middle 0 c.early f.early c.begins first (omega (arith, long)) f.begins in
        let same_place : first + n ≡ last = omega (arith, some) in
        let prefix : take last events ≡ before ++ take n c.within =
        ap (λ k. take k events) (sym same_place) ∙ take_two first n events ∙ ap (λ (l : List Timed). before ++ take n l) c.post_is
        ∙ ap (λ (l : List Timed). before ++ l) (take_within n c.within c.after (omega (arith, size))) in
        let of_first : AreOfWindow c.calm (take n c.within) =
        are_of_window all_refused (take n c.within) c.calm
        (tells_first all_refused (take n c.within) (e.0 ∷ drop (suc n) c.within) c.calm
        (subst (λ (l : List Timed). TellsAccepted all_refused c.calm l) shape tells_within))
        (all_take (IsWindowIf all_refused) n c.within all_window) in
        let w = windowed c.calm.network is_calm.links (take n c.within) c.calm first f.early f.middle (ready_calm receives c.calm is_calm) of_first
        f.begins in
        subst IsDrained (sym rest.1) (end_drains last window.closes (c.early ++ f.early) f.middle r.1 r.0
        (subst (λ (l : List Timed). Run cores script l (c.early ++ f.early) f.middle) (sym prefix) up_to) c.calm.network is_calm.links w.ready
        r.3)

    window_run : WindowRun receives cores script before c.within c.after trace c.calm c.end new
    window_run =
        let long = c.long in
        record {
          first = c.early;
          middle = c.middle;
          rest = c.late;
          whole = c.trace_is;
          up_to = c.begins;
          is_calm = is_calm;
          of_window = are_of_window all_refused c.within c.calm tells_within all_window;
          window = subst (λ n. Runs c.calm n c.within c.middle c.end) (sym long) c.goes_on;
          drained = drained_after;
          later = subst (λ n. Runs c.end (n + length c.within) c.after c.late new) (sym long) c.ends;
        }

    -- ---- the datagrams

    datagrams_are_those : datagrams all_refused 0 events ≡ datagrams all_refused 0 before
        ++ (datagrams all_refused first c.within ++ datagrams all_refused (first + length c.within) c.after)
    datagrams_are_those =
        let long = c.long in
        ap (datagrams all_refused 0) c.events_are
        ∙ datagrams_both all_refused before (c.within ++ c.after) 0 first (omega (arith, long))
        ∙ ap (λ (l : List Accepted). datagrams all_refused 0 before ++ l)
        (datagrams_both all_refused c.within c.after first (first + length c.within) refl)

    calm_datagrams : c.calm.datagrams ≡ in_networks (datagrams all_refused 0 before)
    calm_datagrams = runs_send all_refused before begin 0 c.early c.calm tells_before c.begins

    end_datagrams : c.end.datagrams ≡ c.calm.datagrams ++ in_networks (datagrams all_refused first c.within)
    end_datagrams = runs_send all_refused c.within c.calm first c.middle c.end tells_within c.goes_on

    -- a datagram that was accepted in the window is one of those that were sent in it
    sent_in_window : (place : ℕ) (accepted : Accepted) → slice_get (datagrams all_refused 0 events) place ≡ Some accepted → first ≤ accepted.event
        → accepted.event ≤ last → (length c.calm.datagrams ≤ place) × (slice_get c.end.datagrams place ≡ Some (in_network accepted))
    sent_in_window place accepted at low high =
        let s0 = datagrams all_refused 0 before in
        let s1 = datagrams all_refused first c.within in
        let s2 = datagrams all_refused (first + length c.within) c.after in
        let long = c.long in
        let count = c.count in
        let whole : slice_get (s0 ++ (s1 ++ s2)) place ≡ Some accepted =
        ap (λ (l : List Accepted). slice_get l place) (sym datagrams_are_those) ∙ at in
        let sizes : length c.calm.datagrams ≡ length s0 =
        ap (λ (l : List Datagram). length l) calm_datagrams ∙ length_map (λ (s : Accepted). in_network s) s0 in
        elim (cases_lt place (length s0)) [
          | inl lt ↦
              let in_first =
              all_at (IsWithin 0 first) s0 place accepted (datagrams_within all_refused before 0 0 first (omega arith) (omega (arith, long)))
              (sym (get_first s0 (s1 ++ s2) place lt) ∙ whole) in
              let early = in_first.1 in
              absurd (omega (arith, early, low))
          | inr le ↦
              let thereafter : slice_get (s1 ++ s2) (place - length s0) ≡ Some accepted = sym (get_after s0 (s1 ++ s2) place le) ∙ whole in
              elim (cases_lt (place - length s0) (length s1)) [
                | inl lt ↦
                    let own : slice_get s1 (place - length s0) ≡ Some accepted = sym (get_first s1 s2 (place - length s0) lt) ∙ thereafter in
                    let shift : place - length c.calm.datagrams ≡ place - length s0 = ap (λ n. place - n) sizes in (
                      omega (arith, sizes, le),
                      ap (λ (l : List Datagram). slice_get l place) end_datagrams
                          ∙ get_after c.calm.datagrams (in_networks s1) place (omega (arith, sizes, le))
                          ∙ ap (slice_get (in_networks s1)) shift
                          ∙ slice_get-map (λ (s : Accepted). in_network s) s1 (place - length s0)
                          ∙ ap (option_map (λ (s : Accepted). in_network s)) own,
                    )
                | inr more ↦
                    let late : slice_get s2 (place - length s0 - length s1) ≡ Some accepted =
                    sym (get_after s1 s2 (place - length s0) more) ∙ thereafter in
                    let in_last =
                    all_at (IsWithin (first + length c.within) (first + length c.within + length c.after)) s2 (place - length s0 - length s1)
                    accepted (datagrams_within all_refused c.after (first + length c.within) (first + length c.within)
                    (first + length c.within + length c.after) (omega arith) (omega arith)) late in
                    let after = in_last.0 in
                    absurd (omega (arith, after, high, count))
              ]
        ]

    -- ---- the receivers

    still_receives : (number : ℕ) → first ≤ number → number ≤ last → (site : SiteId) (source group : Addr) (iface : IfaceId)
        → receives site source group iface ≡ receives_by (past_at script.scenario events all_refused number) site source group iface
    still_receives number low high site source group iface =
        let k = number - first in
        let count = c.count in
        let told = tell_same early_refused all_refused before begin 0 c.early c.calm tells_early tells_before c.begins in
        let still : (k : ℕ) → AllByRecursion (IsWindowIf all_refused) (take k c.within) =
        λ k. all_take (IsWindowIf all_refused) k c.within all_window in
        let place : first + k ≡ number = omega (arith, low) in
        let prefix : take number events ≡ before ++ take k c.within =
        ap (λ n. take n events) (sym place) ∙ take_two first k events ∙ ap (λ (l : List Timed). before ++ take k l) c.post_is
        ∙ ap (λ (l : List Timed). before ++ l) (take_within k c.within c.after (omega (arith, low, high, count))) in
        same_receivers script.scenario before (before ++ take k c.within) early_refused all_refused
        (λ own entry. window_standing script.scenario own entry early_refused all_refused before (take k c.within) told (still k))
        (λ own s g. window_noted script.scenario own s g early_refused all_refused before (take k c.within) told (still k))
        site source group iface
        ∙ ap (λ (l : List Timed). receives_by (record { scenario = script.scenario; events = l; refused = all_refused }) site source group iface)
        (sym prefix)

    window_once : (place : ℕ) (accepted : Accepted) → slice_get (datagrams all_refused 0 events) place ≡ Some accepted → first ≤ accepted.event
        → accepted.event ≤ last
        → (iface : IfaceId) → outs_at (report_of trace) (place + 1) iface
        ≡ (if receives_by (past_at script.scenario events all_refused accepted.event) accepted.site accepted.source accepted.group iface then 1
        else 0)
    window_once place accepted at low high iface =
        let s = sent_in_window place accepted at low high in
        delivered_once receives cores script before c.within c.after trace c.calm c.end new window_run place (in_network accepted) iface s.0 s.1
        ∙ ap (λ (b : Bool). if b then 1 else 0) (still_receives accepted.event low high accepted.site accepted.source accepted.group iface)

-- ---- the whole

pub once : (cores : Cores) (script : Script) (events : List Timed) (trace : List Traced) (new : World) → Rises 0 events
    → ZerosAreCalm cores script events → Run cores script events trace new
    → Once script.scenario events (refused_lines (report_of trace)) (report_of trace)
once cores script events trace new rises zeros run first last window place accepted at low high iface =
    let some : first ≤ last = omega (arith, low, high) in
    window_once cores script events trace new run rises zeros first last window some
    (cut cores script events trace new run rises zeros first last window some) place accepted at low high iface

-- Where flows are calm, the network is: no copy is on a link, and branches lead along links, in every run.
zeros_are_calm : (cores : Cores) (script : Script) (events : List Timed) → LinksOnce script.scenario → FlowsAreCalm cores script events
    → ZerosAreCalm cores script events
zeros_are_calm cores script events links flows count trace world run zeros =
    let l = run_is_linked cores script (take count events) trace world links run in
    let sound =
    subst (λ (s : Scenario). EachCopy (SoundCopy (link_ways s) (length world.datagrams)) world.copies) (sym l.network.nodes.place) l.sound in
    record {
      empty = drained_empty world.network world (record { network_is = refl; datagrams_are = refl; sound = sound }) (told_copies world 0 0 0 0 zeros);
      links = on_links script.scenario world l;
      flows = flows count trace world run zeros;
    }

pub calm_flows_once : (cores : Cores) (script : Script) (events : List Timed) (trace : List Traced) (new : World) → Rules script.scenario
    → Rises 0 events → FlowsAreCalm cores script events → Run cores script events trace new
    → Once script.scenario events (refused_lines (report_of trace)) (report_of trace)
calm_flows_once cores script events trace new rules rises flows run =
    once cores script events trace new rises (zeros_are_calm cores script events (links_once script.scenario rules) flows) run

pub copies_sound : (cores : Cores) (script : Script) (events : List Timed) (trace : List Traced) (new : World) → Rules script.scenario
    → Run cores script events trace new → OnLinks new.network × AreSound script.scenario new
copies_sound cores script events trace new rules run =
    (let l = run_is_linked cores script events trace new (links_once script.scenario rules) run in (on_links script.scenario new l, l.sound))

pub calm_choices_once : (cores : Cores) (script : Script) (events : List Timed) (trace : List Traced) (new : World) → Rules script.scenario
    → Rises 0 events → ChoicesAreCalm cores script events → Run cores script events trace new
    → Once script.scenario events (refused_lines (report_of trace)) (report_of trace)
calm_choices_once cores script events trace new rules rises choices run =
    calm_flows_once cores script events trace new rules rises
    (λ count early world before zeros datagram. calm_flow world.network
    (receives_by (record { scenario = script.scenario; events = take count events; refused = refused_lines (report_of early) }) datagram.site
    datagram.source datagram.group) datagram (choices count early world before zeros datagram))
    run
