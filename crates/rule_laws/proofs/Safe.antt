-- In each run every `out` line is admitted.
use Rattle.std.specs.Prelude.{replicate, take}
use Rattle.std.specs.Prelude.{Result, Ok, Err}
use Rattle.std.proofs.Common.{◌≡◌, ◌≢◌, ◌+◌, ◌-◌, ◌++◌, ℕ, zero, suc, Bool, true, false, cond, map, flat_map, List, [], ◌∷◌, length, slice_get, Option, Some, None, refl, sym, ap, subst, ◌∙◌}
use Rattle.std.specs.List.{AllByRecursion}
use Rattle.std.proofs.lemmas.List.{append-nil, append_assoc}
use Rattle.std.proofs.lemmas.Option.{same_Some}
use Rattle.mv_base.specs.declared.addr.Addr.{Addr}
use Rattle.mv_base.specs.declared.ids.NodeId.{NodeId}
use Rattle.mv_base.specs.declared.ids.SiteId.{SiteId}
use Rattle.mv_base.specs.declared.ids.VrfId.{VrfId}
use Rattle.scenario_defs.specs.Vpn.{is_attached_at, entered}
use Rattle.scenario_defs.specs.declared.event.Event.{Event}
use Rattle.scenario_defs.specs.declared.event.Event.TheVariants as events
use Rattle.scenario_defs.specs.declared.event.Timed.{Timed}
use Rattle.scenario_defs.specs.declared.report.Refusal.{Refusal}
use Rattle.scenario_defs.specs.declared.report.ReportLine.{ReportLine}
use Rattle.scenario_defs.specs.declared.report.ReportLine.TheVariants as lines
use Rattle.scenario_defs.specs.declared.scenario.Scenario.{Scenario}
use Rattle.mvpn_model.specs.Packet.{packet}
use Rattle.mvpn_model.specs.Sessions.{sessions}
use Rattle.mvpn_model.specs.declared.session.Session.{Session}
use Rattle.network_defs.specs.session_defs.Octets as octets
use Rattle.network_defs.specs.session_defs.Octets.{OctetNetwork, octet_run}
use Rattle.network_defs.specs.session_defs.System.{Behind}
use Rattle.network_defs.specs.declared.session_defs.direction.Direction.{Direction}
use Rattle.edge_defs.specs.Steps as steps
use Rattle.edge_defs.specs.Steps.{CustomerCall}
use Rattle.network_defs.specs.Acts.{Act, Tick, Timers, Move, Lose, Notice, RaiseFirst, RaiseSecond, Restart, At, Enter, Land, Drop, Tell, Acted, with_network, at_node, with_aged, is_of_session, is_from_peer, is_at, leads_to, act, datagram_at, landed, landing, without_copy, fate_at, with_ttl, SetCost, Reroute}
use Rattle.network_defs.specs.Counts.{direction, directions, all_nodes, link_ways, is_joined}
use Rattle.network_defs.specs.Events.{Happened, Outcome, Done, Halted, and_then, one_act, row, each, times, raise_acts, raises, notices, healed, turn, settled, landings, drain_round, sent, at_edge, done, cost_acts, called}
use Rattle.network_defs.specs.Nodes.{Nodes}
use Rattle.mvpn_model.specs.Packets.{source_in, group_in}
use Rattle.network_defs.specs.Refusals.{refusal, call_for, edge_for}
use Rattle.network_defs.specs.Run.{Traced, traced, outcome, Runs}
use Rattle.network_defs.specs.System.{Own, Elapse, Reset, system, Price, Follow}
use Rattle.network_defs.specs.World.{World, Datagram, LinkCopy, scenario_of, numbered}
use Rattle.network_defs.proofs.Kept.{Gives, Comes, then_comes, row_keeps, each_keeps, times_keeps, comes_as, branches_datagrams}
use Rattle.network_defs.proofs.Numbered.{numbered_more}
use Rattle.label_laws.specs.Rule as labels
use Rattle.network_defs.specs.session_defs.Refined.{seen}
use Rattle.rule_laws.specs.Labels.{label_network}
use Rattle.rule_laws.proofs.Acts.{act_in_step}
use Rattle.rule_laws.proofs.Enters.{enters, last_is}
use Rattle.rule_laws.proofs.Events.{IsWay, ways_apart, enter_datagrams, attached_from, turned_in_step}
use Rattle.network_laws.proofs.Lists.{each_append, each_flat, each_of, each_map, each_weaker}
use Rattle.network_laws.proofs.RunEvents.{two_ends}
use Rattle.network_laws.specs.Honest.{IsSoundEvent}
use Rattle.rule_laws.specs.Outs.{IsAdmittedLine}
use Rattle.rule_laws.proofs.Acts.{InStep}
use Rattle.rule_laws.proofs.Outs.{Says, land_says, enter_says}
use Rattle.rule_laws.proofs.Plain.{IsPlain, IsPlainLine, IsQuiet, AllDo, Does, of_plain, plain_quiet, plain_row, raises_plain, heal_does, settle_does, costs_plain, customer_does}

-- ---- what is said of the acts of an outcome

abbrev pub AllSay : (ReportLine → Type 0) → List Happened → Type 0
AllSay P acts = AllByRecursion (λ (happened : Happened). AllByRecursion P happened.lines) acts

abbrev pub SaysAll : (ReportLine → Type 0) → Outcome → Type 0
SaysAll P o = AllDo (λ (happened : Happened). AllByRecursion P happened.lines) o

module _ (P : ReportLine → Type 0) where
  -- acts that say so where something is kept
  both_then : (K : World → Type 0) (first : Outcome) (next : World → Outcome) → Comes K first × SaysAll P first
      → ((world : World) → K world → Comes K (next world) × SaysAll P (next world)) → Comes K (and_then first next) × SaysAll P (and_then first next)
  both_then K (Halted acts node) next s h = (tt, s.1)
  both_then K (Done acts world) next s h = by (next world) (h world s.0)
    where
      by : (o : Outcome) → Comes K o × SaysAll P o
          → Comes K (elim o [ Done thereafter new ↦ Done (acts ++ thereafter) new | Halted thereafter node ↦ Halted (acts ++ thereafter) node ])
          × SaysAll P (elim o [ Done thereafter new ↦ Done (acts ++ thereafter) new | Halted thereafter node ↦ Halted (acts ++ thereafter) node ])
      by (Done thereafter new) t = (t.0, each_append (λ (happened : Happened). AllByRecursion P happened.lines) acts thereafter s.1 t.1)
      by (Halted thereafter node) t = (tt, each_append (λ (happened : Happened). AllByRecursion P happened.lines) acts thereafter s.1 t.1)

  both_one : (K : World → Type 0) (world : World) (one : Act) → Gives K (act world one) → Says P (act world one)
      → Comes K (one_act world one) × SaysAll P (one_act world one)
  both_one K world one g s = by (act world one) g s
    where
      by : (o : Result Acted NodeId) → Gives K o → Says P o
          → Comes K (elim o [ Ok new ↦ Done (record { act = Some one; lines = new.lines } ∷ []) new.world | Err node ↦ Halted [] node ])
          × SaysAll P (elim o [ Ok new ↦ Done (record { act = Some one; lines = new.lines } ∷ []) new.world | Err node ↦ Halted [] node ])
      by (Err node) h t = (tt, tt)
      by (Ok new) h t = (h, (t, tt))

  both_row : (K : World → Type 0) (acts : List Act)
      → AllByRecursion (λ one. (world : World) → K world → Gives K (act world one) × Says P (act world one)) acts → (world : World) → K world
      → Comes K (row acts world) × SaysAll P (row acts world)
  both_row K [] keeps world k = (k, tt)
  both_row K (one ∷ more) keeps world k =
      (let g = keeps.0 world k in
      both_then K (one_act world one) (row more) (both_one K world one g.0 g.1) (λ next p. both_row K more keeps.1 next p))

  both_times : (K : World → Type 0) (round : World → Outcome) → ((world : World) → K world → Comes K (round world) × SaysAll P (round world))
      → (count : ℕ) (world : World) → K world → Comes K (times round count world) × SaysAll P (times round count world)
  both_times K round keeps zero world k = (k, tt)
  both_times K round keeps (suc count) world k =
      both_then K (round world) (times round count) (keeps world k) (λ next p. both_times K round keeps count next p)

-- ---- acts that let no datagram leave

module _ (scenario : Scenario) (datagrams : List Datagram) where
  abbrev P : ReportLine → Type 0
  P = IsAdmittedLine scenario datagrams

  -- of acts in an outcome
  abbrev Saying : Happened → Type 0
  Saying happened = AllByRecursion P happened.lines

  saying : (one : Act) → IsPlain one → (world : World) → Does Saying one (act world one)
  saying one plain world = by (act world one) (plain_quiet one plain world)
    where
      by : (o : Result Acted NodeId) → Does IsQuiet one o → Does Saying one o
      by (Err node) q = tt
      by (Ok new) q =
          each_weaker IsPlainLine P (of_plain P (λ kind from to bytes. tt) (λ kind from to bytes. tt) (λ bytes copies buffers due unready. tt))
          new.lines q.lines

-- ---- the datagrams

network_datagrams : (world : World) (before : List ReportLine) (found : Option (Behind (OctetNetwork Nodes))) (node : NodeId)
    → Gives (λ new. new.datagrams ≡ world.datagrams) (with_network world before found node)
network_datagrams world before None node = tt
network_datagrams world before (Some new) node = refl

-- no act changes them
act_datagrams : (one : Act) (world : World) → Gives (λ new. new.datagrams ≡ world.datagrams) (act world one)
act_datagrams (Tick ticks) world =
    aged (at_node world (record { 0 = 0 }) [] (octets.Call (Elapse ticks) ∷ []))
    (network_datagrams world [] (octet_run system world.network (octets.Call (Elapse ticks) ∷ [])) (record { 0 = 0 }))
  where
    aged : (found : Result Acted NodeId) → Gives (λ new. new.datagrams ≡ world.datagrams) found
        → Gives (λ new. new.datagrams ≡ world.datagrams) (with_aged found)
    aged (Err node) s = tt
    aged (Ok new) s = s
act_datagrams (Timers n) world = network_datagrams world [] (octet_run system world.network (octets.Call (Own n steps.Timers) ∷ [])) n
act_datagrams (Move kind from to count) world =
    network_datagrams world (lines.Take kind from to (take count (world.network.transit (direction kind from to))) ∷ [])
    (octet_run system world.network (octets.Move (direction kind from to) count ∷ [])) to
act_datagrams (Lose kind a b) world = network_datagrams world [] (octet_run system world.network (octets.Lose (is_of_session kind a b) ∷ [])) a
act_datagrams (Notice kind a b) world =
    network_datagrams world [] (octet_run system world.network
    (octets.Forget (is_from_peer kind a b) ∷ octets.Call (Own a (steps.Noticed kind b)) ∷ [])) a
act_datagrams (RaiseFirst kind a b) world =
    network_datagrams world [] (octet_run system world.network
    (octets.Join (is_of_session kind a b) ∷ octets.Call (Own a (steps.Raised kind b)) ∷ [])) a
act_datagrams (RaiseSecond kind a b) world =
    network_datagrams world [] (octet_run system world.network (octets.Call (Own b (steps.Raised kind a)) ∷ [])) b
act_datagrams (Restart n) world =
    network_datagrams world [] (octet_run system world.network (octets.Lose (is_at n) ∷ octets.Forget (leads_to n) ∷ octets.Call (Reset n) ∷ [])) n
act_datagrams (At n call) world = network_datagrams world [] (octet_run system world.network (octets.Call (Own n call) ∷ [])) n
act_datagrams (Enter vrf) world = enter_datagrams (scenario_of world) world vrf
act_datagrams (Land from to place) world = by (slice_get (world.copies from to) (place - 1))
  where
    found : (copy : LinkCopy) (d : Option Datagram) → (landed (without_copy world from to place) from to copy d).world.datagrams ≡ world.datagrams
    found copy None = refl
    found copy (Some datagram) =
        branches_datagrams to (copy.ttl - 1) copy.number
        (with_ttl copy.ttl (fate_at (without_copy world from to place) to (world.network.state.node to) from copy.label datagram)).branches
        (without_copy world from to place)

    by : (o : Option LinkCopy) → (landing world from to place o).world.datagrams ≡ world.datagrams
    by None = refl
    by (Some copy) = found copy (datagram_at (without_copy world from to place) copy.number)
act_datagrams (Drop from to place) world = refl
act_datagrams Tell world = refl
act_datagrams (SetCost a b cost) world = network_datagrams world [] (octet_run system world.network (octets.Call (Price a b cost) ∷ [])) a
act_datagrams (Reroute n) world = network_datagrams world [] (octet_run system world.network (octets.Call (Follow n) ∷ [])) n

-- the datagrams are these
abbrev pub HasThose : List Datagram → World → Type 0
HasThose all world = world.datagrams ≡ all

those_given : (all : List Datagram) (old : World) (o : Result Acted NodeId) → old.datagrams ≡ all → Gives (λ new. new.datagrams ≡ old.datagrams) o
    → Gives (HasThose all) o
those_given all old (Err node) e g = tt
those_given all old (Ok new) e g = g ∙ e

pub act_those : (all : List Datagram) (one : Act) (world : World) → HasThose all world → Gives (HasThose all) (act world one)
act_those all one world e = those_given all world (act world one) e (act_datagrams one world)

module _ (all : List Datagram) where
  row_those : (acts : List Act) (world : World) → HasThose all world → Comes (HasThose all) (row acts world)
  row_those acts world e =
      row_keeps (HasThose all) acts (each_of (λ one. (old : World) → HasThose all old → Gives (HasThose all) (act old one))
      (λ one old h. act_those all one old h) acts) world e

  turn_those : (over : Direction) (world : World) → HasThose all world → Comes (HasThose all) (turn over world)
  turn_those over world e = by (world.network.transit over)
    where
      by : (bytes : List ℕ) → Comes (HasThose all)
          (elim bytes [ [] ↦ Done [] world | octet ∷ more ↦ row (Move over.kind over.from over.to (length (octet ∷ more)) ∷ []) world ])
      by [] = e
      by (octet ∷ more) = row_those (Move over.kind over.from over.to (length (octet ∷ more)) ∷ []) world e

  healed_those : (session : Session) (world : World) → HasThose all world → Comes (HasThose all) (healed session world)
  healed_those session world e = by (is_joined world session)
    where
      by : (t : Bool) → Comes (HasThose all) (cond t (Done [] world)
          (row (notices world session session.a session.b ++ (notices world session session.b session.a ++ raise_acts session)) world))
      by true = e
      by false = row_those (notices world session session.a session.b ++ (notices world session session.b session.a ++ raise_acts session)) world e

  settle_those : (world : World) → HasThose all world → Comes (HasThose all) (settled world)
  settle_those world e =
      then_comes (HasThose all) (HasThose all) (row (map (λ n. Timers n) (all_nodes (scenario_of world))) world)
      (times (each turn (directions (scenario_of world))) (length (scenario_of world).nodes + 3))
      (row_those (map (λ n. Timers n) (all_nodes (scenario_of world))) world e)
      (λ next h. times_keeps (HasThose all) (each turn (directions (scenario_of world)))
      (λ one k. each_keeps (HasThose all) turn (directions (scenario_of world))
      (each_of (λ over. (old : World) → HasThose all old → Comes (HasThose all) (turn over old)) turn_those (directions (scenario_of world))) one
      k) (length (scenario_of world).nodes + 3) next h)

  edge_those : (o : Option NodeId) (call : CustomerCall) (world : World) → HasThose all world → Comes (HasThose all) (at_edge o call world)
  edge_those None call world e = e
  edge_those (Some n) call world e = row_those (At n (steps.Customer call) ∷ []) world e

  customer_those : (o : Option CustomerCall) (world : World) → HasThose all world → Comes (HasThose all) (called o world)
  customer_those None world e = e
  customer_those (Some call) world e = edge_those (edge_for (scenario_of world) call) call world e

-- ---- events

-- What an event says: some datagrams more, and all its lines are admitted by them.
abbrev EventSays : Scenario → List Datagram → Outcome → Type 0
EventSays scenario old o = (more : List Datagram) × Comes (HasThose (old ++ more)) o × SaysAll (IsAdmittedLine scenario (old ++ more)) o

-- an event without a new datagram
no_more : (scenario : Scenario) (old : List Datagram) (o : Outcome) → Comes (HasThose old) o → SaysAll (IsAdmittedLine scenario old) o
    → EventSays scenario old o
no_more scenario old o c s = (
  [],
  subst (λ (ds : List Datagram). Comes (HasThose ds) o) (sym (append-nil old)) c,
  subst (λ (ds : List Datagram). SaysAll (IsAdmittedLine scenario ds) o) (sym (append-nil old)) s,
)

module _ (scenario : Scenario) where
  abbrev Kept : List Datagram → World → Type 0
  Kept all world = InStep scenario world × HasThose all world

  both_give : (all : List Datagram) (o : Result Acted NodeId) → Gives (InStep scenario) o → Gives (HasThose all) o → Gives (Kept all) o
  both_give all (Err node) p q = tt
  both_give all (Ok new) p q = (p, q)

  -- what is said in the words of a world, in those of its scenario and datagrams
  said : (all : List Datagram) (world : World) (o : Result Acted NodeId) → Kept all world
      → Says (IsAdmittedLine (scenario_of world) world.datagrams) o → Says (IsAdmittedLine scenario all) o
  said all world o k s =
      subst (λ (ds : List Datagram). Says (IsAdmittedLine scenario ds) o) k.1
      (subst (λ (own : Scenario). Says (IsAdmittedLine own world.datagrams) o) k.0.2.base.sound.same s)

  land_both : (all : List Datagram) (a b : NodeId) (place : ℕ) → a ≢ b → (world : World) → Kept all world
      → Gives (Kept all) (act world (Land a b place)) × Says (IsAdmittedLine scenario all) (act world (Land a b place))
  land_both all a b place ne world k = (
    both_give all (act world (Land a b place)) (act_in_step scenario (Land a b place) tt world ne k.0) (act_those all (Land a b place) world k.1),
    said all world (act world (Land a b place)) k (land_says scenario world a b place ne k.0),
  )

  same_both : (all : List Datagram) (one : Act)
      → ((world : World) → Kept all world → Gives (Kept all) (act world one) × Says (IsAdmittedLine scenario all) (act world one)) → (count : ℕ)
      → AllByRecursion (λ own. (world : World) → Kept all world
      → Gives (Kept all) (act world own) × Says (IsAdmittedLine scenario all) (act world own)) (replicate count one)
  same_both all one keep zero = tt
  same_both all one keep (suc count) = (keep, same_both all one keep count)

  round_both : (all : List Datagram) (world : World) → Kept all world
      → Comes (Kept all) (drain_round world) × SaysAll (IsAdmittedLine scenario all) (drain_round world)
  round_both all world k =
      let ways = link_ways (scenario_of world) in
      let apart : AllByRecursion IsWay ways =
      subst (λ (own : Scenario). AllByRecursion IsWay (link_ways own)) (sym k.0.2.base.sound.same) (ways_apart scenario k.0.2.base.sound.lines) in
      let Fine : Act → Type 0 =
      λ one. (old : World) → Kept all old → Gives (Kept all) (act old one) × Says (IsAdmittedLine scenario all) (act old one) in
      both_row (IsAdmittedLine scenario all) (Kept all) (flat_map (landings world) ways)
      (each_flat Fine (landings world) ways (each_weaker IsWay (λ way. AllByRecursion Fine (landings world way))
      (λ way ne. same_both all (Land way.0 way.1 1) (land_both all way.0 way.1 1 ne) (length (world.copies way.0 way.1))) ways apart)) world k

  drain_event : (world : World) → InStep scenario world → EventSays scenario world.datagrams (done world events.Drain)
  drain_event world s =
      let both =
      both_times (IsAdmittedLine scenario world.datagrams) (Kept world.datagrams) drain_round (round_both world.datagrams) 255 world (s, refl) in
      no_more scenario world.datagrams (done world events.Drain)
      (comes_as (Kept world.datagrams) (HasThose world.datagrams) (done world events.Drain) (λ new k. k.1) both.0) both.1

  hop_event : (world : World) (a b : NodeId) (place : ℕ) → a ≢ b → InStep scenario world
      → EventSays scenario world.datagrams (row (Land a b place ∷ []) world)
  hop_event world a b place ne s =
      let both =
      both_row (IsAdmittedLine scenario world.datagrams) (Kept world.datagrams) (Land a b place ∷ []) (land_both world.datagrams a b place ne, tt)
      world (s, refl) in
      no_more scenario world.datagrams (row (Land a b place ∷ []) world)
      (comes_as (Kept world.datagrams) (HasThose world.datagrams) (row (Land a b place ∷ []) world) (λ new k. k.1) both.0) both.1

  sent_event : (site : SiteId) (source group : Addr) (bytes : List ℕ) (world : World) → InStep scenario world
      → EventSays scenario world.datagrams (sent site source group bytes world)
  sent_event site source group bytes world (pending, are, good) =
      let datagram : Datagram = record { site = site; source = source; group = group; octets = bytes } in
      let all : List Datagram = world.datagrams ++ datagram ∷ [] in
      let with_it : World = record world { datagrams = all } in
      let start : InStep scenario with_it = (
        pending,
        are,
        record {
          base = good.base;
          edges = good.edges;
          kept =
              λ later. subst (λ (ds : List Datagram). labels.Kept (label_network (seen world.network pending) world.copies ds))
              (sym (append_assoc world.datagrams (datagram ∷ []) later)) (good.kept (datagram ∷ later));
        },
      ) in
      let ids : List VrfId = entered (scenario_of world) site in
      let attached : AllByRecursion (λ (id : VrfId). is_attached_at scenario id site ≡ true) ids =
      subst (λ (own : Scenario). AllByRecursion (λ (id : VrfId). is_attached_at own id site ≡ true) ids) good.base.sound.same
      (attached_from scenario (scenario_of world) site 0 (scenario_of world).vrfs) in
      let Fine : Act → Type 0 =
      λ one. (old : World) → Kept all old → Gives (Kept all) (act old one) × Says (IsAdmittedLine scenario all) (act old one) in
      let both = both_row (IsAdmittedLine scenario all) (Kept all) (map (λ id. Enter id) ids)
      (each_map Fine (λ id. Enter id) ids (each_weaker (λ (id : VrfId). is_attached_at scenario id site ≡ true) (λ id. Fine (Enter id))
      (λ id at old k.
      let there : is_attached_at (scenario_of old) id site ≡ true = ap (λ (own : Scenario). is_attached_at own id site) k.0.2.base.sound.same ∙ at in (
        both_give all (act old (Enter id)) (act_in_step scenario (Enter id) tt old (enters scenario old world.datagrams datagram id k.0 k.1 there)
            k.0) (act_those all (Enter id) old k.1),
        said all old (act old (Enter id)) k (enter_says scenario old id (λ own is.
            let last : datagram_at old (length old.datagrams) ≡ Some datagram =
            (λ i. numbered (k.1 i) (length (k.1 i))) ∙ (λ i. numbered (sym (append-nil all) i) (length all))
            ∙ last_is world.datagrams datagram [] in
            let one : own ≡ datagram = same_Some own datagram (sym is ∙ last) in
            ap (λ (d : Datagram). is_attached_at (scenario_of old) id d.site) one ∙ there) k.0),
      )) ids attached)) with_it (start, refl) in
      (datagram ∷ [], comes_as (Kept all) (HasThose all) (row (map (λ id. Enter id) ids) with_it) (λ new k. k.1) both.0, both.1)

  quiet : (world : World) (o : Outcome) → (HasThose world.datagrams world → Comes (HasThose world.datagrams) o)
      → SaysAll (IsAdmittedLine scenario world.datagrams) o → EventSays scenario world.datagrams o
  quiet world o those says = no_more scenario world.datagrams o (those refl) says

  plain_event : (world : World) (acts : List Act) → AllByRecursion IsPlain acts → EventSays scenario world.datagrams (row acts world)
  plain_event world acts all =
      quiet world (row acts world) (row_those world.datagrams acts world)
      (plain_row (Saying scenario world.datagrams) (saying scenario world.datagrams) acts all world)

  customer_event : (world : World) (o : Option CustomerCall) → EventSays scenario world.datagrams (called o world)
  customer_event world o =
      quiet world (called o world) (customer_those world.datagrams o world)
      (customer_does (Saying scenario world.datagrams) (saying scenario world.datagrams) o world)

  done_says : (world : World) → InStep scenario world → (event : Event) → IsSoundEvent scenario event
      → EventSays scenario world.datagrams (done world event)
  done_says world s (events.Tick count) sound = plain_event world (Tick count ∷ []) (tt, tt)
  done_says world s (events.Timers node) sound = plain_event world (Timers node ∷ []) (tt, tt)
  done_says world s (events.Restart node) sound = plain_event world (Restart node ∷ []) (tt, tt)
  done_says world s (events.Move kind from to count) sound = plain_event world (Move kind from to count ∷ []) (tt, tt)
  done_says world s (events.Lose kind a b) sound = plain_event world (Lose kind a b ∷ []) (tt, tt)
  done_says world s (events.Notice kind a b) sound = plain_event world (Notice kind a b ∷ []) (tt, tt)
  done_says world s (events.Raise kind a b) sound =
      plain_event world (raises (sessions (scenario_of world)) kind a b) (raises_plain (sessions (scenario_of world)) kind a b)
  done_says world s (events.Customer event) sound = customer_event world (call_for (scenario_of world) event)
  done_says world s (events.Send site source group payload) sound = sent_event site source group (packet source group payload) world s
  done_says world s (events.Packet site bytes) sound = sent_event site (source_in bytes) (group_in bytes) bytes world s
  done_says world s (events.Hop from to place) sound = hop_event world from to place (two_ends scenario s.2.base.sound.lines from to place sound) s
  done_says world s (events.DropCopy from to place) sound = plain_event world (Drop from to place ∷ []) (tt, tt)
  done_says world s events.Heal sound =
      quiet world (each healed (sessions (scenario_of world)) world)
      (λ e. each_keeps (HasThose world.datagrams) healed (sessions (scenario_of world))
      (each_of (λ session. (old : World) → HasThose world.datagrams old → Comes (HasThose world.datagrams) (healed session old))
      (healed_those world.datagrams) (sessions (scenario_of world))) world e)
      (heal_does (Saying scenario world.datagrams) (saying scenario world.datagrams) world)
  done_says world s events.Settle sound =
      quiet world (settled world) (settle_those world.datagrams world)
      (settle_does (Saying scenario world.datagrams) (saying scenario world.datagrams) world)
  done_says world s events.Drain sound = drain_event world s
  done_says world s (events.Cost a b cost) sound =
      plain_event world (cost_acts (scenario_of world) a b cost) (costs_plain (scenario_of world) a b cost)
  done_says world s events.State sound = plain_event world (Tell ∷ []) (tt, tt)

  -- ---- runs

  outcome_says : (world : World) → InStep scenario world → (timed : Timed) → IsSoundEvent scenario timed.event
      → EventSays scenario world.datagrams (outcome world timed)
  outcome_says world s timed sound = by (refusal world timed.event)
    where
      by : (o : Option Refusal) → EventSays scenario world.datagrams
          (elim o [
            | None ↦ done world timed.event
            | Some reason ↦
                Done (record { act = None; lines = lines.Refused timed.line reason ∷ [] } ∷ []) world
          ])
      by None = done_says world s timed.event sound
      by (Some reason) =
          no_more scenario world.datagrams (Done (record { act = None; lines = lines.Refused timed.line reason ∷ [] } ∷ []) world) refl ((tt, tt), tt)

  -- what is admitted stays so when datagrams are added
  line_more : (old more : List Datagram) (line : ReportLine) → IsAdmittedLine scenario old line → IsAdmittedLine scenario (old ++ more) line
  line_more old more (lines.Out number iface bytes) is =
      record { datagram = is.datagram; sent = numbered_more old more number is.datagram is.sent; carried = is.carried; admitted = is.admitted }
  line_more old more (lines.Put kind from to bytes) is = tt
  line_more old more (lines.Take kind from to bytes) is = tt
  line_more old more (lines.Land from to label number) is = tt
  line_more old more (lines.Hop from to label ttl number) is = tt
  line_more old more (lines.Refused line reason) is = tt
  line_more old more (lines.Halt line node) is = tt
  line_more old more (lines.State a b c d e) is = tt

  acts_more : (old more : List Datagram) (acts : List Happened) → AllSay (IsAdmittedLine scenario old) acts
      → AllSay (IsAdmittedLine scenario (old ++ more)) acts
  acts_more old more acts says =
      each_weaker (λ (happened : Happened). AllByRecursion (IsAdmittedLine scenario old) happened.lines)
      (λ happened. AllByRecursion (IsAdmittedLine scenario (old ++ more)) happened.lines)
      (λ happened s. each_weaker (IsAdmittedLine scenario old) (IsAdmittedLine scenario (old ++ more)) (line_more old more) happened.lines s) acts
      says

  -- all lines of a trace are admitted
  abbrev pub TraceSays : List Datagram → List Traced → Type 0
  TraceSays datagrams trace = AllByRecursion (λ (step : Traced). AllByRecursion (IsAdmittedLine scenario datagrams) step.happened.lines) trace

  pub runs_say : (all : List Timed) → AllByRecursion (λ timed. IsSoundEvent scenario timed.event) all
      → (old : World) (number : ℕ) (trace : List Traced) (new : World) → InStep scenario old → Runs old number all trace new
      → (more : List Datagram) × (new.datagrams ≡ old.datagrams ++ more) × TraceSays new.datagrams trace
  runs_say [] sound old number trace new s run =
      ([], ap (λ (w : World). w.datagrams) run.1 ∙ sym (append-nil old.datagrams), subst (TraceSays new.datagrams) (sym run.0) tt)
  runs_say (timed ∷ more) sound old number trace new s run =
      let acts : List Happened = run.0 in
      let next : World = run.1 in
      let says = outcome_says old s timed sound.0 in
      let here : HasThose (old.datagrams ++ says.0) next = subst (Comes (HasThose (old.datagrams ++ says.0))) run.3 says.1 in
      let first : AllSay (IsAdmittedLine scenario (old.datagrams ++ says.0)) acts =
      subst (SaysAll (IsAdmittedLine scenario (old.datagrams ++ says.0))) run.3 says.2 in
      let rest = runs_say more sound.1 next (number + 1) run.2 new (turned_in_step enters scenario old s timed sound.0 acts next run.3) run.5 in
      let grown : new.datagrams ≡ (old.datagrams ++ says.0) ++ rest.0 = rest.1 ∙ ap (λ (ds : List Datagram). ds ++ rest.0) here in
      let now : AllSay (IsAdmittedLine scenario new.datagrams) acts =
      subst (λ (ds : List Datagram). AllSay (IsAdmittedLine scenario ds) acts) (sym grown)
      (acts_more (old.datagrams ++ says.0) rest.0 acts first) in (
        says.0 ++ rest.0,
        grown ∙ append_assoc old.datagrams says.0 rest.0,
        subst (TraceSays new.datagrams) (sym run.4)
            (each_append (λ (step : Traced). AllByRecursion (IsAdmittedLine scenario new.datagrams) step.happened.lines) (traced number acts) run.2
            (each_map (λ (step : Traced). AllByRecursion (IsAdmittedLine scenario new.datagrams) step.happened.lines)
            (λ happened. record { event = number; happened = happened }) acts now) rest.2),
      )
