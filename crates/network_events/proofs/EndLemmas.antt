-- Which ends of a session are up after the acts by which it comes up or its loss is noticed.
use Rattle.std.proofs.Common.{◌≡◌, ◌∙◌, refl, sym, ap, subst, ◌==◌, ◌&&◌, ◌||◌, inl, inr, ◌<◌, not, Bool, true, false, cond, List, [], ◌∷◌, length, Option, Some, None, find, Result, Ok, Err}
use Rattle.std.proofs.lemmas.Bool.{and_parts, or_cases}
use Rattle.std.proofs.lemmas.Option.{same_Some}
use Rattle.mv_base.specs.Number.{◌>>?◌}
use Rattle.mv_base.specs.declared.ids.NodeId.{NodeId}
use Rattle.mv_base.specs.framing.Feed.{unfed}
use Rattle.label_defs.proofs.KeyLemmas.{node_apart, node_equal, node_itself}
use Rattle.scenario_defs.specs.Rules.{Rules}
use Rattle.scenario_defs.specs.declared.event.Kind.{Kind}
use Rattle.scenario_defs.specs.declared.report.ReportLine.{ReportLine}
use Rattle.scenario_defs.specs.declared.scenario.Scenario.{Scenario}
use Rattle.network_defs.specs.session_defs.Octets as octets
use Rattle.network_defs.specs.session_defs.Octets.{OctetNetwork, octet_act, octet_run}
use Rattle.network_defs.specs.session_defs.System.{Behind, with_earlier}
use Rattle.edge_defs.specs.Steps.{Call, Noticed, Raised}
use Rattle.mldp_node.specs.declared.fault.NodeFault.{NodeFault}
use Rattle.mvpn_model.specs.Sessions.{sessions}
use Rattle.mvpn_model.specs.declared.session.Session.{Session}
use Rattle.network_defs.specs.Acts as acts
use Rattle.network_defs.specs.Acts.{Act, Acted, act, is_from_peer, is_of_session, with_network}
use Rattle.network_defs.specs.Counts.{direction, is_end_up, is_up}
use Rattle.network_defs.specs.Events.{Happened, Outcome, Done, and_then, is_session_of, one_act, raise_acts, row}
use Rattle.network_defs.specs.Nodes.{Nodes}
use Rattle.network_defs.specs.System.{Own, system}
use Rattle.network_defs.specs.World.{World, scenario_of}
use Rattle.network_defs.proofs.Kept.{Comes, Gives, both_give, one_comes, then_comes}
use Rattle.network_acts.specs.wire_laws.Edges.{IsWay, begins}
use Rattle.network_acts.specs.wire_laws.Ends.{HasCall, end_after, is_raise}
use Rattle.network_acts.specs.wire_laws.Ways.{IsFound}
use Rattle.network_acts.proofs.wire_laws.EndLemmas.{calls_ends}
use Rattle.network_acts.proofs.wire_laws.WayLemmas.{reversed, session_found, two_ends, way_has}
use Rattle.network_acts.specs.Acting.{ActsAs}
use Rattle.network_acts.specs.Instant.{Instant, IsSome, IsWorld, OfPlane, standing_of}
use Rattle.network_acts.specs.NetworkView.{NetworkView}
use Rattle.network_acts.specs.Words.{IsDown, IsHalfUp, Moment, none_rising, same_moment, with_rising}
use Rattle.network_acts.proofs.Handed.{raise_has, session_itself}
use Rattle.network_events.specs.Doing.{Does, answer_at}
use Rattle.network_events.specs.Meeting.{IsResting}
use Rattle.network_events.specs.Parts.{IsRaisable}
use Rattle.network_events.specs.declared.halt.Halt.{Halt}
use Rattle.network_events.proofs.DoLemmas.{act_does, first_halts, some_mid, then_does}
use Rattle.network_events.proofs.KeptLemmas.{Follows, act_follows, comes_done}
use Rattle.network_events.proofs.RowLemmas.{does_as, halts_as, row_append}

-- ---- acts that end with a call of a node

-- the ends of the world are those after the call
abbrev pub EndsBehind : World → NodeId → Call → World → Type 0
EndsBehind old n call new = (kind : Kind) (m peer : NodeId) → is_up new kind m peer ≡ end_after n call kind m peer (is_up old kind m peer)

module _ (world : World) (n : NodeId) (call : Call) (base : OctetNetwork Nodes) (same : base.state ≡ world.network.state) (has : HasCall n base call)
  where
    called_ends : (new : Behind (OctetNetwork Nodes)) → octet_act system base (octets.Call (Own n call)) ≡ Some new
        → EndsBehind world n call (record world { network = new.network })
    called_ends new e kind m peer =
        calls_ends base new n call e has kind m peer ∙ ap (λ (state : Nodes). end_after n call kind m peer (is_end_up kind (state.node m) peer)) same

    one_ends : Gives (EndsBehind world n call) (with_network world [] (octet_run system base (octets.Call (Own n call) ∷ [])) n)
    one_ends = by (octet_act system base (octets.Call (Own n call))) refl
      where
        by : (o : Option (Behind (OctetNetwork Nodes))) → octet_act system base (octets.Call (Own n call)) ≡ o
            → Gives (EndsBehind world n call) (with_network world [] (o >>? λ next. with_earlier next.puts (octet_run system next.network [])) n)
        by None e = tt
        by (Some new) e = called_ends new e

    two_end : Gives (EndsBehind world n call) (with_network world [] (with_earlier [] (octet_run system base (octets.Call (Own n call) ∷ []))) n)
    two_end = by (octet_act system base (octets.Call (Own n call))) refl
      where
        by : (o : Option (Behind (OctetNetwork Nodes))) → octet_act system base (octets.Call (Own n call)) ≡ o
            → Gives (EndsBehind world n call) (with_network world []
            (with_earlier [] (o >>? λ next. with_earlier next.puts (octet_run system next.network []))) n)
        by None e = tt
        by (Some new) e = called_ends new e

pub notice_ends : (world : World) (kind : Kind) (a b : NodeId) → Gives (EndsBehind world a (Noticed kind b)) (act world (acts.Notice kind a b))
notice_ends world kind a b =
    two_end world a (Noticed kind b) (record world.network
    { stream = λ over. cond (is_from_peer kind a b over && not (world.network.joined over)) unfed (world.network.stream over) }) refl
    (λ peer e. absurd cc)

first_ends : (world : World) (kind : Kind) (a b : NodeId) → HasCall a world.network (Raised kind b)
    → Gives (EndsBehind world a (Raised kind b)) (act world (acts.RaiseFirst kind a b))
first_ends world kind a b has =
    two_end world a (Raised kind b)
    (record world.network {
      joined = λ over. world.network.joined over || is_of_session kind a b over;
      transit = λ over. cond (is_of_session kind a b over) [] (world.network.transit over);
      stream = λ over. cond (is_of_session kind a b over) unfed (world.network.stream over);
    }) refl has

-- what an act gives holds after the row of it alone
pub one_row : (P : World → Type 0) (world : World) (one : Act) → Gives P (act world one) → Comes P (row (one ∷ []) world)
one_row P world one gives = then_comes P P (one_act world one) (row []) (one_comes P world one gives) (λ next p. p)

-- ---- the other end is that of another node

-- what holds of the scenario of a network
pub rules_of : (at : Instant) (network : NetworkView) → IsWorld at network → Rules (scenario_of at.world)
rules_of at network is = is.plane.around.steady.sound.lines.rules

pub ends_within : (scenario : Scenario) → Rules scenario → (kind : Kind) (a b : NodeId) → IsWay scenario (direction kind a b)
    → (a.0 < length scenario.nodes) × (b.0 < length scenario.nodes) × (a ≡ b → ⊥)
ends_within scenario rules kind a b way = two_ends scenario rules kind a b (way_has scenario kind a b way)

-- a call at one node leaves the end of another one
pub other_stays : (n m : NodeId) → (n ≡ m → ⊥) → (call : Call) (kind : Kind) (peer : NodeId) (old : Bool) → end_after n call kind m peer old ≡ old
other_stays n m apart call kind peer old = by (m.0 == n.0) (node_apart m n (λ e. apart (sym e)))
  where
    by : (here : Bool) → here ≡ false → cond (here && begins call kind peer) (is_raise call) old ≡ old
    by true e = absurd cc
    by false e = refl

-- the end that notices the loss is down
pub noticed_down : (a b : NodeId) (kind : Kind) (old : Bool) → end_after a (Noticed kind b) kind a b old ≡ false
noticed_down a b kind old = λ i. cond (node_itself a a refl i && session_itself kind b i) false old

-- ---- a session that is raised

pub rests_at : (at : Instant) → IsResting at → (n : NodeId) → at.moment.late n ≡ false
rests_at at resting n = ap (λ (m : Moment). m.late n) resting.rest

module _ (kind : Kind) (a b : NodeId) where
  pub raisable_down : (at : Instant) (network : NetworkView) → IsRaisable kind a b at → IsWorld at network → IsDown kind a b (standing_of at)
  raisable_down at network raisable is = record {
    within = (ends_within (scenario_of at.world) (rules_of at network is) kind a b raisable.way).0;
    current = rests_at at raisable.resting a;
    way = raisable.way;
    calm = λ over. ap (λ (m : Moment). m.rising over) raisable.resting.rest;
    first = raisable.first;
    second = raisable.second;
  }

  -- the first end has come up, and the second one is still down
  record FirstUp (old new : World) : Type 0 where
    pub scenario : scenario_of new ≡ scenario_of old
    pub down : is_up new kind b a ≡ false

  pub half_up : (at : Instant) (network : NetworkView) → IsRaisable kind a b at → IsWorld at network → (happened : List Happened) (world : World)
      → row (acts.RaiseFirst kind a b ∷ []) at.world ≡ Done happened world
      → IsHalfUp kind a b (standing_of (record { cores = at.cores; moment = with_rising kind a b at.moment; world = world }))
  half_up at network raisable is happened world e =
      let scenario : Scenario = scenario_of at.world in
      let ends = ends_within scenario (rules_of at network is) kind a b raisable.way in
      let has = raise_has (standing_of at) network.plane is.plane a ends.0 kind b raisable.way in
      let thereafter : FirstUp at.world world = comes_done (FirstUp at.world) (row (acts.RaiseFirst kind a b ∷ []) at.world) happened world e
      (one_row (FirstUp at.world) at.world (acts.RaiseFirst kind a b) (gives at.world raisable.second ends.2 has)) in
      record {
        within = subst (λ (s : Scenario). b.0 < length s.nodes) (sym thereafter.scenario) ends.1;
        current = rests_at at raisable.resting b;
        way = subst (λ (s : Scenario). IsWay s (direction kind a b)) (sym thereafter.scenario) raisable.way;
        down = thereafter.down;
        rising = λ over other. other;
      }
    where
      gives : (old : World) → is_up old kind b a ≡ false → (a ≡ b → ⊥) → HasCall a old.network (Raised kind b)
          → Gives (FirstUp old) (act old (acts.RaiseFirst kind a b))
      gives old down apart has =
          by (act old (acts.RaiseFirst kind a b)) (both_give (Follows (acts.RaiseFirst kind a b) old) (EndsBehind old a (Raised kind b))
          (act old (acts.RaiseFirst kind a b)) (act_follows old (acts.RaiseFirst kind a b)) (first_ends old kind a b has))
        where
          by : (o : Result Acted NodeId) → Gives (λ new. Follows (acts.RaiseFirst kind a b) old new × EndsBehind old a (Raised kind b) new) o
              → Gives (FirstUp old) o
          by (Err node) h = tt
          by (Ok new) h =
              record { scenario = h.0.scenario; down = h.1 kind b a ∙ (other_stays a b apart (Raised kind b) kind a (is_up old kind b a) ∙ down) }

  -- no end is to come up after both acts
  pub risen : (at : Instant) → IsResting at → none_rising (with_rising kind a b at.moment) ≡ at.moment
  risen at resting = (λ i. none_rising (with_rising kind a b (resting.rest i))) ∙ sym resting.rest

-- The session that is found is that of the two nodes.
pub found_raisable : (at : Instant) (kind : Kind) (a b : NodeId) → IsRaisable kind a b at → (session : Session)
    → find (is_session_of kind a b) (sessions (scenario_of at.world)) ≡ Some session
    → IsRaisable session.kind session.a session.b at
found_raisable at kind a b raisable session e =
    let found : IsFound (scenario_of at.world) kind a b = session_found (scenario_of at.world) kind a b raisable.way in
    let same : found.session ≡ session = same_Some found.session session (sym found.found ∙ e) in
    subst (λ (s : Session). IsRaisable s.kind s.a s.b at) same
    (subst (λ (k : Kind). IsRaisable k found.session.a found.session.b at) (sym found.protocol)
    (elim (or_cases ((found.session.a.0 == a.0) && (found.session.b.0 == b.0)) ((found.session.a.0 == b.0) && (found.session.b.0 == a.0))
    found.between) [
      | inl x ↦ (let parts = and_parts (found.session.a.0 == a.0) (found.session.b.0 == b.0) x in
          let first : a ≡ found.session.a = sym (node_equal found.session.a a parts.0) in
          let second : b ≡ found.session.b = sym (node_equal found.session.b b parts.1) in
          subst (λ (n : NodeId). IsRaisable kind found.session.a n at) second (subst (λ (n : NodeId). IsRaisable kind n b at) first raisable))
      | inr x ↦ (let parts = and_parts (found.session.a.0 == b.0) (found.session.b.0 == a.0) x in
          let first : b ≡ found.session.a = sym (node_equal found.session.a b parts.0) in
          let second : a ≡ found.session.b = sym (node_equal found.session.b a parts.1) in
          subst (λ (n : NodeId). IsRaisable kind found.session.a n at) second (subst (λ (n : NodeId). IsRaisable kind n a at) first turned))
    ]))
  where
    turned : IsRaisable kind b a at
    turned = record {
      resting = raisable.resting;
      way = reversed (scenario_of at.world) kind a b raisable.way;
      first = raisable.second;
      second =
          raisable.first;
    }

-- ---- both ends come up

module _ (session : Session) (old mid : NetworkView) (lines mid_lines : List ReportLine) where
  abbrev first_act : World → Outcome
  first_act = row (acts.RaiseFirst session.kind session.a session.b ∷ [])

  abbrev second_act : World → Outcome
  second_act = row (acts.RaiseSecond session.kind session.a session.b ∷ [])

  pub first_does : (answer : Result (Unit {0}) NodeFault)
      → ActsAs (OfPlane (IsDown session.kind session.a session.b)) (with_rising session.kind session.a session.b)
      (acts.RaiseFirst session.kind session.a session.b) session.a old mid lines mid_lines answer
      → Does (IsRaisable session.kind session.a session.b) (with_rising session.kind session.a session.b) first_act old mid lines mid_lines
      (answer_at session.a answer)
  first_does answer one =
      does_as (OfPlane (IsDown session.kind session.a session.b)) (IsRaisable session.kind session.a session.b)
      (with_rising session.kind session.a session.b) (with_rising session.kind session.a session.b)
      first_act first_act old mid lines mid_lines (answer_at session.a answer)
      (λ at raisable is. (raisable_down session.kind session.a session.b at old raisable is, refl, refl))
      (act_does (OfPlane (IsDown session.kind session.a session.b)) (with_rising session.kind session.a session.b)
      (acts.RaiseFirst session.kind session.a session.b) session.a old mid lines mid_lines answer one)

  pub some_half : Does (IsRaisable session.kind session.a session.b) (with_rising session.kind session.a session.b) first_act old mid lines mid_lines
      (Ok tt) → IsSome (IsRaisable session.kind session.a session.b) old
      → IsSome (OfPlane (IsHalfUp session.kind session.a session.b)) mid
  some_half one =
      some_mid (IsRaisable session.kind session.a session.b) (OfPlane (IsHalfUp session.kind session.a session.b))
      (with_rising session.kind session.a session.b) same_moment first_act first_act old mid mid lines mid_lines mid_lines one
      (λ at raisable is happened world e stands. half_up session.kind session.a session.b at old raisable is happened world e)

  -- the first end lacks a label
  pub first_halted : (halt : Halt) → Does (IsRaisable session.kind session.a session.b) (with_rising session.kind session.a session.b) first_act old
      mid lines mid_lines (Err halt)
      → Does (IsRaisable session.kind session.a session.b) same_moment (row (raise_acts session)) old mid lines mid_lines (Err halt)
  first_halted halt one =
      halts_as (IsRaisable session.kind session.a session.b) (λ m. with_rising session.kind session.a session.b m) same_moment
      (λ world. and_then (first_act world) second_act) (row (raise_acts session)) old mid lines mid_lines halt
      (λ world. sym (row_append (acts.RaiseFirst session.kind session.a session.b ∷ []) (acts.RaiseSecond session.kind session.a session.b ∷ [])
      world))
      (first_halts (IsRaisable session.kind session.a session.b) (IsRaisable session.kind session.a session.b)
      (with_rising session.kind session.a session.b) same_moment first_act second_act old mid mid lines mid_lines mid_lines halt one)

  pub both_up : (new : NetworkView) (new_lines : List ReportLine) (answer : Result (Unit {0}) NodeFault)
      → Does (IsRaisable session.kind session.a session.b) (with_rising session.kind session.a session.b) first_act old mid lines mid_lines (Ok tt)
      → ActsAs (OfPlane (IsHalfUp session.kind session.a session.b)) none_rising (acts.RaiseSecond session.kind session.a session.b) session.b mid new
      mid_lines new_lines answer
      → Does (IsRaisable session.kind session.a session.b) same_moment (row (raise_acts session)) old new lines new_lines (answer_at session.b answer)
  both_up new new_lines answer one two =
      does_as (IsRaisable session.kind session.a session.b) (IsRaisable session.kind session.a session.b)
      (λ m. none_rising (with_rising session.kind session.a session.b m)) same_moment (λ world. and_then (first_act world) second_act)
      (row (raise_acts session)) old new lines new_lines (answer_at session.b answer)
      (λ at raisable is. (
        raisable,
        sym (row_append (acts.RaiseFirst session.kind session.a session.b ∷ []) (acts.RaiseSecond session.kind session.a session.b ∷ [])
            at.world),
        risen session.kind session.a session.b at raisable.resting,
      ))
      (then_does (IsRaisable session.kind session.a session.b) (OfPlane (IsHalfUp session.kind session.a session.b))
      (with_rising session.kind session.a session.b) none_rising first_act second_act old mid new lines mid_lines new_lines one
      (λ at raisable is happened world e stands. half_up session.kind session.a session.b at old raisable is happened world e)
      (answer_at session.b answer)
      (act_does (OfPlane (IsHalfUp session.kind session.a session.b)) none_rising (acts.RaiseSecond session.kind session.a session.b) session.b mid
      new mid_lines new_lines answer two))
