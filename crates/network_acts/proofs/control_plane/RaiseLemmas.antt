-- The ends of a session that come up, as acts of the control plane.
use Rattle.std.proofs.Common.{◌≡◌, ◌∙◌, refl, sym, ap, subst, ℕ, ◌<◌, ◌==◌, ◌&&◌, ◌||◌, ◌⊎◌, inl, inr, Bool, true, false, cond, List, [], ◌∷◌, ◌++◌, length, Some}
use Rattle.std.proofs.lemmas.Bool.{and_parts, cases_Bool, or_cases}
use Rattle.mv_base.specs.declared.ids.NodeId.{NodeId}
use Rattle.mv_base.specs.framing.Feed.{unfed}
use Rattle.label_defs.proofs.KeyLemmas.{node_equal}
use Rattle.label_defs.specs.Between.{is_between}
use Rattle.scenario_defs.specs.Kinds.{same_kind}
use Rattle.scenario_defs.specs.declared.event.Kind.{Kind}
use Rattle.scenario_defs.specs.declared.scenario.Scenario.{Scenario}
use Rattle.network_defs.specs.session_defs.Message.{same_direction}
use Rattle.network_defs.specs.session_defs.Octets as octets
use Rattle.network_defs.specs.session_defs.Octets.{OctetAct, OctetNetwork, Stream, octet_act, octet_run}
use Rattle.network_defs.specs.session_defs.System.{Behind}
use Rattle.network_defs.specs.declared.session_defs.direction.Direction.{Direction}
use Rattle.network_defs.proofs.session_defs.Lines.{direction_is, own_direction}
use Rattle.net_sessions.specs.session_transit.TransitData.{Joins, TransitData}
use Rattle.edge_defs.specs.Steps.{Raised}
use Rattle.mvpn_model.proofs.SessionLemmas.{one_kind}
use Rattle.network_defs.specs.Acts as acts
use Rattle.network_defs.specs.Acts.{is_of_session}
use Rattle.network_defs.specs.Counts.{direction, is_end_up}
use Rattle.network_defs.specs.Nodes.{Nodes}
use Rattle.network_defs.specs.System.{NodeCall, Own, system}
use Rattle.network_laws.proofs.RunActs.{Stays, act_stays}
use Rattle.network_nodes.specs.wire_laws.AnyNodes.{IsElsewhere}
use Rattle.network_nodes.specs.wire_laws.Edges.{IsWay, begins}
use Rattle.network_nodes.proofs.wire_laws.EndLemmas.{calls_ends}
use Rattle.network_nodes.proofs.wire_laws.WayLemmas.{reversed}
use Rattle.network_acts.specs.control_plane.Acted.{IsIn, Standing}
use Rattle.network_acts.specs.control_plane.Plane.{IsSteady, Moment}
use Rattle.network_acts.specs.control_plane.PlaneView.{PlaneView}
use Rattle.network_acts.specs.control_plane.Sessions.{IsDown, IsHalfUp, none_rising, with_rising}
use Rattle.network_acts.proofs.control_plane.BeginLemmas.{Begins, with_sessions}
use Rattle.network_acts.proofs.control_plane.EndLemmas.{end_cases, here_itself, raise_has, session_is}
use Rattle.network_acts.proofs.control_plane.SteadyLemmas.{alone, call_streams, none_two, run_none, run_one, run_stays, run_two, steady_next, steady_stays}

-- ---- an end that comes up

module _ (at : Standing) (plane : PlaneView) (is : IsIn at plane) (n : NodeId) (within : n.0 < length at.scenario.nodes) (kind : Kind) (peer : NodeId)
    (way : IsWay at.scenario (direction kind n peer))
    (down : is_end_up kind (at.network.state.node n) peer ≡ false) where
  -- an end that was down has a fresh stream
  raise_begun : (own : Kind) (from : NodeId) → begins (Raised kind peer) own from ≡ true → at.network.stream (direction own from n) ≡ unfed
  raise_begun own from e = ap at.network.stream (session_is n kind peer own from e) ∙ is.around.steady.fresh (direction kind peer n) down

  raise_steady : (joined : Direction → Bool) (moving : Direction → List ℕ) (stream : Direction → Stream) (moment : Moment)
      (new : Behind (OctetNetwork Nodes))
      → octet_act system (with_sessions at.network joined moving stream) (octets.Call (Own n (Raised kind peer))) ≡ Some new
      → IsElsewhere n (with_sessions at.network joined moving stream) moving new
      → Stays at.network.state.scenario new.network → ((over : Direction) → stream over ≡ at.network.stream over)
      → ((over : Direction) → joined over ≡ true → IsWay at.network.state.scenario over)
      → ((over : Direction) → joined over ≡ true → moment.rising over ≡ false → (over ≡ direction kind peer n → ⊥)
      → is_end_up over.kind (at.network.state.node over.to) over.from ≡ true)
      → IsSteady moment new.network
  raise_steady joined moving stream moment new e elsewhere stays same whose up =
      let base = with_sessions at.network joined moving stream in
      let ends = calls_ends base new n (Raised kind peer) e (raise_has at plane is n within kind peer way) in
      steady_next moment at.network new.network stays elsewhere.scenario
      (λ over j. whose over (sym (elsewhere.joined over) ∙ j))
      (λ over j quiet.
      end_cases (is_end_up over.kind (new.network.state.node over.to) over.from ≡ true)
      ((over.to.0 == n.0) && (same_kind kind over.kind && (peer.0 == over.from.0))) true
      (is_end_up over.kind (at.network.state.node over.to) over.from) (is_end_up over.kind (new.network.state.node over.to) over.from)
      (ends over.kind over.to over.from)
      (λ here raised. raised)
      (λ other stayed. stayed ∙ up over (sym (elsewhere.joined over) ∙ j) quiet
      (λ there. (let f : true ≡ false = sym (here_itself n kind peer over there) ∙ other in cc))))
      (λ over none.
      end_cases (new.network.stream over ≡ unfed) ((over.to.0 == n.0) && (same_kind kind over.kind && (peer.0 == over.from.0))) true
      (is_end_up over.kind (at.network.state.node over.to) over.from) (is_end_up over.kind (new.network.state.node over.to) over.from)
      (ends over.kind over.to over.from)
      (λ here raised. absurd (let f : true ≡ false = sym raised ∙ none in cc))
      (λ other stayed. call_streams base (Own n (Raised kind peer)) new e over ∙ (same over ∙ is.around.steady.fresh over (sym stayed ∙ none))))

-- ---- the first end

of_session_is : (kind : Kind) (a b : NodeId) (over : Direction) → is_of_session kind a b over ≡ true
    → (over ≡ direction kind a b) ⊎ (over ≡ direction kind b a)
of_session_is kind a b over e =
    let parts = and_parts (same_kind kind over.kind) (is_between a b over.from over.to) e in
    let same = one_kind kind over.kind parts.0 in
    elim (or_cases ((over.from.0 == a.0) && (over.to.0 == b.0)) ((over.from.0 == b.0) && (over.to.0 == a.0)) parts.1) [
      | inl x ↦ inl (one same a b (and_parts (over.from.0 == a.0) (over.to.0 == b.0) x))
      | inr x ↦ inr (one same b a (and_parts (over.from.0 == b.0) (over.to.0 == a.0) x))
    ]
  where
    one : kind ≡ over.kind → (from to : NodeId) → ((over.from.0 == from.0) ≡ true) × ((over.to.0 == to.0) ≡ true) → over ≡ direction kind from to
    one same from to ends = λ i. direction (sym same i) (node_equal over.from from ends.0 i) (node_equal over.to to ends.1 i)

module _ (at : Standing) (plane : PlaneView) (is : IsIn at plane) (kind : Kind) (a b : NodeId) (down : IsDown kind a b at) where
  abbrev network : OctetNetwork Nodes
  network = at.network

  abbrev join : OctetAct NodeCall
  join = octets.Join (is_of_session kind a b)

  abbrev one : OctetAct NodeCall
  one = octets.Call (Own a (Raised kind b))

  abbrev joined : Direction → Bool
  joined over = network.joined over || is_of_session kind a b over

  abbrev moving : Direction → List ℕ
  moving over = cond (is_of_session kind a b over) [] (network.transit over)

  abbrev stream : Direction → Stream
  stream over = cond (is_of_session kind a b over) unfed (network.stream over)

  abbrev base : OctetNetwork Nodes
  base = with_sessions network joined moving stream

  -- the streams of both directions were fresh
  same_stream : (over : Direction) → stream over ≡ network.stream over
  same_stream over = elim (cases_Bool (is_of_session kind a b over)) [
    | inl t ↦
        ap (λ (h : Bool). cond h unfed (network.stream over)) t
        ∙ sym (elim (of_session_is kind a b over t) [
          | inl e ↦ ap network.stream e ∙ is.around.steady.fresh (direction kind a b) down.second
          | inr e ↦ ap network.stream e ∙ is.around.steady.fresh (direction kind b a) down.first
        ])
    | inr f ↦ ap (λ (h : Bool). cond h unfed (network.stream over)) f
  ]

  way : IsWay network.state.scenario (direction kind a b)
  way = subst (λ (s : Scenario). IsWay s (direction kind a b)) (sym is.around.scenario_is) down.way

  whose : (over : Direction) → joined over ≡ true → IsWay network.state.scenario over
  whose over j = elim (or_cases (network.joined over) (is_of_session kind a b over) j) [
    | inl was ↦ is.around.steady.whose over was
    | inr hit ↦ (elim (of_session_is kind a b over hit) [
      | inl e ↦ subst (IsWay network.state.scenario) (sym e) way
      | inr e ↦ subst (IsWay network.state.scenario) (sym e) (reversed network.state.scenario kind a b way)
    ])
  ]

  first_up : (over : Direction) → joined over ≡ true → same_direction over (direction kind a b) ≡ false → (over ≡ direction kind b a → ⊥)
      → is_end_up over.kind (network.state.node over.to) over.from ≡ true
  first_up over j quiet apart = elim (or_cases (network.joined over) (is_of_session kind a b over) j) [
    | inl was ↦ is.around.steady.up over was (down.calm over)
    | inr hit ↦ absurd (elim (of_session_is kind a b over hit) [
      | inl e ↦ (let f : true ≡ false = sym (own_direction (direction kind a b))
          ∙ (ap (λ (d : Direction). same_direction d (direction kind a b)) (sym e) ∙ quiet) in cc)
      | inr e ↦ apart e
    ])
  ]

  pub first_begins : (transit : TransitData) → Joins (is_of_session kind a b) plane.transit transit
      → Begins at plane a (Raised kind b) (join ∷ one ∷ []) (with_rising kind a b at.moment) transit
  first_begins transit joins = record {
    within = down.within;
    current = down.current;
    late = λ m. refl;
    joined = joined;
    moving = moving;
    stream = stream;
    joined_is = λ over. ap (λ (j : Bool). j || is_of_session kind a b over) (is.around.joined over) ∙ sym (joins.joined over);
    octets_are = λ over. ap (λ (l : List ℕ). cond (is_of_session kind a b over) [] l) (is.transit over) ∙ sym (joins.octets over);
    others = λ over apart. same_stream over;
    streams = λ own peer none. same_stream (direction own peer a);
    begun = λ own peer e. same_stream (direction own peer a) ∙ raise_begun at plane is a down.within kind b down.way down.first own peer e;
    runs = λ new e. run_two network join one (record { network = base; puts = [] }) new refl e;
    lacks = λ e. none_two network join one (record { network = base; puts = [] }) refl e;
    steady = λ new e elsewhere.
        raise_steady at plane is a down.within kind b down.way down.first joined moving stream (with_rising kind a b at.moment) new e elsewhere
        (run_stays network.state.scenario network [] a (octet_run system network (join ∷ one ∷ []))
        (record { network = new.network; puts = new.puts ++ [] })
        (run_two network join one (record { network = base; puts = [] }) new refl e)
        (act_stays network.state.scenario (acts.RaiseFirst kind a b)
        (subst (λ (s : Scenario). a.0 < length s.nodes) (sym is.around.scenario_is) down.within) (alone network)
        (steady_stays at.moment network is.around.steady)))
        same_stream whose first_up;
  }

-- ---- the second end

module _ (at : Standing) (plane : PlaneView) (is : IsIn at plane) (kind : Kind) (a b : NodeId) (half : IsHalfUp kind a b at) where
  abbrev second : OctetAct NodeCall
  second = octets.Call (Own b (Raised kind a))

  back : IsWay at.scenario (direction kind b a)
  back = reversed at.scenario kind a b half.way

  second_up : (over : Direction) → at.network.joined over ≡ true → false ≡ false → (over ≡ direction kind a b → ⊥)
      → is_end_up over.kind (at.network.state.node over.to) over.from ≡ true
  second_up over j quiet apart = is.around.steady.up over j (half.rising over (elim (cases_Bool (same_direction over (direction kind a b))) [
    | inl t ↦ absurd (apart (direction_is over (direction kind a b) t))
    | inr f ↦ f
  ]))

  pub second_begins : Begins at plane b (Raised kind a) (second ∷ []) (none_rising at.moment) plane.transit
  second_begins = record {
    within = half.within;
    current = half.current;
    late = λ m. refl;
    joined = at.network.joined;
    moving = at.network.transit;
    stream = at.network.stream;
    joined_is = is.around.joined;
    octets_are = is.transit;
    others = λ over apart. refl;
    streams = λ own peer none. refl;
    begun = raise_begun at plane is b half.within kind a back half.down;
    runs = λ new e. run_one at.network second new e;
    lacks = λ e. run_none at.network second e;
    steady = λ new e elsewhere.
        raise_steady at plane is b half.within kind a back half.down at.network.joined at.network.transit at.network.stream (none_rising at.moment)
        new e elsewhere
        (run_stays at.network.state.scenario at.network [] b (octet_run system at.network (second ∷ []))
        (record { network = new.network; puts = new.puts ++ [] }) (run_one at.network second new e)
        (act_stays at.network.state.scenario (acts.RaiseSecond kind a b)
        (subst (λ (s : Scenario). b.0 < length s.nodes) (sym is.around.scenario_is) half.within) (alone at.network)
        (steady_stays at.moment at.network is.around.steady)))
        (λ over. refl) is.around.steady.whose second_up;
  }
