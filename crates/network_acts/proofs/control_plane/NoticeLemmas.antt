-- The end of a session that notices its loss, as acts of the control plane.
use Rattle.std.proofs.Common.{◌≡◌, ◌∙◌, refl, sym, ap, subst, ◌<◌, ◌==◌, ◌&&◌, not, inl, inr, Bool, true, false, cond, [], ◌∷◌, ◌++◌, length, Some}
use Rattle.std.proofs.lemmas.Bool.{and_parts, cases_Bool}
use Rattle.mv_base.specs.declared.ids.NodeId.{NodeId}
use Rattle.mv_base.specs.framing.Feed.{unfed}
use Rattle.label_defs.proofs.KeyLemmas.{node_equal}
use Rattle.scenario_defs.specs.Kinds.{same_kind}
use Rattle.scenario_defs.specs.declared.event.Kind.{Kind}
use Rattle.scenario_defs.specs.declared.scenario.Scenario.{Scenario}
use Rattle.network_defs.specs.session_defs.Octets as octets
use Rattle.network_defs.specs.session_defs.Octets.{OctetAct, OctetNetwork, Stream, octet_act, octet_run}
use Rattle.network_defs.specs.session_defs.System.{Behind}
use Rattle.network_defs.specs.declared.session_defs.direction.Direction.{Direction}
use Rattle.network_defs.proofs.session_defs.Lines.{own_direction}
use Rattle.edge_defs.specs.Steps.{Noticed}
use Rattle.mvpn_model.proofs.SessionLemmas.{one_kind}
use Rattle.network_defs.specs.Acts as acts
use Rattle.network_defs.specs.Acts.{is_from_peer}
use Rattle.network_defs.specs.Counts.{direction, is_end_up}
use Rattle.network_defs.specs.Nodes.{Nodes}
use Rattle.network_defs.specs.System.{NodeCall, Own, system}
use Rattle.network_laws.proofs.RunActs.{act_stays}
use Rattle.network_nodes.specs.wire_laws.AnyNodes.{IsElsewhere}
use Rattle.network_nodes.specs.wire_laws.Edges.{begins}
use Rattle.network_nodes.specs.wire_laws.Ends.{HasCall}
use Rattle.network_nodes.proofs.wire_laws.EndLemmas.{calls_ends}
use Rattle.network_acts.specs.control_plane.Acted.{IsIn, Standing}
use Rattle.network_acts.specs.control_plane.Plane.{IsSteady}
use Rattle.network_acts.specs.control_plane.PlaneView.{PlaneView}
use Rattle.network_acts.specs.control_plane.Sessions.{IsLost}
use Rattle.network_acts.proofs.control_plane.BeginLemmas.{Begins, with_sessions}
use Rattle.network_acts.proofs.control_plane.EndLemmas.{end_cases, here_is, session_is, session_itself}
use Rattle.network_acts.proofs.control_plane.SteadyLemmas.{alone, call_streams, none_two, run_stays, run_two, steady_next, steady_stays}

from_peer_is : (kind : Kind) (a b : NodeId) (over : Direction) → is_from_peer kind a b over ≡ true → over ≡ direction kind b a
from_peer_is kind a b over e =
    let outer = and_parts (same_kind kind over.kind && (over.from.0 == b.0)) (over.to.0 == a.0) e in
    let inner = and_parts (same_kind kind over.kind) (over.from.0 == b.0) outer.0 in
    let same = one_kind kind over.kind inner.0 in
    let from = node_equal over.from b inner.1 in
    let to = node_equal over.to a outer.1 in
    λ i. direction (sym same i) (from i) (to i)

-- what was fresh still is
still_fresh : (forgets : Bool) (stream : Stream) → stream ≡ unfed → cond forgets unfed stream ≡ unfed
still_fresh true stream e = refl
still_fresh false stream e = e

-- a notice is no raise
notice_has : (n : NodeId) (network : OctetNetwork Nodes) (kind : Kind) (peer : NodeId) → HasCall n network (Noticed kind peer)
notice_has n network kind peer other e = absurd cc

module _ (at : Standing) (plane : PlaneView) (is : IsIn at plane) (kind : Kind) (a b : NodeId) (lost : IsLost kind a b at) where
  abbrev network : OctetNetwork Nodes
  network = at.network

  abbrev forget : OctetAct NodeCall
  forget = octets.Forget (is_from_peer kind a b)

  abbrev one : OctetAct NodeCall
  one = octets.Call (Own a (Noticed kind b))

  abbrev forgotten : Direction → Stream
  forgotten over = cond (is_from_peer kind a b over && not (network.joined over)) unfed (network.stream over)

  abbrev base : OctetNetwork Nodes
  base = with_sessions network network.joined network.transit forgotten

  forgotten_there : forgotten (direction kind b a) ≡ unfed
  forgotten_there = λ i. cond (own_direction (direction kind b a) i && not (lost.apart i)) unfed (network.stream (direction kind b a))

  kept_elsewhere : (over : Direction) → (over ≡ direction kind b a → ⊥) → forgotten over ≡ network.stream over
  kept_elsewhere over apart = elim (cases_Bool (is_from_peer kind a b over)) [
    | inl t ↦ absurd (apart (from_peer_is kind a b over t))
    | inr f ↦ ap (λ (h : Bool). cond (h && not (network.joined over)) unfed (network.stream over)) f
  ]

  steady_after : (new : Behind (OctetNetwork Nodes)) → octet_act system base one ≡ Some new → IsElsewhere a base network.transit new
      → IsSteady at.moment new.network
  steady_after new e elsewhere =
      let old : IsSteady at.moment network = is.around.steady in
      let streams = call_streams base (Own a (Noticed kind b)) new e in
      let ends = calls_ends base new a (Noticed kind b) e (notice_has a base kind b) in
      steady_next at.moment network new.network
      (run_stays network.state.scenario network [] a (octet_run system network (forget ∷ one ∷ []))
      (record { network = new.network; puts = new.puts ++ [] })
      (run_two network forget one (record { network = base; puts = [] }) new refl e)
      (act_stays network.state.scenario (acts.Notice kind a b)
      (subst (λ (s : Scenario). a.0 < length s.nodes) (sym is.around.scenario_is) lost.within) (alone network)
      (steady_stays at.moment network old)))
      elsewhere.scenario
      (λ over j. old.whose over (sym (elsewhere.joined over) ∙ j))
      (λ over j quiet.
      end_cases (is_end_up over.kind (new.network.state.node over.to) over.from ≡ true)
      ((over.to.0 == a.0) && (same_kind kind over.kind && (b.0 == over.from.0))) false
      (is_end_up over.kind (network.state.node over.to) over.from) (is_end_up over.kind (new.network.state.node over.to) over.from)
      (ends over.kind over.to over.from)
      (λ here same. absurd (let f : true ≡ false = sym j ∙ (elsewhere.joined over ∙ (ap network.joined (here_is a kind b over here) ∙ lost.apart)) in
      cc))
      (λ other same. same ∙ old.up over (sym (elsewhere.joined over) ∙ j) quiet))
      (λ over down.
      end_cases (new.network.stream over ≡ unfed) ((over.to.0 == a.0) && (same_kind kind over.kind && (b.0 == over.from.0))) false
      (is_end_up over.kind (network.state.node over.to) over.from) (is_end_up over.kind (new.network.state.node over.to) over.from)
      (ends over.kind over.to over.from)
      (λ here same. streams over ∙ (ap forgotten (here_is a kind b over here) ∙ forgotten_there))
      (λ other same. streams over ∙ still_fresh (is_from_peer kind a b over && not (network.joined over)) (network.stream over)
      (old.fresh over (sym same ∙ down))))

  pub notice_begins : Begins at plane a (Noticed kind b) (forget ∷ one ∷ []) at.moment plane.transit
  notice_begins = record {
    within = lost.within;
    current = lost.current;
    late = λ m. refl;
    joined = network.joined;
    moving = network.transit;
    stream = forgotten;
    joined_is = is.around.joined;
    octets_are = is.transit;
    others = λ over apart. kept_elsewhere over (λ e. apart (ap (λ (d : Direction). d.to) e));
    streams = λ own peer none.
        kept_elsewhere (direction own peer a)
        (λ e. (let f : true ≡ false = sym (session_itself kind b) ∙ subst (λ (d : Direction). begins (Noticed kind b) d.kind d.from ≡ false) e none in
        cc));
    begun = λ own peer e. ap forgotten (session_is a kind b own peer e) ∙ forgotten_there;
    runs = λ new e. run_two network forget one (record { network = base; puts = [] }) new refl e;
    lacks = λ e. none_two network forget one (record { network = base; puts = [] }) refl e;
    steady = steady_after;
  }
