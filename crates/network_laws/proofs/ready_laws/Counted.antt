-- The sessions that are not ready, counted in the network and by the events.
use Rattle.std.specs.Prelude.{count_by}
use Rattle.std.proofs.Common.{◌≡◌, ◌⊎◌, ℕ, ◌+◌, ◌<◌, true, false, not, ◌&&◌, ◌||◌, ◌++◌, map, length, List, [], ◌∷◌, Option, Some, None, inl, inr, refl, sym, ap, subst, ◌∙◌, option_map}
use Rattle.std.specs.List.{AllByRecursion}
use Rattle.std.proofs.lemmas.List.Elements.{recursion_from_All}
use Rattle.mv_base.specs.declared.ids.NodeId.{NodeId}
use Rattle.mv_base.specs.declared.core_link.Link.{Link}
use Rattle.mv_base.specs.core_walks.Topology.{HasEnds}
use Rattle.scenario_defs.specs.Rules.{Rises, Rules}
use Rattle.scenario_defs.specs.declared.event.Kind.{Kind}
use Rattle.scenario_defs.specs.declared.event.Kind.TheVariants as kinds
use Rattle.scenario_defs.specs.declared.event.Script.{Script}
use Rattle.scenario_defs.specs.declared.event.Timed.{Timed}
use Rattle.scenario_defs.specs.declared.scenario.Scenario.{Scenario}
use Rattle.label_defs.specs.declared.end.End.{End}
use Rattle.std.specs.FinMap as maps
use Rattle.network_defs.specs.Nodes.{part_of}
use Rattle.network_laws.proofs.ready_laws.Ends.{up_end}
use Rattle.network_defs.specs.mvpn_model.Past.{Past}
use Rattle.network_defs.specs.mvpn_model.Report.{refused_lines}
use Rattle.network_defs.specs.mvpn_model.Sessions.{edges, bgp_session, bgp_sessions, ldp_session, sessions}
use Rattle.network_defs.specs.mvpn_model.declared.session.Session.{Session}
use Rattle.scenario_defs.specs.Kinds.{same_kind}
use Rattle.network_defs.specs.Costs.{Cores}
use Rattle.network_defs.specs.Counts.{is_joined, are_held, is_ready, unready}
use Rattle.network_defs.specs.Run.{Traced, Run, report_of}
use Rattle.network_defs.specs.mvpn_model.Unready.{SessionsStand, none_joined, sessions_stand, is_held, is_ready_in, unready_after}
use Rattle.network_defs.specs.World.{World, start}
use Rattle.network_laws.proofs.ready_laws.Nodes.{end_of, fresh_end}
use Rattle.network_laws.proofs.ready_laws.TimersAlike.{HasNodes}
use Rattle.network_defs.proofs.mvpn_model.SessionLemmas.{IsIn, count_alike}
use Rattle.network_laws.proofs.ready_laws.EventsStand.{Tells}
use Rattle.network_laws.proofs.ready_laws.RunsTell.{runs_tell}

-- ---- the sessions of a scenario

in_either : (session : Session) (first more : List Session) → IsIn session (first ++ more) → IsIn session first ⊎ IsIn session more
in_either session [] more h = inr h
in_either session (one ∷ first) more (inl e) = inl (inl e)
in_either session (one ∷ first) more (inr h) = elim (in_either session first more h) [ inl x ↦ inl (inr x) | inr x ↦ inr x ]

of_one_edge : (a : NodeId) (later : List NodeId) (session : Session) → IsIn session (map (bgp_session a) later) → session.kind ≡ kinds.Bgp
of_one_edge a [] session h = absurd h
of_one_edge a (b ∷ later) session (inl e) = ap (λ (x : Session). x.kind) e
of_one_edge a (b ∷ later) session (inr h) = of_one_edge a later session h

of_edges : (all : List NodeId) (session : Session) → IsIn session (bgp_sessions all) → session.kind ≡ kinds.Bgp
of_edges [] session h = absurd h
of_edges (a ∷ later) session h =
    elim (in_either session (map (bgp_session a) later) (bgp_sessions later) h)
    [ inl x ↦ of_one_edge a later session x | inr x ↦ of_edges later session x ]

of_links : (nodes : ℕ) (links : List Link) → AllByRecursion (HasEnds nodes) links → (session : Session) → IsIn session (map ldp_session links)
    → (session.a.0 < nodes) × (session.b.0 < nodes)
of_links nodes [] ends session h = absurd h
of_links nodes (link ∷ more) ends session (inl e) = subst (λ (x : Session). (x.a.0 < nodes) × (x.b.0 < nodes)) (sym e) (ends.0.a, ends.0.b)
of_links nodes (link ∷ more) ends session (inr h) = of_links nodes more ends.1 session h

-- The links of a scenario that meets its rules join nodes of the scenario.
has_nodes : (scenario : Scenario) → Rules scenario → HasNodes scenario
has_nodes scenario rules session is k = elim (in_either session (bgp_sessions (edges scenario)) (map ldp_session scenario.links) is) [
  | inl x ↦ (let e = of_edges (edges scenario) session x in absurd cc)
  | inr x ↦ of_links (length scenario.nodes) scenario.links
      (recursion_from_All (HasEnds (length scenario.nodes)) scenario.links rules.core.topology.ends) session x
]

-- ---- one session

held_is : (o : Option End) → elim o [ None ↦ false | Some end ↦ end.held ] ≡ is_held (option_map up_end o)
held_is None = refl
held_is (Some end) = refl

ready_alike : (scenario : Scenario) (told : SessionsStand) (world : World) → Tells scenario told world → (session : Session)
    → IsIn session (sessions scenario) → is_ready world session ≡ is_ready_in told session
ready_alike scenario told world t session is = by session.kind refl
  where
    joined : is_joined world session ≡ told.joined session.kind session.a session.b
    joined = t.stands.joined session.kind session.a session.b ∙ sym (t.alike.each session is).joined

    near : session.kind ≡ kinds.Ldp → end_of world.network.state session.a session.b ≡ told.end kinds.Ldp session.a session.b
    near k = t.stands.nodes.ends session.a session.b ∙ sym ((t.alike.each session is).near k)

    far : session.kind ≡ kinds.Ldp → end_of world.network.state session.b session.a ≡ told.end kinds.Ldp session.b session.a
    far k = t.stands.nodes.ends session.b session.a ∙ sym ((t.alike.each session is).far k)

    by : (kind : Kind) → session.kind ≡ kind
        → (is_joined world session && elim kind [ kinds.Bgp ↦ true | kinds.Ldp ↦ are_held world session ])
        ≡ (told.joined session.kind session.a session.b
        && (same_kind kind kinds.Bgp || (is_held (told.end kind session.a session.b) && is_held (told.end kind session.b session.a))))
    by kinds.Bgp k = ap (λ b. b && true) joined
    by kinds.Ldp k =
        let first = held_is (maps.get (part_of (world.network.state.node session.a)).ends session.b) ∙ ap is_held (near k) in
        let second = held_is (maps.get (part_of (world.network.state.node session.b)).ends session.a) ∙ ap is_held (far k) in
        λ i. joined i && (first i && second i)

-- ---- all sessions

-- nothing has happened yet
start_tells : (scenario : Scenario) (cores : Cores) → Tells scenario none_joined (start scenario cores)
start_tells scenario cores = record {
  standing = none_joined;
  stands = record { nodes = record { place = refl; clock = refl; ends = λ n peer. fresh_end scenario n peer }; joined = λ kind a b. refl };
  alike = record { clock = refl; each = λ session is. record { joined = refl; near = λ k. refl; far = λ k. refl } };
}

pub told_unready : (cores : Cores) (script : Script) (events : List Timed) (trace : List Traced) (new : World) → Rules script.scenario
    → Rises 0 events → Run cores script events trace new
    → unready new ≡ unready_after (record { scenario = script.scenario; events = events; refused = refused_lines (report_of trace) })
told_unready cores script events trace new rules rises run =
    let scenario = script.scenario in
    let refused = refused_lines (report_of trace) in
    let past : Past = record { scenario = scenario; events = events; refused = refused } in
    let told = sessions_stand past in
    let t : Tells scenario told new =
    runs_tell scenario (has_nodes scenario rules) events (start scenario cores) 0 trace new none_joined 0 [] refused rises (λ line lt. refl) refl
    (start_tells scenario cores) run in
    ap (λ (x : Scenario). count_by (λ session. not (is_ready new session)) (sessions x)) t.stands.nodes.place
    ∙ count_alike (λ session. not (is_ready new session)) (λ session. not (is_ready_in told session)) (sessions scenario)
    (λ session is. ap not (ready_alike scenario told new t session is))
