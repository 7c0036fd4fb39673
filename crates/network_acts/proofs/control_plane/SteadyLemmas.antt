-- A network stays steady after the acts of its nodes.
use Rattle.std.proofs.Common.{◌≡◌, ◌∙◌, refl, sym, ap, subst, ◌<◌, ◌≤◌, ◌==◌, ◌&&◌, Bool, true, false, cond, List, [], ◌∷◌, ◌++◌, length, Option, Some, None}
use Rattle.std.proofs.lemmas.Option.{none-some, same_Some}
use Rattle.mv_base.specs.Number.{◌>>?◌}
use Rattle.mv_base.specs.declared.ids.NodeId.{NodeId}
use Rattle.mv_base.specs.framing.Feed.{unfed}
use Rattle.scenario_defs.specs.declared.event.Kind.{Kind}
use Rattle.scenario_defs.specs.declared.report.ReportLine.{ReportLine}
use Rattle.scenario_defs.specs.declared.scenario.Scenario.{Scenario}
use Rattle.network_defs.specs.session_defs.Octets as octets
use Rattle.network_defs.specs.session_defs.Octets.{OctetAct, OctetNetwork, octet_act, octet_run}
use Rattle.network_defs.specs.session_defs.System.{Behind, Stepped, with_earlier}
use Rattle.network_defs.specs.declared.session_defs.direction.Direction.{Direction}
use Rattle.edge_defs.specs.Steps.{Call}
use Rattle.network_defs.specs.Acts as acts
use Rattle.network_defs.specs.Acts.{act, with_network}
use Rattle.network_defs.specs.Costs.{AreRepriced}
use Rattle.network_defs.specs.Counts.{is_end_up}
use Rattle.network_defs.specs.Nodes.{Nodes}
use Rattle.network_defs.specs.System.{NodeCall, Own, system}
use Rattle.network_defs.specs.World.{World}
use Rattle.network_defs.proofs.Kept.{Gives}
use Rattle.network_laws.specs.Honest.{IsSoundCall}
use Rattle.network_laws.specs.Sound.{SoundScenario}
use Rattle.network_laws.proofs.RunActs.{Stays, WorldStays, act_stays}
use Rattle.network_nodes.specs.wire_laws.Edges.{IsWay, begins}
use Rattle.network_nodes.specs.wire_laws.Ends.{HasCall, is_raise}
use Rattle.network_nodes.proofs.wire_laws.EndLemmas.{calls_ends}
use Rattle.network_acts.specs.control_plane.Plane.{IsSteady, Moment}

-- ---- rows of acts

-- what comes of a row of one act, and of two
pub run_one : (network : OctetNetwork Nodes) (one : OctetAct NodeCall) (new : Behind (OctetNetwork Nodes)) → octet_act system network one ≡ Some new
    → octet_run system network (one ∷ []) ≡ Some (record { network = new.network; puts = new.puts ++ [] })
run_one network one new e =
    ap (λ (o : Option (Behind (OctetNetwork Nodes))). o >>? λ next. with_earlier next.puts (octet_run system next.network [])) e

pub run_none : (network : OctetNetwork Nodes) (one : OctetAct NodeCall) → octet_act system network one ≡ None
    → octet_run system network (one ∷ []) ≡ None
run_none network one e = ap (λ (o : Option (Behind (OctetNetwork Nodes))). o >>? λ next. with_earlier next.puts (octet_run system next.network [])) e

pub run_two : (network : OctetNetwork Nodes) (one other : OctetAct NodeCall) (middle new : Behind (OctetNetwork Nodes))
    → octet_act system network one ≡ Some middle
    → octet_act system middle.network other ≡ Some new
    → octet_run system network (one ∷ other ∷ []) ≡ Some (record { network = new.network; puts = middle.puts ++ (new.puts ++ []) })
run_two network one other middle new e f =
    ap (λ (o : Option (Behind (OctetNetwork Nodes))). o >>? λ next. with_earlier next.puts (octet_run system next.network (other ∷ []))) e
    ∙ ap (with_earlier middle.puts) (run_one middle.network other new f)

pub none_two : (network : OctetNetwork Nodes) (one other : OctetAct NodeCall) (middle : Behind (OctetNetwork Nodes))
    → octet_act system network one ≡ Some middle
    → octet_act system middle.network other ≡ None → octet_run system network (one ∷ other ∷ []) ≡ None
none_two network one other middle e f =
    ap (λ (o : Option (Behind (OctetNetwork Nodes))). o >>? λ next. with_earlier next.puts (octet_run system next.network (other ∷ []))) e
    ∙ ap (with_earlier middle.puts) (run_none middle.network other f)

-- ---- soundness

-- a network that has no copies
abbrev pub alone : OctetNetwork Nodes → World
alone network = record { network = network; copies = λ u n. []; datagrams = [] }

pub run_stays : (scenario : Scenario) (network : OctetNetwork Nodes) (before : List ReportLine) (node : NodeId)
    (found : Option (Behind (OctetNetwork Nodes))) (new : Behind (OctetNetwork Nodes))
    → found ≡ Some new → Gives (WorldStays scenario) (with_network (alone network) before found node) → Stays scenario new.network
run_stays scenario network before node found new e gives =
    subst (λ (o : Option (Behind (OctetNetwork Nodes))). Gives (WorldStays scenario) (with_network (alone network) before o node)) e gives

pub steady_stays : (moment : Moment) (network : OctetNetwork Nodes) → IsSteady moment network → Stays network.state.scenario network
steady_stays moment network steady = (steady.sound, (steady.pending, steady.lines))

-- A network is steady after acts that keep it sound, where its ends and streams are as they are to be.
pub steady_next : (moment : Moment) (old new : OctetNetwork Nodes) → Stays old.state.scenario new → new.state.scenario ≡ old.state.scenario
    → ((over : Direction) → new.joined over ≡ true → IsWay old.state.scenario over)
    → ((over : Direction) → new.joined over ≡ true → moment.rising over ≡ false → is_end_up over.kind (new.state.node over.to) over.from ≡ true)
    → ((over : Direction) → is_end_up over.kind (new.state.node over.to) over.from ≡ false → new.stream over ≡ unfed)
    → IsSteady moment new
steady_next moment old new stays same whose up fresh = record {
  sound = record {
    same = refl;
    lines = subst SoundScenario (sym same) stays.0.lines;
    links = subst (λ (s : Scenario). AreRepriced s.links new.state.links) (sym same) stays.0.links;
    known = λ n. subst (λ (s : Scenario). AreRepriced s.links (new.state.known n)) (sym same) (stays.0.known n);
    node = stays.0.node;
    outside = λ n past. stays.0.outside n (subst (λ (s : Scenario). length s.nodes ≤ n.0) same past);
  };
  pending = stays.1.0;
  lines = stays.1.1;
  whose = λ over joined. subst (λ (s : Scenario). IsWay s over) (sym same) (whose over joined);
  up = up;
  fresh = fresh;
}

-- ---- a call of a node

pub own_stays : (moment : Moment) (network : OctetNetwork Nodes) (n : NodeId) (call : Call) (new : Behind (OctetNetwork Nodes))
    → IsSteady moment network → n.0 < length network.state.scenario.nodes
    → IsSoundCall call → octet_act system network (octets.Call (Own n call)) ≡ Some new → Stays network.state.scenario new.network
own_stays moment network n call new steady within sound e =
    run_stays network.state.scenario network [] n (octet_run system network (octets.Call (Own n call) ∷ []))
    (record { network = new.network; puts = new.puts ++ [] })
    (run_one network (octets.Call (Own n call)) new e)
    (act_stays network.state.scenario (acts.At n call) (within, sound) (alone network) (steady_stays moment network steady))

call_stream : (network : OctetNetwork Nodes) (found : Option (Stepped Nodes)) (new : Behind (OctetNetwork Nodes))
    → octets.with_step network found ≡ Some new → (over : Direction) → new.network.stream over ≡ network.stream over
call_stream network None new e over = absurd (none-some new e)
call_stream network (Some stepped) new e over =
    ap (λ (b : Behind (OctetNetwork Nodes)). b.network.stream over)
    (sym (same_Some (record { network = octets.with_octets network stepped; puts = stepped.puts }) new e))

-- a call moves no stream
pub call_streams : (network : OctetNetwork Nodes) (call : NodeCall) (new : Behind (OctetNetwork Nodes))
    → octet_act system network (octets.Call call) ≡ Some new
    → (over : Direction) → new.network.stream over ≡ network.stream over
call_streams network call new e over = call_stream network (system.called call network.state) new e over

-- A call that begins no stream moves no end.
pub calm_ends : (network : OctetNetwork Nodes) (n : NodeId) (call : Call) (new : Behind (OctetNetwork Nodes))
    → octet_act system network (octets.Call (Own n call)) ≡ Some new → HasCall n network call
    → ((kind : Kind) (peer : NodeId) → begins call kind peer ≡ false) → (kind : Kind) (m peer : NodeId)
    → is_end_up kind (new.network.state.node m) peer ≡ is_end_up kind (network.state.node m) peer
calm_ends network n call new e has calm kind m peer =
    calls_ends network new n call e has kind m peer
    ∙ ((λ i. cond ((m.0 == n.0) && calm kind peer i) (is_raise call) (is_end_up kind (network.state.node m) peer))
    ∙ by (m.0 == n.0) (is_raise call) (is_end_up kind (network.state.node m) peer))
  where
    by : (b x y : Bool) → cond (b && false) x y ≡ y
    by true x y = refl
    by false x y = refl
