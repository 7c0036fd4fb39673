-- Each act of the network whose call is sound keeps the nodes sound and the octets in transit whole units.
use Rattle.std.specs.Prelude.{⊤, take, drop, if◌then◌else◌}
use Rattle.std.proofs.Common.{◌≡◌, ◌<◌, ℕ, List, [], ◌∷◌, length, Option, Some, None, refl, ap, subst}
use Rattle.std.specs.Prelude.{Result, Ok, Err}
use Rattle.mv_base.specs.Number.{◌>>?◌}
use Rattle.mv_base.specs.declared.ids.NodeId.{NodeId}
use Rattle.mv_base.specs.framing.Feed.{fed}
use Rattle.scenario_defs.specs.declared.report.ReportLine.{ReportLine}
use Rattle.scenario_defs.specs.declared.report.ReportLine.TheVariants as lines
use Rattle.scenario_defs.specs.declared.scenario.Scenario.{Scenario}
use Rattle.network_defs.specs.session_defs.Message.{SessionMessage, front_of, same_direction}
use Rattle.network_defs.specs.session_defs.Octets as octets
use Rattle.network_defs.specs.session_defs.Octets.{OctetNetwork, OctetAct, with_step, all_taken, octet_run}
use Rattle.network_defs.specs.session_defs.Refined.{AreLines}
use Rattle.network_defs.specs.session_defs.System.{Behind, with_earlier}
use Rattle.network_defs.specs.declared.session_defs.direction.Direction.{Direction}
use Rattle.network_defs.proofs.session_defs.Runs.{run_refined_while}
use Rattle.network_defs.specs.edge_defs.Steps as steps
use Rattle.network_defs.specs.Acts.{Act, Tick, Timers, Move, Lose, Notice, RaiseFirst, RaiseSecond, Restart, At, Enter, Land, Drop, Tell, SetCost, Reroute, Acted, with_network, at_node, is_of_session, is_at, leads_to, is_from_peer, with_aged, act}
use Rattle.network_defs.specs.Counts.{direction}
use Rattle.network_defs.specs.Nodes.{Nodes}
use Rattle.network_defs.specs.System.{NodeCall, Own, Elapse, Reset, Price, Follow, system}
use Rattle.network_defs.specs.World.{World}
use Rattle.network_defs.proofs.Kept.{Gives, enter_keeps, land_keeps}
use Rattle.network_laws.specs.Sound.{Sound}
use Rattle.network_laws.specs.Honest.{IsCost, IsSoundCall, IsSoundNodeCall, SoundCall, sound_system}
use Rattle.network_laws.proofs.Nodes.{honest_nodes}

-- The nodes are sound, and the octets of each session that is joined are whole units.
abbrev pub Stays : Scenario → OctetNetwork Nodes → Type 0
Stays scenario network = Sound scenario network.state × ((pending : Direction → List SessionMessage) × AreLines network pending)

-- the same of a world
abbrev pub WorldStays : Scenario → World → Type 0
WorldStays scenario world = Stays scenario world.network

-- the network after acts, if there is one
abbrev StaysBehind : Scenario → Option (Behind (OctetNetwork Nodes)) → Type 0
StaysBehind scenario None = ⊤
StaysBehind scenario (Some new) = Stays scenario new.network

-- ---- rows of acts on octets

stays_after : (scenario : Scenario) (old : OctetNetwork Nodes) (acts : List (OctetAct (SoundCall scenario))) → Stays scenario old
    → StaysBehind scenario (octet_run (sound_system scenario) old acts)
stays_after scenario old acts stays = by (octet_run (sound_system scenario) old acts) refl
  where
    by : (o : Option (Behind (OctetNetwork Nodes))) → octet_run (sound_system scenario) old acts ≡ o → StaysBehind scenario o
    by None e = tt
    by (Some new) e =
        let run = run_refined_while (sound_system scenario) (Sound scenario) old stays.1.0 acts new (honest_nodes scenario) stays.1.1 stays.0 e in
        (run.1, (run.0.left, run.0.lines))

-- Messages are taken alike, whichever calls there are.
pub taken_alike : (scenario : Scenario) (over : Direction) (messages : List SessionMessage) (old : OctetNetwork Nodes)
    → all_taken (sound_system scenario) old over messages ≡ all_taken system old over messages
taken_alike scenario over [] old = refl
taken_alike scenario over (message ∷ more) old =
    by (λ next. taken_alike scenario over more next) (with_step old (system.taken over message old.state))
  where
    by : ((next : OctetNetwork Nodes) → all_taken (sound_system scenario) next over more ≡ all_taken system next over more)
        → (o : Option (Behind (OctetNetwork Nodes)))
        → (o >>? λ next. with_earlier next.puts (all_taken (sound_system scenario) next.network over more))
        ≡ (o >>? λ next. with_earlier next.puts (all_taken system next.network over more))
    by alike None = refl
    by alike (Some next) = ap (with_earlier next.puts) (alike next.network)

-- one act at a node
network_stays : (scenario : Scenario) (world : World) (before : List ReportLine) (found : Option (Behind (OctetNetwork Nodes))) (node : NodeId)
    → StaysBehind scenario found → Gives (WorldStays scenario) (with_network world before found node)
network_stays scenario world before None node h = tt
network_stays scenario world before (Some new) node h = h

move_stays : (scenario : Scenario) (old : OctetNetwork Nodes) (over : Direction) (count : ℕ) → Stays scenario old
    → StaysBehind scenario (octet_run system old (octets.Move over count ∷ []))
move_stays scenario old over count stays =
    let new = fed (front_of over.kind) (old.stream over) (take count (old.transit over)) in
    let left : OctetNetwork Nodes = record old {
      transit = λ other. if same_direction other over then drop count (old.transit over) else old.transit other;
      stream = λ other. if same_direction other over then record new { waiting = [] } else old.stream other;
    } in
    subst (StaysBehind scenario)
    (ap (λ (found : Option (Behind (OctetNetwork Nodes))). (if old.joined over then found else Some (record { network = old; puts = [] })) >>? λ next.
    with_earlier next.puts (Some (record { network = next.network; puts = [] }))) (taken_alike scenario over new.waiting left))
    (stays_after scenario old (octets.Move over count ∷ []) stays)

aged_stays : (scenario : Scenario) (found : Result Acted NodeId) → Gives (WorldStays scenario) found → Gives (WorldStays scenario) (with_aged found)
aged_stays scenario (Err node) h = tt
aged_stays scenario (Ok new) h = h

-- ---- acts

-- A sound act: its call is sound, and at a node of the scenario.
abbrev pub SoundAct : Scenario → Act → Type 0
SoundAct scenario (Timers n) = n.0 < length scenario.nodes
SoundAct scenario (Notice kind a b) = a.0 < length scenario.nodes
SoundAct scenario (RaiseFirst kind a b) = a.0 < length scenario.nodes
SoundAct scenario (RaiseSecond kind a b) = b.0 < length scenario.nodes
SoundAct scenario (SetCost a b cost) = IsCost cost
SoundAct scenario (Reroute n) = n.0 < length scenario.nodes
SoundAct scenario (At n call) = (n.0 < length scenario.nodes) × IsSoundCall call
SoundAct scenario other = Unit {0}

abbrev sound_call : (scenario : Scenario) (call : NodeCall) → IsSoundNodeCall scenario call → OctetAct (SoundCall scenario)
sound_call scenario call sound = octets.Call (record { call = call; sound = sound })

pub act_stays : (scenario : Scenario) (one : Act) → SoundAct scenario one → (world : World) → WorldStays scenario world
    → Gives (WorldStays scenario) (act world one)
act_stays scenario (Tick ticks) sound world s =
    aged_stays scenario (at_node world (record { 0 = 0 }) [] (octets.Call (Elapse ticks) ∷ []))
    (network_stays scenario world [] (octet_run system world.network (octets.Call (Elapse ticks) ∷ [])) (record { 0 = 0 })
    (stays_after scenario world.network (sound_call scenario (Elapse ticks) tt ∷ []) s))
act_stays scenario (Timers n) sound world s =
    network_stays scenario world [] (octet_run system world.network (octets.Call (Own n steps.Timers) ∷ [])) n
    (stays_after scenario world.network (sound_call scenario (Own n steps.Timers) (sound, tt) ∷ []) s)
act_stays scenario (Move kind from to count) sound world s =
    network_stays scenario world (lines.Take kind from to (take count (world.network.transit (direction kind from to))) ∷ [])
    (octet_run system world.network (octets.Move (direction kind from to) count ∷ [])) to
    (move_stays scenario world.network (direction kind from to) count s)
act_stays scenario (Lose kind a b) sound world s =
    network_stays scenario world [] (octet_run system world.network (octets.Lose (is_of_session kind a b) ∷ [])) a
    (stays_after scenario world.network (octets.Lose (is_of_session kind a b) ∷ []) s)
act_stays scenario (Notice kind a b) sound world s =
    network_stays scenario world [] (octet_run system world.network
    (octets.Forget (is_from_peer kind a b) ∷ octets.Call (Own a (steps.Noticed kind b)) ∷ [])) a
    (stays_after scenario world.network (octets.Forget (is_from_peer kind a b) ∷ sound_call scenario (Own a (steps.Noticed kind b)) (sound, tt) ∷ [])
    s)
act_stays scenario (RaiseFirst kind a b) sound world s =
    network_stays scenario world [] (octet_run system world.network
    (octets.Join (is_of_session kind a b) ∷ octets.Call (Own a (steps.Raised kind b)) ∷ [])) a
    (stays_after scenario world.network (octets.Join (is_of_session kind a b) ∷ sound_call scenario (Own a (steps.Raised kind b)) (sound, tt) ∷ [])
    s)
act_stays scenario (RaiseSecond kind a b) sound world s =
    network_stays scenario world [] (octet_run system world.network (octets.Call (Own b (steps.Raised kind a)) ∷ [])) b
    (stays_after scenario world.network (sound_call scenario (Own b (steps.Raised kind a)) (sound, tt) ∷ []) s)
act_stays scenario (Restart n) sound world s =
    network_stays scenario world [] (octet_run system world.network (octets.Lose (is_at n) ∷ octets.Forget (leads_to n) ∷ octets.Call (Reset n) ∷ []))
    n
    (stays_after scenario world.network (octets.Lose (is_at n) ∷ octets.Forget (leads_to n) ∷ sound_call scenario (Reset n) tt ∷ []) s)
act_stays scenario (At n call) sound world s =
    network_stays scenario world [] (octet_run system world.network (octets.Call (Own n call) ∷ [])) n
    (stays_after scenario world.network (sound_call scenario (Own n call) sound ∷ []) s)
act_stays scenario (Enter vrf) sound world s = enter_keeps (Stays scenario) world vrf s
act_stays scenario (Land from to place) sound world s = land_keeps (Stays scenario) world from to place s
act_stays scenario (Drop from to place) sound world s = s
act_stays scenario Tell sound world s = s
act_stays scenario (SetCost a b cost) sound world s =
    network_stays scenario world [] (octet_run system world.network (octets.Call (Price a b cost) ∷ [])) a
    (stays_after scenario world.network (sound_call scenario (Price a b cost) sound ∷ []) s)
act_stays scenario (Reroute n) sound world s =
    network_stays scenario world [] (octet_run system world.network (octets.Call (Follow n) ∷ [])) n
    (stays_after scenario world.network (sound_call scenario (Follow n) sound ∷ []) s)
