-- What is known after a run up to a line of zeros.
use Rattle.std.proofs.Common.{◌≡◌, ◌<◌, ◌≤◌, ◌++◌, Bool, true, false, ◌&&◌, cond, List, [], length, slice_get, Some, None, refl, sym, ap, subst}
use Rattle.std.specs.FinSet as sets
use Rattle.std.proofs.lemmas.Option.{same_Some, none-some, slice_get_within}
use Rattle.mv_base.specs.declared.ids.NodeId.{NodeId}
use Rattle.mv_base.specs.declared.ids.VrfId.{VrfId}
use Rattle.mldp.specs.declared.mldp_fec.fec.Fec.{Fec}
use Rattle.scenario_defs.proofs.RuleLemmas.{vrf_rules_at}
use Rattle.scenario_defs.specs.Rules.{Rules}
use Rattle.scenario_defs.specs.declared.event.Script.{Script}
use Rattle.scenario_defs.specs.declared.event.Timed.{Timed}
use Rattle.scenario_defs.specs.declared.scenario.Scenario.{Scenario}
use Rattle.scenario_defs.specs.declared.scenario.Vrf.{Vrf}
use Rattle.network_defs.specs.declared.session_defs.direction.Direction.{Direction}
use Rattle.edge_defs.specs.Datagrams.{is_from_site}
use Rattle.edge_defs.specs.Place.{OwnVrf, addr_of}
use Rattle.network_defs.specs.Costs.{Cores}
use Rattle.edge_defs.specs.Tunnels.{is_joined_in, transmit_tunnel}
use Rattle.edge_defs.specs.Upstream.{upstream_for}
use Rattle.network_defs.specs.Nodes.{Nodes, NodeState, Edge, CoreNode, place_of, part_of}
use Rattle.network_defs.specs.Run.{Traced}
use Rattle.network_defs.specs.World.{World, Datagram, scenario_of}
use Rattle.network_laws.specs.Costs.{KnowCosts}
use Rattle.network_laws.specs.Sound.{IsBare, HasOctets}
use Rattle.network_laws.proofs.KnownCosts.{run_known}
use Rattle.rule_laws.proofs.Acts.{InStep}
use Rattle.rule_laws.proofs.Start.{run_in_step}
use Rattle.delivery_laws.specs.Calm.{CalmTree}
use Rattle.delivery_laws.specs.Choice.{sends_on}
use Rattle.delivery_laws.specs.Flood.{OnLinks}
use Rattle.delivery_laws.specs.Labels.{CalmLabels}
use Rattle.delivery_laws.proofs.Labels.{calm_tree}
use Rattle.delivery_laws.proofs.OnceLemmas.{copies_sound}
use Rattle.once_laws.specs.Facts.{NodeFact, NodesFact}
use Rattle.once_laws.specs.Run.{CalmRun}
use Rattle.once_laws.specs.Zeros.{Zeros}
use Rattle.once_laws.proofs.CalmLabels.{calm_labels}
use Rattle.once_laws.proofs.Facts.{run_facts}
use Rattle.once_laws.proofs.Rests.{Rests}
use Rattle.once_laws.proofs.Zeros.{zeros_of}

-- all that is kept, at a line of zeros
pub record Known (scenario : Scenario) (cores : Cores) (world : World) : Type 0 where
  pub rules : Rules (scenario_of world)
  pub octets : HasOctets (scenario_of world)
  pub costs : KnowCosts (scenario_of world) world.network.state.cores world.network.state
  pub step : InStep scenario world
  pub facts : NodesFact scenario world.network.state
  pub rests : (over : Direction) → Rests over.kind (world.network.stream over)
  pub links : OnLinks world.network
  pub zeros : Zeros world

known_costs : (scenario : Scenario) (cores : Cores) (nodes : Nodes) → nodes.scenario ≡ scenario → KnowCosts scenario cores nodes
    → KnowCosts nodes.scenario nodes.cores nodes
known_costs scenario cores nodes same k =
    subst (λ (s : Scenario). KnowCosts s nodes.cores nodes) (sym same)
    (record { cores_are = refl; links = k.links; present = k.present; core = k.core })

pub known_of : (cores : Cores) (script : Script) (events : List Timed) (trace : List Traced) (world : World) → CalmRun cores script events trace world
    → Known script.scenario cores world
known_of cores script events trace world c =
    let f = run_facts script.scenario cores events trace world c.sound.run in
    record {
      rules = subst Rules (sym f.0.same) c.sound.scenario.rules;
      octets = subst HasOctets (sym f.0.same) c.sound.scenario.octets;
      costs = known_costs script.scenario cores world.network.state f.0.same (run_known script cores events trace world c.sound);
      step = run_in_step script.scenario cores events trace world c.sound.scenario c.sound.sound_events c.sound.run;
      facts = f.0;
      rests = f.1;
      links = (copies_sound cores script events trace world c.sound.scenario.rules c.sound.run).0;
      zeros = zeros_of world c.zeros;
    }

leafless : (scenario : Scenario) (cores : Cores) (world : World) → Known scenario cores world → (n : NodeId) → length (scenario_of world).nodes ≤ n.0
    → (fec : Fec) → sets.contains (part_of (world.network.state.node n)).leaves fec ≡ false
leafless scenario cores world k n out fec =
    by (world.network.state.node n) (k.step.2.base.sound.outside n (subst (λ (s : Scenario). length s.nodes ≤ n.0) k.facts.same out)) (k.facts.node n)
  where
    by : (state : NodeState) → IsBare state → NodeFact (place_of world.network.state n) world.network.state.clock state
        → sets.contains (part_of state).leaves fec ≡ false
    by (Edge edge) bare fact = absurd bare
    by (CoreNode part) bare fact = fact fec

-- the labels of a tree of a node are calm
pub labels_calm : (scenario : Scenario) (cores : Cores) (world : World) → Known scenario cores world → (root : NodeId)
    → root.0 < length (scenario_of world).nodes → (fec : Fec) → fec.root ≡ addr_of (scenario_of world) root → CalmLabels world.network fec root
labels_calm scenario cores world k root within fec rooted =
    calm_labels world k.rules k.costs (world.datagrams ++ []) k.step.0 k.step.1 (k.step.2.kept []) k.rests k.links k.zeros
    (leafless scenario cores world k) root within fec rooted

-- a tunnel on which a datagram goes is a tree
sent_root : (world : World) (datagram : Datagram) (own : OwnVrf) (state : NodeState) (fec : Fec)
    → sends_on world.network datagram own state ≡ Some fec → fec.root ≡ addr_of (scenario_of world) own.vrf.edge
sent_root world datagram own (CoreNode part) fec e = absurd (none-some fec e)
sent_root world datagram own (Edge edge) fec e =
    by (is_from_site datagram.site (upstream_for (place_of world.network.state own.vrf.edge) edge.control own datagram.source datagram.group)
    && is_joined_in (place_of world.network.state own.vrf.edge) edge.control own datagram.source datagram.group) e
  where
    tunnel : Fec
    tunnel = transmit_tunnel (place_of world.network.state own.vrf.edge) edge.control own datagram.source datagram.group

    by : (b : Bool) → cond b (Some (transmit_tunnel (place_of world.network.state own.vrf.edge) edge.control own datagram.source datagram.group)) None
        ≡ Some fec → fec.root ≡ addr_of (scenario_of world) own.vrf.edge
    by true h =
        ap (λ (f : Fec). f.root) (sym (same_Some (transmit_tunnel (place_of world.network.state own.vrf.edge) edge.control own datagram.source
        datagram.group) fec h))
    by false h = absurd (none-some fec h)

pub vrf_within : (scenario : Scenario) → Rules scenario → (id : VrfId) (vrf : Vrf) → slice_get scenario.vrfs id.0 ≡ Some vrf
    → vrf.edge.0 < length scenario.nodes
vrf_within scenario rules id vrf known =
    (let edge = (vrf_rules_at scenario rules id.0 vrf known).edge in slice_get_within scenario.nodes vrf.edge.0 edge.node edge.at)

pub trees_calm : (cores : Cores) (script : Script) (events : List Timed) (trace : List Traced) (world : World)
    → CalmRun cores script events trace world → (datagram : Datagram) (id : VrfId) (vrf : Vrf) (fec : Fec)
    → slice_get (scenario_of world).vrfs id.0 ≡ Some vrf
    → sends_on world.network datagram (record { id = id; vrf = vrf }) (world.network.state.node vrf.edge) ≡ Some fec
    → CalmTree world.network fec vrf.edge
trees_calm cores script events trace world c datagram id vrf fec known sends =
    let k = known_of cores script events trace world c in
    calm_tree world.network fec vrf.edge
    (labels_calm script.scenario cores world k vrf.edge (vrf_within (scenario_of world) k.rules id vrf known) fec
    (sent_root world datagram (record { id = id; vrf = vrf }) (world.network.state.node vrf.edge) fec sends))
