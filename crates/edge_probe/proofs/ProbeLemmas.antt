-- What is reported of an edge that was given all lines.
use Rattle.std.proofs.Common.{◌≡◌, ◌≢◌, ℕ, zero, suc, ◌+◌, ◌<◌, ◌==◌, ◌&&◌, not, Bool, true, false, cond, List, [], ◌∷◌, length, Option, Some, None, inl, inr, sym, ap, subst, ◌∙◌, arith}
use Rattle.std.proofs.lemmas.Bool.{ne_eqb}
use Rattle.std.proofs.lemmas.List.Elements.{recursion_from_All}
use Rattle.std.proofs.lemmas.Option.{same_Some}
use Rattle.std.specs.Prelude.{slice_get}
use Rattle.mv_base.specs.Lists.{Among}
use Rattle.mv_base.specs.Octets.{IsOctets}
use Rattle.mv_base.specs.core_walks.Core.{Core, IsCoreOf}
use Rattle.mv_base.specs.core_walks.Topology.{HasCost, IsConnected, IsFirstUnreached, Topology}
use Rattle.mv_base.specs.core_walks.Walks.{Reaches}
use Rattle.mv_base.specs.declared.core_link.Link.{Link}
use Rattle.mv_base.specs.declared.ids.NodeId.{NodeId}
use Rattle.bgp_messages.specs.declared.bgp_attributes.fault.StreamFault.{StreamFault}
use Rattle.bgp_messages.specs.declared.bgp_attributes.update.Message.{Message}
use Rattle.label_defs.specs.Members.{in_order}
use Rattle.label_defs.specs.mldp.declared.mldp_fec.fec.Fec.{Fec}
use Rattle.scenario_defs.specs.Rules.{Rules}
use Rattle.scenario_defs.specs.declared.scenario.Node.{Node}
use Rattle.scenario_defs.specs.declared.scenario.Scenario.{Scenario}
use Rattle.edge_defs.specs.Edge.{Control}
use Rattle.edge_defs.specs.Keys.{Table}
use Rattle.edge_defs.specs.Tunnels.{leaves}
use Rattle.edge_routes.specs.edge_home.Home.{Home, peers_from, peers_of, place_of}
use Rattle.edge_routes.specs.edge_home.Home as homes
use Rattle.network_defs.specs.Costs.{AreCoresOf, Cores}
use Rattle.network_defs.specs.node_defs.EdgeState.{fresh_state}
use Rattle.network_defs.proofs.CostLemmas.{repriced_itself}
use Rattle.edge_core.specs.State.{IsIn, data_of, home_of}
use Rattle.edge_core.specs.View.{EdgeView}
use Rattle.probe_defs.specs.Given.{fault_in, messages_in}
use Rattle.probe_defs.specs.Lines.{IsProbe, joins_of, octets_of}
use Rattle.probe_defs.specs.Probed.{Probed, Yield, imports_of, table_of, wants_of}
use Rattle.probe_defs.specs.Imports.{Import}
use Rattle.probe_defs.specs.declared.probe.ProbeLine.{ProbeLine}
use Rattle.edge_probe.specs.Behind.{AreLinesAt, IsFresh, IsTold}
use Rattle.edge_probe.proofs.GivenLemmas.{control_at}

-- ---- the core

-- each node of a scenario is reached
pub is_reached : (scenario : Scenario) (count : ℕ) (links : List Link) (node : NodeId) → IsConnected (length scenario.nodes) scenario.links
    → count ≡ length scenario.nodes → links ≡ scenario.links
    → IsFirstUnreached count links node.0 → ⊥
is_reached scenario count links node connected count_is links_are first =
    first.unreached (subst (λ (l : List Link). Reaches l 0 node.0) (sym links_are)
    (connected node.0 (subst (λ (c : ℕ). node.0 < c) count_is first.within)))

pub is_told : (scenario : Scenario) → Rules scenario → ((s : Scenario) → Rules s → (cores : Cores) × AreCoresOf s cores)
    → (core : Core) × IsCoreOf (length scenario.nodes) scenario.links core
is_told scenario rules each =
    let own = each scenario rules in (
      own.0 scenario.links,
      own.1.core scenario.links
          (repriced_itself scenario.links (recursion_from_All HasCost scenario.links rules.core.topology.costs)),
    )

pub is_fresh : (scenario : Scenario) (me : NodeId) (core : Topology) (own : EdgeView) → Rules scenario
    → ((s : Scenario) → Rules s → (cores : Cores) × AreCoresOf s cores)
    → core ≡ record { nodes = length scenario.nodes; links = scenario.links } → home_of own ≡ homes.home_of scenario me → own.spent ≡ None
    → IsIn (fresh_state scenario.labels) own → IsFresh core own
is_fresh scenario me core own rules each core_is home unspent is =
    let same : (home_of own).scenario ≡ scenario = ap (λ (h : Home). h.scenario) home in
    let nodes : core.nodes ≡ length scenario.nodes = ap (λ (t : Topology). t.nodes) core_is in
    let links : core.links ≡ scenario.links = ap (λ (t : Topology). t.links) core_is in
    let t = is_told scenario rules each in
    record {
      in_core = record {
        rules = subst Rules (sym same) rules;
        nodes = nodes ∙ ap (λ (s : Scenario). length s.nodes) (sym same);
        links = links ∙ ap (λ (s : Scenario). s.links) (sym same);
        told = (
          t.0,
          subst (λ (n : ℕ). IsCoreOf n core.links t.0) (sym nodes)
              (subst (λ (ls : List Link). IsCoreOf (length scenario.nodes) ls t.0) (sym links) t.1),
        );
      };
      unspent = unspent;
      is = subst (λ (s : Scenario). IsIn (fresh_state s.labels) own) (sym same) is;
    }

-- ---- the peer is one of the edge's

among_peers : (me : NodeId) (number : ℕ) (nodes : List Node) (i : ℕ) (node : Node) → slice_get nodes i ≡ Some node → node.edge ≡ true
    → number + i ≢ me.0 → Among (record { 0 = number + i }) (peers_from me number nodes)
among_peers me number [] i node e edge ne = absurd cc
among_peers me number (first ∷ more) zero node e edge ne =
    let here : number + 0 ≡ number = omega arith in
    by first.edge (number == me.0) (ap (λ (n : Node). n.edge) (same_Some first node e) ∙ edge) (ne_eqb number me.0 (λ is. ne (here ∙ is))) here
  where
    by : (is own : Bool) → is ≡ true → own ≡ false → number + 0 ≡ number
        → Among (record { 0 = number + 0 }) (cond (is && not own) (record { 0 = number } ∷ peers_from me (number + 1) more)
        (peers_from me (number + 1) more))
    by true false e f here = inl (ap (λ (n : ℕ). record { 0 = n }) here)
    by true true e f here = absurd cc
    by false own e f here = absurd cc
among_peers me number (first ∷ more) (suc i) node e edge ne =
    let at : number + 1 + i ≡ number + suc i = omega arith in
    by (first.edge && not (number == me.0)) (subst (λ (n : ℕ). Among (record { 0 = n }) (peers_from me (number + 1) more)) at
    (among_peers me (number + 1) more i node e edge (λ is. ne (sym at ∙ is))))
  where
    by : (b : Bool) → Among (record { 0 = number + suc i }) (peers_from me (number + 1) more)
        → Among (record { 0 = number + suc i }) (cond b (record { 0 = number } ∷ peers_from me (number + 1) more) (peers_from me (number + 1) more))
    by true a = inr a
    by false a = a

pub is_peer : (scenario : Scenario) (edge peer : NodeId) (lines : List ProbeLine) (home : Home) → IsProbe scenario edge peer lines
    → home ≡ homes.home_of scenario edge → Among peer (peers_of home)
is_peer scenario edge peer lines home asked same =
    let p = asked.peer_is in
    let at : 0 + peer.0 ≡ peer.0 = omega arith in
    subst (λ (h : Home). Among peer (peers_of h)) (sym same)
    (subst (λ (n : ℕ). Among (record { 0 = n }) (peers_from edge 0 scenario.nodes)) at
    (among_peers edge 0 scenario.nodes peer.0 p.node p.at p.edge (λ e. asked.two (sym e ∙ at))))

pub are_lines : (scenario : Scenario) (edge peer : NodeId) (lines : List ProbeLine) (home : Home) → IsProbe scenario edge peer lines
    → home ≡ homes.home_of scenario edge → AreLinesAt home lines
are_lines scenario edge peer lines home asked same =
    subst (λ (h : Home). AreLinesAt h lines) (sym same) (record { each = asked.each; few = asked.few })

-- ---- the report

module _ (core : Topology) (peer : NodeId) (lines : List ProbeLine) (own : EdgeView) (scenario : Scenario) (edge : NodeId)
    (home : home_of own ≡ homes.home_of scenario edge) (fault : Option (ℕ × StreamFault)) (told : IsTold core peer lines fault own) where
  abbrev messages : List Message
  messages = messages_in (octets_of lines)

  abbrev table : Table
  table = table_of messages

  core_is : (walks : Core) → IsCoreOf (length scenario.nodes) scenario.links walks → IsCoreOf core.nodes core.links walks
  core_is walks is =
      let in_core = told.given.in_core in
      let nodes : core.nodes ≡ length scenario.nodes = in_core.nodes ∙ ap (λ (h : Home). length h.scenario.nodes) home in
      let links : core.links ≡ scenario.links = in_core.links ∙ ap (λ (h : Home). h.scenario.links) home in
      subst (λ (n : ℕ). IsCoreOf n core.links walks) (sym nodes)
      (subst (λ (ls : List Link). IsCoreOf (length scenario.nodes) ls walks) (sym links) is)

  pub is_probed : (imports : List Import) (wants : List Fec)
      → ((octets : List ℕ) → IsOctets octets → Yield octets (messages_in octets) (fault_in octets)) → imports ≡ imports_of scenario edge table
      → ((walks : Core) → wants ≡ in_order (leaves (place_of (home_of own) walks) (data_of own).control))
      → Probed scenario edge peer lines (record { imports = imports; wants = wants; fault = fault })
  is_probed imports wants yields takes wanted = record {
    messages = messages;
    yields = subst (λ (f : Option (ℕ × StreamFault)). Yield (octets_of lines) messages f) (sym told.fault_is)
        (yields (octets_of lines) told.given.octets);
    imports = takes;
    wants = λ walks is.
        wanted walks
        ∙ ap (λ (control : Control). in_order (leaves (place_of (home_of own) walks) control))
        (control_at core peer lines own told.given walks (core_is walks is))
        ∙ ap (λ (h : Home). wants_of (place_of h walks) peer table (joins_of lines)) home;
  }
