-- Datagrams that enter at a node of the control plane.
use Rattle.std.proofs.Common.{◌≡◌, ◌∙◌, refl, sym, ap, subst, arith, ℕ, zero, suc, ◌+◌, ◌==◌, ◌||◌, inl, inr, Bool, true, false, cond, eq-eqb, List, [], ◌∷◌, slice_get, Option, Some, None}
use Rattle.std.specs.List.{list_any}
use Rattle.std.proofs.lemmas.Option.{none-some, same_Some}
use Rattle.mv_base.specs.Lists.{Among}
use Rattle.mv_base.specs.core_walks.Topology.{Topology}
use Rattle.mv_base.specs.declared.addr.Addr.{Addr}
use Rattle.mv_base.specs.declared.ids.NodeId.{NodeId}
use Rattle.mv_base.specs.declared.ids.SiteId.{SiteId}
use Rattle.mv_base.specs.declared.ids.VrfId.{VrfId}
use Rattle.scenario_defs.specs.Rules.{IsEdge, Rules}
use Rattle.scenario_defs.proofs.RuleLemmas.{vrf_rules_at}
use Rattle.scenario_defs.specs.declared.scenario.Node.{Node}
use Rattle.scenario_defs.specs.declared.scenario.Scenario.{Scenario}
use Rattle.scenario_defs.specs.declared.scenario.Vrf.{Vrf}
use Rattle.edge_defs.specs.Datagrams.{entering_fate}
use Rattle.edge_defs.specs.Edge.{EdgeData}
use Rattle.edge_defs.specs.Place.{OwnVrf, own_vrfs, vrfs_from}
use Rattle.network_nodes.specs.wire_laws.edge_routes.edge_home.Home.{Home}
use Rattle.network_defs.specs.Nodes as world
use Rattle.network_defs.specs.Nodes.{NodeState, Nodes, place_of}
use Rattle.network_nodes.specs.Answers.{Stands}
use Rattle.network_nodes.specs.Edges.{data_of}
use Rattle.network_nodes.specs.NodeView.{HasVrf, IsPlacedAt, count_around, data_in, spent_in}
use Rattle.network_nodes.specs.declared.node.NetworkNode.{NetworkNode}
use Rattle.network_nodes.specs.declared.node.NetworkNode.TheVariants as nodes
use Rattle.network_acts.specs.control_plane.Acted.{IsCurrent, IsIn, IsSome, IsWithin, Standing}
use Rattle.network_acts.specs.control_plane.PlaneView.{PlaneView}
use Rattle.network_acts.specs.control_plane.Queries.{Fate, IsEdgeOf, IsFate, IsNodeThere, landing_fate}
use Rattle.network_acts.proofs.control_plane.MidLemmas.{stands_in}
use Rattle.network_acts.proofs.control_plane.OwnLemmas.{counted}
use Rattle.network_acts.proofs.control_plane.QueryLemmas.{there}

-- ---- the VRFs of an edge

-- a VRF of the scenario is among those of its edge
pub own_among : (me : NodeId) (number place : ℕ) (vrfs : List Vrf) (vrf : Vrf) (id : VrfId) → slice_get vrfs place ≡ Some vrf → vrf.edge ≡ me
    → id.0 ≡ number + place
    → Among (record { id = id; vrf = vrf }) (vrfs_from me number vrfs)
own_among me number place [] vrf id at edge is = absurd (none-some vrf at)
own_among me number zero (first ∷ more) vrf id at edge is =
    let same : first ≡ vrf = same_Some first vrf at in
    let mine : (first.edge.0 == me.0) ≡ true = eq-eqb first.edge.0 me.0 (ap (λ (v : Vrf). v.edge.0) same ∙ ap (λ (m : NodeId). m.0) edge) in
    let numbered : id.0 ≡ number = omega (arith, is) in
    let rest = vrfs_from me (number + 1) more in
    subst (λ (b : Bool). Among (record { id = id; vrf = vrf }) (cond b (record { id = record { 0 = number }; vrf = first } ∷ rest) rest)) (sym mine)
    (inl (λ i. record { id = record { 0 = numbered i }; vrf = sym same i }))
own_among me number (suc place) (first ∷ more) vrf id at edge is =
    by (first.edge.0 == me.0) (own_among me (number + 1) place more vrf id at edge (omega (arith, is)))
  where
    by : (b : Bool) → Among (record { id = id; vrf = vrf }) (vrfs_from me (number + 1) more)
        → Among (record { id = id; vrf = vrf }) (cond b (record { id = record { 0 = number }; vrf = first } ∷ vrfs_from me (number + 1) more)
        (vrfs_from me (number + 1) more))
    by true later = inr later
    by false later = later

any_of : (test : OwnVrf → Bool) (own : OwnVrf) (all : List OwnVrf) → Among own all → test own ≡ true → list_any test all ≡ true
any_of test own [] a passes = absurd a
any_of test own (first ∷ more) (inl same) passes = ap (λ (b : Bool). b || list_any test more) (ap test (sym same) ∙ passes)
any_of test own (first ∷ more) (inr later) passes = by (test first) (any_of test own more later passes)
  where
    by : (b : Bool) → list_any test more ≡ true → (b || list_any test more) ≡ true
    by true rest = refl
    by false rest = rest

abbrev edge_or : Option Node → Bool
edge_or None = false
edge_or (Some node) = node.edge

-- the node of a VRF's edge has the VRF
pub vrf_there : (scenario : Scenario) (n : NodeId) (vrf : Vrf) (id : VrfId) (node : NetworkNode) → IsEdge scenario vrf.edge
    → slice_get scenario.vrfs id.0 ≡ Some vrf → vrf.edge ≡ n → IsPlacedAt scenario n node
    → HasVrf node id
vrf_there scenario n vrf id (nodes.Edge edge) is_edge at own placed =
    subst (λ (h : Home). list_any (λ (o : OwnVrf). o.id.0 == id.0) (vrfs_from h.me 0 h.scenario.vrfs) ≡ true) (sym placed.0)
    (any_of (λ o. o.id.0 == id.0) (record { id = id; vrf = vrf }) (vrfs_from n 0 scenario.vrfs)
    (own_among n 0 id.0 scenario.vrfs vrf id at own (omega arith)) (eq-eqb id.0 id.0 refl))
vrf_there scenario n vrf id (nodes.CoreNode core) is_edge at own placed =
    absurd (let t : true ≡ false =
    sym is_edge.edge ∙ (ap edge_or (sym is_edge.at) ∙ (ap (λ (m : NodeId). world.is_edge scenario m) own ∙ placed.1)) in cc)

-- ---- at a node of the plane

module _ (n : NodeId) (vrf : VrfId) (plane : PlaneView) where
  has_own : (node : NetworkNode) (at : Standing) → IsEdgeOf vrf n at → IsIn at plane → IsNodeThere at n node → HasVrf node vrf
  has_own node at own is stands =
      let rules : Rules at.scenario = subst Rules is.around.scenario_is is.around.steady.sound.lines.rules in
      let placed : IsPlacedAt at.scenario n node = subst (λ (s : Scenario). IsPlacedAt s n node) is.around.scenario_is stands.placed in
      vrf_there at.scenario n own.vrf vrf node (vrf_rules_at at.scenario rules vrf.0 own.vrf own.stands).edge own.stands own.edge placed

  -- the VRF is one of the node
  pub vrf_here : (node : NetworkNode) → IsSome (IsEdgeOf vrf n) plane → ((at : Standing) → IsWithin n at → IsIn at plane → IsNodeThere at n node)
      → HasVrf node vrf
  vrf_here node (at, own, is) stands = has_own node at own is (stands at own.current.within is)

  -- which is an edge
  pub edge_here : (at : Standing) → IsEdgeOf vrf n at → IsIn at plane → (edge : EdgeData) × (at.network.state.node n ≡ world.Edge edge)
  edge_here at own is =
      let has = is.nodes n own.current.within in
      let stands = there at n plane has.node own.current.within is has.at in
      by has.node stands.keeps (has_own has.node at own is stands)
    where
      by : (node : NetworkNode) → at.network.state.node n ≡ data_in node → HasVrf node vrf
          → (edge : EdgeData) × (at.network.state.node n ≡ world.Edge edge)
      by (nodes.Edge edge) keeps has = (data_of edge, keeps)
      by (nodes.CoreNode core) keeps has = absurd has

  pub own_here : (at : Standing) (own : IsEdgeOf vrf n at) → IsIn at plane
      → Among (record { id = vrf; vrf = own.vrf }) (own_vrfs (place_of at.network.state n))
  own_here at own is =
      own_among n 0 vrf.0 at.network.state.scenario.vrfs own.vrf vrf
      (ap (λ (s : Scenario). slice_get s.vrfs vrf.0) is.around.scenario_is ∙ own.stands) own.edge (omega arith)

-- ---- where datagrams go

-- the node that stands there, as the caller has it
module _ (n : NodeId) (plane seen : PlaneView) (view : plane ≡ seen) (node : NetworkNode)
    (stands : (at : Standing) → IsWithin n at → IsIn at seen → IsNodeThere at n node) where
  in_own : (at : Standing) → IsIn at seen → IsIn at plane
  in_own at is = subst (IsIn at) (sym view) is

  -- it knows a core of so many nodes
  pub count_there : (Fits : Standing → Type 0) → ((at : Standing) → Fits at → IsWithin n at) → IsSome Fits seen
      → plane.core.nodes ≡ count_around node
  count_there Fits below (at, fits, is) =
      let around = (in_own at is).around in
      ap (λ (t : Topology). t.nodes) around.core
      ∙ counted at.scenario n node (subst (λ (s : Scenario). IsPlacedAt s n node) around.scenario_is (stands at (below at fits) is).placed)

  stands_now : (at : Standing) → IsCurrent n at → IsIn at seen → Stands at.network.state n plane.core plane.clock node
  stands_now at current is =
      let around = (in_own at is).around in
      stands_in at.scenario at.cores at.moment n at.network plane node around (around.known n current.within current.current)
      (stands at current.within is).placed

  pub enters_there : (vrf : VrfId) (site : SiteId) (source group : Addr) (fate : Fate)
      → ((network : Nodes) (m : NodeId) → Stands network m plane.core plane.clock node → (own : OwnVrf)
      → Among own (own_vrfs (place_of network m)) → own.id ≡ vrf → (edge : EdgeData) → data_in node ≡ world.Edge edge
      → IsFate (entering_fate (place_of network m) network.clock edge own site source group) fate)
      → (at : Standing) (own : IsEdgeOf vrf n at) → IsIn at seen → (edge : EdgeData) → at.network.state.node n ≡ world.Edge edge
      → IsFate (entering_fate (place_of at.network.state n) at.network.state.clock edge (record { id = vrf; vrf = own.vrf }) site source group) fate
  enters_there vrf site source group fate enters at own is edge e =
      enters at.network.state n (stands_now at own.current is) (record { id = vrf; vrf = own.vrf }) (own_here n vrf plane at own (in_own at is)) refl
      edge (sym (stands at own.current.within is).keeps ∙ e)

  pub arrives_there : (from : NodeId) (label : ℕ) (source group : Addr) (fate : Fate)
      → (spent_in node ≡ None → (network : Nodes) (m : NodeId) → Stands network m plane.core plane.clock node
      → IsFate (landing_fate network m (data_in node) from label source group) fate)
      → (at : Standing) → IsCurrent n at → IsIn at seen
      → IsFate (landing_fate at.network.state n (at.network.state.node n) from label source group) fate
  arrives_there from label source group fate arrives at current is =
      let own = stands at current.within is in
      subst (λ (s : NodeState). IsFate (landing_fate at.network.state n s from label source group) fate) (sym own.keeps)
      (arrives own.unspent at.network.state n (stands_now at current is))
