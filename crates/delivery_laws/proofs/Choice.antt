-- A flow is calm where its tunnels are trees and each receiver is served once.
use Rattle.std.proofs.Common.{◌≡◌, ◌≢◌, ℕ, suc, ◌+◌, Bool, true, false, ◌&&◌, List, [], ◌∷◌, Option, None, Some, refl, sym, ap, subst, inl, inr, ◌⊎◌, ◌∙◌, arith}
use Rattle.std.specs.Prelude.{◌==◌, slice_get, option_map, if◌then◌else◌}
use Rattle.std.specs.List.{AllByRecursion}
use Rattle.std.proofs.lemmas.Bool.{cases_Bool, cond_both, cond-true, cond-false, eqb-true, eq-eqb, and_parts, true≢false, false_from_ne_true}
use Rattle.mv_base.specs.declared.ids.IfaceId.{IfaceId}
use Rattle.mv_base.specs.declared.ids.NodeId.{NodeId}
use Rattle.mv_base.specs.declared.ids.SiteId.{SiteId}
use Rattle.mv_base.specs.declared.ids.VrfId.{VrfId}
use Rattle.mldp.specs.declared.mldp_fec.fec.Fec.{Fec}
use Rattle.label_defs.specs.declared.branch.Branch.{Branch}
use Rattle.label_defs.specs.LabelData.{branches_of}
use Rattle.label_defs.proofs.KeyLemmas.{node_equal}
use Rattle.scenario_defs.specs.Vpn.{is_of_vrf, is_attached_at, edge_of, entered_from, entered}
use Rattle.scenario_defs.specs.declared.scenario.Iface.{Iface}
use Rattle.scenario_defs.specs.declared.scenario.Scenario.{Scenario}
use Rattle.scenario_defs.specs.declared.scenario.Vrf.{Vrf}
use Rattle.network_defs.specs.session_defs.Octets.{OctetNetwork}
use Rattle.mvpn_model.specs.Past.{is_of_edge}
use Rattle.edge_defs.specs.Datagrams.{Fate, is_from_site, is_outside}
use Rattle.edge_defs.specs.Place.{OwnVrf}
use Rattle.edge_defs.specs.Tunnels.{transmit_tunnel, is_joined_in}
use Rattle.edge_defs.specs.Upstream.{upstream_for}
use Rattle.network_defs.specs.Nodes.{NodeState, Edge, CoreNode, Nodes, part_of, place_of}
use Rattle.network_defs.specs.World.{Datagram}
use Rattle.delivery_laws.specs.Flood.{fate_of_entry}
use Rattle.delivery_laws.specs.Calm.{branches_in, node_outs, outs_in_tree, is_among, CalmTree, CalmTunnel, CalmEntry, CalmFlow}
use Rattle.delivery_laws.specs.Leaving.{passes, is_iface_of_vrf, asks_at}
use Rattle.delivery_laws.specs.Choice.{serves_near, sends_on, serves_far, serves_at, serves_by, serves_from, is_served, CalmChoice}
use Rattle.delivery_laws.proofs.OutsTold.{arriving_told, entering_told, entering_branches}

-- the node of an interface
abbrev is_node : Option NodeId → NodeId → Bool
is_node o n = elim o [ None ↦ false | Some edge ↦ edge.0 == n.0 ]

-- an interface of the VRF is one of its edge
iface_of_edge : (scenario : Scenario) (iface : IfaceId) (id : VrfId) (vrf : Vrf) → slice_get scenario.vrfs id.0 ≡ Some vrf
    → is_iface_of_vrf scenario iface id ≡ true → is_of_edge scenario vrf.edge iface ≡ true
iface_of_edge scenario iface id vrf known is = by (slice_get scenario.ifaces iface.0) is
  where
    by : (o : Option Iface) → passes (is_of_vrf id) o ≡ true
        → is_node (elim o as (λ x. Option NodeId) [
          | None ↦ None
          | Some found ↦
              option_map (λ (v : Vrf). v.edge) (slice_get scenario.vrfs found.vrf.0)
        ]) vrf.edge ≡ true
    by None e = absurd (true≢false (sym e))
    by (Some found) e =
        ap (λ k. is_node (option_map (λ (v : Vrf). v.edge) (slice_get scenario.vrfs k)) vrf.edge) (eqb-true found.vrf.0 id.0 e)
        ∙ ap (λ (o : Option Vrf). is_node (option_map (λ (v : Vrf). v.edge) o) vrf.edge) known
        ∙ eq-eqb vrf.edge.0 vrf.edge.0 refl

module _ (network : OctetNetwork Nodes) (datagram : Datagram) (id : VrfId) (vrf : Vrf) (known : slice_get network.state.scenario.vrfs id.0 ≡ Some vrf)
  where
    abbrev own : OwnVrf
    own = record { id = id; vrf = vrf }

    abbrev root : NodeId
    root = vrf.edge

    abbrev fate : Fate
    fate = fate_of_entry network datagram id vrf (network.state.node root)

    -- the test, once the VRF is known
    served_is : (iface : IfaceId) → is_served network datagram iface id ≡ serves_by network datagram iface own (edge_of network.state.scenario iface)
    served_is iface = ap (serves_from network datagram iface id) known

    near_told : (iface : IfaceId) (node : NodeState)
        → is_among iface (fate_of_entry network datagram id vrf node).outs ≡ serves_near network datagram iface own node
    near_told iface (Edge edge) =
        entering_told (place_of network.state root) network.state.clock edge datagram.source datagram.group iface own datagram.site
    near_told iface (CoreNode part) = refl

    -- what is served near is an interface of the edge
    near_own : (iface : IfaceId) (node : NodeState) → is_of_edge network.state.scenario root iface ≡ false
        → serves_near network datagram iface own node ≡ false
    near_own iface (CoreNode part) f = refl
    near_own iface (Edge edge) f = false_from_ne_true (serves_near network datagram iface own (Edge edge)) (λ t.
        let place = place_of network.state root in
        let one =
        and_parts (is_from_site datagram.site (upstream_for place edge.control own datagram.source datagram.group))
        (asks_at place network.state.clock edge.control datagram.source datagram.group iface own && is_outside place.scenario datagram.site iface) t
        in
        let two =
        and_parts (asks_at place network.state.clock edge.control datagram.source datagram.group iface own)
        (is_outside place.scenario datagram.site iface) one.1 in
        let three = and_parts (is_iface_of_vrf network.state.scenario iface id) _ two.0 in
        true≢false (sym (iface_of_edge network.state.scenario iface id vrf known three.0) ∙ f))

    near : (iface : IfaceId) → is_among iface fate.outs ≡ (is_of_edge network.state.scenario root iface && is_served network datagram iface id)
    near iface =
        near_told iface (network.state.node root) ∙ by (edge_of network.state.scenario iface) refl
        ∙ ap (λ b. is_of_edge network.state.scenario root iface && b) (sym (served_is iface))
      where
        by : (o : Option NodeId) → edge_of network.state.scenario iface ≡ o
            → serves_near network datagram iface own (network.state.node root)
            ≡ (is_node (edge_of network.state.scenario iface) root && serves_by network datagram iface own (edge_of network.state.scenario iface))
        by None e =
            near_own iface (network.state.node root) (ap (λ (o : Option NodeId). is_node o root) e)
            ∙ sym (ap (λ (o : Option NodeId). is_node o root && serves_by network datagram iface own o) e)
        by (Some n) e =
            elim (cases_Bool (n.0 == root.0)) [
              | inl t ↦ sym (cond-true (n.0 == root.0) (serves_near network datagram iface own (network.state.node root)) _ t)
                  ∙ ap (λ b. b && serves_at network datagram iface own n) (sym t)
              | inr f ↦ near_own iface (network.state.node root) (ap (λ (o : Option NodeId). is_node o root) e ∙ f)
                  ∙ ap (λ b. b && serves_at network datagram iface own n) (sym f)
            ]
            ∙ sym (ap (λ (o : Option NodeId). is_node o root && serves_by network datagram iface own o) e)

    -- ---- the tunnel

    branches_are : (node : NodeState) (o : Option Fec) → sends_on network datagram own node ≡ o
        → (fate_of_entry network datagram id vrf node).branches
        ≡ (elim o as (λ x. List Branch) [ None ↦ [] | Some fec ↦ branches_of (part_of node) fec ])
    branches_are (CoreNode part) o e = ap (λ (x : Option Fec). elim x as (λ y. List Branch) [ None ↦ [] | Some fec ↦ branches_of part fec ]) e
    branches_are (Edge edge) o e =
        let place = place_of network.state root in
        let goes =
        is_from_site datagram.site (upstream_for place edge.control own datagram.source datagram.group)
        && is_joined_in place edge.control own datagram.source datagram.group in
        let tunnel = transmit_tunnel place edge.control own datagram.source datagram.group in
        entering_branches place network.state.clock edge datagram.source datagram.group iface0 own datagram.site
        ∙ by goes tunnel
        ∙ ap (λ (x : Option Fec). elim x as (λ y. List Branch) [ None ↦ [] | Some fec ↦ branches_of edge.part fec ]) e
      where
        iface0 : IfaceId
        iface0 = record { 0 = 0 }

        by : (b : Bool) (tunnel : Fec) → (if b then branches_of edge.part tunnel else [])
            ≡ (elim (if b then Some tunnel else None) as (λ y. List Branch) [ None ↦ [] | Some fec ↦ branches_of edge.part fec ])
        by true tunnel = refl
        by false tunnel = refl

    far_told : (iface : IfaceId) (fec : Fec) (n : NodeId) (node : NodeState)
        → is_among iface (node_outs network datagram fec n node) ≡ serves_far network datagram iface fec n node
    far_told iface fec n (Edge edge) = arriving_told (place_of network.state n) network.state.clock edge datagram.source datagram.group iface fec
    far_told iface fec n (CoreNode part) = refl

    leaves : (fec : Fec) → sends_on network datagram own (network.state.node root) ≡ Some fec → (n : NodeId) (iface : IfaceId) → n ≢ root
        → is_of_edge network.state.scenario n iface ≡ true → is_among iface (outs_in_tree network datagram fec n) ≡ is_served network datagram iface id
    leaves fec sends n iface off on =
        far_told iface fec n (network.state.node n) ∙ by (edge_of network.state.scenario iface) refl on ∙ sym (served_is iface)
      where
        by : (o : Option NodeId) → edge_of network.state.scenario iface ≡ o → is_node (edge_of network.state.scenario iface) n ≡ true
            → serves_far network datagram iface fec n (network.state.node n)
            ≡ serves_by network datagram iface own (edge_of network.state.scenario iface)
        by None e t = absurd (true≢false (sym t ∙ ap (λ (o : Option NodeId). is_node o n) e))
        by (Some m) e t =
            let same : m ≡ n = node_equal m n (sym (ap (λ (o : Option NodeId). is_node o n) e) ∙ t) in
            let other : (m.0 == root.0) ≡ false = false_from_ne_true (m.0 == root.0) (λ x. off (sym same ∙ node_equal m root x)) in
            ap (λ (x : NodeId). serves_far network datagram iface fec x (network.state.node x)) (sym same)
            ∙ ap (λ (o : Option Fec). elim o as (λ y. Bool)
            [ None ↦ false | Some own_fec ↦ serves_far network datagram iface own_fec m (network.state.node m) ]) (sym sends)
            ∙ sym (cond-false (m.0 == root.0) (serves_near network datagram iface own (network.state.node root))
            (elim (sends_on network datagram own (network.state.node root)) as (λ y. Bool)
            [ None ↦ false | Some own_fec ↦ serves_far network datagram iface own_fec m (network.state.node m) ]) other)
            ∙ sym (ap (serves_by network datagram iface own) e)

    stays : sends_on network datagram own (network.state.node root) ≡ None → (iface : IfaceId) → is_served network datagram iface id ≡ true
        → is_of_edge network.state.scenario root iface ≡ true
    stays sends iface served = by (edge_of network.state.scenario iface) refl (sym (served_is iface) ∙ served)
      where
        by : (o : Option NodeId) → edge_of network.state.scenario iface ≡ o
            → serves_by network datagram iface own (edge_of network.state.scenario iface) ≡ true
            → is_node (edge_of network.state.scenario iface) root ≡ true
        by None e t = absurd (true≢false (sym t ∙ ap (serves_by network datagram iface own) e))
        by (Some m) e t = elim (cases_Bool (m.0 == root.0)) [
          | inl x ↦ ap (λ (o : Option NodeId). is_node o root) e ∙ x
          | inr f ↦ absurd (true≢false (sym t ∙ ap (serves_by network datagram iface own) e
              ∙ cond-false (m.0 == root.0) (serves_near network datagram iface own (network.state.node root))
              (elim (sends_on network datagram own (network.state.node root)) as (λ y. Bool)
              [ None ↦ false | Some own_fec ↦ serves_far network datagram iface own_fec m (network.state.node m) ]) f
              ∙ ap (λ (o : Option Fec). elim o as (λ y. Bool)
              [ None ↦ false | Some own_fec ↦ serves_far network datagram iface own_fec m (network.state.node m) ]) sends))
        ]

    entry : ((fec : Fec) → sends_on network datagram own (network.state.node root) ≡ Some fec → CalmTree network fec root)
        → CalmEntry network datagram (λ iface. is_served network datagram iface id) id
    entry trees = record { vrf = vrf; known = known; near = near; far = by (sends_on network datagram own (network.state.node root)) refl }
      where
        by : (o : Option Fec) → sends_on network datagram own (network.state.node root) ≡ o
            → (fate.branches ≡ []) × ((iface : IfaceId) → is_served network datagram iface id ≡ true
            → is_of_edge network.state.scenario root iface ≡ true)
            ⊎ ((fec : Fec) × (fate.branches ≡ branches_in network fec root)
            × CalmTunnel network datagram (λ iface. is_served network datagram iface id) root fec)
        by None e = inl (branches_are (network.state.node root) None e, stays e)
        by (Some fec) e = inr (fec, branches_are (network.state.node root) (Some fec) e, record { tree = trees fec e; leaves = leaves fec e })

-- ---- the flow

entered_known : (scenario : Scenario) (site : SiteId) (number : ℕ) (vrfs : List Vrf)
    → ((place : ℕ) (vrf : Vrf) → slice_get vrfs place ≡ Some vrf → slice_get scenario.vrfs (number + place) ≡ Some vrf)
    → AllByRecursion (λ (id : VrfId). (vrf : Vrf) × (slice_get scenario.vrfs id.0 ≡ Some vrf)) (entered_from scenario site number vrfs)
entered_known scenario site number [] h = tt
entered_known scenario site number (vrf ∷ more) h =
    let rest =
    entered_known scenario site (number + 1) more
    (λ place v e. (let here : number + suc place ≡ number + 1 + place = omega arith in
    subst (λ k. slice_get scenario.vrfs k ≡ Some v) here (h (suc place) v e))) in
    let first : slice_get scenario.vrfs number ≡ Some vrf =
    (let here : number + 0 ≡ number = omega arith in subst (λ k. slice_get scenario.vrfs k ≡ Some vrf) here (h 0 vrf refl)) in
    cond_both (is_attached_at scenario (record { 0 = number }) site) (record { 0 = number } ∷ entered_from scenario site (number + 1) more)
    (entered_from scenario site (number + 1) more) (AllByRecursion (λ (id : VrfId). (v : Vrf) × (slice_get scenario.vrfs id.0 ≡ Some v)))
    (λ t. ((vrf, first), rest)) (λ f. rest)

served_placed : (network : OctetNetwork Nodes) (datagram : Datagram) (id : VrfId) (iface : IfaceId) → is_served network datagram iface id ≡ true
    → (n : NodeId) × (is_of_edge network.state.scenario n iface ≡ true)
served_placed network datagram id iface = by (slice_get network.state.scenario.vrfs id.0) (edge_of network.state.scenario iface) refl
  where
    by : (v : Option Vrf) (o : Option NodeId) → edge_of network.state.scenario iface ≡ o → serves_from network datagram iface id v ≡ true
        → (n : NodeId) × (is_of_edge network.state.scenario n iface ≡ true)
    by None o e t = absurd (true≢false (sym t))
    by (Some vrf) None e t = absurd (true≢false (sym t ∙ ap (serves_by network datagram iface (record { id = id; vrf = vrf })) e))
    by (Some vrf) (Some n) e t = (n, ap (λ (o : Option NodeId). is_node o n) e ∙ eq-eqb n.0 n.0 refl)

pub calm_flow : (network : OctetNetwork Nodes) (receives : IfaceId → Bool) (datagram : Datagram) → CalmChoice network receives datagram
    → CalmFlow network receives datagram
calm_flow network receives datagram choice =
    let scenario = network.state.scenario in
    record {
      serves = λ vrf iface. is_served network datagram iface vrf;
      once = choice.once;
      placed = λ vrf iface. served_placed network datagram vrf iface;
      entries =
          along (entered scenario datagram.site) (entered_known scenario datagram.site 0 scenario.vrfs
          (λ place vrf e. (let here : place ≡ 0 + place = omega arith in subst (λ k. slice_get scenario.vrfs k ≡ Some vrf) here e)));
    }
  where
    along : (list : List VrfId) → AllByRecursion (λ (id : VrfId). (vrf : Vrf) × (slice_get network.state.scenario.vrfs id.0 ≡ Some vrf)) list
        → AllByRecursion (λ vrf. CalmEntry network datagram (λ iface. is_served network datagram iface vrf) vrf) list
    along [] h = tt
    along (id ∷ more) h = (entry network datagram id h.0.0 h.0.1 (λ fec e. choice.trees id h.0.0 fec h.0.1 e), along more h.1)
