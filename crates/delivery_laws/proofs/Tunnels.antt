-- In a calm network each datagram that enters is to be written once at each interface that receives it, and nowhere else.
use Rattle.std.specs.Prelude.{sum_by, slice_get, ◌==◌, ◌&&◌}
use Rattle.std.proofs.Common.{◌≡◌, ◌≢◌, ℕ, zero, suc, ◌+◌, ◌≤◌, nat_le, Bool, true, false, cond, List, [], Option, None, Some, refl, sym, ap, inl, inr, ◌∙◌, arith}
use Rattle.std.specs.List.{flat_map}
use Rattle.std.specs.FinSet as sets
use Rattle.std.proofs.lemmas.Bool.{cases_Bool, cond-true, cond-false, eq-eqb, leb-true, or_right, and_from, and_right, true≢false}
use Rattle.mv_base.specs.declared.ids.IfaceId.{IfaceId}
use Rattle.mv_base.specs.declared.ids.NodeId.{NodeId}
use Rattle.mv_base.specs.declared.ids.VrfId.{VrfId}
use Rattle.mldp.specs.declared.mldp_fec.fec.Fec.{Fec}
use Rattle.label_defs.specs.LabelData.{use_of, has_branch, has_tree, branches_of}
use Rattle.label_defs.specs.declared.branch.Branch.{Branch}
use Rattle.label_defs.specs.declared.label_use.LabelUse.{LabelUse}
use Rattle.label_defs.specs.declared.label_use.LabelUse.TheVariants as uses
use Rattle.label_defs.proofs.KeyLemmas.{node_equal}
use Rattle.scenario_defs.specs.Vpn.{edge_of, entered}
use Rattle.network_defs.specs.session_defs.Octets.{OctetNetwork}
use Rattle.mvpn_model.specs.Past.{is_of_edge}
use Rattle.edge_defs.specs.Datagrams.{Fate, discarded, outs_of, outs_at, tree_of}
use Rattle.edge_defs.specs.Place.{own_vrfs}
use Rattle.network_defs.specs.Acts.{fate_at, with_ttl}
use Rattle.network_defs.specs.Nodes.{NodeState, Edge, CoreNode, Nodes, part_of, place_of}
use Rattle.network_defs.specs.World.{Datagram}
use Rattle.delivery_laws.specs.Flood.{times_at, written_below, bare, fates_in, fate_of_entry, written_by, written_from, written_of}
use Rattle.delivery_laws.specs.Calm.{branches_in, CalmTree, node_outs, outs_in_tree, CalmTunnel, CalmEntry, CalmFlow}
use Rattle.delivery_laws.proofs.Totals.{sum-alike}
use Rattle.delivery_laws.proofs.OutsOnce.{few_is, node_few, node_own, entry_few}
use Rattle.delivery_laws.proofs.Trees.{only_at, flood, Hangs, sum-zero, sum-same, root_writes, flood_below_root}
use Rattle.network_laws.proofs.Lists.{each_weaker}

-- ---- what a node does with a copy on a tree

mapped_tree : (fec : Fec) (u : NodeId) (o : Option LabelUse) → o ≡ Some (uses.Mapped fec u) → tree_of u o ≡ Some fec
mapped_tree fec u o e = ap (tree_of u) e ∙ cond-true (u.0 == u.0) (Some fec) None (eq-eqb u.0 u.0 refl)

tree_fate : (network : OctetNetwork Nodes) (datagram : Datagram) (fec : Fec) (u n : NodeId) (label : ℕ) (node : NodeState)
    → use_of (part_of node) label ≡ Some (uses.Mapped fec u)
    → fate_at (bare network) n node u label datagram
    ≡ record { outs = node_outs network datagram fec n node; branches = branches_of (part_of node) fec }
tree_fate network datagram fec u n label (Edge edge) e =
    ap (λ (o : Option Fec). elim o as (λ x. Fate) [
      | None ↦ discarded
      | Some own ↦ record {
        outs =
            outs_of (place_of network.state n) network.state.clock edge own datagram.source datagram.group;
        branches = branches_of edge.part own;
      }
    ])
    (mapped_tree fec u (use_of edge.part label) e)
tree_fate network datagram fec u n label (CoreNode part) e =
    ap (λ (o : Option Fec). elim o as (λ x. Fate) [ None ↦ discarded | Some own ↦ record { outs = []; branches = branches_of part own } ])
    (mapped_tree fec u (use_of part label) e)

module _ (network : OctetNetwork Nodes) (datagram : Datagram) (iface : IfaceId) (fec : Fec) (root : NodeId) (tree : CalmTree network fec root) where
  abbrev branches : NodeId → List Branch
  branches n = branches_in network fec n

  abbrev own : NodeId → ℕ
  own n = times_at iface (outs_in_tree network datagram fec n)

  fate_is : (u n : NodeId) (label : ℕ) → use_of (part_of (network.state.node n)) label ≡ Some (uses.Mapped fec u)
      → fates_in network datagram u n label ≡ record { outs = outs_in_tree network datagram fec n; branches = branches n }
  fate_is u n label e = tree_fate network datagram fec u n label (network.state.node n) e

  long_ttl : (ttl : ℕ) → nat_le (suc (suc ttl)) 1 ≡ false
  long_ttl ttl = elim (cases_Bool (nat_le (suc (suc ttl)) 1)) [
    | inl t ↦ (let le : suc (suc ttl) ≤ 1 = leb-true (suc (suc ttl)) 1 t in absurd (omega (arith, le)))
    | inr f ↦ f
  ]

  -- What is written below a branch is a flood.
  below_is_flood : (ttl : ℕ) (u n : NodeId) (label : ℕ) → use_of (part_of (network.state.node n)) label ≡ Some (uses.Mapped fec u)
      → written_below (fates_in network datagram) iface (suc ttl) u n label ≡ flood branches own (suc ttl) n
  below_is_flood zero u n label e =
      let rest : sum_by (λ (branch : Branch). 0) (branches n) ≡ 0 = sum-zero (λ (branch : Branch). 0) (λ branch. refl) (branches n) in
      ap (λ (f : Fate). times_at iface f.outs + sum_by
      (λ (branch : Branch). written_below (fates_in network datagram) iface 0 n branch.node branch.label) (with_ttl 1 f).branches)
      (fate_is u n label e) ∙ omega (arith, rest)
  below_is_flood (suc ttl) u n label e =
      let next : Fate = record { outs = outs_in_tree network datagram fec n; branches = branches n } in
      let whole : (with_ttl (suc (suc ttl)) next).branches ≡ branches n =
      ap (λ (f : Fate). f.branches) (cond-false (nat_le (suc (suc ttl)) 1) (record next { branches = [] }) next (long_ttl ttl)) in
      let rest =
      sum-alike (λ (branch : Branch). written_below (fates_in network datagram) iface (suc ttl) n branch.node branch.label)
      (λ branch. flood branches own (suc ttl) branch.node) (branches n)
      (each_weaker (λ (branch : Branch). use_of (part_of (network.state.node branch.node)) branch.label ≡ Some (uses.Mapped fec n))
      (λ branch. written_below (fates_in network datagram) iface (suc ttl) n branch.node branch.label ≡ flood branches own (suc ttl) branch.node)
      (λ branch is. below_is_flood ttl n branch.node branch.label is) (branches n) (tree.mapped n)) in
      ap (λ (f : Fate). times_at iface f.outs + sum_by
      (λ (branch : Branch). written_below (fates_in network datagram) iface (suc ttl) n branch.node branch.label)
      (with_ttl (suc (suc ttl)) f).branches) (fate_is u n label e)
      ∙ ap (λ (l : List Branch). own n + sum_by (λ (branch : Branch). written_below (fates_in network datagram) iface (suc ttl) n branch.node
      branch.label) l) whole
      ∙ ap (λ k. own n + k) rest

  root_is_flood : sum_by (λ branch. written_below (fates_in network datagram) iface 255 root branch.node branch.label) (branches root)
      ≡ sum_by (λ branch. flood branches own 255 branch.node) (branches root)
  root_is_flood =
      sum-alike (λ (branch : Branch). written_below (fates_in network datagram) iface 255 root branch.node branch.label)
      (λ branch. flood branches own 255 branch.node) (branches root)
      (each_weaker (λ (branch : Branch). use_of (part_of (network.state.node branch.node)) branch.label ≡ Some (uses.Mapped fec root))
      (λ branch. written_below (fates_in network datagram) iface 255 root branch.node branch.label ≡ flood branches own 255 branch.node)
      (λ branch is. below_is_flood 254 root branch.node branch.label is) (branches root) (tree.mapped root))

  -- the flood of what nodes write is that of what one node writes, if the others write nothing
  alike_flood : (at : NodeId) (count : ℕ) → ((n : NodeId) → own n ≡ only_at at count n) → (steps : ℕ) (n : NodeId)
      → flood branches own steps n ≡ flood branches (only_at at count) steps n
  alike_flood at count h zero n = refl
  alike_flood at count h (suc steps) n =
      let rest =
      sum-same (λ (branch : Branch). flood branches own steps branch.node) (λ branch. flood branches (only_at at count) steps branch.node)
      (λ branch. alike_flood at count h steps branch.node) (branches n) in
      ap (λ k. k + sum_by (λ (branch : Branch). flood branches own steps branch.node) (branches n)) (h n) ∙ ap (λ k. only_at at count n + k) rest

  -- a node on the tree hangs on it, no more steps below the root than it is deep
  off_root : (n : NodeId) → (n.0 == root.0) ≡ false → n ≢ root
  off_root n f e = true≢false (sym (eq-eqb n.0 root.0 (ap (λ (x : NodeId). x.0) e)) ∙ f)

  hangs_at : (steps : ℕ) (n : NodeId) → tree.depth n ≤ steps → has_tree (part_of (network.state.node n)) fec ≡ true
      → (below : ℕ) × (below ≤ tree.depth n) × Hangs branches root below n
  hangs_at zero n le on = elim (cases_Bool (n.0 == root.0)) [
    | inl t ↦ (0, omega arith, node_equal n root t)
    | inr f ↦ (let near = (tree.hangs n on (off_root n f)).nearer in absurd (omega (arith, near, le)))
  ]
  hangs_at (suc steps) n le on = elim (cases_Bool (n.0 == root.0)) [
    | inl t ↦ (0, omega arith, node_equal n root t)
    | inr f ↦
        let h = tree.hangs n on (off_root n f) in
        let near = h.nearer in
        let up = hangs_at steps h.above (omega (arith, near, le)) h.on_tree in
        let few = up.1 in
        (suc up.0, omega (arith, near, few), (h.above, h.once, up.2))
  ]

  nothing_flows : ((n : NodeId) → own n ≡ 0) → (steps : ℕ) (n : NodeId) → flood branches own steps n ≡ 0
  nothing_flows h zero n = refl
  nothing_flows h (suc steps) n = let one = h n in let rest =
      sum-zero (λ (branch : Branch). flood branches own steps branch.node) (λ branch. nothing_flows h steps branch.node) (branches n) in
      omega (arith, one, rest)

  -- what is written below the root at an interface of one other node that is on the tree, where no other node writes
  flows_to : (n : NodeId) (count : ℕ) → n ≢ root → has_tree (part_of (network.state.node n)) fec ≡ true → ((x : NodeId) → own x ≡ only_at n count x)
      → sum_by (λ branch. flood branches own 255 branch.node) (branches root) ≡ count
  flows_to n count off on h = along (hangs_at 255 n (tree.bounded n) on) ∙ refl
    where
      along : (below : ℕ) × (below ≤ tree.depth n) × Hangs branches root below n
          → sum_by (λ branch. flood branches own 255 branch.node) (branches root) ≡ count
      along (zero, le, is) = absurd (off is)
      along (suc below, le, is) =
          let bound = tree.bounded n in
          sum-same (λ (branch : Branch). flood branches own 255 branch.node) (λ branch. flood branches (only_at n count) 255 branch.node)
          (λ branch. alike_flood n count h 255 branch.node) (branches root)
          ∙ flood_below_root branches root count tree.from_root below n is 254 (omega (arith, le, bound))

  flows_to_root : ((x : NodeId) → own x ≡ only_at root (own root) x) → sum_by (λ branch. flood branches own 255 branch.node) (branches root) ≡ 0
  flows_to_root h =
      sum-same (λ (branch : Branch). flood branches own 255 branch.node) (λ branch. flood branches (only_at root (own root)) 255 branch.node)
      (λ branch. alike_flood root (own root) h 255 branch.node) (branches root)
      ∙ root_writes branches root (own root) tree.from_root 255 root

-- ---- one tunnel

one_edge : (o : Option NodeId) (a b : NodeId) → (elim o [ None ↦ false | Some edge ↦ edge.0 == a.0 ]) ≡ true
    → (elim o [ None ↦ false | Some edge ↦ edge.0 == b.0 ]) ≡ true → a ≡ b
one_edge None a b x y = absurd (true≢false (sym x))
one_edge (Some edge) a b x y = sym (node_equal edge a x) ∙ node_equal edge b y

leaf_on_tree : (network : OctetNetwork Nodes) (datagram : Datagram) (iface : IfaceId) (fec : Fec) (n : NodeId) (node : NodeState)
    → times_at iface (node_outs network datagram fec n node) ≡ 1 → has_tree (part_of node) fec ≡ true
leaf_on_tree network datagram iface fec n (CoreNode part) e = absurd (omega (arith, e))
leaf_on_tree network datagram iface fec n (Edge edge) e = elim (cases_Bool (sets.contains edge.part.leaves fec)) [
  | inl t ↦ or_right (has_branch edge.part fec) (sets.contains edge.part.leaves fec) t
  | inr f ↦
      let outs =
      flat_map (outs_at (place_of network.state n) network.state.clock edge.control fec datagram.source datagram.group)
      (own_vrfs (place_of network.state n)) in
      let none : times_at iface (cond (sets.contains edge.part.leaves fec) outs []) ≡ 0 = ap (λ b. times_at iface (cond b outs [])) f in
      absurd (omega (arith, none, e))
]

module _ (network : OctetNetwork Nodes) (datagram : Datagram) (serves : IfaceId → Bool) (root : NodeId) (fec : Fec)
    (tunnel : CalmTunnel network datagram serves root fec) (iface : IfaceId) where
  abbrev is_of : NodeId → Bool
  is_of n = is_of_edge network.state.scenario n iface

  abbrev writes : NodeId → ℕ
  writes n = times_at iface (outs_in_tree network datagram fec n)

  abbrev below_root : ℕ
  below_root = sum_by (λ branch. written_below (fates_in network datagram) iface 255 root branch.node branch.label) (branches_in network fec root)

  only_there : (n : NodeId) → is_of n ≡ true → (x : NodeId) → writes x ≡ only_at n (writes n) x
  only_there n h x = elim (cases_Bool (x.0 == n.0)) [
    | inl t ↦ ap writes (node_equal x n t) ∙ sym (cond-true (x.0 == n.0) (writes n) 0 t)
    | inr f ↦ elim (cases_Bool (is_of x)) [
      | inl there ↦ absurd (true≢false (sym (eq-eqb x.0 n.0 (ap (λ (y : NodeId). y.0) (one_edge (edge_of network.state.scenario iface) x n there h)))
          ∙ f))
      | inr not_there ↦ node_own network datagram fec x (network.state.node x) iface not_there ∙ sym (cond-false (x.0 == n.0) (writes n) 0 f)
    ]
  ]

  -- at an interface of the root
  pub near_writes : is_of root ≡ true → below_root ≡ 0
  near_writes h =
      root_is_flood network datagram iface fec root tunnel.tree ∙ flows_to_root network datagram iface fec root tunnel.tree (only_there root h)

  leaf_writes : (n : NodeId) → n ≢ root → is_of n ≡ true → writes n ≡ cond (serves iface) 1 0
  leaf_writes n off on =
      few_is iface (outs_in_tree network datagram fec n) (node_few network datagram fec n (network.state.node n) iface)
      ∙ ap (λ b. cond b 1 0) (tunnel.leaves n iface off on)

  not_served : serves iface ≡ false → is_of root ≡ false → (n : NodeId) → writes n ≡ 0
  not_served s r n = elim (cases_Bool (is_of n)) [
    | inl t ↦ leaf_writes n (λ e. true≢false (sym t ∙ (ap is_of e ∙ r))) t ∙ cond-false (serves iface) 1 0 s
    | inr f ↦ node_own network datagram fec n (network.state.node n) iface f
  ]

  -- at another interface
  pub far_writes : is_of root ≡ false → (serves iface ≡ true → (n : NodeId) × (is_of n ≡ true)) → below_root ≡ cond (serves iface) 1 0
  far_writes r placed = root_is_flood network datagram iface fec root tunnel.tree ∙ elim (cases_Bool (serves iface)) [
    | inl t ↦
        let at = placed t in
        let off : at.0 ≢ root = λ e. true≢false (sym at.1 ∙ (ap is_of e ∙ r)) in
        let one : writes at.0 ≡ 1 = leaf_writes at.0 off at.1 ∙ cond-true (serves iface) 1 0 t in
        let on = leaf_on_tree network datagram iface fec at.0 (network.state.node at.0) one in
        flows_to network datagram iface fec root tunnel.tree at.0 (writes at.0) off on (only_there at.0 at.1) ∙ one
        ∙ sym (cond-true (serves iface) 1 0 t)
    | inr f ↦ sum-zero (λ (branch : Branch). flood (branches_in network fec) writes 255 branch.node)
        (λ branch. nothing_flows network datagram iface fec root tunnel.tree (not_served f r) 255 branch.node) (branches_in network fec root)
        ∙ sym (cond-false (serves iface) 1 0 f)
  ]

-- ---- one entry

module _ (network : OctetNetwork Nodes) (datagram : Datagram) (serves : IfaceId → Bool) (iface : IfaceId)
    (placed : serves iface ≡ true → (n : NodeId) × (is_of_edge network.state.scenario n iface ≡ true)) (root : NodeId) (fate : Fate)
    (near : times_at iface fate.outs ≡ cond (is_of_edge network.state.scenario root iface && serves iface) 1 0) where
  abbrev goes : List Branch → ℕ
  goes list = sum_by (λ (branch : Branch). written_below (fates_in network datagram) iface 255 root branch.node branch.label) list

  stays_writes : fate.branches ≡ [] → ((i : IfaceId) → serves i ≡ true → is_of_edge network.state.scenario root i ≡ true)
      → written_by network datagram iface root fate ≡ cond (serves iface) 1 0
  stays_writes none all = elim (cases_Bool (serves iface)) [
    | inl t ↦
        let one : cond {A = ℕ} (is_of_edge network.state.scenario root iface && serves iface) 1 0 ≡ 1 =
        cond-true (is_of_edge network.state.scenario root iface && serves iface) 1 0
        (and_from (is_of_edge network.state.scenario root iface) (serves iface) (all iface t) t) in
        let rest : goes fate.branches ≡ 0 = ap goes none in
        omega (arith, near, one, rest, cond-true {A = ℕ} (serves iface) 1 0 t)
    | inr f ↦
        let none_here : cond {A = ℕ} (is_of_edge network.state.scenario root iface && serves iface) 1 0 ≡ 0 =
        cond-false (is_of_edge network.state.scenario root iface && serves iface) 1 0
        (and_right (is_of_edge network.state.scenario root iface) (serves iface) f) in
        let rest : goes fate.branches ≡ 0 = ap goes none in
        omega (arith, near, none_here, rest, cond-false {A = ℕ} (serves iface) 1 0 f)
  ]

  tunnel_writes : (fec : Fec) → fate.branches ≡ branches_in network fec root → CalmTunnel network datagram serves root fec
      → written_by network datagram iface root fate ≡ cond (serves iface) 1 0
  tunnel_writes fec same tunnel = elim (cases_Bool (is_of_edge network.state.scenario root iface)) [
    | inl t ↦
        let here : cond {A = ℕ} (is_of_edge network.state.scenario root iface && serves iface) 1 0 ≡ cond (serves iface) 1 0 =
        ap (λ b. cond (b && serves iface) 1 0) t in
        let rest : goes fate.branches ≡ 0 = ap goes same ∙ near_writes network datagram serves root fec tunnel iface t in
        omega (arith, near, here, rest)
    | inr f ↦
        let here : cond {A = ℕ} (is_of_edge network.state.scenario root iface && serves iface) 1 0 ≡ 0 = ap (λ b. cond (b && serves iface) 1 0) f in
        let rest : goes fate.branches ≡ cond (serves iface) 1 0 = ap goes same ∙ far_writes network datagram serves root fec tunnel iface f placed in
        omega (arith, near, here, rest)
  ]

entry_writes : (network : OctetNetwork Nodes) (datagram : Datagram) (serves : IfaceId → Bool) (id : VrfId) → CalmEntry network datagram serves id
    → (iface : IfaceId) → (serves iface ≡ true → (n : NodeId) × (is_of_edge network.state.scenario n iface ≡ true))
    → written_from network datagram iface id (slice_get network.state.scenario.vrfs id.0) ≡ cond (serves iface) 1 0
entry_writes network datagram serves id entry iface placed =
    let root = entry.vrf.edge in
    let fate = fate_of_entry network datagram id entry.vrf (network.state.node root) in
    let near : times_at iface fate.outs ≡ cond (is_of_edge network.state.scenario root iface && serves iface) 1 0 =
    few_is iface fate.outs (entry_few network datagram id entry.vrf (network.state.node root) iface) ∙ ap (λ b. cond b 1 0) (entry.near iface) in
    ap (written_from network datagram iface id) entry.known ∙ elim entry.far [
      | inl stays ↦ stays_writes network datagram serves iface placed root fate near stays.0 stays.1
      | inr goes_on ↦ tunnel_writes network datagram serves iface placed root fate near goes_on.0 goes_on.1 goes_on.2
    ]

-- ---- one flow

-- In a calm network a datagram that is sent is to be written once at each interface that receives it, and nowhere else.
pub flow_writes : (network : OctetNetwork Nodes) (receives : IfaceId → Bool) (datagram : Datagram) → CalmFlow network receives datagram
    → (iface : IfaceId) → written_of network datagram iface ≡ cond (receives iface) 1 0
flow_writes network receives datagram flow iface =
    sum-alike (λ (vrf : VrfId). written_from network datagram iface vrf (slice_get network.state.scenario.vrfs vrf.0))
    (λ vrf. cond (flow.serves vrf iface) 1 0) (entered network.state.scenario datagram.site)
    (each_weaker (λ (vrf : VrfId). CalmEntry network datagram (flow.serves vrf) vrf)
    (λ vrf. written_from network datagram iface vrf (slice_get network.state.scenario.vrfs vrf.0) ≡ cond (flow.serves vrf iface) 1 0)
    (λ vrf entry. entry_writes network datagram (flow.serves vrf) vrf entry iface (flow.placed vrf iface))
    (entered network.state.scenario datagram.site) flow.entries)
    ∙ flow.once iface
