-- At a line of zeros the labels of the trees of each edge are calm.
use Rattle.std.proofs.Common.{◌≡◌, ◌≢◌, ℕ, ◌<◌, ◌≤◌, Bool, true, false, List, [], ◌∷◌, length, filter, slice_get, get_or, option_map, Option, Some, None, inl, inr, refl, sym, ap, subst, ◌∙◌, arith}
use Rattle.std.specs.List.{AllByRecursion}
use Rattle.std.specs.FinSet as sets
use Rattle.std.proofs.lemmas.Bool.{true≢false, or_cases, cases_lt}
use Rattle.std.proofs.lemmas.Option.{same_Some, none-some, slice_get-get_or}
use Rattle.std.proofs.lemmas.List.Elements.{recursion_from_All}
use Rattle.std.proofs.lemmas.List.Elements.{All-from_recursion}
use Rattle.mv_base.specs.Address.{same_addr, same_addr_equiv, same_addr_equal}
use Rattle.mv_base.specs.Number.{◌>>?◌}
use Rattle.mv_base.specs.declared.addr.Addr.{Addr}
use Rattle.mv_base.specs.declared.core_link.Link.{Link}
use Rattle.mv_base.specs.declared.ids.NodeId.{NodeId}
use Rattle.mldp.specs.declared.mldp_fec.fec.Fec.{Fec}
use Rattle.mldp.specs.declared.mldp_msgs.message.LabelMessage.{LabelMessage}
use Rattle.scenario_defs.specs.Rules.{Rules}
use Rattle.scenario_defs.specs.declared.event.Kind.TheVariants as kinds
use Rattle.scenario_defs.specs.declared.scenario.Node.{Node}
use Rattle.scenario_defs.specs.declared.scenario.Scenario.{Scenario}
use Rattle.label_defs.specs.LabelData.{LabelData, same_fec, use_of, has_branch, has_tree}
use Rattle.label_defs.specs.Settled.{Maps}
use Rattle.label_defs.specs.Steps.{branch_to}
use Rattle.label_defs.specs.declared.branch.Branch.{Branch}
use Rattle.label_defs.specs.declared.label_use.LabelUse.{LabelUse}
use Rattle.label_defs.specs.declared.label_use.LabelUse.TheVariants as uses
use Rattle.label_defs.proofs.KeyLemmas.{branch_cmp_total, branch_cmp_exact, same_fec_equal, same_fec_from, node_cases}
use Rattle.label_defs.proofs.SetLemmas.{passing_member}
use Rattle.label_laws.specs.Rule as phases
use Rattle.label_laws.specs.Rule.{Kind, PhaseIs, Phase, Kept, is_of_owner, is_release_of, branch_trees}
use Rattle.network_defs.specs.session_defs.Message.{SessionMessage}
use Rattle.network_defs.specs.session_defs.Refined.{Carried, IsLine, AreLines, seen}
use Rattle.network_defs.specs.declared.session_defs.direction.Direction.{Direction}
use Rattle.edge_defs.specs.Place.{addr_of, node_with}
use Rattle.mv_base.specs.core_walks.Core.{Core, IsCoreOf}
use Rattle.network_defs.specs.Counts.{direction}
use Rattle.mv_base.specs.core_walks.Topology.{HasCost, HasEnds}
use Rattle.network_defs.specs.Nodes.{Nodes, core_at, label_place_of, part_of}
use Rattle.network_laws.specs.Costs.{KnowCosts}
use Rattle.network_defs.specs.World.{World, Datagram, scenario_of}
use Rattle.rule_laws.specs.Labels.{labels_in, label_network}
use Rattle.rule_laws.proofs.Vpns.{first_at, some_first, one_addr, addr_at}
use Rattle.delivery_laws.specs.Flood.{OnLinks}
use Rattle.delivery_laws.specs.Labels.{CalmLabels}
use Rattle.once_laws.specs.Zeros.{Zeros}
use Rattle.once_laws.proofs.Depths.{depth_of, depth_few, nearer, repriced_each, repriced_ends, repriced_costs}
use Rattle.once_laws.proofs.Pairs.{Pair, Alike, link_pairs, linked_pair, way_pair}
use Rattle.once_laws.proofs.Rests.{Rests, nothing_pending}

-- ---- a root

-- the node of an address is the one that has it
pub root_with : (scenario : Scenario) → Rules scenario → (root : NodeId) → root.0 < length scenario.nodes
    → node_with scenario (addr_of scenario root) ≡ Some root
root_with scenario rules root within = by (slice_get scenario.nodes root.0) refl
  where
    at : (node : Node) → slice_get scenario.nodes root.0 ≡ Some node → node_with scenario (addr_of scenario root) ≡ Some root
    at node e =
        let addr : Addr = addr_of scenario root in
        let own : addr ≡ node.addr = addr_at scenario root node e in
        let test : Node → Bool = λ m. same_addr m.addr addr in
        let found = some_first test scenario.nodes root.0 node e (ap (same_addr node.addr) own ∙ same_addr_equiv.refl node.addr) in
        let first = first_at test scenario.nodes found.0 found.1 in
        let one : found.0 ≡ root.0 =
        one_addr scenario rules (record { 0 = found.0 }) root first.value node first.at e
        (same_addr_equal first.value.addr addr first.passes ∙ own) in
        ap (option_map (λ number. record { 0 = number })) found.1 ∙ (λ i. Some (record { 0 = one i }))

    by : (o : Option Node) → slice_get scenario.nodes root.0 ≡ o → node_with scenario (addr_of scenario root) ≡ Some root
    by (Some node) e = at node e
    by None e = absurd (slice_get_none scenario.nodes root.0 within e)
      where
        slice_get_none : (xs : List Node) (k : ℕ) → k < length xs → slice_get xs k ≡ None → ⊥
        slice_get_none [] k less e = omega (arith, less)
        slice_get_none (x ∷ xs) k less e = none-some (get_or (x ∷ xs) k x) (sym e ∙ slice_get-get_or (x ∷ xs) k x less)

-- ---- phases

-- where nothing is in transit, a branch is one of a label that is mapped
branch_mapped : (kind : Kind) (u : NodeId) (label : ℕ) (usage : Option LabelUse) (down up : List LabelMessage) (branches : Fec → Bool) (fec : Fec)
    → PhaseIs kind u label usage down up branches → down ≡ [] → up ≡ [] → branches fec ≡ true → usage ≡ Some (uses.Mapped fec u)
branch_mapped (phases.Mapping own) u label usage down up branches fec p d b has = absurd (let x = p.put in cc)
branch_mapped (phases.Stands own) u label usage down up branches fec p d b has =
    p.used ∙ ap (λ (f : Fec). Some (uses.Mapped f u)) (sym (same_fec_equal fec own (sym (ap (λ (t : Fec → Bool). t fec) p.branch) ∙ has)))
branch_mapped (phases.MappingAndWithdraw own) u label usage down up branches fec p d b has = absurd (let x = p.put in cc)
branch_mapped (phases.Withdraw own) u label usage down up branches fec p d b has = absurd (let x = p.put in cc)
branch_mapped (phases.Release own) u label usage down up branches fec p d b has = absurd (let x = p.back in cc)
branch_mapped phases.Idle u label usage down up branches fec p d b has = absurd (true≢false (sym has ∙ ap (λ (t : Fec → Bool). t fec) p.1.branch))

mapped_branch : (kind : Kind) (u : NodeId) (label : ℕ) (usage : Option LabelUse) (down up : List LabelMessage) (branches : Fec → Bool) (fec : Fec)
    → PhaseIs kind u label usage down up branches → down ≡ [] → up ≡ [] → usage ≡ Some (uses.Mapped fec u) → branches fec ≡ true
mapped_branch (phases.Mapping own) u label usage down up branches fec p d b is = absurd (let x = p.put in cc)
mapped_branch (phases.Stands own) u label usage down up branches fec p d b is =
    let used = p.used in
    let same : fec ≡ own = cc in
    ap (λ (t : Fec → Bool). t fec) p.branch ∙ same_fec_from fec own same
mapped_branch (phases.MappingAndWithdraw own) u label usage down up branches fec p d b is = absurd (let x = p.put in cc)
mapped_branch (phases.Withdraw own) u label usage down up branches fec p d b is = absurd (let x = p.put in cc)
mapped_branch (phases.Release own) u label usage down up branches fec p d b is = absurd (let x = p.back in cc)
mapped_branch phases.Idle u label usage down up branches fec p d b is = absurd (p.0 fec (inl is))

-- ---- a network of zeros

module _ (world : World) (rules : Rules (scenario_of world)) (costs : KnowCosts (scenario_of world) world.network.state.cores world.network.state)
    (all : List Datagram) (pending : Direction → List SessionMessage) (are : AreLines world.network pending)
    (kept : Kept (label_network (seen world.network pending) world.copies all))
    (rests : (over : Direction) → Rests over.kind (world.network.stream over)) (on_links : OnLinks world.network) (zeros : Zeros world)
    (leafless : (n : NodeId) → length (scenario_of world).nodes ≤ n.0 → (fec : Fec)
    → sets.contains (part_of (world.network.state.node n)).leaves fec ≡ false) where
  abbrev part : NodeId → LabelData
  part n = part_of (world.network.state.node n)

  abbrev nodes : Nodes
  nodes = world.network.state

  -- the core by the present costs, which each node of the scenario knows
  abbrev core : Core
  core = nodes.cores nodes.links

  same_core : (n : NodeId) → n.0 < length (scenario_of world).nodes → core_at nodes n ≡ core
  same_core n within = ap nodes.cores (costs.present n within)

  present_core : (n : NodeId) → n.0 < length (scenario_of world).nodes → IsCoreOf (length (scenario_of world).nodes) nodes.links core
  present_core n within =
      subst (λ (links : List Link). IsCoreOf (length (scenario_of world).nodes) links (nodes.cores links)) (costs.present n within) (costs.core n)

  alike : Alike world
  alike u n ne = (kept.rule.session u n ne).alike

  pairs : AllByRecursion (λ (link : Link). Pair world link.a link.b) (scenario_of world).links
  pairs = link_pairs world rules alike zeros

  own_ends : AllByRecursion (HasEnds (length (scenario_of world).nodes)) (scenario_of world).links
  own_ends = recursion_from_All (HasEnds (length (scenario_of world).nodes)) (scenario_of world).links rules.core.topology.ends

  -- linked nodes have a calm session, whatever the link costs
  present_pairs : AllByRecursion (λ (link : Link). Pair world link.a link.b) nodes.links
  present_pairs = repriced_each (λ (link : Link). Pair world link.a link.b) (λ (link : Link). Pair world link.a link.b)
      (λ link other a b cost p. subst (λ (x : NodeId). Pair world x other.b) (sym a) (subst (λ (x : NodeId). Pair world link.a x) (sym b) p))
      (scenario_of world).links nodes.links costs.links pairs

  silent : (u n : NodeId) → Pair world u n → labels_in (pending (direction kinds.Ldp u n)) ≡ []
  silent u n p =
      let over : Direction = direction kinds.Ldp u n in
      let carried : Carried kinds.Ldp (world.network.stream over) (world.network.transit over) (pending over) =
      subst (λ (b : Bool). IsLine kinds.Ldp b (world.network.stream over) (world.network.transit over) (pending over)) p.there.joined (are over)
      in
      ap labels_in (nothing_pending kinds.Ldp (world.network.stream over) (world.network.transit over) (pending over) carried (rests over)
      p.there.quiet)

  phase : (u n : NodeId) (label : ℕ) → Pair world u n
      → Phase u label (use_of (part n) label) (filter (is_of_owner label) (labels_in (pending (direction kinds.Ldp n u))))
      (filter (is_release_of label) (labels_in (pending (direction kinds.Ldp u n)))) (branch_trees (part u) n label)
  phase u n label p = (kept.rule.view u n label p.two).phase p.there.joined

  no_down : (u n : NodeId) (label : ℕ) → Pair world u n → filter (is_of_owner label) (labels_in (pending (direction kinds.Ldp n u))) ≡ []
  no_down u n label p =
      ap (λ (ms : List LabelMessage). filter (is_of_owner label) ms)
      (silent n u (record { two = λ e. p.two (sym e); within = (p.within.1, p.within.0); there = p.back; back = p.there }))

  no_up : (u n : NodeId) (label : ℕ) → Pair world u n → filter (is_release_of label) (labels_in (pending (direction kinds.Ldp u n))) ≡ []
  no_up u n label p = ap (λ (ms : List LabelMessage). filter (is_release_of label) ms) (silent u n p)

  -- a branch leads to a neighbour
  branch_pair : (u : NodeId) (branch : Branch) → sets.contains (part u).branches branch ≡ true → Pair world u branch.node
  branch_pair u branch has = way_pair world u branch.node (scenario_of world).links pairs (let one = on_links u branch has in omega (arith, one))

  told : (u n : NodeId) (fec : Fec) (label : ℕ) → sets.contains (part u).branches (branch_to n fec label) ≡ true → Maps (part n) fec label u
  told u n fec label has =
      let p = branch_pair u (branch_to n fec label) has in
      let ph = phase u n label p in
      branch_mapped ph.kind u label (use_of (part n) label) _ _ (branch_trees (part u) n label) fec ph.holds (no_down u n label p) (no_up u n label p)
      has

  -- ---- towards a root

  module _ (root : NodeId) (within : root.0 < length (scenario_of world).nodes) (fec : Fec) (rooted : fec.root ≡ addr_of (scenario_of world) root)
    where
      towards : (n : NodeId) → (label_place_of nodes n).upstream fec ≡ (core_at nodes n).toward n root
      towards n =
          ap (λ (o : Option NodeId). o >>? λ (at : NodeId). (core_at nodes n).toward n at)
          (ap (node_with (scenario_of world)) rooted ∙ root_with (scenario_of world) rules root within)

      -- the neighbour above a node
      record Above (n above : NodeId) : Type 0 where
        pub toward : (label_place_of nodes n).upstream fec ≡ Some above
        pub pair : Pair world n above
        pub less : depth_of (scenario_of world) core root above < depth_of (scenario_of world) core root n

      some_above : (n : NodeId) → n.0 < length (scenario_of world).nodes → n ≢ root → (above : NodeId) × Above n above
      some_above n here off =
          let is_core = present_core n here in
          let first = is_core.first n root here within off in
          let ends =
          All-from_recursion (HasEnds (length (scenario_of world).nodes)) nodes.links
          (repriced_ends (length (scenario_of world).nodes) (scenario_of world).links nodes.links costs.links own_ends) in
          let prices =
          All-from_recursion HasCost nodes.links (repriced_costs (length (scenario_of world).nodes) (scenario_of world).links nodes.links
          costs.links own_ends) in
          let next = nearer (scenario_of world) nodes.links core ends prices is_core root n first.0 within here first.2 in (
            first.0,
            record {
              toward = towards n ∙ ap (λ (c : Core). c.toward n root) (same_core n here) ∙ first.1;
              pair = linked_pair world nodes.links present_pairs n first.0 next.cost next.linked;
              less = next.less;
            },
          )

      none_outside : (n : NodeId) (u : NodeId) → length (scenario_of world).nodes ≤ n.0 → (core_at nodes n).toward n root ≡ Some u → ⊥
      none_outside n u out e = none-some u (sym ((costs.core n).outside n root (inl out)).1 ∙ e)

      is_above : (n u : NodeId) → (label_place_of nodes n).upstream fec ≡ Some u → Above n u
      is_above n u e = elim (cases_lt n.0 (length (scenario_of world).nodes)) [
        | inl here ↦ elim (node_cases n root) [
          | inl same ↦ absurd (none-some u (sym (ap (λ (m : NodeId). (core_at nodes n).toward m root) same ∙ (costs.core n).itself root)
              ∙ (sym (towards n) ∙ e)))
          | inr off ↦ (let a = some_above n here off in subst (Above n) (same_Some a.0 u (sym a.1.toward ∙ e)) a.1)
        ]
        | inr out ↦ absurd (none_outside n u out (sym (towards n) ∙ e))
      ]

      known : (u n : NodeId) (label : ℕ) → Maps (part n) fec label u → sets.contains (part u).branches (branch_to n fec label) ≡ true
      known u n label is =
          let above = is_above n u ((kept.settled n fec).toward label u is).0 in
          let p : Pair world u n =
          record {
            two = λ e. above.pair.two (sym e);
            within = (above.pair.within.1, above.pair.within.0);
            there = above.pair.back;
            back =
                above.pair.there;
          } in
          let ph = phase u n label p in
          mapped_branch ph.kind u label (use_of (part n) label) _ _ (branch_trees (part u) n label) fec ph.holds (no_down u n label p)
          (no_up u n label p) is

      -- a node on the tree is one of the scenario
      on_tree : (n : NodeId) → has_tree (part n) fec ≡ true → n.0 < length (scenario_of world).nodes
      on_tree n on = elim (cases_lt n.0 (length (scenario_of world).nodes)) [
        | inl here ↦ here
        | inr out ↦ elim (or_cases (has_branch (part n) fec) (sets.contains (part n).leaves fec) on) [
          | inl branch ↦ (let b = passing_member branch_cmp_total branch_cmp_exact (λ (x : Branch). same_fec x.fec fec) (part n).branches branch in
              (branch_pair n b.0 b.1).within.0)
          | inr leaf ↦ absurd (true≢false (sym leaf ∙ leafless n out fec))
        ]
      ]

      pub calm_labels : CalmLabels world.network fec root
      calm_labels = record {
        settled = λ n. kept.settled n fec;
        root_is = towards root ∙ (costs.core root).itself root;
        told = λ u n label has. told u n fec label has;
        known = known;
        depth = depth_of (scenario_of world) core root;
        bounded = λ n. depth_few (scenario_of world) core root n rules;
        upstreams =
            λ n on off. (let a = some_above n (on_tree n on) off in
            record { above = a.0; toward = a.1.toward; ready = a.1.pair.there.ready; nearer = a.1.less });
      }
