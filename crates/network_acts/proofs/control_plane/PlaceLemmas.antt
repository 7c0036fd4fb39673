-- Nodes stand where they stood after each act, also one that halts; and which of them are edges.
use Rattle.std.proofs.Common.{◌≡◌, ◌∙◌, refl, sym, ap, subst, arith, ℕ, ◌<◌, ◌≤◌, inl, inr, Bool, true, false, List, length, slice_get, slice_set, get_or, Option, Some, None}
use Rattle.std.specs.Prelude.{◌==◌}
use Rattle.std.proofs.lemmas.Bool.{eq-eqb, eqb-true}
use Rattle.std.proofs.lemmas.Option.{same_Some, slice_get_cases, slice_get_within}
use Rattle.mv_base.specs.declared.ids.NodeId.{NodeId}
use Rattle.scenario_defs.specs.declared.scenario.Node.{Node}
use Rattle.scenario_defs.specs.declared.scenario.Scenario.{Scenario}
use Rattle.network_defs.specs.Nodes.{is_edge}
use Rattle.network_nodes.specs.Edges.{EdgeView}
use Rattle.network_nodes.specs.core_node.View.{CoreView}
use Rattle.network_nodes.specs.NodeView.{IsPlacedAt}
use Rattle.network_nodes.specs.declared.node.NetworkNode.{NetworkNode}
use Rattle.network_nodes.specs.declared.node.NetworkNode.TheVariants as nodes
use Rattle.network_acts.specs.control_plane.Plane.{ArePlaced, KeepsPlaces}
use Rattle.network_acts.specs.control_plane.PlaneView.{PlaneView}
use Rattle.network_acts.specs.control_plane.Starting.{AreFirst}
use Rattle.network_acts.proofs.control_plane.ListLemmas.{found, get_set, get_set_other}

-- one node changes, and is one of its number
pub set_placed : (scenario : Scenario) (nodes : List NetworkNode) (place : ℕ) (node : NetworkNode)
    → ((m : NodeId) → m.0 ≡ place → (own : NetworkNode) → slice_get nodes m.0 ≡ Some own → IsPlacedAt scenario m own → IsPlacedAt scenario m node)
    → ArePlaced scenario nodes → ArePlaced scenario (slice_set nodes place node)
set_placed scenario nodes place node stays placed = record {
  each = λ m within. by m (placed.each m within) (m.0 == place) refl;
}
  where
    by : (m : NodeId) → (own : NetworkNode) × (slice_get nodes m.0 ≡ Some own) × IsPlacedAt scenario m own → (b : Bool) → (m.0 == place) ≡ b
        → (own : NetworkNode) × (slice_get (slice_set nodes place node) m.0 ≡ Some own) × IsPlacedAt scenario m own
    by m (own, at, is) true e =
        let same : m.0 ≡ place = eqb-true m.0 place e in
        let here : place < length nodes = subst (λ (k : ℕ). k < length nodes) same (slice_get_within nodes m.0 own at) in (
          node,
          subst (λ (k : ℕ). slice_get (slice_set nodes place node) k ≡ Some node) (sym same) (get_set nodes place node here),
          stays m same own at is,
        )
    by m (own, at, is) false e =
        (own, get_set_other nodes place m.0 node (λ same. (let t : true ≡ false = sym (eq-eqb m.0 place same) ∙ e in cc)) ∙ at, is)

module _ (plane now : PlaneView) (seen : plane ≡ now) where
  -- no node changes
  pub same_places : (new : PlaneView) → new.nodes ≡ plane.nodes → KeepsPlaces now new
  same_places new same = subst (λ (p : PlaneView). KeepsPlaces p new) seen (record { keeps = λ scenario. subst (ArePlaced scenario) (sym same) })

  -- one node changes and stays at its place, and then the rest of the act keeps the places
  pub act_places : (place : ℕ) (old d node : NetworkNode) → old ≡ get_or plane.nodes place d
      → ((scenario : Scenario) (m : NodeId) → IsPlacedAt scenario m old → IsPlacedAt scenario m node)
      → (middle new : PlaneView) → middle.nodes ≡ slice_set plane.nodes place node → KeepsPlaces middle new → KeepsPlaces now new
  act_places place old d node value stays middle new nodes rest = subst (λ (p : PlaneView). KeepsPlaces p new) seen (record {
    keeps = λ scenario placed.
        rest.keeps scenario (subst (ArePlaced scenario) (sym nodes)
        (set_placed scenario plane.nodes place node
        (λ m same own at is.
        let own_is : own ≡ old = sym (found plane.nodes m.0 own d at) ∙ ((λ i. get_or plane.nodes (same i) d) ∙ sym value) in
        stays scenario m (subst (IsPlacedAt scenario m) own_is is))
        placed));
  })

-- nothing changes
pub no_change : (plane : PlaneView) → KeepsPlaces plane plane
no_change plane = record { keeps = λ scenario placed. placed }

-- the node of that number begins anew
pub anew_placed : (plane now : PlaneView) → plane ≡ now → (scenario : Scenario) (n : NodeId) (place : ℕ) (first node : NetworkNode) → place ≡ n.0
    → node ≡ first → IsPlacedAt scenario n first
    → ArePlaced scenario now.nodes → ArePlaced scenario (slice_set plane.nodes place node)
anew_placed plane now seen scenario n place first node place_is node_is is placed =
    set_placed scenario plane.nodes place node
    (λ m same own at was. subst (λ (k : NodeId). IsPlacedAt scenario k node) (sym (one_node m n (same ∙ place_is)))
    (subst (IsPlacedAt scenario n) (sym node_is) is))
    (subst (λ (p : PlaneView). ArePlaced scenario p.nodes) (sym seen) placed)
  where
    one_node : (a b : NodeId) → a.0 ≡ b.0 → a ≡ b
    one_node a b e = λ i. record { 0 = e i }

-- the first nodes of a scenario stand at their numbers
pub first_placed : (scenario : Scenario) (nodes : List NetworkNode) → AreFirst scenario (length scenario.nodes) nodes → ArePlaced scenario nodes
first_placed scenario nodes first = record { each = λ n within. (let own = first.each n within in (own.0, own.1, own.2.placed)) }

-- ---- edges and core nodes

abbrev edge_or : Option Node → Bool
edge_or None = false
edge_or (Some node) = node.edge

module _ (scenario : Scenario) (all : List NetworkNode) (n : NodeId) (placed : ArePlaced scenario all) where
  -- the node that stands there is one of its number
  one_placed : (node : NetworkNode) → slice_get all n.0 ≡ Some node → n.0 < length scenario.nodes → IsPlacedAt scenario n node
  one_placed node at within = (let own = placed.each n within in subst (IsPlacedAt scenario n) (same_Some own.0 node (sym own.1 ∙ at)) own.2)

  -- where no edge stands, the scenario has none
  pub core_is_no_edge : (core : CoreView) → slice_get all n.0 ≡ Some (nodes.CoreNode core) → is_edge scenario n ≡ false
  core_is_no_edge core at = elim (slice_get_cases scenario.nodes n.0).1 [
    | inl there ↦ (one_placed (nodes.CoreNode core) at there.1).1
    | inr beyond ↦ ap edge_or beyond.1
  ]

  pub beyond_is_no_edge : length all ≤ n.0 → is_edge scenario n ≡ false
  beyond_is_no_edge past = elim (slice_get_cases scenario.nodes n.0).1 [
    | inl there ↦ (let own = placed.each n there.1 in absurd (omega (arith, past, slice_get_within all n.0 own.0 own.1)))
    | inr beyond ↦ ap edge_or beyond.1
  ]

  -- where no core node stands, the scenario has an edge or no node
  pub edge_is_edge : (edge : EdgeView) → slice_get all n.0 ≡ Some (nodes.Edge edge) → n.0 < length scenario.nodes → is_edge scenario n ≡ true
  edge_is_edge edge at within = (one_placed (nodes.Edge edge) at within).1

  pub beyond_is_outside : length all ≤ n.0 → n.0 < length scenario.nodes → ⊥
  beyond_is_outside past within = (let own = placed.each n within in omega (arith, past, slice_get_within all n.0 own.0 own.1))
