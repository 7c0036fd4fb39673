-- The peers of an edge are nodes of the scenario.
use Rattle.std.proofs.Common.{arith, suc, ◌≡◌, ◌<◌, ◌≤◌, ◌+◌, ◌==◌, ◌&&◌, not, inl, inr, ℕ, Bool, true, false, cond, List, [], ◌∷◌, length, refl, ap, subst}
use Rattle.mv_base.specs.Lists.{Among}
use Rattle.mv_base.specs.declared.ids.NodeId.{NodeId}
use Rattle.scenario_defs.specs.declared.scenario.Node.{Node}
use Rattle.edge_routes.specs.edge_home.Home.{Home, peers_from, peers_of}

abbrev node_at : ℕ → NodeId
node_at number = record { 0 = number }

later : (number peer count : ℕ) → (number + 1 ≤ peer) × (peer < (number + 1) + count) → (number ≤ peer) × (peer < number + suc count)
later number peer count h = (let low = h.0 in let high = h.1 in (grind (arith), grind (arith)))

within : (me peer : NodeId) (number : ℕ) (nodes : List Node) → Among peer (peers_from me number nodes)
    → (number ≤ peer.0) × (peer.0 < number + length nodes)
within me peer number [] among = absurd among
within me peer number (node ∷ more) among = by (node.edge && not (number == me.0)) refl (within me peer (number + 1) more)
  where
    first : peer ≡ node_at number → (number ≤ peer.0) × (peer.0 < number + suc (length more))
    first e = (let same : peer.0 ≡ number = ap (λ (n : NodeId). n.0) e in (grind (arith), grind (arith)))

    by : (shown : Bool) → (node.edge && not (number == me.0)) ≡ shown
        → (Among peer (peers_from me (number + 1) more) → (number + 1 ≤ peer.0) × (peer.0 < (number + 1) + length more))
        → (number ≤ peer.0) × (peer.0 < number + suc (length more))
    by true e rest =
        elim (subst (λ (b : Bool). Among peer (cond b (node_at number ∷ peers_from me (number + 1) more) (peers_from me (number + 1) more))) e among) [
          | inl s ↦ first s
          | inr a ↦ later number peer.0 (length more) (rest a)
        ]
    by false e rest =
        later number peer.0 (length more) (rest (subst
        (λ (b : Bool). Among peer (cond b (node_at number ∷ peers_from me (number + 1) more) (peers_from me (number + 1) more))) e among))

pub is_node : (home : Home) (peer : NodeId) → Among peer (peers_of home) → peer.0 < length home.scenario.nodes
is_node home peer among = (let high = (within home.me peer 0 home.scenario.nodes among).1 in grind (arith))
