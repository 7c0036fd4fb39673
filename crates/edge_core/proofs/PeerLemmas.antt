-- The peers of an edge are the other edges.
use Rattle.std.proofs.Common.{◌≡◌, ◌≢◌, ◌∙◌, refl, sym, ap, ℕ, ◌+◌, ◌==◌, ◌&&◌, not, Bool, true, false, cond, inl, inr, List, [], ◌∷◌}
use Rattle.std.proofs.lemmas.Bool.{eq-eqb, eqb-true}
use Rattle.mv_base.specs.Lists.{Among}
use Rattle.mv_base.specs.declared.ids.NodeId.{NodeId}
use Rattle.scenario_defs.specs.declared.scenario.Node.{Node}
use Rattle.network_defs.specs.mvpn_model.Sessions.{edges_from}
use Rattle.edge_routes.specs.edge_home.Home.{peers_from}

abbrev pub node_at : ℕ → NodeId
node_at number = record { 0 = number }

-- each other edge is a peer
pub peer_among : (me peer : NodeId) (number : ℕ) (nodes : List Node) → peer ≢ me → Among peer (edges_from number nodes)
    → Among peer (peers_from me number nodes)
peer_among me peer number [] other among = absurd among
peer_among me peer number (node ∷ more) other among = by (peer_among me peer (number + 1) more other) node.edge (number == me.0) refl among
  where
    by : (Among peer (edges_from (number + 1) more) → Among peer (peers_from me (number + 1) more)) → (edge own : Bool) → (number == me.0) ≡ own
        → Among peer (cond edge (node_at number ∷ edges_from (number + 1) more) (edges_from (number + 1) more))
        → Among peer (cond (edge && not own) (node_at number ∷ peers_from me (number + 1) more) (peers_from me (number + 1) more))
    by rest true false e (inl s) = inl s
    by rest true false e (inr a) = inr (rest a)
    by rest true true e (inl s) = absurd (other (s ∙ ap node_at (eqb-true number me.0 e)))
    by rest true true e (inr a) = rest a
    by rest false own e a = rest a

-- a peer is an edge
pub peer_edge : (me peer : NodeId) (number : ℕ) (nodes : List Node) → Among peer (peers_from me number nodes) → Among peer (edges_from number nodes)
peer_edge me peer number [] among = among
peer_edge me peer number (node ∷ more) among = by (peer_edge me peer (number + 1) more) node.edge (number == me.0) among
  where
    by : (Among peer (peers_from me (number + 1) more) → Among peer (edges_from (number + 1) more)) → (edge own : Bool)
        → Among peer (cond (edge && not own) (node_at number ∷ peers_from me (number + 1) more) (peers_from me (number + 1) more))
        → Among peer (cond edge (node_at number ∷ edges_from (number + 1) more) (edges_from (number + 1) more))
    by rest true false (inl s) = inl s
    by rest true false (inr a) = inr (rest a)
    by rest true true a = inr (rest a)
    by rest false own a = rest a

-- no edge is its own peer
pub never_own : (me : NodeId) (number : ℕ) (nodes : List Node) → Among me (peers_from me number nodes) → ⊥
never_own me number [] among = among
never_own me number (node ∷ more) among = by (never_own me (number + 1) more) node.edge (number == me.0) refl among
  where
    differs : (number == me.0) ≡ false → number ≡ me.0 → ⊥
    differs e same = absurd (let f : true ≡ false = sym (eq-eqb number me.0 same) ∙ e in cc)

    by : (Among me (peers_from me (number + 1) more) → ⊥) → (edge own : Bool) → (number == me.0) ≡ own
        → Among me (cond (edge && not own) (node_at number ∷ peers_from me (number + 1) more) (peers_from me (number + 1) more)) → ⊥
    by rest true false e (inl s) = differs e (sym (ap (λ (n : NodeId). n.0) s))
    by rest true false e (inr a) = rest a
    by rest true true e a = rest a
    by rest false own e a = rest a
