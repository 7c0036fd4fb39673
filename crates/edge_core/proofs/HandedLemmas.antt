-- Octets that are handed out leave an edge as it is but for them.
use Rattle.std.proofs.Common.{◌≡◌, ◌≢◌, ◌∙◌, refl, sym, ap, subst, ℕ, ◌==◌, Bool, true, false, cond, List, [], Option, None, Some, is_some}
use Rattle.std.specs.FinMap as maps
use Rattle.std.proofs.lemmas.Bool.{eq-eqb, eqb-true}
use Rattle.std.proofs.lemmas.Option.{none-some}
use Rattle.mv_base.specs.Lists.{Among}
use Rattle.mv_base.specs.declared.ids.NodeId.{NodeId}
use Rattle.mv_base.specs.core_walks.Core.{Core}
use Rattle.scenario_defs.specs.declared.event.Kind.{Kind}
use Rattle.scenario_defs.specs.declared.event.Kind.TheVariants as kinds
use Rattle.label_defs.specs.Node as nodes
use Rattle.network_defs.specs.mvpn_model.Sessions.{edges}
use Rattle.network_defs.specs.session_defs.PeerSession.{PeerSession}
use Rattle.edge_defs.specs.Held.{told}
use Rattle.edge_routes.specs.edge_home.Home.{peers_of, place_of}
use Rattle.edge_routing.specs.edge_tables.Tables.{AtPeer, Both, PeerTable, Tables, waiting_at, waiting_of}
use Rattle.edge_routing.specs.control_laws.Control.{Kept, control_of}
use Rattle.mldp_node.specs.NodeData.{NodeData, cause}
use Rattle.mldp_node.specs.declared.fault.NodeFault.{NodeFault}
use Rattle.network_defs.specs.node_defs.EdgeState.{EdgeState, handed, handed_out}
use Rattle.network_defs.specs.node_defs.EdgeState as states
use Rattle.node_laws.specs.Places.{label_session}
use Rattle.node_laws.specs.Waits.{bgp_session}
use Rattle.node_laws.proofs.OctetLemmas.{lost_waits}
use Rattle.node_laws.proofs.TakenLemmas.{none_left, others_left, unspent_hands}
use Rattle.edge_routing.specs.Routing.{IsInStep}
use Rattle.edge_core.specs.declared.parts.Parts.{Parts}
use Rattle.edge_core.specs.Called.{seen}
use Rattle.edge_core.specs.State.{IsIn, IsPeer, home_of}
use Rattle.edge_core.specs.View.{EdgeView}
use Rattle.edge_core.proofs.PeerLemmas.{never_own, node_at, peer_edge}

-- ---- nodes

one_node : (a b : NodeId) → (a.0 == b.0) ≡ true → a ≡ b
one_node a b e = ap node_at (eqb-true a.0 b.0 e)

other_node : (a b : NodeId) → (a.0 == b.0) ≡ false → a ≢ b
other_node a b e same = absurd (let f : true ≡ false = sym (eq-eqb a.0 b.0 (ap (λ (n : NodeId). n.0) same)) ∙ e in cc)

-- ---- sessions

bgp_is_not_ldp : (peer other : NodeId) → bgp_session peer ≢ label_session other
bgp_is_not_ldp peer other e = absurd (let k : kinds.Bgp ≡ kinds.Ldp = ap (λ (s : PeerSession). s.kind) e in cc)

ldp_is_not_bgp : (peer other : NodeId) → label_session peer ≢ bgp_session other
ldp_is_not_bgp peer other e = bgp_is_not_ldp other peer (sym e)

pub some_unspent : (parts : Parts) (spent : Option NodeFault) (edge : EdgeView) → seen parts spent ≡ edge → true ≡ is_some spent → edge.spent ≡ None
    → ⊥
some_unspent parts None edge is e none = absurd cc
some_unspent parts (Some fault) edge is e none = absurd (none-some (cause fault) (sym none ∙ sym (ap (λ (v : EdgeView). v.spent) is)))

-- ---- BGP

abbrev waiting_at_session : EdgeState → NodeId → List ℕ
waiting_at_session state peer = states.waiting_at state.waiting (bgp_session peer)

-- what a table says besides what waits
abbrev SaysAlike : PeerTable → PeerTable → Type 0
SaysAlike old new = (new.up ≡ old.up) × (new.set ≡ old.set) × (new.told ≡ old.told)

-- nothing waits any more
abbrev IsEmptied : PeerTable → PeerTable → Type 0
IsEmptied old new = new ≡ record old { waiting = [] }

module _ (before after : Tables) (peer : NodeId) (taken : AtPeer peer IsEmptied before after) where
  one_table : (a c : PeerTable) → ◌≡◌ {A = Option PeerTable} (Some a) (Some c) → a ≡ c
  one_table a c k = cc

  says : (o p : Option PeerTable) → Both IsEmptied o p → (table : PeerTable) → p ≡ Some table → (t : PeerTable) × (o ≡ Some t) × SaysAlike t table
  says None None b table e = absurd cc
  says None (Some new) b table e = absurd b
  says (Some old) None b table e = absurd b
  says (Some old) (Some new) b table e =
      let same : table ≡ record old { waiting = [] } = one_table table new (sym e) ∙ b in
      (old, refl, (ap (λ (t : PeerTable). t.up) same, ap (λ (t : PeerTable). t.set) same, ap (λ (t : PeerTable). t.told) same))

  was : (other : NodeId) (table : PeerTable) → maps.get after other ≡ Some table
      → (t : PeerTable) × (maps.get before other ≡ Some t) × SaysAlike t table
  was other table at = by (other.0 == peer.0) refl
    where
      by : (b : Bool) → (other.0 == peer.0) ≡ b → (t : PeerTable) × (maps.get before other ≡ Some t) × SaysAlike t table
      by true e =
          let same = one_node other peer e in
          subst (λ (n : NodeId). (t : PeerTable) × (maps.get before n ≡ Some t) × SaysAlike t table) (sym same)
          (says (maps.get before peer) (maps.get after peer) taken.0 table (subst (λ (n : NodeId). maps.get after n ≡ Some table) same at))
      by false e = (table, sym (taken.1 other (other_node other peer e)) ∙ at, (refl, refl, refl))

  still_there : (other : NodeId) → is_some (maps.get after other) ≡ is_some (maps.get before other)
  still_there other = by (other.0 == peer.0) refl
    where
      both : (o p : Option PeerTable) → Both IsEmptied o p → is_some p ≡ is_some o
      both None None b = refl
      both None (Some new) b = absurd b
      both (Some old) None b = absurd b
      both (Some old) (Some new) b = refl

      by : (b : Bool) → (other.0 == peer.0) ≡ b → is_some (maps.get after other) ≡ is_some (maps.get before other)
      by true e =
          subst (λ (n : NodeId). is_some (maps.get after n) ≡ is_some (maps.get before n)) (sym (one_node other peer e))
          (both (maps.get before peer) (maps.get after peer) taken.0)
      by false e = ap (λ (o : Option PeerTable). is_some o) (taken.1 other (other_node other peer e))

  none_waits : waiting_at after peer ≡ []
  none_waits = by (maps.get before peer) (maps.get after peer) taken.0
    where
      by : (o p : Option PeerTable) → Both IsEmptied o p → waiting_of p ≡ []
      by None None b = refl
      by None (Some new) b = absurd b
      by (Some old) None b = absurd b
      by (Some old) (Some new) b = ap (λ (t : PeerTable). t.waiting) b

  -- what the edge tells its peers is in step still
  pub handed_step : (control : Kept) → IsInStep (record { control = control; tables = before })
      → IsInStep (record { control = control; tables = after })
  handed_step control step = record {
    trees = step.trees;
    groups = step.groups;
    vrfs = step.vrfs;
    tables = λ core other table at.
        let t = was other table at in
        let is = step.tables core other t.0 t.1 in
        record {
          up = t.2.0 ∙ is.up;
          set = t.2.1 ∙ is.set;
          told =
              t.2.2 ∙ (is.told ∙ ap (λ (b : Bool). cond b (told (place_of control.home core) (control_of control) other) maps.empty) (sym t.2.0));
        };
    peers = λ other. (λ h. (step.peers other).0 (sym (still_there other) ∙ h), λ h. still_there other ∙ (step.peers other).1 h);
    up = λ other h. still_there other ∙ step.up other h;
  }

  -- the edge of the definitions that hands them out is that edge
  pub bgp_handed : (state : EdgeState) (edge : EdgeView) → edge.routing.tables ≡ before → IsIn state edge
      → IsIn (handed_out (bgp_session peer) state) (record edge { routing = record { control = edge.routing.control; tables = after } })
  bgp_handed state edge is in_old = record {
    parts = λ core.
        let has = in_old.parts core in
        record {
          unspent = has.unspent;
          keeps = has.keeps;
          label = record {
            part = has.label.part;
            waiting = λ other. others_left (bgp_session peer) (label_session other) state (ldp_is_not_bgp other peer) ∙ has.label.waiting other;
            raises = has.label.raises;
            spent = has.label.spent;
          };
          peers = λ other among own. by core other among own (other.0 == peer.0) refl;
        };
    streams = in_old.streams;
    raised = in_old.raised;
  }
    where
      left : (core : Core) (other : NodeId) → Among other (edges (home_of edge).scenario) → other ≢ (home_of edge).me → other ≢ peer
          → waiting_at_session state other ≡ waiting_at after other
      left core other among own apart =
          (in_old.parts core).peers other among own ∙ (ap (λ (t : Tables). waiting_at t other) is ∙ ap waiting_of (sym (taken.1 other apart)))

      by : (core : Core) (other : NodeId) → Among other (edges (home_of edge).scenario) → other ≢ (home_of edge).me → (b : Bool)
          → (other.0 == peer.0) ≡ b
          → waiting_at_session (handed_out (bgp_session peer) state) other ≡ waiting_at after other
      by core other among own true e =
          subst (λ (n : NodeId). waiting_at_session (handed_out (bgp_session peer) state) n ≡ waiting_at after n) (sym (one_node other peer e))
          (none_left (bgp_session peer) state ∙ sym none_waits)
      by core other among own false e =
          others_left (bgp_session peer) (bgp_session other) state (λ k. other_node other peer e (ap (λ (s : PeerSession). s.peer) k))
          ∙ left core other among own (other_node other peer e)

pub bgp_peer : (edge : EdgeView) (kind : Kind) (peer : NodeId) → kind ≡ kinds.Bgp → IsPeer edge kind peer → Among peer (peers_of (home_of edge))
bgp_peer edge kind peer is h = subst (λ (k : Kind). IsPeer edge k peer) is h

-- what is handed out is what waits
pub bgp_octets : (state : EdgeState) (edge : EdgeView) (peer : NodeId) (any : Core) → IsIn state edge → Among peer (peers_of (home_of edge))
    → waiting_at edge.routing.tables peer ≡ handed (bgp_session peer) state
bgp_octets state edge peer any in_old among =
    let has = in_old.parts any in
    sym (unspent_hands (bgp_session peer) state has.unspent
    ∙ has.peers peer (peer_edge (home_of edge).me peer 0 (home_of edge).scenario.nodes among)
    (λ e. never_own (home_of edge).me 0 (home_of edge).scenario.nodes (subst (λ (p : NodeId). Among p (peers_of (home_of edge))) e among)))

-- ---- LDP

pub ldp_handed : (state : EdgeState) (edge : EdgeView) (new : NodeData) (peer : NodeId)
    → new ≡ record edge.labels { node = nodes.handed_out peer edge.labels.node } → IsIn state edge
    → IsIn (handed_out (label_session peer) state) (record edge { labels = new })
ldp_handed state edge new peer is in_old =
    subst (λ (l : NodeData). IsIn (handed_out (label_session peer) state) (record edge { labels = l })) (sym is) (record {
      parts = λ core.
          let has = in_old.parts core in
          record {
            unspent = has.unspent;
            keeps = has.keeps;
            label = record {
              part = has.label.part;
              waiting = lost_waits state.waiting edge.labels.node.waiting peer has.label.waiting;
              raises = has.label.raises;
              spent = has.label.spent;
            };
            peers = λ other among own. others_left (label_session peer) (bgp_session other) state (bgp_is_not_ldp other peer)
                ∙ has.peers other among own;
          };
      streams = in_old.streams;
      raised = in_old.raised;
    })

pub ldp_octets : (state : EdgeState) (edge : EdgeView) (peer : NodeId) (any : Core) → IsIn state edge
    → nodes.handed peer edge.labels.node ≡ handed (label_session peer) state
ldp_octets state edge peer any in_old =
    let has = in_old.parts any in
    (λ i. nodes.handed_unless ((has.label.spent ∙ has.unspent) i) peer edge.labels.node)
    ∙ (sym (has.label.waiting peer) ∙ sym (unspent_hands (label_session peer) state has.unspent))
