-- The sessions of a scenario: over BGP one of each two edges, over LDP one of each link.
use Rattle.std.proofs.Common.{◌≡◌, ◌∙◌, ◌+◌, ◌⊎◌, ◌==◌, ◌&&◌, not, inl, inr, zero, suc, ℕ, Bool, true, false, cond, List, [], ◌∷◌, map, slice_get, Some, refl, sym, ap, subst, arith}
use Rattle.mv_base.specs.Lists.{Among}
use Rattle.mv_base.specs.declared.core_link.Link.{Link}
use Rattle.mv_base.specs.declared.ids.NodeId.{NodeId}
use Rattle.label_defs.proofs.KeyLemmas.{node_apart}
use Rattle.scenario_defs.specs.Rules.{HaveSession, IsEdge}
use Rattle.scenario_defs.specs.declared.event.Kind.{Kind}
use Rattle.scenario_defs.specs.declared.event.Kind.TheVariants as kinds
use Rattle.scenario_defs.specs.declared.scenario.Node.{Node}
use Rattle.scenario_defs.specs.declared.scenario.Scenario.{Scenario}
use Rattle.edge_routes.specs.edge_home.Home.{home_of, peers_from, peers_of}
use Rattle.mvpn_model.specs.Sessions.{bgp_session, bgp_sessions, edges, edges_from, ldp_session, sessions}
use Rattle.mvpn_model.specs.declared.session.Session.{Session}
use Rattle.wire_laws.proofs.AmongLemmas.{Once, among_back, among_either, among_front, among_map, contained, mapped}

-- ---- edges

abbrev node_at : ℕ → NodeId
node_at number = record { 0 = number }

-- the node is an edge of these, numbered from that one on
pub record StandsFrom (number : ℕ) (nodes : List Node) (n : NodeId) : Type 0 where
  pub place : ℕ
  pub node : Node
  pub numbered : n.0 ≡ number + place
  pub at : slice_get nodes place ≡ Some node
  pub edge : node.edge ≡ true

further : (number : ℕ) (node : Node) (more : List Node) (n : NodeId) → StandsFrom (number + 1) more n → StandsFrom number (node ∷ more) n
further number node more n s =
    (let e = s.numbered in record { place = suc s.place; node = s.node; numbered = omega (arith, e); at = s.at; edge = s.edge })

edges_stand : (number : ℕ) (nodes : List Node) (n : NodeId) → Among n (edges_from number nodes) → StandsFrom number nodes n
edges_stand number [] n a = absurd a
edges_stand number (node ∷ more) n a = by node.edge refl (λ later. further number node more n (edges_stand (number + 1) more n later)) a
  where
    by : (b : Bool) → node.edge ≡ b → (Among n (edges_from (number + 1) more) → StandsFrom number (node ∷ more) n)
        → Among n (cond b (node_at number ∷ edges_from (number + 1) more) (edges_from (number + 1) more)) → StandsFrom number (node ∷ more) n
    by true e rest (inl same) =
        (let own = ap (λ (m : NodeId). m.0) same in record { place = 0; node = node; numbered = omega (arith, own); at = refl; edge = e })
    by true e rest (inr later) = rest later
    by false e rest later = rest later

edge_among : (number place : ℕ) (nodes : List Node) (node : Node) (n : NodeId) → n.0 ≡ number + place → slice_get nodes place ≡ Some node
    → node.edge ≡ true → Among n (edges_from number nodes)
edge_among number place [] node n e at edge = absurd cc
edge_among number zero (first ∷ more) node n e at edge =
    let same : first ≡ node = cc in
    let own : n.0 ≡ number = omega (arith, e) in
    subst (λ (b : Bool). Among n (cond b (node_at number ∷ edges_from (number + 1) more) (edges_from (number + 1) more)))
    (sym (ap (λ (x : Node). x.edge) same ∙ edge)) (inl (λ i. record { 0 = own i }))
edge_among number (suc place) (first ∷ more) node n e at edge = by first.edge (edge_among (number + 1) place more node n (omega (arith, e)) at edge)
  where
    by : (b : Bool) → Among n (edges_from (number + 1) more)
        → Among n (cond b (node_at number ∷ edges_from (number + 1) more) (edges_from (number + 1) more))
    by true a = inr a
    by false a = a

pub edges_once : (number : ℕ) (nodes : List Node) → Once (edges_from number nodes)
edges_once number [] = tt
edges_once number (node ∷ more) = by node.edge (edges_once (number + 1) more)
  where
    by : (b : Bool) → Once (edges_from (number + 1) more)
        → Once (cond b (node_at number ∷ edges_from (number + 1) more) (edges_from (number + 1) more))
    by true once = ((λ a. (let e = (edges_stand (number + 1) more (node_at number) a).numbered in omega (arith, e))), once)
    by false once = once

edge_of : (scenario : Scenario) (n : NodeId) → Among n (edges scenario) → IsEdge scenario n
edge_of scenario n a =
    let s = edges_stand 0 scenario.nodes n a in
    let e = s.numbered in
    record { node = s.node; at = ap (slice_get scenario.nodes) (let same : n.0 ≡ s.place = omega (arith, e) in same) ∙ s.at; edge = s.edge }

pub is_among : (scenario : Scenario) (n : NodeId) → IsEdge scenario n → Among n (edges scenario)
is_among scenario n edge = edge_among 0 n.0 scenario.nodes edge.node n (omega arith) edge.at edge.edge

-- each other edge is a peer
peer_among : (me peer : NodeId) (number : ℕ) (nodes : List Node) → (peer ≡ me → ⊥) → Among peer (edges_from number nodes)
    → Among peer (peers_from me number nodes)
peer_among me peer number [] other a = absurd a
peer_among me peer number (node ∷ more) other a = by (peer_among me peer (number + 1) more other) node.edge (number == me.0) refl a
  where
    by : (Among peer (edges_from (number + 1) more) → Among peer (peers_from me (number + 1) more)) → (edge own : Bool) → (number == me.0) ≡ own
        → Among peer (cond edge (node_at number ∷ edges_from (number + 1) more) (edges_from (number + 1) more))
        → Among peer (cond (edge && not own) (node_at number ∷ peers_from me (number + 1) more) (peers_from me (number + 1) more))
    by rest true false e (inl s) = inl s
    by rest true false e (inr h) = inr (rest h)
    by rest true true e (inl s) = absurd (let f : (number == me.0) ≡ false = node_apart (node_at number) me (λ same. other (s ∙ same)) in cc)
    by rest true true e (inr h) = rest h
    by rest false own e h = rest h

pub is_peer : (scenario : Scenario) (a b : NodeId) → IsEdge scenario b → (b ≡ a → ⊥) → Among b (peers_of (home_of scenario a))
is_peer scenario a b edge other = peer_among a b 0 scenario.nodes other (is_among scenario b edge)

-- ---- sessions over BGP

-- the session is one over BGP of two of the nodes
pub record IsOfTwo (all : List NodeId) (s : Session) : Type 0 where
  pub kind : s.kind ≡ kinds.Bgp
  pub first : Among s.a all
  pub second : Among s.b all

pub bgp_of : (all : List NodeId) (s : Session) → Among s (bgp_sessions all) → IsOfTwo all s
bgp_of [] s h = absurd h
bgp_of (a ∷ later) s h = elim (among_either s (map (bgp_session a) later) (bgp_sessions later) h) [
  | inl own ↦
      let found = mapped (bgp_session a) s later own in
      let same = found.2 in
      record {
        kind = ap (λ (x : Session). x.kind) same;
        first = inl (ap (λ (x : Session). x.a) same);
        second =
            inr (subst (λ (n : NodeId). Among n later) (sym (ap (λ (x : Session). x.b) same)) found.1);
      }
  | inr other ↦ (let rest = bgp_of later s other in record { kind = rest.kind; first = inr rest.first; second = inr rest.second })
]

bgp_apart : (all : List NodeId) → Once all → (s : Session) → Among s (bgp_sessions all) → s.a ≡ s.b → ⊥
bgp_apart [] once s h e = h
bgp_apart (a ∷ later) once s h e = elim (among_either s (map (bgp_session a) later) (bgp_sessions later) h) [
  | inl own ↦
      let found = mapped (bgp_session a) s later own in
      let same = found.2 in
      once.0 (subst (λ (n : NodeId). Among n later) (sym (ap (λ (x : Session). x.b) same) ∙ sym e ∙ ap (λ (x : Session). x.a) same) found.1)
  | inr other ↦ bgp_apart later once.1 s other e
]

-- two of the nodes have a session, which names one of them first
pub bgp_between : (all : List NodeId) (a b : NodeId) → Among a all → Among b all → (a ≡ b → ⊥)
    → Among (bgp_session a b) (bgp_sessions all) ⊎ Among (bgp_session b a) (bgp_sessions all)
bgp_between [] a b x y other = absurd x
bgp_between (first ∷ later) a b (inl ea) (inl eb) other = absurd (other (ea ∙ sym eb))
bgp_between (first ∷ later) a b (inl ea) (inr y) other =
    inl (among_front (bgp_session a b) (map (bgp_session first) later) (bgp_sessions later)
    (subst (λ (n : NodeId). Among (bgp_session n b) (map (bgp_session first) later)) (sym ea) (among_map (bgp_session first) b later y)))
bgp_between (first ∷ later) a b (inr x) (inl eb) other =
    inr (among_front (bgp_session b a) (map (bgp_session first) later) (bgp_sessions later)
    (subst (λ (n : NodeId). Among (bgp_session n a) (map (bgp_session first) later)) (sym eb) (among_map (bgp_session first) a later x)))
bgp_between (first ∷ later) a b (inr x) (inr y) other = elim (bgp_between later a b x y other) [
  | inl h ↦ inl (among_back (bgp_session a b) (map (bgp_session first) later) (bgp_sessions later) h)
  | inr h ↦ inr (among_back (bgp_session b a) (map (bgp_session first) later) (bgp_sessions later) h)
]

-- ---- which nodes have a session

pub turned_session : (scenario : Scenario) (kind : Kind) (a b : NodeId) → HaveSession scenario kind a b → HaveSession scenario kind b a
turned_session scenario kinds.Bgp a b h = (h.1, h.0, λ e. h.2 (sym e))
turned_session scenario kinds.Ldp a b h = (h.0, (let l = h.1 in record { link = l.link; listed = l.listed; ends = turn l.ends; priced = l.priced }))
  where
    turn : {w x y z : Type 0} → (w × x) ⊎ (y × z) → (y × z) ⊎ (w × x)
    turn (inl p) = inr p
    turn (inr p) = inl p

-- the ends of a session have one
pub session_has : (scenario : Scenario) (s : Session) → Among s (sessions scenario) → HaveSession scenario s.kind s.a s.b
session_has scenario s h = elim (among_either s (bgp_sessions (edges scenario)) (map ldp_session scenario.links) h) [
  | inl own ↦
      let two = bgp_of (edges scenario) s own in
      subst (λ (kind : Kind). HaveSession scenario kind s.a s.b) (sym two.kind) (
        edge_of scenario s.a two.first,
        edge_of scenario s.b two.second,
        λ e. bgp_apart (edges scenario) (edges_once 0 scenario.nodes) s own (λ i. record { 0 = e i }),
      )
  | inr other ↦
      let found = mapped ldp_session s scenario.links other in
      let link : Link = found.0 in
      subst (λ (x : Session). HaveSession scenario x.kind x.a x.b) (sym found.2)
      (link.cost, record { link = link; listed = contained scenario.links link found.1; ends = inl (refl, refl); priced = refl })
]
