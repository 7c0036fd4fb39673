-- What is handed out over the directions of a node, where what waits is what was put.
use Rattle.std.proofs.Common.{◌≡◌, ◌∙◌, refl, sym, ap, subst, ℕ, ◌==◌, ◌&&◌, inl, inr, Bool, true, false, cond, List, [], ◌∷◌, ◌++◌, Option, None, Some}
use Rattle.std.specs.FinMap as maps
use Rattle.std.specs.FinMap.{FinMap}
use Rattle.std.specs.Ordering.{eq_by_cmp}
use Rattle.std.specs.List.{flat_map}
use Rattle.std.proofs.lemmas.Bool.{and_parts}
use Rattle.mv_base.specs.Lists.{Among}
use Rattle.mv_base.specs.declared.ids.NodeId.{NodeId}
use Rattle.label_defs.specs.Keys.{node_cmp}
use Rattle.label_defs.specs.Node.{waiting_for}
use Rattle.label_defs.proofs.KeyLemmas.{node_cmp_total, node_equal, node_itself}
use Rattle.scenario_defs.specs.Kinds.{same_kind}
use Rattle.scenario_defs.specs.declared.event.Kind.{Kind}
use Rattle.scenario_defs.specs.declared.event.Kind.TheVariants as kinds
use Rattle.network_defs.specs.session_defs.Message.{same_direction}
use Rattle.network_defs.specs.session_defs.Octets.{OctetNetwork}
use Rattle.network_defs.specs.session_defs.PeerSession.{stream_at}
use Rattle.network_defs.specs.session_defs.System.{Put, octets_over}
use Rattle.network_defs.specs.declared.session_defs.direction.Direction.{Direction}
use Rattle.network_defs.proofs.session_defs.Lines.{direction_is, own_direction}
use Rattle.network_defs.specs.node_defs.EdgeState.{waiting_at}
use Rattle.network_nodes.proofs.node_laws.OctetLemmas.{waiting_less}
use Rattle.network_defs.specs.Acts.{put_line}
use Rattle.network_defs.specs.Counts.{direction}
use Rattle.network_defs.specs.Nodes as world
use Rattle.network_defs.specs.Nodes.{Nodes}
use Rattle.network_nodes.specs.wire_laws.AnyNodes as any
use Rattle.network_nodes.specs.wire_laws.AnyNodes.{AnyNode, IsNodeAt}
use Rattle.network_nodes.specs.wire_laws.CoreNodes.{ldp_with}
use Rattle.network_nodes.specs.wire_laws.Edges.{IsWay, session_with}
use Rattle.network_nodes.proofs.wire_laws.AmongLemmas.{Once}
use Rattle.network_nodes.proofs.wire_laws.Puts.{one_node, tie}
use Rattle.network_nodes.specs.NodeView.{handed_by, waiting_in}
use Rattle.network_acts.specs.control_plane.Handing.{handed_all, handed_over, handing_lines, handing_over, octets_for, octets_line}

-- ---- one direction

-- whether the session is that one
abbrev is_that : Kind → NodeId → Kind → NodeId → Bool
is_that a q b peer = same_kind b a && (peer.0 == q.0)

abbrev octets_or : Option (List ℕ) → List ℕ
octets_or None = []
octets_or (Some octets) = octets

if_none : (b : Bool) (other : Option (List ℕ)) → octets_or (cond b None other) ≡ cond b [] (octets_or other)
if_none true other = refl
if_none false other = refl

own_less : (own : FinMap node_cmp (List ℕ)) (node other : NodeId)
    → waiting_for (maps.remove own node) other ≡ cond (node.0 == other.0) [] (waiting_for own other)
own_less own node other =
    ap octets_or (maps.get-remove node_cmp_total own node other)
    ∙ (if_none (eq_by_cmp node_cmp other node) (maps.get own other) ∙ ap (λ (b : Bool). cond b [] (waiting_for own other)) (one_node other node))

-- nothing waits for the session that is handed out, and for each other one what waited
handed_for : (state : AnyNode) (kind other : Kind) (peer q : NodeId)
    → waiting_in (handed_by state kind peer) other q ≡ cond (is_that other q kind peer) [] (waiting_in state other q)
handed_for (any.Edge state) kind other peer q =
    waiting_less state.waiting (session_with kind peer) (session_with other q)
    ∙ ap (λ (b : Bool). cond b [] (waiting_at state.waiting (session_with other q))) (tie other kind q peer)
handed_for (any.CoreNode state) kinds.Ldp kinds.Ldp peer q = own_less state.node.waiting peer q
handed_for (any.CoreNode state) kinds.Ldp kinds.Bgp peer q = refl
handed_for (any.CoreNode state) kinds.Bgp kinds.Ldp peer q = refl
handed_for (any.CoreNode state) kinds.Bgp kinds.Bgp peer q = by (peer.0 == q.0)
  where
    by : (b : Bool) → ◌≡◌ {A = List ℕ} [] (cond b [] [])
    by true = refl
    by false = refl

kind_equal : (a b : Kind) → same_kind a b ≡ true → a ≡ b
kind_equal kinds.Bgp kinds.Bgp e = refl
kind_equal kinds.Ldp kinds.Ldp e = refl
kind_equal kinds.Bgp kinds.Ldp e = absurd cc
kind_equal kinds.Ldp kinds.Bgp e = absurd cc

kind_itself : (a : Kind) → same_kind a a ≡ true
kind_itself kinds.Bgp = refl
kind_itself kinds.Ldp = refl

-- a direction from the same node that is another one keeps what waits
others_wait : (state : AnyNode) (way other : Direction) → way.from ≡ other.from → (other ≡ way → ⊥)
    → octets_for (handed_over state way) other ≡ octets_for state other
others_wait state way other from apart = handed_for state way.kind other.kind way.to other.to ∙ by (is_that other.kind other.to way.kind way.to) refl
  where
    by : (b : Bool) → is_that other.kind other.to way.kind way.to ≡ b → cond b [] (octets_for state other) ≡ octets_for state other
    by false e = refl
    by true e =
        let parts = and_parts (same_kind way.kind other.kind) (way.to.0 == other.to.0) e in
        let kind = kind_equal way.kind other.kind parts.0 in
        let to = node_equal way.to other.to parts.1 in
        absurd (apart (λ i. record { kind = sym kind i; from = sym from i; to = sym to i }))

-- where nothing waits, nothing waits after it
still_none : (state : AnyNode) (way other : Direction) → octets_for state other ≡ [] → octets_for (handed_over state way) other ≡ []
still_none state way other none = handed_for state way.kind other.kind way.to other.to ∙ by (is_that other.kind other.to way.kind way.to)
  where
    by : (b : Bool) → cond b [] (octets_for state other) ≡ []
    by true = refl
    by false = none

own_gone : (state : AnyNode) (way : Direction) → octets_for (handed_over state way) way ≡ []
own_gone state way =
    handed_for state way.kind way.kind way.to way.to
    ∙ ap (λ (b : Bool). cond b [] (octets_for state way)) (λ i. kind_itself way.kind i && node_itself way.to way.to refl i)

-- ---- all directions of a node

all_none : (ways : List Direction) (state : AnyNode) (other : Direction) → octets_for state other ≡ [] → octets_for (handed_all state ways) other ≡ []
all_none [] state other none = none
all_none (way ∷ more) state other none = all_none more (handed_over state way) other (still_none state way other none)

-- nothing is left
pub emptied : (ways : List Direction) (state : AnyNode) (way : Direction) → Among way ways → octets_for (handed_all state ways) way ≡ []
emptied [] state way a = absurd a
emptied (first ∷ more) state way (inl same) =
    all_none more (handed_over state first) way (subst (λ (w : Direction). octets_for (handed_over state first) w ≡ []) (sym same)
    (own_gone state first))
emptied (first ∷ more) state way (inr later) = emptied more (handed_over state first) way later

module _ (n : NodeId) (puts : List Put) where
  -- what waits for these directions, all of which lead away from the node, is what was put over them
  pub record Waits (state : AnyNode) (ways : List Direction) : Type 0 where
    pub once : Once ways
    pub away : (way : Direction) → Among way ways → way.from ≡ n
    pub waits : (way : Direction) → Among way ways → octets_for state way ≡ octets_over way puts

  rest_waits : (state : AnyNode) (way : Direction) (more : List Direction) → Waits state (way ∷ more) → Waits (handed_over state way) more
  rest_waits state way more w = record {
    once = w.once.1;
    away = λ other a. w.away other (inr a);
    waits = λ other a.
        others_wait state way other (w.away way (inl refl) ∙ sym (w.away other (inr a)))
        (λ same. w.once.0 (subst (λ (d : Direction). Among d more) same a))
        ∙ w.waits other (inr a);
  }

  -- the lines are those of what was put
  pub lines_put : (ways : List Direction) (state : AnyNode) → Waits state ways → handing_lines state ways ≡ flat_map (put_line puts) ways
  lines_put [] state w = refl
  lines_put (way ∷ more) state w =
      λ i. octets_line way (w.waits way (inl refl) i) ++ lines_put more (handed_over state way) (rest_waits state way more w) i

  -- nothing goes over a direction that is none of them
  pub none_over : (ways : List Direction) (state : AnyNode) (over : Direction) → (Among over ways → ⊥) → handing_over state ways over ≡ []
  none_over [] state over none = refl
  none_over (way ∷ more) state over none = by (same_direction way over) refl (none_over more (handed_over state way) over (λ a. none (inr a)))
    where
      by : (b : Bool) → same_direction way over ≡ b → handing_over (handed_over state way) more over ≡ []
          → (cond b (octets_for state way) [] ++ handing_over (handed_over state way) more over) ≡ []
      by true e rest = absurd (none (inl (sym (direction_is way over e))))
      by false e rest = rest

  -- over each of them goes what was put
  pub goes_over : (ways : List Direction) (state : AnyNode) (over : Direction) → Waits state ways → Among over ways
      → handing_over state ways over ≡ octets_over over puts
  goes_over [] state over w a = absurd a
  goes_over (way ∷ more) state over w (inl same) =
      (λ i. cond (test i) (octets_for state way) []
      ++ none_over more (handed_over state way) over (λ a. w.once.0 (subst (λ (d : Direction). Among d more) same a)) i)
      ∙ (end (octets_for state way) ∙ (w.waits way (inl refl) ∙ ap (λ (d : Direction). octets_over d puts) (sym same)))
    where
      test : same_direction way over ≡ true
      test = subst (λ (d : Direction). same_direction way d ≡ true) (sym same) (own_direction way)

      end : (octets : List ℕ) → octets ++ [] ≡ octets
      end [] = refl
      end (octet ∷ more_octets) = ap (λ (l : List ℕ). octet ∷ l) (end more_octets)
  goes_over (way ∷ more) state over w (inr later) =
      (λ i. cond (test i) (octets_for state way) [] ++ goes_over more (handed_over state way) over (rest_waits state way more w) later i)
    where
      apart : (b : Bool) → same_direction way over ≡ b → b ≡ false
      apart false e = refl
      apart true e = absurd (w.once.0 (subst (λ (d : Direction). Among d more) (sym (direction_is way over e)) later))

      test : same_direction way over ≡ false
      test = apart (same_direction way over) refl

-- ---- the node after it

-- what else the node shares with the network
abbrev Shares : NodeId → OctetNetwork Nodes → AnyNode → Type 0
Shares n network (any.Edge state) = (network.state.node n ≡ world.Edge state.edge) × (state.spent ≡ None)
    × ((kind : Kind) (peer : NodeId) → stream_at state.streams (session_with kind peer) ≡ network.stream (direction kind peer n))
Shares n network (any.CoreNode state) = (network.state.node n ≡ world.CoreNode state.node.part) × (state.node.spent ≡ None)
    × ((peer : NodeId) → stream_at state.streams (ldp_with peer) ≡ network.stream (direction kinds.Ldp peer n))

shares_over : (n : NodeId) (network : OctetNetwork Nodes) (state : AnyNode) (kind : Kind) (peer : NodeId) → Shares n network state
    → Shares n network (handed_by state kind peer)
shares_over n network (any.Edge state) kind peer h = h
shares_over n network (any.CoreNode state) kinds.Bgp peer h = h
shares_over n network (any.CoreNode state) kinds.Ldp peer h = h

shares_all : (n : NodeId) (network : OctetNetwork Nodes) (ways : List Direction) (state : AnyNode) → Shares n network state
    → Shares n network (handed_all state ways)
shares_all n network [] state h = h
shares_all n network (way ∷ more) state h = shares_all n network more (handed_over state way) (shares_over n network state way.kind way.to h)

shares : (n : NodeId) (network : OctetNetwork Nodes) (puts : List Put) (state : AnyNode) → IsNodeAt n network puts state → Shares n network state
shares n network puts (any.Edge state) at = (at.node, at.unspent, at.streams)
shares n network puts (any.CoreNode state) at = (at.node, at.unspent, at.streams)

idle_at : (n : NodeId) (network : OctetNetwork Nodes) (state : AnyNode) → Shares n network state
    → ((kind : Kind) (peer : NodeId) → IsWay network.state.scenario (direction kind n peer) → waiting_in state kind peer ≡ [])
    → IsNodeAt n network [] state
idle_at n network (any.Edge state) h none = record { node = h.0; unspent = h.1; waiting = λ kind peer way. none kind peer way; streams = h.2 }
idle_at n network (any.CoreNode state) h none =
    record { node = h.0; unspent = h.1; waiting = λ peer way. none kinds.Ldp peer way; silent = λ peer. refl; streams = h.2 }

-- a node of the network that has handed out all that it put
pub handed_at : (n : NodeId) (network : OctetNetwork Nodes) (puts : List Put) (ways : List Direction) (state : AnyNode)
    → IsNodeAt n network puts state
    → ((kind : Kind) (peer : NodeId) → IsWay network.state.scenario (direction kind n peer) → Among (direction kind n peer) ways)
    → IsNodeAt n network [] (handed_all state ways)
handed_at n network puts ways state at each =
    idle_at n network (handed_all state ways) (shares_all n network ways state (shares n network puts state at))
    (λ kind peer way. emptied ways state (direction kind n peer) (each kind peer way))

-- what waits in a node of the network is what it put
pub put_waits : (n : NodeId) (network : OctetNetwork Nodes) (puts : List Put) (state : AnyNode) → IsNodeAt n network puts state
    → (kind : Kind) (peer : NodeId) → IsWay network.state.scenario (direction kind n peer)
    → waiting_in state kind peer ≡ octets_over (direction kind n peer) puts
put_waits n network puts (any.Edge state) at kind peer way = at.waiting kind peer way
put_waits n network puts (any.CoreNode state) at kinds.Bgp peer way = sym (at.silent peer)
put_waits n network puts (any.CoreNode state) at kinds.Ldp peer way = at.waiting peer way
