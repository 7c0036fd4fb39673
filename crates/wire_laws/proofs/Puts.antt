-- What an edge puts waits for its sessions.
use Rattle.std.proofs.Common.{◌≡◌, ◌∙◌, refl, sym, ap, ℕ, ◌==◌, ◌&&◌, Bool, true, false, cond, inl, inr, List, [], ◌∷◌, ◌++◌, map}
use Rattle.std.specs.List.{AllByRecursion, flat_map}
use Rattle.std.specs.Ordering.{eq_by_cmp}
use Rattle.std.specs.FinMap as maps
use Rattle.std.specs.FinMap.{FinMap}
use Rattle.std.proofs.lemmas.List.{append-nil}
use Rattle.mv_base.specs.declared.addr.Addr.{Addr}
use Rattle.mv_base.specs.declared.ids.NodeId.{NodeId}
use Rattle.scenario_defs.specs.Kinds.{same_kind}
use Rattle.scenario_defs.specs.declared.event.Kind.{Kind}
use Rattle.scenario_defs.specs.declared.event.Kind.TheVariants as kinds
use Rattle.label_defs.specs.Keys.{node_cmp}
use Rattle.label_defs.specs.LabelData.{Place}
use Rattle.label_defs.specs.Steps.{Numbered, step_puts}
use Rattle.label_defs.proofs.KeyLemmas.{apart, node_apart, node_cases, node_cmp_exact, node_cmp_total, node_equal, node_itself, ties}
use Rattle.network_defs.specs.session_defs.Message.{same_direction}
use Rattle.network_defs.specs.session_defs.PeerSession.{PeerSession, peer_cmp}
use Rattle.network_defs.specs.session_defs.System.{Put, octets_over}
use Rattle.mv_base.specs.declared.table_defs.change.Change.{Change}
use Rattle.bgp_messages.specs.declared.bgp_attributes.key.Key.{Key}
use Rattle.edge_defs.specs.Edge.{Control, EdgeData}
use Rattle.edge_defs.specs.Held.{put_to}
use Rattle.edge_defs.specs.Keys.{Value}
use Rattle.edge_defs.specs.Place.{EdgePlace, addr_of, label_place}
use Rattle.edge_defs.specs.Steps.{EdgeStepped, LabelStep}
use Rattle.mvpn_model.specs.Sessions.{edges}
use Rattle.network_defs.specs.node_defs.EdgeState.{edge_puts, session_of, waiting_at, with_puts}
use Rattle.network_defs.specs.node_defs.Puts.{bgp_put, bgp_puts, label_put, label_puts}
use Rattle.node_laws.proofs.OctetLemmas.{then_equal, waiting_then}
use Rattle.network_defs.specs.Counts.{direction}
use Rattle.wire_laws.specs.Edges.{session_with}

-- ---- who puts

-- each is put by that node
abbrev pub AreFrom : NodeId → List Put → Type 0
AreFrom n puts = AllByRecursion (λ put. put.over.from ≡ n) puts

both_from : (n : NodeId) (a b : List Put) → AreFrom n a → AreFrom n b → AreFrom n (a ++ b)
both_from n [] b h k = k
both_from n (put ∷ a) b h k = (h.0, both_from n a b h.1 k)

changes_from : (me peer : NodeId) (changes : List (Change Key Value)) → AreFrom me (map (bgp_put me peer) changes)
changes_from me peer [] = tt
changes_from me peer (change ∷ more) = (refl, changes_from me peer more)

peers_from : (place : EdgePlace) (old new : Control) (peers : List NodeId)
    → AreFrom place.me (flat_map (λ peer. map (bgp_put place.me peer) (put_to place old new peer)) peers)
peers_from place old new [] = tt
peers_from place old new (peer ∷ more) =
    both_from place.me (map (bgp_put place.me peer) (put_to place old new peer)) _ (changes_from place.me peer (put_to place old new peer))
    (peers_from place old new more)

pub messages_from : (me : NodeId) (addr : Addr) (messages : List Numbered) → AreFrom me (map (label_put me addr) messages)
messages_from me addr [] = tt
messages_from me addr (message ∷ more) = (refl, messages_from me addr more)

row_from : (me : NodeId) (addr : Addr) (place : Place) (now : ℕ) (row : List LabelStep) → AreFrom me (flat_map (label_puts me addr place now) row)
row_from me addr place now [] = tt
row_from me addr place now (step ∷ more) =
    both_from me (label_puts me addr place now step) _ (messages_from me addr (step_puts place now step.old step.call step.new.puts))
    (row_from me addr place now more)

pub edge_from : (place : EdgePlace) (now : ℕ) (old : EdgeData) (new : EdgeStepped) → AreFrom place.me (edge_puts place now old new)
edge_from place now old new =
    both_from place.me (bgp_puts place old.control new.edge.control) _ (peers_from place old.control new.edge.control (edges place.scenario))
    (row_from place.me (addr_of place.scenario place.me) (label_place place.scenario place.core place.me) now new.row)

-- ---- what waits

pub append_assoc : {X : Type 0} (xs ys zs : List X) → (xs ++ ys) ++ zs ≡ xs ++ (ys ++ zs)
append_assoc [] ys zs = refl
append_assoc (x ∷ xs) ys zs = ap (λ l. x ∷ l) (append_assoc xs ys zs)

pub one_node : (a b : NodeId) → eq_by_cmp node_cmp a b ≡ (b.0 == a.0)
one_node a b = elim (node_cases a b) [
  | inl e ↦ ties node_cmp node_cmp_total a b e ∙ sym (node_itself b a (sym e))
  | inr ne ↦ apart node_cmp node_cmp_exact a b ne ∙ sym (node_apart b a (λ e. ne (sym e)))
]

pub tie : (k own : Kind) (a b : NodeId) → eq_by_cmp peer_cmp (session_with k a) (session_with own b) ≡ (same_kind own k && (b.0 == a.0))
tie kinds.Bgp kinds.Bgp a b = then_equal _ ∙ one_node a b
tie kinds.Ldp kinds.Ldp a b = then_equal _ ∙ one_node a b
tie kinds.Bgp kinds.Ldp a b = refl
tie kinds.Ldp kinds.Bgp a b = refl

pub same_session : (k own : Kind) (a b : NodeId) → eq_by_cmp peer_cmp (session_with k a) (session_with own b) ≡ true
    → session_with k a ≡ session_with own b
same_session kinds.Bgp kinds.Bgp a b e = ap (session_with kinds.Bgp) (sym (node_equal b a (sym (tie kinds.Bgp kinds.Bgp a b) ∙ e)))
same_session kinds.Ldp kinds.Ldp a b e = ap (session_with kinds.Ldp) (sym (node_equal b a (sym (tie kinds.Ldp kinds.Ldp a b) ∙ e)))
same_session kinds.Bgp kinds.Ldp a b e = absurd cc
same_session kinds.Ldp kinds.Bgp a b e = absurd cc

-- a put of the node goes over the direction exactly where it goes to its session
over_session : (n : NodeId) (kind : Kind) (peer : NodeId) (put : Put) → put.over.from ≡ n
    → same_direction put.over (direction kind n peer) ≡ eq_by_cmp peer_cmp (session_with kind peer) (session_of put)
over_session n kind peer put from =
    (λ i. same_kind put.over.kind kind && (own i) && (put.over.to.0 == peer.0))
    ∙ (by (same_kind put.over.kind kind) (put.over.to.0 == peer.0) ∙ sym (tie kind put.over.kind peer put.over.to))
  where
    own : (put.over.from.0 == n.0) ≡ true
    own = node_itself put.over.from n from

    by : (a b : Bool) → (a && true && b) ≡ (a && b)
    by true b = refl
    by false b = refl

step : (n : NodeId) (kind : Kind) (peer : NodeId) (b : Bool) (waits octets more : List ℕ)
    → cond b (waits ++ octets) waits ++ more ≡ waits ++ (cond b octets [] ++ more)
step n kind peer true waits octets more = append_assoc waits octets more
step n kind peer false waits octets more = refl

pub puts_wait : (n : NodeId) (kind : Kind) (peer : NodeId) (puts : List Put) (waiting : FinMap peer_cmp (List ℕ)) → AreFrom n puts
    → waiting_at (with_puts puts waiting) (session_with kind peer) ≡ waiting_at waiting (session_with kind peer)
    ++ octets_over (direction kind n peer) puts
puts_wait n kind peer [] waiting from = sym (append-nil (waiting_at waiting (session_with kind peer)))
puts_wait n kind peer (put ∷ more) waiting from =
    let s = session_with kind peer in
    puts_wait n kind peer more (maps.insert waiting (session_of put) (waiting_at waiting (session_of put) ++ put.unit.octets)) from.1
    ∙ (ap (λ (l : List ℕ). l ++ octets_over (direction kind n peer) more)
    (waiting_then waiting (session_of put) s (waiting_at waiting (session_of put) ++ put.unit.octets)
    ∙ here (eq_by_cmp peer_cmp s (session_of put)) refl)
    ∙ (step n kind peer (eq_by_cmp peer_cmp s (session_of put)) (waiting_at waiting s) put.unit.octets (octets_over (direction kind n peer) more)
    ∙ ap (λ (b : Bool). waiting_at waiting s ++ (cond b put.unit.octets [] ++ octets_over (direction kind n peer) more))
    (sym (over_session n kind peer put from.0))))
  where
    here : (b : Bool) → eq_by_cmp peer_cmp (session_with kind peer) (session_of put) ≡ b
        → cond b (waiting_at waiting (session_of put) ++ put.unit.octets) (waiting_at waiting (session_with kind peer))
        ≡ cond b (waiting_at waiting (session_with kind peer) ++ put.unit.octets) (waiting_at waiting (session_with kind peer))
    here true e = ap (λ (o : PeerSession). waiting_at waiting o ++ put.unit.octets) (sym (same_session kind put.over.kind peer put.over.to e))
    here false e = refl
