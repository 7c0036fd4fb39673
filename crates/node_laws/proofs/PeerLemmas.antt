-- What a step of an edge puts to its BGP peers waits for them.
use Rattle.std.proofs.Common.{◌≡◌, ◌∙◌, refl, sym, ap, subst, ℕ, ◌+◌, ◌<◌, ◌≤◌, ◌==◌, Bool, true, false, cond, List, [], ◌∷◌, ◌++◌, map, inl, inr, None, Some, arith}
use Rattle.std.specs.List.{flat_map}
use Rattle.std.specs.Ordering.{eq_by_cmp, nat_cmp}
use Rattle.std.specs.Cmp.{unsigned_tied}
use Rattle.std.specs.FinMap as maps
use Rattle.std.specs.FinMap.{FinMap}
use Rattle.std.proofs.lemmas.Bool.{eq-eqb, ne_eqb}
use Rattle.std.proofs.lemmas.Cmp.{nat_eq_equiv}
use Rattle.std.proofs.lemmas.List.{append-nil, append_assoc}
use Rattle.mv_base.specs.Lists.{Among}
use Rattle.mv_base.specs.declared.addr.Addr.{Addr}
use Rattle.mv_base.specs.declared.ids.NodeId.{NodeId}
use Rattle.edge_defs.specs.bgp_messages.declared.bgp_attributes.key.Key.{Key}
use Rattle.mv_base.specs.declared.table_defs.change.Change.{Change}
use Rattle.scenario_defs.specs.declared.event.Kind.TheVariants as kinds
use Rattle.scenario_defs.specs.declared.scenario.Node.{Node}
use Rattle.label_defs.specs.LabelData.{Place}
use Rattle.label_defs.specs.Steps.{step_puts}
use Rattle.network_defs.specs.session_defs.PeerSession.{peer_cmp}
use Rattle.network_defs.specs.session_defs.System.{Put}
use Rattle.edge_defs.specs.Edge.{Control}
use Rattle.edge_defs.specs.Held.{put_to}
use Rattle.edge_defs.specs.Keys.{Value}
use Rattle.edge_defs.specs.Place.{EdgePlace, addr_of, label_place}
use Rattle.edge_defs.specs.Steps.{Call, Customer, Update, Label, Raised, Noticed, Timers, Rerouted}
use Rattle.edge_defs.specs.Steps.{EdgeStepped, LabelStep, edge_step}
use Rattle.network_defs.specs.mvpn_model.Sessions.{edges, edges_from}
use Rattle.network_defs.specs.node_defs.EdgeState.{EdgeState, called, prepared, waiting_at, with_puts}
use Rattle.network_defs.specs.node_defs.Puts.{bgp_put, bgp_puts, label_puts, update_unit}
use Rattle.node_laws.specs.Places.{label_session}
use Rattle.node_laws.specs.Waits.{bgp_session, kept_for, update_octets}
use Rattle.node_laws.proofs.EdgeLemmas.{edge_after, each_stays}
use Rattle.node_laws.proofs.OctetLemmas.{others_stay, then_equal, waiting_less, waiting_then}
use Rattle.node_laws.proofs.RowLemmas.{puts_again}

bgp_tie : (a b : NodeId) → eq_by_cmp peer_cmp (bgp_session a) (bgp_session b) ≡ (a.0 == b.0)
bgp_tie a b = then_equal (nat_cmp a.0 b.0) ∙ unsigned_tied a.0 b.0

apart : (a b : NodeId) → (a ≡ b → ⊥) → (a.0 == b.0) ≡ false
apart a b unequal = ne_eqb a.0 b.0 (λ e. unequal (λ i. record { 0 = e i }))

-- ---- changes to one peer

module _ (me : NodeId) where
  own_waits : (to : NodeId) (changes : List (Change Key Value)) (waiting : FinMap peer_cmp (List ℕ))
      → waiting_at (with_puts (map (bgp_put me to) changes) waiting) (bgp_session to) ≡ waiting_at waiting (bgp_session to) ++ update_octets changes
  own_waits to [] waiting = sym (append-nil (waiting_at waiting (bgp_session to)))
  own_waits to (change ∷ more) waiting =
      let old : List ℕ = waiting_at waiting (bgp_session to) in
      let octets : List ℕ = (update_unit change).octets in
      own_waits to more (maps.insert waiting (bgp_session to) (old ++ octets))
      ∙ ap (λ (l : List ℕ). l ++ update_octets more)
      (waiting_then waiting (bgp_session to) (bgp_session to) (old ++ octets)
      ∙ ap (λ (b : Bool). cond b (old ++ octets) old) (bgp_tie to to ∙ eq-eqb to.0 to.0 refl))
      ∙ append_assoc old octets (update_octets more)

  other_stays : (to peer : NodeId) → (peer.0 == to.0) ≡ false → (changes : List (Change Key Value)) (waiting : FinMap peer_cmp (List ℕ))
      → waiting_at (with_puts (map (bgp_put me to) changes) waiting) (bgp_session peer) ≡ waiting_at waiting (bgp_session peer)
  other_stays to peer e [] waiting = refl
  other_stays to peer e (change ∷ more) waiting =
      let octets : List ℕ = waiting_at waiting (bgp_session to) ++ (update_unit change).octets in
      other_stays to peer e more (maps.insert waiting (bgp_session to) octets)
      ∙ waiting_then waiting (bgp_session to) (bgp_session peer) octets
      ∙ ap (λ (b : Bool). cond b octets (waiting_at waiting (bgp_session peer))) (bgp_tie peer to ∙ e)

-- ---- changes to each of the edges

from_number : (peer : NodeId) (number : ℕ) (nodes : List Node) → Among peer (edges_from number nodes) → number ≤ peer.0
from_number peer number [] among = absurd among
from_number peer number (node ∷ more) among =
    let later : Among peer (edges_from (number + 1) more) → number ≤ peer.0 =
    λ a. (let le = from_number peer (number + 1) more a in omega (arith, le)) in
    elim node.edge as (λ b. Among peer (cond b (record { 0 = number } ∷ edges_from (number + 1) more) (edges_from (number + 1) more))
    → number ≤ peer.0) [
      | true ↦ λ a. elim a [ inl e ↦ (let same = ap (λ (n : NodeId). n.0) e in omega (arith, same)) | inr a ↦ later a ]
      | false ↦ later
    ] among

module _ (me : NodeId) (told : NodeId → List (Change Key Value)) where
  abbrev to_all : List NodeId → List Put
  to_all peers = flat_map (λ to. map (bgp_put me to) (told to)) peers

  one_more : (to peer : NodeId) (more : List NodeId) (waiting : FinMap peer_cmp (List ℕ))
      → waiting_at (with_puts (to_all (to ∷ more)) waiting) (bgp_session peer)
      ≡ waiting_at (with_puts (to_all more) (with_puts (map (bgp_put me to) (told to)) waiting)) (bgp_session peer)
  one_more to peer more waiting =
      ap (λ (w : FinMap peer_cmp (List ℕ)). waiting_at w (bgp_session peer)) (puts_again (map (bgp_put me to) (told to)) (to_all more) waiting)

  none_waits : (peer : NodeId) (peers : List NodeId) → (Among peer peers → ⊥) → (waiting : FinMap peer_cmp (List ℕ))
      → waiting_at (with_puts (to_all peers) waiting) (bgp_session peer) ≡ waiting_at waiting (bgp_session peer)
  none_waits peer [] none waiting = refl
  none_waits peer (to ∷ more) none waiting =
      one_more to peer more waiting
      ∙ none_waits peer more (λ a. none (inr a)) (with_puts (map (bgp_put me to) (told to)) waiting)
      ∙ other_stays me to peer (apart peer to (λ e. none (inl e))) (told to) waiting

  -- the changes to the peer wait for it after what waits already
  abbrev Waits : NodeId → List NodeId → Type 0
  Waits peer peers =
      (waiting : FinMap peer_cmp (List ℕ)) → waiting_at (with_puts (to_all peers) waiting) (bgp_session peer) ≡ waiting_at waiting (bgp_session peer)
      ++ update_octets (told peer)

  first_waits : (peer : NodeId) (more : List NodeId) → (Among peer more → ⊥) → Waits peer (peer ∷ more)
  first_waits peer more none waiting =
      one_more peer peer more waiting
      ∙ none_waits peer more none (with_puts (map (bgp_put me peer) (told peer)) waiting)
      ∙ own_waits me peer (told peer) waiting

  later_waits : (to peer : NodeId) (more : List NodeId) → (peer.0 == to.0) ≡ false → Waits peer more → Waits peer (to ∷ more)
  later_waits to peer more e later waiting =
      one_more to peer more waiting
      ∙ later (with_puts (map (bgp_put me to) (told to)) waiting)
      ∙ ap (λ (l : List ℕ). l ++ update_octets (told peer)) (other_stays me to peer e (told to) waiting)

  edge_waits : (peer : NodeId) (number : ℕ) (nodes : List Node) → Among peer (edges_from number nodes) → Waits peer (edges_from number nodes)
  edge_waits peer number [] among = absurd among
  edge_waits peer number (node ∷ more) among =
      let first : NodeId = record { 0 = number } in
      let rest : List NodeId = edges_from (number + 1) more in
      let above : Among peer rest → number < peer.0 = λ a. (let le = from_number peer (number + 1) more a in omega (arith, le)) in
      let later : Among peer rest → Waits peer rest = edge_waits peer (number + 1) more in
      elim node.edge as (λ b. Among peer (cond b (first ∷ rest) rest) → Waits peer (cond b (first ∷ rest) rest)) [
        | true ↦ λ a. elim a [
          | inl e ↦
              let none : Among peer rest → ⊥ = λ a. (let lt = above a in let same = ap (λ (n : NodeId). n.0) e in omega (arith, lt, same)) in
              subst (λ (n : NodeId). Waits peer (n ∷ rest)) e (first_waits peer rest none)
          | inr a ↦ later_waits first peer rest (ne_eqb peer.0 number (λ e. (let lt = above a in omega (arith, lt, e)))) (later a)
        ]
        | false ↦ later
      ] among

module _ (place : EdgePlace) (old new : Control) where
  pub peers_wait : (waiting : FinMap peer_cmp (List ℕ)) (peer : NodeId) → Among peer (edges place.scenario)
      → waiting_at (with_puts (bgp_puts place old new) waiting) (bgp_session peer) ≡ waiting_at waiting (bgp_session peer)
      ++ update_octets (put_to place old new peer)
  peers_wait waiting peer among = edge_waits place.me (put_to place old new) peer 0 place.scenario.nodes among waiting

  pub others_wait : (waiting : FinMap peer_cmp (List ℕ)) (peer : NodeId) → (Among peer (edges place.scenario) → ⊥)
      → waiting_at (with_puts (bgp_puts place old new) waiting) (bgp_session peer) ≡ waiting_at waiting (bgp_session peer)
  others_wait waiting peer none = none_waits place.me (put_to place old new) peer (edges place.scenario) none waiting

  pub labels_wait : (waiting : FinMap peer_cmp (List ℕ)) (peer : NodeId)
      → waiting_at (with_puts (bgp_puts place old new) waiting) (label_session peer) ≡ waiting_at waiting (label_session peer)
  labels_wait waiting peer = each_stays place.me (put_to place old new) (edges place.scenario) waiting peer

-- ---- a step

kept : (call : Call) (old : EdgeState) (peer : NodeId)
    → waiting_at (prepared call old).waiting (bgp_session peer) ≡ kept_for call peer (waiting_at old.waiting (bgp_session peer))
kept (Update from message) old peer = refl
kept (Label neighbour message) old peer = refl
kept (Customer call) old peer = refl
kept (Raised kind from) old peer = refl
kept (Noticed kinds.Bgp lost) old peer =
    waiting_less old.waiting (bgp_session lost) (bgp_session peer)
    ∙ ap (λ (b : Bool). cond b [] (waiting_at old.waiting (bgp_session peer))) (bgp_tie peer lost ∙ nat_eq_equiv.symm peer.0 lost.0)
kept (Noticed kinds.Ldp lost) old peer = waiting_less old.waiting (label_session lost) (bgp_session peer)
kept Timers old peer = refl
kept Rerouted old peer = refl

row_stays : (me : NodeId) (addr : Addr) (place : Place) (now : ℕ) (row : List LabelStep) (waiting : FinMap peer_cmp (List ℕ)) (peer : NodeId)
    → waiting_at (with_puts (flat_map (label_puts me addr place now) row) waiting) (bgp_session peer) ≡ waiting_at waiting (bgp_session peer)
row_stays me addr place now [] waiting peer = refl
row_stays me addr place now (step ∷ more) waiting peer =
    let puts : List Put = label_puts me addr place now step in
    ap (λ (w : FinMap peer_cmp (List ℕ)). waiting_at w (bgp_session peer)) (puts_again puts (flat_map (label_puts me addr place now) more) waiting)
    ∙ row_stays me addr place now more (with_puts puts waiting) peer
    ∙ others_stay me addr (step_puts place now step.old step.call step.new.puts) waiting peer

module _ (place : EdgePlace) (now : ℕ) (call : Call) (old : EdgeState) (new : EdgeStepped) (peer : NodeId) (e : old.spent ≡ None)
    (h : edge_step place now old.edge call ≡ Some new) where
  -- what its label steps put does not wait for a BGP peer
  bgp_alone : waiting_at (called place now old call).waiting (bgp_session peer)
      ≡ waiting_at (with_puts (bgp_puts place old.edge.control new.edge.control) (prepared call old).waiting) (bgp_session peer)
  bgp_alone =
      let bgp : List Put = bgp_puts place old.edge.control new.edge.control in
      let told : List Put =
      flat_map (label_puts place.me (addr_of place.scenario place.me) (label_place place.scenario place.core place.me) now) new.row in
      ap (λ (x : EdgeState). waiting_at x.waiting (bgp_session peer)) (edge_after place now call old new e h)
      ∙ ap (λ (w : FinMap peer_cmp (List ℕ)). waiting_at w (bgp_session peer)) (puts_again bgp told (prepared call old).waiting)
      ∙ row_stays place.me (addr_of place.scenario place.me) (label_place place.scenario place.core place.me) now new.row
      (with_puts bgp (prepared call old).waiting) peer

  pub step_waits : Among peer (edges place.scenario)
      → waiting_at (called place now old call).waiting (bgp_session peer)
      ≡ kept_for call peer (waiting_at old.waiting (bgp_session peer)) ++ update_octets (put_to place old.edge.control new.edge.control peer)
  step_waits among =
      bgp_alone
      ∙ peers_wait place old.edge.control new.edge.control (prepared call old).waiting peer among
      ∙ ap (λ (l : List ℕ). l ++ update_octets (put_to place old.edge.control new.edge.control peer)) (kept call old peer)

  pub step_leaves : (Among peer (edges place.scenario) → ⊥)
      → waiting_at (called place now old call).waiting (bgp_session peer) ≡ kept_for call peer (waiting_at old.waiting (bgp_session peer))
  step_leaves none = bgp_alone ∙ others_wait place old.edge.control new.edge.control (prepared call old).waiting peer none ∙ kept call old peer
