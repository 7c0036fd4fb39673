-- What calls on the streams of one protocol make of the streams of all sessions.
use Rattle.std.proofs.Common.{◌≡◌, ℕ, Bool, false, cond, List, map, Option, Some, None, option_map, inl, inr, refl, sym, ap, subst, ◌∙◌}
use Rattle.std.specs.FinMap as maps
use Rattle.std.specs.FinMap.{FinMap}
use Rattle.mv_base.specs.declared.ids.NodeId.{NodeId}
use Rattle.mv_base.specs.framing.Cut.{Front}
use Rattle.mv_base.specs.framing.Feed.{Fed, fed}
use Rattle.mv_base.specs.framing.Feeding.{NextIs}
use Rattle.indexmap.specs.IndexMap.{get}
use Rattle.network_defs.proofs.label_defs.KeyLemmas.{node_cases, node_itself, node_apart}
use Rattle.scenario_defs.specs.declared.event.Kind.{Kind}
use Rattle.network_defs.specs.session_defs.Message.{SessionMessage, SessionFault, as_front, front_of}
use Rattle.network_defs.specs.session_defs.Octets.{Stream}
use Rattle.network_defs.specs.session_defs.PeerSession.{PeerSession, peer_cmp, stream_at, fault_at}
use Rattle.edge_streams.specs.Kept.{NodeMap, is_node, PutAt, ChangedAt, NextAt, session, fault_as, fault_in}
use Rattle.edge_streams.specs.Streams.{with_octets, TakesFirst}
use Rattle.edge_streams.proofs.FedAs.{fed_same}
use Rattle.edge_streams.proofs.SessionMaps.{Protocol, stream_of, Has, Changes, Sets, inserted, stays, sets}
use Rattle.edge_streams.proofs.DrainLemmas.{stream_or}

-- ---- what a session had

module _ {M E : Type 0} (p : Protocol M E) (streams : FinMap peer_cmp Stream) (peer : NodeId) where
  fault_here : (here : Option (Fed M E)) → maps.get streams (session p.kind peer) ≡ option_map (stream_of p) here
      → fault_as p.fault (fault_in here) ≡ fault_at streams (session p.kind peer)
  fault_here None e = sym (ap (λ (o : Option Stream). (stream_or o).fault) e)
  fault_here (Some d) e = sym (ap (λ (o : Option Stream). (stream_or o).fault) e)

  -- the fault of the stream of one protocol is the session's
  pub failed : (own : NodeMap (Fed M E)) → Has p own streams
      → fault_as p.fault (fault_in (get is_node own peer)) ≡ fault_at streams (session p.kind peer)
  failed own has = fault_here (get is_node own peer) (has peer)

-- ---- what a change at one session makes of all

feeds_by : (kind : Kind) (peer : NodeId) (octets : List ℕ) (old new : FinMap peer_cmp Stream) (here : Option Stream)
    → maps.get old (session kind peer) ≡ here
    → Sets kind peer (option_map (λ d. fed (front_of kind) d octets) here) old new
    → new ≡ elim here [ None ↦ old | Some stream ↦ maps.insert old (session kind peer) (fed (front_of kind) stream octets) ]
feeds_by kind peer octets old new None e sets = stays kind peer None old new e sets
feeds_by kind peer octets old new (Some stream) e sets = inserted kind peer (fed (front_of kind) stream octets) old new sets

module _ {M E : Type 0} (p : Protocol M E) (peer : NodeId) (old new : FinMap peer_cmp Stream) where
  abbrev own : PeerSession
  own = session p.kind peer

  map_fed : (octets : List ℕ) (o : Option (Fed M E)) → option_map (stream_of p) (option_map (λ d. fed p.front d octets) o)
      ≡ option_map (λ d. fed (λ xs. as_front p.message p.fault (p.front xs)) d octets) (option_map (stream_of p) o)
  map_fed octets None = refl
  map_fed octets (Some d) = ap (λ (s : Stream). Some s) (sym (fed_same p.message p.fault p.front d octets))

  feeds : (octets : List ℕ) (here : Option (Fed M E)) → maps.get old own ≡ option_map (stream_of p) here
      → Sets p.kind peer (option_map (stream_of p) (option_map (λ d. fed p.front d octets) here)) old new
      → new ≡ with_octets own octets old
  feeds octets here e sets =
      let same : option_map (stream_of p) (option_map (λ d. fed p.front d octets) here)
      ≡ option_map (λ d. fed (front_of p.kind) d octets) (option_map (stream_of p) here) =
      map_fed octets here ∙ ap (λ (f : List ℕ → Front SessionMessage SessionFault). option_map (λ d. fed f d octets)
      (option_map (stream_of p) here)) (sym p.fronts) in
      feeds_by p.kind peer octets old new (option_map (stream_of p) here) e
      (subst (λ (o : Option Stream). Sets p.kind peer o old new) same sets)
      ∙ ap (λ (o : Option Stream). elim o [ None ↦ old | Some stream ↦ maps.insert old own (fed (front_of p.kind) stream octets) ])
      (sym e)

  at_here : (here : Option Stream) → maps.get old own ≡ here → (s : Stream) → here ≡ Some s → stream_at old own ≡ s
  at_here here e s some = ap stream_or (e ∙ some)

  takes_one : (d left : Fed M E) (result : Option M) → maps.get old own ≡ Some (stream_of p d)
      → Sets p.kind peer (Some (stream_of p left)) old new → NextIs d result left
      → TakesFirst own old (option_map p.message result) new
  takes_one d left None e sets is =
      let at = at_here (Some (stream_of p d)) e (stream_of p d) refl in (
        ap (λ (s : Stream). s.waiting) at ∙ ap (map p.message) is.0,
        stays p.kind peer (Some (stream_of p left)) old new (e ∙ ap (λ (x : Fed M E). Some (stream_of p x)) (sym is.1)) sets,
      )
  takes_one d left (Some m) e sets is =
      let at = at_here (Some (stream_of p d)) e (stream_of p d) refl in
      let more : List SessionMessage = map p.message left.waiting in
      let now : stream_of p left ≡ record (stream_at old own) { waiting = more } =
      ap (stream_of p) is.1 ∙ ap (λ (s : Stream). record s { waiting = more }) (sym at) in (
        more,
        ap (λ (s : Stream). s.waiting) at ∙ ap (map p.message) is.0,
        inserted p.kind peer (stream_of p left) old new sets ∙ ap (λ (s : Stream). maps.insert old own s) now,
      )

  takes : (here there : Option (Fed M E)) (result : Option M) → NextAt here result there → maps.get old own ≡ option_map (stream_of p) here
      → Sets p.kind peer (option_map (stream_of p) there) old new → TakesFirst own old (option_map p.message result) new
  takes None there result next e sets =
      let none : option_map (stream_of p) there ≡ None = ap (option_map (stream_of p)) next.1 in
      subst (λ (r : Option M). TakesFirst own old (option_map p.message r) new) (sym next.0) (
        ap (λ (o : Option Stream). (stream_or o).waiting) e,
        stays p.kind peer None old new e (subst (λ (o : Option Stream). Sets p.kind peer o old new) none sets),
      )
  takes (Some d) there result next e sets =
      takes_one d next.0 result e (subst (λ (o : Option (Fed M E)). Sets p.kind peer (option_map (stream_of p) o) old new) next.1 sets) next.2

-- ---- one node and every other

-- what the node has now, and every other node what it had
one_changes : {X : Type 0} (old new : NodeMap X) (peer : NodeId) → ((q : NodeId) → is_node peer q ≡ false → get is_node new q ≡ get is_node old q)
    → PutAt peer (get is_node new peer) old new
one_changes old new peer others q = elim (node_cases peer q) [
  | inl e ↦ ap (get is_node new) (sym e) ∙ ap (λ (b : Bool). cond b (get is_node new peer) (get is_node old q)) (sym (node_itself peer q e))
  | inr ne ↦ others q (node_apart peer q ne) ∙ ap (λ (b : Bool). cond b (get is_node new peer) (get is_node old q)) (sym (node_apart peer q ne))
]

-- what is made of what the node had
one_changed : {X : Type 0} (f : X → X) (old new : NodeMap X) (peer : NodeId) → ChangedAt peer f old new
    → PutAt peer (option_map f (get is_node old peer)) old new
one_changed f old new peer each q = each q ∙ elim (node_cases peer q) [
  | inl e ↦ ap (λ (x : NodeId). cond (is_node peer q) (option_map f (get is_node old x)) (get is_node old q)) (sym e)
  | inr ne ↦ ap (λ (b : Bool). cond b (option_map f (get is_node old q)) (get is_node old q)) (node_apart peer q ne)
      ∙ ap (λ (b : Bool). cond b (option_map f (get is_node old peer)) (get is_node old q)) (sym (node_apart peer q ne))
]

-- ---- calls on the streams of one protocol

module _ {M E : Type 0} (p : Protocol M E) (before after : NodeMap (Fed M E)) (old new : FinMap peer_cmp Stream) (is : Changes p before after old new)
    (peer : NodeId) where
  pub takes_octets : (octets : List ℕ) → ChangedAt peer (λ d. fed p.front d octets) before after
      → new ≡ with_octets (session p.kind peer) octets old
  takes_octets octets each =
      feeds p peer old new octets (get is_node before peer) (is.had peer) (sets p before after old new is peer
      (option_map (λ d. fed p.front d octets) (get is_node before peer)) (one_changed (λ d. fed p.front d octets) before after peer each))

  pub takes_first : (result : Option M) → NextAt (get is_node before peer) result (get is_node after peer)
      → ((q : NodeId) → is_node peer q ≡ false → get is_node after q ≡ get is_node before q)
      → TakesFirst (session p.kind peer) old (option_map p.message result) new
  takes_first result next others =
      takes p peer old new (get is_node before peer) (get is_node after peer) result next (is.had peer)
      (sets p before after old new is peer (get is_node after peer) (one_changes before after peer others))
