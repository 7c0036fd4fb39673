-- Maps by session, and the maps by node that they are made of.
use Rattle.std.proofs.Common.{◌≡◌, ℕ, Bool, true, false, cond, List, [], ◌∷◌, ◌++◌, Option, Some, None, option_map, inl, inr, refl, sym, ap, ◌∙◌, arith, ◌&&◌}
use Rattle.std.specs.FinMap as maps
use Rattle.std.specs.FinMap.{FinMap, IsAntisymmetric, nat_cmp-IsAntisymmetric, slice_cmp-IsAntisymmetric, find, same_map}
use Rattle.std.specs.Cmp.{IsTotalOrder}
use Rattle.std.specs.Cmp.Lexicographic.{nat_list_cmp_total}
use Rattle.std.specs.Ordering.{eq_by_cmp}
use Rattle.std.specs.Map.{lookup}
use Rattle.std.proofs.lemmas.Cmp.{on_total}
use Rattle.std.proofs.lemmas.List.{append-nil}
use Rattle.indexmap.specs.IndexMap.{get}
use Rattle.mv_base.specs.declared.ids.NodeId.{NodeId}
use Rattle.mv_base.specs.framing.Cut.{Front}
use Rattle.mv_base.specs.framing.Feed.{Fed, unfed}
use Rattle.network_defs.proofs.label_defs.KeyLemmas.{node_cases, node_itself, node_apart, ties, apart}
use Rattle.scenario_defs.specs.declared.event.Kind.{Kind}
use Rattle.scenario_defs.specs.declared.event.Kind.TheVariants as kinds
use Rattle.scenario_defs.specs.Kinds.{same_kind}
use Rattle.bgp_messages.specs.declared.bgp_attributes.update.Message.{Message}
use Rattle.bgp_messages.specs.declared.bgp_attributes.fault.StreamFault.{StreamFault}
use Rattle.bgp_messages.specs.bgp_update.Reading.{message_front}
use Rattle.mldp.specs.declared.mldp_msgs.message.LabelMessage.{LabelMessage}
use Rattle.mldp.specs.declared.mldp_msgs.fault.LdpFault.{LdpFault}
use Rattle.mldp.specs.mldp_msgs.Reading.{pdu_front}
use Rattle.network_defs.specs.session_defs.Message.{SessionMessage, Bgp, Label, SessionFault, BgpFault, LabelFault, as_front, front_of}
use Rattle.network_defs.specs.session_defs.Octets.{Stream}
use Rattle.network_defs.specs.session_defs.PeerSession.{PeerSession, kind_number, peer_cmp}
use Rattle.edge_streams.specs.Kept.{NodeMap, is_node, PutAt, IsSame, session, entries_as, stream_as, bgp_stream, ldp_stream, streams_of}

-- ---- the order of sessions

abbrev numbers : PeerSession → List ℕ
numbers s = kind_number s.kind ∷ s.peer.0 ∷ []

pub peer_cmp_total : IsTotalOrder peer_cmp
peer_cmp_total = on_total numbers nat_list_cmp_total

one_kind : (a b : Kind) → kind_number a ≡ kind_number b → a ≡ b
one_kind kinds.Bgp kinds.Bgp e = refl
one_kind kinds.Ldp kinds.Ldp e = refl
one_kind kinds.Bgp kinds.Ldp e = absurd (omega (arith, e))
one_kind kinds.Ldp kinds.Bgp e = absurd (omega (arith, e))

one_session : (a b : PeerSession) → numbers a ≡ numbers b → a ≡ b
one_session a b e =
    let number : kind_number a.kind ≡ kind_number b.kind = cc in
    let peer : a.peer.0 ≡ b.peer.0 = cc in
    let kind = one_kind a.kind b.kind number in
    λ i. record { kind = kind i; peer = record { 0 = peer i } }

pub peer_cmp_exact : IsAntisymmetric peer_cmp
peer_cmp_exact a b h = one_session a b (slice_cmp-IsAntisymmetric nat_cmp-IsAntisymmetric (numbers a) (numbers b) h)

-- how the order tells sessions of one kind apart
tied_own : (kind : Kind) (q a : NodeId) → eq_by_cmp peer_cmp (session kind q) (session kind a) ≡ is_node q a
tied_own kind q a = elim (node_cases q a) [
  | inl e ↦ ties peer_cmp peer_cmp_total (session kind q) (session kind a) (ap (session kind) e) ∙ sym (node_itself q a e)
  | inr ne ↦ apart peer_cmp peer_cmp_exact (session kind q) (session kind a) (λ e. ne (ap (λ (s : PeerSession). s.peer) e)) ∙ sym (node_apart q a ne)
]

turned : (kind : Kind) (q a : NodeId) → eq_by_cmp peer_cmp (session kind q) (session kind a) ≡ is_node a q
turned kind q a = elim (node_cases a q) [
  | inl e ↦ ties peer_cmp peer_cmp_total (session kind q) (session kind a) (ap (session kind) (sym e)) ∙ sym (node_itself a q e)
  | inr ne ↦ apart peer_cmp peer_cmp_exact (session kind q) (session kind a) (λ e. ne (ap (λ (s : PeerSession). s.peer) (sym e)))
      ∙ sym (node_apart a q ne)
]

tied : (own other : Kind) (a q : NodeId) → eq_by_cmp peer_cmp (session other q) (session own a) ≡ (same_kind own other && is_node a q)
tied kinds.Bgp kinds.Bgp a q = turned kinds.Bgp q a
tied kinds.Ldp kinds.Ldp a q = turned kinds.Ldp q a
tied kinds.Bgp kinds.Ldp a q = refl
tied kinds.Ldp kinds.Bgp a q = refl

-- ---- what stands at a session

pull : {X Y : Type 0} (f : X → Y) (b : Bool) (x : X) (o : Option X) → cond b (Some (f x)) (option_map f o) ≡ option_map f (cond b (Some x) o)
pull f true x o = refl
pull f false x o = refl

-- after entries of the other protocol
past : {X : Type 0} (kind other : Kind) (stream : X → Stream) → ((q a : NodeId) → eq_by_cmp peer_cmp (session kind q) (session other a) ≡ false)
    → (es : List (NodeId × X)) (thereafter : List (PeerSession × Stream)) (q : NodeId)
    → find peer_cmp (session kind q) (entries_as other stream es ++ thereafter) ≡ find peer_cmp (session kind q) thereafter
past kind other stream differ [] thereafter q = refl
past kind other stream differ (e ∷ es) thereafter q = λ i. cond (differ q e.0 i) (Some (stream e.1)) (past kind other stream differ es thereafter q i)

-- in front of entries of which none is the session's
own : {X : Type 0} (kind : Kind) (stream : X → Stream) (es : List (NodeId × X)) (thereafter : List (PeerSession × Stream)) (q : NodeId)
    → find peer_cmp (session kind q) thereafter ≡ None
    → find peer_cmp (session kind q) (entries_as kind stream es ++ thereafter) ≡ option_map stream (lookup (is_node q) es)
own kind stream [] thereafter q none = none
own kind stream (e ∷ es) thereafter q none =
    (λ i. cond (tied_own kind q e.0 i) (Some (stream e.1)) (own kind stream es thereafter q none i))
    ∙ pull stream (is_node q e.0) e.1 (lookup (is_node q) es)

pub bgp_seen : (bgp : NodeMap (Fed Message StreamFault)) (ldp : NodeMap (Fed LabelMessage LdpFault)) (q : NodeId)
    → maps.get (streams_of bgp ldp) (session kinds.Bgp q) ≡ option_map bgp_stream (get is_node bgp q)
bgp_seen bgp ldp q =
    let others = entries_as kinds.Ldp ldp_stream ldp.entries in
    let none =
    ap (find peer_cmp (session kinds.Bgp q)) (sym (append-nil others)) ∙ past kinds.Bgp kinds.Ldp ldp_stream (λ q a. refl) ldp.entries [] q in
    maps.get-from_entries peer_cmp_total (entries_as kinds.Bgp bgp_stream bgp.entries ++ others) (session kinds.Bgp q)
    ∙ own kinds.Bgp bgp_stream bgp.entries others q none

pub ldp_seen : (bgp : NodeMap (Fed Message StreamFault)) (ldp : NodeMap (Fed LabelMessage LdpFault)) (q : NodeId)
    → maps.get (streams_of bgp ldp) (session kinds.Ldp q) ≡ option_map ldp_stream (get is_node ldp q)
ldp_seen bgp ldp q =
    let entries = entries_as kinds.Ldp ldp_stream ldp.entries in
    maps.get-from_entries peer_cmp_total (entries_as kinds.Bgp bgp_stream bgp.entries ++ entries) (session kinds.Ldp q)
    ∙ past kinds.Ldp kinds.Bgp bgp_stream (λ q a. refl) bgp.entries entries q
    ∙ ap (find peer_cmp (session kinds.Ldp q)) (sym (append-nil entries)) ∙ own kinds.Ldp ldp_stream ldp.entries [] q refl

-- ---- a change at one session

-- at the session this stands now, and every other session has what it had
abbrev pub Sets : Kind → NodeId → Option Stream → FinMap peer_cmp Stream → FinMap peer_cmp Stream → Type 0
Sets kind peer now old new =
    (other : Kind) (q : NodeId) → maps.get new (session other q) ≡ cond (same_kind kind other && is_node peer q) now (maps.get old (session other q))

pub inserted : (kind : Kind) (peer : NodeId) (stream : Stream) (old new : FinMap peer_cmp Stream) → Sets kind peer (Some stream) old new
    → new ≡ maps.insert old (session kind peer) stream
inserted kind peer stream old new sets = same_map peer_cmp_total peer_cmp_exact _ _ (λ s.
    sets s.kind s.peer ∙ ap (λ (b : Bool). cond b (Some stream) (maps.get old s)) (sym (tied kind s.kind peer s.peer))
    ∙ sym (maps.get-insert peer_cmp_total old (session kind peer) stream s))

pub removed : (kind : Kind) (peer : NodeId) (old new : FinMap peer_cmp Stream) → Sets kind peer None old new
    → new ≡ maps.remove old (session kind peer)
removed kind peer old new sets = same_map peer_cmp_total peer_cmp_exact _ _ (λ s.
    sets s.kind s.peer ∙ ap (λ (b : Bool). cond b None (maps.get old s)) (sym (tied kind s.kind peer s.peer))
    ∙ sym (maps.get-remove peer_cmp_total old (session kind peer) s))

pub stays : (kind : Kind) (peer : NodeId) (now : Option Stream) (old new : FinMap peer_cmp Stream) → maps.get old (session kind peer) ≡ now
    → Sets kind peer now old new → new ≡ old
stays kind peer now old new same sets = same_map peer_cmp_total peer_cmp_exact _ _ (λ s. sets s.kind s.peer ∙ here kind s.kind s.peer same)
  where
    at : (kind : Kind) (q : NodeId) → maps.get old (session kind peer) ≡ now
        → cond (is_node peer q) now (maps.get old (session kind q)) ≡ maps.get old (session kind q)
    at kind q same = elim (node_cases peer q) [
      | inl e ↦ ap (λ (b : Bool). cond b now (maps.get old (session kind q))) (node_itself peer q e)
          ∙ (sym same ∙ ap (λ (x : NodeId). maps.get old (session kind x)) e)
      | inr ne ↦ ap (λ (b : Bool). cond b now (maps.get old (session kind q))) (node_apart peer q ne)
    ]

    here : (own other : Kind) (q : NodeId) → maps.get old (session own peer) ≡ now
        → cond (same_kind own other && is_node peer q) now (maps.get old (session other q)) ≡ maps.get old (session other q)
    here kinds.Bgp kinds.Bgp q same = at kinds.Bgp q same
    here kinds.Ldp kinds.Ldp q same = at kinds.Ldp q same
    here kinds.Bgp kinds.Ldp q same = refl
    here kinds.Ldp kinds.Bgp q same = refl

-- ---- one protocol

-- A protocol: the kind of its sessions, its messages and faults as those of a session, and what is at the front of its octets.
pub record Protocol (M E : Type 0) : Type 0 where
  pub kind : Kind
  pub message : M → SessionMessage
  pub fault : E → SessionFault
  pub front : List ℕ → Front M E
  pub fronts : front_of kind ≡ (λ octets. as_front message fault (front octets))

abbrev pub over_bgp : Protocol Message StreamFault
over_bgp = record {
  kind = kinds.Bgp;
  message = λ message. Bgp message;
  fault = λ fault. BgpFault fault;
  front = message_front;
  fronts = refl;
}

abbrev pub over_ldp : Protocol LabelMessage LdpFault
over_ldp = record {
  kind = kinds.Ldp;
  message = λ message. Label message;
  fault = λ fault. LabelFault fault;
  front = pdu_front;
  fronts = refl;
}

abbrev pub stream_of : {M E : Type 0} → Protocol M E → Fed M E → Stream
stream_of p d = stream_as p.message p.fault d

-- the sessions of the protocol have these streams, by node
abbrev pub Has : {M E : Type 0} → Protocol M E → NodeMap (Fed M E) → FinMap peer_cmp Stream → Type 0
Has p own streams = (q : NodeId) → maps.get streams (session p.kind q) ≡ option_map (stream_of p) (get is_node own q)

-- Streams of one protocol change, and those of the other do not.
pub record Changes {M E : Type 0} (p : Protocol M E) (before after : NodeMap (Fed M E)) (old new : FinMap peer_cmp Stream) : Type 0 where
  pub had : Has p before old
  pub has : Has p after new
  pub others : (kind : Kind) (q : NodeId) → same_kind p.kind kind ≡ false → maps.get new (session kind q) ≡ maps.get old (session kind q)

module _ (bgp : NodeMap (Fed Message StreamFault)) (ldp : NodeMap (Fed LabelMessage LdpFault)) (old : FinMap peer_cmp Stream)
    (is : streams_of bgp ldp ≡ old) where
  pub bgp_had : Has over_bgp bgp old
  bgp_had q = ap (λ (m : FinMap peer_cmp Stream). maps.get m (session kinds.Bgp q)) (sym is) ∙ bgp_seen bgp ldp q

  pub ldp_had : Has over_ldp ldp old
  ldp_had q = ap (λ (m : FinMap peer_cmp Stream). maps.get m (session kinds.Ldp q)) (sym is) ∙ ldp_seen bgp ldp q

  pub bgp_changes : (after : NodeMap (Fed Message StreamFault)) → Changes over_bgp bgp after old (streams_of after ldp)
  bgp_changes after = record { had = bgp_had; has = bgp_seen after ldp; others = others }
    where
      others : (kind : Kind) (q : NodeId) → same_kind kinds.Bgp kind ≡ false
          → maps.get (streams_of after ldp) (session kind q) ≡ maps.get old (session kind q)
      others kinds.Bgp q differ = absurd cc
      others kinds.Ldp q differ = ldp_seen after ldp q ∙ sym (ldp_had q)

  pub ldp_changes : (after : NodeMap (Fed LabelMessage LdpFault)) → Changes over_ldp ldp after old (streams_of bgp after)
  ldp_changes after = record { had = ldp_had; has = ldp_seen bgp after; others = others }
    where
      others : (kind : Kind) (q : NodeId) → same_kind kinds.Ldp kind ≡ false
          → maps.get (streams_of bgp after) (session kind q) ≡ maps.get old (session kind q)
      others kinds.Bgp q differ = bgp_seen bgp after q ∙ sym (bgp_had q)
      others kinds.Ldp q differ = absurd cc

-- ---- a change at one node

push : {X Y : Type 0} (f : X → Y) (b : Bool) (now o : Option X) → option_map f (cond b now o) ≡ cond b (option_map f now) (option_map f o)
push f true now o = refl
push f false now o = refl

either : (now : Option Stream) (old new : FinMap peer_cmp Stream) (peer : NodeId) (own other : Kind) (q : NodeId)
    → maps.get new (session own q) ≡ cond (is_node peer q) now (maps.get old (session own q))
    → (same_kind own other ≡ false → maps.get new (session other q) ≡ maps.get old (session other q))
    → maps.get new (session other q) ≡ cond (same_kind own other && is_node peer q) now (maps.get old (session other q))
either now old new peer kinds.Bgp kinds.Bgp q here others = here
either now old new peer kinds.Ldp kinds.Ldp q here others = here
either now old new peer kinds.Bgp kinds.Ldp q here others = others refl
either now old new peer kinds.Ldp kinds.Bgp q here others = others refl

module _ {M E : Type 0} (p : Protocol M E) (before after : NodeMap (Fed M E)) (old new : FinMap peer_cmp Stream) (is : Changes p before after old new)
    (peer : NodeId) where
  pub sets : (now : Option (Fed M E)) → PutAt peer now before after → Sets p.kind peer (option_map (stream_of p) now) old new
  sets now each other q = either (option_map (stream_of p) now) old new peer p.kind other q here (is.others other q)
    where
      here : maps.get new (session p.kind q) ≡ cond (is_node peer q) (option_map (stream_of p) now) (maps.get old (session p.kind q))
      here =
          is.has q ∙ ap (option_map (stream_of p)) (each q) ∙ push (stream_of p) (is_node peer q) now (get is_node before q)
          ∙ ap (λ (o : Option Stream). cond (is_node peer q) (option_map (stream_of p) now) o) (sym (is.had q))

  pub raised : PutAt peer (Some unfed) before after → new ≡ maps.insert old (session p.kind peer) unfed
  raised each = inserted p.kind peer (stream_of p unfed) old new (sets (Some unfed) each)

  pub lost : PutAt peer None before after → new ≡ maps.remove old (session p.kind peer)
  lost each = removed p.kind peer old new (sets None each)

  pub same : IsSame before after → new ≡ old
  same each = same_map peer_cmp_total peer_cmp_exact _ _ (λ s. by p.kind s.kind s.peer (here s.peer) (is.others s.kind s.peer))
    where
      here : (q : NodeId) → maps.get new (session p.kind q) ≡ maps.get old (session p.kind q)
      here q = is.has q ∙ ap (option_map (stream_of p)) (each q) ∙ sym (is.had q)

      by : (own other : Kind) (q : NodeId) → maps.get new (session own q) ≡ maps.get old (session own q)
          → (same_kind own other ≡ false → maps.get new (session other q) ≡ maps.get old (session other q))
          → maps.get new (session other q) ≡ maps.get old (session other q)
      by kinds.Bgp kinds.Bgp q here others = here
      by kinds.Ldp kinds.Ldp q here others = here
      by kinds.Bgp kinds.Ldp q here others = others refl
      by kinds.Ldp kinds.Bgp q here others = others refl
