-- The stream that is put at one session, and messages that are taken from it one by one.
use Rattle.std.proofs.Common.{◌≡◌, ◌∙◌, refl, sym, ap, arith, ◌<◌, Bool, true, false, cond, List, [], ◌∷◌, length, Option, None, Some, is_some}
use Rattle.std.specs.Ordering.{eq_by_cmp}
use Rattle.std.specs.FinMap as maps
use Rattle.std.specs.FinMap.{FinMap, same_map}
use Rattle.std.specs.Cmp.{Equal-is}
use Rattle.std.proofs.lemmas.Cmp.{eq_by_cmp_equiv}
use Rattle.mv_base.specs.framing.Feed.{unfed}
use Rattle.network_defs.specs.session_defs.Message.{SessionMessage}
use Rattle.network_defs.specs.session_defs.Octets.{Stream}
use Rattle.network_defs.specs.session_defs.PeerSession.{PeerSession, peer_cmp, stream_at}
use Rattle.edge_streams.specs.Streams.{TakesFirst, drained}
use Rattle.edge_streams.proofs.SessionMaps.{peer_cmp_exact, peer_cmp_total}

abbrev Streams : Type 0
Streams = FinMap peer_cmp Stream

pub same_session : (a b : PeerSession) → eq_by_cmp peer_cmp a b ≡ true → a ≡ b
same_session a b e = peer_cmp_exact a b ((Equal-is (peer_cmp a b)).0 e)

abbrev pub stream_or : Option Stream → Stream
stream_or o = elim o [ None ↦ unfed | Some stream ↦ stream ]

pub stream_put : (streams : Streams) (own : PeerSession) (stream : Stream) → stream_at (maps.insert streams own stream) own ≡ stream
stream_put streams own stream =
    ap stream_or (maps.get-insert peer_cmp_total streams own stream own
    ∙ ap (λ (b : Bool). cond b (Some stream) (maps.get streams own)) ((eq_by_cmp_equiv peer_cmp_total).refl own))

pub put_again : (streams : Streams) (own : PeerSession) (first second : Stream)
    → maps.insert (maps.insert streams own first) own second ≡ maps.insert streams own second
put_again streams own first second = same_map peer_cmp_total peer_cmp_exact _ _ (λ q.
    maps.get-insert peer_cmp_total (maps.insert streams own first) own second q
    ∙ (ap (λ (o : Option Stream). cond (eq_by_cmp peer_cmp q own) (Some second) o) (maps.get-insert peer_cmp_total streams own first q)
    ∙ (either (eq_by_cmp peer_cmp q own) (Some second) (Some first) (maps.get streams q)
    ∙ sym (maps.get-insert peer_cmp_total streams own second q))))
  where
    either : (b : Bool) (x y z : Option Stream) → cond b x (cond b y z) ≡ cond b x z
    either true x y z = refl
    either false x y z = refl

there : (o : Option Stream) → is_some o ≡ true → o ≡ Some (stream_or o)
there None e = absurd cc
there (Some stream) e = refl

-- a stream that is there is put in its own place
pub put_same : (streams : Streams) (own : PeerSession) → is_some (maps.get streams own) ≡ true
    → maps.insert streams own (stream_at streams own) ≡ streams
put_same streams own up =
    same_map peer_cmp_total peer_cmp_exact _ _ (λ q. maps.get-insert peer_cmp_total streams own (stream_at streams own) q
    ∙ by q (eq_by_cmp peer_cmp q own) refl)
  where
    by : (q : PeerSession) (b : Bool) → eq_by_cmp peer_cmp q own ≡ b → cond b (Some (stream_at streams own)) (maps.get streams q) ≡ maps.get streams q
    by q true e = sym (ap (maps.get streams) (same_session q own e) ∙ there (maps.get streams own) up)
    by q false e = refl

pub put_there : (old new : Streams) (own : PeerSession) (stream : Stream) → new ≡ maps.insert old own stream → is_some (maps.get new own) ≡ true
put_there old new own stream is =
    ap (λ (s : Streams). is_some (maps.get s own)) is ∙ ap (λ (o : Option Stream). is_some o) (maps.get-insert peer_cmp_total old own stream own
    ∙ ap (λ (b : Bool). cond b (Some stream) (maps.get old own)) ((eq_by_cmp_equiv peer_cmp_total).refl own))

-- ---- messages that are taken

-- the first message that waits was taken
module _ (own : PeerSession) (old new : Streams) (message : SessionMessage) (took : TakesFirst own old (Some message) new) where
  abbrev rest : Stream
  rest = record (stream_at old own) { waiting = took.0 }

  rest_at : stream_at new own ≡ rest
  rest_at = ap (λ (s : Streams). stream_at s own) took.2 ∙ stream_put old own rest

  pub took_there : is_some (maps.get new own) ≡ true
  took_there = put_there old new own rest took.2

  pub took_rest : (stream_at new own).waiting ≡ took.0
  took_rest = ap (λ (s : Stream). s.waiting) rest_at

  pub took_fewer : length (stream_at new own).waiting < length (stream_at old own).waiting
  took_fewer =
      let before : length (stream_at old own).waiting ≡ length (message ∷ took.0) = ap (λ (ms : List SessionMessage). length ms) took.1 in
      let after : length (stream_at new own).waiting ≡ length took.0 = ap (λ (ms : List SessionMessage). length ms) took_rest in
      omega (arith, before, after)

  pub took_drained : drained own new ≡ drained own old
  took_drained =
      (λ i. maps.insert (took.2 i) own (record (rest_at i) { waiting = [] })) ∙ put_again old own rest (record rest { waiting = [] })

-- none waits any more
pub none_drained : (own : PeerSession) (old new : Streams) → is_some (maps.get old own) ≡ true → TakesFirst own old None new
    → drained own old ≡ new
none_drained own old new up took =
    (λ i. maps.insert old own (record (stream_at old own) { waiting = sym took.0 i })) ∙ (put_same old own up ∙ sym took.1)
