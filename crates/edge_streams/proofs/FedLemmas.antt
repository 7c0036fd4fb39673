-- Octets go to the stream of a session that has one, and the messages that are whole then are taken out.
use Rattle.std.proofs.Common.{◌≡◌, ◌∙◌, refl, sym, ap, ℕ, Bool, true, false, cond, List, [], Option, None, Some, is_some}
use Rattle.std.specs.Ordering.{eq_by_cmp}
use Rattle.std.specs.FinMap as maps
use Rattle.std.specs.FinMap.{FinMap}
use Rattle.mv_base.specs.framing.Feed.{fed}
use Rattle.network_defs.specs.session_defs.Message.{front_of}
use Rattle.network_defs.specs.session_defs.Octets.{Stream}
use Rattle.network_defs.specs.session_defs.PeerSession.{PeerSession, peer_cmp, stream_at}
use Rattle.edge_streams.specs.Streams.{with_octets}
use Rattle.edge_streams.proofs.DrainLemmas.{put_again, put_there, same_session, stream_or, stream_put}
use Rattle.edge_streams.proofs.SessionMaps.{peer_cmp_total}

-- ---- a stream that is put

module _ (streams : FinMap peer_cmp Stream) (own : PeerSession) (stream : Stream) where
  -- the same sessions have one where that session had one
  pub put_up : is_some (maps.get streams own) ≡ true → (q : PeerSession)
      → is_some (maps.get (maps.insert streams own stream) q) ≡ is_some (maps.get streams q)
  put_up up q = ap (λ (o : Option Stream). is_some o) (maps.get-insert peer_cmp_total streams own stream q) ∙ by (eq_by_cmp peer_cmp q own) refl
    where
      by : (b : Bool) → eq_by_cmp peer_cmp q own ≡ b → is_some (cond b (Some stream) (maps.get streams q)) ≡ is_some (maps.get streams q)
      by true e = sym (ap (λ (s : PeerSession). is_some (maps.get streams s)) (same_session q own e) ∙ up)
      by false e = refl

  -- nothing waits where nothing waits in it
  pub put_quiet : stream.waiting ≡ [] → ((q : PeerSession) → (stream_at streams q).waiting ≡ []) → (q : PeerSession)
      → (stream_at (maps.insert streams own stream) q).waiting ≡ []
  put_quiet none quiet q =
      ap (λ (o : Option Stream). (stream_or o).waiting) (maps.get-insert peer_cmp_total streams own stream q) ∙ by (eq_by_cmp peer_cmp q own)
    where
      by : (b : Bool) → (stream_or (cond b (Some stream) (maps.get streams q))).waiting ≡ []
      by true = none
      by false = quiet q

-- ---- a stream that is fed

module _ (own : PeerSession) (octets : List ℕ) (old streams : FinMap peer_cmp Stream) (up : is_some (maps.get old own) ≡ true)
    (fed_so : streams ≡ with_octets own octets old) where
  abbrev pub now_fed : Stream
  now_fed = fed (front_of own.kind) (stream_at old own) octets

  -- the octets go to the stream that is there
  pub fed_is : streams ≡ maps.insert old own now_fed
  fed_is = fed_so ∙ by (maps.get old own) refl up
    where
      by : (o : Option Stream) → maps.get old own ≡ o → is_some o ≡ true
          → (elim o as (λ _. FinMap peer_cmp Stream) [ None ↦ old | Some stream ↦ maps.insert old own (fed (front_of own.kind) stream octets) ])
          ≡ maps.insert old own now_fed
      by None e h = absurd cc
      by (Some stream) e h = ap (λ (s : Stream). maps.insert old own (fed (front_of own.kind) s octets)) (stream_is stream e)
        where
          stream_is : (s : Stream) → maps.get old own ≡ Some s → s ≡ stream_at old own
          stream_is s k = sym (ap stream_or k)

  pub stream_fed : stream_at streams own ≡ now_fed
  stream_fed = ap (λ (s : FinMap peer_cmp Stream). stream_at s own) fed_is ∙ stream_put old own now_fed

  pub fed_there : is_some (maps.get streams own) ≡ true
  fed_there = put_there old streams own now_fed fed_is

  -- once the messages are taken out
  pub drained_is : (drained : FinMap peer_cmp Stream) → drained ≡ maps.insert streams own (record (stream_at streams own) { waiting = [] })
      → drained ≡ maps.insert old own (record now_fed { waiting = [] })
  drained_is drained is =
      is ∙ ((λ i. maps.insert (fed_is i) own (record (stream_fed i) { waiting = [] })) ∙ put_again old own now_fed (record now_fed { waiting = [] }))
