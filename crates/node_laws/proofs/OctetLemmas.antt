-- What a label step puts waits for LDP sessions.
use Rattle.std.proofs.Common.{◌≡◌, ◌∙◌, refl, sym, ap, ℕ, Bool, true, false, cond, List, [], ◌∷◌, ◌++◌, map, Option, None, Some}
use Rattle.std.specs.Ordering.{eq_by_cmp, is_eq, nat_cmp, ordering_then}
use Rattle.std.specs.declared.cmp.Ordering.{Ordering}
use Rattle.std.specs.declared.cmp.Ordering.TheVariants.{Less, Equal, Greater}
use Rattle.std.specs.Cmp.{IsTotalOrder}
use Rattle.std.specs.Cmp.Lexicographic.{nat_list_cmp_total}
use Rattle.std.proofs.lemmas.Cmp.{on_total}
use Rattle.std.specs.FinMap as maps
use Rattle.std.specs.FinMap.{FinMap}
use Rattle.mv_base.specs.declared.addr.Addr.{Addr}
use Rattle.mv_base.specs.declared.ids.NodeId.{NodeId}
use Rattle.mldp.specs.mldp_msgs.Spelling as pdus
use Rattle.scenario_defs.specs.declared.event.Kind.TheVariants as kinds
use Rattle.label_defs.specs.Keys.{node_cmp}
use Rattle.label_defs.specs.Node.{waiting_for, with_pdus}
use Rattle.label_defs.specs.Steps.{Numbered}
use Rattle.label_defs.proofs.KeyLemmas.{node_cmp_total}
use Rattle.network_defs.specs.session_defs.PeerSession.{PeerSession, kind_number, peer_cmp}
use Rattle.network_defs.specs.node_defs.EdgeState.{waiting_at, with_puts}
use Rattle.network_defs.specs.node_defs.Puts.{label_put}
use Rattle.node_laws.specs.Places.{AreLabelOctets, label_session}

pub peer_total : IsTotalOrder peer_cmp
peer_total = on_total (λ (session : PeerSession). kind_number session.kind ∷ session.peer.0 ∷ []) nat_list_cmp_total

-- ---- one session

pub then_equal : (o : Ordering) → is_eq (ordering_then o Equal) ≡ is_eq o
then_equal Less = refl
then_equal Equal = refl
then_equal Greater = refl

same_tie : (a b : NodeId) → eq_by_cmp peer_cmp (label_session a) (label_session b) ≡ eq_by_cmp node_cmp a b
same_tie a b = then_equal (nat_cmp a.0 b.0)

abbrev octets_or : Option (List ℕ) → List ℕ
octets_or None = []
octets_or (Some octets) = octets

if_some : (b : Bool) (octets : List ℕ) (other : Option (List ℕ)) → octets_or (cond b (Some octets) other) ≡ cond b octets (octets_or other)
if_some true octets other = refl
if_some false octets other = refl

if_none : (b : Bool) (other : Option (List ℕ)) → octets_or (cond b None other) ≡ cond b [] (octets_or other)
if_none true other = refl
if_none false other = refl

pub waiting_then : (waiting : FinMap peer_cmp (List ℕ)) (session other : PeerSession) (octets : List ℕ)
    → waiting_at (maps.insert waiting session octets) other ≡ cond (eq_by_cmp peer_cmp other session) octets (waiting_at waiting other)
waiting_then waiting session other octets =
    ap octets_or (maps.get-insert peer_total waiting session octets other)
    ∙ if_some (eq_by_cmp peer_cmp other session) octets (maps.get waiting other)

own_then : (own : FinMap node_cmp (List ℕ)) (node other : NodeId) (octets : List ℕ)
    → waiting_for (maps.insert own node octets) other ≡ cond (eq_by_cmp node_cmp other node) octets (waiting_for own other)
own_then own node other octets =
    ap octets_or (maps.get-insert node_cmp_total own node octets other) ∙ if_some (eq_by_cmp node_cmp other node) octets (maps.get own other)

-- ---- a session that is lost

pub waiting_less : (waiting : FinMap peer_cmp (List ℕ)) (session other : PeerSession)
    → waiting_at (maps.remove waiting session) other ≡ cond (eq_by_cmp peer_cmp other session) [] (waiting_at waiting other)
waiting_less waiting session other =
    ap octets_or (maps.get-remove peer_total waiting session other) ∙ if_none (eq_by_cmp peer_cmp other session) (maps.get waiting other)

own_less : (own : FinMap node_cmp (List ℕ)) (node other : NodeId)
    → waiting_for (maps.remove own node) other ≡ cond (eq_by_cmp node_cmp other node) [] (waiting_for own other)
own_less own node other =
    ap octets_or (maps.get-remove node_cmp_total own node other) ∙ if_none (eq_by_cmp node_cmp other node) (maps.get own other)

pub lost_waits : (waiting : FinMap peer_cmp (List ℕ)) (own : FinMap node_cmp (List ℕ)) (peer : NodeId) → AreLabelOctets waiting own
    → AreLabelOctets (maps.remove waiting (label_session peer)) (maps.remove own peer)
lost_waits waiting own peer same other =
    waiting_less waiting (label_session peer) (label_session other) ∙ (λ i. cond (same_tie other peer i) [] (same other i))
    ∙ sym (own_less own peer other)

-- ---- messages one after another

module _ (me : NodeId) (addr : Addr) where
  one_more : (waiting : FinMap peer_cmp (List ℕ)) (own : FinMap node_cmp (List ℕ)) (to : NodeId) (octets : List ℕ) → AreLabelOctets waiting own
      → AreLabelOctets (maps.insert waiting (label_session to) (waiting_at waiting (label_session to) ++ octets))
      (maps.insert own to (waiting_for own to ++ octets))
  one_more waiting own to octets same peer =
      waiting_then waiting (label_session to) (label_session peer) (waiting_at waiting (label_session to) ++ octets)
      ∙ (λ i. cond (same_tie peer to i) (same to i ++ octets) (same peer i))
      ∙ sym (own_then own to peer (waiting_for own to ++ octets))

  pub all_wait : (puts : List Numbered) (waiting : FinMap peer_cmp (List ℕ)) (own : FinMap node_cmp (List ℕ)) → AreLabelOctets waiting own
      → AreLabelOctets (with_puts (map (label_put me addr) puts) waiting) (with_pdus addr puts own)
  all_wait [] waiting own same = same
  all_wait (numbered ∷ more) waiting own same =
      let octets : List ℕ = pdus.written addr numbered.id numbered.put.message in
      all_wait more (maps.insert waiting (label_session numbered.put.to) (waiting_at waiting (label_session numbered.put.to) ++ octets))
      (maps.insert own numbered.put.to (waiting_for own numbered.put.to ++ octets)) (one_more waiting own numbered.put.to octets same)

  pub others_stay : (puts : List Numbered) (waiting : FinMap peer_cmp (List ℕ)) (peer : NodeId)
      → waiting_at (with_puts (map (label_put me addr) puts) waiting) (record { kind = kinds.Bgp; peer = peer })
      ≡ waiting_at waiting (record { kind = kinds.Bgp; peer = peer })
  others_stay [] waiting peer = refl
  others_stay (numbered ∷ more) waiting peer =
      let octets : List ℕ = waiting_at waiting (label_session numbered.put.to) ++ pdus.written addr numbered.id numbered.put.message in
      others_stay more (maps.insert waiting (label_session numbered.put.to) octets) peer
      ∙ waiting_then waiting (label_session numbered.put.to) (record { kind = kinds.Bgp; peer = peer }) octets
