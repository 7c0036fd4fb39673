-- What peers are to have and were sent, between the parts of a step.
use Rattle.std.proofs.Common.{◌≡◌, ◌++◌, Bool, true, false, cond, List, [], Option, None, Some, is_some, refl, sym, ap, subst, ◌∙◌}
use Rattle.std.specs.FinMap as maps
use Rattle.mv_base.specs.declared.ids.NodeId.{NodeId}
use Rattle.mv_base.specs.table_defs.Changes.{changes}
use Rattle.edge_defs.specs.Edge.{Control}
use Rattle.edge_defs.specs.Held.{held_for, put_to, told}
use Rattle.edge_defs.specs.Keys.{Table, same_value}
use Rattle.edge_defs.specs.Place.{EdgePlace}
use Rattle.edge_control.specs.edge_tables.Tables.{Both, EachPeer, IsBetween, PeerTable, Tables, put_after, texts, waiting_at, waiting_of}
use Rattle.held_tables.specs.Holding.{AreToldAlike, HoldAll, IsToldAlike}
use Rattle.edge_routing.specs.Routing.{AreBetween}

-- the tables that are between hold what the edge holds afterwards
pub holds : (place : EdgePlace) (old new : Control) (tables : Tables) → AreBetween place old new tables → HoldAll place new tables
holds place old new tables are peer table at = (are peer table at).set

-- ---- tables of which nothing was sent

module _ (before after : Tables) (alike : AreToldAlike before after) where
  pub told_at : (peer : NodeId) (table : PeerTable) → maps.get after peer ≡ Some table
      → (t : PeerTable) × (maps.get before peer ≡ Some t) × IsToldAlike t table
  told_at peer table at = by (maps.get before peer) refl (alike peer)
    where
      by : (o : Option PeerTable) → maps.get before peer ≡ o → Both IsToldAlike o (maps.get after peer)
          → (t : PeerTable) × (maps.get before peer ≡ Some t) × IsToldAlike t table
      by None e b = absurd (subst (λ (p : Option PeerTable). Both IsToldAlike None p) at b)
      by (Some t) e b = (t, e, subst (λ (p : Option PeerTable). Both IsToldAlike (Some t) p) at b)

  pub same_keys : (peer : NodeId) → is_some (maps.get after peer) ≡ is_some (maps.get before peer)
  same_keys peer = by (maps.get before peer) (maps.get after peer) (alike peer)
    where
      by : (o p : Option PeerTable) → Both IsToldAlike o p → is_some p ≡ is_some o
      by None None b = refl
      by None (Some t) b = absurd b
      by (Some t) None b = absurd b
      by (Some t) (Some u) b = refl

  pub same_waiting : (peer : NodeId) → waiting_at after peer ≡ waiting_at before peer
  same_waiting peer = by (maps.get before peer) (maps.get after peer) (alike peer)
    where
      by : (o p : Option PeerTable) → Both IsToldAlike o p → waiting_of p ≡ waiting_of o
      by None None b = refl
      by None (Some t) b = absurd b
      by (Some t) None b = absurd b
      by (Some t) (Some u) b = b.waiting

  -- Where the peers that are up stay, and each is to have what the edge holds after a call, the tables are between.
  pub still_between : (place : EdgePlace) (old middle new : Control) → AreBetween place old middle before → HoldAll place new after
      → ((peer : NodeId) → is_some (maps.get new.peers peer) ≡ is_some (maps.get middle.peers peer)) → AreBetween place old new after
  still_between place old middle new are hold same peer table at =
      let t = told_at peer table at in
      let is = are peer t.0 t.1 in
      record {
        up = t.2.up ∙ (is.up ∙ sym (same peer));
        set = hold peer table at;
        told = t.2.told ∙ (is.told ∙ ap (λ (b : Bool). cond b (told place old peer) maps.empty) (sym t.2.up));
      }

-- ---- tables that are put

module _ (place : EdgePlace) (old new : Control) (before after : Tables) (are : AreBetween place old new before)
    (put : EachPeer (λ o n. n ≡ put_after o) before after) where
  put_at : (peer : NodeId) (table : PeerTable) → maps.get after peer ≡ Some table
      → (t : PeerTable) × (maps.get before peer ≡ Some t) × (table ≡ put_after t)
  put_at peer table at = by (maps.get before peer) refl (put peer)
    where
      by : (o : Option PeerTable) → maps.get before peer ≡ o → Both (λ o n. n ≡ put_after o) o (maps.get after peer)
          → (t : PeerTable) × (maps.get before peer ≡ Some t) × (table ≡ put_after t)
      by None e b = absurd (subst (λ (p : Option PeerTable). Both (λ o n. n ≡ put_after o) None p) at b)
      by (Some t) e b = (t, e, subst (λ (p : Option PeerTable). Both (λ o n. n ≡ put_after o) (Some t) p) at b)

  told_now : (up : Bool) (set was : Table) (peer : NodeId) → up ≡ is_some (maps.get new.peers peer) → set ≡ held_for place new peer
      → was ≡ cond up (told place old peer) maps.empty
      → cond up set was ≡ cond up (told place new peer) maps.empty
  told_now true set was peer e h k = h ∙ ap (λ (b : Bool). cond b (held_for place new peer) maps.empty) e
  told_now false set was peer e h k = k

  pub put_between : AreBetween place new new after
  put_between peer table at =
      let t = put_at peer table at in
      let is = are peer t.0 t.1 in
      subst (λ (x : PeerTable). IsBetween place new new peer x) (sym t.2) (record {
        up = is.up;
        set = is.set;
        told = told_now t.0.up t.0.set t.0.told peer is.up is.set is.told;
      })

  pending_is : (up : Bool) (set was : Table) (peer : NodeId) → up ≡ is_some (maps.get new.peers peer) → set ≡ held_for place new peer
      → was ≡ cond up (told place old peer) maps.empty
      → cond up (changes same_value was set) [] ≡ put_to place old new peer
  pending_is true set was peer e h k =
      (λ i. changes same_value (k i) ((h ∙ ap (λ (b : Bool). cond b (held_for place new peer) maps.empty) e) i))
      ∙ ap (λ (b : Bool). cond b (changes same_value (told place old peer) (told place new peer)) []) e
  pending_is false set was peer e h k = ap (λ (b : Bool). cond b (changes same_value (told place old peer) (told place new peer)) []) e

  pub put_keys : (peer : NodeId) → is_some (maps.get after peer) ≡ is_some (maps.get before peer)
  put_keys peer = by (maps.get before peer) (maps.get after peer) (put peer)
    where
      by : (o p : Option PeerTable) → Both (λ o n. n ≡ put_after o) o p → is_some p ≡ is_some o
      by None None b = refl
      by None (Some t) b = absurd b
      by (Some t) None b = absurd b
      by (Some t) (Some u) b = refl

  pub put_waits : (peer : NodeId) → is_some (maps.get before peer) ≡ true
      → waiting_at after peer ≡ waiting_at before peer ++ texts (put_to place old new peer)
  put_waits peer there = by (maps.get before peer) (maps.get after peer) refl there (put peer)
    where
      by : (o p : Option PeerTable) → maps.get before peer ≡ o → is_some o ≡ true → Both (λ o n. n ≡ put_after o) o p
          → waiting_of p ≡ waiting_of o ++ texts (put_to place old new peer)
      by None p e h b = absurd cc
      by (Some t) None e h b = absurd b
      by (Some t) (Some u) e h b =
          let is = are peer t e in
          ap (λ (x : PeerTable). x.waiting) b ∙ ap (λ (list : List _). t.waiting ++ texts list)
          (pending_is t.up t.set t.told peer is.up is.set is.told)
