-- What tables hold once each of them has a route more, or one less.
use Rattle.std.proofs.Common.{◌≡◌, inl, inr, ◌⊎◌, Option, Some, None, refl, sym, ap, ◌∙◌}
use Rattle.std.specs.FinMap.{get, remove}
use Rattle.mv_base.specs.declared.ids.NodeId.{NodeId}
use Rattle.bgp_messages.specs.declared.bgp_attributes.key.Key.{Key}
use Rattle.edge_defs.specs.Edge.{Control}
use Rattle.edge_defs.specs.Held.{held_for}
use Rattle.edge_defs.specs.Keys.{Table, Value}
use Rattle.edge_defs.specs.Place.{EdgePlace}
use Rattle.edge_tables.specs.Tables.{AtPeer, Both, EachPeer, PeerTable, Tables, with_route}
use Rattle.held_tables.specs.Holding.{HavePartly, HoldAll, IsToldAlike}

-- each table is changed in one way, and so is what the edge holds for each peer
pub hold_each : (change : Table → Table) (place : EdgePlace) (control thereafter : Control) (old new : Tables)
    → EachPeer (λ before after. after ≡ record before { set = change before.set }) old new
    → ((peer : NodeId) → held_for place thereafter peer ≡ change (held_for place control peer))
    → HoldAll place control old → HoldAll place thereafter new
hold_each change place control thereafter old new each law hold peer table at = by (get old peer) (get new peer) refl at (each peer)
  where
    by : (before after : Option PeerTable) → get old peer ≡ before → after ≡ Some table
        → Both {A = PeerTable} {B = PeerTable} (λ before after. after ≡ record before { set = change before.set }) before after
        → table.set ≡ held_for place thereafter peer
    by None None e f h = absurd cc
    by None (Some own) e f h = absurd h
    by (Some before) None e f h = absurd h
    by (Some before) (Some after) e f h =
        let same : after ≡ table = cc in
        ap (λ (t : PeerTable). t.set) (sym same ∙ h) ∙ ap change (hold peer before e) ∙ sym (law peer)

both_weaker : {Is Was : PeerTable → PeerTable → Type 0} → ((old new : PeerTable) → Was old new → Is old new) → (old new : Option PeerTable)
    → Both Was old new → Both Is old new
both_weaker f None None h = tt
both_weaker f None (Some new) h = h
both_weaker f (Some old) None h = h
both_weaker f (Some old) (Some new) h = f old new h

pub each_weaker : {Is Was : PeerTable → PeerTable → Type 0} → ((old new : PeerTable) → Was old new → Is old new) → (old new : Tables)
    → EachPeer Was old new → EachPeer Is old new
each_weaker f old new h peer = both_weaker f (get old peer) (get new peer) (h peer)

pub told_alike : (change : Table → Table) (old new : PeerTable) → new ≡ record old { set = change old.set } → IsToldAlike old new
told_alike change old new h =
    record { up = ap (λ (t : PeerTable). t.up) h; told = ap (λ (t : PeerTable). t.told) h; waiting = ap (λ (t : PeerTable). t.waiting) h }

pub partly_alike : (change : Table → Table) (old new : PeerTable) → (new ≡ old) ⊎ (new ≡ record old { set = change old.set }) → IsToldAlike old new
partly_alike change old new (inl h) =
    record { up = ap (λ (t : PeerTable). t.up) h; told = ap (λ (t : PeerTable). t.told) h; waiting = ap (λ (t : PeerTable). t.waiting) h }
partly_alike change old new (inr h) = told_alike change old new h

-- ---- a route by equal keys and values

pub each_as : (change : Table → Key → Value → Table) {made key : Key} {built value : Value} → made ≡ key → built ≡ value → (old new : Tables)
    → EachPeer (λ before after. after ≡ record before { set = change before.set made built }) old new
    → EachPeer (λ before after. after ≡ record before { set = change before.set key value }) old new
each_as change k v old new h = each_weaker (λ before after same. same ∙ (λ i. record before { set = change before.set (k i) (v i) })) old new h

pub less_as : {made key : Key} → made ≡ key → (old new : Tables)
    → EachPeer (λ before after. after ≡ record before { set = remove before.set made }) old new
    → EachPeer (λ before after. after ≡ record before { set = remove before.set key }) old new
less_as k old new h = each_weaker (λ before after same. same ∙ (λ i. record before { set = remove before.set (k i) })) old new h

pub partly_as : {made key : Key} {built value : Value} → made ≡ key → built ≡ value → (old new : Tables) → HavePartly made built old new
    → HavePartly key value old new
partly_as k v old new h = each_weaker (λ before after either. elim either [
  | inl same ↦ inl same
  | inr same ↦ inr (same ∙ (λ i. with_route (k i) (v i) before))
]) old new h

pub at_as : (change : Table → Key → Value → Table) {made key : Key} {built value : Value} → made ≡ key → built ≡ value
    → (peer : NodeId) (old new : Tables)
    → AtPeer peer (λ before after. after ≡ record before { set = change before.set made built }) old new
    → AtPeer peer (λ before after. after ≡ record before { set = change before.set key value }) old new
at_as change k v peer old new h =
    (both_weaker (λ before after same. same ∙ (λ i. record before { set = change before.set (k i) (v i) })) (get old peer) (get new peer) h.0, h.1)

pub at_less : {made key : Key} → made ≡ key → (peer : NodeId) (old new : Tables)
    → AtPeer peer (λ before after. after ≡ record before { set = remove before.set made }) old new
    → AtPeer peer (λ before after. after ≡ record before { set = remove before.set key }) old new
at_less k peer old new h =
    (both_weaker (λ before after same. same ∙ (λ i. record before { set = remove before.set (k i) })) (get old peer) (get new peer) h.0, h.1)
