-- Which inclusive tunnels may come or go where routes of the peers become others.
use Rattle.std.proofs.Common.{◌≡◌, ◌↔◌, ℕ, ◌||◌, Bool, true, false, inl, inr, List, ◌++◌, Option, Some, None, option_map, refl, sym, ap, ◌∙◌}
use Rattle.std.proofs.lemmas.List.Folds.{list_any-append}
use Rattle.std.specs.List.{list_any}
use Rattle.std.specs.FinMap as maps
use Rattle.std.specs.FinMap.{FinMap}
use Rattle.mv_base.specs.Lists.{Among}
use Rattle.mv_base.specs.declared.ids.NodeId.{NodeId}
use Rattle.mldp.specs.declared.mldp_fec.fec.Fec.{Fec}
use Rattle.bgp_messages.specs.declared.bgp_attributes.key.Key.{Key}
use Rattle.label_defs.specs.Keys.{node_cmp}
use Rattle.label_defs.specs.LabelData.{same_fec}
use Rattle.label_defs.proofs.KeyLemmas.{node_cases}
use Rattle.edge_defs.specs.Edge.{Control, Taken, TakenRoute}
use Rattle.edge_defs.specs.Imported.{imported_inclusive}
use Rattle.edge_defs.specs.Place.{EdgePlace, OwnVrf, addr_of, own_vrfs}
use Rattle.edge_words.proofs.edge_laws.Taken.{run_at, table_in}
use Rattle.edge_words.proofs.calm_laws.Lists.{not_both}
use Rattle.edge_words.specs.Leaf.{IsInclusive}
use Rattle.control_laws.specs.Peers.{told_inclusive}
use Rattle.control_laws.proofs.PeersKinds.{tables_of}
use Rattle.control_laws.proofs.PeersLost.{raised_loses, removed_loses, without_table}
use Rattle.control_laws.proofs.PeersTables.{with_table}
use Rattle.control_laws.proofs.PeersTimers.{ran, with_run}
use Rattle.control_laws.proofs.PeersTold.{Changes, Here, Loses, here_or_not}
use Rattle.edge_routing.specs.edge_updates.Inclusive.{AreTunnels, HasAllFrom, IsInclusiveFrom}

-- of two lists one after the other, neither has it
pub neither : (a b : Bool) → (a || b) ≡ false → (a ≡ false) × (b ≡ false)
neither true b h = absurd (let bad : true ≡ false = h in cc)
neither false b h = (refl, h)

pub unlisted : (fec : Fec) (xs ys : List Fec) → list_any (same_fec fec) (xs ++ ys) ≡ false
    → (list_any (same_fec fec) xs ≡ false) × (list_any (same_fec fec) ys ≡ false)
unlisted fec xs ys h = neither (list_any (same_fec fec) xs) (list_any (same_fec fec) ys) (sym (list_any-append (same_fec fec) xs ys) ∙ h)

module _ (place : EdgePlace) (fec : Fec) where
  -- an inclusive route that is the same after a step as before it
  stands : (old new : Control) (is : IsInclusive place old fec) → tables_of new is.peer is.key ≡ tables_of old is.peer is.key
      → IsInclusive place new fec
  stands old new is same = record {
    own = is.own;
    of_edge = is.of_edge;
    peer = is.peer;
    key = is.key;
    route = is.route;
    taken = same ∙ is.taken;
    imported = is.imported;
  }

  -- ---- a route that changes

  -- no VRF of the edge imports the tunnel by the route
  abbrev pub IsUntold : NodeId → Key → Option TakenRoute → Type 0
  IsUntold peer key route = (own : OwnVrf) → Among own (own_vrfs place) → told_inclusive place own peer key route ≡ Some fec → ⊥

  at_key : (control : Control) (peer : NodeId) (key : Key) (route : Option TakenRoute) → tables_of control peer key ≡ route
      → (is : IsInclusive place control fec) → Here peer key is.peer is.key → told_inclusive place is.own peer key route ≡ Some fec
  at_key control peer key route at is here =
      ap (λ (o : Option TakenRoute). told_inclusive place is.own peer key o)
      (sym at ∙ (λ i. tables_of control (sym here.0 i) (sym here.1 i)) ∙ is.taken)
      ∙ (λ i. imported_inclusive is.own.vrf (addr_of place.scenario (sym here.0 i)) (sym here.1 i, is.route)) ∙ is.imported

  carried : (old new : Control) (peer : NodeId) (key : Key) (before after : Option TakenRoute)
      → Changes (tables_of old) (tables_of new) peer key before after
      → IsUntold peer key before → IsInclusive place old fec → IsInclusive place new fec
  carried old new peer key before after changes untold is = elim (here_or_not peer key is.peer is.key) [
    | inl here ↦ absurd (untold is.own is.of_edge (at_key old peer key before changes.was is here))
    | inr apart ↦ stands old new is (changes.rest is.peer is.key apart)
  ]

  back : (old new : Control) (peer : NodeId) (key : Key) (before after : Option TakenRoute)
      → Changes (tables_of old) (tables_of new) peer key before after
      → Changes (tables_of new) (tables_of old) peer key after before
  back old new peer key before after changes =
      record { was = changes.is; is = changes.was; rest = λ q k apart. sym (changes.rest q k apart) }

  -- A tunnel by which neither the old nor the new route is imported stays.
  pub untold_stays : (old new : Control) (peer : NodeId) (key : Key) (before after : Option TakenRoute)
      → Changes (tables_of old) (tables_of new) peer key before after
      → IsUntold peer key before → IsUntold peer key after → IsInclusive place old fec ↔ IsInclusive place new fec
  untold_stays old new peer key before after changes gone come = (
    carried old new peer key before after changes gone,
    carried new old peer key after before (back old new peer key before after changes) come,
  )

  -- ---- all routes of a peer

  of_peer : (control : Control) (peer : NodeId) (is : IsInclusive place control fec) → is.peer ≡ peer → IsInclusiveFrom place control peer fec
  of_peer control peer is same = record {
    own = is.own;
    of_edge = is.of_edge;
    key = is.key;
    route = is.route;
    taken = (λ i. tables_of control (sym same i) is.key) ∙ is.taken;
    imported = (λ i. imported_inclusive is.own.vrf (addr_of place.scenario (sym same i)) (is.key, is.route)) ∙ is.imported;
  }

  -- A tunnel that is imported from no route of the peer stays.
  pub others_stay : (old new : Control) (peer : NodeId) → Loses (tables_of old) (tables_of new) peer → (IsInclusiveFrom place old peer fec → ⊥)
      → IsInclusive place old fec ↔ IsInclusive place new fec
  others_stay old new peer loses none = (
    λ is. elim (node_cases is.peer peer) [
      | inl same ↦ absurd (none (of_peer old peer is same))
      | inr apart ↦ stands old new is (loses.rest is.peer is.key apart)
    ],
    λ is. elim (node_cases is.peer peer) [
      | inl same ↦ absurd (let bad : None ≡ Some is.route = sym (loses.gone is.key) ∙ (λ i. tables_of new (sym same i) is.key) ∙ is.taken in cc)
      | inr apart ↦ stands new old is (sym (loses.rest is.peer is.key apart))
    ],
  )

-- ---- laws

pub lost_tunnels : (place : EdgePlace) (old : Control) (peer : NodeId) (fecs : List Fec) → HasAllFrom place old peer fecs
    → AreTunnels place old (without_table peer old) fecs
lost_tunnels place old peer fecs has fec none =
    others_stay place fec old (without_table peer old) peer (removed_loses old peer) (λ is. not_both (list_any (same_fec fec) fecs) (has fec is) none)

pub raised_tunnels : (place : EdgePlace) (old : Control) (peer : NodeId) (fecs : List Fec) → HasAllFrom place old peer fecs
    → AreTunnels place old (with_table peer maps.empty old) fecs
raised_tunnels place old peer fecs has fec none =
    others_stay place fec old (with_table peer maps.empty old) peer (raised_loses old peer)
    (λ is. not_both (list_any (same_fec fec) fecs) (has fec is) none)

-- the routes of the same tables
same_tables : (old new : Control) → old.peers ≡ new.peers → (peer : NodeId) (key : Key) → tables_of new peer key ≡ tables_of old peer key
same_tables old new same peer key = ap (λ (tables : FinMap node_cmp Taken). maps.get (table_in (maps.get tables peer)) key) (sym same)

pub alike_tunnels : (place : EdgePlace) (old new : Control) (fecs : List Fec) → old.peers ≡ new.peers → AreTunnels place old new fecs
alike_tunnels place old new fecs same fec none = (
  λ is. stands place fec old new is (same_tables old new same is.peer is.key),
  λ is. stands place fec new old is (sym (same_tables old new same is.peer is.key)),
)

-- what is there after a change of what was there
mapped : {A B P : Type 0} (f : A → B) (o : Option A) (b : B) → option_map f o ≡ Some b → ((a : A) → o ≡ Some a → f a ≡ b → P) → P
mapped f None b h k = absurd cc
mapped f (Some a) b h k = k a refl cc

pub run_tunnels : (place : EdgePlace) (now : ℕ) (control : Control) (fecs : List Fec) → AreTunnels place control (with_run place now control) fecs
run_tunnels place now control fecs fec none = (
  λ is. record {
    own = is.own;
    of_edge = is.of_edge;
    peer = is.peer;
    key = is.key;
    route = run_at place now is.peer is.key is.route;
    taken = ran place now control is.peer is.key ∙ ap (option_map (run_at place now is.peer is.key)) is.taken;
    imported = is.imported;
  },
  λ is. mapped (run_at place now is.peer is.key) (tables_of control is.peer is.key) is.route (sym (ran place now control is.peer is.key) ∙ is.taken)
      (λ route there run. record {
        own = is.own;
        of_edge = is.of_edge;
        peer = is.peer;
        key = is.key;
        route = route;
        taken = there;
        imported = ap (λ (r : TakenRoute). imported_inclusive is.own.vrf (addr_of place.scenario is.peer) (is.key, r)) run ∙ is.imported;
      }),
)

pub two_tunnels : (place : EdgePlace) (first second third : Control) (fecs more : List Fec) → AreTunnels place first second fecs
    → AreTunnels place second third more
    → AreTunnels place first third (fecs ++ more)
two_tunnels place first second third fecs more h k fec none =
    let apart = unlisted fec fecs more none in
    let a = h fec apart.0 in
    let b = k fec apart.1 in
    (λ is. b.0 (a.0 is), λ is. a.1 (b.1 is))
