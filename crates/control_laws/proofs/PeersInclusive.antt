-- Which inclusive tunnels a VRF imports where routes of the peers change.
use Rattle.std.proofs.Common.{◌≡◌, ◌↔◌, ℕ, ◌⊎◌, ◌&&◌, Bool, true, false, cond, is_some, inl, inr, Option, Some, None, refl, sym, ap, ◌∙◌}
use Rattle.std.specs.FinMap as maps
use Rattle.mv_base.specs.Address.{same_addr, same_addr_equal}
use Rattle.mv_base.specs.Lists.{Among}
use Rattle.mv_base.specs.Number.{◌>>?◌, only_if}
use Rattle.mv_base.proofs.CutLemmas.{if_some, next_some}
use Rattle.mv_base.specs.declared.ids.NodeId.{NodeId}
use Rattle.mldp.specs.declared.mldp_fec.fec.Fec.{Fec}
use Rattle.bgp_messages.specs.declared.bgp_attributes.key.Key.{Key}
use Rattle.bgp_messages.specs.declared.bgp_attributes.update.Change.{Change}
use Rattle.edge_defs.specs.Edge.{Control, Taken, TakenRoute}
use Rattle.edge_defs.specs.Imported.{imported_inclusive, is_admitted, lsp_of, taken_from, tunnel_by}
use Rattle.edge_defs.specs.Imported as imports
use Rattle.edge_defs.specs.Keys.{Value}
use Rattle.edge_defs.proofs.KeyLemmas.{key_exact}
use Rattle.label_defs.proofs.KeyLemmas.{node_cases, node_cmp_total}
use Rattle.vrf_words.proofs.edge_words.calm_laws.Maps.{entry_get, get_entry}
use Rattle.std.proofs.lemmas.Bool.{and_parts}
use Rattle.mv_base.specs.declared.addr.Addr.{Addr}
use Rattle.control_laws.proofs.PeersTimers.{ran, timeless, with_run}
use Rattle.control_laws.proofs.PeersLost.{removed_loses, without_table}
use Rattle.label_defs.specs.Keys.{node_cmp}
use Rattle.std.specs.Ordering.{eq_by_cmp}
use Rattle.edge_defs.specs.Place.{EdgePlace, OwnVrf, addr_of}
use Rattle.edge_defs.specs.Steps.{taken_change}
use Rattle.edge_defs.specs.Tunnels.{inclusive_tunnels}
use Rattle.vrf_words.proofs.edge_words.calm_laws.Lists.{among_flat_map, among_found, flat_map_among, found_among}
use Rattle.vrf_words.proofs.edge_words.Members.{table_of, taken_of}
use Rattle.control_laws.specs.Peers.{inclusive_of, key_of, route_after, told_inclusive}
use Rattle.control_laws.proofs.PeersKinds.{tables_of}
use Rattle.control_laws.proofs.PeersTables.{changed, with_table}
use Rattle.control_laws.proofs.PeersTold.{Changes, Loses, Told, came, news, went}

abbrev pub tell_inclusive : EdgePlace → OwnVrf → NodeId → Key → TakenRoute → Option (Fec × Unit {0})
tell_inclusive place own peer key taken = imported_inclusive own.vrf (addr_of place.scenario peer) (key, taken) >>? λ fec. Some (fec, tt)

abbrev only_fec : Option (Fec × Unit {0}) → Option Fec
only_fec None = None
only_fec (Some entry) = Some entry.0

module _ (place : EdgePlace) (own : OwnVrf) where
  one_fec : (o : Option Fec) → only_fec (o >>? λ fec. Some (fec, tt)) ≡ o
  one_fec None = refl
  one_fec (Some fec) = refl

  -- what is given is the tunnel, and the other way round
  is_fec : (peer : NodeId) (key : Key) (o : Option TakenRoute)
      → only_fec (o >>? tell_inclusive place own peer key) ≡ told_inclusive place own peer key o
  is_fec peer key None = refl
  is_fec peer key (Some taken) = one_fec (imported_inclusive own.vrf (addr_of place.scenario peer) (key, taken))

  fec_told : (peer : NodeId) (key : Key) (o : Option TakenRoute) (fec : Fec) → (o >>? tell_inclusive place own peer key) ≡ Some (fec, tt)
      → told_inclusive place own peer key o ≡ Some fec
  fec_told peer key o fec h = sym (is_fec peer key o) ∙ ap only_fec h

  told_fec : (peer : NodeId) (key : Key) (o : Option TakenRoute) (fec : Fec) → told_inclusive place own peer key o ≡ Some fec
      → (o >>? tell_inclusive place own peer key) ≡ Some (fec, tt)
  told_fec peer key o fec h =
      next_some (λ (taken : TakenRoute). imported_inclusive own.vrf (addr_of place.scenario peer) (key, taken)) o fec h
      (λ taken is found. ap (λ (r : Option TakenRoute). r >>? tell_inclusive place own peer key) is
      ∙ ap (λ (f : Option Fec). f >>? λ fec. Some (fec, tt)) found)

  -- ---- the tunnels are those that routes give

  module _ (control : Control) where
    has_told : (fec : Fec) → Among fec (inclusive_of place control own) → Told (tell_inclusive place own) (tables_of control) fec tt
    has_told fec a =
        let peer = flat_map_among (inclusive_tunnels place own) fec (maps.entries control.peers) a in
        let found = found_among (imported_inclusive own.vrf (addr_of place.scenario peer.0.0)) fec (maps.entries peer.0.1) peer.2 in
        record {
          peer = peer.0.0;
          key = found.0.0;
          route = found.0.1;
          is = taken_of control peer.0.0 peer.0.1 found.0.0 found.0.1 peer.1 found.1;
          tells = ap (λ (f : Option Fec). f >>? λ fec. Some (fec, tt)) found.2;
        }

    told_has : (fec : Fec) → Told (tell_inclusive place own) (tables_of control) fec tt → Among fec (inclusive_of place control own)
    told_has fec told =
        let t = table_of control told.peer told.key told.route told.is in
        among_flat_map (inclusive_tunnels place own) (told.peer, t.table) fec (maps.entries control.peers) t.of_peer
        (among_found (imported_inclusive own.vrf (addr_of place.scenario told.peer)) (told.key, told.route) fec (maps.entries t.table) t.among
        (fec_told told.peer told.key (Some told.route) fec told.tells))

  -- ---- one change

  module _ (control : Control) (peer : NodeId) (taken : Taken) (up : maps.get control.peers peer ≡ Some taken) (now : ℕ) (change : Change) where
    abbrev next : Control
    next = with_table peer (taken_change now taken change) control

    abbrev old : Option TakenRoute
    old = maps.get taken (key_of change)

    abbrev new : Option TakenRoute
    new = route_after now change (maps.get taken (key_of change))

    abbrev tell : NodeId → Key → TakenRoute → Option (Fec × Unit {0})
    tell = tell_inclusive place own

    changes : Changes (tables_of control) (tables_of next) peer (key_of change) old new
    changes = changed control peer taken up now change

    -- A tunnel after the change was one before it, or is that of the new route.
    pub fec_came : (fec : Fec) → Among fec (inclusive_of place next own)
        → (told_inclusive place own peer (key_of change) new ≡ Some fec) ⊎ Among fec (inclusive_of place control own)
    fec_came fec a = elim (came tell (tables_of control) (tables_of next) peer (key_of change) old new changes fec tt (has_told next fec a)) [
      | inl h ↦ inl (fec_told peer (key_of change) new fec h)
      | inr told ↦ inr (told_has control fec told)
    ]

    -- A tunnel before the change is one after it, or was that of the old route.
    pub fec_went : (fec : Fec) → Among fec (inclusive_of place control own)
        → (told_inclusive place own peer (key_of change) old ≡ Some fec) ⊎ Among fec (inclusive_of place next own)
    fec_went fec a = elim (went tell (tables_of control) (tables_of next) peer (key_of change) old new changes fec tt (has_told control fec a)) [
      | inl h ↦ inl (fec_told peer (key_of change) old fec h)
      | inr told ↦ inr (told_has next fec told)
    ]

    -- That of the new route is one.
    pub fec_new : (fec : Fec) → told_inclusive place own peer (key_of change) new ≡ Some fec → Among fec (inclusive_of place next own)
    fec_new fec h =
        told_has next fec (news tell (tables_of control) (tables_of next) peer (key_of change) old new changes fec tt
        (told_fec peer (key_of change) new fec h))

    nothing_told : (route : Option TakenRoute) → imports.inclusive_of (key_of change) ≡ None
        → told_inclusive place own peer (key_of change) route ≡ None
    nothing_told None none = refl
    nothing_told (Some taken) none =
        ap (λ (o : Option Addr). o >>? λ originator. only_if (is_admitted own.vrf taken.value.comms) taken.value >>? λ value.
        tunnel_by (addr_of place.scenario peer) originator value) none

    not_told : (route : Option TakenRoute) (fec : Fec) → imports.inclusive_of (key_of change) ≡ None
        → told_inclusive place own peer (key_of change) route ≡ Some fec → ⊥
    not_told route fec none h = absurd (let bad : None ≡ Some fec = sym (nothing_told route none) ∙ h in cc)

    -- A route of another kind changes none.
    pub fec_same : imports.inclusive_of (key_of change) ≡ None → (fec : Fec)
        → Among fec (inclusive_of place control own) ↔ Among fec (inclusive_of place next own)
    fec_same none fec = (
      λ a. elim (fec_went fec a) [ inl h ↦ absurd (not_told old fec none h) | inr b ↦ b ],
      λ a. elim (fec_came fec a) [ inl h ↦ absurd (not_told new fec none h) | inr b ↦ b ],
    )

  -- ---- delays

  pub fec_run : (now : ℕ) (control : Control) (fec : Fec)
      → Among fec (inclusive_of place control own) ↔ Among fec (inclusive_of place (with_run place now control) own)
  fec_run now control fec =
      let both =
      timeless place now (tables_of control) (tables_of (with_run place now control)) (ran place now control) (tell_inclusive place own)
      (λ q k t. refl) fec tt in (
        λ a. told_has (with_run place now control) fec (both.0 (has_told control fec a)),
        λ a. told_has control fec (both.1 (has_told (with_run place now control) fec a)),
      )

  -- ---- all routes of a peer

  -- the root of a tunnel is the address of its peer
  root_of : (peer : NodeId) (key : Key) (taken : TakenRoute) (fec : Fec) → tell_inclusive place own peer key taken ≡ Some (fec, tt)
      → fec.root ≡ addr_of place.scenario peer
  root_of peer key taken fec h =
      next_some (λ (originator : Addr). only_if (is_admitted own.vrf taken.value.comms) taken.value >>? λ value. tunnel_by
      (addr_of place.scenario peer) originator value)
      (imports.inclusive_of key) fec (fec_told peer key (Some taken) fec h)
      (λ originator is k.
      next_some (λ (value : Value). tunnel_by (addr_of place.scenario peer) originator value)
      (only_if (is_admitted own.vrf taken.value.comms) taken.value) fec k
      (λ value is_value l.
      next_some (λ (found : Fec). only_if (same_addr found.root (addr_of place.scenario peer) && same_addr originator (addr_of place.scenario peer))
      found) (lsp_of value.pmsi) fec l
      (λ found is_found m.
      let test = if_some (same_addr found.root (addr_of place.scenario peer) && same_addr originator (addr_of place.scenario peer)) found fec m in
      ap (λ (f : Fec). f.root) (sym test.1)
      ∙ same_addr_equal found.root (addr_of place.scenario peer)
      (and_parts (same_addr found.root (addr_of place.scenario peer)) (same_addr originator (addr_of place.scenario peer)) test.0).0)))

  module _ (control next : Control) (peer : NodeId) (loses : Loses (tables_of control) (tables_of next) peer) (fec : Fec) where
    elsewhere : (q : NodeId) (k : Key) (route : TakenRoute) → tables_of next q k ≡ Some route → q ≡ peer → ⊥
    elsewhere q k route is same = absurd (let bad : None ≡ Some route = sym (loses.gone k) ∙ (λ i. tables_of next (sym same i) k) ∙ is in cc)

    was_told : (told : Told (tell_inclusive place own) (tables_of next) fec tt) → Told (tell_inclusive place own) (tables_of control) fec tt
    was_told told = record {
      peer = told.peer;
      key = told.key;
      route = told.route;
      is = sym (loses.rest told.peer told.key (elsewhere told.peer told.key told.route told.is)) ∙ told.is;
      tells = told.tells;
    }

    -- A tunnel that is left was one before.
    pub fec_left : Among fec (inclusive_of place next own) → Among fec (inclusive_of place control own)
    fec_left a = told_has control fec (was_told (has_told next fec a))

    of_peer : (told : Told (tell_inclusive place own) (tables_of control) fec tt) → told.peer ≡ peer
        → Among fec (inclusive_tunnels place own (peer, taken_from control peer))
    of_peer told same =
        among_found (imported_inclusive own.vrf (addr_of place.scenario peer)) (told.key, told.route) fec (maps.entries (taken_from control peer))
        (get_entry key_exact (taken_from control peer) told.key told.route ((λ i. tables_of control (sym same i) told.key) ∙ told.is))
        (fec_told peer told.key (Some told.route) fec ((λ i. tell_inclusive place own (sym same i) told.key told.route) ∙ told.tells))

    -- One before it is left, or was one of the peer.
    pub fec_lost : Among fec (inclusive_of place control own)
        → Among fec (inclusive_tunnels place own (peer, taken_from control peer)) ⊎ Among fec (inclusive_of place next own)
    fec_lost a = by (has_told control fec a)
      where
        by : Told (tell_inclusive place own) (tables_of control) fec tt
            → Among fec (inclusive_tunnels place own (peer, taken_from control peer)) ⊎ Among fec (inclusive_of place next own)
        by told = elim (node_cases told.peer peer) [
          | inl same ↦ inl (of_peer told same)
          | inr ne ↦ inr (told_has next fec (record {
            peer = told.peer;
            key = told.key;
            route = told.route;
            is = loses.rest told.peer told.key ne ∙ told.is;
            tells = told.tells;
          }))
        ]

    -- Those of the peer are left no more, where no other peer has its address.
    pub fec_gone : ((other : NodeId) → is_some (maps.get next.peers other) ≡ true → addr_of place.scenario other ≡ addr_of place.scenario peer
        → other ≡ peer)
        → Among fec (inclusive_tunnels place own (peer, taken_from control peer)) → Among fec (inclusive_of place next own) → ⊥
    fec_gone alone a b =
        let found = found_among (imported_inclusive own.vrf (addr_of place.scenario peer)) fec (maps.entries (taken_from control peer)) a in
        let told = has_told next fec b in
        let root = root_of peer found.0.0 found.0.1 fec (ap (λ (f : Option Fec). f >>? λ fec. Some (fec, tt)) found.2) in
        let other = root_of told.peer told.key told.route fec told.tells in
        let t = table_of next told.peer told.key told.route told.is in
        elsewhere told.peer told.key told.route told.is
        (alone told.peer (ap is_some (entry_get node_cmp_total next.peers told.peer t.table t.of_peer)) (sym other ∙ root))

-- ---- a peer that is lost

pub fec_removed_left : (place : EdgePlace) (own : OwnVrf) (control : Control) (peer : NodeId) (fec : Fec)
    → Among fec (inclusive_of place (without_table peer control) own) → Among fec (inclusive_of place control own)
fec_removed_left place own control peer fec = fec_left place own control (without_table peer control) peer (removed_loses control peer) fec

pub fec_removed_lost : (place : EdgePlace) (own : OwnVrf) (control : Control) (peer : NodeId) (fec : Fec) → Among fec (inclusive_of place control own)
    → Among fec (inclusive_tunnels place own (peer, taken_from control peer)) ⊎ Among fec (inclusive_of place (without_table peer control) own)
fec_removed_lost place own control peer fec = fec_lost place own control (without_table peer control) peer (removed_loses control peer) fec

-- the peers that are left
still_up : (control : Control) (peer other : NodeId) → is_some (maps.get (maps.remove control.peers peer) other) ≡ true
    → is_some (maps.get control.peers other) ≡ true
still_up control peer other h = by (eq_by_cmp node_cmp other peer) (sym (ap is_some (maps.get-remove node_cmp_total control.peers peer other)) ∙ h)
  where
    by : (b : Bool) → is_some (cond b None (maps.get control.peers other)) ≡ true → is_some (maps.get control.peers other) ≡ true
    by true k = absurd cc
    by false k = k

pub fec_removed_gone : (place : EdgePlace) (own : OwnVrf) (control : Control) (peer : NodeId) (fec : Fec)
    → ((other : NodeId) → is_some (maps.get control.peers other) ≡ true → addr_of place.scenario other ≡ addr_of place.scenario peer → other ≡ peer)
    → Among fec (inclusive_tunnels place own (peer, taken_from control peer)) → Among fec (inclusive_of place (without_table peer control) own) → ⊥
fec_removed_gone place own control peer fec alone =
    fec_gone place own control (without_table peer control) peer (removed_loses control peer) fec
    (λ other up. alone other (still_up control peer other up))
