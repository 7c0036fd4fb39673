-- What an edge keeps after a route that a peer announces.
use Rattle.std.proofs.Common.{◌≡◌, ℕ, not, Bool, true, false, cond, inl, inr, List, [], ◌∷◌, is_some, Option, Some, None, refl, sym, ap, subst, ◌∙◌}
use Rattle.std.specs.Ordering.{eq_by_cmp}
use Rattle.std.specs.FinMap as maps
use Rattle.std.specs.FinMap.{FinMap}
use Rattle.std.specs.List.{AllByRecursion}
use Rattle.mv_base.specs.Lists.{Among}
use Rattle.mv_base.specs.Number.{◌>>?◌}
use Rattle.mv_base.specs.declared.ids.NodeId.{NodeId}
use Rattle.bgp_messages.specs.declared.bgp_attributes.key.Key.{Key}
use Rattle.bgp_messages.specs.declared.bgp_attributes.update.Change.{Change}
use Rattle.bgp_messages.specs.declared.bgp_attributes.update.Change.TheVariants.{Unreach}
use Rattle.bgp_messages.specs.bgp_update.Written.{IsWritableKey}
use Rattle.mv_base.specs.core_walks.Core.{Core}
use Rattle.label_defs.specs.Keys.{node_cmp}
use Rattle.label_defs.proofs.KeyLemmas.{node_cmp_total, node_cmp_exact}
use Rattle.vrf_words.specs.tree_defs.Trees.{TreeData}
use Rattle.edge_defs.specs.Edge.{Taken, TakenRoute}
use Rattle.edge_defs.specs.Keys.{Value, key_cmp, same_value}
use Rattle.edge_defs.proofs.KeyLemmas.{key_exact, key_total}
use Rattle.edge_defs.specs.Place.{OwnVrf, vrfs_from}
use Rattle.edge_defs.specs.Steps.{learned, taken_change}
use Rattle.edge_routes.specs.edge_home.Home.{place_of}
use Rattle.edge_tables.specs.taken_tables.Tables.{changed_at, is_news, reach, route_at}
use Rattle.edge_tables.proofs.taken_tables.MapLemmas.{put_itself}
use Rattle.control_laws.specs.Between.{MakesBetween}
use Rattle.control_laws.specs.Control.{Kept, control_of}
use Rattle.control_laws.specs.Customers.{AreSingle}
use Rattle.control_laws.specs.Peers.{key_of, route_after, tree_change, tree_with}
use Rattle.control_laws.proofs.Parts.{no_core}
use Rattle.control_laws.proofs.PeersChange.{change_customers, change_spelled}
use Rattle.control_laws.proofs.PeersKept.{update_makes}
use Rattle.control_laws.proofs.PeersMaps.{itself_by, one_by}
use Rattle.control_laws.proofs.PeersParts.{Customers}
use Rattle.edge_control.specs.Sound.{IsSingle, IsSound, kept_of}
use Rattle.edge_control.specs.Taking.{IsWithout, coming, dropping, learning, turned_all}
use Rattle.edge_control.proofs.SoundLemmas.{sound_between}
use Rattle.edge_control.proofs.PeerCalls.{more_nodes, sound_with}
use Rattle.edge_control.proofs.PeerKinds.{gone_map, put_map, with_back, with_split}
use Rattle.edge_control.proofs.PeerTurns.{turned_alike, turned_each}
use Rattle.edge_control.proofs.PeerWithout.{trees_without}

-- ---- tables

-- a key that is put, and was not there, is removed
absent : (m : Taken) (k : Key) (x : TakenRoute) → maps.get m k ≡ None → maps.remove (maps.insert m k x) k ≡ m
absent m k x none = maps.same_map key_total key_exact (maps.remove (maps.insert m k x) k) m
    (λ q. maps.get-remove key_total (maps.insert m k x) k q ∙ ap (cond (eq_by_cmp key_cmp q k) None) (maps.get-insert key_total m k x q)
    ∙ by q (eq_by_cmp key_cmp q k) refl)
  where
    by : (q : Key) (b : Bool) → eq_by_cmp key_cmp q k ≡ b → cond b None (cond b (Some x) (maps.get m q)) ≡ maps.get m q
    by q true e = sym none ∙ ap (maps.get m) (sym (one_by key_cmp key_exact q k e))
    by q false e = refl

own_route : (m : Taken) (k : Key) (x : TakenRoute) → maps.get (maps.insert m k x) k ≡ Some x
own_route m k x = maps.get-insert key_total m k x k ∙ ap (λ b. cond b (Some x) (maps.get m k)) (itself_by key_cmp key_total k)

no_route : (m : Taken) (k : Key) → maps.get (maps.remove m k) k ≡ None
no_route m k = maps.get-remove key_total m k k ∙ ap (λ b. cond b None (maps.get m k)) (itself_by key_cmp key_total k)

own_table : (peers : FinMap node_cmp Taken) (peer : NodeId) (taken : Taken) → maps.get (maps.insert peers peer taken) peer ≡ Some taken
own_table peers peer taken =
    maps.get-insert node_cmp_total peers peer taken peer
    ∙ ap (λ b. cond b (Some taken) (maps.get peers peer)) (itself_by node_cmp node_cmp_total peer)

-- the table that is put last stays
last_table : (peers : FinMap node_cmp Taken) (peer : NodeId) (one other : Taken)
    → maps.insert (maps.insert peers peer one) peer other ≡ maps.insert peers peer other
last_table peers peer one other =
    sym (put_map node_cmp_total node_cmp_exact (maps.insert peers peer one) peer other)
    ∙ ap (λ (m : FinMap node_cmp Taken). maps.insert m peer other) (gone_map node_cmp_total node_cmp_exact peers peer one)
    ∙ put_map node_cmp_total node_cmp_exact peers peer other

-- a change of the table that was put
changed_put : (peers : FinMap node_cmp Taken) (peer : NodeId) (change : Taken → Taken) (taken : Taken)
    → changed_at peer change (maps.insert peers peer taken) ≡ maps.insert peers peer (change taken)
changed_put peers peer change taken =
    ap (λ (o : Option Taken). elim o as (λ x. FinMap node_cmp Taken)
    [ None ↦ maps.insert peers peer taken | Some table ↦ maps.insert (maps.insert peers peer taken) peer (change table) ])
    (own_table peers peer taken)
    ∙ last_table peers peer taken (change taken)

module _ (tables : FinMap node_cmp Taken) (peer : NodeId) (key : Key) (value : Value) (now : ℕ) where
  abbrev reached : Taken → Taken
  reached taken = taken_change now taken (reach key value)

  abbrev unreached : Taken → Taken
  unreached taken = taken_change now taken (Unreach key)

  abbrev route : TakenRoute
  route = record { value = value; since = now; run = false }

  abbrev route_in : Option Taken → Option TakenRoute
  route_in o = o >>? λ taken. maps.get taken key

  abbrev thereafter : (Taken → Taken) → Option Taken → FinMap node_cmp Taken
  thereafter change o = elim o as (λ x. FinMap node_cmp Taken) [ None ↦ tables | Some taken ↦ maps.insert tables peer (change taken) ]

  same_taken : (taken : Taken) (r : Option TakenRoute) → maps.get taken key ≡ r → is_news value r ≡ false
      → maps.insert taken key (learned now value r) ≡ taken
  same_taken taken None at h = absurd (let bad : true ≡ false = h in cc)
  same_taken taken (Some old) at h = by (same_value old.value value) h
    where
      by : (b : Bool) → not b ≡ false → maps.insert taken key (cond b old route) ≡ taken
      by true e = put_itself key_total key_exact taken key old at
      by false e = absurd (let bad : true ≡ false = e in cc)

  fresh_route : (r : Option TakenRoute) → is_news value r ≡ true → learned now value r ≡ route
  fresh_route None h = refl
  fresh_route (Some old) h = by (same_value old.value value) h
    where
      by : (b : Bool) → not b ≡ true → cond b old route ≡ route
      by true e = absurd (let bad : false ≡ true = e in cc)
      by false e = refl

  stays_of : (o : Option Taken) → maps.get tables peer ≡ o → is_news value (route_in o) ≡ false → thereafter reached o ≡ tables
  stays_of None up h = refl
  stays_of (Some taken) up h =
      ap (maps.insert tables peer) (same_taken taken (maps.get taken key) refl h) ∙ put_itself node_cmp_total node_cmp_exact tables peer taken up

  -- an equal route changes nothing
  pub table_stays : is_news value (route_at tables peer key) ≡ false → changed_at peer reached tables ≡ tables
  table_stays = stays_of (maps.get tables peer) refl

  anew_of : (o : Option Taken) → maps.get tables peer ≡ o → is_news value (route_in o) ≡ true
      → changed_at peer reached (thereafter unreached o) ≡ thereafter reached o
  anew_of None up h = ap (thereafter reached) up
  anew_of (Some taken) up h =
      changed_put tables peer reached (maps.remove taken key)
      ∙ ap (maps.insert tables peer)
      (ap (λ (r : Option TakenRoute). maps.insert (maps.remove taken key) key (learned now value r)) (no_route taken key)
      ∙ put_map key_total key_exact taken key route ∙ ap (maps.insert taken key) (sym (fresh_route (maps.get taken key) h)))

  -- one that says something else may be withdrawn first
  pub table_anew : is_news value (route_at tables peer key) ≡ true
      → changed_at peer reached (changed_at peer unreached tables) ≡ changed_at peer reached tables
  table_anew = anew_of (maps.get tables peer) refl

  left_of : (o : Option Taken) → maps.get tables peer ≡ o → route_at (thereafter unreached o) peer key ≡ None
  left_of None up = ap route_in up
  left_of (Some taken) up = ap route_in (own_table tables peer (maps.remove taken key)) ∙ no_route taken key

  pub none_left : route_at (changed_at peer unreached tables) peer key ≡ None
  none_left = left_of (maps.get tables peer) refl

  back_of : (o : Option Taken) → maps.get tables peer ≡ o → route_in o ≡ None → changed_at peer unreached (thereafter reached o) ≡ tables
  back_of None up none = ap (thereafter unreached) up
  back_of (Some taken) up none =
      changed_put tables peer unreached (reached taken)
      ∙ ap (maps.insert tables peer) (absent taken key (learned now value (maps.get taken key)) none)
      ∙ put_itself node_cmp_total node_cmp_exact tables peer taken up

  -- a route that is taken where there was none, and withdrawn
  pub taken_back : route_at tables peer key ≡ None → changed_at peer unreached (changed_at peer reached tables) ≡ tables
  taken_back = back_of (maps.get tables peer) refl

-- ---- trees

module _ (kept : Kept) (sound : IsSound kept) (peer : NodeId) (key : Key) (writable : IsWritableKey key) (value : Value) (now : ℕ)
    (trees : List TreeData) where
  abbrev owns : List OwnVrf
  owns = vrfs_from kept.home.me 0 kept.home.scenario.vrfs

  abbrev anew : TakenRoute
  anew = record { value = value; since = now; run = false }

  -- What is kept is sound, and this.
  abbrev Ends : FinMap node_cmp Taken → Type 0
  Ends tables = IsSound (kept_of kept.home trees tables) × (control_of (kept_of kept.home trees tables) ≡ record (control_of kept) { peers = tables })

  two_writable : (change : Change) → Among change (reach key value ∷ Unreach key ∷ []) → IsWritableKey (key_of change)
  two_writable change (inl e) = subst (λ (c : Change). IsWritableKey (key_of c)) (sym e) writable
  two_writable change (inr (inl e)) = subst (λ (c : Change). IsWritableKey (key_of c)) (sym e) writable
  two_writable change (inr (inr a)) = absurd a

  one_writable : (change : Change) → Among change (reach key value ∷ []) → IsWritableKey (key_of change)
  one_writable change (inl e) = subst (λ (c : Change). IsWritableKey (key_of c)) (sym e) writable
  one_writable change (inr a) = absurd a

  -- the peer is up, and its table has no route of the key
  module _ (taken : Taken) (up : maps.get kept.peers peer ≡ Some taken) (none : maps.get taken key ≡ None) where
    abbrev with_it : Taken
    with_it = taken_change now taken (reach key value)

    there : maps.get with_it key ≡ Some anew
    there = own_route taken key (learned now value (maps.get taken key)) ∙ ap (λ (o : Option TakenRoute). Some (learned now value o)) none

    module _ (are : (core : Core) → trees ≡ turned_all (coming kept.home core peer now key (Some anew)) owns kept.trees) where
      came_made : MakesBetween (record kept { trees = trees; peers = maps.insert kept.peers peer with_it })
          (record (control_of kept) { peers = maps.insert kept.peers peer with_it })
      came_made = update_makes kept (sound_between kept sound) peer now trees taken (reach key value ∷ []) up sound.spelled one_writable
          (λ core. are core
          ∙ ap (λ (o : Option TakenRoute). turned_all
          (λ own tree. tree_change (place_of kept.home core) own peer now key o (route_after now (reach key value) o) tree) owns kept.trees)
          (sym none))

      came_single : AllByRecursion IsSingle trees
      came_single = subst (AllByRecursion IsSingle) (sym (are no_core))
          (turned_each IsSingle (coming kept.home no_core peer now key (Some anew))
          (λ own tree h. subst AreSingle (sym (ap (λ (c : Customers). c.2)
          (change_customers (place_of kept.home no_core) own peer now key None (Some anew) tree))) h) owns kept.trees sound.single)

      came_ends : Ends (maps.insert kept.peers peer with_it)
      came_ends = (
        sound_with kept sound trees (maps.insert kept.peers peer with_it) came_made came_single
            (change_spelled (control_of kept) peer taken now (reach key value) up sound.spelled writable)
            (more_nodes kept sound peer with_it (sound.peers peer (ap is_some up))),
        came_made.is,
      )

    module _ (are : (core : Core) → trees ≡ turned_all (dropping kept.home core peer now key (Some anew)) owns kept.trees) where
      abbrev without_it : Taken
      without_it = taken_change now with_it (Unreach key)

      split_back : (core : Core) (own : OwnVrf) (tree : TreeData) → IsWithout peer key tree
          → dropping kept.home core peer now key (Some anew) own tree
          ≡ dropping kept.home core peer now key (Some anew) own (coming kept.home core peer now key (Some anew) own tree)
      split_back core own tree without =
          sym (with_back (place_of kept.home core) own peer now now key (Some anew) tree)
          ∙ ap (tree_with (place_of kept.home core) own peer now key (Some anew) None)
          (sym (with_split (place_of kept.home core) own peer now key (Some anew) tree without))

      went_made : MakesBetween (record kept { trees = trees; peers = maps.insert kept.peers peer without_it })
          (record (control_of kept) { peers = maps.insert kept.peers peer without_it })
      went_made = update_makes kept (sound_between kept sound) peer now trees taken (reach key value ∷ Unreach key ∷ []) up sound.spelled two_writable
          (λ core. are core
          ∙ turned_alike (IsWithout peer key) (dropping kept.home core peer now key (Some anew))
          (λ own tree. dropping kept.home core peer now key (Some anew) own (coming kept.home core peer now key (Some anew) own tree))
          (split_back core) owns kept.trees
          (trees_without kept sound peer key writable (ap (λ (o : Option Taken). o >>? λ table. maps.get table key) up ∙ none))
          ∙ ap (λ (o : Option TakenRoute). turned_all
          (λ own tree. dropping kept.home core peer now key o own (coming kept.home core peer now key (Some anew) own tree)) owns kept.trees)
          (sym there)
          ∙ ap (λ (o : Option TakenRoute). turned_all (λ own tree. dropping kept.home core peer now key (maps.get with_it key) own
          (tree_change (place_of kept.home core) own peer now key o (route_after now (reach key value) o) tree)) owns kept.trees) (sym none))

      went_single : AllByRecursion IsSingle trees
      went_single = subst (AllByRecursion IsSingle) (sym (are no_core))
          (turned_each IsSingle (dropping kept.home no_core peer now key (Some anew))
          (λ own tree h. subst AreSingle (sym (ap (λ (c : Customers). c.2)
          (change_customers (place_of kept.home no_core) own peer now key (Some anew) None tree))) h) owns kept.trees sound.single)

      as_before : maps.insert kept.peers peer without_it ≡ kept.peers
      as_before =
          ap (maps.insert kept.peers peer) (absent taken key (learned now value (maps.get taken key)) none)
          ∙ put_itself node_cmp_total node_cmp_exact kept.peers peer taken up

      went_ends : Ends kept.peers
      went_ends =
          let made : MakesBetween (record kept { trees = trees; peers = kept.peers }) (record (control_of kept) { peers = kept.peers }) =
          subst (λ (tables : FinMap node_cmp Taken). MakesBetween (record kept { trees = trees; peers = tables })
          (record (control_of kept) { peers = tables })) as_before went_made in
          (sound_with kept sound trees kept.peers made went_single sound.spelled sound.peers, made.is)

  abbrev tables_of : Option Taken → FinMap node_cmp Taken
  tables_of o =
      elim o as (λ x. FinMap node_cmp Taken) [
        | None ↦ kept.peers
        | Some taken ↦
            maps.insert kept.peers peer (taken_change now taken (reach key value))
      ]

  module _ (none : route_at kept.peers peer key ≡ None) where
    pub as_coming : (core : Core) → turned_all (learning kept.home core peer now key (Some anew)) owns kept.trees
        ≡ turned_all (coming kept.home core peer now key (Some anew)) owns kept.trees
    as_coming core =
        turned_alike (IsWithout peer key) (learning kept.home core peer now key (Some anew)) (coming kept.home core peer now key (Some anew))
        (λ own tree without. sym (with_split (place_of kept.home core) own peer now key (Some anew) tree without)) owns kept.trees
        (trees_without kept sound peer key writable none)

    came_of : (o : Option Taken) → maps.get kept.peers peer ≡ o → is_some o ≡ true → (o >>? λ taken. maps.get taken key) ≡ None
        → ((core : Core) → trees ≡ turned_all (coming kept.home core peer now key (Some anew)) owns kept.trees) → Ends (tables_of o)
    came_of None at up absent are = absurd (let bad : false ≡ true = up in cc)
    came_of (Some taken) at up absent are = came_ends taken at absent are

    went_of : (o : Option Taken) → maps.get kept.peers peer ≡ o → is_some o ≡ true → (o >>? λ taken. maps.get taken key) ≡ None
        → ((core : Core) → trees ≡ turned_all (dropping kept.home core peer now key (Some anew)) owns kept.trees) → Ends kept.peers
    went_of None at up absent are = absurd (let bad : false ≡ true = up in cc)
    went_of (Some taken) at up absent are = went_ends taken at absent are

    -- the peer's session is up
    module _ (up : maps.contains_key kept.peers peer ≡ true) where
      -- the trees took the route that the table takes
      pub came : ((core : Core) → trees ≡ turned_all (learning kept.home core peer now key (Some anew)) owns kept.trees)
          → Ends (changed_at peer (λ taken. taken_change now taken (reach key value)) kept.peers)
      came are = came_of (maps.get kept.peers peer) refl up none (λ core. are core ∙ as_coming core)

      -- they forgot it
      pub went : ((core : Core) → trees ≡ turned_all (dropping kept.home core peer now key (Some anew)) owns kept.trees) → Ends kept.peers
      went are = went_of (maps.get kept.peers peer) refl up none are

-- there is none where it is answered so
pub none_there : (o : Option TakenRoute) → not (is_some o) ≡ true → o ≡ None
none_there None h = refl
none_there (Some route) h = absurd (let bad : false ≡ true = h in cc)

-- where the session is down nothing is taken
pub table_down : (tables : FinMap node_cmp Taken) (peer : NodeId) (change : Taken → Taken) → maps.contains_key tables peer ≡ false
    → changed_at peer change tables ≡ tables
table_down tables peer change down = by (maps.get tables peer) down
  where
    by : (o : Option Taken) → is_some o ≡ false
        → elim o as (λ x. FinMap node_cmp Taken) [ None ↦ tables | Some taken ↦ maps.insert tables peer (change taken) ] ≡ tables
    by None e = refl
    by (Some taken) e = absurd (let bad : true ≡ false = e in cc)
