-- The delays of selective routes that are due at an edge are those that are due in the trees of its VRFs.
use Rattle.std.specs.Prelude.{count_by, sum_by}
use Rattle.std.proofs.Common.{◌≡◌, ℕ, ◌+◌, ◌&&◌, not, nat_le, Bool, true, false, cond, inl, inr, List, [], ◌∷◌, flat_map, is_some, if◌then◌else◌, Option, Some, None, refl, sym, ap, subst, ◌∙◌, arith}
use Rattle.std.specs.List.{AllByRecursion}
use Rattle.std.specs.declared.cmp.Ordering.{Ordering}
use Rattle.std.specs.Cmp.{IsTotalOrder}
use Rattle.std.specs.FinMap as maps
use Rattle.std.specs.FinMap.{FinMap, IsAntisymmetric, find}
use Rattle.std.proofs.lemmas.List.Sums.{sum_by-cons}
use Rattle.mv_base.specs.Lists.{Among}
use Rattle.mv_base.specs.Number.{◌>>?◌}
use Rattle.mv_base.specs.declared.ids.NodeId.{NodeId}
use Rattle.mv_base.specs.declared.pattern.Pattern.{Pattern}
use Rattle.mv_base.specs.declared.rd.Rd.{Rd}
use Rattle.mv_base.specs.core_walks.Core.{Core}
use Rattle.bgp_messages.specs.declared.bgp_attributes.key.Key.{Key}
use Rattle.bgp_messages.specs.bgp_update.Written.{IsWritableKey}
use Rattle.label_defs.specs.Keys.{node_cmp}
use Rattle.label_defs.proofs.KeyLemmas.{node_cmp_total}
use Rattle.label_defs.specs.LabelData as labels
use Rattle.label_defs.specs.LabelData.{LabelData}
use Rattle.pim_defs.specs.Entries as entries
use Rattle.selective.specs.Roots as roots
use Rattle.selective.specs.Leaves as leaves
use Rattle.selective.specs.Leaves.{is_waiting}
use Rattle.selective.specs.Order.{route_cmp, route_total}
use Rattle.selective.specs.declared.route_key.Learned.{Learned}
use Rattle.selective.specs.declared.route_key.Place.TheVariants as selective_kinds
use Rattle.selective.specs.declared.route_key.RouteKey.{RouteKey}
use Rattle.selective.proofs.OrderLemmas.{route_exact}
use Rattle.vrf_words.specs.tree_defs.Trees.{TreeData}
use Rattle.edge_defs.specs.Due.{due, due_delays, due_from}
use Rattle.edge_defs.specs.Edge.{Control, Taken, TakenRoute}
use Rattle.edge_defs.specs.Imported.{ImportedSelective, found_in, imported_selective}
use Rattle.edge_defs.specs.Place.{EdgePlace, OwnVrf, addr_of, label_place, own_vrfs}
use Rattle.edge_defs.proofs.KeyLemmas.{key_total}
use Rattle.edge_routes.specs.edge_home.Home.{place_of}
use Rattle.vrf_words.proofs.edge_words.calm_laws.Lists.{among_flat_map, flat_map_among, among_found, found_among, found_step}
use Rattle.vrf_words.proofs.edge_words.calm_laws.Maps.{some_found, found_stands}
use Rattle.vrf_words.proofs.edge_words.Members.{taken_of, table_of}
use Rattle.control_laws.specs.Control.{AreTrees, Kept, OwnTree, trees_of, control_of}
use Rattle.control_laws.specs.Customers.{AreSingle}
use Rattle.control_laws.specs.Peers.{AreWritable, IsTreeBetween, pattern_of}
use Rattle.control_laws.specs.Between.{AreTreesBetween, tree_due}
use Rattle.control_laws.proofs.PeersKeys.{selective_one}
use Rattle.control_laws.proofs.PeersKinds.{SelectiveAt, selective_told, selective_where, tables_of, tell_selective, told_selective}
use Rattle.control_laws.proofs.PeersTold.{Told}
use Rattle.control_laws.proofs.Sums.{StandOnce, count-sum, map_once, once_both, sum-alike, sum-flat, sum-made, sum-map}
use Rattle.control_laws.proofs.CustomersCounts.{entries_due, selections_due, sum-trees}
use Rattle.control_laws.proofs.Between.{are_between, between_at, full_between}
use Rattle.control_laws.proofs.Parts.{full_of, no_core, parts_of}

-- ---- sums

abbrev found_one : {X : Type 0} → Option X → List X → List X
found_one None rest = rest
found_one (Some x) rest = x ∷ rest

abbrev of_found : {X : Type 0} → (X → ℕ) → Option X → ℕ
of_found f None = 0
of_found f (Some x) = f x

more_by_none : (n : ℕ) → n ≡ 0 + n
more_by_none n = omega arith

sum-found : {X Y : Type 0} (f : Y → ℕ) (tell : X → Option Y) (xs : List X) → sum_by f (found_in tell xs) ≡ sum_by (λ x. of_found f (tell x)) xs
sum-found f tell [] = refl
sum-found f tell (x ∷ xs) =
    ap (sum_by f) (found_step tell x xs (tell x) refl) ∙ by (tell x) (sum-found f tell xs) ∙ sym (sum_by-cons (λ y. of_found f (tell y)) x xs)
  where
    by : (o : Option _) → sum_by f (found_in tell xs) ≡ sum_by (λ y. of_found f (tell y)) xs
        → sum_by f (found_one o (found_in tell xs)) ≡ of_found f o + sum_by (λ y. of_found f (tell y)) xs
    by None rest = rest ∙ more_by_none (sum_by (λ y. of_found f (tell y)) xs)
    by (Some y) rest = sum_by-cons f y (found_in tell xs) ∙ ap (λ (n : ℕ). f y + n) rest

sum-none : {X : Type 0} (xs : List X) → sum_by (λ x. 0) xs ≡ 0
sum-none [] = refl
sum-none (x ∷ xs) = (let own = sum_by-cons (λ y. 0) x xs in let rest = sum-none xs in omega (arith, own, rest))

pub sum-both : {X : Type 0} (f g : X → ℕ) (xs : List X) → sum_by (λ x. f x + g x) xs ≡ sum_by f xs + sum_by g xs
sum-both f g [] = refl
sum-both f g (x ∷ xs) =
    let a = sum_by-cons (λ y. f y + g y) x xs in
    let b = sum_by-cons f x xs in
    let c = sum_by-cons g x xs in
    let rest = sum-both f g xs in
    omega (arith, a, b, c, rest)

-- sums one way and the other
sum-turned : {X Y : Type 0} (h : X → Y → ℕ) (xs : List X) (ys : List Y) → sum_by (λ x. sum_by (h x) ys) xs ≡ sum_by (λ y. sum_by (λ x. h x y) xs) ys
sum-turned h [] ys = sym (sum-none ys)
sum-turned h (x ∷ xs) ys =
    sum_by-cons (λ z. sum_by (h z) ys) x xs ∙ ap (λ (n : ℕ). sum_by (h x) ys + n) (sum-turned h xs ys)
    ∙ sym (sum-both (h x) (λ y. sum_by (λ z. h z y) xs) ys)
    ∙ sum-alike (λ y. h x y + sum_by (λ z. h z y) xs) (λ y. sum_by (λ z. h z y) (x ∷ xs)) ys (λ y a. sym (sum_by-cons (λ z. h z y) x xs))

-- ---- lists in which no key is there twice

not_some : {X : Type 0} (o : Option X) (x : X) → o ≡ Some x → o ≡ None → ⊥
not_some o x h k = absurd (let bad : Some x ≡ None = sym h ∙ k in cc)

module _ {K V J W : Type 0} {R : K → K → Ordering} {S : J → J → Ordering} (total : IsTotalOrder R) (exact : IsAntisymmetric S)
    (tell : K × V → Option (J × W)) where
  abbrev IsOne : List (K × V) → Type 0
  IsOne es = (e f : K × V) (j : J) (v w : W) → Among e es → Among f es → tell e ≡ Some (j, v) → tell f ≡ Some (j, w) → e.0 ≡ f.0

  no_other : (e : K × V) (es : List (K × V)) → IsOne (e ∷ es) → find R e.0 es ≡ None → (y : J × W) → tell e ≡ Some y → (o : Option W)
      → find S y.0 (found_in tell es) ≡ o → o ≡ None
  no_other e es one none y is None h = refl
  no_other e es one none y is (Some w) h =
      let (f, among, tells) = found_among tell (y.0, w) es (found_stands exact y.0 w (found_in tell es) h) in
      let same : e.0 ≡ f.0 = one e f y.0 y.1 w (inl refl) (inr among) is tells in
      let (v, found) = some_found total f.0 f.1 es among in
      absurd (not_some (find R f.0 es) v found (ap (λ (k : K). find R k es) (sym same) ∙ none))

  found_once : (es : List (K × V)) → StandOnce R es → IsOne es → StandOnce S (found_in tell es)
  found_once [] once one = tt
  found_once (e ∷ es) once one =
      subst (StandOnce S) (sym (found_step tell e es (tell e) refl))
      (by (tell e) refl (found_once es once.1 (λ a b j v w c d h k. one a b j v w (inr c) (inr d) h k)))
    where
      by : (o : Option (J × W)) → tell e ≡ o → StandOnce S (found_in tell es) → StandOnce S (found_one o (found_in tell es))
      by None h rest = rest
      by (Some y) h rest = (no_other e es one once.0 y h (find S y.0 (found_in tell es)) refl, rest)

-- lists of which each has keys of its own
module _ {K V J W : Type 0} {R : K → K → Ordering} {S : J → J → Ordering} (total : IsTotalOrder R) (exact : IsAntisymmetric S)
    (list : K × V → List (J × W)) (of_key : J → K) where
  abbrev IsOf : K × V → Type 0
  IsOf x = (e : J × W) → Among e (list x) → of_key e.0 ≡ x.0

  no_more : (x : K × V) (more : List (K × V)) → find R x.0 more ≡ None → IsOf x → ((y : K × V) → Among y more → IsOf y) → (e : J × W)
      → Among e (list x) → (o : Option W)
      → find S e.0 (flat_map list more) ≡ o → o ≡ None
  no_more x more none own others e a None h = refl
  no_more x more none own others e a (Some w) h =
      let (y, among, listed) = flat_map_among list (e.0, w) more (found_stands exact e.0 w (flat_map list more) h) in
      let same : x.0 ≡ y.0 = sym (own e a) ∙ others y among (e.0, w) listed in
      let (v, found) = some_found total y.0 y.1 more among in
      absurd (not_some (find R y.0 more) v found (ap (λ (k : K). find R k more) (sym same) ∙ none))

  lists_once : (xs : List (K × V)) → StandOnce R xs → ((x : K × V) → Among x xs → StandOnce S (list x)) → ((x : K × V) → Among x xs → IsOf x)
      → StandOnce S (flat_map list xs)
  lists_once [] once each own = tt
  lists_once (x ∷ more) once each own =
      once_both S (list x) (flat_map list more) (each x (inl refl)) (lists_once more once.1 (λ y a. each y (inr a)) (λ y a. own y (inr a)))
      (λ e a. no_more x more once.0 (own x (inl refl)) (λ y b. own y (inr b)) e a (find S e.0 (flat_map list more)) refl)

-- ---- the selective routes of a VRF

module _ (place : EdgePlace) (control : Control) (own : OwnVrf) (writable : AreWritable control) where
  abbrev tell : NodeId → Key × TakenRoute → Option (RouteKey × Learned)
  tell peer entry = tell_selective place own peer entry.0 entry.1

  abbrev told_by : NodeId × Taken → List (RouteKey × Learned)
  told_by peer = found_in (tell peer.0) (maps.entries peer.1)

  abbrev all_told : List (RouteKey × Learned)
  all_told = flat_map told_by (maps.entries control.peers)

  abbrev Tells : RouteKey → Learned → Type 0
  Tells x learned = Told (tell_selective place own) (tables_of control) x learned

  abbrev told_at : (peer : NodeId × Taken) (entry : Key × TakenRoute) (e : RouteKey × Learned) → Among peer (maps.entries control.peers)
      → Among entry (maps.entries peer.1) → tell peer.0 entry ≡ Some e
      → Tells e.0 e.1
  told_at peer entry e a b h =
      record { peer = peer.0; key = entry.0; route = entry.1; is = taken_of control peer.0 peer.1 entry.0 entry.1 a b; tells = h }

  told_from : (e : RouteKey × Learned) → Among e all_told → Tells e.0 e.1
  told_from e a =
      let (peer, among, listed) = flat_map_among told_by e (maps.entries control.peers) a in
      let (entry, inside, tells) = found_among (tell peer.0) e (maps.entries peer.1) listed in
      told_at peer entry e among inside tells

  told_to : (x : RouteKey) (learned : Learned) → Tells x learned → Among (x, learned) all_told
  told_to x learned told =
      let table = table_of control told.peer told.key told.route told.is in
      among_flat_map told_by (told.peer, table.table) (x, learned) (maps.entries control.peers) table.of_peer
      (among_found (tell told.peer) (told.key, told.route) (x, learned) (maps.entries table.table) table.among told.tells)

  -- ---- none is there twice

  rds : (one other : Rd) → selective_kinds.Of one ≡ selective_kinds.Of other → one ≡ other
  rds one other h = cc

  one_key_of : (peer : NodeId) (e f : Key × TakenRoute) (x : RouteKey) → IsWritableKey e.0 → IsWritableKey f.0 → SelectiveAt place own x peer e.0 e.1
      → SelectiveAt place own x peer f.0 f.1 → e.0 ≡ f.0
  one_key_of peer e f x h k one other =
      let same = one.is ∙ sym other.is in
      let rd : one.imported.route.rd ≡ other.imported.route.rd =
      rds one.imported.route.rd other.imported.route.rd (ap (λ (key : RouteKey). key.place) same) in
      let pattern = ap (λ (key : RouteKey). key.pattern) same in
      selective_one own.vrf own.vrf (addr_of place.scenario peer) e f one.imported other.imported h k one.found other.found rd
      (ap (λ (p : Pattern). p.source) pattern) (ap (λ (p : Pattern). p.group) pattern)

  spelled : (peer : NodeId × Taken) (entry : Key × TakenRoute) → Among peer (maps.entries control.peers) → Among entry (maps.entries peer.1)
      → IsWritableKey entry.0
  spelled peer entry a b = writable peer.0 entry.0 (ap (λ (o : Option TakenRoute). is_some o) (taken_of control peer.0 peer.1 entry.0 entry.1 a b))

  where_told : (peer : NodeId × Taken) (entry : Key × TakenRoute) (x : RouteKey) (learned : Learned) → Among peer (maps.entries control.peers)
      → Among entry (maps.entries peer.1)
      → tell peer.0 entry ≡ Some (x, learned) → SelectiveAt place own x peer.0 entry.0 entry.1
  where_told peer entry x learned a b h = selective_where place own (tables_of control) x learned (told_at peer entry (x, learned) a b h)

  all_once : StandOnce route_cmp all_told
  all_once = lists_once node_cmp_total route_exact told_by (λ key. key.peer) (maps.entries control.peers) (map_once control.peers)
      (λ peer a. found_once key_total route_exact (tell peer.0) (maps.entries peer.1) (map_once peer.1)
      (λ e f x v w c d h k. one_key_of peer.0 e f x (spelled peer e a c) (spelled peer f a d) (where_told peer e x v a c h)
      (where_told peer f x w a d k)))
      (λ peer a e b. (let (entry, inside, tells) = found_among (tell peer.0) e (maps.entries peer.1) b in
      sym (ap (λ (key : RouteKey). key.peer) (where_told peer entry e.0 e.1 a inside tells).is)))

  -- ---- the tree keeps just these

  module _ (tree : TreeData) (is : IsTreeBetween place control own tree) where
    kept_at : (x : RouteKey) (o p : Option Learned) → find route_cmp x all_told ≡ o → maps.get tree.leaf.routes x ≡ p → o ≡ p
    kept_at x (Some learned) p e f =
        let told = told_from (x, learned) (found_stands route_exact x learned all_told e) in
        sym ((is.selective x learned).1 (told_selective place control own x learned told)) ∙ f
    kept_at x None None e f = refl
    kept_at x None (Some learned) e f =
        let told = selective_told place control own x learned ((is.selective x learned).0 f) in
        let (w, found) = some_found route_total x learned all_told (told_to x learned told) in
        absurd (not_some (find route_cmp x all_told) w found e)

    routes_are : maps.from_entries all_told ≡ tree.leaf.routes
    routes_are =
        maps.same_map route_total route_exact _ _ (λ x. kept_at x (maps.get (maps.from_entries all_told) x) (maps.get tree.leaf.routes x)
        (sym (maps.get-from_entries route_total all_told x)) refl)

    pub sum-routes : (g : RouteKey × Learned → ℕ) → sum_by g (maps.entries tree.leaf.routes)
        ≡ sum_by (λ (peer : NodeId × Taken). sum_by (λ entry. of_found g (tell peer.0 entry)) (maps.entries peer.1)) (maps.entries control.peers)
    sum-routes g =
        ap (λ (m : leaves.Routes). sum_by g (maps.entries m)) (sym routes_are) ∙ sum-made route_total g all_told all_once
        ∙ sum-flat g told_by (maps.entries control.peers)
        ∙ sum-alike (λ (peer : NodeId × Taken). sum_by g (told_by peer))
        (λ peer. sum_by (λ entry. of_found g (tell peer.0 entry)) (maps.entries peer.1)) (maps.entries control.peers)
        (λ peer a. sum-found g (tell peer.0) (maps.entries peer.1))

-- ---- what is due

-- whether a route that was taken is due
abbrev waits : ℕ → ℕ → TakenRoute → Bool
waits delay now taken = not taken.run && nat_le (taken.since + delay) now

abbrev due_if : ℕ → ℕ → RouteKey × Learned → ℕ
due_if delay now entry = if is_waiting delay now entry.1 then 1 else 0

-- where the VRF imports the route it waits for it
abbrev due_in : EdgePlace → ℕ → NodeId → Key × TakenRoute → OwnVrf → ℕ
due_in place now peer entry own =
    if is_some (imported_selective own.vrf (addr_of place.scenario peer) entry) then (if waits place.scenario.delay now entry.1 then 1 else 0) else 0

due_where : (peer : NodeId) (taken : TakenRoute) (delay now : ℕ) (o : Option ImportedSelective)
    → of_found (due_if delay now) (o >>? λ imported. Some (
      leaves.key_of peer imported.route.rd (pattern_of imported.route.source imported.route.group),
      record { fec = imported.fec; since = taken.since; run = taken.run },
    ))
    ≡ (if is_some o then (if waits delay now taken then 1 else 0) else 0)
due_where peer taken delay now None = refl
due_where peer taken delay now (Some imported) = refl

none_or : (b : Bool) → cond {A = ℕ} b 0 0 ≡ 0
none_or true = refl
none_or false = refl

due_each : (place : EdgePlace) (now : ℕ) (peer : NodeId) (entry : Key × TakenRoute) (owns : List OwnVrf) (b : Bool)
    → waits place.scenario.delay now entry.1 ≡ b
    → (if b then count_by (λ own. is_some (imported_selective own.vrf (addr_of place.scenario peer) entry)) owns else 0)
    ≡ sum_by (due_in place now peer entry) owns
due_each place now peer entry owns true h =
    sum-alike (λ (own : OwnVrf). if is_some (imported_selective own.vrf (addr_of place.scenario peer) entry) then 1 else 0)
    (due_in place now peer entry) owns
    (λ own a. ap (λ (b : Bool). if is_some (imported_selective own.vrf (addr_of place.scenario peer) entry) then (if b then 1 else 0) else 0) (sym h))
due_each place now peer entry owns false h =
    sym (sum-none owns) ∙ sum-alike (λ (own : OwnVrf). 0) (due_in place now peer entry) owns
    (λ own a. sym (ap (λ (b : Bool). if is_some (imported_selective own.vrf (addr_of place.scenario peer) entry) then (if b then 1 else 0) else 0) h
    ∙ none_or (is_some (imported_selective own.vrf (addr_of place.scenario peer) entry))))

module _ (kept : Kept) (between : AreTreesBetween kept) (writable : AreWritable (control_of kept)) (now : ℕ) where
  abbrev place : EdgePlace
  place = place_of kept.home no_core

  abbrev from_peer : NodeId × Taken → OwnVrf → ℕ
  from_peer peer own = sum_by (λ entry. due_in place now peer.0 entry own) (maps.entries peer.1)

  by_owns : (peer : NodeId × Taken) → due_from place now peer ≡ sum_by (from_peer peer) (own_vrfs place)
  by_owns peer =
      sum-alike (due_delays place now peer.0) (λ entry. sum_by (due_in place now peer.0 entry) (own_vrfs place)) (maps.entries peer.1)
      (λ entry a. due_each place now peer.0 entry (own_vrfs place) (waits place.scenario.delay now entry.1) refl)
      ∙ sum-turned (due_in place now peer.0) (maps.entries peer.1) (own_vrfs place)

  of_tree : (it : OwnTree) → Among it (trees_of kept)
      → sum_by (λ peer. from_peer peer it.own) (maps.entries kept.peers)
      ≡ count_by (is_waiting it.tree.leaf.delay now) (maps.values it.tree.leaf.routes)
  of_tree it a =
      let is = between_at kept between no_core it a in
      sym (count-sum (is_waiting it.tree.leaf.delay now) it.tree.leaf.routes
      ∙ ap (λ (delay : ℕ). sum_by (λ (e : RouteKey × Learned). if is_waiting delay now e.1 then 1 else 0) (maps.entries it.tree.leaf.routes))
      is.leaf_delay
      ∙ sum-routes place (control_of kept) it.own writable it.tree is (due_if place.scenario.delay now)
      ∙ sum-alike (λ (peer : NodeId × Taken). sum_by
      (λ entry. of_found (due_if place.scenario.delay now) (tell_selective place it.own peer.0 entry.0 entry.1)) (maps.entries peer.1))
      (λ peer. from_peer peer it.own) (maps.entries kept.peers)
      (λ peer b. sum-alike (λ entry. of_found (due_if place.scenario.delay now) (tell_selective place it.own peer.0 entry.0 entry.1))
      (λ entry. due_in place now peer.0 entry it.own) (maps.entries peer.1)
      (λ entry c. due_where peer.0 entry.1 place.scenario.delay now (imported_selective it.own.vrf (addr_of place.scenario peer.0) entry))))

  pub delays_counted : sum_by (due_from place now) (maps.entries kept.peers)
      ≡ sum_by (λ tree. count_by (is_waiting tree.leaf.delay now) (maps.values tree.leaf.routes)) kept.trees
  delays_counted =
      sum-alike (due_from place now) (λ peer. sum_by (from_peer peer) (own_vrfs place)) (maps.entries kept.peers) (λ peer a. by_owns peer)
      ∙ sum-turned from_peer (maps.entries kept.peers) (own_vrfs place)
      ∙ ap (sum_by (λ (own : OwnVrf). sum_by (λ peer. from_peer peer own) (maps.entries kept.peers))) (sym between.all)
      ∙ sum-map (λ (own : OwnVrf). sum_by (λ peer. from_peer peer own) (maps.entries kept.peers)) (λ (it : OwnTree). it.own) (trees_of kept)
      ∙ sum-alike (λ (it : OwnTree). sum_by (λ peer. from_peer peer it.own) (maps.entries kept.peers))
      (λ (it : OwnTree). count_by (is_waiting it.tree.leaf.delay now) (maps.values it.tree.leaf.routes)) (trees_of kept) of_tree
      ∙ sum-trees kept (full_between kept between) (λ tree. count_by (is_waiting tree.leaf.delay now) (maps.values tree.leaf.routes))

-- ---- all that is due

module _ (kept : Kept) (trees : AreTrees kept) (writable : AreWritable (control_of kept))
    (single : AllByRecursion (λ (tree : TreeData). AreSingle tree.root.selections) kept.trees) (now : ℕ) where
  abbrev ended : TreeData → ℕ
  ended tree = entries.due tree.vrf.entries now

  abbrev selected : TreeData → ℕ
  selected tree = count_by (roots.is_waiting tree.root.delay now) tree.root.selections

  abbrev waiting : TreeData → ℕ
  waiting tree = count_by (is_waiting tree.leaf.delay now) (maps.values tree.leaf.routes)

  pub due_counted : (core : Core) (part : LabelData) (raised : FinMap node_cmp ℕ)
      → due (place_of kept.home core) now (record { control = control_of kept; part = part; raised = raised })
      ≡ labels.due (label_place kept.home.scenario core kept.home.me) now part + sum_by (tree_due now) kept.trees
  due_counted core part raised =
      let a = entries_due kept (full_of kept trees) (parts_of kept trees) now in
      let b = selections_due kept (full_of kept trees) (parts_of kept trees) single now in
      let c = delays_counted kept (are_between kept trees) writable now in
      let both = sum-both selected waiting kept.trees in
      let all = sum-both ended (λ tree. selected tree + waiting tree) kept.trees in
      ap (λ (n : ℕ). labels.due (label_place kept.home.scenario core kept.home.me) now part + n)
      ((λ i. a i + (b i + c i)) ∙ ap (λ (n : ℕ). sum_by ended kept.trees + n) (sym both) ∙ sym all)
