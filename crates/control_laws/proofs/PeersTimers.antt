-- What the tree of a VRF keeps where the delays of the taken routes are run.
use Rattle.std.proofs.lemmas.Option.{same_Some}
use Rattle.std.proofs.Common.{◌≡◌, ◌↔◌, ℕ, ◌+◌, ◌&&◌, ◌||◌, Bool, true, T, nat_le, List, [], ◌∷◌, map, is_some, option_map, Option, Some, None, refl, sym, ap, subst, ◌∙◌}
use Rattle.std.specs.declared.cmp.Ordering.{Ordering}
use Rattle.std.specs.FinMap as maps
use Rattle.std.specs.FinMap.{FinMap}
use Rattle.std.specs.FinMap.Entries.{below_all, is_sorted}
use Rattle.std.specs.Ordering.{is_lt}
use Rattle.mv_base.specs.Lists.{Among}
use Rattle.mv_base.specs.Number.{◌>>?◌}
use Rattle.mv_base.proofs.CutLemmas.{next_some}
use Rattle.mv_base.specs.declared.ids.NodeId.{NodeId}
use Rattle.bgp_messages.specs.declared.bgp_attributes.key.Key.{Key}
use Rattle.bgp_messages.specs.declared.bgp_attributes.key.Key.TheVariants.{Mcast, Unicast}
use Rattle.bgp_values.specs.declared.mvpn_nlri.route.Route.TheVariants as routes
use Rattle.selective.specs.Leaves as leaves
use Rattle.selective.specs.Leaves.{routes_run, run_due}
use Rattle.selective.specs.Order.{route_cmp}
use Rattle.selective.specs.declared.route_key.Learned.{Learned}
use Rattle.selective.specs.declared.route_key.RouteKey as selective_keys
use Rattle.vrf_words.specs.tree_defs.Trees.{TreeData}
use Rattle.edge_defs.specs.Edge.{Control, Taken, TakenRoute}
use Rattle.edge_defs.specs.Imported.{ImportedSelective, imported_selective}
use Rattle.edge_defs.specs.Place.{EdgePlace, OwnVrf, addr_of, own_vrfs}
use Rattle.edge_defs.specs.Steps.{is_imported, peers_run}
use Rattle.vrf_words.proofs.edge_words.edge_laws.Taken.{get-peers_run, run_at, run_taken, table_in}
use Rattle.vrf_words.proofs.edge_words.calm_laws.Lists.{any_from}
use Rattle.vrf_words.proofs.edge_words.calm_laws.Maps.{find-map}
use Rattle.control_laws.specs.Peers.{AreWritable, IsTreeBetween, pattern_of, tree_run, with_selective}
use Rattle.control_laws.proofs.PeersKinds.{tables_of, tell_active, tell_join, tell_selective, tell_unicast}
use Rattle.control_laws.proofs.PeersParts.{Parts, joins, parts_of, tree_of}
use Rattle.control_laws.proofs.PeersTold.{Tables, Told}

-- what is there after a change of what was there
mapped : {A B P : Type 0} (f : A → B) (o : Option A) (b : B) → option_map f o ≡ Some b → ((a : A) → o ≡ Some a → f a ≡ b → P) → P
mapped f None b h k = absurd cc
mapped f (Some a) b h k = k a refl (same_Some (f a) b h)

-- ---- a map whose values are changed

module _ {K V : Type 0} (R : K → K → Ordering) (f : V → V) where
  abbrev changed_list : List (K × V) → List (K × V)
  changed_list es = map (λ (e : K × V). (e.0, f e.1)) es

  below_changed : (x : K) (es : List (K × V)) → below_all R x (changed_list es) ≡ below_all R x es
  below_changed x [] = refl
  below_changed x (e ∷ es) = ap (λ (b : Bool). is_lt (R x e.0) && b) (below_changed x es)

  sorted_changed : (es : List (K × V)) → is_sorted R (changed_list es) ≡ is_sorted R es
  sorted_changed [] = refl
  sorted_changed (e ∷ es) = λ i. below_changed e.0 es i && sorted_changed es i

  get_changed : (m : FinMap R V) (q : K) → maps.get (maps.from_sorted {R = R} (changed_list (maps.entries m))) q ≡ option_map f (maps.get m q)
  get_changed m q =
      maps.get-from_sorted R (changed_list (maps.entries m)) q (subst T (sym (sorted_changed (maps.entries m))) (maps.entries_sorted m))
      ∙ find-map R f q (maps.entries m) ∙ ap (option_map f) (sym (maps.get-entries m q))

-- ---- the tables

-- Each route is run by itself.
abbrev pub Ran : EdgePlace → ℕ → Tables → Tables → Type 0
Ran place now before after = (q : NodeId) (k : Key) → after q k ≡ option_map (run_at place now q k) (before q k)

abbrev pub with_run : EdgePlace → ℕ → Control → Control
with_run place now control = record control { peers = peers_run place now control.peers }

pub ran : (place : EdgePlace) (now : ℕ) (control : Control) → Ran place now (tables_of control) (tables_of (with_run place now control))
ran place now control q k =
    ap (λ (o : Option Taken). maps.get (table_in o) k) (get-peers_run place now control.peers q)
    ∙ run_taken place now q k (maps.get control.peers q)

run_there : {A B : Type 0} (f : A → B) (o : Option A) → is_some (option_map f o) ≡ true → is_some o ≡ true
run_there f None h = h
run_there f (Some a) h = refl

pub run_spelled : (place : EdgePlace) (now : ℕ) (control : Control) → AreWritable control → AreWritable (with_run place now control)
run_spelled place now control spelled q k h =
    spelled q k (run_there (run_at place now q k) (tables_of control q k) (ap is_some (sym (ran place now control q k)) ∙ h))

-- ---- what is given without a look at the time

abbrev with_flag : Bool → TakenRoute → TakenRoute
with_flag run route = record route { run = run }

unicast_timeless : (place : EdgePlace) (own : OwnVrf) (q : NodeId) (k : Key) (t : TakenRoute) (run : Bool)
    → tell_unicast place own q k (with_flag run t) ≡ tell_unicast place own q k t
unicast_timeless place own q (Unicast rd prefix) t run = refl
unicast_timeless place own q other t run = refl

active_timeless : (own : OwnVrf) (q : NodeId) (k : Key) (t : TakenRoute) (run : Bool) → tell_active own q k (with_flag run t) ≡ tell_active own q k t
active_timeless own q (Mcast afi (routes.Active rd source group)) t run = refl
active_timeless own q other t run = refl

join_timeless : (place : EdgePlace) (own : OwnVrf) (q : NodeId) (k : Key) (t : TakenRoute) (run : Bool)
    → tell_join place own q k (with_flag run t) ≡ tell_join place own q k t
join_timeless place own q (Mcast afi (routes.SourceJoin rd source_as source group)) t run = refl
join_timeless place own q other t run = refl

module _ (place : EdgePlace) (now : ℕ) (before after : Tables) (is : Ran place now before after) where
  pub timeless : {X V : Type 0} (tell : NodeId → Key → TakenRoute → Option (X × V))
      → ((q : NodeId) (k : Key) (t : TakenRoute) → tell q k (run_at place now q k t) ≡ tell q k t)
      → (x : X) (v : V) → Told tell before x v ↔ Told tell after x v
  timeless tell same x v = (
    λ told. record {
      peer = told.peer;
      key = told.key;
      route = run_at place now told.peer told.key told.route;
      is = is told.peer told.key ∙ ap (option_map (run_at place now told.peer told.key)) told.is;
      tells = same told.peer told.key told.route ∙ told.tells;
    },
    λ told. mapped (run_at place now told.peer told.key) (before told.peer told.key) told.route (sym (is told.peer told.key) ∙ told.is)
        (λ t at run. record {
          peer = told.peer;
          key = told.key;
          route = t;
          is = at;
          tells = sym (same told.peer told.key t) ∙ ap (tell told.peer told.key) run ∙ told.tells;
        }),
  )

  -- ---- selective routes

  module _ (own : OwnVrf) (mine : Among own (own_vrfs place)) where
    -- the route that a VRF of the edge imports, once its delay is run, is what the VRF learned with its delay run
    run_told : (x : selective_keys.RouteKey) (l : Learned) (q : NodeId) (k : Key) (t : TakenRoute) → tell_selective place own q k t ≡ Some (x, l)
        → tell_selective place own q k (run_at place now q k t) ≡ Some (x, run_due place.scenario.delay now l)
    run_told x l q k t tells =
        next_some
        (λ (imported : ImportedSelective). Some (
          leaves.key_of q imported.route.rd (pattern_of imported.route.source imported.route.group),
          record { fec = imported.fec; since = t.since; run = t.run },
        )) (imported_selective own.vrf (addr_of place.scenario q) (k, t)) (x, l) tells
        (λ imported found same.
        let used : is_imported place q (k, t) ≡ true =
        any_from (λ (other : OwnVrf). is_some (imported_selective other.vrf (addr_of place.scenario q) (k, t))) own (own_vrfs place) mine
        (ap is_some found) in
        let key = leaves.key_of q imported.route.rd (pattern_of imported.route.source imported.route.group) in
        let due = nat_le (t.since + place.scenario.delay) now in
        ap (λ (o : Option ImportedSelective). o >>? λ (imported : ImportedSelective). Some (
          leaves.key_of q imported.route.rd (pattern_of imported.route.source imported.route.group),
          (let learned : Learned = record { fec = imported.fec; since = t.since; run = t.run || (is_imported place q (k, t) && due) } in learned),
        )) found
        ∙ (λ i. Some (key, (let learned : Learned = record { fec = imported.fec; since = t.since; run = t.run || (used i && due) } in learned)))
        ∙ ap (λ (e : selective_keys.RouteKey × Learned). Some (e.0, run_due place.scenario.delay now e.1)) (same_Some _ (x, l) same))

    -- and the other way round
    told_run : (x : selective_keys.RouteKey) (l : Learned) (q : NodeId) (k : Key) (t : TakenRoute)
        → tell_selective place own q k (run_at place now q k t) ≡ Some (x, l)
        → (old : Learned) × (tell_selective place own q k t ≡ Some (x, old)) × (run_due place.scenario.delay now old ≡ l)
    told_run x l q k t tells =
        next_some
        (λ (imported : ImportedSelective). Some (
          leaves.key_of q imported.route.rd (pattern_of imported.route.source imported.route.group),
          record { fec = imported.fec; since = t.since; run = (run_at place now q k t).run },
        )) (imported_selective own.vrf (addr_of place.scenario q) (k, t)) (x, l) tells
        (λ imported found same.
        let old : Learned = record { fec = imported.fec; since = t.since; run = t.run } in
        let key = ap (λ (e : selective_keys.RouteKey × Learned). e.0) (same_Some _ (x, l) same) in
        let was : tell_selective place own q k t ≡ Some (x, old) =
        ap (λ (o : Option ImportedSelective). o >>? λ (imported : ImportedSelective). Some (
          leaves.key_of q imported.route.rd (pattern_of imported.route.source imported.route.group),
          (let learned : Learned = record { fec = imported.fec; since = t.since; run = t.run } in learned),
        )) found ∙ (λ i. Some (key i, old)) in (
          old,
          was,
          ap (λ (e : selective_keys.RouteKey × Learned). e.1)
              (same_Some (x, run_due place.scenario.delay now old) (x, l) (sym (run_told x old q k t was) ∙ tells)),
        ))

    module _ (routes : leaves.Routes) (keeps : (x : selective_keys.RouteKey) (l : Learned)
        → (maps.get routes x ≡ Some l) ↔ Told (tell_selective place own) before x l) where
      at_run : (x : selective_keys.RouteKey) → maps.get (routes_run place.scenario.delay now routes) x
          ≡ option_map (run_due place.scenario.delay now) (maps.get routes x)
      at_run x = get_changed route_cmp (run_due place.scenario.delay now) routes x

      to_run : (x : selective_keys.RouteKey) (l : Learned) → maps.get (routes_run place.scenario.delay now routes) x ≡ Some l
          → Told (tell_selective place own) after x l
      to_run x l h =
          mapped (run_due place.scenario.delay now) (maps.get routes x) l (sym (at_run x) ∙ h)
          (λ old there run.
          let told = (keeps x old).0 there in
          record {
            peer = told.peer;
            key = told.key;
            route = run_at place now told.peer told.key told.route;
            is = is told.peer told.key ∙ ap (option_map (run_at place now told.peer told.key)) told.is;
            tells = run_told x old told.peer told.key told.route told.tells ∙ ap (λ (v : Learned). Some (x, v)) run;
          })

      from_run : (x : selective_keys.RouteKey) (l : Learned) → Told (tell_selective place own) after x l
          → maps.get (routes_run place.scenario.delay now routes) x ≡ Some l
      from_run x l told =
          mapped (run_at place now told.peer told.key) (before told.peer told.key) told.route (sym (is told.peer told.key) ∙ told.is)
          (λ t at run.
          let was = told_run x l told.peer told.key t (ap (tell_selective place own told.peer told.key) run ∙ told.tells) in
          let past : Told (tell_selective place own) before x was.0 =
          record { peer = told.peer; key = told.key; route = t; is = at; tells = was.1 } in
          at_run x ∙ ap (option_map (run_due place.scenario.delay now)) ((keeps x was.0).1 past) ∙ ap (λ (v : Learned). Some v) was.2)

      pub selective_run : (x : selective_keys.RouteKey) (l : Learned)
          → (maps.get (routes_run place.scenario.delay now routes) x ≡ Some l) ↔ Told (tell_selective place own) after x l
      selective_run x l = (to_run x l, from_run x l)

-- ---- the tree of a VRF

module _ (place : EdgePlace) (now : ℕ) (control : Control) (own : OwnVrf) (mine : Among own (own_vrfs place)) (tree : TreeData) where
  parts_run : (delay : ℕ) → delay ≡ place.scenario.delay → Parts place own (tables_of control) tree
      → Parts place own (tables_of (with_run place now control)) (with_selective (routes_run delay now tree.leaf.routes) tree)
  parts_run delay same parts =
      let before = tables_of control in
      let after = tables_of (with_run place now control) in
      let is = ran place now control in
      record {
        unicast =
            λ x held. joins (parts.unicast x held) (timeless place now before after is (tell_unicast place own)
            (λ q k t. unicast_timeless place own q k t (run_at place now q k t).run) x held);
        actives =
            λ x. joins (parts.actives x) (timeless place now before after is (tell_active own)
            (λ q k t. active_timeless own q k t (run_at place now q k t).run) x tt);
        joined = λ x. joins (parts.joined x) (timeless place now before after is (tell_join place own)
            (λ q k t. join_timeless place own q k t (run_at place now q k t).run) x tt);
        selective =
            subst (λ (d : ℕ). (x : selective_keys.RouteKey) (l : Learned)
            → (maps.get (routes_run d now tree.leaf.routes) x ≡ Some l) ↔ Told (tell_selective place own) after x l) (sym same)
            (selective_run place now before after is own mine tree.leaf.routes parts.selective);
      }

  -- The tree whose selective routes are run keeps what the edge keeps after its timers.
  pub run_keeps : IsTreeBetween place control own tree → IsTreeBetween place (with_run place now control) own (tree_run now tree)
  run_keeps is =
      tree_of place own control (peers_run place now control.peers) tree _ _ _ _ is
      (parts_run tree.leaf.delay is.leaf_delay (parts_of place own control tree is))
