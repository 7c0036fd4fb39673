-- What an edge keeps before anything has happened.
use Rattle.std.specs.Prelude.{fold}
use Rattle.std.proofs.Common.{◌≡◌, ◌≢◌, ◌↔◌, ◌⊎◌, inl, inr, ℕ, zero, suc, ◌+◌, ◌<◌, ◌==◌, Bool, true, false, cond, List, [], ◌∷◌, ◌++◌, map, take, length, get_or, slice_get, Option, Some, None, is_some, refl, sym, ap, subst, ◌∙◌, arith}
use Rattle.std.specs.List.{AllByRecursion, list_any}
use Rattle.std.specs.Ordering.{eq_by_cmp, is_eq}
use Rattle.std.specs.Cmp.{tied_itself, Equal-is}
use Rattle.std.specs.FinMap as maps
use Rattle.std.specs.FinMap.{FinMap}
use Rattle.std.proofs.lemmas.Bool.{and_from, cases_eq, cases_lt, eq-eqb, true≢false}
use Rattle.std.proofs.lemmas.List.{append-nil, append_assoc}
use Rattle.std.proofs.lemmas.List.Sums.{fold_more}
use Rattle.std.proofs.lemmas.Option.{same_Some}
use Rattle.mv_base.specs.Address.{same_addr, same_addr_equiv}
use Rattle.mv_base.specs.Lists.{Among}
use Rattle.mv_base.specs.declared.ids.NodeId.{NodeId}
use Rattle.mv_base.specs.declared.ids.SiteId.{SiteId}
use Rattle.mv_base.specs.declared.ids.VrfId.{VrfId}
use Rattle.mv_base.specs.declared.prefix.Prefix.{Prefix}
use Rattle.mv_base.specs.core_walks.Core.{Core}
use Rattle.scenario_defs.specs.Home.{local_routes}
use Rattle.scenario_defs.specs.Prefixes.{prefixes_of, same_prefix}
use Rattle.scenario_defs.specs.Rules.{Rules, IsVrf}
use Rattle.scenario_defs.specs.Vpn.{is_attached_at, same_vpn}
use Rattle.scenario_defs.specs.declared.scenario.Iface.{Iface}
use Rattle.scenario_defs.specs.declared.scenario.Route.{Route}
use Rattle.scenario_defs.specs.declared.scenario.Scenario.{Scenario}
use Rattle.scenario_defs.specs.declared.scenario.Site.{Site}
use Rattle.scenario_defs.specs.declared.scenario.Vrf.{Vrf}
use Rattle.scenario_defs.proofs.RuleLemmas.{vpns_at, vrf_rules_at}
use Rattle.mvpn_model.proofs.VpnLemmas.{enters-at, vpn_of_one}
use Rattle.control_laws.proofs.edge_words.calm_laws.Lists.{among_map, any_from}
use Rattle.control_laws.proofs.edge_words.Prefixes.{at_among as place_among, route_of}
use Rattle.umh_select.specs.Order.{key_cmp, key_total}
use Rattle.umh_select.specs.Routes.{key_here}
use Rattle.umh_select.specs.declared.key.Place.{Place}
use Rattle.umh_select.specs.declared.key.Place.TheVariants.{First, Here, From, Last}
use Rattle.umh_select.specs.declared.key.RouteKey.{RouteKey}
use Rattle.umh_select.proofs.OrderLemmas.{key_exact}
use Rattle.vrf_words.specs.declared.tree_defs.flow.SiteIface.{SiteIface}
use Rattle.vrf_words.specs.tree_defs.Trees.{TreeData}
use Rattle.label_defs.specs.Keys.{node_cmp}
use Rattle.edge_defs.specs.Edge.{Taken, no_control}
use Rattle.edge_defs.specs.Imported.{taken_from}
use Rattle.edge_defs.specs.Keys.{key_cmp as taken_key_cmp}
use Rattle.edge_defs.specs.Place.{OwnVrf, vrfs_from}
use Rattle.edge_routes.specs.edge_home.Home.{Home, AreOwn, IsHome, as_own, place_of}
use Rattle.edge_routes.specs.declared.edge_home.own_vrf.OwnVrf as own_vrfs
use Rattle.vrf_words.specs.tree_laws.TreeOf.{IsAttachedAt, site_ifaces, start_tree}
use Rattle.control_laws.specs.Control.{AreTrees, Kept, OwnTree, own_trees, control_of}
use Rattle.control_laws.specs.Customers.{Makes}
use Rattle.control_laws.specs.Start.{IsFirst}
use Rattle.control_laws.proofs.Parts.{no_core}
use Rattle.control_laws.proofs.Between.{are_between}
use Rattle.control_laws.proofs.Starting.{first_makes}
use Rattle.edge_control.proofs.PeerSound.{wanted_of}
use Rattle.edge_control.specs.Places.{vrfs_of}
use Rattle.edge_control.specs.Sound.{IsSingle, IsSound, kept_of}
use Rattle.edge_control.specs.Start.{first_tree, with_iface, with_route}
use Rattle.vrf_trees.specs.Trees.{no_tree}

-- ---- loops

pub folded_more : {X Y : Type 0} (f : Y → X → Y) (start now next : Y) (xs : List X) (i : ℕ) (x : X) → i < length xs → now ≡ fold f start (take i xs)
    → x ≡ get_or xs i x → next ≡ f now x
    → next ≡ fold f start (take (i + 1) xs)
folded_more f start now next xs i x lt h e is = is ∙ (λ j. f (h j) (e j)) ∙ sym (fold_more f start xs i x lt)

-- ---- what the steps make

ifaces_all : (tree : TreeData) (xs : List SiteIface)
    → fold with_iface tree xs ≡ record tree { vrf = record tree.vrf { ifaces = tree.vrf.ifaces ++ xs } }
ifaces_all tree [] = λ i. record tree { vrf = record tree.vrf { ifaces = sym (append-nil tree.vrf.ifaces) i } }
ifaces_all tree (x ∷ xs) =
    ifaces_all (with_iface tree x) xs ∙ (λ i. record tree { vrf = record tree.vrf { ifaces = append_assoc tree.vrf.ifaces (x ∷ []) xs i } })

abbrev pub Attached : Type 0
Attached = FinMap key_cmp SiteId

abbrev pub attach : Attached → Route → Attached
attach attached route = maps.insert attached (key_here route.prefix) route.site

routes_all : (tree : TreeData) (routes : List Route)
    → fold with_route tree routes ≡ record tree {
      vrf =
          record tree.vrf { routes = record tree.vrf.routes { attached = fold attach tree.vrf.routes.attached routes } };
    }
routes_all tree [] = refl
routes_all tree (route ∷ routes) = routes_all (with_route tree route) routes

abbrev pub attached_of : Scenario → OwnVrf → Attached
attached_of scenario own = fold attach maps.empty (local_routes scenario own.id)

pub first_is : (home : Home) (core : Core) (own : OwnVrf)
    → first_tree home.scenario own ≡ start_tree (place_of home core) own (attached_of home.scenario own)
first_is home core own =
    let bare = no_tree own.vrf.number own.vrf.rule home.scenario.delay in
    ap (λ (tree : TreeData). fold with_route tree (local_routes home.scenario own.id)) (ifaces_all bare (site_ifaces own.id 0 home.scenario.ifaces))
    ∙ routes_all (record bare { vrf = record bare.vrf { ifaces = site_ifaces own.id 0 home.scenario.ifaces } }) (local_routes home.scenario own.id)

-- ---- local routes of one prefix are of one site

module _ (scenario : Scenario) (rules : Rules scenario) where
  prefixes_at : (vrf : VrfId) (route : Route) (site : SiteId) → route.site.0 ≡ site.0 → Among route (local_routes scenario vrf)
      → Among route.prefix (prefixes_of scenario site)
  prefixes_at vrf route site e a =
      let r = route_of (is_attached_at scenario vrf) 0 scenario.sites route a in
      let id : site.0 ≡ r.place = sym e ∙ r.id ∙ omega arith in
      subst (λ (ps : List Prefix). Among route.prefix ps)
      (sym (ap (λ (o : Option Site). elim o [ None ↦ [] | Some found ↦ found.prefixes ]) (ap (slice_get scenario.sites) id ∙ r.at))) r.prefix

  shared : (i j : ℕ) (own other : Iface) → i < j → slice_get scenario.ifaces i ≡ Some own → slice_get scenario.ifaces j ≡ Some other
      → own.site.0 ≢ other.site.0 → same_vpn scenario own.vrf other.vrf ≡ true
      → (p : Prefix) → Among p (prefixes_of scenario other.site) → Among p (prefixes_of scenario own.site) → ⊥
  shared i j own other less e d ne vpn p a b =
      let same : same_prefix p p ≡ true =
      and_from (same_addr p.addr p.addr) (p.bits == p.bits) (same_addr_equiv.refl p.addr) (eq-eqb p.bits p.bits refl) in
      true≢false (sym (any_from (λ (prefix : Prefix). list_any (same_prefix prefix) (prefixes_of scenario own.site)) p
      (prefixes_of scenario other.site) a (any_from (same_prefix p) p (prefixes_of scenario own.site) b same))
      ∙ (vpns_at scenario rules i j own other less e d).taken ne vpn)

  pub one_site : (vrf : VrfId) (own other : Route) → Among own (local_routes scenario vrf) → Among other (local_routes scenario vrf)
      → own.prefix ≡ other.prefix → own.site ≡ other.site
  one_site vrf own other a b same =
      let ia = enters-at scenario own.site vrf (route_of (is_attached_at scenario vrf) 0 scenario.sites own a).passed in
      let ib = enters-at scenario other.site vrf (route_of (is_attached_at scenario vrf) 0 scenario.sites other b).passed in
      let pa : Among own.prefix (prefixes_of scenario ia.iface.site) = prefixes_at vrf own ia.iface.site (sym ia.of_site) a in
      let pb : Among own.prefix (prefixes_of scenario ib.iface.site) =
      subst (λ (p : Prefix). Among p (prefixes_of scenario ib.iface.site)) (sym same) (prefixes_at vrf other ib.iface.site (sym ib.of_site) b) in
      let ab : same_vpn scenario ia.iface.vrf ib.iface.vrf ≡ true = vpn_of_one scenario ia.iface.vrf ib.iface.vrf (ia.in_vrf ∙ sym ib.in_vrf) in
      let ba : same_vpn scenario ib.iface.vrf ia.iface.vrf ≡ true = vpn_of_one scenario ib.iface.vrf ia.iface.vrf (ib.in_vrf ∙ sym ia.in_vrf) in
      let numbers : own.site.0 ≡ other.site.0 = elim (cases_eq own.site.0 other.site.0) [
        | inl e ↦ e
        | inr ne ↦
            let apart : ia.iface.site.0 ≢ ib.iface.site.0 = λ e. ne (sym ia.of_site ∙ e ∙ ib.of_site) in
            elim (cases_lt ia.place ib.place) [
              | inl less ↦ absurd (shared ia.place ib.place ia.iface ib.iface less ia.at ib.at apart ab own.prefix pb pa)
              | inr rest ↦ elim (cases_lt ib.place ia.place) [
                | inl less ↦ absurd (shared ib.place ia.place ib.iface ia.iface less ib.at ia.at (λ e. apart (sym e)) ba own.prefix pa pb)
                | inr more ↦
                    let places : ia.place ≡ ib.place = omega (arith, rest, more) in
                    let one : ia.iface ≡ ib.iface = same_Some ia.iface ib.iface (sym ia.at ∙ ap (slice_get scenario.ifaces) places ∙ ib.at) in
                    absurd (apart (ap (λ (f : Iface). f.site.0) one))
              ]
            ]
      ] in
      λ i. record { 0 = numbers i }

-- ---- what is attached

is_tied : (key : RouteKey) (p : Prefix) → eq_by_cmp key_cmp key (key_here p) ≡ true → key ≡ key_here p
is_tied key p h = key_exact key (key_here p) ((Equal-is (key_cmp key (key_here p))).0 h)

attached_from : (routes : List Route) (attached : Attached) (key : RouteKey) (site : SiteId) → maps.get (fold attach attached routes) key ≡ Some site
    → (maps.get attached key ≡ Some site) ⊎ ((route : Route) × Among route routes × (key ≡ key_here route.prefix) × (route.site ≡ site))
attached_from [] attached key site h = inl h
attached_from (route ∷ routes) attached key site h =
    by (attached_from routes (attach attached route) key site h) (eq_by_cmp key_cmp key (key_here route.prefix)) refl
  where
    by : (maps.get (attach attached route) key ≡ Some site)
        ⊎ ((other : Route) × Among other routes × (key ≡ key_here other.prefix) × (other.site ≡ site)) → (b : Bool)
        → eq_by_cmp key_cmp key (key_here route.prefix) ≡ b
        → (maps.get attached key ≡ Some site) ⊎ ((other : Route) × Among other (route ∷ routes) × (key ≡ key_here other.prefix) × (other.site ≡ site))
    by (inr found) b e = inr (found.0, inr found.1, found.2, found.3)
    by (inl here) true e =
        let value : Some route.site ≡ Some site =
        sym (maps.get-insert key_total attached (key_here route.prefix) route.site key
        ∙ ap (λ (c : Bool). cond c (Some route.site) (maps.get attached key)) e) ∙ here in
        inr (route, inl refl, is_tied key route.prefix e, same_Some route.site site value)
    by (inl here) false e =
        inl (sym (maps.get-insert key_total attached (key_here route.prefix) route.site key
        ∙ ap (λ (c : Bool). cond c (Some route.site) (maps.get attached key)) e) ∙ here)

attached_to : (routes : List Route) (attached : Attached) (p : Prefix) (site : SiteId)
    → ((route : Route) → Among route routes → route.prefix ≡ p → route.site ≡ site)
    → (maps.get attached (key_here p) ≡ Some site) ⊎ ((route : Route) × Among route routes × (route.prefix ≡ p))
    → maps.get (fold attach attached routes) (key_here p) ≡ Some site
attached_to [] attached p site one (inl h) = h
attached_to [] attached p site one (inr found) = absurd found.1
attached_to (route ∷ routes) attached p site one either =
    attached_to routes (attach attached route) p site (λ other a. one other (inr a))
    (by (eq_by_cmp key_cmp (key_here p) (key_here route.prefix)) refl either)
  where
    put : (b : Bool) → eq_by_cmp key_cmp (key_here p) (key_here route.prefix) ≡ b
        → maps.get (attach attached route) (key_here p) ≡ cond b (Some route.site) (maps.get attached (key_here p))
    put b e =
        maps.get-insert key_total attached (key_here route.prefix) route.site (key_here p)
        ∙ ap (λ (c : Bool). cond c (Some route.site) (maps.get attached (key_here p))) e

    by : (b : Bool) → eq_by_cmp key_cmp (key_here p) (key_here route.prefix) ≡ b
        → (maps.get attached (key_here p) ≡ Some site) ⊎ ((other : Route) × Among other (route ∷ routes) × (other.prefix ≡ p))
        → (maps.get (attach attached route) (key_here p) ≡ Some site) ⊎ ((other : Route) × Among other routes × (other.prefix ≡ p))
    by true e any = inl (put true e ∙ ap Some (one route (inl refl) (ap (λ (k : RouteKey). k.prefix) (sym (is_tied (key_here p) route.prefix e)))))
    by false e (inl h) = inl (put false e ∙ h)
    by false e (inr (other, inl is, same)) =
        let key : key_here route.prefix ≡ key_here p = ap (λ (r : Route). key_here r.prefix) (sym is) ∙ ap key_here same in
        let tied : eq_by_cmp key_cmp (key_here p) (key_here route.prefix) ≡ true =
        ap (eq_by_cmp key_cmp (key_here p)) key ∙ ap is_eq (tied_itself key_total (key_here p)) in
        absurd (true≢false (sym tied ∙ e))
    by false e (inr (other, inr a, same)) = inr (other, a, same)

pub sites_attached : (scenario : Scenario) → Rules scenario → (own : OwnVrf) (key : RouteKey) (site : SiteId)
    → (maps.get (attached_of scenario own) key ≡ Some site) ↔ IsAttachedAt scenario own key.prefix key.place site
sites_attached scenario rules own key site = (there, back key.place refl)
  where
    there : maps.get (attached_of scenario own) key ≡ Some site → IsAttachedAt scenario own key.prefix key.place site
    there h = elim (attached_from (local_routes scenario own.id) maps.empty key site h) [
      | inl none ↦ absurd (let both : None ≡ Some site = sym (maps.get-empty key_cmp key) ∙ none in cc)
      | inr found ↦
          subst (λ (k : RouteKey). IsAttachedAt scenario own k.prefix k.place site) (sym found.2)
          (subst (λ (s : SiteId). Among (record { prefix = found.0.prefix; site = s }) (local_routes scenario own.id)) found.3 found.1)
    ]

    here : (p : Prefix) → Among (record { prefix = p; site = site }) (local_routes scenario own.id)
        → maps.get (attached_of scenario own) (key_here p) ≡ Some site
    here p a =
        attached_to (local_routes scenario own.id) maps.empty p site
        (λ route b e. one_site scenario rules own.id route (record { prefix = p; site = site }) b a e)
        (inr (record { prefix = p; site = site }, a, refl))

    back : (at : Place) → key.place ≡ at → IsAttachedAt scenario own key.prefix key.place site → maps.get (attached_of scenario own) key ≡ Some site
    back Here e h =
        let is : key ≡ key_here key.prefix = λ i. record { prefix = key.prefix; place = e i } in
        ap (maps.get (attached_of scenario own)) is ∙ here key.prefix (subst (λ (at : Place). IsAttachedAt scenario own key.prefix at site) e h)
    back First e h = absurd (subst (λ (at : Place). IsAttachedAt scenario own key.prefix at site) e h)
    back (From peer rd) e h = absurd (subst (λ (at : Place). IsAttachedAt scenario own key.prefix at site) e h)
    back Last e h = absurd (subst (λ (at : Place). IsAttachedAt scenario own key.prefix at site) e h)

-- ---- the numbers of the VRFs

vrf_among : (me : NodeId) (number : ℕ) (vrfs : List Vrf) (own : OwnVrf) → Among own (vrfs_from me number vrfs) → Among own.vrf vrfs
vrf_among me number [] own a = absurd a
vrf_among me number (vrf ∷ more) own a = by (vrf.edge.0 == me.0) a (vrf_among me (number + 1) more own)
  where
    by : (b : Bool) → Among own (cond b (record { id = record { 0 = number }; vrf = vrf } ∷ vrfs_from me (number + 1) more)
        (vrfs_from me (number + 1) more))
        → (Among own (vrfs_from me (number + 1) more) → Among own.vrf more) → Among own.vrf (vrf ∷ more)
    by true (inl e) rest = inl (ap (λ (o : OwnVrf). o.vrf) e)
    by true (inr b) rest = inr (rest b)
    by false b rest = inr (rest b)

at_among : {X : Type 0} (xs : List X) (i : ℕ) (d : X) → i < length xs → Among (get_or xs i d) xs
at_among [] i d lt = absurd (omega (arith, lt))
at_among (x ∷ xs) zero d lt = inl refl
at_among (x ∷ xs) (suc i) d lt = inr (at_among xs i d (omega (arith, lt)))

pub own_rules : (home : Home) (vrfs : List own_vrfs.OwnVrf) → Rules home.scenario → AreOwn home vrfs → (i : ℕ) (d : own_vrfs.OwnVrf) → i < length vrfs
    → IsVrf home.scenario (get_or vrfs i d).local.vrf
own_rules home vrfs rules own i d lt =
    let one : own_vrfs.OwnVrf = get_or vrfs i d in
    let among : Among (as_own one) (vrfs_of home) =
    subst (Among (as_own one)) (own.vrfs no_core) (among_map as_own one vrfs (at_among vrfs i d lt)) in
    let found = place_among one.local.vrf home.scenario.vrfs (vrf_among home.me 0 home.scenario.vrfs (as_own one) among) in
    vrf_rules_at home.scenario rules found.0 one.local.vrf found.1

pub trees_are : (home : Home) (vrfs : List own_vrfs.OwnVrf) (scenario : Scenario) (trees : List TreeData) → AreOwn home vrfs
    → scenario ≡ home.scenario
    → trees ≡ map (λ own. first_tree scenario (as_own own)) vrfs → trees ≡ map (first_tree home.scenario) (vrfs_of home)
trees_are home vrfs scenario trees own same is =
    is ∙ ap (λ (s : Scenario). map (λ own. first_tree s (as_own own)) vrfs) same ∙ twice vrfs ∙ ap (map (first_tree home.scenario)) (own.vrfs no_core)
  where
    twice : (xs : List own_vrfs.OwnVrf) → map (λ one. first_tree home.scenario (as_own one)) xs ≡ map (first_tree home.scenario) (map as_own xs)
    twice [] = refl
    twice (x ∷ xs) = ap (λ (ts : List TreeData). first_tree home.scenario (as_own x) ∷ ts) (twice xs)

-- ---- nothing is kept

module _ (home : Home) (is_home : IsHome home.scenario home.me) where
  abbrev make : OwnVrf → TreeData
  make own = first_tree home.scenario own

  abbrev kept : Kept
  kept = record { home = home; trees = map make (vrfs_of home); peers = maps.empty }

  full_map : (owns : List OwnVrf) → map (λ (it : OwnTree). it.tree) (own_trees owns (map make owns)) ≡ map make owns
  full_map [] = refl
  full_map (own ∷ owns) = ap (λ (ts : List TreeData). make own ∷ ts) (full_map owns)

  all_map : (owns : List OwnVrf) → map (λ (it : OwnTree). it.own) (own_trees owns (map make owns)) ≡ owns
  all_map [] = refl
  all_map (own ∷ owns) = ap (λ (os : List OwnVrf). own ∷ os) (all_map owns)

  first_map : (owns : List OwnVrf) → AllByRecursion (IsFirst home) (own_trees owns (map make owns))
  first_map [] = tt
  first_map (own ∷ owns) = (
    record { attached = attached_of home.scenario own; sites = sites_attached home.scenario is_home.rules own; is = λ core. first_is home core own },
    first_map owns,
  )

  single_map : (owns : List OwnVrf) → AllByRecursion IsSingle (map make owns)
  single_map [] = tt
  single_map (own ∷ owns) = (subst IsSingle (sym (first_is home no_core own)) tt, single_map owns)

  made : Makes kept no_control
  made = first_makes kept (record { trees = first_map (vrfs_of home); peers = refl })
      (record { full = full_map (vrfs_of home); all = all_map (vrfs_of home) })

  no_peer : (peer : NodeId) → maps.get kept.peers peer ≡ None
  no_peer peer = maps.get-empty node_cmp peer

  first_sound : IsSound kept
  first_sound = record {
    home = is_home;
    trees = wanted_of kept (are_between kept made.trees);
    single = single_map (vrfs_of home);
    spelled = λ peer key h.
        let none : maps.get (taken_from (control_of kept) peer) key ≡ None =
        ap (λ (o : Option Taken). maps.get (elim o as (λ _. Taken) [ None ↦ maps.empty | Some taken ↦ taken ]) key) (no_peer peer)
        ∙ maps.get-empty taken_key_cmp key in
        absurd (true≢false (sym h ∙ ap is_some none));
    peers = λ peer h. absurd (true≢false (sym h ∙ ap is_some (no_peer peer)));
  }

  pub sound_first : (trees : List TreeData) (peers : FinMap node_cmp Taken) → trees ≡ map make (vrfs_of home) → peers ≡ maps.empty
      → IsSound (kept_of home trees peers)
  sound_first trees peers is none = subst IsSound (λ i. kept_of home (sym is i) (sym none i)) first_sound

  pub control_first : (trees : List TreeData) (peers : FinMap node_cmp Taken) → trees ≡ map make (vrfs_of home) → peers ≡ maps.empty
      → control_of (kept_of home trees peers) ≡ no_control
  control_first trees peers is none = ap control_of (λ i. kept_of home (is i) (none i)) ∙ made.is

  pub wanted_first : (trees : List TreeData) (peers : FinMap node_cmp Taken) → trees ≡ map make (vrfs_of home) → peers ≡ maps.empty
      → AreTrees (kept_of home trees peers)
  wanted_first trees peers is none = subst AreTrees (λ i. kept_of home (sym is i) (sym none i)) made.trees
