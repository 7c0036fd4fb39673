-- What the tree of a VRF chooses is the upstream of the VRF.
use Rattle.std.proofs.Common.{◌≡◌, ◌↔◌, ℕ, ◌<◌, ◌≤◌, ◌/◌, ◌-◌, ◌^◌, ◌&&◌, Bool, true, false, ◌⊎◌, inl, inr, List, map, Option, Some, None, option_map, refl, sym, ap, subst, ◌∙◌, arith}
use Rattle.std.specs.Int.{w32, w128, from_be_bytes}
use Rattle.std.specs.List.{flat_map}
use Rattle.std.specs.FinMap as maps
use Rattle.std.specs.Ordering.{nat_cmp}
use Rattle.std.proofs.lemmas.Bool.{and_parts, eq-eqb}
use Rattle.std.proofs.lemmas.Option.{cond_some, same_Some}
use Rattle.mv_base.specs.Address.{same_addr, same_addr_equal}
use Rattle.mv_base.specs.Lists.{Among}
use Rattle.mv_base.specs.Number.{◌>>?◌, only_if}
use Rattle.mv_base.specs.Prefix.{same_front}
use Rattle.mv_base.specs.declared.addr.Addr.{Addr}
use Rattle.mv_base.specs.declared.addr.Addr.TheVariants.{V4, V6}
use Rattle.mv_base.specs.declared.ids.NodeId.{NodeId}
use Rattle.mv_base.specs.declared.ids.SiteId.{SiteId}
use Rattle.mv_base.specs.declared.prefix.Prefix.{Prefix}
use Rattle.mv_base.specs.declared.rd.Rd.{Rd}
use Rattle.mv_base.specs.declared.rd.Rule.{Rule}
use Rattle.edge_words.specs.bgp_messages.declared.bgp_attributes.key.Key.{Key}
use Rattle.edge_words.specs.bgp_messages.declared.bgp_attributes.key.Key.TheVariants.{Mcast, Unicast}
use Rattle.scenario_defs.specs.Home.{local_routes}
use Rattle.scenario_defs.specs.Rules.{Rules}
use Rattle.scenario_defs.specs.declared.scenario.Route.{Route}
use Rattle.edge_words.specs.edge_defs.choice_defs.Choice.{AreOfSites, best_route, cost_by, is_better, of_site, origin_cmp}
use Rattle.edge_words.specs.edge_defs.choice_defs.declared.known_route.KnownRoute.{KnownRoute}
use Rattle.edge_words.specs.edge_defs.choice_defs.declared.origin.Origin.{Origin}
use Rattle.edge_words.specs.edge_defs.choice_defs.declared.origin.Origin.TheVariants as origins
use Rattle.edge_words.proofs.edge_defs.choice_defs.BestLemmas.{BestIs, best}
use Rattle.edge_words.proofs.edge_defs.choice_defs.ChoiceLemmas.{any_order}
use Rattle.edge_words.proofs.edge_defs.choice_defs.OrderLemmas.{nat_equal, nat_greater, then_not_less}
use Rattle.umh_select.specs.declared.key.Place.{Place}
use Rattle.umh_select.specs.declared.key.Place.TheVariants.{First, Here, From, Last}
use Rattle.umh_select.specs.declared.key.RouteKey.{RouteKey}
use Rattle.umh_select.specs.declared.route.Held.{Held}
use Rattle.umh_select.specs.Order.{key_total}
use Rattle.umh_select.specs.Routes.{chosen, key_from, key_here, known, known_from, known_here, remote_choice}
use Rattle.umh_select.proofs.OrderLemmas.{key_exact}
use Rattle.vrf_words.specs.declared.tree_defs.flow.Flow.{Flow}
use Rattle.vrf_words.specs.tree_defs.Flows.{chosen_for}
use Rattle.vrf_words.specs.tree_defs.Trees.{TreeData}
use Rattle.edge_words.specs.edge_defs.Edge.{Import, Remote, TakenRoute, Control}
use Rattle.edge_words.specs.edge_defs.Imported.{JoinBy, found_in, import_in, is_admitted, join_by, only_one, source_as_in, taken_from}
use Rattle.edge_words.specs.edge_defs.Keys.{Value}
use Rattle.edge_words.specs.edge_defs.Place.{EdgePlace, OwnVrf, addr_of}
use Rattle.edge_words.specs.edge_defs.Upstream as upstreams
use Rattle.edge_words.specs.edge_defs.Upstream.{known_route, known_routes, costs_of, upstream_by, upstream_for}
use Rattle.edge_words.proofs.calm_laws.Lists.{passes, among_front, among_after, among_either, among_map, map_among, among_flat_map, flat_map_among, among_found, found_among}
use Rattle.edge_words.proofs.calm_laws.Maps.{entry_get, get_entry}
use Rattle.edge_words.proofs.calm_laws.Upstreams.{chained}
use Rattle.edge_words.specs.Known.{AreNodes}
use Rattle.edge_words.proofs.Known.{of_edges, local_is}
use Rattle.edge_words.proofs.Members.{taken_of, table_of}
use Rattle.vrf_words.specs.tree_laws.TreeOf.{IsTreeOf, IsAttachedAt, choice_of, held_by, held_from, held_at}
use Rattle.vrf_words.specs.tree_laws.Whole.{AreWhole}

-- ---- what a route says

none_some : {A B : Type 0} (x : A) → None ≡ Some x → B
none_some x h = absurd cc

remote_parts : (edge : NodeId) (address : Addr) (rd : Rd) (other : NodeId) (other_address : Addr) (other_rd : Rd)
    → origins.Remote edge address rd ≡ origins.Remote other other_address other_rd
    → (edge ≡ other) × (address ≡ other_address) × (rd ≡ other_rd)
remote_parts edge address rd other other_address other_rd h = (cc, cc, cc)

apart : (edge : NodeId) (address : Addr) (rd : Rd) (site : SiteId) → origins.Remote edge address rd ≡ origins.Local site → ⊥
apart edge address rd site h = absurd cc

same_site : (a b : SiteId) → origins.Local a ≡ origins.Local b → a ≡ b
same_site a b h = cc

-- what is used of a peer's value names that peer
join_addr : (peer : Addr) (value : Value) (by : JoinBy) → join_by peer value ≡ Some by → by.import.addr ≡ peer
join_addr peer value by h =
    let test : Import → Bool = λ import. same_addr import.addr peer && same_addr value.next_hop peer in
    let last : Import → ℕ → Option JoinBy = λ import source_as. only_if (test import) (record { import = import; source_as = source_as }) in
    let first = chained (only_one (found_in import_in value.comms)) (λ import. only_one (found_in source_as_in value.comms) >>? last import) by h in
    let second = chained (only_one (found_in source_as_in value.comms)) (last first.0) by first.2 in
    let passed = cond_some (test first.0) (record { import = first.0; source_as = second.0 }) by second.2 in
    ap (λ (b : JoinBy). b.import.addr) (sym passed.1)
    ∙ same_addr_equal first.0.addr peer (and_parts (same_addr first.0.addr peer) (same_addr value.next_hop peer) passed.0).0

-- A unicast route that was taken, which the VRF imports and uses.
pub record IsUsed (place : EdgePlace) (control : Control) (own : OwnVrf) (peer : NodeId) (rd : Rd) (prefix : Prefix) (held : Held) : Type 0 where
  pub taken : TakenRoute
  pub by : JoinBy
  pub at : maps.get (taken_from control peer) (Unicast rd prefix) ≡ Some taken
  pub admitted : is_admitted own.vrf taken.value.comms ≡ true
  pub joins : join_by (addr_of place.scenario peer) taken.value ≡ Some by
  pub is : held ≡ held_by by

used_by : (place : EdgePlace) (control : Control) (own : OwnVrf) (peer : NodeId) (rd : Rd) (prefix : Prefix) (held : Held)
    → held_at place control own prefix (From peer rd) ≡ Some held → IsUsed place control own peer rd prefix held
used_by place control own peer rd prefix held h =
    let first =
    chained (maps.get (taken_from control peer) (Unicast rd prefix)) (λ (taken : TakenRoute). held_from place own.vrf peer taken.value) held h in
    let second =
    chained (only_if (is_admitted own.vrf first.0.value.comms) first.0.value)
    (λ value. join_by (addr_of place.scenario peer) value >>? λ by. Some (held_by by)) held first.2 in
    let passed = cond_some (is_admitted own.vrf first.0.value.comms) first.0.value second.0 second.1 in
    let third = chained (join_by (addr_of place.scenario peer) second.0) (λ by. Some (held_by by)) held second.2 in
    record {
      taken = first.0;
      by = third.0;
      at = first.1;
      admitted = passed.0;
      joins = ap (join_by (addr_of place.scenario peer)) passed.1 ∙ third.1;
      is = same_Some held (held_by third.0) (sym third.2);
    }

used_at : (place : EdgePlace) (control : Control) (own : OwnVrf) (peer : NodeId) (rd : Rd) (prefix : Prefix) (held : Held)
    → IsUsed place control own peer rd prefix held → held_at place control own prefix (From peer rd) ≡ Some held
used_at place control own peer rd prefix held u =
    ap (λ (o : Option TakenRoute). o >>? λ taken. held_from place own.vrf peer taken.value) u.at
    ∙ ap (λ (o : Option Value). o >>? λ value. join_by (addr_of place.scenario peer) value >>? λ by. Some (held_by by))
    (passes (is_admitted own.vrf u.taken.value.comms) u.taken.value u.admitted)
    ∙ ap (λ (o : Option JoinBy). o >>? λ by. Some (held_by by)) u.joins
    ∙ ap (λ (h : Held). Some h) (sym u.is)

-- it is a route that the VRF knows
abbrev known_as : EdgePlace → NodeId → Rd → Prefix → KnownRoute
known_as place peer rd prefix = record { prefix = prefix; origin = origins.Remote peer (addr_of place.scenario peer) rd }

used_known : (place : EdgePlace) (control : Control) (own : OwnVrf) (peer : NodeId) (rd : Rd) (prefix : Prefix) (held : Held)
    → (u : IsUsed place control own peer rd prefix held)
    → known_route place own.vrf peer (Unicast rd prefix, u.taken) ≡ Some (known_as place peer rd prefix)
used_known place control own peer rd prefix held u =
    ap (λ (o : Option Value). o >>? λ value. join_by (addr_of place.scenario peer) value >>? λ by. Some (known_as place peer rd prefix))
    (passes (is_admitted own.vrf u.taken.value.comms) u.taken.value u.admitted)
    ∙ ap (λ (o : Option JoinBy). o >>? λ by. Some (known_as place peer rd prefix)) u.joins

-- what the VRF knows of a peer is such a route
pub record FromTaken (place : EdgePlace) (control : Control) (own : OwnVrf) (route : KnownRoute) : Type 0 where
  pub peer : NodeId
  pub rd : Rd
  pub held : Held
  pub used : IsUsed place control own peer rd route.prefix held
  pub origin : route.origin ≡ origins.Remote peer (addr_of place.scenario peer) rd

known_used : (place : EdgePlace) (control : Control) (own : OwnVrf) (peer : NodeId) (key : Key) (taken : TakenRoute) (route : KnownRoute)
    → maps.get (taken_from control peer) key ≡ Some taken
    → known_route place own.vrf peer (key, taken) ≡ Some route → FromTaken place control own route
known_used place control own peer (Mcast afi other) taken route at h = none_some route h
known_used place control own peer (Unicast rd prefix) taken route at h =
    let made : KnownRoute = known_as place peer rd prefix in
    let first =
    chained (only_if (is_admitted own.vrf taken.value.comms) taken.value)
    (λ value. join_by (addr_of place.scenario peer) value >>? λ by. Some made) route h in
    let passed = cond_some (is_admitted own.vrf taken.value.comms) taken.value first.0 first.1 in
    let second = chained (join_by (addr_of place.scenario peer) first.0) (λ by. Some made) route first.2 in
    let one = same_Some made route second.2 in
    record {
      peer = peer;
      rd = rd;
      held = held_by second.0;
      used = record {
        taken = taken;
        by = second.0;
        at = ap (λ (r : KnownRoute). maps.get (taken_from control peer) (Unicast rd r.prefix)) (sym one) ∙ at;
        admitted = passed.0;
        joins = ap (join_by (addr_of place.scenario peer)) passed.1 ∙ second.1;
        is = refl;
      };
      origin = ap (λ (r : KnownRoute). r.origin) (sym one);
    }

-- ---- lengths

not_longer : (cost : NodeId → ℕ) (o r : KnownRoute) → is_better cost o r ≡ false → o.prefix.bits ≤ r.prefix.bits
not_longer cost o r h = elim (then_not_less (nat_cmp r.prefix.bits o.prefix.bits) (origin_cmp cost o.origin r.origin) h) [
  | inl g ↦ (let less : o.prefix.bits < r.prefix.bits = nat_greater r.prefix.bits o.prefix.bits g in omega (arith, less))
  | inr k ↦ (let level : r.prefix.bits ≡ o.prefix.bits = nat_equal r.prefix.bits o.prefix.bits k.0 in omega (arith, level))
]

covers_itself : (a : Addr) (bits : ℕ) → same_front a a bits ≡ true
covers_itself (V4 xs) bits = eq-eqb (from_be_bytes w32 xs / 2 ^ (32 - bits)) (from_be_bytes w32 xs / 2 ^ (32 - bits)) refl
covers_itself (V6 xs) bits = eq-eqb (from_be_bytes w128 xs / 2 ^ (128 - bits)) (from_be_bytes w128 xs / 2 ^ (128 - bits)) refl

-- ---- what the VRF knows

module _ (place : EdgePlace) (control : Control) (own : OwnVrf) where
  abbrev all : List KnownRoute
  all = known_routes place control own

  abbrev locals : List Route
  locals = local_routes place.scenario own.id

  pub route_is : (route : KnownRoute) → Among route all
      → ((local : Route) × Among local locals × (route ≡ of_site local)) ⊎ FromTaken place control own route
  route_is route a = elim (among_either route (map of_site locals) (flat_map (upstreams.known_from place own.vrf) (maps.entries control.peers)) a) [
    | inl b ↦ inl (map_among of_site route locals b)
    | inr b ↦
        (let peer = flat_map_among (upstreams.known_from place own.vrf) route (maps.entries control.peers) b in
        let by = found_among (known_route place own.vrf peer.0.0) route (maps.entries peer.0.1) peer.2 in
        inr (known_used place control own peer.0.0 by.0.0 by.0.1 route (taken_of control peer.0.0 peer.0.1 by.0.0 by.0.1 peer.1 by.1) by.2))
  ]

module _ (place : EdgePlace) (control : Control) (own : OwnVrf) (tree : TreeData) (is : IsTreeOf place control own tree) where
  abbrev kept : List KnownRoute
  kept = known tree.vrf.routes

  -- ---- the tree knows what the VRF knows

  held_known : (prefix : Prefix) (spot : Place) (held : Held) → held_at place control own prefix spot ≡ Some held
      → Among (known_from (record { prefix = prefix; place = spot }, held)) (all place control own)
  held_known prefix First held h = none_some held h
  held_known prefix Here held h = none_some held h
  held_known prefix Last held h = none_some held h
  held_known prefix (From peer rd) held h =
      let u = used_by place control own peer rd prefix held h in
      let route = known_as place peer rd prefix in
      let t = table_of control peer (Unicast rd prefix) u.taken u.at in
      let addr : addr_of place.scenario peer ≡ held.import.0 =
      sym (join_addr (addr_of place.scenario peer) u.taken.value u.by u.joins) ∙ ap (λ (x : Held). x.import.0) (sym u.is) in
      subst (λ (a : Addr). Among (record { prefix = prefix; origin = origins.Remote peer a rd }) (all place control own)) addr
      (among_after route (map of_site (locals place control own)) (flat_map (upstreams.known_from place own.vrf) (maps.entries control.peers))
      (among_flat_map (upstreams.known_from place own.vrf) (peer, t.table) route (maps.entries control.peers) t.of_peer
      (among_found (known_route place own.vrf peer) (Unicast rd prefix, u.taken) route (maps.entries t.table) t.among
      (used_known place control own peer rd prefix held u))))

  attached_known : (prefix : Prefix) (spot : Place) (site : SiteId) → IsAttachedAt place.scenario own prefix spot site
      → Among (known_here (record { prefix = prefix; place = spot }, site)) (all place control own)
  attached_known prefix First site h = absurd h
  attached_known prefix Last site h = absurd h
  attached_known prefix (From peer rd) site h = absurd h
  attached_known prefix Here site h =
      among_front (of_site (record { prefix = prefix; site = site })) (map of_site (locals place control own))
      (flat_map (upstreams.known_from place own.vrf) (maps.entries control.peers))
      (among_map of_site (record { prefix = prefix; site = site }) (locals place control own) h)

  known_all : (route : KnownRoute) → Among route kept → Among route (all place control own)
  known_all route a =
      elim (among_either route (map known_here (maps.entries tree.vrf.routes.attached)) (map known_from (maps.entries tree.vrf.routes.learned)) a) [
        | inl b ↦
            (let by = map_among known_here route (maps.entries tree.vrf.routes.attached) b in
            let at = entry_get key_total tree.vrf.routes.attached by.0.0 by.0.1 by.1 in
            subst (λ (r : KnownRoute). Among r (all place control own)) (sym by.2)
            (attached_known by.0.0.prefix by.0.0.place by.0.1 ((is.attached by.0.0 by.0.1).0 at)))
        | inr b ↦
            (let by = map_among known_from route (maps.entries tree.vrf.routes.learned) b in
            let at = entry_get key_total tree.vrf.routes.learned by.0.0 by.0.1 by.1 in
            subst (λ (r : KnownRoute). Among r (all place control own)) (sym by.2)
            (held_known by.0.0.prefix by.0.0.place by.0.1 (sym (is.learned by.0.0) ∙ at)))
      ]

  -- ---- the VRF knows what the tree knows

  attached_at : (local : Route) → Among local (locals place control own) → maps.get tree.vrf.routes.attached (key_here local.prefix) ≡ Some local.site
  attached_at local a = (is.attached (key_here local.prefix) local.site).1 a

  learned_at : (peer : NodeId) (rd : Rd) (prefix : Prefix) (held : Held) → IsUsed place control own peer rd prefix held
      → maps.get tree.vrf.routes.learned (key_from peer rd prefix) ≡ Some held
  learned_at peer rd prefix held u = is.learned (key_from peer rd prefix) ∙ used_at place control own peer rd prefix held u

  remote_known : (route : KnownRoute) → FromTaken place control own route → Among route kept
  remote_known route f =
      let entry : RouteKey × Held = (key_from f.peer f.rd route.prefix, f.held) in
      let addr : f.held.import.0 ≡ addr_of place.scenario f.peer =
      ap (λ (x : Held). x.import.0) f.used.is ∙ join_addr (addr_of place.scenario f.peer) f.used.taken.value f.used.by f.used.joins in
      let one : known_from entry ≡ route =
      λ i. record { prefix = route.prefix; origin = (ap (λ (a : Addr). origins.Remote f.peer a f.rd) addr ∙ sym f.origin) i } in
      subst (λ (r : KnownRoute). Among r kept) one
      (among_after (known_from entry) (map known_here (maps.entries tree.vrf.routes.attached))
      (map known_from (maps.entries tree.vrf.routes.learned))
      (among_map known_from entry (maps.entries tree.vrf.routes.learned)
      (get_entry key_exact tree.vrf.routes.learned entry.0 entry.1 (learned_at f.peer f.rd route.prefix f.held f.used))))

  local_known : (local : Route) → Among local (locals place control own) → Among (of_site local) kept
  local_known local a =
      among_front (of_site local) (map known_here (maps.entries tree.vrf.routes.attached)) (map known_from (maps.entries tree.vrf.routes.learned))
      (among_map known_here (key_here local.prefix, local.site) (maps.entries tree.vrf.routes.attached)
      (get_entry key_exact tree.vrf.routes.attached (key_here local.prefix) local.site (attached_at local a)))

  all_known : (route : KnownRoute) → Among route (all place control own) → Among route kept
  all_known route a = elim (route_is place control own route a) [
    | inl local ↦ subst (λ (r : KnownRoute). Among r kept) (sym local.2) (local_known local.0 local.1)
    | inr far ↦ remote_known route far
  ]

  pub one_known : (route : KnownRoute) → Among route (all place control own) ↔ Among route kept
  one_known route = (all_known route, known_all route)

  -- ---- what one route says

  remote_says : (route : KnownRoute) (edge : NodeId) (address : Addr) (rd : Rd) → route.origin ≡ origins.Remote edge address rd
      → FromTaken place control own route
      → remote_choice edge rd (maps.get tree.vrf.routes.learned (key_from edge rd route.prefix))
      ≡ choice_of (maps.get (taken_from control edge) (Unicast rd route.prefix) >>? λ taken. join_by address taken.value >>? λ by. Some
      (Remote edge rd by.import by.source_as))
  remote_says route edge address rd e f =
      let same = sym f.origin ∙ e in
      let parts = remote_parts f.peer (addr_of place.scenario f.peer) f.rd edge address rd same in
      let held : maps.get tree.vrf.routes.learned (key_from edge rd route.prefix) ≡ Some f.held =
      (λ i. maps.get tree.vrf.routes.learned (key_from (sym parts.0 i) (sym parts.2 i) route.prefix))
      ∙ learned_at f.peer f.rd route.prefix f.held f.used in
      let at : maps.get (taken_from control edge) (Unicast rd route.prefix) ≡ Some f.used.taken =
      (λ i. maps.get (taken_from control (sym parts.0 i)) (Unicast (sym parts.2 i) route.prefix)) ∙ f.used.at in
      let joins : join_by address f.used.taken.value ≡ Some f.used.by =
      ap (λ (a : Addr). join_by a f.used.taken.value) (sym parts.1) ∙ f.used.joins in
      ap (remote_choice edge rd) (held ∙ ap (λ (h : Held). Some h) f.used.is)
      ∙ sym (ap (λ (o : Option TakenRoute). choice_of
      (o >>? λ taken. join_by address taken.value >>? λ by. Some (Remote edge rd by.import by.source_as))) at
      ∙ ap (λ (o : Option JoinBy). choice_of (o >>? λ by. Some (Remote edge rd by.import by.source_as))) joins)

  local_far : (prefix : Prefix) (edge : NodeId) (address : Addr) (rd : Rd) (local : Route)
      → record { prefix = prefix; origin = origins.Remote edge address rd } ≡ of_site local → ⊥
  local_far prefix edge address rd local e = apart edge address rd local.site (ap (λ (r : KnownRoute). r.origin) e)

  route_says : (prefix : Prefix) (origin : Origin) → Among (record { prefix = prefix; origin = origin }) (all place control own)
      → chosen tree.vrf.routes.learned (Some (record { prefix = prefix; origin = origin }))
      ≡ choice_of (upstream_by place control (record { prefix = prefix; origin = origin }))
  route_says prefix (origins.Local site) a = refl
  route_says prefix (origins.Remote edge address rd) a =
      let route : KnownRoute = record { prefix = prefix; origin = origins.Remote edge address rd } in
      elim (route_is place control own route a) [
        | inl local ↦ absurd (local_far prefix edge address rd local.0 local.2)
        | inr far ↦ remote_says route edge address rd refl far
      ]

  -- ---- what is chosen

  module _ (whole : AreWhole (known_routes place control own)) where
    of_sites : AreOfSites (all place control own)
    of_sites route other site other_site a b same e f =
        let x = local_is place control own route site a e in
        let y = local_is place control own other other_site b f in
        let prefixes : route.prefix ≡ other.prefix =
        whole route other other.prefix.addr a b same.0 same.1 (covers_itself other.prefix.addr other.prefix.bits) in
        let keys : x.0.prefix ≡ y.0.prefix = ap (λ (r : KnownRoute). r.prefix) (sym x.2) ∙ prefixes ∙ ap (λ (r : KnownRoute). r.prefix) y.2 in
        let here = same_site site x.0.site (sym e ∙ ap (λ (r : KnownRoute). r.origin) x.2) in
        let there = same_site other_site y.0.site (sym f ∙ ap (λ (r : KnownRoute). r.origin) y.2) in
        here
        ∙ same_Some x.0.site y.0.site (sym (attached_at x.0 x.1) ∙ ap (λ (p : Prefix). maps.get tree.vrf.routes.attached (key_here p)) keys
        ∙ attached_at y.0 y.1)
        ∙ sym there

    one_choice : (cost kept_cost : NodeId → ℕ) (source : Addr) (found keeps : Option KnownRoute) → BestIs cost (all place control own) source found
        → BestIs kept_cost kept source keeps
        → option_map (λ (route : KnownRoute). route.origin) found ≡ option_map (λ (route : KnownRoute). route.origin) keeps
        → chosen tree.vrf.routes.learned keeps ≡ choice_of (found >>? upstream_by place control)
    one_choice cost kept_cost source None None b k e = refl
    one_choice cost kept_cost source None (Some keep) b k e = none_some keep.origin e
    one_choice cost kept_cost source (Some route) None b k e = none_some route.origin (sym e)
    one_choice cost kept_cost source (Some route) (Some keep) b k e =
        let above : keep.prefix.bits ≤ route.prefix.bits = not_longer cost keep route (b.best keep (known_all keep k.among) k.covering) in
        let below : route.prefix.bits ≤ keep.prefix.bits = not_longer kept_cost route keep (k.best route (all_known route b.among) b.covering) in
        let prefixes : keep.prefix ≡ route.prefix =
        whole keep route source (known_all keep k.among) b.among (omega (arith, above, below)) k.covering b.covering in
        let sources : keep.origin ≡ route.origin = sym (same_Some route.origin keep.origin e) in
        let one : keep ≡ route = λ i. record { prefix = prefixes i; origin = sources i } in
        ap (λ (r : KnownRoute). chosen tree.vrf.routes.learned (Some r)) one ∙ route_says route.prefix route.origin b.among

    pub choice_is : Rules place.scenario → AreNodes place control → (flow : Flow)
        → chosen_for tree.vrf.routes (place.core.cost place.me) flow ≡ choice_of (upstream_for place control own flow.source flow.group)
    choice_is rules nodes flow =
        let cost : NodeId → ℕ = place.core.cost place.me in
        let costs : NodeId → ℕ = costs_of place own (all place control own) flow.source flow.group in
        let kept_costs : NodeId → ℕ = cost_by own.vrf.rule cost kept flow.source flow.group in
        ap (λ (rule : Rule). chosen tree.vrf.routes.learned (best_route (cost_by rule cost kept flow.source flow.group) kept flow.source)) is.rule
        ∙ one_choice costs kept_costs flow.source (best_route costs (all place control own) flow.source) (best_route kept_costs kept flow.source)
        (best costs (all place control own) flow.source) (best kept_costs kept flow.source)
        (any_order own.vrf.rule cost (all place control own) kept flow.source flow.group (of_edges place control own rules nodes) of_sites one_known)
