-- Each VRF of the scenario has one prefix of its own, so an address has one home.
use Rattle.std.proofs.Common.{◌≡◌, ℕ, zero, suc, ◌+◌, ◌-◌, ◌*◌, ◌/◌, ◌^◌, ◌<◌, ◌&&◌, Bool, true, false, cond, List, [], ◌∷◌, ◌++◌, length, ◌⊎◌, inl, inr, refl, sym, ap, subst, ◌∙◌, arith, length-append}
use Rattle.std.specs.Int.{w32, from_be_bytes}
use Rattle.std.proofs.lemmas.Bool.{and_parts, eqb-true}
use Rattle.mv_base.specs.Lists.{Among}
use Rattle.mv_base.specs.Prefix.{covers}
use Rattle.mv_base.specs.declared.addr.Addr.{Addr}
use Rattle.mv_base.specs.declared.addr.Addr.TheVariants.{V4, V6}
use Rattle.mv_base.specs.declared.ids.SiteId.{SiteId}
use Rattle.mv_base.specs.declared.ids.VrfId.{VrfId}
use Rattle.scenario_defs.specs.Home.{routes_of_site, routes_from, local_routes}
use Rattle.scenario_defs.specs.Vpn.{is_of_site, is_of_vrf, is_attached_at}
use Rattle.scenario_defs.specs.declared.scenario.Iface.{Iface}
use Rattle.scenario_defs.specs.declared.scenario.Route.{Route}
use Rattle.scenario_defs.specs.declared.scenario.Site.{Site}
use Rattle.growth_laws.proofs.edge_words.calm_laws.Lists.{any_among, among_either, among_front, among_after}
use Rattle.growth_laws.specs.Scripts.{HasOneHome}
use Rattle.made_laws.specs.MadeScript.{each, all, ipv4, vrf, site, iface, made_scenario}

-- ---- what there is for each number

length_each : {A : Type 0} (of : ℕ → List A) → ((number : ℕ) → length (of number) ≡ 8) → (count : ℕ) → length (each of count) ≡ 8 * count
length_each of h zero = refl
length_each of h (suc count) = omega (arith, length-append (each of count) (of (suc count)), length_each of h count, h (suc count))

length_all : {A : Type 0} (of : ℕ → A) (count : ℕ) → length (all of count) ≡ count
length_all of zero = refl
length_all of (suc count) = omega (arith, length-append (all of count) (of (suc count) ∷ []), length_all of count)

among_each : {A : Type 0} (of : ℕ → List A) (count : ℕ) (x : A) → Among x (each of count) → (number : ℕ) × Among x (of number)
among_each of zero x a = absurd a
among_each of (suc count) x a = elim (among_either x (each of count) (of (suc count)) a) [
  | inl b ↦ among_each of count x b
  | inr b ↦ (suc count, b)
]

among_all : {A : Type 0} (of : ℕ → A) (count : ℕ) (x : A) → Among x (all of count) → (number : ℕ) × (x ≡ of number)
among_all of count x a = by (among_each (λ number. of number ∷ []) count x a)
  where
    by : ((number : ℕ) × Among x (of number ∷ [])) → (number : ℕ) × (x ≡ of number)
    by (number, inl e) = (number, e)
    by (number, inr b) = absurd b

-- ---- the routes of sites

-- a route of the front, or of the sites after it
routes_either : (passes : SiteId → Bool) (number : ℕ) (front back : List Site) (route : Route)
    → Among route (routes_from passes number (front ++ back))
    → Among route (routes_from passes number front) ⊎ Among route (routes_from passes (number + length front) back)
routes_either passes number [] back route a =
    let same : number ≡ number + 0 = omega arith in
    inr (subst (λ (n : ℕ). Among route (routes_from passes n back)) same a)
routes_either passes number (site ∷ front) back route a =
    by (among_either route own (routes_from passes (number + 1) (front ++ back)) a) (routes_either passes (number + 1) front back route)
  where
    own : List Route
    own = cond (passes (record { 0 = number })) (routes_of_site (record { 0 = number }) site.prefixes) []

    by : Among route own ⊎ Among route (routes_from passes (number + 1) (front ++ back))
        → (Among route (routes_from passes (number + 1) (front ++ back))
        → Among route (routes_from passes (number + 1) front) ⊎ Among route (routes_from passes (number + 1 + length front) back))
        → Among route (own ++ routes_from passes (number + 1) front) ⊎ Among route (routes_from passes (number + length (site ∷ front)) back)
    by (inl b) rest = inl (among_front route own (routes_from passes (number + 1) front) b)
    by (inr b) rest = elim (rest b) [
      | inl c ↦ inl (among_after route own (routes_from passes (number + 1) front) c)
      | inr c ↦
          let same : number + 1 + length front ≡ number + length (site ∷ front) = omega arith in
          inr (subst (λ (n : ℕ). Among route (routes_from passes n back)) same c)
    ]

-- it is of the sites of one number, and after those of the numbers before it
routes_each : (passes : SiteId → Bool) (number : ℕ) (of : ℕ → List Site) (count : ℕ) (route : Route)
    → Among route (routes_from passes number (each of count))
    → (before : ℕ) × (before < count) × Among route (routes_from passes (number + length (each of before)) (of (suc before)))
routes_each passes number of zero route a = absurd a
routes_each passes number of (suc count) route a = elim (routes_either passes number (each of count) (of (suc count)) route a) [
  | inl b ↦ let c = routes_each passes number of count route b in (c.0, (let less = c.1 in omega (arith, less)), c.2)
  | inr b ↦ (count, omega arith, b)
]

-- ---- the routes of a VRF

-- the route to the only prefix of the site after so many edges and VPNs
abbrev route_at : ℕ → ℕ → Route
route_at edges vpns = record { prefix = record { addr = ipv4 10 (suc edges) (suc vpns) 0; bits = 24 }; site = record { 0 = 8 * edges + vpns } }

-- The route is that of the VRF after so many edges and VPNs.
record IsAt (id : VrfId) (route : Route) : Type 0 where
  edges : ℕ
  vpns : ℕ
  few_edges : edges < 32
  few_vpns : vpns < 8
  number : id.0 ≡ 8 * edges + vpns
  is : route ≡ route_at edges vpns

-- the route of a site with one prefix
one_route : (passes : SiteId → Bool) (number edges vpns : ℕ) (route : Route) → number ≡ 8 * edges + vpns
    → Among route (routes_from passes number (site (suc edges) (suc vpns) ∷ []))
    → (passes (record { 0 = 8 * edges + vpns }) ≡ true) × (route ≡ route_at edges vpns)
one_route passes number edges vpns route e a =
    by (passes id) refl (subst (λ (n : ℕ). Among route (routes_from passes n (site (suc edges) (suc vpns) ∷ []))) e a)
  where
    id : SiteId
    id = record { 0 = 8 * edges + vpns }

    by : (b : Bool) → passes id ≡ b → Among route (cond b (route_at edges vpns ∷ []) [] ++ []) → (passes id ≡ true) × (route ≡ route_at edges vpns)
    by true h (inl c) = (h, c)
    by true h (inr c) = absurd c
    by false h c = absurd c

sites_are : made_scenario.sites ≡ each (λ edge. all (site edge) 8) 32
unfolding made_scenario
sites_are = refl

ifaces_are : made_scenario.ifaces ≡ each (λ edge. all (iface edge) 8) 32
unfolding made_scenario
ifaces_are = refl

-- interface, VRF and site have one number
one_number : (own : Iface) → Among own (each (λ edge. all (iface edge) 8) 32) → own.vrf.0 ≡ own.site.0
one_number own a =
    let row = among_each (λ edge. all (iface edge) 8) 32 own a in
    let it = among_all (iface row.0) 8 own row.1 in
    ap (λ (i : Iface). i.vrf.0) it.1 ∙ sym (ap (λ (i : Iface). i.site.0) it.1)

-- a site is attached at the VRF of its number alone
attached_at : (id : VrfId) (number : ℕ) → is_attached_at made_scenario id (record { 0 = number }) ≡ true → id.0 ≡ number
attached_at id number h =
    let place : SiteId = record { 0 = number } in
    let by = any_among (λ (own : Iface). is_of_site place own && is_of_vrf id own) made_scenario.ifaces h in
    let both = and_parts (is_of_site place by.0) (is_of_vrf id by.0) by.2 in
    let same = one_number by.0 (subst (λ (all : List Iface). Among by.0 all) ifaces_are by.1) in
    sym (eqb-true by.0.vrf.0 id.0 both.1) ∙ same ∙ eqb-true by.0.site.0 number both.0

routes_are : (id : VrfId) (route : Route) → Among route (local_routes made_scenario id) → IsAt id route
routes_are id route a =
    let passes : SiteId → Bool = is_attached_at made_scenario id in
    let of : ℕ → List Site = λ edge. all (site edge) 8 in
    let row = routes_each passes 0 of 32 route (subst (λ (all : List Site). Among route (routes_from passes 0 all)) sites_are a) in
    let before : ℕ = length (each of row.0) in
    let it = routes_each passes (0 + before) (λ vpn. site (suc row.0) vpn ∷ []) 8 route row.2 in
    let edges_before = length_each of (λ edge. length_all (site edge) 8) row.0 in
    let vpns_before = length_all (site (suc row.0)) it.0 in
    let one = one_route passes (0 + before + length (all (site (suc row.0)) it.0)) row.0 it.0 route (omega (arith, edges_before, vpns_before)) it.2 in
    record {
      edges = row.0;
      vpns = it.0;
      few_edges = row.1;
      few_vpns = it.1;
      number = attached_at id (8 * row.0 + it.0) one.0;
      is = one.1;
    }

-- ---- prefixes

front_of : (a b : ℕ) → from_be_bytes w32 (10 ∷ a ∷ b ∷ 0 ∷ []) / 2 ^ (32 - 24) ≡ 655360 + 256 * a + b
front_of a b = omega arith

-- two prefixes that cover one address are of one edge and one VPN
one_place : (a b c d : ℕ) (source : Addr) → b < 8 → d < 8 → covers (route_at a b).prefix source ≡ true → covers (route_at c d).prefix source ≡ true
    → (a ≡ c) × (b ≡ d)
one_place a b c d (V4 octets) few less h k =
    let first = eqb-true (from_be_bytes w32 (10 ∷ suc a ∷ suc b ∷ 0 ∷ []) / 2 ^ (32 - 24)) (from_be_bytes w32 octets / 2 ^ (32 - 24)) h in
    let second = eqb-true (from_be_bytes w32 (10 ∷ suc c ∷ suc d ∷ 0 ∷ []) / 2 ^ (32 - 24)) (from_be_bytes w32 octets / 2 ^ (32 - 24)) k in
    let same : 655360 + 256 * suc a + suc b ≡ 655360 + 256 * suc c + suc d =
    sym (front_of (suc a) (suc b)) ∙ first ∙ sym second ∙ front_of (suc c) (suc d) in
    (omega (arith, same, few, less), omega (arith, same, few, less))
one_place a b c d (V6 octets) few less h k = absurd (let bad : false ≡ true = h in cc)

abbrev numbered : ℕ → VrfId
numbered number = record { 0 = number }

-- ---- homes

one_home : (a b : VrfId) (route other : Route) (source : Addr) → IsAt a route → IsAt b other → covers route.prefix source ≡ true
    → covers other.prefix source ≡ true → (a ≡ b) × (route ≡ other)
one_home a b route other source x y h k =
    let same = one_place x.edges x.vpns y.edges y.vpns source x.few_vpns y.few_vpns
    (ap (λ (r : Route). covers r.prefix source) (sym x.is) ∙ h) (ap (λ (r : Route). covers r.prefix source) (sym y.is) ∙ k) in
    let number : a.0 ≡ b.0 = x.number ∙ ap (λ (n : ℕ). 8 * n + x.vpns) same.0 ∙ ap (λ (n : ℕ). 8 * y.edges + n) same.1 ∙ sym y.number in
    (ap numbered number, x.is ∙ ap (λ (n : ℕ). route_at n x.vpns) same.0 ∙ ap (λ (n : ℕ). route_at y.edges n) same.1 ∙ sym y.is)

pub made_home : HasOneHome made_scenario
made_home a b route other source vpn in_a in_b = one_home a b route other source (routes_are a route in_a) (routes_are b other in_b)

-- ---- labels

pub labels_are : made_scenario.labels ≡ 4096
unfolding made_scenario
labels_are = refl

pub vrfs_long : length made_scenario.vrfs ≡ 256
unfolding made_scenario
vrfs_long = length_each (λ edge. all (vrf edge) 8) (λ edge. length_all (vrf edge) 8) 32
