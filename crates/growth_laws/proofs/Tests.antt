-- Where the tests pass, a script takes nothing back.
use Rattle.std.specs.Prelude.{min}
use Rattle.std.proofs.Common.{◌≡◌, ℕ, ◌+◌, ◌-◌, ◌/◌, ◌^◌, ◌<◌, ◌≤◌, ◌&&◌, nat_lt, not, Bool, true, false, cond, List, [], ◌∷◌, map, length, sum_by, count_by, zero, suc, ◌⊎◌, inl, inr, refl, sym, ap, subst, ◌∙◌, arith, pow-add}
use Rattle.std.specs.List.{AllByRecursion, list_any}
use Rattle.std.proofs.lemmas.Bool.{and_parts, eqb-true, eq-eqb, ltb-true}
use native.Mathlib.Nat.{div-div-eq-div-mul}
use Rattle.mv_base.specs.Lists.{Among}
use Rattle.mv_base.specs.Pattern.{rank}
use Rattle.mv_base.specs.Prefix.{same_front, covers}
use Rattle.mv_base.specs.declared.addr.Addr.{Addr}
use Rattle.mv_base.specs.declared.addr.Addr.TheVariants.{V4, V6}
use Rattle.mv_base.specs.declared.ids.SiteId.{SiteId}
use Rattle.mv_base.specs.declared.ids.VrfId.{VrfId}
use Rattle.mv_base.specs.declared.prefix.Prefix.{Prefix}
use Rattle.scenario_defs.specs.Home.{routes_of_site, routes_from, local_routes}
use Rattle.scenario_defs.specs.Rules.{IsIface, Rules}
use Rattle.scenario_defs.specs.Vpn.{is_of_site, is_of_vrf, is_attached_at, targets_of, same_vpn}
use Rattle.scenario_defs.specs.declared.event.Event.{Event}
use Rattle.scenario_defs.specs.declared.event.CustomerEvent.TheVariants as customers
use Rattle.scenario_defs.specs.declared.event.Event.TheVariants as events
use Rattle.scenario_defs.specs.declared.event.JoinEntry.{JoinEntry}
use Rattle.scenario_defs.specs.declared.event.JoinEntry.TheVariants as entries
use Rattle.scenario_defs.specs.declared.event.Script.{Script}
use Rattle.scenario_defs.specs.declared.event.Timed.{Timed}
use Rattle.scenario_defs.specs.declared.scenario.Iface.{Iface}
use Rattle.scenario_defs.specs.declared.scenario.Route.{Route}
use Rattle.scenario_defs.specs.declared.scenario.Scenario.{Scenario}
use Rattle.scenario_defs.specs.declared.scenario.Site.{Site}
use Rattle.scenario_defs.specs.declared.scenario.Vrf.{Vrf}
use Rattle.edge_words.proofs.calm_laws.Comms.{all_of}
use Rattle.edge_words.proofs.calm_laws.Lists.{any_from, any_among, among_front, among_after, among_either, among_map}
use Rattle.edge_words.proofs.calm_laws.Targets.{same_back}
use Rattle.growth_laws.specs.Edges.{IsSourceEntry}
use Rattle.growth_laws.specs.Scripts.{HasOneHome, OnlyAdds, ticks_of, is_selection, OnlyGrows}
use Rattle.growth_laws.specs.Tests.{is_source_entry, only_adds, all_add, HomeRoute, homes_from, overlap, meet, are_apart, has_one_home, only_grows}

-- ---- events

source_entry : (entry : JoinEntry) → is_source_entry entry ≡ true → IsSourceEntry entry
source_entry (entries.Source source group) h = tt
source_entry (entries.Star group) h = absurd (let bad : false ≡ true = h in cc)
source_entry (entries.Rpt source group) h = absurd (let bad : false ≡ true = h in cc)

no : {P : Type 0} → false ≡ true → P
no h = absurd cc

adds : (event : Event) → only_adds event ≡ true → OnlyAdds event
adds (events.Customer (customers.Join iface entry)) h = source_entry entry h
adds (events.Customer (customers.Select vrf pattern)) h = eqb-true (rank pattern) 4 h
adds (events.Tick count) h = tt
adds (events.Timers node) h = tt
adds (events.Move kind from to count) h = tt
adds (events.Send site source group payload) h = tt
adds (events.Packet site octets) h = tt
adds (events.Hop from to place) h = tt
adds (events.DropCopy from to place) h = tt
adds events.Heal h = tt
adds events.Settle h = tt
adds events.Drain h = tt
adds events.State h = tt
adds (events.Restart node) h = no h
adds (events.Lose kind a b) h = no h
adds (events.Notice kind a b) h = no h
adds (events.Raise kind a b) h = no h
adds (events.Customer other) h = no h
adds (events.Cost a b cost) h = no h

all_adds : (all : List Timed) → all_add all ≡ true → AllByRecursion (λ (timed : Timed). OnlyAdds timed.event) all
all_adds [] h = tt
all_adds (timed ∷ more) h = (let x = and_parts (only_adds timed.event) (all_add more) h in (adds timed.event x.0, all_adds more x.1))

-- ---- prefixes

-- numbers that agree without their last bits agree without more of them
fewer_bits : (x y p r : ℕ) → p ≤ r → x / 2 ^ p ≡ y / 2 ^ p → x / 2 ^ r ≡ y / 2 ^ r
fewer_bits x y p r le h = parted x ∙ ap (λ (n : ℕ). n / 2 ^ (r - p)) h ∙ sym (parted y)
  where
    parted : (z : ℕ) → z / 2 ^ r ≡ z / 2 ^ p / 2 ^ (r - p)
    parted z =
        let sum : r ≡ p + (r - p) = omega (arith, le) in
        ap (λ (n : ℕ). z / 2 ^ n) sum ∙ ap (λ (n : ℕ). z / n) (pow-add 2 p (r - p)) ∙ sym (div-div-eq-div-mul z (2 ^ p) (2 ^ (r - p)))

front_shorter : (a b : Addr) (bits fewer : ℕ) → fewer ≤ bits → same_front a b bits ≡ true → same_front a b fewer ≡ true
front_shorter (V4 xs) (V4 ys) bits fewer le h = eq-eqb _ _ (fewer_bits _ _ (32 - bits) (32 - fewer) (omega (arith, le)) (eqb-true _ _ h))
front_shorter (V6 xs) (V6 ys) bits fewer le h = eq-eqb _ _ (fewer_bits _ _ (128 - bits) (128 - fewer) (omega (arith, le)) (eqb-true _ _ h))
front_shorter (V4 xs) (V6 ys) bits fewer le h = no h
front_shorter (V6 xs) (V4 ys) bits fewer le h = no h

one_front : (a b c : Addr) (bits : ℕ) → same_front a c bits ≡ true → same_front b c bits ≡ true → same_front a b bits ≡ true
one_front (V4 xs) (V4 ys) (V4 zs) bits h k = eq-eqb _ _ (eqb-true _ _ h ∙ sym (eqb-true _ _ k))
one_front (V6 xs) (V6 ys) (V6 zs) bits h k = eq-eqb _ _ (eqb-true _ _ h ∙ sym (eqb-true _ _ k))
one_front (V4 xs) b (V6 zs) bits h k = no h
one_front (V6 xs) b (V4 zs) bits h k = no h
one_front a (V4 ys) (V6 zs) bits h k = no k
one_front a (V6 ys) (V4 zs) bits h k = no k

-- prefixes that cover an address overlap
both_cover : (a b : Prefix) (source : Addr) → covers a source ≡ true → covers b source ≡ true → overlap a b ≡ true
both_cover a b source h k =
    one_front a.addr b.addr source (min a.bits b.bits) (front_shorter a.addr source a.bits (min a.bits b.bits) (omega arith) h)
    (front_shorter b.addr source b.bits (min a.bits b.bits) (omega arith) k)

-- ---- homes that are apart

not_meeting : (scenario : Scenario) (x y : HomeRoute) (more : List HomeRoute) → not (list_any (meet scenario x) more) ≡ true → Among y more
    → meet scenario x y ≡ true → ⊥
not_meeting scenario x y more h a k = by (list_any (meet scenario x) more) (any_from (meet scenario x) y more a k) h
  where
    by : (b : Bool) → b ≡ true → not b ≡ true → ⊥
    by true e f = no f
    by false e f = no e

-- two of the list that meet both ways round are one
one_of_apart : (scenario : Scenario) (all : List HomeRoute) → are_apart scenario all ≡ true → (x y : HomeRoute) → Among x all → Among y all
    → meet scenario x y ≡ true → meet scenario y x ≡ true → x ≡ y
one_of_apart scenario [] h x y a b k l = absurd a
one_of_apart scenario (first ∷ more) h x y (inl a) (inl b) k l = a ∙ sym b
one_of_apart scenario (first ∷ more) h x y (inl a) (inr b) k l =
    absurd (not_meeting scenario first y more (and_parts (not (list_any (meet scenario first) more)) (are_apart scenario more) h).0 b
    (ap (λ (z : HomeRoute). meet scenario z y) (sym a) ∙ k))
one_of_apart scenario (first ∷ more) h x y (inr a) (inl b) k l =
    absurd (not_meeting scenario first x more (and_parts (not (list_any (meet scenario first) more)) (are_apart scenario more) h).0 a
    (ap (λ (z : HomeRoute). meet scenario z x) (sym b) ∙ l))
one_of_apart scenario (first ∷ more) h x y (inr a) (inr b) k l =
    one_of_apart scenario more (and_parts (not (list_any (meet scenario first) more)) (are_apart scenario more) h).1 x y a b k l

-- ---- all homes

abbrev home : VrfId → Route → HomeRoute
home id route = record { vrf = id; route = route }

-- the routes of the VRF of that number
abbrev homes_of : Scenario → ℕ → List HomeRoute
homes_of scenario number = let id : VrfId = record { 0 = number } in map (λ (route : Route). home id route) (local_routes scenario id)

home_at : (scenario : Scenario) (vrfs : List Vrf) (number place : ℕ) (id : VrfId) (route : Route) → id.0 ≡ number + place → place < length vrfs
    → Among route (local_routes scenario id) → Among (home id route) (homes_from scenario number vrfs)
home_at scenario [] number place id route e lt a = absurd (omega (arith, lt))
home_at scenario (vrf ∷ more) number zero id route e lt a =
    let same : id.0 ≡ number = omega (arith, e) in
    among_front (home id route) (homes_of scenario number) (homes_from scenario (number + 1) more)
    (subst (λ (k : ℕ). Among (home id route) (homes_of scenario k)) same
    (among_map (λ (own : Route). home id own) route (local_routes scenario id) a))
home_at scenario (vrf ∷ more) number (suc place) id route e lt a =
    among_after (home id route) (homes_of scenario number) (homes_from scenario (number + 1) more)
    (home_at scenario more (number + 1) place id route (omega (arith, e))
    (let long : length (vrf ∷ more) ≡ suc (length more) = refl in omega (arith, lt, long)) a)

-- a route is one of a site that passes
site_of : (passes : SiteId → Bool) (number : ℕ) (sites : List Site) (route : Route) → Among route (routes_from passes number sites)
    → (site : SiteId) × (passes site ≡ true)
site_of passes number [] route a = absurd a
site_of passes number (site ∷ more) route a =
    by (passes (record { 0 = number })) refl (among_either route _ (routes_from passes (number + 1) more) a) (site_of passes (number + 1) more route)
  where
    by : (b : Bool) → passes (record { 0 = number }) ≡ b
        → Among route (cond b (routes_of_site (record { 0 = number }) site.prefixes) []) ⊎ Among route (routes_from passes (number + 1) more)
        → (Among route (routes_from passes (number + 1) more) → (own : SiteId) × (passes own ≡ true)) → (own : SiteId) × (passes own ≡ true)
    by b e (inr c) rest = rest c
    by true e (inl c) rest = (record { 0 = number }, e)
    by false e (inl c) rest = absurd c

-- only a VRF of the scenario has routes
vrf_there : (scenario : Scenario) → Rules scenario → (id : VrfId) (route : Route) → Among route (local_routes scenario id)
    → id.0 < length scenario.vrfs
vrf_there scenario rules id route a =
    let site = site_of (is_attached_at scenario id) 0 scenario.sites route a in
    let by = any_among (λ (iface : Iface). is_of_site site.0 iface && is_of_vrf id iface) scenario.ifaces site.1 in
    let of : by.0.vrf.0 ≡ id.0 = eqb-true by.0.vrf.0 id.0 (and_parts (is_of_site site.0 by.0) (is_of_vrf id by.0) by.2).1 in
    let there = (all_of (IsIface scenario) by.0 scenario.ifaces rules.ifaces.each by.1).vrf in
    omega (arith, of, there)

pub homes_are_told : (scenario : Scenario) → Rules scenario → has_one_home scenario ≡ true → HasOneHome scenario
homes_are_told scenario rules told a b route other source vpn in_a in_b covers_route covers_other =
    let all = homes_from scenario 0 scenario.vrfs in
    let x : HomeRoute = record { vrf = a; route = route } in
    let y : HomeRoute = record { vrf = b; route = other } in
    let there : Among x all = home_at scenario scenario.vrfs 0 a.0 a route (omega arith) (vrf_there scenario rules a route in_a) in_a in
    let here : Among y all = home_at scenario scenario.vrfs 0 b.0 b other (omega arith) (vrf_there scenario rules b other in_b) in_b in
    let back : same_vpn scenario b a ≡ true = same_back (targets_of scenario a) (targets_of scenario b) vpn in
    let one : x ≡ y = one_of_apart scenario all told x y there here
    (λ i. vpn i && both_cover route.prefix other.prefix source covers_route covers_other i)
    (λ i. back i && both_cover other.prefix route.prefix source covers_other covers_route i) in
    (ap (λ (h : HomeRoute). h.vrf) one, ap (λ (h : HomeRoute). h.route) one)

-- ---- scripts

pub growing_told : (script : Script) → Rules script.scenario → only_grows script ≡ true → OnlyGrows script
growing_told script rules h =
    let ticks : ℕ = sum_by (λ (timed : Timed). ticks_of timed.event) script.events in
    let trees : ℕ = length script.scenario.vrfs + count_by (λ (timed : Timed). is_selection timed.event) script.events in
    let x = and_parts (all_add script.events && nat_lt ticks 210 && has_one_home script.scenario) (nat_lt trees script.scenario.labels) h in
    let y = and_parts (all_add script.events && nat_lt ticks 210) (has_one_home script.scenario) x.0 in
    let z = and_parts (all_add script.events) (nat_lt ticks 210) y.0 in
    record {
      adds = all_adds script.events z.0;
      short = ltb-true ticks 210 z.1;
      home = homes_are_told script.scenario rules y.1;
      labels = ltb-true trees script.scenario.labels x.1;
    }
