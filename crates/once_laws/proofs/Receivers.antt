-- At a line of zeros each receiver is served by one VRF, and no other interface by any.
use Rattle.std.specs.Prelude.{count_by, find}
use Rattle.std.proofs.Common.{◌≡◌, inl, inr, ℕ, zero, suc, ◌+◌, ◌≤◌, ◌&&◌, ◌||◌, Bool, true, false, not, cond, List, [], ◌∷◌, slice_get, Option, Some, None, is_some, option_map, refl, sym, ap, subst, ◌∙◌, arith}
use Rattle.std.specs.Cmp.{both_ways}
use Rattle.std.specs.List.{list_any}
use Rattle.std.specs.FinMap as maps
use Rattle.std.specs.FinSet as sets
use Rattle.std.proofs.lemmas.Bool.{cases_lt, true≢false, false_from_ne_true, and_parts, and_from, eq-eqb, eqb-true}
use Rattle.std.proofs.lemmas.Option.{none-some, same_Some}
use Rattle.mv_base.specs.declared.addr.Addr.{Addr}
use Rattle.mv_base.specs.declared.ids.IfaceId.{IfaceId}
use Rattle.mv_base.specs.declared.ids.NodeId.{NodeId}
use Rattle.mv_base.specs.declared.ids.SiteId.{SiteId}
use Rattle.mv_base.specs.declared.ids.VrfId.{VrfId}
use Rattle.mldp.specs.declared.mldp_fec.fec.Fec.{Fec}
use Rattle.mvpn_model.specs.Past as pasts
use Rattle.mvpn_model.specs.Past.{Past}
use Rattle.mvpn_model.proofs.ListLemmas.{passes-from_find, none-from_find}
use Rattle.pim_defs.specs.Asking.{asks_by}
use Rattle.pim_defs.specs.declared.expiry.Expiry.{Expiry}
use Rattle.scenario_defs.specs.Home.{home, home_by, routes_from}
use Rattle.scenario_defs.specs.Rules.{Rules}
use Rattle.scenario_defs.specs.Vpn.{is_of_site, is_of_vrf, is_attached_at, same_vpn, targets_of, vrf_of_site, entered_from, entered}
use Rattle.scenario_defs.specs.declared.event.JoinEntry.{JoinEntry}
use Rattle.scenario_defs.specs.declared.event.JoinEntry.TheVariants as join_entries
use Rattle.scenario_defs.specs.declared.scenario.Iface.{Iface}
use Rattle.scenario_defs.specs.declared.scenario.Scenario.{Scenario}
use Rattle.scenario_defs.specs.declared.scenario.Vrf.{Vrf}
use Rattle.scenario_defs.proofs.RuleLemmas.{vpns_at}
use Rattle.selective_defs.specs.Selective.{Among}
use Rattle.label_defs.proofs.KeyLemmas.{node_itself, node_apart}
use Rattle.edge_defs.specs.Datagrams.{is_from_site, is_from_edge, is_outside, is_imported_from}
use Rattle.edge_defs.specs.Edge.{VrfFlow, Upstream, Site, Remote, Taken}
use Rattle.edge_defs.specs.Place.{OwnVrf, own_vrfs, addr_of}
use Rattle.network_defs.specs.Costs.{Cores}
use Rattle.edge_defs.specs.Tunnels.{transmit_tunnel, is_joined_in, leaves}
use Rattle.edge_defs.specs.Flows.{is_asking}
use Rattle.edge_defs.specs.Upstream.{upstream_for}
use Rattle.choice_defs.specs.declared.known_route.KnownRoute.{KnownRoute}
use Rattle.edge_words.specs.edge_laws.Network.{EdgeNetwork, place_of}
use Rattle.edge_words.proofs.calm_laws.Leaves.{calm_flow}
use Rattle.edge_words.proofs.calm_laws.Lists.{any_from, any_among}
use Rattle.edge_words.proofs.calm_laws.Maps.{entry_get}
use Rattle.edge_words.proofs.calm_laws.Targets.{same_itself, same_back, same_through}
use Rattle.edge_words.proofs.calm_laws.Vrfs.{own_at, own_edge, one_rd}
use Rattle.label_defs.proofs.KeyLemmas.{node_cmp_total}
use Rattle.label_defs.proofs.MemberLemmas.{count-cons}
use Rattle.rule_laws.proofs.Vpns.{one_addr, addr_at}
use Rattle.delivery_laws.specs.Choice.{serves_near, sends_on, serves_far, serves_by, serves_from, is_served}
use Rattle.delivery_laws.specs.Leaving.{is_iface_of_vrf, asks_at, takes_from}
use Rattle.network_defs.specs.Nodes.{is_edge, part_of}
use Rattle.network_defs.specs.World.{World, Datagram, scenario_of}
use Rattle.once_laws.specs.Told.{kept_at_edge, AsksAreTold, NotesAreTold}
use Rattle.once_laws.proofs.Actives.{active_at_told}
use Rattle.once_laws.proofs.Behind.{Known}
use Rattle.once_laws.proofs.CalmFlows.{peer_is, asked_flow}
use Rattle.once_laws.proofs.Choices.{own_among, vpn_ids, UpstreamIs, IsNone, IsNear, IsFar, FromPeer, upstream_is}
use Rattle.once_laws.proofs.Edges as edges
use Rattle.once_laws.proofs.Edges.{net, rule, flows_stand, calm_session, none_due}
use Rattle.once_laws.proofs.Homes.{among_at, at_among}
use Rattle.once_laws.proofs.Serves.{FromSite, Here, vrf_edge, near_is, sends_is, far_is, leaves_are, own_in, own_iface, ServedBy, ByNear, ByFar, imported}
use Rattle.once_laws.proofs.Tunnels.{wanted_from}

-- ---- homes in a VPN

vpn_alike : (scenario : Scenario) (a b x : VrfId) → same_vpn scenario a b ≡ true → same_vpn scenario a x ≡ same_vpn scenario b x
vpn_alike scenario a b x h = both_ways (same_vpn scenario a x) (same_vpn scenario b x)
    (λ t. same_through (targets_of scenario b) (targets_of scenario a) (targets_of scenario x)
    (same_back (targets_of scenario a) (targets_of scenario b) h) t)
    (λ t. same_through (targets_of scenario a) (targets_of scenario b) (targets_of scenario x) h t)

pub home_vpn : (scenario : Scenario) (a b : VrfId) (source : Addr) → same_vpn scenario a b ≡ true → home scenario a source ≡ home scenario b source
home_vpn scenario a b source h i =
    home_by (routes_from (λ site. list_any (λ iface. is_of_site site iface && vpn_alike scenario a b iface.vrf h i) scenario.ifaces) 0 scenario.sites)
    source

-- ---- the VRF of a site

-- an interface that attaches a site to a VRF
record Attaches (scenario : Scenario) (id : VrfId) (site : SiteId) : Type 0 where
  place : ℕ
  iface : Iface
  at : slice_get scenario.ifaces place ≡ Some iface
  of : iface.site.0 ≡ site.0
  vrf : iface.vrf.0 ≡ id.0

attaches : (scenario : Scenario) (id : VrfId) (site : SiteId) → is_attached_at scenario id site ≡ true → Attaches scenario id site
attaches scenario id site h =
    let f = any_among (λ (iface : Iface). is_of_site site iface && is_of_vrf id iface) scenario.ifaces h in
    let p = and_parts (is_of_site site f.0) (is_of_vrf id f.0) f.2 in
    let at = at_among f.0 scenario.ifaces f.1 in
    record { place = at.0; iface = f.0; at = at.1; of = eqb-true f.0.site.0 site.0 p.0; vrf = eqb-true f.0.vrf.0 id.0 p.1 }

mixed_vpn : (scenario : Scenario) → Rules scenario → (i j : ℕ) (own other : Iface) → slice_get scenario.ifaces i ≡ Some own
    → slice_get scenario.ifaces j ≡ Some other → own.site.0 ≡ other.site.0 → same_vpn scenario own.vrf other.vrf ≡ true
mixed_vpn scenario rules i j own other e d sites = elim (cases_lt i j) [
  | inl less ↦ (vpns_at scenario rules i j own other less e d).mixed sites
  | inr rest ↦ elim (cases_lt j i) [
    | inl less ↦ same_back (targets_of scenario other.vrf) (targets_of scenario own.vrf)
        ((vpns_at scenario rules j i other own less d e).mixed (sym sites))
    | inr more ↦
        let one : own ≡ other = same_Some own other (sym e ∙ ap (slice_get scenario.ifaces) (omega (arith, rest, more)) ∙ d) in
        ap (λ (f : Iface). same_vpn scenario own.vrf f.vrf) (sym one) ∙ same_itself (targets_of scenario own.vrf)
  ]
]

-- the first VRF of a site is of the VPN of each VRF where the site is attached
pub site_vrf : (scenario : Scenario) → Rules scenario → (id : VrfId) (site : SiteId) → is_attached_at scenario id site ≡ true
    → (u : VrfId) × (vrf_of_site scenario site ≡ Some u) × (same_vpn scenario u id ≡ true)
site_vrf scenario rules id site h = by (find (is_of_site site) scenario.ifaces) refl
  where
    by : (o : Option Iface) → find (is_of_site site) scenario.ifaces ≡ o
        → (u : VrfId) × (vrf_of_site scenario site ≡ Some u) × (same_vpn scenario u id ≡ true)
    by None e =
        let x = attaches scenario id site h in
        absurd (true≢false (sym (any_from (is_of_site site) x.iface scenario.ifaces (among_at scenario.ifaces x.place x.iface x.at)
        (eq-eqb x.iface.site.0 site.0 x.of)) ∙ none-from_find (is_of_site site) scenario.ifaces e))
    by (Some first) e =
        let x = attaches scenario id site h in
        let p = passes-from_find (is_of_site site) scenario.ifaces first e in
        let sites : first.site.0 ≡ x.iface.site.0 = eqb-true first.site.0 site.0 p.2 ∙ sym x.of in (
          first.vrf,
          ap (option_map (λ (f : Iface). f.vrf)) e,
          ap (λ (m : ℕ). same_vpn scenario first.vrf (record { 0 = m })) (sym x.vrf)
              ∙ mixed_vpn scenario rules p.0 x.place first x.iface p.1 x.at sites,
        )

-- a site whose first VRF is known is attached somewhere in its VPN: all that is needed of it
is_the : (a b : SiteId) → a.0 ≡ b.0 → a ≡ b
is_the a b e = λ i. record { 0 = e i }

-- ---- lists

entered_in : (scenario : Scenario) (site : SiteId) (number k : ℕ) (vrfs : List Vrf) (vrf : Vrf) → slice_get vrfs k ≡ Some vrf
    → is_attached_at scenario (record { 0 = number + k }) site ≡ true → Among (record { 0 = number + k }) (entered_from scenario site number vrfs)
entered_in scenario site number k [] vrf e t = absurd (none-some vrf e)
entered_in scenario site number zero (own ∷ more) vrf e t =
    let plain : number + 0 ≡ number = omega arith in
    let is : is_attached_at scenario (record { 0 = number }) site ≡ true = (λ i. is_attached_at scenario (record { 0 = sym plain i }) site) ∙ t in
    subst (λ (b : Bool). Among (record { 0 = number + 0 })
    (cond b (record { 0 = number } ∷ entered_from scenario site (number + 1) more) (entered_from scenario site (number + 1) more))) (sym is)
    (inl (λ i. record { 0 = plain i }))
entered_in scenario site number (suc k) (own ∷ more) vrf e t =
    let next : number + 1 + k ≡ number + suc k = omega arith in
    let rest = entered_in scenario site (number + 1) k more vrf e ((λ i. is_attached_at scenario (record { 0 = next i }) site) ∙ t) in
    let later : Among (record { 0 = number + suc k }) (entered_from scenario site (number + 1) more) =
    subst (λ (m : ℕ). Among (record { 0 = m }) (entered_from scenario site (number + 1) more)) next rest in
    elim (is_attached_at scenario (record { 0 = number }) site) as
    (λ b. Among (record { 0 = number + suc k })
    (cond b (record { 0 = number } ∷ entered_from scenario site (number + 1) more) (entered_from scenario site (number + 1) more)))
    [ true ↦ inr later | false ↦ later ]

entered_above : (scenario : Scenario) (site : SiteId) (number : ℕ) (vrfs : List Vrf) (x : VrfId) → Among x (entered_from scenario site number vrfs)
    → number ≤ x.0
entered_above scenario site number [] x a = absurd a
entered_above scenario site number (own ∷ more) x a =
    by (is_attached_at scenario (record { 0 = number }) site) (λ b. entered_above scenario site (number + 1) more x b) a
  where
    by : (t : Bool) → (Among x (entered_from scenario site (number + 1) more) → number + 1 ≤ x.0)
        → Among x (cond t (record { 0 = number } ∷ entered_from scenario site (number + 1) more) (entered_from scenario site (number + 1) more))
        → number ≤ x.0
    by true rest (inl e) = (let same : x.0 ≡ number = ap (λ (v : VrfId). v.0) e in omega (arith, same))
    by true rest (inr b) = (let le = rest b in omega (arith, le))
    by false rest b = (let le = rest b in omega (arith, le))

pub count_none : (p : VrfId → Bool) (xs : List VrfId) → ((x : VrfId) → Among x xs → p x ≡ false) → (count_by p xs ≡ 0) × (list_any p xs ≡ false)
count_none p [] h = (refl, refl)
count_none p (x ∷ xs) h =
    let rest = count_none p xs (λ y a. h y (inr a)) in
    let own : p x ≡ false = h x (inl refl) in
    let bit : cond {A = ℕ} (p x) 1 0 ≡ 0 = ap (λ b. cond b 1 0) own in
    let none = rest.0 in
    (omega (arith, count-cons p x xs, bit, none), ap (λ b. b || list_any p xs) own ∙ rest.1)

-- where one at most passes, the count is whether one does
pub count_one : (scenario : Scenario) (site : SiteId) (p : VrfId → Bool) → ((x y : VrfId) → p x ≡ true → p y ≡ true → x.0 ≡ y.0)
    → (number : ℕ) (vrfs : List Vrf) → count_by p (entered_from scenario site number vrfs)
    ≡ cond (list_any p (entered_from scenario site number vrfs)) 1 0
count_one scenario site p one number [] = refl
count_one scenario site p one number (own ∷ more) =
    by (is_attached_at scenario (record { 0 = number }) site) (count_one scenario site p one (number + 1) more)
  where
    at : (t : Bool) → p (record { 0 = number }) ≡ t
        → count_by p (entered_from scenario site (number + 1) more) ≡ cond (list_any p (entered_from scenario site (number + 1) more)) 1 0
        → count_by p (record { 0 = number } ∷ entered_from scenario site (number + 1) more)
        ≡ cond (t || list_any p (entered_from scenario site (number + 1) more)) 1 0
    at true e h =
        let none =
        count_none p (entered_from scenario site (number + 1) more)
        (λ x a. false_from_ne_true (p x) (λ t. (let same = one (record { 0 = number }) x e t in let le =
        entered_above scenario site (number + 1) more x a in absurd (omega (arith, same, le))))) in
        let zero_rest = none.0 in
        let bit : cond {A = ℕ} (p (record { 0 = number })) 1 0 ≡ 1 = ap (λ b. cond b 1 0) e in
        omega (arith, count-cons p (record { 0 = number }) (entered_from scenario site (number + 1) more), bit, zero_rest)
    at false e h =
        let bit : cond {A = ℕ} (p (record { 0 = number })) 1 0 ≡ 0 = ap (λ b. cond b 1 0) e in
        omega (arith, count-cons p (record { 0 = number }) (entered_from scenario site (number + 1) more), bit, h)

    by : (b : Bool) → count_by p (entered_from scenario site (number + 1) more) ≡ cond (list_any p (entered_from scenario site (number + 1) more)) 1 0
        → count_by p (cond b (record { 0 = number } ∷ entered_from scenario site (number + 1) more) (entered_from scenario site (number + 1) more))
        ≡ cond (list_any p (cond b (record { 0 = number } ∷ entered_from scenario site (number + 1) more)
        (entered_from scenario site (number + 1) more))) 1 0
    by false h = h
    by true h = at (p (record { 0 = number })) refl h

-- ---- receivers

module _ (scenario : Scenario) (cores : Cores) (world : World) (k : Known scenario cores world) (datagram : Datagram) (iface : IfaceId) (past : Past)
    (of_past : past.scenario ≡ scenario_of world) (told : AsksAreTold past world × NotesAreTold past world) where
  abbrev sc : Scenario
  sc = scenario_of world

  abbrev w : EdgeNetwork
  w = net scenario cores world k

  module _ (here : Here sc iface) where
    abbrev own : OwnVrf
    own = record { id = here.found.vrf; vrf = here.vrf }

    abbrev n : NodeId
    n = here.vrf.edge

    abbrev asks : Bool
    asks = is_asking (place_of w n) w.clock (w.node n) own datagram.source datagram.group iface

    -- what makes an interface a receiver
    pub record Receives : Type 0 where
      pub u : VrfId
      pub of_site : vrf_of_site sc datagram.site ≡ Some u
      pub vpn : same_vpn sc u own.id ≡ true
      pub site : SiteId
      pub is_home : home sc own.id datagram.source ≡ Some site
      pub same_site : site.0 ≡ datagram.site.0
      pub outside : not (is_of_site datagram.site here.found) ≡ true
      pub asking : asks ≡ true

    pub asks_told : pasts.asks past iface datagram.source datagram.group ≡ asks
    asks_told =
        let kept : JoinEntry → Option Expiry = λ entry. kept_at_edge world n iface entry in
        told.0 iface n datagram.source datagram.group here.of_edge
        ∙ ap (λ (b : Bool). asks_by w.clock b (kept (join_entries.Source datagram.source datagram.group)) (kept (join_entries.Star datagram.group))
        (kept (join_entries.Rpt datagram.source datagram.group)))
        (active_at_told scenario cores world k past of_past told.1 iface here datagram.source datagram.group)

    outside_is : is_outside sc datagram.site iface ≡ not (is_of_site datagram.site here.found)
    outside_is = ap (λ (o : Option Iface). elim o as (λ _. Bool) [ None ↦ false | Some found ↦ not (is_of_site datagram.site found) ]) here.at

    -- ---- what is served receives

    attached_site : (id : VrfId) (site : SiteId) → site.0 ≡ datagram.site.0 → is_attached_at sc id site ≡ true
        → is_attached_at sc id datagram.site ≡ true
    attached_site id site e h = ap (is_attached_at sc id) (sym (is_the site datagram.site e)) ∙ h

    record AtHome (m : NodeId) (other : OwnVrf) (s : FromSite datagram.site
        (upstream_for (place_of w m) (w.node m) other datagram.source datagram.group)) : Type 0 where
      is_home : home sc other.id datagram.source ≡ Some s.own
      attached : is_attached_at sc other.id datagram.site ≡ true

    at_home : (m : NodeId) → is_edge sc m ≡ true → (other : OwnVrf) → Among other (own_vrfs (place_of w m))
        → (s : FromSite datagram.site (upstream_for (place_of w m) (w.node m) other datagram.source datagram.group)) → AtHome m other s
    at_home m h other a s = by (upstream_is scenario cores world k m h other a datagram.source datagram.group)
      where
        by : UpstreamIs scenario cores world k m other datagram.source (upstream_for (place_of w m) (w.node m) other datagram.source datagram.group)
            → AtHome m other s
        by (IsNone e none) = absurd (none-some (Site s.own) (sym e ∙ s.is))
        by (IsNear site e is att) =
            let both : Some (Site site) ≡ Some (Site s.own) = sym e ∙ s.is in
            let one : site ≡ s.own = cc in
            record {
              is_home = is ∙ ap (λ (x : SiteId). Some x) one;
              attached =
                  attached_site other.id s.own s.same (ap (is_attached_at sc other.id) (sym one) ∙ att);
            }
        by (IsFar site known from e is not_here) = absurd (clash (sym e ∙ s.is))
          where
            clash : ◌≡◌ {A = Option Upstream} (Some (Remote from.peer from.rd from.import from.source_as)) (Some (Site s.own)) → ⊥
            clash x = absurd cc

    pub served_receives : (id : VrfId) → ServedBy scenario cores world k datagram iface here id → Receives
    served_receives id (ByNear e s asks_here out) =
        let h = at_home n here.edge own (own_in scenario cores world k datagram iface here) s in
        let u = site_vrf sc k.rules own.id datagram.site h.attached in
        record {
          u = u.0;
          of_site = u.1;
          vpn = u.2;
          site = s.own;
          is_home = h.is_home;
          same_site = s.same;
          outside = sym outside_is ∙ out;
          asking =
              asks_here;
        }
    served_receives id (ByFar vrf known from apart vpn s asks_here) =
        let other : OwnVrf = record { id = id; vrf = vrf } in
        let other_in = own_among (place_of w vrf.edge) id vrf known refl in
        let h = at_home vrf.edge (vrf_edge sc k.rules id.0 vrf known) other other_in s in
        let ids : same_vpn sc id own.id ≡ true =
        vpn_ids scenario cores world k (place_of w vrf.edge) (place_of w n) other own refl refl other_in
        (own_in scenario cores world k datagram iface here) vpn in
        let homes : home sc own.id datagram.source ≡ Some s.own = sym (home_vpn sc id own.id datagram.source ids) ∙ h.is_home in
        let u = site_vrf sc k.rules id datagram.site h.attached in
        record {
          u = u.0;
          of_site = u.1;
          vpn = same_through (targets_of sc u.0) (targets_of sc id) (targets_of sc own.id) u.2 ids;
          site = s.own;
          is_home = homes;
          same_site = s.same;
          outside =
              not_true (is_of_site datagram.site here.found)
              (λ t. by (upstream_is scenario cores world k n here.edge own (own_in scenario cores world k datagram iface here) datagram.source
              datagram.group) homes t);
          asking = asks_here;
        }
      where
        not_true : (b : Bool) → (b ≡ true → ⊥) → not b ≡ true
        not_true true h = absurd (h refl)
        not_true false h = refl

        by : UpstreamIs scenario cores world k n own datagram.source (upstream_for (place_of w n) (w.node n) own datagram.source datagram.group)
            → home sc own.id datagram.source ≡ Some s.own → is_of_site datagram.site here.found ≡ true → ⊥
        by (IsNone e none) homes t = none-some (Remote vrf.edge from.rd from.import from.source_as) (sym e ∙ from.is)
        by (IsNear site e is att) homes t = clash (sym e ∙ from.is)
          where
            clash : ◌≡◌ {A = Option Upstream} (Some (Site site)) (Some (Remote vrf.edge from.rd from.import from.source_as)) → ⊥
            clash x = absurd cc
        by (IsFar site known peer e is not_here) homes t =
            let one : site ≡ s.own = same_Some site s.own (sym is ∙ homes) in
            let of_site : is_of_site site here.found ≡ true =
            ap (λ (x : SiteId). is_of_site x here.found) (one ∙ is_the s.own datagram.site s.same) ∙ t in
            let att : is_attached_at sc own.id site ≡ true =
            any_from (λ (f : Iface). is_of_site site f && is_of_vrf own.id f) here.found sc.ifaces (among_at sc.ifaces iface.0 here.found here.at)
            (and_from (is_of_site site here.found) (is_of_vrf own.id here.found) of_site (eq-eqb here.found.vrf.0 own.id.0 refl)) in
            true≢false (sym att ∙ not_here)

    -- ---- what receives is served

    served_is : (id : VrfId) (vrf : Vrf) → slice_get sc.vrfs id.0 ≡ Some vrf
        → is_served world.network datagram iface id ≡ serves_by world.network datagram iface (record { id = id; vrf = vrf }) (Some n)
    served_is id vrf known =
        ap (serves_from world.network datagram iface id) known
        ∙ ap (serves_by world.network datagram iface (record { id = id; vrf = vrf })) here.of_edge

    served_near : (site : SiteId) → site.0 ≡ datagram.site.0
        → upstream_for (place_of w n) (w.node n) own datagram.source datagram.group ≡ Some (Site site)
        → not (is_of_site datagram.site here.found) ≡ true → asks ≡ true → is_served world.network datagram iface own.id ≡ true
    served_near site e up out asking =
        served_is own.id here.vrf here.known
        ∙ ap (λ (b : Bool). cond b (serves_near world.network datagram iface own (world.network.state.node n))
        (elim (sends_on world.network datagram own (world.network.state.node n)) as (λ _. Bool)
        [ None ↦ false | Some fec ↦ serves_far world.network datagram iface fec n (world.network.state.node n) ])) (node_itself n n refl)
        ∙ near_is scenario cores world k datagram iface own here.edge
        ∙ and_from (is_from_site datagram.site (upstream_for (place_of w n) (w.node n) own datagram.source datagram.group))
        (asks_at (place_of w n) w.clock (w.node n) datagram.source datagram.group iface own && is_outside sc datagram.site iface)
        (ap (is_from_site datagram.site) up ∙ eq-eqb site.0 datagram.site.0 e)
        (and_from (asks_at (place_of w n) w.clock (w.node n) datagram.source datagram.group iface own) (is_outside sc datagram.site iface)
        (and_from (is_iface_of_vrf sc iface own.id) asks (own_iface scenario cores world k datagram iface here) asking) (outside_is ∙ out))

    -- the VRF of the edge that is chosen
    served_far : (site : SiteId) → site.0 ≡ datagram.site.0 → home sc own.id datagram.source ≡ Some site
        → (known : KnownRoute) (from : FromPeer scenario cores world k n own known site)
        → upstream_for (place_of w n) (w.node n) own datagram.source datagram.group ≡ Some (Remote from.peer from.rd from.import from.source_as)
        → asks ≡ true → is_served world.network datagram iface from.root.id ≡ true
    served_far site e is_home known from up asking =
        let mine : Among own (own_vrfs (place_of w n)) = own_in scenario cores world k datagram iface here in
        let f : NodeId = from.peer in
        let root : OwnVrf = from.root in
        let flow : VrfFlow = record { vrf = own.id; source = datagram.source; group = datagram.group } in
        let stands =
        asked_flow scenario cores world k n here.edge own mine datagram.source datagram.group iface
        (own_iface scenario cores world k datagram iface here) asking ∙ ap (λ (u : Option Upstream). Some u) up in
        let session = calm_session scenario cores world k f n from.edge here.edge from.two in
        let calm =
        calm_flow w f n own flow from.rd from.import from.source_as (rule scenario cores world k) (flows_stand scenario cores world k) session
        (none_due scenario cores world k f from.edge) mine refl stands in
        let one : calm.root_vrf ≡ root =
        one_rd (place_of w f) calm.root_vrf root k.rules calm.of_root from.of_root (sym calm.distinguisher ∙ from.named) in
        let fec : Fec = transmit_tunnel (place_of w f) (w.node f) root datagram.source datagram.group in
        let at_f : root.vrf.edge ≡ f = λ i. record { 0 = own_edge (place_of w f) root from.of_root i } in
        let ids : same_vpn sc root.id own.id ≡ true =
        vpn_ids scenario cores world k (place_of w f) (place_of w n) root own refl refl from.of_root mine from.vpn in
        let root_home : home sc root.id datagram.source ≡ Some site = home_vpn sc root.id own.id datagram.source ids ∙ is_home in
        let near : upstream_for (place_of w f) (w.node f) root datagram.source datagram.group ≡ Some (Site site) =
        to_site (upstream_is scenario cores world k f from.edge root from.of_root datagram.source datagram.group) root_home in
        let sends_from : is_from_site datagram.site (upstream_for (place_of w f) (w.node f) root datagram.source datagram.group) ≡ true =
        ap (is_from_site datagram.site) near ∙ eq-eqb site.0 datagram.site.0 e in
        let joined : is_joined_in (place_of w f) (w.node f) root datagram.source datagram.group ≡ true =
        ap (λ (o : OwnVrf). is_joined_in (place_of w f) (w.node f) o datagram.source datagram.group) (sym one) ∙ calm.is_joined in
        let sends : sends_on world.network datagram root (world.network.state.node root.vrf.edge) ≡ Some fec =
        sends_is scenario cores world k datagram iface root (ap (is_edge sc) at_f ∙ from.edge)
        ∙ ap (λ (m : NodeId). cond (is_from_site datagram.site (upstream_for (place_of w m) (w.node m) root datagram.source datagram.group)
        && is_joined_in (place_of w m) (w.node m) root datagram.source datagram.group)
        (Some (transmit_tunnel (place_of w m) (w.node m) root datagram.source datagram.group)) None) at_f
        ∙ ap (λ (b : Bool). cond b (Some fec) None)
        (and_from (is_from_site datagram.site (upstream_for (place_of w f) (w.node f) root datagram.source datagram.group))
        (is_joined_in (place_of w f) (w.node f) root datagram.source datagram.group) sends_from joined) in
        let leaf : sets.contains (part_of (world.network.state.node n)).leaves fec ≡ true =
        ap (λ s. sets.contains s fec) (leaves_are scenario cores world k datagram iface n here.edge)
        ∙ ap (λ (o : OwnVrf). sets.contains (leaves (place_of w n) (w.node n))
        (transmit_tunnel (place_of w f) (w.node f) o datagram.source datagram.group)) (sym one) ∙ calm.leaf in
        let want =
        wanted_from (place_of w n) (w.node n) own fec
        (imported scenario cores world k datagram iface here f from.edge from.two from.rd from.import from.source_as root from.of_root from.vpn
        stands) in
        let got = entry_get node_cmp_total (w.node n).peers want.peer want.table want.listed in
        let is_peer = peer_is scenario cores world k n here.edge want.peer (ap (λ (o : Option Taken). is_some o) got) in
        let peers : f ≡ want.peer = one_edge f want.peer from.edge is_peer.0 want.root in
        let chosen : is_from_edge want.peer (upstream_for (place_of w n) (w.node n) own datagram.source datagram.group) ≡ true =
        ap (is_from_edge want.peer) up ∙ node_itself f want.peer peers in
        let takes : takes_from (place_of w n) (w.node n) fec datagram.source datagram.group own ≡ true =
        any_from (λ (peer : NodeId × Taken). is_imported_from (place_of w n) own fec peer
        && is_from_edge peer.0 (upstream_for (place_of w n) (w.node n) own datagram.source datagram.group)) (want.peer, want.table)
        (maps.entries (w.node n).peers) want.listed
        (and_from (is_imported_from (place_of w n) own fec (want.peer, want.table))
        (is_from_edge want.peer (upstream_for (place_of w n) (w.node n) own datagram.source datagram.group)) want.imported chosen) in
        let far : serves_far world.network datagram iface fec n (world.network.state.node n) ≡ true =
        far_is scenario cores world k datagram iface fec n here.edge
        ∙ and_from (sets.contains (part_of (world.network.state.node n)).leaves fec)
        (list_any (λ own. asks_at (place_of w n) w.clock (w.node n) datagram.source datagram.group iface own
        && takes_from (place_of w n) (w.node n) fec datagram.source datagram.group own) (own_vrfs (place_of w n))) leaf
        (any_from (λ own. asks_at (place_of w n) w.clock (w.node n) datagram.source datagram.group iface own
        && takes_from (place_of w n) (w.node n) fec datagram.source datagram.group own) own (own_vrfs (place_of w n)) mine
        (and_from (asks_at (place_of w n) w.clock (w.node n) datagram.source datagram.group iface own)
        (takes_from (place_of w n) (w.node n) fec datagram.source datagram.group own)
        (and_from (is_iface_of_vrf sc iface own.id) asks (own_iface scenario cores world k datagram iface here) asking) takes)) in
        served_is root.id root.vrf (own_at (place_of w f) root from.of_root)
        ∙ ap (λ (b : Bool). cond b (serves_near world.network datagram iface root (world.network.state.node root.vrf.edge))
        (elim (sends_on world.network datagram root (world.network.state.node root.vrf.edge)) as (λ _. Bool)
        [ None ↦ false | Some fec ↦ serves_far world.network datagram iface fec n (world.network.state.node n) ]))
        (node_apart n root.vrf.edge (λ same. from.two (sym at_f ∙ sym same)))
        ∙ ap (λ (o : Option Fec). elim o as (λ _. Bool)
        [ None ↦ false | Some fec ↦ serves_far world.network datagram iface fec n (world.network.state.node n) ]) sends
        ∙ far
      where
        to_site : UpstreamIs scenario cores world k from.peer from.root datagram.source
            (upstream_for (place_of w from.peer) (w.node from.peer) from.root datagram.source datagram.group)
            → home sc from.root.id datagram.source ≡ Some site
            → upstream_for (place_of w from.peer) (w.node from.peer) from.root datagram.source datagram.group ≡ Some (Site site)
        to_site (IsNone u none) h = absurd (none-some site (sym none ∙ h))
        to_site (IsNear own_site u is att) h = u ∙ ap (λ (x : SiteId). Some (Site x)) (same_Some own_site site (sym is ∙ h))
        to_site (IsFar own_site other_known peer u is not_here) h =
            (let same : own_site ≡ site = same_Some own_site site (sym is ∙ h) in
            absurd (true≢false (sym from.attached ∙ ap (is_attached_at sc from.root.id) (sym same) ∙ not_here)))

        one_edge : (a b : NodeId) → is_edge sc a ≡ true → is_edge sc b ≡ true → addr_of sc a ≡ addr_of sc b → a ≡ b
        one_edge a b ea eb same_addrs =
            let x = edges.edge_of sc a ea in
            let y = edges.edge_of sc b eb in
            let number : a.0 ≡ b.0 =
            one_addr sc k.rules a b x.node y.node x.at y.at (sym (addr_at sc a x.node x.at) ∙ same_addrs ∙ addr_at sc b y.node y.at) in
            λ i. record { 0 = number i }

    pub receives_served : Receives → list_any (is_served world.network datagram iface) (entered sc datagram.site) ≡ true
    receives_served r =
        by (upstream_is scenario cores world k n here.edge own (own_in scenario cores world k datagram iface here) datagram.source datagram.group)
      where
        enters : (id : VrfId) (vrf : Vrf) → slice_get sc.vrfs id.0 ≡ Some vrf → is_attached_at sc id datagram.site ≡ true
            → Among id (entered sc datagram.site)
        enters id vrf known att =
            subst (λ (m : ℕ). Among (record { 0 = m }) (entered sc datagram.site)) (omega arith)
            (entered_in sc datagram.site 0 id.0 sc.vrfs vrf known
            (subst (λ (m : ℕ). is_attached_at sc (record { 0 = m }) datagram.site ≡ true) (omega arith) att))

        by : UpstreamIs scenario cores world k n own datagram.source (upstream_for (place_of w n) (w.node n) own datagram.source datagram.group)
            → list_any (is_served world.network datagram iface) (entered sc datagram.site) ≡ true
        by (IsNone e none) = absurd (none-some r.site (sym none ∙ r.is_home))
        by (IsNear site e is att) =
            let one : site ≡ r.site = same_Some site r.site (sym is ∙ r.is_home) in
            let same_site : site.0 ≡ datagram.site.0 = ap (λ (x : SiteId). x.0) one ∙ r.same_site in
            any_from (is_served world.network datagram iface) own.id (entered sc datagram.site)
            (enters own.id here.vrf here.known (attached_site own.id site same_site att)) (served_near site same_site e r.outside r.asking)
        by (IsFar site known from e is not_here) =
            let one : site ≡ r.site = same_Some site r.site (sym is ∙ r.is_home) in
            let same_site : site.0 ≡ datagram.site.0 = ap (λ (x : SiteId). x.0) one ∙ r.same_site in
            any_from (is_served world.network datagram iface) from.root.id (entered sc datagram.site)
            (enters from.root.id from.root.vrf (own_at (place_of w from.peer) from.root from.of_root)
            (attached_site from.root.id site same_site from.attached)) (served_far site same_site is known from e r.asking)
