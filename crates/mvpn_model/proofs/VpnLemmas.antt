-- VPNs of a scenario that meets its rules: the interfaces of a site are in VRFs that admit each other. Where there is one
-- edge, they are in one VRF, at which the site's datagrams enter.
use Rattle.std.proofs.Common.{◌≡◌, ℕ, ◌+◌, ◌<◌, ◌≤◌, List, [], ◌∷◌, true, false, Bool, zero, suc, length, refl, sym, ap, inl, inr, ◌∙◌, arith}
use Rattle.std.specs.Prelude.{◌==◌, ◌&&◌, Option, None, Some, slice_get, find, option_map}
use Rattle.std.specs.List.{list_all, AllByRecursion}
use Rattle.std.specs.Option.{option_to_list}
use Rattle.std.specs.Cmp.{both_ways}
use Rattle.std.specs.Cmp.Lexicographic.{nat_list_eq_equiv}
use Rattle.std.proofs.lemmas.Bool.{cases_order, cases_lt, eqb-true, eq-eqb, and_parts, and_from, or_left, ne_eqb, cond_both, cond-true, cond-false, false≢true}
use Rattle.mv_base.specs.declared.ids.NodeId.{NodeId}
use Rattle.mv_base.specs.declared.ids.VrfId.{VrfId}
use Rattle.mv_base.specs.declared.ids.SiteId.{SiteId}
use Rattle.mv_base.specs.declared.addr.Addr.{Addr}
use Rattle.mv_base.specs.route_targets.Targets.{has, shares, same, same_target}
use Rattle.mv_base.specs.declared.route_targets.communities.Target.{Target}
use Rattle.scenario_defs.specs.declared.scenario.Vrf.{Vrf}
use Rattle.scenario_defs.specs.declared.scenario.Iface.{Iface}
use Rattle.scenario_defs.specs.declared.scenario.Scenario.{Scenario}
use Rattle.scenario_defs.specs.Rules.{Rules, IsEdge}
use Rattle.scenario_defs.specs.Vpn.{targets_of, admits, same_vpn, is_of_site, is_of_vrf, is_attached, is_attached_at, vrf_of_site, entered, entered_from}
use Rattle.scenario_defs.specs.Home.{routes_from, home, home_by, local_choice}
use Rattle.scenario_defs.proofs.RuleLemmas.{vrf_rules_at, apart_at, iface_rules_at, vpns_at}
use Rattle.mvpn_model.proofs.ListLemmas.{passes-from_any, passes-from_find, none-from_find, none-from_each, any-from_at, any-same, every-from_each, and_swap}

-- A set has the members of itself.
has-itself : (a : List Target) → list_all (has a) a ≡ true
has-itself a = every-from_each (has a) a (λ place value e. any-from_at (same_target value) a place value e (nat_list_eq_equiv.refl value.0.0))

-- A set is itself.
pub same-refl : (a : List Target) → same a a ≡ true
same-refl a = and_from (list_all (has a) a) (list_all (has a) a) (has-itself a) (has-itself a)

-- Sets are equal both ways.
pub same-sym : (a b : List Target) → same a b ≡ same b a
same-sym a b = and_swap (list_all (has b) a) (list_all (has a) b)

-- A set that is not empty shares a member with one that it is equal to.
pub shares-same : (a b : List Target) → 0 < length a → same a b ≡ true → shares a b ≡ true
shares-same [] b h s = absurd (omega (arith, h))
shares-same (target ∷ more) b h s =
    let all = and_parts (list_all (has b) (target ∷ more)) (list_all (has (target ∷ more)) b) s in
    let own = and_parts (has b target) (list_all (has b) more) all.0 in
    or_left (has b target) (shares more b) own.0

-- a VRF of that number
pub record VrfAt (scenario : Scenario) (number : ℕ) : Type 0 where
  pub vrf : Vrf
  pub at : slice_get scenario.vrfs number ≡ Some vrf

-- the element at a place within a list
pub element_at : {X : Type 0} (xs : List X) (i : ℕ) → i < length xs → (x : X) × (slice_get xs i ≡ Some x)
element_at [] i h = absurd (omega (arith, h))
element_at (x ∷ xs) zero h = (x, refl)
element_at (x ∷ xs) (suc i) h = element_at xs i (omega (arith, h))

-- Each number below the count of VRFs is one's.
pub vrf_at : (scenario : Scenario) (number : ℕ) → number < length scenario.vrfs → VrfAt scenario number
vrf_at scenario number h = let e = element_at scenario.vrfs number h in record { vrf = e.0; at = e.1 }

-- what the targets of a VRF are
targets-at : (scenario : Scenario) (vrf : VrfId) (found : Vrf) → slice_get scenario.vrfs vrf.0 ≡ Some found → targets_of scenario vrf ≡ found.targets
targets-at scenario vrf found e = rw (e, targets_of) refl

-- A VRF is of its own VPN.
pub vpn_of_one : (scenario : Scenario) (a b : VrfId) → a.0 ≡ b.0 → same_vpn scenario a b ≡ true
vpn_of_one scenario a b e = let same_id : a ≡ b = ap (λ n. record { 0 = n }) e in rw same_id (same-refl (targets_of scenario b))

-- VRFs of one VPN admit each other.
pub admits-vpn : (scenario : Scenario) → Rules scenario → (a b : VrfId) → a.0 < length scenario.vrfs → same_vpn scenario a b ≡ true
    → admits scenario a b ≡ true
admits-vpn scenario rules a b h s =
    let p = vrf_at scenario a.0 h in
    let some : 0 < length (targets_of scenario a) = rw (targets-at scenario a p.vrf p.at) (vrf_rules_at scenario rules a.0 p.vrf p.at).some in
    shares-same (targets_of scenario a) (targets_of scenario b) some s

-- Two interfaces of one site are in VRFs of one VPN.
pub vpn_of_site : (scenario : Scenario) → Rules scenario → (i j : ℕ) (iface other : Iface) → slice_get scenario.ifaces i ≡ Some iface →
    slice_get scenario.ifaces j ≡ Some other → iface.site.0 ≡ other.site.0 → same_vpn scenario iface.vrf other.vrf ≡ true
vpn_of_site scenario rules i j iface other d e s = elim (cases_order i j) [
  | inl equal ↦
      let both : Some iface ≡ Some other = sym d ∙ ap (λ k. slice_get scenario.ifaces k) equal ∙ e in
      let same_iface : iface ≡ other = cc in
      vpn_of_one scenario iface.vrf other.vrf (ap (λ (x : Iface). x.vrf.0) same_iface)
  | inr (inl below) ↦ (vpns_at scenario rules i j iface other below d e).mixed s
  | inr (inr above) ↦ same-sym (targets_of scenario iface.vrf) (targets_of scenario other.vrf)
      ∙ (vpns_at scenario rules j i other iface above e d).mixed (sym s)
]

-- ---- where a site's datagrams enter

-- an interface attaches the site at the VRF
pub record EntersAt (scenario : Scenario) (site : SiteId) (vrf : VrfId) : Type 0 where
  pub place : ℕ
  pub iface : Iface
  pub at : slice_get scenario.ifaces place ≡ Some iface
  pub of_site : iface.site.0 ≡ site.0
  pub in_vrf : iface.vrf.0 ≡ vrf.0

-- A site is attached at a VRF by an interface.
pub enters-at : (scenario : Scenario) (site : SiteId) (vrf : VrfId) → is_attached_at scenario vrf site ≡ true → EntersAt scenario site vrf
enters-at scenario site vrf t =
    let p = passes-from_any (λ iface. is_of_site site iface && is_of_vrf vrf iface) scenario.ifaces t in
    let both = and_parts (is_of_site site p.value) (is_of_vrf vrf p.value) p.passes in
    record {
      place = p.place;
      iface = p.value;
      at = p.at;
      of_site = eqb-true p.value.site.0 site.0 both.0;
      in_vrf =
          eqb-true p.value.vrf.0 vrf.0 both.1;
    }

-- The same, of the VRFs from one on.
entered_from-each : (scenario : Scenario) (site : SiteId) (number : ℕ) (vrfs : List Vrf)
    → AllByRecursion (EntersAt scenario site) (entered_from scenario site number vrfs)
entered_from-each scenario site number [] = tt
entered_from-each scenario site number (vrf ∷ more) =
    let here : VrfId = record { 0 = number } in
    let rest = entered_from-each scenario site (number + 1) more in
    cond_both (is_attached_at scenario here site) (here ∷ entered_from scenario site (number + 1) more) (entered_from scenario site (number + 1) more)
    (AllByRecursion (EntersAt scenario site))
    (λ t. (enters-at scenario site here t, rest))
    (λ f. rest)

-- A site is attached at each VRF at which its datagrams enter.
pub entered-each : (scenario : Scenario) (site : SiteId) → AllByRecursion (EntersAt scenario site) (entered scenario site)
entered-each scenario site = entered_from-each scenario site 0 scenario.vrfs

-- The VRF of an interface admits that of each interface of a site that is attached there.
pub admits-entered : (scenario : Scenario) → Rules scenario → (site : SiteId) (vrf : VrfId) → EntersAt scenario site vrf → (own : VrfId)
    → own.0 ≡ vrf.0 →
    (i : ℕ) (other : Iface) → slice_get scenario.ifaces i ≡ Some other → other.site.0 ≡ site.0 → admits scenario own other.vrf ≡ true
admits-entered scenario rules site vrf is own e i other d s =
    let same_id : own ≡ is.iface.vrf = ap (λ n. record { 0 = n }) (e ∙ sym is.in_vrf) in
    rw same_id (admits-vpn scenario rules is.iface.vrf other.vrf (iface_rules_at scenario rules is.place is.iface is.at).vrf
    (vpn_of_site scenario rules is.place i is.iface other is.at d (is.of_site ∙ sym s)))

-- ---- a scenario with at most one edge

-- Any two edges are one.
abbrev pub HasOneEdge : Scenario → Type 0
HasOneEdge scenario = (a b : NodeId) → IsEdge scenario a → IsEdge scenario b → a.0 ≡ b.0

-- Two VRFs with equal target sets are one.
one_by_targets : (scenario : Scenario) → Rules scenario → HasOneEdge scenario → (v w : ℕ) (vrf other : Vrf) → slice_get scenario.vrfs v ≡ Some vrf →
    slice_get scenario.vrfs w ≡ Some other → same vrf.targets other.targets ≡ true → v ≡ w
one_by_targets scenario rules one v w vrf other d e s =
    let edges : vrf.edge.0 ≡ other.edge.0 =
    one vrf.edge other.edge (vrf_rules_at scenario rules v vrf d).edge (vrf_rules_at scenario rules w other e).edge in
    elim (cases_order v w) [
      | inl equal ↦ equal
      | inr (inl below) ↦ absurd (false≢true (sym ((apart_at scenario rules v w vrf other below d e).vpn edges) ∙ s))
      | inr (inr above) ↦ absurd (false≢true (sym ((apart_at scenario rules w v other vrf above e d).vpn (sym edges))
          ∙ same-sym other.targets vrf.targets ∙ s))
    ]

-- Two VRFs of one VPN are one.
pub one_by_vpn : (scenario : Scenario) → Rules scenario → HasOneEdge scenario → (a b : VrfId) → a.0 < length scenario.vrfs
    → b.0 < length scenario.vrfs →
    same_vpn scenario a b ≡ true → a.0 ≡ b.0
one_by_vpn scenario rules one a b h k s =
    let p = vrf_at scenario a.0 h in
    let q = vrf_at scenario b.0 k in
    let t : same p.vrf.targets q.vrf.targets ≡ true = rw (sym (targets-at scenario a p.vrf p.at), sym (targets-at scenario b q.vrf q.at)) s in
    one_by_targets scenario rules one a.0 b.0 p.vrf q.vrf p.at q.at t

-- The VRF of a site: the site has an interface, and all its interfaces are in this VRF.
pub record IsVrfOfSite (scenario : Scenario) (site : SiteId) (vrf : VrfId) : Type 0 where
  pub known : vrf.0 < length scenario.vrfs
  pub enters : EntersAt scenario site vrf
  pub one : (i : ℕ) (iface : Iface) → slice_get scenario.ifaces i ≡ Some iface → is_of_site site iface ≡ true → iface.vrf.0 ≡ vrf.0

-- The VRF of a site's first interface is the site's.
vrf_of_first : (scenario : Scenario) → Rules scenario → HasOneEdge scenario → (site : SiteId) (first : Iface)
    → find (is_of_site site) scenario.ifaces ≡ Some first →
    IsVrfOfSite scenario site first.vrf
vrf_of_first scenario rules one site first e =
    let p = passes-from_find (is_of_site site) scenario.ifaces first e in
    let of_site : first.site.0 ≡ site.0 = eqb-true first.site.0 site.0 p.2 in
    let known : first.vrf.0 < length scenario.vrfs = (iface_rules_at scenario rules p.0 first p.1).vrf in
    record {
      known = known;
      enters = record { place = p.0; iface = first; at = p.1; of_site = of_site; in_vrf = refl };
      one = λ i iface d s.
          one_by_vpn scenario rules one iface.vrf first.vrf (iface_rules_at scenario rules i iface d).vrf known
          (vpn_of_site scenario rules i p.0 iface first d p.1 (eqb-true iface.site.0 site.0 s ∙ sym of_site));
    }

-- The same, from the VRF that is found.
pub vrf_of_site-is : (scenario : Scenario) → Rules scenario → HasOneEdge scenario → (site : SiteId) (vrf : VrfId)
    → vrf_of_site scenario site ≡ Some vrf → IsVrfOfSite scenario site vrf
vrf_of_site-is scenario rules one site vrf e = found (find (is_of_site site) scenario.ifaces) refl e
  where
    found : (o : Option Iface) → find (is_of_site site) scenario.ifaces ≡ o → option_map (λ iface. iface.vrf) o ≡ Some vrf
        → IsVrfOfSite scenario site vrf
    found None d h = absurd cc
    found (Some first) d h = let same_vrf : first.vrf ≡ vrf = cc in rw (sym same_vrf) (vrf_of_first scenario rules one site first d)

-- whether the site has an interface in the VRF of that number
abbrev enters_number : Scenario → SiteId → ℕ → Bool
enters_number scenario site number = is_attached_at scenario (record { 0 = number }) site

-- A site has an interface in its own VRF alone.
enters_in_one : (scenario : Scenario) (site : SiteId) (vrf : VrfId) → IsVrfOfSite scenario site vrf → (number : ℕ)
    → enters_number scenario site number ≡ (vrf.0 == number)
enters_in_one scenario site vrf is number = both_ways (enters_number scenario site number) (vrf.0 == number)
    (λ t.
    let p = enters-at scenario site (record { 0 = number }) t in
    eq-eqb vrf.0 number (sym (is.one p.place p.iface p.at (eq-eqb p.iface.site.0 site.0 p.of_site)) ∙ p.in_vrf))
    (λ t. any-from_at (λ iface. is_of_site site iface && is_of_vrf (record { 0 = number }) iface) scenario.ifaces is.enters.place is.enters.iface
    is.enters.at
    (and_from (is_of_site site is.enters.iface) (is.enters.iface.vrf.0 == number) (eq-eqb is.enters.iface.site.0 site.0 is.enters.of_site)
    (eq-eqb is.enters.iface.vrf.0 number (is.enters.in_vrf ∙ eqb-true vrf.0 number t))))

-- A datagram enters at none of VRFs in which the site has no interface.
entered_from-none : (scenario : Scenario) (site : SiteId) (number : ℕ) (vrfs : List Vrf) →
    ((n : ℕ) → number ≤ n → enters_number scenario site n ≡ false) → entered_from scenario site number vrfs ≡ []
entered_from-none scenario site number [] h = refl
entered_from-none scenario site number (vrf ∷ more) h =
    cond-false (enters_number scenario site number) (record { 0 = number } ∷ entered_from scenario site (number + 1) more)
    (entered_from scenario site (number + 1) more) (h number (omega arith))
    ∙ entered_from-none scenario site (number + 1) more (λ n le. h n (omega (arith, le)))

-- A datagram enters at the one VRF in which the site has an interface.
entered_from-one : (scenario : Scenario) (site : SiteId) (vrf : VrfId) → ((n : ℕ) → enters_number scenario site n ≡ (vrf.0 == n)) →
    (number : ℕ) (vrfs : List Vrf) → number ≤ vrf.0 → vrf.0 < number + length vrfs → entered_from scenario site number vrfs ≡ vrf ∷ []
entered_from-one scenario site vrf h number [] low high = absurd (omega (arith, low, high))
entered_from-one scenario site vrf h number (first ∷ more) low high = elim (cases_lt number vrf.0) [
  | inl below ↦
      cond-false (enters_number scenario site number) (record { 0 = number } ∷ entered_from scenario site (number + 1) more)
      (entered_from scenario site (number + 1) more) (h number ∙ ne_eqb vrf.0 number (λ e. omega (arith, e, below)))
      ∙ entered_from-one scenario site vrf h (number + 1) more (omega (arith, below)) (omega (arith, high))
  | inr from ↦
      let same_number : vrf.0 ≡ number = omega (arith, from, low) in
      let this : record { 0 = number } ≡ vrf = ap (λ n. record { 0 = n }) (sym same_number) in
      let none : entered_from scenario site (number + 1) more ≡ [] =
      entered_from-none scenario site (number + 1) more (λ n le. h n ∙ ne_eqb vrf.0 n (λ e. omega (arith, e, le, same_number))) in
      cond-true (enters_number scenario site number) (record { 0 = number } ∷ entered_from scenario site (number + 1) more)
      (entered_from scenario site (number + 1) more) (h number ∙ eq-eqb vrf.0 number same_number)
      ∙ cc
]

-- A site's datagrams enter at the VRF of its first interface alone.
pub entered-one : (scenario : Scenario) → Rules scenario → HasOneEdge scenario → (site : SiteId)
    → entered scenario site ≡ option_to_list (vrf_of_site scenario site)
entered-one scenario rules one site = found (find (is_of_site site) scenario.ifaces) refl
  where
    found : (o : Option Iface) → find (is_of_site site) scenario.ifaces ≡ o
        → entered scenario site ≡ option_to_list (option_map (λ iface. iface.vrf) o)
    found None d =
        entered_from-none scenario site 0 scenario.vrfs
        (λ n le. none-from_each (λ iface. is_of_site site iface && is_of_vrf (record { 0 = n }) iface) scenario.ifaces (λ place value e t.
        false≢true (sym (none-from_find (is_of_site site) scenario.ifaces d)
        ∙ any-from_at (is_of_site site) scenario.ifaces place value e
        (and_parts (is_of_site site value) (is_of_vrf (record { 0 = n }) value) t).0)))
    found (Some first) d =
        let is = vrf_of_first scenario rules one site first d in
        entered_from-one scenario site first.vrf (enters_in_one scenario site first.vrf is) 0 scenario.vrfs (omega arith) (omega (arith, is.known))

-- An interface is in a VRF where it is of the VRF's VPN.
pub vrf_is_vpn : (scenario : Scenario) → Rules scenario → HasOneEdge scenario → (vrf : VrfId) → vrf.0 < length scenario.vrfs
    → (i : ℕ) (iface : Iface) →
    slice_get scenario.ifaces i ≡ Some iface → is_of_vrf vrf iface ≡ same_vpn scenario vrf iface.vrf
vrf_is_vpn scenario rules one vrf known i iface e = both_ways (is_of_vrf vrf iface) (same_vpn scenario vrf iface.vrf)
    (λ t. vpn_of_one scenario vrf iface.vrf (sym (eqb-true iface.vrf.0 vrf.0 t)))
    (λ t. eq-eqb iface.vrf.0 vrf.0 (sym (one_by_vpn scenario rules one vrf iface.vrf known (iface_rules_at scenario rules i iface e).vrf t)))

-- A site is attached at a VRF where it is attached to the VRF's VPN.
pub attached_at-vpn : (scenario : Scenario) → Rules scenario → HasOneEdge scenario → (vrf : VrfId) → vrf.0 < length scenario.vrfs → (site : SiteId) →
    is_attached_at scenario vrf site ≡ is_attached scenario vrf site
attached_at-vpn scenario rules one vrf known site =
    any-same (λ iface. is_of_site site iface && is_of_vrf vrf iface) (λ iface. is_of_site site iface && same_vpn scenario vrf iface.vrf)
    scenario.ifaces
    (λ i iface e. ap (λ b. is_of_site site iface && b) (vrf_is_vpn scenario rules one vrf known i iface e))

-- The local choice of a VRF is the home of the source in its VPN.
pub local_choice-home : (scenario : Scenario) → Rules scenario → HasOneEdge scenario → (vrf : VrfId) → vrf.0 < length scenario.vrfs
    → (source : Addr) →
    local_choice scenario vrf source ≡ home scenario vrf source
local_choice-home scenario rules one vrf known source =
    let same_sites : is_attached_at scenario vrf ≡ is_attached scenario vrf = λ k site. attached_at-vpn scenario rules one vrf known site k in
    ap (λ passes. home_by (routes_from passes 0 scenario.sites) source) same_sites
