-- Histories that are alike for a VPN have the same receivers, and datagrams leave at the same interfaces.
use Rattle.std.proofs.Common.{◌≡◌, ℕ, ◌+◌, ◌==◌, ◌&&◌, not, Bool, true, false, cond, List, [], slice_get, option_map, Option, Some, None, refl, sym, ap, ◌∙◌, arith}
use Rattle.std.specs.Prelude.{find}
use Rattle.std.specs.List.{list_any, fold}
use Rattle.std.proofs.lemmas.Bool.{and_parts, eqb-true}
use Rattle.mv_base.specs.declared.addr.Addr.{Addr}
use Rattle.mv_base.specs.declared.ids.IfaceId.{IfaceId}
use Rattle.mv_base.specs.declared.ids.SiteId.{SiteId}
use Rattle.mv_base.specs.declared.ids.VrfId.{VrfId}
use Rattle.pim_defs.specs.Asking.{asks_by}
use Rattle.scenario_defs.specs.Rules.{Rules}
use Rattle.scenario_defs.specs.Vpn.{targets_of, same_vpn, is_of_site, is_attached, vrf_of_site, ifaces_where}
use Rattle.scenario_defs.specs.declared.event.JoinEntry.{JoinEntry}
use Rattle.scenario_defs.specs.declared.event.JoinEntry.TheVariants as entries
use Rattle.scenario_defs.specs.declared.event.Timed.{Timed}
use Rattle.scenario_defs.specs.declared.scenario.Iface.{Iface}
use Rattle.scenario_defs.specs.declared.scenario.Scenario.{Scenario}
use Rattle.mvpn_model.specs.Once.{Once, past_at}
use Rattle.mvpn_model.specs.Past.{Past, standing, is_noted, is_active, is_active_at, asks, is_home, receives, receivers}
use Rattle.mvpn_model.specs.Report.{Datagram, outs_at}
use Rattle.mvpn_model.proofs.ListLemmas.{passes-from_any, passes-from_find}
use Rattle.mvpn_model.proofs.VpnLemmas.{vpn_of_site}
use Rattle.edge_words.proofs.calm_laws.Targets.{same_through}
use Rattle.customer_laws.specs.Concerns.{AreAlike, own_events}
use Rattle.customer_laws.specs.Reported.{Reported, LiesInWindow, AreCounterparts}
use Rattle.customer_laws.proofs.Idle.{Member, stands_by, notes_by, standing_own, noted_own}
use Rattle.customer_laws.proofs.Members.{any_alike, where_alike}

-- ---- two histories of one scenario

abbrev past : Scenario → List ℕ → List Timed → Past
past scenario refused events = record { scenario = scenario; events = events; refused = refused }

module _ (scenario : Scenario) (vrf : VrfId) (refused other_refused : List ℕ) (events other_events : List Timed)
    (alike : own_events vrf (past scenario refused events) ≡ own_events vrf (past scenario other_refused other_events)) where
  abbrev one : Past
  one = past scenario refused events

  abbrev other : Past
  other = past scenario other_refused other_events

  standing_alike : (iface : IfaceId) → Member scenario vrf iface → (entry : JoinEntry) → standing one iface entry ≡ standing other iface entry
  standing_alike iface member entry =
      standing_own scenario vrf iface member entry refused events
      ∙ ap (fold (stands_by scenario vrf iface member entry) (record { clock = 0; expiry = None })) alike
      ∙ sym (standing_own scenario vrf iface member entry other_refused other_events)

  noted_alike : (iface : IfaceId) → Member scenario vrf iface → (source group : Addr)
      → is_noted one iface source group ≡ is_noted other iface source group
  noted_alike iface member source group =
      noted_own scenario vrf iface member source group refused events
      ∙ ap (fold (notes_by scenario vrf iface member source group) false) alike
      ∙ sym (noted_own scenario vrf iface member source group other_refused other_events)

  -- an interface of the VPN of a VRF that is of the VPN is of it too
  through : (vpn : VrfId) → same_vpn scenario vrf vpn ≡ true → (offset : ℕ) (own : Iface) (id : IfaceId)
      → slice_get scenario.ifaces offset ≡ Some own →
      id.0 ≡ 0 + offset → same_vpn scenario vpn own.vrf ≡ true → Member scenario vrf id
  through vpn is offset own id at sum of = record {
    own = own;
    at = (let plain : id.0 ≡ offset = omega (arith, sum) in ap (slice_get scenario.ifaces) plain) ∙ at;
    vpn = same_through (targets_of scenario vrf) (targets_of scenario vpn) (targets_of scenario own.vrf) is of;
  }

  active_alike : (vpn : VrfId) → same_vpn scenario vrf vpn ≡ true → (source group : Addr)
      → is_active one vpn source group ≡ is_active other vpn source group
  active_alike vpn is source group =
      any_alike (λ (iface : IfaceId). is_noted one iface source group) (λ (iface : IfaceId). is_noted other iface source group)
      (λ number iface. same_vpn scenario vpn iface.vrf) 0 scenario.ifaces
      (λ offset own id at sum of. noted_alike id (through vpn is offset own id at sum of) source group)

  active_at_alike : (iface : IfaceId) → Member scenario vrf iface → (source group : Addr)
      → is_active_at one iface source group ≡ is_active_at other iface source group
  active_at_alike iface member source group =
      ap (λ (o : Option Iface). elim o [ None ↦ false | Some own ↦ is_active one own.vrf source group ]) member.at
      ∙ active_alike member.own.vrf member.vpn source group
      ∙ sym (ap (λ (o : Option Iface). elim o [ None ↦ false | Some own ↦ is_active other own.vrf source group ]) member.at)

  asks_alike : (iface : IfaceId) → Member scenario vrf iface → (source group : Addr) → asks one iface source group ≡ asks other iface source group
  asks_alike iface member source group =
      let joined = standing_alike iface member (entries.Source source group) in
      let shared = standing_alike iface member (entries.Star group) in
      let pruned = standing_alike iface member (entries.Rpt source group) in
      let active = active_at_alike iface member source group in
      (λ i. asks_by (joined i).clock (active i) (joined i).expiry (shared i).expiry (pruned i).expiry)

  receives_alike : (vpn : VrfId) → same_vpn scenario vrf vpn ≡ true
      → (site : SiteId) (source group : Addr) (offset : ℕ) (own : Iface) (id : IfaceId) →
      slice_get scenario.ifaces offset ≡ Some own → id.0 ≡ 0 + offset
      → receives one vpn site source group id own ≡ receives other vpn site source group id own
  receives_alike vpn is site source group offset own id at sum = by (same_vpn scenario vpn own.vrf) refl
    where
      by : (b : Bool) → same_vpn scenario vpn own.vrf ≡ b
          → (b && not (is_of_site site own) && asks one id source group) ≡ (b && not (is_of_site site own) && asks other id source group)
      by true of = ap (λ (b : Bool). not (is_of_site site own) && b) (asks_alike id (through vpn is offset own id at sum of) source group)
      by false of = refl

  -- the VPN of a site that is attached to it
  vpn_of : Rules scenario → (site : SiteId) → is_attached scenario vrf site ≡ true → (vpn : VrfId) → vrf_of_site scenario site ≡ Some vpn
      → same_vpn scenario vrf vpn ≡ true
  vpn_of rules site attached vpn e = by (find (is_of_site site) scenario.ifaces) refl e
    where
      by : (o : Option Iface) → find (is_of_site site) scenario.ifaces ≡ o → option_map (λ (iface : Iface). iface.vrf) o ≡ Some vpn
          → same_vpn scenario vrf vpn ≡ true
      by None is found = absurd (let bad : None ≡ Some vpn = found in cc)
      by (Some first) is found =
          let p = passes-from_find (is_of_site site) scenario.ifaces first is in
          let q = passes-from_any (λ (iface : Iface). is_of_site site iface && same_vpn scenario vrf iface.vrf) scenario.ifaces attached in
          let both = and_parts (is_of_site site q.value) (same_vpn scenario vrf q.value.vrf) q.passes in
          let sites : q.value.site.0 ≡ first.site.0 = eqb-true q.value.site.0 site.0 both.0 ∙ sym (eqb-true first.site.0 site.0 p.2) in
          let here : same_vpn scenario q.value.vrf first.vrf ≡ true = vpn_of_site scenario rules q.place p.0 q.value first q.at p.1 sites in
          let one_vrf : first.vrf ≡ vpn = cc in
          ap (same_vpn scenario vrf) (sym one_vrf) ∙ same_through (targets_of scenario vrf) (targets_of scenario q.value.vrf)
          (targets_of scenario first.vrf) both.1 here

  receivers_alike : Rules scenario → (site : SiteId) → is_attached scenario vrf site ≡ true → (source group : Addr) →
      receivers one site source group ≡ receivers other site source group
  receivers_alike rules site attached source group = by (vrf_of_site scenario site) refl
    where
      by : (o : Option VrfId) → vrf_of_site scenario site ≡ o →
          ◌≡◌ {A = List IfaceId}
          (elim o [
            | None ↦ []
            | Some vpn ↦ cond (is_home scenario vpn source site)
                (ifaces_where (receives one vpn site source group) 0 scenario.ifaces) []
          ])
          (elim o [
            | None ↦ []
            | Some vpn ↦ cond (is_home scenario vpn source site)
                (ifaces_where (receives other vpn site source group) 0 scenario.ifaces) []
          ])
      by None e = refl
      by (Some vpn) e =
          ap (λ (all : List IfaceId). cond (is_home scenario vpn source site) all [])
          (where_alike (receives one vpn site source group) (receives other vpn site source group) 0 scenario.ifaces
          (λ offset own id at sum. receives_alike vpn (vpn_of rules site attached vpn e) site source group offset own id at sum))

-- ---- the laws

pub same_receivers : (vrf : VrfId) (one other : Past) → Rules other.scenario → AreAlike vrf one other →
    (site : SiteId) → is_attached other.scenario vrf site ≡ true → (source group : Addr)
    → receivers one site source group ≡ receivers other site source group
same_receivers vrf one other rules alike site attached source group =
    ap (λ (s : Scenario). receivers (past s one.refused one.events) site source group) alike.scenario
    ∙ receivers_alike other.scenario vrf one.refused other.refused one.events other.events
    (sym (ap (λ (s : Scenario). own_events vrf (past s one.refused one.events)) alike.scenario) ∙ alike.events)
    rules site attached source group

pub same_interfaces : (scenario : Scenario) (one other : Reported) → Rules scenario → Once scenario one.events one.refused one.report →
    Once scenario other.events other.refused other.report → (vrf : VrfId) (place number : ℕ) (datagram counterpart : Datagram) →
    LiesInWindow one place datagram → LiesInWindow other number counterpart → is_attached scenario vrf counterpart.site ≡ true →
    AreCounterparts scenario vrf one other datagram counterpart → (iface : IfaceId) →
    outs_at one.report (place + 1) iface ≡ outs_at other.report (number + 1) iface
same_interfaces scenario one other rules once other_once vrf place number datagram counterpart lies other_lies attached are iface =
    once lies.first lies.last lies.window place datagram lies.accepted lies.thereafter lies.upto iface
    ∙ ap (λ (all : List IfaceId). cond (list_any (λ (receiver : IfaceId). receiver.0 == iface.0) all) 1 0) same
    ∙ sym (other_once other_lies.first other_lies.last other_lies.window number counterpart other_lies.accepted other_lies.thereafter other_lies.upto
    iface)
  where
    same : receivers (past_at scenario one.events one.refused datagram.event) datagram.site datagram.source datagram.group
        ≡ receivers (past_at scenario other.events other.refused counterpart.event) counterpart.site counterpart.source counterpart.group
    same =
        (λ i. receivers (past_at scenario one.events one.refused datagram.event) (are.site i) (are.source i) (are.group i))
        ∙ same_receivers vrf (past_at scenario one.events one.refused datagram.event) (past_at scenario other.events other.refused counterpart.event)
        rules are.before counterpart.site attached counterpart.source counterpart.group
