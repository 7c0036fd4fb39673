-- Who receives a flow by what is kept is who receives it by the events so far.
use Rattle.std.specs.Prelude.{◌&&◌, find, filter, option_map}
use Rattle.std.proofs.Common.{◌≡◌, ℕ, zero, suc, ◌+◌, ◌<◌, Bool, true, false, not, cond, length, List, [], ◌∷◌, slice_get, Option, None, Some, refl, sym, ap, subst, ◌∙◌, arith}
use Rattle.std.specs.Cmp.{both_ways}
use Rattle.std.specs.Cmp.Lexicographic.{bytes_decides}
use Rattle.std.specs.List.{list_any, list_all}
use Rattle.std.proofs.lemmas.Option.{none-some}
use Rattle.audit_defs.specs.mv_base.declared.ids.IfaceId.{IfaceId}
use Rattle.audit_defs.specs.mv_base.declared.ids.SiteId.{SiteId}
use Rattle.audit_defs.specs.mv_base.declared.ids.VrfId.{VrfId}
use Rattle.audit_defs.specs.mv_base.declared.route_targets.communities.Target.{Target}
use Rattle.audit_defs.specs.mv_base.route_targets.Targets.{same_target, has, same}
use Rattle.audit_defs.specs.scenario_defs.declared.scenario.Iface.{Iface}
use Rattle.audit_defs.specs.scenario_defs.declared.scenario.Scenario.{Scenario}
use Rattle.audit_defs.specs.scenario_defs.declared.scenario.Vrf.{Vrf}
use Rattle.audit_defs.specs.scenario_defs.Rules.{Rules}
use Rattle.audit_defs.specs.scenario_defs.Vpn.{targets_of, same_vpn, is_of_site, vrf_of_site, ifaces_where}
use Rattle.audit_defs.proofs.scenario_defs.RuleLemmas.{iface_rules_at}
use Rattle.audit_defs.specs.mvpn_model.Past.{Past, is_noted, is_active, is_active_at, asks, is_home, receives, receivers}
use Rattle.audit_defs.proofs.mvpn_model.ListLemmas.{passes-from_find}
use Rattle.audit_defs.proofs.Lists.{and_both, any_got, all_got, got_all, some_same}
use Rattle.audit_events.specs.declared.receivers.Flow.{Flow}
use Rattle.audit_events.specs.declared.vpns.Vpn.{Vpn}
use Rattle.audit_events.specs.Joined.{Kept, Follows}
use Rattle.audit_events.specs.Receivers.{is_active_now, asks_now, receives_now, receivers_in, receivers_now}
use Rattle.audit_events.specs.Vpns.{members, vpn_of, vpns_from, vpns_of}
use Rattle.audit_events.proofs.AskLemmas.{asks_same}

-- ---- VRFs of one VPN

one_target : (a b : Target) → a.0.0 ≡ b.0.0 → a ≡ b
one_target a b e = λ i. record { 0 = record { 0 = e i } }

has_within : (a b : List Target) → list_all (has b) a ≡ true → (target : Target) → has a target ≡ true → has b target ≡ true
has_within a b all target h =
    let r = any_got (same_target target) a h in
    ap (has b) (one_target target r.1 ((bytes_decides target.0.0 r.1.0.0).0 r.3)) ∙ all_got (has b) a r.0 r.1 all r.2

all_within : (a b c : List Target) → list_all (has a) b ≡ true → list_all (has c) a ≡ true → list_all (has c) b ≡ true
all_within a b c within all = got_all (has c) b (λ place target at. has_within a c all target (all_got (has a) b place target within at))

vpn_alike : (a b c : List Target) → same a b ≡ true → same a c ≡ same b c
vpn_alike a b c h =
    let both = and_both (list_all (has b) a) (list_all (has a) b) h in
    (λ i.
    both_ways (list_all (has c) a) (list_all (has c) b) (all_within a b c both.1) (all_within b a c both.0) i
    && list_all (λ (target : Target). both_ways (has a target) (has b target) (has_within a b both.0 target) (has_within b a both.1 target) i) c)

-- ---- interfaces that pass two tests

filter_where : (first : IfaceId → Iface → Bool) (second : IfaceId → Bool) (both : IfaceId → Iface → Bool) (number : ℕ) (all : List Iface) →
    ((offset : ℕ) (iface : Iface) (id : IfaceId) → slice_get all offset ≡ Some iface → id.0 ≡ number + offset
    → (first id iface && second id) ≡ both id iface) →
    filter second (ifaces_where first number all) ≡ ifaces_where both number all
filter_where first second both number [] each = refl
filter_where first second both number (iface ∷ more) each =
    by (filter_where first second both (number + 1) more (λ offset own id at sum. each (suc offset) own id at (omega (arith, sum))))
    (first (record { 0 = number }) iface) (each zero iface (record { 0 = number }) refl (omega arith))
  where
    kept : filter second (ifaces_where first (number + 1) more) ≡ ifaces_where both (number + 1) more → (b : Bool)
        → second (record { 0 = number }) ≡ b → b ≡ both (record { 0 = number }) iface →
        filter second (record { 0 = number } ∷ ifaces_where first (number + 1) more)
        ≡ (cond (both (record { 0 = number }) iface) (record { 0 = number } ∷ ifaces_where both (number + 1) more)
        (ifaces_where both (number + 1) more))
    kept rest b is same =
        ap (λ (c : Bool). cond c (record { 0 = number } ∷ filter second (ifaces_where first (number + 1) more))
        (filter second (ifaces_where first (number + 1) more))) (is ∙ same)
        ∙ ap (λ (l : List IfaceId). cond (both (record { 0 = number }) iface) (record { 0 = number } ∷ l) l) rest

    by : filter second (ifaces_where first (number + 1) more) ≡ ifaces_where both (number + 1) more → (f : Bool)
        → (f && second (record { 0 = number })) ≡ both (record { 0 = number }) iface →
        filter second (cond f (record { 0 = number } ∷ ifaces_where first (number + 1) more) (ifaces_where first (number + 1) more))
        ≡ (cond (both (record { 0 = number }) iface) (record { 0 = number } ∷ ifaces_where both (number + 1) more)
        (ifaces_where both (number + 1) more))
    by rest true same = kept rest (second (record { 0 = number })) refl same
    by rest false same =
        rest ∙ ap (λ (c : Bool). cond c (record { 0 = number } ∷ ifaces_where both (number + 1) more) (ifaces_where both (number + 1) more)) same

-- ---- the table of VPNs

vpns_at : (scenario : Scenario) (number : ℕ) (all : List Vrf) (place : ℕ) → place < length all
    → slice_get (vpns_from scenario number all) place ≡ Some (vpn_of scenario (record { 0 = number + place }))
vpns_at scenario number [] place less = absurd (omega (arith, less))
vpns_at scenario number (vrf ∷ more) zero less =
    ap (λ n. Some (vpn_of scenario (record { 0 = n }))) (let same : number ≡ number + 0 = omega arith in same)
vpns_at scenario number (vrf ∷ more) (suc place) less =
    vpns_at scenario (number + 1) more place (omega (arith, less))
    ∙ ap (λ n. Some (vpn_of scenario (record { 0 = n }))) (let same : number + 1 + place ≡ number + suc place = omega arith in same)

-- The VPN of the VRF of a site is in the table.
vpn_there : (scenario : Scenario) → Rules scenario → (site : SiteId) (vrf : VrfId) → vrf_of_site scenario site ≡ Some vrf
    → slice_get (vpns_of scenario) vrf.0 ≡ Some (vpn_of scenario vrf)
vpn_there scenario rules site vrf e = by (find (is_of_site site) scenario.ifaces) refl e
  where
    by : (o : Option Iface) → find (is_of_site site) scenario.ifaces ≡ o → option_map (λ (iface : Iface). iface.vrf) o ≡ Some vrf
        → slice_get (vpns_of scenario) vrf.0 ≡ Some (vpn_of scenario vrf)
    by None is same = absurd (none-some vrf same)
    by (Some iface) is same =
        let p = passes-from_find (is_of_site site) scenario.ifaces iface is in
        let own : iface.vrf ≡ vrf = some_same iface.vrf vrf same in
        let less : vrf.0 < length scenario.vrfs =
        subst (λ (v : VrfId). v.0 < length scenario.vrfs) own (iface_rules_at scenario rules p.0 iface p.1).vrf in
        vpns_at scenario 0 scenario.vrfs vrf.0 less
        ∙ ap (λ (n : ℕ). Some (vpn_of scenario (record { 0 = n }))) (let plain : 0 + vrf.0 ≡ vrf.0 = omega arith in plain)

-- ---- receivers

module _ (past : Past) (kept : Kept) (follows : Follows past kept) where
  active_now : (vrf : VrfId) (flow : Flow) → is_active_now past.scenario kept (members past.scenario vrf) flow
      ≡ is_active past vrf flow.source flow.group
  active_now vrf flow = (λ i. list_any (λ (iface : IfaceId). follows.noted iface flow.source flow.group i) (members past.scenario vrf))

  active_there : (vrf : VrfId) (flow : Flow) (own : Iface) (id : IfaceId) → slice_get past.scenario.ifaces id.0 ≡ Some own
      → same_vpn past.scenario vrf own.vrf ≡ true →
      is_active_now past.scenario kept (members past.scenario vrf) flow ≡ is_active_at past id flow.source flow.group
  active_there vrf flow own id at is =
      active_now vrf flow
      ∙ ((λ i. list_any (λ (iface : IfaceId). is_noted past iface flow.source flow.group)
      (ifaces_where (λ number iface. vpn_alike (targets_of past.scenario vrf) (targets_of past.scenario own.vrf) (targets_of past.scenario iface.vrf)
      is i) 0 past.scenario.ifaces))
      ∙ ap (λ (o : Option Iface). elim o [ None ↦ false | Some found ↦ is_active past found.vrf flow.source flow.group ]) (sym at))

  asked_there : (vrf : VrfId) (flow : Flow) (own : Iface) (id : IfaceId) → slice_get past.scenario.ifaces id.0 ≡ Some own
      → same_vpn past.scenario vrf own.vrf ≡ true →
      asks_now past.scenario kept flow (is_active_now past.scenario kept (members past.scenario vrf) flow) id ≡ asks past id flow.source flow.group
  asked_there vrf flow own id at is =
      asks_same past kept follows id flow.source flow.group (is_active_now past.scenario kept (members past.scenario vrf) flow)
      (active_there vrf flow own id at is)

  received_there : (vrf : VrfId) (flow : Flow) (offset : ℕ) (own : Iface) (id : IfaceId) → slice_get past.scenario.ifaces offset ≡ Some own
      → id.0 ≡ 0 + offset →
      (same_vpn past.scenario vrf own.vrf && receives_now past.scenario kept flow (is_active_now past.scenario kept (members past.scenario vrf) flow)
      id)
      ≡ receives past vrf flow.site flow.source flow.group id own
  received_there vrf flow offset own id at sum = by (same_vpn past.scenario vrf own.vrf) refl
    where
      here : slice_get past.scenario.ifaces id.0 ≡ Some own
      here = (let same : id.0 ≡ offset = omega (arith, sum) in ap (slice_get past.scenario.ifaces) same) ∙ at

      by : (b : Bool) → same_vpn past.scenario vrf own.vrf ≡ b →
          (b && receives_now past.scenario kept flow (is_active_now past.scenario kept (members past.scenario vrf) flow) id)
          ≡ (b && not (is_of_site flow.site own) && asks past id flow.source flow.group)
      by false is = refl
      by true is =
          ap (λ (o : Option Iface). elim o [
            | None ↦ false
            | Some found ↦ not (is_of_site flow.site found)
                && asks_now past.scenario kept flow (is_active_now past.scenario kept (members past.scenario vrf) flow) id
          ]) here
          ∙ ap (λ b. not (is_of_site flow.site own) && b) (asked_there vrf flow own id here is)

  -- The receivers of the flow, as the events so far have them.
  pub receivers_same : Rules past.scenario → (vpns : List Vpn) → vpns ≡ vpns_of past.scenario → (flow : Flow)
      → receivers_now past.scenario kept vpns flow ≡ receivers past flow.site flow.source flow.group
  receivers_same rules vpns table flow = by (vrf_of_site past.scenario flow.site) refl
    where
      all_of : (vrf : VrfId) → filter (receives_now past.scenario kept flow (is_active_now past.scenario kept (members past.scenario vrf) flow))
          (members past.scenario vrf)
          ≡ ifaces_where (receives past vrf flow.site flow.source flow.group) 0 past.scenario.ifaces
      all_of vrf =
          filter_where (λ number iface. same_vpn past.scenario vrf iface.vrf)
          (receives_now past.scenario kept flow (is_active_now past.scenario kept (members past.scenario vrf) flow))
          (receives past vrf flow.site flow.source flow.group) 0 past.scenario.ifaces
          (λ offset own id at sum. received_there vrf flow offset own id at sum)

      by : (o : Option VrfId) → vrf_of_site past.scenario flow.site ≡ o →
          ◌≡◌ {A = List IfaceId} (elim o [
            | None ↦ []
            | Some vrf ↦
                elim (slice_get vpns vrf.0) [ None ↦ [] | Some vpn ↦ receivers_in past.scenario kept vpn flow ]
          ])
          (elim o [
            | None ↦ []
            | Some vrf ↦ cond (is_home past.scenario vrf flow.source flow.site)
                (ifaces_where (receives past vrf flow.site flow.source flow.group) 0 past.scenario.ifaces) []
          ])
      by None e = refl
      by (Some vrf) e =
          ap (λ (o : Option Vpn). elim o [ None ↦ [] | Some vpn ↦ receivers_in past.scenario kept vpn flow ])
          (ap (λ (l : List Vpn). slice_get l vrf.0) table ∙ vpn_there past.scenario rules flow.site vrf e)
          ∙ ap (λ (l : List IfaceId). cond (is_home past.scenario vrf flow.source flow.site) l []) (all_of vrf)
