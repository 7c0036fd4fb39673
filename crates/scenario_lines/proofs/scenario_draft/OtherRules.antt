-- The rules of what a line leaves as it is.
use Rattle.std.proofs.Common.{◌≡◌, ℕ, ◌<◌, ◌≤◌, List, length, refl, sym, ap, ◌∙◌, arith, slice_get, Some}
use Rattle.std.proofs.lemmas.List.Elements.{All-weaker}
use Rattle.mv_base.specs.declared.ids.VrfId.{VrfId}
use Rattle.mv_base.specs.declared.ids.SiteId.{SiteId}
use Rattle.mv_base.specs.declared.prefix.Prefix.{Prefix}
use Rattle.mv_base.specs.declared.route_targets.communities.Target.{Target}
use Rattle.mv_base.specs.route_targets.Targets.{same}
use Rattle.scenario_defs.specs.declared.scenario.Node.{Node}
use Rattle.scenario_defs.specs.declared.scenario.Vrf.{Vrf}
use Rattle.scenario_defs.specs.declared.scenario.Iface.{Iface}
use Rattle.scenario_defs.specs.declared.scenario.Scenario.{Scenario}
use Rattle.scenario_defs.specs.Prefixes.{prefixes_of, share_prefix}
use Rattle.scenario_defs.specs.Vpn.{targets_of, same_vpn}
use Rattle.scenario_defs.specs.Rules.{SettingRules, CoreRules, VrfRules, SiteRules, IfaceRules, IsEdge, IsVrf, IsIface, AreOfVpns}
use Rattle.scenario_lines.proofs.scenario_draft.OneMore.{pairs_with}

pub settings_else : (s t : Scenario) → SettingRules s
    → SettingRules (record t { life = s.life; delay = s.delay; labels = s.labels; system = s.system })
settings_else s t r = record { life = r.life; delay = r.delay; labels = r.labels; system = r.system }

pub core_else : (s t : Scenario) → CoreRules s → CoreRules (record t { nodes = s.nodes; links = s.links })
core_else s t r = record { topology = r.topology; few_edges = r.few_edges; ipv4 = r.ipv4; unicast = r.unicast; addresses = r.addresses }

-- A VRF stays one where its edge does.
pub vrf_still : (s t : Scenario) → ((k : ℕ) (node : Node) → slice_get s.nodes k ≡ Some node → slice_get t.nodes k ≡ Some node) → (vrf : Vrf)
    → IsVrf s vrf → IsVrf t vrf
vrf_still s t still vrf r =
    let edge : IsEdge t vrf.edge = record { node = r.edge.node; at = still vrf.edge.0 r.edge.node r.edge.at; edge = r.edge.edge } in
    record { edge = edge; number = r.number; rd = r.rd; some = r.some; few = r.few; each = r.each; distinct = r.distinct }

pub vrfs_still : (s t : Scenario) → ((k : ℕ) (node : Node) → slice_get s.nodes k ≡ Some node → slice_get t.nodes k ≡ Some node) → VrfRules s
    → VrfRules (record t { vrfs = s.vrfs })
vrfs_still s t still r =
    record { few = r.few; each = All-weaker _ _ (λ vrf h. vrf_still s (record t { vrfs = s.vrfs }) still vrf h) s.vrfs r.each; apart = r.apart }

pub vrfs_else : (s t : Scenario) → VrfRules s → VrfRules (record t { nodes = s.nodes; vrfs = s.vrfs })
vrfs_else s t r = vrfs_still s (record t { nodes = s.nodes }) (λ k node h. h) r

pub sites_else : (s t : Scenario) → SiteRules s → SiteRules (record t { sites = s.sites })
sites_else s t r = record { few = r.few; each = r.each }

-- The VRFs and sites that there are have the targets and prefixes that they had.
pub record AreKnown (s t : Scenario) : Type 0 where
  pub more_vrfs : length s.vrfs ≤ length t.vrfs
  pub more_sites : length s.sites ≤ length t.sites
  pub targets : (id : VrfId) → id.0 < length s.vrfs → targets_of s id ≡ targets_of t id
  pub prefixes : (id : SiteId) → id.0 < length s.sites → prefixes_of s id ≡ prefixes_of t id

pub iface_known : (s t : Scenario) → AreKnown s t → (iface : Iface) → IsIface s iface → IsIface t iface
iface_known s t known iface r = record { vrf = omega (arith, r.vrf, known.more_vrfs); site = omega (arith, r.site, known.more_sites); addr = r.addr }

vpn_known : (s t : Scenario) → AreKnown s t → (x y : Iface) → IsIface s x → IsIface s y → same_vpn s x.vrf y.vrf ≡ same_vpn t x.vrf y.vrf
vpn_known s t known x y a b =
    ap (λ (l : List Target). same l (targets_of s y.vrf)) (known.targets x.vrf a.vrf)
    ∙ ap (λ (l : List Target). same (targets_of t x.vrf) l) (known.targets y.vrf b.vrf)

shared_known : (s t : Scenario) → AreKnown s t → (x y : Iface) → IsIface s x → IsIface s y
    → share_prefix (prefixes_of s y.site) (prefixes_of s x.site) ≡ share_prefix (prefixes_of t y.site) (prefixes_of t x.site)
shared_known s t known x y a b =
    ap (λ (l : List Prefix). share_prefix l (prefixes_of s x.site)) (known.prefixes y.site b.site)
    ∙ ap (λ (l : List Prefix). share_prefix (prefixes_of t y.site) l) (known.prefixes x.site a.site)

vpns_known : (s t : Scenario) → AreKnown s t → (x y : Iface) → IsIface s x → IsIface s y → AreOfVpns s x y → AreOfVpns t x y
vpns_known s t known x y a b r = record {
  mixed = λ e. sym (vpn_known s t known x y a b) ∙ r.mixed e;
  taken = λ apart e. sym (shared_known s t known x y a b) ∙ r.taken apart (vpn_known s t known x y a b ∙ e);
}

pub ifaces_known : (s t : Scenario) → AreKnown s (record t { ifaces = s.ifaces }) → IfaceRules s → IfaceRules (record t { ifaces = s.ifaces })
ifaces_known s t known r = record {
  few = r.few;
  each = All-weaker _ _ (iface_known s (record t { ifaces = s.ifaces }) known) s.ifaces r.each;
  vpns = pairs_with (IsIface s) (AreOfVpns s) _ s.ifaces (vpns_known s (record t { ifaces = s.ifaces }) known) r.each r.vpns;
}

pub ifaces_else : (s t : Scenario) → IfaceRules s → IfaceRules (record t { vrfs = s.vrfs; sites = s.sites; ifaces = s.ifaces })
ifaces_else s t r =
    let same : AreKnown s (record t { vrfs = s.vrfs; sites = s.sites; ifaces = s.ifaces }) =
    record { more_vrfs = omega arith; more_sites = omega arith; targets = λ id h. refl; prefixes = λ id h. refl } in
    ifaces_known s (record t { vrfs = s.vrfs; sites = s.sites }) same r
