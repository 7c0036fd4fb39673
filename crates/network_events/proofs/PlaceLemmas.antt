-- At which node and in which VRFs events of customers take place.
use Rattle.std.specs.Prelude.{◌&&◌, slice_get}
use Rattle.std.proofs.Common.{◌≡◌, ◌∙◌, ℕ, ◌+◌, ◌<◌, Bool, true, false, cond, List, [], ◌∷◌, Option, None, Some, length, refl, sym, ap, subst}
use Rattle.std.proofs.lemmas.Option.{none-some, same_Some}
use Rattle.std.specs.List.{list_any}
use Rattle.mv_base.specs.declared.ids.IfaceId.{IfaceId}
use Rattle.mv_base.specs.declared.ids.NodeId.{NodeId}
use Rattle.mv_base.specs.declared.ids.SiteId.{SiteId}
use Rattle.mv_base.specs.declared.ids.VrfId.{VrfId}
use Rattle.scenario_defs.proofs.RuleLemmas.{iface_rules_at}
use Rattle.scenario_defs.specs.Rules.{Rules}
use Rattle.scenario_defs.specs.Vpn.{edge_of, entered_from, is_of_site, is_of_vrf}
use Rattle.scenario_defs.specs.declared.scenario.Iface.{Iface}
use Rattle.scenario_defs.specs.declared.scenario.Scenario.{Scenario}
use Rattle.scenario_defs.specs.declared.scenario.Vrf.{Vrf}
use Rattle.mvpn_model.proofs.VpnLemmas.{element_at}
use Rattle.network_defs.specs.Refusals.{edge_of_vrf}
use Rattle.network_defs.specs.World.{scenario_of}
use Rattle.network_acts.proofs.network_laws.RunNodes.{IsFoundNode, edge_within, vrf_within}
use Rattle.network_acts.specs.network_laws.Sound.{SoundScenario}
use Rattle.network_acts.specs.Instant.{Instant, standing_of}
use Rattle.network_acts.specs.NetworkView.{NetworkView}
use Rattle.network_acts.specs.Words.{IsCurrent, IsEdgeOf, IsIfaceEdge, IsIn, IsVrfEdge, Moment, at_rest}
use Rattle.network_events.specs.Places.{among_from, has_vrf, vrfs_of}

-- ---- the VRFs of a site

-- A VRF is among those of the site's interfaces where the site has an interface in it.
has_vrf-is : (site : SiteId) (vrf : VrfId) (ifaces : List Iface)
    → has_vrf (vrfs_of site ifaces) vrf ≡ list_any (λ iface. is_of_site site iface && is_of_vrf vrf iface) ifaces
has_vrf-is site vrf [] = refl
has_vrf-is site vrf (iface ∷ more) = by (is_of_site site iface) refl (has_vrf-is site vrf more)
  where
    by : (b : Bool) → is_of_site site iface ≡ b → has_vrf (vrfs_of site more) vrf
        ≡ list_any (λ other. is_of_site site other && is_of_vrf vrf other) more
        → has_vrf (vrfs_of site (iface ∷ more)) vrf ≡ list_any (λ other. is_of_site site other && is_of_vrf vrf other) (iface ∷ more)
    by true h thereafter = rw h (rw thereafter refl)
    by false h thereafter = rw h thereafter

-- Those of the VRFs that are among those of the site's interfaces are the ones at which it is attached.
pub among_from-entered : (scenario : Scenario) (site : SiteId) (number : ℕ) (vrfs : List Vrf)
    → among_from (vrfs_of site scenario.ifaces) number vrfs ≡ entered_from scenario site number vrfs
among_from-entered scenario site number [] = refl
among_from-entered scenario site number (vrf ∷ more) =
    λ i. cond (has_vrf-is site (record { 0 = number }) scenario.ifaces i)
    (record { 0 = number } ∷ among_from-entered scenario site (number + 1) more i) (among_from-entered scenario site (number + 1) more i)

-- ---- the edge of an interface, and of a VRF

-- By the rules each interface has an edge, and each VRF.
pub some_edge : (scenario : Scenario) → Rules scenario → (iface : IfaceId) → iface.0 < length scenario.ifaces → edge_of scenario iface ≡ None → ⊥
some_edge scenario rules iface h e =
    let own = element_at scenario.ifaces iface.0 h in
    let attached = iface_rules_at scenario rules iface.0 own.0 own.1 in
    let vrf = element_at scenario.vrfs own.0.vrf.0 attached.vrf in
    let at : edge_of scenario iface ≡ Some vrf.0.edge = rw (own.1, vrf.1, edge_of) refl in
    let both : Some vrf.0.edge ≡ None = sym at ∙ e in
    absurd cc

pub some_vrf_edge : (scenario : Scenario) (vrf : VrfId) → vrf.0 < length scenario.vrfs → edge_of_vrf scenario vrf ≡ None → ⊥
some_vrf_edge scenario vrf h e =
    let own = element_at scenario.vrfs vrf.0 h in
    let at : edge_of_vrf scenario vrf ≡ Some own.0.edge = rw (own.1, edge_of_vrf) refl in
    let both : Some own.0.edge ≡ None = sym at ∙ e in
    absurd cc

-- ---- in a world at rest

module _ (at : Instant) (network : NetworkView) (same : network.scenario ≡ scenario_of at.world) (plane : IsIn (standing_of at) network.plane) where
  pub sound_lines : SoundScenario (scenario_of at.world)
  sound_lines = plane.around.steady.sound.lines

  pub own_rules : Rules network.scenario
  own_rules = subst Rules (sym same) sound_lines.rules

  -- each node of the scenario has acted on the present costs
  pub is_current : (n : NodeId) → at.moment ≡ at_rest → n.0 < length (scenario_of at.world).nodes → IsCurrent n (standing_of at)
  is_current n rest within = record { within = within; current = ap (λ (m : Moment). m.late n) rest }

  pub at_iface : (n : NodeId) (iface : IfaceId) → at.moment ≡ at_rest → edge_of network.scenario iface ≡ Some n → IsIfaceEdge n iface (standing_of at)
  at_iface n iface rest e =
      let edge : edge_of (scenario_of at.world) iface ≡ Some n = subst (λ (s : Scenario). edge_of s iface ≡ Some n) same e in
      record {
        node =
            is_current n rest (subst (IsFoundNode (scenario_of at.world)) edge (edge_within (scenario_of at.world) sound_lines iface));
        edge = edge;
      }

  pub at_vrf : (n : NodeId) (vrf : VrfId) → at.moment ≡ at_rest → edge_of_vrf network.scenario vrf ≡ Some n → IsVrfEdge n vrf (standing_of at)
  at_vrf n vrf rest e =
      let edge : edge_of_vrf (scenario_of at.world) vrf ≡ Some n = subst (λ (s : Scenario). edge_of_vrf s vrf ≡ Some n) same e in
      record {
        node = is_current n rest (subst (IsFoundNode (scenario_of at.world)) edge (vrf_within (scenario_of at.world) sound_lines vrf));
        edge =
            edge;
      }

  -- the same, with the VRF
  pub at_vrf_of : (n : NodeId) (vrf : VrfId) → at.moment ≡ at_rest → edge_of_vrf network.scenario vrf ≡ Some n → IsEdgeOf vrf n (standing_of at)
  at_vrf_of n vrf rest e =
      let edge = at_vrf n vrf rest e in by edge.node (slice_get (scenario_of at.world).vrfs vrf.0) refl edge.edge
    where
      by : IsCurrent n (standing_of at) → (o : Option Vrf) → slice_get (scenario_of at.world).vrfs vrf.0 ≡ o
          → elim o [ None ↦ None | Some found ↦ Some found.edge ] ≡ Some n → IsEdgeOf vrf n (standing_of at)
      by current None stands h = absurd (none-some n h)
      by current (Some found) stands h = record { current = current; vrf = found; stands = stands; edge = same_Some found.edge n h }
