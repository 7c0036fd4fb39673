-- What a VRF imports of the tunnels that another edge originates.
use Rattle.std.proofs.Common.{◌≡◌, ℕ, ◌&&◌, Bool, true, false, not, Option, Some, None, refl, sym, ap, ◌∙◌}
use Rattle.mv_base.specs.Address.{same_addr, same_addr_equiv}
use Rattle.mv_base.specs.Number.{◌>>?◌, only_if}
use Rattle.mv_base.specs.declared.addr.Addr.{Addr}
use Rattle.mv_base.specs.declared.addr.Addr.TheVariants.{V4, V6}
use Rattle.mv_base.specs.declared.ids.NodeId.{NodeId}
use Rattle.mv_base.specs.declared.pattern.Pattern.{Pattern}
use Rattle.mv_base.specs.declared.rd.Rd.{Rd}
use Rattle.label_defs.specs.mldp.declared.mldp_fec.fec.Fec.{Fec}
use Rattle.bgp_messages.specs.bgp_values.declared.mvpn_nlri.route.Afi.{Afi}
use Rattle.bgp_messages.specs.bgp_values.declared.mvpn_nlri.route.Route.TheVariants as routes
use Rattle.bgp_messages.specs.declared.bgp_attributes.key.Key.{Key}
use Rattle.bgp_messages.specs.declared.bgp_attributes.key.Key.TheVariants.{Mcast, Unicast}
use Rattle.scenario_defs.specs.declared.scenario.Vrf.{Vrf}
use Rattle.selective_defs.specs.declared.learned_route.LearnedRoute.{LearnedRoute}
use Rattle.edge_defs.specs.Edge.{TakenRoute}
use Rattle.edge_defs.specs.Imported.{is_admitted, tunnel_by, SelectiveRoute, is_passed_over, imported_inclusive, ImportedSelective, imported_selective}
use Rattle.edge_defs.specs.Keys.{Value}
use Rattle.edge_defs.specs.Originated.{afi_by, selective_key, inclusive_key, tunnel_value}
use Rattle.edge_defs.specs.Place.{EdgePlace, OwnVrf, addr_of, own_addr, lsp_opaque, is_lsp_opaque, lsp}
use Rattle.edge_defs.specs.Tunnels.{learned_route}
use Rattle.edge_words.proofs.calm_laws.Lists.{passes}

-- ---- tunnels

is_opaque : (number : ℕ) → is_lsp_opaque (lsp_opaque number) ≡ true
is_opaque number = refl

-- the tunnel of a route of its root is that of its number
tunnel_of : (place : EdgePlace) (vrf : Vrf) (number : ℕ)
    → tunnel_by (own_addr place) (own_addr place) (tunnel_value place vrf number) ≡ Some (lsp (own_addr place) number)
tunnel_of place vrf number =
    ap (λ (fec : Option Fec). fec >>? λ f. only_if (same_addr f.root (own_addr place) && same_addr (own_addr place) (own_addr place)) f)
    (passes (is_lsp_opaque (lsp_opaque number)) (lsp (own_addr place) number) (is_opaque number))
    ∙ passes (same_addr (own_addr place) (own_addr place) && same_addr (own_addr place) (own_addr place)) (lsp (own_addr place) number)
    (ap (λ (b : Bool). b && b) (same_addr_equiv.refl (own_addr place)))

-- ---- selective routes

not_passed : (source group : Option Addr) → is_passed_over (afi_by source group) source group ≡ false
not_passed (Some (V4 octets)) group = refl
not_passed (Some (V6 octets)) group = refl
not_passed None (Some (V4 octets)) = refl
not_passed None (Some (V6 octets)) = refl
not_passed None None = refl

imports : (place : EdgePlace) (vrf root_vrf : Vrf) (pattern : Pattern) (number : ℕ) (taken : TakenRoute) (value : Value) → taken.value ≡ value
    → value ≡ tunnel_value place root_vrf number → is_admitted vrf value.comms ≡ true
    → imported_selective vrf (own_addr place) (selective_key place root_vrf pattern, taken) ≡
    Some (record {
      route = record { rd = root_vrf.rd; source = pattern.source; group = pattern.group; originator = own_addr place };
      fec =
          lsp (own_addr place) number;
    })
imports place vrf root_vrf pattern number taken value e is h =
    let route : SelectiveRoute = record { rd = root_vrf.rd; source = pattern.source; group = pattern.group; originator = own_addr place } in
    let admitted : is_admitted vrf taken.value.comms ≡ true = ap (λ (v : Value). is_admitted vrf v.comms) e ∙ h in
    let own : taken.value ≡ tunnel_value place root_vrf number = e ∙ is in
    ap (λ (o : Option SelectiveRoute). o >>? λ r. only_if (is_admitted vrf taken.value.comms) taken.value >>? λ v. tunnel_by (own_addr place)
    r.originator v >>? λ fec. Some (record { route = r; fec = fec }))
    (passes (not (is_passed_over (afi_by pattern.source pattern.group) pattern.source pattern.group)) route
    (ap not (not_passed pattern.source pattern.group)))
    ∙ ap (λ (o : Option Value). o >>? λ v. tunnel_by (own_addr place) (own_addr place) v >>? λ fec. Some (record { route = route; fec = fec }))
    (passes (is_admitted vrf taken.value.comms) taken.value admitted)
    ∙ ap (λ (v : Value). tunnel_by (own_addr place) (own_addr place) v >>? λ fec. Some (record { route = route; fec = fec })) own
    ∙ ap (λ (o : Option Fec). o >>? λ fec. Some (record { route = route; fec = fec })) (tunnel_of place root_vrf number)

-- what an edge learns of a selective route of its root
pub learns : (place at : EdgePlace) (own : OwnVrf) (root_vrf : Vrf) (pattern : Pattern) (number : ℕ) (taken : TakenRoute)
    → addr_of at.scenario place.me ≡ own_addr place → taken.value ≡ tunnel_value place root_vrf number
    → is_admitted own.vrf (tunnel_value place root_vrf number).comms ≡ true
    → learned_route at own place.me (selective_key place root_vrf pattern, taken)
    ≡ Some (record { pattern = pattern; fec = lsp (own_addr place) number; since = taken.since; run = taken.run })
learns place at own root_vrf pattern number taken address e h =
    ap (λ (a : Addr). elim (imported_selective own.vrf a (selective_key place root_vrf pattern, taken)) [
      | None ↦ None
      | Some imported ↦ Some (record {
        pattern = record { source = imported.route.source; group = imported.route.group };
        fec = imported.fec;
        since =
            taken.since;
        run = taken.run;
      })
    ]) address
    ∙ ap (λ (o : Option ImportedSelective). elim o [
      | None ↦ None
      | Some imported ↦ Some (record {
        pattern = record { source = imported.route.source; group = imported.route.group };
        fec = imported.fec;
        since =
            taken.since;
        run = taken.run;
      })
    ]) (imports place own.vrf root_vrf pattern number taken (tunnel_value place root_vrf number) e refl h)

-- the other way round: a route that is learned is a selective one that is admitted
pub record IsLearnedOf (vrf : Vrf) (key : Key) (taken : TakenRoute) (route : LearnedRoute) : Type 0 where
  pub afi : Afi
  pub rd : Rd
  pub originator : Addr
  pub is : key ≡ Mcast afi (routes.Selective rd route.pattern.source route.pattern.group originator)
  pub admitted : is_admitted vrf taken.value.comms ≡ true
  pub since : route.since ≡ taken.since
  pub run : route.run ≡ taken.run

-- what is read of a selective route, by whether it is passed over, whether it is admitted, and its tunnel
abbrev read_by : Bool → Bool → SelectiveRoute → TakenRoute → Option Fec → Option LearnedRoute
read_by true admitted route taken tunnel = None
read_by false false route taken tunnel = None
read_by false true route taken None = None
read_by false true route taken (Some fec) =
    Some (record { pattern = record { source = route.source; group = route.group }; fec = fec; since = taken.since; run = taken.run })

abbrev as_learned : TakenRoute → Option ImportedSelective → Option LearnedRoute
as_learned taken None = None
as_learned taken (Some imported) =
    Some (record {
      pattern = record { source = imported.route.source; group = imported.route.group };
      fec = imported.fec;
      since = taken.since;
      run =
          taken.run;
    })

abbrev with_tunnel : SelectiveRoute → Option Fec → Option ImportedSelective
with_tunnel route tunnel = tunnel >>? λ fec. Some (record { route = route; fec = fec })

abbrev with_value : Addr → Bool → Value → SelectiveRoute → Option ImportedSelective
with_value peer admitted value route = only_if admitted value >>? λ v. with_tunnel route (tunnel_by peer route.originator v)

read_tunnel : (route : SelectiveRoute) (taken : TakenRoute) (tunnel : Option Fec)
    → as_learned taken (with_tunnel route tunnel) ≡ read_by false true route taken tunnel
read_tunnel route taken None = refl
read_tunnel route taken (Some fec) = refl

read_is : (peer : Addr) (passed admitted : Bool) (route : SelectiveRoute) (taken : TakenRoute)
    → as_learned taken (only_if (not passed) route >>? with_value peer admitted taken.value)
    ≡ read_by passed admitted route taken (tunnel_by peer route.originator taken.value)
read_is peer true admitted route taken = refl
read_is peer false false route taken = refl
read_is peer false true route taken = read_tunnel route taken (tunnel_by peer route.originator taken.value)

unlearned : (at : EdgePlace) (own : OwnVrf) (peer : NodeId) (key : Key) (taken : TakenRoute)
    → learned_route at own peer (key, taken) ≡ as_learned taken (imported_selective own.vrf (addr_of at.scenario peer) (key, taken))
unlearned at own peer key taken = with_imported (imported_selective own.vrf (addr_of at.scenario peer) (key, taken))
  where
    with_imported : (o : Option ImportedSelective) → (elim o as (λ (o : Option ImportedSelective). Option LearnedRoute) [
      | None ↦ None
      | Some imported ↦ Some (record {
        pattern = record { source = imported.route.source; group = imported.route.group };
        fec = imported.fec;
        since =
            taken.since;
        run = taken.run;
      })
    ]) ≡ as_learned taken o
    with_imported None = refl
    with_imported (Some imported) = refl

learned_as : (vrf : Vrf) (afi : Afi) (rd : Rd) (source group : Option Addr) (originator : Addr) (taken : TakenRoute) (route : LearnedRoute)
    (passed admitted : Bool) (tunnel : Option Fec)
    → is_admitted vrf taken.value.comms ≡ admitted
    → read_by passed admitted (record { rd = rd; source = source; group = group; originator = originator }) taken tunnel ≡ Some route
    → IsLearnedOf vrf (Mcast afi (routes.Selective rd source group originator)) taken route
learned_as vrf afi rd source group originator taken route true admitted tunnel e h = absurd cc
learned_as vrf afi rd source group originator taken route false false tunnel e h = absurd cc
learned_as vrf afi rd source group originator taken route false true None e h = absurd cc
learned_as vrf afi rd source group originator taken route false true (Some fec) e h =
    let made : LearnedRoute = record { pattern = record { source = source; group = group }; fec = fec; since = taken.since; run = taken.run } in
    let one : made ≡ route = cc in
    record {
      afi = afi;
      rd = rd;
      originator = originator;
      is = ap (λ (r : LearnedRoute). Mcast afi (routes.Selective rd r.pattern.source r.pattern.group originator)) one;
      admitted = e;
      since = ap (λ (r : LearnedRoute). r.since) (sym one);
      run = ap (λ (r : LearnedRoute). r.run) (sym one);
    }

pub learned_of : (at : EdgePlace) (own : OwnVrf) (peer : NodeId) (key : Key) (taken : TakenRoute) (route : LearnedRoute)
    → learned_route at own peer (key, taken) ≡ Some route → IsLearnedOf own.vrf key taken route
learned_of at own peer (Unicast rd prefix) taken route h = absurd cc
learned_of at own peer (Mcast afi (routes.Intra rd originator)) taken route h = absurd cc
learned_of at own peer (Mcast afi (routes.Inter rd source_as)) taken route h = absurd cc
learned_of at own peer (Mcast afi (routes.Selective rd source group originator)) taken route h =
    learned_as own.vrf afi rd source group originator taken route (is_passed_over afi source group) (is_admitted own.vrf taken.value.comms)
    (tunnel_by (addr_of at.scenario peer) originator taken.value) refl
    (sym (unlearned at own peer (Mcast afi (routes.Selective rd source group originator)) taken
    ∙ read_is (addr_of at.scenario peer) (is_passed_over afi source group) (is_admitted own.vrf taken.value.comms)
    (record { rd = rd; source = source; group = group; originator = originator }) taken)
    ∙ h)
learned_of at own peer (Mcast afi (routes.Leaf key originator)) taken route h = absurd cc
learned_of at own peer (Mcast afi (routes.Active rd source group)) taken route h = absurd cc
learned_of at own peer (Mcast afi (routes.SharedJoin rd source_as source group)) taken route h = absurd cc
learned_of at own peer (Mcast afi (routes.SourceJoin rd source_as source group)) taken route h = absurd cc
learned_of at own peer (Mcast afi (routes.Other kind octets)) taken route h = absurd cc

-- ---- inclusive routes

pub imports_inclusive : (place : EdgePlace) (vrf root_vrf : Vrf) (number : ℕ) (taken : TakenRoute) → taken.value ≡ tunnel_value place root_vrf number
    → is_admitted vrf (tunnel_value place root_vrf number).comms ≡ true
    → imported_inclusive vrf (own_addr place) (inclusive_key place root_vrf, taken) ≡ Some (lsp (own_addr place) number)
imports_inclusive place vrf root_vrf number taken e h =
    ap (λ (v : Value). only_if (is_admitted vrf v.comms) v >>? λ w. tunnel_by (own_addr place) (own_addr place) w) e
    ∙ ap (λ (o : Option Value). o >>? λ w. tunnel_by (own_addr place) (own_addr place) w)
    (passes (is_admitted vrf (tunnel_value place root_vrf number).comms) (tunnel_value place root_vrf number) h)
    ∙ tunnel_of place root_vrf number
