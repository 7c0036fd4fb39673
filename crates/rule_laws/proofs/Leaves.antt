-- Each tree of which an edge is to be a leaf is one whose root is a node.
use Rattle.std.proofs.Common.{◌≡◌, ℕ, ◌&&◌, true, List, [], flat_map, slice_get, Option, Some, None, refl, sym, ap, subst, ◌∙◌, arith}
use Rattle.std.specs.List.{AllByRecursion, list_any}
use Rattle.std.specs.FinMap as maps
use Rattle.std.specs.FinSet as sets
use Rattle.std.proofs.lemmas.Bool.{and_from, and_parts}
use Rattle.std.proofs.lemmas.Option.{same_Some, none-some}
use Rattle.mv_base.specs.Number.{◌>>?◌, only_if}
use Rattle.mv_base.specs.Address.{same_addr, same_addr_equiv, same_addr_equal, IsAddr}
use Rattle.mv_base.specs.declared.addr.Addr.{Addr}
use Rattle.mv_base.specs.declared.addr.Addr.TheVariants.{V4}
use Rattle.mv_base.specs.declared.ids.NodeId.{NodeId}
use Rattle.mv_base.proofs.CutLemmas.{if_some}
use Rattle.mldp.specs.declared.mldp_fec.fec.Fec.{Fec}
use Rattle.network_laws.specs.bgp_values.declared.pmsi_attr.pmsi.Pmsi.{Pmsi}
use Rattle.network_laws.specs.bgp_values.declared.pmsi_attr.pmsi.Tunnel.{Tunnel}
use Rattle.network_laws.specs.bgp_values.declared.pmsi_attr.pmsi.Tunnel.TheVariants as tunnels
use Rattle.bgp_messages.specs.declared.bgp_attributes.key.Key.{Key}
use Rattle.scenario_defs.specs.declared.scenario.Node.{Node}
use Rattle.scenario_defs.specs.declared.scenario.Scenario.{Scenario}
use Rattle.scenario_defs.specs.declared.scenario.Vrf.{Vrf}
use Rattle.selective_defs.specs.Selective.{wanted, is_wanted}
use Rattle.selective_defs.specs.declared.learned_route.LearnedRoute.{LearnedRoute}
use Rattle.label_defs.proofs.KeyLemmas.{fec_cmp_total, fec_cmp_exact}
use Rattle.label_defs.proofs.SettleLemmas.{bind_some}
use Rattle.edge_defs.specs.Edge.{VrfFlow, Upstream, Site, Remote, TakenRoute, Taken, Control}
use Rattle.edge_defs.specs.Imported.{is_admitted, lsp_of, tunnel_by, inclusive_of, SelectiveRoute, selective_of, taken_from, imported_inclusive, ImportedSelective, imported_selective}
use Rattle.edge_defs.specs.Keys.{Value}
use Rattle.label_defs.specs.Node.{is_p2mp}
use Rattle.edge_defs.specs.Place.{EdgePlace, OwnVrf, addr_of, own_vrfs, is_lsp_opaque, is_tree}
use Rattle.edge_defs.specs.Tunnels.{learned_route, learned_routes, inclusive_tunnels, flow_tunnels, flows_of, tunnels_of, leaves}
use Rattle.network_laws.specs.Sound.{IsSoundFec, SoundControl}
use Rattle.network_laws.proofs.LabelLeaves.{leaves_are_sound}
use Rattle.network_laws.proofs.Lists.{each_append, each_of, each_map, each_flat, each_filter, each_found}
use Rattle.network_laws.proofs.Maps.{each_member}
use Rattle.mvpn_model.proofs.ListLemmas.{any-from_at}

-- a FEC that has a spelling is one of a tree
abbrev TreeIfSound : Scenario → Fec → Type 0
TreeIfSound scenario fec = IsSoundFec fec → is_tree scenario fec ≡ true

-- ---- one tunnel

kind_of : (pmsi : Option Pmsi) (fec : Fec) → lsp_of pmsi ≡ Some fec → is_p2mp fec.kind ≡ true
kind_of None fec e = absurd (none-some fec e)
kind_of (Some pmsi) fec e = by pmsi.tunnel e
  where
    by : (tunnel : Tunnel) → elim tunnel as (λ _. Option Fec) [
      | tunnels.Mldp own ↦ only_if (is_p2mp own.kind && is_lsp_opaque own.opaque) own
      | tunnels.None ↦ None
      | tunnels.Ingress addr ↦ None
      | tunnels.Other kind ident ↦ None
    ] ≡ Some fec → is_p2mp fec.kind ≡ true
    by (tunnels.Mldp own) e =
        let x = if_some (is_p2mp own.kind && is_lsp_opaque own.opaque) own fec e in
        sym (ap (λ (f : Fec). is_p2mp f.kind) x.1) ∙ (and_parts (is_p2mp own.kind) (is_lsp_opaque own.opaque) x.0).0
    by tunnels.None e = absurd (none-some fec e)
    by (tunnels.Ingress addr) e = absurd (none-some fec e)
    by (tunnels.Other kind ident) e = absurd (none-some fec e)

no_addr : (addr : Addr) → IsAddr addr → addr ≡ V4 [] → ⊥
no_addr addr is e = let x : ◌≡◌ {A = ℕ} 0 4 = subst IsAddr e is in absurd (omega (arith, x))

root_is : (scenario : Scenario) (peer : NodeId) (root : Addr) → IsAddr root → same_addr root (addr_of scenario peer) ≡ true
    → list_any (λ node. same_addr node.addr root) scenario.nodes ≡ true
root_is scenario peer root is e = by (slice_get scenario.nodes peer.0) refl e
  where
    by : (o : Option Node) → slice_get scenario.nodes peer.0 ≡ o → same_addr root (elim o [ None ↦ V4 [] | Some found ↦ found.addr ]) ≡ true
        → list_any (λ node. same_addr node.addr root) scenario.nodes ≡ true
    by None at h = absurd (no_addr root is (same_addr_equal root (V4 []) h))
    by (Some found) at h =
        any-from_at (λ (node : Node). same_addr node.addr root) scenario.nodes peer.0 found at (same_addr_equiv.symm found.addr root ∙ h)

tunnel_is : (scenario : Scenario) (peer : NodeId) (originator : Addr) (value : Value) (fec : Fec)
    → tunnel_by (addr_of scenario peer) originator value ≡ Some fec → TreeIfSound scenario fec
tunnel_is scenario peer originator value fec e sound =
    let addr : Addr = addr_of scenario peer in
    let x = bind_some (lsp_of value.pmsi) (λ found. only_if (same_addr found.root addr && same_addr originator addr) found) fec e in
    let y = if_some (same_addr x.0.root addr && same_addr originator addr) x.0 fec x.2 in
    let root : same_addr fec.root addr ≡ true =
    sym (ap (λ (f : Fec). same_addr f.root addr) y.1) ∙ (and_parts (same_addr x.0.root addr) (same_addr originator addr) y.0).0 in
    and_from (is_p2mp fec.kind) (list_any (λ node. same_addr node.addr fec.root) scenario.nodes)
    (kind_of value.pmsi fec (x.1 ∙ ap (λ (f : Fec). Some f) y.1)) (root_is scenario peer fec.root sound.0.root root)

inclusive_is : (scenario : Scenario) (vrf : Vrf) (peer : NodeId) (entry : Key × TakenRoute) (fec : Fec)
    → imported_inclusive vrf (addr_of scenario peer) entry ≡ Some fec → TreeIfSound scenario fec
inclusive_is scenario vrf peer entry fec e =
    let value : Value = entry.1.value in
    let x = bind_some (inclusive_of entry.0) (λ originator. only_if (is_admitted vrf value.comms) value >>? λ found. tunnel_by (addr_of scenario peer)
    originator found) fec e in
    let y = bind_some (only_if (is_admitted vrf value.comms) value) (λ found. tunnel_by (addr_of scenario peer) x.0 found) fec x.2 in
    tunnel_is scenario peer x.0 y.0 fec y.2

imported_is : (scenario : Scenario) (route : SelectiveRoute) (fec : Fec) (imported : ImportedSelective)
    → ◌≡◌ {A = Option ImportedSelective} (Some (record { route = route; fec = fec })) (Some imported) → TreeIfSound scenario fec
    → TreeIfSound scenario imported.fec
imported_is scenario route fec imported e s =
    subst (λ (i : ImportedSelective). TreeIfSound scenario i.fec) (same_Some (record { route = route; fec = fec }) imported e) s

selective_is : (scenario : Scenario) (vrf : Vrf) (peer : NodeId) (entry : Key × TakenRoute) (imported : ImportedSelective)
    → imported_selective vrf (addr_of scenario peer) entry ≡ Some imported → TreeIfSound scenario imported.fec
selective_is scenario vrf peer entry imported e =
    let value : Value = entry.1.value in
    let addr : Addr = addr_of scenario peer in
    let x = bind_some (selective_of entry.0) (λ route. only_if (is_admitted vrf value.comms) value >>? λ found. tunnel_by addr route.originator found
    >>? λ fec. Some (record { route = route; fec = fec })) imported e in
    let y = bind_some (only_if (is_admitted vrf value.comms) value)
    (λ found. tunnel_by addr x.0.originator found >>? λ fec. Some (record { route = x.0; fec = fec })) imported x.2 in
    let z = bind_some (tunnel_by addr x.0.originator y.0) (λ fec. Some (record { route = x.0; fec = fec })) imported y.2 in
    imported_is scenario x.0 z.0 imported z.2 (tunnel_is scenario peer x.0.originator y.0 z.0 z.1)

learned_is : (place : EdgePlace) (own : OwnVrf) (peer : NodeId) (entry : Key × TakenRoute) (route : LearnedRoute)
    → learned_route place own peer entry ≡ Some route → TreeIfSound place.scenario route.fec
learned_is place own peer entry route e = by (imported_selective own.vrf (addr_of place.scenario peer) entry) refl e
  where
    by : (o : Option ImportedSelective) → imported_selective own.vrf (addr_of place.scenario peer) entry ≡ o
        → elim o as (λ _. Option LearnedRoute) [
          | None ↦ None
          | Some imported ↦
              Some (record {
                pattern = record { source = imported.route.source; group = imported.route.group };
                fec = imported.fec;
                since =
                    entry.1.since;
                run = entry.1.run;
              })
        ] ≡ Some route
        → TreeIfSound place.scenario route.fec
    by None is e = absurd (none-some route e)
    by (Some imported) is e =
        subst (λ (r : LearnedRoute). TreeIfSound place.scenario r.fec)
        (same_Some (record {
          pattern = record { source = imported.route.source; group = imported.route.group };
          fec = imported.fec;
          since =
              entry.1.since;
          run = entry.1.run;
        }) route e)
        (selective_is place.scenario own.vrf peer entry imported is)

-- ---- all of them

-- an entry of whatever table
abbrev Any : {X : Type 0} → X → Type 0
Any x = Unit {0}

inclusives_are : (place : EdgePlace) (own : OwnVrf) (peer : NodeId × Taken)
    → AllByRecursion (TreeIfSound place.scenario) (inclusive_tunnels place own peer)
inclusives_are place own peer =
    each_found Any (TreeIfSound place.scenario) (imported_inclusive own.vrf (addr_of place.scenario peer.0))
    (λ entry fec any e. inclusive_is place.scenario own.vrf peer.0 entry fec e) (maps.entries peer.1)
    (each_of Any (λ x. tt) (maps.entries peer.1))

flow_is : (place : EdgePlace) (control : Control) (own : OwnVrf) (entry : VrfFlow × Option Upstream)
    → AllByRecursion (TreeIfSound place.scenario) (flow_tunnels place control own entry)
flow_is place control own (flow, Some (Remote edge rd import source_as)) =
    let routes : List LearnedRoute = learned_routes place control own edge in
    let entries = maps.entries (taken_from control edge) in
    let all =
    each_found Any (λ (route : LearnedRoute). TreeIfSound place.scenario route.fec) (learned_route place own edge)
    (λ entry route any e. learned_is place own edge entry route e) entries (each_of Any (λ x. tt) entries) in
    each_map (TreeIfSound place.scenario) (λ route. route.fec) (wanted routes flow.source flow.group)
    (each_filter (λ (route : LearnedRoute). TreeIfSound place.scenario route.fec) (is_wanted routes flow.source flow.group) routes all)
flow_is place control own (flow, Some (Site site)) = tt
flow_is place control own (flow, None) = tt

tunnels_are : (place : EdgePlace) (control : Control) (own : OwnVrf) → AllByRecursion (TreeIfSound place.scenario) (tunnels_of place control own)
tunnels_are place control own =
    let P : Fec → Type 0 = TreeIfSound place.scenario in
    let peers = maps.entries control.peers in
    let flows : List (VrfFlow × Option Upstream) = flows_of control own.id in
    each_append P (flat_map (inclusive_tunnels place own) peers) (flat_map (flow_tunnels place control own) flows)
    (each_flat P (inclusive_tunnels place own) peers
    (each_of (λ peer. AllByRecursion P (inclusive_tunnels place own peer)) (inclusives_are place own) peers))
    (each_flat P (flow_tunnels place control own) flows
    (each_of (λ entry. AllByRecursion P (flow_tunnels place control own entry)) (flow_is place control own) flows))

pub leaves_are_trees : (place : EdgePlace) (control : Control) → SoundControl control → (fec : Fec) → sets.contains (leaves place control) fec ≡ true
    → is_tree place.scenario fec ≡ true
leaves_are_trees place control sound fec e =
    let vrfs : List OwnVrf = own_vrfs place in
    let P : Fec → Type 0 = TreeIfSound place.scenario in
    let all =
    each_flat P (tunnels_of place control) vrfs
    (each_of (λ own. AllByRecursion P (tunnels_of place control own)) (tunnels_are place control) vrfs) in
    each_member fec_cmp_total fec_cmp_exact P (flat_map (tunnels_of place control) vrfs) all fec e (leaves_are_sound place control sound fec e)
