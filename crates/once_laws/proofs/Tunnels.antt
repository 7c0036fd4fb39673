-- Which tunnels a VRF imports, and of which VRF they are.
use Rattle.std.proofs.Common.{◌≡◌, inl, inr, ℕ, ◌<◌, ◌&&◌, Bool, true, false, cond, List, map, slice_get, Option, Some, None, refl, sym, ap, subst, ◌∙◌}
use Rattle.std.specs.List.{flat_map}
use Rattle.std.specs.FinMap as maps
use Rattle.std.proofs.lemmas.Bool.{true≢false, and_parts}
use Rattle.std.proofs.lemmas.Option.{cond_some, none-some, same_Some}
use Rattle.mv_base.specs.Address.{same_addr, same_addr_equal}
use Rattle.mv_base.specs.Number.{◌>>?◌, only_if}
use Rattle.mv_base.specs.declared.addr.Addr.{Addr}
use Rattle.mv_base.specs.declared.ids.NodeId.{NodeId}
use Rattle.mldp.specs.declared.mldp_fec.fec.Fec.{Fec}
use Rattle.bgp_messages.specs.declared.bgp_attributes.key.Key.{Key}
use Rattle.scenario_defs.specs.declared.scenario.Scenario.{Scenario}
use Rattle.scenario_defs.specs.declared.scenario.Vrf.{Vrf}
use Rattle.scenario_defs.proofs.RuleLemmas.{vrf_rules_at}
use Rattle.label_defs.specs.LabelData.{same_fec}
use Rattle.label_defs.proofs.KeyLemmas.{node_cmp_total, node_cmp_exact, same_fec_equal, same_fec_itself}
use Rattle.selective_defs.specs.Selective.{Among, wanted, is_wanted, transmitted}
use Rattle.selective_defs.specs.declared.learned_route.LearnedRoute.{LearnedRoute}
use Rattle.edge_defs.specs.Datagrams.{is_tunnel, selective_fec, is_route_of, is_imported_from}
use Rattle.edge_defs.specs.Edge.{VrfFlow, Upstream, Site, Remote, TakenRoute, Taken, Control}
use Rattle.edge_defs.specs.Imported.{ImportedSelective, is_admitted, lsp_of, tunnel_by, inclusive_of, selective_of, imported_inclusive, imported_selective, taken_from}
use Rattle.edge_defs.specs.Keys.{Value, key_cmp}
use Rattle.edge_defs.specs.Originated.{target_comms}
use Rattle.edge_defs.specs.Place.{EdgePlace, OwnVrf, own_vrfs, addr_of, lsp, tunnel_number}
use Rattle.network_defs.specs.Costs.{Cores}
use Rattle.edge_defs.specs.Tunnels.{inclusive_tunnels, flow_tunnels, flows_of, tunnels_of, learned_route, learned_routes, transmit_tunnel, selections_of, number_by}
use Rattle.edge_defs.proofs.KeyLemmas.{key_total}
use Rattle.edge_words.specs.edge_laws.Network.{EdgeNetwork, place_of}
use Rattle.edge_words.specs.calm_laws.Calm.{AreOfOneVpn}
use Rattle.edge_words.proofs.calm_laws.InStep.{admitted_vpn}
use Rattle.edge_words.proofs.calm_laws.Lists.{among_either, map_among, flat_map_among, filter_among, any_from, any_among, found_among}
use Rattle.edge_words.proofs.calm_laws.Maps.{empty_entries, entry_get, get_entry}
use Rattle.edge_words.proofs.calm_laws.Tables.{taken_is}
use Rattle.edge_words.proofs.calm_laws.Upstreams.{chained}
use Rattle.rule_laws.specs.Labels.{is_own_tunnel}
use Rattle.rule_laws.specs.Honest.{IsTunnelRoute}
use Rattle.rule_laws.proofs.Vpns.{own_passes, own_tunnel, one_vrf, number_small}
use Rattle.network_defs.specs.World.{World, scenario_of}
use Rattle.once_laws.proofs.Behind.{Known}
use Rattle.once_laws.proofs.Choices.{own_among}
use Rattle.once_laws.proofs.Edges.{net}

-- ---- a route of a tunnel

-- the tunnel of a value that a VRF imports from the node of that address
pub record Imports (vrf : Vrf) (addr : Addr) (value : Value) (fec : Fec) : Type 0 where
  pub admitted : is_admitted vrf value.comms ≡ true
  pub tunnel : lsp_of value.pmsi ≡ Some fec
  pub root : fec.root ≡ addr

tunnel_of : (peer originator : Addr) (value : Value) (fec : Fec) → tunnel_by peer originator value ≡ Some fec
    → (lsp_of value.pmsi ≡ Some fec) × (fec.root ≡ peer)
tunnel_of peer originator value fec e =
    let first = chained (lsp_of value.pmsi) (λ f. only_if (same_addr f.root peer && same_addr originator peer) f) fec e in
    let only = cond_some (same_addr first.0.root peer && same_addr originator peer) first.0 fec first.2 in (
      first.1 ∙ ap (λ (f : Fec). Some f) only.1,
      ap (λ (f : Fec). f.root) (sym only.1)
          ∙ same_addr_equal first.0.root peer (and_parts (same_addr first.0.root peer) (same_addr originator peer) only.0).0,
    )

inclusive_is : (vrf : Vrf) (addr : Addr) (key : Key) (taken : TakenRoute) (fec : Fec) → imported_inclusive vrf addr (key, taken) ≡ Some fec
    → Imports vrf addr taken.value fec
inclusive_is vrf addr key taken fec e =
    let first =
    chained (inclusive_of key) (λ originator. only_if (is_admitted vrf taken.value.comms) taken.value >>? λ value. tunnel_by addr originator
    value) fec e in
    let second = chained (only_if (is_admitted vrf taken.value.comms) taken.value) (λ value. tunnel_by addr first.0 value) fec first.2 in
    let only = cond_some (is_admitted vrf taken.value.comms) taken.value second.0 second.1 in
    let t = tunnel_of addr first.0 second.0 fec second.2 in
    record { admitted = only.0; tunnel = ap (λ (v : Value). lsp_of v.pmsi) only.1 ∙ t.0; root = t.1 }

selective_is : (vrf : Vrf) (addr : Addr) (key : Key) (taken : TakenRoute) (imported : ImportedSelective)
    → imported_selective vrf addr (key, taken) ≡ Some imported → Imports vrf addr taken.value imported.fec
selective_is vrf addr key taken imported e =
    let first =
    chained (selective_of key) (λ route. only_if (is_admitted vrf taken.value.comms) taken.value >>? λ value. tunnel_by addr route.originator
    value >>? λ fec. Some (record { route = route; fec = fec })) imported e in
    let second =
    chained (only_if (is_admitted vrf taken.value.comms) taken.value)
    (λ value. tunnel_by addr first.0.originator value >>? λ fec. Some (record { route = first.0; fec = fec })) imported first.2 in
    let third = chained (tunnel_by addr first.0.originator second.0) (λ fec. Some (record { route = first.0; fec = fec })) imported second.2 in
    let only = cond_some (is_admitted vrf taken.value.comms) taken.value second.0 second.1 in
    let t = tunnel_of addr first.0.originator second.0 third.0 third.1 in
    let fecs : third.0 ≡ imported.fec =
    ap (λ (i : ImportedSelective). i.fec) (same_Some (record { route = first.0; fec = third.0 }) imported third.2) in
    record {
      admitted = only.0;
      tunnel = ap (λ (v : Value). lsp_of v.pmsi) only.1 ∙ t.0 ∙ ap (λ (f : Fec). Some f) fecs;
      root =
          ap (λ (f : Fec). f.root) (sym fecs) ∙ t.1;
    }

-- ---- what is imported from a peer

-- a route of the tunnel, among those taken from the peer
pub record ImportOf (scenario : Scenario) (own : OwnVrf) (fec : Fec) (peer : NodeId × Taken) : Type 0 where
  pub key : Key
  pub taken : TakenRoute
  pub listed : Among (key, taken) (maps.entries peer.1)
  pub imports : Imports own.vrf (addr_of scenario peer.0) taken.value fec

pub import_of : (place : EdgePlace) (own : OwnVrf) (fec : Fec) (peer : NodeId × Taken) → is_imported_from place own fec peer ≡ true
    → ImportOf place.scenario own fec peer
import_of place own fec peer h =
    let entry = any_among (is_route_of place own peer.0 fec) (maps.entries peer.1) h in
    let addr : Addr = addr_of place.scenario peer.0 in
    record {
      key = entry.0.0;
      taken = entry.0.1;
      listed = entry.1;
      imports = by entry.0.0 entry.0.1 (imported_inclusive own.vrf addr entry.0) refl (imported_selective own.vrf addr entry.0) refl entry.2;
    }
  where
    same_as : (vrf : Vrf) (addr : Addr) (value : Value) (f : Fec) → same_fec f fec ≡ true → Imports vrf addr value f → Imports vrf addr value fec
    same_as vrf addr value f t i = subst (Imports vrf addr value) (same_fec_equal f fec t) i

    by : (key : Key) (taken : TakenRoute) (o : Option Fec) → imported_inclusive own.vrf (addr_of place.scenario peer.0) (key, taken) ≡ o
        → (p : Option ImportedSelective) → imported_selective own.vrf (addr_of place.scenario peer.0) (key, taken) ≡ p
        → cond (is_tunnel fec o) true (is_tunnel fec (selective_fec p)) ≡ true → Imports own.vrf (addr_of place.scenario peer.0) taken.value fec
    by key taken None e None d t = absurd (true≢false (sym t))
    by key taken None e (Some imported) d t =
        same_as own.vrf (addr_of place.scenario peer.0) taken.value imported.fec t
        (selective_is own.vrf (addr_of place.scenario peer.0) key taken imported d)
    by key taken (Some f) e p d t = or_other (same_fec f fec) refl p d t
      where
        or_other : (b : Bool) → same_fec f fec ≡ b → (p : Option ImportedSelective)
            → imported_selective own.vrf (addr_of place.scenario peer.0) (key, taken) ≡ p → cond b true (is_tunnel fec (selective_fec p)) ≡ true
            → Imports own.vrf (addr_of place.scenario peer.0) taken.value fec
        or_other true is p d t =
            subst (Imports own.vrf (addr_of place.scenario peer.0) taken.value) (same_fec_equal f fec is)
            (inclusive_is own.vrf (addr_of place.scenario peer.0) key taken f e)
        or_other false is None d t = absurd (true≢false (sym t))
        or_other false is (Some imported) d t =
            subst (Imports own.vrf (addr_of place.scenario peer.0) taken.value) (same_fec_equal imported.fec fec t)
            (selective_is own.vrf (addr_of place.scenario peer.0) key taken imported d)

-- a tunnel that a VRF wants is imported from a peer
pub record WantedFrom (place : EdgePlace) (control : Control) (own : OwnVrf) (fec : Fec) : Type 0 where
  pub peer : NodeId
  pub table : Taken
  pub listed : Among (peer, table) (maps.entries control.peers)
  pub imported : is_imported_from place own fec (peer, table) ≡ true
  pub root : fec.root ≡ addr_of place.scenario peer

inclusive_wanted : (place : EdgePlace) (control : Control) (own : OwnVrf) (fec : Fec)
    → Among fec (flat_map (inclusive_tunnels place own) (maps.entries control.peers)) → WantedFrom place control own fec
inclusive_wanted place control own fec a =
    let peer = flat_map_among (inclusive_tunnels place own) fec (maps.entries control.peers) a in
    let addr : Addr = addr_of place.scenario peer.0.0 in
    let entry = found_among (imported_inclusive own.vrf addr) fec (maps.entries peer.0.1) peer.2 in
    let route : is_route_of place own peer.0.0 fec entry.0 ≡ true =
    ap (λ (o : Option Fec). cond (is_tunnel fec o) true (is_tunnel fec (selective_fec (imported_selective own.vrf addr entry.0)))) entry.2
    ∙ ap (λ (b : Bool). cond b true (is_tunnel fec (selective_fec (imported_selective own.vrf addr entry.0)))) (same_fec_itself fec) in
    record {
      peer = peer.0.0;
      table = peer.0.1;
      listed = peer.1;
      imported =
          any_from (is_route_of place own peer.0.0 fec) entry.0 (maps.entries peer.0.1) entry.1 route;
      root =
          (inclusive_is own.vrf addr entry.0.0 entry.0.1 fec entry.2).root;
    }

either_true : (a : Bool) → cond a true true ≡ true
either_true true = refl
either_true false = refl

selective_wanted : (place : EdgePlace) (control : Control) (own : OwnVrf) (edge : NodeId) (source group : Addr) (fec : Fec)
    → Among fec (map (λ route. route.fec) (wanted (learned_routes place control own edge) source group)) → WantedFrom place control own fec
selective_wanted place control own edge source group fec a =
    let learned = learned_routes place control own edge in
    let route = map_among (λ (r : LearnedRoute). r.fec) fec (wanted learned source group) a in
    let in_learned = (filter_among (is_wanted learned source group) route.0 learned route.1).0 in
    let entry = found_among (learned_route place own edge) route.0 (maps.entries (taken_from control edge)) in_learned in
    by (maps.get control.peers edge) refl route.0 route.2 entry.0.0 entry.0.1 entry.1 entry.2
  where
    fec_of : (key : Key) (taken : TakenRoute) (route : LearnedRoute) → learned_route place own edge (key, taken) ≡ Some route
        → (imported : ImportedSelective) × (imported_selective own.vrf (addr_of place.scenario edge) (key, taken) ≡ Some imported)
        × (imported.fec ≡ route.fec)
    fec_of key taken route e = with_it (imported_selective own.vrf (addr_of place.scenario edge) (key, taken)) refl e
      where
        with_it : (o : Option ImportedSelective) → imported_selective own.vrf (addr_of place.scenario edge) (key, taken) ≡ o
            → elim o as (λ _. Option LearnedRoute) [
              | None ↦ None
              | Some imported ↦
                  Some (record {
                    pattern = record { source = imported.route.source; group = imported.route.group };
                    fec = imported.fec;
                    since =
                        taken.since;
                    run = taken.run;
                  })
            ] ≡ Some route
            → (imported : ImportedSelective) × (imported_selective own.vrf (addr_of place.scenario edge) (key, taken) ≡ Some imported)
            × (imported.fec ≡ route.fec)
        with_it None d h = absurd (none-some route h)
        with_it (Some imported) d h = (
          imported,
          d,
          ap (λ (r : LearnedRoute). r.fec)
              (same_Some (record {
                pattern = record { source = imported.route.source; group = imported.route.group };
                fec = imported.fec;
                since =
                    taken.since;
                run = taken.run;
              }) route h),
        )

    by : (o : Option Taken) → maps.get control.peers edge ≡ o → (route : LearnedRoute) → fec ≡ route.fec → (key : Key) (taken : TakenRoute)
        → Among (key, taken) (maps.entries (taken_from control edge)) → learned_route place own edge (key, taken) ≡ Some route
        → WantedFrom place control own fec
    by None e route same key taken listed is =
        let none : taken_from control edge ≡ maps.empty =
        ap (λ (o : Option Taken). elim o as (λ _. Taken) [ None ↦ maps.empty | Some table ↦ table ]) e in
        absurd (subst (λ (es : List (Key × TakenRoute)). Among (key, taken) es) (ap (λ (t : Taken). maps.entries t) none ∙ empty_entries key_cmp)
        listed)
    by (Some table) e route same key taken listed is =
        let found = fec_of key taken route is in
        let addr : Addr = addr_of place.scenario edge in
        let fecs : found.0.fec ≡ fec = found.2 ∙ sym same in
        let here : Among (key, taken) (maps.entries table) =
        subst (λ (t : Taken). Among (key, taken) (maps.entries t)) (taken_is control edge table e) listed in
        let tunnel : is_tunnel fec (selective_fec (imported_selective own.vrf addr (key, taken))) ≡ true =
        ap (λ (o : Option ImportedSelective). is_tunnel fec (selective_fec o)) found.1 ∙ ap (λ (f : Fec). same_fec f fec) fecs
        ∙ same_fec_itself fec in
        let first : Bool = is_tunnel fec (imported_inclusive own.vrf addr (key, taken)) in
        let route_is : is_route_of place own edge fec (key, taken) ≡ true = ap (λ (b : Bool). cond first true b) tunnel ∙ either_true first in
        record {
          peer = edge;
          table = table;
          listed = get_entry node_cmp_exact control.peers edge table e;
          imported = any_from (is_route_of place own edge fec) (key, taken) (maps.entries table) here route_is;
          root = ap (λ (f : Fec). f.root) (sym fecs) ∙ (selective_is own.vrf addr key taken found.0 found.1).root;
        }

pub wanted_from : (place : EdgePlace) (control : Control) (own : OwnVrf) (fec : Fec) → Among fec (tunnels_of place control own)
    → WantedFrom place control own fec
wanted_from place control own fec a =
    elim (among_either fec (flat_map (inclusive_tunnels place own) (maps.entries control.peers))
    (flat_map (flow_tunnels place control own) (flows_of control own.id)) a) [
      | inl b ↦ inclusive_wanted place control own fec b
      | inr b ↦ (let flow = flat_map_among (flow_tunnels place control own) fec (flows_of control own.id) b in by flow.0.0 flow.0.1 flow.2)
    ]
  where
    by : (flow : VrfFlow) (up : Option Upstream) → Among fec (flow_tunnels place control own (flow, up)) → WantedFrom place control own fec
    by flow (Some (Remote edge rd import source_as)) c = selective_wanted place control own edge flow.source flow.group fec c
    by flow (Some (Site site)) c = absurd c
    by flow None c = absurd c

-- ---- whose tunnel it is

module _ (scenario : Scenario) (cores : Cores) (world : World) (k : Known scenario cores world) where
  abbrev sc : Scenario
  sc = scenario_of world

  abbrev w : EdgeNetwork
  w = net scenario cores world k

  -- A tunnel that a VRF imports from an edge, and on which a VRF of that edge transmits, is one of its VPN.
  pub transmits_in_vpn : (n : NodeId) (own : OwnVrf) → Among own (own_vrfs (place_of w n)) → (p : NodeId) (table : Taken)
      → Among (p, table) (maps.entries (w.node n).peers) → (sender : OwnVrf) → slice_get sc.vrfs sender.id.0 ≡ Some sender.vrf → sender.vrf.edge ≡ p
      → (source group : Addr) → is_imported_from (place_of w n) own (transmit_tunnel (place_of w p) (w.node p) sender source group) (p, table) ≡ true
      → AreOfOneVpn sender own
  transmits_in_vpn n own a p table listed sender known at source group h =
      let number : ℕ = number_by (transmitted (selections_of (w.node p) sender.id) source group) in
      let fec : Fec = transmit_tunnel (place_of w p) (w.node p) sender source group in
      let i = import_of (place_of w n) own fec (p, table) h in
      let got : maps.get (w.node n).peers p ≡ Some table = entry_get node_cmp_total (w.node n).peers p table listed in
      let taken : maps.get (taken_from (w.node n) p) i.key ≡ Some i.taken =
      ap (λ (t : Taken). maps.get t i.key) (taken_is (w.node n) p table got) ∙ entry_get key_total table i.key i.taken i.listed in
      let route : IsTunnelRoute sc p i.taken.value fec = k.step.2.edges.2.honest.taken p n i.key i.taken taken fec i.imports.tunnel in
      let few = (vrf_rules_at sc k.rules sender.id.0 sender.vrf known).number.1 in
      let small : number < 1048576 = number_small (w.node p) sender.id source group (k.step.2.base.numbers p) in
      let mine : is_own_tunnel sc fec sender.vrf ≡ true =
      subst (λ (e : NodeId). is_own_tunnel sc (lsp (addr_of sc e) (tunnel_number sender.vrf number)) sender.vrf ≡ true) at
      (own_passes sc sender.vrf number few small) in
      let other_few = (vrf_rules_at sc k.rules route.id.0 route.vrf route.known).number.1 in
      let edges : route.vrf.edge ≡ p = λ j. record { 0 = route.at_root j } in
      let theirs : is_own_tunnel sc fec route.vrf ≡ true =
      subst (λ (f : Fec). is_own_tunnel sc f route.vrf ≡ true)
      (ap (λ (e : NodeId). lsp (addr_of sc e) (tunnel_number route.vrf route.number)) edges ∙ sym route.tunnel)
      (own_passes sc route.vrf route.number other_few route.small) in
      let ids : sender.id.0 ≡ route.id.0 =
      one_vrf sc k.rules fec sender.id.0 route.id.0 sender.vrf route.vrf known route.known (own_tunnel sc fec sender.vrf mine)
      (own_tunnel sc fec route.vrf theirs) in
      let vrfs : sender.vrf ≡ route.vrf = same_Some sender.vrf route.vrf (sym known ∙ ap (slice_get sc.vrfs) ids ∙ route.known) in
      admitted_vpn w p n sender own i.taken.value.comms k.rules (own_among (place_of w p) sender.id sender.vrf known (ap (λ (e : NodeId). e.0) at)) a
      (route.targets ∙ ap (λ (v : Vrf). target_comms v) (sym vrfs)) i.imports.admitted
