-- Whose the tunnels are that are wanted, and why routes are taken.
use Rattle.std.proofs.Common.{◌≡◌, Bool, List, map, filter, Some, None, inl, inr, sym, ap, subst, ◌∙◌}
use Rattle.std.proofs.lemmas.Option.{none-some, same_Some}
use Rattle.std.specs.Prelude.{slice_get}
use Rattle.std.specs.FinMap as maps
use Rattle.mv_base.specs.Lists.{Among}
use Rattle.mv_base.specs.Number.{◌>>?◌, only_if}
use Rattle.mv_base.specs.declared.addr.Addr.{Addr}
use Rattle.mv_base.specs.declared.ids.NodeId.{NodeId}
use Rattle.bgp_messages.specs.declared.bgp_attributes.key.Key.{Key}
use Rattle.label_defs.specs.Keys.{node_cmp}
use Rattle.label_defs.specs.Members.{in_order}
use Rattle.label_defs.specs.mldp.declared.mldp_fec.fec.Fec.{Fec}
use Rattle.label_defs.proofs.KeyLemmas.{fec_cmp_exact, fec_cmp_total, node_cases, node_cmp_total}
use Rattle.scenario_defs.specs.declared.scenario.Scenario.{Scenario}
use Rattle.scenario_defs.specs.declared.scenario.Vrf.{Vrf}
use Rattle.edge_defs.specs.Edge.{Control, Taken, TakenRoute}
use Rattle.edge_defs.specs.Imported.{ImportedSelective, imported_inclusive, imported_selective, inclusive_of, is_admitted, selective_of, taken_from, tunnel_by}
use Rattle.edge_defs.specs.Keys.{Table, Value}
use Rattle.edge_defs.specs.Place.{EdgePlace, OwnVrf, addr_of, own_vrfs}
use Rattle.edge_defs.specs.Tunnels.{leaves}
use Rattle.edge_defs.specs.pim_defs.Entries.{Entries}
use Rattle.edge_defs.proofs.KeyLemmas.{key_total}
use Rattle.vrf_words.proofs.edge_words.Leaves.{leaf_is, learned_is}
use Rattle.vrf_words.proofs.edge_words.Members.{contained, table_of}
use Rattle.vrf_words.proofs.edge_words.calm_laws.Lists.{filter_among, flat_map_among, map_among}
use Rattle.vrf_words.proofs.edge_words.calm_laws.Maps.{entry_get}
use Rattle.vrf_words.proofs.edge_words.calm_laws.Upstreams.{chained}
use Rattle.vrf_words.proofs.edge_words.calm_laws.Vrfs.{own_at, own_edge}
use Rattle.vrf_words.proofs.edge_words.edge_laws.Taken.{put_other}
use Rattle.network_defs.specs.Costs.{no_core}
use Rattle.network_laws.proofs.core_laws.CoresFound.{some_cores}
use Rattle.vrf_words.proofs.tree_laws.Leaving.{root_by}
use Rattle.probe_defs.specs.Lines.{IsProbe, joins_of}
use Rattle.probe_defs.specs.Probed.{Probed, admitted, edge_with, joined, table_of as table_by, taken_at_once}
use Rattle.probe_defs.specs.Imports.{Import}
use Rattle.probe_defs.specs.declared.probe.ProbeLine.{ProbeLine}
use Rattle.probe_defs.specs.declared.probe.ProbeReport.{ProbeReport}
use Rattle.edge_probe.specs.Targets.{HasTarget}
use Rattle.edge_probe.proofs.ProbeLemmas.{is_told}

-- ---- roots

only_peer : (peer : NodeId) (taken : Taken) (q : NodeId) (table : Taken)
    → Among (q, table) (maps.entries (maps.insert {R = node_cmp} maps.empty peer taken)) → q ≡ peer
only_peer peer taken q table a = elim (node_cases q peer) [
  | inl same ↦ same
  | inr ne ↦
      (let none : maps.get (maps.insert {R = node_cmp} maps.empty peer taken) q ≡ None =
      put_other maps.empty peer taken q ne ∙ maps.get-empty node_cmp q in
      absurd (none-some table (sym none ∙ entry_get node_cmp_total (maps.insert {R = node_cmp} maps.empty peer taken) q table a)))
]

-- the tunnel of a route that a VRF imports from the peer of that address
inclusive_root : (vrf : Vrf) (addr : Addr) (key : Key) (route : TakenRoute) (fec : Fec) → imported_inclusive vrf addr (key, route) ≡ Some fec
    → fec.root ≡ addr
inclusive_root vrf addr key route fec e =
    let first =
    chained (inclusive_of key) (λ originator. only_if (is_admitted vrf route.value.comms) route.value >>? λ value. tunnel_by addr originator
    value) fec e in
    let second = chained (only_if (is_admitted vrf route.value.comms) route.value) (λ value. tunnel_by addr first.0 value) fec first.2 in
    root_by addr first.0 second.0 fec second.2

selective_root : (vrf : Vrf) (addr : Addr) (key : Key) (route : TakenRoute) (imported : ImportedSelective)
    → imported_selective vrf addr (key, route) ≡ Some imported → imported.fec.root ≡ addr
selective_root vrf addr key route imported e =
    let first =
    chained (selective_of key) (λ own. only_if (is_admitted vrf route.value.comms) route.value >>? λ value. tunnel_by addr own.originator value
    >>? λ fec. Some (record { route = own; fec = fec })) imported e in
    let second =
    chained (only_if (is_admitted vrf route.value.comms) route.value)
    (λ value. tunnel_by addr first.0.originator value >>? λ fec. Some (record { route = first.0; fec = fec })) imported first.2 in
    let third = chained (tunnel_by addr first.0.originator second.0) (λ fec. Some (record { route = first.0; fec = fec })) imported second.2 in
    ap (λ (i : ImportedSelective). i.fec.root) (sym (same_Some (record { route = first.0; fec = third.0 }) imported third.2))
    ∙ root_by addr first.0.originator second.0 third.0 third.1

module _ (place : EdgePlace) (peer : NodeId) (table : Table) (entries : Entries) where
  abbrev control : Control
  control = edge_with place peer table entries

  address : (own : NodeId) (key : Key) (route : TakenRoute) → maps.get (taken_from control own) key ≡ Some route
      → addr_of place.scenario own ≡ addr_of place.scenario peer
  address own key route got =
      let t = table_of control own key route got in
      ap (addr_of place.scenario) (only_peer peer (taken_at_once table) own t.table t.of_peer)

  root_is : (fec : Fec) → Among fec (in_order (leaves place control)) → fec.root ≡ addr_of place.scenario peer
  root_is fec a = elim ((leaf_is place control fec).0 (contained fec_cmp_total fec_cmp_exact (leaves place control) fec a)) [
    | inl is ↦ inclusive_root is.own.vrf (addr_of place.scenario is.peer) is.key is.route fec is.imported ∙ address is.peer is.key is.route is.taken
    | inr is ↦
        (let learned = (learned_is place control is.own is.edge is.route).0 is.wanted.among in
        ap (λ (f : Fec). f.root) (sym is.of_tunnel ∙ learned.of_tunnel)
        ∙ selective_root is.own.vrf (addr_of place.scenario is.edge) learned.key learned.route learned.imported learned.is
        ∙ address is.edge learned.key learned.route learned.taken)
  ]

pub wanted_root : (scenario : Scenario) (edge peer : NodeId) (lines : List ProbeLine) (report : ProbeReport) → IsProbe scenario edge peer lines
    → Probed scenario edge peer lines report → (fec : Fec) → Among fec report.wants
    → fec.root ≡ addr_of scenario peer
wanted_root scenario edge peer lines report asked told fec a =
    let core = is_told scenario asked.rules some_cores in
    let place : EdgePlace = record { scenario = scenario; core = core.0; me = edge } in
    root_is place peer (table_by told.messages) (joined scenario (joins_of lines)) fec
    (subst (λ (fecs : List Fec). Among fec fecs) (told.wants core.0 core.1) a)

-- ---- targets

pub has_target : (scenario : Scenario) (edge peer : NodeId) (lines : List ProbeLine) (report : ProbeReport)
    → (told : Probed scenario edge peer lines report) → (import : Import) → Among import report.imports
    → HasTarget scenario edge (table_by told.messages) import
has_target scenario edge peer lines report told import a =
    let table : Table = table_by told.messages in
    let place : EdgePlace = record { scenario = scenario; core = no_core; me = edge } in
    let taken : OwnVrf → List Import = λ own. map (λ key. record { vrf = own.id; key = key }) (admitted own.vrf table) in
    let by = flat_map_among taken import (own_vrfs place) (subst (λ (imports : List Import). Among import imports) told.imports a) in
    let own : OwnVrf = by.0 in
    let admits : Key × Value → Bool = λ entry. is_admitted own.vrf entry.1.comms in
    let key = map_among (λ (k : Key). record { vrf = own.id; key = k }) import (admitted own.vrf table) by.2 in
    let entry = map_among (λ (e : Key × Value). e.0) key.0 (filter admits (maps.entries table)) key.1 in
    let listed = filter_among admits entry.0 (maps.entries table) entry.1 in
    let same : import.key ≡ entry.0.0 = ap (λ (i : Import). i.key) key.2 ∙ entry.2 in
    record {
      vrf = own.vrf;
      is_vrf = ap (λ (i : Import). slice_get scenario.vrfs i.vrf.0) key.2 ∙ own_at place own by.1;
      of_edge = own_edge place own by.1;
      value = entry.0.1;
      has = ap (maps.get table) same ∙ entry_get key_total table entry.0.0 entry.0.1 listed.0;
      target = listed.1;
    }
