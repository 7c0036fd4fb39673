-- Where a datagram leaves and goes on.
use Rattle.std.proofs.Common.{◌≡◌, ◌↔◌, ℕ, ◌==◌, ◌&&◌, Bool, true, false, cond, not, ◌⊎◌, inl, inr, List, [], Option, Some, None, refl, sym, ap, subst, ◌∙◌}
use Rattle.std.specs.Prelude.{slice_get}
use Rattle.std.specs.List.{filter, flat_map}
use Rattle.std.specs.FinMap as maps
use Rattle.std.specs.FinSet as sets
use Rattle.std.proofs.lemmas.Bool.{and_parts, and_from, eq-eqb, eqb-true}
use Rattle.mv_base.specs.Address.{same_addr, same_addr_equiv}
use Rattle.mv_base.specs.declared.addr.Addr.{Addr}
use Rattle.mv_base.specs.declared.ids.IfaceId.{IfaceId}
use Rattle.mv_base.specs.declared.ids.NodeId.{NodeId}
use Rattle.mv_base.specs.declared.ids.SiteId.{SiteId}
use Rattle.mv_base.specs.declared.rd.Rd.{Rd}
use Rattle.label_defs.specs.mldp.declared.mldp_fec.fec.Fec.{Fec}
use Rattle.bgp_messages.specs.declared.bgp_attributes.key.Key.{Key}
use Rattle.scenario_defs.specs.Vpn.{is_of_site}
use Rattle.scenario_defs.specs.declared.scenario.Iface.{Iface}
use Rattle.scenario_defs.specs.declared.scenario.Scenario.{Scenario}
use Rattle.label_defs.specs.LabelData.{LabelData, same_fec, use_of, branches_of}
use Rattle.label_defs.specs.Members.{in_order}
use Rattle.label_defs.specs.declared.branch.Branch.{Branch}
use Rattle.label_defs.specs.declared.label_use.LabelUse.{LabelUse}
use Rattle.label_defs.specs.declared.label_use.LabelUse.TheVariants as uses
use Rattle.label_defs.proofs.KeyLemmas.{branch_cmp_total, branch_cmp_exact, same_fec_equal, same_fec_from, node_equal, node_itself}
use Rattle.selective_defs.specs.Selective.{Among}
use Rattle.edge_defs.specs.Datagrams.{Fate, discarded, is_from_site, is_from_edge, is_outside, entering_fate, is_tunnel, selective_fec, is_route_of, is_imported_from, outs_from, outs_at, outs_of, tree_of, arriving_fate}
use Rattle.edge_defs.specs.Edge.{Upstream, Site, Remote, Import, TakenRoute, Taken, Control, EdgeData}
use Rattle.edge_defs.specs.Flows.{same_flow, asking_ifaces, is_asking, ifaces_of}
use Rattle.edge_defs.specs.Imported.{FlowRoute, ImportedSelective, found_in, imported_inclusive, imported_selective, imported_join}
use Rattle.edge_defs.specs.Place.{EdgePlace, OwnVrf, addr_of, own_vrfs}
use Rattle.edge_defs.specs.Tunnels.{transmit_tunnel, is_joined_by, is_joined_in}
use Rattle.edge_defs.specs.Upstream.{upstream_for}
use Rattle.edge_words.proofs.calm_laws.Lists.{among_flat_map, flat_map_among, filter_among, among_filter, any_from, any_among, among_found, found_among}
use Rattle.edge_words.specs.Goes.{IsOutside, IsAsking, IsJoined, EntersOut, EntersOn, IsImported, ArrivesOut, ArrivesOn}
use Rattle.edge_words.proofs.Flows.{asks_is, is_asks}
use Rattle.edge_words.proofs.Members.{listed, contained, taken_of, table_of, ifaces_from, ifaces_to, one_flow}

-- ---- tests in words

same_site : (a b : SiteId) → a.0 ≡ b.0 → a ≡ b
same_site a b h = λ i. record { 0 = h i }

from_site : (site : SiteId) (up : Option Upstream) → is_from_site site up ≡ true → up ≡ Some (Site site)
from_site site None h = absurd cc
from_site site (Some (Site own)) h = ap (λ (s : SiteId). Some (Site s)) (same_site own site (eqb-true own.0 site.0 h))
from_site site (Some (Remote edge rd import source_as)) h = absurd cc

site_from : (site : SiteId) (up : Option Upstream) → up ≡ Some (Site site) → is_from_site site up ≡ true
site_from site up h = ap (is_from_site site) h ∙ eq-eqb site.0 site.0 refl

record FromEdge (edge : NodeId) (up : Option Upstream) : Type 0 where
  rd : Rd
  import : Import
  source_as : ℕ
  is : up ≡ Some (Remote edge rd import source_as)

from_edge : (edge : NodeId) (up : Option Upstream) → is_from_edge edge up ≡ true → FromEdge edge up
from_edge edge None h = absurd cc
from_edge edge (Some (Site own)) h = absurd cc
from_edge edge (Some (Remote own rd import source_as)) h =
    record { rd = rd; import = import; source_as = source_as; is = ap (λ (n : NodeId). Some (Remote n rd import source_as)) (node_equal own edge h) }

edge_from : (edge : NodeId) (up : Option Upstream) (rd : Rd) (import : Import) (source_as : ℕ) → up ≡ Some (Remote edge rd import source_as)
    → is_from_edge edge up ≡ true
edge_from edge up rd import source_as h = ap (is_from_edge edge) h ∙ node_itself edge edge refl

not_false : (b : Bool) → not b ≡ true → b ≡ true → ⊥
not_false true h e = absurd cc
not_false false h e = absurd cc

not_true : (b : Bool) → (b ≡ true → ⊥) → not b ≡ true
not_true true h = absurd (h refl)
not_true false h = refl

abbrev outside_test : SiteId → Option Iface → Bool
outside_test site o = elim o [ None ↦ false | Some found ↦ not (is_of_site site found) ]

is_out : (scenario : Scenario) (site : SiteId) (iface : IfaceId) → is_outside scenario site iface ≡ true → IsOutside scenario site iface
is_out scenario site iface h = by (slice_get scenario.ifaces iface.0) refl h
  where
    by : (o : Option Iface) → slice_get scenario.ifaces iface.0 ≡ o → outside_test site o ≡ true → IsOutside scenario site iface
    by None e t = absurd cc
    by (Some found) e t = record { found = found; at = e; of_other = λ same. not_false (is_of_site site found) t (eq-eqb found.site.0 site.0 same) }

out_is : (scenario : Scenario) (site : SiteId) (iface : IfaceId) → IsOutside scenario site iface → is_outside scenario site iface ≡ true
out_is scenario site iface is =
    ap (outside_test site) is.at ∙ not_true (is_of_site site is.found) (λ t. is.of_other (eqb-true is.found.site.0 site.0 t))

-- the branches of a tree
branch_from : (part : LabelData) (fec : Fec) (branch : Branch) → Among branch (branches_of part fec)
    → (sets.contains part.branches branch ≡ true) × (branch.fec ≡ fec)
branch_from part fec branch a =
    let by = filter_among (λ (b : Branch). same_fec b.fec fec) branch (in_order part.branches) a in
    (contained branch_cmp_total branch_cmp_exact part.branches branch by.0, same_fec_equal branch.fec fec by.1)

branch_to : (part : LabelData) (fec : Fec) (branch : Branch) → sets.contains part.branches branch ≡ true → branch.fec ≡ fec
    → Among branch (branches_of part fec)
branch_to part fec branch h e =
    among_filter (λ (b : Branch). same_fec b.fec fec) branch (in_order part.branches) (same_fec_from branch.fec fec e)
    (listed branch_cmp_total branch_cmp_exact part.branches branch h)

none_among : {A : Type 0} {X : Type 0} (b : Bool) (x : X) (xs : List X) → Among x (cond b xs []) → ((b ≡ true) → Among x xs → A) → A
none_among true x xs a k = k refl a
none_among false x xs a k = absurd a

among_when : {X : Type 0} (b : Bool) (x : X) (xs : List X) → b ≡ true → Among x xs → Among x (cond b xs [])
among_when b x xs h a = subst (λ (t : Bool). Among x (cond t xs [])) (sym h) a

-- ---- the interfaces that ask

module _ (place : EdgePlace) (now : ℕ) (control : Control) (own : OwnVrf) (source group : Addr) where
  asking_from : (iface : IfaceId) → Among iface (asking_ifaces place now control own source group) → IsAsking place now control own source group iface
  asking_from iface a =
      let by = filter_among (is_asking place now control own source group) iface (ifaces_of place own) a in
      record { of_vrf = ifaces_from place.scenario own.id iface by.0; asks = asks_is place now control own source group iface by.1 }

  asking_to : (iface : IfaceId) → IsAsking place now control own source group iface → Among iface (asking_ifaces place now control own source group)
  asking_to iface is =
      among_filter (is_asking place now control own source group) iface (ifaces_of place own)
      (is_asks place now control own source group iface is.asks) (ifaces_to place.scenario own.id iface is.of_vrf)

  -- another edge has joined
  pub joined_from : is_joined_in place control own source group ≡ true → IsJoined place control own source group
  joined_from h =
      let peer = any_among (is_joined_by place own source group) (maps.entries control.peers) h in
      let flow = any_among (same_flow source group) (found_in (imported_join place own.vrf) (maps.entries peer.0.1)) peer.2 in
      let found = found_among (imported_join place own.vrf) flow.0 (maps.entries peer.0.1) flow.1 in
      record {
        peer = peer.0.0;
        key = found.0.0;
        route = found.0.1;
        taken = taken_of control peer.0.0 peer.0.1 found.0.0 found.0.1 peer.1 found.1;
        joins = found.2 ∙ ap (λ (f : FlowRoute). Some f) (one_flow source group flow.0 flow.2);
      }

  pub joined_to : IsJoined place control own source group → is_joined_in place control own source group ≡ true
  joined_to is =
      let t = table_of control is.peer is.key is.route is.taken in
      let flow : FlowRoute = record { source = source; group = group } in
      any_from (is_joined_by place own source group) (is.peer, t.table) (maps.entries control.peers) t.of_peer
      (any_from (same_flow source group) flow (found_in (imported_join place own.vrf) (maps.entries t.table))
      (among_found (imported_join place own.vrf) (is.key, is.route) flow (maps.entries t.table) t.among is.joins)
      (and_from (same_addr source source) (same_addr group group) (same_addr_equiv.refl source) (same_addr_equiv.refl group)))

-- ---- a datagram that enters

module _ (place : EdgePlace) (now : ℕ) (edge : EdgeData) (own : OwnVrf) (site : SiteId) (source group : Addr) where
  abbrev is_upstream : Bool
  is_upstream = is_from_site site (upstream_for place edge.control own source group)

  abbrev asking : List IfaceId
  asking = asking_ifaces place now edge.control own source group

  -- the branches that are gone on, where the upstream is the site
  abbrev going : List Branch
  going = cond (is_joined_in place edge.control own source group) (branches_of edge.part (transmit_tunnel place edge.control own source group)) []

  abbrev fate : Bool → Fate
  fate b = cond b (record { outs = filter (is_outside place.scenario site) asking; branches = going }) discarded

  out_from : (iface : IfaceId) (b : Bool) → is_upstream ≡ b → Among iface (fate b).outs → EntersOut place now edge own site source group iface
  out_from iface false e a = absurd a
  out_from iface true e a =
      let by = filter_among (is_outside place.scenario site) iface asking a in
      record {
        upstream = from_site site (upstream_for place edge.control own source group) e;
        asking = asking_from place now edge.control own source group iface by.0;
        outside = is_out place.scenario site iface by.1;
      }

  out_to : (iface : IfaceId) → EntersOut place now edge own site source group iface → Among iface (fate is_upstream).outs
  out_to iface is =
      subst (λ (b : Bool). Among iface (fate b).outs) (sym (site_from site (upstream_for place edge.control own source group) is.upstream))
      (among_filter (is_outside place.scenario site) iface asking (out_is place.scenario site iface is.outside)
      (asking_to place now edge.control own source group iface is.asking))

  pub enters_out : (iface : IfaceId) → Among iface (entering_fate place now edge own site source group).outs ↔ EntersOut place now edge own site
      source group iface
  enters_out iface = (out_from iface is_upstream refl, out_to iface)

  on_from : (branch : Branch) (b : Bool) → is_upstream ≡ b → Among branch (fate b).branches → EntersOn place edge own site source group branch
  on_from branch false e a = absurd a
  on_from branch true e a =
      let tunnel = transmit_tunnel place edge.control own source group in
      none_among (is_joined_in place edge.control own source group) branch (branches_of edge.part tunnel) a
      (λ joined here. (let by = branch_from edge.part tunnel branch here in record {
        upstream = from_site site (upstream_for place edge.control own source group) e;
        joined = joined_from place now edge.control own source group joined;
        has = by.0;
        of_tunnel = by.1;
      }))

  on_to : (branch : Branch) → EntersOn place edge own site source group branch → Among branch (fate is_upstream).branches
  on_to branch is =
      let tunnel = transmit_tunnel place edge.control own source group in
      subst (λ (b : Bool). Among branch (fate b).branches) (sym (site_from site (upstream_for place edge.control own source group) is.upstream))
      (among_when (is_joined_in place edge.control own source group) branch (branches_of edge.part tunnel)
      (joined_to place now edge.control own source group is.joined)
      (branch_to edge.part tunnel branch is.has is.of_tunnel))

  pub enters_on : (branch : Branch) → Among branch (entering_fate place now edge own site source group).branches ↔ EntersOn place edge own site source
      group branch
  enters_on branch = (on_from branch is_upstream refl, on_to branch)

-- ---- routes of a tunnel

tunnel_from : (fec : Fec) (o : Option Fec) → is_tunnel fec o ≡ true → o ≡ Some fec
tunnel_from fec None h = absurd cc
tunnel_from fec (Some own) h = ap (λ (f : Fec). Some f) (same_fec_equal own fec h)

tunnel_to : (fec : Fec) (o : Option Fec) → o ≡ Some fec → is_tunnel fec o ≡ true
tunnel_to fec o h = ap (is_tunnel fec) h ∙ same_fec_from fec fec refl

selective_from : (fec : Fec) (o : Option ImportedSelective) → selective_fec o ≡ Some fec
    → (imported : ImportedSelective) × (o ≡ Some imported) × (imported.fec ≡ fec)
selective_from fec None h = absurd cc
selective_from fec (Some imported) h = (imported, refl, (let same : imported.fec ≡ fec = cc in same))

either_true : (b c : Bool) → cond b true c ≡ true → (b ≡ true) ⊎ (c ≡ true)
either_true true c h = inl refl
either_true false c h = inr h

true_first : (b c : Bool) → b ≡ true → cond b true c ≡ true
true_first b c h = ap (λ (t : Bool). cond t true c) h

true_second : (b c : Bool) → c ≡ true → cond b true c ≡ true
true_second true c h = refl
true_second false c h = h

module _ (place : EdgePlace) (control : Control) (own : OwnVrf) (fec : Fec) where
  pub imported_from : (peer : NodeId) (table : Taken) → Among (peer, table) (maps.entries control.peers)
      → is_imported_from place own fec (peer, table) ≡ true → IsImported place control own peer fec
  imported_from peer table a h =
      let entry = any_among (is_route_of place own peer fec) (maps.entries table) h in
      let inclusive = imported_inclusive own.vrf (addr_of place.scenario peer) entry.0 in
      let selective = imported_selective own.vrf (addr_of place.scenario peer) entry.0 in
      record {
        key = entry.0.0;
        route = entry.0.1;
        taken = taken_of control peer table entry.0.0 entry.0.1 a entry.1;
        of_tunnel = elim (either_true (is_tunnel fec inclusive) (is_tunnel fec (selective_fec selective)) entry.2) [
          | inl t ↦ inl (tunnel_from fec inclusive t)
          | inr t ↦ inr (selective_from fec selective (tunnel_from fec (selective_fec selective) t))
        ];
      }

  pub imported_to : (peer : NodeId) (table : Taken) (key : Key) (route : TakenRoute) → Among (key, route) (maps.entries table)
      → (imported_inclusive own.vrf (addr_of place.scenario peer) (key, route) ≡ Some fec)
      ⊎ ((imported : ImportedSelective) × (imported_selective own.vrf (addr_of place.scenario peer) (key, route) ≡ Some imported)
      × (imported.fec ≡ fec))
      → is_imported_from place own fec (peer, table) ≡ true
  imported_to peer table key route a (inl h) =
      any_from (is_route_of place own peer fec) (key, route) (maps.entries table) a
      (true_first (is_tunnel fec (imported_inclusive own.vrf (addr_of place.scenario peer) (key, route)))
      (is_tunnel fec (selective_fec (imported_selective own.vrf (addr_of place.scenario peer) (key, route))))
      (tunnel_to fec (imported_inclusive own.vrf (addr_of place.scenario peer) (key, route)) h))
  imported_to peer table key route a (inr h) =
      any_from (is_route_of place own peer fec) (key, route) (maps.entries table) a
      (true_second (is_tunnel fec (imported_inclusive own.vrf (addr_of place.scenario peer) (key, route)))
      (is_tunnel fec (selective_fec (imported_selective own.vrf (addr_of place.scenario peer) (key, route))))
      (tunnel_to fec (selective_fec (imported_selective own.vrf (addr_of place.scenario peer) (key, route)))
      (ap selective_fec h.1 ∙ ap (λ (f : Fec). Some f) h.2)))

-- ---- a datagram that arrives

module _ (place : EdgePlace) (now : ℕ) (edge : EdgeData) (from : NodeId) (label : ℕ) (source group : Addr) where
  abbrev control : Control
  control = edge.control

  outs_own : (fec : Fec) (own : OwnVrf) (iface : IfaceId) → use_of edge.part label ≡ Some (uses.Mapped fec from)
      → sets.contains edge.part.leaves fec ≡ true → Among own (own_vrfs place)
      → Among iface (outs_at place now control fec source group own) → ArrivesOut place now edge from label source group iface
  outs_own fec own iface mapped leaf a b =
      let peer = flat_map_among (outs_from place now control own fec source group) iface (maps.entries control.peers) b in
      let up = upstream_for place control own source group in
      none_among (is_imported_from place own fec peer.0 && is_from_edge peer.0.0 up) iface (asking_ifaces place now control own source group) peer.2
      (λ tests here. (
      let both = and_parts (is_imported_from place own fec peer.0) (is_from_edge peer.0.0 up) tests in
      let by = from_edge peer.0.0 up both.1 in
      record {
        fec = fec;
        mapped = mapped;
        leaf = leaf;
        own = own;
        of_edge = a;
        peer = peer.0.0;
        imported = imported_from place control own fec peer.0.0 peer.0.1 peer.1 both.0;
        rd = by.rd;
        import = by.import;
        source_as = by.source_as;
        upstream = by.is;
        asking = asking_from place now control own source group iface here;
      }))

  outs_tree : (fec : Fec) (iface : IfaceId) → use_of edge.part label ≡ Some (uses.Mapped fec from)
      → Among iface (outs_of place now edge fec source group) → ArrivesOut place now edge from label source group iface
  outs_tree fec iface mapped a =
      none_among (sets.contains edge.part.leaves fec) iface (flat_map (outs_at place now control fec source group) (own_vrfs place)) a
      (λ leaf here. (let own = flat_map_among (outs_at place now control fec source group) iface (own_vrfs place) here in
      outs_own fec own.0 iface mapped leaf own.1 own.2))

  abbrev fate_of : Option Fec → Fate
  fate_of tree =
      elim tree [ None ↦ discarded | Some fec ↦ record { outs = outs_of place now edge fec source group; branches = branches_of edge.part fec } ]

  mapped_by : (usage : Option LabelUse) (fec : Fec) → tree_of from usage ≡ Some fec → usage ≡ Some (uses.Mapped fec from)
  mapped_by None fec h = absurd cc
  mapped_by (Some (uses.Mapped own upstream)) fec h = by (upstream.0 == from.0) refl h
    where
      by : (b : Bool) → (upstream.0 == from.0) ≡ b → cond b (Some own) None ≡ Some fec → Some (uses.Mapped own upstream) ≡ Some (uses.Mapped fec from)
      by true t e = (let same : own ≡ fec = cc in let nodes = node_equal upstream from t in λ i. Some (uses.Mapped (same i) (nodes i)))
      by false t e = absurd cc
  mapped_by (Some (uses.Leaving own upstream)) fec h = absurd cc
  mapped_by (Some (uses.Resting until)) fec h = absurd cc
  mapped_by (Some uses.Free) fec h = absurd cc

  tree_by : (fec : Fec) → use_of edge.part label ≡ Some (uses.Mapped fec from) → tree_of from (use_of edge.part label) ≡ Some fec
  tree_by fec h = ap (tree_of from) h ∙ ap (λ (b : Bool). cond b (Some fec) None) (node_itself from from refl)

  arrive_from : (iface : IfaceId) (tree : Option Fec) → tree_of from (use_of edge.part label) ≡ tree → Among iface (fate_of tree).outs
      → ArrivesOut place now edge from label source group iface
  arrive_from iface None e a = absurd a
  arrive_from iface (Some fec) e a = outs_tree fec iface (mapped_by (use_of edge.part label) fec e) a

  arrive_to : (iface : IfaceId) → ArrivesOut place now edge from label source group iface
      → Among iface (fate_of (tree_of from (use_of edge.part label))).outs
  arrive_to iface is =
      let t = table_of control is.peer is.imported.key is.imported.route is.imported.taken in
      let up = upstream_for place control is.own source group in
      let entry : NodeId × Taken = (is.peer, t.table) in
      let here =
      among_when (is_imported_from place is.own is.fec entry && is_from_edge is.peer up) iface
      (asking_ifaces place now control is.own source group)
      (and_from (is_imported_from place is.own is.fec entry) (is_from_edge is.peer up)
      (imported_to place control is.own is.fec is.peer t.table is.imported.key is.imported.route t.among is.imported.of_tunnel)
      (edge_from is.peer up is.rd is.import is.source_as is.upstream)) (asking_to place now control is.own source group iface is.asking) in
      let at_own = among_flat_map (outs_from place now control is.own is.fec source group) entry iface (maps.entries control.peers) t.of_peer here in
      let all = among_flat_map (outs_at place now control is.fec source group) is.own iface (own_vrfs place) is.of_edge at_own in
      subst (λ (tree : Option Fec). Among iface (fate_of tree).outs) (sym (tree_by is.fec is.mapped))
      (among_when (sets.contains edge.part.leaves is.fec) iface (flat_map (outs_at place now control is.fec source group) (own_vrfs place)) is.leaf
      all)

  pub arrives_out : (iface : IfaceId) → Among iface (arriving_fate place now edge from label source group).outs ↔ ArrivesOut place now edge from label
      source group iface
  arrives_out iface = (arrive_from iface (tree_of from (use_of edge.part label)) refl, arrive_to iface)

  go_from : (branch : Branch) (tree : Option Fec) → tree_of from (use_of edge.part label) ≡ tree → Among branch (fate_of tree).branches
      → ArrivesOn edge from label branch
  go_from branch None e a = absurd a
  go_from branch (Some fec) e a =
      let by = branch_from edge.part fec branch a in
      record { fec = fec; mapped = mapped_by (use_of edge.part label) fec e; has = by.0; of_tree = by.1 }

  go_to : (branch : Branch) → ArrivesOn edge from label branch → Among branch (fate_of (tree_of from (use_of edge.part label))).branches
  go_to branch is =
      subst (λ (tree : Option Fec). Among branch (fate_of tree).branches) (sym (tree_by is.fec is.mapped))
      (branch_to edge.part is.fec branch is.has is.of_tree)

  pub arrives_on : (branch : Branch) → Among branch (arriving_fate place now edge from label source group).branches ↔ ArrivesOn edge from label branch
  arrives_on branch = (go_from branch (tree_of from (use_of edge.part label)) refl, go_to branch)
