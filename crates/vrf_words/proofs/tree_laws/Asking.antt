-- Which interfaces ask for a flow, by the tree of their VRF.
use Rattle.std.proofs.Common.{◌≡◌, ℕ, Bool, true, false, cond, inl, inr, List, map, filter, Option, Some, None, refl, sym, ap, subst, ◌∙◌}
use Rattle.std.specs.List.{list_any}
use Rattle.std.specs.FinMap as maps
use Rattle.std.specs.FinMap.{IsAntisymmetric}
use Rattle.std.specs.FinSet as sets
use Rattle.std.specs.FinSet.{FinSet}
use Rattle.std.specs.Ordering.{is_eq, eq_by_cmp}
use Rattle.std.specs.declared.cmp.Ordering.{Ordering}
use Rattle.std.specs.Cmp.{IsTotalOrder, tied_itself, Equal-is}
use Rattle.std.proofs.lemmas.Bool.{and_parts, and_from, or_cases, or_left, or_right}
use Rattle.std.proofs.lemmas.Option.{cond_some}
use Rattle.mv_base.specs.Lists.{Among}
use Rattle.mv_base.specs.declared.ids.IfaceId.{IfaceId}
use Rattle.mv_base.specs.declared.rd.Rd.{Rd}
use Rattle.scenario_defs.specs.Vpn.{is_of_vrf}
use Rattle.scenario_defs.specs.declared.event.JoinEntry.{JoinEntry}
use Rattle.scenario_defs.specs.declared.event.JoinEntry.TheVariants as entries
use Rattle.scenario_defs.specs.declared.scenario.Iface.{Iface}
use Rattle.edge_words.specs.edge_defs.pim_defs.Asking.{asks_by}
use Rattle.edge_words.specs.edge_defs.pim_defs.Entries.{expiry_at}
use Rattle.vrf_words.specs.declared.tree_defs.flow.ActiveRoute.{ActiveRoute}
use Rattle.vrf_words.specs.declared.tree_defs.flow.Flow.{Flow}
use Rattle.vrf_words.specs.declared.tree_defs.flow.Note.{Note}
use Rattle.vrf_words.specs.declared.tree_defs.flow.SiteIface.{SiteIface}
use Rattle.vrf_words.specs.tree_defs.Flows as trees
use Rattle.vrf_words.specs.tree_defs.Keys.{same_flow}
use Rattle.vrf_words.specs.tree_defs.Trees.{TreeData}
use Rattle.vrf_words.proofs.tree_defs.KeyLemmas.{note_total, note_exact, active_total, active_exact, same_flow_equal, same_flow_itself}
use Rattle.edge_words.specs.bgp_messages.declared.bgp_attributes.key.Key.{Key}
use Rattle.edge_words.specs.bgp_messages.declared.bgp_attributes.key.Key.TheVariants.{Mcast, Unicast}
use Rattle.edge_words.specs.bgp_messages.bgp_values.declared.mvpn_nlri.route.Afi.{Afi}
use Rattle.edge_words.specs.bgp_messages.bgp_values.declared.mvpn_nlri.route.Route.TheVariants as routes
use Rattle.edge_words.specs.edge_defs.Edge.{Control}
use Rattle.edge_words.specs.edge_defs.Flows.{is_active, is_asking, ifaces_of, asking_ifaces, is_flow}
use Rattle.edge_words.specs.edge_defs.Imported.{FlowRoute, active_of, is_admitted, taken_from}
use Rattle.edge_words.specs.edge_defs.Originated.{is_iface_of}
use Rattle.edge_words.specs.edge_defs.Place.{EdgePlace, OwnVrf}
use Rattle.edge_words.proofs.calm_laws.Lists.{passes, any_from, any_among, among_map, map_among}
use Rattle.edge_words.specs.Asked.{IsNoted, IsTold, IsKnown}
use Rattle.edge_words.proofs.Flows.{is_known, known_is}
use Rattle.edge_words.proofs.Members.{either, iface_of, of_iface}
use Rattle.vrf_words.specs.tree_laws.TreeOf.{IsTreeOf, IsActiveTaken, edge_note, flow_route, iface_id}
use Rattle.vrf_words.proofs.tree_laws.Ifaces.{mapped_filter, ids_of, site_at}

-- ---- members of a set

module _ {K : Type 0} {R : K → K → Ordering} (total : IsTotalOrder R) (exact : IsAntisymmetric R) where
  pub item_contained : (s : FinSet R) (k : K) → Among k (sets.items s) → sets.contains s k ≡ true
  item_contained s k a = sets.contains-items s k ∙ any_from (eq_by_cmp R k) k (sets.items s) a (ap is_eq (tied_itself total k))

  pub contained_item : (s : FinSet R) (k : K) → sets.contains s k ≡ true → Among k (sets.items s)
  contained_item s k h =
      let found = any_among (eq_by_cmp R k) (sets.items s) (sym (sets.contains-items s k) ∙ h) in
      subst (λ (x : K). Among x (sets.items s)) (sym (exact k found.0 ((Equal-is (R k found.0)).0 found.2))) found.1

-- ---- a Source Active route

none_active : {A : Type 0} (route : FlowRoute) → None ≡ Some route → A
none_active route h = absurd cc

one_route : (a b : FlowRoute) → Some a ≡ Some b → a ≡ b
one_route a b h = cc

active_key : (key : Key) (route : FlowRoute) → active_of key ≡ Some route
    → (afi : Afi) × (rd : Rd) × (key ≡ Mcast afi (routes.Active rd route.source route.group))
active_key (Mcast afi (routes.Active rd source group)) route h =
    let one = one_route (record { source = source; group = group }) route h in
    (afi, rd, λ i. Mcast afi (routes.Active rd (one i).source (one i).group))
active_key (Unicast rd prefix) route h = none_active route h
active_key (Mcast afi (routes.Intra rd originator)) route h = none_active route h
active_key (Mcast afi (routes.Inter rd source_as)) route h = none_active route h
active_key (Mcast afi (routes.Selective rd source group originator)) route h = none_active route h
active_key (Mcast afi (routes.Leaf key originator)) route h = none_active route h
active_key (Mcast afi (routes.SharedJoin rd source_as source group)) route h = none_active route h
active_key (Mcast afi (routes.SourceJoin rd source_as source group)) route h = none_active route h
active_key (Mcast afi (routes.Other kind octets)) route h = none_active route h

module _ (place : EdgePlace) (control : Control) (own : OwnVrf) (tree : TreeData) (is : IsTreeOf place control own tree) (flow : Flow) where
  -- ---- sources that are known to send

  noted_there : trees.is_noted tree.vrf.notes flow ≡ true → IsNoted place control own flow.source flow.group
  noted_there h =
      let found = any_among (λ (note : Note). same_flow note.flow flow) (sets.items tree.vrf.notes) h in
      let same : found.0.flow ≡ flow = same_flow_equal found.0.flow flow found.2 in
      let both = and_parts (is_iface_of place.scenario own.id found.0.iface) (sets.contains control.notes (edge_note found.0))
      (sym (is.notes found.0) ∙ item_contained note_total note_exact tree.vrf.notes found.0 found.1) in
      record {
        iface = found.0.iface;
        of_vrf = iface_of place.scenario own.id found.0.iface both.0;
        noted = ap (λ (f : Flow). sets.contains control.notes (edge_note (record { iface = found.0.iface; flow = f }))) (sym same) ∙ both.1;
      }

  noted_here : IsNoted place control own flow.source flow.group → trees.is_noted tree.vrf.notes flow ≡ true
  noted_here noted =
      let note : Note = record { iface = noted.iface; flow = flow } in
      any_from (λ (n : Note). same_flow n.flow flow) note (sets.items tree.vrf.notes)
      (contained_item note_total note_exact tree.vrf.notes note
      (is.notes note ∙ and_from _ _ (of_iface place.scenario own.id noted.iface noted.of_vrf) noted.noted))
      (same_flow_itself flow)

  told_by : (route : ActiveRoute) → route.flow ≡ flow → IsActiveTaken control own route → IsTold control own flow.source flow.group
  told_by route same t =
      let key : Key = Mcast t.afi (routes.Active (record { 0 = route.rd }) route.flow.source route.flow.group) in
      record {
        peer = route.peer;
        key = key;
        route = t.taken;
        taken = t.at;
        active = ap (λ (f : Flow). Some (flow_route f)) same;
        admitted = (cond_some (is_admitted own.vrf t.taken.value.comms) (flow_route route.flow) (flow_route route.flow) t.imported).0;
      }

  announced_there : trees.is_announced tree.vrf.actives flow ≡ true → IsTold control own flow.source flow.group
  announced_there h =
      let found = any_among (λ (route : ActiveRoute). same_flow route.flow flow) (sets.items tree.vrf.actives) h in
      told_by found.0 (same_flow_equal found.0.flow flow found.2)
      ((is.actives found.0).0 (item_contained active_total active_exact tree.vrf.actives found.0 found.1))

  announced_here : IsTold control own flow.source flow.group → trees.is_announced tree.vrf.actives flow ≡ true
  announced_here told =
      let by = active_key told.key (flow_route flow) told.active in
      let route : ActiveRoute = record { peer = told.peer; rd = by.1.0; flow = flow } in
      any_from (λ (r : ActiveRoute). same_flow r.flow flow) route (sets.items tree.vrf.actives)
      (contained_item active_total active_exact tree.vrf.actives route
      ((is.actives route).1 (record {
        afi = by.0;
        taken = told.route;
        at = ap (maps.get (taken_from control told.peer)) (sym by.2) ∙ told.taken;
        imported = passes (is_admitted own.vrf told.route.value.comms) (flow_route flow) told.admitted;
      })))
      (same_flow_itself flow)

  known_there : trees.is_active tree.vrf flow ≡ true → IsKnown place control own flow.source flow.group
  known_there h = elim (or_cases (trees.is_noted tree.vrf.notes flow) (trees.is_announced tree.vrf.actives flow) h) [
    | inl noted ↦ inl (noted_there noted)
    | inr told ↦ inr (announced_there told)
  ]

  known_here : IsKnown place control own flow.source flow.group → trees.is_active tree.vrf flow ≡ true
  known_here (inl noted) = or_left (trees.is_noted tree.vrf.notes flow) (trees.is_announced tree.vrf.actives flow) (noted_here noted)
  known_here (inr told) = or_right (trees.is_noted tree.vrf.notes flow) (trees.is_announced tree.vrf.actives flow) (announced_here told)

  pub one_active : trees.is_active tree.vrf flow ≡ is_active place control own flow.source flow.group
  one_active = either (trees.is_active tree.vrf flow) (is_active place control own flow.source flow.group)
      (λ h. known_is place control own flow.source flow.group (known_there h)) (λ h. known_here (is_known place control own flow.source flow.group h))

  -- ---- what an interface asks for

  module _ (now : ℕ) where
    one_expiry : (iface : IfaceId) (entry : JoinEntry) → is_iface_of place.scenario own.id iface ≡ true
        → expiry_at tree.vrf.entries iface entry ≡ expiry_at control.entries iface entry
    one_expiry iface entry h =
        is.entries (record { iface = iface; entry = entry }) ∙ ap (λ (b : Bool). cond b (expiry_at control.entries iface entry) None) h

    one_asks : (iface : IfaceId) → is_iface_of place.scenario own.id iface ≡ true → (site : SiteIface) → site.iface ≡ iface
        → trees.is_asking tree.vrf now flow site ≡ is_asking place now control own flow.source flow.group iface
    one_asks iface h site e =
        ap (λ (at : IfaceId). trees.is_asking tree.vrf now flow (record { iface = at; site = site.site })) e
        ∙ (λ i. asks_by now (one_active i) (one_expiry iface (entries.Source flow.source flow.group) h i)
        (one_expiry iface (entries.Star flow.group) h i) (one_expiry iface (entries.Rpt flow.source flow.group) h i))

    of_vrf : (site : SiteIface) → Among site tree.vrf.ifaces → is_iface_of place.scenario own.id site.iface ≡ true
    of_vrf site a =
        let found = site_at own.id place.scenario.ifaces site (subst (λ (all : List SiteIface). Among site all) is.ifaces a) in
        ap (λ (o : Option Iface). elim o [ None ↦ false | Some iface ↦ is_of_vrf own.id iface ]) found.1 ∙ found.2

    pub one_asking : (site : SiteIface) → Among site tree.vrf.ifaces
        → trees.is_asking tree.vrf now flow site ≡ is_asking place now control own flow.source flow.group site.iface
    one_asking site a = one_asks site.iface (of_vrf site a) site refl

    pub ids : map iface_id tree.vrf.ifaces ≡ ifaces_of place own
    ids = ap (map iface_id) is.ifaces ∙ ids_of own.id 0 place.scenario.ifaces

    pub all_asking : map iface_id (trees.asking tree.vrf now flow) ≡ asking_ifaces place now control own flow.source flow.group
    all_asking =
        mapped_filter iface_id (trees.is_asking tree.vrf now flow) (is_asking place now control own flow.source flow.group) tree.vrf.ifaces one_asking
        ∙ ap (filter (is_asking place now control own flow.source flow.group)) ids

    any_mapped : (p : SiteIface → Bool) (q : IfaceId → Bool) (xs : List SiteIface) → ((x : SiteIface) → Among x xs → p x ≡ q (iface_id x))
        → list_any p xs ≡ list_any q (map iface_id xs)
    any_mapped p q xs h = either (list_any p xs) (list_any q (map iface_id xs))
        (λ t. let found = any_among p xs t in
        any_from q (iface_id found.0) (map iface_id xs) (among_map iface_id found.0 xs found.1) (sym (h found.0 found.1) ∙ found.2))
        (λ t. let found = any_among q (map iface_id xs) t in let by = map_among iface_id found.0 xs found.1 in
        any_from p by.0 xs by.1 (h by.0 by.1 ∙ (ap q (sym by.2) ∙ found.2)))

    pub one_flow : list_any (trees.is_asking tree.vrf now flow) tree.vrf.ifaces ≡ is_flow place now control own (flow_route flow)
    one_flow =
        any_mapped (trees.is_asking tree.vrf now flow) (is_asking place now control own flow.source flow.group) tree.vrf.ifaces one_asking
        ∙ ap (list_any (is_asking place now control own flow.source flow.group)) ids
