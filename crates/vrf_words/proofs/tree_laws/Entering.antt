-- A datagram that enters at a VRF goes where the VRF's tree says.
use Rattle.std.proofs.Common.{◌≡◌, ◌↔◌, ℕ, ◌==◌, not, Bool, true, false, cond, List, [], ◌∷◌, map, Option, Some, None, refl, sym, ap, subst, ◌∙◌}
use Rattle.std.specs.List.{filter}
use Rattle.std.specs.FinMap as maps
use Rattle.std.specs.FinMap.{IsAntisymmetric, nat_cmp-IsAntisymmetric, slice_cmp-IsAntisymmetric}
use Rattle.std.specs.FinSet as sets
use Rattle.std.specs.Cmp.{IsTotalOrder}
use Rattle.std.specs.Cmp.Lexicographic.{nat_list_cmp_total}
use Rattle.std.proofs.lemmas.Bool.{eqb-true}
use Rattle.std.proofs.lemmas.Cmp.{on_total, lists_total}
use Rattle.std.proofs.lemmas.Option.{same_Some}
use Rattle.mv_base.specs.Lists.{Among}
use Rattle.mv_base.specs.declared.addr.Addr.{Addr}
use Rattle.mv_base.specs.declared.ids.SiteId.{SiteId}
use Rattle.scenario_defs.specs.Rules.{Rules}
use Rattle.scenario_defs.specs.Vpn.{is_of_site}
use Rattle.scenario_defs.specs.declared.scenario.Iface.{Iface}
use Rattle.selective_defs.specs.Parts.{addr_key}
use Rattle.selective_defs.specs.Selective.{AreDistinct, IsTransmitted, transmitted}
use Rattle.selective_defs.specs.declared.selection.Selection.{Selection}
use Rattle.selective_defs.proofs.PartLemmas.{one_addr}
use Rattle.selective_defs.proofs.TransmittedLemmas.{inclusive_when, transmitted_when}
use Rattle.selective.specs.Roots.{added, lsp_number}
use Rattle.vrf_words.specs.declared.tree_defs.flow.Flow.{Flow}
use Rattle.vrf_words.specs.declared.tree_defs.flow.Origin.TheVariants as places
use Rattle.vrf_words.specs.declared.tree_defs.flow.SiteIface.{SiteIface}
use Rattle.vrf_words.specs.declared.tree_defs.flow.TakenJoin.{TakenJoin}
use Rattle.vrf_words.specs.tree_defs.Flows as trees
use Rattle.vrf_words.specs.tree_defs.Keys.{flow_parts, same_flow}
use Rattle.vrf_words.specs.tree_defs.Trees.{TreeData, join_cmp}
use Rattle.vrf_words.proofs.tree_defs.KeyLemmas.{same_flow_equal, same_flow_itself}
use Rattle.edge_words.specs.label_defs.LabelData.{branches_of}
use Rattle.edge_words.specs.label_defs.declared.branch.Branch.{Branch}
use Rattle.edge_words.specs.edge_defs.Datagrams.{Fate, discarded, entering_fate, is_from_site, is_outside}
use Rattle.edge_words.specs.edge_defs.Edge.{EdgeData, Control, Remote, Selected, Site, Upstream, VrfPattern}
use Rattle.edge_words.specs.edge_defs.Flows.{asking_ifaces}
use Rattle.edge_words.specs.edge_defs.Place.{EdgePlace, OwnVrf, lsp, own_addr, tunnel_number}
use Rattle.edge_words.specs.edge_defs.Tunnels.{is_joined_in, number_by, selection_of, selections_of, transmit_tunnel}
use Rattle.edge_words.specs.edge_defs.Upstream.{known_routes, upstream_for}
use Rattle.edge_words.proofs.edge_defs.KeyLemmas.{pattern_total}
use Rattle.edge_words.proofs.calm_laws.Lists.{any_among, any_from, filter_among, map_among}
use Rattle.edge_words.proofs.calm_laws.Maps.{entry_get}
use Rattle.edge_words.specs.Goes.{IsJoined}
use Rattle.edge_words.specs.Known.{AreNodes}
use Rattle.edge_words.proofs.Goes.{joined_from, joined_to}
use Rattle.edge_words.proofs.Members.{either}
use Rattle.vrf_words.specs.tree_laws.Joined.{has_join, tunnel_for}
use Rattle.vrf_words.specs.tree_laws.TreeOf.{IsJoinTaken, IsTreeOf, choice_of, flow_route, iface_id, site_ifaces}
use Rattle.vrf_words.specs.tree_laws.Whole.{AreWhole}
use Rattle.vrf_words.proofs.tree_laws.Asking.{all_asking, contained_item, item_contained}
use Rattle.vrf_words.proofs.tree_laws.Choices.{choice_is}
use Rattle.vrf_words.proofs.tree_laws.Ifaces.{mapped_filter, site_at}

-- ---- joins

abbrev join_parts : TakenJoin → List (List ℕ)
join_parts join = (join.peer.0 ∷ []) ∷ flow_parts join.flow

pub join_total : IsTotalOrder join_cmp
join_total = on_total join_parts (lists_total nat_list_cmp_total)

pub join_exact : IsAntisymmetric join_cmp
join_exact a b e = by (slice_cmp-IsAntisymmetric (slice_cmp-IsAntisymmetric nat_cmp-IsAntisymmetric) (join_parts a) (join_parts b) e)
  where
    by : join_parts a ≡ join_parts b → a ≡ b
    by h =
        let peer : a.peer.0 ≡ b.peer.0 = cc in
        let from : addr_key a.flow.source ≡ addr_key b.flow.source = cc in
        let to : addr_key a.flow.group ≡ addr_key b.flow.group = cc in
        let source = one_addr a.flow.source b.flow.source from in
        let group = one_addr a.flow.group b.flow.group to in
        λ i. record { peer = record { 0 = peer i }; flow = record { source = source i; group = group i } }

-- ---- selections

-- the selection by which a flow is transmitted is one of the same selections in any order
pub one_transmitted : (xs ys : List Selection) (source group : Addr) → ((s : Selection) → Among s xs ↔ Among s ys) → AreDistinct ys
    → transmitted xs source group ≡ transmitted ys source group
one_transmitted xs ys source group same distinct = by (transmitted xs source group) refl
  where
    xs_distinct : AreDistinct xs
    xs_distinct one other a b e = distinct one other ((same one).0 a) ((same other).0 b) e

    carried : (s : Selection) → IsTransmitted xs source group s → IsTransmitted ys source group s
    carried s t = record { among = (same s).0 t.among; matches = t.matches; run = t.run; most = λ o a. t.most o ((same o).1 a) }

    by : (o : Option Selection) → transmitted xs source group ≡ o → o ≡ transmitted ys source group
    by (Some s) e = sym ((transmitted_when ys source group s distinct).1 (carried s ((transmitted_when xs source group s xs_distinct).0 e)))
    by None e = sym ((inclusive_when ys source group).1 (λ s a. (inclusive_when xs source group).0 e s ((same s).1 a)))

pub selections_distinct : (place : EdgePlace) (control : Control) (own : OwnVrf) → AreDistinct (selections_of control own.id)
selections_distinct place control own one other a b e =
    let test : VrfPattern × Selected → Bool = λ entry. entry.0.vrf.0 == own.id.0 in
    let x = map_among selection_of one (filter test (maps.entries control.selections)) a in
    let y = map_among selection_of other (filter test (maps.entries control.selections)) b in
    let p = filter_among test x.0 (maps.entries control.selections) x.1 in
    let q = filter_among test y.0 (maps.entries control.selections) y.1 in
    let numbers = eqb-true x.0.0.vrf.0 own.id.0 p.1 ∙ sym (eqb-true y.0.0.vrf.0 own.id.0 q.1) in
    let patterns : x.0.0.pattern ≡ y.0.0.pattern = ap (λ (s : Selection). s.pattern) (sym x.2) ∙ e ∙ ap (λ (s : Selection). s.pattern) y.2 in
    let keys : x.0.0 ≡ y.0.0 = λ i. record { vrf = record { 0 = numbers i }; pattern = patterns i } in
    let values =
    same_Some x.0.1 y.0.1 (sym (entry_get pattern_total control.selections x.0.0 x.0.1 p.0) ∙ ap (maps.get control.selections) keys
    ∙ entry_get pattern_total control.selections y.0.0 y.0.1 q.0) in
    x.2 ∙ (λ i. selection_of (keys i, values i)) ∙ sym y.2

added_number : (o : Option Selection) → number_by o ≡ added o
added_number None = refl
added_number (Some s) = refl

-- ---- where a datagram comes from

pub from_site : (site : SiteId) (up : Option Upstream) → trees.is_from (places.Site site) (choice_of up) ≡ is_from_site site up
from_site site None = refl
from_site site (Some (Site own)) = refl
from_site site (Some (Remote edge rd import source_as)) = refl

outs_where : (b : Bool) (fate : Fate) → (cond b fate discarded).outs ≡ cond b fate.outs []
outs_where true fate = refl
outs_where false fate = refl

branches_where : (b : Bool) (fate : Fate) → (cond b fate discarded).branches ≡ cond b fate.branches []
branches_where true fate = refl
branches_where false fate = refl

module _ (place : EdgePlace) (control : Control) (own : OwnVrf) (tree : TreeData) (is : IsTreeOf place control own tree) (flow : Flow) where
  -- ---- joins and the tunnel

  join_there : (join : TakenJoin) → join.flow ≡ flow → IsJoinTaken place control own join → IsJoined place control own flow.source flow.group
  join_there join same t = record {
    peer = join.peer;
    key = t.key;
    route = t.taken;
    taken = t.at;
    joins = t.used ∙ ap (λ (f : Flow). Some (flow_route f)) same;
  }

  tree_joined : has_join tree flow ≡ true → IsJoined place control own flow.source flow.group
  tree_joined h =
      let found = any_among (λ (join : TakenJoin). same_flow join.flow flow) (sets.items tree.joined) h in
      join_there found.0 (same_flow_equal found.0.flow flow found.2)
      ((is.joined found.0).0 (item_contained join_total join_exact tree.joined found.0 found.1))

  joined_tree : IsJoined place control own flow.source flow.group → has_join tree flow ≡ true
  joined_tree j =
      let join : TakenJoin = record { peer = j.peer; flow = flow } in
      any_from (λ (x : TakenJoin). same_flow x.flow flow) join (sets.items tree.joined)
      (contained_item join_total join_exact tree.joined join
      ((is.joined join).1 (record { key = j.key; taken = j.route; at = j.taken; used = j.joins })))
      (same_flow_itself flow)

  pub one_join : is_joined_in place control own flow.source flow.group ≡ has_join tree flow
  one_join = either (is_joined_in place control own flow.source flow.group) (has_join tree flow)
      (λ h. joined_tree (joined_from place 0 control own flow.source flow.group h))
      (λ h. joined_to place 0 control own flow.source flow.group (tree_joined h))

  pub one_tunnel : transmit_tunnel place control own flow.source flow.group ≡ tunnel_for place tree flow
  one_tunnel =
      let edge_choice = transmitted (selections_of control own.id) flow.source flow.group in
      let tree_choice = transmitted tree.root.selections flow.source flow.group in
      let same : edge_choice ≡ tree_choice =
      sym (one_transmitted tree.root.selections (selections_of control own.id) flow.source flow.group is.selections
      (selections_distinct place control own)) in
      ap (λ (n : ℕ). lsp (own_addr place) (tunnel_number own.vrf n)) (added_number edge_choice ∙ ap added same)
      ∙ ap (λ (n : ℕ). lsp (own_addr place) (lsp_number n (added tree_choice))) (sym is.number)

  -- ---- interfaces outside a site

  module _ (now : ℕ) (site : SiteId) where
    one_outside : (x : SiteIface) → Among x (trees.asking tree.vrf now flow)
        → trees.is_outside (places.Site site) x ≡ is_outside place.scenario site x.iface
    one_outside x a =
        let inside = (filter_among (trees.is_asking tree.vrf now flow) x tree.vrf.ifaces a).0 in
        let at = site_at own.id place.scenario.ifaces x (subst_ifaces x inside) in
        ap (λ (s : SiteId). not (s.0 == site.0)) at.3
        ∙ sym (ap (λ (o : Option Iface). elim o [ None ↦ false | Some found ↦ not (is_of_site site found) ]) at.1)
      where
        subst_ifaces : (x : SiteIface) → Among x tree.vrf.ifaces → Among x (site_ifaces own.id 0 place.scenario.ifaces)
        subst_ifaces x b = subst (λ (all : List SiteIface). Among x all) is.ifaces b

    outside_ids : filter (is_outside place.scenario site) (asking_ifaces place now control own flow.source flow.group)
        ≡ map iface_id (filter (trees.is_outside (places.Site site)) (trees.asking tree.vrf now flow))
    outside_ids =
        ap (filter (is_outside place.scenario site)) (sym (all_asking place control own tree is flow now))
        ∙ sym (mapped_filter iface_id (trees.is_outside (places.Site site)) (is_outside place.scenario site) (trees.asking tree.vrf now flow)
        one_outside)

    module _ (rules : Rules place.scenario) (nodes : AreNodes place control) (whole : AreWhole (known_routes place control own)) where
      abbrev up : Option Upstream
      up = upstream_for place control own flow.source flow.group

      pub one_source : is_from_site site up ≡ trees.is_from (places.Site site) (trees.chosen_for tree.vrf.routes (place.core.cost place.me) flow)
      one_source = sym (from_site site up) ∙ ap (trees.is_from (places.Site site)) (sym (choice_is place control own tree is whole rules nodes flow))

      abbrev from : Bool
      from = trees.is_from (places.Site site) (trees.chosen_for tree.vrf.routes (place.core.cost place.me) flow)

      module _ (edge : EdgeData) (same : edge.control ≡ control) where
        abbrev fate : Fate
        fate = record {
          outs = filter (is_outside place.scenario site) (asking_ifaces place now control own flow.source flow.group);
          branches =
              cond (is_joined_in place control own flow.source flow.group)
              (branches_of edge.part (transmit_tunnel place control own flow.source flow.group)) [];
        }

        fate_is : entering_fate place now edge own site flow.source flow.group ≡ cond (is_from_site site up) fate discarded
        fate_is = ap (λ (c : Control). entering_fate place now (record edge { control = c }) own site flow.source flow.group) same

        pub entering_outs : (entering_fate place now edge own site flow.source flow.group).outs
            ≡ trees.outgoing tree.vrf (place.core.cost place.me) now flow (places.Site site)
        entering_outs =
            ap (λ (f : Fate). f.outs) fate_is ∙ outs_where (is_from_site site up) fate ∙ (λ i. cond (one_source i) (outside_ids i) [])

        pub entering_branches : (entering_fate place now edge own site flow.source flow.group).branches
            ≡ cond from (cond (has_join tree flow) (branches_of edge.part (tunnel_for place tree flow)) []) []
        entering_branches =
            ap (λ (f : Fate). f.branches) fate_is ∙ branches_where (is_from_site site up) fate
            ∙ (λ i. cond {A = List Branch} (one_source i) (cond (one_join i) (branches_of edge.part (one_tunnel i)) []) [])
