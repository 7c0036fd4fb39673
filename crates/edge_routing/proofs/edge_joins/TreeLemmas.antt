-- The trees of an edge as those of its VRFs, and the joins that they have.
use Rattle.std.proofs.Common.{◌≡◌, ℕ, List, [], ◌∷◌, map, slice_get, Option, Some, None, option_map, refl, sym, ap, subst, subst₂, ◌∙◌}
use Rattle.std.specs.List.{AllByRecursion}
use Rattle.std.specs.FinMap as maps
use Rattle.std.proofs.lemmas.Option.{cond_some, same_Some}
use Rattle.mv_base.specs.Number.{◌>>?◌, only_if}
use Rattle.mv_base.specs.declared.addr.Addr.{Addr}
use Rattle.mv_base.specs.declared.addr.Addr.TheVariants.{V4, V6}
use Rattle.mv_base.specs.declared.ids.NodeId.{NodeId}
use Rattle.bgp_values.specs.declared.mvpn_nlri.route.Afi.TheVariants.{Ipv4}
use Rattle.bgp_messages.specs.declared.bgp_attributes.key.Key.{Key}
use Rattle.bgp_messages.specs.bgp_update.Written.{afi_of}
use Rattle.mv_base.specs.core_walks.Core.{Core}
use Rattle.vrf_words.specs.declared.tree_defs.flow.Upstream as uppers
use Rattle.vrf_words.specs.tree_defs.Flows.{upstream_of}
use Rattle.vrf_words.specs.tree_defs.Trees.{TreeData}
use Rattle.edge_defs.specs.Edge.{Control, Import, Remote, Site, Upstream, VrfFlow}
use Rattle.edge_defs.specs.Held.{held_for}
use Rattle.edge_defs.specs.Keys.{Value}
use Rattle.edge_defs.specs.Place.{EdgePlace, OwnVrf, own_vrfs}
use Rattle.edge_routes.specs.edge_home.Home.{AreOwn, Home, place_of}
use Rattle.edge_routes.specs.declared.edge_home.own_vrf.OwnVrf as homes
use Rattle.edge_routes.specs.Local.{IsAt, as_import}
use Rattle.edge_routes.specs.declared.originated.RemoteUpstream.{RemoteUpstream}
use Rattle.edge_words.proofs.calm_laws.Upstreams.{chained}
use Rattle.vrf_words.specs.tree_laws.Joins.{AreOfVrfs, first_told, is_join_to, join_key}
use Rattle.vrf_words.specs.tree_laws.TreeOf.{IsTreeOf, choice_of}
use Rattle.vrf_words.specs.tree_laws.TreeOf as trees_of_vrfs
use Rattle.vrf_words.specs.tree_laws.Wanting.{AreTreesOf}
use Rattle.vrf_words.proofs.tree_laws.Joins.{joins_are}
use Rattle.control_laws.specs.Control.{Kept, OwnTree, control_of, trees_of, with_trees}
use Rattle.control_laws.specs.Peers.{as_wanted}
use Rattle.edge_control.specs.Sound.{IsSound}
use Rattle.edge_control.proofs.SoundLemmas.{wanted_control}
use Rattle.held_tables.specs.Joins.{value_towards}
use Rattle.edge_control.specs.vrf_trees.Changes.{flow_in}
use Rattle.edge_control.specs.vrf_trees.declared.changes.TreeJoin.{TreeJoin}
use Rattle.edge_routing.specs.edge_joins.Keys.{key_of}
use Rattle.edge_routing.specs.edge_joins.Upstreams.{HaveIpv4Imports, import_at, remote_by}
use Rattle.edge_routing.proofs.edge_joins.ImportLemmas.{value_by, values_told}

-- each tree is that of its VRF, and so the trees are those of the VRFs
pub one_by_one : (place : EdgePlace) (control : Control) (its : List OwnTree)
    → AllByRecursion (λ (it : OwnTree). IsTreeOf place control it.own it.tree) its
    → AreTreesOf place control (map (λ (it : OwnTree). it.own) its) (map (λ (it : OwnTree). it.tree) its)
one_by_one place control [] h = tt
one_by_one place control (it ∷ its) h = (h.0, one_by_one place control its h.1)

-- the trees are those of the VRFs, but for what they want
pub are_trees : (kept : Kept) (core : Core) → IsSound kept
    → AreTreesOf (place_of kept.home core) (control_of kept) (own_vrfs (place_of kept.home core)) (map as_wanted kept.trees)
are_trees kept core sound =
    let wanted : Kept = with_trees as_wanted kept in
    let pairs : AreTreesOf (place_of kept.home core) (control_of wanted) (map (λ (it : OwnTree). it.own) (trees_of wanted))
    (map (λ (it : OwnTree). it.tree) (trees_of wanted)) =
    one_by_one (place_of kept.home core) (control_of wanted) (trees_of wanted) (sound.trees.each core) in
    let named : AreTreesOf (place_of kept.home core) (control_of wanted) (own_vrfs (place_of kept.home core)) (map as_wanted kept.trees) =
    subst₂ (AreTreesOf (place_of kept.home core) (control_of wanted)) sound.trees.all sound.trees.full pairs in
    subst (λ (c : Control). AreTreesOf (place_of kept.home core) c (own_vrfs (place_of kept.home core)) (map as_wanted kept.trees))
    (wanted_control kept) named

-- the join that the edge holds is the one by the first import that the trees have for it
pub held_by_trees : (kept : Kept) (core : Core) → IsSound kept → AreOfVrfs (place_of kept.home core) (control_of kept) → (join : TreeJoin)
    → maps.get (held_for (place_of kept.home core) (control_of kept) join.edge) (key_of join).1
    ≡ option_map (value_by (place_of kept.home core)) (first_told (import_at join) kept.trees)
held_by_trees kept core sound of_vrfs join =
    joins_are (place_of kept.home core) (control_of kept) join.edge join.rd join.source_as (flow_in join) (map as_wanted kept.trees)
    (are_trees kept core sound) of_vrfs
    ∙ values_told (place_of kept.home core) join kept.trees

-- ---- imports of IPv4

module _ (control : Control) (ipv4 : HaveIpv4Imports control) (join : TreeJoin) where
  of_upstream : (flow : VrfFlow) (import : Addr × ℕ) (up : Option (Option Upstream)) → maps.get control.flows flow ≡ up → (found : uppers.Upstream)
      → upstream_of (option_map choice_of up) ≡ Some found → found.import ≡ import → afi_of import.0 ≡ Ipv4
  of_upstream flow import None at found h same = absurd cc
  of_upstream flow import (Some None) at found h same = absurd cc
  of_upstream flow import (Some (Some (Site site))) at found h same = absurd cc
  of_upstream flow import (Some (Some (Remote edge rd own source_as))) at found h same =
      let one = same_Some (record { edge = edge; rd = rd; import = (own.addr, own.number); source_as = source_as }) found h in
      ap (λ (i : Addr × ℕ). afi_of i.0) (sym same ∙ ap (λ (u : uppers.Upstream). u.import) (sym one)) ∙ ipv4 flow edge rd own source_as at

  of_tree : (place : EdgePlace) (own : OwnVrf) (tree : TreeData) (import : Addr × ℕ) → IsTreeOf place control own (as_wanted tree)
      → import_at join tree ≡ Some import → afi_of import.0 ≡ Ipv4
  of_tree place own tree import is h =
      let found =
      chained (upstream_of (maps.get tree.vrf.flows (flow_in join))) (λ up. only_if (is_join_to join.edge join.rd join.source_as up) up.import)
      import h in
      of_upstream (trees_of_vrfs.flow_in own.id (flow_in join)) import (maps.get control.flows (trees_of_vrfs.flow_in own.id (flow_in join))) refl
      found.0
      (sym (ap upstream_of (is.flows (flow_in join))) ∙ found.1)
      (cond_some (is_join_to join.edge join.rd join.source_as found.0) found.0.import import found.2).1

  next_of_ipv4 : (place : EdgePlace) (own : OwnVrf) (tree : TreeData) (rest : Option (Addr × ℕ)) (import : Addr × ℕ)
      → IsTreeOf place control own (as_wanted tree)
      → (rest ≡ Some import → afi_of import.0 ≡ Ipv4) → (elim (import_at join tree) [ None ↦ rest | Some y ↦ Some y ]) ≡ Some import
      → afi_of import.0 ≡ Ipv4
  next_of_ipv4 place own tree rest import is more h = by (import_at join tree) refl h
    where
      by : (o : Option (Addr × ℕ)) → import_at join tree ≡ o → (elim o [ None ↦ rest | Some y ↦ Some y ]) ≡ Some import → afi_of import.0 ≡ Ipv4
      by None e g = more g
      by (Some found) e g = of_tree place own tree import is (e ∙ g)

  first_of_ipv4 : (place : EdgePlace) (vrfs : List OwnVrf) (trees : List TreeData) (import : Addr × ℕ)
      → AreTreesOf place control vrfs (map as_wanted trees)
      → first_told (import_at join) trees ≡ Some import → afi_of import.0 ≡ Ipv4
  first_of_ipv4 place vrfs [] import are h = absurd cc
  first_of_ipv4 place [] (tree ∷ trees) import are h = absurd are
  first_of_ipv4 place (own ∷ vrfs) (tree ∷ trees) import are h =
      next_of_ipv4 place own tree (first_told (import_at join) trees) import are.0 (first_of_ipv4 place vrfs trees import are.1) h

pub is_ipv4 : (kept : Kept) (core : Core) → IsSound kept → HaveIpv4Imports (control_of kept) → (join : TreeJoin) (import : Addr × ℕ)
    → first_told (import_at join) kept.trees ≡ Some import → afi_of import.0 ≡ Ipv4
is_ipv4 kept core sound ipv4 join import h =
    first_of_ipv4 (control_of kept) ipv4 join (place_of kept.home core) (own_vrfs (place_of kept.home core)) kept.trees import
    (are_trees kept core sound) h

-- a core of which nothing is asked
abbrev pub no_core : Core
no_core = record { cost = λ from to. 0; toward = λ from to. None }

-- where the edge has no VRF there is no import
no_vrf : (kept : Kept) (core : Core) → IsSound kept → own_vrfs (place_of kept.home core) ≡ [] → (join : TreeJoin)
    → first_told (import_at join) kept.trees ≡ None
no_vrf kept core sound none join =
    by kept.trees (subst (λ (vrfs : List OwnVrf). AreTreesOf (place_of kept.home core) (control_of kept) vrfs (map as_wanted kept.trees)) none
    (are_trees kept core sound))
  where
    by : (trees : List TreeData) → AreTreesOf (place_of kept.home core) (control_of kept) [] (map as_wanted trees)
        → first_told (import_at join) trees ≡ None
    by [] h = refl
    by (tree ∷ trees) h = absurd h

-- ---- what the join towards an import says

-- The join has that RD and that Source AS, and names the VRF of the import.
pub record IsRemote (join : TreeJoin) (import : Addr × ℕ) (up : RemoteUpstream) : Type 0 where
  pub distinguisher : up.rd ≡ join.rd
  pub system : up.source_as ≡ join.source_as
  pub names : as_import up.import ≡ record { addr = import.0; number = import.1 }

is_remote : (join : TreeJoin) (addr : Addr) (number : ℕ) (up : RemoteUpstream) → remote_by join (addr, number) ≡ Some up
    → IsRemote join (addr, number) up
is_remote join (V6 addr) number up h = absurd cc
is_remote join (V4 addr) number up h =
    let one = same_Some (record { rd = join.rd; import = record { addr = addr; number = number }; source_as = join.source_as }) up h in
    record {
      distinguisher = ap (λ (u : RemoteUpstream). u.rd) (sym one);
      system = ap (λ (u : RemoteUpstream). u.source_as) (sym one);
      names = ap (λ (u : RemoteUpstream). as_import u.import) (sym one);
    }

not_ipv4 : (join : TreeJoin) (addr : Addr) (number : ℕ) → remote_by join (addr, number) ≡ None → afi_of addr ≡ Ipv4 → ⊥
not_ipv4 join (V4 addr) number h k = absurd cc
not_ipv4 join (V6 addr) number h k = absurd cc

-- the key of the join that is found is that of the join
pub found_key : (join : TreeJoin) (o : Option (Addr × ℕ)) (up : RemoteUpstream) → (o >>? remote_by join) ≡ Some up
    → key_of join ≡ (join.edge, join_key (afi_of join.source) up.rd up.source_as (flow_in join))
found_key join o up h =
    let found = chained o (remote_by join) up h in
    let is = is_remote join found.0.0 found.0.1 up found.2 in
    λ i. (join.edge, join_key (afi_of join.source) (sym is.distinguisher i) (sym is.system i) (flow_in join))

module _ (kept : Kept) (core : Core) (sound : IsSound kept) (join : TreeJoin) where
  abbrev place : EdgePlace
  place = place_of kept.home core

  abbrev held : Option Value
  held = maps.get (held_for place (control_of kept) join.edge) (key_of join).1

  -- the edge holds the join that is found
  pub found_held : AreOfVrfs place (control_of kept) → (up : RemoteUpstream) → (first_told (import_at join) kept.trees >>? remote_by join) ≡ Some up
      → maps.get (held_for place (control_of kept) join.edge) (join_key (afi_of join.source) up.rd up.source_as (flow_in join))
      ≡ Some (value_towards place (as_import up.import))
  found_held of_vrfs up h =
      let found = chained (first_told (import_at join) kept.trees) (remote_by join) up h in
      let is = is_remote join found.0.0 found.0.1 up found.2 in
      ap (λ (k : NodeId × Key). maps.get (held_for place (control_of kept) join.edge) k.1)
      (sym (found_key join (first_told (import_at join) kept.trees) up h))
      ∙ held_by_trees kept core sound of_vrfs join ∙ ap (option_map (value_by place)) found.1
      ∙ ap (λ (i : Import). Some (value_towards place i)) (sym is.names)

  -- and none where none is found
  pub none_held : AreOfVrfs place (control_of kept) → HaveIpv4Imports (control_of kept)
      → (first_told (import_at join) kept.trees >>? remote_by join) ≡ None → held ≡ None
  none_held of_vrfs ipv4 h = held_by_trees kept core sound of_vrfs join ∙ by (first_told (import_at join) kept.trees) refl h
    where
      by : (o : Option (Addr × ℕ)) → first_told (import_at join) kept.trees ≡ o → (o >>? remote_by join) ≡ None → option_map (value_by place) o ≡ None
      by None e g = refl
      by (Some import) e g = absurd (not_ipv4 join import.0 import.1 g (is_ipv4 kept core sound ipv4 join import e))

  -- none is found where the edge has no VRF
  pub some_vrf : (home : Home) (vrfs : List homes.OwnVrf) → home ≡ kept.home → AreOwn home vrfs → slice_get vrfs 0 ≡ None → (up : RemoteUpstream)
      → (first_told (import_at join) kept.trees >>? remote_by join) ≡ Some up → ⊥
  some_vrf home (own ∷ vrfs) same are none up h = absurd cc
  some_vrf home [] same are none up h =
      let empty : own_vrfs place ≡ [] = ap (λ (h : Home). own_vrfs (place_of h core)) (sym same) ∙ sym (are.vrfs core) in
      let nothing : (first_told (import_at join) kept.trees >>? remote_by join) ≡ None =
      ap (λ (o : Option (Addr × ℕ)). o >>? remote_by join) (no_vrf kept core sound empty join) in
      let bad : None ≡ Some up = sym nothing ∙ h in cc

-- the first VRF of the edge says its address
pub first_at : (kept : Kept) (core : Core) (home : Home) (vrfs : List homes.OwnVrf) (own : homes.OwnVrf) → home ≡ kept.home → AreOwn home vrfs
    → slice_get vrfs 0 ≡ Some own
    → IsAt (place_of kept.home core) own.local
first_at kept core home [] own same are h = absurd cc
first_at kept core home (first ∷ vrfs) own same are h =
    let one : first ≡ own = same_Some first own h in
    let says = are.say.0 in
    subst (λ (o : homes.OwnVrf). IsAt (place_of kept.home core) o.local) one
    (subst (λ (h : Home). IsAt (place_of h core) first.local) same
    (record { addr = are.own_addr ∙ ap (λ (a : List ℕ). V4 a) (sym says.addr); system = sym says.system }))
