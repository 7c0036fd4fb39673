-- The trees have nothing of a key at which the table of the peer has no route.
use Rattle.std.proofs.Common.{◌≡◌, Bool, true, false, List, [], ◌∷◌, map, is_some, Option, Some, None, refl, sym, ap, subst, ◌∙◌}
use Rattle.std.specs.List.{AllByRecursion}
use Rattle.std.specs.FinMap as maps
use Rattle.std.specs.FinSet as sets
use Rattle.mv_base.specs.Number.{◌>>?◌}
use Rattle.mv_base.specs.declared.addr.Addr.{Addr}
use Rattle.mv_base.specs.declared.ids.NodeId.{NodeId}
use Rattle.mv_base.specs.declared.rd.Rd.{Rd}
use Rattle.bgp_values.specs.declared.mvpn_nlri.route.Afi.{Afi}
use Rattle.bgp_values.specs.declared.mvpn_nlri.route.Route.TheVariants as routes
use Rattle.bgp_messages.specs.declared.bgp_attributes.key.Key.{Key}
use Rattle.bgp_messages.specs.declared.bgp_attributes.key.Key.TheVariants.{Mcast, Unicast}
use Rattle.bgp_messages.specs.bgp_update.Written.{IsWritableKey}
use Rattle.umh_select.specs.Routes.{key_from}
use Rattle.vrf_words.specs.tree_defs.Trees.{TreeData}
use Rattle.vrf_words.specs.tree_laws.TreeOf.{IsTreeOf, held_from}
use Rattle.edge_defs.specs.Edge.{Control, Taken, TakenRoute}
use Rattle.edge_defs.specs.Imported.{taken_from}
use Rattle.edge_defs.specs.Keys.{key_cmp}
use Rattle.edge_defs.specs.Place.{EdgePlace, OwnVrf}
use Rattle.edge_routes.specs.edge_home.Home.{place_of}
use Rattle.edge_tables.specs.taken_tables.Tables.{route_at}
use Rattle.control_laws.specs.Control.{Kept, OwnTree, control_of, trees_of}
use Rattle.control_laws.specs.Peers.{AreWritable, IsTreeBetween, active_of, as_wanted}
use Rattle.control_laws.proofs.Parts.{no_core}
use Rattle.control_laws.proofs.PeersKeys.{active_one}
use Rattle.edge_control.specs.Sound.{IsSound}
use Rattle.edge_control.specs.Taking.{IsWithout}
use Rattle.edge_control.proofs.SoundLemmas.{sound_between}

-- ---- the tree of a VRF

module _ (place : EdgePlace) (control : Control) (own : OwnVrf) (peer : NodeId) (tree : TreeData) (is : IsTreeOf place control own tree)
    (spelled : AreWritable control) where
  -- a route that the tree has was taken with a key of the same source and group, and that is this key
  without_active : (afi : Afi) (rd : Rd) (source group : Addr) → IsWritableKey (Mcast afi (routes.Active rd source group))
      → maps.get (taken_from control peer) (Mcast afi (routes.Active rd source group)) ≡ None
      → IsWithout peer (Mcast afi (routes.Active rd source group)) tree
  without_active afi rd source group writable none = by (sets.contains tree.vrf.actives (active_of peer rd source group)) refl
    where
      by : (b : Bool) → sets.contains tree.vrf.actives (active_of peer rd source group) ≡ b
          → sets.contains tree.vrf.actives (active_of peer rd source group) ≡ false
      by false e = e
      by true e =
          let taken = (is.actives (active_of peer rd source group)).0 e in
          let same : taken.afi ≡ afi =
          active_one taken.afi afi rd source group
          (spelled peer (Mcast taken.afi (routes.Active rd source group)) (ap is_some taken.at)) writable in
          absurd (let bad : None ≡ Some taken.taken =
          sym none ∙ ap (λ (a : Afi). maps.get (taken_from control peer) (Mcast a (routes.Active rd source group))) (sym same) ∙ taken.at in cc)

  pub without : (key : Key) → IsWritableKey key → maps.get (taken_from control peer) key ≡ None → IsWithout peer key tree
  without (Unicast rd prefix) writable none =
      is.learned (key_from peer rd prefix)
      ∙ ap (λ (o : Option TakenRoute). o >>? λ taken. held_from place own.vrf peer taken.value) none
  without (Mcast afi (routes.Active rd source group)) writable none = without_active afi rd source group writable none
  without (Mcast afi (routes.SourceJoin rd source_as source group)) writable none = tt
  without (Mcast afi (routes.Selective rd source group originator)) writable none = tt
  without (Mcast afi (routes.Intra rd originator)) writable none = tt
  without (Mcast afi (routes.Inter rd source_as)) writable none = tt
  without (Mcast afi (routes.Leaf leaf originator)) writable none = tt
  without (Mcast afi (routes.SharedJoin rd source_as source group)) writable none = tt
  without (Mcast afi (routes.Other kind octets)) writable none = tt

-- What a tree wants is no part of it.
without_wanted : (peer : NodeId) (key : Key) (tree : TreeData) → IsWithout peer key (as_wanted tree) → IsWithout peer key tree
without_wanted peer (Unicast rd prefix) tree h = h
without_wanted peer (Mcast afi (routes.Active rd source group)) tree h = h
without_wanted peer (Mcast afi (routes.SourceJoin rd source_as source group)) tree h = tt
without_wanted peer (Mcast afi (routes.Selective rd source group originator)) tree h = tt
without_wanted peer (Mcast afi (routes.Intra rd originator)) tree h = tt
without_wanted peer (Mcast afi (routes.Inter rd source_as)) tree h = tt
without_wanted peer (Mcast afi (routes.Leaf leaf originator)) tree h = tt
without_wanted peer (Mcast afi (routes.SharedJoin rd source_as source group)) tree h = tt
without_wanted peer (Mcast afi (routes.Other kind octets)) tree h = tt

-- ---- all trees

module _ (kept : Kept) (sound : IsSound kept) (peer : NodeId) (key : Key) (writable : IsWritableKey key) where
  of_all : maps.get (taken_from (control_of kept) peer) key ≡ None → (all : List OwnTree)
      → AllByRecursion (λ (it : OwnTree). IsTreeBetween (place_of kept.home no_core) (control_of kept) it.own it.tree) all
      → AllByRecursion (IsWithout peer key) (map (λ (it : OwnTree). it.tree) all)
  of_all none [] h = tt
  of_all none (it ∷ all) h = (
    without_wanted peer key it.tree
        (without (place_of kept.home no_core) (control_of kept) it.own peer (as_wanted it.tree) h.0 sound.spelled key writable none),
    of_all none all h.1,
  )

  in_table : (o : Option Taken) → (o >>? λ taken. maps.get taken key) ≡ None
      → maps.get (elim o as (λ x. Taken) [ None ↦ maps.empty | Some taken ↦ taken ]) key ≡ None
  in_table None h = maps.get-empty key_cmp key
  in_table (Some taken) h = h

  pub trees_without : route_at kept.peers peer key ≡ None → AllByRecursion (IsWithout peer key) kept.trees
  trees_without none =
      let are = sound_between kept sound in
      subst (AllByRecursion (IsWithout peer key)) are.full (of_all (in_table (maps.get kept.peers peer) none) (trees_of kept) (are.each no_core))
