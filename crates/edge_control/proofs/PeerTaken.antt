-- What an edge keeps after a route that a peer withdraws.
use Rattle.std.proofs.Common.{◌≡◌, ℕ, inl, inr, List, [], ◌∷◌, length, is_some, Option, Some, None, refl, sym, ap, subst, ◌∙◌, arith}
use Rattle.std.specs.FinMap as maps
use Rattle.std.specs.FinMap.{FinMap}
use Rattle.mv_base.specs.Lists.{Among}
use Rattle.mv_base.specs.Number.{◌>>?◌}
use Rattle.mv_base.specs.declared.ids.NodeId.{NodeId}
use Rattle.bgp_messages.specs.declared.bgp_attributes.key.Key.{Key}
use Rattle.bgp_messages.specs.declared.bgp_attributes.update.Change.{Change}
use Rattle.bgp_messages.specs.declared.bgp_attributes.update.Change.TheVariants.{Unreach}
use Rattle.bgp_messages.specs.bgp_update.Written.{IsWritableKey}
use Rattle.mv_base.specs.core_walks.Core.{Core}
use Rattle.label_defs.specs.Keys.{node_cmp}
use Rattle.vrf_words.specs.tree_defs.Trees.{TreeData}
use Rattle.edge_defs.specs.Edge.{Taken, TakenRoute}
use Rattle.edge_defs.specs.Place.{OwnVrf, vrfs_from}
use Rattle.edge_defs.specs.Steps.{taken_change}
use Rattle.edge_tables.specs.taken_tables.Tables.{changed_at, route_at}
use Rattle.control_laws.specs.Between.{MakesBetween}
use Rattle.control_laws.specs.Control.{Kept, control_of}
use Rattle.control_laws.specs.Peers.{key_of}
use Rattle.control_laws.proofs.PeersChange.{change_customers, change_spelled}
use Rattle.control_laws.proofs.PeersKept.{update_makes}
use Rattle.std.specs.List.{AllByRecursion}
use Rattle.control_laws.specs.Customers.{AreSingle}
use Rattle.control_laws.proofs.Parts.{no_core}
use Rattle.control_laws.proofs.PeersParts.{Customers}
use Rattle.edge_routes.specs.edge_home.Home.{place_of}
use Rattle.edge_control.proofs.PeerTurns.{turned_each}
use Rattle.edge_control.specs.Sound.{IsSingle, IsSound, kept_of}
use Rattle.edge_control.specs.Taking.{dropping, turned_all}
use Rattle.edge_control.proofs.SoundLemmas.{sound_between}
use Rattle.edge_control.proofs.PeerCalls.{more_nodes, sound_with}

-- trees of which none changes
pub none_turned : (owns : List OwnVrf) (trees : List TreeData) → length trees ≡ length owns → turned_all (λ own tree. tree) owns trees ≡ trees
none_turned [] [] same = refl
none_turned [] (tree ∷ trees) same = absurd (let bad = same in cc)
none_turned (own ∷ owns) [] same = refl
none_turned (own ∷ owns) (tree ∷ trees) same =
    ap (λ xs. tree ∷ xs) (none_turned owns trees (let next : length trees ≡ length owns = omega (arith, same) in next))

module _ (kept : Kept) (sound : IsSound kept) (peer : NodeId) (key : Key) (writable : IsWritableKey key) (now : ℕ) (trees : List TreeData) where
  abbrev owns : List OwnVrf
  owns = vrfs_from kept.home.me 0 kept.home.scenario.vrfs

  one_writable : (change : Change) → Among change (Unreach key ∷ []) → IsWritableKey (key_of change)
  one_writable change (inl e) = subst (λ (c : Change). IsWritableKey (key_of c)) (sym e) writable
  one_writable change (inr a) = absurd a

  -- the peer is up, with that table
  module _ (taken : Taken) (up : maps.get kept.peers peer ≡ Some taken)
      (are : (core : Core) → trees ≡ turned_all (dropping kept.home core peer now key (maps.get taken key)) owns kept.trees) where
    gone_made : MakesBetween (record kept { trees = trees; peers = maps.insert kept.peers peer (maps.remove taken key) })
        (record (control_of kept) { peers = maps.insert kept.peers peer (maps.remove taken key) })
    gone_made = update_makes kept (sound_between kept sound) peer now trees taken (Unreach key ∷ []) up sound.spelled one_writable are

    gone_single : AllByRecursion IsSingle trees
    gone_single = subst (AllByRecursion IsSingle) (sym (are no_core))
        (turned_each IsSingle (dropping kept.home no_core peer now key (maps.get taken key))
        (λ own tree h. subst AreSingle (sym (ap (λ (c : Customers). c.2)
        (change_customers (place_of kept.home no_core) own peer now key (maps.get taken key) None tree))) h) owns kept.trees sound.single)

    gone_sound : IsSound (kept_of kept.home trees (maps.insert kept.peers peer (maps.remove taken key)))
    gone_sound =
        sound_with kept sound trees (maps.insert kept.peers peer (maps.remove taken key)) gone_made gone_single
        (change_spelled (control_of kept) peer taken now (Unreach key) up sound.spelled writable)
        (more_nodes kept sound peer (maps.remove taken key) (sound.peers peer (ap is_some up)))

    gone_control : control_of (kept_of kept.home trees (maps.insert kept.peers peer (maps.remove taken key)))
        ≡ record (control_of kept) { peers = maps.insert kept.peers peer (maps.remove taken key) }
    gone_control = gone_made.is

  -- What is kept is sound, and this.
  abbrev Withdrawn : FinMap node_cmp Taken → Type 0
  Withdrawn tables =
      IsSound (kept_of kept.home trees tables) × (control_of (kept_of kept.home trees tables) ≡ record (control_of kept) { peers = tables })

  abbrev table_after : Option Taken → FinMap node_cmp Taken
  table_after o =
      elim o as (λ x. FinMap node_cmp Taken) [ None ↦ kept.peers | Some taken ↦ maps.insert kept.peers peer (taken_change now taken (Unreach key)) ]

  abbrev route_in : Option Taken → Option TakenRoute
  route_in o = o >>? λ taken. maps.get taken key

  of_table : (o : Option Taken) → maps.get kept.peers peer ≡ o
      → ((core : Core) → trees ≡ turned_all (dropping kept.home core peer now key (route_in o)) owns kept.trees) → length kept.trees ≡ length owns
      → Withdrawn (table_after o)
  of_table (Some taken) up are many = (gone_sound taken up are, gone_control taken up are)
  of_table None up are many =
      let same : trees ≡ kept.trees = are some_core ∙ none_turned owns kept.trees many in
      subst (λ (xs : List TreeData). IsSound (kept_of kept.home xs kept.peers)
      × (control_of (kept_of kept.home xs kept.peers) ≡ record (control_of kept) { peers = kept.peers })) (sym same) (sound, refl)
    where
      some_core : Core
      some_core = record { cost = λ from to. 0; toward = λ from to. None }

  pub withdrawn : ((core : Core) → trees ≡ turned_all (dropping kept.home core peer now key (route_at kept.peers peer key)) owns kept.trees)
      → length kept.trees ≡ length owns
      → Withdrawn (changed_at peer (λ taken. taken_change now taken (Unreach key)) kept.peers)
  withdrawn are many = of_table (maps.get kept.peers peer) refl are many
