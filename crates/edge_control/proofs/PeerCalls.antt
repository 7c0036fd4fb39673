-- What an edge keeps after a session that is lost, and after one that comes up.
use Rattle.std.proofs.Common.{◌≡◌, ◌<◌, Bool, true, false, cond, List, [], length, is_some, Option, Some, None, option_map, Result, Ok, Err, OnOk, OnErr, refl, sym, ap, subst, ◌∙◌}
use Rattle.std.specs.Ordering.{eq_by_cmp}
use Rattle.std.specs.FinMap as maps
use Rattle.std.specs.FinMap.{FinMap}
use Rattle.mv_base.specs.declared.ids.NodeId.{NodeId}
use Rattle.mv_base.specs.core_walks.Core.{Core}
use Rattle.label_defs.specs.Keys.{node_cmp}
use Rattle.label_defs.proofs.KeyLemmas.{node_cmp_total, node_cmp_exact}
use Rattle.vrf_words.specs.tree_defs.Trees.{TreeData}
use Rattle.bgp_messages.specs.declared.bgp_attributes.key.Key.{Key}
use Rattle.edge_defs.specs.Edge.{Control, Taken, TakenRoute}
use Rattle.edge_defs.specs.Keys.{key_cmp}
use Rattle.control_laws.proofs.edge_words.calm_laws.Maps.{empty_entries}
use Rattle.edge_defs.specs.Place.{OwnVrf, vrfs_from}
use Rattle.control_laws.specs.Between.{MakesBetween}
use Rattle.control_laws.specs.Control.{Kept, control_of}
use Rattle.control_laws.specs.Peers.{AreWritable}
use Rattle.control_laws.proofs.PeersKept.{down_makes, loss_makes}
use Rattle.control_laws.proofs.PeersLost.{lost_customers, raise_spelled, removal_spelled}
use Rattle.control_laws.proofs.PeersMaps.{itself_by, one_by}
use Rattle.control_laws.specs.Customers.{AreSingle}
use Rattle.control_laws.proofs.Parts.{no_core}
use Rattle.control_laws.proofs.PeersParts.{Customers}
use Rattle.edge_routes.specs.edge_home.Home.{place_of}
use Rattle.edge_control.specs.Sound.{IsSingle, IsSound, kept_of}
use Rattle.edge_control.specs.Taking.{losing, table_of, turned_all}
use Rattle.std.specs.List.{AllByRecursion}
use Rattle.edge_control.proofs.PeerTurns.{turned_each}
use Rattle.edge_control.proofs.PeerSound.{wanted_of}
use Rattle.edge_control.proofs.SoundLemmas.{sound_between}

-- Each peer that is up is a node.
abbrev pub AreNodesOf : Kept → FinMap node_cmp Taken → Type 0
AreNodesOf kept tables = (peer : NodeId) → is_some (maps.get tables peer) ≡ true → peer.0 < length kept.home.scenario.nodes

module _ (kept : Kept) (sound : IsSound kept) where
  pub sound_with : (trees : List TreeData) (tables : FinMap node_cmp Taken)
      → MakesBetween (record kept { trees = trees; peers = tables }) (record (control_of kept) { peers = tables })
      → AllByRecursion IsSingle trees → AreWritable (record (control_of kept) { peers = tables }) → AreNodesOf kept tables
      → IsSound (kept_of kept.home trees tables)
  sound_with trees tables made single spelled nodes = record {
    home = sound.home;
    trees = wanted_of (kept_of kept.home trees tables) made.trees;
    single = single;
    spelled = subst AreWritable (sym made.is) spelled;
    peers = nodes;
  }

  abbrev owns : List OwnVrf
  owns = vrfs_from kept.home.me 0 kept.home.scenario.vrfs

  others_nodes : (peer : NodeId) → AreNodesOf kept (maps.remove kept.peers peer)
  others_nodes peer other up = by (eq_by_cmp node_cmp other peer) (sym (ap is_some (maps.get-remove node_cmp_total kept.peers peer other)) ∙ up)
    where
      by : (b : Bool) → is_some (cond b None (maps.get kept.peers other)) ≡ true → other.0 < length kept.home.scenario.nodes
      by true e = absurd (let bad : false ≡ true = e in cc)
      by false e = sound.peers other e

  pub more_nodes : (peer : NodeId) (taken : Taken) → peer.0 < length kept.home.scenario.nodes → AreNodesOf kept (maps.insert kept.peers peer taken)
  more_nodes peer taken known other up =
      by (eq_by_cmp node_cmp other peer) refl (sym (ap is_some (maps.get-insert node_cmp_total kept.peers peer taken other)) ∙ up)
    where
      by : (b : Bool) → eq_by_cmp node_cmp other peer ≡ b → is_some (cond b (Some taken) (maps.get kept.peers other)) ≡ true
          → other.0 < length kept.home.scenario.nodes
      by true same e =
          subst (λ (node : NodeId). node.0 < length kept.home.scenario.nodes) (sym (one_by node_cmp node_cmp_exact other peer same)) known
      by false same e = sound.peers other e

  module _ (peer : NodeId) (trees : List TreeData)
      (are : (core : Core) → trees ≡ turned_all (losing kept.home core peer (table_of kept.peers peer)) owns kept.trees) where
    lost_made : MakesBetween (record kept { trees = trees; peers = maps.remove kept.peers peer })
        (record (control_of kept) { peers = maps.remove kept.peers peer })
    lost_made = loss_makes kept (sound_between kept sound) peer 0 trees are

    lost_single : AllByRecursion IsSingle trees
    lost_single = subst (AllByRecursion IsSingle) (sym (are no_core))
        (turned_each IsSingle (losing kept.home no_core peer (table_of kept.peers peer))
        (λ own tree h. subst AreSingle (sym (ap (λ (c : Customers). c.2)
        (lost_customers (place_of kept.home no_core) own (control_of kept) peer tree))) h) owns kept.trees sound.single)

    pub lost_sound : IsSound (kept_of kept.home trees (maps.remove kept.peers peer))
    lost_sound =
        sound_with trees (maps.remove kept.peers peer) lost_made lost_single (removal_spelled (control_of kept) peer sound.spelled)
        (others_nodes peer)

    pub lost_control : control_of (kept_of kept.home trees (maps.remove kept.peers peer))
        ≡ record (control_of kept) { peers = maps.remove kept.peers peer }
    lost_control = lost_made.is

-- the peer that was lost is put anew
put_anew : (peers : FinMap node_cmp Taken) (peer : NodeId) (taken : Taken)
    → maps.insert (maps.remove peers peer) peer taken ≡ maps.insert peers peer taken
put_anew peers peer taken =
    maps.same_map node_cmp_total node_cmp_exact (maps.insert (maps.remove peers peer) peer taken) (maps.insert peers peer taken)
    (λ q. maps.get-insert node_cmp_total (maps.remove peers peer) peer taken q
    ∙ ap (cond (eq_by_cmp node_cmp q peer) (Some taken)) (maps.get-remove node_cmp_total peers peer q)
    ∙ by (eq_by_cmp node_cmp q peer) (maps.get peers q) ∙ sym (maps.get-insert node_cmp_total peers peer taken q))
  where
    by : (b : Bool) (o : Option Taken) → cond b (Some taken) (cond b None o) ≡ cond b (Some taken) o
    by true o = refl
    by false o = refl

module _ (kept : Kept) (sound : IsSound kept) (peer : NodeId) (down : maps.get kept.peers peer ≡ None)
    (known : peer.0 < length kept.home.scenario.nodes) where
  up_made : MakesBetween (record kept { peers = maps.insert kept.peers peer maps.empty })
      (record (control_of kept) { peers = maps.insert kept.peers peer maps.empty })
  up_made = down_makes kept (sound_between kept sound) peer down

  pub up_sound : IsSound (kept_of kept.home kept.trees (maps.insert kept.peers peer maps.empty))
  up_sound =
      sound_with kept sound kept.trees (maps.insert kept.peers peer maps.empty) up_made sound.single
      (raise_spelled (control_of kept) peer sound.spelled) (more_nodes kept sound peer maps.empty known)

  pub up_control : control_of (kept_of kept.home kept.trees (maps.insert kept.peers peer maps.empty))
      ≡ record (control_of kept) { peers = maps.insert kept.peers peer maps.empty }
  up_control = up_made.is

-- a session that comes up, where all that was taken before is forgotten first
module _ (kept : Kept) (sound : IsSound kept) (peer : NodeId) (trees : List TreeData)
    (are : (core : Core) → trees ≡ turned_all (losing kept.home core peer (table_of kept.peers peer))
    (vrfs_from kept.home.me 0 kept.home.scenario.vrfs) kept.trees) (known : peer.0 < length kept.home.scenario.nodes) where
  abbrev between : Kept
  between = kept_of kept.home trees (maps.remove kept.peers peer)

  gone : maps.get (maps.remove kept.peers peer) peer ≡ None
  gone = maps.get-remove node_cmp_total kept.peers peer peer
      ∙ ap (λ b. cond b None (maps.get kept.peers peer)) (itself_by node_cmp node_cmp_total peer)

  pub raised_sound : IsSound (kept_of kept.home trees (maps.insert (maps.remove kept.peers peer) peer maps.empty))
  raised_sound = up_sound between (lost_sound kept sound peer trees are) peer gone known

  pub raised_control : control_of (kept_of kept.home trees (maps.insert (maps.remove kept.peers peer) peer maps.empty))
      ≡ record (control_of kept) { peers = maps.insert kept.peers peer maps.empty }
  raised_control =
      up_control between (lost_sound kept sound peer trees are) peer gone known
      ∙ ap (λ (control : Control). record control { peers = maps.insert (maps.remove kept.peers peer) peer maps.empty })
      (lost_control kept sound peer trees are)
      ∙ ap (λ (peers : FinMap node_cmp Taken). record (control_of kept) { peers = peers }) (put_anew kept.peers peer maps.empty)

-- what holds where a call went well, and where it did not
pub either : {X E A B C : Type 0} (r : Result X E) → OnOk r A → OnErr r B → (A → C) → (B → C) → C
either (Ok x) a b well not = well a
either (Err e) a b well not = not b

-- ---- the entries of a peer's table

abbrev listed : Option Taken → List (Key × TakenRoute)
listed None = []
listed (Some taken) = maps.entries taken

entries_of : (o : Option Taken) → maps.entries (elim o as (λ x. Taken) [ None ↦ maps.empty | Some taken ↦ taken ]) ≡ listed o
entries_of None = empty_entries key_cmp
entries_of (Some taken) = refl

pub no_table : (tables : FinMap node_cmp Taken) (peer : NodeId) → None ≡ option_map (λ (taken : Taken). maps.entries taken) (maps.get tables peer)
    → maps.entries (table_of tables peer) ≡ []
no_table tables peer h = entries_of (maps.get tables peer) ∙ by (maps.get tables peer) h
  where
    by : (o : Option Taken) → None ≡ option_map (λ (taken : Taken). maps.entries taken) o → listed o ≡ []
    by None e = refl
    by (Some taken) e = absurd (let bad = e in cc)

pub some_table : (tables : FinMap node_cmp Taken) (peer : NodeId) (all : List (Key × TakenRoute))
    → Some all ≡ option_map (λ (taken : Taken). maps.entries taken) (maps.get tables peer)
    → maps.entries (table_of tables peer) ≡ all
some_table tables peer all h = entries_of (maps.get tables peer) ∙ by (maps.get tables peer) h
  where
    by : (o : Option Taken) → Some all ≡ option_map (λ (taken : Taken). maps.entries taken) o → listed o ≡ all
    by None e = absurd (let bad = e in cc)
    by (Some taken) e = let same : all ≡ maps.entries taken = cc in sym same
