-- The timers that each tree runs are those of all that is kept.
use Rattle.std.proofs.Common.{◌≡◌, ◌∙◌, ℕ, zero, suc, ◌<◌, ◌+◌, ◌++◌, true, List, [], ◌∷◌, map, take, drop, set, length, get_or, Option, Some, None, is_some, option_map, slice_get, refl, sym, ap, subst, arith}
use Rattle.std.specs.FinMap as maps
use Rattle.std.specs.FinMap.{FinMap}
use Rattle.std.proofs.lemmas.List.Edits.{map_over_more}
use Rattle.mv_base.specs.declared.ids.NodeId.{NodeId}
use Rattle.mv_base.specs.core_walks.Core.{Core}
use Rattle.label_defs.specs.Keys.{node_cmp}
use Rattle.scenario_defs.specs.declared.scenario.Node.{Node}
use Rattle.scenario_defs.specs.declared.scenario.Vrf.{Vrf}
use Rattle.vrf_words.specs.tree_defs.Trees.{TreeData}
use Rattle.edge_defs.specs.Edge.{Control, Taken}
use Rattle.edge_defs.specs.Steps.{peers_run, taken_run, timed}
use Rattle.edge_defs.specs.Place as places
use Rattle.edge_routes.specs.Local.{Local}
use Rattle.edge_routes.specs.edge_home.Home.{Home, AreOwn, as_own, place_of}
use Rattle.edge_routes.specs.declared.edge_home.own_vrf.OwnVrf as own_vrfs
use Rattle.edge_tables.specs.taken_tables.Running.{IsOf}
use Rattle.control_laws.specs.Control.{Kept, OwnTree, AreTrees, control_of, trees_of, with_trees}
use Rattle.control_laws.specs.Customers.{timers_run}
use Rattle.control_laws.specs.Between.{AreTreesBetween, MakesBetween}
use Rattle.control_laws.specs.Peers.{as_wanted, tree_run}
use Rattle.control_laws.proofs.CustomersCounts.{single_run}
use Rattle.control_laws.proofs.CustomersTimers.{timers_make}
use Rattle.control_laws.proofs.Owned.{all_mapped}
use Rattle.control_laws.proofs.PeersKept.{run_makes}
use Rattle.control_laws.proofs.PeersTimers.{run_spelled}
use Rattle.control_laws.proofs.edge_words.edge_laws.Taken.{get-peers_run}
use Rattle.edge_control.specs.Sound.{IsSingle, IsSound}
use Rattle.edge_control.specs.Timers.{all_run}
use Rattle.edge_control.proofs.PeerSound.{wanted_of}
use Rattle.edge_control.proofs.SoundLemmas.{sound_full, sound_between, wanted_control}

-- ---- the loop

pub trees_more : (change : TreeData → TreeData) (xs ys : List TreeData) (i : ℕ) (d new : TreeData) → length ys ≡ length xs → i < length xs
    → ys ≡ map change (take i xs) ++ drop i xs → d ≡ get_or ys i d
    → new ≡ change (get_or ys i d) → set ys i new ≡ map change (take (i + 1) xs) ++ drop (i + 1) xs
trees_more change xs ys i d new same low so read e = ap (set ys i) (e ∙ ap change (sym read)) ∙ map_over_more change xs ys i d low so read

-- ---- the routes that were taken

there : {X : Type 0} (xs : List X) (n : ℕ) → n < length xs → is_some (slice_get xs n) ≡ true
there [] n lt = absurd (omega (arith, lt))
there (x ∷ xs) zero lt = refl
there (x ∷ xs) (suc n) lt = there xs n (omega (arith, lt))

same_vrfs : (own : List own_vrfs.OwnVrf)
    → map (λ (l : Local). l.vrf) (map (λ (o : own_vrfs.OwnVrf). o.local) own) ≡ map (λ (o : places.OwnVrf). o.vrf) (map as_own own)
same_vrfs [] = refl
same_vrfs (o ∷ own) = ap (λ (vrfs : List Vrf). o.local.vrf ∷ vrfs) (same_vrfs own)

pub is_of : (home : Home) (own : List own_vrfs.OwnVrf) (locals : List Local) (nodes : List Node) (delay : ℕ) (tables : FinMap node_cmp Taken)
    → AreOwn home own
    → locals ≡ map (λ (o : own_vrfs.OwnVrf). o.local) own → nodes ≡ home.scenario.nodes → delay ≡ home.scenario.delay
    → ((peer : NodeId) → is_some (maps.get tables peer) ≡ true → peer.0 < length home.scenario.nodes) → (core : Core)
    → IsOf (place_of home core) locals nodes delay tables
is_of home own locals nodes delay tables are is network wait peers core = record {
  own = ap (map (λ (l : Local). l.vrf)) is ∙ same_vrfs own ∙ ap (map (λ (o : places.OwnVrf). o.vrf)) (are.vrfs core);
  network = network;
  wait = wait;
  peers = λ peer h.
      subst (λ (ns : List Node). is_some (slice_get ns peer.0) ≡ true) (sym network) (there home.scenario.nodes peer.0 (peers peer h));
}

-- ---- all of it

module _ (kept : Kept) (sound : IsSound kept) (now : ℕ) where
  abbrev ran : Kept
  ran = with_trees (timers_run now) kept

  abbrev wanted : Kept
  wanted = with_trees as_wanted kept

  swapped : (trees : List TreeData) → map as_wanted (map (timers_run now) trees) ≡ map (timers_run now) (map as_wanted trees)
  swapped [] = refl
  swapped (tree ∷ trees) = ap (λ (ts : List TreeData). as_wanted (timers_run now tree) ∷ ts) (swapped trees)

  wanted_ran : with_trees as_wanted ran ≡ with_trees (timers_run now) wanted
  wanted_ran = λ i. record { home = kept.home; trees = swapped kept.trees i; peers = kept.peers }

  abbrev aside : Core → Control → Control
  aside core control = record (timed (place_of kept.home core) now control) { peers = kept.peers }

  ran_control : (core : Core) → control_of ran ≡ aside core (control_of kept)
  ran_control core =
      sym (wanted_control ran) ∙ ap control_of wanted_ran ∙ (timers_make wanted now sound.trees).is ∙ ap (aside core) (wanted_control kept)

  ran_sound : IsSound ran
  ran_sound = record {
    home = sound.home;
    trees = subst AreTrees (sym wanted_ran) (timers_make wanted now sound.trees).trees;
    single = all_mapped IsSingle IsSingle (timers_run now) (λ tree h. single_run tree.root.delay now tree.root.selections h) kept.trees sound.single;
    spelled = sound.spelled;
    peers = sound.peers;
  }

  between : AreTreesBetween ran
  between = sound_between ran ran_sound

  -- each tree by itself
  each_run : (its : List OwnTree) → map (tree_run now) (map (λ (it : OwnTree). it.tree) its) ≡ map (λ (it : OwnTree). tree_run now it.tree) its
  each_run [] = refl
  each_run (it ∷ its) = ap (λ (ts : List TreeData). tree_run now it.tree ∷ ts) (each_run its)

  twice : (trees : List TreeData) → map (all_run now) trees ≡ map (tree_run now) (map (timers_run now) trees)
  twice [] = refl
  twice (tree ∷ trees) = ap (λ (ts : List TreeData). all_run now tree ∷ ts) (twice trees)

  trees_are : map (all_run now) kept.trees ≡ map (λ (it : OwnTree). tree_run now it.tree) (trees_of ran)
  trees_are = twice kept.trees ∙ sym (ap (map (tree_run now)) (sound_full ran ran_sound).full) ∙ each_run (trees_of ran)

  abbrev next : Core → Kept
  next core = record kept { trees = map (all_run now) kept.trees; peers = peers_run (place_of kept.home core) now kept.peers }

  run_made : (core : Core) → MakesBetween (next core) (record (control_of ran) { peers = peers_run (place_of kept.home core) now kept.peers })
  run_made core = run_makes ran between (record { 0 = 0 }) now (map (all_run now) kept.trees) trees_are core

  still_there : {X : Type 0} (f : X → X) (o : Option X) → is_some (option_map f o) ≡ true → is_some o ≡ true
  still_there f None h = h
  still_there f (Some x) h = refl

  pub timers_control : (core : Core) → control_of (next core) ≡ timed (place_of kept.home core) now (control_of kept)
  timers_control core =
      (run_made core).is ∙ ap (λ (c : Control). record c { peers = peers_run (place_of kept.home core) now kept.peers }) (ran_control core)

  pub timers_sound : (core : Core) → IsSound (next core)
  timers_sound core = record {
    home = sound.home;
    trees = wanted_of (next core) (run_made core).trees;
    single = all_mapped IsSingle IsSingle (all_run now) (λ tree h. single_run tree.root.delay now tree.root.selections h) kept.trees sound.single;
    spelled = run_spelled (place_of kept.home core) now (control_of kept) sound.spelled;
    peers = λ peer h. sound.peers peer (still_there (λ taken. (taken_run (place_of kept.home core) now (peer, taken)).1) (maps.get kept.peers peer)
        (ap is_some (sym (get-peers_run (place_of kept.home core) now kept.peers peer)) ∙ h));
  }
