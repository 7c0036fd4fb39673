-- The rest of a step of each VRF, after the effect of the call itself.
use Rattle.std.proofs.Common.{◌≡◌, ◌↔◌, ◌++◌, ℕ, Bool, true, false, List, is_some, sym, ap, subst, subst₂, ◌∙◌}
use Rattle.std.specs.List.{list_any}
use Rattle.std.specs.FinMap as maps
use Rattle.std.specs.FinSet as sets
use Rattle.mv_base.specs.Lists.{Among}
use Rattle.mv_base.specs.declared.ids.NodeId.{NodeId}
use Rattle.mv_base.specs.core_walks.Core.{Core, IsCoreOf}
use Rattle.mv_base.specs.core_walks.Topology.{Topology}
use Rattle.mldp.specs.declared.mldp_fec.fec.Fec.{Fec}
use Rattle.label_defs.specs.LabelData.{same_fec}
use Rattle.edge_defs.specs.Edge.{Control}
use Rattle.edge_defs.specs.Held.{put_to}
use Rattle.edge_defs.specs.Place.{own_vrfs}
use Rattle.edge_defs.specs.Steps.{Call, control_step, effect, is_vrf_step, refreshed, refreshed_if}
use Rattle.edge_defs.specs.Tunnels.{leaves}
use Rattle.edge_words.specs.Leaf.{IsInclusive}
use Rattle.edge_routes.specs.edge_home.Home.{Home, peers_of, place_of}
use Rattle.edge_control.specs.edge_tables.Tables.{EachPeer, Tables, put_after, texts, waiting_at}
use Rattle.held_tables.specs.Holding.{AreToldAlike, HoldAll}
use Rattle.vrf_words.specs.tree_laws.Joins.{AreOfVrfs}
use Rattle.vrf_words.specs.tree_laws.Wanting.{AreTreesOf}
use Rattle.vrf_words.proofs.tree_laws.Refreshed.{flows_of_vrfs}
use Rattle.control_laws.specs.Control.{AreTrees, Kept, control_of, trees_of}
use Rattle.edge_control.specs.Refreshing.{AreTold}
use Rattle.control_laws.specs.group_laws.Groups.{HaveGroups}
use Rattle.edge_routing.proofs.edge_joins.TreeLemmas.{one_by_one}
use Rattle.edge_labels.specs.Changes.{AreCandidates}
use Rattle.edge_labels.specs.node_laws.Waits.{kept_for}
use Rattle.edge_routing.specs.declared.routing.EdgeRouting.{EdgeRouting}
use Rattle.edge_routing.specs.declared.routing.LeafCandidates.{LeafCandidates}
use Rattle.edge_routing.specs.Routing.{AreBetween, HasRefreshed, IsInStep, IsOnWay, IsRefreshedTo, IsStepped}
use Rattle.edge_routing.proofs.Between.{holds, put_between, put_keys, put_waits, same_keys, same_waiting, still_between}
use Rattle.edge_routing.proofs.Leaves.{neither, same_leaf, same_wants}

-- ---- trees

pub kept_trees : (kept : Kept) (core : Core) → AreTrees kept
    → AreTreesOf (place_of kept.home core) (control_of kept) (own_vrfs (place_of kept.home core)) kept.trees
kept_trees kept core are =
    subst₂ (AreTreesOf (place_of kept.home core) (control_of kept)) are.all are.full
    (one_by_one (place_of kept.home core) (control_of kept) (trees_of kept) (are.each core))

-- ---- what is kept after a refresh

module _ (core : Topology) (now : ℕ) (old new : Kept) (own : Core) (is_core : IsCoreOf core.nodes core.links own)
    (is : IsRefreshedTo core now old new) where
  control : control_of new ≡ refreshed (place_of old.home own) now (control_of old)
  control = is.control own is_core

  pub same_peers : new.peers ≡ old.peers
  same_peers = ap (λ (c : Control). c.peers) control

  pub flows_are_of_vrfs : (any : Core) → AreOfVrfs (place_of old.home any) (control_of new)
  flows_are_of_vrfs any =
      subst (λ (c : Control). AreOfVrfs (place_of old.home any) c) (sym control) (flows_of_vrfs (place_of old.home own) now (control_of old))

  pub same_inclusive : (any : Core) (fec : Fec)
      → IsInclusive (place_of old.home any) (control_of old) fec ↔ IsInclusive (place_of old.home any) (control_of new) fec
  same_inclusive any fec =
      subst (λ (c : Control). IsInclusive (place_of old.home any) (control_of old) fec ↔ IsInclusive (place_of old.home any) c fec) (sym control)
      ((λ i. again i), (λ i. back i))
    where
      again : IsInclusive (place_of old.home any) (control_of old) fec
          → IsInclusive (place_of old.home any) (refreshed (place_of old.home own) now (control_of old)) fec
      again i = record { own = i.own; of_edge = i.of_edge; peer = i.peer; key = i.key; route = i.route; taken = i.taken; imported = i.imported }

      back : IsInclusive (place_of old.home any) (refreshed (place_of old.home own) now (control_of old)) fec
          → IsInclusive (place_of old.home any) (control_of old) fec
      back i = record { own = i.own; of_edge = i.of_edge; peer = i.peer; key = i.key; route = i.route; taken = i.taken; imported = i.imported }

-- ---- the rest of a step

module _ (core : Topology) (now : ℕ) (call : Call) (old between new : EdgeRouting) (tunnels changed : List Fec) (told : LeafCandidates)
    (middle : Tables) (own : Core)
    (is_core : IsCoreOf core.nodes core.links own) (vrf : is_vrf_step call ≡ true) (step : IsInStep old) (way : IsOnWay call now old between tunnels)
    (is : IsRefreshedTo core now between.control new.control) (trees : AreTrees new.control) (groups : HaveGroups (control_of new.control))
    (hold : (any : Core) → HoldAll (place_of between.control.home any) (control_of new.control) middle) (alike : AreToldAlike between.tables middle)
    (put : EachPeer (λ o n. n ≡ put_after o) middle new.tables) (wants : AreTold between.control.trees new.control.trees changed)
    (all : told.candidates.items ≡ tunnels ++ changed)
    (listed : (any : Core) (fec : Fec) → list_any (same_fec fec) told.candidates.items ≡ true
    → list_any (same_fec fec) told.leaves.items ≡ sets.contains (leaves (place_of new.control.home any) (control_of new.control)) fec) where
  home : Home
  home = between.control.home

  same_up : (peer : NodeId) → is_some (maps.get new.control.peers peer) ≡ is_some (maps.get between.control.peers peer)
  same_up peer = ap (λ (p : _). is_some (maps.get p peer)) (same_peers core now between.control new.control own is_core is)

  middle_between : (any : Core) → AreBetween (place_of between.control.home any) (control_of old.control) (control_of new.control) middle
  middle_between any =
      still_between between.tables middle alike (place_of between.control.home any) (control_of old.control) (control_of between.control)
      (control_of new.control) (way.tables any) (hold any) same_up

  keys : (peer : NodeId) → is_some (maps.get new.tables peer) ≡ is_some (maps.get old.tables peer)
  keys peer =
      put_keys (place_of between.control.home own) (control_of old.control) (control_of new.control) middle new.tables (middle_between own) put peer
      ∙ (same_keys between.tables middle alike peer ∙ way.peers peer)

  same_home : new.control.home ≡ old.control.home
  same_home = is.home ∙ way.home

  in_step : IsInStep new
  in_step = record {
    trees = trees;
    groups = groups;
    vrfs = λ any. subst (λ (h : Home). AreOfVrfs (place_of h any) (control_of new.control)) (sym is.home)
        (flows_are_of_vrfs core now between.control new.control own is_core is any);
    tables = λ any. subst (λ (h : Home). AreBetween (place_of h any) (control_of new.control) (control_of new.control) new.tables) (sym is.home)
        (put_between (place_of between.control.home any) (control_of old.control) (control_of new.control) middle new.tables (middle_between any)
        put);
    peers = λ peer. (
      (λ h. subst (λ (x : Home). Among peer (peers_of x)) (sym same_home) ((step.peers peer).0 (sym (keys peer) ∙ h))),
      (λ a. keys peer ∙ (step.peers peer).1 (subst (λ (x : Home). Among peer (peers_of x)) same_home a)),
    );
    up = λ peer h. keys peer ∙ (sym (way.peers peer) ∙ way.up peer (sym (same_up peer) ∙ h));
  }

  step_control : (any : Core) → IsCoreOf core.nodes core.links any
      → control_of new.control ≡ control_step (place_of old.control.home any) now (control_of old.control) call
  step_control any any_core =
      subst (λ (h : Home). control_of new.control ≡ control_step (place_of h any) now (control_of old.control) call) way.home
      (is.control any any_core
      ∙ (ap (λ (c : Control). refreshed (place_of between.control.home any) now c) (way.control any)
      ∙ ap (λ (b : Bool). refreshed_if b (place_of between.control.home any) now
      (effect (place_of between.control.home any) now (control_of old.control) call)) (sym vrf)))

  waiting : (any : Core) (peer : NodeId) → Among peer (peers_of old.control.home)
      → waiting_at new.tables peer ≡ kept_for call peer (waiting_at old.tables peer)
      ++ texts (put_to (place_of old.control.home any) (control_of old.control) (control_of new.control) peer)
  waiting any peer among =
      let there : is_some (maps.get middle peer) ≡ true = same_keys between.tables middle alike peer ∙ (way.peers peer ∙ (step.peers peer).1 among) in
      put_waits (place_of between.control.home any) (control_of old.control) (control_of new.control) middle new.tables (middle_between any) put peer
      there
      ∙ (ap (λ (o : List ℕ). o ++ texts (put_to (place_of between.control.home any) (control_of old.control) (control_of new.control) peer))
      (same_waiting between.tables middle alike peer ∙ way.waiting peer)
      ∙ ap (λ (h : Home). kept_for call peer (waiting_at old.tables peer)
      ++ texts (put_to (place_of h any) (control_of old.control) (control_of new.control) peer)) way.home)

  inclusive : (any : Core) (fec : Fec) → list_any (same_fec fec) tunnels ≡ false
      → IsInclusive (place_of between.control.home any) (control_of old.control) fec ↔ IsInclusive (place_of between.control.home any)
      (control_of new.control) fec
  inclusive any fec h =
      let first = way.tunnels any fec h in
      let second = same_inclusive core now between.control new.control own is_core is any fec in
      ((λ i. second.0 (first.0 i)), (λ i. first.1 (second.1 i)))

  old_trees : (any : Core) → AreTreesOf (place_of between.control.home any) (control_of old.control) (own_vrfs (place_of between.control.home any))
      old.control.trees
  old_trees any =
      subst (λ (h : Home). AreTreesOf (place_of h any) (control_of old.control) (own_vrfs (place_of h any)) old.control.trees) (sym way.home)
      (kept_trees old.control any step.trees)

  new_trees : (any : Core) → AreTreesOf (place_of between.control.home any) (control_of new.control) (own_vrfs (place_of between.control.home any))
      new.control.trees
  new_trees any =
      subst (λ (h : Home). AreTreesOf (place_of h any) (control_of new.control) (own_vrfs (place_of h any)) new.control.trees) is.home
      (kept_trees new.control any trees)

  candidates : (any : Core) → AreCandidates (leaves (place_of between.control.home any) (control_of old.control))
      (leaves (place_of between.control.home any) (control_of new.control)) told.candidates.items told.leaves.items
  candidates any = record {
    all = λ fec h.
        let both = neither fec tunnels changed (sym (ap (λ (xs : List Fec). list_any (same_fec fec) xs) all) ∙ h) in
        same_leaf (place_of between.control.home any) (control_of old.control) (control_of new.control) old.control.trees new.control.trees fec
        (old_trees any) (new_trees any) (inclusive any fec both.0)
        (same_wants fec old.control.trees between.control.trees way.wants ∙ wants fec both.1);
    listed = λ fec h. listed any fec h ∙ ap (λ (x : Home). sets.contains (leaves (place_of x any) (control_of new.control)) fec) is.home;
  }

  pub finished : IsStepped core now call old new told
  finished = record {
    step = in_step;
    home = same_home;
    control = step_control;
    waiting = waiting;
    leaves = λ any. subst (λ (h : Home). AreCandidates (leaves (place_of h any) (control_of old.control))
        (leaves (place_of h any) (control_of new.control)) told.candidates.items told.leaves.items) way.home (candidates any);
  }

-- The same, by what the refresh says.
pub rest_of : (core : Topology) (now : ℕ) (call : Call) (old between refreshed_to new : EdgeRouting) (tunnels changed : List Fec)
    (told : LeafCandidates) → is_vrf_step call ≡ true → IsInStep old
    → IsOnWay call now old between tunnels → HasRefreshed core now between refreshed_to changed → new.control ≡ refreshed_to.control
    → EachPeer (λ o n. n ≡ put_after o) refreshed_to.tables new.tables → told.candidates.items ≡ tunnels ++ changed
    → ((any : Core) (fec : Fec) → list_any (same_fec fec) told.candidates.items ≡ true
    → list_any (same_fec fec) told.leaves.items ≡ sets.contains (leaves (place_of new.control.home any) (control_of new.control)) fec)
    → IsStepped core now call old new told
rest_of core now call old between to new tunnels changed told vrf step way has same put all listed =
    finished core now call old between new tunnels changed told to.tables has.own has.is_core vrf step way
    (subst (λ (k : Kept). IsRefreshedTo core now between.control k) (sym same) has.is) (subst AreTrees (sym same) has.trees)
    (subst (λ (k : Kept). HaveGroups (control_of k)) (sym same) has.groups)
    (λ any. subst (λ (k : Kept). HoldAll (place_of between.control.home any) (control_of k) to.tables) (sym same)
    (has.hold any (vrfs any) (holds (place_of between.control.home any) (control_of old.control) (control_of between.control) between.tables
    (way.tables any))))
    has.alike put (subst (λ (k : Kept). AreTold between.control.trees k.trees changed) (sym same) has.wants) all listed
  where
    vrfs : (any : Core) → AreOfVrfs (place_of between.control.home any) (control_of between.control)
    vrfs any = way.vrfs any
