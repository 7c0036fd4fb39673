-- What calls of the operator make, after which no flow is refreshed.
use Rattle.std.proofs.Common.{◌≡◌, ◌++◌, ℕ, ◌≤◌, Bool, true, false, List, [], is_some, refl, sym, ap, subst, ◌∙◌, arith}
use Rattle.std.specs.List.{list_any}
use Rattle.std.specs.FinMap as maps
use Rattle.mv_base.specs.Lists.{Among}
use Rattle.mv_base.specs.declared.ids.NodeId.{NodeId}
use Rattle.mv_base.specs.declared.ids.VrfId.{VrfId}
use Rattle.mv_base.specs.declared.pattern.Pattern.{Pattern}
use Rattle.mv_base.specs.core_walks.Core.{Core}
use Rattle.mv_base.specs.core_walks.Topology.{Topology}
use Rattle.mldp.specs.declared.mldp_fec.fec.Fec.{Fec}
use Rattle.scenario_defs.specs.declared.scenario.Vrf.{Vrf}
use Rattle.label_defs.specs.LabelData.{same_fec}
use Rattle.edge_defs.specs.Edge.{Control, Selected}
use Rattle.edge_defs.specs.Held.{put_to}
use Rattle.edge_defs.specs.Place.{OwnVrf, own_vrfs, tunnel_number}
use Rattle.edge_defs.specs.Steps.{Call, Customer, Select, Unselect, control_step, effect, is_vrf_step, refreshed_if}
use Rattle.edge_defs.specs.Tunnels.{leaves}
use Rattle.edge_routes.specs.edge_home.Home.{Home, as_own, peers_of, place_of}
use Rattle.edge_routes.specs.declared.edge_home.own_vrf.OwnVrf as homes
use Rattle.edge_control.specs.edge_tables.Tables.{EachPeer, Tables, put_after, texts, waiting_at}
use Rattle.edge_words.specs.held_laws.Held.{with_selected, without_selected}
use Rattle.held_tables.specs.Holding.{AreToldAlike, HoldAll}
use Rattle.vrf_words.specs.tree_laws.Wanting.{AreTreesOf}
use Rattle.control_laws.specs.Control.{AreTrees, Kept, control_of}
use Rattle.control_laws.proofs.Parts.{no_core}
use Rattle.edge_control.specs.Places.{number_after, vrfs_of}
use Rattle.edge_control.specs.Sound.{IsSound, wants_of}
use Rattle.edge_routing.proofs.edge_updates.TunnelLemmas.{alike_tunnels}
use Rattle.edge_labels.specs.Changes.{AreCandidates}
use Rattle.edge_labels.specs.node_laws.Waits.{kept_for}
use Rattle.edge_routing.specs.declared.routing.EdgeRouting.{EdgeRouting}
use Rattle.edge_routing.specs.declared.routing.LeafCandidates.{LeafCandidates}
use Rattle.edge_routing.specs.Routing.{AreBetween, IsInStep, IsOnWay, IsStepped}
use Rattle.edge_routing.proofs.Between.{put_between, put_keys, put_waits}
use Rattle.edge_routing.proofs.Calls.{HasMade, on_way}
use Rattle.edge_routing.proofs.Finish.{kept_trees}
use Rattle.edge_routing.proofs.Leaves.{same_leaf, same_wants}
use Rattle.edge_routing.proofs.StillTrees.{still_trees}

-- ---- a call that is no step of each VRF

module _ (core : Topology) (now : ℕ) (call : Call) (old : EdgeRouting) (control : Kept) (tables after : Tables) (told : LeafCandidates)
    (step : IsInStep old) (other : is_vrf_step call ≡ false)
    (has : HasMade call now old control tables []) (peers : control.peers ≡ old.control.peers) (sound : IsSound control)
    (put : EachPeer (λ o n. n ≡ put_after o) tables after)
    (none : told.candidates.items ≡ []) where
  abbrev between : EdgeRouting
  between = record { control = control; tables = tables }

  abbrev new : EdgeRouting
  new = record { control = control; tables = after }

  way : IsOnWay call now old between []
  way = on_way call now old control tables [] no_core step has

  flows : (control_of control).flows ≡ (control_of old.control).flows
  flows = ap (λ (c : Control). c.flows) (has.made no_core) ∙ has.flows no_core

  trees : AreTrees control
  trees = still_trees old.control control has.home flows peers has.wants sound step.trees

  tables_between : (any : Core) → AreBetween (place_of control.home any) (control_of old.control) (control_of control) tables
  tables_between any = way.tables any

  keys : (peer : NodeId) → is_some (maps.get after peer) ≡ is_some (maps.get old.tables peer)
  keys peer =
      put_keys (place_of control.home no_core) (control_of old.control) (control_of control) tables after (tables_between no_core) put peer
      ∙ way.peers peer

  in_step : IsInStep new
  in_step = record {
    trees = trees;
    groups = way.groups;
    vrfs = way.vrfs;
    tables = λ any. put_between (place_of control.home any) (control_of old.control) (control_of control) tables after (tables_between any) put;
    peers = λ peer. (
      (λ h. subst (λ (x : Home). Among peer (peers_of x)) (sym has.home) ((step.peers peer).0 (sym (keys peer) ∙ h))),
      (λ a. keys peer ∙ (step.peers peer).1 (subst (λ (x : Home). Among peer (peers_of x)) has.home a)),
    );
    up = λ peer h. keys peer ∙ (sym (way.peers peer) ∙ way.up peer h);
  }

  step_control : (any : Core) → control_of control ≡ control_step (place_of old.control.home any) now (control_of old.control) call
  step_control any =
      let thereafter : Control = effect (place_of old.control.home any) now (control_of old.control) call in
      has.made any ∙ ap (λ (b : Bool). refreshed_if b (place_of old.control.home any) now thereafter) (sym other)

  waiting : (any : Core) (peer : NodeId) → Among peer (peers_of old.control.home)
      → waiting_at after peer ≡ kept_for call peer (waiting_at old.tables peer)
      ++ texts (put_to (place_of old.control.home any) (control_of old.control) (control_of control) peer)
  waiting any peer among =
      put_waits (place_of control.home any) (control_of old.control) (control_of control) tables after (tables_between any) put peer
      (way.peers peer ∙ (step.peers peer).1 among)
      ∙ (ap (λ (o : List ℕ). o ++ texts (put_to (place_of control.home any) (control_of old.control) (control_of control) peer)) (way.waiting peer)
      ∙ ap (λ (h : Home). kept_for call peer (waiting_at old.tables peer)
      ++ texts (put_to (place_of h any) (control_of old.control) (control_of control) peer)) has.home)

  old_trees : (any : Core) → AreTreesOf (place_of control.home any) (control_of old.control) (own_vrfs (place_of control.home any)) old.control.trees
  old_trees any =
      subst (λ (h : Home). AreTreesOf (place_of h any) (control_of old.control) (own_vrfs (place_of h any)) old.control.trees) (sym has.home)
      (kept_trees old.control any step.trees)

  candidates : (any : Core) → AreCandidates (leaves (place_of control.home any) (control_of old.control))
      (leaves (place_of control.home any) (control_of control)) told.candidates.items told.leaves.items
  candidates any = record {
    all = λ fec h.
        same_leaf (place_of control.home any) (control_of old.control) (control_of control) old.control.trees control.trees fec (old_trees any)
        (kept_trees control any trees)
        (way.tunnels any fec refl) (same_wants fec old.control.trees control.trees has.wants);
    listed = λ fec h. absurd (let bad : false ≡ true = sym (ap (λ (list : List Fec). list_any (same_fec fec) list) none) ∙ h in cc);
  }

  -- what is kept and what peers are to have is that of the step, and no tree is a candidate
  pub settled : IsStepped core now call old new told
  settled = record {
    step = in_step;
    home = has.home;
    control = λ any is. step_control any;
    waiting = waiting;
    leaves = λ any. subst (λ (h : Home). AreCandidates (leaves (place_of h any) (control_of old.control))
        (leaves (place_of h any) (control_of control)) told.candidates.items told.leaves.items) has.home (candidates any);
  }

-- ---- a selection

-- the selection that a new pattern of the VRF gets at the clock
abbrev pub selected_now : Control → VrfId → ℕ → Selected
selected_now control vrf now = record { number = number_after control vrf; since = now; run = false }

pub select_made : (vrf : VrfId) (pattern : Pattern) (now : ℕ) (old : EdgeRouting) (control : Kept) (tables : Tables) → control.home ≡ old.control.home
    → ((core : Core) → control_of control ≡ effect (place_of old.control.home core) now (control_of old.control) (Customer (Select vrf pattern)))
    → wants_of control.trees ≡ wants_of old.control.trees
    → ((core : Core) → HoldAll (place_of control.home core)
    (with_selected (control_of old.control) vrf pattern (selected_now (control_of old.control) vrf now)) tables)
    → AreToldAlike old.tables tables → HasMade (Customer (Select vrf pattern)) now old control tables []
select_made vrf pattern now old control tables home made wants hold alike = record {
  home = home;
  made = made;
  wants = wants;
  allowed = tt;
  flows = λ core. refl;
  up = λ core peer. refl;
  hold = λ core. subst (λ (h : Home). HoldAll (place_of h core)
      (with_selected (control_of old.control) vrf pattern (selected_now (control_of old.control) vrf now)) tables) home (hold core);
  alike = alike;
  keeps = λ peer octets. refl;
  told = λ core. alike_tunnels (place_of old.control.home core) (control_of old.control) (control_of control) []
      (sym (ap (λ (c : Control). c.peers) (made core)));
}

pub unselect_made : (vrf : VrfId) (pattern : Pattern) (now : ℕ) (old : EdgeRouting) (control : Kept) (tables : Tables)
    → control.home ≡ old.control.home
    → ((core : Core) → control_of control ≡ effect (place_of old.control.home core) now (control_of old.control) (Customer (Unselect vrf pattern)))
    → wants_of control.trees ≡ wants_of old.control.trees
    → ((core : Core) → HoldAll (place_of control.home core) (without_selected (control_of old.control) vrf pattern) tables)
    → AreToldAlike old.tables tables → HasMade (Customer (Unselect vrf pattern)) now old control tables []
unselect_made vrf pattern now old control tables home made wants hold alike = record {
  home = home;
  made = made;
  wants = wants;
  allowed = tt;
  flows = λ core. refl;
  up = λ core peer. refl;
  hold = λ core. subst (λ (h : Home). HoldAll (place_of h core) (without_selected (control_of old.control) vrf pattern) tables) home (hold core);
  alike = alike;
  keeps = λ peer octets. refl;
  told = λ core. alike_tunnels (place_of old.control.home core) (control_of old.control) (control_of control) []
      (sym (ap (λ (c : Control). c.peers) (made core)));
}

-- ---- the number of its tunnel

pub lsp_is : (vrf : VrfId) (old kept : Kept) (shown : Home) (own : homes.OwnVrf) (lsp : ℕ) → shown ≡ kept.home → kept.home ≡ old.home
    → ((core : Core) → Among (as_own own) (own_vrfs (place_of shown core))) → own.id ≡ vrf
    → ((one : OwnVrf) → Among one (vrfs_of old.home) → one.id ≡ vrf → lsp ≡ tunnel_number one.vrf (number_after (control_of old) vrf))
    → tunnel_number own.local.vrf (number_after (control_of old) vrf) ≡ lsp
lsp_is vrf old kept shown own lsp same home among of number =
    sym (number (as_own own) (subst (λ (h : Home). Among (as_own own) (vrfs_of h)) (same ∙ home) (among no_core)) of)

-- it is not below that of the VRF's inclusive tunnel
pub lsp_large : (vrf : Vrf) (number lsp : ℕ) → tunnel_number vrf number ≡ lsp → tunnel_number vrf 0 ≤ lsp
lsp_large vrf number lsp is = omega (arith, is)
