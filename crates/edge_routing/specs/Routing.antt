-- What an edge keeps of its customers and of its peers, and what it sends the peers: both in step, and the steps that they make together.
use Rattle.std.specs.Prelude.{◌≡◌, ◌↔◌, ℕ, ◌++◌, true, List, Some, is_some}
use Rattle.std.specs.FinMap as maps
use Rattle.mv_base.specs.Lists.{Among}
use Rattle.mv_base.specs.declared.ids.NodeId.{NodeId}
use Rattle.mv_base.specs.core_walks.Core.{Core, IsCoreOf}
use Rattle.mv_base.specs.core_walks.Topology.{Topology}
use Rattle.mldp.specs.declared.mldp_fec.fec.Fec.{Fec}
use Rattle.edge_defs.specs.Edge.{Control}
use Rattle.edge_defs.specs.Held.{put_to}
use Rattle.edge_defs.specs.Place.{EdgePlace}
use Rattle.edge_defs.specs.Steps.{Call, control_step, effect, refreshed}
use Rattle.edge_defs.specs.Tunnels.{leaves}
use Rattle.edge_routes.specs.edge_home.Home.{peers_of, place_of}
use Rattle.edge_control.specs.edge_tables.Tables.{IsBetween, PeerTable, Tables, texts, waiting_at}
use Rattle.vrf_words.specs.tree_laws.Joins.{AreOfVrfs}
use Rattle.control_laws.specs.Control.{AreTrees, Kept, control_of}
use Rattle.edge_control.specs.Refreshing.{AreTold}
use Rattle.edge_control.specs.Sound.{wants_of}
use Rattle.held_tables.specs.Holding.{AreToldAlike, HoldAll}
use Rattle.control_laws.specs.group_laws.Groups.{HaveGroups}
use Rattle.edge_routing.specs.edge_updates.Inclusive.{AreTunnels}
use Rattle.edge_labels.specs.Changes.{AreCandidates}
use Rattle.edge_labels.specs.node_laws.Waits.{kept_for}
use Rattle.edge_routing.specs.declared.routing.EdgeRouting.{EdgeRouting}
use Rattle.edge_routing.specs.declared.routing.LeafCandidates.{LeafCandidates}

-- Each peer is to have what the edge holds for it now, and was sent what it held before.
abbrev pub AreBetween : EdgePlace → Control → Control → Tables → Type 0
AreBetween place old new tables = (peer : NodeId) (table : PeerTable) → maps.get tables peer ≡ Some table → IsBetween place old new peer table

-- Between two steps: the trees of the VRFs want what their flows want; the groups are multicast groups; each flow is one of a VRF of the
-- edge; each peer was sent what the edge holds for it; the peers are the other edges, and none but these is up.
pub record IsInStep (routing : EdgeRouting) : Type 0 where
  pub trees : AreTrees routing.control
  pub groups : HaveGroups (control_of routing.control)
  pub vrfs : (core : Core) → AreOfVrfs (place_of routing.control.home core) (control_of routing.control)
  pub tables : (core : Core) →
      AreBetween (place_of routing.control.home core) (control_of routing.control) (control_of routing.control) routing.tables
  pub peers : (peer : NodeId) → (is_some (maps.get routing.tables peer) ≡ true) ↔ Among peer (peers_of routing.control.home)
  pub up : (peer : NodeId) → is_some (maps.get routing.control.peers peer) ≡ true → is_some (maps.get routing.tables peer) ≡ true

-- A call has had its own effect: what is kept is that of the effect, each tree wants what it wanted, and each peer is to have what the
-- edge holds then. The inclusive tunnels that came or went are among those that are listed.
pub record IsOnWay (call : Call) (now : ℕ) (old between : EdgeRouting) (listed : List Fec) : Type 0 where
  pub home : between.control.home ≡ old.control.home
  pub control : (core : Core) →
      control_of between.control ≡ effect (place_of between.control.home core) now (control_of old.control) call
  pub wants : wants_of between.control.trees ≡ wants_of old.control.trees
  pub groups : HaveGroups (control_of between.control)
  pub vrfs : (core : Core) → AreOfVrfs (place_of between.control.home core) (control_of between.control)
  pub tables : (core : Core) →
      AreBetween (place_of between.control.home core) (control_of old.control) (control_of between.control) between.tables
  pub waiting : (peer : NodeId) → waiting_at between.tables peer ≡ kept_for call peer (waiting_at old.tables peer)
  pub peers : (peer : NodeId) → is_some (maps.get between.tables peer) ≡ is_some (maps.get old.tables peer)
  pub up : (peer : NodeId) → is_some (maps.get between.control.peers peer) ≡ true → is_some (maps.get between.tables peer) ≡ true
  pub tunnels : (core : Core) →
      AreTunnels (place_of between.control.home core) (control_of old.control) (control_of between.control) listed

-- What is kept after a refresh is the same with its flows refreshed.
pub record IsRefreshedTo (core : Topology) (now : ℕ) (old new : Kept) : Type 0 where
  pub home : new.home ≡ old.home
  pub control : (own : Core) → IsCoreOf core.nodes core.links own →
      control_of new ≡ refreshed (place_of old.home own) now (control_of old)

-- Flows were refreshed, and each peer is to have the joins of the flows as they are; no peer was sent anything. The selective tunnels that
-- some VRF wants from now on, or no more, are among those that are listed.
pub record HasRefreshed (core : Topology) (now : ℕ) (old new : EdgeRouting) (changed : List Fec) : Type 0 where
  pub own : Core
  pub is_core : IsCoreOf core.nodes core.links own
  pub is : IsRefreshedTo core now old.control new.control
  pub trees : AreTrees new.control
  pub groups : HaveGroups (control_of new.control)
  pub hold : (any : Core) → AreOfVrfs (place_of old.control.home any) (control_of old.control) →
      HoldAll (place_of old.control.home any) (control_of old.control) old.tables →
      HoldAll (place_of old.control.home any) (control_of new.control) new.tables
  pub alike : AreToldAlike old.tables new.tables
  pub wants : AreTold old.control.trees new.control.trees changed

-- The step of a call was made: what is kept is that of the step, and what it puts to a peer waits for it. The trees of which the edge
-- becomes or stops being a leaf are candidates, and those of them are listed of which it is to be one.
pub record IsStepped (core : Topology) (now : ℕ) (call : Call) (old new : EdgeRouting) (told : LeafCandidates) : Type 0 where
  pub step : IsInStep new
  pub home : new.control.home ≡ old.control.home
  pub control : (own : Core) → IsCoreOf core.nodes core.links own →
      control_of new.control ≡ control_step (place_of old.control.home own) now (control_of old.control) call
  pub waiting : (own : Core) (peer : NodeId) → Among peer (peers_of old.control.home) →
      waiting_at new.tables peer ≡ kept_for call peer (waiting_at old.tables peer)
      ++ texts (put_to (place_of old.control.home own) (control_of old.control) (control_of new.control) peer)
  pub leaves : (own : Core) → AreCandidates (leaves (place_of old.control.home own) (control_of old.control))
      (leaves (place_of old.control.home own) (control_of new.control)) told.candidates.items told.leaves.items
