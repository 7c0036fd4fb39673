-- Calls of the operator: they change no leaf, so they make no label step, and stop at their limits before any change.
use Rattle.std.proofs.Common.{◌≡◌, ◌∙◌, refl, sym, ap, subst, arith, ℕ, ◌++◌, ◌&&◌, ◌||◌, not, Bool, true, false, inl, List, [], ◌∷◌, None, is_some, Ok, Err}
use Rattle.std.specs.FinMap as maps
use Rattle.std.specs.FinMap.{FinMap}
use Rattle.std.specs.FinSet as sets
use Rattle.std.specs.FinSet.{FinSet}
use Rattle.std.proofs.lemmas.Option.{none-some}
use Rattle.mv_base.specs.Lists.{Among}
use Rattle.mv_base.specs.declared.ids.NodeId.{NodeId}
use Rattle.scenario_defs.specs.declared.event.Kind.{Kind}
use Rattle.scenario_defs.specs.declared.event.Kind.TheVariants as kinds
use Rattle.mv_base.specs.core_walks.Core.{Core, IsCoreOf}
use Rattle.mv_base.specs.core_walks.Topology.{Topology}
use Rattle.label_defs.specs.Keys.{fec_cmp, node_cmp}
use Rattle.edge_defs.specs.Edge.{Control}
use Rattle.edge_defs.specs.Place.{EdgePlace}
use Rattle.edge_defs.specs.Steps.{Call, changed_leaves, control_step, one_call, own_label_call, raised_after}
use Rattle.edge_defs.specs.Tunnels.{leaves}
use Rattle.edge_defs.proofs.LeafLemmas.{changed_from}
use Rattle.edge_routes.specs.edge_home.Home.{Home, place_of}
use Rattle.edge_routing.specs.edge_tables.Tables.{waiting_at}
use Rattle.edge_routing.specs.control_laws.Control.{control_of}
use Rattle.edge_routing.proofs.control_laws.Parts.{no_core}
use Rattle.network_defs.specs.node_defs.EdgeState.{EdgeState, called, prepared}
use Rattle.node_laws.specs.Parts.{HasParts}
use Rattle.node_laws.specs.Places.{node_place}
use Rattle.node_laws.specs.Rows.{all_called, label_calls}
use Rattle.node_laws.proofs.PartLemmas.{parts_made, raises_made}
use Rattle.node_laws.proofs.TakenLemmas.{unspent_streams}
use Rattle.edge_routing.specs.declared.routing.EdgeRouting.{EdgeRouting}
use Rattle.edge_routing.specs.declared.routing.LeafCandidates.{LeafCandidates}
use Rattle.edge_routing.specs.Routing.{IsStepped}
use Rattle.edge_core.specs.declared.fault.EdgeFault.{EdgeFault}
use Rattle.edge_core.specs.declared.fault.EdgeFault.TheVariants as faults
use Rattle.edge_core.specs.declared.parts.Parts.{Parts}
use Rattle.edge_core.specs.Called.{SettlesCall, going, spent_after}
use Rattle.edge_core.specs.State.{IsIn, IsLive, is_up_in}
use Rattle.edge_core.proofs.PeerLemmas.{peer_among}
use Rattle.edge_core.proofs.StepLemmas.{one_fault}

-- ---- leaves that stay

none_among : {X : Type 0} (xs : List X) → ((x : X) → Among x xs → ⊥) → xs ≡ []
none_among [] none = refl
none_among (x ∷ more) none = absurd (none x (inl refl))

-- leaves that stay are no change
none_changed : (own : FinSet fec_cmp) → changed_leaves own own ≡ []
none_changed own =
    none_among (changed_leaves own own) (λ call among. let from = changed_from own own call among in by (sets.contains own from.0) from.2 from.3)
  where
    by : (b : Bool) → not (b && b) ≡ true → (b || b) ≡ true → ⊥
    by true differs one = absurd cc
    by false differs one = absurd cc

-- a core of no nodes
core_of_none : IsCoreOf 0 [] no_core
core_of_none = record {
  least = λ from to low high. absurd (omega (arith, low));
  itself = λ node. refl;
  first = λ from to low high other. absurd (omega (arith, low));
  outside = λ from to out. (refl, refl);
}

-- ---- the step

-- the call has no label step of its own, does nothing to streams and peers, and changes no leaf, whatever the core
pub record ChangesNoLeaf (now : ℕ) (call : Call) : Type 0 where
  pub own : own_label_call call ≡ None
  pub prepared : (state : EdgeState) → prepared call state ≡ state
  pub leaves : (place other : EdgePlace) (control : Control) → leaves place (control_step other now control call) ≡ leaves place control
  pub peers : (place : EdgePlace) (control : Control) (peer : NodeId) →
      is_some (maps.get (control_step place now control call).peers peer) ≡ is_some (maps.get control.peers peer)
  pub raised : (raised : FinMap node_cmp ℕ) → raised_after now raised call ≡ raised

module _ (now : ℕ) (call : Call) (calm : ChangesNoLeaf now call) (old : Parts) (routing : EdgeRouting) (told : LeafCandidates)
    (live : IsLive old.routing old.labels old.streams)
    (home : routing.control.home ≡ old.routing.control.home) (stepped : (core : Topology) → IsStepped core now call old.routing routing told) where
  abbrev control : Control
  control = control_of old.routing.control

  abbrev new : Parts
  new = record old { routing = routing }

  no_calls : (place : EdgePlace) → label_calls place now control call ≡ []
  no_calls place =
      (λ i. one_call (calm.own i) ++ changed_leaves (leaves place control) (calm.leaves place place control i))
      ∙ none_changed (leaves place control)

  still_up : (kind : Kind) (peer : NodeId) → is_up_in routing old.labels kind peer ≡ is_up_in old.routing old.labels kind peer
  still_up kinds.Bgp peer =
      ap (λ (c : Control). is_some (maps.get c.peers peer)) ((stepped (record { nodes = 0; links = [] })).control no_core core_of_none)
      ∙ calm.peers (place_of old.routing.control.home no_core) control peer
  still_up kinds.Ldp peer = refl

  live_still : IsLive routing old.labels old.streams
  live_still = record {
    step = (stepped (record { nodes = 0; links = [] })).step;
    place = live.place ∙ ap (λ (h : Home). node_place h.scenario h.me) (sym home);
    unspent = live.unspent;
    leaves = λ any. live.leaves any
        ∙ sym (calm.leaves (place_of old.routing.control.home any) (place_of old.routing.control.home no_core) control)
        ∙ sym (λ i. leaves (place_of (home i) any) ((stepped (record { nodes = 0; links = [] })).control no_core core_of_none i));
    up = λ kind peer. live.up kind peer ∙ sym (still_up kind peer);
    quiet = live.quiet;
  }

  edge_made : (core : Topology) (is : Core) → IsCoreOf core.nodes core.links is → (state : EdgeState) → IsIn state (going old)
      → IsIn (called (place_of old.routing.control.home is) now state call) (going new)
  edge_made core is told_so state in_old =
      let place = place_of old.routing.control.home is in
      let has =
      parts_made place now call state control old.labels.node (waiting_at old.routing.tables) (in_old.parts is) (control_of routing.control)
      old.labels.node (waiting_at routing.tables)
      ((stepped core).control is told_so)
      (ap (all_called (node_place place.scenario place.me) is now old.labels.node) (sym (no_calls place))) live.unspent
      (λ peer among other. (stepped core).waiting is peer (peer_among place.me peer 0 place.scenario.nodes other among)) in
      record {
        parts = λ any. subst (λ (h : Home). HasParts (place_of h any) (called place now state call) (control_of routing.control) old.labels.node
            (waiting_at routing.tables)) (sym home)
            (record { unspent = has.unspent; keeps = has.keeps; label = has.label; peers = has.peers });
        streams =
            unspent_streams place now call state (in_old.parts is).unspent
            ∙ (ap (λ (s : EdgeState). s.streams) (calm.prepared state) ∙ in_old.streams);
        raised = raises_made place now call state (in_old.parts is).unspent has.unspent ∙ (calm.raised state.edge.raised ∙ in_old.raised);
      }

  pub has_selected : (core : Topology) → SettlesCall core now call (going old) new (Ok tt)
  has_selected core = record {
    answers = record {
      home = home;
      before = λ spent e. absurd (none-some spent e);
      unspent = refl;
      made = λ is told_so state in_old. edge_made core is told_so state in_old;
      goes_on = refl;
      toward = λ none known told_so waits. waits;
      lacks = λ e. absurd cc;
      spends = λ fault e. absurd cc;
    };
    live = λ e. live_still;
  }

-- ---- limits

-- an edge that would hold too many stays as it is
pub stays_full : (core : Topology) (now : ℕ) (call : Call) (old : Parts) (routing : EdgeRouting) → routing ≡ old.routing
    → IsLive old.routing old.labels old.streams
    → SettlesCall core now call (going old) (record old { routing = routing }) (Err faults.Full)
stays_full core now call old routing same live = record {
  answers = record {
    home = ap (λ (r : EdgeRouting). r.control.home) same;
    before = λ spent e. absurd (none-some spent e);
    unspent = tt;
    made = tt;
    goes_on = tt;
    toward = λ none known told_so waits. waits;
    lacks = λ e. absurd (no_label (one_fault faults.Full faults.NoLabel e));
    spends = λ fault e none. ap spent_after e;
  };
  live = λ e. subst (λ (r : EdgeRouting). IsLive r old.labels old.streams) (sym same) live;
}
  where
    no_label : ◌≡◌ {A = EdgeFault} faults.Full faults.NoLabel → ⊥
    no_label e = absurd cc
