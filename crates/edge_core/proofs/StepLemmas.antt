-- The label steps of a call, and what the edge is after them.
use Rattle.std.proofs.Common.{◌≡◌, ◌≢◌, ◌∙◌, refl, sym, ap, subst, arith, ℕ, zero, suc, ◌<◌, Bool, true, false, cond, inl, inr, List, [], ◌∷◌, ◌++◌, map, length, All, Option, None, Some, Result, Ok, Err, OnOk, is_some, slice_index_or, if◌then◌else◌}
use Rattle.std.specs.Ordering.{eq_by_cmp}
use Rattle.std.specs.FinMap as maps
use Rattle.std.specs.FinMap.{FinMap}
use Rattle.std.specs.FinSet as sets
use Rattle.std.specs.FinSet.{FinSet}
use Rattle.std.proofs.lemmas.Option.{none-some}
use Rattle.mv_base.specs.Lists.{Among}
use Rattle.mv_base.specs.declared.ids.NodeId.{NodeId}
use Rattle.mv_base.specs.declared.memory.NoMemory.{NoMemory}
use Rattle.mldp.specs.declared.mldp_fec.fec.Fec.{Fec}
use Rattle.mv_base.specs.framing.Feed.{unfed}
use Rattle.network_defs.specs.session_defs.Message.{SessionMessage}
use Rattle.network_defs.specs.session_defs.Octets.{Stream}
use Rattle.network_defs.specs.session_defs.PeerSession.{PeerSession, peer_cmp, stream_at}
use Rattle.mv_base.specs.core_walks.Core.{Core, IsCoreOf}
use Rattle.mv_base.specs.core_walks.Topology.{Topology}
use Rattle.label_defs.specs.Keys.{fec_cmp, node_cmp}
use Rattle.label_defs.specs.Node.{LacksLabel, LacksMemory, LabelNode, NodePlace}
use Rattle.label_defs.specs.Steps as steps
use Rattle.label_defs.specs.Steps.{Want, Unwant}
use Rattle.scenario_defs.specs.declared.event.Kind.{Kind}
use Rattle.scenario_defs.specs.declared.event.Kind.TheVariants as kinds
use Rattle.edge_routing.specs.edge_streams.Kept.{session}
use Rattle.edge_defs.specs.Edge.{Control}
use Rattle.edge_defs.specs.Place.{EdgePlace}
use Rattle.edge_defs.specs.Steps.{Call, Customer, Update, Label, Raised, Noticed, Timers, Rerouted, changed_leaves, control_step, one_call, raised_after}
use Rattle.edge_defs.specs.Tunnels.{leaves}
use Rattle.edge_routes.specs.edge_home.Home.{Home, IsHome, peers_of, place_of}
use Rattle.edge_routing.specs.edge_tables.Tables.{waiting_at}
use Rattle.edge_routing.specs.control_laws.Control.{control_of}
use Rattle.mldp_node.specs.NodeData.{NodeData, IsWaitingTowardRoots, MayWant, WaitsTowardRootsOf, cause}
use Rattle.mldp_node.specs.Parts.{WaitTowardRoots}
use Rattle.mldp_node.specs.declared.fault.NodeFault.{NodeFault}
use Rattle.mldp_node.specs.declared.fault.NodeFault.TheVariants as node_faults
use Rattle.network_defs.specs.node_defs.EdgeState.{EdgeState, called, prepared}
use Rattle.node_laws.specs.Parts.{HasParts}
use Rattle.node_laws.specs.Places.{node_place}
use Rattle.node_laws.specs.Rows.{all_called, label_calls}
use Rattle.node_laws.proofs.OctetLemmas.{peer_total}
use Rattle.node_laws.proofs.PartLemmas.{leaves_made, parts_lack, parts_made, raises_made}
use Rattle.node_laws.proofs.TakenLemmas.{unspent_streams}
use Rattle.node_laws.proofs.leaf_laws.Wanted.{leaf_wanted}
use Rattle.edge_routing.specs.edge_labels.declared.changes.LeafChange.{LeafChange}
use Rattle.edge_routing.specs.edge_labels.declared.own_call.OwnCall.{OwnCall}
use Rattle.edge_routing.specs.edge_labels.declared.own_call.OwnCall.TheVariants as owns
use Rattle.edge_routing.specs.edge_labels.Changes.{AreCandidates}
use Rattle.edge_routing.specs.edge_labels.Calls.{AnswersAll, IsWantable, WaitedBefore, calls_of, leaf_call}
use Rattle.edge_routing.proofs.edge_labels.RowLemmas.{waited}
use Rattle.edge_routing.specs.declared.routing.LeafCandidates.{LeafCandidates}
use Rattle.edge_routing.proofs.PeerNumbers.{is_node}
use Rattle.edge_core.specs.declared.fault.EdgeFault.{EdgeFault}
use Rattle.edge_core.specs.declared.fault.EdgeFault.TheVariants as faults
use Rattle.edge_core.specs.declared.parts.Parts.{Parts}
use Rattle.edge_core.specs.Answers.{IsOneOf, fault_of, spent_by, streams_after}
use Rattle.edge_core.specs.Called.{IsMidway, SettlesCall, going, spent_after}
use Rattle.edge_core.specs.State.{IsIn, IsLive, home_of, is_up_in}
use Rattle.edge_core.specs.View.{EdgeView}
use Rattle.edge_core.proofs.PeerLemmas.{never_own, peer_among}
use Rattle.edge_core.proofs.UpLemmas.{ends_up, peers_up, streams_up, up_by}

-- ---- trees that may be wanted

-- whether a fact of each member holds at each place
pub all_of : {X : Type 0} (P : X → Type 0) (xs : List X) → ((x : X) → Among x xs → P x) → All P xs
all_of P [] h = λ k d lt. absurd (omega (arith, lt))
all_of {X} P (x ∷ xs) h = by (all_of P xs (λ y a. h y (inr a)))
  where
    by : All P xs → (k : ℕ) (d : X) → k < length (x ∷ xs) → P (slice_index_or (x ∷ xs) k d)
    by rest zero d lt = h x (inl refl)
    by rest (suc k) d lt = rest k d (omega (arith, lt))

module _ (new : FinSet fec_cmp) where
  same_want : (a b : Fec) → ◌≡◌ {A = steps.Call} (Want a) (Want b) → a ≡ b
  same_want a b e = cc

  -- a tree that is to be wanted is one of the new leaves
  want_is_new : (fecs : List Fec) (call : steps.Call) (fec : Fec) → call ≡ Want fec
      → Among call (map (λ own. if sets.contains new own then Want own else Unwant own) fecs) → sets.contains new fec ≡ true
  want_is_new [] call fec e among = absurd among
  want_is_new (own ∷ more) call fec e (inr a) = want_is_new more call fec e a
  want_is_new (own ∷ more) call fec e (inl s) = by (sets.contains new own) refl (sym s ∙ e)
    where
      by : (b : Bool) → sets.contains new own ≡ b → cond b (Want own) (Unwant own) ≡ Want fec → sets.contains new fec ≡ true
      by true h k = subst (λ (f : Fec). sets.contains new f ≡ true) (same_want own fec k) h
      by false h k = absurd cc

  among_map : (change : LeafChange) (changes : List LeafChange) → Among change changes → Among (leaf_call change) (map leaf_call changes)
  among_map change [] among = absurd among
  among_map change (x ∷ xs) (inl s) = inl (ap leaf_call s)
  among_map change (x ∷ xs) (inr a) = inr (among_map change xs a)

  want_call : (change : LeafChange) → change.wanted ≡ true → leaf_call change ≡ Want change.fec
  want_call change e = λ i. cond (e i) (Want change.fec) (Unwant change.fec)

  pub new_leaf : (old : FinSet fec_cmp) (changes : List LeafChange) → map leaf_call changes ≡ changed_leaves old new → (change : LeafChange)
      → Among change changes → change.wanted ≡ true → sets.contains new change.fec ≡ true
  new_leaf old changes are change among wanted =
      want_is_new _ (leaf_call change) change.fec (want_call change wanted)
      (subst (λ (calls : List steps.Call). Among (leaf_call change) calls) are (among_map change changes among))

-- ---- streams

abbrev stream_or : Option Stream → Stream
stream_or o = elim o [ None ↦ unfed | Some stream ↦ stream ]

abbrev waiting_of : Option Stream → List SessionMessage
waiting_of o = (stream_or o).waiting

either : (b : Bool) (o p : Option Stream) → waiting_of o ≡ [] → waiting_of p ≡ [] → waiting_of (cond b o p) ≡ []
either true o p e f = e
either false o p e f = f

-- a session that comes up or is lost has nothing that waits in its stream
still_quiet : (call : Call) (streams : FinMap peer_cmp Stream) → ((own : PeerSession) → (stream_at streams own).waiting ≡ []) → (own : PeerSession)
    → (stream_at (streams_after call streams) own).waiting ≡ []
still_quiet (Raised kind peer) streams quiet own =
    let raised : PeerSession = record { kind = kind; peer = peer } in
    ap waiting_of (maps.get-insert peer_total streams raised unfed own)
    ∙ either (eq_by_cmp peer_cmp own raised) (Some unfed) (maps.get streams own) refl (quiet own)
still_quiet (Noticed kind peer) streams quiet own =
    let lost : PeerSession = record { kind = kind; peer = peer } in
    ap waiting_of (maps.get-remove peer_total streams lost own) ∙ either (eq_by_cmp peer_cmp own lost) None (maps.get streams own) refl (quiet own)
still_quiet (Update peer message) streams quiet own = quiet own
still_quiet (Label peer message) streams quiet own = quiet own
still_quiet (Customer call) streams quiet own = quiet own
still_quiet Timers streams quiet own = quiet own
still_quiet Rerouted streams quiet own = quiet own

-- ---- answers

pub one_fault : (a b : EdgeFault) → ◌≡◌ {A = Result (Unit {0}) EdgeFault} (Err a) (Err b) → a ≡ b
one_fault a b e = cc

-- An edge that lacks memory is spent, and no more is said of it.
pub lacks_memory : (core : Topology) (now : ℕ) (call : Call) (old : EdgeView) (parts : Parts) (fault : EdgeFault) → fault ≡ faults.NoMemory
    → old.spent ≡ None → parts.routing.control.home ≡ home_of old → SettlesCall core now call old parts (Err fault)
lacks_memory core now call old parts fault is unspent home = record {
  answers = record {
    home = home;
    before = λ spent e. absurd (none-some spent (sym unspent ∙ e));
    unspent = tt;
    made = tt;
    goes_on = tt;
    toward = λ none. absurd (none-some LacksMemory (sym none ∙ ap spent_by is));
    lacks = λ e none. absurd (no_label e);
    spends = λ other e none. ap spent_after e;
  };
  live = λ e. absurd (none-some LacksMemory (sym e ∙ ap spent_by is));
}
  where
    no_label : ◌≡◌ {A = Result (Unit {0}) EdgeFault} (Err fault) (Err faults.NoLabel) → ⊥
    no_label e = absurd (let k : faults.NoMemory ≡ faults.NoLabel = sym is ∙ one_fault fault faults.NoLabel e in cc)

pub by_memory : (refusals : List EdgeFault) (fault : EdgeFault) → fault ≡ faults.NoMemory → IsOneOf refusals (Err fault)
by_memory refusals fault is = λ other e. inr (inl (sym (one_fault fault other e) ∙ is))

pub by_node : (refusals : List EdgeFault) (fault : EdgeFault) (cause_of : NodeFault) → fault ≡ fault_of (cause cause_of)
    → IsOneOf refusals (Err fault)
by_node refusals fault node_faults.NoLabel is = λ other e. inl (sym (one_fault fault other e) ∙ is)
by_node refusals fault node_faults.NoMemory is = λ other e. inr (inl (sym (one_fault fault other e) ∙ is))

-- ---- a call midway

module _ (core : Topology) (now : ℕ) (own : OwnCall) (call : Call) (old : EdgeView) (parts : Parts) where
  -- what was told is known
  pub told_is : (told : Result LeafCandidates NoMemory) (known : LeafCandidates) → told ≡ Ok known → IsMidway core now own call old told parts
      → IsMidway core now own call old (Ok known) parts
  told_is told known is mid = subst (λ (t : Result LeafCandidates NoMemory). IsMidway core now own call old t parts) is mid

  module _ (told : LeafCandidates) (mid : IsMidway core now own call old (Ok told) parts) where
    abbrev control : Control
    control = control_of old.routing.control

    abbrev new_control : Control
    new_control = control_of parts.routing.control

    -- each tree that is to be wanted may be
    pub wantable : IsHome parts.routing.control.home.scenario parts.routing.control.home.me → (any : Core) (changes : List LeafChange)
        → map leaf_call changes ≡ changed_leaves parts.labels.node.part.leaves (leaves (place_of parts.routing.control.home any) new_control)
        → All (IsWantable parts.labels.place) changes
    wantable home any changes are = all_of (IsWantable parts.labels.place) changes (λ change among wanted.
        subst (λ p. MayWant p change.fec) (sym (ap (λ (l : NodeData). l.place) mid.labels ∙ mid.live.place
        ∙ ap (λ (h : Home). node_place h.scenario h.me) (sym mid.home)))
        (leaf_wanted (place_of parts.routing.control.home any) new_control home.rules peers change.fec
        (new_leaf (leaves (place_of parts.routing.control.home any) new_control) parts.labels.node.part.leaves changes are change among wanted)))
      where
        peers : (peer : NodeId) → is_some (maps.get new_control.peers peer) ≡ true
            → (peer.0 < length parts.routing.control.home.scenario.nodes) × (peer ≢ parts.routing.control.home.me)
        peers peer up =
            let among = (mid.stepped.step.peers peer).0 (mid.stepped.step.up peer up) in (
              is_node parts.routing.control.home peer among,
              λ e. never_own parts.routing.control.home.me 0 parts.routing.control.home.scenario.nodes
                  (subst (λ (p : NodeId). Among p (peers_of parts.routing.control.home)) e among),
            )

    -- the candidates, by what the label part is a leaf of
    pub candidates : (any : Core) → AreCandidates parts.labels.node.part.leaves (leaves (place_of parts.routing.control.home any) new_control)
        told.candidates.items told.leaves.items
    candidates any =
        subst (λ (h : Home). AreCandidates parts.labels.node.part.leaves (leaves (place_of h any) new_control) told.candidates.items
        told.leaves.items) (sym mid.home)
        (subst (λ (s : FinSet fec_cmp). AreCandidates s (leaves (place_of (home_of old) any) new_control) told.candidates.items told.leaves.items)
        (sym (ap (λ (l : NodeData). l.node.part.leaves) mid.labels ∙ mid.live.leaves any)) (mid.stepped.leaves any))

    -- the changes of the candidates are those of the leaves
    pub changes_of : (leaves_told : List Fec) (changes : List LeafChange) → leaves_told ≡ told.leaves.items
        → ((new : FinSet fec_cmp) → AreCandidates parts.labels.node.part.leaves new told.candidates.items leaves_told
        → map leaf_call changes ≡ changed_leaves parts.labels.node.part.leaves new)
        → (any : Core) → map leaf_call changes ≡ changed_leaves parts.labels.node.part.leaves
        (leaves (place_of parts.routing.control.home any) new_control)
    changes_of leaves_told changes same found any = found (leaves (place_of parts.routing.control.home any) new_control)
        (subst (λ (fecs : List Fec). AreCandidates parts.labels.node.part.leaves (leaves (place_of parts.routing.control.home any) new_control)
        told.candidates.items fecs) (sym same) (candidates any))

    module _ (labels : NodeData) (changes : List LeafChange) (result : Result (Unit {0}) NodeFault)
        (are : (any : Core) → map leaf_call changes
        ≡ changed_leaves parts.labels.node.part.leaves (leaves (place_of parts.routing.control.home any) new_control))
        (row : AnswersAll core now (calls_of own changes) parts.labels labels result) where
      abbrev after : EdgeView
      after = going (record parts { labels = labels })

      -- the calls of the row are those of the step
      calls_are : (is : Core) → IsCoreOf core.nodes core.links is → calls_of own changes ≡ label_calls (place_of (home_of old) is) now control call
      calls_are is told_so = λ i. one_call (mid.is_own i) ++ (leaf_calls i)
        where
          leaf_calls : map leaf_call changes ≡ changed_leaves (leaves (place_of (home_of old) is) control)
              (leaves (place_of (home_of old) is) (control_step (place_of (home_of old) is) now control call))
          leaf_calls =
              are is ∙ (λ i. changed_leaves ((ap (λ (l : NodeData). l.node.part.leaves) mid.labels ∙ mid.live.leaves is) i)
              (leaves (place_of (mid.home i) is) (mid.stepped.control is told_so i)))

      row_is : (is : Core) → IsCoreOf core.nodes core.links is
          → all_called parts.labels.place is now parts.labels.node (calls_of own changes)
          ≡ all_called (node_place (home_of old).scenario (home_of old).me) is now old.labels.node
          (label_calls (place_of (home_of old) is) now control call)
      row_is is told_so =
          λ i. all_called ((ap (λ (l : NodeData). l.place) mid.labels ∙ mid.live.place) i) is now (mid.labels i).node (calls_are is told_so i)

      -- each tree that waits does so towards its root
      toward_made : result ≡ Ok tt → (known : Core) → IsCoreOf core.nodes core.links known
          → WaitedBefore (calls_of own changes) parts.labels.place known parts.labels.awaited → IsWaitingTowardRoots known labels
      toward_made e known told_so waits = by result row.toward e
        where
          by : (r : Result (Unit {0}) NodeFault)
              → OnOk r ((k : Core) → IsCoreOf core.nodes core.links k → WaitedBefore (calls_of own changes) parts.labels.place k parts.labels.awaited
              → WaitTowardRoots parts.labels.place k labels.awaited)
              → r ≡ Ok tt → IsWaitingTowardRoots known labels
          by (Ok done) toward e = subst (λ (p : NodePlace). WaitTowardRoots p known labels.awaited) (sym row.place) (toward known told_so waits)
          by (Err fault) toward e = absurd cc

      streams_made : (place : EdgePlace) (state : EdgeState) → IsIn state old → state.spent ≡ None
          → (called place now state call).streams ≡ parts.streams
      streams_made place state in_old unspent =
          unspent_streams place now call state unspent ∙ (by_call call ∙ (ap (streams_after call) in_old.streams ∙ sym mid.streams))
        where
          by_call : (c : Call) → (prepared c state).streams ≡ streams_after c state.streams
          by_call (Update peer message) = refl
          by_call (Label peer message) = refl
          by_call (Customer call) = refl
          by_call (Raised kind peer) = refl
          by_call (Noticed kind peer) = refl
          by_call Timers = refl
          by_call Rerouted = refl

      module _ (is : Core) (told_so : IsCoreOf core.nodes core.links is) where
        abbrev place : EdgePlace
        place = place_of (home_of old) is

        node_made : result ≡ Ok tt → labels.node ≡ all_called (node_place place.scenario place.me) place.core now old.labels.node
            (label_calls place now control call)
        node_made e = on_ok result e row.made is told_so ∙ row_is is told_so
          where
            on_ok : {P : Type 0} (r : Result (Unit {0}) NodeFault) → r ≡ Ok tt → OnOk r P → P
            on_ok (Ok done) e h = h
            on_ok (Err fault) e h = absurd cc

        ends_made : result ≡ Ok tt → labels.node.spent ≡ None → (kind : Kind) (peer : NodeId)
            → is_up_in parts.routing labels kind peer ≡ up_by kind call peer (is_up_in old.routing old.labels kind peer)
        ends_made e unspent kinds.Bgp peer =
            ap (λ (c : Control). is_some (maps.get c.peers peer)) (mid.stepped.control is told_so) ∙ peers_up place now control call peer
        ends_made e unspent kinds.Ldp peer =
            ap (λ (n : LabelNode). is_some (maps.get n.part.ends peer)) (node_made e)
            ∙ ends_up place now call (leaves place control) (leaves place (control_step place now control call)) old.labels.node peer mid.live.unspent
            (ap (λ (n : LabelNode). n.spent) (sym (node_made e)) ∙ unspent)

        live_made : result ≡ Ok tt → labels.node.spent ≡ None → IsLive parts.routing labels parts.streams
        live_made e unspent = record {
          step = mid.stepped.step;
          place = row.place ∙ (ap (λ (l : NodeData). l.place) mid.labels
              ∙ (mid.live.place ∙ ap (λ (h : Home). node_place h.scenario h.me) (sym mid.home)));
          unspent = unspent;
          leaves = λ any. leaves_made place now call control old.labels.node labels.node mid.live.unspent (mid.live.leaves is) (node_made e) unspent
              ∙ sym (λ i. leaves (place_of (mid.home i) is) (mid.stepped.control is told_so i));
          up = λ kind peer.
              ap (λ (s : FinMap peer_cmp Stream). is_some (maps.get s (session kind peer))) mid.streams
              ∙ (streams_up kind call old.streams peer ∙ (ap (up_by kind call peer) (mid.live.up kind peer) ∙ sym (ends_made e unspent kind peer)));
          quiet = λ own_session. subst (λ (s : FinMap peer_cmp Stream). (stream_at s own_session).waiting ≡ []) (sym mid.streams)
              (still_quiet call old.streams mid.live.quiet own_session);
        }

        edge_made : result ≡ Ok tt → labels.node.spent ≡ None → (state : EdgeState) → IsIn state old → IsIn (called place now state call) after
        edge_made e unspent state in_old =
            let has =
            parts_made place now call state control old.labels.node (waiting_at old.routing.tables) (in_old.parts is) new_control labels.node
            (waiting_at parts.routing.tables)
            (mid.stepped.control is told_so) (node_made e) unspent
            (λ peer among other. mid.stepped.waiting is peer (peer_among (home_of old).me peer 0 (home_of old).scenario.nodes other among)) in
            record {
              parts = λ any. subst (λ (h : Home). HasParts (place_of h any) (called place now state call) new_control labels.node
                  (waiting_at parts.routing.tables)) (sym mid.home)
                  (record { unspent = has.unspent; keeps = has.keeps; label = has.label; peers = has.peers });
              streams = streams_made place state in_old (in_old.parts is).unspent;
              raised = raises_made place now call state (in_old.parts is).unspent has.unspent
                  ∙ (ap (λ (r : FinMap node_cmp ℕ). raised_after now r call) in_old.raised ∙ sym mid.raised);
            }

        edge_lacks : result ≡ Err node_faults.NoLabel → (state : EdgeState) → IsIn state old → (called place now state call).spent ≡ Some LacksLabel
        edge_lacks e state in_old =
            parts_lack place now call state control old.labels.node (waiting_at old.routing.tables) (in_old.parts is)
            (sym (ap (λ (n : LabelNode). n.spent) (row_is is told_so))
            ∙ row.lacks e (ap (λ (l : NodeData). l.node.spent) mid.labels ∙ mid.live.unspent) is told_so)

    -- the label step was made
    pub has_settled : (labels : NodeData) (changes : List LeafChange) → (some : (is : Core) × IsCoreOf core.nodes core.links is)
        → ((any : Core) → map leaf_call changes ≡ changed_leaves parts.labels.node.part.leaves
        (leaves (place_of parts.routing.control.home any) new_control))
        → AnswersAll core now (calls_of own changes) parts.labels labels (Ok tt)
        → SettlesCall core now call old (record parts { labels = labels }) (Ok tt)
    has_settled labels changes some are row = record {
      answers = record {
        home = mid.home;
        before = λ spent e. absurd (none-some spent (sym mid.unspent ∙ e));
        unspent = mid.unspent;
        made = λ is told_so state in_old. edge_made labels changes (Ok tt) are row is told_so refl row.goes_on state in_old;
        goes_on = refl;
        toward = λ none known told_so waits. toward_made labels changes (Ok tt) are row refl known told_so
            (waited (calls_of own changes) parts.labels.place known parts.labels
            (subst (IsWaitingTowardRoots known) (sym mid.labels) waits));
        lacks = λ e. absurd cc;
        spends = λ fault e. absurd cc;
      };
      live = λ e. live_made labels changes (Ok tt) are row some.0 some.1 refl row.goes_on;
    }

    -- where costs of links changed, they do so by the new ones
    pub has_rerouted : (labels : NodeData) (changes : List LeafChange)
        → ((any : Core) → map leaf_call changes ≡ changed_leaves parts.labels.node.part.leaves
        (leaves (place_of parts.routing.control.home any) new_control))
        → AnswersAll core now (calls_of own changes) parts.labels labels (Ok tt) → own ≡ owns.Reroute → WaitsTowardRootsOf core labels
    has_rerouted labels changes are row e known told_so =
        toward_made labels changes (Ok tt) are row refl known told_so
        (subst (λ (o : OwnCall). WaitedBefore (calls_of o changes) parts.labels.place known parts.labels.awaited) (sym e) tt)

    -- it lacked a label, or memory
    pub has_stopped : (labels : NodeData) (changes : List LeafChange) (fault : NodeFault) (told_as : EdgeFault) → told_as ≡ fault_of (cause fault)
        → ((any : Core) → map leaf_call changes ≡ changed_leaves parts.labels.node.part.leaves
        (leaves (place_of parts.routing.control.home any) new_control))
        → AnswersAll core now (calls_of own changes) parts.labels labels (Err fault)
        → SettlesCall core now call old (record parts { labels = labels }) (Err told_as)
    has_stopped labels changes fault told_as as_fault are row = record {
      answers = record {
        home = mid.home;
        before = λ spent e. absurd (none-some spent (sym mid.unspent ∙ e));
        unspent = tt;
        made = tt;
        goes_on = tt;
        toward = λ none. absurd (spends_some fault (sym (ap spent_by as_fault) ∙ none));
        lacks = λ e none is told_so state in_old. edge_lacks labels changes (Err fault) are row is told_so
            (ap (λ (f : NodeFault). Err f) (label_lacking fault (sym as_fault ∙ one_fault told_as faults.NoLabel e))) state in_old;
        spends = λ other e none. ap spent_after e;
      };
      live = λ e. absurd (spends_some fault (sym (ap spent_by as_fault) ∙ e));
    }
      where
        spends_some : (f : NodeFault) → spent_by (fault_of (cause f)) ≡ None → ⊥
        spends_some node_faults.NoLabel e = absurd cc
        spends_some node_faults.NoMemory e = absurd cc

        label_lacking : (f : NodeFault) → fault_of (cause f) ≡ faults.NoLabel → f ≡ node_faults.NoLabel
        label_lacking node_faults.NoLabel e = refl
        label_lacking node_faults.NoMemory e = absurd cc
