-- Messages of a session are taken one after another, and octets that spell them.
use Rattle.std.proofs.Common.{◌≡◌, ◌∙◌, refl, sym, ap, subst, ℕ, inl, inr, true, List, [], ◌∷◌, Option, None, Some, Result, Ok, Err, OnOk, is_some}
use Rattle.std.specs.FinMap as maps
use Rattle.std.specs.FinMap.{FinMap}
use Rattle.std.proofs.lemmas.Option.{none-some}
use Rattle.mv_base.specs.Lists.{Among}
use Rattle.mv_base.specs.declared.ids.NodeId.{NodeId}
use Rattle.mv_base.specs.core_walks.Core.{Core, IsCoreOf}
use Rattle.mv_base.specs.core_walks.Topology.{Topology}
use Rattle.mv_base.specs.framing.Feed.{fed_unless}
use Rattle.label_defs.specs.Node.{LacksLabel, NodePlace}
use Rattle.label_defs.specs.Steps.{Taken}
use Rattle.mldp.specs.declared.mldp_msgs.message.LabelMessage.{LabelMessage}
use Rattle.scenario_defs.specs.declared.event.Kind.TheVariants as kinds
use Rattle.network_defs.specs.session_defs.Message.{SessionFault, SessionMessage, Label, front_of}
use Rattle.network_defs.specs.session_defs.Octets.{Stream}
use Rattle.network_defs.specs.session_defs.PeerSession.{PeerSession, fault_at, peer_cmp, stream_at}
use Rattle.edge_streams.specs.Streams.{TakesFirst, drained, with_octets}
use Rattle.edge_streams.proofs.DrainLemmas.{none_drained, put_same, took_drained, took_rest, took_there}
use Rattle.edge_streams.proofs.FedLemmas.{drained_is, now_fed, put_quiet, put_up, stream_fed}
use Rattle.mldp_node.specs.NodeData as labels
use Rattle.mldp_node.specs.NodeData.{NodeData}
use Rattle.mldp_node.specs.declared.fault.NodeFault.{NodeFault}
use Rattle.wire_laws.specs.CoreNodes.{CoreState, core_all_taken, core_called, core_took, core_took_unless, ldp_with}
use Rattle.wire_laws.proofs.CoreCalls.{spent_takes}
use Rattle.network_nodes.specs.declared.core_node.fault.CoreFault.{CoreFault}
use Rattle.network_nodes.specs.declared.core_node.fault.CoreFault.TheVariants as faults
use Rattle.network_nodes.specs.declared.core_node.parts.Parts.{Parts}
use Rattle.network_nodes.specs.core_node.Answers.{Makes, spent_by}
use Rattle.network_nodes.specs.core_node.Called.{Settles, SettlesCall, thereafter, going, spent_after, told_as, with_streams}
use Rattle.network_nodes.specs.core_node.Taking.{AnswersOctets, IsSessionFault, taken_by, took_by}
use Rattle.network_nodes.specs.core_node.View.{CoreView, IsLive, is_up, state_of}
use Rattle.network_nodes.proofs.core_node.StepLemmas.{one_fault, settled}

-- ---- messages

-- Some first ones of the messages were taken from the first parts on, and others are left: what taking these answers is what taking all of
-- them does.
pub record AreLeft (core : Topology) (now : ℕ) (peer : NodeId) (all left : List SessionMessage) (first parts : Parts) : Type 0 where
  pub place : parts.node.place ≡ first.node.place
  pub live : IsLive parts.node parts.streams
  pub whole : (new : Parts) (result : Result (Unit {0}) CoreFault) → Settles core (taken_by (going parts) now peer left) (going parts) new result
      → Settles core (taken_by (going first) now peer all) (going first) new result

map_ok : {P Q : Type 0} (result : Result (Unit {0}) CoreFault) → (P → Q) → OnOk result P → OnOk result Q
map_ok (Ok done) f h = f h
map_ok (Err fault) f h = tt

give_ok : {P : Type 0} (result : Result (Unit {0}) CoreFault) → P → OnOk result P
give_ok (Ok done) h = h
give_ok (Err fault) h = tt

pub all_left : (core : Topology) (now : ℕ) (peer : NodeId) (all : List SessionMessage) (parts : Parts) → IsLive parts.node parts.streams
    → AreLeft core now peer all all parts parts
all_left core now peer all parts live = record { place = refl; live = live; whole = λ new result h. h }

module _ (core : Topology) (now : ℕ) (peer : NodeId) (message : LabelMessage) (more : List SessionMessage) (parts : Parts) where
  -- the first message was taken, and then the others
  pub then_taken : (mid new : Parts) (result : Result (Unit {0}) CoreFault) → SettlesCall core now (Taken peer message) (going parts) mid (Ok tt)
      → Settles core (taken_by (going mid) now peer more) (going mid) new result
      → Settles core (taken_by (going parts) now peer (Label message ∷ more)) (going parts) new result
  then_taken mid new result h k = record {
    answers = record {
      place = k.answers.place ∙ h.answers.place;
      before = λ spent e. absurd (none-some spent e);
      unspent = give_ok result refl;
      made = map_ok result (λ (made : Makes core (taken_by (going mid) now peer more) (going mid) (thereafter new result)) own is. made own is
          ∙ (λ i. core_all_taken (h.answers.place i) own now peer more (h.answers.made own is i))) k.answers.made;
      goes_on = k.answers.goes_on;
      toward = λ none own is waits. k.answers.toward none own is (h.answers.toward refl own is waits);
      lacks = λ e none own is.
          ap (λ (s : CoreState). s.node.spent) (sym (λ i. core_all_taken (h.answers.place i) own now peer more (h.answers.made own is i)))
          ∙ k.answers.lacks e refl own is;
      spends = λ fault e none. k.answers.spends fault e refl;
    };
    live = k.live;
  }

  -- the first message made the node spent
  pub stopped : (new : Parts) (fault : CoreFault) → SettlesCall core now (Taken peer message) (going parts) new (Err fault)
      → Settles core (taken_by (going parts) now peer (Label message ∷ more)) (going parts) new (Err fault)
  stopped new fault h = record {
    answers = record {
      place = h.answers.place;
      before = h.answers.before;
      unspent = tt;
      made = tt;
      goes_on = tt;
      toward = h.answers.toward;
      lacks = λ e none own is.
          let lacking = h.answers.lacks e none own is in
          ap (λ (s : CoreState). s.node.spent) (spent_takes parts.node.place own now peer more
          (core_called parts.node.place own now (state_of (going parts)) (Taken peer message)) LacksLabel lacking)
          ∙ lacking;
      spends = h.answers.spends;
    };
    live = h.live;
  }

  module _ (all : List SessionMessage) (first : Parts) (are : AreLeft core now peer all (Label message ∷ more) first parts) where
    pub one_less : (mid : Parts) → SettlesCall core now (Taken peer message) (going parts) mid (Ok tt) → AreLeft core now peer all more first mid
    one_less mid h = record {
      place = h.answers.place ∙ are.place;
      live = h.live refl;
      whole = λ new result k. are.whole new result (then_taken mid new result h k);
    }

    pub stopped_at : (new : Parts) (fault : CoreFault) → SettlesCall core now (Taken peer message) (going parts) new (Err fault)
        → Settles core (taken_by (going first) now peer all) (going first) new (Err fault)
    stopped_at new fault h = are.whole new (Err fault) (stopped new fault h)

pub none_left : (core : Topology) (now : ℕ) (peer : NodeId) (all left : List SessionMessage) (first parts : Parts) → left ≡ []
    → AreLeft core now peer all left first parts
    → Settles core (taken_by (going first) now peer all) (going first) parts (Ok tt)
none_left core now peer all left first parts e are =
    are.whole parts (Ok tt) (subst (λ (ms : List SessionMessage). Settles core (taken_by (going parts) now peer ms) (going parts) parts (Ok tt))
    (sym e) (record {
      answers = record {
        place = refl;
        before = λ spent s. absurd (none-some spent s);
        unspent = refl;
        made = λ own is. refl;
        goes_on = refl;
        toward = λ none own is waits. waits;
        lacks = λ k. absurd cc;
        spends = λ fault k. absurd cc;
      };
      live = λ none. are.live;
    }))

spends_some : (fault : CoreFault) → Among fault (faults.NoLabel ∷ faults.NoMemory ∷ []) → spent_after (Err fault) ≡ None → ⊥
spends_some fault (inl e) none = absurd (let k = sym (ap spent_by e) ∙ none in cc)
spends_some fault (inr (inl e)) none = absurd (let k = sym (ap spent_by e) ∙ none in cc)
spends_some fault (inr (inr a)) none = a

-- The node is spent, so nothing is said of its streams.
spent_anyhow : (core : Topology) (step : Core → CoreState → CoreState) (old : CoreView) (new : Parts) (streams : FinMap peer_cmp Stream)
    (fault : CoreFault) → old.labels.node.spent ≡ None → Among fault (faults.NoLabel ∷ faults.NoMemory ∷ [])
    → Settles core step old (with_streams streams new) (Err fault) → Settles core step old new (Err fault)
spent_anyhow core step old new streams fault unspent one k = record {
  answers = record {
    place = k.answers.place;
    before = λ spent e. absurd (none-some spent (sym unspent ∙ e));
    unspent = tt;
    made = tt;
    goes_on = tt;
    toward = k.answers.toward;
    lacks = k.answers.lacks;
    spends = k.answers.spends;
  };
  live = λ none. absurd (spends_some fault one none);
}

-- ---- messages that wait

-- Some first ones of the messages that waited in the first parts were taken, and the others wait still, in parts that are the first ones but
-- for them.
pub record AreWaiting (core : Topology) (now : ℕ) (peer : NodeId) (first parts : Parts) : Type 0 where
  pub there : is_some (maps.get parts.streams (ldp_with peer)) ≡ true
  pub same : drained (ldp_with peer) parts.streams ≡ drained (ldp_with peer) first.streams
  pub left : AreLeft core now peer (stream_at first.streams (ldp_with peer)).waiting (stream_at parts.streams (ldp_with peer)).waiting
      (with_streams (drained (ldp_with peer) first.streams) first) (with_streams (drained (ldp_with peer) first.streams) parts)

pub all_waiting : (core : Topology) (now : ℕ) (peer : NodeId) (first : Parts) → is_some (maps.get first.streams (ldp_with peer)) ≡ true
    → IsLive first.node (drained (ldp_with peer) first.streams) → AreWaiting core now peer first first
all_waiting core now peer first there live = record {
  there = there;
  same = refl;
  left = all_left core now peer (stream_at first.streams (ldp_with peer)).waiting (with_streams (drained (ldp_with peer) first.streams) first) live;
}

module _ (core : Topology) (now : ℕ) (peer : NodeId) (first parts : Parts) (are : AreWaiting core now peer first parts)
    (streams : FinMap peer_cmp Stream) where
  abbrev with_peer : PeerSession
  with_peer = ldp_with peer

  abbrev all_first : List SessionMessage
  all_first = (stream_at first.streams with_peer).waiting

  abbrev calm : Parts → Parts
  calm any = with_streams (drained with_peer first.streams) any

  module _ (message : LabelMessage) (took : TakesFirst with_peer parts.streams (Some (Label message)) streams) (node : NodeData) where
    still_left : AreLeft core now peer all_first (Label message ∷ took.0) (calm first) (calm parts)
    still_left = subst (λ (ms : List SessionMessage). AreLeft core now peer all_first ms (calm first) (calm parts)) took.1 are.left

    abbrev next_parts : Parts
    next_parts = record parts { node = node; streams = streams }

    abbrev answered : Result (Unit {0}) NodeFault → Type 0
    answered result = labels.Answers core now (Taken peer message) parts.node node result

    calm_settled : (result : Result (Unit {0}) NodeFault) (answer : Result (Unit {0}) CoreFault) → answer ≡ told_as result
        → (own : Core) × IsCoreOf core.nodes core.links own → answered result
        → SettlesCall core now (Taken peer message) (going (calm parts)) (calm next_parts) answer
    calm_settled result answer is some row =
        settled core now (Taken peer message) (calm parts) node (drained with_peer first.streams) are.left.live refl result answer is some row

    pub one_taken : (result : Result (Unit {0}) NodeFault) → Ok tt ≡ told_as result → (own : Core) × IsCoreOf core.nodes core.links own
        → answered result → AreWaiting core now peer first next_parts
    one_taken result is some row = record {
      there = took_there with_peer parts.streams streams (Label message) took;
      same = took_drained with_peer parts.streams streams (Label message) took ∙ are.same;
      left = subst (λ (ms : List SessionMessage). AreLeft core now peer all_first ms (calm first) (calm next_parts))
          (sym (took_rest with_peer parts.streams streams (Label message) took))
          (one_less core now peer message took.0 (calm parts) all_first (calm first) still_left (calm next_parts)
          (calm_settled result (Ok tt) is some row));
    }

    pub one_stopped : (fault : CoreFault) → Among fault (faults.NoLabel ∷ faults.NoMemory ∷ [])
        → (result : Result (Unit {0}) NodeFault) → Err fault ≡ told_as result → (own : Core) × IsCoreOf core.nodes core.links own
        → answered result → Settles core (taken_by (going first) now peer all_first) (going (calm first)) next_parts (Err fault)
    one_stopped fault one result is some row =
        spent_anyhow core (taken_by (going first) now peer all_first) (going (calm first)) next_parts (drained with_peer first.streams) fault refl
        one (stopped_at core now peer message took.0 (calm parts) all_first (calm first) still_left (calm next_parts) fault
        (calm_settled result (Err fault) is some row))

  pub none_waiting : TakesFirst with_peer parts.streams None streams
      → Settles core (taken_by (going first) now peer all_first) (going (calm first)) (with_streams streams parts) (Ok tt)
  none_waiting took =
      let is : drained with_peer first.streams ≡ streams = sym are.same ∙ none_drained with_peer parts.streams streams are.there took in
      subst (λ (s : FinMap peer_cmp Stream). Settles core (taken_by (going first) now peer all_first) (going (calm first)) (with_streams s parts)
      (Ok tt)) is
      (none_left core now peer all_first (stream_at parts.streams with_peer).waiting (calm first) (calm parts) took.0 are.left)

-- ---- octets

-- a session whose end is up has a stream
pub up_there : (peer : NodeId) (parts : Parts) → IsLive parts.node parts.streams → is_up (going parts) peer ≡ true
    → is_some (maps.get parts.streams (ldp_with peer)) ≡ true
up_there peer parts live up = live.up peer ∙ up

-- the answer where the octets were fed, and all messages that wait then are taken
module _ (core : Topology) (now : ℕ) (peer : NodeId) (octets : List ℕ) (old new : Parts) (streams drained : FinMap peer_cmp Stream)
    (live : IsLive old.node old.streams) (up : is_some (maps.get old.streams (ldp_with peer)) ≡ true)
    (fed_so : streams ≡ with_octets (ldp_with peer) octets old.streams)
    (drained_so : drained ≡ maps.insert streams (ldp_with peer) (record (stream_at streams (ldp_with peer)) { waiting = [] })) where
  abbrev own : PeerSession
  own = ldp_with peer

  abbrev whole : Stream
  whole = now_fed own octets old.streams streams up fed_so

  abbrev rest : Stream
  rest = record whole { waiting = [] }

  abbrev mid : Parts
  mid = record old { streams = drained }

  are_drained : drained ≡ maps.insert old.streams own rest
  are_drained = drained_is own octets old.streams streams up fed_so drained drained_so

  pub mid_live : IsLive old.node drained
  mid_live = record {
    unspent = live.unspent;
    up = λ other. ap (λ (s : FinMap peer_cmp Stream). is_some (maps.get s (ldp_with other))) are_drained
        ∙ (put_up old.streams own rest up (ldp_with other) ∙ live.up other);
    quiet = λ other. ap (λ (s : FinMap peer_cmp Stream). (stream_at s other).waiting) are_drained
        ∙ put_quiet old.streams own rest refl live.quiet other;
  }

  -- the core node of the definitions takes them so
  took_is : (place : NodePlace) (is : Core) → core_all_taken place is now peer whole.waiting (state_of (going mid))
      ≡ core_took place is now peer octets (state_of (going old))
  took_is place is =
      (λ i. core_all_taken place is now peer whole.waiting (record (state_of (going old)) { streams = are_drained i }))
      ∙ by (fault_at old.streams own) refl
    where
      by : (fault : Option (ℕ × SessionFault)) → fault_at old.streams own ≡ fault
          → core_all_taken place is now peer whole.waiting (record (state_of (going old)) { streams = maps.insert old.streams own rest })
          ≡ core_took place is now peer octets (state_of (going old))
      by None e = sym (λ i. core_took_unless None (e i) place is now peer octets (state_of (going old)))
      by (Some fault) e =
          let d = stream_at old.streams own in
          let same : whole ≡ d = λ i. fed_unless (front_of kinds.Ldp) (e i) d octets in
          (λ i. core_all_taken place is now peer (same i).waiting
          (record (state_of (going old)) { streams = maps.insert old.streams own (record (same i) { waiting = [] }) }))
          ∙ ((λ i. core_all_taken place is now peer (live.quiet own i)
          (record (state_of (going old)) { streams = maps.insert old.streams own (record d { waiting = sym (live.quiet own) i }) }))
          ∙ ((λ i. record (state_of (going old)) { streams = put_same old.streams own up i })
          ∙ sym (λ i. core_took_unless None (e i) place is now peer octets (state_of (going old)))))

  module _ (messages : List SessionMessage) (are : messages ≡ (stream_at streams own).waiting) where
    whole_is : messages ≡ whole.waiting
    whole_is = are ∙ ap (λ (s : Stream). s.waiting) (stream_fed own octets old.streams streams up fed_so)

    took_so : (is : Core) → taken_by (going mid) now peer messages is (state_of (going mid))
        ≡ took_by (going old) now peer octets is (state_of (going old))
    took_so is = (λ i. core_all_taken old.node.place is now peer (whole_is i) (state_of (going mid))) ∙ took_is old.node.place is

    octets_made : (view : CoreView) → Makes core (taken_by (going mid) now peer messages) (going mid) view
        → Makes core (took_by (going old) now peer octets) (going old) view
    octets_made view made is told_so = made is told_so ∙ took_so is

    -- a message made the node spent
    pub octets_stopped : (fault : CoreFault) → Among fault (faults.NoLabel ∷ faults.NoMemory ∷ [])
        → Settles core (taken_by (going mid) now peer messages) (going mid) new (Err fault)
        → AnswersOctets core now peer octets (going old) (thereafter new (Err fault)) (Err fault)
    octets_stopped fault one h = record {
      answers = record {
        place = h.answers.place;
        before = λ spent e. absurd (none-some spent e);
        unspent = tt;
        made = tt;
        goes_on = tt;
        toward = λ none. absurd (spends_some fault one none);
        lacks = λ e none is told_so. ap (λ (s : CoreState). s.node.spent) (sym (took_so is)) ∙ h.answers.lacks e refl is told_so;
        spends = λ other e none. ap spent_after e;
      };
      sound = tt;
      taken = λ other e none goes. absurd (spends_some fault one goes);
      only = λ other e. inl (subst (λ (f : CoreFault). Among f (faults.NoLabel ∷ faults.NoMemory ∷ [])) (one_fault fault other e) one);
    }

    -- all messages were taken; then the stream's fault is answered, if it has had one
    pub octets_taken : (result : Result (Unit {0}) CoreFault) → OnOk result (fault_at new.streams own ≡ None)
        → ((fault : CoreFault) → result ≡ Err fault → IsSessionFault peer (going new) fault)
        → Settles core (taken_by (going mid) now peer messages) (going mid) new (Ok tt)
        → AnswersOctets core now peer octets (going old) (thereafter new result) result
    octets_taken (Ok done) sound faulty h = record {
      answers = record {
        place = h.answers.place;
        before = λ spent e. absurd (none-some spent e);
        unspent = refl;
        made = octets_made (going new) h.answers.made;
        goes_on = refl;
        toward = λ none. h.answers.toward refl;
        lacks = λ e. absurd cc;
        spends = λ fault e. absurd cc;
      };
      sound = sound;
      taken = λ fault e. absurd cc;
      only = λ fault e. absurd cc;
    }
    octets_taken (Err fault) sound faulty h =
        let is = faulty fault refl in
        record {
          answers = record {
            place = h.answers.place;
            before = λ spent e. absurd (none-some spent e);
            unspent = tt;
            made = tt;
            goes_on = tt;
            toward = λ none. h.answers.toward refl;
            lacks = λ e. absurd (no_label fault is (one_fault fault faults.NoLabel e));
            spends = λ other e none. ap spent_after e;
          };
          sound = tt;
          taken = λ other e none goes. subst (Makes core (took_by (going old) now peer octets) (going old))
              (λ i. record { labels = record new.node { node = record new.node.node { spent = sym goes i } }; streams = new.streams })
              (octets_made (going new) h.answers.made);
          only = λ other e. inr (told_fault_is fault other (one_fault fault other e) is);
        }
      where
        no_label : (f : CoreFault) → IsSessionFault peer (going new) f → f ≡ faults.NoLabel → ⊥
        no_label f is e = absurd (let k = sym is.2 ∙ e in cc)

        told_fault_is : (f other : CoreFault) → f ≡ other → IsSessionFault peer (going new) f → IsSessionFault peer (thereafter new (Err f)) other
        told_fault_is f other e is = (is.0, is.1, sym e ∙ is.2, is.3)
