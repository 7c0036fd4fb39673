-- Messages of a session are taken one after another, and octets that spell them.
use Rattle.std.proofs.Common.{◌≡◌, ◌∙◌, refl, sym, ap, subst, ℕ, ◌<◌, inl, inr, true, List, [], ◌∷◌, length, Option, None, Some, Result, Ok, Err, OnOk, is_some}
use Rattle.std.specs.FinMap as maps
use Rattle.std.specs.FinMap.{FinMap}
use Rattle.std.proofs.lemmas.Option.{none-some}
use Rattle.mv_base.specs.Lists.{Among}
use Rattle.mv_base.specs.declared.ids.NodeId.{NodeId}
use Rattle.mv_base.specs.core_walks.Core.{Core}
use Rattle.mv_base.specs.core_walks.Topology.{Topology}
use Rattle.mv_base.specs.framing.Feed.{fed, fed_unless}
use Rattle.label_defs.specs.Node.{LacksLabel}
use Rattle.scenario_defs.specs.declared.event.Kind.{Kind}
use Rattle.network_defs.specs.session_defs.Message.{SessionFault, SessionMessage, front_of}
use Rattle.network_defs.specs.session_defs.Octets.{Stream}
use Rattle.network_defs.specs.session_defs.PeerSession.{PeerSession, fault_at, peer_cmp, stream_at}
use Rattle.edge_defs.specs.Place.{EdgePlace}
use Rattle.edge_routes.specs.edge_home.Home.{Home, place_of}
use Rattle.network_defs.specs.node_defs.EdgeState.{EdgeState, all_taken, call_of, called, took, took_unless}
use Rattle.node_laws.proofs.TakenLemmas.{message_called, spent_takes}
use Rattle.edge_routing.specs.edge_streams.Kept.{session}
use Rattle.edge_routing.specs.edge_streams.Streams.{TakesFirst, drained, with_octets}
use Rattle.edge_core.specs.declared.fault.EdgeFault.{EdgeFault}
use Rattle.edge_core.specs.declared.fault.EdgeFault.TheVariants as faults
use Rattle.edge_core.specs.declared.parts.Parts.{Parts}
use Rattle.edge_core.specs.Answers.{Makes, spent_by}
use Rattle.edge_core.specs.Called.{IsReady, Settles, SettlesCall, thereafter, going, spent_after, with_streams}
use Rattle.edge_core.specs.State.{IsIn, IsLive, is_up}
use Rattle.edge_core.specs.Taking.{AnswersOctets, IsSessionFault, taken_by, took_by}
use Rattle.edge_routing.proofs.edge_streams.DrainLemmas.{none_drained, put_same, took_drained, took_fewer, took_rest, took_there}
use Rattle.edge_routing.proofs.edge_streams.FedLemmas.{drained_is, now_fed, put_quiet, put_up, stream_fed}
use Rattle.edge_core.specs.View.{EdgeView}
use Rattle.edge_core.proofs.StepLemmas.{one_fault}

-- ---- messages

-- Some first ones of the messages were taken from the first parts on, and others are left: what taking these answers is what taking all of
-- them does.
pub record AreLeft (core : Topology) (now : ℕ) (peer : NodeId) (all left : List SessionMessage) (first parts : Parts) : Type 0 where
  pub home : parts.routing.control.home ≡ first.routing.control.home
  pub live : IsLive parts.routing parts.labels parts.streams
  pub whole : (new : Parts) (result : Result (Unit {0}) EdgeFault) → Settles core (taken_by (going parts) now peer left) (going parts) new result
      → Settles core (taken_by (going first) now peer all) (going first) new result

map_ok : {P Q : Type 0} (result : Result (Unit {0}) EdgeFault) → (P → Q) → OnOk result P → OnOk result Q
map_ok (Ok done) f h = f h
map_ok (Err fault) f h = tt

give_ok : {P : Type 0} (result : Result (Unit {0}) EdgeFault) → P → OnOk result P
give_ok (Ok done) h = h
give_ok (Err fault) h = tt

pub all_left : (core : Topology) (now : ℕ) (peer : NodeId) (all : List SessionMessage) (parts : Parts)
    → IsLive parts.routing parts.labels parts.streams → AreLeft core now peer all all parts parts
all_left core now peer all parts live = record { home = refl; live = live; whole = λ new result h. h }

module _ (core : Topology) (now : ℕ) (peer : NodeId) (message : SessionMessage) (more : List SessionMessage) (parts : Parts) where
  -- taking a message is its call
  then_is : (is : Core) (state : EdgeState)
      → all_taken (place_of parts.routing.control.home is) now peer more
      (called (place_of parts.routing.control.home is) now state (call_of peer message))
      ≡ taken_by (going parts) now peer (message ∷ more) is state
  then_is is state =
      ap (λ (s : EdgeState). all_taken (place_of parts.routing.control.home is) now peer more s)
      (sym (message_called (place_of parts.routing.control.home is) now peer message state))

  -- the first message was taken, and then the others
  pub then_taken : (mid new : Parts) (result : Result (Unit {0}) EdgeFault) → SettlesCall core now (call_of peer message) (going parts) mid (Ok tt)
      → Settles core (taken_by (going mid) now peer more) (going mid) new result
      → Settles core (taken_by (going parts) now peer (message ∷ more)) (going parts) new result
  then_taken mid new result h k = record {
    answers = record {
      home = k.answers.home ∙ h.answers.home;
      before = λ spent e. absurd (none-some spent e);
      unspent = give_ok result refl;
      made = map_ok result (λ (made : Makes core (taken_by (going mid) now peer more) (going mid) (thereafter new result)) is told_so state in_old.
          subst (λ (s : EdgeState). IsIn s (thereafter new result)) (along is state)
          (made is told_so (called (place_of parts.routing.control.home is) now state (call_of peer message))
          (h.answers.made is told_so state in_old))) k.answers.made;
      goes_on = k.answers.goes_on;
      toward = λ none known told_so waits. k.answers.toward none known told_so (h.answers.toward refl known told_so waits);
      lacks = λ e none is told_so state in_old.
          ap (λ (s : EdgeState). s.spent) (sym (along is state))
          ∙ k.answers.lacks e refl is told_so (called (place_of parts.routing.control.home is) now state (call_of peer message))
          (h.answers.made is told_so state in_old);
      spends = λ fault e none. k.answers.spends fault e refl;
    };
    live = k.live;
  }
    where
      along : (is : Core) (state : EdgeState)
          → all_taken (place_of mid.routing.control.home is) now peer more
          (called (place_of parts.routing.control.home is) now state (call_of peer message))
          ≡ taken_by (going parts) now peer (message ∷ more) is state
      along is state =
          (λ i. all_taken (place_of (h.answers.home i) is) now peer more
          (called (place_of parts.routing.control.home is) now state (call_of peer message))) ∙ then_is is state

  -- the first message made the edge spent
  pub stopped : (new : Parts) (fault : EdgeFault) → SettlesCall core now (call_of peer message) (going parts) new (Err fault)
      → Settles core (taken_by (going parts) now peer (message ∷ more)) (going parts) new (Err fault)
  stopped new fault h = record {
    answers = record {
      home = h.answers.home;
      before = h.answers.before;
      unspent = tt;
      made = tt;
      goes_on = tt;
      toward = h.answers.toward;
      lacks = λ e none is told_so state in_old.
          let lacking = h.answers.lacks e none is told_so state in_old in
          ap (λ (s : EdgeState). s.spent) (sym (then_is is state)
          ∙ spent_takes (place_of parts.routing.control.home is) now peer more
          (called (place_of parts.routing.control.home is) now state (call_of peer message)) LacksLabel lacking) ∙ lacking;
      spends = h.answers.spends;
    };
    live = h.live;
  }

  module _ (all : List SessionMessage) (first : Parts) (are : AreLeft core now peer all (message ∷ more) first parts) where
    pub one_less : (mid : Parts) → SettlesCall core now (call_of peer message) (going parts) mid (Ok tt) → AreLeft core now peer all more first mid
    one_less mid h = record {
      home = h.answers.home ∙ are.home;
      live = h.live refl;
      whole = λ new result k. are.whole new result (then_taken mid new result h k);
    }

    pub stopped_at : (new : Parts) (fault : EdgeFault) → SettlesCall core now (call_of peer message) (going parts) new (Err fault)
        → Settles core (taken_by (going first) now peer all) (going first) new (Err fault)
    stopped_at new fault h = are.whole new (Err fault) (stopped new fault h)

pub none_left : (core : Topology) (now : ℕ) (peer : NodeId) (all left : List SessionMessage) (first parts : Parts) → left ≡ []
    → AreLeft core now peer all left first parts
    → Settles core (taken_by (going first) now peer all) (going first) parts (Ok tt)
none_left core now peer all left first parts e are =
    are.whole parts (Ok tt) (subst (λ (ms : List SessionMessage). Settles core (taken_by (going parts) now peer ms) (going parts) parts (Ok tt))
    (sym e) (record {
      answers = record {
        home = refl;
        before = λ spent s. absurd (none-some spent s);
        unspent = refl;
        made = λ is told_so state in_old. in_old;
        goes_on = refl;
        toward = λ none known told_so waits. waits;
        lacks = λ k. absurd cc;
        spends = λ fault k. absurd cc;
      };
      live = λ none. are.live;
    }))

spends_some : (fault : EdgeFault) → Among fault (faults.NoLabel ∷ faults.NoMemory ∷ []) → spent_after (Err fault) ≡ None → ⊥
spends_some fault (inl e) none = absurd (let k = sym (ap spent_by e) ∙ none in cc)
spends_some fault (inr (inl e)) none = absurd (let k = sym (ap spent_by e) ∙ none in cc)
spends_some fault (inr (inr a)) none = a

-- The edge is spent, so nothing is said of its streams.
spent_anyhow : (core : Topology) (step : Core → EdgeState → EdgeState) (old : EdgeView) (new : Parts) (streams : FinMap peer_cmp Stream)
    (fault : EdgeFault) → old.spent ≡ None → Among fault (faults.NoLabel ∷ faults.NoMemory ∷ [])
    → Settles core step old (with_streams streams new) (Err fault) → Settles core step old new (Err fault)
spent_anyhow core step old new streams fault unspent one k = record {
  answers = record {
    home = k.answers.home;
    before = λ spent e. absurd (none-some spent (sym unspent ∙ e));
    unspent = tt;
    made = tt;
    goes_on = tt;
    toward = k.answers.toward;
    lacks = k.answers.lacks;
    spends = k.answers.spends;
  };
  live = λ none. absurd (spends_some fault one none);
}

-- ---- messages that wait

-- Some first ones of the messages that waited in the first parts were taken, and the others wait still, in parts that are the first ones but
-- for them.
pub record AreWaiting (core : Topology) (now : ℕ) (own : PeerSession) (first parts : Parts) : Type 0 where
  pub there : is_some (maps.get parts.streams own) ≡ true
  pub same : drained own parts.streams ≡ drained own first.streams
  pub left : AreLeft core now own.peer (stream_at first.streams own).waiting (stream_at parts.streams own).waiting
      (with_streams (drained own first.streams) first) (with_streams (drained own first.streams) parts)

pub all_waiting : (core : Topology) (now : ℕ) (own : PeerSession) (first : Parts) → is_some (maps.get first.streams own) ≡ true
    → IsLive first.routing first.labels (drained own first.streams) → AreWaiting core now own first first
all_waiting core now own first there live = record {
  there = there;
  same = refl;
  left = all_left core now own.peer (stream_at first.streams own).waiting (with_streams (drained own first.streams) first) live;
}

module _ (core : Topology) (now : ℕ) (own : PeerSession) (first parts : Parts) (are : AreWaiting core now own first parts)
    (streams : FinMap peer_cmp Stream) where
  abbrev all_first : List SessionMessage
  all_first = (stream_at first.streams own).waiting

  abbrev calm : Parts → Parts
  calm any = with_streams (drained own first.streams) any

  pub still_ready : IsReady core now (calm first) → IsReady core now (calm parts)
  still_ready ready = record {
    live = are.left.live;
    nodes = ready.nodes ∙ ap (λ (h : Home). length h.scenario.nodes) (sym are.left.home);
    clock = ready.clock;
  }

  module _ (message : SessionMessage) (took_so : TakesFirst own parts.streams (Some message) streams) where
    abbrev more : List SessionMessage
    more = took_so.0

    still_left : AreLeft core now own.peer all_first (message ∷ more) (calm first) (calm parts)
    still_left = subst (λ (ms : List SessionMessage). AreLeft core now own.peer all_first ms (calm first) (calm parts)) took_so.1 are.left

    took_to : (new : Parts) → new.streams ≡ streams → TakesFirst own parts.streams (Some message) new.streams
    took_to new same = subst (TakesFirst own parts.streams (Some message)) (sym same) took_so

    pub one_fewer : (new : Parts) → new.streams ≡ streams
        → length (stream_at new.streams own).waiting < length (stream_at parts.streams own).waiting
    one_fewer new same = took_fewer own parts.streams new.streams message (took_to new same)

    pub one_taken : (new : Parts) → new.streams ≡ streams
        → SettlesCall core now (call_of own.peer message) (going (calm parts)) (calm new) (Ok tt) → AreWaiting core now own first new
    one_taken new same h =
        let took = took_to new same in
        record {
          there = took_there own parts.streams new.streams message took;
          same = took_drained own parts.streams new.streams message took ∙ are.same;
          left = subst (λ (ms : List SessionMessage). AreLeft core now own.peer all_first ms (calm first) (calm new))
              (sym (ap (λ (s : FinMap peer_cmp Stream). (stream_at s own).waiting) same ∙ took_rest own parts.streams streams message took_so))
              (one_less core now own.peer message more (calm parts) all_first (calm first) still_left (calm new) h);
        }

    pub one_stopped : (new : Parts) (fault : EdgeFault) → Among fault (faults.NoLabel ∷ faults.NoMemory ∷ [])
        → SettlesCall core now (call_of own.peer message) (going (calm parts)) (calm new) (Err fault)
        → Settles core (taken_by (going first) now own.peer all_first) (going (calm first)) new (Err fault)
    one_stopped new fault one h =
        spent_anyhow core (taken_by (going first) now own.peer all_first) (going (calm first)) new (drained own first.streams) fault refl one
        (stopped_at core now own.peer message more (calm parts) all_first (calm first) still_left (calm new) fault h)

  pub none_waiting : TakesFirst own parts.streams None streams
      → Settles core (taken_by (going first) now own.peer all_first) (going (calm first)) (with_streams streams parts) (Ok tt)
  none_waiting took_so =
      let is : drained own first.streams ≡ streams = sym are.same ∙ none_drained own parts.streams streams are.there took_so in
      subst (λ (s : FinMap peer_cmp Stream). Settles core (taken_by (going first) now own.peer all_first) (going (calm first)) (with_streams s parts)
      (Ok tt)) is
      (none_left core now own.peer all_first (stream_at parts.streams own).waiting (calm first) (calm parts) took_so.0 are.left)

-- ---- octets

-- a session whose end is up has a stream
pub up_there : (kind : Kind) (peer : NodeId) (parts : Parts) → IsLive parts.routing parts.labels parts.streams → is_up (going parts) kind peer ≡ true
    → is_some (maps.get parts.streams (session kind peer)) ≡ true
up_there kind peer parts live up = live.up kind peer ∙ up

module _ (own : PeerSession) (octets : List ℕ) (old streams : FinMap peer_cmp Stream) (up : is_some (maps.get old own) ≡ true)
    (quiet : (other : PeerSession) → (stream_at old other).waiting ≡ [])
    (fed_so : streams ≡ with_octets own octets old) where
  abbrev whole_fed : Stream
  whole_fed = now_fed own octets old streams up fed_so

  -- the edge of the definitions takes them so
  pub took_is : (place : EdgePlace) (now : ℕ) (state : EdgeState) → state.spent ≡ None → state.streams ≡ old
      → all_taken place now own.peer whole_fed.waiting (record state { streams = maps.insert old own (record whole_fed { waiting = [] }) })
      ≡ took place now own octets state
  took_is place now state unspent are = by (fault_at old own) refl
    where
      by : (fault : Option (ℕ × SessionFault)) → fault_at old own ≡ fault
          → all_taken place now own.peer whole_fed.waiting (record state { streams = maps.insert old own (record whole_fed { waiting = [] }) })
          ≡ took place now own octets state
      by None e =
          sym ((λ i. took_unless (unspent i) ((ap (λ (s : FinMap peer_cmp Stream). fault_at s own) are ∙ e) i) place now own octets state)
          ∙ (λ i. all_taken place now own.peer (fed (front_of own.kind) (stream_at (are i) own) octets).waiting
          (record state { streams = maps.insert (are i) own (record (fed (front_of own.kind) (stream_at (are i) own) octets) { waiting = [] }) })))
      by (Some fault) e =
          let d = stream_at old own in
          let same : whole_fed ≡ d = λ i. fed_unless (front_of own.kind) (e i) d octets in
          (λ i. all_taken place now own.peer (same i).waiting (record state { streams = maps.insert old own (record (same i) { waiting = [] }) }))
          ∙ ((λ i. all_taken place now own.peer (quiet own i)
          (record state { streams = maps.insert old own (record d { waiting = sym (quiet own) i }) }))
          ∙ ((λ i. record state { streams = put_same old own up i })
          ∙ ((λ i. record state { streams = sym are i })
          ∙ sym (λ i. took_unless (unspent i) ((ap (λ (s : FinMap peer_cmp Stream). fault_at s own) are ∙ e) i) place now own octets state))))

-- the answer where the octets were fed, and all messages that wait then are taken
module _ (core : Topology) (now : ℕ) (kind : Kind) (peer : NodeId) (octets : List ℕ) (old new : Parts) (streams drained : FinMap peer_cmp Stream)
    (live : IsLive old.routing old.labels old.streams) (up : is_some (maps.get old.streams (session kind peer)) ≡ true)
    (fed_so : streams ≡ with_octets (session kind peer) octets old.streams)
    (drained_so : drained ≡ maps.insert streams (session kind peer) (record (stream_at streams (session kind peer)) { waiting = [] })) where
  abbrev own : PeerSession
  own = session kind peer

  abbrev whole : Stream
  whole = now_fed own octets old.streams streams up fed_so

  abbrev mid : Parts
  mid = record old { streams = drained }

  are_drained : drained ≡ maps.insert old.streams own (record whole { waiting = [] })
  are_drained = drained_is own octets old.streams streams up fed_so drained drained_so

  pub mid_live : IsLive old.routing old.labels drained
  mid_live = record {
    step = live.step;
    place = live.place;
    unspent = live.unspent;
    leaves = live.leaves;
    up = λ other_kind other.
        ap (λ (s : FinMap peer_cmp Stream). is_some (maps.get s (session other_kind other))) are_drained
        ∙ (put_up old.streams own (record whole { waiting = [] }) up (session other_kind other) ∙ live.up other_kind other);
    quiet = λ other. ap (λ (s : FinMap peer_cmp Stream). (stream_at s other).waiting) are_drained
        ∙ put_quiet old.streams own (record whole { waiting = [] }) refl live.quiet other;
  }

  in_mid : (state : EdgeState) → IsIn state (going old)
      → IsIn (record state { streams = maps.insert old.streams own (record whole { waiting = [] }) }) (going mid)
  in_mid state in_old = record {
    parts = λ any.
        let has = in_old.parts any in
        record {
          unspent = has.unspent;
          keeps = has.keeps;
          label =
              record { part = has.label.part; waiting = has.label.waiting; raises = has.label.raises; spent = has.label.spent };
          peers = has.peers;
        };
    streams = sym are_drained;
    raised = in_old.raised;
  }

  took_so : (is : Core) (state : EdgeState) → IsIn state (going old)
      → taken_by (going mid) now peer whole.waiting is (record state { streams = maps.insert old.streams own (record whole { waiting = [] }) })
      ≡ took_by (going old) now own octets is state
  took_so is state in_old =
      took_is own octets old.streams streams up live.quiet fed_so (place_of old.routing.control.home is) now state (in_old.parts is).unspent
      in_old.streams

  octets_made : Makes core (taken_by (going mid) now peer whole.waiting) (going mid) (going new)
      → Makes core (took_by (going old) now own octets) (going old) (going new)
  octets_made made is told_so state in_old =
      subst (λ (s : EdgeState). IsIn s (going new)) (took_so is state in_old)
      (made is told_so (record state { streams = maps.insert old.streams own (record whole { waiting = [] }) }) (in_mid state in_old))

  module _ (messages : List SessionMessage) (are : messages ≡ (stream_at streams own).waiting) where
    whole_is : messages ≡ whole.waiting
    whole_is = are ∙ ap (λ (s : Stream). s.waiting) (stream_fed own octets old.streams streams up fed_so)

    settled_whole : (result : Result (Unit {0}) EdgeFault) → Settles core (taken_by (going mid) now peer messages) (going mid) new result
        → Settles core (taken_by (going mid) now peer whole.waiting) (going mid) new result
    settled_whole result h = subst (λ (ms : List SessionMessage). Settles core (taken_by (going mid) now peer ms) (going mid) new result) whole_is h

    -- a message made the edge spent
    pub octets_stopped : (fault : EdgeFault) → Among fault (faults.NoLabel ∷ faults.NoMemory ∷ [])
        → Settles core (taken_by (going mid) now peer messages) (going mid) new (Err fault)
        → AnswersOctets core now own octets (going old) (thereafter new (Err fault)) (Err fault)
    octets_stopped fault one h =
        let k = settled_whole (Err fault) h in
        record {
          answers = record {
            home = k.answers.home;
            before = λ spent e. absurd (none-some spent e);
            unspent = tt;
            made = tt;
            goes_on = tt;
            toward = λ none. absurd (spends_some fault one none);
            lacks = λ e none is told_so state in_old.
                ap (λ (s : EdgeState). s.spent) (sym (took_so is state in_old))
                ∙ k.answers.lacks e refl is told_so (record state { streams = maps.insert old.streams own (record whole { waiting = [] }) })
                (in_mid state in_old);
            spends = λ other e none. ap spent_after e;
          };
          sound = tt;
          taken = λ other e none goes. absurd (spends_some fault one goes);
          only = λ other e. inl (subst (λ (f : EdgeFault). Among f (faults.NoLabel ∷ faults.NoMemory ∷ [])) (one_fault fault other e) one);
        }

    -- all messages were taken; then the stream's fault is answered, if it has had one
    pub octets_taken : (result : Result (Unit {0}) EdgeFault) → OnOk result (fault_at new.streams own ≡ None)
        → ((fault : EdgeFault) → result ≡ Err fault → IsSessionFault own (going new) fault)
        → Settles core (taken_by (going mid) now peer messages) (going mid) new (Ok tt)
        → AnswersOctets core now own octets (going old) (thereafter new result) result
    octets_taken (Ok done) sound faulty h =
        let k = settled_whole (Ok tt) h in
        record {
          answers = record {
            home = k.answers.home;
            before = λ spent e. absurd (none-some spent e);
            unspent = refl;
            made = octets_made k.answers.made;
            goes_on = refl;
            toward = λ none. k.answers.toward refl;
            lacks = λ e. absurd cc;
            spends = λ fault e. absurd cc;
          };
          sound = sound;
          taken = λ fault e. absurd cc;
          only = λ fault e. absurd cc;
        }
    octets_taken (Err fault) sound faulty h =
        let k = settled_whole (Ok tt) h in
        let is = faulty fault refl in
        record {
          answers = record {
            home = k.answers.home;
            before = λ spent e. absurd (none-some spent e);
            unspent = tt;
            made = tt;
            goes_on = tt;
            toward = λ none. k.answers.toward refl;
            lacks = λ e. absurd (no_label fault is (one_fault fault faults.NoLabel e));
            spends = λ other e none. ap spent_after e;
          };
          sound = tt;
          taken = λ other e none goes. subst (Makes core (took_by (going old) now own octets) (going old))
              (λ i. record (going new) { spent = sym goes i }) (octets_made k.answers.made);
          only = λ other e. inr (told_fault_is fault other (one_fault fault other e) is);
        }
      where
        no_label : (f : EdgeFault) → IsSessionFault own (going new) f → f ≡ faults.NoLabel → ⊥
        no_label f is e = absurd (let k = sym is.2 ∙ e in cc)

        told_fault_is : (f other : EdgeFault) → f ≡ other → IsSessionFault own (going new) f → IsSessionFault own (thereafter new (Err f)) other
        told_fault_is f other e is = (is.0, is.1, sym e ∙ is.2, is.3)
