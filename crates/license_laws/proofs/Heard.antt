-- What a node keeps of a neighbour is what the messages say that it took from that neighbour since the last raise: in each run.
use Rattle.std.specs.Prelude.{⊤, take, drop, fold}
use Rattle.std.proofs.Common.{◌≡◌, ℕ, Bool, true, false, cond, flat_map, List, [], ◌∷◌, ◌++◌, Option, Some, None, refl, sym, ap, subst, ◌∙◌, arith}
use Rattle.std.specs.List.{AllByRecursion}
use Rattle.std.proofs.lemmas.Grind.{flat_map-append}
use Rattle.std.proofs.lemmas.List.{append_assoc, take-append-drop}
use Rattle.mv_base.specs.Number.{◌>>?◌}
use Rattle.mv_base.specs.Octets.{IsOctets}
use Rattle.mv_base.specs.declared.ids.NodeId.{NodeId}
use Rattle.mv_base.specs.framing.Cut.Front.{more}
use Rattle.mv_base.specs.framing.Feed.{fed}
use Rattle.mv_base.specs.framing.Units.{Spelled, octets_of, messages_of, AreUnits, NoUnit}
use Rattle.mv_base.proofs.framing.Cuts.{none_whole, IsOctets-before, IsOctets-after}
use Rattle.scenario_defs.specs.declared.event.Kind.{Kind}
use Rattle.network_defs.specs.session_defs.Message.{SessionMessage, same_direction, front_of, Spells}
use Rattle.network_defs.specs.session_defs.Octets.{Stream, OctetNetwork, OctetAct, all_taken, moved, octet_run}
use Rattle.network_defs.specs.session_defs.Refined.{Carried}
use Rattle.network_defs.specs.session_defs.System.{Behind, with_earlier}
use Rattle.network_defs.specs.declared.session_defs.direction.Direction.{Direction}
use Rattle.network_defs.proofs.session_defs.Fronts.{stream_of}
use Rattle.network_defs.proofs.session_defs.Lines.{are_both, are_octets, own_direction}
use Rattle.network_defs.proofs.session_defs.Moves.{came_of}
use Rattle.network_defs.specs.Counts.{direction}
use Rattle.network_defs.specs.Local.{is_up_after, is_up_in, taken_since}
use Rattle.network_defs.specs.Nodes.{NodeState, Nodes}
use Rattle.network_defs.specs.Run.{Traced}
use Rattle.network_defs.specs.System.{NodeCall, call_of, system}
use Rattle.network_laws.proofs.Lists.{each_weaker}
use Rattle.license_laws.proofs.Hears.{Follower, NetworkHas, StreamStays, IsTame, run_has, run_stream, others_taken, own_taken, taken_stream, units_kind, other_way, IsOther, IsOfKind, fed_now}
use Rattle.license_laws.proofs.Since.{hit, was_raised, told_next, since_none}
use Rattle.license_laws.proofs.Takes.{takes_of}

-- ---- the trace

fold_next : {A B : Type 0} (f : B → A → B) (z : B) (xs : List A) (x : A) → fold f z (xs ++ x ∷ []) ≡ f (fold f z xs) x
fold_next f z [] x = refl
fold_next f z (y ∷ ys) x = fold_next f (f z y) ys x

pub up_next : (kind : Kind) (n peer : NodeId) (trace : List Traced) (step : Traced)
    → is_up_in kind n peer (trace ++ step ∷ []) ≡ is_up_after kind n peer (is_up_in kind n peer trace) step.happened.act
up_next kind n peer trace step = fold_next (λ (before : Bool) (step : Traced). is_up_after kind n peer before step.happened.act) false trace step

pub taken_more : (kind : Kind) (from to : NodeId) (trace : List Traced) (step : Traced) → hit kind from to step ≡ false
    → (was_raised kind from to trace ≡ false → takes_of kind from to step.happened.lines ≡ [])
    → taken_since kind from to (trace ++ step ∷ []) ≡ taken_since kind from to trace ++ takes_of kind from to step.happened.lines
taken_more kind from to trace step off none =
    told_next kind from to (λ step. takes_of kind from to step.happened.lines) trace step
    ∙ ap (λ (t : Bool). cond t (takes_of kind from to step.happened.lines)
    (cond (was_raised kind from to trace) (taken_since kind from to trace ++ takes_of kind from to step.happened.lines) [])) off
    ∙ by (was_raised kind from to trace) refl
  where
    by : (t : Bool) → was_raised kind from to trace ≡ t
        → cond t (taken_since kind from to trace ++ takes_of kind from to step.happened.lines) [] ≡ taken_since kind from to trace
        ++ takes_of kind from to step.happened.lines
    by true e = refl
    by false e = sym ((λ i. flat_map (λ step. takes_of kind from to step.happened.lines) (since_none kind from to trace e i) ++ none e i))

-- ---- what is held back

-- less than a whole unit, and no fault
pub record Waits (kind : Kind) (held : List ℕ) : Type 0 where
  pub octets : IsOctets held
  pub partial : front_of kind held ≡ more

pub nothing_waits : (kind : Kind) → Waits kind []
nothing_waits kind = record { octets = λ i. omega arith; partial = (stream_of kind).framing.empty }

pub no_unit : (kind : Kind) (held : List ℕ) → Waits kind held → NoUnit (Spells kind) held
no_unit kind held w = none_whole (front_of kind) (Spells kind) (stream_of kind).framing held w.partial

-- ---- one direction

module _ (kind : Kind) (from to : NodeId) (P : List SessionMessage → NodeState → Type 0) (f : Follower kind from to P) where
  -- Whole units stand end to end in what was taken, and what the receiver's stream holds back after them; and the receiver keeps what
  -- their messages say.
  pub record Hearing (network : OctetNetwork Nodes) (taken : List ℕ) : Type 0 where
    pub units : List (Spelled SessionMessage)
    pub each : AreUnits (Spells kind) units
    pub parts : taken ≡ octets_of units ++ (network.stream (direction kind from to)).held
    pub waits : Waits kind (network.stream (direction kind from to)).held
    pub holds : P (messages_of units) (network.state.node to)

  abbrev pub HearingBehind : List ℕ → Option (Behind (OctetNetwork Nodes)) → Type 0
  HearingBehind taken None = ⊤
  HearingBehind taken (Some new) = Hearing new.network taken

  -- the state and the stream apart
  both_after : (taken : List ℕ) (units : List (Spelled SessionMessage)) (stream : Stream) → AreUnits (Spells kind) units
      → taken ≡ octets_of units ++ stream.held → Waits kind stream.held → (o : Option (Behind (OctetNetwork Nodes)))
      → StreamStays kind from to P f stream o → NetworkHas kind from to P f (messages_of units) o → HearingBehind taken o
  both_after taken units stream each parts waits None s h = tt
  both_after taken units stream each parts waits (Some new) s h = record {
    units = units;
    each = each;
    parts = parts ∙ ap (λ (d : Stream). octets_of units ++ d.held) (sym s);
    waits = subst (λ (d : Stream). Waits kind d.held) (sym s) waits;
    holds = h;
  }

  pub run_hears : (acts : List (OctetAct NodeCall)) → AllByRecursion (λ one. IsTame kind from to P f one) acts
      → (old : OctetNetwork Nodes) (taken : List ℕ) → Hearing old taken → HearingBehind taken (octet_run system old acts)
  run_hears acts tame old taken h =
      both_after taken h.units (old.stream (direction kind from to)) h.each h.parts h.waits (octet_run system old acts)
      (run_stream kind from to P f acts tame (old.stream (direction kind from to)) old refl)
      (run_has kind from to P f acts tame (messages_of h.units) old h.holds)

  -- ---- a move

  alone : (taken : List ℕ) (o : Option (Behind (OctetNetwork Nodes))) → HearingBehind taken o
      → HearingBehind taken (o >>? λ next. with_earlier next.puts (Some (record { network = next.network; puts = [] })))
  alone taken None h = tt
  alone taken (Some new) h = h

  pub own_moved : (old : OctetNetwork Nodes) (count : ℕ) (pending : List SessionMessage) (taken : List ℕ)
      → Carried kind (old.stream (direction kind from to)) (old.transit (direction kind from to)) pending → Hearing old taken
      → HearingBehind (taken ++ take count (old.transit (direction kind from to))) (moved system old (direction kind from to) count)
  own_moved old count pending taken c h =
      let some = came_of kind (old.stream (direction kind from to)) (old.transit (direction kind from to)) pending count c in
      let now = fed_now kind (old.stream (direction kind from to)) (old.transit (direction kind from to)) pending count c some in
      let units : List (Spelled SessionMessage) = h.units ++ some.done in
      let waiting : List SessionMessage = new.waiting in
      let ours : AllByRecursion (λ message. IsOfKind kind message) new.waiting =
      subst (λ (ms : List SessionMessage). AllByRecursion (λ message. IsOfKind kind message) ms) (sym now.0)
      (units_kind kind from to P f kind some.done some.done_are) in
      let says : messages_of h.units ++ new.waiting ≡ messages_of units =
      ap (λ (ms : List SessionMessage). messages_of h.units ++ ms) now.0
      ∙ sym (flat_map-append (λ (u : Spelled SessionMessage). u.messages) h.units some.done) in
      let piece : List ℕ = take count (old.transit (direction kind from to)) in
      let coming : List ℕ = drop count (old.transit (direction kind from to)) in
      let here : List ℕ = (old.stream (direction kind from to)).held ++ piece in
      let whole : here ++ coming ≡ octets_of c.units =
      append_assoc (old.stream (direction kind from to)).held piece coming
      ∙ ap (λ (xs : List ℕ). (old.stream (direction kind from to)).held ++ xs) (take-append-drop count (old.transit (direction kind from to)))
      ∙ c.octets in
      let fits : IsOctets here = IsOctets-before here coming (subst IsOctets (sym whole) (are_octets kind c.units c.each)) in
      let parts : taken ++ piece ≡ octets_of units ++ new.held =
      ap (λ (xs : List ℕ). xs ++ piece) h.parts ∙ append_assoc (octets_of h.units) (old.stream (direction kind from to)).held piece
      ∙ ap (λ (xs : List ℕ). octets_of h.units ++ xs) some.came ∙ sym (append_assoc (octets_of h.units) (octets_of some.done) some.rest)
      ∙ (λ i. sym (flat_map-append (λ (u : Spelled SessionMessage). u.octets) h.units some.done) i ++ sym now.1 i) in
      both_after (taken ++ piece) units (record new { waiting = [] }) (are_both (Spells kind) h.units some.done h.each some.done_are) parts
      (subst (Waits kind) (sym now.1) (record {
        octets = IsOctets-after (octets_of some.done) some.rest (subst IsOctets some.came fits);
        partial =
            some.partial;
      }))
      (all_taken system left (direction kind from to) new.waiting)
      (taken_stream kind from to P f (direction kind from to) new.waiting (record new { waiting = [] }) left
      (ap (λ (t : Bool). cond t (record new { waiting = [] }) (old.stream (direction kind from to))) (own_direction (direction kind from to))))
      (subst (λ (ms : List SessionMessage). NetworkHas kind from to P f ms (all_taken system left (direction kind from to) new.waiting)) says
      (own_taken kind from to P f new.waiting ours (messages_of h.units) left h.holds))
    where
      new : Stream
      new = fed (front_of kind) (old.stream (direction kind from to)) (take count (old.transit (direction kind from to)))

      left : OctetNetwork Nodes
      left = record old {
        transit =
            λ other. cond (same_direction other (direction kind from to)) (drop count (old.transit (direction kind from to))) (old.transit other);
        stream = λ other. cond (same_direction other (direction kind from to))
            (record (fed (front_of kind) (old.stream (direction kind from to)) (take count (old.transit (direction kind from to)))) { waiting = [] })
            (old.stream other);
      }

  -- the network in which a piece has gone to the receiver of another direction
  abbrev gone : OctetNetwork Nodes → Direction → ℕ → OctetNetwork Nodes
  gone old way count = record old {
    transit = λ other. cond (same_direction other way) (drop count (old.transit way)) (old.transit other);
    stream = λ other. cond (same_direction other way)
        (record (fed (front_of way.kind) (old.stream way) (take count (old.transit way))) { waiting = [] }) (old.stream other);
  }

  -- the messages that it brings are none of this direction
  others_come : (old : OctetNetwork Nodes) (way : Direction) (count : ℕ) (pending : List SessionMessage)
      → same_direction (direction kind from to) way ≡ false → Carried way.kind (old.stream way) (old.transit way) pending
      → AllByRecursion (λ message. way.to ≡ to → IsOther kind from (call_of way.from message))
      (fed (front_of way.kind) (old.stream way) (take count (old.transit way))).waiting
  others_come old way count pending off c =
      let some = came_of way.kind (old.stream way) (old.transit way) pending count c in
      let now = fed_now way.kind (old.stream way) (old.transit way) pending count c some in
      subst (λ (ms : List SessionMessage). AllByRecursion (λ message. way.to ≡ to → IsOther kind from (call_of way.from message)) ms) (sym now.0)
      (each_weaker (λ message. IsOfKind way.kind message) (λ message. way.to ≡ to → IsOther kind from (call_of way.from message))
      (λ message is. other_way kind from to P f way off message is) (messages_of some.done)
      (units_kind kind from to P f way.kind some.done some.done_are))

  pub other_moved : (old : OctetNetwork Nodes) (way : Direction) (count : ℕ) (pending : List SessionMessage) (taken : List ℕ)
      → same_direction (direction kind from to) way ≡ false → Carried way.kind (old.stream way) (old.transit way) pending → Hearing old taken
      → HearingBehind taken (moved system old way count)
  other_moved old way count pending taken off c h =
      both_after taken h.units (old.stream (direction kind from to)) h.each h.parts h.waits (moved system old way count)
      (taken_stream kind from to P f way (fed (front_of way.kind) (old.stream way) (take count (old.transit way))).waiting
      (old.stream (direction kind from to)) (gone old way count)
      (ap (λ (t : Bool). cond t (record (fed (front_of way.kind) (old.stream way) (take count (old.transit way))) { waiting = [] })
      (old.stream (direction kind from to))) off))
      (others_taken kind from to P f way (fed (front_of way.kind) (old.stream way) (take count (old.transit way))).waiting
      (others_come old way count pending off c) (messages_of h.units) (gone old way count) h.holds)

  pub other_silent : (old : OctetNetwork Nodes) (way : Direction) (count : ℕ) (pending : List SessionMessage)
      → same_direction (direction kind from to) way ≡ false → Carried way.kind (old.stream way) (old.transit way) pending → P [] (old.state.node to)
      → NetworkHas kind from to P f [] (moved system old way count)
  other_silent old way count pending off c p =
      others_taken kind from to P f way (fed (front_of way.kind) (old.stream way) (take count (old.transit way))).waiting
      (others_come old way count pending off c) [] (gone old way count) p
