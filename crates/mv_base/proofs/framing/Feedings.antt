-- What a feed answers and leaves.
use Rattle.std.proofs.Common.{◌≡◌, ℕ, ◌+◌, ◌-◌, ◌<◌, ◌≤◌, List, [], ◌∷◌, ◌++◌, length, take, drop, Option, Some, None, Result, Ok, Err, refl, sym, ap, subst, ◌∙◌, arith, inl, inr}
use Rattle.std.specs.Option.{unwrap_or}
use Rattle.std.proofs.lemmas.List.{append-nil, take_at, length-append, take-append-drop}
use Rattle.mv_base.specs.Octets.{IsOctets}
use Rattle.mv_base.specs.declared.memory.NoMemory.{NoMemory}
use Rattle.mv_base.specs.framing.Units.{Splits, octets_of, Begins, NoUnit}
use Rattle.mv_base.specs.framing.Cut.{Front, Cut, cut, with_front, Fails, NoFault, Yields, IsCutting, IsNear}
use Rattle.mv_base.specs.framing.Cut.Front.{more, whole, bad}
use Rattle.mv_base.specs.framing.Cut.Yields.{sound as AllWhole, faulty as BehindFault}
use Rattle.mv_base.specs.framing.Feed.{Fed, fed, unfed, fed_by, fed_unless, further, moved, held_of}
use Rattle.mv_base.specs.framing.Feeding.{Appends, Accepts, accepted, Takes, FeedIs, Adds, Stops, Feeds, AnswersFirst}
use Rattle.mv_base.specs.declared.framing.cutting.Cutting.{Cutting}
use Rattle.mv_base.specs.declared.framing.fault.FeedFault.{FeedFault}
use Rattle.mv_base.specs.declared.framing.fault.FeedFault.TheVariants as faults
use Rattle.mv_base.proofs.framing.Cuts.{IsStream, IsFraming, cut_splits, cut_fails, begun, stops, waits, IsOctets-after, one_split}
use Rattle.mv_base.proofs.framing.Loops.{fed_found}
use Rattle.std.specs.Result.{IfOk}
use Rattle.std.specs.Option.{IsSome}

-- What stands at the front is what the format says: units, first faults, and less than the limit where more has to come.
pub record IsFormat {M E : Type 0} (front : List ℕ → Front M E) (Spells : List M → List ℕ → Type 0) (Faulty : List ℕ → List M → ℕ → E → Type 0)
    (limit : ℕ) : Type 0 where
  pub stream : IsStream front Spells
  pub waits : (xs : List ℕ) → front xs ≡ more → length xs < limit
  pub fails : (xs : List ℕ) (ms : List M) (offset : ℕ) (e : E) → IsOctets xs → front xs ≡ bad ms offset e → Faulty xs ms offset e
  pub faulty : (xs : List ℕ) (ms : List M) (offset : ℕ) (e : E) → IsOctets xs → Faulty xs ms offset e → front xs ≡ bad ms offset e

-- ---- a feed, by what stands at the fronts

-- the stream with the piece after what was held back
abbrev with_piece : {M E : Type 0} → Fed M E → List ℕ → Fed M E
with_piece old piece = record old { held = old.held ++ piece }

taken : {M E : Type 0} (front : List ℕ → Front M E) (old : Fed M E) (piece : List ℕ) (c : Cutting M E) (new : Fed M E) (stop : Option (ℕ × E))
    → old.fault ≡ None → IsOctets (old.held ++ piece)
    → IsCutting (old.held ++ piece) (cut front (old.held ++ piece)) c.messages.items c.len c.fault → new ≡ accepted (with_piece old piece) c
    → moved old.before c.fault ≡ stop → Takes front old piece new stop
taken front old piece c new stop unfailed fits found is stops = record {
  octets = fits;
  unfailed = unfailed;
  near = subst (λ (o : Option (ℕ × _)). IsNear o (length (old.held ++ piece))) found.fault found.near;
  taken = is ∙ fed_found front old piece (old.held ++ piece) c.messages.items c.len c.fault unfailed refl found;
  fault = ap (λ (d : Fed _ _). d.fault) is ∙ stops;
}

fed_from : {X M E : Type 0} (front : List ℕ → Front M E) (old : Fed M E) (piece : List ℕ) (found : Result (Cutting M E) NoMemory)
    (r : Result X (FeedFault E)) (new : Fed M E) → old.fault ≡ None → IsOctets (old.held ++ piece)
    → IfOk found (λ c. IsCutting (old.held ++ piece) (cut front (old.held ++ piece)) c.messages.items c.len c.fault)
    → Accepts (with_piece old piece) (length old.held) found r new → FeedIs front old piece r new
fed_from front old piece (Ok c) (Ok x) new unfailed fits cutting h =
    taken front old piece c new None unfailed fits cutting h.1 (ap (moved old.before) h.0)
fed_from front old piece (Ok c) (Err (faults.First place fault)) new unfailed fits cutting h =
    taken front old piece c new (Some (place, fault)) unfailed fits cutting h.1 h.0
fed_from front old piece (Ok c) (Err faults.NoMemory) new unfailed fits cutting h =
    (unfailed, h ∙ ap (λ (xs : List ℕ). record old { held = xs }) (take_at old.held piece (length old.held) refl))
fed_from front old piece (Err e) (Err faults.NoMemory) new unfailed fits cutting h =
    (unfailed, h ∙ ap (λ (xs : List ℕ). record old { held = xs }) (take_at old.held piece (length old.held) refl))
fed_from front old piece (Ok c) (Err faults.Failed) new unfailed fits cutting h = absurd h
fed_from front old piece (Err e) (Ok x) new unfailed fits cutting h = absurd h
fed_from front old piece (Err e) (Err faults.Failed) new unfailed fits cutting h = absurd h
fed_from front old piece (Err e) (Err (faults.First place fault)) new unfailed fits cutting h = absurd h

-- What was appended, cut and accepted is what a feed leaves.
pub fed_exactly : {X Y M E : Type 0} (front : List ℕ → Front M E) (old mid : Fed M E) (piece : List ℕ) (x : Y) (found : Result (Cutting M E) NoMemory)
    (r : Result X (FeedFault E)) (new : Fed M E) → Appends old piece (Ok x) mid → IsOctets mid.held
    → IfOk found (λ c. IsCutting mid.held (cut front mid.held) c.messages.items c.len c.fault) → Accepts mid (length old.held) found r new
    → FeedIs front old piece r new
fed_exactly {X} {Y} {M} {E} front old mid piece x found r new (unfailed, is) fits cutting h =
    let P : Fed M E → Type 0 =
    λ d. IsOctets d.held → IfOk found (λ c. IsCutting d.held (cut front d.held) c.messages.items c.len c.fault)
    → Accepts d (length old.held) found r new → FeedIs front old piece r new in
    subst P (sym is) (λ f c a. fed_from front old piece found r new unfailed f c a) fits cutting h

-- A piece that was not appended changes nothing.
pub fed_not : (X Y : Type 0) {M E : Type 0} (front : List ℕ → Front M E) (old new : Fed M E) (piece : List ℕ) (e : FeedFault E)
    → Appends {X = Y} old piece (Err e) new → FeedIs {X = X} front old piece (Err e) new
fed_not X Y front old new piece (faults.First place fault) h = absurd h
fed_not X Y front old new piece faults.Failed h = h
fed_not X Y front old new piece faults.NoMemory h = h

-- ---- a feed, by what is spelled

-- a stream that had not failed is fed by the cut
fed_cut : {M E : Type 0} (front : List ℕ → Front M E) (old : Fed M E) (piece : List ℕ) (new : Fed M E) (stop : Option (ℕ × E))
    → Takes front old piece new stop → new ≡ fed_by old (length (old.held ++ piece)) (cut front (old.held ++ piece))
fed_cut front old piece new stop t = t.taken ∙ ap (λ (o : Option _). fed_unless front o old piece) t.unfailed

still : {E : Type 0} (before : ℕ) (o : Option (ℕ × E)) → moved before o ≡ None → o ≡ None
still before None e = refl
still before (Some f) e = absurd cc

stopped : {E : Type 0} (before place : ℕ) (fault : E) (o : Option (ℕ × E)) → moved before o ≡ Some (place, fault)
    → (offset : ℕ) × (o ≡ Some (offset, fault)) × (place ≡ further before offset)
stopped before place fault None e = absurd cc
stopped {E} before place fault (Some f) e =
    let same : f.1 ≡ fault = ap (λ (o : Option (ℕ × E)). (unwrap_or o (place, fault)).1) e in
    (f.0, ap (λ (x : E). Some (f.0, x)) same, sym (ap (λ (o : Option (ℕ × E)). (unwrap_or o (place, fault)).0) e))

-- where more has to come, there is no fault
pub no_fault : {M E : Type 0} (front : List ℕ → Front M E) (Spells : List M → List ℕ → Type 0) (Faulty : List ℕ → List M → ℕ → E → Type 0) (limit : ℕ)
    → IsFormat front Spells Faulty limit → (rest : List ℕ) → IsOctets rest → front rest ≡ more → NoFault Faulty rest
no_fault {M} {E} front Spells Faulty limit format rest fits waits ms offset e faulty =
    let clash : ◌≡◌ {A = Front M E} more (bad ms offset e) = sym waits ∙ format.faulty rest ms offset e fits faulty in
    absurd cc

rest_octets : {M : Type 0} (Spells : List M → List ℕ → Type 0) (stream : List ℕ) (ms : List M) (rest : List ℕ) → IsOctets stream
    → Begins Spells stream ms rest → IsOctets rest
rest_octets Spells stream ms rest fits b = IsOctets-after (octets_of b.units) rest (subst IsOctets b.parts fits)

adds : {M E : Type 0} (front : List ℕ → Front M E) (Spells : List M → List ℕ → Type 0) (Faulty : List ℕ → List M → ℕ → E → Type 0) (limit : ℕ)
    → IsFormat front Spells Faulty limit → (old : Fed M E) (piece : List ℕ) (new : Fed M E) → Takes front old piece new None
    → Adds Spells Faulty limit old piece new
adds {M} {E} front Spells Faulty limit format old piece new t =
    let c : Cut M E = cut front (old.held ++ piece) in
    let is = fed_cut front old piece new None t in
    let none : c.fault ≡ None = still old.before c.fault (sym (ap (λ (d : Fed M E). d.fault) is) ∙ t.fault) in
    let held : new.held ≡ c.rest = ap (λ (d : Fed M E). d.held) is ∙ ap (λ (o : Option (ℕ × E)). held_of o c.rest) none in
    let s = cut_splits front Spells format.stream.framing (old.held ++ piece) t.octets none in
    let fits : IsOctets c.rest = rest_octets Spells (old.held ++ piece) c.messages c.rest t.octets s.0.begins in
    record {
      unfailed = t.unfailed;
      added = c.messages;
      splits = subst (Splits Spells (old.held ++ piece) c.messages) (sym held) s.0;
      sound = subst (λ (xs : List ℕ). NoFault Faulty xs) (sym held) (no_fault front Spells Faulty limit format c.rest fits s.1);
      bound = subst (λ (xs : List ℕ). length xs < limit) (sym held) (format.waits c.rest s.1);
      waiting = ap (λ (d : Fed M E). d.waiting) is;
      before = ap (λ (d : Fed M E). d.before) is ∙ ap (λ (xs : List ℕ). further old.before (length (old.held ++ piece) - length xs)) (sym held);
      still = t.fault;
    }

-- what the fronts say of a fault, the format does
fails_by : {M E : Type 0} (front : List ℕ → Front M E) (Spells : List M → List ℕ → Type 0) (Faulty : List ℕ → List M → ℕ → E → Type 0) (limit : ℕ)
    → IsFormat front Spells Faulty limit → (stream : List ℕ) (ms : List M) (place : ℕ) (e : E) → IsOctets stream
    → Fails Spells (λ rest last offset e. front rest ≡ bad last offset e) stream ms place e → Fails Spells Faulty stream ms place e
fails_by front Spells Faulty limit format stream ms place e fits f = record {
  first = f.first;
  last = f.last;
  rest = f.rest;
  offset = f.offset;
  begins = f.begins;
  faulty = format.fails f.rest f.last f.offset e (rest_octets Spells stream f.first f.rest fits f.begins) f.faulty;
  messages = f.messages;
  at = f.at;
}

stops_at : {M E : Type 0} (front : List ℕ → Front M E) (Spells : List M → List ℕ → Type 0) (Faulty : List ℕ → List M → ℕ → E → Type 0) (limit : ℕ)
    → IsFormat front Spells Faulty limit → (old : Fed M E) (piece : List ℕ) (new : Fed M E) (place : ℕ) (fault : E)
    → Takes front old piece new (Some (place, fault)) → Stops Spells Faulty old piece new place fault
stops_at {M} {E} front Spells Faulty limit format old piece new place fault t =
    let c : Cut M E = cut front (old.held ++ piece) in
    let is = fed_cut front old piece new (Some (place, fault)) t in
    let s = stopped old.before place fault c.fault (sym (ap (λ (d : Fed M E). d.fault) is) ∙ t.fault) in
    let f = cut_fails front Spells format.stream.framing (old.held ++ piece) (s.0, fault) t.octets s.1 in
    record {
      unfailed = t.unfailed;
      added = c.messages;
      offset = s.0;
      fails = fails_by front Spells Faulty limit format (old.held ++ piece) c.messages s.0 fault t.octets f;
      waiting = ap (λ (d : Fed M E). d.waiting) is;
      near = subst (λ (o : Option (ℕ × E)). IsNear o (length (old.held ++ piece))) s.1 t.near;
      at = s.2;
      failed = t.fault;
    }

-- What a feed leaves is what is spelled.
pub feeds : {X M E : Type 0} (front : List ℕ → Front M E) (Spells : List M → List ℕ → Type 0) (Faulty : List ℕ → List M → ℕ → E → Type 0) (limit : ℕ)
    → IsFormat front Spells Faulty limit → (old : Fed M E) (piece : List ℕ) (r : Result X (FeedFault E)) (new : Fed M E)
    → FeedIs front old piece r new → Feeds Spells Faulty limit old piece r new
feeds front Spells Faulty limit format old piece (Ok x) new t = adds front Spells Faulty limit format old piece new t
feeds front Spells Faulty limit format old piece (Err (faults.First place fault)) new t =
    stops_at front Spells Faulty limit format old piece new place fault t
feeds front Spells Faulty limit format old piece (Err faults.Failed) new t = t
feeds front Spells Faulty limit format old piece (Err faults.NoMemory) new t = t

-- what is cut of octets that have a first fault
pub fails_cut : {M E : Type 0} (front : List ℕ → Front M E) (Spells : List M → List ℕ → Type 0) (Faulty : List ℕ → List M → ℕ → E → Type 0)
    (limit : ℕ) → IsFormat front Spells Faulty limit → (stream : List ℕ) (ms : List M) (place : ℕ) (e : E) → IsOctets stream
    → Fails Spells Faulty stream ms place e
    → cut front stream ≡ record { messages = ms; rest = (cut front stream).rest; fault = Some (place, e) }
fails_cut {M} {E} front Spells Faulty limit format stream ms place e fits f =
    let len : length f.rest ≤ length stream =
    omega (arith, ap (λ (xs : List ℕ). length xs) f.begins.parts, length-append (octets_of f.begins.units) f.rest) in
    let there : ℕ = length stream - length f.rest in
    let at : there + length f.rest ≡ 0 + length stream = omega (arith, len) in
    let here : there + f.offset ≡ place = omega (arith, f.at, len) in
    let fronts : front f.rest ≡ bad f.last f.offset e =
    format.faulty f.rest f.last f.offset e (rest_octets Spells stream f.first f.rest fits f.begins) f.faulty in
    let is : cut front stream ≡ record { messages = ms; rest = f.rest; fault = Some (place, e) } =
    begun front Spells format.stream.framing 0 there stream f.first f.rest f.begins at
    ∙ ap (with_front f.first) (stops front there f.offset e f.last f.rest format.stream.framing.empty fronts)
    ∙ ap (λ (p : ℕ). record { messages = f.first ++ f.last; rest = f.rest; fault = Some (p, e) }) here
    ∙ ap (λ (ns : List M). record { messages = ns; rest = f.rest; fault = Some (place, e) }) (sym f.messages) in
    is ∙ ap (λ (xs : List ℕ). record { messages = ms; rest = xs; fault = Some (place, e) }) (sym (ap (λ (c : Cut M E). c.rest) is))

-- The first fault is answered.
pub answers_first : {X M E : Type 0} (front : List ℕ → Front M E) (Spells : List M → List ℕ → Type 0) (Faulty : List ℕ → List M → ℕ → E → Type 0)
    (limit : ℕ) → IsFormat front Spells Faulty limit → (old : Fed M E) (piece : List ℕ) (r : Result X (FeedFault E)) (new : Fed M E)
    → FeedIs front old piece r new → AnswersFirst Spells Faulty old piece r
answers_first {X} {M} {E} front Spells Faulty limit format old piece (Ok x) new t ms offset e unfailed f =
    let c = fails_cut front Spells Faulty limit format (old.held ++ piece) ms offset e t.octets f in
    let is = fed_cut front old piece new None t in
    let some : new.fault ≡ Some (further old.before offset, e) =
    ap (λ (d : Fed M E). d.fault) is ∙ ap (λ (d : Cut M E). moved old.before d.fault) c in
    let clash : ◌≡◌ {A = Option (ℕ × E)} None (Some (further old.before offset, e)) = sym t.fault ∙ some in
    absurd cc
answers_first {X} {M} {E} front Spells Faulty limit format old piece (Err (faults.First place fault)) new t ms offset e unfailed f =
    let c = fails_cut front Spells Faulty limit format (old.held ++ piece) ms offset e t.octets f in
    let is = fed_cut front old piece new (Some (place, fault)) t in
    let some : Some (place, fault) ≡ Some (further old.before offset, e) =
    sym t.fault ∙ ap (λ (d : Fed M E). d.fault) is ∙ ap (λ (d : Cut M E). moved old.before d.fault) c in
    let place_is : place ≡ further old.before offset = ap (λ (o : Option (ℕ × E)). (unwrap_or o (place, fault)).0) some in
    let fault_is : fault ≡ e = ap (λ (o : Option (ℕ × E)). (unwrap_or o (place, fault)).1) some in
    inr (ap (λ (p : ℕ). Err (faults.First p fault)) place_is ∙ ap (λ (x : E). Err (faults.First (further old.before offset) x)) fault_is)
answers_first front Spells Faulty limit format old piece (Err faults.Failed) new t ms offset e unfailed f = absurd (some_none old.fault t.0 unfailed)
  where
    some_none : {A : Type 0} (o : Option A) → IsSome o → o ≡ None → ⊥
    some_none None h e = absurd cc
    some_none (Some x) h e = cc
answers_first front Spells Faulty limit format old piece (Err faults.NoMemory) new t ms offset e unfailed f = inl refl

-- ---- one unit alone

-- One whole unit that is fed at first waits alone.
pub fed_one : {M E : Type 0} (front : List ℕ → Front M E) (Spells : List M → List ℕ → Type 0) → IsFraming front Spells → (ms : List M) (text : List ℕ)
    → Spells ms text → fed front unfed text ≡ record { waiting = ms; held = []; before = further 0 (length text); fault = None }
fed_one {M} {E} front Spells framing ms text spells =
    let b : Begins Spells text ms [] =
    record {
      units = record { messages = ms; octets = text } ∷ [];
      each = (spells, tt);
      parts =
          sym (append-nil text) ∙ sym (append-nil (text ++ []));
      carried = sym (append-nil ms);
    } in
    let is : cut front text ≡ record { messages = ms; rest = []; fault = None } =
    begun front Spells framing 0 (length text) text ms [] b (omega arith)
    ∙ ap (with_front ms) (waits front (length text) [] framing.empty)
    ∙ ap (λ (ns : List M). record { messages = ns; rest = []; fault = None }) (append-nil ms) in
    let all : length text - 0 ≡ length text = omega arith in
    ap (λ (c : Cut M E). fed_by unfed (length text) c) is ∙ ap (λ (n : ℕ). record { waiting = ms; held = []; before = further 0 n; fault = None }) all

-- ---- whole octets

-- Whole octets are split in one way: nothing is left.
pub whole_rest : {M E : Type 0} (front : List ℕ → Front M E) (Spells : List M → List ℕ → Type 0) → IsFraming front Spells
    → (stream : List ℕ) (ms ns : List M) (rest : List ℕ) → Begins Spells stream ms [] → Splits Spells stream ns rest → rest ≡ []
whole_rest front Spells framing stream ms ns rest whole_is splits =
    let none : NoUnit Spells [] =
    λ m text after spells same. absurd (omega (
      arith,
      framing.filled m text spells,
      ap (λ (xs : List ℕ). length xs) same,
      length-append text after,
    )) in
    (one_split front Spells framing stream ns ms rest [] splits (record { begins = whole_is; no_unit = none })).1

-- Whole octets have no fault.
pub whole_fails : {M E : Type 0} (front : List ℕ → Front M E) (Spells : List M → List ℕ → Type 0) (Faulty : List ℕ → List M → ℕ → E → Type 0)
    (limit : ℕ) → IsFormat front Spells Faulty limit → (stream : List ℕ) (ms ns : List M) (place : ℕ) (e : E) → IsOctets stream
    → Begins Spells stream ms [] → Fails Spells Faulty stream ns place e → ⊥
whole_fails {M} {E} front Spells Faulty limit format stream ms ns place e fits whole_is fails =
    let framing = format.stream.framing in
    let is : cut front stream ≡ record { messages = ms ++ []; rest = []; fault = None } =
    begun front Spells framing 0 (length stream) stream ms [] whole_is (omega arith)
    ∙ ap (with_front ms) (waits front (length stream) [] framing.empty) in
    let none : (cut front stream).fault ≡ None = ap (λ (c : Cut M E). c.fault) is in
    let some : (cut front stream).fault ≡ Some (place, e) =
    ap (λ (c : Cut M E). c.fault) (fails_cut front Spells Faulty limit format stream ns place e fits fails) in
    absurd cc

-- ---- the messages that octets yield

-- Octets yield the messages of the cut.
pub yields_cut : {M E : Type 0} (front : List ℕ → Front M E) (Spells : List M → List ℕ → Type 0) (Faulty : List ℕ → List M → ℕ → E → Type 0)
    (limit : ℕ) → IsFormat front Spells Faulty limit → (octets : List ℕ) (ms : List M) → IsOctets octets → Yields Spells Faulty octets ms
    → (cut front octets).messages ≡ ms
yields_cut {M} {E} front Spells Faulty limit format octets ms fits (BehindFault place e f) =
    ap (λ (c : Cut M E). c.messages) (fails_cut front Spells Faulty limit format octets ms place e fits f)
yields_cut {M} {E} front Spells Faulty limit format octets ms fits (AllWhole rest splits none) =
    let there : ℕ = length (octets_of splits.begins.units) in
    let at : there + length rest ≡ 0 + length octets =
    omega (arith, ap (λ (xs : List ℕ). length xs) splits.begins.parts, length-append (octets_of splits.begins.units) rest) in
    let rest_fits : IsOctets rest = rest_octets Spells octets ms rest fits splits.begins in
    ap (λ (c : Cut M E). c.messages) (begun front Spells format.stream.framing 0 there octets ms rest splits.begins at
    ∙ ap (with_front ms) (waits front there rest (must_wait rest_fits (front rest) refl)))
    ∙ append-nil ms
  where
    must_wait : IsOctets rest → (o : Front M E) → front rest ≡ o → front rest ≡ more
    must_wait rest_fits more e = e
    must_wait rest_fits (whole n ns) e =
        let taken = format.stream.framing.taken rest n ns rest_fits e in
        absurd (splits.no_unit ns (take n rest) (drop n rest) taken.1 (sym (take-append-drop n rest)))
    must_wait rest_fits (bad last offset fault) e = absurd (none last offset fault (format.fails rest last offset fault rest_fits e))

-- Octets yield one list of messages.
pub one_yield : {M E : Type 0} (front : List ℕ → Front M E) (Spells : List M → List ℕ → Type 0) (Faulty : List ℕ → List M → ℕ → E → Type 0)
    (limit : ℕ) → IsFormat front Spells Faulty limit → (octets : List ℕ) (ms ns : List M) → IsOctets octets → Yields Spells Faulty octets ms
    → Yields Spells Faulty octets ns → ms ≡ ns
one_yield front Spells Faulty limit format octets ms ns fits a b =
    sym (yields_cut front Spells Faulty limit format octets ms fits a) ∙ yields_cut front Spells Faulty limit format octets ns fits b
