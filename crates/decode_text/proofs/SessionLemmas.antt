-- What is told of a stream that is fed piece by piece is told of its octets.
use Rattle.std.proofs.Common.{◌≡◌, ℕ, ◌+◌, ◌-◌, ◌^◌, ◌<◌, ◌≤◌, Bool, true, false, List, [], ◌∷◌, ◌++◌, length, take, drop, codes, Result, Ok, Err, refl, sym, ap, subst, ◌∙◌, append_assoc, arith}
use Rattle.std.specs.List.{flat_map, AllByRecursion}
use Rattle.std.proofs.lemmas.List.{length-append, take-append-drop}
use Rattle.std.proofs.lemmas.Grind.{flat_map-append}
use Rattle.mv_base.specs.Octets.{IsOctets}
use Rattle.mv_base.specs.framing.Units.{Begins, Spelled, Splits, AreUnits as AreSpelled, octets_of, messages_of}
use Rattle.mv_base.specs.framing.Cut.{Front, Fails, NoFault}
use Rattle.mv_base.specs.framing.Feed.{Fed, unfed, further}
use Rattle.mv_base.specs.framing.Feeding.{Feeds, Adds, Stops, unfinished}
use Rattle.mv_base.specs.declared.framing.fault.FeedFault.{FeedFault}
use Rattle.mv_base.specs.declared.framing.fault.FeedFault.TheVariants as faults
use Rattle.mv_base.proofs.framing.Cuts.{IsOctets-before, IsOctets-after, begun_more, none_whole, nothing_begun}
use Rattle.mv_base.proofs.framing.Feedings.{IsFormat, no_fault, whole_rest, whole_fails}
use Rattle.value_text.specs.ValueText.{refused_line}
use Rattle.decode_text.specs.Sessions.{Session, AreUnits, StopsAt, TellsStop, TellsSession, IsSession, TellsFault, TellsEnd}
use Rattle.decode_text.specs.Sessions.StopsAt.{faulty, inside}
use Rattle.decode_text.proofs.TellLemmas.{all_append}

-- ---- the words of a session

no_octets : IsOctets []
no_octets i = omega arith

-- What the words of a session meet that has a format.
pub is_session : {M E : Type 0} (front : List ℕ → Front M E) (Spells : List M → List ℕ → Type 0) (Faulty : List ℕ → List M → ℕ → E → Type 0)
    (limit : ℕ) → IsFormat front Spells Faulty limit → (P : M → Type 0) → ((ms : List M) (text : List ℕ) → Spells ms text → AllByRecursion P ms)
    → ((octets : List ℕ) (ms : List M) (offset : ℕ) (e : E) → Faulty octets ms offset e → AllByRecursion P ms) → IsSession Spells Faulty P
is_session front Spells Faulty limit format P each before = record {
  kept = λ octets thereafter ms offset e fits faulty. format.fails (octets ++ thereafter) ms offset e fits
      (format.stream.kept octets thereafter ms offset e (format.faulty octets ms offset e (IsOctets-before octets thereafter fits) faulty));
  no_unit = none_whole front Spells format.stream.framing [] format.stream.framing.empty;
  no_fault = no_fault front Spells Faulty limit format [] no_octets format.stream.framing.empty;
  tellable = each;
  tellable_before = before;
}

-- ---- the messages that wait

all_carried : {M : Type 0} (P : M → Type 0) (Spells : List M → List ℕ → Type 0)
    → ((ms : List M) (text : List ℕ) → Spells ms text → AllByRecursion P ms) → (units : List (Spelled M)) → AreSpelled Spells units
    → AllByRecursion P (messages_of units)
all_carried P Spells each [] h = tt
all_carried P Spells each (u ∷ us) h = all_append P u.messages (messages_of us) (each u.messages u.octets h.0) (all_carried P Spells each us h.1)

all_begun : {M : Type 0} (P : M → Type 0) (Spells : List M → List ℕ → Type 0) → ((ms : List M) (text : List ℕ) → Spells ms text → AllByRecursion P ms)
    → (octets : List ℕ) (ms waiting : List M) (rest : List ℕ) → Begins Spells octets ms rest → waiting ≡ ms → AllByRecursion P waiting
all_begun P Spells each octets ms waiting rest b e = subst (AllByRecursion P) (sym (e ∙ b.carried)) (all_carried P Spells each b.units b.each)

-- Where none waited, the messages that wait after a feed can be told.
pub waiting_meet : {X M E : Type 0} (P : M → Type 0) (Spells : List M → List ℕ → Type 0) (Faulty : List ℕ → List M → ℕ → E → Type 0) (limit : ℕ)
    → IsSession Spells Faulty P → (old : Fed M E) (piece : List ℕ) (fed : Result X (FeedFault E)) (new : Fed M E) → old.waiting ≡ []
    → Feeds Spells Faulty limit old piece fed new → AllByRecursion P new.waiting
waiting_meet {X} {M} P Spells Faulty limit session old piece (Ok x) new none f =
    all_begun P Spells session.tellable (old.held ++ piece) f.added new.waiting new.held f.splits.begins
    (f.waiting ∙ ap (λ (ms : List M). ms ++ f.added) none)
waiting_meet {X} {M} P Spells Faulty limit session old piece (Err (faults.First place fault)) new none f =
    let k = f.fails in
    let all =
    all_append P k.first k.last (all_begun P Spells session.tellable (old.held ++ piece) k.first k.first k.rest k.begins refl)
    (session.tellable_before k.rest k.last k.offset fault k.faulty) in
    subst (AllByRecursion P) (sym (f.waiting ∙ ap (λ (ms : List M). ms ++ f.added) none ∙ k.messages)) all
waiting_meet {X} {M} {E} P Spells Faulty limit session old piece (Err faults.Failed) new none f =
    subst (AllByRecursion P) (sym (ap (λ (d : Fed M E). d.waiting) f.1 ∙ none)) tt
waiting_meet {X} {M} {E} P Spells Faulty limit session old piece (Err faults.NoMemory) new none f =
    subst (AllByRecursion P) (sym (ap (λ (d : Fed M E). d.waiting) f.1 ∙ none)) tt

-- ---- piece by piece

-- What was told of the front of octets: the lines of the messages of the units there. The octets held back stand after
-- these.
pub record ToldSoFar {M E : Type 0} (s : Session M E) (front : List ℕ) (d : Fed M E) (told : List ℕ) : Type 0 where
  pub messages : List M
  pub splits : Splits s.Spells front messages d.held
  pub sound : NoFault s.Faulty d.held
  pub place : d.before + length d.held ≡ length front
  pub none : d.waiting ≡ []
  pub text : told ≡ flat_map s.lines messages

-- Nothing is told of no octets.
pub none_told : {M E : Type 0} (s : Session M E) (P : M → Type 0) → IsSession s.Spells s.Faulty P → (d : Fed M E) (told : List ℕ) → d ≡ unfed
    → told ≡ [] → ToldSoFar s [] d told
none_told {M} {E} s P session d told is empty = subst (λ (x : Fed M E). ToldSoFar s [] x told) (sym is) (record {
  messages = [];
  splits = record { begins = nothing_begun s.Spells []; no_unit = session.no_unit };
  sound = session.no_fault;
  place = refl;
  none = refl;
  text = empty;
})

-- units after units
begun_on : {M : Type 0} (Spells : List M → List ℕ → Type 0) (front : List ℕ) (ms : List M) (held piece : List ℕ) (ns : List M) (rest : List ℕ)
    → Begins Spells front ms held → Begins Spells (held ++ piece) ns rest → Begins Spells (front ++ piece) (ms ++ ns) rest
begun_on {M} Spells front ms held piece ns rest a b =
    let texts : octets_of (a.units ++ b.units) ≡ octets_of a.units ++ octets_of b.units =
    flat_map-append (λ (u : Spelled M). u.octets) a.units b.units in
    let carried : messages_of (a.units ++ b.units) ≡ messages_of a.units ++ messages_of b.units =
    flat_map-append (λ (u : Spelled M). u.messages) a.units b.units in
    record {
      units = a.units ++ b.units;
      each = all_append (λ (u : Spelled M). Spells u.messages u.octets) a.units b.units a.each b.each;
      parts = ap (λ (xs : List ℕ). xs ++ piece) a.parts ∙ append_assoc (octets_of a.units) held piece
          ∙ ap (λ (xs : List ℕ). octets_of a.units ++ xs) b.parts ∙ sym (append_assoc (octets_of a.units) (octets_of b.units) rest)
          ∙ ap (λ (xs : List ℕ). xs ++ rest) (sym texts);
      carried = ap (λ (xs : List M). xs ++ ns) a.carried ∙ ap (λ (xs : List M). messages_of a.units ++ xs) b.carried ∙ sym carried;
    }

-- the octets after whole units are no more than all
held_le : {M : Type 0} (Spells : List M → List ℕ → Type 0) (octets : List ℕ) (ms : List M) (rest : List ℕ) → Begins Spells octets ms rest
    → length rest ≤ length octets
held_le Spells octets ms rest b = omega (arith, ap (λ (xs : List ℕ). length xs) b.parts, length-append (octets_of b.units) rest)

-- a place further on in octets that are not too many
near_place : (place n : ℕ) → place + n < 2 ^ 64 → further place n ≡ place + n
near_place place n lt = omega (arith, lt)

-- the text of what was told, with the messages that waited after a feed
text_more : {M : Type 0} (lines : M → List ℕ) (told new : List ℕ) (messages added old waiting : List M) → old ≡ [] → told ≡ flat_map lines messages
    → waiting ≡ old ++ added → new ≡ told ++ flat_map lines waiting → new ≡ flat_map lines (messages ++ added)
text_more {M} lines told new messages added old waiting none text more is =
    is ∙ ap (λ (xs : List ℕ). xs ++ flat_map lines waiting) text
    ∙ ap (λ (ms : List M). flat_map lines messages ++ flat_map lines ms) (more ∙ ap (λ (ms : List M). ms ++ added) none)
    ∙ sym (flat_map-append lines messages added)

-- A piece that was taken is told.
pub piece_told : {M E : Type 0} (s : Session M E) (limit : ℕ) (front : List ℕ) (old : Fed M E) (told piece : List ℕ) (fed new : Fed M E)
    (text : List ℕ) → length (front ++ piece) < 2 ^ 64 → ToldSoFar s front old told → Adds s.Spells s.Faulty limit old piece fed
    → new ≡ record fed { waiting = [] } → text ≡ told ++ flat_map s.lines fed.waiting → ToldSoFar s (front ++ piece) new text
piece_told {M} {E} s limit front old told piece fed new text fits t a is more =
    let size = length-append front piece in
    let left = length-append old.held piece in
    let le = held_le s.Spells (old.held ++ piece) a.added fed.held a.splits.begins in
    let further_on : old.before + (length (old.held ++ piece) - length fed.held) + length fed.held ≡ length (front ++ piece) =
    omega (arith, t.place, size, left, le) in
    let before : fed.before ≡ old.before + (length (old.held ++ piece) - length fed.held) =
    a.before ∙ near_place old.before (length (old.held ++ piece) - length fed.held) (omega (arith, further_on, fits)) in
    subst (λ (d : Fed M E). ToldSoFar s (front ++ piece) d text) (sym is) (record {
      messages = t.messages ++ a.added;
      splits = record {
        begins = begun_on s.Spells front t.messages old.held piece a.added fed.held t.splits.begins a.splits.begins;
        no_unit =
            a.splits.no_unit;
      };
      sound = a.sound;
      place = omega (arith, before, further_on);
      none = refl;
      text = text_more s.lines told text t.messages a.added old.waiting fed.waiting t.none t.text a.waiting more;
    })

-- Where a piece shows the first fault, the octets stop there.
pub stop_in_piece : {M E : Type 0} (s : Session M E) (P : M → Type 0) → IsSession s.Spells s.Faulty P
    → (octets front : List ℕ) (old : Fed M E) (told piece thereafter : List ℕ) (fed : Fed M E) (place : ℕ) (fault : E) (text new : List ℕ)
    → length octets < 2 ^ 64 → IsOctets octets → octets ≡ (front ++ piece) ++ thereafter
    → ToldSoFar s front old told → Stops s.Spells s.Faulty old piece fed place fault → text ≡ told ++ flat_map s.lines fed.waiting
    → new ≡ text ++ refused_line place (s.word fault) → TellsStop s octets new
stop_in_piece {M} {E} s P session octets front old told piece thereafter fed place fault text new fits are parts t f more is =
    let k = f.fails in
    let begins : Begins s.Spells (front ++ piece) (t.messages ++ k.first) k.rest =
    begun_on s.Spells front t.messages old.held piece k.first k.rest t.splits.begins k.begins in
    let all : Begins s.Spells octets (t.messages ++ k.first) (k.rest ++ thereafter) =
    subst (λ (xs : List ℕ). Begins s.Spells xs (t.messages ++ k.first) (k.rest ++ thereafter)) (sym parts)
    (begun_more s.Spells (front ++ piece) (t.messages ++ k.first) k.rest thereafter begins) in
    let rest_are : IsOctets (k.rest ++ thereafter) = IsOctets-after (octets_of all.units) (k.rest ++ thereafter) (subst IsOctets all.parts are) in
    let size : length octets ≡ length front + length piece + length thereafter =
    ap (λ (xs : List ℕ). length xs) parts ∙ length-append (front ++ piece) thereafter
    ∙ ap (λ (n : ℕ). n + length thereafter) (length-append front piece) in
    let left = length-append old.held piece in
    let there : place ≡ old.before + f.offset = f.at ∙ near_place old.before f.offset (omega (arith, t.place, size, left, f.near, fits)) in
    let fails : Fails s.Spells s.Faulty octets (t.messages ++ f.added) place fault = record {
      first = t.messages ++ k.first;
      last = k.last;
      rest = k.rest ++ thereafter;
      offset = k.offset;
      begins = all;
      faulty = session.kept k.rest thereafter k.last k.offset fault rest_are k.faulty;
      messages = ap (λ (ms : List M). t.messages ++ ms) k.messages ∙ sym (append_assoc t.messages k.first k.last);
      at = omega (arith, there, k.at, t.place, size, left, length-append k.rest thereafter);
    } in
    record {
      messages = t.messages ++ f.added;
      place = place;
      word = s.word fault;
      stop = faulty fault fails refl;
      text = is ∙ ap (λ (xs : List ℕ). xs ++ refused_line place (s.word fault))
          (text_more s.lines told text t.messages f.added old.waiting fed.waiting t.none t.text f.waiting more);
    }

-- the octets in front of a rest that is cut in two
pub cut_more : (octets front rest piece thereafter : List ℕ) (n : ℕ) → octets ≡ front ++ rest → piece ≡ take n rest → thereafter ≡ drop n rest
    → octets ≡ (front ++ piece) ++ thereafter
cut_more octets front rest piece thereafter n parts first last =
    parts ∙ ap (λ (xs : List ℕ). front ++ xs) (sym (take-append-drop n rest) ∙ ap (λ (xs : List ℕ). xs ++ drop n rest) (sym first)
    ∙ ap (λ (xs : List ℕ). piece ++ xs) (sym last)) ∙ sym (append_assoc front piece thereafter)

pub front_fits : (octets front thereafter : List ℕ) → octets ≡ front ++ thereafter → length octets < 2 ^ 64 → length front < 2 ^ 64
front_fits octets front thereafter parts fits = omega (arith, ap (λ (xs : List ℕ). length xs) parts, length-append front thereafter, fits)

-- Where a piece shows the first fault, and its line is told, the octets are.
pub fault_told : (X : Type 0) {M E : Type 0} (s : Session M E) (P : M → Type 0) → IsSession s.Spells s.Faulty P
    → (limit : ℕ) (octets front : List ℕ) (old : Fed M E) (told piece thereafter : List ℕ) (fed : Fed M E) (fault : FeedFault E) (text : List ℕ)
    (refused : Bool) (new : List ℕ) → length octets < 2 ^ 64 → IsOctets octets → octets ≡ (front ++ piece) ++ thereafter
    → ToldSoFar s front old told → Feeds {X = X} s.Spells s.Faulty limit old piece (Err fault) fed → text ≡ told ++ flat_map s.lines fed.waiting
    → TellsFault s.word fault refused text new → TellsSession s refused octets new
fault_told X s P session limit octets front old told piece thereafter fed (faults.First place e) text refused new fits are parts t f more (is, line) =
    subst (λ (b : Bool). TellsSession s b octets new) (sym is)
    (stop_in_piece s P session octets front old told piece thereafter fed place e text new fits are parts t f more line)
fault_told X s P session limit octets front old told piece thereafter fed faults.Failed text refused new fits are parts t f more tells = absurd tells
fault_told X s P session limit octets front old told piece thereafter fed faults.NoMemory text refused new fits are parts t f more tells = absurd tells

-- what is told of all octets, by what is held back
end_by : {M E : Type 0} (s : Session M E) (octets : List ℕ) (d : Fed M E) (told : List ℕ) (refused : Bool) (text : List ℕ) (held : List ℕ)
    → d.held ≡ held → ToldSoFar s octets d told → TellsEnd (unfinished (record d { held = held })) refused told text
    → TellsSession s refused octets text
end_by s octets d told refused text [] none t e =
    subst (λ (b : Bool). TellsSession s b octets text) (sym e.0) (record {
      messages = t.messages;
      units = subst (Begins s.Spells octets t.messages) none t.splits.begins;
      text = e.1 ∙ t.text;
    })
end_by s octets d told refused text (b ∷ bs) some t e =
    subst (λ (x : Bool). TellsSession s x octets text) (sym e.0) (record {
      messages = t.messages;
      place = d.before;
      word = codes "short";
      stop = inside (record {
        rest = d.held;
        splits = t.splits;
        more = omega (arith, ap (λ (xs : List ℕ). length xs) some);
        sound = t.sound;
        at =
            t.place;
      }) refl;
      text = e.1 ∙ ap (λ (xs : List ℕ). xs ++ refused_line d.before (codes "short")) t.text;
    })

-- Where all octets were taken, they are told.
pub end_told : {M E : Type 0} (s : Session M E) (octets : List ℕ) (d : Fed M E) (told : List ℕ) (refused : Bool) (text : List ℕ)
    → ToldSoFar s octets d told → TellsEnd (unfinished d) refused told text → TellsSession s refused octets text
end_told s octets d told refused text t e = end_by s octets d told refused text d.held refl t e

-- ---- octets are whole, or they stop

-- Octets that are whole units do not stop after some.
pub units_apart : {M E : Type 0} (front : List ℕ → Front M E) (s : Session M E) (limit : ℕ) → IsFormat front s.Spells s.Faulty limit
    → (octets : List ℕ) (ms ns : List M) (place : ℕ) (word : List ℕ) → IsOctets octets → AreUnits s octets ms → StopsAt s octets ns place word → ⊥
units_apart front s limit format octets ms ns place word fits units (faulty e fails is) =
    whole_fails front s.Spells s.Faulty limit format octets ms ns place e fits units fails
units_apart front s limit format octets ms ns place word fits units (inside ends is) =
    let none = whole_rest front s.Spells format.stream.framing octets ms ns ends.rest units ends.splits in
    absurd (omega (arith, ends.more, ap (λ (xs : List ℕ). length xs) none))

-- Octets that are whole units are told so.
pub units_told : {M E : Type 0} (front : List ℕ → Front M E) (s : Session M E) (limit : ℕ) → IsFormat front s.Spells s.Faulty limit
    → (refused : Bool) (octets told : List ℕ) (ms : List M) → IsOctets octets → AreUnits s octets ms → TellsSession s refused octets told
    → refused ≡ false
units_told front s limit format false octets told ms fits units t = refl
units_told front s limit format true octets told ms fits units t =
    absurd (units_apart front s limit format octets ms t.messages t.place t.word fits units t.stop)

-- Octets that stop are told so.
pub stop_told : {M E : Type 0} (front : List ℕ → Front M E) (s : Session M E) (limit : ℕ) → IsFormat front s.Spells s.Faulty limit
    → (refused : Bool) (octets told : List ℕ) (ms : List M) (place : ℕ) (word : List ℕ) → IsOctets octets → StopsAt s octets ms place word
    → TellsSession s refused octets told → refused ≡ true
stop_told front s limit format true octets told ms place word fits stop t = refl
stop_told front s limit format false octets told ms place word fits stop t =
    absurd (units_apart front s limit format octets t.messages ms place word fits t.units stop)
