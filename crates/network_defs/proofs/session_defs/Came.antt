-- Some first octets of whole units are cut into those units that came whole, without a fault.
use Rattle.std.proofs.Common.{◌≡◌, ℕ, ◌+◌, ◌<◌, List, [], ◌∷◌, ◌++◌, length, take, drop, None, refl, sym, ap, subst, ◌∙◌, append_assoc, arith, inl, inr}
use Rattle.std.proofs.lemmas.Bool.{cases_lt}
use Rattle.std.proofs.lemmas.List.{length-take-le, append-nil, take-append-drop, take-append-le, take_at, append_cancel_left}
use Rattle.mv_base.specs.Octets.{IsOctets}
use Rattle.mv_base.specs.framing.Units.{Spelled, octets_of, messages_of, AreUnits}
use Rattle.mv_base.specs.framing.Cut.{Front, with_front, cut}
use Rattle.mv_base.specs.framing.Cut.Front.{more, whole, bad}
use Rattle.mv_base.proofs.framing.Cuts.{IsStream, waits, past_all, IsOctets-after}

-- the units that came whole, those that did not yet, and what came of the first of these
pub record Came {M E : Type 0} (front : List ℕ → Front M E) (Spells : List M → List ℕ → Type 0) (here coming : List ℕ)
    (units : List (Spelled M)) : Type 0 where
  pub done : List (Spelled M)
  pub left : List (Spelled M)
  pub rest : List ℕ
  pub both : units ≡ done ++ left
  pub done_are : AreUnits Spells done
  pub left_are : AreUnits Spells left
  pub came : here ≡ octets_of done ++ rest
  pub comes : rest ++ coming ≡ octets_of left
  pub partial : front rest ≡ more

-- less than the first unit came
short : {M E : Type 0} (front : List ℕ → Front M E) (Spells : List M → List ℕ → Type 0) → IsStream front Spells
    → (here coming : List ℕ) (unit : Spelled M) (after : List ℕ) → Spells unit.messages unit.octets → IsOctets here
    → here ++ coming ≡ unit.octets ++ after
    → length here < length unit.octets → (o : Front M E) → front here ≡ o → front here ≡ more
short front Spells stream here coming unit after spells fits same lt more e = e
short front Spells stream here coming unit after spells fits same lt (bad before offset fault) e =
    let there : front (here ++ coming) ≡ whole (length unit.octets) unit.messages =
    ap front same ∙ stream.framing.again unit.messages unit.octets after spells in
    let stays : front (here ++ coming) ≡ bad before offset fault = stream.kept here coming before offset fault e in
    absurd cc
short front Spells stream here coming unit after spells fits same lt (whole n messages) e =
    let there : front (here ++ coming) ≡ whole (length unit.octets) unit.messages =
    ap front same ∙ stream.framing.again unit.messages unit.octets after spells in
    let taken = stream.framing.taken here n messages fits e in
    let split : here ++ coming ≡ take n here ++ (drop n here ++ coming) =
    ap (λ (xs : List ℕ). xs ++ coming) (sym (take-append-drop n here)) ∙ append_assoc (take n here) (drop n here) coming in
    let stands : front (here ++ coming) ≡ whole (length (take n here)) messages =
    ap front split ∙ stream.framing.again messages (take n here) (drop n here ++ coming) taken.1 in
    let len : length (take n here) ≡ length unit.octets = cc in
    absurd (omega (arith, len, length-take-le n here taken.0, taken.0))

nothing_in : (xs ys : List ℕ) → xs ++ ys ≡ [] → (xs ≡ []) × (ys ≡ [])
nothing_in [] ys e = (refl, e)
nothing_in (x ∷ xs) ys e = absurd cc

-- the first unit came, and some of what is after it
one_whole : {M E : Type 0} (front : List ℕ → Front M E) (Spells : List M → List ℕ → Type 0) (here coming after : List ℕ) (unit : Spelled M)
    (units : List (Spelled M)) → Spells unit.messages unit.octets → here ≡ unit.octets ++ after → Came front Spells after coming units
    → Came front Spells here coming (unit ∷ units)
one_whole front Spells here coming after unit units spells split further = record {
  done = unit ∷ further.done;
  left = further.left;
  rest = further.rest;
  both = ap (λ (us : List _). unit ∷ us) further.both;
  done_are = (spells, further.done_are);
  left_are = further.left_are;
  came = split ∙ ap (λ (xs : List ℕ). unit.octets ++ xs) further.came ∙ sym (append_assoc unit.octets (octets_of further.done) further.rest);
  comes = further.comes;
  partial = further.partial;
}

-- What came of whole units is some of them, and less than a whole one after them.
pub came : {M E : Type 0} (front : List ℕ → Front M E) (Spells : List M → List ℕ → Type 0) → IsStream front Spells
    → (here coming : List ℕ) (units : List (Spelled M)) → AreUnits Spells units → IsOctets here → here ++ coming ≡ octets_of units
    → Came front Spells here coming units
came front Spells stream here coming [] are fits same =
    let none = nothing_in here coming same in
    record {
      done = [];
      left = [];
      rest = [];
      both = refl;
      done_are = tt;
      left_are = tt;
      came = none.0;
      comes = none.1;
      partial =
          stream.framing.empty;
    }
came front Spells stream here coming (unit ∷ units) are fits same =
    elim (cases_lt (length here) (length unit.octets)) [
      | inl lt ↦ record {
        done = [];
        left = unit ∷ units;
        rest = here;
        both = refl;
        done_are = tt;
        left_are = are;
        came = refl;
        comes = same;
        partial = short front Spells stream here coming unit (octets_of units) are.0 fits same lt (front here) refl;
      }
      | inr le ↦
          let n : ℕ = length unit.octets in
          let head : take n here ≡ unit.octets =
          sym (take-append-le n here coming le) ∙ ap (take n) same ∙ take_at unit.octets (octets_of units) n refl in
          let split : here ≡ unit.octets ++ drop n here = sym (take-append-drop n here) ∙ ap (λ (xs : List ℕ). xs ++ drop n here) head in
          let grouped : unit.octets ++ (drop n here ++ coming) ≡ unit.octets ++ octets_of units =
          sym (append_assoc unit.octets (drop n here) coming) ∙ ap (λ (xs : List ℕ). xs ++ coming) (sym split) ∙ same in
          let tail : drop n here ++ coming ≡ octets_of units = append_cancel_left unit.octets (drop n here ++ coming) (octets_of units) grouped in
          one_whole front Spells here coming (drop n here) unit units are.0 split
          (came front Spells stream (drop n here) coming units are.1 (IsOctets-after unit.octets (drop n here) (subst IsOctets split fits)) tail)
    ]

-- The cut gives the messages of the units that came whole, and no fault.
pub came_cut : {M E : Type 0} (front : List ℕ → Front M E) (Spells : List M → List ℕ → Type 0) → IsStream front Spells
    → (here coming : List ℕ) (units : List (Spelled M)) (some : Came front Spells here coming units)
    → cut front here ≡ record { messages = messages_of some.done; rest = some.rest; fault = None }
came_cut front Spells stream here coming units some =
    ap (cut front) some.came
    ∙ past_all front Spells stream.framing 0 some.done some.rest some.done_are
    ∙ ap (with_front (messages_of some.done)) (waits front (0 + length (octets_of some.done)) some.rest some.partial)
    ∙ ap (λ (ms : List _). record { messages = ms; rest = some.rest; fault = None }) (append-nil (messages_of some.done))

-- Where all came, no unit is left.
pub came_all : {M E : Type 0} (front : List ℕ → Front M E) (Spells : List M → List ℕ → Type 0) → IsStream front Spells
    → (rest : List ℕ) (left : List (Spelled M)) → AreUnits Spells left → rest ++ [] ≡ octets_of left → front rest ≡ more → left ≡ []
came_all front Spells stream rest [] are same e = refl
came_all front Spells stream rest (unit ∷ units) are same e =
    let there : front rest ≡ whole (length unit.octets) unit.messages =
    ap front (sym (append-nil rest) ∙ same) ∙ stream.framing.again unit.messages unit.octets (octets_of units) are.0 in
    absurd cc
