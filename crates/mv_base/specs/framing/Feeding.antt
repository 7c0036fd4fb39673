-- What the calls of a stream answer and leave. A format tells units by `Spells`; `Faulty` tells the first
-- fault of octets, with the messages that stand before it in the unit at fault.
use Rattle.std.specs.Prelude.{◌≡◌, ℕ, List, [], ◌∷◌, ◌-◌, ◌<◌, ◌≤◌, ◌++◌, ◌⊎◌, length}
use Rattle.std.specs.Prelude.{take, drop, Result, Ok, Err, Option, Some, None, IsSome}
use Rattle.mv_base.specs.Octets.{IsOctets}
use Rattle.mv_base.specs.declared.memory.NoMemory.{NoMemory}
use Rattle.mv_base.specs.framing.Units.{Splits}
use Rattle.mv_base.specs.framing.Cut.{Front, cut, Fails, NoFault, IsNear}
use Rattle.mv_base.specs.framing.Feed.{Fed, fed, further, moved, held_of}
use Rattle.mv_base.specs.declared.framing.cutting.Cutting.{Cutting}
use Rattle.mv_base.specs.declared.framing.fault.FeedFault.{FeedFault}
use Rattle.mv_base.specs.declared.framing.fault.FeedFault.TheVariants as faults

-- the place of the first octet held back
abbrev pub unfinished : {M E : Type 0} → Fed M E → Option ℕ
unfinished d = elim d.held [ [] ↦ None | b ∷ bs ↦ Some d.before ]

-- the piece stands after what was held back
abbrev pub Appends : {X M E : Type 0} → Fed M E → List ℕ → Result X (FeedFault E) → Fed M E → Type 0
Appends old piece (Ok x) new = (old.fault ≡ None) × (new ≡ record old { held = old.held ++ piece })
Appends old piece (Err (faults.First place fault)) new = ⊥
Appends old piece (Err faults.Failed) new = IsSome old.fault × (new ≡ old)
Appends old piece (Err faults.NoMemory) new = (old.fault ≡ None) × (new ≡ old)

-- what was found is taken
abbrev pub accepted : {M E : Type 0} → Fed M E → Cutting M E → Fed M E
accepted old c = record {
  waiting = old.waiting ++ c.messages.items;
  held = held_of c.fault (drop c.len old.held);
  before = further old.before c.len;
  fault = moved old.before c.fault;
}

abbrev pub Accepts : {X M E : Type 0} → Fed M E → ℕ → Result (Cutting M E) NoMemory → Result X (FeedFault E) → Fed M E → Type 0
Accepts old len (Ok c) (Ok x) new = (c.fault ≡ None) × (new ≡ accepted old c)
Accepts old len (Ok c) (Err (faults.First place fault)) new = (moved old.before c.fault ≡ Some (place, fault)) × (new ≡ accepted old c)
Accepts old len found (Err faults.NoMemory) new = new ≡ record old { held = take len old.held }
Accepts old len (Ok c) (Err faults.Failed) new = ⊥
Accepts old len (Err e) (Ok x) new = ⊥
Accepts old len (Err e) (Err faults.Failed) new = ⊥
Accepts old len (Err e) (Err (faults.First place fault)) new = ⊥

-- a piece was taken by what stands at the fronts, and this fault stands then
pub record Takes {M E : Type 0}
    (front : List ℕ → Front M E) (old : Fed M E) (piece : List ℕ) (new : Fed M E) (stop : Option (ℕ × E)) : Type 0 where
  pub octets : IsOctets (old.held ++ piece)
  pub unfailed : old.fault ≡ None
  pub taken : new ≡ fed front old piece
  pub near : IsNear (cut front (old.held ++ piece)).fault (length (old.held ++ piece))
  pub fault : new.fault ≡ stop

-- what a feed answers and leaves, by what stands at the fronts
abbrev pub FeedIs : {X M E : Type 0} → (List ℕ → Front M E) → Fed M E → List ℕ → Result X (FeedFault E) → Fed M E → Type 0
FeedIs front old piece (Ok x) new = Takes front old piece new None
FeedIs front old piece (Err (faults.First place fault)) new = Takes front old piece new (Some (place, fault))
FeedIs front old piece (Err faults.Failed) new = IsSome old.fault × (new ≡ old)
FeedIs front old piece (Err faults.NoMemory) new = (old.fault ≡ None) × (new ≡ old)

-- the first message that waits is taken
abbrev pub NextIs : {M E : Type 0} → Fed M E → Option M → Fed M E → Type 0
NextIs old None new = (old.waiting ≡ []) × (new ≡ old)
NextIs old (Some m) new = (old.waiting ≡ m ∷ new.waiting) × (new ≡ record old { waiting = new.waiting })

-- What was held back, with the piece after it, is the units of the messages added, and then what is held back now:
-- shorter than the limit, it begins no whole unit and has no fault.
pub record Adds {M E : Type 0} (Spells : List M → List ℕ → Type 0) (Faulty : List ℕ → List M → ℕ → E → Type 0)
    (limit : ℕ) (old : Fed M E) (piece : List ℕ) (new : Fed M E) : Type 0 where
  pub unfailed : old.fault ≡ None
  pub added : List M
  pub splits : Splits Spells (old.held ++ piece) added new.held
  pub sound : NoFault Faulty new.held
  pub bound : length new.held < limit
  pub waiting : new.waiting ≡ old.waiting ++ added
  pub before : new.before ≡ further old.before (length (old.held ++ piece) - length new.held)
  pub still : new.fault ≡ None

-- The first fault of the stream stands at the place. The messages added are those before it: of whole units, and after them of
-- the unit at fault.
pub record Stops {M E : Type 0} (Spells : List M → List ℕ → Type 0) (Faulty : List ℕ → List M → ℕ → E → Type 0)
    (old : Fed M E) (piece : List ℕ) (new : Fed M E) (place : ℕ) (fault : E) : Type 0 where
  pub unfailed : old.fault ≡ None
  pub added : List M
  pub offset : ℕ
  pub fails : Fails Spells Faulty (old.held ++ piece) added offset fault
  pub waiting : new.waiting ≡ old.waiting ++ added
  pub near : offset ≤ length (old.held ++ piece)
  pub at : place ≡ further old.before offset
  pub failed : new.fault ≡ Some (place, fault)

-- what a feed answers and leaves, by what is spelled
abbrev pub Feeds : {X M E : Type 0} → (List M → List ℕ → Type 0) → (List ℕ → List M → ℕ → E → Type 0) → ℕ
    → Fed M E → List ℕ → Result X (FeedFault E) → Fed M E → Type 0
Feeds Spells Faulty limit old piece (Ok x) new = Adds Spells Faulty limit old piece new
Feeds Spells Faulty limit old piece (Err (faults.First place fault)) new = Stops Spells Faulty old piece new place fault
Feeds Spells Faulty limit old piece (Err faults.Failed) new = IsSome old.fault × (new ≡ old)
Feeds Spells Faulty limit old piece (Err faults.NoMemory) new = (old.fault ≡ None) × (new ≡ old)

-- the first fault of what was held back and the piece is answered, unless there is no memory
abbrev pub AnswersFirst : {X M E : Type 0} → (List M → List ℕ → Type 0) → (List ℕ → List M → ℕ → E → Type 0)
    → Fed M E → List ℕ → Result X (FeedFault E) → Type 0
AnswersFirst Spells Faulty old piece result =
    (ms : List _) (offset : ℕ) (e : _) → old.fault ≡ None → Fails Spells Faulty (old.held ++ piece) ms offset e
    → (result ≡ Err faults.NoMemory) ⊎ (result ≡ Err (faults.First (further old.before offset) e))
