-- Cutting octets into units, from left to right.
use Rattle.std.specs.Prelude.{◌≡◌, ℕ, zero, suc, ◌+◌, ◌-◌, ◌≤◌, List, [], ◌∷◌, ◌++◌, length, drop, Option, Some, None, ⊤}
use Rattle.mv_base.specs.framing.Units.{Begins, Splits}

-- What stands at the front: too few octets to tell; a whole unit of so many octets, with its messages; or a unit at fault, with
-- the messages in it that stand before the fault, and the fault at an offset.
pub data Front (M E : Type 0) : Type 0 where
  more : Front M E
  whole : ℕ → List M → Front M E
  bad : List M → ℕ → E → Front M E

-- the messages of the whole units and of the unit at fault after them, the octets after the whole units, and the fault that
-- stands there, with its place
pub record Cut (M E : Type 0) : Type 0 where
  pub messages : List M
  pub rest : List ℕ
  pub fault : Option (ℕ × E)

abbrev pub with_front : {M E : Type 0} → List M → Cut M E → Cut M E
with_front ms c = record { messages = ms ++ c.messages; rest = c.rest; fault = c.fault }

-- the first octet stands at the place, and so many octets are to be passed first
unfoldable pub cut_at : {M E : Type 0} → (List ℕ → Front M E) → ℕ → ℕ → List ℕ → Cut M E
cut_at front place passed [] = record { messages = []; rest = []; fault = None }
cut_at front place (suc passed) (b ∷ bs) = cut_at front (place + 1) passed bs
cut_at front place zero (b ∷ bs) = elim (front (b ∷ bs)) [
  | more ↦ record { messages = []; rest = b ∷ bs; fault = None }
  | whole n ms ↦ with_front ms (cut_at front (place + 1) (n - 1) bs)
  | bad ms offset e ↦ record { messages = ms; rest = b ∷ bs; fault = Some (place + offset, e) }
]

abbrev pub cut : {M E : Type 0} → (List ℕ → Front M E) → List ℕ → Cut M E
cut front octets = cut_at front 0 0 octets

-- Whole units carry the first messages. After them the front fails, and the last messages stand before the fault there.
pub record Fails {M E : Type 0} (Spells : List M → List ℕ → Type 0) (Faulty : List ℕ → List M → ℕ → E → Type 0)
    (stream : List ℕ) (ms : List M) (place : ℕ) (e : E) : Type 0 where
  pub first : List M
  pub last : List M
  pub rest : List ℕ
  pub offset : ℕ
  pub begins : Begins Spells stream first rest
  pub faulty : Faulty rest last offset e
  pub messages : ms ≡ first ++ last
  pub at : place + length rest ≡ length stream + offset

-- no fault stands at the front
abbrev pub NoFault : {M E : Type 0} → (List ℕ → List M → ℕ → E → Type 0) → List ℕ → Type 0
NoFault {M} {E} Faulty rest = (last : List M) (offset : ℕ) (e : E) → ¬ (Faulty rest last offset e)

-- The octets yield these messages: those of whole units, where no fault stands after these; or those before the first fault.
pub data Yields {M E : Type 0} (Spells : List M → List ℕ → Type 0) (Faulty : List ℕ → List M → ℕ → E → Type 0)
    (octets : List ℕ) (ms : List M) : Type 0 where
  sound : (rest : List ℕ) → Splits Spells octets ms rest → NoFault Faulty rest → Yields Spells Faulty octets ms
  faulty : (place : ℕ) (e : E) → Fails Spells Faulty octets ms place e → Yields Spells Faulty octets ms

abbrev pub shifted : {E : Type 0} → ℕ → Option (ℕ × E) → Option (ℕ × E)
shifted by None = None
shifted by (Some f) = Some (by + f.0, f.1)

-- the same cut of a stream that begins so many octets further on
abbrev pub shift : {M E : Type 0} → ℕ → Cut M E → Cut M E
shift by c = record { messages = c.messages; rest = c.rest; fault = shifted by c.fault }

-- a fault stands within so many octets, or right after them
abbrev pub IsNear : {E : Type 0} → Option (ℕ × E) → ℕ → Type 0
IsNear None len = ⊤
IsNear (Some f) len = f.0 ≤ len

-- a loop over the octets found this cut: its messages, where the rest begins, and the fault
pub record IsCutting {M E : Type 0} (octets : List ℕ) (c : Cut M E) (found : List M) (len : ℕ) (stop : Option (ℕ × E)) : Type 0 where
  pub messages : found ≡ c.messages
  pub rest : drop len octets ≡ c.rest
  pub fault : stop ≡ c.fault
  pub within : len ≤ length octets
  pub near : IsNear stop (length octets)
