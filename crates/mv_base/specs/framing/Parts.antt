-- Parts of a whole that stand end to end, each read knowing those before it.
use Rattle.std.specs.Prelude.{◌≡◌, ℕ, zero, suc, ◌+◌, ◌-◌, ◌<◌, List, [], ◌∷◌, ◌++◌, length, Result, Ok, Err}

-- The parts stand at the front of the octets, end to end, and the rest after them: `Spells` tells the octets of each,
-- and each fits after those before it.
abbrev pub ArePartsAfter : {M : Type 0} → (M → List ℕ → Type 0) → (List M → M → Type 0) → List M → List ℕ → List M → List ℕ → Type 0
ArePartsAfter Spells Fits before octets [] rest = octets ≡ rest
ArePartsAfter Spells Fits before octets (m ∷ ms) rest =
    (text after : List ℕ) × Spells m text × Fits before m × (octets ≡ text ++ after)
    × ArePartsAfter Spells Fits (before ++ m ∷ []) after ms rest

-- the parts, of which the first stands at the start
abbrev pub AreParts : {M : Type 0} → (M → List ℕ → Type 0) → (List M → M → Type 0) → List ℕ → List M → List ℕ → Type 0
AreParts Spells Fits octets ms rest = ArePartsAfter Spells Fits [] octets ms rest

-- Whole parts stand first, octets follow, and there the next part has a fault.
pub record PartFails {M E : Type 0}
    (Spells : M → List ℕ → Type 0) (Fits : List M → M → Type 0) (Faulty : List M → List ℕ → ℕ → E → Type 0)
    (octets : List ℕ) (place : ℕ) (e : E) : Type 0 where
  pub parts : List M
  pub rest : List ℕ
  pub offset : ℕ
  pub stand : AreParts Spells Fits octets parts rest
  pub follow : 0 < length rest
  pub at : place + length rest ≡ length octets + offset
  pub faulty : Faulty parts rest offset e

-- The parts from left to right, or the first fault with its place. `read` knows the parts before; the first octet stands
-- at the place, and so many octets are to be passed before a part begins.
unfoldable pub parts_at : {M E : Type 0} → (List M → List ℕ → Result (M × ℕ) (ℕ × E)) → List M → ℕ → ℕ → List ℕ → Result (List M) (ℕ × E)
parts_at read before place passed [] = Ok before
parts_at read before place (suc passed) (b ∷ bs) = parts_at read before (place + 1) passed bs
parts_at read before place zero (b ∷ bs) = elim (read before (b ∷ bs)) [
  | Ok x ↦ parts_at read (before ++ x.0 ∷ []) (place + 1) (x.1 - 1) bs
  | Err f ↦ Err (place + f.0, f.1)
]

-- the parts of octets
abbrev pub parts_of : {M E : Type 0} → (List M → List ℕ → Result (M × ℕ) (ℕ × E)) → List ℕ → Result (List M) (ℕ × E)
parts_of read octets = parts_at read [] 0 0 octets
