-- A stream that is fed in pieces.
use Rattle.std.specs.Prelude.{ℕ, ◌+◌, ◌-◌, ◌^◌, List, [], ◌∷◌, ◌++◌, length, min, Option, Some, None}
use Rattle.mv_base.specs.framing.Cut.{Front, Cut, cut}

-- so many octets further on, where a place past the greatest number is that number
abbrev pub further : ℕ → ℕ → ℕ
further place n = min (place + n) (2 ^ 64 - 1)

-- the messages that wait, the octets held back, how many octets came before these, and the first fault
pub record Fed (M E : Type 0) : Type 0 where
  pub waiting : List M
  pub held : List ℕ
  pub before : ℕ
  pub fault : Option (ℕ × E)

abbrev pub moved : {E : Type 0} → ℕ → Option (ℕ × E) → Option (ℕ × E)
moved before None = None
moved before (Some f) = Some (further before f.0, f.1)

-- nothing is held back after a fault
abbrev pub held_of : {E : Type 0} → Option (ℕ × E) → List ℕ → List ℕ
held_of None rest = rest
held_of (Some f) rest = []

-- after what is cut stands a piece
abbrev pub fed_by : {M E : Type 0} → Fed M E → ℕ → Cut M E → Fed M E
fed_by d len c = record {
  waiting = d.waiting ++ c.messages;
  held = held_of c.fault c.rest;
  before = further d.before (len - length c.rest);
  fault = moved d.before c.fault;
}

abbrev pub fed_unless : {M E : Type 0} → (List ℕ → Front M E) → Option (ℕ × E) → Fed M E → List ℕ → Fed M E
fed_unless front None d piece = fed_by d (length (d.held ++ piece)) (cut front (d.held ++ piece))
fed_unless front (Some f) d piece = d

abbrev pub fed : {M E : Type 0} → (List ℕ → Front M E) → Fed M E → List ℕ → Fed M E
fed front d piece = fed_unless front d.fault d piece

abbrev pub fed_all : {M E : Type 0} → (List ℕ → Front M E) → Fed M E → List (List ℕ) → Fed M E
fed_all front d [] = d
fed_all front d (piece ∷ pieces) = fed_all front (fed front d piece) pieces

abbrev pub unfed : {M E : Type 0} → Fed M E
unfed = record { waiting = []; held = []; before = 0; fault = None }
