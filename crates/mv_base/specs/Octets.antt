-- Octets, and the front of them that is passed.
use Rattle.std.specs.Prelude.{◌≡◌, ℕ, ◌+◌, ◌<◌, List, ◌++◌, length, slice_index}

-- the octets that are left of an input, and where the first of them stands
pub record Cursor : Type 0 where
  pub left : List ℕ
  pub place : ℕ

-- the text stands at the first cursor, and the second is right after it
pub record Passes (c : Cursor) (text : List ℕ) (d : Cursor) : Type 0 where
  pub parts : c.left ≡ text ++ d.left
  pub place : d.place ≡ c.place + length text

-- all are below 256
abbrev pub IsOctets : List ℕ → Type 0
IsOctets octets = (i : ℕ) → slice_index octets i < 256
