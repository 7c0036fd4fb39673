-- Octets that an enclosing length bounds.
use Rattle.std.specs.Prelude.{◌≡◌, ℕ, ◌+◌, List, ◌++◌, length}

-- the octets that are left of an input, where the first of them stands, and how many of them the length leaves
pub record Bounded : Type 0 where
  pub left : List ℕ
  pub place : ℕ
  pub within : ℕ

-- the text stands at the first, within its length, and the second is right after it
pub record Passes (b : Bounded) (text : List ℕ) (d : Bounded) : Type 0 where
  pub parts : b.left ≡ text ++ d.left
  pub place : d.place ≡ b.place + length text
  pub within : b.within ≡ length text + d.within

-- the same octets, of which a length leaves so many
abbrev pub bounded : ℕ → Bounded → Bounded
bounded n b = record { left = b.left; place = b.place; within = n }
