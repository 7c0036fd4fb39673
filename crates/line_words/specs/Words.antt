-- The words of a line: the parts between spaces that are not empty, each with the column that it begins at.
use Rattle.std.specs.Prelude.{ℕ, ◌+◌, ◌==◌, List, [], ◌∷◌, length, if◌then◌else◌}
use Rattle.std.specs.List.{slice_split}
use Rattle.line_words.specs.declared.words.Word.{Word}

-- some octets, and the column that they begin at
pub record Placed : Type 0 where
  pub column : ℕ
  pub text : List ℕ

-- a word of the code
abbrev pub placed_word : Word → Placed
placed_word w = record { column = w.column; text = w.text.now }

-- the octets from the first one on that is no space
abbrev pub unspaced : List ℕ → List ℕ
unspaced [] = []
unspaced (octet ∷ more) = if octet == 32 then unspaced more else octet ∷ more

-- a part at that column is a word before the others, unless it is empty
abbrev pub with_part : ℕ → List ℕ → List Placed → List Placed
with_part column part words = if length part == 0 then words else record { column = column; text = part } ∷ words

-- of the parts from that column on, those that are not empty
abbrev pub placed : ℕ → List (List ℕ) → List Placed
placed column [] = []
placed column (part ∷ parts) = with_part column part (placed (column + (length part + 1)) parts)

-- the words of octets that begin at that column
abbrev pub words_from : ℕ → List ℕ → List Placed
words_from column octets = placed column (slice_split (λ b. b == 32) octets)

-- the words of a line
unfoldable pub words_of : List ℕ → List Placed
words_of line = words_from 1 line
