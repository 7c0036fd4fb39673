-- A set of numbers as the bits of words.
use Rattle.std.specs.Prelude.{◌≡◌, ℕ, ◌<◌, ◌≤◌, ◌*◌, ◌/◌, ◌%◌, ◌^◌, Bool, true, false, not, nat_eq, List, length, slice_index, slice_set}
use Rattle.std.specs.Int.{bit_at, bit_not, w64}
use Rattle.std.specs.Int.Bits.{bit_or, bit_and}

-- whether the number is in the set
abbrev pub is_marked : List ℕ → ℕ → Bool
is_marked words number = nat_eq (bit_at (slice_index words (number / 64)) (number % 64)) 1

-- the number comes to the set
abbrev pub marked : List ℕ → ℕ → List ℕ
marked words number = slice_set words (number / 64) (bit_or (slice_index words (number / 64)) (1 * 2 ^ (number % 64) % 2 ^ 64))

-- the number leaves it
abbrev pub unmarked : List ℕ → ℕ → List ℕ
unmarked words number =
    slice_set words (number / 64)
    (bit_and (slice_index words (number / 64)) (bit_not w64 (1 * 2 ^ (number % 64) % 2 ^ 64)))

-- whether the word has a mark
abbrev pub is_used : List ℕ → ℕ → Bool
is_used words word = not (nat_eq (slice_index words word) 0)

-- the word has a mark, and no lower one has
pub record IsFirstWord (words : List ℕ) (word : ℕ) : Type 0 where
  pub within : word < length words
  pub here : is_used words word ≡ true
  pub below : (lower : ℕ) → lower < word → is_used words lower ≡ false

abbrev pub NoWord : List ℕ → Type 0
NoWord words = (word : ℕ) → is_used words word ≡ false

-- the number is in the set, and no lower one is
pub record IsFirstMark (words : List ℕ) (number : ℕ) : Type 0 where
  pub here : is_marked words number ≡ true
  pub below : (lower : ℕ) → lower < number → is_marked words lower ≡ false

abbrev pub NoMark : List ℕ → Type 0
NoMark words = (number : ℕ) → is_marked words number ≡ false

-- the second words mark the first ones that have a mark, and there are few of both
pub record AreUsed (words used : List ℕ) : Type 0 where
  pub few : length words ≤ 1024
  pub long : length words ≤ 64 * length used
  pub short : length used ≤ 1024
  pub same : (word : ℕ) → is_marked used word ≡ is_used words word
