-- The checksum of the Internet protocols (RFC 1071 section 1).
use Rattle.std.specs.Prelude.{ℕ, ◌+◌, ◌-◌, ◌*◌, nat_lt, List, [], ◌∷◌, fold, if◌then◌else◌}

-- one's complement addition of 16-bit words: the carry is added to the sum
abbrev pub ones_add : ℕ → ℕ → ℕ
ones_add a b = if nat_lt (a + b) 65536 then a + b else a + b - 65535

-- the 16-bit words of octets; an odd last octet is the high half of a word
abbrev pub words : List ℕ → List ℕ
words [] = []
words (high ∷ []) = (high * 256) ∷ []
words (high ∷ low ∷ more) = (high * 256 + low) ∷ words more

-- the one's complement of the one's complement sum of the words
abbrev pub checksum : List ℕ → ℕ
checksum octets = 65535 - fold ones_add 0 (words octets)
