-- A line of a text: whether it says anything, and its words; or it is too long, or has an octet outside those of text.
use Rattle.std.specs.Prelude.{ℕ, ◌+◌, ◌==◌, ◌||◌, Bool, true, nat_lt, List, [], ◌∷◌, length, position}
use Rattle.std.specs.Prelude.{None, Some, Result, Ok, if◌then◌else◌}
use Rattle.std.specs.List.{list_all}
use Rattle.line_words.specs.declared.fault.Reason.TheVariants as reasons
use Rattle.line_words.specs.declared.fault.TextFault.{TextFault}
use Rattle.line_words.specs.declared.words.Row.{Row}
use Rattle.line_words.specs.Forms.{fault}
use Rattle.line_words.specs.Words.{Placed, words_of}

-- whether the octet is none from a space to a tilde
abbrev pub is_outside : ℕ → Bool
is_outside b = nat_lt b 32 || nat_lt 126 b

-- whether all octets are spaces
abbrev pub are_spaces : List ℕ → Bool
are_spaces octets = list_all (λ octet. octet == 32) octets

-- whether a line says nothing: a number sign is first, or all its octets are spaces
unfoldable pub is_blank : List ℕ → Bool
is_blank [] = true
is_blank (b ∷ more) = b == 35 || are_spaces (b ∷ more)

-- a line beside its words
abbrev pub row_of : ℕ → List ℕ → Row
row_of number octets = record { number = number; after = length octets + 1 }

-- the words of a line that says something: it has at most 4,096 octets, and none outside
abbrev pub words_within : ℕ → List ℕ → Result (List Placed) TextFault
words_within number octets =
    if nat_lt 4096 (length octets) then fault number 4097 reasons.Line else
    elim (position is_outside octets) [
      | Some place ↦ fault number (place + 1) reasons.Byte
      | None ↦ Ok (words_of octets)
    ]

-- the words of any line; one that says nothing has none, whatever its octets are
unfoldable pub words_in : ℕ → List ℕ → Result (List Placed) TextFault
words_in number octets = if is_blank octets then Ok [] else words_within number octets
