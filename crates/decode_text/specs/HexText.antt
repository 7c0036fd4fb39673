-- Octets in hexadecimal text: two digits each, of either case, with white space anywhere between digits.
use Rattle.std.specs.Prelude.{ℕ, ◌+◌, ◌==◌, ◌||◌, Bool, not, nat_lt, List, length, take, Some, None, Result, Ok, Err}
use Rattle.std.specs.Prelude.{if◌then◌else◌, position}
use Rattle.std.specs.List.{filter, count_by, after_last}
use Rattle.hex.specs.Hex.{decode_of, is_hex_digit}
use Rattle.line_words.specs.declared.fault.Reason.{Reason}
use Rattle.line_words.specs.declared.fault.Reason.TheVariants as reasons
use Rattle.line_words.specs.declared.fault.TextFault.{TextFault}

-- a space, a tab, a CR or an LF
abbrev pub is_white : ℕ → Bool
is_white b = b == 32 || b == 9 || b == 13 || b == 10

-- a digit or white space
abbrev pub is_digit_or_white : ℕ → Bool
is_digit_or_white b = is_hex_digit b || is_white b

-- neither a digit nor white space
abbrev pub is_other : ℕ → Bool
is_other b = not (is_digit_or_white b)

-- an LF
abbrev pub is_lf : ℕ → Bool
is_lf b = b == 10

-- the fault after the front of a text: lines and columns count from 1, and a line begins after each LF
abbrev pub fault_after : List ℕ → Reason → TextFault
fault_after front reason = record { line = count_by is_lf front + 1; column = length (after_last is_lf front) + 1; reason = reason }

-- the octets of the digits, or else the fault after the last octet of the text
abbrev pub octets_of_digits : List ℕ → Result (List ℕ) TextFault
octets_of_digits text =
    elim (decode_of (filter is_hex_digit text)) [ Ok octets ↦ Ok octets | Err other ↦ Err (fault_after text reasons.Hex) ]

-- the octets that a text writes, or its first fault: it has at most 16,777,216 octets itself
abbrev pub octets_of : List ℕ → Result (List ℕ) TextFault
octets_of text =
    if nat_lt 16777216 (length text) then Err (record { line = 1; column = 1; reason = reasons.Long }) else
    elim (position is_other text) [ Some place ↦ Err (fault_after (take place text) reasons.Hex) | None ↦ octets_of_digits text ]
