-- What a text in hexadecimal writes, and its first fault, with no order of reading.
use Rattle.std.specs.Prelude.{◌≡◌, ◌%◌, ℕ, ◌<◌, ◌≤◌, false, List, ◌∷◌, ◌++◌, length}
use Rattle.std.specs.List.{AllPass, filter, count_by}
use Rattle.std.specs.Str.{str_to_ascii_lowercase}
use Rattle.hex.specs.Hex.{encode_lower, is_hex_digit}
use Rattle.mv_base.specs.Octets.{IsOctets}
use Rattle.line_words.specs.declared.fault.Reason.TheVariants as reasons
use Rattle.line_words.specs.declared.fault.TextFault.{TextFault}
use Rattle.decode_text.specs.HexText.{is_digit_or_white, fault_after}

-- The text is not too long, has digits and white space alone, and an even number of digits.
pub record IsHexText (text : List ℕ) : Type 0 where
  pub short : length text ≤ 16777216
  pub clean : AllPass is_digit_or_white text
  pub even : count_by is_hex_digit text % 2 ≡ 0

-- The text writes the octets: its digits, in lower case, are the two digits of each octet, end to end.
pub record Writes (text octets : List ℕ) : Type 0 where
  pub is : IsHexText text
  pub fits : IsOctets octets
  pub digits : str_to_ascii_lowercase (filter is_hex_digit text) ≡ encode_lower octets

-- The first fault: the text is too long; or else an octet that is neither a digit nor white space stands after ones
-- that are; or else the number of digits is odd, which shows at the end.
pub data FirstFault (text : List ℕ) (fault : TextFault) : Type 0 where
  long : 16777216 < length text → fault ≡ record { line = 1; column = 1; reason = reasons.Long } → FirstFault text fault
  other :
      (front : List ℕ) (b : ℕ) (rest : List ℕ) →
      length text ≤ 16777216 →
      text ≡ front ++ (b ∷ rest) →
      AllPass is_digit_or_white front →
      is_digit_or_white b ≡ false →
      fault ≡ fault_after front reasons.Hex →
      FirstFault text fault
  odd :
      length text ≤ 16777216 →
      AllPass is_digit_or_white text →
      count_by is_hex_digit text % 2 ≡ 1 →
      fault ≡ fault_after text reasons.Hex →
      FirstFault text fault
