use Rattle.std.proofs.Common.{◌≡◌, ℕ, ◌<◌, None, length, get_or}
use Rattle.hex.specs.Hex.{hex_digit_value}
use Rattle.decode_text.proofs.hex_text.digit_values.Given as goal

-- the values of the octets so far stand
abbrev pub invariant-loop-b : goal.invariant-loop-b
invariant-loop-b l = (length l.values ≡ 256) × ((k : ℕ) → k < l.b → get_or l.values k None ≡ hex_digit_value k)
