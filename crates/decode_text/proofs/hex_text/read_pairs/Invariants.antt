use Rattle.std.proofs.Common.{take}
use Rattle.decode_text.specs.HexReading.{ReadsFront}
use Rattle.decode_text.proofs.hex_text.read_pairs.Given as goal

abbrev pub invariant-loop-place : goal.invariant-loop-place
invariant-loop-place l = ReadsFront (take l.place l.text) l.octets l.high
