use Rattle.std.proofs.Common.{◌≡◌, bit_xor, fold, take}
use Rattle.umh_select.proofs.edges.folded.Given as goal

abbrev pub invariant-loop-octet : goal.invariant-loop-octet
invariant-loop-octet l = l.hash ≡ fold bit_xor l.hash-2 (take l.octet-index l.octets)
