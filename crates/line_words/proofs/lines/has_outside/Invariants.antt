use Rattle.std.specs.List.{list_any}
use Rattle.std.proofs.Common.{◌≡◌, take}
use Rattle.line_words.specs.Lines.{is_outside}
use Rattle.line_words.proofs.lines.has_outside.Given as goal

abbrev pub invariant-loop-octet : goal.invariant-loop-octet
invariant-loop-octet l = l.found ≡ list_any is_outside (take l.octet-index l.octets)
