use Rattle.std.proofs.Common.{◌≡◌, ◌+◌, ◌<◌, ◌≤◌, length}
use Rattle.std.specs.Str.Lines.{lines}
use Rattle.ingress_text.specs.Drafted.{nothing}
use Rattle.ingress_text.specs.Grammar.{input_from}
use Rattle.ingress_text.proofs.reader.read.Given as goal

-- the other lines are still to be read
abbrev pub invariant-lines : goal.invariant-lines
invariant-lines l = record {
  same : input_from l.draft l.number (lines l.rest) ≡ input_from nothing 1 (lines l.text);
  some : 0 < l.number;
  count : l.number + length l.rest ≤ 16777217;
}

abbrev pub decreases-lines : goal.decreases-lines
decreases-lines l = length l.rest
