use Rattle.std.proofs.Common.{◌≡◌, ◌+◌, ◌<◌, ◌≤◌, [], length}
use Rattle.std.specs.Str.Lines.{lines}
use Rattle.probe_defs.specs.Lines.{joins_of}
use Rattle.probe_text.specs.Grammar.{given_from}
use Rattle.probe_text.proofs.reader.read_lines.Given as goal

abbrev pub invariant-lines : goal.invariant-lines
invariant-lines l = record {
  same : given_from l.draft l.edge l.given l.number (lines l.rest) ≡ given_from l.draft l.edge [] l.first (lines l.text);
  joins : l.joins ≡ length (joins_of l.given);
  fewer : l.joins < l.number;
  count : l.number + length l.rest ≤ 16777217;
}

abbrev pub decreases-lines : goal.decreases-lines
decreases-lines l = length l.rest
