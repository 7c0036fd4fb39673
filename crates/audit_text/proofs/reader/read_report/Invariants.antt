use Rattle.std.proofs.Common.{◌+◌, ◌≤◌, length}
use Rattle.std.specs.Str.Lines.{lines}
use Rattle.audit_text.proofs.ReadLemmas.{IsSoFar}
use Rattle.audit_text.proofs.reader.read_report.Given as goal

abbrev pub invariant-lines : goal.invariant-lines
invariant-lines l = record {
  far : IsSoFar l.scenario l.first l.number (lines l.text) (lines l.rest) l.read;
  count : l.number + length l.rest ≤ 16777217;
}

abbrev pub decreases-lines : goal.decreases-lines
decreases-lines l = length l.rest
