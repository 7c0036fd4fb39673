use Rattle.std.proofs.Common.{◌≡◌, ◌+◌, ◌≤◌, length}
use Rattle.std.specs.Str.Lines.{lines}
use Rattle.scenario_lines.specs.scenario_draft.Adding.{empty_draft}
use Rattle.scenario_text.specs.Grammar.{script_from}
use Rattle.scenario_text.proofs.RulesLemmas.{Holds}
use Rattle.scenario_text.proofs.reader.read.Given as goal

abbrev pub invariant-lines : goal.invariant-lines
invariant-lines l = record {
  same : script_from l.draft l.number (lines l.rest) ≡ script_from empty_draft 1 (lines l.text);
  count : l.number + length l.rest ≤ 16777217;
  holds : Holds l.draft l.number;
}

abbrev pub decreases-lines : goal.decreases-lines
decreases-lines l = length l.rest
