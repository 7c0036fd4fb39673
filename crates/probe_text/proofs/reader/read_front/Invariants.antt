use Rattle.std.proofs.Common.{◌≡◌, ◌+◌, ◌-◌, ◌≤◌, length, take, drop}
use Rattle.std.specs.Str.Lines.{lines}
use Rattle.scenario_lines.specs.scenario_draft.Adding.{empty_draft}
use Rattle.scenario_lines.proofs.scenario_draft.KeptRules.{Kept}
use Rattle.probe_text.specs.Grammar.{declared_from}
use Rattle.probe_text.proofs.reader.read_front.Given as goal

abbrev pub invariant-lines : goal.invariant-lines
invariant-lines l = record {
  same : declared_from l.draft (l.done + 1) (take (l.place - l.done) (lines l.rest)) ≡ declared_from empty_draft 1 (take l.place (lines l.text));
  rows : lines l.rest ≡ drop l.done (lines l.text);
  kept : Kept l.draft;
  within : l.done ≤ l.place;
  count : l.done + length l.rest ≤ length l.text;
}

abbrev pub decreases-lines : goal.decreases-lines
decreases-lines l = l.place - l.done
