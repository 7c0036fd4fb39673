use Rattle.std.proofs.Common.{◌≡◌, ◌+◌, ◌≤◌, length, position}
use Rattle.std.specs.Prelude.{option_map}
use Rattle.std.specs.Str.Lines.{lines}
use Rattle.probe_text.specs.Grammar.{is_probe_line}
use Rattle.probe_text.proofs.mark.probe_place.Given as goal

abbrev pub invariant-lines : goal.invariant-lines
invariant-lines l = record {
  same : position is_probe_line (lines l.text) ≡ option_map (λ more. l.place + more) (position is_probe_line (lines l.rest));
  all : l.place + length (lines l.rest) ≡ length (lines l.text);
  count : l.place + length l.rest ≤ length l.text;
}

abbrev pub decreases-lines : goal.decreases-lines
decreases-lines l = length l.rest
