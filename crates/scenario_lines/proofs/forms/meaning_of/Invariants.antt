use Rattle.std.proofs.Common.{◌≡◌, drop}
use Rattle.scenario_lines.specs.Forms.{meaning_of}
use Rattle.scenario_lines.proofs.forms.meaning_of.Given as goal

-- none of the words so far is the text
abbrev pub invariant-loop-word : goal.invariant-loop-word
invariant-loop-word g l = meaning_of l.text l.words ≡ meaning_of l.text (drop l.word-index l.words)
