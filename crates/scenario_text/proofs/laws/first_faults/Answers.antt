use Rattle.std.proofs.Common.{◌∙◌, sym}
use Rattle.std.specs.Str.Lines.{lines}
use Rattle.scenario_lines.specs.scenario_draft.Adding.{empty_draft}
use Rattle.scenario_text.proofs.FaultsLemmas.{read_text, accepts, first_fault, short_text, long_text}
use Rattle.scenario_text.proofs.laws.first_faults.Goals as goal

pub returns : goal.returns
returns c text = record {
  accepted = read_text text;
  accepts = λ script short says. short_text text short ∙ accepts empty_draft 1 (lines text) script says;
  fault = λ fault short faulty. first_fault empty_draft 1 (lines text) fault (sym (short_text text short) ∙ faulty);
  long = long_text text;
}
