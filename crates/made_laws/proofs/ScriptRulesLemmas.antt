-- The script of each number meets the rules of scripts, as whatever is read does.
use Rattle.std.proofs.Common.{◌≡◌, ℕ, ◌+◌, Bool, true, false, cond, List, [], ◌∷◌, length, nat_lt, refl, subst}
use Rattle.std.specs.Prelude.{Result, Ok, Err}
use Rattle.std.specs.Str.Lines.{lines}
use Rattle.scenario_defs.specs.Rules.{ScriptRules}
use Rattle.scenario_defs.specs.declared.event.Script.{Script}
use Rattle.line_words.specs.declared.fault.Reason.TheVariants as reasons
use Rattle.line_words.specs.declared.fault.TextFault.{TextFault}
use Rattle.line_words.specs.Forms.{fault, ◌>>=◌}
use Rattle.scenario_lines.specs.declared.scenario_draft.line.Line.{Line}
use Rattle.scenario_lines.specs.scenario_draft.Drafted.{Drafted}
use Rattle.scenario_lines.specs.scenario_draft.Adding.{added, empty_draft}
use Rattle.scenario_text.specs.Grammar.{line_of, script_at, script_from, script_of}
use Rattle.scenario_text.proofs.RulesLemmas.{Holds, empty_holds, line_holds, script_rules}
use Rattle.generator.specs.Made.{made}
use Rattle.made_laws.specs.MadeScript.{made_script}
use Rattle.made_laws.proofs.Whole.{made_read}

abbrev said : Script → Result Script TextFault
said script = Ok script

one_said : (x y : Script) → said x ≡ said y → x ≡ y
one_said x y e = cc

-- at the end of a text
end_rules : (draft : Drafted) (number : ℕ) (script : Script) → Holds draft number → (begun : Bool) → draft.begun ≡ begun
    → cond begun (said (script_at draft number)) (fault number 1 reasons.Events) ≡ said script → ScriptRules script
end_rules draft number script holds true begun e =
    subst ScriptRules (one_said (script_at draft number) script e) (script_rules draft number holds begun)
end_rules draft number script holds false begun e = absurd cc

-- what lines say, after what is declared
lines_rules : (draft : Drafted) (number : ℕ) (rows : List (List ℕ)) (script : Script) → Holds draft number
    → script_from draft number rows ≡ said script → ScriptRules script
lines_rules draft number [] script holds e = end_rules draft number script holds draft.begun refl e
lines_rules draft number (octets ∷ more) script holds e =
    by (line_of draft number octets) refl (λ line is rest. lines_rules (added draft number line) (number + 1) more script
    (line_holds draft number octets line holds is) rest) e
  where
    by : (r : Result Line TextFault) → line_of draft number octets ≡ r
        → ((line : Line) → line_of draft number octets ≡ Ok line → script_from (added draft number line) (number + 1) more ≡ said script
        → ScriptRules script)
        → (r >>= λ line. script_from (added draft number line) (number + 1) more) ≡ said script → ScriptRules script
    by (Ok line) is next rest = next line is rest
    by (Err first) is next rest = absurd cc

-- what a text says
text_rules : (text : List ℕ) (script : Script) → script_of text ≡ said script → ScriptRules script
text_rules text script e = by (nat_lt 16777216 (length text)) e
  where
    by : (long : Bool) → cond long (fault 1 1 reasons.Long) (script_from empty_draft 1 (lines text)) ≡ said script → ScriptRules script
    by true e = absurd cc
    by false e = lines_rules empty_draft 1 (lines text) script empty_holds e

pub made_rules : (number : ℕ) → ScriptRules (made_script number)
made_rules number = text_rules (made number) (made_script number) (made_read number)
