-- The grammar of a text: what each line says, given what the lines before it declared, or its first fault.
use Rattle.std.specs.Prelude.{ℕ, ◌+◌, nat_lt, List, [], ◌∷◌, length, Result, Ok, if◌then◌else◌}
use Rattle.std.specs.Str.Lines.{lines}
use Rattle.scenario_defs.specs.declared.event.Script.{Script}
use Rattle.line_words.specs.declared.fault.Reason.TheVariants as reasons
use Rattle.line_words.specs.declared.fault.TextFault.{TextFault}
use Rattle.line_words.specs.declared.words.Row.{Row}
use Rattle.line_words.specs.Words.{Placed}
use Rattle.line_words.specs.Lines.{row_of, words_in}
use Rattle.line_words.specs.Forms.{fault, ◌>>=◌}
use Rattle.scenario_lines.specs.declared.scenario_draft.line.Line.{Line}
use Rattle.scenario_lines.specs.declared.scenario_draft.line.Line.TheVariants as says
use Rattle.scenario_lines.specs.scenario_draft.Drafted.{Drafted}
use Rattle.scenario_lines.specs.scenario_draft.Adding.{added, empty_draft}
use Rattle.scenario_lines.specs.ScenarioGrammar.{scenario_line}
use Rattle.scenario_text.specs.event_lines.EventGrammar.{event_line}

-- a line by its words, in the scenario and after it
unfoldable pub words_line : Drafted → Row → List Placed → Result Line TextFault
words_line draft row [] = Ok says.Blank
words_line draft row (first ∷ rest) = if draft.begun then event_line draft row first rest else scenario_line draft row first rest

-- what a line says, by its words
unfoldable pub line_of : Drafted → ℕ → List ℕ → Result Line TextFault
line_of draft number octets = words_in number octets >>= λ words. words_line draft (row_of number octets) words

-- the script, where the line of that number is the one after the last
abbrev pub script_at : Drafted → ℕ → Script
script_at draft number = record { scenario = draft.scenario; events = draft.events; end = number }

-- what the lines from that number on say, after what is declared
abbrev pub script_from : Drafted → ℕ → List (List ℕ) → Result Script TextFault
script_from draft number [] = if draft.begun then Ok (script_at draft number) else fault number 1 reasons.Events
script_from draft number (octets ∷ more) = line_of draft number octets >>= λ said. script_from (added draft number said) (number + 1) more

-- what a text says, or its first fault: it has at most 16,777,216 octets
abbrev pub script_of : List ℕ → Result Script TextFault
script_of text = if nat_lt 16777216 (length text) then fault 1 1 reasons.Long else script_from empty_draft 1 (lines text)
