-- What a line of an event keeps to where it is without fault.
use Rattle.std.proofs.Common.{◌<◌, List, [], ◌∷◌, length, nat_le}
use Rattle.std.specs.Prelude.{if◌then◌else◌}
use Rattle.scenario_defs.specs.declared.scenario.Scenario.{Scenario}
use Rattle.scenario_defs.specs.Rules.{IsEventOf}
use Rattle.line_words.specs.declared.fault.Reason.TheVariants as reasons
use Rattle.line_words.specs.declared.words.Row.{Row}
use Rattle.line_words.specs.Words.{Placed}
use Rattle.line_words.specs.Forms.{fault, or_fault}
use Rattle.scenario_lines.specs.declared.scenario_draft.line.Line.{Line}
use Rattle.scenario_lines.specs.scenario_draft.Drafted.{Drafted}
use Rattle.scenario_lines.proofs.scenario_draft.WordFacts.{Meets, ok_meets, err_meets, bind_meets, if_meets, below}
use Rattle.scenario_text.specs.declared.event_lines.words.BareWord.{BareWord}
use Rattle.scenario_text.specs.declared.event_lines.words.BareWord.TheVariants as bare_kinds
use Rattle.scenario_text.specs.declared.event_lines.words.EventWord.{EventWord}
use Rattle.scenario_text.specs.declared.event_lines.words.EventWord.TheVariants as word_kinds
use Rattle.scenario_text.specs.event_lines.EventGrammar.{event_word, bare_event, bare_line, event_words, event_line}
use Rattle.scenario_text.proofs.event_lines.RuleFacts.{IsTold}
use Rattle.scenario_text.proofs.event_lines.NetworkFacts.{tick_line_meets, node_line_meets, session_line_meets, move_line_meets, link_line_meets}
use Rattle.scenario_text.proofs.event_lines.CustomerFacts.{AreShort, entry_line_meets, flow_line_meets, select_line_meets, pim_line_meets, packet_line_meets, send_line_meets}

bare_event_is : (scenario : Scenario) (word : BareWord) → IsEventOf scenario (bare_event word)
bare_event_is scenario bare_kinds.Heal = tt
bare_event_is scenario bare_kinds.Settle = tt
bare_event_is scenario bare_kinds.Drain = tt
bare_event_is scenario bare_kinds.State = tt

bare_line_meets : (draft : Drafted) (row : Row) (word : BareWord) (words : List Placed) → Meets (IsTold draft) (bare_line row word words)
unfolding bare_line
bare_line_meets draft row word [] = ok_meets _ _ (bare_event_is draft.scenario word)
bare_line_meets draft row word (a ∷ more) = err_meets _ _

event_words_meets : (draft : Drafted) (row : Row) (kind : EventWord) (rest : List Placed) → AreShort rest
    → Meets (IsTold draft) (event_words draft row kind rest)
unfolding event_words
event_words_meets draft row word_kinds.Tick rest h = tick_line_meets draft row rest
event_words_meets draft row word_kinds.Move rest h = move_line_meets draft row rest
event_words_meets draft row word_kinds.Pim rest h = pim_line_meets draft row rest h
event_words_meets draft row word_kinds.Packet rest h = packet_line_meets draft row rest h
event_words_meets draft row word_kinds.Send rest h = send_line_meets draft row rest h
event_words_meets draft row (word_kinds.Node word) rest h = node_line_meets draft row word rest
event_words_meets draft row (word_kinds.Session word) rest h = session_line_meets draft row word rest
event_words_meets draft row (word_kinds.Link word) rest h = link_line_meets draft row word rest
event_words_meets draft row (word_kinds.Entry word) rest h = entry_line_meets draft row word rest
event_words_meets draft row (word_kinds.Flow word) rest h = flow_line_meets draft row word rest
event_words_meets draft row (word_kinds.Select word) rest h = select_line_meets draft row word rest
event_words_meets draft row (word_kinds.Bare word) rest h = bare_line_meets draft row word rest

-- What a line of an event keeps to, with their number.
abbrev pub IsToldBelow : Drafted → Line → Type 0
IsToldBelow draft said = (length draft.events < 200000) × IsTold draft said

-- a line where there is room for one more event
limited_meets : (draft : Drafted) (row : Row) (first : Placed) (rest : List Placed) (kind : EventWord) → AreShort rest
    → Meets (IsToldBelow draft) (if nat_le 200000 (length draft.events) then fault row.number first.column reasons.Limit else event_words draft row
    kind rest)
limited_meets draft row first rest kind h =
    if_meets _ _ _ _ (λ few. record {
      holds = λ said e.
          (below 200000 (length draft.events) few, (event_words_meets draft row kind rest h).holds said e);
    })

pub event_line_meets : (draft : Drafted) (row : Row) (first : Placed) (rest : List Placed) → AreShort rest
    → Meets (IsToldBelow draft) (event_line draft row first rest)
unfolding event_line
event_line_meets draft row first rest h =
    bind_meets _ (or_fault (event_word first.text) row first reasons.Word) _ (λ kind _. limited_meets draft row first rest kind h)
