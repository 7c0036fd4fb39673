-- The lines of events: what each says, or its first fault.
use Rattle.std.specs.Prelude.{ℕ, nat_eq, nat_le, List, [], ◌∷◌, length, Option, None, Some, option_map, Result, Ok, if◌then◌else◌, codes}
use Rattle.std.specs.Option.{option_or}
use Rattle.std.specs.Cmp.Lexicographic.{pointwise}
use Rattle.scenario_defs.specs.declared.event.Event.{Event}
use Rattle.scenario_defs.specs.declared.event.Event.TheVariants as events
use Rattle.line_words.specs.declared.fault.Reason.TheVariants as reasons
use Rattle.line_words.specs.declared.fault.TextFault.{TextFault}
use Rattle.line_words.specs.declared.words.Row.{Row}
use Rattle.line_words.specs.Words.{Placed}
use Rattle.line_words.specs.Forms.{fault, ◌>>=◌, or_fault}
use Rattle.scenario_lines.specs.declared.scenario_draft.line.Line.{Line}
use Rattle.scenario_lines.specs.declared.scenario_draft.line.Line.TheVariants as says
use Rattle.scenario_lines.specs.scenario_draft.Drafted.{Drafted}
use Rattle.scenario_text.specs.declared.event_lines.words.EventWord.{EventWord}
use Rattle.scenario_text.specs.declared.event_lines.words.EventWord.TheVariants as word_kinds
use Rattle.scenario_text.specs.declared.event_lines.words.BareWord.{BareWord}
use Rattle.scenario_text.specs.declared.event_lines.words.BareWord.TheVariants as bare_kinds
use Rattle.scenario_text.specs.event_lines.ClockGrammar.{tick_line, node_word, node_line}
use Rattle.scenario_text.specs.event_lines.SessionGrammar.{session_word, session_line, move_line}
use Rattle.scenario_text.specs.event_lines.LinkGrammar.{link_word, link_line}
use Rattle.scenario_text.specs.event_lines.JoinGrammar.{entry_word, entry_line}
use Rattle.scenario_text.specs.event_lines.FlowGrammar.{flow_word, flow_line}
use Rattle.scenario_text.specs.event_lines.SelectGrammar.{select_word, select_line}
use Rattle.scenario_text.specs.event_lines.PayloadGrammar.{pim_line, packet_line, send_line}

-- the event whose line is this word alone
abbrev pub bare_word : List ℕ → Option BareWord
bare_word text =
    if pointwise nat_eq text (codes "heal") then Some bare_kinds.Heal else
    if pointwise nat_eq text (codes "settle") then Some bare_kinds.Settle else
    if pointwise nat_eq text (codes "drain") then Some bare_kinds.Drain else
    if pointwise nat_eq text (codes "state") then Some bare_kinds.State else
    None

abbrev pub bare_event : BareWord → Event
bare_event bare_kinds.Heal = events.Heal
bare_event bare_kinds.Settle = events.Settle
bare_event bare_kinds.Drain = events.Drain
bare_event bare_kinds.State = events.State

-- the words of lines that no other line is like
abbrev pub single_word : List ℕ → Option EventWord
single_word text =
    if pointwise nat_eq text (codes "tick") then Some word_kinds.Tick else
    if pointwise nat_eq text (codes "move") then Some word_kinds.Move else
    if pointwise nat_eq text (codes "pim") then Some word_kinds.Pim else
    if pointwise nat_eq text (codes "packet") then Some word_kinds.Packet else
    if pointwise nat_eq text (codes "send") then Some word_kinds.Send else
    None

-- those of nodes, sessions and links
abbrev pub network_word : List ℕ → Option EventWord
network_word text =
    option_or (option_map (λ word. word_kinds.Node word) (node_word text)) (
    option_or (option_map (λ word. word_kinds.Session word) (session_word text)) (
    option_map (λ word. word_kinds.Link word) (link_word text)))

-- those of VRFs and their interfaces
abbrev pub vrf_word : List ℕ → Option EventWord
vrf_word text =
    option_or (option_map (λ word. word_kinds.Entry word) (entry_word text)) (
    option_or (option_map (λ word. word_kinds.Flow word) (flow_word text)) (
    option_map (λ word. word_kinds.Select word) (select_word text)))

-- what a first word begins
unfoldable pub event_word : List ℕ → Option EventWord
event_word text =
    option_or (single_word text) (
    option_or (network_word text) (
    option_or (vrf_word text) (
    option_map (λ word. word_kinds.Bare word) (bare_word text))))

-- a line of one word
unfoldable pub bare_line : Row → BareWord → List Placed → Result Line TextFault
bare_line row word [] = Ok (says.Event (bare_event word))
bare_line row word (a ∷ more) = fault row.number a.column reasons.Count

-- a line by what its first word begins
unfoldable pub event_words : Drafted → Row → EventWord → List Placed → Result Line TextFault
event_words draft row word_kinds.Tick rest = tick_line row rest
event_words draft row word_kinds.Move rest = move_line draft row rest
event_words draft row word_kinds.Pim rest = pim_line draft row rest
event_words draft row word_kinds.Packet rest = packet_line draft row rest
event_words draft row word_kinds.Send rest = send_line draft row rest
event_words draft row (word_kinds.Node word) rest = node_line draft row word rest
event_words draft row (word_kinds.Session word) rest = session_line draft row word rest
event_words draft row (word_kinds.Link word) rest = link_line draft row word rest
event_words draft row (word_kinds.Entry word) rest = entry_line draft row word rest
event_words draft row (word_kinds.Flow word) rest = flow_line draft row word rest
event_words draft row (word_kinds.Select word) rest = select_line draft row word rest
event_words draft row (word_kinds.Bare word) rest = bare_line row word rest

-- a line of an event, of which there are at most 200,000
unfoldable pub event_line : Drafted → Row → Placed → List Placed → Result Line TextFault
event_line draft row first rest =
    or_fault (event_word first.text) row first reasons.Word >>= λ kind.
    if nat_le 200000 (length draft.events) then fault row.number first.column reasons.Limit else event_words draft row kind rest
