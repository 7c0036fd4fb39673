-- The lines of sessions: what each says, or its first fault.
use Rattle.std.specs.Prelude.{nat_eq, List, ℕ, [], ◌∷◌, Option, None, Some, Result, Ok, if◌then◌else◌, codes}
use Rattle.std.specs.Cmp.Lexicographic.{pointwise}
use Rattle.mv_base.specs.declared.ids.NodeId.{NodeId}
use Rattle.scenario_defs.specs.declared.event.Kind.{Kind}
use Rattle.scenario_defs.specs.declared.event.Kind.TheVariants as kinds
use Rattle.scenario_defs.specs.declared.event.Event.{Event}
use Rattle.scenario_defs.specs.declared.event.Event.TheVariants as events
use Rattle.line_words.specs.declared.fault.Reason.TheVariants as reasons
use Rattle.line_words.specs.declared.fault.TextFault.{TextFault}
use Rattle.line_words.specs.declared.words.Row.{Row}
use Rattle.line_words.specs.Words.{Placed}
use Rattle.line_words.specs.Forms.{fault, ◌>>=◌, or_fault, number_to}
use Rattle.scenario_lines.specs.declared.scenario_draft.line.Line.{Line}
use Rattle.scenario_lines.specs.declared.scenario_draft.line.Line.TheVariants as says
use Rattle.scenario_lines.specs.scenario_draft.Drafted.{Drafted}
use Rattle.scenario_lines.specs.scenario_draft.Naming.{edge_at, node_at}
use Rattle.scenario_text.specs.declared.event_lines.session_lines.SessionWord.{SessionWord}
use Rattle.scenario_text.specs.declared.event_lines.session_lines.SessionWord.TheVariants as session_kinds
use Rattle.scenario_text.specs.declared.event_lines.session_lines.Session.{Session}
use Rattle.scenario_text.specs.event_lines.Rules.{unless_broken, session_fault}

-- the event of a session whose line begins with the text
abbrev pub session_word : List ℕ → Option SessionWord
session_word text =
    if pointwise nat_eq text (codes "lose") then Some session_kinds.Lose else
    if pointwise nat_eq text (codes "notice") then Some session_kinds.Notice else
    if pointwise nat_eq text (codes "raise") then Some session_kinds.Raise else
    None

abbrev pub session_event : SessionWord → Session → Event
session_event session_kinds.Lose named = events.Lose named.kind named.a named.b
session_event session_kinds.Notice named = events.Notice named.kind named.a named.b
session_event session_kinds.Raise named = events.Raise named.kind named.a named.b

-- a word that names a protocol
unfoldable pub kind_at : Row → Placed → Result Kind TextFault
kind_at row word =
    if pointwise nat_eq word.text (codes "bgp") then Ok kinds.Bgp else
    if pointwise nat_eq word.text (codes "ldp") then Ok kinds.Ldp else
    fault row.number word.column reasons.Choice

-- a word that names an end of a session: over BGP an edge, over LDP any node
abbrev pub end_at : Drafted → Row → Kind → Placed → Result NodeId TextFault
end_at draft row kinds.Bgp word = edge_at draft row word
end_at draft row kinds.Ldp word = node_at draft row word

-- `bgp A B` or `ldp A B`
unfoldable pub session_at : Drafted → Row → Placed → Placed → Placed → Result Session TextFault
session_at draft row k a b =
    kind_at row k >>= λ kind. end_at draft row kind a >>= λ from. end_at draft row kind b >>= λ to.
    Ok (record { kind = kind; a = from; b = to })

-- `bgp A B` or `ldp A B`, which are the whole line
unfoldable pub session_words : Drafted → Row → SessionWord → Placed → Placed → Placed → Result Line TextFault
session_words draft row word k a b =
    session_at draft row k a b >>= λ named.
    unless_broken (session_fault draft.scenario.links named.kind named.a named.b) row b (says.Event (session_event word named))

-- the words after `lose`, `notice` or `raise`
unfoldable pub session_line : Drafted → Row → SessionWord → List Placed → Result Line TextFault
session_line draft row word [] = fault row.number row.after reasons.Count
session_line draft row word (k ∷ []) = fault row.number row.after reasons.Count
session_line draft row word (k ∷ a ∷ []) = fault row.number row.after reasons.Count
session_line draft row word (k ∷ a ∷ b ∷ []) = session_words draft row word k a b
session_line draft row word (k ∷ a ∷ b ∷ c ∷ more) = fault row.number c.column reasons.Count

-- `bgp A B N` or `ldp A B N`
unfoldable pub move_words : Drafted → Row → Placed → Placed → Placed → Placed → Result Line TextFault
move_words draft row k a b c =
    session_at draft row k a b >>= λ named. or_fault (number_to 999999999 c.text) row c reasons.Number >>= λ count.
    unless_broken (session_fault draft.scenario.links named.kind named.a named.b) row b
    (says.Event (events.Move named.kind named.a named.b count))

-- the words after `move`
unfoldable pub move_line : Drafted → Row → List Placed → Result Line TextFault
move_line draft row [] = fault row.number row.after reasons.Count
move_line draft row (k ∷ []) = fault row.number row.after reasons.Count
move_line draft row (k ∷ a ∷ []) = fault row.number row.after reasons.Count
move_line draft row (k ∷ a ∷ b ∷ []) = fault row.number row.after reasons.Count
move_line draft row (k ∷ a ∷ b ∷ c ∷ []) = move_words draft row k a b c
move_line draft row (k ∷ a ∷ b ∷ c ∷ d ∷ more) = fault row.number d.column reasons.Count
