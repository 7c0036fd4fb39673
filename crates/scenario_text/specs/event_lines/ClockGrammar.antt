-- The lines of the clock and of a node: what each says, or its first fault.
use Rattle.std.specs.Prelude.{nat_eq, List, ℕ, [], ◌∷◌, Option, None, Some, Result, Ok, if◌then◌else◌, codes}
use Rattle.std.specs.Cmp.Lexicographic.{pointwise}
use Rattle.mv_base.specs.declared.ids.NodeId.{NodeId}
use Rattle.scenario_defs.specs.declared.event.Event.{Event}
use Rattle.scenario_defs.specs.declared.event.Event.TheVariants as events
use Rattle.line_words.specs.declared.fault.Reason.TheVariants as reasons
use Rattle.line_words.specs.declared.fault.TextFault.{TextFault}
use Rattle.line_words.specs.declared.words.Row.{Row}
use Rattle.line_words.specs.Words.{Placed}
use Rattle.line_words.specs.Forms.{fault, ◌>>=◌, or_fault, number_to}
use Rattle.scenario_lines.specs.declared.scenario_draft.line.Line.{Line}
use Rattle.scenario_lines.specs.declared.scenario_draft.line.Line.TheVariants as says
use Rattle.scenario_lines.specs.scenario_draft.Drafted.{Drafted}
use Rattle.scenario_lines.specs.scenario_draft.Naming.{node_at}
use Rattle.scenario_text.specs.declared.event_lines.clock_lines.NodeWord.{NodeWord}
use Rattle.scenario_text.specs.declared.event_lines.clock_lines.NodeWord.TheVariants as node_kinds

-- `tick N`
unfoldable pub tick_words : Row → Placed → Result Line TextFault
tick_words row a = or_fault (number_to 1000000 a.text) row a reasons.Number >>= λ count. Ok (says.Event (events.Tick count))

-- the words after `tick`
unfoldable pub tick_line : Row → List Placed → Result Line TextFault
tick_line row [] = fault row.number row.after reasons.Count
tick_line row (a ∷ []) = tick_words row a
tick_line row (a ∷ b ∷ more) = fault row.number b.column reasons.Count

-- the event of a node whose line begins with the text
abbrev pub node_word : List ℕ → Option NodeWord
node_word text =
    if pointwise nat_eq text (codes "timers") then Some node_kinds.Timers else
    if pointwise nat_eq text (codes "restart") then Some node_kinds.Restart else
    None

abbrev pub node_event : NodeWord → NodeId → Event
node_event node_kinds.Timers node = events.Timers node
node_event node_kinds.Restart node = events.Restart node

-- `NODE`
unfoldable pub node_words : Drafted → Row → NodeWord → Placed → Result Line TextFault
node_words draft row word a = node_at draft row a >>= λ node. Ok (says.Event (node_event word node))

-- the words after `timers` or `restart`
unfoldable pub node_line : Drafted → Row → NodeWord → List Placed → Result Line TextFault
node_line draft row word [] = fault row.number row.after reasons.Count
node_line draft row word (a ∷ []) = node_words draft row word a
node_line draft row word (a ∷ b ∷ more) = fault row.number b.column reasons.Count
