-- The lines of links and of the copies on them: what each says, or its first fault.
use Rattle.std.specs.Prelude.{nat_eq, List, ℕ, [], ◌∷◌, Option, None, Some, Result, if◌then◌else◌, codes}
use Rattle.std.specs.Cmp.Lexicographic.{pointwise}
use Rattle.mv_base.specs.declared.ids.NodeId.{NodeId}
use Rattle.scenario_defs.specs.declared.event.Event.{Event}
use Rattle.scenario_defs.specs.declared.event.Event.TheVariants as events
use Rattle.line_words.specs.declared.fault.Reason.TheVariants as reasons
use Rattle.line_words.specs.declared.fault.TextFault.{TextFault}
use Rattle.line_words.specs.declared.words.Row.{Row}
use Rattle.line_words.specs.Words.{Placed}
use Rattle.line_words.specs.Forms.{fault, ◌>>=◌, or_fault, number_to}
use Rattle.scenario_lines.specs.declared.scenario_draft.line.Line.{Line}
use Rattle.scenario_lines.specs.declared.scenario_draft.line.Line.TheVariants as says
use Rattle.scenario_lines.specs.scenario_draft.Drafted.{Drafted}
use Rattle.scenario_lines.specs.scenario_draft.Naming.{node_at}
use Rattle.scenario_text.specs.declared.event_lines.link_lines.LinkWord.{LinkWord}
use Rattle.scenario_text.specs.declared.event_lines.link_lines.LinkWord.TheVariants as link_kinds
use Rattle.scenario_text.specs.event_lines.Rules.{unless_broken, link_fault}

-- the event of a link whose line begins with the text
abbrev pub link_word : List ℕ → Option LinkWord
link_word text =
    if pointwise nat_eq text (codes "hop") then Some link_kinds.Hop else
    if pointwise nat_eq text (codes "drop") then Some link_kinds.Drop else
    if pointwise nat_eq text (codes "cost") then Some link_kinds.Cost else
    None

-- the highest number of its line: of a place on the link, or of a cost
abbrev pub highest : LinkWord → ℕ
highest link_kinds.Hop = 999999999
highest link_kinds.Drop = 999999999
highest link_kinds.Cost = 65535

abbrev pub link_event : LinkWord → NodeId → NodeId → ℕ → Event
link_event link_kinds.Hop from to number = events.Hop from to number
link_event link_kinds.Drop from to number = events.DropCopy from to number
link_event link_kinds.Cost from to number = events.Cost from to number

-- `A B N`
unfoldable pub link_words : Drafted → Row → LinkWord → Placed → Placed → Placed → Result Line TextFault
link_words draft row word a b c =
    node_at draft row a >>= λ from. node_at draft row b >>= λ to.
    or_fault (number_to (highest word) c.text) row c reasons.Number >>= λ number.
    unless_broken (link_fault draft.scenario.links from to) row b (says.Event (link_event word from to number))

-- the words after `hop`, `drop` or `cost`
unfoldable pub link_line : Drafted → Row → LinkWord → List Placed → Result Line TextFault
link_line draft row word [] = fault row.number row.after reasons.Count
link_line draft row word (a ∷ []) = fault row.number row.after reasons.Count
link_line draft row word (a ∷ b ∷ []) = fault row.number row.after reasons.Count
link_line draft row word (a ∷ b ∷ c ∷ []) = link_words draft row word a b c
link_line draft row word (a ∷ b ∷ c ∷ d ∷ more) = fault row.number d.column reasons.Count
