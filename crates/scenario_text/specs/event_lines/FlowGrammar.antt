-- The lines of sources that begin or cease to send: what each says, or its first fault.
use Rattle.std.specs.Prelude.{nat_eq, List, ℕ, [], ◌∷◌, Option, None, Some, Result, if◌then◌else◌, codes}
use Rattle.std.specs.Cmp.Lexicographic.{pointwise}
use Rattle.mv_base.specs.declared.addr.Addr.{Addr}
use Rattle.mv_base.specs.declared.ids.IfaceId.{IfaceId}
use Rattle.scenario_defs.specs.declared.event.Event.{Event}
use Rattle.scenario_defs.specs.declared.event.CustomerEvent.TheVariants as customers
use Rattle.scenario_defs.specs.declared.event.Event.TheVariants as events
use Rattle.line_words.specs.declared.fault.Reason.TheVariants as reasons
use Rattle.line_words.specs.declared.fault.TextFault.{TextFault}
use Rattle.line_words.specs.declared.words.Row.{Row}
use Rattle.line_words.specs.Words.{Placed}
use Rattle.line_words.specs.Forms.{fault, ◌>>=◌, source_at, group_at}
use Rattle.scenario_lines.specs.declared.scenario_draft.line.Line.{Line}
use Rattle.scenario_lines.specs.declared.scenario_draft.line.Line.TheVariants as says
use Rattle.scenario_lines.specs.scenario_draft.Drafted.{Drafted}
use Rattle.scenario_lines.specs.scenario_draft.Naming.{iface_at}
use Rattle.scenario_text.specs.declared.event_lines.flow_lines.FlowWord.{FlowWord}
use Rattle.scenario_text.specs.declared.event_lines.flow_lines.FlowWord.TheVariants as flow_kinds
use Rattle.scenario_text.specs.event_lines.Rules.{unless_broken, family_fault, is_flow_of}

-- the event of a source whose line begins with the text
abbrev pub flow_word : List ℕ → Option FlowWord
flow_word text =
    if pointwise nat_eq text (codes "active") then Some flow_kinds.Active else
    if pointwise nat_eq text (codes "idle") then Some flow_kinds.Idle else
    None

abbrev pub flow_event : FlowWord → IfaceId → Addr → Addr → Event
flow_event flow_kinds.Active iface source group = events.Customer (customers.Active iface source group)
flow_event flow_kinds.Idle iface source group = events.Customer (customers.Idle iface source group)

-- `IFACE S G`
unfoldable pub flow_words : Drafted → Row → FlowWord → Placed → Placed → Placed → Result Line TextFault
flow_words draft row word a b c =
    iface_at draft row a >>= λ iface. source_at row b >>= λ source. group_at row c >>= λ group.
    unless_broken (family_fault (is_flow_of draft iface source group)) row c (says.Event (flow_event word iface source group))

-- the words after `active` or `idle`
unfoldable pub flow_line : Drafted → Row → FlowWord → List Placed → Result Line TextFault
flow_line draft row word [] = fault row.number row.after reasons.Count
flow_line draft row word (a ∷ []) = fault row.number row.after reasons.Count
flow_line draft row word (a ∷ b ∷ []) = fault row.number row.after reasons.Count
flow_line draft row word (a ∷ b ∷ c ∷ []) = flow_words draft row word a b c
flow_line draft row word (a ∷ b ∷ c ∷ d ∷ more) = fault row.number d.column reasons.Count
