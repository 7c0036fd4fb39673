-- The rules that look at several words of an event: why they do not go together, and the fault that it is.
use Rattle.std.specs.Prelude.{◌==◌, ◌&&◌, Bool, true, List, Option, None, Some, Result, Ok, if◌then◌else◌}
use Rattle.std.specs.List.{list_any}
use Rattle.mv_base.specs.declared.addr.Addr.{Addr}
use Rattle.mv_base.specs.declared.core_link.Link.{Link}
use Rattle.mv_base.specs.declared.ids.NodeId.{NodeId}
use Rattle.mv_base.specs.declared.ids.IfaceId.{IfaceId}
use Rattle.mv_base.specs.declared.pattern.Pattern.{Pattern}
use Rattle.scenario_defs.specs.declared.event.Kind.{Kind}
use Rattle.scenario_defs.specs.declared.event.Kind.TheVariants as kinds
use Rattle.scenario_defs.specs.declared.event.JoinEntry.{JoinEntry}
use Rattle.scenario_defs.specs.declared.event.JoinEntry.TheVariants as entries
use Rattle.line_words.specs.declared.fault.Reason.{Reason}
use Rattle.line_words.specs.declared.fault.Reason.TheVariants as reasons
use Rattle.line_words.specs.declared.fault.TextFault.{TextFault}
use Rattle.line_words.specs.declared.words.Row.{Row}
use Rattle.line_words.specs.Words.{Placed}
use Rattle.line_words.specs.Forms.{fault, same_family}
use Rattle.scenario_lines.specs.scenario_draft.Drafted.{Drafted}
use Rattle.scenario_lines.specs.scenario_draft.Naming.{joins, is_of_iface}

-- the value, unless a rule is broken, which is told at the word
abbrev pub unless_broken : {A : Type 0} → Option Reason → Row → Placed → A → Result A TextFault
unless_broken None row word x = Ok x
unless_broken (Some reason) row word x = fault row.number word.column reason

-- why two nodes are not the ends of a link
abbrev pub link_fault : List Link → NodeId → NodeId → Option Reason
link_fault links a b = if a.0 == b.0 then Some reasons.Same else if list_any (joins a b) links then None else Some reasons.Link

-- why two nodes have no session over the protocol: over BGP two edges have one (RFC 4364 section 4.3.2), over LDP the ends of a
-- link (RFC 5036 section 2.2.3)
abbrev pub session_fault : List Link → Kind → NodeId → NodeId → Option Reason
session_fault links kinds.Bgp a b = if a.0 == b.0 then Some reasons.Same else None
session_fault links kinds.Ldp a b = link_fault links a b

-- whether source and group are of the family of the interface's address
abbrev pub is_flow_of : Drafted → IfaceId → Addr → Addr → Bool
is_flow_of draft iface source group = same_family source group && is_of_iface draft iface group

-- whether all that a join or a prune names is of that family
abbrev pub is_entry_of : Drafted → IfaceId → JoinEntry → Bool
is_entry_of draft iface (entries.Star group) = is_of_iface draft iface group
is_entry_of draft iface (entries.Source source group) = is_flow_of draft iface source group
is_entry_of draft iface (entries.Rpt source group) = is_flow_of draft iface source group

-- whether source and group of a pattern are of one family, a wildcard being of both
abbrev pub is_of_family : Pattern → Bool
is_of_family pattern = elim pattern.source [
  | None ↦ true
  | Some source ↦ elim pattern.group [ None ↦ true | Some group ↦ same_family source group ]
]

-- the rule of families, by whether it is kept
abbrev pub family_fault : Bool → Option Reason
family_fault kept = if kept then None else Some reasons.Family
