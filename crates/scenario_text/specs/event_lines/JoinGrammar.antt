-- The lines of joins and prunes: what each says, or its first fault.
use Rattle.std.specs.Prelude.{nat_eq, List, ℕ, [], ◌∷◌, Option, None, Some, Result, Ok, if◌then◌else◌, codes}
use Rattle.std.specs.Cmp.Lexicographic.{pointwise}
use Rattle.mv_base.specs.declared.ids.IfaceId.{IfaceId}
use Rattle.scenario_defs.specs.declared.event.Event.{Event}
use Rattle.scenario_defs.specs.declared.event.CustomerEvent.TheVariants as customers
use Rattle.scenario_defs.specs.declared.event.Event.TheVariants as events
use Rattle.scenario_defs.specs.declared.event.IfaceEntry.{IfaceEntry}
use Rattle.scenario_defs.specs.declared.event.JoinEntry.{JoinEntry}
use Rattle.scenario_defs.specs.declared.event.JoinEntry.TheVariants as entries
use Rattle.line_words.specs.declared.fault.Reason.TheVariants as reasons
use Rattle.line_words.specs.declared.fault.TextFault.{TextFault}
use Rattle.line_words.specs.declared.words.Row.{Row}
use Rattle.line_words.specs.Words.{Placed}
use Rattle.line_words.specs.Forms.{fault, ◌>>=◌, source_at, group_at}
use Rattle.scenario_lines.specs.declared.scenario_draft.line.Line.{Line}
use Rattle.scenario_lines.specs.declared.scenario_draft.line.Line.TheVariants as says
use Rattle.scenario_lines.specs.scenario_draft.Drafted.{Drafted}
use Rattle.scenario_lines.specs.scenario_draft.Naming.{iface_at}
use Rattle.scenario_text.specs.declared.event_lines.join_lines.EntryWord.{EntryWord}
use Rattle.scenario_text.specs.declared.event_lines.join_lines.EntryWord.TheVariants as entry_kinds
use Rattle.scenario_text.specs.event_lines.Rules.{unless_broken, family_fault, is_entry_of}

-- the event of an entry whose line begins with the text
abbrev pub entry_word : List ℕ → Option EntryWord
entry_word text =
    if pointwise nat_eq text (codes "join") then Some entry_kinds.Join else
    if pointwise nat_eq text (codes "prune") then Some entry_kinds.Prune else
    None

abbrev pub entry_event : EntryWord → IfaceEntry → Event
entry_event entry_kinds.Join named = events.Customer (customers.Join named.iface named.entry)
entry_event entry_kinds.Prune named = events.Customer (customers.Prune named.iface named.entry)

-- `* G`
unfoldable pub star_entry : Row → Placed → Result JoinEntry TextFault
star_entry row c = group_at row c >>= λ group. Ok (entries.Star group)

-- `S G`
unfoldable pub source_entry : Row → Placed → Placed → Result JoinEntry TextFault
source_entry row b c = source_at row b >>= λ source. group_at row c >>= λ group. Ok (entries.Source source group)

-- the entry, where the word is `rpt`
unfoldable pub if_rpt : Row → Placed → JoinEntry → Result JoinEntry TextFault
if_rpt row d entry = if pointwise nat_eq d.text (codes "rpt") then Ok entry else fault row.number d.column reasons.Choice

-- `S G rpt`
unfoldable pub rpt_entry : Row → Placed → Placed → Placed → Result JoinEntry TextFault
rpt_entry row b c d = source_at row b >>= λ source. group_at row c >>= λ group. if_rpt row d (entries.Rpt source group)

-- `* G` or `S G`
unfoldable pub entry_at : Row → Placed → Placed → Result JoinEntry TextFault
entry_at row b c = if pointwise nat_eq b.text (codes "*") then star_entry row c else source_entry row b c

-- the entry at the interface, where it is of the interface's family
abbrev pub at_iface : Drafted → Row → Placed → IfaceId → JoinEntry → Result IfaceEntry TextFault
at_iface draft row c iface entry =
    unless_broken (family_fault (is_entry_of draft iface entry)) row c (record { iface = iface; entry = entry })

-- `IFACE * G` or `IFACE S G`
abbrev pub three_words : Drafted → Row → Placed → Placed → Placed → Result IfaceEntry TextFault
three_words draft row a b c = iface_at draft row a >>= λ iface. entry_at row b c >>= λ entry. at_iface draft row c iface entry

-- `IFACE S G rpt`
abbrev pub four_words : Drafted → Row → Placed → Placed → Placed → Placed → Result IfaceEntry TextFault
four_words draft row a b c d = iface_at draft row a >>= λ iface. rpt_entry row b c d >>= λ entry. at_iface draft row c iface entry

-- the words after `join` or `prune`
unfoldable pub iface_entry : Drafted → Row → List Placed → Result IfaceEntry TextFault
iface_entry draft row [] = fault row.number row.after reasons.Count
iface_entry draft row (a ∷ []) = fault row.number row.after reasons.Count
iface_entry draft row (a ∷ b ∷ []) = fault row.number row.after reasons.Count
iface_entry draft row (a ∷ b ∷ c ∷ []) = three_words draft row a b c
iface_entry draft row (a ∷ b ∷ c ∷ d ∷ []) = four_words draft row a b c d
iface_entry draft row (a ∷ b ∷ c ∷ d ∷ e ∷ more) = fault row.number e.column reasons.Count

-- a line of a join or a prune by the words after the first one
unfoldable pub entry_line : Drafted → Row → EntryWord → List Placed → Result Line TextFault
entry_line draft row word words = iface_entry draft row words >>= λ named. Ok (says.Event (entry_event word named))
