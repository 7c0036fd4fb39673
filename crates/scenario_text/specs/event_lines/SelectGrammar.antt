-- The lines of selections: what each says, or its first fault.
use Rattle.std.specs.Prelude.{nat_eq, List, ℕ, [], ◌∷◌, Option, None, Some, Result, Ok, if◌then◌else◌, codes}
use Rattle.std.specs.Cmp.Lexicographic.{pointwise}
use Rattle.mv_base.specs.declared.addr.Addr.{Addr}
use Rattle.mv_base.specs.declared.ids.VrfId.{VrfId}
use Rattle.mv_base.specs.declared.pattern.Pattern.{Pattern}
use Rattle.scenario_defs.specs.declared.event.Event.{Event}
use Rattle.scenario_defs.specs.declared.event.CustomerEvent.TheVariants as customers
use Rattle.scenario_defs.specs.declared.event.Event.TheVariants as events
use Rattle.line_words.specs.declared.fault.Reason.TheVariants as reasons
use Rattle.line_words.specs.declared.fault.TextFault.{TextFault}
use Rattle.line_words.specs.declared.words.Row.{Row}
use Rattle.line_words.specs.Words.{Placed}
use Rattle.line_words.specs.Forms.{fault, ◌>>=◌, source_at, group_at}
use Rattle.scenario_lines.specs.declared.scenario_draft.line.Line.{Line}
use Rattle.scenario_lines.specs.declared.scenario_draft.line.Line.TheVariants as says
use Rattle.scenario_lines.specs.scenario_draft.Drafted.{Drafted}
use Rattle.scenario_lines.specs.scenario_draft.Naming.{vrf_at}
use Rattle.scenario_text.specs.declared.event_lines.select_lines.SelectWord.{SelectWord}
use Rattle.scenario_text.specs.declared.event_lines.select_lines.SelectWord.TheVariants as select_kinds
use Rattle.scenario_text.specs.event_lines.Rules.{unless_broken, family_fault, is_of_family}

-- the event of a selection whose line begins with the text
abbrev pub select_word : List ℕ → Option SelectWord
select_word text =
    if pointwise nat_eq text (codes "select") then Some select_kinds.Select else
    if pointwise nat_eq text (codes "unselect") then Some select_kinds.Unselect else
    None

abbrev pub select_event : SelectWord → VrfId → Pattern → Event
select_event select_kinds.Select vrf pattern = events.Customer (customers.Select vrf pattern)
select_event select_kinds.Unselect vrf pattern = events.Customer (customers.Unselect vrf pattern)

-- no address at a word `*`, which is any (RFC 6625 section 2), and elsewhere the one that it writes
unfoldable pub any_or : Placed → Result Addr TextFault → Result (Option Addr) TextFault
any_or word addr = if pointwise nat_eq word.text (codes "*") then Ok None else addr >>= λ addr. Ok (Some addr)

-- `S G`, with `*` for S, G or both
unfoldable pub pattern_at : Row → Placed → Placed → Result Pattern TextFault
pattern_at row b c =
    any_or b (source_at row b) >>= λ source. any_or c (group_at row c) >>= λ group. Ok (record { source = source; group = group })

-- `VRF S G`
unfoldable pub select_words : Drafted → Row → SelectWord → Placed → Placed → Placed → Result Line TextFault
select_words draft row word a b c =
    vrf_at draft row a >>= λ vrf. pattern_at row b c >>= λ pattern.
    unless_broken (family_fault (is_of_family pattern)) row c (says.Event (select_event word vrf pattern))

-- the words after `select` or `unselect`
unfoldable pub select_line : Drafted → Row → SelectWord → List Placed → Result Line TextFault
select_line draft row word [] = fault row.number row.after reasons.Count
select_line draft row word (a ∷ []) = fault row.number row.after reasons.Count
select_line draft row word (a ∷ b ∷ []) = fault row.number row.after reasons.Count
select_line draft row word (a ∷ b ∷ c ∷ []) = select_words draft row word a b c
select_line draft row word (a ∷ b ∷ c ∷ d ∷ more) = fault row.number d.column reasons.Count
