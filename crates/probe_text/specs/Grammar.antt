-- The text of a probe: the lines of a scenario, the line `probe EDGE PEER`, and lines `join IFACE S G` and `piece HEX`; or its first fault.
use Rattle.std.specs.Prelude.{ℕ, ◌+◌, ◌==◌, ◌&&◌, Bool, false, nat_eq, nat_lt, List, [], ◌∷◌, ◌++◌, length, take, drop, position}
use Rattle.std.specs.Prelude.{Option, None, Some, Result, Ok, if◌then◌else◌, codes, slice_get}
use Rattle.std.specs.Cmp.Lexicographic.{pointwise}
use Rattle.std.specs.Str.Lines.{lines}
use Rattle.mv_base.specs.core_walks.Reached.{is_connected}
use Rattle.mv_base.specs.declared.ids.IfaceId.{IfaceId}
use Rattle.mv_base.specs.declared.ids.NodeId.{NodeId}
use Rattle.scenario_defs.specs.declared.scenario.Scenario.{Scenario}
use Rattle.line_words.specs.declared.fault.Reason.TheVariants as reasons
use Rattle.line_words.specs.declared.fault.TextFault.{TextFault}
use Rattle.line_words.specs.declared.words.Row.{Row}
use Rattle.line_words.specs.Words.{Placed, unspaced}
use Rattle.line_words.specs.Lines.{row_of, words_in}
use Rattle.line_words.specs.Forms.{fault, ◌>>=◌, group_at, payload_at, same_family, source_at}
use Rattle.scenario_lines.specs.declared.scenario_draft.line.Line.{Line}
use Rattle.scenario_lines.specs.declared.scenario_draft.line.Line.TheVariants as says
use Rattle.scenario_lines.specs.scenario_draft.Drafted.{Drafted}
use Rattle.scenario_lines.specs.scenario_draft.Adding.{added, empty_draft}
use Rattle.scenario_lines.specs.scenario_draft.Naming.{edge_at, iface_at, is_of_iface}
use Rattle.scenario_lines.specs.ScenarioGrammar.{scenario_line}
use Rattle.probe_defs.specs.Lines.{join_limit, joins_of}
use Rattle.probe_defs.specs.declared.probe.ProbeLine.{ProbeLine}
use Rattle.probe_defs.specs.declared.probe.ProbeLine.TheVariants.{Join, Piece}
use Rattle.probe_text.specs.declared.input.Ends.{Ends}
use Rattle.probe_text.specs.declared.input.ProbeText.{ProbeText}

-- ---- the line `probe`

-- octets up to the first space
abbrev pub up_to_space : List ℕ → List ℕ
up_to_space octets = elim (position (λ octet. octet == 32) octets) [ None ↦ octets | Some place ↦ take place octets ]

-- the first word of a line, whatever its octets are
abbrev pub first_word : List ℕ → List ℕ
first_word octets = up_to_space (unspaced octets)

-- whether it begins with that word; a comment begins with none
abbrev pub is_probe_line : List ℕ → Bool
is_probe_line octets = pointwise nat_eq (first_word octets) (codes "probe")

-- ---- lines of the scenario

-- `events` is none of them
unfoldable pub declaring : Drafted → Row → List Placed → Result Line TextFault
declaring draft row [] = Ok says.Blank
declaring draft row (first ∷ rest) =
    if pointwise nat_eq first.text (codes "events") then fault row.number first.column reasons.Word else scenario_line draft row first rest

unfoldable pub declared_by : Drafted → ℕ → List ℕ → Result Line TextFault
declared_by draft number octets = words_in number octets >>= λ words. declaring draft (row_of number octets) words

-- what the lines from that number on declare, after what is declared
abbrev pub declared_from : Drafted → ℕ → List (List ℕ) → Result Drafted TextFault
declared_from draft number [] = Ok draft
declared_from draft number (octets ∷ more) =
    declared_by draft number octets >>= λ said. declared_from (added draft number said) (number + 1) more

-- ---- the words of the line `probe`

-- two edges
unfoldable pub two_ends : Drafted → Row → Placed → Placed → Result Ends TextFault
two_ends draft row a b =
    edge_at draft row a >>= λ edge. edge_at draft row b >>= λ peer.
    if edge.0 == peer.0 then fault row.number b.column reasons.Same else Ok (record { edge = edge; peer = peer })

unfoldable pub ends_line : Drafted → Row → List Placed → Result Ends TextFault
ends_line draft row [] = fault row.number 1 reasons.Count
ends_line draft row (first ∷ []) = fault row.number row.after reasons.Count
ends_line draft row (first ∷ a ∷ []) = fault row.number row.after reasons.Count
ends_line draft row (first ∷ a ∷ b ∷ []) = two_ends draft row a b
ends_line draft row (first ∷ a ∷ b ∷ c ∷ more) = fault row.number c.column reasons.Count

-- that the core is not connected comes before anything else of that line
unfoldable pub probe_line : Drafted → ℕ → List ℕ → Result Ends TextFault
probe_line draft number octets =
    if is_connected (length draft.scenario.nodes) draft.scenario.links
    then (words_in number octets >>= λ words. ends_line draft (row_of number octets) words)
    else fault number 1 reasons.Apart

-- ---- the lines after it

-- whether the interface is of a VRF of the edge
abbrev pub is_iface_at : Scenario → NodeId → IfaceId → Bool
is_iface_at scenario edge iface = elim (slice_get scenario.ifaces iface.0) [
  | None ↦ false
  | Some own ↦ elim (slice_get scenario.vrfs own.vrf.0) [ None ↦ false | Some vrf ↦ vrf.edge.0 == edge.0 ]
]

-- the interface of that name, at the edge
unfoldable pub own_iface_at : Drafted → NodeId → Row → Placed → Result IfaceId TextFault
own_iface_at draft edge row a =
    iface_at draft row a >>= λ iface. if is_iface_at draft.scenario edge iface then Ok iface else fault row.number a.column reasons.Unknown

unfoldable pub join_words : Drafted → NodeId → Row → Placed → Placed → Placed → Result ProbeLine TextFault
join_words draft edge row a b c =
    own_iface_at draft edge row a >>= λ iface. source_at row b >>= λ source. group_at row c >>= λ group.
    if same_family source group && is_of_iface draft iface group then Ok (Join iface source group) else fault row.number c.column reasons.Family

unfoldable pub join_line : Drafted → NodeId → Row → List Placed → Result ProbeLine TextFault
join_line draft edge row [] = fault row.number row.after reasons.Count
join_line draft edge row (a ∷ []) = fault row.number row.after reasons.Count
join_line draft edge row (a ∷ b ∷ []) = fault row.number row.after reasons.Count
join_line draft edge row (a ∷ b ∷ c ∷ []) = join_words draft edge row a b c
join_line draft edge row (a ∷ b ∷ c ∷ d ∷ more) = fault row.number d.column reasons.Count

unfoldable pub piece_line : Row → List Placed → Result ProbeLine TextFault
piece_line row [] = fault row.number row.after reasons.Count
piece_line row (a ∷ []) = payload_at row a >>= λ octets. Ok (Piece octets)
piece_line row (a ∷ b ∷ more) = fault row.number b.column reasons.Count

-- a line by its first word, after so many joins; nothing where it has no word
unfoldable pub given_words : Drafted → NodeId → ℕ → Row → List Placed → Result (Option ProbeLine) TextFault
given_words draft edge joins row [] = Ok None
given_words draft edge joins row (first ∷ rest) =
    if pointwise nat_eq first.text (codes "join")
    then (if nat_lt joins join_limit then (join_line draft edge row rest >>= λ line. Ok (Some line))
    else fault row.number first.column reasons.Limit) else
    if pointwise nat_eq first.text (codes "piece") then (piece_line row rest >>= λ line. Ok (Some line)) else
    fault row.number first.column reasons.Word

unfoldable pub given_by : Drafted → NodeId → ℕ → ℕ → List ℕ → Result (Option ProbeLine) TextFault
given_by draft edge joins number octets = words_in number octets >>= λ words. given_words draft edge joins (row_of number octets) words

abbrev pub with_line : List ProbeLine → Option ProbeLine → List ProbeLine
with_line done None = done
with_line done (Some line) = done ++ line ∷ []

-- the lines from that number on, after these
abbrev pub given_from : Drafted → NodeId → List ProbeLine → ℕ → List (List ℕ) → Result (List ProbeLine) TextFault
given_from draft edge done number [] = Ok done
given_from draft edge done number (octets ∷ more) =
    given_by draft edge (length (joins_of done)) number octets >>= λ line. given_from draft edge (with_line done line) (number + 1) more

-- ---- the text

-- the lines from that number on, of which the first is the line `probe`
abbrev pub probe_from : Drafted → ℕ → List (List ℕ) → Result ProbeText TextFault
probe_from draft number [] = fault number 1 reasons.Probe
probe_from draft number (octets ∷ more) =
    probe_line draft number octets >>= λ ends. given_from draft ends.edge [] (number + 1) more >>= λ lines.
    Ok (record { scenario = draft.scenario; ends = ends; lines = lines })

-- the line `probe` is at that place
abbrev pub probe_at : List (List ℕ) → ℕ → Result ProbeText TextFault
probe_at rows at = declared_from empty_draft 1 (take at rows) >>= λ draft. probe_from draft (at + 1) (drop at rows)

-- what a text says, or its first fault: without a line `probe` it is that, whatever its lines hold
abbrev pub probe_of : List ℕ → Result ProbeText TextFault
probe_of text =
    if nat_lt 16777216 (length text) then fault 1 1 reasons.Long else
    elim (position is_probe_line (lines text)) [
      | None ↦ fault (length (lines text) + 1) 1 reasons.Probe
      | Some at ↦ probe_at (lines text) at
    ]
