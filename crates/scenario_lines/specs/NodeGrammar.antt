-- The lines of nodes and links: what each says, or its first fault.
use Rattle.std.specs.Prelude.{ℕ, ◌==◌, ◌||◌, ◌&&◌, Bool, nat_le, List, [], ◌∷◌, length, count_by, Result, Ok, if◌then◌else◌}
use Rattle.mv_base.specs.declared.ids.NodeId.{NodeId}
use Rattle.scenario_defs.specs.declared.scenario.Scenario.{Scenario}
use Rattle.line_words.specs.declared.fault.Reason.TheVariants as reasons
use Rattle.line_words.specs.declared.fault.TextFault.{TextFault}
use Rattle.line_words.specs.declared.words.Row.{Row}
use Rattle.line_words.specs.Words.{Placed}
use Rattle.line_words.specs.Forms.{fault, ◌>>=◌, number_to, or_fault}
use Rattle.scenario_lines.specs.declared.scenario_draft.line.Line.{Line}
use Rattle.scenario_lines.specs.declared.scenario_draft.line.Line.TheVariants as says
use Rattle.scenario_lines.specs.scenario_draft.Drafted.{Drafted}
use Rattle.scenario_lines.specs.scenario_draft.Naming.{new_name, node_addr_at, node_at, other_end_at}

-- `NAME ADDR` of a node, which is an edge or not
unfoldable pub node_words : Drafted → Row → Bool → NodeId → Placed → Placed → Result Line TextFault
node_words draft row edge id a b =
    new_name draft row a >>= λ name. node_addr_at draft row b >>= λ addr.
    Ok (says.Node id (record { name = name; addr = addr; edge = edge }))

-- the words after `edge` or `core`
unfoldable pub node_counted : Drafted → Row → Bool → NodeId → List Placed → Result Line TextFault
node_counted draft row edge id [] = fault row.number row.after reasons.Count
node_counted draft row edge id (a ∷ []) = fault row.number row.after reasons.Count
node_counted draft row edge id (a ∷ b ∷ []) = node_words draft row edge id a b
node_counted draft row edge id (a ∷ b ∷ c ∷ more) = fault row.number c.column reasons.Count

-- whether there is room for no more nodes, or for no more edges where it is one: there are at most 64, of which at most 32
-- are edges
abbrev pub is_full : Scenario → Bool → Bool
is_full scenario edge = nat_le 64 (length scenario.nodes) || (edge && nat_le 32 (count_by (λ node. node.edge) scenario.nodes))

-- a line of a node
unfoldable pub node_line : Drafted → Row → Bool → Placed → List Placed → Result Line TextFault
node_line draft row edge first rest =
    if is_full draft.scenario edge then fault row.number first.column reasons.Limit else
    node_counted draft row edge (record { 0 = length draft.scenario.nodes }) rest

-- the link, whose ends are two nodes
unfoldable pub link_between : Row → Placed → NodeId → NodeId → ℕ → Result Line TextFault
link_between row b from to cost =
    if from.0 == to.0 then fault row.number b.column reasons.Same else Ok (says.Link (record { a = from; b = to; cost = cost }))

-- `A B COST` of a link
unfoldable pub link_words : Drafted → Row → Placed → Placed → Placed → Result Line TextFault
link_words draft row a b c =
    node_at draft row a >>= λ from. other_end_at draft row from b >>= λ to.
    or_fault (number_to 65535 c.text) row c reasons.Number >>= λ cost. link_between row b from to cost

-- the words after `link`
unfoldable pub link_counted : Drafted → Row → List Placed → Result Line TextFault
link_counted draft row [] = fault row.number row.after reasons.Count
link_counted draft row (a ∷ []) = fault row.number row.after reasons.Count
link_counted draft row (a ∷ b ∷ []) = fault row.number row.after reasons.Count
link_counted draft row (a ∷ b ∷ c ∷ []) = link_words draft row a b c
link_counted draft row (a ∷ b ∷ c ∷ d ∷ more) = fault row.number d.column reasons.Count

-- a line of a link, of which there are at most 256
unfoldable pub link_line : Drafted → Row → Placed → List Placed → Result Line TextFault
link_line draft row first rest =
    if nat_le 256 (length draft.scenario.links) then fault row.number first.column reasons.Limit else link_counted draft row rest
