-- The lines of VRFs: what each says, or its first fault.
use Rattle.std.specs.Prelude.{◌==◌, ◌&&◌, Bool, not, nat_le, List, [], ◌∷◌, length, Result, Ok, if◌then◌else◌}
use Rattle.std.specs.List.{list_any}
use Rattle.mv_base.specs.declared.ids.NodeId.{NodeId}
use Rattle.mv_base.specs.declared.ids.VrfId.{VrfId}
use Rattle.mv_base.specs.declared.route_targets.communities.Target.{Target}
use Rattle.mv_base.specs.route_targets.Targets.{shares, same}
use Rattle.scenario_defs.specs.declared.scenario.Vrf.{Vrf}
use Rattle.line_words.specs.declared.fault.Reason.TheVariants as reasons
use Rattle.line_words.specs.declared.fault.TextFault.{TextFault}
use Rattle.line_words.specs.declared.words.Row.{Row}
use Rattle.line_words.specs.Words.{Placed}
use Rattle.line_words.specs.Forms.{fault, ◌>>=◌, targets_at, rule_at}
use Rattle.scenario_lines.specs.declared.scenario_draft.line.Line.{Line}
use Rattle.scenario_lines.specs.declared.scenario_draft.line.Line.TheVariants as says
use Rattle.scenario_lines.specs.scenario_draft.Drafted.{Drafted}
use Rattle.scenario_lines.specs.scenario_draft.Naming.{new_name, edge_at, vrf_number_at, rd_at}
use Rattle.scenario_lines.specs.declared.vrf_lines.VrfHead.{VrfHead}
use Rattle.scenario_lines.specs.declared.vrf_lines.VrfTail.{VrfTail}

-- `NAME EDGE NUMBER` of a VRF
unfoldable pub vrf_head : Drafted → Row → Placed → Placed → Placed → Result VrfHead TextFault
vrf_head draft row a b c =
    new_name draft row a >>= λ name. edge_at draft row b >>= λ edge. vrf_number_at draft row edge c >>= λ number.
    Ok (record { name = name; edge = edge; number = number })

-- `RD TARGETS RULE` of a VRF
unfoldable pub vrf_tail : Drafted → Row → NodeId → Placed → Placed → Placed → Result VrfTail TextFault
vrf_tail draft row edge d e f =
    rd_at draft row edge d >>= λ rd. targets_at row e >>= λ targets. rule_at row f >>= λ rule.
    Ok (record { rd = rd; targets = targets; rule = rule })

-- whether the VRF has a member of the set among its targets, and its own set is not equal to it
abbrev pub overlaps : List Target → Vrf → Bool
overlaps targets vrf = shares vrf.targets targets && not (same vrf.targets targets)

-- whether the VRF is of that edge and has an equal set
abbrev pub is_vpn_at : NodeId → List Target → Vrf → Bool
is_vpn_at edge targets vrf = vrf.edge.0 == edge.0 && same vrf.targets targets

-- the rules of a VRF: each earlier set is equal to its own or has no member of it, and none at its edge is equal
unfoldable pub vrf_rules : Drafted → Row → VrfId → Placed → VrfHead → VrfTail → Result Line TextFault
vrf_rules draft row id e head tail =
    if list_any (overlaps tail.targets) draft.scenario.vrfs then fault row.number e.column reasons.Overlap else
    if list_any (is_vpn_at head.edge tail.targets) draft.scenario.vrfs then fault row.number e.column reasons.Vpn else
    Ok (says.Vrf id (record {
      name = head.name;
      edge = head.edge;
      number = head.number;
      rd = tail.rd;
      targets = tail.targets;
      rule = tail.rule;
    }))

-- `vrf NAME EDGE NUMBER RD TARGETS RULE`
unfoldable pub vrf_words : Drafted → Row → VrfId → Placed → Placed → Placed → Placed → Placed → Placed → Result Line TextFault
vrf_words draft row id a b c d e f =
    vrf_head draft row a b c >>= λ head. vrf_tail draft row head.edge d e f >>= λ tail. vrf_rules draft row id e head tail

-- the words after `vrf`
unfoldable pub vrf_counted : Drafted → Row → VrfId → List Placed → Result Line TextFault
vrf_counted draft row id [] = fault row.number row.after reasons.Count
vrf_counted draft row id (a ∷ []) = fault row.number row.after reasons.Count
vrf_counted draft row id (a ∷ b ∷ []) = fault row.number row.after reasons.Count
vrf_counted draft row id (a ∷ b ∷ c ∷ []) = fault row.number row.after reasons.Count
vrf_counted draft row id (a ∷ b ∷ c ∷ d ∷ []) = fault row.number row.after reasons.Count
vrf_counted draft row id (a ∷ b ∷ c ∷ d ∷ e ∷ []) = fault row.number row.after reasons.Count
vrf_counted draft row id (a ∷ b ∷ c ∷ d ∷ e ∷ f ∷ []) = vrf_words draft row id a b c d e f
vrf_counted draft row id (a ∷ b ∷ c ∷ d ∷ e ∷ f ∷ g ∷ more) = fault row.number g.column reasons.Count

-- a line of a VRF, of which there are at most 256
unfoldable pub vrf_line : Drafted → Row → Placed → List Placed → Result Line TextFault
vrf_line draft row first rest =
    if nat_le 256 (length draft.scenario.vrfs) then fault row.number first.column reasons.Limit else
    vrf_counted draft row (record { 0 = length draft.scenario.vrfs }) rest
