-- The label rule: while a copy may be on its way under a label, the label stands for no other VPN, once the hold of the end that it goes
-- to was run (RFC 5036 section 3.5, RFC 6388 section 2.4; the hold and the rest of labels are this project's rules).
use Rattle.std.specs.Prelude.{◌≡◌, ◌≢◌, ◌≤◌, ◌<◌, ◌⊎◌, ℕ, ◌+◌, true, false, List, ◌++◌, is_some, slice_get, Contains, Option, None, Some}
use Rattle.std.specs.List.{AllByRecursion}
use Rattle.std.specs.FinMap as maps
use Rattle.std.specs.FinSet as sets
use Rattle.mv_base.specs.declared.ids.NodeId.{NodeId}
use Rattle.mv_base.specs.declared.ids.VrfId.{VrfId}
use Rattle.mv_base.specs.framing.Cut.{Yields}
use Rattle.label_defs.specs.mldp.declared.mldp_fec.fec.Fec.{Fec}
use Rattle.label_defs.specs.mldp.mldp_msgs.FirstFault.{PduFault}
use Rattle.label_defs.specs.mldp.mldp_msgs.Spelling.{SpellsPdu}
use Rattle.label_defs.specs.mldp.declared.mldp_msgs.message.LabelMessage.{LabelMessage}
use Rattle.label_defs.specs.mldp.declared.mldp_msgs.message.LabelMessage.TheVariants as messages
use Rattle.scenario_defs.specs.Vpn.{same_vpn, vrf_of_site}
use Rattle.scenario_defs.specs.declared.event.Kind.TheVariants as kinds
use Rattle.scenario_defs.specs.declared.scenario.Scenario.{Scenario}
use Rattle.scenario_defs.specs.declared.scenario.Vrf.{Vrf}
use Rattle.label_defs.specs.LabelData.{LabelData, use_of, IsUsedTowards}
use Rattle.label_defs.specs.Steps.{branch_to}
use Rattle.label_defs.specs.declared.end.End.{End}
use Rattle.label_defs.specs.declared.label_use.LabelUse.{LabelUse}
use Rattle.label_defs.specs.declared.label_use.LabelUse.TheVariants as uses
use Rattle.edge_defs.specs.Place.{addr_of, lsp, tunnel_number}
use Rattle.network_defs.specs.Acts.{datagram_at}
use Rattle.network_defs.specs.Counts.{direction}
use Rattle.network_defs.specs.Nodes.{part_of}
use Rattle.network_defs.specs.World.{World, Datagram, LinkCopy, scenario_of, clock_of}

-- ---- tunnels of a VPN

-- The FEC is a tunnel of the VPN of a VRF: its root is an edge that has a VRF of that VPN, and its number is one of that VRF's.
pub record IsTunnelOf (scenario : Scenario) (vpn : VrfId) (fec : Fec) : Type 0 where
  pub id : VrfId
  pub vrf : Vrf
  pub known : slice_get scenario.vrfs id.0 ≡ Some vrf
  pub member : same_vpn scenario vpn id ≡ true
  pub number : ℕ
  pub own : number < 1048576
  pub is_lsp : fec ≡ lsp (addr_of scenario vrf.edge) (tunnel_number vrf number)

-- The FEC is a tunnel of the VPN of the datagram's site.
pub record IsTunnelFor (world : World) (number : ℕ) (fec : Fec) : Type 0 where
  pub datagram : Datagram
  pub sent : datagram_at world number ≡ Some datagram
  pub vpn : VrfId
  pub of_site : vrf_of_site (scenario_of world) datagram.site ≡ Some vpn
  pub tunnel : IsTunnelOf (scenario_of world) vpn fec

-- ---- copies

abbrev pub part_at : World → NodeId → LabelData
part_at world n = part_of (world.network.state.node n)

-- the end of a node's LDP session with a neighbour, none where it is down
abbrev pub end_at : World → NodeId → NodeId → Option End
end_at world n peer = maps.get (part_at world n).ends peer

-- Of a copy on the link from u to n: its label is mapped towards u to a tunnel of the VPN of its datagram; or it is leaving towards u;
-- or it rests until no copy of that moment is on a link; or the end of n towards u is down; or that end came up when the copy was put
-- or later, and its hold was not run.
pub data CopyCase (world : World) (u n : NodeId) (copy : LinkCopy) : Type 0 where
  is_mapped : (fec : Fec) → is_some (end_at world n u) ≡ true → use_of (part_at world n) copy.label ≡ Some (uses.Mapped fec u)
      → IsTunnelFor world copy.number fec → CopyCase world u n copy
  is_leaving : (fec : Fec) → is_some (end_at world n u) ≡ true → use_of (part_at world n) copy.label ≡ Some (uses.Leaving fec u)
      → CopyCase world u n copy
  is_resting : (until : ℕ) → use_of (part_at world n) copy.label ≡ Some (uses.Resting until)
      → copy.put_at + (scenario_of world).life + 1 ≤ until → CopyCase world u n copy
  is_down : end_at world n u ≡ None → CopyCase world u n copy
  is_unheld : (end : End) → end_at world n u ≡ Some end → copy.put_at ≤ end.raised → end.held ≡ false → CopyCase world u n copy

-- ---- branches

-- the withdraw of the label is among what u's stream holds back from n, followed by what is in transit there
pub record IsWithdrawnTo (world : World) (u n : NodeId) (fec : Fec) (label : ℕ) : Type 0 where
  pub all : List LabelMessage
  pub octets : Yields SpellsPdu PduFault
      ((world.network.stream (direction kinds.Ldp n u)).held ++ world.network.transit (direction kinds.Ldp n u)) all
  pub among : Contains all (messages.Withdraw fec label)

abbrev pub HasBranch : World → NodeId → NodeId → Fec → ℕ → Type 0
HasBranch world u n fec label = sets.contains (part_at world u).branches (branch_to n fec label) ≡ true

abbrev pub IsJoined : World → NodeId → NodeId → Type 0
IsJoined world u n = world.network.joined (direction kinds.Ldp u n) ≡ true

-- ---- the rule

-- Each copy is in one of the cases, and has not been on its link for longer than it may. Where u has a branch of a tree to n under a
-- label, the end of u towards n is up. If the session is joined, n holds the label for that tree towards u: it is mapped, or it is
-- leaving and its withdraw is on its way. If the session is not joined, the end of n is down, or n holds the label so.
pub record LabelRule (world : World) : Type 0 where
  pub copies : (u n : NodeId) → u ≢ n → AllByRecursion (CopyCase world u n) (world.copies u n)
  pub young : (u n : NodeId) → u ≢ n
      → AllByRecursion (λ (copy : LinkCopy). clock_of world ≤ copy.put_at + (scenario_of world).life) (world.copies u n)
  pub branch_up : (u n : NodeId) (fec : Fec) (label : ℕ) → u ≢ n → HasBranch world u n fec label → is_some (end_at world u n) ≡ true
  pub joined : (u n : NodeId) (fec : Fec) (label : ℕ) → u ≢ n → IsJoined world u n → HasBranch world u n fec label
      → (use_of (part_at world n) label ≡ Some (uses.Mapped fec u))
      ⊎ ((use_of (part_at world n) label ≡ Some (uses.Leaving fec u)) × IsWithdrawnTo world u n fec label)
  pub unjoined : (u n : NodeId) (fec : Fec) (label : ℕ) → u ≢ n → world.network.joined (direction kinds.Ldp u n) ≡ false
      → HasBranch world u n fec label
      → (end_at world n u ≡ None) ⊎ IsUsedTowards fec u (use_of (part_at world n) label)
