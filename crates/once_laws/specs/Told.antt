-- What interfaces ask for, by the events and by the network.
use Rattle.std.specs.Prelude.{◌≡◌, Option, Some}
use Rattle.std.specs.FinSet as sets
use Rattle.mv_base.specs.declared.addr.Addr.{Addr}
use Rattle.mv_base.specs.declared.ids.IfaceId.{IfaceId}
use Rattle.mv_base.specs.declared.ids.NodeId.{NodeId}
use Rattle.mvpn_model.specs.Past.{Past, asks, is_noted, is_active_at, standing}
use Rattle.pim_defs.specs.Asking.{asks_by}
use Rattle.pim_defs.specs.Entries.{expiry_at}
use Rattle.pim_defs.specs.Expiry.{counts}
use Rattle.pim_defs.specs.declared.expiry.Expiry.{Expiry}
use Rattle.scenario_defs.specs.Vpn.{edge_of}
use Rattle.scenario_defs.specs.declared.event.JoinEntry.{JoinEntry}
use Rattle.scenario_defs.specs.declared.event.JoinEntry.TheVariants as entries
use Rattle.network_defs.specs.Refusals.{control_of}
use Rattle.network_defs.specs.World.{World, scenario_of, clock_of}

-- when an edge's entry of an interface ends
abbrev pub kept_at_edge : World → NodeId → IfaceId → JoinEntry → Option Expiry
kept_at_edge world n iface entry = expiry_at (control_of (world.network.state.node n)).entries iface entry

-- An interface asks for a flow by the events exactly where it asks by the entries of its edge, given whether the events note the
-- source in its VPN.
abbrev pub AsksAreTold : Past → World → Type 0
AsksAreTold past world =
    (iface : IfaceId) (n : NodeId) (source group : Addr) → edge_of (scenario_of world) iface ≡ Some n →
    asks past iface source group ≡
    asks_by (clock_of world) (is_active_at past iface source group) (kept_at_edge world n iface (entries.Source source group))
    (kept_at_edge world n iface (entries.Star group)) (kept_at_edge world n iface (entries.Rpt source group))

-- A source is noted at an interface by the events exactly where its edge has that note.
abbrev pub NotesAreTold : Past → World → Type 0
NotesAreTold past world =
    (iface : IfaceId) (n : NodeId) (source group : Addr) → edge_of (scenario_of world) iface ≡ Some n →
    is_noted past iface source group ≡
    sets.contains (control_of (world.network.state.node n)).notes (record { iface = iface; source = source; group = group })

-- The clock is that of the events; and an entry of an interface counts by the events exactly where it counts at its edge.
pub record EntriesAreTold (past : Past) (world : World) : Type 0 where
  pub clock : (iface : IfaceId) (entry : JoinEntry) → (standing past iface entry).clock ≡ clock_of world
  pub counted : (iface : IfaceId) (n : NodeId) (entry : JoinEntry) → edge_of (scenario_of world) iface ≡ Some n →
      counts (clock_of world) (standing past iface entry).expiry ≡ counts (clock_of world) (kept_at_edge world n iface entry)
