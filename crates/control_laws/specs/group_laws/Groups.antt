-- Groups of sources at an edge: multicast groups of the family of their source.
use Rattle.std.specs.Prelude.{◌≡◌, true, is_some, ⊤}
use Rattle.std.specs.FinMap as maps
use Rattle.std.specs.FinSet as sets
use Rattle.mv_base.specs.declared.addr.Addr.{Addr}
use Rattle.bgp_values.specs.mvpn_nlri.Spelling.{IsGroup}
use Rattle.bgp_messages.specs.bgp_update.Written.{afi_of}
use Rattle.pim_joinprune.specs.declared.message.JoinPrune.{JoinPrune}
use Rattle.scenario_defs.specs.declared.event.IfaceEntry.{IfaceEntry}
use Rattle.scenario_defs.specs.declared.event.JoinEntry.TheVariants.{Source}
use Rattle.pim_defs.specs.Mention.{joins}
use Rattle.edge_defs.specs.Edge.{Note, VrfFlow, Control}
use Rattle.edge_defs.specs.Steps.{Call, Customer, Pim, Active}

-- the group is a multicast group of the source's family, such as the key of a route has (RFC 6514 section 4)
abbrev pub IsFlow : Addr → Addr → Type 0
IsFlow source group = IsGroup (afi_of source) group

-- Each (S,G) that is joined, each that is noted and each flow has such a group.
pub record HaveGroups (control : Control) : Type 0 where
  pub entries :
      (at : IfaceEntry) (source group : Addr) → is_some (maps.get control.entries at) ≡ true → at.entry ≡ Source source group →
      IsFlow source group
  pub notes : (note : Note) → sets.contains control.notes note ≡ true → IsFlow note.source note.group
  pub flows : (flow : VrfFlow) → is_some (maps.get control.flows flow) ≡ true → IsFlow flow.source flow.group

-- each (S,G) that the message joins has such a group
abbrev pub HasGroups : JoinPrune → Type 0
HasGroups message = (source group : Addr) → joins message (Source source group) ≡ true → IsFlow source group

-- what the call joins or notes has such a group
abbrev pub IsAllowed : Call → Type 0
IsAllowed (Customer (Pim iface message)) = HasGroups message
IsAllowed (Customer (Active iface source group)) = IsFlow source group
IsAllowed other = ⊤
