-- The nodes of the whole network as a system with calls of sound values alone.
use Rattle.std.specs.Prelude.{◌<◌, ◌≤◌, ℕ, length}
use Rattle.std.specs.List.{AllByRecursion}
use Rattle.mv_base.specs.Octets.{IsOctets}
use Rattle.mv_base.specs.declared.ids.NodeId.{NodeId}
use Rattle.mv_base.specs.core_walks.Walks.{IsLinked}
use Rattle.pim_joinprune.specs.declared.group.Group.{Group}
use Rattle.pim_joinprune.specs.declared.message.JoinPrune.{JoinPrune}
use Rattle.pim_joinprune.specs.declared.source.JpSource.{JpSource}
use Rattle.network_defs.specs.edge_defs.pim_defs.Mention.{entry_of}
use Rattle.scenario_defs.specs.declared.event.Event.{Event}
use Rattle.scenario_defs.specs.declared.event.CustomerEvent.TheVariants as customers
use Rattle.scenario_defs.specs.declared.event.Event.TheVariants as events
use Rattle.scenario_defs.specs.declared.scenario.Scenario.{Scenario}
use Rattle.network_defs.specs.session_defs.System.{System}
use Rattle.network_defs.specs.edge_defs.Steps as steps
use Rattle.network_defs.specs.Nodes.{Nodes}
use Rattle.network_defs.specs.System.{NodeCall, Own, Elapse, Reset, Price, Follow, system}
use Rattle.network_laws.specs.Sound.{IsFlow, SoundEntry, SoundPattern}

-- the entries that a group of a Join/Prune message names are sound
pub record SoundGroup (group : Group) : Type 0 where
  pub joins : AllByRecursion (λ (source : JpSource). SoundEntry (entry_of group.group source)) group.joins
  pub prunes : AllByRecursion (λ (source : JpSource). SoundEntry (entry_of group.group source)) group.prunes

abbrev pub SoundMessage : JoinPrune → Type 0
SoundMessage message = AllByRecursion SoundGroup message.groups

-- A call of a node by itself: no message of a session is taken by it, and no other costs; its values are sound.
abbrev pub IsSoundCall : steps.Call → Type 0
IsSoundCall (steps.Update peer message) = ⊥
IsSoundCall (steps.Label neighbour message) = ⊥
IsSoundCall steps.Rerouted = ⊥
IsSoundCall (steps.Customer (steps.Pim iface message)) = SoundMessage message
IsSoundCall (steps.Customer (steps.Active iface source group)) = IsFlow source group
IsSoundCall (steps.Customer (steps.Select vrf pattern)) = SoundPattern pattern
IsSoundCall other = Unit {0}

-- the cost of a link
abbrev pub IsCost : ℕ → Type 0
IsCost cost = (1 ≤ cost) × (cost ≤ 65535)

abbrev pub IsSoundNodeCall : Scenario → NodeCall → Type 0
IsSoundNodeCall scenario (Own n call) = (n.0 < length scenario.nodes) × IsSoundCall call
IsSoundNodeCall scenario (Elapse ticks) = Unit {0}
IsSoundNodeCall scenario (Reset n) = Unit {0}
IsSoundNodeCall scenario (Price a b cost) = IsCost cost
IsSoundNodeCall scenario (Follow n) = n.0 < length scenario.nodes

-- A call with sound values, at a node of the scenario.
pub record SoundCall (scenario : Scenario) : Type 0 where
  pub call : NodeCall
  pub sound : IsSoundNodeCall scenario call

-- the nodes of a network, with such calls alone
abbrev pub sound_system : (scenario : Scenario) → System Nodes (SoundCall scenario)
sound_system scenario = record { taken = system.taken; called = λ call nodes. system.called call.call nodes }

-- ---- events

-- The two nodes are linked, and the place is one among the copies on a link, which are counted from 1.
pub record IsLinkPlace (scenario : Scenario) (from to : NodeId) (place : ℕ) : Type 0 where
  pub cost : ℕ
  pub linked : IsLinked scenario.links from.0 to.0 cost
  pub counted : 1 ≤ place

-- An event of sound values. The costs of links are 1 to 65535. The node whose timers are run, or whose end notices a loss, and the
-- interface of a join or a prune are those of the scenario; a copy hops or is dropped on a link.
abbrev pub IsSoundEvent : Scenario → Event → Type 0
IsSoundEvent scenario (events.Timers node) = node.0 < length scenario.nodes
IsSoundEvent scenario (events.Notice kind a b) = a.0 < length scenario.nodes
IsSoundEvent scenario (events.Customer (customers.Join iface entry)) = (iface.0 < length scenario.ifaces) × SoundEntry entry
IsSoundEvent scenario (events.Customer (customers.Prune iface entry)) = (iface.0 < length scenario.ifaces) × SoundEntry entry
IsSoundEvent scenario (events.Customer (customers.Pim iface bytes)) = IsOctets bytes
IsSoundEvent scenario (events.Customer (customers.Active iface source group)) = IsFlow source group
IsSoundEvent scenario (events.Customer (customers.Select vrf pattern)) = SoundPattern pattern
IsSoundEvent scenario (events.Hop from to place) = IsLinkPlace scenario from to place
IsSoundEvent scenario (events.DropCopy from to place) = IsLinkPlace scenario from to place
IsSoundEvent scenario (events.Cost a b cost) = IsCost cost
IsSoundEvent scenario other = Unit {0}
