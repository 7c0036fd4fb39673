-- The Join/Prune messages that events hand to an edge.
use Rattle.std.specs.Prelude.{ℕ, List, [], ◌∷◌, slice_get, Option, None, Some, Ok, Err}
use Rattle.mv_base.specs.declared.ids.IfaceId.{IfaceId}
use Rattle.mv_base.specs.declared.addr.Addr.{Addr}
use Rattle.mv_base.specs.declared.addr.Addr.TheVariants.{V4}
use Rattle.scenario_defs.specs.declared.scenario.Scenario.{Scenario}
use Rattle.scenario_defs.specs.declared.event.Event.{Event}
use Rattle.scenario_defs.specs.declared.event.CustomerEvent.TheVariants as customers
use Rattle.scenario_defs.specs.declared.event.Event.TheVariants as events
use Rattle.pim_defs.specs.pim_joinprune.declared.message.JoinPrune.{JoinPrune}
use Rattle.pim_defs.specs.pim_joinprune.Reading.{decoded}
use Rattle.pim_defs.specs.Single.{join_of, prune_of}
use Rattle.mvpn_model.specs.declared.message.Given.{Given}

-- the interface's own address; 0.0.0.0 where the scenario has no such interface
abbrev pub own_addr : Scenario → IfaceId → Addr
own_addr scenario iface = elim (slice_get scenario.ifaces iface.0) [ None ↦ V4 (0 ∷ 0 ∷ 0 ∷ 0 ∷ []) | Some found ↦ found.addr ]

abbrev pub handed : IfaceId → JoinPrune → Option Given
handed iface message = Some (record { iface = iface; message = message })

-- the message that the octets spell, if they spell one
abbrev pub read_at : IfaceId → List ℕ → Option Given
read_at iface octets = elim (decoded octets) [ Ok message ↦ handed iface message | Err fault ↦ None ]

-- The message that an event hands to the edge of an interface: that of a `join` or a `prune`, for the interface's own
-- address, or the one that the octets of a `pim` spell.
abbrev pub message_of : Scenario → Event → Option Given
message_of scenario (events.Customer (customers.Join iface entry)) = handed iface (join_of (own_addr scenario iface) entry)
message_of scenario (events.Customer (customers.Prune iface entry)) = handed iface (prune_of (own_addr scenario iface) entry)
message_of scenario (events.Customer (customers.Pim iface bytes)) = read_at iface bytes
message_of scenario other = None
