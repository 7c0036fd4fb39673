-- What events of customers call for is of sound values, and is made at nodes of the scenario.
use Rattle.std.proofs.Common.{Option, Some, None}
use Rattle.scenario_defs.specs.declared.event.CustomerEvent.{CustomerEvent}
use Rattle.scenario_defs.specs.declared.event.CustomerEvent.TheVariants as customers
use Rattle.scenario_defs.specs.declared.event.Event.TheVariants as events
use Rattle.scenario_defs.specs.declared.scenario.Scenario.{Scenario}
use Rattle.network_defs.specs.edge_defs.Steps as steps
use Rattle.network_defs.specs.edge_defs.Steps.{CustomerCall}
use Rattle.network_defs.specs.mvpn_model.Messages.{read_at}
use Rattle.network_defs.specs.mvpn_model.declared.message.Given.{Given}
use Rattle.network_defs.specs.Refusals.{call_for, edge_for, message_call}
use Rattle.network_laws.specs.Honest.{IsSoundCall, IsSoundEvent}
use Rattle.network_laws.specs.Sound.{SoundScenario}
use Rattle.network_laws.proofs.RunMessages.{IsSoundGiven, join_is_sound, prune_is_sound, read_is_sound}
use Rattle.network_laws.proofs.RunNodes.{IsFoundNode, edge_within, vrf_within}

-- what a customer calls for, where it does
abbrev pub IsSoundFor : Option CustomerCall → Type 0
IsSoundFor None = Unit {0}
IsSoundFor (Some call) = IsSoundCall (steps.Customer call)

given_sound : (o : Option Given) → IsSoundGiven o → IsSoundFor (message_call o)
given_sound None sound = tt
given_sound (Some given) sound = sound

pub call_is_sound : (scenario : Scenario) (event : CustomerEvent) → IsSoundEvent scenario (events.Customer event)
    → IsSoundFor (call_for scenario event)
call_is_sound scenario (customers.Join iface entry) sound = join_is_sound scenario iface entry sound.1
call_is_sound scenario (customers.Prune iface entry) sound = prune_is_sound scenario iface entry sound.1
call_is_sound scenario (customers.Pim iface octets) sound = given_sound (read_at iface octets) (read_is_sound iface octets sound)
call_is_sound scenario (customers.Active iface source group) sound = sound
call_is_sound scenario (customers.Select vrf pattern) sound = sound
call_is_sound scenario other sound = tt

pub call_is_within : (scenario : Scenario) → SoundScenario scenario → (call : CustomerCall) → IsFoundNode scenario (edge_for scenario call)
call_is_within scenario sound (steps.Select vrf pattern) = vrf_within scenario sound vrf
call_is_within scenario sound (steps.Unselect vrf pattern) = vrf_within scenario sound vrf
call_is_within scenario sound other = edge_within scenario sound _
