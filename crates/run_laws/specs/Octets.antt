-- The octets that a script holds.
use Rattle.std.specs.Prelude.{ℕ, List, [], ◌∷◌, ◌++◌, Option, None, Some}
use Rattle.std.specs.List.{AllByRecursion}
use Rattle.mv_base.specs.Address.{addr_octets}
use Rattle.mv_base.specs.Octets.{IsOctets}
use Rattle.mv_base.specs.declared.addr.Addr.{Addr}
use Rattle.mv_base.specs.declared.pattern.Pattern.{Pattern}
use Rattle.scenario_defs.specs.declared.event.Event.{Event}
use Rattle.scenario_defs.specs.declared.event.CustomerEvent.TheVariants as customers
use Rattle.scenario_defs.specs.declared.event.Event.TheVariants as events
use Rattle.scenario_defs.specs.declared.event.JoinEntry.{JoinEntry}
use Rattle.scenario_defs.specs.declared.event.JoinEntry.TheVariants as entries
use Rattle.scenario_defs.specs.declared.event.Script.{Script}
use Rattle.delivery_laws.specs.network_laws.Sound.{HasOctets}

abbrev pub flow_octets : Addr → Addr → List (List ℕ)
flow_octets source group = addr_octets source ∷ addr_octets group ∷ []

abbrev pub entry_octets : JoinEntry → List (List ℕ)
entry_octets (entries.Star group) = addr_octets group ∷ []
entry_octets (entries.Source source group) = flow_octets source group
entry_octets (entries.Rpt source group) = flow_octets source group

abbrev pub word_octets : Option Addr → List (List ℕ)
word_octets None = []
word_octets (Some addr) = addr_octets addr ∷ []

abbrev pub pattern_octets : Pattern → List (List ℕ)
pattern_octets pattern = word_octets pattern.source ++ word_octets pattern.group

-- the addresses, messages, payloads and packets that an event holds, in octets
abbrev pub octets_in : Event → List (List ℕ)
octets_in (events.Customer (customers.Join iface entry)) = entry_octets entry
octets_in (events.Customer (customers.Prune iface entry)) = entry_octets entry
octets_in (events.Customer (customers.Pim iface bytes)) = bytes ∷ []
octets_in (events.Customer (customers.Active iface source group)) = flow_octets source group
octets_in (events.Customer (customers.Idle iface source group)) = flow_octets source group
octets_in (events.Send site source group payload) = flow_octets source group ++ payload ∷ []
octets_in (events.Packet site bytes) = bytes ∷ []
octets_in (events.Customer (customers.Select vrf pattern)) = pattern_octets pattern
octets_in (events.Customer (customers.Unselect vrf pattern)) = pattern_octets pattern
octets_in other = []

-- What an event holds is octets, as it is in any program.
abbrev pub EventHasOctets : Event → Type 0
EventHasOctets event = AllByRecursion IsOctets (octets_in event)

-- What a script holds is octets, as it is in any program.
pub record ScriptHasOctets (script : Script) : Type 0 where
  pub scenario : HasOctets script.scenario
  pub events : AllByRecursion (λ timed. EventHasOctets timed.event) script.events
