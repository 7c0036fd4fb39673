-- Scripts in which nothing is ever taken back.
use Rattle.std.specs.Prelude.{◌≡◌, ◌<◌, ℕ, ◌+◌, ⊤, Bool, true, false, List, length, sum_by, count_by}
use Rattle.std.specs.List.{AllByRecursion}
use Rattle.mv_base.specs.Lists.{Among}
use Rattle.mv_base.specs.Pattern.{rank}
use Rattle.mv_base.specs.Prefix.{covers}
use Rattle.mv_base.specs.declared.addr.Addr.{Addr}
use Rattle.mv_base.specs.declared.ids.NodeId.{NodeId}
use Rattle.mv_base.specs.declared.ids.VrfId.{VrfId}
use Rattle.scenario_defs.specs.Home.{local_routes}
use Rattle.scenario_defs.specs.Rules.{ScriptRules}
use Rattle.scenario_defs.specs.Vpn.{same_vpn}
use Rattle.scenario_defs.specs.declared.event.Event.{Event}
use Rattle.scenario_defs.specs.declared.event.CustomerEvent.TheVariants as customers
use Rattle.scenario_defs.specs.declared.event.Event.TheVariants as events
use Rattle.scenario_defs.specs.declared.event.Script.{Script}
use Rattle.scenario_defs.specs.declared.event.Timed.{Timed}
use Rattle.scenario_defs.specs.declared.scenario.Route.{Route}
use Rattle.scenario_defs.specs.declared.scenario.Scenario.{Scenario}
use Rattle.mvpn_model.specs.Report.{Entry}
use Rattle.network_defs.specs.Costs.{Cores}
use Rattle.network_defs.specs.Run.{Halts}
use Rattle.run_laws.specs.Octets.{ScriptHasOctets}
use Rattle.growth_laws.specs.Edges.{IsSourceEntry}

-- In each VPN an address is covered by the prefixes of one VRF's sites alone, and there by one prefix of one site.
abbrev pub HasOneHome : Scenario → Type 0
HasOneHome scenario = (a b : VrfId) (route other : Route) (source : Addr) → same_vpn scenario a b ≡ true
    → Among route (local_routes scenario a) → Among other (local_routes scenario b)
    → covers route.prefix source ≡ true → covers other.prefix source ≡ true → (a ≡ b) × (route ≡ other)

-- The event takes nothing back: no prune, no loss, no restart, no other cost. A join is of (S,G), and so is the pattern of a selection.
abbrev pub OnlyAdds : Event → Type 0
OnlyAdds (events.Customer (customers.Join iface entry)) = IsSourceEntry entry
OnlyAdds (events.Customer (customers.Select vrf pattern)) = rank pattern ≡ 4
OnlyAdds (events.Tick count) = ⊤
OnlyAdds (events.Timers node) = ⊤
OnlyAdds (events.Move kind from to count) = ⊤
OnlyAdds (events.Send site source group payload) = ⊤
OnlyAdds (events.Packet site octets) = ⊤
OnlyAdds (events.Hop from to place) = ⊤
OnlyAdds (events.DropCopy from to place) = ⊤
OnlyAdds events.Heal = ⊤
OnlyAdds events.Settle = ⊤
OnlyAdds events.Drain = ⊤
OnlyAdds events.State = ⊤
OnlyAdds other = ⊥

abbrev pub ticks_of : Event → ℕ
ticks_of (events.Tick count) = count
ticks_of other = 0

abbrev pub is_selection : Event → Bool
is_selection (events.Customer (customers.Select vrf pattern)) = true
is_selection other = false

-- The script takes nothing back, and all its time is less than the holdtime of a join. A node has more labels than there are VRFs and
-- selections, each of which has a tree.
pub record OnlyGrows (script : Script) : Type 0 where
  pub adds : AllByRecursion (λ (timed : Timed). OnlyAdds timed.event) script.events
  pub short : sum_by (λ (timed : Timed). ticks_of timed.event) script.events < 210
  pub home : HasOneHome script.scenario
  pub labels : length script.scenario.vrfs + count_by (λ (timed : Timed). is_selection timed.event) script.events < script.scenario.labels

-- A script that takes nothing back never runs out of labels at any node.
abbrev pub GrowingRunsNeverHalt : Type 0
GrowingRunsNeverHalt = (cores : Cores) (script : Script) (report : List Entry) (node : NodeId)
    → ScriptRules script → ScriptHasOctets script → OnlyGrows script → Halts cores script report node → ⊥
