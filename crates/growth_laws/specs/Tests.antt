-- Whether a script takes nothing back, as tests.
use Rattle.std.specs.Prelude.{ℕ, ◌+◌, ◌==◌, ◌&&◌, min, nat_lt, not, Bool, true, false, List, [], ◌∷◌, ◌++◌, map, length, sum_by, count_by}
use Rattle.std.specs.List.{list_any}
use Rattle.mv_base.specs.Pattern.{rank}
use Rattle.mv_base.specs.Prefix.{same_front}
use Rattle.mv_base.specs.declared.ids.VrfId.{VrfId}
use Rattle.mv_base.specs.declared.prefix.Prefix.{Prefix}
use Rattle.scenario_defs.specs.Home.{local_routes}
use Rattle.scenario_defs.specs.Vpn.{same_vpn}
use Rattle.scenario_defs.specs.declared.event.Event.{Event}
use Rattle.scenario_defs.specs.declared.event.CustomerEvent.TheVariants as customers
use Rattle.scenario_defs.specs.declared.event.Event.TheVariants as events
use Rattle.scenario_defs.specs.declared.event.JoinEntry.{JoinEntry}
use Rattle.scenario_defs.specs.declared.event.JoinEntry.TheVariants as entries
use Rattle.scenario_defs.specs.declared.event.Script.{Script}
use Rattle.scenario_defs.specs.declared.event.Timed.{Timed}
use Rattle.scenario_defs.specs.declared.scenario.Route.{Route}
use Rattle.scenario_defs.specs.declared.scenario.Scenario.{Scenario}
use Rattle.scenario_defs.specs.declared.scenario.Vrf.{Vrf}
use Rattle.growth_laws.specs.Scripts.{ticks_of, is_selection}

-- ---- events

abbrev pub is_source_entry : JoinEntry → Bool
is_source_entry (entries.Source source group) = true
is_source_entry other = false

-- whether the event takes nothing back
abbrev pub only_adds : Event → Bool
only_adds (events.Customer (customers.Join iface entry)) = is_source_entry entry
only_adds (events.Customer (customers.Select vrf pattern)) = rank pattern == 4
only_adds (events.Tick count) = true
only_adds (events.Timers node) = true
only_adds (events.Move kind from to count) = true
only_adds (events.Send site source group payload) = true
only_adds (events.Packet site octets) = true
only_adds (events.Hop from to place) = true
only_adds (events.DropCopy from to place) = true
only_adds events.Heal = true
only_adds events.Settle = true
only_adds events.Drain = true
only_adds events.State = true
only_adds other = false

abbrev pub all_add : List Timed → Bool
all_add [] = true
all_add (timed ∷ more) = only_adds timed.event && all_add more

-- ---- homes

-- A route of a site that is attached at a VRF.
pub record HomeRoute : Type 0 where
  pub vrf : VrfId
  pub route : Route

-- those of the VRFs, numbered from that one on
abbrev pub homes_from : Scenario → ℕ → List Vrf → List HomeRoute
homes_from scenario number [] = []
homes_from scenario number (vrf ∷ more) =
    let id : VrfId = record { 0 = number } in
    map (λ route. record { vrf = id; route = route }) (local_routes scenario id) ++ homes_from scenario (number + 1) more

-- whether some address is covered by both
abbrev pub overlap : Prefix → Prefix → Bool
overlap a b = same_front a.addr b.addr (min a.bits b.bits)

-- whether both are of one VPN, and some address is covered by both
abbrev pub meet : Scenario → HomeRoute → HomeRoute → Bool
meet scenario a b = same_vpn scenario a.vrf b.vrf && overlap a.route.prefix b.route.prefix

abbrev pub are_apart : Scenario → List HomeRoute → Bool
are_apart scenario [] = true
are_apart scenario (first ∷ more) = not (list_any (meet scenario first) more) && are_apart scenario more

-- whether no two routes of a VPN cover an address in common
abbrev pub has_one_home : Scenario → Bool
has_one_home scenario = are_apart scenario (homes_from scenario 0 scenario.vrfs)

-- ---- scripts

-- whether the script takes nothing back, takes less time than the holdtime of a join, and has more labels than VRFs and selections
abbrev pub only_grows : Script → Bool
only_grows script =
    all_add script.events && nat_lt (sum_by (λ (timed : Timed). ticks_of timed.event) script.events) 210 && has_one_home script.scenario
    && nat_lt (length script.scenario.vrfs + count_by (λ (timed : Timed). is_selection timed.event) script.events) script.scenario.labels
