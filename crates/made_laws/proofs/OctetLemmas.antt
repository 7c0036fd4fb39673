-- The script of each number holds octets.
use Rattle.std.proofs.Common.{◌≡◌, ℕ, zero, suc, ◌+◌, ◌*◌, ◌%◌, ◌<◌, ◌==◌, ◌&&◌, not, Bool, true, false, cond, List, [], ◌∷◌, ◌++◌, arith}
use Rattle.std.specs.Prelude.{All, Some}
use Rattle.std.specs.List.{AllByRecursion}
use Rattle.std.proofs.lemmas.List.Elements.{All-append, All-cons, All-nil}
use Rattle.mv_base.specs.Address.{addr_octets}
use Rattle.mv_base.specs.Octets.{IsOctets}
use Rattle.mv_base.specs.declared.prefix.Prefix.{Prefix}
use Rattle.mv_base.specs.declared.route_targets.communities.Target.{Target}
use Rattle.scenario_defs.specs.declared.event.Event.{Event}
use Rattle.scenario_defs.specs.declared.event.CustomerEvent.TheVariants as customers
use Rattle.scenario_defs.specs.declared.event.Event.TheVariants as events
use Rattle.scenario_defs.specs.declared.event.JoinEntry.TheVariants.{Source}
use Rattle.scenario_defs.specs.declared.scenario.Iface.{Iface}
use Rattle.scenario_defs.specs.declared.scenario.Node.{Node}
use Rattle.scenario_defs.specs.declared.scenario.Site.{Site}
use Rattle.scenario_defs.specs.declared.scenario.Vrf.{Vrf}
use Rattle.growth_laws.proofs.network_laws.Lists.{each_append}
use Rattle.growth_laws.specs.network_laws.Sound.{HasOctets}
use Rattle.growth_laws.specs.run_laws.Octets.{EventHasOctets, ScriptHasOctets, flow_octets}
use Rattle.made_laws.specs.MadeScript.{each, all, ipv4, edge_node, core_node, vrf_id, iface_id, vrf, site, iface, source, source_edge, group, join, send, selection, first_events, last_events, made_scenario, made_events, made_script}
use Rattle.made_laws.proofs.GrowLemmas.{lines_have}

-- ---- octets

none_octets : IsOctets []
none_octets i = omega arith

one_octet : (x : ℕ) (more : List ℕ) → x < 256 → IsOctets more → IsOctets (x ∷ more)
one_octet x more fits rest zero = fits
one_octet x more fits rest (suc i) = rest i

four_octets : (a b c d : ℕ) → a < 256 → b < 256 → c < 256 → d < 256 → IsOctets (a ∷ b ∷ c ∷ d ∷ [])
four_octets a b c d i j k l =
    one_octet a (b ∷ c ∷ d ∷ []) i (one_octet b (c ∷ d ∷ []) j (one_octet c (d ∷ []) k (one_octet d [] l none_octets)))

-- ---- what there is for each number

all_of_each : {A : Type 0} (P : A → Type 0) (of : ℕ → List A) (count : ℕ) → ((k : ℕ) → k < count → All P (of (suc k))) → All P (each of count)
all_of_each P of zero h = All-nil P
all_of_each P of (suc count) h =
    All-append P (each of count) (of (suc count)) (all_of_each P of count (λ k less. h k (omega (arith, less)))) (h count (omega arith))

all_of_all : {A : Type 0} (P : A → Type 0) (of : ℕ → A) (count : ℕ) → ((k : ℕ) → k < count → P (of (suc k))) → All P (all of count)
all_of_all P of count h = all_of_each P (λ number. of number ∷ []) count (λ k less. All-cons P (of (suc k)) [] (h k less) (All-nil P))

-- what there is of each VPN at each edge
all_of_places : {A : Type 0} (P : A → Type 0) (of : ℕ → ℕ → A) (vpns edges : ℕ) → ((e v : ℕ) → e < edges → v < vpns → P (of (suc e) (suc v)))
    → All P (each (λ edge. all (of edge) vpns) edges)
all_of_places P of vpns edges h =
    all_of_each P (λ edge. all (of edge) vpns) edges (λ e less. all_of_all P (of (suc e)) vpns (λ v few. h e v less few))

-- ---- the scenario

abbrev IsNodeOfOctets : Node → Type 0
IsNodeOfOctets node = IsOctets (addr_octets node.addr)

edges_have : All IsNodeOfOctets (all edge_node 32)
edges_have =
    all_of_all IsNodeOfOctets edge_node 32 (λ k less. four_octets 192 0 2 (suc k) (omega arith) (omega arith) (omega arith) (omega (arith, less)))

cores_have : All IsNodeOfOctets (all core_node 16)
cores_have =
    all_of_all IsNodeOfOctets core_node 16 (λ k less. four_octets 192 0 3 (suc k) (omega arith) (omega arith) (omega arith) (omega (arith, less)))

eight_octets : (kind v : ℕ) → kind < 256 → v < 8 → IsOctets (0 ∷ kind ∷ 253 ∷ 232 ∷ 0 ∷ 0 ∷ 0 ∷ suc v ∷ [])
eight_octets kind v fits less =
    one_octet 0 (kind ∷ 253 ∷ 232 ∷ 0 ∷ 0 ∷ 0 ∷ suc v ∷ []) (omega arith)
    (one_octet kind (253 ∷ 232 ∷ 0 ∷ 0 ∷ 0 ∷ suc v ∷ []) fits
    (one_octet 253 (232 ∷ 0 ∷ 0 ∷ 0 ∷ suc v ∷ []) (omega arith)
    (one_octet 232 (0 ∷ 0 ∷ 0 ∷ suc v ∷ []) (omega arith)
    (four_octets 0 0 0 (suc v) (omega arith) (omega arith) (omega arith) (omega (arith, less))))))

-- the only target of a VRF, and the only prefix of a site
abbrev target : ℕ → Target
target vpn = record { 0 = record { 0 = 0 ∷ 2 ∷ 253 ∷ 232 ∷ 0 ∷ 0 ∷ 0 ∷ vpn ∷ [] } }

abbrev prefix : ℕ → ℕ → Prefix
prefix edge vpn = record { addr = ipv4 10 edge vpn 0; bits = 24 }

abbrev IsTargetOfOctets : Target → Type 0
IsTargetOfOctets own = IsOctets own.0.0

abbrev IsPrefixOfOctets : Prefix → Type 0
IsPrefixOfOctets own = IsOctets (addr_octets own.addr)

scenario_has : HasOctets made_scenario
unfolding made_scenario
scenario_has = record {
  nodes = All-append IsNodeOfOctets (all edge_node 32) (all core_node 16) edges_have cores_have;
  rds = all_of_places (λ (own : Vrf). IsOctets own.rd.0) vrf 8 32 (λ e v less few. eight_octets 0 v (omega arith) few);
  targets =
      all_of_places (λ (own : Vrf). All IsTargetOfOctets own.targets) vrf 8 32
      (λ e v less few. All-cons IsTargetOfOctets (target (suc v)) [] (eight_octets 2 v (omega arith) few) (All-nil IsTargetOfOctets));
  prefixes =
      all_of_places (λ (own : Site). All IsPrefixOfOctets own.prefixes) site 8 32
      (λ e v less few. All-cons IsPrefixOfOctets (prefix (suc e) (suc v)) []
      (four_octets 10 (suc e) (suc v) 0 (omega arith) (omega (arith, less)) (omega (arith, few)) (omega arith)) (All-nil IsPrefixOfOctets));
  ifaces =
      all_of_places (λ (own : Iface). IsOctets (addr_octets own.addr)) iface 8 32
      (λ e v less few. four_octets 10 (suc e) (suc v) 1 (omega arith) (omega (arith, less)) (omega (arith, few)) (omega arith));
}

-- ---- rows of events

abbrev Have : List Event → Type 0
Have row = AllByRecursion EventHasOctets row

then_have : (row more : List Event) → Have row → Have more → Have (row ++ more)
then_have row more a b = each_append EventHasOctets row more a b

each_have : (of : ℕ → List Event) (count : ℕ) → ((k : ℕ) → k < count → Have (of (suc k))) → Have (each of count)
each_have of zero h = tt
each_have of (suc count) h =
    then_have (each of count) (of (suc count)) (each_have of count (λ k less. h k (omega (arith, less)))) (h count (omega arith))

one_has : (b : Bool) (event : Event) → EventHasOctets event → Have (cond b (event ∷ []) [])
one_has true event h = (h, tt)
one_has false event h = tt

-- ---- the events of a number

flow_has : (number v : ℕ) → v < 8 → AllByRecursion IsOctets (flow_octets (source number (suc v)) (group (suc v)))
flow_has number v few = (
  four_octets 10 (source_edge number (suc v)) (suc v) 9 (omega arith) (omega arith) (omega (arith, few)) (omega arith),
  (four_octets 232 1 1 (suc v) (omega arith) (omega arith) (omega arith) (omega (arith, few)), tt),
)

joins_have : (number : ℕ) → Have (each (λ vpn. each (join number vpn) 32) 8)
joins_have number =
    each_have (λ vpn. each (join number vpn) 32) 8
    (λ v few. each_have (join number (suc v)) 32 (λ e less. one_has (not (suc e == source_edge number (suc v)) && (suc e + suc v + number) % 4 == 0)
    (events.Customer (customers.Join (iface_id (suc e) (suc v)) (Source (source number (suc v)) (group (suc v))))) (flow_has number v few)))

sends_have : (number octet : ℕ) → octet < 256 → Have (all (send number octet) 8)
sends_have number octet fits =
    each_have (λ vpn. send number octet vpn ∷ []) 8
    (λ v few. (let flow = flow_has number v few in ((flow.0, (flow.1.0, (one_octet octet [] fits none_octets, tt))), tt)))

selections_have : (number : ℕ) → Have (each (selection number) 8)
selections_have number =
    each_have (selection number) 8
    (λ v few. one_has (suc v % 2 == 1)
    (events.Customer (customers.Select (vrf_id (source_edge number (suc v)) (suc v)) (record { source = Some (source number (suc v)); group = Some (group (suc v)) })))
    (flow_has number v few))

first_have : (number : ℕ) → Have (first_events number)
first_have number =
    let raise : List Event = events.Heal ∷ events.Settle ∷ events.Tick 3 ∷ events.Settle ∷ [] in
    let joins : List Event = each (λ vpn. each (join number vpn) 32) 8 in
    let state : List Event = events.Settle ∷ events.State ∷ [] in
    let sends : List Event = all (send number 1) 8 in
    then_have (raise ++ joins ++ state ++ sends) (events.Drain ∷ [])
    (then_have (raise ++ joins ++ state) sends
    (then_have (raise ++ joins) state (then_have raise joins (tt, (tt, (tt, (tt, tt)))) (joins_have number)) (tt, (tt, tt)))
    (sends_have number 1 (omega arith))) (tt, tt)

last_have : (number : ℕ) → Have (last_events number)
last_have number =
    let picks : List Event = each (selection number) 8 in
    let state : List Event = events.Settle ∷ events.State ∷ [] in
    let sends : List Event = all (send number 2) 8 in
    let wait : List Event = events.Drain ∷ events.Tick 3 ∷ events.Settle ∷ events.State ∷ [] in
    let more : List Event = all (send number 3) 8 in
    then_have (picks ++ state ++ sends ++ wait ++ more) (events.Drain ∷ events.State ∷ [])
    (then_have (picks ++ state ++ sends ++ wait) more
    (then_have (picks ++ state ++ sends) wait
    (then_have (picks ++ state) sends (then_have picks state (selections_have number) (tt, (tt, tt))) (sends_have number 2 (omega arith)))
    (tt, (tt, (tt, (tt, tt)))))
    (sends_have number 3 (omega arith))) (tt, (tt, tt))

events_have : (number : ℕ) → Have (made_events number)
unfolding made_events
events_have number = then_have (first_events number) (last_events number) (first_have number) (last_have number)

pub made_octets : (number : ℕ) → ScriptHasOctets (made_script number)
unfolding made_script
made_octets number = record { scenario = scenario_has; events = lines_have EventHasOctets 866 (made_events number) (events_have number) }
