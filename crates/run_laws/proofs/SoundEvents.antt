-- Events that a scenario allows are of sound values.
use Rattle.std.specs.Prelude.{IfSome}
use Rattle.std.proofs.Common.{◌≡◌, refl, ℕ, ◌<◌, List, [], ◌∷◌, ◌++◌, take, drop, length, Option, None, Some, subst}
use Rattle.std.specs.List.{AllByRecursion}
use Rattle.std.proofs.lemmas.Option.{slice_get_within}
use Rattle.mv_base.specs.Address.{addr_octets}
use Rattle.mv_base.specs.Octets.{IsOctets}
use Rattle.mv_base.specs.declared.addr.Addr.{Addr}
use Rattle.mv_base.specs.declared.addr.Addr.TheVariants.{V4, V6}
use Rattle.mv_base.specs.declared.ids.NodeId.{NodeId}
use Rattle.mv_base.specs.declared.pattern.Pattern.{Pattern}
use Rattle.mv_base.specs.core_walks.Topology.{IsTopology}
use Rattle.mv_base.proofs.core_walks.WalkLemmas.{good}
use Rattle.rule_laws.specs.bgp_values.mvpn_nlri.Spelling.{IsAnyOr}
use Rattle.scenario_defs.specs.Rules.{Rules, ScriptRules, IsUnicast, IsGroup, AreOfOneFamily, NamesFlow, IsEntry, IsPattern, HaveSession, IsEventOf}
use Rattle.scenario_defs.specs.declared.event.Event.{Event}
use Rattle.scenario_defs.specs.declared.event.CustomerEvent.TheVariants as customers
use Rattle.scenario_defs.specs.declared.event.Event.TheVariants as events
use Rattle.scenario_defs.specs.declared.event.JoinEntry.{JoinEntry}
use Rattle.scenario_defs.specs.declared.event.JoinEntry.TheVariants as entries
use Rattle.scenario_defs.specs.declared.event.Kind.{Kind}
use Rattle.scenario_defs.specs.declared.event.Kind.TheVariants as kinds
use Rattle.scenario_defs.specs.declared.event.Script.{Script}
use Rattle.scenario_defs.specs.declared.event.Timed.{Timed}
use Rattle.scenario_defs.specs.declared.scenario.Scenario.{Scenario}
use Rattle.network_defs.specs.Costs.{Cores, AreCoresOf}
use Rattle.network_defs.specs.Run.{Traced, Run}
use Rattle.network_defs.specs.World.{World}
use Rattle.delivery_laws.specs.network_laws.Honest.{IsSoundEvent}
use Rattle.delivery_laws.specs.network_laws.Sound.{IsCustomer, IsGroupAddr, IsFlow, AreAlike, SoundEntry, SoundPattern}
use Rattle.delivery_laws.specs.network_laws.SoundRun.{SoundRun}
use Rattle.delivery_laws.specs.bgp_messages.bgp_update.Written.{afi_of}
use Rattle.delivery_laws.proofs.network_laws.Lists.{each_front}
use Rattle.delivery_laws.proofs.Splits.{cut_in_two}
use Rattle.run_laws.specs.Octets.{entry_octets, word_octets, EventHasOctets, ScriptHasOctets}

-- ---- addresses

customer : (addr : Addr) → IsUnicast addr → IsOctets (addr_octets addr) → IsCustomer addr
customer (V4 octets) unicast is = (unicast.0, is)
customer (V6 octets) unicast is = (unicast.0, is)

group_addr : (addr : Addr) → IsGroup addr → IsOctets (addr_octets addr) → IsGroupAddr addr
group_addr (V4 octets) (four, low, high, apart) is = ((four, is), (low, high))
group_addr (V6 octets) (sixteen, first, scope) is = ((sixteen, is), first)

alike : (source group : Addr) → AreOfOneFamily source group → afi_of source ≡ afi_of group
alike (V4 s) (V4 g) one = refl
alike (V6 s) (V6 g) one = refl
alike (V4 s) (V6 g) one = absurd one
alike (V6 s) (V4 g) one = absurd one

flow_sound : (source group : Addr) → NamesFlow source group → IsOctets (addr_octets source) → IsOctets (addr_octets group) → IsFlow source group
flow_sound source group names o p = (customer source names.unicast o, group_addr group names.multicast p, alike source group names.family)

entry_sound : (entry : JoinEntry) → IsEntry entry → AllByRecursion IsOctets (entry_octets entry) → SoundEntry entry
entry_sound (entries.Star group) is octets = group_addr group is octets.0
entry_sound (entries.Source source group) is octets = flow_sound source group is octets.0 octets.1.0
entry_sound (entries.Rpt source group) is octets = flow_sound source group is octets.0 octets.1.0

any_customer : (word : Option Addr) → IfSome word IsUnicast → AllByRecursion IsOctets (word_octets word) → IsAnyOr IsCustomer word
any_customer None is octets = tt
any_customer (Some addr) is octets = customer addr is octets.0

any_group : (word : Option Addr) → IfSome word IsGroup → AllByRecursion IsOctets (word_octets word) → IsAnyOr IsGroupAddr word
any_group None is octets = tt
any_group (Some addr) is octets = group_addr addr is octets.0

words_alike : (source group : Option Addr) → IfSome source (λ addr. IfSome group (AreOfOneFamily addr)) → AreAlike source group
words_alike None group one = tt
words_alike (Some source) None one = tt
words_alike (Some source) (Some group) one = alike source group one

words_sound : (pattern : Pattern) → IsPattern pattern → AllByRecursion IsOctets (word_octets pattern.source ++ word_octets pattern.group)
    → SoundPattern pattern
words_sound pattern is octets =
    let each = each_of pattern.source pattern.group octets in
    (any_customer pattern.source is.source each.0, any_group pattern.group is.group each.1, words_alike pattern.source pattern.group is.family)
  where
    each_of : (source group : Option Addr) → AllByRecursion IsOctets (word_octets source ++ word_octets group)
        → AllByRecursion IsOctets (word_octets source) × AllByRecursion IsOctets (word_octets group)
    each_of None group octets = (tt, octets)
    each_of (Some addr) group octets = ((octets.0, tt), octets.1)

-- ---- events

within_by : (scenario : Scenario) → IsTopology (length scenario.nodes) scenario.links → (kind : Kind) (a b : NodeId) → HaveSession scenario kind a b
    → a.0 < length scenario.nodes
within_by scenario topology kinds.Bgp a b (edge, other, apart) = slice_get_within scenario.nodes a.0 edge.node edge.at
within_by scenario topology kinds.Ldp a b (cost, linked) = (good (length scenario.nodes) scenario.links a.0 b.0 cost topology linked).a_within

sound_by : (scenario : Scenario) → IsTopology (length scenario.nodes) scenario.links → (event : Event) → IsEventOf scenario event
    → EventHasOctets event → IsSoundEvent scenario event
sound_by scenario topology (events.Tick count) is octets = tt
sound_by scenario topology (events.Timers node) is octets = is
sound_by scenario topology (events.Restart node) is octets = tt
sound_by scenario topology (events.Move kind from to count) is octets = tt
sound_by scenario topology (events.Lose kind a b) is octets = tt
sound_by scenario topology (events.Notice kind a b) is octets = within_by scenario topology kind a b is
sound_by scenario topology (events.Raise kind a b) is octets = tt
sound_by scenario topology (events.Customer (customers.Join iface entry)) is octets = (is.0, entry_sound entry is.1 octets)
sound_by scenario topology (events.Customer (customers.Prune iface entry)) is octets = (is.0, entry_sound entry is.1 octets)
sound_by scenario topology (events.Customer (customers.Pim iface bytes)) is octets = octets.0
sound_by scenario topology (events.Customer (customers.Active iface source group)) is octets = flow_sound source group is.1 octets.0 octets.1.0
sound_by scenario topology (events.Send site source group payload) is octets = tt
sound_by scenario topology (events.Packet site bytes) is octets = tt
sound_by scenario topology (events.Customer (customers.Select vrf pattern)) is octets = words_sound pattern is.1 octets
sound_by scenario topology (events.Customer other) is octets = tt
sound_by scenario topology (events.Hop from to place) ((cost, linked), counted, few) octets =
    record { cost = cost; linked = linked; counted = counted }
sound_by scenario topology (events.DropCopy from to place) ((cost, linked), counted, few) octets =
    record { cost = cost; linked = linked; counted = counted }
sound_by scenario topology events.Heal is octets = tt
sound_by scenario topology events.Settle is octets = tt
sound_by scenario topology events.Drain is octets = tt
sound_by scenario topology events.State is octets = tt
sound_by scenario topology (events.Cost a b cost) is octets = (is.1, is.2)

pub sound_event : (scenario : Scenario) (event : Event) → Rules scenario → IsEventOf scenario event → EventHasOctets event
    → IsSoundEvent scenario event
sound_event scenario event rules is octets = sound_by scenario rules.core.topology event is octets

-- ---- scripts

all_sound : (scenario : Scenario) → Rules scenario → (row : List Timed) → AllByRecursion (λ (timed : Timed). IsEventOf scenario timed.event) row
    → AllByRecursion (λ (timed : Timed). EventHasOctets timed.event) row
    → AllByRecursion (λ (timed : Timed). IsSoundEvent scenario timed.event) row
all_sound scenario rules [] is octets = tt
all_sound scenario rules (timed ∷ more) is octets =
    (sound_event scenario timed.event rules is.0 octets.0, all_sound scenario rules more is.1 octets.1)

pub sound_first : (script : Script) (count : ℕ) → ScriptRules script → ScriptHasOctets script
    → AllByRecursion (λ (timed : Timed). IsSoundEvent script.scenario timed.event) (take count script.events)
sound_first script count rules octets =
    let all : AllByRecursion (λ (timed : Timed). IsSoundEvent script.scenario timed.event) script.events =
    all_sound script.scenario rules.scenario script.events rules.events octets.events in
    each_front (λ (timed : Timed). IsSoundEvent script.scenario timed.event) (take count script.events) (drop count script.events)
    (subst (AllByRecursion (λ (timed : Timed). IsSoundEvent script.scenario timed.event)) (cut_in_two count script.events) all)

pub sound_run : (cores : Cores) (script : Script) (count : ℕ) (trace : List Traced) (new : World) → ScriptRules script → ScriptHasOctets script
    → AreCoresOf script.scenario cores → Run cores script (take count script.events) trace new
    → SoundRun cores script (take count script.events) trace new
sound_run cores script count trace new rules octets of_scenario run = record {
  scenario = record { rules = rules.scenario; octets = octets.scenario };
  of_scenario = of_scenario;
  sound_events = sound_first script count rules octets;
  run = run;
}
