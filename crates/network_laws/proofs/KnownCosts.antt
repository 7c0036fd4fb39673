-- After each event every node knows the present costs.
use Rattle.std.specs.Prelude.{if◌then◌else◌}
use Rattle.std.proofs.Common.{◌≡◌, ◌<◌, ◌≤◌, ℕ, zero, suc, ◌+◌, ◌==◌, inl, inr, List, [], ◌∷◌, map, length, Option, Some, None, refl, sym, ap, subst, ◌∙◌, arith}
use Rattle.std.specs.List.{AllByRecursion}
use Rattle.std.proofs.lemmas.Bool.{cases_eq, cond-true, cond-false, eq-eqb, ne_eqb}
use Rattle.mv_base.specs.declared.ids.NodeId.{NodeId}
use Rattle.mv_base.specs.core_walks.Costs.{with_cost}
use Rattle.scenario_defs.specs.declared.event.Event.{Event}
use Rattle.scenario_defs.specs.declared.event.Event.TheVariants as events
use Rattle.scenario_defs.specs.declared.event.Timed.{Timed}
use Rattle.scenario_defs.specs.declared.report.Refusal.{Refusal}
use Rattle.scenario_defs.specs.declared.report.ReportLine.TheVariants as lines
use Rattle.scenario_defs.specs.declared.scenario.Scenario.{Scenario}
use Rattle.network_defs.specs.session_defs.Octets as octets
use Rattle.network_defs.specs.session_defs.Octets.{with_step}
use Rattle.network_defs.specs.session_defs.System.{Stepped, with_earlier}
use Rattle.mv_base.specs.Number.{◌>>?◌}
use Rattle.network_defs.specs.edge_defs.Steps as steps
use Rattle.network_defs.specs.Acts.{SetCost, Reroute, act, with_network}
use Rattle.network_defs.specs.Costs.{Cores}
use Rattle.network_defs.specs.Counts.{all_nodes, node_ids}
use Rattle.network_defs.specs.Events.{Happened, Done, row, one_act, cost_acts, done}
use Rattle.network_defs.specs.Nodes.{Nodes, following}
use Rattle.network_defs.specs.Refusals.{refusal}
use Rattle.network_defs.specs.Run.{Traced, outcome, Runs}
use Rattle.network_defs.specs.System.{node_called}
use Rattle.network_defs.specs.World.{World, scenario_of, start}
use Rattle.network_defs.proofs.Kept.{Gives, Comes, comes_as, then_comes, one_comes}
use Rattle.network_laws.specs.Costs.{KnowCosts}
use Rattle.network_laws.specs.Honest.{IsSoundEvent}
use Rattle.network_laws.specs.SoundRun.{SoundRun}
use Rattle.network_laws.proofs.RunActs.{WorldStays}
use Rattle.network_laws.proofs.RunEvents.{turned_stays, start_stays, run_stays}
use Rattle.scenario_defs.specs.declared.event.Script.{Script}
use Rattle.mv_base.specs.core_walks.Core.{IsCoreOf}
use Rattle.network_laws.proofs.Costs.{Costs, costs_of, StepHas, WorldCosts, called_has, act_costs}
use Rattle.network_laws.proofs.SteadyEvents.{IsNoCost, steady_event}

-- ---- nodes that act on the present costs

-- the costs after a node that acts on the present ones
abbrev follows : NodeId → Costs → Costs
follows at old = record old { known = λ n. if n.0 == at.0 then old.links else old.known n }

price_costs : (costs : Costs) (a b : NodeId) (cost : ℕ) (world : World) → WorldCosts costs world
    → Gives (WorldCosts (record costs { links = with_cost a b cost costs.links })) (act world (SetCost a b cost))
price_costs costs a b cost world h = λ i. record { cores = (h i).cores; links = with_cost a b cost (h i).links; known = (h i).known }

follow_costs : (costs : Costs) (n : NodeId) (world : World) → WorldCosts costs world → Gives (WorldCosts (follows n costs)) (act world (Reroute n))
follow_costs costs n world h =
    by (node_called (following nodes n) n (nodes.node n) steps.Rerouted)
    (called_has (follows n costs) (following nodes n) n (nodes.node n) steps.Rerouted (λ i. follows n (h i)))
  where
    nodes : Nodes
    nodes = world.network.state

    by : (o : Option (Stepped Nodes)) → StepHas (follows n costs) o
        → Gives (WorldCosts (follows n costs)) (with_network world []
        (with_step world.network o >>? λ next. with_earlier next.puts (Some (record { network = next.network; puts = [] }))) n)
    by None k = tt
    by (Some new) k = k

all_follow : List NodeId → Costs → Costs
all_follow [] costs = costs
all_follow (n ∷ more) costs = all_follow more (follows n costs)

row_follows : (ns : List NodeId) (costs : Costs) (world : World) → WorldCosts costs world
    → Comes (WorldCosts (all_follow ns costs)) (row (map (λ n. Reroute n) ns) world)
unfolding all_follow
row_follows [] costs world h = h
row_follows (n ∷ more) costs world h =
    then_comes (WorldCosts (follows n costs)) (WorldCosts (all_follow more (follows n costs))) (one_act world (Reroute n))
    (row (map (λ m. Reroute m) more))
    (one_comes (WorldCosts (follows n costs)) world (Reroute n) (follow_costs costs n world h)) (λ next k. row_follows more (follows n costs) next k)

-- what nodes that follow leave
pub record Followed (number count : ℕ) (old new : Costs) : Type 0 where
  pub cores : new.cores ≡ old.cores
  pub links : new.links ≡ old.links
  pub below : (n : NodeId) → n.0 < number → new.known n ≡ old.known n
  pub within : (n : NodeId) → number ≤ n.0 → n.0 < number + count → new.known n ≡ old.links

followed : (number count : ℕ) (old : Costs) → Followed number count old (all_follow (node_ids number count) old)
unfolding all_follow
followed number zero old = record { cores = refl; links = refl; below = λ n lt. refl; within = λ n le lt. absurd (omega (arith, le, lt)) }
followed number (suc count) old =
    let first : NodeId = record { 0 = number } in
    let next : Costs = follows first old in
    let x = followed (number + 1) count next in
    record {
      cores = x.cores;
      links = x.links;
      below = λ n lt. x.below n (omega (arith, lt))
          ∙ cond-false (n.0 == number) old.links (old.known n) (ne_eqb n.0 number (λ e. omega (arith, e, lt)));
      within = λ n le lt. elim (cases_eq n.0 number) [
        | inl e ↦ x.below n (omega (arith, e)) ∙ cond-true (n.0 == number) old.links (old.known n) (eq-eqb n.0 number e)
        | inr ne ↦ x.within n (after n.0 number le ne) (omega (arith, lt))
      ];
    }
  where
    after : (a b : ℕ) → b ≤ a → (a ≡ b → ⊥) → b + 1 ≤ a
    after a b le ne = elim (cases_eq a b) [ inl e ↦ absurd (ne e) | inr apart ↦ omega (arith, le, apart) ]

-- ---- events

-- the costs that the nodes of a scenario know are the present ones
pub record Know (scenario : Scenario) (cores : Cores) (world : World) : Type 0 where
  pub same : scenario_of world ≡ scenario
  pub cores_are : world.network.state.cores ≡ cores
  pub present : (n : NodeId) → n.0 < length scenario.nodes → world.network.state.known n ≡ world.network.state.links

know_by : (scenario : Scenario) (cores : Cores) (costs : Costs) (world : World) → scenario_of world ≡ scenario → WorldCosts costs world
    → costs.cores ≡ cores → ((n : NodeId) → n.0 < length scenario.nodes → costs.known n ≡ costs.links) → Know scenario cores world
know_by scenario cores costs world same h e k = record {
  same = same;
  cores_are = ap (λ (c : Costs). c.cores) h ∙ e;
  present = λ n lt. subst (λ (c : Costs). c.known n ≡ c.links) (sym h) (k n lt);
}

-- what is known after an outcome
abbrev KnownBehind : Scenario → Cores → World → Type 0
KnownBehind scenario cores next =
    (costs : Costs) × WorldCosts costs next × (costs.cores ≡ cores) × ((n : NodeId) → n.0 < length scenario.nodes → costs.known n ≡ costs.links)

cost_known : (scenario : Scenario) (cores : Cores) (world : World) (a b : NodeId) (cost : ℕ) → Know scenario cores world
    → Comes (KnownBehind scenario cores) (row (cost_acts (scenario_of world) a b cost) world)
cost_known scenario cores world a b cost know =
    let old : Costs = costs_of world.network.state in
    let priced : Costs = record old { links = with_cost a b cost old.links } in
    let ns = all_nodes (scenario_of world) in
    let last : Costs = all_follow ns priced in
    let count : length (scenario_of world).nodes ≡ length scenario.nodes = ap (λ (s : Scenario). length s.nodes) know.same in
    let x : Followed 0 (length (scenario_of world).nodes) priced last = followed 0 (length (scenario_of world).nodes) priced in
    comes_as (WorldCosts last) (KnownBehind scenario cores)
    (row (cost_acts (scenario_of world) a b cost) world)
    (λ next h. (last, h, x.cores ∙ know.cores_are, λ n lt. x.within n (omega arith) (omega (arith, lt, count)) ∙ sym x.links))
    (then_comes (WorldCosts priced) (WorldCosts last) (one_act world (SetCost a b cost)) (row (map (λ n. Reroute n) ns))
    (one_comes (WorldCosts priced) world (SetCost a b cost) (price_costs old a b cost world refl)) (λ next h. row_follows ns priced next h))

steady_known : (scenario : Scenario) (cores : Cores) (event : Event) → IsNoCost event → (world : World) → Know scenario cores world
    → Comes (KnownBehind scenario cores) (done world event)
steady_known scenario cores event is world know =
    let old : Costs = costs_of world.network.state in
    comes_as (WorldCosts old) (KnownBehind scenario cores) (done world event) (λ next h. (old, h, know.cores_are, know.present))
    (steady_event (WorldCosts old) (act_costs old) (λ one datagrams h. h) event is world refl)

event_known : (scenario : Scenario) (cores : Cores) (event : Event) (world : World) → Know scenario cores world
    → Comes (KnownBehind scenario cores) (done world event)
event_known scenario cores (events.Cost a b cost) world know = cost_known scenario cores world a b cost know
event_known scenario cores other world know = steady_known scenario cores other tt world know

outcome_known : (scenario : Scenario) (cores : Cores) (old : World) → Know scenario cores old → (timed : Timed) (acts : List Happened) (next : World)
    → outcome old timed ≡ Done acts next → scenario_of next ≡ scenario → Know scenario cores next
outcome_known scenario cores old know timed acts next e same =
    let x : KnownBehind scenario cores next = subst (Comes (KnownBehind scenario cores)) e (by (refusal old timed.event)) in
    know_by scenario cores x.0 next same x.1 x.2 x.3
  where
    by : (o : Option Refusal) → Comes (KnownBehind scenario cores)
        (elim o [ None ↦ done old timed.event | Some reason ↦ Done (record { act = None; lines = lines.Refused timed.line reason ∷ [] } ∷ []) old ])
    by None = event_known scenario cores timed.event old know
    by (Some reason) = (costs_of old.network.state, refl, know.cores_are, know.present)

-- ---- runs

pub runs_known : (scenario : Scenario) (cores : Cores) (all : List Timed) → AllByRecursion (λ timed. IsSoundEvent scenario timed.event) all
    → (old : World) (number : ℕ) (trace : List Traced) (new : World)
    → WorldStays scenario old → Know scenario cores old → Runs old number all trace new → Know scenario cores new
runs_known scenario cores [] sound old number trace new s know run = subst (Know scenario cores) (sym run.1) know
runs_known scenario cores (timed ∷ more) sound old number trace new s know run =
    let next = turned_stays scenario old s timed sound.0 run.0 run.1 run.3 in
    runs_known scenario cores more sound.1 run.1 (number + 1) run.2 new next
    (outcome_known scenario cores old know timed run.0 run.1 run.3 next.0.same) run.5

pub run_known : (script : Script) (cores : Cores) (all : List Timed) (trace : List Traced) (new : World) → SoundRun cores script all trace new
    → KnowCosts script.scenario cores new.network.state
run_known script cores all trace new run =
    let scenario = script.scenario in
    let stays = run_stays scenario cores all trace new run.scenario run.sound_events run.run in
    let know =
    runs_known scenario cores all run.sound_events (start scenario cores) 0 trace new (start_stays scenario cores run.scenario)
    (record { same = refl; cores_are = refl; present = λ n lt. refl }) run.run in
    record {
      cores_are = know.cores_are;
      links = stays.0.links;
      present = know.present;
      core = λ n. subst (λ (own : Cores). IsCoreOf (length scenario.nodes) (new.network.state.known n) (own (new.network.state.known n)))
          (sym know.cores_are)
          (run.of_scenario.core (new.network.state.known n) (stays.0.known n));
    }
