-- A cost that changes: each node in turn acts on the present costs, and then none is late.
use Rattle.std.proofs.Common.{◌≡◌, ◌∙◌, refl, sym, ap, subst, arith, inl, inr, ℕ, zero, suc, ◌+◌, ◌-◌, ◌<◌, ◌==◌, Bool, true, false, cond, List, [], ◌∷◌, length, map, Result, Ok, Err}
use Rattle.mv_base.specs.declared.ids.NodeId.{NodeId}
use Rattle.label_defs.proofs.KeyLemmas.{node_cases, node_itself}
use Rattle.scenario_defs.specs.declared.report.ReportLine.{ReportLine}
use Rattle.scenario_defs.specs.declared.scenario.Scenario.{Scenario}
use Rattle.network_defs.specs.declared.session_defs.direction.Direction.{Direction}
use Rattle.network_defs.specs.Acts as acts
use Rattle.network_defs.specs.Acts.{Act, Acted, act}
use Rattle.network_defs.specs.Counts.{node_ids}
use Rattle.network_defs.specs.Events.{Happened, Done, and_then, cost_acts, row}
use Rattle.network_defs.specs.World.{World, scenario_of}
use Rattle.network_defs.proofs.Kept.{Comes, Gives, row_keeps}
use Rattle.network_acts.proofs.network_laws.Lists.{each_of}
use Rattle.network_acts.specs.Instant.{Instant, IsSome, IsWorld, OfPlane}
use Rattle.network_acts.specs.NetworkView.{NetworkView}
use Rattle.network_acts.specs.Words.{IsWithin, Moment, all_late, at_rest, same_moment, with_current}
use Rattle.network_events.specs.Doing.{Does}
use Rattle.network_events.specs.Meeting.{IsResting}
use Rattle.network_events.specs.Parts.{IsRepriced}
use Rattle.network_events.specs.declared.halt.Halt.{Halt}
use Rattle.network_events.proofs.DoLemmas.{first_halts, some_mid, then_does}
use Rattle.network_events.proofs.KeptLemmas.{Follows, act_follows, comes_done}
use Rattle.network_events.proofs.RowLemmas.{does_as, halts_as, nodes_append, nodes_more, row_append}

-- ---- moments

-- the first so many nodes have acted on the present costs
abbrev pub with_first : ℕ → Moment → Moment
with_first zero moment = moment
with_first (suc count) moment = with_current (record { 0 = count }) (with_first count moment)

first_current : (count : ℕ) (moment : Moment) (n : NodeId) → n.0 < count → (with_first count moment).late n ≡ false
first_current zero moment n below = absurd (omega (arith, below))
first_current (suc count) moment n below = elim (node_cases n (record { 0 = count })) [
  | inl e ↦ (λ i. cond (node_itself n (record { 0 = count }) e i) false ((with_first count moment).late n))
  | inr apart ↦ by (n.0 == count) (first_current count moment n (omega (arith, below, λ (e : n.0 ≡ count). apart (λ i. record { 0 = e i }))))
]
  where
    by : (here : Bool) → (with_first count moment).late n ≡ false → cond here false ((with_first count moment).late n) ≡ false
    by true e = refl
    by false e = e

first_rising : (count : ℕ) (moment : Moment) (over : Direction) → (with_first count moment).rising over ≡ moment.rising over
first_rising zero moment over = refl
first_rising (suc count) moment over = first_rising count moment over

-- Where no node of the scenario is late and no end is to come up, nothing is under way.
pub rested : (at : Instant) (network : NetworkView) → IsWorld at network
    → ((n : NodeId) → n.0 < length (scenario_of at.world).nodes → at.moment.late n ≡ false)
    → ((over : Direction) → at.moment.rising over ≡ false) → IsWorld (record { cores = at.cores; moment = at_rest; world = at.world }) network
rested at network is current calm = let around = is.plane.around in record {
  scenario = is.scenario;
  plane = record {
    around = record {
      scenario_is = around.scenario_is;
      cores_are = around.cores_are;
      of_scenario = around.of_scenario;
      core = around.core;
      known = λ n within early. around.known n within (current n within);
      clock = around.clock;
      small = around.small;
      count = around.count;
      ways = around.ways;
      joined = around.joined;
      steady = record {
        sound = around.steady.sound;
        pending = around.steady.pending;
        lines = around.steady.lines;
        whose = around.steady.whose;
        up = λ over joined quiet. around.steady.up over joined (calm over);
        fresh = around.steady.fresh;
      };
    };
    nodes = is.plane.nodes;
    transit = is.plane.transit;
  };
  datagrams = is.datagrams;
}

-- ---- nodes in turn

abbrev reroutes : ℕ → List Act
reroutes count = map (λ n. acts.Reroute n) (node_ids 0 count)

row_scenario : (all : List Act) (world : World) → Comes (λ new. scenario_of new ≡ scenario_of world) (row all world)
row_scenario all world =
    row_keeps (λ new. scenario_of new ≡ scenario_of world) all
    (each_of (λ one. (old : World) → scenario_of old ≡ scenario_of world → Gives (λ new. scenario_of new ≡ scenario_of world) (act old one))
    (λ one old e. by (act old one) old one e (act_follows old one)) all) world refl
  where
    by : (o : Result Acted NodeId) (old : World) (one : Act) → scenario_of old ≡ scenario_of world → Gives (Follows one old) o
        → Gives (λ new. scenario_of new ≡ scenario_of world) o
    by (Err node) old one e h = tt
    by (Ok new) old one e h = h.scenario ∙ e

module _ (count nodes : ℕ) (old mid : NetworkView) (lines mid_lines : List ReportLine) (are : nodes ≡ length old.scenario.nodes)
    (below : count < nodes)
    (done : Does IsRepriced (with_first count) (row (reroutes count)) old mid lines mid_lines (Ok tt)) where
  abbrev own : NodeId
  own = record { 0 = count }

  within : (at : Instant) → IsRepriced at → IsWorld at old → (happened : List Happened) (world : World)
      → row (reroutes count) at.world ≡ Done happened world → count < length (scenario_of world).nodes
  within at fits is happened world e =
      subst (λ (s : Scenario). count < length s.nodes)
      (is.scenario ∙ sym (comes_done (λ new. scenario_of new ≡ scenario_of at.world) (row (reroutes count) at.world) happened world e
      (row_scenario (reroutes count) at.world)))
      (subst (λ n. count < n) are below)

  pub some_within : IsSome IsRepriced old → IsSome (OfPlane (IsWithin own)) mid
  some_within =
      some_mid IsRepriced (OfPlane (IsWithin own)) (with_first count) same_moment (row (reroutes count)) (row (reroutes count)) old mid mid lines
      mid_lines mid_lines done
      (λ at fits is happened world e stands. within at fits is happened world e)

  both_does : (new : NetworkView) (new_lines : List ReportLine) (result : Result (Unit {0}) Halt)
      → Does (OfPlane (IsWithin own)) (with_current own) (row (acts.Reroute own ∷ [])) mid new mid_lines new_lines result
      → Does IsRepriced (λ m. with_current own (with_first count m)) (λ world. and_then (row (reroutes count) world) (row (acts.Reroute own ∷ [])))
      old new lines new_lines result
  both_does new new_lines result one =
      then_does IsRepriced (OfPlane (IsWithin own)) (with_first count) (with_current own) (row (reroutes count)) (row (acts.Reroute own ∷ [])) old mid
      new lines mid_lines new_lines done
      (λ at fits is happened world e stands. within at fits is happened world e) result one

  pub reroutes_more : (new : NetworkView) (new_lines : List ReportLine)
      → Does (OfPlane (IsWithin own)) (with_current own) (row (acts.Reroute own ∷ [])) mid new mid_lines new_lines (Ok tt)
      → Does IsRepriced (with_first (count + 1)) (row (reroutes (count + 1))) old new lines new_lines (Ok tt)
  reroutes_more new new_lines one =
      let counted : suc count ≡ count + 1 = omega arith in
      does_as IsRepriced IsRepriced (λ m. with_current own (with_first count m)) (with_first (count + 1))
      (λ world. and_then (row (reroutes count) world) (row (acts.Reroute own ∷ []))) (row (reroutes (count + 1)))
      old new lines new_lines (Ok tt)
      (λ at fits is. (fits, sym (nodes_more (λ n. acts.Reroute n) count at.world), ap (λ k. with_first k at.moment) counted))
      (both_does new new_lines (Ok tt) one)

  pub reroutes_stop : (new : NetworkView) (new_lines : List ReportLine) (halt : Halt)
      → Does (OfPlane (IsWithin own)) (with_current own) (row (acts.Reroute own ∷ [])) mid new mid_lines new_lines (Err halt)
      → Does IsRepriced (λ m. at_rest) (row (reroutes nodes)) old new lines new_lines (Err halt)
  reroutes_stop new new_lines halt one =
      let more = nodes - (count + 1) in
      let split : count + 1 + more ≡ nodes = omega (arith, below) in
      halts_as IsRepriced (λ m. with_current own (with_first count m)) (λ m. at_rest)
      (λ world. and_then (row (reroutes (count + 1)) world) (row (map (λ n. acts.Reroute n) (node_ids (0 + (count + 1)) more))))
      (row (reroutes nodes)) old new lines new_lines halt
      (λ world. sym (nodes_append (λ n. acts.Reroute n) (count + 1) more world) ∙ ap (λ k. row (reroutes k) world) split)
      (first_halts IsRepriced IsRepriced (λ m. with_current own (with_first count m)) same_moment (row (reroutes (count + 1)))
      (row (map (λ n. acts.Reroute n) (node_ids (0 + (count + 1)) more))) old new new lines new_lines new_lines halt
      (halts_as IsRepriced (λ m. with_current own (with_first count m)) (λ m. with_current own (with_first count m))
      (λ world. and_then (row (reroutes count) world) (row (acts.Reroute own ∷ []))) (row (reroutes (count + 1))) old new lines new_lines halt
      (λ world. sym (nodes_more (λ n. acts.Reroute n) count world)) (both_does new new_lines (Err halt) one)))

-- after the turns of all nodes nothing is under way
pub reroutes_all : (nodes : ℕ) (old new : NetworkView) (lines new_lines : List ReportLine) → nodes ≡ length old.scenario.nodes
    → Does IsRepriced (with_first nodes) (row (reroutes nodes)) old new lines new_lines (Ok tt)
    → Does IsRepriced (λ m. at_rest) (row (reroutes nodes)) old new lines new_lines (Ok tt)
reroutes_all nodes old new lines new_lines are does = record {
  done = λ at fits is.
      let did = does.done at fits is in
      let same =
      comes_done (λ world. scenario_of world ≡ scenario_of at.world) (row (reroutes nodes) at.world) did.acts did.world did.is
      (row_scenario (reroutes nodes) at.world) in
      record {
        acts = did.acts;
        world = did.world;
        is = did.is;
        stands = rested (record { cores = at.cores; moment = with_first nodes at.moment; world = did.world }) new did.stands
            (λ n below. first_current nodes at.moment n
            (subst (λ k. n.0 < k) (sym are) (subst (λ (s : Scenario). n.0 < length s.nodes) (same ∙ sym is.scenario) below)))
            (λ over. first_rising nodes at.moment over ∙ ap (λ (m : Moment). m.rising over) fits);
        told = did.told;
      };
  lacks = λ n e. absurd cc;
}

-- ---- the cost, and then the nodes

module _ (a b : NodeId) (cost : ℕ) (old mid : NetworkView) (lines : List ReportLine)
    (priced : Does IsResting all_late (row (acts.SetCost a b cost ∷ [])) old mid lines lines (Ok tt)) where
  repriced : (at : Instant) → IsResting at → all_late at.moment ≡ all_late at_rest
  repriced at resting = ap all_late resting.rest

  pub some_repriced : IsSome IsResting old → IsSome IsRepriced mid
  some_repriced =
      some_mid IsResting IsRepriced all_late same_moment (row (acts.SetCost a b cost ∷ [])) (row (acts.SetCost a b cost ∷ [])) old mid mid lines lines
      lines priced
      (λ at resting is happened world e stands. repriced at resting)

  pub priced_scenario : IsSome IsResting old → mid.scenario ≡ old.scenario
  priced_scenario some =
      let did = priced.done some.0 some.1 some.2 in
      did.stands.scenario
      ∙ (comes_done (λ world. scenario_of world ≡ scenario_of some.0.world) (row (acts.SetCost a b cost ∷ []) some.0.world) did.acts did.world did.is
      (row_scenario (acts.SetCost a b cost ∷ []) some.0.world)
      ∙ sym some.2.scenario)

  pub costs_change : (nodes : ℕ) → nodes ≡ length old.scenario.nodes
      → (new : NetworkView) (new_lines : List ReportLine) (result : Result (Unit {0}) Halt)
      → Does IsRepriced (λ m. at_rest) (row (reroutes nodes)) mid new lines new_lines result
      → Does IsResting same_moment (λ world. row (cost_acts (scenario_of world) a b cost) world) old new lines new_lines result
  costs_change nodes are new new_lines result turns =
      does_as IsResting IsResting (λ m. at_rest) same_moment (λ world. and_then (row (acts.SetCost a b cost ∷ []) world) (row (reroutes nodes)))
      (λ world. row (cost_acts (scenario_of world) a b cost) world)
      old new lines new_lines result
      (λ at resting is. (
        resting,
        sym (row_append (acts.SetCost a b cost ∷ []) (reroutes nodes) at.world)
            ∙ ap (λ k. row (acts.SetCost a b cost ∷ reroutes k) at.world) (are ∙ ap (λ (s : Scenario). length s.nodes) is.scenario),
        sym resting.rest,
      ))
      (then_does IsResting IsRepriced all_late (λ m. at_rest) (row (acts.SetCost a b cost ∷ [])) (row (reroutes nodes)) old mid new lines lines
      new_lines priced
      (λ at resting is happened world e stands. repriced at resting) result turns)
