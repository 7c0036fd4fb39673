use Rattle.std.proofs.Common.{◌≡◌, ℕ, ap, ◌∙◌}
use Rattle.std.specs.List.{list_any}
use Rattle.indexmap.specs.IndexMap.{get}
use Rattle.mv_base.specs.declared.ids.NodeId.{NodeId}
use Rattle.umh_select.specs.Routes.{AreCosts}
use Rattle.vrf_words.specs.declared.tree_defs.flow.Flow.{Flow}
use Rattle.vrf_words.specs.tree_defs.Keys.{same_flow}
use Rattle.vrf_words.specs.tree_defs.Flows.{chosen_for, gained, lost, upstream_of}
use Rattle.vrf_flows.specs.Held.{kept_of, lapsed, marked}
use Rattle.vrf_flows.specs.Plan.{choice_in, planned, settled}
use Rattle.vrf_flows.specs.Sight.{flow_at, is_needed}
use Rattle.vrf_flows.specs.State.{compares_costs, given_at, needed_in}
use Rattle.vrf_flows.proofs.TreeLemmas.{gain-all, loss-all, settled-fresh, settled-keeps}
use Rattle.vrf_flows.proofs.StateLemmas.{before-flow, flows-got, given-flow, mid-held, mid-keeps, mid-kept}
use Rattle.vrf_flows.proofs.CostLemmas.{least_costs}
use Rattle.vrf_flows.proofs.StaleLemmas.{stale-planned}
use Rattle.vrf_flows.proofs.state.State.refreshed.Goals as goal

pub returns-clause-sound : goal.returns-clause-sound
returns-clause-sound c =
    let old = c.args.self.now in
    let es = c.expiries.result.now.entries in
    let mid = get same_flow c.mark_between.new.flows in
    let each : (q : Flow) → get same_flow c.mark_between.new.flows q
    ≡ marked (list_any (lapsed c.args.self.now.clock c.args.now q) c.expiries.result.now.entries)
    (marked (compares_costs c.args.self.now.rule) (get same_flow c.args.self.now.flows q)) =
    λ q. c.mark_between.ensures.each q ∙ ap (marked (list_any (lapsed c.args.self.now.clock c.args.now q) c.expiries.result.now.entries))
    (c.mark_costs.ensures.each q) in
    let plan : (cost : NodeId → ℕ) → AreCosts c.args.core.now c.args.me cost → (q : Flow)
    → get same_flow c.in_ok-plan.plan q ≡ planned (get same_flow c.mark_between.new.flows q) (given_at c.args.self.now cost c.args.now q) =
    λ cost costs q. c.in_ok-plan.ensures.each cost costs q
    ∙ (λ i. planned (get same_flow c.mark_between.new.flows q)
    (flow_at (c.as_slice.ensures i) c.args.self.now.entries c.args.self.now.sent.keys (chosen_for c.args.self.now.routes cost) c.args.now q)) in
    let settle : (q : Flow) → get same_flow c.settle.new.flows q
    ≡ settled (needed_in c.args.self.now q) (get same_flow c.in_ok-plan.plan q) (get same_flow c.mark_between.new.flows q) =
    λ q. c.in_ok-settle.ensures.each q ∙ (λ i. settled (is_needed (c.as_slice.ensures i) c.args.self.now.entries c.args.self.now.sent.keys q)
    (get same_flow c.in_ok-plan.plan q) (get same_flow c.mark_between.new.flows q)) in
    let least = least_costs c.args.core.now.nodes c.args.core.now.links c.args.me c.nodes.ensures.topology c.nodes.ensures.connected c.requires.me in
    record {
      unique = c.settle.ensures.unique;
      rule = c.requires.sound.rule;
      sent = c.requires.sound.sent;
      cost = least.0;
      keeps = settled-keeps mid (get same_flow c.settle.new.flows) (get same_flow c.in_ok-plan.plan) (given_at old least.0 c.args.now) (needed_in old)
          (mid-keeps old mid es c.args.now least.0 c.requires.sound c.expiries.ensures.entries each) (plan least.0 least.1) settle;
    }

pub returns-clause-flows : goal.returns-clause-flows
returns-clause-flows c = λ cost costs q.
    let old = c.args.self.now in
    let es = c.expiries.result.now.entries in
    let mid = get same_flow c.mark_between.new.flows in
    let each : (q : Flow) → get same_flow c.mark_between.new.flows q
    ≡ marked (list_any (lapsed c.args.self.now.clock c.args.now q) c.expiries.result.now.entries)
    (marked (compares_costs c.args.self.now.rule) (get same_flow c.args.self.now.flows q)) =
    λ q. c.mark_between.ensures.each q ∙ ap (marked (list_any (lapsed c.args.self.now.clock c.args.now q) c.expiries.result.now.entries))
    (c.mark_costs.ensures.each q) in
    let plan : (cost : NodeId → ℕ) → AreCosts c.args.core.now c.args.me cost → (q : Flow)
    → get same_flow c.in_ok-plan.plan q ≡ planned (get same_flow c.mark_between.new.flows q) (given_at c.args.self.now cost c.args.now q) =
    λ cost costs q. c.in_ok-plan.ensures.each cost costs q
    ∙ (λ i. planned (get same_flow c.mark_between.new.flows q)
    (flow_at (c.as_slice.ensures i) c.args.self.now.entries c.args.self.now.sent.keys (chosen_for c.args.self.now.routes cost) c.args.now q)) in
    let settle : (q : Flow) → get same_flow c.settle.new.flows q
    ≡ settled (needed_in c.args.self.now q) (get same_flow c.in_ok-plan.plan q) (get same_flow c.mark_between.new.flows q) =
    λ q. c.in_ok-settle.ensures.each q ∙ (λ i. settled (is_needed (c.as_slice.ensures i) c.args.self.now.entries c.args.self.now.sent.keys q)
    (get same_flow c.in_ok-plan.plan q) (get same_flow c.mark_between.new.flows q)) in
    let keeps = mid-keeps old mid es c.args.now cost c.requires.sound c.expiries.ensures.entries each in
    flows-got c.settle.new.flows q c.settle.ensures.unique
    ∙ (ap choice_in (settled-fresh (mid q) (get same_flow c.settle.new.flows q) (get same_flow c.in_ok-plan.plan q) (given_at old cost c.args.now q)
    (needed_in old q) (plan cost costs q) (settle q) (keeps.fresh q))
    ∙ given-flow old cost c.args.now q c.requires.sound.sent)

pub returns-clause-joins : goal.returns-clause-joins
returns-clause-joins c = λ cost costs q.
    let old = c.args.self.now in
    let es = c.expiries.result.now.entries in
    let mid = get same_flow c.mark_between.new.flows in
    let each : (q : Flow) → get same_flow c.mark_between.new.flows q
    ≡ marked (list_any (lapsed c.args.self.now.clock c.args.now q) c.expiries.result.now.entries)
    (marked (compares_costs c.args.self.now.rule) (get same_flow c.args.self.now.flows q)) =
    λ q. c.mark_between.ensures.each q ∙ ap (marked (list_any (lapsed c.args.self.now.clock c.args.now q) c.expiries.result.now.entries))
    (c.mark_costs.ensures.each q) in
    let plan : (cost : NodeId → ℕ) → AreCosts c.args.core.now c.args.me cost → (q : Flow)
    → get same_flow c.in_ok-plan.plan q ≡ planned (get same_flow c.mark_between.new.flows q) (given_at c.args.self.now cost c.args.now q) =
    λ cost costs q. c.in_ok-plan.ensures.each cost costs q
    ∙ (λ i. planned (get same_flow c.mark_between.new.flows q)
    (flow_at (c.as_slice.ensures i) c.args.self.now.entries c.args.self.now.sent.keys (chosen_for c.args.self.now.routes cost) c.args.now q)) in
    let settle : (q : Flow) → get same_flow c.settle.new.flows q
    ≡ settled (needed_in c.args.self.now q) (get same_flow c.in_ok-plan.plan q) (get same_flow c.mark_between.new.flows q) =
    λ q. c.in_ok-settle.ensures.each q ∙ (λ i. settled (is_needed (c.as_slice.ensures i) c.args.self.now.entries c.args.self.now.sent.keys q)
    (get same_flow c.in_ok-plan.plan q) (get same_flow c.mark_between.new.flows q)) in
    let keeps = mid-keeps old mid es c.args.now cost c.requires.sound c.expiries.ensures.entries each in
    c.in_ok-joins.ensures.each q ∙ (gain-all (mid q) (get same_flow c.in_ok-plan.plan q) (given_at old cost c.args.now q) (plan cost costs q)
    (keeps.fresh q)
    ∙ (λ i. gained (upstream_of (before-flow old (kept_of (mid q)) q c.requires.sound.unique (mid-kept old mid es c.args.now each q) i))
    (upstream_of (given-flow old cost c.args.now q c.requires.sound.sent i))))

pub returns-clause-leaves : goal.returns-clause-leaves
returns-clause-leaves c = λ cost costs q.
    let old = c.args.self.now in
    let es = c.expiries.result.now.entries in
    let mid = get same_flow c.mark_between.new.flows in
    let each : (q : Flow) → get same_flow c.mark_between.new.flows q
    ≡ marked (list_any (lapsed c.args.self.now.clock c.args.now q) c.expiries.result.now.entries)
    (marked (compares_costs c.args.self.now.rule) (get same_flow c.args.self.now.flows q)) =
    λ q. c.mark_between.ensures.each q ∙ ap (marked (list_any (lapsed c.args.self.now.clock c.args.now q) c.expiries.result.now.entries))
    (c.mark_costs.ensures.each q) in
    let plan : (cost : NodeId → ℕ) → AreCosts c.args.core.now c.args.me cost → (q : Flow)
    → get same_flow c.in_ok-plan.plan q ≡ planned (get same_flow c.mark_between.new.flows q) (given_at c.args.self.now cost c.args.now q) =
    λ cost costs q. c.in_ok-plan.ensures.each cost costs q
    ∙ (λ i. planned (get same_flow c.mark_between.new.flows q)
    (flow_at (c.as_slice.ensures i) c.args.self.now.entries c.args.self.now.sent.keys (chosen_for c.args.self.now.routes cost) c.args.now q)) in
    let settle : (q : Flow) → get same_flow c.settle.new.flows q
    ≡ settled (needed_in c.args.self.now q) (get same_flow c.in_ok-plan.plan q) (get same_flow c.mark_between.new.flows q) =
    λ q. c.in_ok-settle.ensures.each q ∙ (λ i. settled (is_needed (c.as_slice.ensures i) c.args.self.now.entries c.args.self.now.sent.keys q)
    (get same_flow c.in_ok-plan.plan q) (get same_flow c.mark_between.new.flows q)) in
    let keeps = mid-keeps old mid es c.args.now cost c.requires.sound c.expiries.ensures.entries each in
    c.in_ok-leaves.ensures.each q ∙ (loss-all (mid q) (get same_flow c.in_ok-plan.plan q) (given_at old cost c.args.now q) (plan cost costs q)
    (keeps.fresh q)
    ∙ (λ i. lost (upstream_of (before-flow old (kept_of (mid q)) q c.requires.sound.unique (mid-kept old mid es c.args.now each q) i))
    (upstream_of (given-flow old cost c.args.now q c.requires.sound.sent i))))

pub returns-in_err-settle-clause-held : goal.returns-in_err-settle-clause-held
returns-in_err-settle-clause-held c = λ q need.
    let old = c.args.self.now in
    let each : (q : Flow) → get same_flow c.mark_between.new.flows q
    ≡ marked (list_any (lapsed c.args.self.now.clock c.args.now q) c.expiries.result.now.entries)
    (marked (compares_costs c.args.self.now.rule) (get same_flow c.args.self.now.flows q)) =
    λ q. c.mark_between.ensures.each q ∙ ap (marked (list_any (lapsed c.args.self.now.clock c.args.now q) c.expiries.result.now.entries))
    (c.mark_costs.ensures.each q) in
    c.settle.ensures.held q ((λ i. is_needed (c.as_slice.ensures i) old.entries old.sent.keys q) ∙ need)
    (mid-held old (get same_flow c.mark_between.new.flows) c.expiries.result.now.entries c.args.now c.requires.sound each q need)

pub returns-clause-held : goal.returns-clause-held
returns-clause-held c = λ q need.
    let old = c.args.self.now in
    let each : (q : Flow) → get same_flow c.mark_between.new.flows q
    ≡ marked (list_any (lapsed c.args.self.now.clock c.args.now q) c.expiries.result.now.entries)
    (marked (compares_costs c.args.self.now.rule) (get same_flow c.args.self.now.flows q)) =
    λ q. c.mark_between.ensures.each q ∙ ap (marked (list_any (lapsed c.args.self.now.clock c.args.now q) c.expiries.result.now.entries))
    (c.mark_costs.ensures.each q) in
    c.settle.ensures.held q ((λ i. is_needed (c.as_slice.ensures i) old.entries old.sent.keys q) ∙ need)
    (mid-held old (get same_flow c.mark_between.new.flows) c.expiries.result.now.entries c.args.now c.requires.sound each q need)

pub settle-requires-clause-planned : goal.settle-requires-clause-planned
settle-requires-clause-planned c = λ q h.
    let least = least_costs c.args.core.now.nodes c.args.core.now.links c.args.me c.nodes.ensures.topology c.nodes.ensures.connected c.requires.me in
    stale-planned (get same_flow c.mark_between.new.flows q) _ (get same_flow c.in_ok-plan.plan q) (c.in_ok-plan.ensures.each least.0 least.1 q) h
