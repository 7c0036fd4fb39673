use Rattle.std.proofs.Common.{List, Option, sym, subst}
use Rattle.std.specs.FinMap as maps
use Rattle.std.specs.FinSet as sets
use Rattle.std.specs.FinSet.{FinSet}
use Rattle.indexmap.specs.IndexMap.{get}
use Rattle.mldp.specs.declared.mldp_fec.fec.Fec.{Fec}
use Rattle.label_defs.specs.Keys.{fec_cmp}
use Rattle.vrf_words.specs.declared.tree_defs.flow.Flow.{Flow}
use Rattle.vrf_words.specs.declared.tree_defs.flow.Upstream.{Upstream}
use Rattle.vrf_words.specs.tree_defs.Keys.{same_flow}
use Rattle.vrf_words.specs.tree_defs.Flows.{flow_of, gained, lost, upstream_of}
use Rattle.vrf_flows.proofs.CostLemmas.{least_costs}
use Rattle.vrf_trees.specs.declared.changes.TreeJoin.{TreeJoin}
use Rattle.vrf_trees.specs.Changes.{AreJoins, AreNew}
use Rattle.vrf_trees.specs.Wants.{tunnels_in, ups_in}
use Rattle.vrf_trees.proofs.PlanLemmas.{carried-fresh}
use Rattle.vrf_trees.proofs.RefreshLemmas.{all-renewed, joins-are, none-joins, none-new, renewed-holds, wants-are}
use Rattle.vrf_trees.proofs.refresh.refresh.Goals as goal

pub returns-clause-sound : goal.returns-clause-sound
returns-clause-sound c =
    let least = least_costs c.args.core.now.nodes c.args.core.now.links c.args.me c.nodes.ensures.topology c.nodes.ensures.connected c.requires.me in
    let renewed =
    all-renewed c.args.leaf.now c.args.flows.now.flows c.refresh.new.self.flows (get same_flow c.args.wants.now)
    (get same_flow c.exchange.new.wants) (get same_flow c.in_ok-plan.plan)
    (get same_flow c.in_ok-changes.changes.joins) (get same_flow c.in_ok-changes.changes.leaves) (flow_of c.args.flows.now least.0 c.args.now)
    c.requires.sound.holds
    (λ q. c.in_ok-changes.ensures.flows least.0 least.1 q) (λ q. c.in_ok-changes.ensures.joins least.0 least.1 q)
    (λ q. c.in_ok-changes.ensures.leaves least.0 least.1 q)
    (λ q. c.in_ok-plan.ensures.each q) (λ q. c.in_ok-told.ensures.each q) in
    record {
      unique = c.exchange.ensures.unique;
      holds = renewed-holds c.args.leaf.now (ups_in c.refresh.new.self.flows) (get same_flow c.exchange.new.wants) renewed;
    }

pub returns-clause-wants : goal.returns-clause-wants
returns-clause-wants c =
    let least = least_costs c.args.core.now.nodes c.args.core.now.links c.args.me c.nodes.ensures.topology c.nodes.ensures.connected c.requires.me in
    let renewed =
    all-renewed c.args.leaf.now c.args.flows.now.flows c.refresh.new.self.flows (get same_flow c.args.wants.now)
    (get same_flow c.exchange.new.wants) (get same_flow c.in_ok-plan.plan)
    (get same_flow c.in_ok-changes.changes.joins) (get same_flow c.in_ok-changes.changes.leaves) (flow_of c.args.flows.now least.0 c.args.now)
    c.requires.sound.holds
    (λ q. c.in_ok-changes.ensures.flows least.0 least.1 q) (λ q. c.in_ok-changes.ensures.joins least.0 least.1 q)
    (λ q. c.in_ok-changes.ensures.leaves least.0 least.1 q)
    (λ q. c.in_ok-plan.ensures.each q) (λ q. c.in_ok-told.ensures.each q) in
    wants-are c.args.leaf.now c.refresh.new.self.flows c.exchange.new.wants.entries c.exchange.ensures.unique renewed

pub returns-clause-joins : goal.returns-clause-joins
returns-clause-joins c = λ cost costs.
    let given : Flow → Option Upstream =
    λ q. gained (upstream_of (maps.get c.args.flows.now.flows q)) (upstream_of (flow_of c.args.flows.now cost c.args.now q)) in
    subst (λ (l : List TreeJoin). AreJoins l given) (sym c.in_ok-joins.ensures)
    (joins-are c.in_ok-changes.changes.joins.entries given c.in_ok-changes.ensures.once.0 (λ q. c.in_ok-changes.ensures.joins cost costs q))

pub returns-clause-leaves : goal.returns-clause-leaves
returns-clause-leaves c = λ cost costs.
    let given : Flow → Option Upstream =
    λ q. lost (upstream_of (maps.get c.args.flows.now.flows q)) (upstream_of (flow_of c.args.flows.now cost c.args.now q)) in
    subst (λ (l : List TreeJoin). AreJoins l given) (sym c.in_ok-leaves.ensures)
    (joins-are c.in_ok-changes.changes.leaves.entries given c.in_ok-changes.ensures.once.1 (λ q. c.in_ok-changes.ensures.leaves cost costs q))

pub exchange-requires-clause-fresh : goal.exchange-requires-clause-fresh
exchange-requires-clause-fresh c = λ q.
    carried-fresh c.args.leaf.now q (get same_flow c.in_ok-changes.changes.joins q) (get same_flow c.in_ok-changes.changes.leaves q)
    (get same_flow c.args.wants.now q) (get same_flow c.in_ok-plan.plan q) (c.in_ok-plan.ensures.each q)

pub returns-then-all_fresh-clause-wants : goal.returns-then-all_fresh-clause-wants
returns-then-all_fresh-clause-wants c =
    wants-are c.args.leaf.now c.args.flows.now.flows c.args.wants.now.entries c.requires.sound.unique
    (λ q. c.requires.sound.holds.fresh q (c.all_fresh.ensures c.if-all_fresh.true q))

pub returns-then-all_fresh-clause-joins : goal.returns-then-all_fresh-clause-joins
returns-then-all_fresh-clause-joins c = λ cost costs.
    subst (λ (l : List TreeJoin). AreJoins l
    (λ q. gained (upstream_of (maps.get c.args.flows.now.flows q)) (upstream_of (flow_of c.args.flows.now cost c.args.now q))))
    (sym c.none.ensures.joins.0)
    (none-joins (maps.get c.args.flows.now.flows) (flow_of c.args.flows.now cost c.args.now) (c.is_fresh.ensures c.if-is_fresh.true cost))

pub returns-then-all_fresh-clause-leaves : goal.returns-then-all_fresh-clause-leaves
returns-then-all_fresh-clause-leaves c = λ cost costs.
    subst (λ (l : List TreeJoin). AreJoins l
    (λ q. lost (upstream_of (maps.get c.args.flows.now.flows q)) (upstream_of (flow_of c.args.flows.now cost c.args.now q))))
    (sym c.none.ensures.joins.1)
    (none-joins (flow_of c.args.flows.now cost c.args.now) (maps.get c.args.flows.now.flows)
    (λ q. sym (c.is_fresh.ensures c.if-is_fresh.true cost q)))

pub returns-then-all_fresh-clause-wanted : goal.returns-then-all_fresh-clause-wanted
returns-then-all_fresh-clause-wanted c =
    let there : FinSet fec_cmp = sets.from_list (tunnels_in c.args.wants.now.entries) in
    subst (λ (l : List Fec). AreNew l there there) (sym c.none.ensures.tunnels.0) (none-new there)

pub returns-then-all_fresh-clause-unwanted : goal.returns-then-all_fresh-clause-unwanted
returns-then-all_fresh-clause-unwanted c =
    let there : FinSet fec_cmp = sets.from_list (tunnels_in c.args.wants.now.entries) in
    subst (λ (l : List Fec). AreNew l there there) (sym c.none.ensures.tunnels.1) (none-new there)
