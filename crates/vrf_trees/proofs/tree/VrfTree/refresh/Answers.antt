use Rattle.std.proofs.Common.{ap, subst, sym}
use Rattle.std.specs.FinMap as maps
use Rattle.umh_select.specs.Routes.{AreOfCore}
use Rattle.vrf_words.specs.tree_defs.Flows.{VrfData, flow_of, gained, lost, upstream_of}
use Rattle.vrf_words.specs.tree_defs.Trees.{TreeData}
use Rattle.vrf_trees.specs.Changes.{AreJoins}
use Rattle.vrf_trees.proofs.RefreshLemmas.{none-sound}
use Rattle.vrf_trees.proofs.tree.VrfTree.refresh.Goals as goal

pub refresh-told-requires-clause-peers : goal.refresh-told-requires-clause-peers
refresh-told-requires-clause-peers c =
    subst (λ (t : TreeData). AreOfCore c.args.core.now.nodes t.vrf.routes.learned) (sym c.self.view_is) c.requires.peers

pub invariant_of-self-in-Err : goal.invariant_of-self-in-Err
invariant_of-self-in-Err c =
    none-sound c.self.inside.leaf c.forget_flows.new.self.flows c.of.result c.of.ensures.unique c.of.ensures.none
    (ap (λ (v : VrfData). v.flows) c.forget_flows.ensures)

pub returns-in-Ok-clause-joins : goal.returns-in-Ok-clause-joins
returns-in-Ok-clause-joins c = λ cost costs.
    subst (λ (t : TreeData). AreJoins c.in-Ok.changes.joins
    (λ q. gained (upstream_of (maps.get t.vrf.flows q)) (upstream_of (flow_of t.vrf cost c.args.now q)))) c.self.view_is
    (c.in-Ok.ensures.joins cost costs)

pub returns-in-Ok-clause-leaves : goal.returns-in-Ok-clause-leaves
returns-in-Ok-clause-leaves c = λ cost costs.
    subst (λ (t : TreeData). AreJoins c.in-Ok.changes.leaves
    (λ q. lost (upstream_of (maps.get t.vrf.flows q)) (upstream_of (flow_of t.vrf cost c.args.now q)))) c.self.view_is
    (c.in-Ok.ensures.leaves cost costs)
