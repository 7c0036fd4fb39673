use Rattle.std.proofs.Common.{◌≡◌, IfOk, subst, sym}
use Rattle.std.specs.FinMap as maps
use Rattle.indexmap.specs.IndexMap.{get}
use Rattle.umh_select.specs.Routes.{AreOfCore}
use Rattle.vrf_words.specs.tree_defs.Keys.{same_flow}
use Rattle.vrf_words.specs.tree_defs.Flows.{VrfData, flow_of, gained, lost, upstream_of}
use Rattle.vrf_flows.proofs.flows.VrfFlows.refresh.Goals as goal

pub refresh-requires-clause-peers : goal.refresh-requires-clause-peers
refresh-requires-clause-peers c = subst (λ (v : VrfData). AreOfCore c.args.core.now.nodes v.routes.learned) (sym c.self.view_is) c.requires.peers

pub returns-clause-joins : goal.returns-clause-joins
returns-clause-joins c = λ cost costs q.
    subst (λ (v : VrfData). IfOk c.refresh.result
    (λ changes. get same_flow changes.joins q ≡ gained (upstream_of (maps.get v.flows q)) (upstream_of (flow_of v cost c.args.now q))))
    c.self.view_is (c.refresh.ensures.joins cost costs q)

pub returns-clause-leaves : goal.returns-clause-leaves
returns-clause-leaves c = λ cost costs q.
    subst (λ (v : VrfData). IfOk c.refresh.result
    (λ changes. get same_flow changes.leaves q ≡ lost (upstream_of (maps.get v.flows q)) (upstream_of (flow_of v cost c.args.now q))))
    c.self.view_is (c.refresh.ensures.leaves cost costs q)
