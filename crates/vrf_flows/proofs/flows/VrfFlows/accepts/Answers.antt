use Rattle.std.proofs.Common.{subst, sym}
use Rattle.umh_select.specs.Routes.{AreOfCore}
use Rattle.vrf_words.specs.tree_defs.Flows.{VrfData}
use Rattle.vrf_flows.proofs.flows.VrfFlows.accepts.Goals as goal

pub accepts-requires-clause-peers : goal.accepts-requires-clause-peers
accepts-requires-clause-peers c = subst (λ (v : VrfData). AreOfCore c.args.core.now.nodes v.routes.learned) (sym c.self.view_is) c.requires.peers
