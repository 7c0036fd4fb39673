use Rattle.std.proofs.Common.{subst}
use Rattle.mv_base.specs.core_walks.Core.{Core, IsCoreOf}
use Rattle.mv_base.specs.core_walks.Topology.{Topology}
use Rattle.core_paths.proofs.ToldLemmas.{core_told}
use Rattle.core_paths.proofs.paths.Core.nodes.Goals as goal

pub returns-clause-told : goal.returns-clause-told
returns-clause-told c = subst (λ (t : Topology). (own : Core) × IsCoreOf t.nodes t.links own) c.self.view_is
    (core_told c.self.inside.nodes c.self.inside.links.items c.self.inside.tables.costs.items c.self.inside.tables.nexts.items c.self.invariant)
