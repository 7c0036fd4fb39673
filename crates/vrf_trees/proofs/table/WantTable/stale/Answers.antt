use Rattle.std.proofs.Common.{IfSome, List, Bor, subst}
use Rattle.vrf_words.specs.declared.tree_defs.flow.Flow.{Flow}
use Rattle.vrf_flows.specs.Stale.{AreAmong}
use Rattle.vrf_flows.proofs.StaleLemmas.{stale-some}
use Rattle.vrf_trees.specs.Wants.{WantTable, is_stale_in}
use Rattle.vrf_trees.proofs.table.WantTable.stale.Goals as goal

pub returns : goal.returns
returns c = subst (λ (t : WantTable). IfSome c.listed.result (λ flows. AreAmong (is_stale_in t) flows.now)) c.self.view_is
    (stale-some (λ (f : Bor (List Flow)). f.now) (is_stale_in c.self.inside.held) c.self.inside.stale c.listed.result c.self.invariant
    c.listed.ensures)
