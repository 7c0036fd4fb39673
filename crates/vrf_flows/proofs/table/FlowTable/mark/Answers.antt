use Rattle.indexmap.specs.IndexMap.{get}
use Rattle.vrf_words.specs.tree_defs.Keys.{same_flow}
use Rattle.vrf_flows.proofs.StaleLemmas.{mark-lists}
use Rattle.vrf_flows.proofs.table.FlowTable.mark.Goals as goal

pub invariant_of-self : goal.invariant_of-self
invariant_of-self c =
    mark-lists (get same_flow c.self.inside.held) (get same_flow c.mark_held-news.new.flows) c.args.flow c.mark_held-news.result c.self.inside.stale
    c.add_if.new.self c.self.invariant
    c.mark_held-news.ensures.news (λ q. c.mark_held-news.ensures.each q) c.add_if.ensures.added c.add_if.ensures.kept
