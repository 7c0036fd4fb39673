use Rattle.std.proofs.Common.{rules, cond, List, Some, ap, sym, ◌∙◌}
use Rattle.indexmap.specs.IndexMap.{get}
use Rattle.data_plane.specs.link_copies.CopiesData.{KeptCopy}
use Rattle.data_plane.specs.link_copies.Kept.{is_way}
use Rattle.data_plane.proofs.link_copies.Sums.{stays}
use Rattle.data_plane.proofs.link_copies.ways.put.Goals as goal

pub returns-in-Err-clause-same : goal.returns-in-Err-clause-same
returns-in-Err-clause-same c = λ w.
    let items = c.push_back-in-Some.new.self.items in
    let written = (c.get_mut.follows.holds items).3 (search rules) in
    written.0 w
    ∙ ap (λ (x : List KeptCopy). cond (is_way c.args.way w) (Some x) (get is_way c.args.ways.now w)) (c.in-Err.ensures.items ∙ c.queue-in-Some.view_is)
    ∙ stays c.args.ways.now c.args.way c.in-Some.queue.now (sym c.in-Some.ensures.value) w
