use Rattle.std.proofs.Common.{rules, ◌≡◌, List, ap, ◌∙◌}
use Rattle.std.specs.Map.{lookup}
use Rattle.vrf_words.specs.declared.tree_defs.flow.Flow.{Flow}
use Rattle.vrf_words.specs.tree_defs.Keys.{same_flow}
use Rattle.vrf_trees.specs.declared.wants.Wants.{Wants}
use Rattle.vrf_trees.specs.Wants.{tunnels_in}
use Rattle.vrf_trees.proofs.MarkLemmas.{lookup-marked, mark_each, retained, tunnels-marked}
use Rattle.vrf_trees.proofs.wants.mark_where.Goals as goal

pub returns-clause-each : goal.returns-clause-each
returns-clause-each c =
    let kept : c.retain.new.self.entries ≡ mark_each c.args.cause.now c.args.wants.now.entries =
    retained _ c.args.cause.now _ (λ k v b w g call. search rules) _ _ c.retain.ensures.filtered in
    λ q. ap (λ (es : List (Flow × Wants)). lookup (same_flow q) es) kept ∙ lookup-marked c.args.cause.now c.args.wants.now.entries q

pub returns-clause-tunnels : goal.returns-clause-tunnels
returns-clause-tunnels c =
    let kept : c.retain.new.self.entries ≡ mark_each c.args.cause.now c.args.wants.now.entries =
    retained _ c.args.cause.now _ (λ k v b w g call. search rules) _ _ c.retain.ensures.filtered in
    ap tunnels_in kept ∙ tunnels-marked c.args.cause.now c.args.wants.now.entries
