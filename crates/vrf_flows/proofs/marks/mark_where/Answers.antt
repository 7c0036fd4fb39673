use Rattle.std.proofs.Common.{rules, ◌≡◌, List, ap, ◌∙◌}
use Rattle.std.specs.Map.{lookup}
use Rattle.vrf_words.specs.declared.tree_defs.flow.Flow.{Flow}
use Rattle.vrf_flows.specs.declared.held.Held.{Held}
use Rattle.vrf_words.specs.tree_defs.Keys.{same_flow}
use Rattle.vrf_flows.specs.Held.{concerns}
use Rattle.vrf_flows.proofs.FlowLemmas.{change_each, lookup-marked, mark_by, retained}
use Rattle.vrf_flows.proofs.marks.mark_where.Goals as goal

pub returns-clause-each : goal.returns-clause-each
returns-clause-each c =
    let kept : c.retain.new.self.entries ≡ change_each (mark_by (concerns c.args.cause.now)) c.args.flows.now.entries =
    retained _ (mark_by (concerns c.args.cause.now)) _ (λ k v b w g call. search rules) _ _ c.retain.ensures.filtered in
    λ q. ap (λ (es : List (Flow × Held)). lookup (same_flow q) es) kept ∙ lookup-marked (concerns c.args.cause.now) c.args.flows.now.entries q
