use Rattle.std.proofs.Common.{ℕ, ap, sym, ◌∙◌}
use Rattle.std.specs.FinMap as maps
use Rattle.std.specs.FinMap.{FinMap}
use Rattle.label_defs.specs.Keys.{node_cmp}
use Rattle.label_defs.specs.Node.{one_more, raises_of}
use Rattle.label_defs.specs.Steps.{raised_end}
use Rattle.mldp_node.specs.label_ends.Ends.{Ends, with_raise}
use Rattle.mldp_node.proofs.label_ends.NodeMaps.{comes, raises_seen}
use Rattle.mldp_node.proofs.label_ends.ends.Ends.raise.Goals as goal

pub returns-clause-count : goal.returns-clause-count
returns-clause-count c = c.one_more-count.ensures
    ∙ ap one_more (c.count_at.ensures ∙ raises_seen c.self.inside.raises c.args.peer
    ∙ ap (λ (e : Ends). raises_of e.raises c.args.peer) c.self.view_is)

pub returns-clause-raised : goal.returns-clause-raised
returns-clause-raised c =
    let count = c.one_more-count.ensures ∙ ap one_more (c.count_at.ensures ∙ raises_seen c.self.inside.raises c.args.peer) in
    let raises = comes c.self.inside.raises c.insert.new.self c.args.peer c.one_more-count.result c.in_ok-insert.ensures.updates.0
    ∙ ap (λ n. maps.insert (maps.from_entries {R = node_cmp} c.self.inside.raises.entries) c.args.peer n) count in
    let up = comes c.self.inside.up c.insert-2.new.self c.args.peer (raised_end c.args.now) c.in_ok-insert-2.ensures.updates.0 in
    (λ i. record { up = up i; raises = raises i; waiting = maps.from_entries c.self.inside.waiting.entries })
    ∙ ap (λ (e : Ends). with_raise c.args.peer c.args.now e) c.self.view_is
