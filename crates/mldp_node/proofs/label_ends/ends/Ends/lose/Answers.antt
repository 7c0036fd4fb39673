use Rattle.std.proofs.Common.{ap, ◌∙◌}
use Rattle.std.specs.FinMap as maps
use Rattle.mldp_node.specs.label_ends.Ends.{Ends, without_end}
use Rattle.mldp_node.proofs.label_ends.NodeMaps.{goes}
use Rattle.mldp_node.proofs.label_ends.ends.Ends.lose.Goals as goal

pub returns : goal.returns
returns c =
    let up = goes c.self.inside.up c.forget.new.up c.args.peer c.forget.ensures.each in
    let waiting = goes c.self.inside.waiting c.take.new.waiting c.args.peer c.take.ensures.each in
    (λ i. record { up = up i; raises = maps.from_entries c.self.inside.raises.entries; waiting = waiting i })
    ∙ ap (λ (e : Ends). without_end c.args.peer e) c.self.view_is
