use Rattle.std.proofs.Common.{ap, sym, ◌∙◌}
use Rattle.std.specs.FinMap as maps
use Rattle.mldp_node.specs.label_ends.Ends.{Ends}
use Rattle.mldp_node.proofs.label_ends.NodeMaps.{seen}
use Rattle.mldp_node.proofs.label_ends.ends.Ends.end.Goals as goal

pub returns : goal.returns
returns c =
    c.copied.ensures ∙ c.get.ensures.value ∙ sym (seen c.self.inside.up c.args.peer) ∙ ap (λ (e : Ends). maps.get e.up c.args.peer) c.self.view_is
