use Rattle.std.proofs.Common.{ap, sym, option_map, ◌∙◌}
use Rattle.std.specs.FinMap as maps
use Rattle.label_defs.specs.Steps.{Raised}
use Rattle.mldp_node.specs.NodeData.{NodeData, cause}
use Rattle.mldp_node.proofs.NodeLemmas.{answers_ok}
use Rattle.mldp_node.proofs.node.LdpNode.raised.Goals as goal

pub raised-requires-clause-down : goal.raised-requires-clause-down
raised-requires-clause-down c =
    ap (λ (n : NodeData). maps.get n.node.part.ends c.args.peer) c.self.view_is
    ∙ c.requires.down (sym (ap (λ (n : NodeData). n.node.spent) c.self.view_is) ∙ ap (option_map cause) c.in_default.is)

pub returns-in-Ok : goal.returns-in-Ok
returns-in-Ok c =
    answers_ok c.args.core.now c.args.now (Raised c.args.peer) c.self.inside.place c.self.inside.trees c.self.inside.ends c.raised.new.trees
    c.raised.new.ends c.args.self.now c.self.inside.spent
    c.in_default.is c.self.view_is (c.self.invariant c.in_default.is).on c.in-Ok.ensures.ok
