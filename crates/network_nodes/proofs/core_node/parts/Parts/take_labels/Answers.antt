use Rattle.std.proofs.Common.{refl, ap, sym, length, ◌∙◌}
use Rattle.label_defs.specs.Node.{NodePlace}
use Rattle.network_defs.specs.session_defs.Message.{Label}
use Rattle.wire_laws.specs.CoreNodes.{ldp_with}
use Rattle.edge_streams.proofs.DrainLemmas.{took_fewer}
use Rattle.network_nodes.proofs.core_node.TakingLemmas.{all_waiting, none_waiting, one_stopped, one_taken}
use Rattle.network_nodes.proofs.core_node.parts.Parts.take_labels.Goals as goal

pub loop-message-init : goal.loop-message-init
loop-message-init c = all_waiting c.args.core.now c.args.now c.args.peer c.args.self.now c.requires.there c.requires.live

pub take-requires-clause-nodes : goal.take-requires-clause-nodes
take-requires-clause-nodes c = c.requires.nodes ∙ ap (λ (place : NodePlace). length place.addrs) (sym c.loop-message.invariant.left.place)

pub loop-message-preserved : goal.loop-message-preserved
loop-message-preserved c =
    one_taken c.args.core.now c.args.now c.args.peer c.args.self.now c.loop-message.self c.loop-message.invariant c.next_ldp.new.self
    c.in-Some.message c.in-Some.ensures.first c.take.new.self c.take.result c.in_default-told.ensures.value c.nodes.ensures.told c.take.ensures

pub loop-message-smaller : goal.loop-message-smaller
loop-message-smaller c =
    took_fewer (ldp_with c.args.peer) c.loop-message.self.streams c.next_ldp.new.self (Label c.in-Some.message) c.in-Some.ensures.first

pub returns-in-Err-clause-settles : goal.returns-in-Err-clause-settles
returns-in-Err-clause-settles c =
    one_stopped c.args.core.now c.args.now c.args.peer c.args.self.now c.loop-message.self c.loop-message.invariant c.next_ldp.new.self
    c.in-Some.message c.in-Some.ensures.first c.take.new.self c.in-Err.fault (c.in-Err.ensures.only c.in-Err.fault refl) c.take.result
    c.in-Err.ensures.value c.nodes.ensures.told c.take.ensures

pub returns-clause-settles : goal.returns-clause-settles
returns-clause-settles c =
    none_waiting c.args.core.now c.args.now c.args.peer c.args.self.now c.loop-message.self c.loop-message.invariant c.next_ldp.new.self
    c.in_default.ensures.first
