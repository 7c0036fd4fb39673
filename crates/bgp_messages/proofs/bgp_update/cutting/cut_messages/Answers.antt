use Rattle.std.proofs.Common.{◌+◌, ◌∷◌, [], length, subst, sym, ap, ◌∙◌, List}
use Rattle.mv_base.proofs.framing.Loops.{OnWay, tail_of, on_way_more, on_way_fault, on_way_wait}
use Rattle.bgp_messages.specs.declared.bgp_attributes.update.Message.{Message}
use Rattle.bgp_messages.specs.declared.bgp_update.front.Front as found
use Rattle.bgp_messages.specs.bgp_update.Reading.{message_front}
use Rattle.bgp_messages.specs.bgp_update.Answers.{front_of, IsRoom}
use Rattle.bgp_messages.proofs.bgp_update.Messages.{nothing_stands}
use Rattle.bgp_messages.proofs.bgp_update.cutting.cut_messages.Goals as goal

pub returns-in-More-clause-exact : goal.returns-in-More-clause-exact
returns-in-More-clause-exact c =
    on_way_wait message_front c.args.octets.now c.messages.place c.messages.messages.items c.messages.invariant
    (c.in_ok-message_at.ensures.value ∙ ap front_of c.in-More.is)

pub messages-preserved : goal.messages-preserved
messages-preserved c =
    let P : List Message → Type 0 = λ ms. OnWay message_front c.args.octets.now (c.messages.place + c.in-Whole.len) ms in
    let room =
    subst (λ (f : found.Front). IsRoom f (length (tail_of c.args.octets.now c.messages.place))) c.in-Whole.is c.in_ok-message_at.ensures.room in
    subst P (sym c.in_ok-push-in-Whole.ensures.items)
    (on_way_more message_front c.args.octets.now c.messages.place c.in-Whole.len c.messages.messages.items (c.in-Whole.message ∷ [])
    c.messages.invariant room.0 room.1 (c.in_ok-message_at.ensures.value ∙ ap front_of c.in-Whole.is))

pub returns-in-Bad-clause-exact : goal.returns-in-Bad-clause-exact
returns-in-Bad-clause-exact c =
    let room =
    subst (λ (f : found.Front). IsRoom f (length (tail_of c.args.octets.now c.messages.place))) c.in-Bad.is c.in_ok-message_at.ensures.room in
    on_way_fault message_front c.args.octets.now c.messages.place c.in-Bad.offset c.in-Bad.fault c.messages.messages.items nothing_stands
    c.messages.invariant room (c.in_ok-message_at.ensures.value ∙ ap front_of c.in-Bad.is)
