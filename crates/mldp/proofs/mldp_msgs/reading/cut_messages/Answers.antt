use Rattle.std.proofs.Common.{◌+◌, ◌∷◌, ◌∙◌, [], ap, subst, sym, List}
use Rattle.mv_base.proofs.framing.Loops.{OnWay, tail_of, on_way_more, on_way_fault, on_way_end}
use Rattle.mldp.specs.declared.mldp_msgs.message.LabelMessage.{LabelMessage}
use Rattle.mldp.specs.mldp_msgs.Reading.{seen, message_front}
use Rattle.mldp.proofs.mldp_msgs.Fronts.{no_message, front_seen, tail_more}
use Rattle.mldp.proofs.mldp_msgs.reading.cut_messages.Goals as goal

pub messages-preserved : goal.messages-preserved
messages-preserved c =
    let octets = c.args.octets.now in
    let place = c.messages.place in
    let P : List LabelMessage → Type 0 = λ ms. OnWay message_front octets (place + c.in-Ok.len) ms in
    let front = front_seen (tail_of octets place) (tail_more octets place c.messages-test.true) in
    subst P (sym c.in_ok-push-in-Ok.ensures.items)
    (on_way_more message_front octets place c.in-Ok.len c.messages.messages.items (c.in-Ok.message ∷ []) c.messages.invariant
    c.in-Ok.ensures.size.0 c.in-Ok.ensures.size.1 (front ∙ ap seen (sym c.in-Ok.ensures.value)))

pub returns-in-Err-clause-exact : goal.returns-in-Err-clause-exact
returns-in-Err-clause-exact c =
    let octets = c.args.octets.now in
    let place = c.messages.place in
    let front = front_seen (tail_of octets place) (tail_more octets place c.messages-test.true) in
    on_way_fault message_front octets place c.in-Err.offset c.in-Err.fault c.messages.messages.items no_message c.messages.invariant
    c.in-Err.ensures.within (front ∙ ap seen (sym c.in-Err.ensures.value))

pub returns-clause-exact : goal.returns-clause-exact
returns-clause-exact c =
    on_way_end message_front c.args.octets.now c.messages.place c.messages.messages.items no_message c.messages.invariant c.messages-test.false
