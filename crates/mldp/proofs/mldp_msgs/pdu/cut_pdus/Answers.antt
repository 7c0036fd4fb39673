use Rattle.std.proofs.Common.{◌+◌, ◌∙◌, ap, subst, sym, List, Some, length}
use Rattle.mv_base.specs.framing.Cut.{cut, IsCutting}
use Rattle.mv_base.proofs.framing.Loops.{OnWay, tail_of, on_way_more, on_way_fault_after, on_way_wait}
use Rattle.mldp.specs.declared.mldp_msgs.message.LabelMessage.{LabelMessage}
use Rattle.mldp.specs.declared.mldp_msgs.pdu.Front as pdu
use Rattle.mldp.specs.mldp_msgs.Reading.{pdu_front}
use Rattle.mldp.specs.mldp_msgs.Answers.{front_of, IsRoom}
use Rattle.mldp.proofs.mldp_msgs.Fronts.{no_pdu}
use Rattle.mldp.proofs.mldp_msgs.pdu.cut_pdus.Goals as goal

pub returns-in-More-clause-exact : goal.returns-in-More-clause-exact
returns-in-More-clause-exact c =
    on_way_wait pdu_front c.args.octets.now c.pdus.place c.pdus.messages.items c.pdus.invariant
    (c.in_ok-read_pdu.ensures.value ∙ ap front_of c.in-More.is)

pub pdus-preserved : goal.pdus-preserved
pdus-preserved c =
    let P : List LabelMessage → Type 0 = λ ms. OnWay pdu_front c.args.octets.now (c.pdus.place + c.in-Whole.len) ms in
    let room = subst (λ (f : pdu.Front). IsRoom f (length (tail_of c.args.octets.now c.pdus.place))) c.in-Whole.is c.in_ok-read_pdu.ensures.room in
    subst P (sym c.in_ok-append-in-Whole.ensures.items)
    (on_way_more pdu_front c.args.octets.now c.pdus.place c.in-Whole.len c.pdus.messages.items c.in-Whole.found.items c.pdus.invariant room.0
    room.1 (c.in_ok-read_pdu.ensures.value ∙ ap front_of c.in-Whole.is))

pub returns-in-Bad-clause-exact : goal.returns-in-Bad-clause-exact
returns-in-Bad-clause-exact c =
    let room = subst (λ (f : pdu.Front). IsRoom f (length (tail_of c.args.octets.now c.pdus.place))) c.in-Bad.is c.in_ok-read_pdu.ensures.room in
    let octets = c.args.octets.now in
    let P : List LabelMessage → Type 0 =
    λ ms. IsCutting octets (cut pdu_front octets) ms c.pdus.place (Some (c.pdus.place + c.in-Bad.offset, c.in-Bad.fault)) in
    subst P (sym c.in_ok-append-in-Bad.ensures.items)
    (on_way_fault_after pdu_front octets c.pdus.place c.in-Bad.offset c.in-Bad.fault c.pdus.messages.items c.in-Bad.found.items no_pdu
    c.pdus.invariant room (c.in_ok-read_pdu.ensures.value ∙ ap front_of c.in-Bad.is))
