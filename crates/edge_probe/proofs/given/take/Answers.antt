use Rattle.edge_probe.proofs.AnswerLemmas.{first_told, piece_fault, piece_told}
use Rattle.edge_probe.proofs.GivenLemmas.{is_up_still}
use Rattle.edge_probe.proofs.FaultLemmas.{told_first}
use Rattle.edge_probe.proofs.given.take.Goals as goal

pub take_bgp-requires-clause-up : goal.take_bgp-requires-clause-up
take_bgp-requires-clause-up c = λ _. is_up_still c.args.core.now c.args.peer c.requires.given.0 c.args.own.now c.requires.given.1

pub first_fault-requires : goal.first_fault-requires
first_fault-requires c =
    piece_fault c.args.core.now c.args.peer c.requires.given.0 c.args.own.now c.requires.given.1 c.args.octets.now c.are_octets.ensures
    c.take_bgp.new.self c.in-Err.fault c.in-Err.ensures

pub returns-in-Ok-clause-told : goal.returns-in-Ok-clause-told
returns-in-Ok-clause-told c =
    λ done given. piece_told c.args.core.now c.args.peer done c.args.own.now given c.args.octets.now c.are_octets.ensures c.take_bgp.new.self tt
    c.in-Ok.ensures

pub returns-in-Err-clause-told : goal.returns-in-Err-clause-told
returns-in-Err-clause-told c = λ done given.
    told_first c.first_fault.result c.first_fault.ensures.first c.first_fault.ensures.some (λ first is some.
    first_told c.args.core.now c.args.peer done c.args.own.now given c.args.octets.now c.are_octets.ensures c.take_bgp.new.self c.in-Err.fault first
    c.in-Err.ensures is some)
