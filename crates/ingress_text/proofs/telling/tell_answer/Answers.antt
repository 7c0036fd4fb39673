use Rattle.std.proofs.Common.{◌∙◌}
use Rattle.ingress_text.specs.Telling.{answer_octets}
use Rattle.ingress_text.proofs.TellLemmas.{takes_as}
use Rattle.ingress_text.proofs.telling.tell_answer.Goals as goal

pub returns-clause-peers : goal.returns-clause-peers
returns-clause-peers c =
    takes_as c.request.result.now c.args.root.now.request c.args.leaf c.as_slice-2.result.now
    (answer_octets c.args.root.now c.args.leaf c.args.label.now) c.args.peers.now c.take_from.new.peers
    c.request.ensures (c.as_slice-2.ensures ∙ c.in_ok-octets.ensures) c.in_ok-take_from.ensures.peer
