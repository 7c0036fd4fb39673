use Rattle.ingress_text.proofs.PeerLemmas.{put_back}
use Rattle.ingress_text.proofs.peers.take_from.Goals as goal

pub returns-clause-peer : goal.returns-clause-peer
returns-clause-peer c =
    put_back c.args.request.now c.args.addr c.args.octets.now _ c.number_of.result c.number_of-2.result c.args.peers.now c.remove.new.self
    c.insert.new.self c.remove.result c.new.result
    c.unwrap_or-peer.result c.take.new.self c.number_of.ensures c.number_of-2.ensures c.remove.ensures.value c.remove.ensures.updates.0 c.new.ensures
    c.unwrap_or-peer.ensures
    c.in_ok-fault.ensures.peer c.in_ok-insert.ensures.updates.0
