use Rattle.std.proofs.Common.{◌∙◌, sym}
use Rattle.network_acts.specs.control_plane.Acted.{IsCurrent}
use Rattle.network_acts.proofs.CopyActs.{lands_at, none_faulty, packet_is, some_landing}
use Rattle.network_acts.proofs.control_plane.DatagramLemmas.{arrives_there, count_there}
use Rattle.network_acts.proofs.network.Network.landing.Goals as goal

pub node-node-requires : goal.node-node-requires
node-node-requires c =
    let some = some_landing c.args.from c.args.to c.args.landed _ c.args.self.now c.self.view_is c.requires.network in
    (some.0, some.1.within, some.2)

pub arrive-requires : goal.arrive-requires
arrive-requires c = record {
  core = count_there c.args.to _ c.self.inside.plane c.plane.view_is c.node-node.result.now c.node-node.ensures (IsCurrent c.args.to)
      (λ at current. current.within) (some_landing c.args.from c.args.to c.args.landed _ c.args.self.now c.self.view_is c.requires.network);
}

pub unreachable-requires : goal.unreachable-requires
unreachable-requires c =
    none_faulty c.args.from c.args.to c.args.landed _ c.args.self.now c.self.view_is c.octets.result.now c.octets.ensures c.requires.network
    c.in-Err.field-0
    (sym c.read_packet.ensures.exact ∙ c.in-Err.is)

pub returns : goal.returns
returns c = λ at place may is.
    lands_at c.args.from c.args.to c.args.landed _ c.args.self.now c.self.view_is c.in-Ok.packet c.in_ok-fate-in-Ok.fate c.with_ttl.result
    (arrives_there c.args.to _ c.self.inside.plane c.plane.view_is c.node-node.result.now c.node-node.ensures c.args.from c.args.landed.label
    c.in-Ok.packet.source c.in-Ok.packet.group c.in_ok-fate-in-Ok.fate (λ unspent network m stands. c.in_ok-fate-in-Ok.ensures unspent network m stands))
    c.with_ttl.ensures at place may is
    (packet_is c.args.from c.args.to c.args.landed _ c.args.self.now c.self.view_is c.octets.result.now c.octets.ensures at place may is
    c.in-Ok.packet
    (sym c.read_packet.ensures.exact ∙ c.in-Ok.is))
