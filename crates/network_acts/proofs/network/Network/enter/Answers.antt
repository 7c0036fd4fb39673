use Rattle.network_acts.specs.control_plane.Queries.{IsEdgeOf}
use Rattle.network_acts.proofs.CopyActs.{enters, leaves_sending, on_ok_both, some_entering}
use Rattle.network_acts.proofs.control_plane.DatagramLemmas.{count_there, enters_there, vrf_here}
use Rattle.network_acts.proofs.network.Network.enter.Goals as goal

pub node-node-requires : goal.node-node-requires
node-node-requires c =
    let some = some_entering (IsEdgeOf c.args.vrf c.args.n) _ c.args.self.now c.self.view_is c.requires.network in
    (some.0, some.1.current.within, some.2)

pub enter-requires-clause-own : goal.enter-requires-clause-own
enter-requires-clause-own c =
    vrf_here c.args.n c.args.vrf c.self.inside.plane c.node-node.result.now
    (some_entering (IsEdgeOf c.args.vrf c.args.n) _ c.args.self.now c.self.view_is c.requires.network) c.node-node.ensures

pub enter-requires-clause-core : goal.enter-requires-clause-core
enter-requires-clause-core c =
    count_there c.args.n _ c.self.inside.plane c.plane.view_is c.node-node.result.now c.node-node.ensures (IsEdgeOf c.args.vrf c.args.n)
    (λ at own. own.current.within) (some_entering (IsEdgeOf c.args.vrf c.args.n) _ c.args.self.now c.self.view_is c.requires.network)

pub returns : goal.returns
returns c =
    on_ok_both c.enter-2.result (λ left lines_are.
    enters _ c.args.self.now c.self.view_is c.args.n c.args.vrf c.args.site c.args.datagram.now c.in_ok-fate.fate c.enter-2.new.self c.args.lines.now
    c.enter-2.new.lines
    (enters_there c.args.n _ c.self.inside.plane c.plane.view_is c.node-node.result.now c.node-node.ensures c.args.vrf c.args.site
    c.args.datagram.now.source c.args.datagram.now.group c.in_ok-fate.fate
    (λ network m stands own among same edge e. c.in_ok-fate.ensures network m stands own among same edge e))
    c.bytes.result.now c.bytes.ensures
    (λ clock. leaves_sending c.bytes.result.now c.args.n clock c.in_ok-fate.fate c.as_slice.result.now c.as_slice-2.result.now _ c.enter-2.new.self
    c.args.lines.now c.enter-2.new.lines
    c.as_slice.ensures c.as_slice-2.ensures left lines_are)) c.enter-2.ensures.left c.enter-2.ensures.lines
