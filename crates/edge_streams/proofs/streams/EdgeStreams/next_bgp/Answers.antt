use Rattle.std.proofs.lemmas.Option.{IfSome_then}
use Rattle.edge_streams.proofs.SessionMaps.{over_bgp, bgp_changes}
use Rattle.edge_streams.proofs.Calls.{takes_first}
use Rattle.edge_streams.proofs.Writable.{message_writable}
use Rattle.edge_streams.proofs.streams.EdgeStreams.next_bgp.Goals as goal

pub returns-clause-first : goal.returns-clause-first
returns-clause-first c =
    takes_first over_bgp c.self.inside.bgp c.next.new.streams c.args.self.now _
    (bgp_changes c.self.inside.bgp c.self.inside.ldp c.args.self.now c.self.view_is c.next.new.streams) c.args.peer
    c.next.result c.next.ensures.first c.next.ensures.others

pub returns-clause-writable : goal.returns-clause-writable
returns-clause-writable c = IfSome_then c.next.result c.next.ensures.spelled (λ message spelled. message_writable message spelled)
