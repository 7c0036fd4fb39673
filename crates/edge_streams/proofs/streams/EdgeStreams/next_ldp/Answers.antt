use Rattle.std.proofs.lemmas.Option.{IfSome_then}
use Rattle.edge_streams.proofs.SessionMaps.{over_ldp, ldp_changes}
use Rattle.edge_streams.proofs.Calls.{takes_first}
use Rattle.edge_streams.proofs.Writable.{label_message_writable}
use Rattle.edge_streams.proofs.streams.EdgeStreams.next_ldp.Goals as goal

pub returns-clause-first : goal.returns-clause-first
returns-clause-first c =
    takes_first over_ldp c.self.inside.ldp c.next.new.streams c.args.self.now _
    (ldp_changes c.self.inside.bgp c.self.inside.ldp c.args.self.now c.self.view_is c.next.new.streams) c.args.peer
    c.next.result c.next.ensures.first c.next.ensures.others

pub returns-clause-writable : goal.returns-clause-writable
returns-clause-writable c = IfSome_then c.next.result c.next.ensures.spelled (λ message spelled. label_message_writable message spelled)
