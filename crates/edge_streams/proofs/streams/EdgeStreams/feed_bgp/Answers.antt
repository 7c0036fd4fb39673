use Rattle.std.proofs.lemmas.Result.{on_ok_weaker, on_err_weaker}
use Rattle.edge_streams.proofs.SessionMaps.{over_bgp, bgp_changes, same}
use Rattle.edge_streams.proofs.Calls.{takes_octets}
use Rattle.edge_streams.proofs.streams.EdgeStreams.feed_bgp.Goals as goal

pub returns-clause-fed : goal.returns-clause-fed
returns-clause-fed c =
    on_ok_weaker c.feed.result (takes_octets over_bgp c.self.inside.bgp c.feed.new.streams c.args.self.now _
    (bgp_changes c.self.inside.bgp c.self.inside.ldp c.args.self.now c.self.view_is c.feed.new.streams) c.args.peer
    c.args.bytes.now) c.feed.ensures.fed

pub returns-clause-same : goal.returns-clause-same
returns-clause-same c =
    on_err_weaker c.feed.result (same over_bgp c.self.inside.bgp c.feed.new.streams c.args.self.now _
    (bgp_changes c.self.inside.bgp c.self.inside.ldp c.args.self.now c.self.view_is c.feed.new.streams) c.args.peer)
    c.feed.ensures.same
