use Rattle.edge_streams.proofs.SpelledLemmas.{bgp_holds}
use Rattle.edge_streams.proofs.message_stream.Bgp_updateStreamMessageStream.feed.Goals as goal

pub returns-clause-spelled : goal.returns-clause-spelled
returns-clause-spelled c = bgp_holds 4096 c.args.self.now c.args.bytes.now c.feed.result c.feed.new.self c.feed.ensures.feeds
