use Rattle.edge_streams.proofs.SpelledLemmas.{ldp_holds}
use Rattle.edge_streams.proofs.message_stream.Mldp_msgsStreamMessageStream.feed.Goals as goal

pub returns-clause-spelled : goal.returns-clause-spelled
returns-clause-spelled c = ldp_holds 4100 c.args.self.now c.args.bytes.now c.feed.result c.feed.new.self c.feed.ensures.feeds
