use Rattle.std.proofs.Common.{subst, sym}
use Rattle.std.specs.List.{AllByRecursion}
use Rattle.mv_base.specs.framing.Feed.{Fed}
use Rattle.bgp_messages.specs.declared.bgp_attributes.fault.StreamFault.{StreamFault}
use Rattle.bgp_messages.specs.declared.bgp_attributes.update.Message.{Message}
use Rattle.edge_streams.specs.Spelled.{IsSpelled}
use Rattle.edge_streams.proofs.SpelledLemmas.{bgp_holds}
use Rattle.ingress_text.proofs.root.sole_message.Goals as goal

pub sole-requires : goal.sole-requires
sole-requires c =
    bgp_holds 4096 c.of-stream.result c.args.octets.now c.feed.result c.feed.new.self c.feed.ensures.feeds
    (subst (λ (d : Fed Message StreamFault). AllByRecursion IsSpelled d.waiting) (sym c.of-stream.ensures) tt)
