use Rattle.std.proofs.Common.{◌∙◌}
use Rattle.mvpn_tool.proofs.LineLemmas.{hop_spelled}
use Rattle.mvpn_tool.proofs.sent_hops.put_hop.Goals as goal

pub write_hop-requires : goal.write_hop-requires
write_hop-requires c =
    hop_spelled c.args.clock c.args.sent.now c.args.line.now c.in-Hop.from c.in-Hop.to c.in-Hop.label c.in-Hop.ttl c.in-Hop.number _ c.in-Hop.is
    (c.in_ok-copied-in-Hop.ensures ∙ c.datagram_octets.ensures) c.requires
