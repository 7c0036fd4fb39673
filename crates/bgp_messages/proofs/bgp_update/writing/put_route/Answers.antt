use Rattle.std.proofs.Common.{take}
use Rattle.bgp_values.specs.mvpn_nlri.Spelling.{written}
use Rattle.bgp_messages.proofs.bgp_update.Appending.{put_same, front_is}
use Rattle.bgp_messages.proofs.bgp_update.writing.put_route.Goals as goal

pub returns : goal.returns
returns c =
    let text = written c.args.route.now in
    let is = front_is _ c.encode-len.new.out text c.encode-len.result c.encode-len.ensures.len c.encode-len.ensures.octets in
    put_same c.extend.result c.args.out.now c.extend.new.self (take c.encode-len.result c.encode-len.new.out) text is c.extend.ensures.ok
