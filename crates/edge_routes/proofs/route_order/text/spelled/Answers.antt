use Rattle.std.proofs.Common.{arith}
use Rattle.bgp_values.specs.mvpn_nlri.Spelling.{written}
use Rattle.bgp_values.proofs.mvpn_nlri.WritingLemmas.{fields_room}
use Rattle.edge_defs.proofs.bgp_messages.bgp_update.Appending.{front_is}
use Rattle.edge_routes.proofs.route_order.text.spelled.Goals as goal

pub returns-clause-octets : goal.returns-clause-octets
returns-clause-octets c =
    front_is _ c.encode-len.new.out (written c.args.route.now) c.encode-len.result c.encode-len.ensures.len c.encode-len.ensures.octets

pub returns-clause-within : goal.returns-clause-within
returns-clause-within c = omega (arith, c.encode-len.ensures.len, fields_room c.requires.0 c.args.route.now c.requires.1.route)
