use Rattle.std.proofs.Common.{rules}
use Rattle.edge_routes.proofs.ValueLemmas.{own_writable}
use Rattle.edge_routes.proofs.originated.own_value.Goals as goal

pub of-requires : goal.of-requires
of-requires c = own_writable c.args.addr c.args.comms.now c.args.pmsi (search rules) c.requires.octets c.requires.tunnel
