use Rattle.std.proofs.Common.{subst}
use Rattle.bgp_messages.specs.bgp_update.Written.{HasOctets}
use Rattle.edge_tables.specs.taken_tables.Tables.{Spelled}
use Rattle.edge_tables.proofs.taken_tables.learning.spelled.Goals as goal

pub returns : goal.returns
returns c = Spelled c.key.ensures.writable (subst HasOctets c.key.ensures.key c.has_octets.ensures)
