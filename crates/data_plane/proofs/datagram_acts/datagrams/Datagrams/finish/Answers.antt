use Rattle.std.proofs.Common.{sym, subst}
use Rattle.data_plane.specs.datagram_acts.Stored.{Handles}
use Rattle.data_plane.proofs.datagram_acts.Stores.{finished_idle}
use Rattle.data_plane.proofs.datagram_acts.datagrams.Datagrams.finish.Goals as goal

pub returns : goal.returns
returns c = λ world number datagram own.
    finished_idle world c.self.inside.copies c.finish.new.self c.self.inside.count number c.self.inside.hops.items datagram
    (subst (Handles world number datagram) (sym c.self.view_is) own)
    c.finish.ensures.current c.finish.ensures.ways c.finish.ensures.octets c.buffers_count_copies.ensures
