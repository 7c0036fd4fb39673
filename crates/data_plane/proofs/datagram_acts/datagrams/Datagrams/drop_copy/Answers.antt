use Rattle.std.proofs.Common.{sym, subst}
use Rattle.data_plane.specs.datagram_acts.Stored.{IsIdle}
use Rattle.data_plane.proofs.datagram_acts.Stores.{dropped_idle}
use Rattle.data_plane.proofs.datagram_acts.datagrams.Datagrams.drop_copy.Goals as goal

pub returns : goal.returns
returns c = λ world idle.
    dropped_idle world c.self.inside.copies c.drop_copy.new.self c.self.inside.count c.self.inside.hops.items c.args.from c.args.to c.args.place
    (subst (IsIdle world) (sym c.self.view_is) idle)
    c.drop_copy.ensures.ways c.drop_copy.ensures.current c.drop_copy.ensures.octets c.buffers_count_copies.ensures
