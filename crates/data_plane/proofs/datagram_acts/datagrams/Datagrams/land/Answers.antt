use Rattle.std.proofs.Common.{sym, subst}
use Rattle.data_plane.specs.datagram_acts.Stored.{IsIdle}
use Rattle.data_plane.proofs.datagram_acts.Stores.{landed_handles}
use Rattle.data_plane.proofs.datagram_acts.datagrams.Datagrams.land.Goals as goal

pub returns-clause-landed : goal.returns-clause-landed
returns-clause-landed c = λ world idle.
    let was = c.self.inside in
    landed_handles world was.copies c.land.new.self was.count c.self.inside.hops.items c.args.from c.args.to c.args.place c.in_ok-landed.landed
    (subst (IsIdle world) (sym c.self.view_is) idle)
    (sym c.in_ok-landed.ensures.landed) c.in_ok-landed.ensures.ways c.in_ok-landed.ensures.current c.in_ok-landed.ensures.buffers
