use Rattle.std.proofs.Common.{sym, subst, ◌∙◌}
use Rattle.data_plane.specs.datagram_acts.Stored.{IsIdle}
use Rattle.data_plane.proofs.datagram_acts.Counts.{as_many_datagrams}
use Rattle.data_plane.proofs.datagram_acts.datagrams.Datagrams.live.Goals as goal

pub returns : goal.returns
returns c = λ world idle linked.
    let own = subst (IsIdle world) (sym c.self.view_is) idle in
    c.live.ensures ∙ as_many_datagrams world c.self.inside.copies own.stores linked c.buffers_count_copies.ensures own.none
