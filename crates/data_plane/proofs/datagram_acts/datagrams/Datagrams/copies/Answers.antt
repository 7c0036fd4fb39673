use Rattle.std.proofs.Common.{sym, subst, ◌∙◌}
use Rattle.data_plane.specs.datagram_acts.Stored.{IsIdle}
use Rattle.data_plane.proofs.datagram_acts.Counts.{as_many_copies}
use Rattle.data_plane.proofs.datagram_acts.datagrams.Datagrams.copies.Goals as goal

pub returns : goal.returns
returns c =
    λ world idle linked. c.count.ensures ∙ as_many_copies world c.self.inside.copies (subst (IsIdle world) (sym c.self.view_is) idle).stores linked
