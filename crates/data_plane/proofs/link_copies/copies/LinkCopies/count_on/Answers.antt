use Rattle.std.proofs.Common.{length, sym, ap, ◌∙◌}
use Rattle.data_plane.specs.link_copies.CopiesData.{CopiesData, kept_at}
use Rattle.data_plane.proofs.link_copies.Sums.{copies_seen}
use Rattle.data_plane.proofs.link_copies.copies.LinkCopies.count_on.Goals as goal

pub returns : goal.returns
returns c =
    c.count_on.ensures
    ∙ ap length (sym (copies_seen c.self.inside.ways (c.args.from, c.args.to)))
    ∙ ap (λ (d : CopiesData). length (kept_at d c.args.from c.args.to)) c.self.view_is
