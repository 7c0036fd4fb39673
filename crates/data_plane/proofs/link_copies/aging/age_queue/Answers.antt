use Rattle.std.proofs.Common.{List, length, ap, arith}
use Rattle.data_plane.specs.link_copies.CopiesData.{KeptCopy}
use Rattle.data_plane.proofs.link_copies.OldCopies.{recent-shorter}
use Rattle.data_plane.proofs.link_copies.aging.age_queue.Goals as goal

pub overflow_sub-result : goal.overflow_sub-result
overflow_sub-result c =
    omega (
      arith,
      c.len-before.ensures,
      c.len.ensures,
      ap (λ (ks : List KeptCopy). length ks) c.drop_old.ensures,
      recent-shorter c.args.now c.args.life c.args.queue.now,
    )

pub returns-clause-dropped : goal.returns-clause-dropped
returns-clause-dropped c =
    omega (
      arith,
      c.len-before.ensures,
      c.len.ensures,
      ap (λ (ks : List KeptCopy). length ks) c.drop_old.ensures,
      recent-shorter c.args.now c.args.life c.args.queue.now,
    )
