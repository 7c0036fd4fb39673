use Rattle.data_plane.proofs.link_copies.SentBuffers.{start_count, start_shared}
use Rattle.data_plane.proofs.link_copies.copies.LinkCopies.of.Goals as goal

pub invariant_of-result : goal.invariant_of-result
invariant_of-result c = (
  c.new.ensures.unique,
  start_count c.new.result c.new.ensures.empty c.of.result c.of.ensures,
  start_shared c.new.result c.new.ensures.empty c.of.result c.of.ensures,
)
