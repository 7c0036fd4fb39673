use Rattle.data_plane.proofs.link_copies.AsMany.{shared_as_many}
use Rattle.data_plane.proofs.link_copies.laws.buffers_count_the_datagrams.Goals as goal

pub returns : goal.returns
returns c = shared_as_many
