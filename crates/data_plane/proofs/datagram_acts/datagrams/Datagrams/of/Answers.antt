use Rattle.data_plane.proofs.datagram_acts.Stores.{nothing_idle}
use Rattle.data_plane.proofs.datagram_acts.datagrams.Datagrams.of.Goals as goal

pub returns : goal.returns
returns c = nothing_idle c.of.result c.new.result.items c.of.ensures
