use Rattle.edge_probe.proofs.LawLemmas.{wanted_root}
use Rattle.edge_probe.proofs.laws.wanted_roots_are_the_peers.Goals as goal

pub returns : goal.returns
returns c = wanted_root
