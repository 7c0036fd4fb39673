use Rattle.node_laws.proofs.PlaceLemmas.{one_place, one_addr}
use Rattle.node_laws.proofs.laws.places_are_one.Goals as goal

pub returns : goal.returns
returns c = record { place = one_place; addr = one_addr }
