use Rattle.label_laws.proofs.Copies.{lands_in_vpn}
use Rattle.label_laws.proofs.laws.copies_land_in_their_vpn.Goals as goal

pub returns : goal.returns
returns c = lands_in_vpn
