use Rattle.once_laws.proofs.Homes.{home_longest_of_family}
use Rattle.once_laws.proofs.laws.homes_are_longest.Goals as goal

pub returns : goal.returns
returns c = home_longest_of_family
