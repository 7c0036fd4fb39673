use Rattle.control_laws.proofs.Delays.{delays_counted}
use Rattle.control_laws.proofs.refreshes.delays_are_counted.Goals as goal

pub returns : goal.returns
returns c = λ kept core now between writable. delays_counted kept between writable now
