use Rattle.std.proofs.Common.{ap}
use Rattle.mv_base.specs.declared.ids.VrfId.{VrfId}
use Rattle.edge_defs.specs.Place.{vrfs_from}
use Rattle.control_laws.specs.Control.{trees_of}
use Rattle.control_laws.proofs.Owned.{one_of_number, there}
use Rattle.control_laws.proofs.Parts.{apart}
use Rattle.control_laws.proofs.looked_up.vrfs_are_apart.Goals as goal

pub returns-clause-there : goal.returns-clause-there
returns-clause-there c = λ kept number own tree at found. there (vrfs_from kept.home.me 0 kept.home.scenario.vrfs) kept.trees number own tree at found

pub returns-clause-apart : goal.returns-clause-apart
returns-clause-apart c = λ kept it other a b e. one_of_number (trees_of kept) (apart kept) it other a b (ap (λ (v : VrfId). v.0) e)
