use Rattle.edge_routes.specs.edge_home.Home.{as_own}
use Rattle.control_laws.proofs.edge_words.Prefixes.{among_at}
use Rattle.edge_control.specs.Places.{vrfs_of}
use Rattle.edge_control.proofs.places.own_of_iface.Goals as goal

pub returns-clause-among : goal.returns-clause-among
returns-clause-among c = λ core. among_at (vrfs_of c.args.home.now) c.place_of_iface.result (as_own c.own_at.result.now) c.own_at.ensures.own
