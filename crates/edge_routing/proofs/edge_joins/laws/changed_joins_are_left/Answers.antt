use Rattle.held_tables.proofs.JoinLemmas.{begun}
use Rattle.edge_routing.specs.edge_joins.Keys.{keys_of}
use Rattle.edge_routing.proofs.edge_joins.ChangedLemmas.{others_alike}
use Rattle.edge_routing.proofs.edge_joins.laws.changed_joins_are_left.Goals as goal

pub returns : goal.returns
returns c =
    λ place old flows joins tables was is changed hold. begun place old flows (keys_of joins) was is (others_alike place old flows joins changed)
    tables hold
