-- The directions of sessions by the node that they lead away from.
use Rattle.std.specs.Prelude.{◌==◌, Bool, List, filter}
use Rattle.mv_base.specs.declared.ids.NodeId.{NodeId}
use Rattle.network_defs.specs.declared.session_defs.direction.Direction.{Direction}

-- whether the direction leads away from the node
abbrev pub is_from : NodeId → Direction → Bool
is_from n over = over.from.0 == n.0

-- those of the directions that lead away from the node, in order
abbrev pub ways_from : NodeId → List Direction → List Direction
ways_from n all = filter (is_from n) all
