-- The two nodes of a session or a link, whichever of them is named first.
use Rattle.std.specs.Prelude.{◌==◌, ◌&&◌, ◌||◌, Bool}
use Rattle.mldp.specs.mv_base.declared.ids.NodeId.{NodeId}

-- whether both are these two, either way round
abbrev pub is_between : NodeId → NodeId → NodeId → NodeId → Bool
is_between a b u n = ((u.0 == a.0) && (n.0 == b.0)) || ((u.0 == b.0) && (n.0 == a.0))

-- whether one of them is this one
abbrev pub is_either : NodeId → NodeId → NodeId → Bool
is_either a u n = (u.0 == a.0) || (n.0 == a.0)
