-- The joins that a refresh lists, as the peers and the keys at which they are (RFC 6514 section 11.1.3).
use Rattle.std.specs.Prelude.{List, map}
use Rattle.mv_base.specs.declared.ids.NodeId.{NodeId}
use Rattle.bgp_messages.specs.declared.bgp_attributes.key.Key.{Key}
use Rattle.bgp_messages.specs.bgp_update.Written.{afi_of}
use Rattle.vrf_words.specs.tree_laws.Joins.{join_key}
use Rattle.edge_control.specs.vrf_trees.Changes.{flow_in}
use Rattle.edge_control.specs.vrf_trees.declared.changes.TreeJoin.{TreeJoin}

-- the peer of the join, and its key
abbrev pub key_of : TreeJoin → NodeId × Key
key_of join = (join.edge, join_key (afi_of join.source) join.rd join.source_as (flow_in join))

-- those of all of them, in order
abbrev pub keys_of : List TreeJoin → List (NodeId × Key)
keys_of joins = map key_of joins
