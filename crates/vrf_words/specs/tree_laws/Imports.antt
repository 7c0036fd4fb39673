-- From which edges a VRF imports routes of a tunnel.
use Rattle.std.specs.Prelude.{Bool}
use Rattle.std.specs.List.{list_any}
use Rattle.std.specs.FinMap as maps
use Rattle.mv_base.specs.declared.ids.NodeId.{NodeId}
use Rattle.selective_defs.specs.mldp.declared.mldp_fec.fec.Fec.{Fec}
use Rattle.edge_words.specs.bgp_messages.declared.bgp_attributes.key.Key.{Key}
use Rattle.edge_words.specs.label_defs.LabelData.{same_fec}
use Rattle.selective_defs.specs.declared.learned_route.LearnedRoute.{LearnedRoute}
use Rattle.selective.specs.Leaves.{peer_routes}
use Rattle.vrf_words.specs.tree_defs.Trees.{TreeData}
use Rattle.edge_words.specs.edge_defs.Datagrams.{is_imported_from, is_tunnel}
use Rattle.edge_words.specs.edge_defs.Edge.{Control, TakenRoute}
use Rattle.edge_words.specs.edge_defs.Imported.{imported_inclusive, taken_from}
use Rattle.edge_words.specs.edge_defs.Place.{EdgePlace, OwnVrf, addr_of}

-- whether the VRF imports a route of the tunnel from the edge
abbrev pub imports : EdgePlace → Control → OwnVrf → NodeId → Fec → Bool
imports place control own edge fec = is_imported_from place own fec (edge, taken_from control edge)

-- whether it imports an inclusive one
abbrev pub imports_inclusive : EdgePlace → Control → OwnVrf → NodeId → Fec → Bool
imports_inclusive place control own edge fec =
    list_any (λ (entry : Key × TakenRoute). is_tunnel fec (imported_inclusive own.vrf (addr_of place.scenario edge) entry))
    (maps.entries (taken_from control edge))

-- whether the tree has learned a selective one
abbrev pub has_learned : TreeData → NodeId → Fec → Bool
has_learned tree edge fec = list_any (λ (route : LearnedRoute). same_fec route.fec fec) (peer_routes edge tree.leaf.routes)
