-- What the VRF of an upstream is named by in the join towards it (RFC 6514 sections 7 and 11.1.3).
use Rattle.std.specs.Prelude.{◌≡◌, ℕ, Option, None, Some}
use Rattle.std.specs.FinMap.{get}
use Rattle.mv_base.specs.Number.{◌>>?◌, only_if}
use Rattle.mv_base.specs.declared.addr.Addr.{Addr}
use Rattle.mv_base.specs.declared.addr.Addr.TheVariants.{V4, V6}
use Rattle.mv_base.specs.declared.ids.NodeId.{NodeId}
use Rattle.mv_base.specs.declared.rd.Rd.{Rd}
use Rattle.bgp_values.specs.declared.mvpn_nlri.route.Afi.TheVariants.{Ipv4}
use Rattle.bgp_messages.specs.bgp_update.Written.{afi_of}
use Rattle.vrf_words.specs.tree_defs.Flows.{upstream_of}
use Rattle.vrf_words.specs.tree_defs.Trees.{TreeData}
use Rattle.edge_defs.specs.Edge.{Control, Import, Remote, VrfFlow}
use Rattle.edge_routes.specs.declared.originated.RemoteUpstream.{RemoteUpstream}
use Rattle.vrf_words.specs.tree_laws.Joins.{is_join_to}
use Rattle.edge_control.specs.vrf_trees.Changes.{flow_in}
use Rattle.edge_control.specs.vrf_trees.declared.changes.TreeJoin.{TreeJoin}

-- Each VRF Route Import of a flow's upstream at another edge has an IPv4 address.
abbrev pub HaveIpv4Imports : Control → Type 0
HaveIpv4Imports control =
    (flow : VrfFlow) (edge : NodeId) (rd : Rd) (import : Import) (source_as : ℕ)
    → get control.flows flow ≡ Some (Some (Remote edge rd import source_as)) → afi_of import.addr ≡ Ipv4

-- the VRF Route Import of the upstream of the tree's flow, where the join is towards that upstream
abbrev pub import_at : TreeJoin → TreeData → Option (Addr × ℕ)
import_at join tree =
    upstream_of (get tree.vrf.flows (flow_in join)) >>? λ up. only_if (is_join_to join.edge join.rd join.source_as up) up.import

-- what the join towards that import says, where the import has an IPv4 address
abbrev pub remote_by : TreeJoin → Addr × ℕ → Option RemoteUpstream
remote_by join (V4 addr, number) =
    Some (record { rd = join.rd; import = record { addr = addr; number = number }; source_as = join.source_as })
remote_by join (V6 addr, number) = None
