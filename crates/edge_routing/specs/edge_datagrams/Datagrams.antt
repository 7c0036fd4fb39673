-- Where datagrams go, in the words of what an edge keeps.
use Rattle.std.specs.Prelude.{◌&&◌, List, [], Option, None, Some, if◌then◌else◌}
use Rattle.std.specs.FinMap as maps
use Rattle.mldp.specs.declared.mldp_fec.fec.Fec.{Fec}
use Rattle.label_defs.specs.LabelData.{LabelData, branches_of}
use Rattle.label_defs.specs.declared.branch.Branch.{Branch}
use Rattle.vrf_words.specs.declared.tree_defs.flow.Flow.{Flow}
use Rattle.vrf_words.specs.declared.tree_defs.flow.Origin.{Origin}
use Rattle.vrf_words.specs.tree_defs.Flows.{chosen_for, is_from}
use Rattle.vrf_words.specs.tree_defs.Trees.{TreeData}
use Rattle.edge_defs.specs.Edge.{EdgeData}
use Rattle.edge_defs.specs.Place.{EdgePlace, HasPrefixes}
use Rattle.edge_control.specs.edge_tables.taken_tables.Tables.{AreSpelled}
use Rattle.vrf_words.specs.tree_laws.Joined.{has_join, tunnel_for}
use Rattle.control_laws.specs.Control.{Kept, control_of}

-- an edge that keeps this, with that label part; when its sessions came up says nothing of datagrams
abbrev pub edge_with : Kept → LabelData → EdgeData
edge_with kept part = record { control = control_of kept; part = part; raised = maps.empty }

-- the branches of a tunnel, where there is one
abbrev pub branches_on : LabelData → Option Fec → List Branch
branches_on part None = []
branches_on part (Some fec) = branches_of part fec

-- the tunnel on which the VRF of the tree transmits a datagram that comes from there: none where the VRF chooses another origin for its
-- flow, or no other edge has joined it
abbrev pub tunnel_from : EdgePlace → TreeData → Origin → Flow → Option Fec
tunnel_from place tree from flow =
    if is_from from (chosen_for tree.vrf.routes (place.core.cost place.me) flow) && has_join tree flow
    then Some (tunnel_for place tree flow)
    else None

-- Each prefix of the edge's sites is of octets, and so is each that it took; and each key that it took has a spelling.
pub record AreOfOctets (kept : Kept) : Type 0 where
  pub sites : HasPrefixes kept.home.scenario
  pub taken : AreSpelled kept.peers
