-- What the tree of a VRF says of a datagram: whether another edge has joined its flow, and on which tunnel the VRF transmits it.
use Rattle.std.specs.Prelude.{Bool}
use Rattle.std.specs.List.{list_any}
use Rattle.std.specs.FinSet as sets
use Rattle.selective_defs.specs.mldp.declared.mldp_fec.fec.Fec.{Fec}
use Rattle.selective_defs.specs.Selective.{transmitted}
use Rattle.selective.specs.Roots.{added, lsp_number}
use Rattle.vrf_words.specs.declared.tree_defs.flow.Flow.{Flow}
use Rattle.vrf_words.specs.declared.tree_defs.flow.TakenJoin.{TakenJoin}
use Rattle.vrf_words.specs.tree_defs.Keys.{same_flow}
use Rattle.vrf_words.specs.tree_defs.Trees.{TreeData}
use Rattle.edge_words.specs.edge_defs.Place.{EdgePlace, lsp, own_addr}

-- whether some join that it took is for the flow
abbrev pub has_join : TreeData → Flow → Bool
has_join tree flow = list_any (λ (join : TakenJoin). same_flow join.flow flow) (sets.items tree.joined)

-- the tunnel of the most specific of its selections that match the flow and whose delay was run, or else the inclusive tunnel
abbrev pub tunnel_for : EdgePlace → TreeData → Flow → Fec
tunnel_for place tree flow =
    lsp (own_addr place) (lsp_number tree.root.number (added (transmitted tree.root.selections flow.source flow.group)))
