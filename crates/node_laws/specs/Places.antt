-- Where a node of a scenario stands, as a label node has it, and what of an edge's waiting octets is its label part's.
use Rattle.std.specs.Prelude.{◌≡◌, ℕ, List, map}
use Rattle.std.specs.FinMap.{FinMap}
use Rattle.mv_base.specs.declared.ids.NodeId.{NodeId}
use Rattle.scenario_defs.specs.declared.event.Kind.TheVariants as kinds
use Rattle.scenario_defs.specs.declared.scenario.Scenario.{Scenario}
use Rattle.label_defs.specs.Keys.{node_cmp}
use Rattle.label_defs.specs.Node.{NodePlace, waiting_for}
use Rattle.network_defs.specs.session_defs.PeerSession.{PeerSession, peer_cmp}
use Rattle.network_defs.specs.node_defs.EdgeState.{waiting_at}

-- the place of the node of that number
abbrev pub node_place : Scenario → NodeId → NodePlace
node_place scenario me = record { me = me; addrs = map (λ node. node.addr) scenario.nodes; life = scenario.life }

-- the LDP session with the neighbour
abbrev pub label_session : NodeId → PeerSession
label_session peer = record { kind = kinds.Ldp; peer = peer }

-- What waits for each LDP session is what waits for the neighbour in the label part.
abbrev pub AreLabelOctets : FinMap peer_cmp (List ℕ) → FinMap node_cmp (List ℕ) → Type 0
AreLabelOctets waiting own = (peer : NodeId) → waiting_at waiting (label_session peer) ≡ waiting_for own peer
