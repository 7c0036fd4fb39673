-- A network of label nodes at the level of messages.
use Rattle.std.specs.Prelude.{ℕ, ◌==◌, ◌&&◌, Bool, false, List, [], ◌∷◌, ◌++◌, Option, if◌then◌else◌}
use Rattle.mv_base.specs.declared.ids.NodeId.{NodeId}
use Rattle.mldp.specs.declared.mldp_fec.fec.Fec.{Fec}
use Rattle.mldp.specs.declared.mldp_msgs.message.LabelMessage.{LabelMessage}
use Rattle.label_defs.specs.declared.put.Put.{Put}
use Rattle.label_defs.specs.LabelData.{Place, LabelData, fresh}
use Rattle.label_defs.specs.Settling.{Stepped}

-- A copy of a datagram on a link: the label that it carries, when it was put on the link, and the number of its datagram.
pub record PacketCopy : Type 0 where
  pub label : ℕ
  pub put_at : ℕ
  pub number : ℕ

-- What is between two nodes in one direction: whether their LDP session is joined, the messages in transit, and the copies on
-- the link, each in their order.
pub record Direction : Type 0 where
  pub joined : Bool
  pub transit : List LabelMessage
  pub copies : List PacketCopy

-- A network: its clock; how long a copy may be on a link; how many labels each node has; which FECs are those of trees; each
-- node's neighbour towards the root of a tree; the VPN of a tree, and that of a datagram; the label part of each node; and what is
-- between each two nodes.
pub record LabelNetwork : Type 0 where
  pub clock : ℕ
  pub life : ℕ
  pub labels : NodeId → ℕ
  pub is_tree : Fec → Bool
  pub upstream : NodeId → Fec → Option NodeId
  pub vpn_of : Fec → ℕ
  pub origin : ℕ → ℕ
  pub node : NodeId → LabelData
  pub direction : NodeId → NodeId → Direction

-- a network in which nothing has happened
abbrev pub at_start : ℕ → (NodeId → ℕ) → (Fec → Bool) → (NodeId → Fec → Option NodeId) → (Fec → ℕ) → (ℕ → ℕ) → LabelNetwork
at_start life labels is_tree upstream vpn_of origin = record {
  clock = 0;
  life = life;
  labels = labels;
  is_tree = is_tree;
  upstream = upstream;
  vpn_of = vpn_of;
  origin = origin;
  node = λ n. fresh (labels n);
  direction = λ u n. record { joined = false; transit = []; copies = [] };
}

-- the place of a node in the network
abbrev pub place_of : LabelNetwork → NodeId → Place
place_of network n = record { life = network.life; is_tree = network.is_tree; upstream = network.upstream n }

-- one node becomes another, and all others stay
abbrev pub at_node : NodeId → LabelData → (NodeId → LabelData) → NodeId → LabelData
at_node at new node n = if n.0 == at.0 then new else node n

-- of what a node puts, the messages to one neighbour
abbrev pub messages_to : NodeId → List Put → List LabelMessage
messages_to to [] = []
messages_to to (put ∷ more) = if put.to.0 == to.0 then put.message ∷ messages_to to more else messages_to to more

-- what is in transit from one node to another once a node has put these: they are lost where the session is not joined
abbrev pub sent : NodeId → List Put → (NodeId → NodeId → Direction) → NodeId → NodeId → List LabelMessage
sent from puts direction u n =
    if (u.0 == from.0) && (direction u n).joined
    then (direction u n).transit ++ messages_to n puts
    else (direction u n).transit

-- the network once a node has stepped
abbrev pub thereafter : LabelNetwork → NodeId → Stepped → LabelNetwork
thereafter network n stepped =
    record network {
      node = at_node n stepped.part network.node;
      direction = λ from to. record (network.direction from to) { transit = sent n stepped.puts network.direction from to };
    }
