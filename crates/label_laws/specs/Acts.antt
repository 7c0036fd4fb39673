-- What may happen in a network of label nodes, and its runs (RFC 6388 section 2.4, RFC 5036 section 3.5).
use Rattle.std.specs.Prelude.{ℕ, ◌+◌, ◌==◌, ◌&&◌, ◌||◌, not, nat_le, Bool, true, false, List, []}
use Rattle.std.specs.Prelude.{◌∷◌, ◌++◌, map, slice_get, option_map, Option, Some, if◌then◌else◌}
use Rattle.std.specs.List.{filter, remove}
use Rattle.mv_base.specs.Number.{◌>>?◌}
use Rattle.mv_base.specs.declared.ids.NodeId.{NodeId}
use Rattle.mldp.specs.declared.mldp_fec.fec.Fec.{Fec}
use Rattle.mldp.specs.declared.mldp_msgs.message.LabelMessage.{LabelMessage}
use Rattle.label_defs.specs.declared.branch.Branch.{Branch}
use Rattle.label_defs.specs.declared.label_use.LabelUse.{LabelUse}
use Rattle.label_defs.specs.declared.label_use.LabelUse.TheVariants as uses
use Rattle.label_defs.specs.Between.{is_between, is_either}
use Rattle.label_defs.specs.LabelData.{fresh, use_of, is_up, branches_of}
use Rattle.label_defs.specs.Steps as steps
use Rattle.label_defs.specs.Steps.{Call, label_step}
use Rattle.label_laws.specs.Network.{PacketCopy, LabelNetwork, place_of, at_node, thereafter}

-- ---- label steps

-- a label step of one node; none where it needs a label and none is free
abbrev pub stepped : LabelNetwork → NodeId → Call → Option LabelNetwork
stepped network n call = option_map (thereafter network n) (label_step (place_of network n) network.clock (network.node n) call)

-- these alone are left in transit from one node to another
abbrev pub left_in_transit : LabelNetwork → NodeId → NodeId → List LabelMessage → LabelNetwork
left_in_transit network a b rest =
    record network {
      direction = λ u n. record (network.direction u n) {
        transit = if (u.0 == a.0) && (n.0 == b.0) then rest else (network.direction u n).transit;
      };
    }

-- the first message in transit is taken, if the end of the session is up; a node has no session with itself
abbrev pub delivered : LabelNetwork → NodeId → NodeId → Bool → Bool → List LabelMessage → Option LabelNetwork
delivered network a b false true (message ∷ rest) = stepped (left_in_transit network a b rest) b (steps.Taken a message)
delivered network a b same up messages = Some network

-- a node is a leaf of trees alone
abbrev pub wanted : LabelNetwork → NodeId → Fec → Bool → Option LabelNetwork
wanted network n fec true = stepped network n (steps.Want fec)
wanted network n fec false = Some network

-- one node has other neighbours towards roots
abbrev pub with_upstream : LabelNetwork → NodeId → (Fec → Option NodeId) → LabelNetwork
with_upstream network n upstream = record network { upstream = λ m. if m.0 == n.0 then upstream else network.upstream m }

-- ---- copies

-- the copies on each direction become these
abbrev pub with_copies : LabelNetwork → (NodeId → NodeId → List PacketCopy) → LabelNetwork
with_copies network copies = record network { direction = λ u n. record (network.direction u n) { copies = copies u n } }

-- the labels of the branches to one neighbour, in order
abbrev pub labels_to : NodeId → List Branch → List ℕ
labels_to to branches = map (λ branch. branch.label) (filter (λ branch. branch.node.0 == to.0) branches)

-- a copy under each of these labels
abbrev pub new_copies : ℕ → ℕ → List ℕ → List PacketCopy
new_copies clock number labels = map (λ label. record { label = label; put_at = clock; number = number }) labels

-- A node puts a copy on each of its branches of a tree, in order. The end towards the neighbour of a branch is up.
abbrev pub copied : LabelNetwork → NodeId → Fec → ℕ → LabelNetwork
copied network n fec number =
    with_copies network (λ from to.
    if from.0 == n.0
    then (network.direction from to).copies ++ new_copies network.clock number (labels_to to (branches_of (network.node n) fec))
    else (network.direction from to).copies)

-- a copy leaves its link
abbrev pub without_copy : LabelNetwork → NodeId → NodeId → ℕ → LabelNetwork
without_copy network a b place =
    with_copies network (λ from to.
    if (from.0 == a.0) && (to.0 == b.0) then remove (network.direction from to).copies place else (network.direction from to).copies)

-- a copy goes on where its label is mapped towards the neighbour that it came from, and else is discarded
abbrev pub forwarded : LabelNetwork → NodeId → NodeId → Option LabelUse → ℕ → LabelNetwork
forwarded network a b (Some (uses.Mapped fec upstream)) number = if upstream.0 == a.0 then copied network b fec number else network
forwarded network a b other number = network

-- one copy lands, if it is there; no link joins a node with itself
abbrev pub landed : LabelNetwork → NodeId → NodeId → ℕ → Bool → Option PacketCopy → LabelNetwork
landed network a b place false (Some copy) = forwarded (without_copy network a b place) a b (use_of (network.node b) copy.label) copy.number
landed network a b place same found = network

-- ---- sessions

-- the sessions that are hit are unjoined, and what is in transit there is lost
abbrev pub unjoined : (NodeId → NodeId → Bool) → LabelNetwork → LabelNetwork
unjoined hit network =
    record network {
      direction = λ u n. record (network.direction u n) {
        joined = (network.direction u n).joined && not (hit u n);
        transit = if hit u n then [] else (network.direction u n).transit;
      };
    }

-- the loss of a session that is not joined is noticed at an end that is up
abbrev pub noticed : LabelNetwork → NodeId → NodeId → Bool → Bool → Option LabelNetwork
noticed network a b false true = stepped network a (steps.Noticed b)
noticed network a b joined up = Some network

-- the session of two nodes is joined
abbrev pub with_joined : NodeId → NodeId → LabelNetwork → LabelNetwork
with_joined a b network =
    record network {
      direction = λ u n. record (network.direction u n) { joined = (network.direction u n).joined || is_between a b u n };
    }

-- both ends come up where both are down, and the session is joined then
abbrev pub raised : LabelNetwork → NodeId → NodeId → Bool → Bool → Bool → Option LabelNetwork
raised network a b false false false =
    stepped network a (steps.Raised b) >>? λ first. stepped first b (steps.Raised a) >>? λ both. Some (with_joined a b both)
raised network a b same up other_up = Some network

-- ---- acts

-- What may happen: the first message in transit is taken; a node becomes a leaf of a tree, or no longer is one; a node puts
-- copies of a datagram on its branches of a tree; a copy lands, and goes on or is discarded; a copy is dropped; a session is
-- lost; its loss is noticed at one end; it is raised; a node restarts; time passes; the timers of a node are run; and the next hops
-- of a node towards roots become others, since costs of links changed.
pub data Act : Type 0 where
  Deliver : (from to : NodeId) → Act
  Want : (node : NodeId) → (fec : Fec) → Act
  Unwant : (node : NodeId) → (fec : Fec) → Act
  Put : (node : NodeId) → (fec : Fec) → (number : ℕ) → Act
  Land : (from to : NodeId) → (place : ℕ) → Act
  Drop : (from to : NodeId) → (place : ℕ) → Act
  Lose : (a b : NodeId) → Act
  Notice : (a b : NodeId) → Act
  Raise : (a b : NodeId) → Act
  Restart : (node : NodeId) → Act
  Tick : (ticks : ℕ) → Act
  Timers : (node : NodeId) → Act
  Reroute : (node : NodeId) → (upstream : Fec → Option NodeId) → Act

-- the network after an act; none where a node needs a label and none is free
abbrev pub act : LabelNetwork → Act → Option LabelNetwork
act network (Deliver a b) = delivered network a b (a.0 == b.0) (is_up (network.node b) a) (network.direction a b).transit
act network (Want n fec) = wanted network n fec (network.is_tree fec)
act network (Unwant n fec) = stepped network n (steps.Unwant fec)
act network (Put n fec number) =
    Some (if network.vpn_of fec == network.origin number then copied network n fec number else network)
act network (Land a b place) = Some (landed network a b place (a.0 == b.0) (slice_get (network.direction a b).copies place))
act network (Drop a b place) = Some (without_copy network a b place)
act network (Lose a b) = Some (unjoined (is_between a b) network)
act network (Notice a b) = noticed network a b (network.direction a b).joined (is_up (network.node a) b)
act network (Raise a b) = raised network a b (a.0 == b.0) (is_up (network.node a) b) (is_up (network.node b) a)
act network (Restart n) =
    let cut = unjoined (is_either n) network in
    Some (record cut { node = at_node n (fresh (network.labels n)) network.node })
act network (Tick ticks) =
    let moment = network.clock + ticks in
    let old = with_copies network (λ u n. filter (λ copy. nat_le moment (copy.put_at + network.life)) (network.direction u n).copies) in
    Some (record old { clock = moment })
act network (Timers n) = stepped network n steps.Timers
act network (Reroute n upstream) = stepped (with_upstream network n upstream) n steps.Rerouted

-- the network after a row of acts
abbrev pub run : LabelNetwork → List Act → Option LabelNetwork
run network [] = Some network
run network (first ∷ more) = act network first >>? λ next. run next more
