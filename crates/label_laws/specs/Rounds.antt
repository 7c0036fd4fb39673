-- Rounds in which the messages in transit are delivered, and how far a message is from being answered for the last time.
use Rattle.std.specs.Prelude.{◌≡◌, ◌≢◌, ◌<◌, ℕ, zero, suc, ◌+◌, ◌==◌, ◌&&◌, Bool, true, List, [], ◌∷◌, length, Option, Some}
use Rattle.std.specs.List.{list_any}
use Rattle.mv_base.specs.Number.{◌>>?◌}
use Rattle.mv_base.specs.declared.ids.NodeId.{NodeId}
use Rattle.mldp.specs.declared.mldp_fec.fec.Fec.{Fec}
use Rattle.mldp.specs.declared.mldp_msgs.message.LabelMessage.{LabelMessage}
use Rattle.mldp.specs.declared.mldp_msgs.message.LabelMessage.TheVariants as messages
use Rattle.label_laws.specs.Network.{LabelNetwork}
use Rattle.label_laws.specs.Acts.{Deliver, act}

-- ---- rounds

-- so many messages from a to b are delivered, one after another; none where one of them needs a label and none is free
abbrev pub moved : LabelNetwork → NodeId → NodeId → ℕ → Option LabelNetwork
moved network a b zero = Some network
moved network a b (suc count) = act network (Deliver a b) >>? λ next. moved next a b count

-- a direction has its turn: all that is in transit there then is delivered
abbrev pub turn : LabelNetwork → NodeId → NodeId → Option LabelNetwork
turn network a b = moved network a b (length (network.direction a b).transit)

-- each direction of the order has its turn
abbrev pub round : List (NodeId × NodeId) → LabelNetwork → Option LabelNetwork
round [] network = Some network
round (first ∷ more) network = turn network first.0 first.1 >>? λ next. round more next

-- so many rounds, one after another
abbrev pub rounds : List (NodeId × NodeId) → ℕ → LabelNetwork → Option LabelNetwork
rounds order zero network = Some network
rounds order (suc count) network = round order network >>? λ next. rounds order count next

-- whether the direction from u to n is in the order
abbrev pub is_listed : List (NodeId × NodeId) → NodeId → NodeId → Bool
is_listed order u n = list_any (λ direction. (direction.0.0 == u.0) && (direction.1.0 == n.0)) order

-- each direction of a joined session is in the order
abbrev pub Lists : List (NodeId × NodeId) → LabelNetwork → Type 0
Lists order network = (u n : NodeId) → u ≢ n → (network.direction u n).joined ≡ true → is_listed order u n ≡ true

-- nothing is in transit between any two nodes
abbrev pub IsQuiet : LabelNetwork → Type 0
IsQuiet network = (u n : NodeId) → u ≢ n → (network.direction u n).transit ≡ []

-- ---- how far a message goes

-- The rank of a message on its way to b, by the depth of b in the message's tree. A mapping or a withdraw is answered, if at all, by a
-- release and by a message one link further on the way to the root; any other message is answered by none.
abbrev pub rank : (NodeId → Fec → ℕ) → NodeId → LabelMessage → ℕ
rank depth b (messages.Mapping fec label) = 1 + depth b fec
rank depth b (messages.Withdraw fec label) = 1 + depth b fec
rank depth b other = 0

-- the neighbour of a node towards the root of a tree is less deep in it
abbrev pub IsNearer : LabelNetwork → (NodeId → Fec → ℕ) → Type 0
IsNearer network depth = (n v : NodeId) (fec : Fec) → network.upstream n fec ≡ Some v → depth v fec < depth n fec
