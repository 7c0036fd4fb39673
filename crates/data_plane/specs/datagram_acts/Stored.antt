-- Datagrams as they are stored, and the network whose datagrams they are.
use Rattle.std.specs.Prelude.{◌≡◌, ◌-◌, ◌++◌, ℕ, false, List, [], ◌∷◌, length, map, slice_get, T, is_some, None, Some, IfSome}
use Rattle.std.specs.declared.option.Option.{Option}
use Rattle.std.specs.List.{AllByRecursion, IsDistinct, filter, list_any}
use Rattle.mv_base.specs.declared.ids.NodeId.{NodeId}
use Rattle.label_defs.specs.declared.branch.Branch.{Branch as TreeBranch}
pub use Rattle.buf_pool.specs.Held.{Buffers, Held, IsLive, held}
use Rattle.network_defs.specs.Acts.{without_copy}
use Rattle.network_defs.specs.Counts.{link_ways}
use Rattle.network_defs.specs.World.{Datagram, LinkCopy, World, clock_of, numbered, scenario_of}
use Rattle.data_plane.specs.link_copies.CopiesData.{CopiesData, Current, HasCopies, KeptCopy, LacksNumber, copies_at, hop_of, is_way, kept_at}
use Rattle.data_plane.specs.link_copies.CopiesData.{leads_over, octets_in}
use Rattle.data_plane.specs.declared.link_copies.hop.Hop.{Hop}
use Rattle.data_plane.specs.declared.link_copies.kept.Landed.{Landed}
use Rattle.data_plane.specs.datagram_acts.DatagramsView.{DatagramsView}

-- The copy is of one of these datagrams, and its buffer has the octets of that one.
pub record HasBuffer (datagrams : List Datagram) (buffers : Buffers) (kept : KeptCopy) : Type 0 where
  pub datagram : Datagram
  pub is : numbered datagrams kept.copy.number ≡ Some datagram
  pub octets : octets_in buffers kept.buffer ≡ Some datagram.octets

-- The copies are those of the network, each with the octets of its datagram.
pub record Stores (world : World) (state : CopiesData) : Type 0 where
  pub copies : HasCopies state world
  pub buffers : (u n : NodeId) → AllByRecursion (HasBuffer world.datagrams state.buffers) (kept_at state u n)

-- The datagrams are those of the network, and none is being handled.
pub record IsIdle (world : World) (view : DatagramsView) : Type 0 where
  pub stores : Stores world view.copies
  pub none : view.copies.current ≡ None
  pub count : view.count ≡ length world.datagrams

-- ---- a datagram that is being sent

-- where a copy goes that a node puts on a branch of a tree
abbrev pub hop_at : NodeId → TreeBranch → Hop
hop_at node branch = record { from = node; branch = hop_of branch }

-- the copies of the datagram of that number that these hops put on the way between two nodes, all with the TTL of a datagram that enters
abbrev pub waiting : ℕ → ℕ → List Hop → NodeId → NodeId → List LinkCopy
waiting now number hops u n =
    map (λ hop. record { label = hop.branch.label; ttl = 255; put_at = now; number = number }) (filter (leads_over u n) hops)

-- The last datagram, of that number, is being sent: the network has its copies on the hops that are kept. They are not on links yet, and
-- it has no buffer. All other copies are those of the network, each with the octets of its datagram.
pub record IsSending (world : World) (number : ℕ) (datagram : Datagram) (view : DatagramsView) : Type 0 where
  pub copies : (u n : NodeId) → world.copies u n ≡ copies_at view.copies u n ++ waiting (clock_of world) number view.hops u n
  pub buffers : (u n : NodeId) → AllByRecursion (HasBuffer world.datagrams view.copies.buffers) (kept_at view.copies u n)
  pub none : view.copies.current ≡ None
  pub new : LacksNumber view.copies number
  pub number_is : number ≡ view.count
  pub of_it : numbered world.datagrams number ≡ Some datagram
  pub count : view.count ≡ length world.datagrams

-- some datagram is being sent
abbrev pub IsSomeSending : DatagramsView → Type 0
IsSomeSending view = (world : World) × (number : ℕ) × (datagram : Datagram) × IsSending world number datagram view

-- ---- a datagram of which a copy has landed

-- The datagrams are those of the network, and the one of that number is being handled.
pub record Handles (world : World) (number : ℕ) (datagram : Datagram) (view : DatagramsView) : Type 0 where
  pub stores : Stores world view.copies
  pub current : Current
  pub is : view.copies.current ≡ Some current
  pub number_is : current.number ≡ number
  pub octets : octets_in view.copies.buffers current.buffer ≡ Some datagram.octets
  pub of_it : numbered world.datagrams number ≡ Some datagram
  pub count : view.count ≡ length world.datagrams

-- The copy at that place of the way, counted from 1, has left its link: a node is told this of it, and its datagram is being handled.
pub record HasLanded (world : World) (from to : NodeId) (place : ℕ) (landed : Landed) (view : DatagramsView) : Type 0 where
  pub copy : LinkCopy
  pub datagram : Datagram
  pub at : slice_get (world.copies from to) (place - 1) ≡ Some copy
  pub label : landed.label ≡ copy.label
  pub ttl : landed.ttl ≡ copy.ttl
  pub number : landed.number ≡ copy.number
  pub handles : Handles (without_copy world from to place) copy.number datagram view

-- a datagram was accepted
abbrev pub with_datagram : Datagram → World → World
with_datagram datagram world = record world { datagrams = world.datagrams ++ datagram ∷ [] }

-- Each way of a link is one way, and where no link is, there are no copies.
pub record AreLinked (world : World) : Type 0 where
  pub once : IsDistinct is_way (link_ways (scenario_of world))
  pub apart : (u n : NodeId) → list_any (is_way (u, n)) (link_ways (scenario_of world)) ≡ false → world.copies u n ≡ []

-- the number that is kept is that of the datagram that is being handled, if any
abbrev pub IsNumber : ℕ → Option Current → Type 0
IsNumber number current = IfSome current (λ one. one.number ≡ number)

-- some datagram is being handled
abbrev pub IsHandling : DatagramsView → Type 0
IsHandling view = T (is_some view.copies.current)
