-- The copies on the links of a network, with the buffers that have the octets of their datagrams.
use Rattle.std.specs.Prelude.{◌≡◌, ◌≢◌, ◌↔◌, ℕ, ◌+◌, ◌<◌, ◌≤◌, ◌==◌, ◌&&◌, Bool, false}
use Rattle.std.specs.Prelude.{List, [], ◌∷◌, ◌++◌, length, map, nat_le, count_by, None, Some, refl, if◌then◌else◌}
use Rattle.std.specs.Coded.{Coded, code_by, coded×, coded_list, coded_ℕ, coded_option}
use Rattle.std.specs.Cmp.Lexicographic.{slice_cmp}
use Rattle.std.specs.FinMap as maps
use Rattle.std.specs.FinMap.{FinMap}
use Rattle.std.specs.List.{AllByRecursion, IsDistinct, filter, flat_map, list_any}
use Rattle.std.specs.Option.{option_map}
use Rattle.std.specs.Ordering.{nat_cmp}
use Rattle.std.specs.declared.cmp.Ordering.{Ordering}
use Rattle.std.specs.declared.option.Option.{Option}
use Rattle.mv_base.specs.declared.ids.NodeId.{NodeId}
use Rattle.mv_base.specs.contracts.ids.NodeId as nodes
use Rattle.buf_pool.specs.Held.{Buffers, buffers_code, held, IsLive}
use Rattle.label_defs.specs.declared.branch.Branch.{Branch as TreeBranch}
use Rattle.label_forwarding.specs.declared.branch.Branch.{Branch}
use Rattle.data_plane.specs.declared.link_copies.hop.Hop.{Hop}
use Rattle.network_defs.specs.World.{LinkCopy, World}

-- a copy on a link, and the name of the buffer that has the octets of its datagram
pub record KeptCopy : Type 0 where
  pub copy : LinkCopy
  pub buffer : ℕ

-- the datagram that is being handled, since a copy of it has landed: its number, and the name of the buffer that has its octets
pub record Current : Type 0 where
  pub number : ℕ
  pub buffer : ℕ

-- by the node that sends, then by the node that receives
abbrev pub way_cmp : NodeId × NodeId → NodeId × NodeId → Ordering
way_cmp a b = slice_cmp nat_cmp (a.0.0 ∷ a.1.0 ∷ []) (b.0.0 ∷ b.1.0 ∷ [])

abbrev pub Ways : Type 0
Ways = FinMap way_cmp (List KeptCopy)

-- The copies on each link, each way in their order; the datagram that is being handled, if any; and the buffers.
pub record CopiesData : Type 0 where
  pub ways : Ways
  pub current : Option Current
  pub buffers : Buffers

abbrev pub no_copies : CopiesData
no_copies = record { ways = maps.empty; current = None; buffers = maps.empty }

-- ---- copies

-- the copies on the way between two nodes
abbrev pub kept_at : CopiesData → NodeId → NodeId → List KeptCopy
kept_at state u n = elim (maps.get state.ways (u, n)) [ None ↦ [] | Some copies ↦ copies ]

-- the same, as the network has them
abbrev pub copies_at : CopiesData → NodeId → NodeId → List LinkCopy
copies_at state u n = map (λ k. k.copy) (kept_at state u n)

-- the copies are those of the network
abbrev pub HasCopies : CopiesData → World → Type 0
HasCopies state world = (u n : NodeId) → copies_at state u n ≡ world.copies u n

-- the copies on all links
abbrev pub all_kept : CopiesData → List KeptCopy
all_kept state = flat_map (λ e. e.1) (maps.entries state.ways)

-- no copy is of the datagram of that number
abbrev pub LacksNumber : CopiesData → ℕ → Type 0
LacksNumber state number = (u n : NodeId) → AllByRecursion (λ k. k.copy.number ≢ number) (kept_at state u n)

-- the datagrams of all copies have numbers from 1 to that one
abbrev pub AreNumbered : CopiesData → ℕ → Type 0
AreNumbered state last = (u n : NodeId) → AllByRecursion (λ k. (0 < k.copy.number) × (k.copy.number ≤ last)) (kept_at state u n)

-- whether both are one way
abbrev pub is_way : NodeId × NodeId → NodeId × NodeId → Bool
is_way a b = (a.0.0 == b.0.0) && (a.1.0 == b.1.0)

-- the ways of the list are all that have copies, each once, and maybe others
pub record HasWays (ways : List (NodeId × NodeId)) (state : CopiesData) : Type 0 where
  pub once : IsDistinct is_way ways
  pub all : (u n : NodeId) → list_any (is_way (u, n)) ways ≡ false → kept_at state u n ≡ []

-- the copies on these ways, as the network has them
abbrev pub copies_on_ways : List (NodeId × NodeId) → CopiesData → List LinkCopy
copies_on_ways ways state = flat_map (λ way. copies_at state way.0 way.1) ways

-- whether a way is that from one node to another
abbrev pub is_at : NodeId → NodeId → NodeId → NodeId → Bool
is_at from to u n = (u.0 == from.0) && (n.0 == to.0)

-- whether a copy has been on its link for no longer than it may
abbrev pub is_recent : ℕ → ℕ → KeptCopy → Bool
is_recent now life k = nat_le now (k.copy.put_at + life)

-- the datagram of a copy
abbrev pub current_of : KeptCopy → Current
current_of k = record { number = k.copy.number; buffer = k.buffer }

-- a copy of the datagram, on a branch
abbrev pub copy_on : ℕ → ℕ → Current → Branch → KeptCopy
copy_on ttl now current branch =
    record { copy = record { label = branch.label; ttl = ttl; put_at = now; number = current.number }; buffer = current.buffer }

-- what a node that puts a copy of the datagram on each of these branches puts on the way between two nodes
abbrev pub sent : Option Current → NodeId → ℕ → ℕ → List Branch → NodeId → NodeId → List KeptCopy
sent None from ttl now branches u n = []
sent (Some current) from ttl now branches u n =
    if u.0 == from.0 then map (copy_on ttl now current) (filter (λ branch. n.0 == branch.node.0) branches) else []

-- whether a hop is on the way between two nodes
abbrev pub leads_over : NodeId → NodeId → Hop → Bool
leads_over u n hop = is_at hop.from hop.branch.node u n

-- what a copy of the datagram on each of these hops puts on the way between two nodes
abbrev pub put_on : ℕ → ℕ → Current → List Hop → NodeId → NodeId → List KeptCopy
put_on ttl now datagram hops u n = map (λ hop. copy_on ttl now datagram hop.branch) (filter (leads_over u n) hops)

-- a branch of a tree, without its tree
abbrev pub hop_of : TreeBranch → Branch
hop_of branch = record { node = branch.node; label = branch.label }

-- ---- buffers

-- how many hold the buffer of that name: 0 where there is none
abbrev pub count_of : Buffers → ℕ → ℕ
count_of buffers name = elim (maps.get buffers name) [ None ↦ 0 | Some held ↦ held.count ]

-- the octets of the buffer of that name
abbrev pub octets_in : Buffers → ℕ → Option (List ℕ)
octets_in buffers name = option_map (λ held. held.octets) (maps.get buffers name)

-- the octets of the datagram that is being handled
abbrev pub current_octets : CopiesData → Option (List ℕ)
current_octets state = elim state.current [ None ↦ None | Some current ↦ octets_in state.buffers current.buffer ]

-- how many of the copies, and of the datagram that is being handled, have a number and a buffer that pass the test
abbrev pub holding : (ℕ → ℕ → Bool) → CopiesData → ℕ
holding test state =
    count_by (λ k. test k.copy.number k.buffer) (all_kept state)
    + elim state.current [ None ↦ 0 | Some current ↦ if test current.number current.buffer then 1 else 0 ]

-- how many hold the buffer of that name
abbrev pub holders : CopiesData → ℕ → ℕ
holders state name = holding (λ number buffer. buffer == name) state

-- how many hold it for the datagram of that number
abbrev pub holders_for : CopiesData → ℕ → ℕ → ℕ
holders_for state number name = holding (λ n buffer. (n == number) && (buffer == name)) state

-- Each datagram's octets stand once: a buffer counts those who hold it, it ends when there are none, and a number has one buffer, as a
-- buffer has one number.
pub record IsShared (state : CopiesData) : Type 0 where
  pub counted : (name : ℕ) → count_of state.buffers name ≡ holders state name
  pub lives : (name : ℕ) → IsLive state.buffers name → 0 < holders state name
  pub named : (number name other another : ℕ) → 0 < holders_for state number name → 0 < holders_for state other another →
      (number ≡ other) ↔ (name ≡ another)

-- A datagram went out on these hops: its octets are in one new buffer, which counts its copies, and a copy is put on each hop.
pub record IsSent (number : ℕ) (octets : List ℕ) (ttl now : ℕ) (hops : List Hop) (old new : CopiesData) : Type 0 where
  pub buffer : ℕ
  pub fresh : maps.get old.buffers buffer ≡ None
  pub buffers : new.buffers ≡ maps.insert old.buffers buffer (held octets (length hops))
  pub copies : (u n : NodeId) → kept_at new u n ≡ kept_at old u n ++ put_on ttl now (record { number = number; buffer = buffer }) hops u n

-- each buffer lives on, with its octets
abbrev pub KeepsBuffers : Buffers → Buffers → Type 0
KeepsBuffers old new = (name : ℕ) (octets : List ℕ) → octets_in old name ≡ Some octets → octets_in new name ≡ Some octets

-- each buffer that lives before and after a call has the same octets
abbrev pub KeepsOctets : CopiesData → CopiesData → Type 0
KeepsOctets old new = (name : ℕ) (before thereafter : List ℕ) → octets_in old.buffers name ≡ Some before → octets_in new.buffers name ≡ Some thereafter →
    before ≡ thereafter

-- ---- the code, by which one is told from another

abbrev kept_code : Coded KeptCopy
kept_code = code_by (ℕ × (ℕ × (ℕ × (ℕ × ℕ)))) (coded× coded_ℕ (coded× coded_ℕ (coded× coded_ℕ (coded× coded_ℕ coded_ℕ))))
    (λ k. (k.copy.label, (k.copy.ttl, (k.copy.put_at, (k.copy.number, k.buffer)))))
    (λ p. record { copy = record { label = p.0; ttl = p.1.0; put_at = p.1.1.0; number = p.1.1.1.0 }; buffer = p.1.1.1.1 }) (λ _. refl)

abbrev current_code : Coded Current
current_code = code_by (ℕ × ℕ) (coded× coded_ℕ coded_ℕ) (λ c. (c.number, c.buffer)) (λ p. record { number = p.0; buffer = p.1 }) (λ _. refl)

abbrev pub copies_code : Coded CopiesData
copies_code = code_by (Ways × (Option Current × Buffers))
    (coded× (maps.code (coded× nodes.the_row.coded nodes.the_row.coded) (coded_list kept_code)) (coded× (coded_option current_code) buffers_code))
    (λ d. (d.ways, (d.current, d.buffers))) (λ p. record { ways = p.0; current = p.1.0; buffers = p.1.1 }) (λ _. refl)
