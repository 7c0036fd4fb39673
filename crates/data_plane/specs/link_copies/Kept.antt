-- Copies by way, as they are kept, and the data that they are.
use Rattle.std.specs.Prelude.{◌≡◌, ℕ, zero, suc, ◌+◌, ◌==◌, ◌&&◌, Bool, not, List, [], ◌∷◌, ◌++◌, count_by, length, sum_by, None, Some, if◌then◌else◌}
use Rattle.std.specs.FinMap as maps
use Rattle.std.specs.List.{filter}
use Rattle.std.specs.declared.option.Option.{Option}
use Rattle.std.specs.declared.hash.FoldHasher.{FoldHasher}
use Rattle.std.specs.declared.hash.BuildHasherDefault.{BuildHasherDefault}
use Rattle.indexmap.specs.IndexMap.{IndexMap, IsUnique, get}
use Rattle.mv_base.specs.declared.ids.NodeId.{NodeId}
use Rattle.buf_pool.specs.Held.{Buffers}
pub use Rattle.data_plane.specs.link_copies.CopiesData.{is_way}
use Rattle.data_plane.specs.link_copies.CopiesData.{KeptCopy, Current, Ways, CopiesData, is_recent, put_on}
use Rattle.data_plane.specs.declared.link_copies.hop.Hop.{Hop}
use Rattle.data_plane.specs.declared.link_copies.kept.Landed.{Landed}

abbrev pub WayMap : Type 0
WayMap = IndexMap (NodeId × NodeId) (List KeptCopy) (BuildHasherDefault FoldHasher)

-- the copies that are kept of the way
abbrev pub copies_on : WayMap → NodeId × NodeId → List KeptCopy
copies_on ways way = elim (get is_way ways way) [ None ↦ [] | Some copies ↦ copies ]

-- the data
abbrev pub ways_of : WayMap → Ways
ways_of ways = maps.from_entries ways.entries

abbrev pub data_of : WayMap → Option Current → Buffers → CopiesData
data_of ways current buffers = record { ways = ways_of ways; current = current; buffers = buffers }

abbrev pub Entry : Type 0
Entry = (NodeId × NodeId) × List KeptCopy

-- a number of each way's copies, summed over all ways
abbrev pub sum_over : (List KeptCopy → ℕ) → WayMap → ℕ
sum_over f ways = sum_by (λ (e : Entry). f e.1) ways.entries

abbrev pub total : (List KeptCopy → ℕ) → Ways → ℕ
total f ways = sum_by (λ e. f e.1) (maps.entries ways)

-- how many copies of all ways have a number and a buffer that pass the test
abbrev pub passing : (ℕ → ℕ → Bool) → WayMap → ℕ
passing test ways = total (count_by (λ k. test k.copy.number k.buffer)) (ways_of ways)

-- A copy of the datagram was put on each of these hops, after the others of its way.
pub record ArePut (ttl now : ℕ) (datagram : Current) (hops : List Hop) (old new : WayMap) : Type 0 where
  pub unique : IsUnique is_way new
  pub copies : (u n : NodeId) → copies_on new (u, n) ≡ copies_on old (u, n) ++ put_on ttl now datagram hops u n
  pub more : (test : ℕ → ℕ → Bool) → passing test new ≡ passing test old + (if test datagram.number datagram.buffer then length hops else 0)
  pub count : total length (ways_of new) ≡ total length (ways_of old) + length hops

-- those that have been on their link for no longer than they may
abbrev pub recent : ℕ → ℕ → List KeptCopy → List KeptCopy
recent now life copies = filter (is_recent now life) copies

-- the copies of all ways, of which the first so many ways have lost those that are older
abbrev pub aged_to : ℕ → ℕ → ℕ → List Entry → List Entry
aged_to now life zero entries = entries
aged_to now life (suc n) [] = []
aged_to now life (suc n) (e ∷ es) = (e.0, recent now life e.1) ∷ aged_to now life n es

-- the same, where the way of that index has
abbrev pub aged_at : ℕ → ℕ → ℕ → List Entry → List Entry
aged_at now life index [] = []
aged_at now life zero (e ∷ es) = (e.0, recent now life e.1) ∷ es
aged_at now life (suc index) (e ∷ es) = e ∷ aged_at now life index es

-- how many of them have that buffer
abbrev pub with_buffer : ℕ → List KeptCopy → ℕ
with_buffer name copies = count_by (λ k. k.buffer == name) copies

-- how many of those that have been on their link for longer have that buffer
abbrev pub gone : ℕ → ℕ → ℕ → List KeptCopy → ℕ
gone now life name copies = count_by (λ k. not (is_recent now life k) && (k.buffer == name)) copies

-- what a node that takes a copy is told of it
abbrev pub landed_of : KeptCopy → Landed
landed_of k = record { label = k.copy.label; ttl = k.copy.ttl; number = k.copy.number }
