-- Which copy has which buffer of the pool, while no datagram is being handled.
use Rattle.std.proofs.Common.{◌≡◌, ◌∙◌, ◌↔◌, refl, sym, ap, arith, ℕ, zero, suc, ◌+◌, ◌<◌, ◌==◌, Bool, true, false, List, [], ◌∷◌, map, slice_get, Option, Some, None}
use Rattle.std.specs.FinMap as maps
use Rattle.std.specs.List.{count_by, flat_map}
use Rattle.std.proofs.lemmas.Bool.{eqb-true, eqb-false}
use Rattle.std.proofs.lemmas.List.Sums.{sum_by-append, sum_by-cons}
use Rattle.buf_pool.specs.Held.{IsLive, held}
use Rattle.mv_base.specs.declared.ids.NodeId.{NodeId}
use Rattle.network_defs.specs.Counts.{all_copies, link_ways}
use Rattle.network_defs.specs.World.{Datagram, LinkCopy, World, numbered, scenario_of}
use Rattle.data_plane.specs.link_copies.CopiesData.{CopiesData, Current, IsShared, KeptCopy, all_kept, count_of, holders, kept_at}
use Rattle.data_plane.proofs.link_copies.Basics.{one_if, some_equal}
use Rattle.data_plane.proofs.link_copies.Holders.{kept_lives, two_copies}
use Rattle.data_plane.proofs.link_copies.Lists.{count-all, count-cons}
use Rattle.data_plane.proofs.link_copies.Pools.{count_in, held_from, octets_of}
use Rattle.data_plane.proofs.link_copies.Sums.{sum-ways, total_ways, ways-cons}
use Rattle.data_plane.specs.datagram_acts.Stored.{AreLinked, HasBuffer, Stores}
use Rattle.data_plane.proofs.datagram_acts.Along.{all_at}
use Rattle.data_plane.proofs.datagram_acts.Counts.{has_ways}

abbrev of_number : ℕ → LinkCopy → Bool
of_number number copy = copy.number == number

abbrev of_buffer : ℕ → KeptCopy → Bool
of_buffer name k = k.buffer == name

-- ---- copies that pass a test

same_tests : (a b c e : ℕ) → (a ≡ b) ↔ (c ≡ e) → (c == e) ≡ (a == b)
same_tests a b c e both = by (c == e) (a == b) refl refl
  where
    by : (x y : Bool) → (c == e) ≡ x → (a == b) ≡ y → x ≡ y
    by true true p q = refl
    by false false p q = refl
    by true false p q = absurd (eqb-false a b q (both.1 (eqb-true c e p)))
    by false true p q = absurd (eqb-false c e p (both.0 (eqb-true a b q)))

-- where each copy of a list passes one test exactly where it passes the other
same_count : (t : KeptCopy → Bool) (s : LinkCopy → Bool) (ks : List KeptCopy)
    → ((place : ℕ) (k : KeptCopy) → slice_get ks place ≡ Some k → t k ≡ s k.copy) → count_by t ks ≡ count_by s (map (λ (k : KeptCopy). k.copy) ks)
same_count t s [] each = refl
same_count t s (k ∷ ks) each = omega (
  arith,
  count-cons t k ks,
  sum_by-cons (λ (c : LinkCopy). one_if (s c)) k.copy (map (λ (x : KeptCopy). x.copy) ks),
  ap one_if (each 0 k refl),
  same_count t s ks (λ place x at. each (suc place) x at),
)

-- where some copy of a list has the buffer, one at some place has it
copy_with : (name : ℕ) (ks : List KeptCopy) → 0 < count_by (of_buffer name) ks
    → (place : ℕ) × (k : KeptCopy) × (slice_get ks place ≡ Some k) × (k.buffer ≡ name)
copy_with name [] h = absurd (omega (arith, h))
copy_with name (k ∷ ks) h = by (k.buffer == name) refl (copy_with name ks)
  where
    by : (b : Bool) → (k.buffer == name) ≡ b → (0 < count_by (of_buffer name) ks
        → (place : ℕ) × (x : KeptCopy) × (slice_get ks place ≡ Some x) × (x.buffer ≡ name))
        → (place : ℕ) × (x : KeptCopy) × (slice_get (k ∷ ks) place ≡ Some x) × (x.buffer ≡ name)
    by true e rest = (0, k, refl, eqb-true k.buffer name e)
    by false e rest = let found = rest (omega (arith, h, count-cons (of_buffer name) k ks, ap one_if e)) in (suc found.0, found.1, found.2, found.3)

-- where some copy on the ways of a list has the buffer, one on some way has it
way_with : (name : ℕ) (d : CopiesData) (ways : List (NodeId × NodeId)) → 0 < sum-ways (count_by (of_buffer name)) refl d.ways ways
    → (u : NodeId) × (n : NodeId) × (0 < count_by (of_buffer name) (kept_at d u n))
way_with name d [] h = absurd (omega (arith, h))
way_with name d (w ∷ ws) h = by (count_by (of_buffer name) (kept_at d w.0 w.1)) refl (way_with name d ws)
  where
    by : (count : ℕ) → count_by (of_buffer name) (kept_at d w.0 w.1) ≡ count
        → (0 < sum-ways (count_by (of_buffer name)) refl d.ways ws → (u : NodeId) × (n : NodeId) × (0 < count_by (of_buffer name) (kept_at d u n)))
        → (u : NodeId) × (n : NodeId) × (0 < count_by (of_buffer name) (kept_at d u n))
    by zero e rest = rest (omega (arith, h, ways-cons (count_by (of_buffer name)) refl d.ways w ws, e))
    by (suc count) e rest = (w.0, w.1, omega (arith, e))

-- ---- the buffers

module _ (world : World) (d : CopiesData) (stores : Stores world d) (linked : AreLinked world) where
  abbrev ways : List (NodeId × NodeId)
  ways = link_ways (scenario_of world)

  kept_on_ways : (t : KeptCopy → Bool) → count_by t (all_kept d) ≡ sum-ways (count_by t) refl d.ways ways
  kept_on_ways t =
      count-all t (maps.entries d.ways) ∙ total_ways (count_by t) refl ways d.ways linked.once
      (λ way none. ap (count_by t) ((has_ways world d stores linked).all way.0 way.1 none))

  copies_on : (t : KeptCopy → Bool) (s : LinkCopy → Bool) → ((u n : NodeId) → count_by t (kept_at d u n) ≡ count_by s (world.copies u n))
      → (some : List (NodeId × NodeId))
      → sum-ways (count_by t) refl d.ways some ≡ count_by s (flat_map (λ (way : NodeId × NodeId). world.copies way.0 way.1) some)
  copies_on t s each [] = refl
  copies_on t s each (w ∷ ws) = omega (
    arith,
    ways-cons (count_by t) refl d.ways w ws,
    sum_by-append (λ (c : LinkCopy). one_if (s c)) (world.copies w.0 w.1) (flat_map (λ (way : NodeId × NodeId). world.copies way.0 way.1) ws),
    each w.0 w.1,
    copies_on t s each ws,
  )

  module _ (account : IsShared d) (idle : d.current ≡ None) where
    -- who holds a buffer are copies alone
    held_on_ways : (name : ℕ) → holders d name ≡ sum-ways (count_by (of_buffer name)) refl d.ways ways
    held_on_ways name = alone ∙ kept_on_ways (of_buffer name)
      where
        none_more : (n : ℕ) → n + 0 ≡ n
        none_more n = omega arith

        alone : holders d name ≡ count_by (of_buffer name) (all_kept d)
        alone =
            ap (λ (o : Option Current). count_by (of_buffer name) (all_kept d) + elim o [ None ↦ 0 | Some current ↦ one_if (current.buffer == name) ])
            idle
            ∙ none_more (count_by (of_buffer name) (all_kept d))

    module _ (u n : NodeId) (place : ℕ) (k : KeptCopy) (at : slice_get (kept_at d u n) place ≡ Some k) where
      -- on each way, the copies with its buffer are those of its datagram
      same_way : (v m : NodeId) → count_by (of_buffer k.buffer) (kept_at d v m) ≡ count_by (of_number k.copy.number) (world.copies v m)
      same_way v m =
          same_count (of_buffer k.buffer) (of_number k.copy.number) (kept_at d v m)
          (λ other x there. same_tests x.copy.number k.copy.number x.buffer k.buffer (two_copies d v m u n other place x k account there at))
          ∙ ap (count_by (of_number k.copy.number)) (stores.copies v m)

      counted : count_of d.buffers k.buffer ≡ count_by (of_number k.copy.number) (all_copies world)
      counted = account.counted k.buffer ∙ held_on_ways k.buffer ∙ copies_on (of_buffer k.buffer) (of_number k.copy.number) same_way ways

      -- its buffer has the octets of its datagram, and counts the copies of that datagram on links
      pub has_held : (datagram : Datagram) × (numbered world.datagrams k.copy.number ≡ Some datagram)
          × (maps.get d.buffers k.buffer ≡ Some (held datagram.octets (count_by (of_number k.copy.number) (all_copies world))))
      has_held =
          let own : HasBuffer world.datagrams d.buffers k =
          all_at (HasBuffer world.datagrams d.buffers) (kept_at d u n) place k (stores.buffers u n) at in
          let is = held_from d.buffers k.buffer (kept_lives d u n place k account at) in
          let octets : is.0.octets ≡ own.datagram.octets = some_equal is.0.octets own.datagram.octets (ap octets_of (sym is.1) ∙ own.octets) in
          let count : is.0.count ≡ count_by (of_number k.copy.number) (all_copies world) = ap count_in (sym is.1) ∙ counted in
          (own.datagram, own.is, is.1 ∙ (λ i. Some (held (octets i) (count i))))

    -- each buffer is that of some copy
    pub is_named : (name : ℕ) → IsLive d.buffers name
        → (u : NodeId) × (n : NodeId) × (place : ℕ) × (k : KeptCopy) × (slice_get (kept_at d u n) place ≡ Some k) × (k.buffer ≡ name)
    is_named name live =
        let way = way_with name d ways (omega (arith, account.lives name live, held_on_ways name)) in
        let copy = copy_with name (kept_at d way.0 way.1) way.2 in
        (way.0, way.1, copy.0, copy.1, copy.2, copy.3)
