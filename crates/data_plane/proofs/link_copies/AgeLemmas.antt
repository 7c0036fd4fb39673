-- The account of the buffers after the drop of old copies.
use Rattle.std.proofs.Common.{◌≡◌, ℕ, ◌+◌, ◌≤◌, ◌==◌, Bool, List, length, sum_by, Option, sym, ap, ◌∙◌, arith}
use Rattle.std.specs.FinMap as maps
use Rattle.std.specs.List.{count_by, filter}
use Rattle.std.specs.Map.{lookup}
use Rattle.buf_pool.specs.Held.{Buffers}
use Rattle.indexmap.specs.IndexMap.{IsUnique}
use Rattle.mv_base.specs.declared.ids.NodeId.{NodeId}
use Rattle.data_plane.specs.link_copies.CopiesData.{Current, CopiesData, all_kept, kept_at, is_recent, count_of, holding, holders, IsShared}
use Rattle.data_plane.specs.link_copies.Kept.{WayMap, Entry, is_way, ways_of, data_of, sum_over, with_buffer, aged_to}
use Rattle.data_plane.specs.link_copies.Fading.{Fades}
use Rattle.data_plane.proofs.link_copies.Sums.{copies_in, copies_seen, total_is}
use Rattle.data_plane.proofs.link_copies.Holdings.{passes, own, is_pair, length_total, held_total, are_held, shared_after}
use Rattle.data_plane.proofs.link_copies.AgedWays.{aged-fewer, aged-seen}
use Rattle.data_plane.proofs.link_copies.Landing.{kept_seen}

module _ (m : WayMap) (current : Option Current) (buffers : Buffers) (unique : IsUnique is_way m) where
  pub length_sum : length (all_kept (data_of m current buffers)) ≡ sum_over length m
  length_sum = length_total (data_of m current buffers) ∙ total_is length m.entries unique

  held_sum : (test : ℕ → ℕ → Bool) → holding test (data_of m current buffers) ≡ sum_over (count_by (passes test)) m + own test current
  held_sum test =
      held_total test (data_of m current buffers) ∙ ap (λ (n : ℕ). n + own test current) (total_is (count_by (passes test)) m.entries unique)

  -- no more copies have a buffer than hold it
  pub held_most : IsShared (data_of m current buffers) → (name : ℕ) → sum_over (with_buffer name) m ≤ count_of buffers name
  held_most account name = omega (arith, account.counted name, held_sum (λ number buffer. buffer == name))

module _ (old new : WayMap) (current : Option Current) (before thereafter : Buffers) (now life n : ℕ)
    (aged : new.entries ≡ aged_to now life n old.entries) where
  module _ (was_unique : IsUnique is_way old) (is_unique : IsUnique is_way new)
      (held : (name : ℕ) → count_of thereafter name + sum_over (with_buffer name) old ≡ count_of before name + sum_over (with_buffer name) new)
      (fades : Fades before thereafter) (account : IsShared (data_of old current before)) where
    age_counted : (name : ℕ) → count_of thereafter name ≡ holders (data_of new current thereafter) name
    age_counted name = omega (
      arith,
      account.counted name,
      held name,
      held_sum old current before was_unique (λ number buffer. buffer == name),
      held_sum new current thereafter is_unique (λ number buffer. buffer == name),
    )

    pub age_shared : IsShared (data_of new current thereafter)
    age_shared = shared_after (data_of old current before) (data_of new current thereafter) age_counted
        (fades.held (are_held (data_of old current before) account))
        (λ number name h. omega (
          arith,
          h,
          held_sum old current before was_unique (is_pair number name),
          held_sum new current thereafter is_unique (is_pair number name),
          ap (λ (es : List Entry). sum_by (λ (e : Entry). count_by (passes (is_pair number name)) e.1) es) aged,
          aged-fewer now life (passes (is_pair number name)) old.entries n,
        )) account

  -- what is left of each way
  pub age_seen : length old.entries ≤ n → (d : CopiesData) → data_of old current before ≡ d → (u v : NodeId)
      → copies_in (maps.get (ways_of new) (u, v)) ≡ filter (is_recent now life) (kept_at d u v)
  age_seen all d is u v =
      copies_seen new (u, v)
      ∙ ap (λ (es : List Entry). copies_in (lookup (is_way (u, v)) es)) aged
      ∙ aged-seen now life old.entries n all (u, v)
      ∙ ap (filter (is_recent now life)) (sym (kept_seen old current before d is u v))
