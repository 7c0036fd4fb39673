-- The account of the buffers, as a new datagram goes out and where nothing is.
use Rattle.std.proofs.Common.{◌≡◌, ℕ, ◌+◌, ◌-◌, ◌<◌, ◌≤◌, ◌==◌, ◌↔◌, Bool, true, false, cond, T, is_some, List, [], ◌++◌, length, take, Option, None, Some, refl, sym, ap, subst, ◌∙◌, arith}
use Rattle.std.specs.FinMap as maps
use Rattle.std.specs.List.{count_by, flat_map}
use Rattle.std.specs.Ordering.{nat_cmp}
use Rattle.std.proofs.lemmas.Bool.{and_parts, eq-eqb}
use Rattle.std.proofs.lemmas.List.{length-take-le, take_all}
use Rattle.buf_pool.specs.Held.{Held, Buffers, held}
use Rattle.mv_base.specs.declared.ids.NodeId.{NodeId}
use Rattle.data_plane.specs.declared.link_copies.hop.Hop.{Hop}
use Rattle.data_plane.specs.link_copies.CopiesData.{KeptCopy, way_cmp, CopiesData, all_kept, count_of, holding, holders, holders_for, kept_at, put_on, IsShared}
use Rattle.data_plane.specs.link_copies.Kept.{ArePut, WayMap, Entry, data_of, passing, ways_of}
use Rattle.data_plane.specs.link_copies.Fading.{AreHeld, Fades}
use Rattle.data_plane.proofs.link_copies.Landing.{kept_seen}
use Rattle.data_plane.proofs.link_copies.Sums.{copies_in, copies_seen, none_kept}
use Rattle.data_plane.proofs.link_copies.Lists.{count-less}
use Rattle.data_plane.proofs.link_copies.Pools.{count_in, put_counted, put_held}
use Rattle.data_plane.proofs.link_copies.Holdings.{are_held, copies_of, held_total, length_total, passes, is_pair, is_pair_of, lives_from}

-- ---- a new datagram goes out

module _ (old new : WayMap) (number name more : ℕ) (before thereafter : Buffers)
    (grown : (test : ℕ → ℕ → Bool) → passing test new ≡ passing test old + cond (test number name) more 0) where
  abbrev was : CopiesData
  was = data_of old None before

  abbrev is_now : CopiesData
  is_now = data_of new None thereafter

  grown_holding : (test : ℕ → ℕ → Bool) → holding test is_now ≡ holding test was + cond (test number name) more 0
  grown_holding test = omega (arith, held_total test is_now, held_total test was, grown test)

  module _ (none : maps.get before name ≡ None) (fresh : copies_of was number ≡ 0) (account : IsShared was) where
    -- no copy has the number, and none has the buffer
    apart : (n b : ℕ) → 0 < holders_for was n b → (n ≡ number → ⊥) × (b ≡ name → ⊥)
    apart n b h = (
      λ same. omega (
        arith,
        h,
        count-less (passes (is_pair n b)) (λ k. k.copy.number == n) (λ k t. (and_parts (k.copy.number == n) (k.buffer == b) t).0) (all_kept was),
        ap (copies_of was) same,
        fresh,
      ),
      λ same. omega (
        arith,
        h,
        count-less (passes (is_pair n b)) (λ k. k.buffer == b) (λ k t. (and_parts (k.copy.number == n) (k.buffer == b) t).1) (all_kept was),
        ap (holders was) same,
        account.counted name,
        ap count_in none,
      ),
    )

    before_it : (n b : ℕ) → is_pair n b number name ≡ false → 0 < holders_for is_now n b → 0 < holders_for was n b
    before_it n b e h = omega (arith, h, grown_holding (is_pair n b), ap (λ (x : Bool). cond x more 0) e)

    named : (n b m a : ℕ) → 0 < holders_for is_now n b → 0 < holders_for is_now m a → (x y : Bool) → is_pair n b number name ≡ x
        → is_pair m a number name ≡ y → (n ≡ m) ↔ (b ≡ a)
    named n b m a h g true true e d =
        let one = is_pair_of n b number name e in
        let two = is_pair_of m a number name d in
        (λ _. sym one.1 ∙ two.1, λ _. sym one.0 ∙ two.0)
    named n b m a h g true false e d =
        let one = is_pair_of n b number name e in
        let other = apart m a (before_it m a d g) in
        (λ same. absurd (other.0 (sym same ∙ sym one.0)), λ same. absurd (other.1 (sym same ∙ sym one.1)))
    named n b m a h g false true e d =
        let one = is_pair_of m a number name d in
        let other = apart n b (before_it n b e h) in
        (λ same. absurd (other.0 (same ∙ sym one.0)), λ same. absurd (other.1 (same ∙ sym one.1)))
    named n b m a h g false false e d = account.named n b m a (before_it n b e h) (before_it m a d g)

    -- where the new buffer counts the new copies, all buffers count theirs
    pub sent_shared : ((q : ℕ) → count_of thereafter q ≡ count_of before q + cond (name == q) more 0) → AreHeld thereafter → IsShared is_now
    sent_shared counts all =
        let counted : (q : ℕ) → count_of thereafter q ≡ holders is_now q =
        λ q. omega (arith, counts q, account.counted q, grown_holding (λ n b. b == q)) in
        record {
          counted = counted;
          lives = lives_from is_now counted all;
          named = λ n b m a h g. named n b m a h g (is_pair n b number name) (is_pair m a number name) refl refl;
        }

-- so many copies of a new datagram are on hops
module _ (old new : WayMap) (number name put ttl now : ℕ) (hops : List Hop) (octets : List ℕ) (before opened : Buffers) (most : put ≤ length hops)
    (puts : ArePut ttl now (record { number = number; buffer = name }) (take put hops) old new)
    (none : maps.get before name ≡ None) (opens : opened ≡ maps.insert before name (held octets (length hops)))
    (fresh : copies_of (data_of old None before) number ≡ 0) (account : IsShared (data_of old None before)) where
  so_many : length (take put hops) ≡ put
  so_many = length-take-le put hops most

  grows : (test : ℕ → ℕ → Bool) → passing test new ≡ passing test old + cond (test number name) put 0
  grows test = puts.more test ∙ ap (λ (count : ℕ). passing test old + cond (test number name) count 0) so_many

  pub sent_count : (pool : Buffers) → length (all_kept (data_of new None pool)) ≡ length (all_kept (data_of old None before)) + put
  sent_count pool = omega (arith, length_total (data_of new None pool), length_total (data_of old None before), puts.count, so_many)

  counts : (q : ℕ) → count_of opened q ≡ count_of before q + cond (name == q) (length hops) 0
  counts q = ap (λ (m : Buffers). count_of m q) opens ∙ put_counted before name octets (length hops) none q

  pub opened_count : count_of opened name ≡ length hops
  opened_count = omega (arith, counts name, ap count_in none, ap (λ (b : Bool). cond b (length hops) 0) (eq-eqb name name refl))

  held_all : 0 < length hops → AreHeld opened
  held_all some = subst AreHeld (sym opens) (put_held before name octets (length hops) none some (are_held (data_of old None before) account))

  -- they are all
  pub all_sent : 0 < length hops → length hops ≤ put → IsShared (data_of new None opened)
  all_sent some all =
      let whole : put ≡ length hops = omega (arith, most, all) in
      sent_shared old new number name put before opened grows none fresh account
      (λ q. counts q ∙ ap (λ (n : ℕ). count_of before q + cond (name == q) n 0) (sym whole)) (held_all some)

  -- they are the first ones, and the buffer no longer counts the others
  pub first_sent : 0 < length hops → (pool : Buffers) → ((q : ℕ) → count_of pool q + cond (name == q) (length hops - put) 0 ≡ count_of opened q)
      → Fades opened pool
      → IsShared (data_of new None pool)
  first_sent some pool fewer fades =
      sent_shared old new number name put before pool grows none fresh account
      (λ q. rest (name == q) (count_of pool q) (count_of before q) (fewer q ∙ counts q)) (fades.held (held_all some))
    where
      rest : (b : Bool) (left own : ℕ) → left + cond b (length hops - put) 0 ≡ own + cond b (length hops) 0 → left ≡ own + cond b put 0
      rest true left own e = omega (arith, e, most)
      rest false left own e = omega (arith, e)

  -- what is seen of the ways
  pub sent_seen : length hops ≤ put → (d : CopiesData) → data_of old None before ≡ d → (u n : NodeId)
      → copies_in (maps.get (ways_of new) (u, n)) ≡ kept_at d u n ++ put_on ttl now (record { number = number; buffer = name }) hops u n
  sent_seen all d is u n =
      copies_seen new (u, n) ∙ puts.copies u n
      ∙ (λ i. sym (kept_seen old None before d is u n) i ++ put_on ttl now (record { number = number; buffer = name }) (take_all put hops all i) u n)

-- ---- nothing is there

nothing_kept : (m : WayMap) → m.entries ≡ [] → (buffers : Buffers) → all_kept (data_of m None buffers) ≡ []
nothing_kept m empty buffers =
    ap (λ (es : List Entry). flat_map (λ (e : Entry). e.1) es)
    (ap (λ (es : List Entry). maps.entries (maps.from_entries {R = way_cmp} es)) empty ∙ none_kept)

module _ (m : WayMap) (empty : m.entries ≡ []) (buffers : Buffers) (none : buffers ≡ maps.empty) where
  abbrev start : CopiesData
  start = data_of m None buffers

  pub start_count : 0 ≡ length (all_kept start)
  start_count = ap length (sym (nothing_kept m empty buffers))

  no_holders : (test : ℕ → ℕ → Bool) → holding test start ≡ 0
  no_holders test = ap (λ (ks : List KeptCopy). count_by (passes test) ks + 0) (nothing_kept m empty buffers)

  no_buffer : (name : ℕ) → maps.get buffers name ≡ None
  no_buffer name = ap (λ (b : Buffers). maps.get b name) none ∙ maps.get-empty nat_cmp name

  pub start_shared : IsShared start
  start_shared = record {
    counted = λ name. ap count_in (no_buffer name) ∙ sym (no_holders (λ number buffer. buffer == name));
    lives = λ name live. absurd (subst (λ (o : Option Held). T (is_some o)) (no_buffer name) live);
    named = λ number name other another h g. absurd (omega (arith, h, no_holders (is_pair number name)));
  }
