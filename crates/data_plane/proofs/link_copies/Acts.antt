-- The account of the buffers, after each call.
use Rattle.std.proofs.Common.{◌≡◌, ℕ, ◌+◌, ◌<◌, ◌==◌, Bool, true, false, cond, List, [], ◌∷◌, ◌++◌, length, slice_get, Option, None, Some, option_map, refl, sym, ap, subst, ◌∙◌, arith}
use Rattle.std.specs.List.{count_by, remove}
use Rattle.std.proofs.lemmas.Bool.{eq-eqb}
use Rattle.buf_pool.specs.Held.{Buffers, shared, given_back}
use Rattle.indexmap.specs.IndexMap as kept
use Rattle.mv_base.specs.declared.ids.NodeId.{NodeId}
use Rattle.data_plane.specs.link_copies.CopiesData.{KeptCopy, Current, Ways, CopiesData, all_kept, count_of, current_of, holding, holders_for, IsShared}
use Rattle.data_plane.specs.link_copies.Kept.{WayMap, is_way, copies_on, ways_of, total, data_of}
use Rattle.data_plane.specs.link_copies.Fading.{AreHeld, Fades}
use Rattle.data_plane.proofs.link_copies.Basics.{one_if}
use Rattle.data_plane.proofs.link_copies.WayOrder.{way_equal}
use Rattle.data_plane.proofs.link_copies.Sums.{copies_in, unchanged, total_changes}
use Rattle.data_plane.proofs.link_copies.Lists.{count-push, count-remove, length-removed, removed_in}
use Rattle.std.proofs.lemmas.List.{length-append}
use Rattle.data_plane.proofs.link_copies.Pools.{held_from, live_from, back_counted, back_fades, share_counted, share_held}
use Rattle.data_plane.proofs.link_copies.Holdings.{passes, is_pair, length_total, held_total, are_held, shared_after}

-- what is handled holds its buffer
pub finish_live : (ways : WayMap) (current : Current) (before : Buffers) → IsShared (data_of ways (Some current) before)
    → 0 < count_of before current.buffer
finish_live ways current before account = omega (arith, account.counted current.buffer, ap one_if (eq-eqb current.buffer current.buffer refl))

-- ---- a copy lands

module _ (old new : WayMap) (way : NodeId × NodeId) (place : ℕ) (k : KeptCopy) (buffers : Buffers)
    (each : (q : NodeId × NodeId) → kept.get is_way new q
    ≡ cond (is_way way q) (option_map (λ copies. remove copies place) (kept.get is_way old q)) (kept.get is_way old q))
    (is : slice_get (copies_on old way) place ≡ Some k) where
  taken : (f : List KeptCopy → ℕ) → f [] ≡ 0 → total f (ways_of new) + f (copies_on old way)
      ≡ total f (ways_of old) + f (remove (copies_on old way) place)
  taken f nothing = at (kept.get is_way old way) refl
    where
      same : (o : Option (List KeptCopy)) → kept.get is_way old way ≡ o → (q : NodeId × NodeId) → (b : Bool) → is_way way q ≡ b
          → cond b (option_map (λ copies. remove copies place) (kept.get is_way old q)) (kept.get is_way old q)
          ≡ cond b (option_map (λ copies. remove copies place) o) (kept.get is_way old q)
      same o e q true t = ap (option_map (λ copies. remove copies place)) (ap (kept.get is_way old) (sym (way_equal way q t)) ∙ e)
      same o e q false t = refl

      at : (o : Option (List KeptCopy)) → kept.get is_way old way ≡ o
          → total f (ways_of new) + f (copies_on old way) ≡ total f (ways_of old) + f (remove (copies_on old way) place)
      at o e = total_changes f nothing old new way (option_map (λ copies. remove copies place) o) (λ q. each q ∙ same o e q (is_way way q) refl)
          ∙ ap (λ (copies : List KeptCopy). total f (ways_of old) + f copies)
          (removed_in place o ∙ ap (λ (x : Option (List KeptCopy)). remove (copies_in x) place) (sym e))

  lands_holding : (test : ℕ → ℕ → Bool) → holding test (data_of new (Some (current_of k)) buffers) ≡ holding test (data_of old None buffers)
  lands_holding test = omega (
    arith,
    held_total test (data_of new (Some (current_of k)) buffers),
    held_total test (data_of old None buffers),
    taken (count_by (passes test)) refl,
    count-remove (passes test) (copies_on old way) place k is,
  )

  pub lands_count : length (all_kept (data_of new (Some (current_of k)) buffers)) + 1 ≡ length (all_kept (data_of old None buffers))
  lands_count = omega (
    arith,
    length_total (data_of new (Some (current_of k)) buffers),
    length_total (data_of old None buffers),
    taken length refl,
    length-removed (copies_on old way) place k is,
  )

  pub lands_shared : IsShared (data_of old None buffers) → IsShared (data_of new (Some (current_of k)) buffers)
  lands_shared shared = shared_after (data_of old None buffers) (data_of new (Some (current_of k)) buffers)
      (λ name. shared.counted name ∙ sym (lands_holding (λ number buffer. buffer == name)))
      (are_held (data_of old None buffers) shared)
      (λ number name h. subst (λ n. 0 < n) (lands_holding (is_pair number name)) h) shared

-- ---- a copy is put

module _ (old new : WayMap) (way : NodeId × NodeId) (k : KeptCopy) (current : Current) (before thereafter : Buffers)
    (each : (q : NodeId × NodeId) → kept.get is_way new q ≡ cond (is_way way q) (Some (copies_on old way ++ k ∷ [])) (kept.get is_way old q))
    (number : k.copy.number ≡ current.number) (buffer : k.buffer ≡ current.buffer) (is : thereafter ≡ shared before current.buffer 1) where
  abbrev was : CopiesData
  was = data_of old (Some current) before

  abbrev now : CopiesData
  now = data_of new (Some current) thereafter

  same_test : (test : ℕ → ℕ → Bool) → one_if (passes test k) ≡ one_if (test current.number current.buffer)
  same_test test i = one_if (test (number i) (buffer i))

  put_holding : (test : ℕ → ℕ → Bool) → holding test now ≡ holding test was + one_if (test current.number current.buffer)
  put_holding test = omega (
    arith,
    held_total test now,
    held_total test was,
    total_changes (count_by (passes test)) refl old new way (Some (copies_on old way ++ k ∷ [])) each,
    count-push (passes test) (copies_on old way) k,
    same_test test,
  )

  pub put_count : length (all_kept was) + 1 ≡ length (all_kept now)
  put_count = omega (
    arith,
    length_total now,
    length_total was,
    total_changes length refl old new way (Some (copies_on old way ++ k ∷ [])) each,
    length-append (copies_on old way) (k ∷ []),
  )

  pub put_shared : IsShared was → IsShared now
  put_shared account =
      let live = held_from before current.buffer (live_from before current.buffer (finish_live old current before account)) in
      shared_after was now
      (λ name. omega (
        arith,
        account.counted name,
        put_holding (λ number buffer. buffer == name),
        ap (λ (m : Buffers). count_of m name) is,
        share_counted before current.buffer live.0 live.1 name,
      ))
      (subst AreHeld (sym is) (share_held before current.buffer live.0 live.1 (are_held was account)))
      (λ number name h. by number name (is_pair number name current.number current.buffer) refl h) account
    where
      by : (number name : ℕ) (b : Bool) → is_pair number name current.number current.buffer ≡ b → 0 < holders_for now number name
          → 0 < holders_for was number name
      by number name true e h = omega (arith, ap one_if e)
      by number name false e h = omega (arith, h, ap one_if e, put_holding (is_pair number name))

-- ---- the datagram is no longer handled

module _ (ways : WayMap) (current : Current) (before thereafter : Buffers) (is : thereafter ≡ given_back before current.buffer) where
  abbrev handled : CopiesData
  handled = data_of ways (Some current) before

  pub finish_fades : IsShared handled → Fades before thereafter
  finish_fades account = subst (Fades before) (sym is) (back_fades before current.buffer (finish_live ways current before account))

  pub finish_shared : IsShared handled → IsShared (data_of ways None thereafter)
  finish_shared account = shared_after handled (data_of ways None thereafter)
      (λ name. omega (
        arith,
        account.counted name,
        ap (λ (m : Buffers). count_of m name) is,
        back_counted before current.buffer (finish_live ways current before account) name,
      ))
      ((finish_fades account).held (are_held handled account))
      (λ number name h. omega (arith, h)) account

-- ---- the ways are the same

pub same_shared : (old new : WayMap) (current : Option Current) (buffers : Buffers)
    → ((q : NodeId × NodeId) → kept.get is_way new q ≡ kept.get is_way old q)
    → IsShared (data_of old current buffers) → IsShared (data_of new current buffers)
same_shared old new current buffers each account =
    subst (λ (w : Ways). IsShared (record { ways = w; current = current; buffers = buffers })) (sym (unchanged old new each)) account

pub same_count : (old new : WayMap) (current : Option Current) (buffers : Buffers)
    → ((q : NodeId × NodeId) → kept.get is_way new q ≡ kept.get is_way old q)
    → length (all_kept (data_of new current buffers)) ≡ length (all_kept (data_of old current buffers))
same_count old new current buffers each =
    ap (λ (w : Ways). length (all_kept (record { ways = w; current = current; buffers = buffers }))) (unchanged old new each)
