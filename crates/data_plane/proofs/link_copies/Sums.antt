-- A number of each way's copies summed over all ways, and what a change of one way makes of the sum.
use Rattle.std.proofs.Common.{◌≡◌, ℕ, zero, suc, ◌+◌, ◌-◌, ◌||◌, Bool, true, false, cond, List, [], ◌∷◌, length, Option, Some, None, is_some, refl, sym, ap, ◌∙◌, arith}
use Rattle.std.specs.FinMap as maps
use Rattle.std.specs.FinMap.{find, put, get, insert, remove, entries, from_entries, entries-insert, get-entries, get-from_entries, get-insert, get-remove, same_map, len, len-empty, len-entries, len-remove}
use Rattle.std.specs.List.{AllByRecursion, IsDistinct, list_any, sum_by}
use Rattle.std.specs.Map.{lookup, keys_of}
use Rattle.std.specs.Ordering.{is_eq, eq_by_cmp}
use Rattle.std.specs.declared.cmp.Ordering.TheVariants.{Less, Equal, Greater}
use Rattle.std.proofs.lemmas.List.Sums.{sum_by-cons}
use Rattle.std.proofs.lemmas.Map.Keys.{IsDistinct-head, IsDistinct-tail}
use Rattle.indexmap.specs.IndexMap as kept
use Rattle.mv_base.specs.declared.ids.NodeId.{NodeId}
use Rattle.data_plane.specs.link_copies.CopiesData.{KeptCopy, Ways, way_cmp}
use Rattle.data_plane.specs.link_copies.Kept.{WayMap, Entry, is_way, copies_on, ways_of, total}
use Rattle.data_plane.proofs.link_copies.Basics.{not_some}
use Rattle.data_plane.proofs.link_copies.WayOrder.{way_cmp_total, way_cmp_exact, way_itself, way_equal, tied, turned}

abbrev pub copies_in : Option (List KeptCopy) → List KeptCopy
copies_in o = elim o [ None ↦ [] | Some copies ↦ copies ]

-- ---- what is seen of a way

pub found : (es : List Entry) (q : NodeId × NodeId) → find way_cmp q es ≡ lookup (is_way q) es
found [] q = refl
found (e ∷ es) q = λ i. cond (tied q e.0 i) (Some e.1) (found es q i)

pub way_seen : (m : WayMap) (q : NodeId × NodeId) → get (ways_of m) q ≡ kept.get is_way m q
way_seen m q = get-from_entries way_cmp_total m.entries q ∙ found m.entries q

pub copies_seen : (m : WayMap) (q : NodeId × NodeId) → copies_in (get (ways_of m) q) ≡ copies_on m q
copies_seen m q = ap copies_in (way_seen m q)

pub unchanged : (old new : WayMap) → ((q : NodeId × NodeId) → kept.get is_way new q ≡ kept.get is_way old q) → ways_of new ≡ ways_of old
unchanged old new each = same_map way_cmp_total way_cmp_exact (ways_of new) (ways_of old) (λ q. way_seen new q ∙ each q ∙ sym (way_seen old q))

-- a way that gets the copies that it has stays
pub stays : (m : WayMap) (way : NodeId × NodeId) (x : List KeptCopy) → kept.get is_way m way ≡ Some x → (q : NodeId × NodeId)
    → cond (is_way way q) (Some x) (kept.get is_way m q) ≡ kept.get is_way m q
stays m way x is q = by (is_way way q) refl
  where
    by : (b : Bool) → is_way way q ≡ b → cond b (Some x) (kept.get is_way m q) ≡ kept.get is_way m q
    by true e = sym is ∙ ap (kept.get is_way m) (way_equal way q e)
    by false e = refl

-- ---- sums

abbrev pub sum_in : (List KeptCopy → ℕ) → List Entry → ℕ
sum_in f es = sum_by (λ (e : Entry). f e.1) es

at_itself : (k : NodeId × NodeId) → eq_by_cmp way_cmp k k ≡ true
at_itself k = tied k k ∙ way_itself k

module _ (f : List KeptCopy → ℕ) where
  pub sum-cons : (e : Entry) (es : List Entry) → sum_in f (e ∷ es) ≡ f e.1 + sum_in f es
  sum-cons e es = sum_by-cons (λ (e : Entry). f e.1) e es

  sum-put : (k : NodeId × NodeId) (v : List KeptCopy) (es : List Entry) → find way_cmp k es ≡ None → sum_in f (put way_cmp k v es) ≡ f v + sum_in f es
  sum-put k v [] none = sum-cons (k, v) []
  sum-put k v (e ∷ es) none =
      elim (way_cmp k e.0) as (λ r. way_cmp k e.0 ≡ r → cond (is_eq r) (Some e.1) (find way_cmp k es) ≡ None
      → sum_in f (maps.Entries.by_order r ((k, v) ∷ e ∷ es) ((e.0, v) ∷ es) (e ∷ put way_cmp k v es)) ≡ f v + sum_in f (e ∷ es)) [
        | Less ↦ λ r n. sum-cons (k, v) (e ∷ es)
        | Equal ↦ λ r n. absurd (not_some e.1 (sym n))
        | Greater ↦ λ r n. omega (arith, sum-cons e (put way_cmp k v es), sum-put k v es n, sum-cons e es)
      ] refl none

  total-new : (m : Ways) (k : NodeId × NodeId) (v : List KeptCopy) → get m k ≡ None → total f (insert m k v) ≡ f v + total f m
  total-new m k v none = ap (sum_in f) (entries-insert way_cmp_total m k v) ∙ sum-put k v (entries m) (sym (get-entries m k) ∙ none)

is_there : (m : Ways) (k q : NodeId × NodeId) (b : Bool) (o other : Option (List KeptCopy)) → get m k ≡ o → (b ≡ false → other ≡ get m q)
    → eq_by_cmp way_cmp q k ≡ b → cond b o other ≡ get m q
is_there m k q true o other e same tie = sym e ∙ ap (get m) (sym (way_equal q k (sym (tied q k) ∙ tie)))
is_there m k q false o other e same tie = same refl

again : (b : Bool) (now o : Option (List KeptCopy)) → cond b None (cond b now o) ≡ cond b None o
again true now o = refl
again false now o = refl

module _ (f : List KeptCopy → ℕ) (nothing : f [] ≡ 0) where
  -- what stands at a way, and all the rest
  parts : (m : Ways) (k : NodeId × NodeId) (here : Option (List KeptCopy)) → get m k ≡ here → total f m ≡ f (copies_in here) + total f (remove m k)
  parts m k None e = omega (
    arith,
    nothing,
    ap (total f) (same_map way_cmp_total way_cmp_exact (remove m k) m (λ q.
        get-remove way_cmp_total m k q ∙ is_there m k q (eq_by_cmp way_cmp q k) None (get m q) e (λ _. refl) refl)),
  )
  parts m k (Some x) e =
      ap (total f) (sym (same_map way_cmp_total way_cmp_exact (insert (remove m k) k x) m (λ q.
      get-insert way_cmp_total (remove m k) k x q
      ∙ is_there m k q (eq_by_cmp way_cmp q k) (Some x) (get (remove m k) q) e
      (λ apart. get-remove way_cmp_total m k q ∙ (λ i. cond (apart i) None (get m q))) refl)))
      ∙ total-new f (remove m k) k x (get-remove way_cmp_total m k k ∙ (λ i. cond (at_itself k i) None (get m k)))

  changed : (m n : Ways) (k : NodeId × NodeId) (now : Option (List KeptCopy))
      → ((q : NodeId × NodeId) → get n q ≡ cond (eq_by_cmp way_cmp q k) now (get m q))
      → total f n + f (copies_in (get m k)) ≡ total f m + f (copies_in now)
  changed m n k now each =
      let here : get n k ≡ now = each k ∙ (λ i. cond (at_itself k i) now (get m k)) in
      let rest : remove n k ≡ remove m k = same_map way_cmp_total way_cmp_exact (remove n k) (remove m k) (λ q.
      get-remove way_cmp_total n k q ∙ ap (cond (eq_by_cmp way_cmp q k) None) (each q)
      ∙ again (eq_by_cmp way_cmp q k) now (get m q) ∙ sym (get-remove way_cmp_total m k q)) in
      omega (arith, parts n k now here, parts m k (get m k) refl, ap (total f) rest)

  -- the copies of one way become these
  pub total_changes : (old new : WayMap) (k : NodeId × NodeId) (now : Option (List KeptCopy))
      → ((q : NodeId × NodeId) → kept.get is_way new q ≡ cond (is_way k q) now (kept.get is_way old q))
      → total f (ways_of new) + f (copies_on old k) ≡ total f (ways_of old) + f (copies_in now)
  total_changes old new k now each =
      ap (λ (copies : List KeptCopy). total f (ways_of new) + f copies) (sym (copies_seen old k))
      ∙ changed (ways_of old) (ways_of new) k now (λ q.
      way_seen new q ∙ each q ∙ (λ i. cond ((turned k q ∙ sym (tied q k)) i) now (sym (way_seen old q) i)))

  -- no more stands at one way than at all
  pub total_least : (m : Ways) (k : NodeId × NodeId) → (rest : ℕ) × (total f m ≡ f (copies_in (get m k)) + rest)
  total_least m k = (total f (remove m k), parts m k (get m k) refl)

no_length : (es : List Entry) → length es ≡ 0 → es ≡ []
no_length [] h = refl
no_length (e ∷ es) h = absurd (omega (arith, h))

one_less : (n : ℕ) → suc n - 1 ≡ n
one_less n = omega arith

module _ (f : List KeptCopy → ℕ) (nothing : f [] ≡ 0) where
  without : (b : Bool) (o : Option (List KeptCopy)) → f (copies_in o) ≡ 0 → f (copies_in (cond b None o)) ≡ 0
  without true o e = nothing
  without false o e = e

  -- where each way has none, there are none
  pub total_none : (n : ℕ) (m : Ways) → len m ≡ n → ((q : NodeId × NodeId) → f (copies_in (get m q)) ≡ 0) → total f m ≡ 0
  total_none zero m size each = ap (sum_in f) (no_length (entries m) (sym (len-entries m) ∙ size))
  total_none (suc n) m size each = by (entries m) refl (total_none n)
    where
      by : (es : List Entry) → entries m ≡ es → ((m : Ways) → len m ≡ n → ((q : NodeId × NodeId) → f (copies_in (get m q)) ≡ 0) → total f m ≡ 0)
          → total f m ≡ 0
      by [] e rest = absurd (omega (arith, size, len-entries m, ap (λ (es : List Entry). length es) e))
      by (e ∷ es) is rest =
          let here : get m e.0 ≡ Some e.1 =
          get-entries m e.0 ∙ ap (find way_cmp e.0) is ∙ (λ i. cond (at_itself e.0 i) (Some e.1) (find way_cmp e.0 es)) in
          let fewer : len (remove m e.0) ≡ n =
          len-remove way_cmp_total m e.0 ∙ (λ i. cond (is_some (here i)) (len m - 1) (len m)) ∙ ap (λ (k : ℕ). k - 1) size ∙ one_less n in
          omega (
            arith,
            parts f nothing m e.0 (Some e.1) here,
            ap (λ (o : Option (List KeptCopy)). f (copies_in o)) here,
            each e.0,
            rest (remove m e.0) fewer (λ q. ap (λ (o : Option (List KeptCopy)). f (copies_in o)) (get-remove way_cmp_total m e.0 q)
                ∙ without (eq_by_cmp way_cmp q e.0) (get m q) (each q)),
          )

  abbrev pub sum-ways : (m : Ways) (ways : List (NodeId × NodeId)) → ℕ
  sum-ways m ways = sum_by (λ (way : NodeId × NodeId). f (copies_in (get m way))) ways

  pub ways-cons : (m : Ways) (way : NodeId × NodeId) (ways : List (NodeId × NodeId))
      → sum-ways m (way ∷ ways) ≡ f (copies_in (get m way)) + sum-ways m ways
  ways-cons m way ways = sum_by-cons (λ (way : NodeId × NodeId). f (copies_in (get m way))) way ways

  gone_there : (m : Ways) (way q : NodeId × NodeId) → is_way way q ≡ true → get (remove m way) q ≡ None
  gone_there m way q e = get-remove way_cmp_total m way q ∙ (λ i. cond ((tied q way ∙ turned q way ∙ e) i) None (get m q))

  same_there : (m : Ways) (way q : NodeId × NodeId) → is_way way q ≡ false → get (remove m way) q ≡ get m q
  same_there m way q e = get-remove way_cmp_total m way q ∙ (λ i. cond ((tied q way ∙ turned q way ∙ e) i) None (get m q))

  others : (m : Ways) (way : NodeId × NodeId) (ways : List (NodeId × NodeId)) → AllByRecursion (λ w. is_way way w ≡ false) ways
      → sum-ways (remove m way) ways ≡ sum-ways m ways
  others m way [] h = refl
  others m way (w ∷ ws) h = omega (
    arith,
    ways-cons (remove m way) w ws,
    ways-cons m w ws,
    ap (λ (o : Option (List KeptCopy)). f (copies_in o)) (same_there m way w h.0),
    others m way ws h.1,
  )

  -- the same over the ways of a list that has each way once, and each that has copies
  pub total_ways : (ways : List (NodeId × NodeId)) (m : Ways) → IsDistinct is_way ways
      → ((q : NodeId × NodeId) → list_any (is_way q) ways ≡ false → f (copies_in (get m q)) ≡ 0) → total f m ≡ sum-ways m ways
  total_ways [] m once all = total_none (len m) m refl (λ q. all q refl)
  total_ways (w ∷ ws) m once all = omega (
    arith,
    parts f nothing m w (get m w) refl,
    total_ways ws (remove m w) (IsDistinct-tail is_way w ws once) (λ q none. by q none (is_way w q) refl),
    others m w ws (IsDistinct-head is_way w ws once),
    ways-cons m w ws,
  )
    where
      by : (q : NodeId × NodeId) → list_any (is_way q) ws ≡ false → (b : Bool) → is_way w q ≡ b → f (copies_in (get (remove m w) q)) ≡ 0
      by q none true e = ap (λ (o : Option (List KeptCopy)). f (copies_in o)) (gone_there m w q e) ∙ nothing
      by q none false e = ap (λ (o : Option (List KeptCopy)). f (copies_in o)) (same_there m w q e) ∙ all q ((λ i. (turned q w ∙ e) i || none i))

-- ---- all entries, one after another

lookup_apart : (q : NodeId × NodeId) (es : List Entry) → AllByRecursion (λ k. is_way q k ≡ false) (keys_of es) → lookup (is_way q) es ≡ None
lookup_apart q [] h = refl
lookup_apart q (e ∷ es) h = rw h.0 (lookup_apart q es h.1)

pub none_kept : entries (from_entries {X = List KeptCopy} {R = way_cmp} []) ≡ []
none_kept =
    no_length (entries (from_entries {X = List KeptCopy} {R = way_cmp} []))
    (sym (len-entries (from_entries {X = List KeptCopy} {R = way_cmp} [])) ∙ len-empty way_cmp (List KeptCopy))

module _ (f : List KeptCopy → ℕ) where
  pub total_is : (es : List Entry) → IsDistinct is_way (keys_of es) → total f (from_entries es) ≡ sum_in f es
  total_is [] h = ap (sum_in f) none_kept
  total_is (e ∷ es) h =
      let none : get (from_entries {R = way_cmp} es) e.0 ≡ None =
      get-from_entries way_cmp_total es e.0 ∙ found es e.0 ∙ lookup_apart e.0 es (IsDistinct-head is_way e.0 (keys_of es) h) in
      total-new f (from_entries es) e.0 e.1 none
      ∙ ap (λ (n : ℕ). f e.1 + n) (total_is es (IsDistinct-tail is_way e.0 (keys_of es) h)) ∙ sym (sum-cons f e es)
