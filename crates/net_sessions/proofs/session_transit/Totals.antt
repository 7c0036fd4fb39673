-- How many octets are kept, and what a change at one key makes of that.
use Rattle.std.proofs.Common.{◌≡◌, ℕ, ◌+◌, ◌<◌, ◌≤◌, not, min, Bool, true, false, cond, List, [], ◌∷◌, ◌++◌, length, take, drop, get_or, Option, Some, None, option_map, is_some, refl, sym, ap, ◌∙◌, arith}
use Rattle.std.specs.FinMap as maps
use Rattle.std.specs.FinMap.{FinMap, find, put, get, insert, remove, entries, from_entries, entries-insert, get-entries, get-from_entries, get-insert, get-remove, same_map, len-empty, len-entries}
use Rattle.std.specs.List.{AllByRecursion, IsDistinct, sum_by}
use Rattle.std.specs.Map.{lookup, keys_of, values_of}
use Rattle.std.specs.Ordering.{is_eq, eq_by_cmp}
use Rattle.std.specs.declared.cmp.Ordering.TheVariants.{Less, Equal, Greater}
use Rattle.std.proofs.lemmas.Bool.{true≢false}
use Rattle.std.proofs.lemmas.List.{length-append, length-take, length-drop}
use Rattle.std.proofs.lemmas.List.Sums.{sum_by-cons, sum_by_more}
use Rattle.std.proofs.lemmas.Map.Keys.{IsDistinct-head, IsDistinct-tail}
use Rattle.indexmap.specs.IndexMap as kept
use Rattle.network_defs.specs.declared.session_defs.direction.Direction.{Direction}
use Rattle.net_sessions.specs.declared.session_transit.sessions.Key.{Key}
use Rattle.net_sessions.specs.session_transit.TransitData.{direction_cmp, total_of}
use Rattle.net_sessions.specs.session_transit.Kept.{KeyMap, is_key, key_of, direction_of, kept_at, entries_of, transit_of, held}
use Rattle.net_sessions.proofs.session_transit.DirectionOrder.{direction_cmp_total, direction_cmp_exact, same_itself, same_equal, ties_same, tied, key_back, key_equal, key_turned}
use Rattle.net_sessions.proofs.session_transit.Directions.{octets_in, found, octets_kept, unchanged}
use Rattle.net_sessions.proofs.session_transit.KeptLemmas.{without}

-- ---- maps by direction

abbrev Octets : Type 0
Octets = FinMap direction_cmp (List ℕ)

abbrev size : {K : Type 0} → List (K × List ℕ) → ℕ
size es = sum_by (λ e. length e.1) es

size-cons : {K : Type 0} (e : K × List ℕ) (es : List (K × List ℕ)) → size (e ∷ es) ≡ length e.1 + size es
size-cons e es = sum_by-cons (λ e. length e.1) e es

not_some : (x : List ℕ) → Some x ≡ None → ⊥
not_some x e = true≢false (ap is_some e)

size-put : (k : Direction) (v : List ℕ) (es : List (Direction × List ℕ)) → find direction_cmp k es ≡ None
    → size (put direction_cmp k v es) ≡ length v + size es
size-put k v [] none = size-cons (k, v) []
size-put k v (e ∷ es) none =
    elim (direction_cmp k e.0) as (λ r. direction_cmp k e.0 ≡ r → cond (is_eq r) (Some e.1) (find direction_cmp k es) ≡ None
    → size (maps.Entries.by_order r ((k, v) ∷ e ∷ es) ((e.0, v) ∷ es) (e ∷ put direction_cmp k v es)) ≡ length v + size (e ∷ es)) [
      | Less ↦ λ r n. size-cons (k, v) (e ∷ es)
      | Equal ↦ λ r n. absurd (not_some e.1 n)
      | Greater ↦ λ r n. omega (arith, size-cons e (put direction_cmp k v es), size-put k v es n, size-cons e es)
    ] refl none

module _ (m : Octets) (k : Direction) where
  total-new : (v : List ℕ) → get m k ≡ None → size (entries (insert m k v)) ≡ length v + size (entries m)
  total-new v none = ap size (entries-insert direction_cmp_total m k v) ∙ size-put k v (entries m) (sym (get-entries m k) ∙ none)

at_itself : (k : Direction) → eq_by_cmp direction_cmp k k ≡ true
at_itself k = ties_same k k ∙ same_itself k

-- what stands at the direction, and all the rest
parts : (m : Octets) (k : Direction) (here : Option (List ℕ)) → get m k ≡ here
    → size (entries m) ≡ length (octets_in here) + size (entries (remove m k))
parts m k here e = by here e
  where
    is_there : (q : Direction) (b : Bool) (o other : Option (List ℕ)) → get m k ≡ o → (b ≡ false → other ≡ get m q) → eq_by_cmp direction_cmp q k ≡ b
        → cond b o other ≡ get m q
    is_there q true o other e same tie = sym e ∙ ap (get m) (sym (same_equal q k (sym (ties_same q k) ∙ tie)))
    is_there q false o other e same tie = same refl

    by : (here : Option (List ℕ)) → get m k ≡ here → size (entries m) ≡ length (octets_in here) + size (entries (remove m k))
    by None e = omega (
      arith,
      ap (λ (x : Octets). size (entries x)) (same_map direction_cmp_total direction_cmp_exact (remove m k) m (λ q.
          get-remove direction_cmp_total m k q ∙ is_there q (eq_by_cmp direction_cmp q k) None (get m q) e (λ _. refl) refl)),
    )
    by (Some x) e =
        ap (λ (x : Octets). size (entries x)) (sym (same_map direction_cmp_total direction_cmp_exact (insert (remove m k) k x) m (λ q.
        get-insert direction_cmp_total (remove m k) k x q
        ∙ is_there q (eq_by_cmp direction_cmp q k) (Some x) (get (remove m k) q) e
        (λ apart. get-remove direction_cmp_total m k q ∙ (λ i. cond (apart i) None (get m q))) refl)))
        ∙ total-new (remove m k) k x (get-remove direction_cmp_total m k k ∙ (λ i. cond (at_itself k i) None (get m k)))

changed : (m n : Octets) (k : Direction) (now : Option (List ℕ)) → ((q : Direction) → get n q ≡ cond (eq_by_cmp direction_cmp q k) now (get m q))
    → size (entries n) + length (octets_in (get m k)) ≡ size (entries m) + length (octets_in now)
changed m n k now each =
    let here : get n k ≡ now = each k ∙ (λ i. cond (at_itself k i) now (get m k)) in
    let rest : remove n k ≡ remove m k = same_map direction_cmp_total direction_cmp_exact (remove n k) (remove m k) (λ q.
    get-remove direction_cmp_total n k q ∙ ap (cond (eq_by_cmp direction_cmp q k) None) (each q)
    ∙ again (eq_by_cmp direction_cmp q k) (get m q) ∙ sym (get-remove direction_cmp_total m k q)) in
    omega (arith, parts n k now here, parts m k (get m k) refl, ap (λ (x : Octets). size (entries x)) rest)
  where
    again : (b : Bool) (o : Option (List ℕ)) → cond b None (cond b now o) ≡ cond b None o
    again true o = refl
    again false o = refl

-- ---- maps by key

octets_there : (m : KeyMap) (k : Key) → get (transit_of m).octets (direction_of k) ≡ kept.get is_key m k
octets_there m k = octets_kept m (direction_of k) ∙ ap (kept.get is_key m) (key_back k)

pub held_changes : (old new : KeyMap) (k : Key) (now : Option (List ℕ))
    → ((q : Key) → kept.get is_key new q ≡ cond (is_key k q) now (kept.get is_key old q))
    → held new + length (kept_at old k) ≡ held old + length (octets_in now)
held_changes old new k now each =
    ap (λ (o : Option (List ℕ)). held new + length (octets_in o)) (sym (octets_there old k))
    ∙ changed (transit_of old).octets (transit_of new).octets (direction_of k) now (λ d.
    octets_kept new d ∙ each (key_of d) ∙ (λ i. cond ((key_turned k (key_of d) ∙ sym (tied d k)) i) now (sym (octets_kept old d) i)))

-- what one key has changes
module _ (old new : KeyMap) (k : Key) (change : List ℕ → List ℕ)
    (each : (q : Key) → kept.get is_key new q ≡ cond (is_key k q) (option_map change (kept.get is_key old q)) (kept.get is_key old q)) where
  held_changed : (here : Option (List ℕ)) → kept.get is_key old k ≡ here
      → held new + length (octets_in here) ≡ held old + length (octets_in (option_map change here))
  held_changed here e =
      ap (λ (o : Option (List ℕ)). held new + length (octets_in o)) (sym e)
      ∙ held_changes old new k (option_map change here) (λ q. each q ∙ at (is_key k q) q refl)
    where
      at : (b : Bool) (q : Key) → is_key k q ≡ b → cond b (option_map change (kept.get is_key old q)) (kept.get is_key old q)
          ≡ cond b (option_map change here) (kept.get is_key old q)
      at true q tie = ap (option_map change) (ap (kept.get is_key old) (sym (key_equal k q tie)) ∙ e)
      at false q tie = refl

module _ (old new : KeyMap) (k : Key) where
  pub held_more : (more : List ℕ) → ((q : Key) → kept.get is_key new q
      ≡ cond (is_key k q) (option_map (λ d. d ++ more) (kept.get is_key old q)) (kept.get is_key old q))
      → is_some (kept.get is_key old k) ≡ true → held old + length more ≡ held new
  held_more more each is = by (kept.get is_key old k) refl is
    where
      by : (here : Option (List ℕ)) → kept.get is_key old k ≡ here → is_some here ≡ true → held old + length more ≡ held new
      by None e is = absurd (true≢false (sym is))
      by (Some x) e is = omega (arith, held_changed old new k (λ d. d ++ more) each (Some x) e, length-append x more)

  pub held_less : (count : ℕ) → ((q : Key) → kept.get is_key new q
      ≡ cond (is_key k q) (option_map (λ d. drop count d) (kept.get is_key old q)) (kept.get is_key old q))
      → held new + length (take count (kept_at old k)) ≡ held old
  held_less count each = by (kept.get is_key old k) refl
    where
      by : (here : Option (List ℕ)) → kept.get is_key old k ≡ here → held new + length (take count (octets_in here)) ≡ held old
      by None e = omega (arith, held_changed old new k (λ d. drop count d) each None e, length-take {A = ℕ} count [])
      by (Some x) e = omega (arith, held_changed old new k (λ d. drop count d) each (Some x) e, length-take count x, length-drop count x)

-- no more stands at one key than is kept
pub held_least : (m : KeyMap) (k : Key) → length (kept_at m k) ≤ held m
held_least m k = omega (arith, parts (transit_of m).octets (direction_of k) (kept.get is_key m k) (octets_there m k))

pub held_same : (old new : KeyMap) → ((k : Key) → kept.get is_key new k ≡ kept.get is_key old k) → held new ≡ held old
held_same old new each = ap total_of (unchanged old new each)

-- ---- all entries, one after another

abbrev all_of : List (Key × List ℕ) → ℕ
all_of es = sum_by (λ octets. length octets) (values_of es)

all-cons : (e : Key × List ℕ) (es : List (Key × List ℕ)) → all_of (e ∷ es) ≡ length e.1 + all_of es
all-cons e es = sum_by-cons (λ octets. length octets) e.1 (values_of es)

lookup_apart : (q : Key) (es : List (Key × List ℕ)) → AllByRecursion (λ k. is_key q k ≡ false) (keys_of es) → lookup (is_key q) es ≡ None
lookup_apart q [] h = refl
lookup_apart q (e ∷ es) h = rw h.0 (lookup_apart q es h.1)

no_length : (es : List (Direction × List ℕ)) → length es ≡ 0 → es ≡ []
no_length [] h = refl
no_length (e ∷ es) h = absurd (omega (arith, h))

none_held : size (entries (from_entries {X = List ℕ} {R = direction_cmp} [])) ≡ 0
none_held =
    ap size (no_length (entries (from_entries {X = List ℕ} {R = direction_cmp} []))
    (sym (len-entries (from_entries {X = List ℕ} {R = direction_cmp} [])) ∙ len-empty direction_cmp (List ℕ)))

pub nothing_held : (m : KeyMap) → m.entries ≡ [] → 0 ≡ held m
nothing_held m e = sym (ap (λ (es : List (Key × List ℕ)). size (entries (from_entries {R = direction_cmp} (entries_of es)))) e ∙ none_held)

all_held : (es : List (Key × List ℕ)) → IsDistinct is_key (keys_of es) → size (entries (from_entries {R = direction_cmp} (entries_of es))) ≡ all_of es
all_held [] h = none_held
all_held (e ∷ es) h =
    let none : get (from_entries {R = direction_cmp} (entries_of es)) (direction_of e.0) ≡ None =
    get-from_entries direction_cmp_total (entries_of es) (direction_of e.0) ∙ found es (direction_of e.0)
    ∙ ap (λ (k : Key). lookup (is_key k) es) (key_back e.0) ∙ lookup_apart e.0 es (IsDistinct-head is_key e.0 (keys_of es) h) in
    total-new (from_entries (entries_of es)) (direction_of e.0) e.1 none
    ∙ ap (λ (n : ℕ). length e.1 + n) (all_held es (IsDistinct-tail is_key e.0 (keys_of es) h)) ∙ sym (all-cons e es)

fewer : (goes : Key → Bool) (es : List (Key × List ℕ)) → all_of (without goes es) ≤ all_of es
fewer goes [] = omega arith
fewer goes (e ∷ es) = by (goes e.0) (fewer goes es)
  where
    by : (b : Bool) → all_of (without goes es) ≤ all_of es → all_of (cond (not b) (e ∷ without goes es) (without goes es)) ≤ all_of (e ∷ es)
    by true rest = omega (arith, rest, all-cons e es)
    by false rest = omega (arith, rest, all-cons e es, all-cons e (without goes es))

abbrev pub most : ℕ
most = 18446744073709551615

-- what is left where all entries that pass a test go, counted anew
pub counted_anew : (goes : Key → Bool) (old new : KeyMap) (total : ℕ) → IsDistinct is_key (keys_of old.entries)
    → IsDistinct is_key (keys_of new.entries)
    → new.entries ≡ without goes old.entries → held old ≤ most → total ≡ min (all_of new.entries) most → total ≡ held new
counted_anew goes old new total distinct_old distinct_new left few is =
    omega (arith, is, few, all_held old.entries distinct_old, all_held new.entries distinct_new, ap all_of left, fewer goes old.entries)

min_more : (a b : ℕ) → min (min a most + b) most ≡ min (a + b) most
min_more a b = omega arith

pub count_more : {X : Type 0} (f : X → ℕ) (xs : List X) (i : ℕ) (d : X) (count size : ℕ) → i < length xs → count ≡ min (sum_by f (take i xs)) most
    → size ≡ f (get_or xs i d)
    → min (count + size) most ≡ min (sum_by f (take (i + 1) xs)) most
count_more f xs i d count size lt h k =
    (λ j. min (h j + k j) most) ∙ min_more (sum_by f (take i xs)) (f (get_or xs i d)) ∙ ap (λ (n : ℕ). min n most) (sym (sum_by_more f xs i d lt))
