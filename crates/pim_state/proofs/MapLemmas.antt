-- A list of entries with distinct keys, and the finite map of them.
use Rattle.std.proofs.Common.{◌≡◌, ℕ, ◌+◌, ◌==◌, suc, Bool, true, false, cond, ◌&&◌, List, [], ◌∷◌, filter, length, None, Some, count_by, is_some, refl, sym, ap, subst, ◌∙◌, arith}
use Rattle.std.specs.List.{AllByRecursion, IsDistinct}
use Rattle.std.specs.Ordering.{eq_by_cmp, is_eq}
use Rattle.std.specs.declared.cmp.Ordering.TheVariants.{Less, Equal, Greater}
use Rattle.std.specs.FinMap.{get, find, put, len, entries, values, from_entries, entries-insert, get-entries, get-from_entries, len-entries, len-empty, same_map}
use Rattle.std.specs.FinMap as finite
use Rattle.std.specs.Map.{lookup, keys_of, values_of}
use Rattle.std.proofs.lemmas.List.Sums.{sum_by-cons}
use Rattle.std.proofs.lemmas.Map.Keys.{IsDistinct-head, IsDistinct-tail}
use Rattle.scenario_defs.specs.declared.event.JoinEntry.{JoinEntry}
use Rattle.scenario_defs.specs.declared.event.JoinEntry.TheVariants.{Star, Source, Rpt}
use Rattle.scenario_defs.specs.declared.event.IfaceEntry.{IfaceEntry}
use Rattle.pim_defs.specs.declared.expiry.Expiry.{Expiry}
use Rattle.pim_defs.specs.Mention.{same_entry}
use Rattle.pim_defs.specs.Expiry.{is_after, remaining}
use Rattle.pim_defs.specs.Entries.{entry_cmp, Entries, kept_at}
use Rattle.pim_defs.proofs.KeyLemmas.{entry_cmp_total, entry_cmp_exact, same_at, same_at_equal, same_at_itself, ties-same}
use Rattle.pim_defs.proofs.EntriesLemmas.{get-kept}
use Rattle.pim_state.specs.Plan.{is_entry, is_at}

-- ---- what `==` tells

pub entry-same : (a b : JoinEntry) → is_entry a b ≡ same_entry a b
entry-same (Star g) (Star h) = refl
entry-same (Source s g) (Source t h) = refl
entry-same (Rpt s g) (Rpt t h) = refl
entry-same (Star g) (Source t h) = refl
entry-same (Star g) (Rpt t h) = refl
entry-same (Source s g) (Star h) = refl
entry-same (Source s g) (Rpt t h) = refl
entry-same (Rpt s g) (Star h) = refl
entry-same (Rpt s g) (Source t h) = refl

pub at-same : (a b : IfaceEntry) → is_at a b ≡ same_at a b
at-same a b = ap (λ (x : Bool). (a.iface.0 == b.iface.0) && x) (entry-same a.entry b.entry)

pub at-ties : (a b : IfaceEntry) → is_at a b ≡ eq_by_cmp entry_cmp a b
at-ties a b = at-same a b ∙ sym (ties-same a b)

pub at-equal : (a b : IfaceEntry) → is_at a b ≡ true → a ≡ b
at-equal a b h = same_at_equal a b (sym (at-same a b) ∙ h)

pub at-itself : (a : IfaceEntry) → is_at a a ≡ true
at-itself a = at-same a a ∙ same_at_itself a

pub not_both : (b : Bool) → b ≡ true → b ≡ false → ⊥
not_both true h k = absurd cc
not_both false h k = absurd cc

pub is_false : (b : Bool) → (b ≡ true → ⊥) → b ≡ false
is_false true h = absurd (h refl)
is_false false h = refl

pub at-flips : (a b : IfaceEntry) → is_at a b ≡ false → is_at b a ≡ false
at-flips a b h =
    is_false (is_at b a) (λ t. not_both (is_at a b) (subst (λ (x : IfaceEntry). is_at a x ≡ true) (sym (at-equal b a t)) (at-itself a)) h)

pub at-symmetric : (a b : IfaceEntry) → is_at a b ≡ is_at b a
at-symmetric a b = by (is_at a b) refl
  where
    by : (t : Bool) → is_at a b ≡ t → t ≡ is_at b a
    by true h = sym (subst (λ (x : IfaceEntry). is_at x a ≡ true) (at-equal a b h) (at-itself a))
    by false h = sym (at-flips a b h)

-- ---- look-ups

find-lookup : {X : Type 0} (es : List (IfaceEntry × X)) (q : IfaceEntry) → find entry_cmp q es ≡ lookup (is_at q) es
find-lookup [] q = refl
find-lookup (e ∷ es) q = λ i. cond (sym (at-ties q e.0) i) (Some e.1) (find-lookup es q i)

pub get-lookup : (es : List (IfaceEntry × Expiry)) (q : IfaceEntry) → get (from_entries {R = entry_cmp} es) q ≡ lookup (is_at q) es
get-lookup es q = get-from_entries entry_cmp_total es q ∙ find-lookup es q

-- A key that differs from all keys is not found.
pub lookup-apart : {X : Type 0} (q : IfaceEntry) (es : List (IfaceEntry × X)) → AllByRecursion (λ at. is_at q at ≡ false) (keys_of es)
    → lookup (is_at q) es ≡ None
lookup-apart q [] h = refl
lookup-apart q (e ∷ es) h = rw h.0 (lookup-apart q es h.1)

-- ---- counts

pub count-cons : {X : Type 0} (p : X → Bool) (x : X) (xs : List X) → count_by p (x ∷ xs) ≡ cond (p x) 1 0 + count_by p xs
count-cons p x xs = sum_by-cons (λ y. cond (p y) 1 0) x xs

pub not_some : (x : Expiry) → Some x ≡ None → ⊥
not_some x e = not_both true refl (ap is_some e)

-- One entry more, of which the key is new, counts as one element more.
count-put : (p : Expiry → Bool) (k : IfaceEntry) (v : Expiry) (es : List (IfaceEntry × Expiry)) → find entry_cmp k es ≡ None
    → count_by p (values_of (put entry_cmp k v es)) ≡ cond (p v) 1 0 + count_by p (values_of es)
count-put p k v [] none = count-cons p v []
count-put p k v (e ∷ es) none =
    elim (entry_cmp k e.0) as (λ r. entry_cmp k e.0 ≡ r → cond (is_eq r) (Some e.1) (find entry_cmp k es) ≡ None
    → count_by p (values_of (finite.Entries.by_order r ((k, v) ∷ e ∷ es) ((e.0, v) ∷ es) (e ∷ put entry_cmp k v es)))
    ≡ cond (p v) 1 0 + count_by p (values_of (e ∷ es))) [
      | Less ↦ λ r n. count-cons p v (e.1 ∷ values_of es)
      | Equal ↦ λ r n. absurd (not_some e.1 n)
      | Greater ↦ λ r n.
          let thereafter = count-put p k v es n in
          count-cons p e.1 (values_of (put entry_cmp k v es))
          ∙ (ap (λ (n : ℕ). cond (p e.1) 1 0 + n) thereafter
          ∙ (swapped (cond (p e.1) 1 0) (cond (p v) 1 0) (count_by p (values_of es))
          ∙ ap (λ (n : ℕ). cond (p v) 1 0 + n) (sym (count-cons p e.1 (values_of es)))))
    ] refl none
  where
    swapped : (a b c : ℕ) → a + (b + c) ≡ b + (a + c)
    swapped a b c = omega arith

no-length : (es : List (IfaceEntry × Expiry)) → length es ≡ 0 → es ≡ []
no-length [] h = refl
no-length (e ∷ es) h = absurd (omega (arith, h))

no-entries : entries (from_entries {X = Expiry} {R = entry_cmp} []) ≡ []
no-entries = no-length _ (sym (len-entries (from_entries [])) ∙ len-empty entry_cmp Expiry)

-- Entries with distinct keys count as their map does.
pub count-map : (p : Expiry → Bool) (es : List (IfaceEntry × Expiry)) → IsDistinct is_at (keys_of es)
    → count_by p (values (from_entries {R = entry_cmp} es)) ≡ count_by p (values_of es)
count-map p [] h = ap (λ (l : List (IfaceEntry × Expiry)). count_by p (values_of l)) no-entries
count-map p (e ∷ es) h =
    let none : find entry_cmp e.0 (entries (from_entries {R = entry_cmp} es)) ≡ None =
    sym (get-entries (from_entries {R = entry_cmp} es) e.0)
    ∙ (get-lookup es e.0 ∙ lookup-apart e.0 es (IsDistinct-head is_at e.0 (keys_of es) h)) in
    ap (λ (l : List (IfaceEntry × Expiry)). count_by p (values_of l)) (entries-insert entry_cmp_total (from_entries es) e.0 e.1)
    ∙ (count-put p e.0 e.1 (entries (from_entries es)) none
    ∙ (ap (λ (n : ℕ). cond (p e.1) 1 0 + n) (count-map p es (IsDistinct-tail is_at e.0 (keys_of es) h)) ∙ sym (count-cons p e.1 (values_of es))))

all-count : {X : Type 0} (xs : List X) → count_by (λ x. true) xs ≡ length xs
all-count [] = refl
all-count (x ∷ xs) = count-cons (λ y. true) x xs ∙ (one-more (count_by (λ y. true) xs) ∙ ap suc (all-count xs))
  where
    one-more : (n : ℕ) → 1 + n ≡ suc n
    one-more n = omega arith

length-values : {X : Type 0} (es : List (IfaceEntry × X)) → length (values_of es) ≡ length es
length-values [] = refl
length-values (e ∷ es) = ap suc (length-values es)

-- There are as many entries as the map has.
pub length-map : (es : List (IfaceEntry × Expiry)) → IsDistinct is_at (keys_of es) → len (from_entries {R = entry_cmp} es) ≡ length es
length-map es h =
    let m : Entries = from_entries es in
    len-entries m ∙ (sym (length-values (entries m))
    ∙ (sym (all-count (values m)) ∙ (count-map (λ x. true) es h ∙ (all-count (values_of es) ∙ length-values es))))

-- ---- timers

-- the entries that end after the clock
abbrev pub left_at : ℕ → List (IfaceEntry × Expiry) → List (IfaceEntry × Expiry)
left_at clock es = filter (λ e. is_after e.1 clock) es

apart-left : (clock : ℕ) (q : IfaceEntry) (es : List (IfaceEntry × Expiry)) → AllByRecursion (λ at. is_at q at ≡ false) (keys_of es)
    → lookup (is_at q) (left_at clock es) ≡ None
apart-left clock q [] h = refl
apart-left clock q (e ∷ es) h = by (is_after e.1 clock) (apart-left clock q es h.1)
  where
    by : (b : Bool) → lookup (is_at q) (left_at clock es) ≡ None → lookup (is_at q) (cond b (e ∷ left_at clock es) (left_at clock es)) ≡ None
    by true none = rw h.0 none
    by false none = none

-- After a run of the timers each entry is there that was and has not ended.
pub lookup-left : (clock : ℕ) (q : IfaceEntry) (es : List (IfaceEntry × Expiry)) → IsDistinct is_at (keys_of es)
    → lookup (is_at q) (left_at clock es) ≡ remaining clock (lookup (is_at q) es)
lookup-left clock q [] h = refl
lookup-left clock q (e ∷ es) h = by (lookup-left clock q es (IsDistinct-tail is_at e.0 (keys_of es) h)) (is_at q e.0) (is_after e.1 clock) refl refl
  where
    gone : is_at q e.0 ≡ true → lookup (is_at q) (left_at clock es) ≡ None
    gone t = subst (λ (x : IfaceEntry). lookup (is_at x) (left_at clock es) ≡ None) (sym (at-equal q e.0 t))
        (apart-left clock e.0 es (IsDistinct-head is_at e.0 (keys_of es) h))

    by : lookup (is_at q) (left_at clock es) ≡ remaining clock (lookup (is_at q) es) → (t b : Bool) → is_at q e.0 ≡ t → is_after e.1 clock ≡ b
        → lookup (is_at q) (cond (is_after e.1 clock) (e ∷ left_at clock es) (left_at clock es))
        ≡ remaining clock (cond (is_at q e.0) (Some e.1) (lookup (is_at q) es))
    by rest true true s a = rw (a, s) (rw a refl)
    by rest true false s a = rw (a, s) (gone s ∙ sym (rw a refl))
    by rest false true s a = rw (a, s) rest
    by rest false false s a = rw (a, s) rest

pub left-kept : (clock : ℕ) (es : List (IfaceEntry × Expiry)) → IsDistinct is_at (keys_of es)
    → from_entries {R = entry_cmp} (left_at clock es) ≡ kept_at (from_entries es) clock
left-kept clock es h = same_map entry_cmp_total entry_cmp_exact _ _ (λ q.
    get-lookup (left_at clock es) q ∙ (lookup-left clock q es h
    ∙ (ap (remaining clock) (sym (get-lookup es q)) ∙ sym (get-kept (from_entries es) clock q))))
