-- What planned changes make of entries.
use Rattle.std.proofs.Common.{◌≡◌, ℕ, ◌+◌, Bool, true, false, cond, List, [], ◌∷◌, length, Option, None, Some, count_by, is_some, refl, sym, ap, subst, ◌∙◌, arith}
use Rattle.std.specs.List.{AllByRecursion, IsDistinct}
use Rattle.std.specs.Ordering.{eq_by_cmp}
use Rattle.std.specs.FinMap.{get, len, insert, remove, from_entries, get-insert, get-remove, len-insert, same_map}
use Rattle.std.specs.Map.{lookup, keys_of, values_of}
use Rattle.std.proofs.lemmas.Map.Keys.{IsDistinct-head, IsDistinct-tail}
use Rattle.scenario_defs.specs.declared.event.IfaceEntry.{IfaceEntry}
use Rattle.pim_defs.specs.declared.expiry.Expiry.{Expiry}
use Rattle.pim_defs.specs.Entries.{entry_cmp, Entries}
use Rattle.pim_defs.proofs.KeyLemmas.{entry_cmp_total, entry_cmp_exact}
use Rattle.pim_state.specs.Plan.{is_at}
use Rattle.pim_state.specs.Changes.{changed, changed_by, then_at}
use Rattle.pim_state.proofs.MapLemmas.{at-ties, at-equal, at-itself, at-flips, get-lookup, count-cons, length-map}

abbrev Change : Type 0
Change = IfaceEntry × Option Expiry

-- ---- the changes on the map

ties-flip : (k at : IfaceEntry) → eq_by_cmp entry_cmp at k ≡ is_at k at
ties-flip k at = by (is_at k at) refl
  where
    by : (b : Bool) → is_at k at ≡ b → eq_by_cmp entry_cmp at k ≡ is_at k at
    by true h = subst (λ (x : IfaceEntry). eq_by_cmp entry_cmp x k ≡ is_at k x) (at-equal k at h) (sym (at-ties k k))
    by false h = sym (at-ties at k) ∙ (at-flips k at h ∙ sym h)

get-changed : (m : Entries) (k : IfaceEntry) (w : Option Expiry) (at : IfaceEntry) → get (changed m k w) at ≡ cond (is_at k at) w (get m at)
get-changed m k None at = get-remove entry_cmp_total m k at ∙ ap (λ (b : Bool). cond b None (get m at)) (ties-flip k at)
get-changed m k (Some v) at = get-insert entry_cmp_total m k v at ∙ ap (λ (b : Bool). cond b (Some v) (get m at)) (ties-flip k at)

pub get-changed_by : (m : Entries) (changes : List Change) (at : IfaceEntry) → get (changed_by m changes) at ≡ then_at changes (get m at) at
get-changed_by m [] at = refl
get-changed_by m (change ∷ more) at =
    get-changed_by (changed m change.0 change.1) more at ∙ ap (λ (o : Option Expiry). then_at more o at) (get-changed m change.0 change.1 at)

-- Entries whose look-ups are those after the changes are the map after the changes.
pub made-changes : (es fs : List (IfaceEntry × Expiry)) (changes : List Change)
    → ((at : IfaceEntry) → lookup (is_at at) fs ≡ then_at changes (lookup (is_at at) es) at)
    → from_entries {R = entry_cmp} fs ≡ changed_by (from_entries es) changes
made-changes es fs changes h = same_map entry_cmp_total entry_cmp_exact _ _ (λ at.
    get-lookup fs at ∙ (h at ∙ (ap (λ (o : Option Expiry). then_at changes o at) (sym (get-lookup es at))
    ∙ sym (get-changed_by (from_entries es) changes at))))

-- ---- how many entries there are after the changes

-- of these entries those that are there
abbrev present_in : Entries → List IfaceEntry → ℕ
present_in m list = count_by (λ at. is_some (get m at)) list

-- Another entry's change leaves what is there.
present-apart : (m : Entries) (k : IfaceEntry) (w : Option Expiry) (list : List IfaceEntry) → AllByRecursion (λ at. is_at k at ≡ false) list
    → present_in (changed m k w) list ≡ present_in m list
present-apart m k w [] h = refl
present-apart m k w (at ∷ more) h =
    let here : get (changed m k w) at ≡ get m at = get-changed m k w at ∙ ap (λ (b : Bool). cond b w (get m at)) h.0 in
    count-cons (λ a. is_some (get (changed m k w) a)) at more
    ∙ (ap (λ (o : Option Expiry). cond (is_some o) 1 0 + present_in (changed m k w) more) here
    ∙ (ap (λ (n : ℕ). cond (is_some (get m at)) 1 0 + n) (present-apart m k w more h.1) ∙ sym (count-cons (λ a. is_some (get m a)) at more)))

one-in : (b : Bool) (n : ℕ) → cond b n (n + 1) + cond b 1 0 ≡ n + 1
one-in true n = refl
one-in false n = omega arith

one-out : (a b c : ℕ) → a + b ≡ c → b + a ≡ c + 0
one-out a b c h = omega (arith, h)

-- An entry that is there, removed and put back.
put-back : (m : Entries) (k : IfaceEntry) (v : Expiry) → get m k ≡ Some v → insert (remove m k) k v ≡ m
put-back m k v there =
    same_map entry_cmp_total entry_cmp_exact _ _
    (λ at. get-insert entry_cmp_total (remove m k) k v at
    ∙ (ap (λ (o : Option Expiry). cond (eq_by_cmp entry_cmp at k) (Some v) o) (get-remove entry_cmp_total m k at)
    ∙ by at (eq_by_cmp entry_cmp at k) refl))
  where
    by : (at : IfaceEntry) (b : Bool) → eq_by_cmp entry_cmp at k ≡ b → cond b (Some v) (cond b None (get m at)) ≡ get m at
    by at true t = sym (subst (λ (x : IfaceEntry). get m x ≡ Some v) (sym (at-equal at k (at-ties at k ∙ t))) there)
    by at false t = refl

-- An entry that is removed was there, or not.
len-removed : (m : Entries) (k : IfaceEntry) → cond (is_some (get m k)) 1 0 + len (remove m k) ≡ len m
len-removed m k = by (get m k) refl
  where
    none : get (remove m k) k ≡ None
    none = get-remove entry_cmp_total m k k ∙ ap (λ (b : Bool). cond b None (get m k)) (sym (at-ties k k) ∙ at-itself k)

    by : (o : Option Expiry) → get m k ≡ o → cond (is_some o) 1 0 + len (remove m k) ≡ len m
    by None h = same_len
      where
        same : remove m k ≡ m
        same = same_map entry_cmp_total entry_cmp_exact _ _ (λ at. get-remove entry_cmp_total m k at ∙ left at (eq_by_cmp entry_cmp at k) refl)
          where
            left : (at : IfaceEntry) (b : Bool) → eq_by_cmp entry_cmp at k ≡ b → cond b None (get m at) ≡ get m at
            left at true t = sym (subst (λ (x : IfaceEntry). get m x ≡ None) (sym (at-equal at k (at-ties at k ∙ t))) h)
            left at false t = refl

        same_len : 0 + len (remove m k) ≡ len m
        same_len = no-first (len (remove m k)) (len m) (ap (λ (x : Entries). len x) same)
          where
            no-first : (a b : ℕ) → a ≡ b → 0 + a ≡ b
            no-first a b e = omega (arith, e)
    by (Some v) h =
        one-first (len (remove m k)) (len m) (sym (ap (λ (x : Entries). len x) (put-back m k v h))
        ∙ (len-insert entry_cmp_total (remove m k) k v ∙ ap (λ (o : Option Expiry). cond (is_some o) (len (remove m k)) (len (remove m k) + 1)) none))
      where
        one-first : (a b : ℕ) → b ≡ a + 1 → 1 + a ≡ b
        one-first a b e = omega (arith, e)

-- One change.
len-changed : (m : Entries) (k : IfaceEntry) (w : Option Expiry) → len (changed m k w) + cond (is_some (get m k)) 1 0 ≡ len m + cond (is_some w) 1 0
len-changed m k None = one-out (cond (is_some (get m k)) 1 0) (len (remove m k)) (len m) (len-removed m k)
len-changed m k (Some v) = ap (λ (n : ℕ). n + cond (is_some (get m k)) 1 0) (len-insert entry_cmp_total m k v) ∙ one-in (is_some (get m k)) (len m)

joined-sums : (last old new had gets thereafter more : ℕ) → new + had ≡ old + gets → last + thereafter ≡ new + more
    → last + (had + thereafter) ≡ old + (gets + more)
joined-sums last old new had gets thereafter more h k = omega (arith, h, k)

-- Of entries that are changed once each, those that were there are gone, and those that have an expiry then are there.
pub len-changed_by : (m : Entries) (changes : List Change) → IsDistinct is_at (keys_of changes)
    → len (changed_by m changes) + present_in m (keys_of changes) ≡ len m + count_by is_some (values_of changes)
len-changed_by m [] h = refl
len-changed_by m (change ∷ more) h =
    let next = changed m change.0 change.1 in
    let thereafter = len-changed_by next more (IsDistinct-tail is_at change.0 (keys_of more) h) in
    let same = present-apart m change.0 change.1 (keys_of more) (IsDistinct-head is_at change.0 (keys_of more) h) in
    let rest : len (changed_by next more) + present_in m (keys_of more) ≡ len next + count_by is_some (values_of more) =
    ap (λ (n : ℕ). len (changed_by next more) + n) (sym same) ∙ thereafter in
    ap (λ (n : ℕ). len (changed_by next more) + n) (count-cons (λ a. is_some (get m a)) change.0 (keys_of more))
    ∙ (joined-sums (len (changed_by next more)) (len m) (len next) (cond (is_some (get m change.0)) 1 0) (cond (is_some change.1) 1 0)
    (present_in m (keys_of more)) (count_by is_some (values_of more)) (len-changed m change.0 change.1) rest
    ∙ ap (λ (n : ℕ). len m + n) (sym (count-cons is_some change.1 (values_of more))))

-- The same, of a map as the list of its entries.
pub count-after : (es : List (IfaceEntry × Expiry)) (changes : List Change) (size kept present : ℕ) → IsDistinct is_at (keys_of es)
    → IsDistinct is_at (keys_of changes) →
    size ≡ length es → kept ≡ count_by is_some (values_of changes) → present ≡ count_by (λ at. is_some (lookup (is_at at) es)) (keys_of changes)
    → len (changed_by (from_entries es) changes) + present ≡ size + kept
count-after es changes size kept present u d s k p =
    let found : present_in (from_entries es) (keys_of changes) ≡ count_by (λ at. is_some (lookup (is_at at) es)) (keys_of changes) =
    λ i. count_by (λ at. is_some (get-lookup es at i)) (keys_of changes) in
    sums (len (changed_by (from_entries es) changes)) present (present_in (from_entries es) (keys_of changes)) (len (from_entries {R = entry_cmp} es))
    size kept (count_by is_some (values_of changes))
    (len-changed_by (from_entries es) changes d) (p ∙ sym found) (length-map es u ∙ sym s) k
  where
    sums : (a b c d e f g : ℕ) → a + c ≡ d + g → b ≡ c → d ≡ e → f ≡ g → a + b ≡ e + f
    sums a b c d e f g h k l n = omega (arith, h, k, l, n)
