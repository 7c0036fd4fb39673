-- From when on entries may end.
use Rattle.std.proofs.Common.{◌≡◌, ℕ, ◌<◌, Bool, true, false, cond, min, nat_lt, List, [], ◌∷◌, Option, None, Some, fold, refl, sym, ap, subst, ◌∙◌, arith}
use Rattle.std.proofs.lemmas.Bool.{ltb-true, lt-ltb}
use Rattle.std.specs.Ordering.{eq_by_cmp}
use Rattle.std.specs.FinMap.{from_entries, get, get-insert, get-remove, same_map}
use Rattle.std.specs.Map.{lookup, values_of}
use Rattle.scenario_defs.specs.declared.event.IfaceEntry.{IfaceEntry}
use Rattle.pim_defs.specs.declared.expiry.Expiry.{Expiry}
use Rattle.pim_defs.specs.declared.expiry.Expiry.TheVariants.{At, Never}
use Rattle.pim_defs.specs.Expiry.{is_after, remaining}
use Rattle.pim_defs.specs.Entries.{Entries, entry_cmp, kept_at}
use Rattle.pim_defs.proofs.EntriesLemmas.{get-kept}
use Rattle.pim_defs.proofs.KeyLemmas.{entry_cmp_exact, entry_cmp_total}
use Rattle.pim_state.specs.Changes.{changed, changed_by}
use Rattle.pim_state.specs.Ends.{IsBound, sooner, sooner_where}
use Rattle.pim_state.specs.Plan.{is_at}
use Rattle.pim_state.proofs.MapLemmas.{get-lookup}

-- ---- the sooner of two

before_min : (clock a b : ℕ) → nat_lt clock (min a b) ≡ true → (nat_lt clock a ≡ true) × (nat_lt clock b ≡ true)
before_min clock a b h =
    let both : clock < min a b = ltb-true _ _ h in
    (lt-ltb _ _ (omega (arith, both)), lt-ltb _ _ (omega (arith, both)))

pub own_after : (a b : Expiry) (clock : ℕ) → is_after (sooner a b) clock ≡ true → is_after a clock ≡ true
own_after (At a) (At b) clock h = (before_min clock a b h).0
own_after (At a) Never clock h = h
own_after Never b clock h = refl

pub other_after : (a b : Expiry) (clock : ℕ) → is_after (sooner a b) clock ≡ true → is_after b clock ≡ true
other_after (At a) (At b) clock h = (before_min clock a b h).1
other_after (At a) Never clock h = refl
other_after Never b clock h = h

first_after : (first : Expiry) (expiries : List Expiry) (clock : ℕ) → is_after (fold sooner first expiries) clock ≡ true → is_after first clock ≡ true
first_after first [] clock h = h
first_after first (e ∷ expiries) clock h = own_after first e clock (first_after (sooner first e) expiries clock h)

-- ---- a list of entries

found_after : (p : IfaceEntry → Bool) (entries : List (IfaceEntry × Expiry)) (first expiry : Expiry) (clock : ℕ)
    → is_after (fold sooner first (values_of entries)) clock ≡ true → lookup p entries ≡ Some expiry → is_after expiry clock ≡ true
found_after p [] first expiry clock h at = absurd (let bad = at in cc)
found_after p (e ∷ entries) first expiry clock h at = by (p e.0) at (found_after p entries (sooner first e.1) expiry clock h)
  where
    by : (own : Bool) → cond own (Some e.1) (lookup p entries) ≡ Some expiry
        → (lookup p entries ≡ Some expiry → is_after expiry clock ≡ true) → is_after expiry clock ≡ true
    by true is rest =
        let same : e.1 ≡ expiry = cc in
        subst (λ (x : Expiry). is_after x clock ≡ true) same (other_after first e.1 clock (first_after (sooner first e.1) (values_of entries) clock h))
    by false is rest = rest is

-- The soonest end of all entries is a bound of them.
pub soonest_bound : (next : Expiry) (entries : List (IfaceEntry × Expiry)) → next ≡ fold sooner Never (values_of entries)
    → IsBound next (from_entries {R = entry_cmp} entries)
soonest_bound next entries is clock at expiry h there =
    found_after (is_at at) entries Never expiry clock (subst (λ (x : Expiry). is_after x clock ≡ true) is h) (sym (get-lookup entries at) ∙ there)

-- No entry is there to end.
pub empty_bound : (entries : List (IfaceEntry × Expiry)) → entries ≡ [] → IsBound Never (from_entries {R = entry_cmp} entries)
empty_bound entries none clock at expiry h there =
    let bad : None ≡ Some expiry = ap (lookup (is_at at)) (sym none) ∙ sym (get-lookup entries at) ∙ there in
    absurd (let wrong = bad in cc)

-- ---- changes

one_changed : (next : Expiry) (m : Entries) (at : IfaceEntry) (own : Option Expiry) → IsBound next m → IsBound (sooner_where next own) (changed m at own)
one_changed next m at None bound clock q expiry h there = by (eq_by_cmp entry_cmp q at) (sym (get-remove entry_cmp_total m at q) ∙ there)
  where
    by : (own : Bool) → cond own None (get m q) ≡ Some expiry → is_after expiry clock ≡ true
    by true is = absurd (let bad = is in cc)
    by false is = bound clock q expiry h is
one_changed next m at (Some new) bound clock q expiry h there = by (eq_by_cmp entry_cmp q at) (sym (get-insert entry_cmp_total m at new q) ∙ there)
  where
    by : (own : Bool) → cond own (Some new) (get m q) ≡ Some expiry → is_after expiry clock ≡ true
    by true is =
        let same : new ≡ expiry = cc in
        subst (λ (x : Expiry). is_after x clock ≡ true) same (other_after next new clock h)
    by false is = bound clock q expiry (own_after next new clock h) is

pub changed_bound : (changes : List (IfaceEntry × Option Expiry)) (next : Expiry) (m : Entries) → IsBound next m
    → IsBound (fold sooner_where next (values_of changes)) (changed_by m changes)
changed_bound [] next m bound = bound
changed_bound (change ∷ more) next m bound =
    changed_bound more (sooner_where next change.1) (changed m change.0 change.1) (one_changed next m change.0 change.1 bound)

-- ---- the clock

remains : (clock : ℕ) (own : Option Expiry) → ((expiry : Expiry) → own ≡ Some expiry → is_after expiry clock ≡ true) → remaining clock own ≡ own
remains clock None h = refl
remains clock (Some expiry) h = ap (λ (b : Bool). cond b (Some expiry) None) (h expiry refl)

-- Before the bound a run of the timers changes nothing.
pub none_ended : (next : Expiry) (m : Entries) (clock : ℕ) → IsBound next m → is_after next clock ≡ true → kept_at m clock ≡ m
none_ended next m clock bound h =
    same_map entry_cmp_total entry_cmp_exact (kept_at m clock) m
    (λ at. get-kept m clock at ∙ remains clock (get m at) (λ expiry there. bound clock at expiry h there))
