-- What listing an entry, or listing it no longer, does to what is listed.
use Rattle.std.proofs.Common.{◌≡◌, ℕ, ◌+◌, ◌<◌, Bool, true, false, cond, not, ◌&&◌, ◌||◌, List, [], ◌∷◌, Option, None, Some, is_some, length, get_or, take, refl, sym, ap, subst, ◌∙◌}
use Rattle.std.specs.List.{IsDistinct, list_any}
use Rattle.std.specs.Map.{lookup, keys_of}
use Rattle.std.proofs.Math.Bool.{or-false}
use Rattle.std.proofs.lemmas.Bool.{and_parts, or_left, or_right}
use Rattle.std.proofs.lemmas.List.Folds.{list_any_more}
use Rattle.std.proofs.lemmas.Map.Keys.{IsDistinct-head, IsDistinct-tail}
use Rattle.indexmap.specs.IndexMap.{get}
use Rattle.mv_base.specs.declared.addr.Addr.{Addr}
use Rattle.mv_base.specs.Address.{same_addr, same_addr_equal, same_addr_equiv}
use Rattle.scenario_defs.specs.declared.event.IfaceEntry.{IfaceEntry}
use Rattle.pim_defs.specs.declared.expiry.Expiry.{Expiry}
use Rattle.pim_defs.specs.Expiry.{is_after, remaining}
use Rattle.pim_state.specs.declared.index.IndexKey.{IndexKey}
use Rattle.pim_state.specs.declared.index.IndexKey.TheVariants.{Shared, Flow, Pruned}
use Rattle.pim_state.specs.Plan.{is_at, Expiries}
use Rattle.pim_state.specs.Index.{is_key, key_of, EntryIndex, among, listed, is_changed, is_kept, is_left, is_listed, lists_again}
use Rattle.pim_state.specs.Changes.{then_at}
use Rattle.pim_state.proofs.MapLemmas.{not_both, not_some, is_false, at-equal, at-flips, at-itself, lookup-apart}

-- ---- keys

pub no-true : false ≡ true → ⊥
no-true h = not_both true refl (sym h)

key-equal : (a b : IndexKey) → is_key a b ≡ true → a ≡ b
key-equal (Shared g) (Shared h) e = ap (λ (x : Addr). Shared x) (same_addr_equal g h e)
key-equal (Flow s g) (Flow t h) e =
    let both = and_parts (same_addr s t) (same_addr g h) e in
    let source = same_addr_equal s t both.0 in
    let group = same_addr_equal g h both.1 in
    λ i. Flow (source i) (group i)
key-equal (Pruned g) (Pruned h) e = ap (λ (x : Addr). Pruned x) (same_addr_equal g h e)
key-equal (Shared g) (Flow t h) e = absurd (no-true e)
key-equal (Shared g) (Pruned h) e = absurd (no-true e)
key-equal (Flow s g) (Shared h) e = absurd (no-true e)
key-equal (Flow s g) (Pruned h) e = absurd (no-true e)
key-equal (Pruned g) (Shared h) e = absurd (no-true e)
key-equal (Pruned g) (Flow t h) e = absurd (no-true e)

key-itself : (a : IndexKey) → is_key a a ≡ true
key-itself (Shared g) = same_addr_equiv.refl g
key-itself (Flow s g) = ap (λ b. b && same_addr g g) (same_addr_equiv.refl s) ∙ same_addr_equiv.refl g
key-itself (Pruned g) = same_addr_equiv.refl g

-- Entries of two keys are two entries.
apart-keys : (at other : IfaceEntry) → is_key (key_of at.entry) (key_of other.entry) ≡ false → is_at at other ≡ false
apart-keys at other h = is_false (is_at at other) (λ e.
    not_both _ (subst (λ (x : IfaceEntry). is_key (key_of at.entry) (key_of x.entry) ≡ true) (at-equal at other e)
    (key-itself (key_of at.entry))) h)

-- ---- one entry

pub absent : {X : Type 0} (o : Option X) → is_some o ≡ false → o ≡ None
absent None h = refl
absent (Some x) h = absurd cc

and-all : (a : Bool) → (a && true) ≡ a
and-all true = refl
and-all false = refl

-- One entry more among those of its key.
pub listed-more : (old new : EntryIndex) (at other : IfaceEntry) (own : List IfaceEntry)
    → ((k : IndexKey) → get is_key new k ≡ cond (is_key (key_of at.entry) k) (Some own) (get is_key old k))
    → ((x : IfaceEntry) → list_any (is_at x) own ≡ (list_any (is_at x) (listed old (key_of at.entry)) || is_at at x))
    → is_listed new other ≡ (is_listed old other || is_at at other)
listed-more old new at other own changed more =
    ap (λ (o : Option (List IfaceEntry)). list_any (is_at other) (among o)) (changed (key_of other.entry))
    ∙ by (is_key (key_of at.entry) (key_of other.entry)) refl
  where
    by : (b : Bool) → is_key (key_of at.entry) (key_of other.entry) ≡ b
        → list_any (is_at other) (among (cond b (Some own) (get is_key old (key_of other.entry)))) ≡ (is_listed old other || is_at at other)
    by true h = more other ∙ ap (λ (k : IndexKey). list_any (is_at other) (listed old k) || is_at at other) (key-equal _ _ h)
    by false h = sym (ap (λ (b : Bool). is_listed old other || b) (apart-keys at other h) ∙ or-false (is_listed old other))

-- The first entry of its key.
pub listed-first : (old new : EntryIndex) (at other : IfaceEntry) (key : IndexKey) (empty own : List IfaceEntry) → key ≡ key_of at.entry
    → is_some (get is_key old (key_of at.entry)) ≡ false → empty ≡ []
    → ((x : IfaceEntry) → list_any (is_at x) own ≡ (list_any (is_at x) empty || is_at at x))
    → ((k : IndexKey) → get is_key new k ≡ cond (is_key key k) (Some own) (get is_key old k))
    → is_listed new other ≡ (is_listed old other || is_at at other)
listed-first old new at other key empty own same none start put changed =
    let before : listed old (key_of at.entry) ≡ [] =
    ap (λ (o : Option (List IfaceEntry)). among o) (absent (get is_key old (key_of at.entry)) none) in
    listed-more old new at other own
    (λ k. changed k ∙ ap (λ (x : IndexKey). cond (is_key x k) (Some own) (get is_key old k)) same)
    (λ x. put x ∙ ap (λ (l : List IfaceEntry). list_any (is_at x) l || is_at at x) (start ∙ sym before))

-- One entry less among those of its key.
pub listed-less : (index : EntryIndex) (at other : IfaceEntry) (own : List IfaceEntry)
    → ((x : IfaceEntry) → list_any (is_at x) own ≡ (list_any (is_at x) (listed index (key_of at.entry)) && not (is_at at x)))
    → list_any (is_at other) (among (cond (is_key (key_of at.entry) (key_of other.entry)) (Some own) (get is_key index (key_of other.entry))))
    ≡ (is_listed index other && not (is_at at other))
listed-less index at other own less = by (is_key (key_of at.entry) (key_of other.entry)) refl
  where
    by : (b : Bool) → is_key (key_of at.entry) (key_of other.entry) ≡ b
        → list_any (is_at other) (among (cond b (Some own) (get is_key index (key_of other.entry)))) ≡ (is_listed index other && not (is_at at other))
    by true h = less other ∙ ap (λ (k : IndexKey). list_any (is_at other) (listed index k) && not (is_at at other)) (key-equal _ _ h)
    by false h = sym (ap (λ (b : Bool). is_listed index other && not b) (apart-keys at other h) ∙ and-all (is_listed index other))

-- Where nothing is listed by the key, the entry is not.
pub none-less : (index : EntryIndex) (at other : IfaceEntry) → get is_key index (key_of at.entry) ≡ None
    → is_listed index other ≡ (is_listed index other && not (is_at at other))
none-less index at other none = by (is_at at other) refl
  where
    unlisted : is_listed index at ≡ false
    unlisted = ap (λ (o : Option (List IfaceEntry)). list_any (is_at at) (among o)) none

    by : (b : Bool) → is_at at other ≡ b → is_listed index other ≡ (is_listed index other && not b)
    by true h =
        subst (λ (x : IfaceEntry). is_listed index x ≡ (is_listed index x && not true)) (at-equal at other h)
        (unlisted ∙ sym (ap (λ (b : Bool). b && not true) unlisted))
    by false h = sym (and-all (is_listed index other))

-- A key without an entry goes.
pub key-gone : (old new : EntryIndex) (key : IndexKey) (other : IfaceEntry)
    → ((k : IndexKey) → get is_key new k ≡ cond (is_key key k) None (get is_key old k)) → listed old key ≡ []
    → is_listed new other ≡ is_listed old other
key-gone old new key other changed none =
    ap (λ (o : Option (List IfaceEntry)). list_any (is_at other) (among o)) (changed (key_of other.entry))
    ∙ by (is_key key (key_of other.entry)) refl
  where
    by : (b : Bool) → is_key key (key_of other.entry) ≡ b
        → list_any (is_at other) (among (cond b None (get is_key old (key_of other.entry)))) ≡ is_listed old other
    by true h =
        sym (ap (λ (k : IndexKey). list_any (is_at other) (listed old k)) (sym (key-equal _ _ h))
        ∙ ap (λ (l : List IfaceEntry). list_any (is_at other) l) none)
    by false h = refl

-- ---- many entries

pub has-ended : (clock : ℕ) (o : Option Expiry) (expiry : Expiry) → o ≡ Some expiry → is_after expiry clock ≡ false → remaining clock o ≡ None
has-ended clock o expiry there ended =
    ap (remaining clock) there ∙ ap (λ (b : Bool). cond b (Some expiry) None) ended

-- One changed entry more.
pub kept-more : (new old here rest : Bool) (all : Bool) → new ≡ (old || here) → (old || (here || rest)) ≡ all → (new || rest) ≡ all
kept-more new old here rest all n h = ap (λ (b : Bool). b || rest) n ∙ (by old ∙ h)
  where
    by : (b : Bool) → ((b || here) || rest) ≡ (b || (here || rest))
    by true = refl
    by false = refl

pub listed-itself : (a : Bool) → (not a || a) ≡ true
listed-itself true = refl
listed-itself false = refl

-- What was listed before stays listed.
pub stays-listed : (first old new here : Bool) → new ≡ (old || here) → (not first || old) ≡ true → (not first || new) ≡ true
stays-listed true old new here n h = n ∙ or_left old here h
stays-listed false old new here n h = refl

kept-changed : (changes : List (IfaceEntry × Option Expiry)) (at : IfaceEntry) → is_kept changes at ≡ true → is_changed changes at ≡ true
kept-changed [] at h = absurd (no-true h)
kept-changed (change ∷ more) at h = by (is_some change.1) (is_at change.0 at) h (kept-changed more at)
  where
    by : (a b : Bool) → ((a && b) || is_kept more at) ≡ true → (is_kept more at ≡ true → is_changed more at ≡ true)
        → (b || is_changed more at) ≡ true
    by a true k rest = refl
    by true false k rest = rest k
    by false false k rest = rest k

-- Where memory was wanted midway, what is listed is what was and some of the changed entries.
pub midway : (changes : List (IfaceEntry × Option Expiry)) (at : IfaceEntry) (old new rest : Bool) → (new || rest) ≡ (old || is_kept changes at)
    → (not old || new) ≡ true → lists_again changes old new at ≡ true
midway changes at true new rest e k = ap (λ (b : Bool). b && (not new || true)) k ∙ or_right (not new) true refl
midway changes at false false rest e k = refl
midway changes at false true rest e k = kept-changed changes at (sym e)

-- Once the changed entries that are not there are listed no longer, it is what was listed.
pub back-again : (changes : List (IfaceEntry × Option Expiry)) (at : IfaceEntry) (old new there changed : Bool)
    → lists_again changes old new at ≡ true → old ≡ there → changed ≡ is_changed changes at → (new && (not changed || there)) ≡ old
back-again changes at old new there changed again same c =
    (λ i. new && (not (c i) || sym same i)) ∙ by old new (is_changed changes at) again
  where
    by : (a b d : Bool) → ((not a || b) && (not b || (a || d))) ≡ true → (b && (not d || a)) ≡ a
    by true true d h = or_right (not d) true refl
    by true false d h = absurd (no-true h)
    by false false d h = refl
    by false true true h = refl
    by false true false h = absurd (no-true h)

-- The keys of the changes are the entries that are changed.
pub changed-keys : (changes : List (IfaceEntry × Option Expiry)) (at : IfaceEntry)
    → list_any (λ own. is_at own at) (keys_of changes) ≡ is_changed changes at
changed-keys [] at = refl
changed-keys (change ∷ more) at = ap (λ (b : Bool). is_at change.0 at || b) (changed-keys more at)

-- An entry that is not there is listed no longer.
pub absent-less : (entries : Expiries) (old new : Bool) (at other : IfaceEntry) → get is_at entries at ≡ None → new ≡ (old && not (is_at at other))
    → new ≡ (old && is_left entries (at ∷ []) other)
absent-less entries old new at other none less = less ∙ ap (λ (b : Bool). old && b) (by (is_at at other) refl)
  where
    by : (b : Bool) → is_at at other ≡ b → not b ≡ (not (b || false) || is_some (get is_at entries other))
    by true h =
        sym (subst (λ (x : IfaceEntry). is_some (get is_at entries x) ≡ false) (at-equal at other h)
        (ap (λ (o : Option Expiry). is_some o) none))
    by false h = refl

-- One that is there stays.
pub there-left : (entries : Expiries) (old : Bool) (at other : IfaceEntry) → is_some (get is_at entries at) ≡ true
    → old ≡ (old && is_left entries (at ∷ []) other)
there-left entries old at other there = sym (ap (λ (b : Bool). old && b) (by (is_at at other) refl) ∙ and-all old)
  where
    by : (b : Bool) → is_at at other ≡ b → (not (b || false) || is_some (get is_at entries other)) ≡ true
    by true h = subst (λ (x : IfaceEntry). is_some (get is_at entries x) ≡ true) (at-equal at other h) there
    by false h = refl

pub all-left : (entries : Expiries) (old : Bool) (other : IfaceEntry) → old ≡ (old && is_left entries [] other)
all-left entries old other = sym (and-all old)

-- One of the entries more.
pub left-more : (entries : Expiries) (changed : List IfaceEntry) (i : ℕ) (d other : IfaceEntry) (first old new : Bool) → i < length changed
    → new ≡ (old && is_left entries (get_or changed i d ∷ []) other) → old ≡ (first && is_left entries (take i changed) other)
    → new ≡ (first && is_left entries (take (i + 1) changed) other)
left-more entries changed i d other first old new l n o =
    let test = λ (own : IfaceEntry). is_at own other in
    let there = is_some (get is_at entries other) in
    n ∙ (ap (λ (b : Bool). b && (not (test (get_or changed i d) || false) || there)) o
    ∙ (twice first (list_any test (take i changed)) (test (get_or changed i d)) there
    ∙ ap (λ (b : Bool). first && (not b || there)) (sym (list_any_more test changed i d l))))
  where
    twice : (a b c t : Bool) → ((a && (not b || t)) && (not (c || false) || t)) ≡ (a && (not (b || c) || t))
    twice false b c t = refl
    twice true true c true = or_right (not (c || false)) true refl
    twice true true c false = refl
    twice true false true t = refl
    twice true false false t = refl

-- An entry that was listed still is, where it has not ended.
pub ended-less : (clock : ℕ) (entries : Expiries) (first : IfaceEntry × Expiry) (more : List (IfaceEntry × Expiry)) (at : IfaceEntry) (old new : Bool)
    → get is_at entries first.0 ≡ Some first.1 → is_after first.1 clock ≡ false → lookup (is_at first.0) more ≡ None
    → old ≡ (is_some (remaining clock (get is_at entries at)) || is_some (lookup (is_at at) (first ∷ more))) → new ≡ (old && not (is_at first.0 at))
    → new ≡ (is_some (remaining clock (get is_at entries at)) || is_some (lookup (is_at at) more))
ended-less clock entries first more at old new there ended none o n =
    n ∙ (ap (λ (b : Bool). b && not (is_at first.0 at)) o ∙ by (is_at first.0 at) refl)
  where
    left : IfaceEntry → Bool
    left x = is_some (remaining clock (get is_at entries x)) || is_some (lookup (is_at x) more)

    gone : left first.0 ≡ false
    gone = λ i. is_some (has-ended clock (get is_at entries first.0) first.1 there ended i) || is_some (none i)

    by : (b : Bool) → is_at first.0 at ≡ b
        → ((is_some (remaining clock (get is_at entries at)) || is_some (cond (is_at at first.0) (Some first.1) (lookup (is_at at) more))) && not b)
        ≡ left at
    by true h = none-left _ ∙ sym (subst (λ (x : IfaceEntry). left x ≡ false) (at-equal first.0 at h) gone)
      where
        none-left : (a : Bool) → (a && not true) ≡ false
        none-left true = refl
        none-left false = refl
    by false h =
        and-all _ ∙ ap (λ (b : Bool). is_some (remaining clock (get is_at entries at)) || is_some (cond b (Some first.1) (lookup (is_at at) more)))
        (at-flips first.0 at h)

-- One that ends after the clock stays listed.
pub after-left : (clock : ℕ) (entries : Expiries) (first : IfaceEntry × Expiry) (more : List (IfaceEntry × Expiry)) (at : IfaceEntry) (old : Bool)
    → get is_at entries first.0 ≡ Some first.1 → is_after first.1 clock ≡ true
    → old ≡ (is_some (remaining clock (get is_at entries at)) || is_some (lookup (is_at at) (first ∷ more)))
    → old ≡ (is_some (remaining clock (get is_at entries at)) || is_some (lookup (is_at at) more))
after-left clock entries first more at old there later o = o ∙ by (is_at at first.0) refl
  where
    stays : is_some (remaining clock (get is_at entries first.0)) ≡ true
    stays =
        ap (λ (o : Option Expiry). is_some (remaining clock o)) there
        ∙ ap (λ (b : Bool). is_some (cond {A = Option Expiry} b (Some first.1) None)) later

    by : (b : Bool) → is_at at first.0 ≡ b
        → (is_some (remaining clock (get is_at entries at)) || is_some (cond b (Some first.1) (lookup (is_at at) more)))
        ≡ (is_some (remaining clock (get is_at entries at)) || is_some (lookup (is_at at) more))
    by true h =
        let here : is_some (remaining clock (get is_at entries at)) ≡ true =
        subst (λ (x : IfaceEntry). is_some (remaining clock (get is_at entries x)) ≡ true) (sym (at-equal at first.0 h)) stays in
        or_left _ _ here ∙ sym (or_left _ _ here)
    by false h = refl

-- An entry that ends after the clock is there.
pub after-there : (clock : ℕ) (o : Option Expiry) → is_some o ≡ (is_some (remaining clock o) || is_some o)
after-there clock None = refl
after-there clock (Some expiry) = by (is_after expiry clock)
  where
    by : (b : Bool) → true ≡ (is_some (cond {A = Option Expiry} b (Some expiry) None) || true)
    by true = refl
    by false = refl

-- An entry that is there after the changes was there, or is one of those that are there then.
pub then-kept : (changes : List (IfaceEntry × Option Expiry)) (now : Option Expiry) (at : IfaceEntry) (first found : Bool)
    → (not (is_some now) || first) ≡ true → found ≡ (first || is_kept changes at) → (not (is_some (then_at changes now at)) || found) ≡ true
then-kept [] now at first found h f = ap (λ (b : Bool). not (is_some now) || b) (f ∙ or-false first) ∙ h
then-kept (change ∷ more) now at first found h f =
    then-kept more (cond (is_at change.0 at) change.1 now) at (first || (is_some change.1 && is_at change.0 at)) found
    (by (is_at change.0 at) change.1) (f ∙ grouped first (is_some change.1 && is_at change.0 at) (is_kept more at))
  where
    grouped : (a b c : Bool) → (a || (b || c)) ≡ ((a || b) || c)
    grouped true b c = refl
    grouped false b c = refl

    still : (a b c : Bool) → (a || b) ≡ true → (a || (b || c)) ≡ true
    still true b c e = refl
    still false b c e = or_left b c e

    by : (b : Bool) (then_is : Option Expiry) → (not (is_some (cond b then_is now)) || (first || (is_some then_is && b))) ≡ true
    by true None = refl
    by true (Some expiry) = or_right first true refl
    by false then_is = still (not (is_some now)) first (is_some then_is && false) h

unchanged : (changes : List (IfaceEntry × Option Expiry)) (now : Option Expiry) (at : IfaceEntry) → is_changed changes at ≡ false
    → (then_at changes now at ≡ now) × (is_kept changes at ≡ false)
unchanged [] now at h = (refl, refl)
unchanged (change ∷ more) now at h = by (is_at change.0 at) (is_some change.1) h (unchanged more now at)
  where
    by : (b s : Bool) → (b || is_changed more at) ≡ false
        → (is_changed more at ≡ false → (then_at more now at ≡ now) × (is_kept more at ≡ false))
        → (then_at more (cond b change.1 now) at ≡ now) × (((s && b) || is_kept more at) ≡ false)
    by true s k rest = absurd (no-true (sym k))
    by false true k rest = rest k
    by false false k rest = rest k

-- Once the entries that are there after the changes are listed, and the changed ones that are not are listed no longer, those are
-- listed that are there.
pub then-exact : (changes : List (IfaceEntry × Option Expiry)) (now : Option Expiry) (at : IfaceEntry) (found changed : Bool)
    → found ≡ (is_some now || is_kept changes at) → changed ≡ is_changed changes at
    → (found && (not changed || is_some (then_at changes now at))) ≡ is_some (then_at changes now at)
then-exact changes now at found changed f c =
    (λ i. f i && (not (c i) || is_some (then_at changes now at))) ∙ by (is_changed changes at) refl
  where
    among : Bool
    among = is_some now || is_kept changes at

    within : (a t : Bool) → (not t || a) ≡ true → (a && t) ≡ t
    within true t h = refl
    within false true h = absurd (no-true h)
    within false false h = refl

    by : (b : Bool) → is_changed changes at ≡ b → (among && (not b || is_some (then_at changes now at))) ≡ is_some (then_at changes now at)
    by true h = within among (is_some (then_at changes now at)) (then-kept changes now at (is_some now) among (listed-itself (is_some now)) refl)
    by false h =
        let same = unchanged changes now at h in
        and-all among ∙ (ap (λ (b : Bool). is_some now || b) same.1 ∙ (or-false (is_some now) ∙ ap (λ (o : Option Expiry). is_some o) (sym same.0)))

-- ---- entries in turn

-- what is found among the rest is found among all
abbrev pub IsRestOf : List (IfaceEntry × Expiry) → List (IfaceEntry × Expiry) → Type 0
IsRestOf rest all = (at : IfaceEntry) (expiry : Expiry) → lookup (is_at at) rest ≡ Some expiry → lookup (is_at at) all ≡ Some expiry

pub rest-first : (first : IfaceEntry × Expiry) (more all : List (IfaceEntry × Expiry)) → IsRestOf (first ∷ more) all
    → lookup (is_at first.0) all ≡ Some first.1
rest-first first more all rest =
    rest first.0 first.1 (ap (λ (b : Bool). cond b (Some first.1) (lookup (is_at first.0) more)) (at-itself first.0))

pub rest-more : (first : IfaceEntry × Expiry) (more all : List (IfaceEntry × Expiry)) → IsDistinct is_at (keys_of (first ∷ more))
    → IsRestOf (first ∷ more) all → IsRestOf more all
rest-more first more all distinct rest at expiry found = rest at expiry (by (is_at at first.0) refl)
  where
    by : (b : Bool) → is_at at first.0 ≡ b → cond b (Some first.1) (lookup (is_at at) more) ≡ Some expiry
    by true t =
        absurd (not_some expiry (sym found ∙ (ap (λ (x : IfaceEntry). lookup (is_at x) more) (at-equal at first.0 t)
        ∙ lookup-apart first.0 more (IsDistinct-head is_at first.0 (keys_of more) distinct))))
    by false t = found

-- One entry of the rest in its turn.
pub rest-turn : (rest : List (IfaceEntry × Expiry)) (first : IfaceEntry × Expiry) (more all : List (IfaceEntry × Expiry)) → rest ≡ first ∷ more
    → IsDistinct is_at (keys_of rest) → IsRestOf rest all
    → IsDistinct is_at (keys_of more) × IsRestOf more all × (lookup (is_at first.0) all ≡ Some first.1) × (lookup (is_at first.0) more ≡ None)
rest-turn rest first more all front distinct among_all =
    let here : IsDistinct is_at (keys_of (first ∷ more)) = subst (λ (l : List (IfaceEntry × Expiry)). IsDistinct is_at (keys_of l)) front distinct in
    let found : IsRestOf (first ∷ more) all = subst (λ (l : List (IfaceEntry × Expiry)). IsRestOf l all) front among_all in (
      IsDistinct-tail is_at first.0 (keys_of more) here,
      rest-more first more all here found,
      rest-first first more all found,
      lookup-apart first.0 more (IsDistinct-head is_at first.0 (keys_of more) here),
    )
