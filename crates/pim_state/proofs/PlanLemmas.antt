-- The plan of a message: what it says of each entry is what the message makes of it.
use Rattle.std.proofs.Common.{◌≡◌, ℕ, ◌+◌, ◌<◌, ◌==◌, Bool, true, false, cond, ◌&&◌, ◌||◌, List, [], ◌∷◌, Option, None, Some, length, get_or, take, is_some, unwrap_or, refl, sym, ap, subst, ◌∙◌, arith}
use Rattle.std.specs.List.{AllByRecursion, IsDistinct, list_any}
use Rattle.std.specs.FinMap.{from_entries, same_map}
use Rattle.std.specs.FinMap as finite
use Rattle.std.specs.Map.{lookup, keys_of}
use Rattle.std.proofs.lemmas.Bool.{or_left, or_right}
use Rattle.std.proofs.lemmas.Bool.Decides.{nat_tests}
use Rattle.std.proofs.lemmas.List.Folds.{list_any_more}
use Rattle.std.proofs.lemmas.Map.Keys.{IsDistinct-head, IsDistinct-tail}
use Rattle.indexmap.specs.IndexMap.{get}
use Rattle.mv_base.specs.declared.addr.Addr.{Addr}
use Rattle.scenario_defs.specs.declared.event.JoinEntry.{JoinEntry}
use Rattle.scenario_defs.specs.declared.event.JoinEntry.TheVariants.{Star, Source, Rpt}
use Rattle.pim_joinprune.specs.declared.source.JpSource.{JpSource}
use Rattle.pim_joinprune.specs.declared.message.JoinPrune.{JoinPrune}
use Rattle.scenario_defs.specs.declared.event.IfaceEntry.{IfaceEntry}
use Rattle.pim_defs.specs.declared.expiry.Expiry.{Expiry}
use Rattle.pim_defs.specs.Mention.{entry_of, same_entry, lists, mention_of, expiry_after}
use Rattle.scenario_defs.specs.Rules.{group_of}
use Rattle.pim_defs.specs.Entries.{Entries, applied}
use Rattle.pim_defs.proofs.KeyLemmas.{entry_cmp_total, entry_cmp_exact, same_entry_equal}
use Rattle.pim_defs.proofs.EntriesLemmas.{get-applied}
use Rattle.pim_state.specs.declared.arrival.Arrival.{Arrival}
use Rattle.pim_state.specs.declared.index.IndexKey.TheVariants.{Pruned}
use Rattle.pim_state.specs.Plan.{is_entry, is_at, is_among, is_named, is_ended, may_end, ends, ends_among, then_of, planned, told_at, Expiries, Tells}
use Rattle.pim_state.specs.Index.{EntryIndex, IsExact, ends_of, key_of, listed, pruned_by}
use Rattle.pim_state.specs.Changes.{changed_by, then_at}
use Rattle.pim_state.proofs.MapLemmas.{not_both, is_false, entry-same, at-equal, at-symmetric, get-lookup}
use Rattle.pim_state.proofs.ChangesLemmas.{get-changed_by}
use Rattle.pim_state.proofs.IndexLemmas.{absent, no-true}

-- ---- the entries that sources name

more-or : (first front here : Bool) → cond here true (first || front) ≡ (first || (front || here))
more-or true front true = refl
more-or true front false = refl
more-or false true true = refl
more-or false false true = refl
more-or false true false = refl
more-or false false false = refl

-- One source more.
pub named-more : (group : Addr) (sources : List JpSource) (i : ℕ) (d : JpSource) (named entry : JoinEntry) (first old new : Bool) → i < length sources
    → named ≡ entry_of group (get_or sources i d) →
    new ≡ cond (is_entry named entry) true old → old ≡ (first || lists group (take i sources) entry)
    → new ≡ (first || lists group (take (i + 1) sources) entry)
named-more group sources i d named entry first old new l e n o =
    let here : is_entry named entry ≡ same_entry (entry_of group (get_or sources i d)) entry =
    entry-same named entry ∙ ap (λ (x : JoinEntry). same_entry x entry) e in
    n ∙ ((λ k. cond (here k) true (o k)) ∙ (more-or first (lists group (take i sources) entry)
    (same_entry (entry_of group (get_or sources i d)) entry)
    ∙ ap (λ (b : Bool). first || b) (sym (list_any_more (λ source. same_entry (entry_of group source) entry) sources i d l))))

-- ---- one entry

or-none : (a b : Bool) → (a && (b || false)) ≡ (a && b)
or-none true true = refl
or-none true false = refl
or-none false b = refl

abbrev own : Arrival → JoinEntry → IfaceEntry
own arrival entry = record { iface = arrival.iface; entry = entry }

named-one : (arrival : Arrival) (entry : JoinEntry) (at : IfaceEntry) → is_named arrival (entry ∷ []) at ≡ is_at at (own arrival entry)
named-one arrival entry at = or-none (at.iface.0 == arrival.iface.0) (is_entry at.entry entry)

-- What is planned for an entry is what the plan says of it, and of no other.
pub plan-one : (arrival : Arrival) (entries : Expiries) (entry : JoinEntry) (next : Option Expiry) (old new : Option (Option Expiry))
    (at : IfaceEntry) →
    next ≡ then_of arrival entry (get is_at entries (own arrival entry)) → new ≡ cond (is_at (own arrival entry) at) (Some next) old
    → new ≡ told_at arrival entries (is_named arrival (entry ∷ []) at) old at
plan-one arrival entries entry next old new at t n =
    n ∙ (by (is_at (own arrival entry) at) refl ∙ ap (λ (b : Bool). told_at arrival entries b old at)
    (at-symmetric (own arrival entry) at ∙ sym (named-one arrival entry at)))
  where
    by : (b : Bool) → is_at (own arrival entry) at ≡ b → cond b (Some next) old ≡ told_at arrival entries b old at
    by true h =
        subst (λ (x : IfaceEntry). Some next ≡ Some (planned arrival entries x)) (at-equal (own arrival entry) at h)
        (ap (λ (o : Option Expiry). Some o) t)
    by false h = refl

both_true : (a b : Bool) → (a && b) ≡ true → (a ≡ true) × (b ≡ true)
both_true true true h = (refl, refl)
both_true true false h = absurd cc
both_true false b h = absurd cc

-- The one entry that the message may end is the one that is planned.
pub ended-one : (arrival : Arrival) (entries : Expiries) (at other : IfaceEntry) → ends arrival entries at ≡ true
    → is_named arrival (at.entry ∷ []) other ≡ ends_among arrival entries (at ∷ []) other
ended-one arrival entries at other h =
    let number : (at.iface.0 == arrival.iface.0) ≡ true = (both_true _ _ (both_true _ _ h).0).0 in
    let iface : at.iface.0 ≡ arrival.iface.0 = grind (arith, nat_tests) in
    let here : own arrival at.entry ≡ at = λ i. record { iface = record { 0 = sym iface i }; entry = at.entry } in
    named-one arrival at.entry other
    ∙ (ap (is_at other) here ∙ (by (is_at other at) refl ∙ sym (or-none (ends arrival entries other) (is_at other at))))
  where
    by : (b : Bool) → is_at other at ≡ b → is_at other at ≡ (ends arrival entries other && is_at other at)
    by true t =
        let also = subst (λ (x : IfaceEntry). ends arrival entries x ≡ true) (sym (at-equal other at t)) h in
        t ∙ sym (ap (λ (b : Bool). b && is_at other at) also ∙ t)
    by false t = t ∙ sym (ap (λ (b : Bool). ends arrival entries other && b) t ∙ and-none (ends arrival entries other))
      where
        and-none : (a : Bool) → (a && false) ≡ false
        and-none true = refl
        and-none false = refl

-- An entry that the message may not end is not among those.
pub kept-one : (arrival : Arrival) (entries : Expiries) (at other : IfaceEntry) → ends arrival entries at ≡ false
    → ends_among arrival entries (at ∷ []) other ≡ false
kept-one arrival entries at other h = is_false _ (λ e.
    let both = both_true (ends arrival entries other) (is_at other at) (sym (or-none (ends arrival entries other) (is_at other at)) ∙ e) in
    not_both (ends arrival entries other) both.0
    (subst (λ (x : IfaceEntry). ends arrival entries x ≡ false) (sym (at-equal other at both.1)) h))

-- ---- all entries

-- The entries of one list more.
pub ended-more : (arrival : Arrival) (entries : Expiries) (index : EntryIndex) (joined : List JoinEntry) (i : ℕ) (d : JoinEntry) (at : IfaceEntry)
    (first old new : Option (Option Expiry)) → i < length joined
    → new ≡ told_at arrival entries (ends_among arrival entries (pruned_by index (get_or joined i d)) at) old at
    → old ≡ told_at arrival entries (ends_of arrival entries index (take i joined) at) first at
    → new ≡ told_at arrival entries (ends_of arrival entries index (take (i + 1) joined) at) first at
ended-more arrival entries index joined i d at first old new l n o =
    let test = λ (entry : JoinEntry). list_any (is_at at) (pruned_by index entry) in
    let here = test (get_or joined i d) in
    n ∙ (ap (λ (x : Option (Option Expiry)). told_at arrival entries (ends_among arrival entries (pruned_by index (get_or joined i d)) at) x at) o
    ∙ (twice (ends arrival entries at) (list_any test (take i joined)) here (Some (planned arrival entries at)) first
    ∙ ap (λ (b : Bool). told_at arrival entries (ends arrival entries at && b) first at) (sym (list_any_more test joined i d l))))
  where
    twice : (a b c : Bool) (next now : Option (Option Expiry)) → cond (a && c) next (cond (a && b) next now) ≡ cond (a && (b || c)) next now
    twice true true true next now = refl
    twice true true false next now = refl
    twice true false true next now = refl
    twice true false false next now = refl
    twice false b c next now = refl

in-joined : (index : EntryIndex) (at : IfaceEntry) (group : Addr) (joined : List JoinEntry) → is_among joined (Star group) ≡ true
    → list_any (is_at at) (listed index (Pruned group)) ≡ true → list_any (λ entry. list_any (is_at at) (pruned_by index entry)) joined ≡ true
in-joined index at group [] h l = absurd (no-true h)
in-joined index at group (own ∷ more) h l = by (is_entry (Star group) own) refl h (λ j. in-joined index at group more j l)
  where
    rest : Bool
    rest = list_any (λ entry. list_any (is_at at) (pruned_by index entry)) more

    by : (b : Bool) → is_entry (Star group) own ≡ b → (b || is_among more (Star group)) ≡ true → (is_among more (Star group) ≡ true → rest ≡ true)
        → (list_any (is_at at) (pruned_by index own) || rest) ≡ true
    by true e j thereafter =
        or_left _ rest (subst (λ (x : JoinEntry). list_any (is_at at) (pruned_by index x) ≡ true)
        (same_entry_equal (Star group) own (sym (entry-same (Star group) own) ∙ e)) l)
    by false e j thereafter = or_right _ rest (thereafter j)

-- Of an index that lists the entries that are there, the lists of the groups joined have all that the message may end.
pub all-ended : (arrival : Arrival) (entries : Expiries) (index : EntryIndex) (at : IfaceEntry) → IsExact entries index
    → ends_of arrival entries index arrival.joins.keys at ≡ ends arrival entries at
all-ended arrival entries index at exact = by (ends arrival entries at) refl
  where
    found : (entry : JoinEntry) → is_ended arrival entry ≡ true → list_any (is_at at) (listed index (key_of entry)) ≡ true
        → list_any (λ own. list_any (is_at at) (pruned_by index own)) arrival.joins.keys ≡ true
    found (Star g) e l = absurd (no-true e)
    found (Source s g) e l = absurd (no-true e)
    found (Rpt s g) e l = in-joined index at g arrival.joins.keys e l

    by : (b : Bool) → ends arrival entries at ≡ b
        → (b && list_any (λ own. list_any (is_at at) (pruned_by index own)) arrival.joins.keys) ≡ b
    by false h = refl
    by true h =
        let both = both_true (may_end arrival at) (is_some (get is_at entries at)) h in
        found at.entry (both_true (at.iface.0 == arrival.iface.0) (is_ended arrival at.entry) both.0).1
        (exact at ∙ both.1)

-- An entry that is neither joined nor pruned stays, unless it is a prune (S,G,rpt) and (*,G) is joined.
unsaid : (arrival : Arrival) (entry : JoinEntry) (now : Option Expiry) → is_among arrival.joins.keys entry ≡ false
    → is_among arrival.prunes.keys entry ≡ false →
    (is_ended arrival entry ≡ true → now ≡ None) → then_of arrival entry now ≡ now
unsaid arrival (Star g) now j p e = rw (p, j) refl
unsaid arrival (Source s g) now j p e = rw (p, j) refl
unsaid arrival (Rpt s g) now j p e = rw (p, j) (by (is_among arrival.joins.keys (Star g)) refl)
  where
    by : (b : Bool) → is_among arrival.joins.keys (Star g) ≡ b → cond {A = Option Expiry} (b && true) None now ≡ now
    by true h = sym (e h)
    by false h = refl

-- ---- the plan

-- what the plan says, where it was made in three steps
abbrev thrice : Arrival → Expiries → IfaceEntry → Option (Option Expiry)
thrice arrival entries at =
    let first = told_at arrival entries (is_named arrival arrival.joins.keys at) None at in
    let second = told_at arrival entries (is_named arrival arrival.prunes.keys at) first at in
    told_at arrival entries (ends arrival entries at) second at

three : (a b c : Bool) (next now : Option Expiry) → (a ≡ false → b ≡ false → c ≡ false → next ≡ now)
    → unwrap_or (cond c (Some next) (cond b (Some next) (cond a (Some next) None))) now ≡ next
three a b true next now h = refl
three a true false next now h = refl
three true false false next now h = refl
three false false false next now h = sym (h refl refl refl)

-- The same, of the entries of the interface alone.
own-three : (x a b c d : Bool) (next now after : Option Expiry) → next ≡ after → (a ≡ false → b ≡ false → (c && d) ≡ false → next ≡ now) →
    unwrap_or (cond ((x && c) && d) (Some next) (cond (x && b) (Some next) (cond (x && a) (Some next) None))) now ≡ cond x after now
own-three true a b c d next now after e h = three a b (c && d) next now h ∙ e
own-three false a b c d next now after e h = refl

-- By the plan each entry has the expiry that the message leaves it.
thrice-then : (arrival : Arrival) (entries : Expiries) (message : JoinPrune) (at : IfaceEntry) → Tells arrival message →
    unwrap_or (thrice arrival entries at) (get is_at entries at)
    ≡ cond (at.iface.0 == arrival.iface.0) (expiry_after at.entry (mention_of message at.entry) arrival.clock message.holdtime
    (get is_at entries at)) (get is_at entries at)
thrice-then arrival entries message at tells =
    own-three (at.iface.0 == arrival.iface.0) (is_among arrival.joins.keys at.entry) (is_among arrival.prunes.keys at.entry)
    (is_ended arrival at.entry) (is_some (get is_at entries at))
    (planned arrival entries at) (get is_at entries at)
    (expiry_after at.entry (mention_of message at.entry) arrival.clock message.holdtime (get is_at entries at))
    (λ i. expiry_after at.entry (record {
      joined = tells.joined at.entry i;
      pruned = tells.pruned at.entry i;
      shared =
          tells.joined (Star (group_of at.entry)) i;
    }) arrival.clock (tells.held i) (get is_at entries at))
    (λ j p e. unsaid arrival at.entry (get is_at entries at) j p
    (λ t. absent (get is_at entries at) (sym (ap (λ (x : Bool). x && is_some (get is_at entries at)) t) ∙ e)))

-- ---- changes as a map

apart-then : (at : IfaceEntry) (changes : List (IfaceEntry × Option Expiry)) (now : Option Expiry)
    → AllByRecursion (λ k. is_at at k ≡ false) (keys_of changes) → then_at changes now at ≡ now
apart-then at [] now h = refl
apart-then at (change ∷ more) now h =
    ap (λ (b : Bool). then_at more (cond b change.1 now) at) (at-symmetric change.0 at ∙ h.0) ∙ apart-then at more now h.1

-- Of changes of entries once each, an entry's own is what becomes of it.
then-lookup : (at : IfaceEntry) (changes : List (IfaceEntry × Option Expiry)) (now : Option Expiry) → IsDistinct is_at (keys_of changes)
    → then_at changes now at ≡ unwrap_or (lookup (is_at at) changes) now
then-lookup at [] now h = refl
then-lookup at (change ∷ more) now h =
    by (is_at at change.0) refl (then-lookup at more now (IsDistinct-tail is_at change.0 (keys_of more) h))
    (IsDistinct-head is_at change.0 (keys_of more) h)
  where
    by : (b : Bool) → is_at at change.0 ≡ b → then_at more now at ≡ unwrap_or (lookup (is_at at) more) now
        → AllByRecursion (λ k. is_at change.0 k ≡ false) (keys_of more) →
        then_at more (cond (is_at change.0 at) change.1 now) at ≡ unwrap_or (cond (is_at at change.0) (Some change.1) (lookup (is_at at) more)) now
    by true t rest apart =
        rw (at-symmetric change.0 at ∙ t, t) (subst (λ (x : IfaceEntry). then_at more change.1 x ≡ change.1) (sym (at-equal at change.0 t))
        (apart-then change.0 more change.1 apart))
    by false t rest apart = rw (at-symmetric change.0 at ∙ t, t) rest

-- The planned changes make of the entries what the message makes of them.
pub plan-applied : (arrival : Arrival) (entries : Expiries) (message : JoinPrune) (changes : List (IfaceEntry × Option Expiry))
    → Tells arrival message → IsDistinct is_at (keys_of changes) →
    ((at : IfaceEntry) → lookup (is_at at) changes ≡ thrice arrival entries at)
    → changed_by (from_entries entries.entries) changes ≡ applied (from_entries entries.entries) arrival.iface message arrival.clock
plan-applied arrival entries message changes tells distinct told = same_map entry_cmp_total entry_cmp_exact _ _ (λ at.
    let m : Entries = from_entries entries.entries in
    let now = get is_at entries at in
    let seen : finite.get m at ≡ now = get-lookup entries.entries at in
    get-changed_by m changes at
    ∙ (ap (λ (o : Option Expiry). then_at changes o at) seen
    ∙ (then-lookup at changes now distinct
    ∙ (ap (λ (o : Option (Option Expiry)). unwrap_or o now) (told at)
    ∙ (thrice-then arrival entries message at tells
    ∙ (ap (λ (o : Option Expiry). cond (at.iface.0 == arrival.iface.0)
    (expiry_after at.entry (mention_of message at.entry) arrival.clock message.holdtime o) o) (sym seen)
    ∙ sym (get-applied m arrival.iface message arrival.clock at)))))))
