-- What stands in the entries after a message, and after a run of the timers.
use Rattle.std.proofs.Common.{◌≡◌, ℕ, ◌==◌, ◌&&◌, ◌||◌, Bool, true, false, cond, List, [], ◌∷◌, ◌++◌, map, Option, None, Some, inl, inr, refl, sym, ap, subst, ◌∙◌, arith}
use Rattle.std.specs.Prelude.{is_some}
use Rattle.std.specs.List.{list_any, flat_map}
use Rattle.std.specs.Ordering.{eq_by_cmp}
use Rattle.std.specs.FinMap.{get, keys, find, contains_key-keys, get-from_entries, get-retain_keys}
use Rattle.std.proofs.lemmas.Bool.{or_left, or_right, or_cases, or_parts, false_from_ne_true, false≢true}
use Rattle.std.proofs.lemmas.Bool.Decides.{nat_tests}
use Rattle.std.proofs.lemmas.List.{map-append}
use Rattle.std.proofs.lemmas.List.Folds.{list_any-append}
use Rattle.scenario_defs.specs.mv_base.declared.ids.IfaceId.{IfaceId}
use Rattle.scenario_defs.specs.mv_base.declared.addr.Addr.{Addr}
use Rattle.scenario_defs.specs.declared.event.JoinEntry.{JoinEntry}
use Rattle.scenario_defs.specs.declared.event.JoinEntry.TheVariants.{Star, Source, Rpt}
use Rattle.pim_joinprune.specs.declared.source.JpSource.{JpSource}
use Rattle.pim_joinprune.specs.declared.group.Group.{Group}
use Rattle.pim_joinprune.specs.declared.message.JoinPrune.{JoinPrune}
use Rattle.scenario_defs.specs.declared.event.IfaceEntry.{IfaceEntry}
use Rattle.pim_defs.specs.declared.expiry.Expiry.{Expiry}
use Rattle.pim_defs.specs.declared.mention.Mention.{Mention}
use Rattle.pim_defs.specs.Expiry.{counts, remaining}
use Rattle.pim_defs.specs.Mention.{same_entry, entry_of, lists, joins, prunes, mention_of, expiry_after}
use Rattle.pim_defs.specs.Entries.{entry_cmp, Entries, expiry_then, named_in, with_expiries, applied, kept_at}
use Rattle.pim_defs.proofs.KeyLemmas.{entry_cmp_total, entry_cmp_exact, ties-same, same_at_equal, same_at_itself, same_entry_equal}

abbrev is_among : List IfaceEntry → IfaceEntry → Bool
is_among list at = list_any (eq_by_cmp entry_cmp at) list

-- ---- entries with their expiries

add_first : (expiry : IfaceEntry → Option Expiry) (first : IfaceEntry) (more : List IfaceEntry) (at : IfaceEntry) (here : Option Expiry)
    → expiry first ≡ here →
    find entry_cmp at (with_expiries expiry more) ≡ cond (is_among more at) (expiry at) None →
    find entry_cmp at (elim here [ None ↦ with_expiries expiry more | Some found ↦ (first, found) ∷ with_expiries expiry more ])
    ≡ cond (eq_by_cmp entry_cmp at first || is_among more at) (expiry at) None
add_first expiry first more at here e later = tied (eq_by_cmp entry_cmp at first) refl
  where
    tied : (b : Bool) → eq_by_cmp entry_cmp at first ≡ b
        → find entry_cmp at (elim here [ None ↦ with_expiries expiry more | Some found ↦ (first, found) ∷ with_expiries expiry more ])
        ≡ cond (eq_by_cmp entry_cmp at first || is_among more at) (expiry at) None
    tied true t =
        let one : at ≡ first = same_at_equal at first (sym (ties-same at first) ∙ t) in
        let own : expiry at ≡ here = ap expiry one ∙ e in
        by_here here own
      where
        by_here : (o : Option Expiry) → expiry at ≡ o
            → find entry_cmp at (elim o [ None ↦ with_expiries expiry more | Some found ↦ (first, found) ∷ with_expiries expiry more ])
            ≡ cond (eq_by_cmp entry_cmp at first || is_among more at) (expiry at) None
        by_here None own = later ∙ none (is_among more at) ∙ sym (rw (t, own) refl)
          where
            none : (b : Bool) → cond b (expiry at) None ≡ None
            none true = own
            none false = refl
        by_here (Some found) own = rw (t, own) refl
    tied false t = by_here here
      where
        by_here : (o : Option Expiry) → find entry_cmp at
            (elim o [ None ↦ with_expiries expiry more | Some found ↦ (first, found) ∷ with_expiries expiry more ])
            ≡ cond (eq_by_cmp entry_cmp at first || is_among more at) (expiry at) None
        by_here None = rw t later
        by_here (Some found) = rw t later

find-with : (expiry : IfaceEntry → Option Expiry) (list : List IfaceEntry) (at : IfaceEntry)
    → find entry_cmp at (with_expiries expiry list) ≡ cond (is_among list at) (expiry at) None
find-with expiry [] at = refl
find-with expiry (first ∷ more) at = add_first expiry first more at (expiry first) refl (find-with expiry more at)

-- ---- the entries that a message names

-- An entry of the interface ties with one that a source names exactly where it is that one.
tie-named : (iface : IfaceId) (group : Addr) (source : JpSource) (entry : JoinEntry) →
    same_entry (entry_of group source) entry ≡ true
    → eq_by_cmp entry_cmp (record { iface = iface; entry = entry }) (record { iface = iface; entry = entry_of group source }) ≡ true
tie-named iface group source entry h =
    let one = same_entry_equal (entry_of group source) entry h in
    let at : IfaceEntry = record { iface = iface; entry = entry } in
    subst (λ (x : JoinEntry). eq_by_cmp entry_cmp at (record { iface = iface; entry = x }) ≡ true) (sym one) (ties-same at at ∙ same_at_itself at)

by_either : (a b : Bool) (P : Type 0) → (a ≡ true → P) → (b ≡ true → P) → (a || b) ≡ true → P
by_either a b P f g h = elim (or_cases a b h) [ inl e ↦ f e | inr e ↦ g e ]

abbrev named_of : IfaceId → Addr → List JpSource → List IfaceEntry
named_of iface group sources = map (λ source. record { iface = iface; entry = entry_of group source }) sources

listed-named : (iface : IfaceId) (group : Addr) (sources : List JpSource) (entry : JoinEntry) → lists group sources entry ≡ true →
    is_among (named_of iface group sources) (record { iface = iface; entry = entry }) ≡ true
listed-named iface group [] entry h = absurd cc
listed-named iface group (source ∷ more) entry h =
    by_either (same_entry (entry_of group source) entry) (lists group more entry)
    (is_among (named_of iface group (source ∷ more)) (record { iface = iface; entry = entry }) ≡ true)
    (λ e. or_left _ _ (tie-named iface group source entry e))
    (λ e. or_right _ _ (listed-named iface group more entry e))
    h

abbrev named_by : IfaceId → List Group → List IfaceEntry
named_by iface groups = flat_map (λ group. named_of iface group.group (group.joins ++ group.prunes)) groups

group-named : (iface : IfaceId) (group : Group) (entry : JoinEntry)
    → (lists group.group group.joins entry || lists group.group group.prunes entry) ≡ true →
    is_among (named_of iface group.group (group.joins ++ group.prunes)) (record { iface = iface; entry = entry }) ≡ true
group-named iface group entry h =
    let at : IfaceEntry = record { iface = iface; entry = entry } in
    let split = map-append (λ (source : JpSource). record { iface = iface; entry = entry_of group.group source }) group.joins group.prunes in
    ap (λ (l : List IfaceEntry). is_among l at) split
    ∙ list_any-append (eq_by_cmp entry_cmp at) (named_of iface group.group group.joins) (named_of iface group.group group.prunes)
    ∙ by_either (lists group.group group.joins entry) (lists group.group group.prunes entry)
    ((is_among (named_of iface group.group group.joins) at || is_among (named_of iface group.group group.prunes) at) ≡ true)
    (λ e. or_left _ _ (listed-named iface group.group group.joins entry e))
    (λ e. or_right _ _ (listed-named iface group.group group.prunes entry e))
    h

joined-named : (iface : IfaceId) (groups : List Group) (entry : JoinEntry) → list_any (λ group. lists group.group group.joins entry) groups ≡ true →
    is_among (named_by iface groups) (record { iface = iface; entry = entry }) ≡ true
joined-named iface [] entry h = absurd cc
joined-named iface (group ∷ more) entry h =
    let at : IfaceEntry = record { iface = iface; entry = entry } in
    list_any-append (eq_by_cmp entry_cmp at) (named_of iface group.group (group.joins ++ group.prunes)) (named_by iface more)
    ∙ by_either (lists group.group group.joins entry) (list_any (λ other. lists other.group other.joins entry) more)
    ((is_among (named_of iface group.group (group.joins ++ group.prunes)) at || is_among (named_by iface more) at) ≡ true)
    (λ e. or_left _ _ (group-named iface group entry (or_left _ _ e)))
    (λ e. or_right _ _ (joined-named iface more entry e))
    h

pruned-named : (iface : IfaceId) (groups : List Group) (entry : JoinEntry) → list_any (λ group. lists group.group group.prunes entry) groups ≡ true →
    is_among (named_by iface groups) (record { iface = iface; entry = entry }) ≡ true
pruned-named iface [] entry h = absurd cc
pruned-named iface (group ∷ more) entry h =
    let at : IfaceEntry = record { iface = iface; entry = entry } in
    list_any-append (eq_by_cmp entry_cmp at) (named_of iface group.group (group.joins ++ group.prunes)) (named_by iface more)
    ∙ by_either (lists group.group group.prunes entry) (list_any (λ other. lists other.group other.prunes entry) more)
    ((is_among (named_of iface group.group (group.joins ++ group.prunes)) at || is_among (named_by iface more) at) ≡ true)
    (λ e. or_left _ _ (group-named iface group entry (or_right _ _ e)))
    (λ e. or_right _ _ (pruned-named iface more entry e))
    h

-- ---- what the message does not name

-- An entry that is not there and that the message neither joins nor prunes is not there after it.
pub unnamed : (entry : JoinEntry) (mention : Mention) (clock holdtime : ℕ) → mention.joined ≡ false → mention.pruned ≡ false
    → expiry_after entry mention clock holdtime None ≡ None
unnamed (Star group) mention clock holdtime j p = rw (p, j) refl
unnamed (Source source group) mention clock holdtime j p = rw (p, j) refl
unnamed (Rpt source group) mention clock holdtime j p = rw (p, j) (nothing (mention.shared && true))
  where
    nothing : (b : Bool) → cond {A = Option Expiry} b None None ≡ None
    nothing true = refl
    nothing false = refl

-- What the message does not name it neither joins nor prunes.
unjoined : (iface : IfaceId) (message : JoinPrune) (entry : JoinEntry)
    → is_among (named_in iface message) (record { iface = iface; entry = entry }) ≡ false → joins message entry ≡ false
unjoined iface message entry h = false_from_ne_true (joins message entry) (λ j. false≢true (sym h ∙ joined-named iface message.groups entry j))

unpruned : (iface : IfaceId) (message : JoinPrune) (entry : JoinEntry)
    → is_among (named_in iface message) (record { iface = iface; entry = entry }) ≡ false → prunes message entry ≡ false
unpruned iface message entry h = false_from_ne_true (prunes message entry) (λ j. false≢true (sym h ∙ pruned-named iface message.groups entry j))

is_absent : (o : Option Expiry) → is_some o ≡ false → o ≡ None
is_absent None h = refl
is_absent (Some x) h = absurd cc

-- An entry that was not there and is not named is not there after the message.
then_none : (entries : Entries) (iface : IfaceId) (message : JoinPrune) (clock : ℕ) (at : IfaceEntry) →
    is_among (keys entries) at ≡ false → is_among (named_in iface message) at ≡ false → expiry_then entries iface message clock at ≡ None
then_none entries iface message clock at a n = own (at.iface.0 == iface.0) refl
  where
    absent : get entries at ≡ None
    absent = is_absent (get entries at) (contains_key-keys entries at ∙ a)

    own : (b : Bool) → (at.iface.0 == iface.0) ≡ b
        → cond b (expiry_after at.entry (mention_of message at.entry) clock message.holdtime (get entries at)) (get entries at) ≡ None
    own true e =
        let number : at.iface.0 ≡ iface.0 = grind (arith, nat_tests) in
        let same : is_among (named_in iface message) (record { iface = iface; entry = at.entry }) ≡ false =
        subst (λ (k : ℕ). is_among (named_in iface message) (record { iface = record { 0 = k }; entry = at.entry }) ≡ false) number n in
        ap (expiry_after at.entry (mention_of message at.entry) clock message.holdtime) absent
        ∙ unnamed at.entry (mention_of message at.entry) clock message.holdtime (unjoined iface message at.entry same)
        (unpruned iface message at.entry same)
    own false e = absent

-- After a message each entry has the expiry that the message leaves it.
pub get-applied : (entries : Entries) (iface : IfaceId) (message : JoinPrune) (clock : ℕ) (at : IfaceEntry)
    → get (applied entries iface message clock) at ≡ expiry_then entries iface message clock at
get-applied entries iface message clock at =
    get-from_entries entry_cmp_total (with_expiries (expiry_then entries iface message clock) (keys entries ++ named_in iface message)) at
    ∙ find-with (expiry_then entries iface message clock) (keys entries ++ named_in iface message) at
    ∙ found (is_among (keys entries ++ named_in iface message) at) refl
  where
    found : (b : Bool) → is_among (keys entries ++ named_in iface message) at ≡ b
        → cond b (expiry_then entries iface message clock at) None ≡ expiry_then entries iface message clock at
    found true e = refl
    found false e =
        let none = or_parts _ _ (sym (list_any-append (eq_by_cmp entry_cmp at) (keys entries) (named_in iface message)) ∙ e) in
        sym (then_none entries iface message clock at none.0 none.1)

-- After a run of the timers the entries that ended are gone.
pub get-kept : (entries : Entries) (clock : ℕ) (at : IfaceEntry) → get (kept_at entries clock) at ≡ remaining clock (get entries at)
get-kept entries clock at =
    get-retain_keys entries (λ key. counts clock (get entries key)) at
    (λ x tie. ap (λ (k : IfaceEntry). counts clock (get entries k)) (sym (entry_cmp_exact at x tie)))
