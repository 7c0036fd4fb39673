-- What each call of a forwarding table leaves.
use Rattle.std.proofs.Common.{◌≡◌, ℕ, suc, ◌+◌, ◌-◌, ◌<◌, ◌^◌, ◌==◌, ◌&&◌, Bool, true, false, not, cond, List, [], ◌∷◌, map, length, Option, Some, None, is_some, Result, Ok, Err, refl, sym, ap, ◌∙◌, arith}
use Rattle.std.specs.Prelude.{OnOk, OnErr, IfNone}
use Rattle.std.specs.Cmp.{Equal-is, tied_itself}
use Rattle.std.specs.List.{list_any}
use Rattle.std.specs.Ordering.{eq_by_cmp, is_eq}
use Rattle.std.proofs.lemmas.Bool.{ne_eqb}
use Rattle.std.specs.Map.{lookup}
use Rattle.std.specs.Option.{unwrap_or}
use Rattle.std.specs.FinMap as maps
use Rattle.std.specs.FinSet as sets
use Rattle.indexmap.specs.IndexMap.{get, IsUnique}
use Rattle.label_defs.specs.mldp.declared.mldp_fec.fec.Fec.{Fec}
use Rattle.label_forwarding.specs.declared.branch.Branch.{Branch}
use Rattle.label_forwarding.specs.declared.slots.Slot.{Slot}
use Rattle.label_forwarding.specs.Hops.{hop_cmp, Hops, is_hop}
use Rattle.label_forwarding.specs.FibData.{FibData, branch_in, with_leaf}
use Rattle.label_forwarding.specs.Slots.{is_fec, fresh, had, counted, with_hop, is_idle, kept, Pairs, Slots, fib_of, noted, mapped_of, IsFib}
use Rattle.label_defs.proofs.KeyLemmas.{branch_cmp_total, branch_cmp_exact}
use Rattle.label_defs.proofs.SetLemmas.{removed_again}
use Rattle.label_forwarding.proofs.HopLemmas.{hop_cmp_total, hop_cmp_exact, hop-ties}
use Rattle.label_forwarding.proofs.SlotLemmas.{leaf_of, has_hop, branch_seen, had_leaf, had_hop, had_count}
use Rattle.label_defs.proofs.mldp.mldp_fec.SameLemmas.{fec_equal, fec_itself}
use Rattle.label_forwarding.proofs.FibLemmas.{Changed, changed_by, leaves_stay, leaves_change}
use Rattle.label_forwarding.proofs.StepLemmas.{branches_stay, branches_add, branches_cut, pairs_put, pairs_cut, fib_kept, same_counts, more_counts, less_counts, roomier}

-- the slot of a FEC that was taken, and the one that was put back
pub record Swapped (old mid new : Slots) (fec : Fec) (taken slot : Slot) : Type 0 where
  pub value : taken ≡ unwrap_or (get is_fec old fec) (fresh fec)
  pub others : (other : Fec) → is_fec fec other ≡ false → get is_fec mid other ≡ get is_fec old other
  pub own : slot.entry.fec ≡ taken.entry.fec
  pub each : (other : Fec) → get is_fec new other ≡ cond (is_fec fec other) (kept slot) (get is_fec mid other)
  pub unique : IsUnique is_fec new

own_fec : (p : Pairs) (old : Slots) → IsFib p old → (fec : Fec) (o : Option Slot) → get is_fec old fec ≡ o → (unwrap_or o (fresh fec)).entry.fec ≡ fec
own_fec p old fib fec None at = refl
own_fec p old fib fec (Some slot) at = fib.own fec slot at

pub taken_fec : (p : Pairs) (old : Slots) → IsFib p old → (fec : Fec) (taken : Slot) → taken ≡ unwrap_or (get is_fec old fec) (fresh fec)
    → taken.entry.fec ≡ fec
taken_fec p old fib fec taken e = ap (λ (x : Slot). x.entry.fec) e ∙ own_fec p old fib fec (get is_fec old fec) refl

pub changed : (p : Pairs) (old mid new : Slots) (fec : Fec) (taken slot : Slot) → IsFib p old → Swapped old mid new fec taken slot
    → Changed old new fec slot
changed p old mid new fec taken slot fib s = changed_by old mid new fec slot (s.own ∙ taken_fec p old fib fec taken s.value) s.others s.each s.unique

leaf_was : (old : Slots) (fec : Fec) (taken : Slot) → taken ≡ unwrap_or (get is_fec old fec) (fresh fec)
    → taken.entry.leaf ≡ leaf_of (get is_fec old fec)
leaf_was old fec taken e = ap (λ (x : Slot). x.entry.leaf) e ∙ had_leaf (get is_fec old fec) fec

hop_was : (old : Slots) (fec : Fec) (taken : Slot) → taken ≡ unwrap_or (get is_fec old fec) (fresh fec) → (q : Branch)
    → maps.contains_key taken.entry.branches q ≡ has_hop (get is_fec old fec) q
hop_was old fec taken e q = ap (λ (x : Slot). maps.contains_key x.entry.branches q) e ∙ had_hop (get is_fec old fec) fec q

pub count_was : (old : Slots) (fec : Fec) (taken : Slot) → taken ≡ unwrap_or (get is_fec old fec) (fresh fec)
    → taken.mapped ≡ mapped_of (get is_fec old fec)
count_was old fec taken e = ap (λ (x : Slot). x.mapped) e ∙ had_count (get is_fec old fec) fec

-- ---- a slot that is changed in its place

kept_busy : (slot : Slot) → is_idle slot ≡ false → Some slot ≡ kept slot
kept_busy slot e = sym (ap (λ (b : Bool). cond b None (Some slot)) e)

pub swapped : (old new : Slots) (fec : Fec) (slot : Slot) → slot.entry.fec ≡ (had old fec).entry.fec → is_idle slot ≡ false
    → ((other : Fec) → get is_fec new other ≡ cond (is_fec fec other) (Some slot) (get is_fec old other)) → IsUnique is_fec new
    → Swapped old old new fec (had old fec) slot
swapped old new fec slot own busy each unique = record {
  value = refl;
  others = λ other e. refl;
  own = own;
  each = λ other. each other ∙ ap (λ (o : Option Slot). cond (is_fec fec other) o (get is_fec old other)) (kept_busy slot busy);
  unique = unique;
}

pub counted_busy : (slot : Slot) → is_idle (counted slot) ≡ false
counted_busy slot =
    ap (λ (b : Bool). b && not slot.entry.leaf && (length (maps.keys slot.entry.branches) == 0))
    (ne_eqb (slot.mapped + 1) 0 (λ e. omega (arith, e)))

last_none : (a b c : Bool) → c ≡ false → (a && b && c) ≡ false
last_none true true c e = e
last_none true false c e = refl
last_none false b c e = refl

some_there : (own : Branch) (hops : List Branch) → list_any (eq_by_cmp hop_cmp own) hops ≡ true → (length hops == 0) ≡ false
some_there own [] e = absurd cc
some_there own (hop ∷ hops) e = ne_eqb (suc (length hops)) 0 (λ h. omega (arith, h))

hop_there : (hops : Hops) (own : Branch) → maps.contains_key (maps.insert hops own tt) own ≡ true
hop_there hops own =
    ap is_some (maps.get-insert hop_cmp_total hops own tt own
    ∙ ap (λ (b : Bool). cond b (Some tt) (maps.get hops own)) (ap is_eq (tied_itself hop_cmp_total own)))

pub hop_busy : (slot : Slot) (own : Branch) → is_idle (with_hop slot own) ≡ false
hop_busy slot own =
    let hops = maps.insert slot.entry.branches own tt in
    last_none (slot.mapped == 0) (not slot.entry.leaf) (length (maps.keys hops) == 0)
    (some_there own (maps.keys hops) (sym (maps.contains_key-keys hops own) ∙ hop_there slot.entry.branches own))

-- the fresh slot, and one that is there
length_keys : (es : List (Branch × Unit {0})) → length (map (λ e. e.0) es) ≡ length es
length_keys [] = refl
length_keys (e ∷ es) = ap suc (length_keys es)

fresh_idle : (fec : Fec) → is_idle (fresh fec) ≡ true
fresh_idle fec =
    let none : Hops = maps.empty in
    let short : length (maps.keys none) ≡ 0 = length_keys (maps.entries none) ∙ (sym (maps.len-entries none) ∙ maps.len-empty hop_cmp (Unit {0})) in
    ap (λ (n : ℕ). (0 == 0) && not false && (n == 0)) short

kept_had : (p : Pairs) (old : Slots) → IsFib p old → (fec : Fec) (o : Option Slot) → get is_fec old fec ≡ o → kept (unwrap_or o (fresh fec)) ≡ o
kept_had p old fib fec None at = ap (λ (b : Bool). cond b None (Some (fresh fec))) (fresh_idle fec)
kept_had p old fib fec (Some slot) at = sym (kept_busy slot (fib.needed fec slot at))

-- ---- a note more, and a note less

pub map_leaves : (p q : Pairs) (old mid new : Slots) (at : Branch) (fec : Fec) (taken slot : Slot) → IsFib p old → Swapped old mid new fec taken slot
    → ((other : Branch) → get is_hop q other ≡ cond (is_hop at other) (Some fec) (get is_hop p other)) → IsUnique is_hop q
    → ((own : Fec) → noted own q.entries ≡ noted own p.entries + cond (is_fec own fec) 1 0)
    → slot.entry ≡ taken.entry → slot.mapped ≡ taken.mapped + 1
    → IsFib q new × (fib_of q new ≡ record (fib_of p old) { pairs = maps.insert (fib_of p old).pairs at fec })
map_leaves p q old mid new at fec taken slot fib s each unique counts entry more =
    let h = changed p old mid new fec taken slot fib s in
    let leaves = leaves_stay old new fec slot h fib.one_slot (ap (λ x. x.leaf) entry ∙ leaf_was old fec taken s.value) in
    let branches =
    branches_stay old new fec slot h fib.one_slot (λ own. ap (λ x. maps.contains_key x.branches own) entry ∙ hop_was old fec taken s.value own) in (
      fib_kept p q old new fec slot fib h unique (more_counts p q old fec slot fib (more ∙ ap (λ n. n + 1) (count_was old fec taken s.value)) counts),
      λ i. record { pairs = pairs_put p q at fec each i; leaves = leaves i; branches = branches i },
    )

pub unmap_leaves : (p q : Pairs) (old mid new : Slots) (at : Branch) (fec : Fec) (taken slot : Slot) → IsFib p old
    → Swapped old mid new fec taken slot
    → ((other : Branch) → get is_hop q other ≡ cond (is_hop at other) None (get is_hop p other)) → IsUnique is_hop q
    → ((own : Fec) → noted own q.entries + cond (is_fec own fec) 1 0 ≡ noted own p.entries)
    → slot.entry ≡ taken.entry → slot.mapped + 1 ≡ taken.mapped
    → IsFib q new × (fib_of q new ≡ record (fib_of p old) { pairs = maps.remove (fib_of p old).pairs at })
unmap_leaves p q old mid new at fec taken slot fib s each unique counts entry less =
    let h = changed p old mid new fec taken slot fib s in
    let leaves = leaves_stay old new fec slot h fib.one_slot (ap (λ x. x.leaf) entry ∙ leaf_was old fec taken s.value) in
    let branches =
    branches_stay old new fec slot h fib.one_slot (λ own. ap (λ x. maps.contains_key x.branches own) entry ∙ hop_was old fec taken s.value own) in (
      fib_kept p q old new fec slot fib h unique (less_counts p q old fec slot fib (less ∙ count_was old fec taken s.value) counts),
      λ i. record { pairs = pairs_cut p q at each i; leaves = leaves i; branches = branches i },
    )

-- ---- a leaf

pub leaf_leaves : (p : Pairs) (old mid new : Slots) (fec : Fec) (leaf : Bool) (taken slot : Slot) → IsFib p old → Swapped old mid new fec taken slot
    → slot.entry.leaf ≡ leaf → slot.entry.branches ≡ taken.entry.branches → slot.mapped ≡ taken.mapped
    → IsFib p new × (fib_of p new ≡ record (fib_of p old) { leaves = with_leaf (fib_of p old).leaves fec leaf })
leaf_leaves p old mid new fec leaf taken slot fib s is same count =
    let h = changed p old mid new fec taken slot fib s in
    let leaves = leaves_change old new fec slot leaf h fib.one_slot is in
    let branches =
    branches_stay old new fec slot h fib.one_slot (λ own. ap (λ (m : Hops). maps.contains_key m own) same ∙ hop_was old fec taken s.value own) in (
      fib_kept p p old new fec slot fib h fib.noted_once (same_counts p p old fec slot fib (count ∙ count_was old fec taken s.value) refl),
      λ i. record { pairs = (fib_of p old).pairs; leaves = leaves i; branches = branches i },
    )

-- ---- a branch

pub branches_keep : (p : Pairs) (old mid new : Slots) (fec : Fec) (taken slot : Slot) → IsFib p old → Swapped old mid new fec taken slot
    → slot.mapped ≡ taken.mapped → IsFib p new
branches_keep p old mid new fec taken slot fib s count =
    fib_kept p p old new fec slot fib (changed p old mid new fec taken slot fib s) fib.noted_once
    (same_counts p p old fec slot fib (count ∙ count_was old fec taken s.value) refl)

branch_leaves : (p : Pairs) (old mid new : Slots) (fec : Fec) (own : Branch) (taken slot : Slot) → IsFib p old → Swapped old mid new fec taken slot
    → slot.entry.leaf ≡ taken.entry.leaf
    → slot.entry.branches ≡ maps.insert taken.entry.branches own tt
    → fib_of p new ≡ record (fib_of p old) { branches = sets.insert (fib_of p old).branches (branch_in fec own) }
branch_leaves p old mid new fec own taken slot fib s same is =
    let h = changed p old mid new fec taken slot fib s in
    let leaves = leaves_stay old new fec slot h fib.one_slot (same ∙ leaf_was old fec taken s.value) in
    let branches = branches_add old new fec slot taken.entry.branches own h fib.one_slot is (hop_was old fec taken s.value) in
    λ i. record { pairs = (fib_of p old).pairs; leaves = leaves i; branches = branches i }

nothing_leaves : (p : Pairs) (old mid new : Slots) (fec : Fec) (taken slot : Slot) → IsFib p old → Swapped old mid new fec taken slot
    → slot.entry.leaf ≡ taken.entry.leaf
    → slot.entry.branches ≡ taken.entry.branches → fib_of p new ≡ fib_of p old
nothing_leaves p old mid new fec taken slot fib s same is =
    let h = changed p old mid new fec taken slot fib s in
    let leaves = leaves_stay old new fec slot h fib.one_slot (same ∙ leaf_was old fec taken s.value) in
    let branches =
    branches_stay old new fec slot h fib.one_slot (λ q. ap (λ (m : Hops). maps.contains_key m q) is ∙ hop_was old fec taken s.value q) in
    λ i. record { pairs = (fib_of p old).pairs; leaves = leaves i; branches = branches i }

hop_put : (old new : Slots) (fec : Fec) (own : Branch)
    → ((other : Fec) → get is_fec new other ≡ cond (is_fec fec other) (Some (with_hop (had old fec) own)) (get is_fec old other))
    → IsUnique is_fec new → Swapped old old new fec (had old fec) (with_hop (had old fec) own)
hop_put old new fec own each unique =
    swapped old new fec (with_hop (had old fec) own) refl (hop_busy (had old fec) own) each unique

-- each slot stays
not_put : (p : Pairs) (old new : Slots) (fec : Fec) → IsFib p old → ((other : Fec) → get is_fec new other ≡ get is_fec old other)
    → IsUnique is_fec new → Swapped old old new fec (had old fec) (had old fec)
not_put p old new fec fib stays unique = record {
  value = refl;
  others = λ other e. refl;
  own = refl;
  each = λ other. stays other ∙ by other (is_fec fec other) refl;
  unique = unique;
}
  where
    by : (other : Fec) (t : Bool) → is_fec fec other ≡ t → get is_fec old other ≡ cond (is_fec fec other) (kept (had old fec)) (get is_fec old other)
    by other true e =
        sym (ap (λ (t : Bool). cond t (kept (had old fec)) (get is_fec old other)) e
        ∙ (kept_had p old fib fec (get is_fec old fec) refl ∙ ap (λ (x : Fec). get is_fec old x) (fec_equal fec other e)))
    by other false e = sym (ap (λ (t : Bool). cond t (kept (had old fec)) (get is_fec old other)) e)

pub add_keeps : {E : Type 0} (r : Result (Unit {0}) E) (p : Pairs) (old new : Slots) (fec : Fec) (own : Branch) → IsFib p old
    → OnOk r ((other : Fec) → get is_fec new other ≡ cond (is_fec fec other) (Some (with_hop (had old fec) own)) (get is_fec old other))
    → OnErr r ((other : Fec) → get is_fec new other ≡ get is_fec old other) → IsUnique is_fec new → IsFib p new
add_keeps (Ok u) p old new fec own fib ok err unique =
    branches_keep p old old new fec (had old fec) (with_hop (had old fec) own) fib (hop_put old new fec own ok unique) refl
add_keeps (Err e) p old new fec own fib ok err unique =
    branches_keep p old old new fec (had old fec) (had old fec) fib (not_put p old new fec fib err unique) refl

pub add_ok : {E : Type 0} (r : Result (Unit {0}) E) (p : Pairs) (old new : Slots) (fec : Fec) (own : Branch) (f : FibData)
    → fib_of p old ≡ f → IsFib p old
    → OnOk r ((other : Fec) → get is_fec new other ≡ cond (is_fec fec other) (Some (with_hop (had old fec) own)) (get is_fec old other))
    → IsUnique is_fec new → OnOk r (fib_of p new ≡ record f { branches = sets.insert f.branches (branch_in fec own) })
add_ok (Ok u) p old new fec own f view fib ok unique =
    branch_leaves p old old new fec own (had old fec) (with_hop (had old fec) own) fib (hop_put old new fec own ok unique) refl refl
    ∙ ap (λ (g : FibData). record g { branches = sets.insert g.branches (branch_in fec own) }) view
add_ok (Err e) p old new fec own f view fib ok unique = tt

pub add_err : {E : Type 0} (r : Result (Unit {0}) E) (p : Pairs) (old new : Slots) (fec : Fec) (f : FibData) → fib_of p old ≡ f → IsFib p old
    → OnErr r ((other : Fec) → get is_fec new other ≡ get is_fec old other) → IsUnique is_fec new → OnErr r (fib_of p new ≡ f)
add_err (Ok u) p old new fec f view fib err unique = tt
add_err (Err e) p old new fec f view fib err unique =
    nothing_leaves p old old new fec (had old fec) (had old fec) fib (not_put p old new fec fib err unique) refl refl ∙ view

pub unbranch_leaves : (p : Pairs) (old mid new : Slots) (fec : Fec) (own : Branch) (taken slot : Slot) → IsFib p old
    → Swapped old mid new fec taken slot → slot.entry.leaf ≡ taken.entry.leaf
    → slot.entry.branches ≡ maps.remove taken.entry.branches own
    → fib_of p new ≡ record (fib_of p old) { branches = sets.remove (fib_of p old).branches (branch_in fec own) }
unbranch_leaves p old mid new fec own taken slot fib s same is =
    let h = changed p old mid new fec taken slot fib s in
    let leaves = leaves_stay old new fec slot h fib.one_slot (same ∙ leaf_was old fec taken s.value) in
    let branches = branches_cut old new fec slot taken.entry.branches own h fib.one_slot is (hop_was old fec taken s.value) in
    λ i. record { pairs = (fib_of p old).pairs; leaves = leaves i; branches = branches i }

-- A tree without a slot has no branch.
pub no_branch : (p : Pairs) (old : Slots) (fec : Fec) (own : Branch) → IsFib p old → is_some (get is_fec old fec) ≡ false
    → fib_of p old ≡ record (fib_of p old) { branches = sets.remove (fib_of p old).branches (branch_in fec own) }
no_branch p old fec own fib none =
    let absent : sets.contains (fib_of p old).branches (branch_in fec own) ≡ false =
    branch_seen old.entries fib.one_slot (branch_in fec own) ∙ by (get is_fec old fec) none in
    let stays = sym (removed_again branch_cmp_total branch_cmp_exact (fib_of p old).branches (branch_in fec own) absent) in
    λ i. record { pairs = (fib_of p old).pairs; leaves = (fib_of p old).leaves; branches = stays i }
  where
    by : (o : Option Slot) → is_some o ≡ false → has_hop o own ≡ false
    by None e = refl
    by (Some slot) e = absurd cc

-- A label that is not noted.
pub no_label : (p q : Pairs) (old : Slots) (at : Branch) → IsFib p old → get is_hop p at ≡ None → q.entries ≡ p.entries
    → IsFib q old × (fib_of q old ≡ record (fib_of p old) { pairs = maps.remove (fib_of p old).pairs at })
no_label p q old at fib none es = (
  roomier p q old old es refl fib,
  λ i. record { pairs = pairs_cut p q at each i; leaves = (fib_of p old).leaves; branches = (fib_of p old).branches },
)
  where
    each : (other : Branch) → get is_hop q other ≡ cond (is_hop at other) None (get is_hop p other)
    each other = ap (λ (xs : List (Branch × Fec)). lookup (is_hop other) xs) es ∙ by (is_hop at other) refl
      where
        by : (t : Bool) → is_hop at other ≡ t → get is_hop p other ≡ cond (is_hop at other) None (get is_hop p other)
        by true e =
            ap (λ (x : Branch). get is_hop p x) (sym (hop_cmp_exact at other ((Equal-is (hop_cmp at other)).0 (sym (hop-ties at other) ∙ e))))
            ∙ (none ∙ sym (ap (λ (t : Bool). cond t None (get is_hop p other)) e))
        by false e = sym (ap (λ (t : Bool). cond t None (get is_hop p other)) e)

-- One note more fits.
pub one_fits : (p q : Pairs) (old : Slots) (fec : Fec) (taken : Slot) → IsFib p old → taken ≡ unwrap_or (get is_fec old fec) (fresh fec)
    → ((own : Fec) → noted own q.entries ≡ noted own p.entries + cond (is_fec own fec) 1 0)
    → ((own : Fec) → noted own q.entries < 2 ^ 64) → taken.mapped + 1 < 2 ^ 64
one_fits p q old fec taken fib value counts few =
    let here : cond {A = ℕ} (is_fec fec fec) 1 0 ≡ 1 = ap (λ (b : Bool). cond b 1 0) (fec_itself fec) in
    omega (arith, count_was old fec taken value, fib.counts fec, counts fec, few fec, here)

pub if_none : {A P : Type 0} (o : Option A) → P → IfNone o P
if_none None p = p
if_none (Some x) p = tt

-- One note less was counted.
pub one_less : (p q : Pairs) (old : Slots) (fec : Fec) (taken : Slot) → IsFib p old → taken ≡ unwrap_or (get is_fec old fec) (fresh fec)
    → ((own : Fec) → noted own q.entries + cond (is_fec own fec) 1 0 ≡ noted own p.entries)
    → taken.mapped - 1 + 1 ≡ taken.mapped
one_less p q old fec taken fib value counts =
    let here : cond {A = ℕ} (is_fec fec fec) 1 0 ≡ 1 = ap (λ (b : Bool). cond b 1 0) (fec_itself fec) in
    omega (arith, count_was old fec taken value, fib.counts fec, counts fec, here)
