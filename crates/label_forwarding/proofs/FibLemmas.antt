-- A forwarding table: what is seen of its maps, and what a change of one slot changes.
use Rattle.std.proofs.Common.{◌≡◌, ℕ, suc, ◌+◌, ◌≤◌, ◌&&◌, ◌||◌, ◌==◌, Bool, true, false, not, cond, List, [], ◌∷◌, length, Option, Some, None, refl, sym, ap, subst, ◌∙◌, arith}
use Rattle.std.specs.List.Sorted.{IsStrictlySortedBy}
use Rattle.std.specs.Map.{lookup}
use Rattle.std.specs.Ordering.{eq_by_cmp, is_eq}
use Rattle.std.specs.List.{list_any}
use Rattle.std.specs.Cmp.{Equal-is, tied_itself}
use Rattle.std.specs.FinMap as maps
use Rattle.std.specs.FinMap.{find}
use Rattle.std.specs.FinSet as sets
use Rattle.std.specs.FinSet.{FinSet}
use Rattle.std.proofs.lemmas.List.Sums.{sum_by-cons}
use Rattle.indexmap.specs.IndexMap.{get, IsUnique}
use Rattle.mv_base.proofs.SortedMaps.{map_sorted}
use Rattle.label_defs.specs.mldp.declared.mldp_fec.fec.Fec.{Fec}
use Rattle.label_defs.specs.Keys.{fec_cmp}
use Rattle.label_defs.specs.declared.branch.Branch.{Branch as TreeBranch}
use Rattle.label_defs.specs.LabelData.{same_fec}
use Rattle.label_defs.specs.Members.{in_order}
use Rattle.label_defs.proofs.KeyLemmas.{fec_cmp_total, fec_cmp_exact, branch_cmp_total, branch_cmp_exact, same_fec_itself}
use Rattle.label_defs.proofs.SetLemmas.{member_passes, passing_member}
use Rattle.std.proofs.lemmas.Bool.{or_left, ne_eqb}
use Rattle.label_forwarding.specs.declared.branch.Branch.{Branch}
use Rattle.label_forwarding.specs.declared.slots.Slot.{Slot}
use Rattle.label_forwarding.specs.Hops.{hop_cmp, is_hop}
use Rattle.label_forwarding.specs.FibData.{FibData, branch_in, with_leaf, is_on, AreHops, IsEntry}
use Rattle.label_forwarding.specs.Slots.{is_fec, kept, Pairs, Slots, fib_of, leaves_in, noted, mapped_of, IsFib}
use Rattle.label_forwarding.proofs.HopLemmas.{hop_cmp_total, hop-ties}
use Rattle.label_forwarding.proofs.SlotLemmas.{fec-ties, fec_flips, hop_of, leaf_of, has_hop, leaf_seen, branch_seen, kept_leaf, kept_hop, kept_count}
use Rattle.label_defs.proofs.mldp.mldp_fec.SameLemmas.{fec_equal, fec_itself}

-- ---- order

none_sorted : IsStrictlySortedBy hop_cmp []
unfolding IsStrictlySortedBy
none_sorted = tt

-- ---- what is read

pub hops_are : (pairs : Pairs) (slots : Slots) → IsFib pairs slots → (fec : Fec) (slot : Slot) → get is_fec slots fec ≡ Some slot
    → (hops : List Branch) → hops ≡ maps.keys slot.entry.branches → AreHops (fib_of pairs slots) fec hops
hops_are pairs slots fib fec slot at hops is =
    subst (λ (xs : List Branch). AreHops (fib_of pairs slots) fec xs) (sym is) (record {
      ordered = map_sorted hop_cmp slot.entry.branches;
      each = λ own. sym (maps.contains_key-keys slot.entry.branches own)
          ∙ (ap (λ (o : Option Slot). has_hop o own) (sym at) ∙ sym (branch_seen slots.entries fib.one_slot (branch_in fec own)));
    })

pub no_hops_are : (pairs : Pairs) (slots : Slots) → IsFib pairs slots → (fec : Fec) → get is_fec slots fec ≡ None → (hops : List Branch) → hops ≡ []
    → AreHops (fib_of pairs slots) fec hops
no_hops_are pairs slots fib fec at hops is =
    subst (λ (xs : List Branch). AreHops (fib_of pairs slots) fec xs) (sym is) (record {
      ordered = none_sorted;
      each = λ own. ap (λ (o : Option Slot). has_hop o own) (sym at) ∙ sym (branch_seen slots.entries fib.one_slot (branch_in fec own));
    })

pub entry_is : (pairs : Pairs) (slots : Slots) → IsFib pairs slots → (fec : Fec) (slot : Slot) → get is_fec slots fec ≡ Some slot
    → IsEntry (fib_of pairs slots) slot.entry
entry_is pairs slots fib fec slot at =
    let own : slot.entry.fec ≡ fec = fib.own fec slot at in
    let here : get is_fec slots slot.entry.fec ≡ Some slot = ap (λ (x : Fec). get is_fec slots x) own ∙ at in
    record {
      leaf = ap leaf_of (sym here) ∙ sym (leaf_seen slots.entries fib.one_slot slot.entry.fec);
      branches = hops_are pairs slots fib slot.entry.fec slot here (maps.keys slot.entry.branches) refl;
    }

pub find-lookup : (es : List (Branch × Fec)) (q : Branch) → find hop_cmp q es ≡ lookup (is_hop q) es
find-lookup [] q = refl
find-lookup (e ∷ es) q = λ i. cond (sym (hop-ties q e.0) i) (Some e.1) (find-lookup es q i)

pub pair_seen : (pairs : Pairs) (slots : Slots) (q : Branch) → maps.get (fib_of pairs slots).pairs q ≡ get is_hop pairs q
pair_seen pairs slots q = maps.get-from_entries hop_cmp_total pairs.entries q ∙ find-lookup pairs.entries q

-- ---- counts

noted-cons : (fec : Fec) (e : Branch × Fec) (es : List (Branch × Fec)) → noted fec (e ∷ es) ≡ cond (is_fec fec e.1) 1 0 + noted fec es
noted-cons fec e es = sum_by-cons (λ note. cond (is_fec fec note.1) 1 0) e es

at_least : (n c r : ℕ) → n ≡ c + r → c ≡ 1 → 1 ≤ n
at_least n c r e one = omega (arith, e, one)

at_least_rest : (n c r : ℕ) → n ≡ c + r → 1 ≤ r → 1 ≤ n
at_least_rest n c r e le = omega (arith, e, le)

pub one_noted : (q : Branch) (fec : Fec) (es : List (Branch × Fec)) → lookup (is_hop q) es ≡ Some fec → 1 ≤ noted fec es
one_noted q fec [] at = absurd cc
one_noted q fec (e ∷ es) at = by (one_noted q fec es) (is_hop q e.0) refl at (noted-cons fec e es)
  where
    by : (lookup (is_hop q) es ≡ Some fec → 1 ≤ noted fec es) → (t : Bool) → is_hop q e.0 ≡ t
        → cond (is_hop q e.0) (Some e.1) (lookup (is_hop q) es) ≡ Some fec → noted fec (e ∷ es) ≡ cond (is_fec fec e.1) 1 0 + noted fec es
        → 1 ≤ noted fec (e ∷ es)
    by thereafter true s at sum =
        let here : Some e.1 ≡ Some fec = sym (ap (λ (b : Bool). cond b (Some e.1) (lookup (is_hop q) es)) s) ∙ at in
        let same : e.1 ≡ fec = cc in
        let one : is_fec fec e.1 ≡ true = subst (λ (x : Fec). is_fec x e.1 ≡ true) same (fec_itself e.1) in
        at_least (noted fec (e ∷ es)) (cond (is_fec fec e.1) 1 0) (noted fec es) sum (ap (λ (b : Bool). cond b 1 0) one)
    by thereafter false s at sum =
        at_least_rest (noted fec (e ∷ es)) (cond (is_fec fec e.1) 1 0) (noted fec es) sum
        (thereafter (sym (ap (λ (b : Bool). cond b (Some e.1) (lookup (is_hop q) es)) s) ∙ at))

-- ---- one slot that changes

-- Every other slot stays, and this one is kept while something needs it.
pub record Changed (old new : Slots) (fec : Fec) (slot : Slot) : Type 0 where
  pub own : slot.entry.fec ≡ fec
  pub each : (other : Fec) → get is_fec new other ≡ cond (is_fec fec other) (kept slot) (get is_fec old other)
  pub unique : IsUnique is_fec new

pub changed_by : (old mid new : Slots) (fec : Fec) (slot : Slot) → slot.entry.fec ≡ fec
    → ((other : Fec) → is_fec fec other ≡ false → get is_fec mid other ≡ get is_fec old other)
    → ((other : Fec) → get is_fec new other ≡ cond (is_fec fec other) (kept slot) (get is_fec mid other)) → IsUnique is_fec new
    → Changed old new fec slot
changed_by old mid new fec slot own others each unique = record {
  own = own;
  each = λ other. each other ∙ by other (is_fec fec other) refl;
  unique = unique;
}
  where
    by : (other : Fec) (t : Bool) → is_fec fec other ≡ t
        → cond (is_fec fec other) (kept slot) (get is_fec mid other) ≡ cond (is_fec fec other) (kept slot) (get is_fec old other)
    by other true e = rw e refl
    by other false e = rw e (others other e)

inside : {A B : Type 0} (f : A → B) (t : Bool) (x y : A) → f (cond t x y) ≡ cond t (f x) (f y)
inside f true x y = refl
inside f false x y = refl

pub leaf_then : (old new : Slots) (fec : Fec) (slot : Slot) → Changed old new fec slot → (q : Fec)
    → leaf_of (get is_fec new q) ≡ cond (is_fec fec q) slot.entry.leaf (leaf_of (get is_fec old q))
leaf_then old new fec slot h q =
    ap leaf_of (h.each q) ∙ (inside leaf_of (is_fec fec q) (kept slot) (get is_fec old q)
    ∙ ap (λ (b : Bool). cond (is_fec fec q) b (leaf_of (get is_fec old q))) (kept_leaf slot))

pub hop_then : (old new : Slots) (fec : Fec) (slot : Slot) → Changed old new fec slot → (q : Fec) (own : Branch)
    → has_hop (get is_fec new q) own ≡ cond (is_fec fec q) (maps.contains_key slot.entry.branches own) (has_hop (get is_fec old q) own)
hop_then old new fec slot h q own =
    let has : Option Slot → Bool = λ o. has_hop o own in
    ap has (h.each q) ∙ (inside has (is_fec fec q) (kept slot) (get is_fec old q)
    ∙ ap (λ (b : Bool). cond (is_fec fec q) b (has_hop (get is_fec old q) own)) (kept_hop slot own))

pub count_then : (old new : Slots) (fec : Fec) (slot : Slot) → Changed old new fec slot → (q : Fec)
    → mapped_of (get is_fec new q) ≡ cond (is_fec fec q) slot.mapped (mapped_of (get is_fec old q))
count_then old new fec slot h q =
    ap mapped_of (h.each q) ∙ (inside mapped_of (is_fec fec q) (kept slot) (get is_fec old q)
    ∙ ap (λ (n : ℕ). cond (is_fec fec q) n (mapped_of (get is_fec old q))) (kept_count slot))

-- where the value at the FEC stays, it stays everywhere
stays : {A : Type 0} (f : Fec → A) (fec q : Fec) → cond (is_fec fec q) (f fec) (f q) ≡ f q
stays f fec q = by (is_fec fec q) refl
  where
    by : (t : Bool) → is_fec fec q ≡ t → cond (is_fec fec q) (f fec) (f q) ≡ f q
    by true e = rw e (ap f (fec_equal fec q e))
    by false e = rw e refl

-- ---- the leaves

leaves_by : (old new : Slots) (fec : Fec) (slot : Slot) → Changed old new fec slot → IsUnique is_fec old → (leaves : FinSet fec_cmp)
    → ((q : Fec) → sets.contains leaves q ≡ cond (is_fec fec q) slot.entry.leaf
    (sets.contains (sets.from_list {R = fec_cmp} (leaves_in old.entries)) q)) → sets.from_list (leaves_in new.entries) ≡ leaves
leaves_by old new fec slot h one leaves is = sets.same_set fec_cmp_total fec_cmp_exact _ _ (λ q.
    leaf_seen new.entries h.unique q ∙ (leaf_then old new fec slot h q
    ∙ (ap (λ (b : Bool). cond (is_fec fec q) slot.entry.leaf b) (sym (leaf_seen old.entries one q)) ∙ sym (is q))))

pub leaves_stay : (old new : Slots) (fec : Fec) (slot : Slot) → Changed old new fec slot → IsUnique is_fec old
    → slot.entry.leaf ≡ leaf_of (get is_fec old fec) → sets.from_list {R = fec_cmp} (leaves_in new.entries) ≡ sets.from_list (leaves_in old.entries)
leaves_stay old new fec slot h one same = leaves_by old new fec slot h one (sets.from_list (leaves_in old.entries)) (λ q.
    sym (ap (λ (b : Bool). cond (is_fec fec q) b (sets.contains (sets.from_list {R = fec_cmp} (leaves_in old.entries)) q))
    (same ∙ sym (leaf_seen old.entries one fec))
    ∙ stays (λ x. sets.contains (sets.from_list {R = fec_cmp} (leaves_in old.entries)) x) fec q))

pub leaves_change : (old new : Slots) (fec : Fec) (slot : Slot) (leaf : Bool) → Changed old new fec slot → IsUnique is_fec old
    → slot.entry.leaf ≡ leaf → sets.from_list (leaves_in new.entries) ≡ with_leaf (sets.from_list (leaves_in old.entries)) fec leaf
leaves_change old new fec slot leaf h one is = leaves_by old new fec slot h one _ (λ q. by q leaf is)
  where
    tie : (q : Fec) → eq_by_cmp fec_cmp q fec ≡ is_fec fec q
    tie q = sym (fec-ties q fec) ∙ fec_flips q fec

    or_cond : (t x : Bool) → (t || x) ≡ cond t true x
    or_cond true x = refl
    or_cond false x = refl

    and_cond : (t x : Bool) → (not t && x) ≡ cond t false x
    and_cond true x = refl
    and_cond false x = refl

    by : (q : Fec) (b : Bool) → slot.entry.leaf ≡ b
        → sets.contains (with_leaf (sets.from_list (leaves_in old.entries)) fec b) q
        ≡ cond (is_fec fec q) slot.entry.leaf (sets.contains (sets.from_list {R = fec_cmp} (leaves_in old.entries)) q)
    by q true e =
        rw e (sets.contains-insert fec_cmp_total _ fec q
        ∙ (ap (λ (t : Bool). t || sets.contains (sets.from_list {R = fec_cmp} (leaves_in old.entries)) q) (tie q) ∙ or_cond (is_fec fec q) _))
    by q false e =
        rw e (sets.contains-remove fec_cmp_total _ fec q
        ∙ (ap (λ (t : Bool). not t && sets.contains (sets.from_list {R = fec_cmp} (leaves_in old.entries)) q) (tie q) ∙ and_cond (is_fec fec q) _))

-- ---- what is looked up

-- A FEC that a note names has a slot.
pub not_missing : (pairs : Pairs) (slots : Slots) → IsFib pairs slots → (at : Branch) (fec : Fec) → get is_hop pairs at ≡ Some fec
    → get is_fec slots fec ≡ None → ⊥
not_missing pairs slots fib at fec note none =
    let one : 1 ≤ noted fec pairs.entries = one_noted at fec pairs.entries note in
    let zero : mapped_of (get is_fec slots fec) ≡ 0 = ap mapped_of none in
    let count = fib.counts fec in
    omega (arith, one, zero, count)

pub found_is : (pairs : Pairs) (slots : Slots) → IsFib pairs slots → (at : Branch) (fec : Fec) (slot : Slot) → get is_hop pairs at ≡ Some fec
    → get is_fec slots fec ≡ Some slot
    → (maps.get (fib_of pairs slots).pairs at ≡ Some slot.entry.fec) × IsEntry (fib_of pairs slots) slot.entry
found_is pairs slots fib at fec slot note here =
    (pair_seen pairs slots at ∙ (note ∙ ap (λ (x : Fec). Some x) (sym (fib.own fec slot here))), entry_is pairs slots fib fec slot here)

-- ---- whether the node is on a tree

hop_back : (b : TreeBranch) (fec : Fec) → same_fec b.fec fec ≡ true → branch_in fec (hop_of b) ≡ b
hop_back b fec e = λ i. record { fec = sym (fec_cmp_exact b.fec fec ((Equal-is (fec_cmp b.fec fec)).0 e)) i; node = b.node; label = b.label }

hops_none : (fib : FibData) (fec : Fec) → AreHops fib fec [] → (t : Bool) → list_any (λ b. same_fec b.fec fec) (in_order fib.branches) ≡ t → t ≡ false
hops_none fib fec h false e = refl
hops_none fib fec h true e =
    let x = passing_member branch_cmp_total branch_cmp_exact (λ b. same_fec b.fec fec) fib.branches e in
    sym (h.each (hop_of x.0) ∙ (ap (λ (b : TreeBranch). sets.contains fib.branches b) (hop_back x.0 fec x.2) ∙ x.1))

pub hops_any : (fib : FibData) (fec : Fec) (hops : List Branch) → AreHops fib fec hops
    → list_any (λ b. same_fec b.fec fec) (in_order fib.branches) ≡ not (length hops == 0)
hops_any fib fec [] h = hops_none fib fec h _ refl
hops_any fib fec (own ∷ more) h = member_passes branch_cmp_total branch_cmp_exact (λ b. same_fec b.fec fec) fib.branches (branch_in fec own)
    (sym (h.each own) ∙ or_left (eq_by_cmp hop_cmp own own) (list_any (eq_by_cmp hop_cmp own) more) (ap is_eq (tied_itself hop_cmp_total own)))
    (same_fec_itself fec)
    ∙ sym (ap not (ne_eqb (suc (length more)) 0 (λ e. omega (arith, e))))

pub on_slot : (pairs : Pairs) (slots : Slots) → IsFib pairs slots → (fec : Fec) (slot : Slot) → get is_fec slots fec ≡ Some slot
    → (slot.entry.leaf || not (length (maps.keys slot.entry.branches) == 0)) ≡ is_on (fib_of pairs slots) fec
on_slot pairs slots fib fec slot at =
    let leaf : sets.contains (fib_of pairs slots).leaves fec ≡ slot.entry.leaf = leaf_seen slots.entries fib.one_slot fec ∙ ap leaf_of at in
    let any =
    hops_any (fib_of pairs slots) fec (maps.keys slot.entry.branches) (hops_are pairs slots fib fec slot at (maps.keys slot.entry.branches) refl)
    in
    sym ((λ i. any i || leaf i) ∙ or_flips (not (length (maps.keys slot.entry.branches) == 0)) slot.entry.leaf)
  where
    or_flips : (a b : Bool) → (a || b) ≡ (b || a)
    or_flips true true = refl
    or_flips true false = refl
    or_flips false true = refl
    or_flips false false = refl

pub off_slot : (pairs : Pairs) (slots : Slots) → IsFib pairs slots → (fec : Fec) → get is_fec slots fec ≡ None
    → false ≡ is_on (fib_of pairs slots) fec
off_slot pairs slots fib fec at =
    let leaf : sets.contains (fib_of pairs slots).leaves fec ≡ false = leaf_seen slots.entries fib.one_slot fec ∙ ap leaf_of at in
    let any = hops_any (fib_of pairs slots) fec [] (no_hops_are pairs slots fib fec at [] refl) in
    sym (λ i. any i || leaf i)
