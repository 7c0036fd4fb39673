-- A forwarding table after each of its calls.
use Rattle.std.proofs.Common.{◌≡◌, ℕ, ◌+◌, ◌&&◌, ◌||◌, Bool, true, false, not, cond, List, Option, Some, None, is_some, refl, sym, ap, subst, ◌∙◌, arith}
use Rattle.std.specs.Map.{lookup, keys_of}
use Rattle.std.specs.List.{IsDistinct}
use Rattle.std.specs.Ordering.{eq_by_cmp}
use Rattle.std.specs.Cmp.{eq_by_cmp_equiv}
use Rattle.std.specs.FinMap as maps
use Rattle.std.specs.FinSet as sets
use Rattle.std.specs.FinSet.{FinSet}
use Rattle.indexmap.specs.IndexMap.{get, IsUnique}
use Rattle.label_defs.specs.mldp.declared.mldp_fec.fec.Fec.{Fec}
use Rattle.label_defs.specs.declared.branch.Branch.{Branch as TreeBranch}
use Rattle.label_defs.specs.Keys.{branch_cmp}
use Rattle.label_defs.proofs.KeyLemmas.{branch_cmp_total, branch_cmp_exact}
use Rattle.label_forwarding.specs.declared.branch.Branch.{Branch}
use Rattle.label_forwarding.specs.declared.slots.Slot.{Slot}
use Rattle.label_forwarding.specs.Hops.{hop_cmp, Hops, is_hop}
use Rattle.label_forwarding.specs.FibData.{branch_in}
use Rattle.label_forwarding.specs.Slots.{is_fec, is_idle, kept, Pairs, Slots, fib_of, leaves_in, branches_in, noted, mapped_of, IsFib}
use Rattle.label_forwarding.proofs.HopLemmas.{hop_cmp_total, hop_cmp_exact, hop-ties}
use Rattle.label_forwarding.proofs.SlotLemmas.{fec_flips, has_hop, hop_of, branch_seen, branch-ties}
use Rattle.label_defs.proofs.mldp.mldp_fec.SameLemmas.{fec_equal}
use Rattle.label_forwarding.proofs.FibLemmas.{Changed, hop_then, count_then, find-lookup}

-- ---- the branches

branches_by : (old new : Slots) (fec : Fec) (slot : Slot) → Changed old new fec slot → IsUnique is_fec old → (branches : FinSet branch_cmp)
    → ((b : TreeBranch) → sets.contains branches b
    ≡ cond (is_fec fec b.fec) (maps.contains_key slot.entry.branches (hop_of b))
    (sets.contains (sets.from_list {R = branch_cmp} (branches_in old.entries)) b))
    → sets.from_list (branches_in new.entries) ≡ branches
branches_by old new fec slot h one branches is = sets.same_set branch_cmp_total branch_cmp_exact _ _ (λ b.
    branch_seen new.entries h.unique b ∙ (hop_then old new fec slot h b.fec (hop_of b)
    ∙ (ap (λ (t : Bool). cond (is_fec fec b.fec) (maps.contains_key slot.entry.branches (hop_of b)) t) (sym (branch_seen old.entries one b))
    ∙ sym (is b))))

-- what the slot had, FEC by FEC
had : (old : Slots) (fec : Fec) → IsUnique is_fec old → (hops : Hops)
    → ((own : Branch) → maps.contains_key hops own ≡ has_hop (get is_fec old fec) own)
    → (b : TreeBranch) → is_fec fec b.fec ≡ true
    → maps.contains_key hops (hop_of b) ≡ sets.contains (sets.from_list {R = branch_cmp} (branches_in old.entries)) b
had old fec one hops was b e =
    was (hop_of b) ∙ (ap (λ (x : Fec). has_hop (get is_fec old x) (hop_of b)) (fec_equal fec b.fec e) ∙ sym (branch_seen old.entries one b))

pub branches_stay : (old new : Slots) (fec : Fec) (slot : Slot) → Changed old new fec slot → IsUnique is_fec old
    → ((own : Branch) → maps.contains_key slot.entry.branches own ≡ has_hop (get is_fec old fec) own)
    → sets.from_list {R = branch_cmp} (branches_in new.entries) ≡ sets.from_list (branches_in old.entries)
branches_stay old new fec slot h one was =
    branches_by old new fec slot h one (sets.from_list (branches_in old.entries)) (λ b. by b (is_fec fec b.fec) refl)
  where
    by : (b : TreeBranch) (t : Bool) → is_fec fec b.fec ≡ t → sets.contains (sets.from_list {R = branch_cmp} (branches_in old.entries)) b
        ≡ cond (is_fec fec b.fec) (maps.contains_key slot.entry.branches (hop_of b))
        (sets.contains (sets.from_list {R = branch_cmp} (branches_in old.entries)) b)
    by b true e =
        sym (ap (λ (t : Bool). cond t (maps.contains_key slot.entry.branches (hop_of b))
        (sets.contains (sets.from_list {R = branch_cmp} (branches_in old.entries)) b)) e ∙ had old fec one slot.entry.branches was b e)
    by b false e =
        sym (ap (λ (t : Bool). cond t (maps.contains_key slot.entry.branches (hop_of b))
        (sets.contains (sets.from_list {R = branch_cmp} (branches_in old.entries)) b)) e)

some_or : (t : Bool) (o : Option (Unit {0})) → is_some (cond t (Some tt) o) ≡ (t || is_some o)
some_or true o = refl
some_or false o = refl

none_and : (t : Bool) (o : Option (Unit {0})) → is_some (cond t None o) ≡ (not t && is_some o)
none_and true o = refl
none_and false o = refl

with_one : (hops : Hops) (own q : Branch) → maps.contains_key (maps.insert hops own tt) q ≡ (eq_by_cmp hop_cmp q own || maps.contains_key hops q)
with_one hops own q = ap is_some (maps.get-insert hop_cmp_total hops own tt q) ∙ some_or (eq_by_cmp hop_cmp q own) (maps.get hops q)

without_one : (hops : Hops) (own q : Branch) → maps.contains_key (maps.remove hops own) q
    ≡ (not (eq_by_cmp hop_cmp q own) && maps.contains_key hops q)
without_one hops own q = ap is_some (maps.get-remove hop_cmp_total hops own q) ∙ none_and (eq_by_cmp hop_cmp q own) (maps.get hops q)

tie : (b : TreeBranch) (fec : Fec) (own : Branch) (t : Bool) → is_fec fec b.fec ≡ t
    → eq_by_cmp branch_cmp b (branch_in fec own) ≡ (t && eq_by_cmp hop_cmp (hop_of b) own)
tie b fec own t e = branch-ties b fec own ∙ ap (λ (x : Bool). x && eq_by_cmp hop_cmp (hop_of b) own) (fec_flips b.fec fec ∙ e)

pub branches_add : (old new : Slots) (fec : Fec) (slot : Slot) (hops : Hops) (own : Branch) → Changed old new fec slot → IsUnique is_fec old
    → slot.entry.branches ≡ maps.insert hops own tt
    → ((q : Branch) → maps.contains_key hops q ≡ has_hop (get is_fec old fec) q)
    → sets.from_list {R = branch_cmp} (branches_in new.entries)
    ≡ sets.insert (sets.from_list {R = branch_cmp} (branches_in old.entries)) (branch_in fec own)
branches_add old new fec slot hops own h one is was = branches_by old new fec slot h one _ (λ b. by b (is_fec fec b.fec) refl)
  where
    by : (b : TreeBranch) (t : Bool) → is_fec fec b.fec ≡ t
        → sets.contains (sets.insert (sets.from_list {R = branch_cmp} (branches_in old.entries)) (branch_in fec own)) b
        ≡ cond (is_fec fec b.fec) (maps.contains_key slot.entry.branches (hop_of b))
        (sets.contains (sets.from_list {R = branch_cmp} (branches_in old.entries)) b)
    by b true e =
        sets.contains-insert branch_cmp_total _ (branch_in fec own) b
        ∙ (ap (λ (x : Bool). x || sets.contains (sets.from_list {R = branch_cmp} (branches_in old.entries)) b) (tie b fec own true e)
        ∙ (ap (λ (x : Bool). eq_by_cmp hop_cmp (hop_of b) own || x) (sym (had old fec one hops was b e))
        ∙ (sym (with_one hops own (hop_of b)) ∙ (ap (λ (m : Hops). maps.contains_key m (hop_of b)) (sym is)
        ∙ sym (ap (λ (t : Bool). cond t (maps.contains_key slot.entry.branches (hop_of b))
        (sets.contains (sets.from_list {R = branch_cmp} (branches_in old.entries)) b)) e)))))
    by b false e =
        sets.contains-insert branch_cmp_total _ (branch_in fec own) b
        ∙ (ap (λ (x : Bool). x || sets.contains (sets.from_list {R = branch_cmp} (branches_in old.entries)) b) (tie b fec own false e)
        ∙ sym (ap (λ (t : Bool). cond t (maps.contains_key slot.entry.branches (hop_of b))
        (sets.contains (sets.from_list {R = branch_cmp} (branches_in old.entries)) b)) e))

pub branches_cut : (old new : Slots) (fec : Fec) (slot : Slot) (hops : Hops) (own : Branch) → Changed old new fec slot → IsUnique is_fec old
    → slot.entry.branches ≡ maps.remove hops own
    → ((q : Branch) → maps.contains_key hops q ≡ has_hop (get is_fec old fec) q)
    → sets.from_list {R = branch_cmp} (branches_in new.entries)
    ≡ sets.remove (sets.from_list {R = branch_cmp} (branches_in old.entries)) (branch_in fec own)
branches_cut old new fec slot hops own h one is was = branches_by old new fec slot h one _ (λ b. by b (is_fec fec b.fec) refl)
  where
    by : (b : TreeBranch) (t : Bool) → is_fec fec b.fec ≡ t
        → sets.contains (sets.remove (sets.from_list {R = branch_cmp} (branches_in old.entries)) (branch_in fec own)) b
        ≡ cond (is_fec fec b.fec) (maps.contains_key slot.entry.branches (hop_of b))
        (sets.contains (sets.from_list {R = branch_cmp} (branches_in old.entries)) b)
    by b true e =
        sets.contains-remove branch_cmp_total _ (branch_in fec own) b
        ∙ (ap (λ (x : Bool). not x && sets.contains (sets.from_list {R = branch_cmp} (branches_in old.entries)) b) (tie b fec own true e)
        ∙ (ap (λ (x : Bool). not (eq_by_cmp hop_cmp (hop_of b) own) && x) (sym (had old fec one hops was b e))
        ∙ (sym (without_one hops own (hop_of b)) ∙ (ap (λ (m : Hops). maps.contains_key m (hop_of b)) (sym is)
        ∙ sym (ap (λ (t : Bool). cond t (maps.contains_key slot.entry.branches (hop_of b))
        (sets.contains (sets.from_list {R = branch_cmp} (branches_in old.entries)) b)) e)))))
    by b false e =
        sets.contains-remove branch_cmp_total _ (branch_in fec own) b
        ∙ (ap (λ (x : Bool). not x && sets.contains (sets.from_list {R = branch_cmp} (branches_in old.entries)) b) (tie b fec own false e)
        ∙ sym (ap (λ (t : Bool). cond t (maps.contains_key slot.entry.branches (hop_of b))
        (sets.contains (sets.from_list {R = branch_cmp} (branches_in old.entries)) b)) e))

-- ---- the labels

hop_flips : (a b : Branch) → is_hop a b ≡ eq_by_cmp hop_cmp b a
hop_flips a b = hop-ties a b ∙ (eq_by_cmp_equiv hop_cmp_total).symm a b

seen : (pairs : Pairs) (q : Branch) → maps.get (maps.from_entries {R = hop_cmp} pairs.entries) q ≡ get is_hop pairs q
seen pairs q = maps.get-from_entries hop_cmp_total pairs.entries q ∙ find-lookup pairs.entries q

pub pairs_put : (old new : Pairs) (at : Branch) (fec : Fec) → ((q : Branch) → get is_hop new q ≡ cond (is_hop at q) (Some fec) (get is_hop old q))
    → maps.from_entries {R = hop_cmp} new.entries ≡ maps.insert (maps.from_entries old.entries) at fec
pairs_put old new at fec each = maps.same_map hop_cmp_total hop_cmp_exact _ _ (λ q.
    seen new q ∙ (each q ∙ (ap (λ (t : Bool). cond t (Some fec) (get is_hop old q)) (hop_flips at q)
    ∙ (ap (λ (o : Option Fec). cond (eq_by_cmp hop_cmp q at) (Some fec) o) (sym (seen old q))
    ∙ sym (maps.get-insert hop_cmp_total (maps.from_entries old.entries) at fec q)))))

pub pairs_cut : (old new : Pairs) (at : Branch) → ((q : Branch) → get is_hop new q ≡ cond (is_hop at q) None (get is_hop old q))
    → maps.from_entries {R = hop_cmp} new.entries ≡ maps.remove (maps.from_entries old.entries) at
pairs_cut old new at each = maps.same_map hop_cmp_total hop_cmp_exact _ _ (λ q.
    seen new q ∙ (each q ∙ (ap (λ (t : Bool). cond t None (get is_hop old q)) (hop_flips at q)
    ∙ (ap (λ (o : Option Fec). cond (eq_by_cmp hop_cmp q at) None o) (sym (seen old q))
    ∙ sym (maps.get-remove hop_cmp_total (maps.from_entries old.entries) at q)))))

-- ---- what is kept

kept_some : (slot other : Slot) (t : Bool) → is_idle slot ≡ t → kept slot ≡ Some other → (slot ≡ other) × (is_idle other ≡ false)
kept_some slot other true e k = (let clash : None ≡ Some other = sym (ap (λ (b : Bool). cond b None (Some slot)) e) ∙ k in absurd cc)
kept_some slot other false e k =
    let here : Some slot ≡ Some other = sym (ap (λ (b : Bool). cond b None (Some slot)) e) ∙ k in
    let same : slot ≡ other = cc in
    (same, subst (λ (x : Slot). is_idle x ≡ false) same e)

-- The table is kept where the notes and the slot that changes count alike.
pub fib_kept : (p q : Pairs) (old new : Slots) (fec : Fec) (slot : Slot) → IsFib p old → Changed old new fec slot → IsUnique is_hop q
    → ((own : Fec) → noted own q.entries ≡ cond (is_fec fec own) slot.mapped (mapped_of (get is_fec old own))) → IsFib q new
fib_kept p q old new fec slot fib h unique counts = record {
  noted_once = unique;
  one_slot = h.unique;
  counts = λ own. counts own ∙ sym (count_then old new fec slot h own);
  own = λ own other at. (by own other (is_fec fec own) refl (sym (h.each own) ∙ at)).0;
  needed = λ own other at. (by own other (is_fec fec own) refl (sym (h.each own) ∙ at)).1;
}
  where
    by : (own : Fec) (other : Slot) (t : Bool) → is_fec fec own ≡ t → cond (is_fec fec own) (kept slot) (get is_fec old own) ≡ Some other
        → (other.entry.fec ≡ own) × (is_idle other ≡ false)
    by own other true e at =
        let k = kept_some slot other (is_idle slot) refl (sym (ap (λ (b : Bool). cond b (kept slot) (get is_fec old own)) e) ∙ at) in
        (ap (λ (x : Slot). x.entry.fec) (sym k.0) ∙ (h.own ∙ fec_equal fec own e), k.1)
    by own other false e at =
        let was : get is_fec old own ≡ Some other = sym (ap (λ (b : Bool). cond b (kept slot) (get is_fec old own)) e) ∙ at in
        (fib.own own other was, fib.needed own other was)

-- where the counts stay
pub same_counts : (p q : Pairs) (old : Slots) (fec : Fec) (slot : Slot) → IsFib p old → slot.mapped ≡ mapped_of (get is_fec old fec)
    → q.entries ≡ p.entries
    → (own : Fec) → noted own q.entries ≡ cond (is_fec fec own) slot.mapped (mapped_of (get is_fec old own))
same_counts p q old fec slot fib same es own = ap (noted own) es ∙ (fib.counts own ∙ by (is_fec fec own) refl)
  where
    by : (t : Bool) → is_fec fec own ≡ t → mapped_of (get is_fec old own) ≡ cond (is_fec fec own) slot.mapped (mapped_of (get is_fec old own))
    by true e =
        sym (ap (λ (b : Bool). cond b slot.mapped (mapped_of (get is_fec old own))) e
        ∙ (same ∙ ap (λ (x : Fec). mapped_of (get is_fec old x)) (fec_equal fec own e)))
    by false e = sym (ap (λ (b : Bool). cond b slot.mapped (mapped_of (get is_fec old own))) e)

-- where one more note names the FEC, or one less
pub more_counts : (p q : Pairs) (old : Slots) (fec : Fec) (slot : Slot) → IsFib p old → slot.mapped ≡ mapped_of (get is_fec old fec) + 1
    → ((own : Fec) → noted own q.entries ≡ noted own p.entries + cond (is_fec own fec) 1 0)
    → (own : Fec) → noted own q.entries ≡ cond (is_fec fec own) slot.mapped (mapped_of (get is_fec old own))
more_counts p q old fec slot fib more counts own = by (is_fec fec own) refl
  where
    by : (t : Bool) → is_fec fec own ≡ t → noted own q.entries ≡ cond (is_fec fec own) slot.mapped (mapped_of (get is_fec old own))
    by true e =
        let one = counts own in
        let here : cond {A = ℕ} (is_fec own fec) 1 0 ≡ 1 = ap (λ (b : Bool). cond b 1 0) (fec_flips own fec ∙ e) in
        let was = fib.counts own in
        let same : mapped_of (get is_fec old fec) ≡ mapped_of (get is_fec old own) =
        ap (λ (x : Fec). mapped_of (get is_fec old x)) (fec_equal fec own e) in
        rw e (omega (arith, one, here, was, same, more))
    by false e =
        let one = counts own in
        let here : cond {A = ℕ} (is_fec own fec) 1 0 ≡ 0 = ap (λ (b : Bool). cond b 1 0) (fec_flips own fec ∙ e) in
        let was = fib.counts own in
        rw e (omega (arith, one, here, was))

pub less_counts : (p q : Pairs) (old : Slots) (fec : Fec) (slot : Slot) → IsFib p old → slot.mapped + 1 ≡ mapped_of (get is_fec old fec)
    → ((own : Fec) → noted own q.entries + cond (is_fec own fec) 1 0 ≡ noted own p.entries)
    → (own : Fec) → noted own q.entries ≡ cond (is_fec fec own) slot.mapped (mapped_of (get is_fec old own))
less_counts p q old fec slot fib less counts own = by (is_fec fec own) refl
  where
    by : (t : Bool) → is_fec fec own ≡ t → noted own q.entries ≡ cond (is_fec fec own) slot.mapped (mapped_of (get is_fec old own))
    by true e =
        let one = counts own in
        let here : cond {A = ℕ} (is_fec own fec) 1 0 ≡ 1 = ap (λ (b : Bool). cond b 1 0) (fec_flips own fec ∙ e) in
        let was = fib.counts own in
        let same : mapped_of (get is_fec old fec) ≡ mapped_of (get is_fec old own) =
        ap (λ (x : Fec). mapped_of (get is_fec old x)) (fec_equal fec own e) in
        rw e (omega (arith, one, here, was, same, less))
    by false e =
        let one = counts own in
        let here : cond {A = ℕ} (is_fec own fec) 1 0 ≡ 0 = ap (λ (b : Bool). cond b 1 0) (fec_flips own fec ∙ e) in
        let was = fib.counts own in
        rw e (omega (arith, one, here, was))

-- room that was made changes nothing
pub roomier : (p q : Pairs) (old new : Slots) → q.entries ≡ p.entries → new.entries ≡ old.entries → IsFib p old → IsFib q new
roomier p q old new pe se fib = record {
  noted_once = subst (λ (es : List (Branch × Fec)). IsDistinct is_hop (keys_of es)) (sym pe) fib.noted_once;
  one_slot = subst (λ (es : List (Fec × Slot)). IsDistinct is_fec (keys_of es)) (sym se) fib.one_slot;
  counts = λ own. ap (noted own) pe ∙ (fib.counts own ∙ ap (λ (es : List (Fec × Slot)). mapped_of (lookup (is_fec own) es)) (sym se));
  own = λ own slot at. fib.own own slot (ap (λ (es : List (Fec × Slot)). lookup (is_fec own) es) (sym se) ∙ at);
  needed = λ own slot at. fib.needed own slot (ap (λ (es : List (Fec × Slot)). lookup (is_fec own) es) (sym se) ∙ at);
}

pub roomier_view : (p q : Pairs) (old new : Slots) → q.entries ≡ p.entries → new.entries ≡ old.entries → fib_of q new ≡ fib_of p old
roomier_view p q old new pe se i =
    record { pairs = maps.from_entries (pe i); leaves = sets.from_list (leaves_in (se i)); branches = sets.from_list (branches_in (se i)) }
