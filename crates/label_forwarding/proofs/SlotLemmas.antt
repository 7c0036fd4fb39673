-- The slots of a forwarding table: what is seen of them, FEC by FEC.
use Rattle.std.proofs.Common.{◌≡◌, ℕ, ◌==◌, ◌&&◌, ◌||◌, Bool, true, false, not, cond, List, [], ◌∷◌, map, length, Option, Some, None, is_some, refl, sym, ap, subst, ◌∙◌, arith, inl, inr}
use Rattle.std.specs.List.{list_any, AllByRecursion, IsDistinct}
use Rattle.std.specs.Map.{lookup, keys_of}
use Rattle.std.specs.Option.{unwrap_or}
use Rattle.std.specs.Ordering.{eq_by_cmp, is_eq}
use Rattle.std.specs.Cmp.{tied_itself, both_ways, Equal-is}
use Rattle.std.specs.FinMap as maps
use Rattle.std.specs.FinSet as sets
use Rattle.std.proofs.lemmas.Map.Keys.{IsDistinct-head, IsDistinct-tail}
use Rattle.std.proofs.lemmas.List.Folds.{list_any-append}
use Rattle.std.proofs.lemmas.Bool.Decides.{eqb_tells}
use Rattle.label_defs.specs.mldp.declared.mldp_fec.fec.Fec.{Fec}
use Rattle.label_defs.proofs.mldp.mldp_fec.SameLemmas.{fec_equal, fec_itself}
use Rattle.label_defs.specs.declared.branch.Branch.{Branch as TreeBranch}
use Rattle.label_defs.specs.Keys.{fec_cmp, branch_cmp}
use Rattle.label_defs.proofs.KeyLemmas.{fec_cmp_total, fec_cmp_exact, branch_cmp_total, branch_cmp_exact}
use Rattle.label_forwarding.specs.declared.branch.Branch.{Branch}
use Rattle.label_forwarding.specs.declared.slots.Slot.{Slot}
use Rattle.label_forwarding.specs.Hops.{hop_cmp, Hops}
use Rattle.label_forwarding.specs.FibData.{branch_in}
use Rattle.label_forwarding.specs.Slots.{is_fec, fresh, is_idle, kept, leaves_in, branches_in, mapped_of}
use Rattle.label_forwarding.proofs.HopLemmas.{hop_cmp_total, hop_cmp_exact}

-- ---- one FEC

and_first : (a b : Bool) → (a && b) ≡ true → a ≡ true
and_first true b h = refl
and_first false b h = absurd cc

and_second : (a b : Bool) → (a && b) ≡ true → b ≡ true
and_second true b h = h
and_second false b h = absurd cc

pub fec-ties : (a b : Fec) → is_fec a b ≡ eq_by_cmp fec_cmp a b
fec-ties a b = both_ways (is_fec a b) (eq_by_cmp fec_cmp a b)
    (λ h. subst (λ (x : Fec). eq_by_cmp fec_cmp a x ≡ true) (fec_equal a b h) (ap is_eq (tied_itself fec_cmp_total a)))
    (λ h. subst (λ (x : Fec). is_fec a x ≡ true) (fec_cmp_exact a b ((Equal-is (fec_cmp a b)).0 h)) (fec_itself a))

pub fec_flips : (a b : Fec) → is_fec a b ≡ is_fec b a
fec_flips a b = both_ways (is_fec a b) (is_fec b a)
    (λ h. subst (λ (x : Fec). is_fec x a ≡ true) (fec_equal a b h) (fec_itself a))
    (λ h. subst (λ (x : Fec). is_fec x b ≡ true) (fec_equal b a h) (fec_itself b))

-- ---- what a slot says

abbrev pub leaf_of : Option Slot → Bool
leaf_of None = false
leaf_of (Some slot) = slot.entry.leaf

abbrev pub has_hop : Option Slot → Branch → Bool
has_hop None own = false
has_hop (Some slot) own = maps.contains_key slot.entry.branches own

-- the neighbour and label of a branch
abbrev pub hop_of : TreeBranch → Branch
hop_of branch = record { node = branch.node; label = branch.label }

-- A FEC that differs from all is not found.
apart : (q : Fec) (es : List (Fec × Slot)) → AllByRecursion (λ fec. is_fec q fec ≡ false) (keys_of es) → lookup (is_fec q) es ≡ None
apart q [] h = refl
apart q (e ∷ es) h = rw h.0 (apart q es h.1)

thereafter : (q : Fec) (e : Fec × Slot) (es : List (Fec × Slot)) → IsDistinct is_fec (keys_of (e ∷ es)) → is_fec q e.0 ≡ true
    → lookup (is_fec q) es ≡ None
thereafter q e es h t =
    subst (λ (x : Fec). lookup (is_fec x) es ≡ None) (sym (fec_equal q e.0 t)) (apart e.0 es (IsDistinct-head is_fec e.0 (keys_of es) h))

leaf_any : (es : List (Fec × Slot)) → IsDistinct is_fec (keys_of es) → (q : Fec)
    → list_any (eq_by_cmp fec_cmp q) (leaves_in es) ≡ leaf_of (lookup (is_fec q) es)
leaf_any [] h q = refl
leaf_any (e ∷ es) h q = by (leaf_any es (IsDistinct-tail is_fec e.0 (keys_of es) h) q) (is_fec q e.0) e.1.entry.leaf refl refl
  where
    by : list_any (eq_by_cmp fec_cmp q) (leaves_in es) ≡ leaf_of (lookup (is_fec q) es) → (t b : Bool) → is_fec q e.0 ≡ t → e.1.entry.leaf ≡ b
        → list_any (eq_by_cmp fec_cmp q) (cond e.1.entry.leaf (e.0 ∷ leaves_in es) (leaves_in es))
        ≡ leaf_of (cond (is_fec q e.0) (Some e.1) (lookup (is_fec q) es))
    by rest true true s l = rw (s, l) (ap (λ (c : Bool). c || list_any (eq_by_cmp fec_cmp q) (leaves_in es)) (sym (fec-ties q e.0) ∙ s))
    by rest true false s l = rw (s, l) (rest ∙ ap leaf_of (thereafter q e es h s))
    by rest false true s l = rw (s, l) (ap (λ (c : Bool). c || list_any (eq_by_cmp fec_cmp q) (leaves_in es)) (sym (fec-ties q e.0) ∙ s) ∙ rest)
    by rest false false s l = rw (s, l) rest

pub leaf_seen : (es : List (Fec × Slot)) → IsDistinct is_fec (keys_of es) → (q : Fec)
    → sets.contains (sets.from_list {R = fec_cmp} (leaves_in es)) q ≡ leaf_of (lookup (is_fec q) es)
leaf_seen es h q = sets.contains-from_list fec_cmp_total (leaves_in es) q ∙ leaf_any es h q

-- Branches are one where their FECs and their neighbours and labels are.
pub branch-ties : (b : TreeBranch) (fec : Fec) (own : Branch)
    → eq_by_cmp branch_cmp b (branch_in fec own) ≡ (is_fec b.fec fec && eq_by_cmp hop_cmp (hop_of b) own)
branch-ties b fec own = both_ways (eq_by_cmp branch_cmp b (branch_in fec own)) (is_fec b.fec fec && eq_by_cmp hop_cmp (hop_of b) own)
    (λ h. let same : b ≡ branch_in fec own = branch_cmp_exact b (branch_in fec own) ((Equal-is (branch_cmp b (branch_in fec own))).0 h) in
    subst (λ (x : TreeBranch). (is_fec b.fec x.fec && eq_by_cmp hop_cmp (hop_of b) (hop_of x)) ≡ true) same
    (rw (fec_itself b.fec) (ap is_eq (tied_itself hop_cmp_total (hop_of b)))))
    (λ h. let tree : b.fec ≡ fec = fec_equal b.fec fec (and_first _ _ h) in
    let hop : hop_of b ≡ own = hop_cmp_exact (hop_of b) own ((Equal-is (hop_cmp (hop_of b) own)).0 (and_second _ _ h)) in
    subst (λ (x : Branch). eq_by_cmp branch_cmp b (branch_in fec x) ≡ true) hop
    (subst (λ (x : Fec). eq_by_cmp branch_cmp b (branch_in x (hop_of b)) ≡ true) tree (ap is_eq (tied_itself branch_cmp_total b))))

own_any : (b : TreeBranch) (fec : Fec) (hops : List Branch)
    → list_any (eq_by_cmp branch_cmp b) (map (branch_in fec) hops) ≡ (is_fec b.fec fec && list_any (eq_by_cmp hop_cmp (hop_of b)) hops)
own_any b fec [] = none (is_fec b.fec fec)
  where
    none : (t : Bool) → false ≡ (t && false)
    none true = refl
    none false = refl
own_any b fec (own ∷ hops) =
    (λ i. branch-ties b fec own i || own_any b fec hops i)
    ∙ shared (is_fec b.fec fec) (eq_by_cmp hop_cmp (hop_of b) own) (list_any (eq_by_cmp hop_cmp (hop_of b)) hops)
  where
    shared : (t x y : Bool) → ((t && x) || (t && y)) ≡ (t && (x || y))
    shared true x y = refl
    shared false x y = refl

branch_any : (es : List (Fec × Slot)) → IsDistinct is_fec (keys_of es) → (b : TreeBranch)
    → list_any (eq_by_cmp branch_cmp b) (branches_in es) ≡ has_hop (lookup (is_fec b.fec) es) (hop_of b)
branch_any [] h b = refl
branch_any (e ∷ es) h b =
    list_any-append (eq_by_cmp branch_cmp b) (map (branch_in e.0) (maps.keys e.1.entry.branches)) (branches_in es)
    ∙ (ap (λ (c : Bool). c || list_any (eq_by_cmp branch_cmp b) (branches_in es)) (own_any b e.0 (maps.keys e.1.entry.branches))
    ∙ by (branch_any es (IsDistinct-tail is_fec e.0 (keys_of es) h) b) (is_fec b.fec e.0) refl)
  where
    or_nothing : (c : Bool) → (c || false) ≡ c
    or_nothing true = refl
    or_nothing false = refl

    by : list_any (eq_by_cmp branch_cmp b) (branches_in es) ≡ has_hop (lookup (is_fec b.fec) es) (hop_of b) → (t : Bool) → is_fec b.fec e.0 ≡ t
        → ((is_fec b.fec e.0 && list_any (eq_by_cmp hop_cmp (hop_of b)) (maps.keys e.1.entry.branches))
        || list_any (eq_by_cmp branch_cmp b) (branches_in es))
        ≡ has_hop (cond (is_fec b.fec e.0) (Some e.1) (lookup (is_fec b.fec) es)) (hop_of b)
    by rest true s =
        let nothing : list_any (eq_by_cmp branch_cmp b) (branches_in es) ≡ false =
        rest ∙ ap (λ (o : Option Slot). has_hop o (hop_of b)) (thereafter b.fec e es h s) in
        rw (s, nothing) (or_nothing _ ∙ sym (maps.contains_key-keys e.1.entry.branches (hop_of b)))
    by rest false s = rw s rest

pub branch_seen : (es : List (Fec × Slot)) → IsDistinct is_fec (keys_of es) → (b : TreeBranch)
    → sets.contains (sets.from_list {R = branch_cmp} (branches_in es)) b ≡ has_hop (lookup (is_fec b.fec) es) (hop_of b)
branch_seen es h b = sets.contains-from_list branch_cmp_total (branches_in es) b ∙ branch_any es h b

-- ---- a slot that is put back

idle_keys : (n : ℕ) (a b : Bool) → ((a && b) && (n == 0)) ≡ true → n ≡ 0
idle_keys n a b h =
    elim (eqb_tells n 0) [ inl e ↦ e.1 | inr ne ↦ (let no : (n == 0) ≡ false = ne.0 in let yes : (n == 0) ≡ true = and_second _ _ h in absurd cc) ]

no_keys : (m : Hops) (own : Branch) → length (maps.keys m) ≡ 0 → maps.contains_key m own ≡ false
no_keys m own e = maps.contains_key-keys m own ∙ nothing (maps.keys m) e
  where
    nothing : (xs : List Branch) → length xs ≡ 0 → list_any (eq_by_cmp hop_cmp own) xs ≡ false
    nothing [] e = refl
    nothing (x ∷ xs) e = absurd (omega (arith, e))

not_leaf : (a b c : Bool) → ((a && not b) && c) ≡ true → b ≡ false
not_leaf a true c h = let no : not true ≡ true = and_second a (not true) (and_first _ _ h) in absurd cc
not_leaf a false c h = refl

pub kept_leaf : (slot : Slot) → leaf_of (kept slot) ≡ slot.entry.leaf
kept_leaf slot = by (is_idle slot) refl
  where
    by : (t : Bool) → is_idle slot ≡ t → leaf_of (cond (is_idle slot) None (Some slot)) ≡ slot.entry.leaf
    by true e = rw e (sym (not_leaf (slot.mapped == 0) slot.entry.leaf (length (maps.keys slot.entry.branches) == 0) e))
    by false e = rw e refl

pub kept_hop : (slot : Slot) (own : Branch) → has_hop (kept slot) own ≡ maps.contains_key slot.entry.branches own
kept_hop slot own = by (is_idle slot) refl
  where
    by : (t : Bool) → is_idle slot ≡ t → has_hop (cond (is_idle slot) None (Some slot)) own ≡ maps.contains_key slot.entry.branches own
    by true e =
        rw e (sym (no_keys slot.entry.branches own (idle_keys (length (maps.keys slot.entry.branches)) (slot.mapped == 0) (not slot.entry.leaf) e)))
    by false e = rw e refl

pub kept_count : (slot : Slot) → mapped_of (kept slot) ≡ slot.mapped
kept_count slot = by (is_idle slot) refl
  where
    by : (t : Bool) → is_idle slot ≡ t → mapped_of (cond (is_idle slot) None (Some slot)) ≡ slot.mapped
    by true e = rw e (elim (eqb_tells slot.mapped 0) [
      | inl s ↦ sym s.1
      | inr ne ↦ (let no : (slot.mapped == 0) ≡ false = ne.0 in let yes : (slot.mapped == 0) ≡ true = and_first _ _ (and_first _ _ e) in absurd cc)
    ])
    by false e = rw e refl

-- the slot of a FEC, or a fresh one
abbrev pub slot_or_fresh : Option Slot → Fec → Slot
slot_or_fresh o fec = unwrap_or o (fresh fec)

pub had_leaf : (o : Option Slot) (fec : Fec) → (slot_or_fresh o fec).entry.leaf ≡ leaf_of o
had_leaf None fec = refl
had_leaf (Some slot) fec = refl

pub had_hop : (o : Option Slot) (fec : Fec) (own : Branch) → maps.contains_key (slot_or_fresh o fec).entry.branches own ≡ has_hop o own
had_hop None fec own = ap is_some (maps.get-empty hop_cmp own)
had_hop (Some slot) fec own = refl

pub had_count : (o : Option Slot) (fec : Fec) → (slot_or_fresh o fec).mapped ≡ mapped_of o
had_count None fec = refl
had_count (Some slot) fec = refl
