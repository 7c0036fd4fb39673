-- What a change of one block does to the buffers and to the chain of the free ones.
use Rattle.std.proofs.Common.{◌≡◌, ◌≢◌, ℕ, zero, suc, ◌+◌, ◌-◌, ◌<◌, ◌≤◌, ◌==◌, ◌^◌, Bool, true, false, cond, T, List, [], ◌∷◌, ◌++◌, length, None, Some, is_some, refl, sym, ap, subst, ◌∙◌, arith, set, get_or, length-set, length-append, IfSome}
use Rattle.std.proofs.Math.Dec.{eqb-suc-zero}
use Rattle.std.proofs.lemmas.Bool.{eqb-true, eq-eqb}
use Rattle.std.specs.declared.option.Option.{Option}
use Rattle.std.specs.Ordering.{nat_cmp, eq_by_cmp}
use Rattle.std.specs.Cmp.{nat_cmp_total}
use Rattle.std.specs.FinMap.{get, insert, remove, len, contains_key, empty_of_len, get-empty, get-insert, get-remove, len-empty, len-insert, len-remove, same_map, nat_cmp-IsAntisymmetric}
use Rattle.buf_pool.proofs.KeyLemmas.{not_both, same_key, one_key, other_key}
use Rattle.buf_pool.specs.Held.{Held, held, AreHeld, Buffers, IsLive, HasRoom, with_more, shared, with_less, given_back}
use Rattle.buf_pool.specs.Stock.{Stock, stock}
use Rattle.buf_pool.specs.Table.{place, buffers, count_at, next_at, chain, AllFree, Lacks, AllApart, IsTable}
use Rattle.buf_pool.specs.declared.node.Node.{Node}
use Rattle.buf_pool.specs.declared.block.Block.{Block}

-- ---- what one node holds

held_num : List ℕ → ℕ → Option Held
held_num octets n = cond (n == 0) None (Some (held octets n))

num_zero : (octets : List ℕ) (n : ℕ) → n ≡ 0 → held_num octets n ≡ None
unfolding held_num
num_zero octets n e = rw e refl

num_live : (octets : List ℕ) (n : ℕ) → 0 < n → held_num octets n ≡ Some (held octets n)
unfolding held_num
num_live octets zero h = absurd (omega (arith, h))
num_live octets (suc n) h = ap (λ (b : Bool). cond b None (Some (held octets (suc n)))) (eqb-suc-zero n)

num_some : (octets : List ℕ) (n : ℕ) → T (is_some (held_num octets n)) → 0 < n
unfolding held_num
num_some octets zero h = absurd h
num_some octets (suc n) h = omega arith

num_held : (octets : List ℕ) (n : ℕ) (h : Held) → held_num octets n ≡ Some h → 0 < h.count
unfolding held_num
num_held octets zero h e = absurd cc
num_held octets (suc n) h e = subst (λ (o : Option Held). IfSome o (λ x. 0 < x.count)) (sym (num_live octets (suc n) (omega arith)) ∙ e) (omega arith)

held_of : Node → Option Held
held_of node = held_num node.octets.items node.count

-- ---- the map of a list of blocks

place_same : (n : ℕ) (node : Node) (m : Buffers) → get m n ≡ None → get (place n node m) n ≡ held_of node
unfolding held_of held_num
place_same n node m none = by (node.count == 0)
  where
    by : (b : Bool) → get (cond b m (insert m n (held node.octets.items node.count))) n ≡ cond b None (Some (held node.octets.items node.count))
    by true = none
    by false = get-insert nat_cmp_total m n _ n ∙ ap (λ (b : Bool). cond b (Some (held node.octets.items node.count)) (get m n)) (same_key n)

place_other : (n : ℕ) (node : Node) (m : Buffers) (q : ℕ) → q ≢ n → get (place n node m) q ≡ get m q
place_other n node m q apart = by (node.count == 0)
  where
    by : (b : Bool) → get (cond b m (insert m n (held node.octets.items node.count))) q ≡ get m q
    by true = refl
    by false = get-insert nat_cmp_total m n _ q ∙ ap (λ (b : Bool). cond b (Some (held node.octets.items node.count)) (get m q)) (other_key q n apart)

-- ---- how many there are

len_kept : (m : Buffers) (k : ℕ) (h : Held) → contains_key m k ≡ true → len (insert m k h) ≡ len m
len_kept m k h is = len-insert nat_cmp_total m k h ∙ ap (λ (b : Bool). cond b (len m) (len m + 1)) is

len_more : (m : Buffers) (k : ℕ) (h : Held) → contains_key m k ≡ false → len (insert m k h) ≡ len m + 1
len_more m k h is = len-insert nat_cmp_total m k h ∙ ap (λ (b : Bool). cond b (len m) (len m + 1)) is

len_less : (m : Buffers) (k : ℕ) → contains_key m k ≡ true → len (remove m k) + 1 ≡ len m
len_less m k is = by (len m) refl (len-remove nat_cmp_total m k ∙ ap (λ (b : Bool). cond b (len m - 1) (len m)) is)
  where
    by : (n : ℕ) → len m ≡ n → len (remove m k) ≡ len m - 1 → len (remove m k) + 1 ≡ len m
    by zero e f =
        absurd (not_both (contains_key m k) is (ap (λ (x : Buffers). contains_key x k) (empty_of_len m e) ∙ ap is_some (get-empty nat_cmp k)))
    by (suc n) e f = omega (arith, e, f)

not_one : (n : ℕ) → (n - 1 ≡ 0 → ⊥) → (n == 1) ≡ false
not_one n h = by (n == 1) refl
  where
    by : (x : Bool) → (n == 1) ≡ x → x ≡ false
    by true e = absurd (h (omega (arith, eqb-true n 1 e)))
    by false e = refl

module _ {A : Type 0} where
  held_at : List (Block Node A) → ℕ → Option Held
  held_at [] k = None
  held_at (b ∷ bs) zero = held_of b.value
  held_at (b ∷ bs) (suc k) = held_at bs k

  below : (n : ℕ) (bs : List (Block Node A)) (q : ℕ) → q < n → get (buffers n bs) q ≡ None
  below n [] q h = get-empty nat_cmp q
  below n (b ∷ bs) q h = place_other n b.value (buffers (suc n) bs) q (λ e. absurd (omega (arith, e, h))) ∙ below (suc n) bs q (omega (arith, h))

  at_from : (n : ℕ) (bs : List (Block Node A)) (k : ℕ) → get (buffers n bs) (n + k) ≡ held_at bs k
  unfolding held_at
  at_from n [] k = get-empty nat_cmp (n + k)
  at_from n (b ∷ bs) zero = ap (get (buffers n (b ∷ bs))) (omega arith) ∙ place_same n b.value (buffers (suc n) bs) (below (suc n) bs n (omega arith))
  at_from n (b ∷ bs) (suc k) =
      place_other n b.value (buffers (suc n) bs) (n + suc k) (λ e. absurd (omega (arith, e)))
      ∙ (ap (get (buffers (suc n) bs)) (omega arith) ∙ at_from (suc n) bs k)

  tells : (bs : List (Block Node A)) (k : ℕ) → get (buffers 0 bs) k ≡ held_at bs k
  tells bs k = ap (get (buffers 0 bs)) (omega arith) ∙ at_from 0 bs k

  -- ---- one block among them

  held_inside : (bs : List (Block Node A)) (k : ℕ) → T (is_some (held_at bs k)) → k < length bs
  unfolding held_at
  held_inside [] k h = absurd h
  held_inside (b ∷ bs) zero h = omega arith
  held_inside (b ∷ bs) (suc k) h = omega (arith, held_inside bs k h)

  held_get : (bs : List (Block Node A)) (k : ℕ) (d : Block Node A) → k < length bs → held_at bs k ≡ held_of (get_or bs k d).value
  unfolding held_at
  held_get [] k d h = absurd (omega (arith, h))
  held_get (b ∷ bs) zero d h = refl
  held_get (b ∷ bs) (suc k) d h = held_get bs k d (omega (arith, h))

  count_get : (bs : List (Block Node A)) (k : ℕ) (d : Block Node A) → k < length bs → count_at bs k ≡ (get_or bs k d).value.count
  count_get [] k d h = absurd (omega (arith, h))
  count_get (b ∷ bs) zero d h = refl
  count_get (b ∷ bs) (suc k) d h = count_get bs k d (omega (arith, h))

  next_get : (bs : List (Block Node A)) (k : ℕ) (d : Block Node A) → k < length bs → next_at bs k ≡ (get_or bs k d).value.next
  next_get [] k d h = absurd (omega (arith, h))
  next_get (b ∷ bs) zero d h = refl
  next_get (b ∷ bs) (suc k) d h = next_get bs k d (omega (arith, h))

  held_count : (bs : List (Block Node A)) (k : ℕ) → T (is_some (held_at bs k)) → 0 < count_at bs k
  unfolding held_at held_of
  held_count [] k h = absurd h
  held_count (b ∷ bs) zero h = num_some b.value.octets.items b.value.count h
  held_count (b ∷ bs) (suc k) h = held_count bs k h

  held_some : (bs : List (Block Node A)) (k : ℕ) (h : Held) → held_at bs k ≡ Some h → 0 < h.count
  unfolding held_at held_of
  held_some [] k h e = absurd cc
  held_some (b ∷ bs) zero h e = num_held b.value.octets.items b.value.count h e
  held_some (b ∷ bs) (suc k) h e = held_some bs k h e

  held_none : (bs : List (Block Node A)) (k : ℕ) → count_at bs k ≡ 0 → held_at bs k ≡ None
  unfolding held_at held_of
  held_none [] k h = refl
  held_none (b ∷ bs) zero h = num_zero b.value.octets.items b.value.count h
  held_none (b ∷ bs) (suc k) h = held_none bs k h

  -- ---- one block is set

  held_set_same : (bs : List (Block Node A)) (k : ℕ) (b : Block Node A) → k < length bs → held_at (set bs k b) k ≡ held_of b.value
  unfolding held_at
  held_set_same [] k b h = absurd (omega (arith, h))
  held_set_same (x ∷ bs) zero b h = refl
  held_set_same (x ∷ bs) (suc k) b h = held_set_same bs k b (omega (arith, h))

  held_set_other : (bs : List (Block Node A)) (k : ℕ) (b : Block Node A) (q : ℕ) → q ≢ k → held_at (set bs k b) q ≡ held_at bs q
  unfolding held_at
  held_set_other [] k b q h = refl
  held_set_other (x ∷ bs) zero b zero h = absurd (h refl)
  held_set_other (x ∷ bs) zero b (suc q) h = refl
  held_set_other (x ∷ bs) (suc k) b zero h = refl
  held_set_other (x ∷ bs) (suc k) b (suc q) h = held_set_other bs k b q (λ e. h (ap suc e))

  count_set_same : (bs : List (Block Node A)) (k : ℕ) (b : Block Node A) → k < length bs → count_at (set bs k b) k ≡ b.value.count
  count_set_same [] k b h = absurd (omega (arith, h))
  count_set_same (x ∷ bs) zero b h = refl
  count_set_same (x ∷ bs) (suc k) b h = count_set_same bs k b (omega (arith, h))

  count_set_other : (bs : List (Block Node A)) (k : ℕ) (b : Block Node A) (q : ℕ) → q ≢ k → count_at (set bs k b) q ≡ count_at bs q
  count_set_other [] k b q h = refl
  count_set_other (x ∷ bs) zero b zero h = absurd (h refl)
  count_set_other (x ∷ bs) zero b (suc q) h = refl
  count_set_other (x ∷ bs) (suc k) b zero h = refl
  count_set_other (x ∷ bs) (suc k) b (suc q) h = count_set_other bs k b q (λ e. h (ap suc e))

  next_set_same : (bs : List (Block Node A)) (k : ℕ) (b : Block Node A) → k < length bs → next_at (set bs k b) k ≡ b.value.next
  next_set_same [] k b h = absurd (omega (arith, h))
  next_set_same (x ∷ bs) zero b h = refl
  next_set_same (x ∷ bs) (suc k) b h = next_set_same bs k b (omega (arith, h))

  next_set_other : (bs : List (Block Node A)) (k : ℕ) (b : Block Node A) (q : ℕ) → q ≢ k → next_at (set bs k b) q ≡ next_at bs q
  next_set_other [] k b q h = refl
  next_set_other (x ∷ bs) zero b zero h = absurd (h refl)
  next_set_other (x ∷ bs) zero b (suc q) h = refl
  next_set_other (x ∷ bs) (suc k) b zero h = refl
  next_set_other (x ∷ bs) (suc k) b (suc q) h = next_set_other bs k b q (λ e. h (ap suc e))

  held_set : (bs : List (Block Node A)) (k : ℕ) (b : Block Node A) (q : ℕ) → k < length bs
      → held_at (set bs k b) q ≡ cond (eq_by_cmp nat_cmp q k) (held_of b.value) (get (buffers 0 bs) q)
  held_set bs k b q h = by (eq_by_cmp nat_cmp q k) refl
    where
      by : (t : Bool) → eq_by_cmp nat_cmp q k ≡ t → held_at (set bs k b) q ≡ cond t (held_of b.value) (get (buffers 0 bs) q)
      by true e = ap (held_at (set bs k b)) (one_key q k e) ∙ held_set_same bs k b h
      by false e =
          held_set_other bs k b q (λ s. not_both (eq_by_cmp nat_cmp q k) (subst (λ (x : ℕ). eq_by_cmp nat_cmp x k ≡ true) (sym s) (same_key k)) e)
          ∙ sym (tells bs q)

  -- ---- one block more

  held_more_same : (bs : List (Block Node A)) (b : Block Node A) → held_at (bs ++ b ∷ []) (length bs) ≡ held_of b.value
  unfolding held_at
  held_more_same [] b = refl
  held_more_same (x ∷ bs) b = held_more_same bs b

  held_more_other : (bs : List (Block Node A)) (b : Block Node A) (q : ℕ) → q ≢ length bs → held_at (bs ++ b ∷ []) q ≡ held_at bs q
  unfolding held_at
  held_more_other [] b zero h = absurd (h refl)
  held_more_other [] b (suc q) h = refl
  held_more_other (x ∷ bs) b zero h = refl
  held_more_other (x ∷ bs) b (suc q) h = held_more_other bs b q (λ e. h (ap suc e))

  held_past : (bs : List (Block Node A)) (k : ℕ) → length bs ≤ k → held_at bs k ≡ None
  unfolding held_at
  held_past [] k h = refl
  held_past (b ∷ bs) zero h = absurd (omega (arith, h))
  held_past (b ∷ bs) (suc k) h = held_past bs k (omega (arith, h))

  -- ---- the buffers after each change

  -- no name past the blocks is taken
  pub none_past : (bs : List (Block Node A)) → get (buffers 0 bs) (length bs) ≡ None
  none_past bs = tells bs (length bs) ∙ held_past bs (length bs) (omega arith)

  pub set_live : (bs : List (Block Node A)) (k : ℕ) (b : Block Node A) → k < length bs → 0 < b.value.count
      → buffers 0 (set bs k b) ≡ insert (buffers 0 bs) k (held b.value.octets.items b.value.count)
  unfolding held_of
  set_live bs k b h live = same_map nat_cmp_total nat_cmp-IsAntisymmetric _ _ (λ q.
      tells (set bs k b) q ∙ (held_set bs k b q h ∙
      (ap (λ (o : Option Held). cond (eq_by_cmp nat_cmp q k) o (get (buffers 0 bs) q)) (num_live b.value.octets.items b.value.count live)
      ∙ sym (get-insert nat_cmp_total (buffers 0 bs) k _ q))))

  pub set_free : (bs : List (Block Node A)) (k : ℕ) (b : Block Node A) → k < length bs → b.value.count ≡ 0
      → buffers 0 (set bs k b) ≡ remove (buffers 0 bs) k
  unfolding held_of
  set_free bs k b h none = same_map nat_cmp_total nat_cmp-IsAntisymmetric _ _ (λ q.
      tells (set bs k b) q ∙ (held_set bs k b q h ∙
      (ap (λ (o : Option Held). cond (eq_by_cmp nat_cmp q k) o (get (buffers 0 bs) q)) (num_zero b.value.octets.items b.value.count none)
      ∙ sym (get-remove nat_cmp_total (buffers 0 bs) k q))))

  pub more_live : (bs : List (Block Node A)) (b : Block Node A) → 0 < b.value.count
      → buffers 0 (bs ++ b ∷ []) ≡ insert (buffers 0 bs) (length bs) (held b.value.octets.items b.value.count)
  unfolding held_of
  more_live bs b live = same_map nat_cmp_total nat_cmp-IsAntisymmetric _ _ (λ q.
      tells (bs ++ b ∷ []) q ∙ (by q (eq_by_cmp nat_cmp q (length bs)) refl
      ∙ (ap (λ (o : Option Held). cond (eq_by_cmp nat_cmp q (length bs)) o (get (buffers 0 bs) q))
      (num_live b.value.octets.items b.value.count live) ∙ sym (get-insert nat_cmp_total (buffers 0 bs) (length bs) _ q))))
    where
      by : (q : ℕ) (t : Bool) → eq_by_cmp nat_cmp q (length bs) ≡ t → held_at (bs ++ b ∷ []) q ≡ cond t (held_of b.value) (get (buffers 0 bs) q)
      by q true e = ap (held_at (bs ++ b ∷ [])) (one_key q (length bs) e) ∙ held_more_same bs b
      by q false e =
          held_more_other bs b q (λ s. not_both (eq_by_cmp nat_cmp q (length bs))
          (subst (λ (x : ℕ). eq_by_cmp nat_cmp x (length bs) ≡ true) (sym s) (same_key (length bs))) e) ∙ sym (tells bs q)

  -- ---- the chain of the free ones

  lacks_live : (bs : List (Block Node A)) (k : ℕ) (ks : List ℕ) → 0 < count_at bs k → AllFree bs ks → Lacks k ks
  lacks_live bs k [] live free = tt
  lacks_live bs k (j ∷ js) live free = ((λ e. absurd (omega (arith, live, free.0.1, ap (count_at bs) e))), lacks_live bs k js live free.1)

  chain_set : (bs : List (Block Node A)) (k : ℕ) (b : Block Node A) (n j : ℕ) → Lacks k (chain bs n j) → chain (set bs k b) n j ≡ chain bs n j
  chain_set bs k b zero j h = refl
  chain_set bs k b (suc n) j h =
      ap (λ (i : ℕ). j ∷ chain (set bs k b) n i) (next_set_other bs k b j h.0) ∙ ap (λ (is : List ℕ). j ∷ is) (chain_set bs k b n (next_at bs j) h.1)

  free_set : (bs : List (Block Node A)) (k : ℕ) (b : Block Node A) (ks : List ℕ) → Lacks k ks → AllFree bs ks → AllFree (set bs k b) ks
  free_set bs k b [] h free = tt
  free_set bs k b (j ∷ js) h free =
      ((omega (arith, free.0.0, length-set bs k b), count_set_other bs k b j h.0 ∙ free.0.1), free_set bs k b js h.1 free.1)

  -- ---- the table after each change

  count_inside : (bs : List (Block Node A)) (k : ℕ) → 0 < count_at bs k → k < length bs
  count_inside [] k h = absurd (omega (arith, h))
  count_inside (b ∷ bs) zero h = omega arith
  count_inside (b ∷ bs) (suc k) h = omega (arith, count_inside bs k h)

  count_some : (bs : List (Block Node A)) (k : ℕ) → 0 < count_at bs k → is_some (held_at bs k) ≡ true
  unfolding held_at held_of
  count_some [] k h = absurd (omega (arith, h))
  count_some (b ∷ bs) zero h = ap is_some (num_live b.value.octets.items b.value.count h)
  count_some (b ∷ bs) (suc k) h = count_some bs k h

  contains : (bs : List (Block Node A)) (k : ℕ) → 0 < count_at bs k → contains_key (buffers 0 bs) k ≡ true
  contains bs k h = ap is_some (tells bs k) ∙ count_some bs k h

  lacking : (bs : List (Block Node A)) (k : ℕ) → get (buffers 0 bs) k ≡ None → contains_key (buffers 0 bs) k ≡ false
  lacking bs k h = ap is_some h

  pub table_none : (free : ℕ) → IsTable {A = A} [] 0 free
  table_none free = record { counted = ap (λ (n : ℕ). n + 0) (len-empty nat_cmp Held); free_ones = tt; apart = tt }

  pub table_more : (bs : List (Block Node A)) (free next : ℕ) (b : Block Node A) → IsTable bs 0 free → 0 < b.value.count
      → IsTable (bs ++ b ∷ []) 0 next
  table_more bs free next b t live =
      let grown : len (buffers 0 (bs ++ b ∷ [])) ≡ len (buffers 0 bs) + 1 =
      ap len (more_live bs b live) ∙ len_more (buffers 0 bs) (length bs) _ (lacking bs (length bs) (none_past bs)) in
      record { counted = omega (arith, grown, t.counted, length-append bs (b ∷ [])); free_ones = tt; apart = tt }

  pub table_live : (bs : List (Block Node A)) (spare free k : ℕ) (b : Block Node A) → IsTable bs spare free → 0 < count_at bs k → 0 < b.value.count
      → IsTable (set bs k b) spare free
  table_live bs spare free k b t was live =
      let lacks : Lacks k (chain bs spare free) = lacks_live bs k _ was t.free_ones in
      let same : chain (set bs k b) spare free ≡ chain bs spare free = chain_set bs k b spare free lacks in
      let kept : len (buffers 0 (set bs k b)) ≡ len (buffers 0 bs) =
      ap len (set_live bs k b (count_inside bs k was) live) ∙ len_kept (buffers 0 bs) k _ (contains bs k was) in
      record {
        counted = omega (arith, kept, t.counted, length-set bs k b);
        free_ones = subst (AllFree (set bs k b)) (sym same) (free_set bs k b _ lacks t.free_ones);
        apart = subst AllApart (sym same) t.apart;
      }

  table_freed : (bs : List (Block Node A)) (spare free k : ℕ) (b : Block Node A) → IsTable bs spare free → 0 < count_at bs k → b.value.count ≡ 0
      → b.value.next ≡ free → IsTable (set bs k b) (suc spare) k
  table_freed bs spare free k b t was none next =
      let lacks : Lacks k (chain bs spare free) = lacks_live bs k _ was t.free_ones in
      let inside : k < length bs = count_inside bs k was in
      let same : chain (set bs k b) spare (next_at (set bs k b) k) ≡ chain bs spare free =
      ap (chain (set bs k b) spare) (next_set_same bs k b inside ∙ next) ∙ chain_set bs k b spare free lacks in
      let fewer : len (buffers 0 (set bs k b)) + 1 ≡ len (buffers 0 bs) =
      ap (λ (m : Buffers). len m + 1) (set_free bs k b inside none) ∙ len_less (buffers 0 bs) k (contains bs k was) in
      record {
        counted = omega (arith, fewer, t.counted, length-set bs k b);
        free_ones = (
          (omega (arith, inside, length-set bs k b), count_set_same bs k b inside ∙ none),
          subst (AllFree (set bs k b)) (sym same) (free_set bs k b _ lacks t.free_ones),
        );
        apart = (subst (Lacks k) (sym same) lacks, subst AllApart (sym same) t.apart);
      }

  pub table_free : (bs : List (Block Node A)) (spare free k : ℕ) (b : Block Node A) → IsTable bs spare free → 0 < count_at bs k → b.value.count ≡ 0
      → b.value.next ≡ free → IsTable (set bs k b) (spare + 1) k
  table_free bs spare free k b t was none next =
      subst (λ (n : ℕ). IsTable (set bs k b) n k) (omega arith) (table_freed bs spare free k b t was none next)

  -- the first of the free ones
  pub free_inside : (bs : List (Block Node A)) (spare free : ℕ) → IsTable bs spare free → 0 < spare → free < length bs
  free_inside bs zero free t h = absurd (omega (arith, h))
  free_inside bs (suc n) free t h = t.free_ones.0.0

  pub free_none : (bs : List (Block Node A)) (spare free : ℕ) → IsTable bs spare free → 0 < spare → get (buffers 0 bs) free ≡ None
  free_none bs zero free t h = absurd (omega (arith, h))
  free_none bs (suc n) free t h = tells bs free ∙ held_none bs free t.free_ones.0.1

  pub table_take : (bs : List (Block Node A)) (spare free next : ℕ) (b : Block Node A) → IsTable bs spare free → 0 < spare → next_at bs free ≡ next
      → 0 < b.value.count → IsTable (set bs free b) (spare - 1) next
  table_take bs zero free next b t h is live = absurd (omega (arith, h))
  table_take bs (suc n) free next b t h is live =
      let same : chain (set bs free b) n next ≡ chain bs n (next_at bs free) =
      ap (chain (set bs free b) n) (sym is) ∙ chain_set bs free b n (next_at bs free) t.apart.0 in
      let grown : len (buffers 0 (set bs free b)) ≡ len (buffers 0 bs) + 1 =
      ap len (set_live bs free b t.free_ones.0.0 live) ∙ len_more (buffers 0 bs) free _ (lacking bs free (free_none bs (suc n) free t h)) in
      subst (λ (i : ℕ). IsTable (set bs free b) i next) (omega arith) (record {
        counted = omega (arith, grown, t.counted, length-set bs free b);
        free_ones = subst (AllFree (set bs free b)) (sym same) (free_set bs free b _ t.apart.0 t.free_ones.1);
        apart = subst AllApart (sym same) t.apart.1;
      })

  -- ---- a live buffer

  live_at : (bs : List (Block Node A)) (m : Buffers) (k name : ℕ) → buffers 0 bs ≡ m → k ≡ name → IsLive m name → T (is_some (held_at bs k))
  live_at bs m k name view is live = subst (λ (o : Option Held). T (is_some o)) ((λ i. get (sym view i) (sym is i)) ∙ tells bs k) live

  pub all_held : (bs : List (Block Node A)) (m : Buffers) → buffers 0 bs ≡ m → AreHeld m
  all_held bs m view name h is = held_some bs name h (sym (tells bs name) ∙ (ap (λ (x : Buffers). get x name) view ∙ is))

  pub live_inside : (bs : List (Block Node A)) (m : Buffers) (k name : ℕ) → buffers 0 bs ≡ m → k ≡ name → IsLive m name → k < length bs
  live_inside bs m k name view is live = held_inside bs k (live_at bs m k name view is live)

  -- what is known of a live buffer by its node
  pub record IsHeld (bs : List (Block Node A)) (m : Buffers) (k name : ℕ) (old : Node) : Type 0 where
    pub named : k ≡ name
    pub inside : k < length bs
    pub was : 0 < count_at bs k
    pub positive : 0 < old.count
    pub found : get m name ≡ Some (held old.octets.items old.count)

  pub node_held : (bs : List (Block Node A)) (m : Buffers) (k name : ℕ) (d : Block Node A) (old : Node) → buffers 0 bs ≡ m → k ≡ name → IsLive m name
      → (get_or bs k d).value ≡ old → IsHeld bs m k name old
  unfolding held_of
  node_held bs m k name d old view named live is =
      let inside : k < length bs = live_inside bs m k name view named live in
      let was : 0 < count_at bs k = held_count bs k (live_at bs m k name view named live) in
      let positive : 0 < old.count = omega (arith, was, count_get bs k d inside, ap (λ (n : Node). n.count) is) in
      record {
        named = named;
        inside = inside;
        was = was;
        positive = positive;
        found = (λ i. get (sym view i) (sym named i))
            ∙ (tells bs k ∙ (held_get bs k d inside ∙ (ap held_of is ∙ num_live old.octets.items old.count positive)));
      }

  pub held_octets : (bs : List (Block Node A)) (m : Buffers) (k name : ℕ) (old : Node) (octets : List ℕ) → IsHeld bs m k name old
      → octets ≡ old.octets.items → IfSome (get m name) (λ h. octets ≡ h.octets)
  held_octets bs m k name old octets t is = subst (λ (o : Option Held). IfSome o (λ h. octets ≡ h.octets)) (sym t.found) is

  pub held_room : (bs : List (Block Node A)) (m : Buffers) (k name more : ℕ) (old : Node) → IsHeld bs m k name old → HasRoom m name more
      → old.count + more < 2 ^ 32
  held_room bs m k name more old t room = subst (λ (o : Option Held). IfSome o (λ h. h.count + more < 2 ^ 32)) t.found room

  pub held_shared : (bs : List (Block Node A)) (m : Buffers) (k name more : ℕ) (old : Node) (b : Block Node A) → buffers 0 bs ≡ m
      → IsHeld bs m k name old → b.value.count ≡ old.count + more → b.value.octets.items ≡ old.octets.items
      → buffers 0 (set bs k b) ≡ shared m name more
  held_shared bs m k name more old b view t count octets =
      set_live bs k b t.inside (omega (arith, t.positive, count))
      ∙ ((λ i. insert (view i) (t.named i) (held (octets i) (count i))) ∙ ap (with_more m name more) (sym t.found))

  pub held_fewer : (bs : List (Block Node A)) (m : Buffers) (k name : ℕ) (old : Node) (b : Block Node A) → buffers 0 bs ≡ m → IsHeld bs m k name old
      → (old.count - 1 ≡ 0 → ⊥) → b.value.count ≡ old.count - 1 → b.value.octets.items ≡ old.octets.items → buffers 0 (set bs k b) ≡ given_back m name
  held_fewer bs m k name old b view t more count octets =
      set_live bs k b t.inside (omega (arith, more, count))
      ∙ ((λ i. insert (view i) (t.named i) (held (octets i) (count i)))
      ∙ (sym (ap (λ (x : Bool). cond x (remove m name) (insert m name (held old.octets.items (old.count - 1)))) (not_one old.count more))
      ∙ ap (with_less m name) (sym t.found)))

  pub held_ended : (bs : List (Block Node A)) (m : Buffers) (k name : ℕ) (old : Node) (b : Block Node A) → buffers 0 bs ≡ m → IsHeld bs m k name old
      → old.count - 1 ≡ 0 → b.value.count ≡ old.count - 1 → buffers 0 (set bs k b) ≡ given_back m name
  held_ended bs m k name old b view t last count =
      set_free bs k b t.inside (count ∙ last) ∙ ((λ i. remove (view i) (t.named i))
      ∙ (sym (ap (λ (x : Bool). cond x (remove m name) (insert m name (held old.octets.items (old.count - 1))))
      (eq-eqb old.count 1 (omega (arith, t.positive, last)))) ∙ ap (with_less m name) (sym t.found)))

  pub first_next : (bs : List (Block Node A)) (k : ℕ) (d : Block Node A) (old : Node) → k < length bs → (get_or bs k d).value ≡ old
      → next_at bs k ≡ old.next
  first_next bs k d old h is = next_get bs k d h ∙ ap (λ (n : Node). n.next) is

  pub table_grown : (bs : List (Block Node A)) (spare free : ℕ) (b : Block Node A) → spare ≡ 0 → IsTable bs spare free → 0 < b.value.count
      → IsTable (bs ++ b ∷ []) spare free
  table_grown bs spare free b none t live =
      subst (λ (n : ℕ). IsTable (bs ++ b ∷ []) n free) (sym none) (table_more bs free free b (subst (λ (n : ℕ). IsTable bs n free) none t) live)

  -- a new buffer in a new block, and in the first free one
  pub put_more : (bs : List (Block Node A)) (m : Buffers) (b : Block Node A) (name : ℕ) (octets : List ℕ) (copies : ℕ) → buffers 0 bs ≡ m
      → name ≡ length bs → 0 < copies → b.value.count ≡ copies → b.value.octets.items ≡ octets
      → buffers 0 (bs ++ b ∷ []) ≡ insert m name (held octets copies)
  put_more bs m b name os copies view is live count octets =
      more_live bs b (omega (arith, live, count)) ∙ (λ i. insert (view i) (sym is i) (held (octets i) (count i)))

  pub put_first : (bs : List (Block Node A)) (m : Buffers) (k : ℕ) (b : Block Node A) (octets : List ℕ) (copies : ℕ) → buffers 0 bs ≡ m
      → k < length bs → 0 < copies → b.value.count ≡ copies → b.value.octets.items ≡ octets → buffers 0 (set bs k b) ≡ insert m k (held octets copies)
  put_first bs m k b os copies view h live count octets =
      set_live bs k b h (omega (arith, live, count)) ∙ (λ i. insert (view i) k (held (octets i) (count i)))

  -- a table whose buffers became these, with one block set
  pub stocked : (bs : List (Block Node A)) (k : ℕ) (b : Block Node A) (t : Stock) (m : Buffers) → stock (buffers 0 bs) (length bs) ≡ t
      → buffers 0 (set bs k b) ≡ m → stock (buffers 0 (set bs k b)) (length (set bs k b)) ≡ stock m t.blocks
  stocked bs k b t m view is = let size : length (set bs k b) ≡ t.blocks = length-set bs k b ∙ ap (λ (x : Stock). x.blocks) view in
      λ i. record { held = is i; blocks = size i }
