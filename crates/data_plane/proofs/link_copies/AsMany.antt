-- Buffers are as many as datagrams with a copy.
use Rattle.std.proofs.Common.{◌≡◌, ℕ, zero, suc, ◌+◌, ◌<◌, ◌≤◌, ◌==◌, ◌||◌, ◌↔◌, nat_lt, Bool, true, false, cond, T, is_some, List, [], ◌∷◌, Option, Some, None, refl, sym, ap, subst, ◌∙◌, arith}
use Rattle.std.specs.FinMap as maps
use Rattle.std.specs.FinMap.{get, insert, remove, len, same_map, get-insert, get-remove, get-empty, len-insert, len-empty, nat_cmp-IsAntisymmetric}
use Rattle.std.specs.Cmp.{nat_cmp_total}
use Rattle.std.specs.List.{count_by}
use Rattle.std.specs.Ordering.{nat_cmp, eq_by_cmp}
use Rattle.std.proofs.lemmas.Bool.{true≢false, eqb-true, eqb-false, eq-eqb, ltb-true, ltb-false}
use Rattle.buf_pool.specs.Held.{Held, Buffers, IsLive}
use Rattle.buf_pool.proofs.KeyLemmas.{same_key, other_key}
use Rattle.network_defs.specs.Counts.{datagrams_with_copy}
use Rattle.data_plane.specs.link_copies.CopiesData.{KeptCopy, Current, CopiesData, kept_at, all_kept, holding, IsShared, AreNumbered}
use Rattle.data_plane.specs.link_copies.Kept.{with_buffer}
use Rattle.data_plane.proofs.link_copies.Basics.{one_if}
use Rattle.data_plane.proofs.link_copies.Datagrams.{copies, numbered, has, member, any_of, none_of, no_datagram, again, first}
use Rattle.data_plane.proofs.link_copies.Lists.{count-cons}
use Rattle.data_plane.proofs.link_copies.Pools.{held_from, live_from}
use Rattle.data_plane.proofs.link_copies.Holdings.{passes, own, own_pair, is_pair, count_none, none_pass}

-- ---- buffers

nothing_lives : (m : Buffers) → ((name : ℕ) → get m name ≡ None) → len m ≡ 0
nothing_lives m none =
    ap len (same_map nat_cmp_total nat_cmp-IsAntisymmetric m maps.empty (λ name. none name ∙ sym (get-empty nat_cmp name))) ∙ len-empty nat_cmp Held

one_ends : (m : Buffers) (name : ℕ) (h : Held) → get m name ≡ Some h → len m ≡ len (remove m name) + 1
one_ends m name h is =
    ap len (sym (same_map nat_cmp_total nat_cmp-IsAntisymmetric (insert (remove m name) name h) m (λ q.
    get-insert nat_cmp_total (remove m name) name h q ∙ ap (cond (eq_by_cmp nat_cmp q name) (Some h)) (get-remove nat_cmp_total m name q)
    ∙ by q (q == name) refl)))
    ∙ len-insert nat_cmp_total (remove m name) name h
    ∙ (λ i. cond (is_some (absent i)) (len (remove m name)) (len (remove m name) + 1))
  where
    absent : get (remove m name) name ≡ None
    absent = get-remove nat_cmp_total m name name ∙ (λ i. cond (same_key name i) None (get m name))

    by : (q : ℕ) (b : Bool) → (q == name) ≡ b → cond (eq_by_cmp nat_cmp q name) (Some h) (cond (eq_by_cmp nat_cmp q name) None (get m q)) ≡ get m q
    by q true e =
        let one : q ≡ name = eqb-true q name e in
        subst (λ (n : ℕ). cond (eq_by_cmp nat_cmp n name) (Some h) (cond (eq_by_cmp nat_cmp n name) None (get m n)) ≡ get m n) (sym one)
        ((λ i. cond (same_key name i) (Some h) (cond (same_key name i) None (get m name))) ∙ sym is)
    by q false e = λ i. cond (other_key q name (eqb-false q name e) i) (Some h) (cond (other_key q name (eqb-false q name e) i) None (get m q))

-- ---- both

-- a number has one buffer, and a buffer one number
abbrev pub AreNamed : List KeptCopy → Type 0
AreNamed ks =
    (number name other another : ℕ) → 0 < count_by (passes (is_pair number name)) ks → 0 < count_by (passes (is_pair other another)) ks
    → (number ≡ other) ↔ (name ≡ another)

-- whether a copy's number is 0 or beyond the last
abbrev pub is_beyond : ℕ → KeptCopy → Bool
is_beyond last k = (k.copy.number == 0) || nat_lt last k.copy.number

named_tail : (k : KeptCopy) (ks : List KeptCopy) → AreNamed (k ∷ ks) → AreNamed ks
named_tail k ks named number name other another h g = named number name other another
    (omega (arith, h, count-cons (passes (is_pair number name)) k ks)) (omega (arith, g, count-cons (passes (is_pair other another)) k ks))

within : (last : ℕ) (k : KeptCopy) → is_beyond last k ≡ false → (0 < k.copy.number) × (k.copy.number ≤ last)
within last k h = by (k.copy.number == 0) (nat_lt last k.copy.number) refl refl h
  where
    by : (a b : Bool) → (k.copy.number == 0) ≡ a → nat_lt last k.copy.number ≡ b → (a || b) ≡ false → (0 < k.copy.number) × (k.copy.number ≤ last)
    by true b e d h = absurd (true≢false h)
    by false true e d h = absurd (true≢false h)
    by false false e d h = (omega (arith, eqb-false k.copy.number 0 e), omega (arith, ltb-false last k.copy.number d))

abbrev Lives : List KeptCopy → Buffers → Type 0
Lives ks m = (name : ℕ) → 0 < with_buffer name ks → IsLive m name

abbrev Held_of : List KeptCopy → Buffers → Type 0
Held_of ks m = (name : ℕ) → IsLive m name → 0 < with_buffer name ks

cons_buffer : (name : ℕ) (k : KeptCopy) (ks : List KeptCopy) → with_buffer name (k ∷ ks) ≡ one_if (k.buffer == name) + with_buffer name ks
cons_buffer name k ks = count-cons (λ x. x.buffer == name) k ks

-- a copy whose buffer has another copy
module _ (last : ℕ) (k : KeptCopy) (ks : List KeptCopy) (m : Buffers) (there : Lives (k ∷ ks) m) (back : Held_of (k ∷ ks) m)
    (named : AreNamed (k ∷ ks)) where
  another_there : 0 < with_buffer k.buffer ks → has k.copy.number (copies ks) ≡ true
  another_there some =
      let x = member (λ x. x.buffer == k.buffer) ks some in
      let pair = named k.copy.number k.buffer x.0.copy.number x.0.buffer
      (omega (arith, count-cons (passes (is_pair k.copy.number k.buffer)) k ks, ap one_if (own_pair k.copy.number k.buffer)))
      (omega (
        arith,
        count-cons (passes (is_pair x.0.copy.number x.0.buffer)) k ks,
        x.2 (passes (is_pair x.0.copy.number x.0.buffer)) (own_pair x.0.copy.number x.0.buffer),
      )) in
      any_of k.copy.number ks (x.2 (numbered k.copy.number)
      (eq-eqb x.0.copy.number k.copy.number (sym (pair.1 (sym (eqb-true x.0.buffer k.buffer x.1))))))

  same : 0 < with_buffer k.buffer ks → ((m : Buffers) → Lives ks m → Held_of ks m → AreNamed ks → len m ≡ datagrams_with_copy (copies ks) last)
      → len m ≡ datagrams_with_copy (copies (k ∷ ks)) last
  same some rest =
      rest m (λ name h. there name (omega (arith, h, cons_buffer name k ks))) (λ name live. by name (k.buffer == name) refl (back name live))
      (named_tail k ks named)
      ∙ sym (again k.copy (copies ks) (another_there some) last)
    where
      by : (name : ℕ) (b : Bool) → (k.buffer == name) ≡ b → 0 < with_buffer name (k ∷ ks) → 0 < with_buffer name ks
      by name true e h = subst (λ (n : ℕ). 0 < with_buffer n ks) (eqb-true k.buffer name e) some
      by name false e h = omega (arith, h, cons_buffer name k ks, ap one_if e)

  none_there : with_buffer k.buffer ks ≡ 0 → has k.copy.number (copies ks) ≡ false
  none_there none = by (count_by (numbered k.copy.number) ks) refl
    where
      by : (n : ℕ) → count_by (numbered k.copy.number) ks ≡ n → has k.copy.number (copies ks) ≡ false
      by zero e = none_of k.copy.number ks e
      by (suc n) e =
          let x = member (numbered k.copy.number) ks (omega (arith, e)) in
          let pair = named k.copy.number k.buffer x.0.copy.number x.0.buffer
          (omega (arith, count-cons (passes (is_pair k.copy.number k.buffer)) k ks, ap one_if (own_pair k.copy.number k.buffer)))
          (omega (
            arith,
            count-cons (passes (is_pair x.0.copy.number x.0.buffer)) k ks,
            x.2 (passes (is_pair x.0.copy.number x.0.buffer)) (own_pair x.0.copy.number x.0.buffer),
          )) in
          absurd (omega (
            arith,
            none,
            x.2 (λ y. y.buffer == k.buffer)
                (eq-eqb x.0.buffer k.buffer (sym (pair.0 (sym (eqb-true x.0.copy.number k.copy.number x.1))))),
          ))

  apart_live : (name : ℕ) → (k.buffer == name) ≡ false → get (remove m k.buffer) name ≡ get m name
  apart_live name e =
      get-remove nat_cmp_total m k.buffer name ∙ (λ i. cond (other_key name k.buffer (λ d. eqb-false k.buffer name e (sym d)) i) None (get m name))

  own_ends : get (remove m k.buffer) k.buffer ≡ None
  own_ends = get-remove nat_cmp_total m k.buffer k.buffer ∙ (λ i. cond (same_key k.buffer i) None (get m k.buffer))

  more : count_by (is_beyond last) (k ∷ ks) ≡ 0 → with_buffer k.buffer ks ≡ 0
      → ((m : Buffers) → Lives ks m → Held_of ks m → AreNamed ks → count_by (is_beyond last) ks ≡ 0 → len m ≡ datagrams_with_copy (copies ks) last)
      → len m ≡ datagrams_with_copy (copies (k ∷ ks)) last
  more range none rest =
      let live : IsLive m k.buffer = there k.buffer (omega (arith, cons_buffer k.buffer k ks, ap one_if (eq-eqb k.buffer k.buffer refl))) in
      let is = held_from m k.buffer live in
      let inside = within last k (not_beyond (is_beyond last k) (omega (arith, range, count-cons (is_beyond last) k ks))) in
      omega (
        arith,
        one_ends m k.buffer is.0 is.1,
        rest (remove m k.buffer) (λ name h. lives name (k.buffer == name) refl h) (λ name l. held name (k.buffer == name) refl l)
            (named_tail k ks named) (omega (arith, range, count-cons (is_beyond last) k ks)),
        first k.copy (copies ks) (none_there none) inside.0 last inside.1,
      )
    where
      not_beyond : (b : Bool) → one_if b ≡ 0 → b ≡ false
      not_beyond true e = absurd (omega (arith, e))
      not_beyond false e = refl

      lives : (name : ℕ) (b : Bool) → (k.buffer == name) ≡ b → 0 < with_buffer name ks → IsLive (remove m k.buffer) name
      lives name true e h = absurd (omega (arith, h, none, ap (λ (n : ℕ). with_buffer n ks) (eqb-true k.buffer name e)))
      lives name false e h =
          subst (λ (o : Option Held). T (is_some o)) (sym (apart_live name e)) (there name (omega (arith, h, cons_buffer name k ks)))

      held : (name : ℕ) (b : Bool) → (k.buffer == name) ≡ b → IsLive (remove m k.buffer) name → 0 < with_buffer name ks
      held name true e l =
          absurd (subst (λ (o : Option Held). T (is_some o)) (ap (get (remove m k.buffer)) (sym (eqb-true k.buffer name e)) ∙ own_ends) l)
      held name false e l =
          omega (arith, back name (subst (λ (o : Option Held). T (is_some o)) (apart_live name e) l), cons_buffer name k ks, ap one_if e)

pub as_many : (last : ℕ) (ks : List KeptCopy) (m : Buffers) → ((name : ℕ) → 0 < with_buffer name ks → IsLive m name)
    → ((name : ℕ) → IsLive m name → 0 < with_buffer name ks)
    → AreNamed ks → count_by (is_beyond last) ks ≡ 0 → len m ≡ datagrams_with_copy (copies ks) last
as_many last [] m there back named range = nothing_lives m (λ name. by name (get m name) refl) ∙ sym (no_datagram last)
  where
    by : (name : ℕ) (o : Option Held) → get m name ≡ o → get m name ≡ None
    by name None e = e
    by name (Some h) e = absurd (omega (arith, back name (subst (λ (o : Option Held). T (is_some o)) (sym e) tt)))
as_many last (k ∷ ks) m there back named range = by (with_buffer k.buffer ks) refl (as_many last ks)
  where
    by : (n : ℕ) → with_buffer k.buffer ks ≡ n
        → ((m : Buffers) → Lives ks m → Held_of ks m → AreNamed ks → count_by (is_beyond last) ks ≡ 0 → len m ≡ datagrams_with_copy (copies ks) last)
        → len m ≡ datagrams_with_copy (copies (k ∷ ks)) last
    by zero none rest = more last k ks m there back named range none rest
    by (suc n) some rest =
        same last k ks m there back named (omega (arith, some))
        (λ x lives held one. rest x lives held one (omega (arith, range, count-cons (is_beyond last) k ks)))

pub shared_as_many : (d : CopiesData) (last : ℕ) → IsShared d → d.current ≡ None → AreNumbered d last
    → len d.buffers ≡ datagrams_with_copy (copies (all_kept d)) last
shared_as_many d last account idle inside = as_many last (all_kept d) d.buffers
    (λ name h. live_from d.buffers name (omega (arith, h, account.counted name, alone (λ number buffer. buffer == name))))
    (λ name live. omega (arith, account.lives name live, alone (λ number buffer. buffer == name)))
    (λ number name other another h g. account.named number name other another (omega (arith, h, alone (is_pair number name)))
    (omega (arith, g, alone (is_pair other another))))
    (count_none d (is_beyond last) (λ u n. none_pass (λ k. (0 < k.copy.number) × (k.copy.number ≤ last)) (is_beyond last) not_beyond (kept_at d u n)
    (inside u n)))
  where
    alone : (test : ℕ → ℕ → Bool) → holding test d ≡ count_by (passes test) (all_kept d)
    alone test = ap (λ (o : Option Current). count_by (passes test) (all_kept d) + own test o) idle ∙ none_more (count_by (passes test) (all_kept d))
      where
        none_more : (n : ℕ) → n + 0 ≡ n
        none_more n = omega arith

    not_beyond : (k : KeptCopy) → (0 < k.copy.number) × (k.copy.number ≤ last) → is_beyond last k ≡ false
    not_beyond k h = by (k.copy.number == 0) (nat_lt last k.copy.number) refl refl
      where
        by : (a b : Bool) → (k.copy.number == 0) ≡ a → nat_lt last k.copy.number ≡ b → (a || b) ≡ false
        by true b e d = absurd (omega (arith, h.0, eqb-true k.copy.number 0 e))
        by false true e d = absurd (omega (arith, h.1, ltb-true last k.copy.number d))
        by false false e d = refl
