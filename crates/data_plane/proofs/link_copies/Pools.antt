-- Who holds a buffer and what it has, as buffers come, are shared and are given back.
use Rattle.std.proofs.Common.{◌≡◌, ◌≢◌, ℕ, ◌+◌, ◌-◌, ◌<◌, ◌==◌, Bool, true, false, cond, T, List, Option, None, Some, is_some, refl, sym, ap, subst, ◌∙◌, arith}
use Rattle.std.specs.FinMap.{get, insert}
use Rattle.std.specs.Option.{option_map}
use Rattle.std.proofs.lemmas.Bool.{eqb-true, eqb-false, eq-eqb}
use Rattle.buf_pool.specs.Held.{Held, held, Buffers, IsLive, shared, given_back}
use Rattle.buf_pool.proofs.CallerLemmas.{got_insert, others_insert, got_live, got_shared, got_fewer, got_ended, others_shared, others_given_back}
use Rattle.data_plane.specs.link_copies.CopiesData.{count_of, octets_in, KeepsBuffers}
use Rattle.data_plane.specs.link_copies.Fading.{AreHeld, Fades}
use Rattle.data_plane.proofs.link_copies.Basics.{one_if, some_equal, not_some}

abbrev pub count_in : Option Held → ℕ
count_in o = elim o [ None ↦ 0 | Some h ↦ h.count ]

abbrev pub octets_of : Option Held → Option (List ℕ)
octets_of o = option_map (λ h. h.octets) o

-- a buffer that someone holds lives
pub live_from : (m : Buffers) (name : ℕ) → 0 < count_of m name → IsLive m name
live_from m name h = by (get m name) refl
  where
    by : (o : Option Held) → get m name ≡ o → IsLive m name
    by None e = absurd (omega (arith, h, ap count_in e))
    by (Some x) e = got_live m name x e

pub held_from : (m : Buffers) (name : ℕ) → IsLive m name → (h : Held) × (get m name ≡ Some h)
held_from m name live = by (get m name) refl live
  where
    by : (o : Option Held) → get m name ≡ o → T (is_some o) → (h : Held) × (get m name ≡ Some h)
    by None e l = absurd l
    by (Some x) e l = (x, e)

-- ---- a buffer is given back

module _ (m : Buffers) (k : ℕ) (live : 0 < count_of m k) where
  back : (name : ℕ) (h : Held) → get m k ≡ Some h → (b : Bool) → (k == name) ≡ b
      → count_of (given_back m k) name + one_if (k == name) ≡ count_of m name
  back name h e true same =
      let one : k ≡ name = eqb-true k name same in
      subst (λ (n : ℕ). count_of (given_back m k) n + one_if (k == name) ≡ count_of m n) one (by (h.count == 1) refl)
    where
      by : (b : Bool) → (h.count == 1) ≡ b → count_of (given_back m k) k + one_if (k == name) ≡ count_of m k
      by true l = omega (arith, ap count_in (got_ended m k h e (eqb-true h.count 1 l)), ap one_if same, ap count_in e, eqb-true h.count 1 l)
      by false l =
          let more : 1 < h.count = omega (arith, live, ap count_in e, eqb-false h.count 1 l) in
          omega (arith, ap count_in (got_fewer m k h e more), ap one_if same, ap count_in e, more)
  back name h e false differs =
      omega (arith, ap count_in (others_given_back m k name (λ e. eqb-false k name differs (sym e))), ap one_if differs)

  pub back_counted : (name : ℕ) → count_of (given_back m k) name + one_if (k == name) ≡ count_of m name
  back_counted name =
      let is = held_from m k (live_from m k live) in
      back name is.0 is.1 (k == name) refl

  fading : (h : Held) → get m k ≡ Some h → (name : ℕ) (g : Held) → get (given_back m k) name ≡ Some g → (b : Bool) → (name == k) ≡ b
      → (octets_in m name ≡ Some g.octets) × (AreHeld m → 0 < g.count)
  fading h e name g is true same =
      let one : name ≡ k = eqb-true name k same in
      subst (λ (n : ℕ). (octets_in m n ≡ Some g.octets) × (AreHeld m → 0 < g.count)) (sym one)
      (by (h.count == 1) refl (ap (get (given_back m k)) (sym one) ∙ is))
    where
      by : (b : Bool) → (h.count == 1) ≡ b → get (given_back m k) k ≡ Some g → (octets_in m k ≡ Some g.octets) × (AreHeld m → 0 < g.count)
      by true l is = absurd (not_some g (sym (got_ended m k h e (eqb-true h.count 1 l)) ∙ is))
      by false l is =
          let more : 1 < h.count = omega (arith, live, ap count_in e, eqb-false h.count 1 l) in
          let same : held h.octets (h.count - 1) ≡ g = some_equal _ _ (sym (got_fewer m k h e more) ∙ is) in
          (ap octets_of e ∙ ap (λ (x : Held). Some x.octets) same, λ _. omega (arith, more, ap (λ (x : Held). x.count) same))
  fading h e name g is false differs =
      let before : get m name ≡ Some g = sym (others_given_back m k name (eqb-false name k differs)) ∙ is in
      (ap octets_of before, λ all. all name g before)

  pub back_fades : Fades m (given_back m k)
  back_fades =
      let is = held_from m k (live_from m k live) in
      record {
        octets = λ name thereafter e. by is.0 is.1 name thereafter (get (given_back m k) name) refl e;
        held = λ all name g e. (fading is.0 is.1 name g e (name == k) refl).1 all;
      }
    where
      by : (h : Held) → get m k ≡ Some h → (name : ℕ) (thereafter : List ℕ) (o : Option Held) → get (given_back m k) name ≡ o
          → octets_in (given_back m k) name ≡ Some thereafter → octets_in m name ≡ Some thereafter
      by h is name thereafter None e octets = absurd (not_some thereafter (sym (ap octets_of e) ∙ octets))
      by h is name thereafter (Some g) e octets = (fading h is name g e (name == k) refl).0 ∙ sym (ap octets_of e) ∙ octets

-- ---- a buffer is shared, or comes

-- what is said of one buffer by what is said of it and of every other
each_name : (P : ℕ → Type 0) (k : ℕ) → P k → ((name : ℕ) → name ≢ k → (k == name) ≡ false → P name) → (name : ℕ) → P name
each_name P k own others name = by (k == name) refl
  where
    by : (b : Bool) → (k == name) ≡ b → P name
    by true e = subst P (eqb-true k name e) own
    by false e = others name (λ d. eqb-false k name e (sym d)) e

module _ (m : Buffers) (k : ℕ) (h : Held) (is : get m k ≡ Some h) where
  pub share_counted : (name : ℕ) → count_of (shared m k 1) name ≡ count_of m name + one_if (k == name)
  share_counted = each_name (λ n. count_of (shared m k 1) n ≡ count_of m n + one_if (k == n)) k
      (omega (arith, ap count_in (got_shared m k 1 h is), ap count_in is, ap one_if (eq-eqb k k refl)))
      (λ name apart e. omega (arith, ap count_in (others_shared m k 1 name apart), ap one_if e))

  pub share_keeps : KeepsBuffers m (shared m k 1)
  share_keeps = each_name (λ n. (octets : List ℕ) → octets_in m n ≡ Some octets → octets_in (shared m k 1) n ≡ Some octets) k
      (λ octets e. ap octets_of (got_shared m k 1 h is) ∙ sym (ap octets_of is) ∙ e)
      (λ name apart d octets e. ap octets_of (others_shared m k 1 name apart) ∙ e)

  pub share_held : AreHeld m → AreHeld (shared m k 1)
  share_held all = each_name (λ n. (g : Held) → get (shared m k 1) n ≡ Some g → 0 < g.count) k
      (λ g e. omega (arith, ap (λ (x : Held). x.count) (some_equal _ g (sym (got_shared m k 1 h is) ∙ e))))
      (λ name apart d g e. all name g (sym (others_shared m k 1 name apart) ∙ e))

module _ (m : Buffers) (k : ℕ) (octets : List ℕ) (count : ℕ) (none : get m k ≡ None) where
  pub put_counted : (name : ℕ) → count_of (insert m k (held octets count)) name ≡ count_of m name + cond (k == name) count 0
  put_counted = each_name (λ n. count_of (insert m k (held octets count)) n ≡ count_of m n + cond (k == n) count 0) k
      (omega (arith, ap count_in (got_insert m k (held octets count)), ap count_in none, ap (λ (b : Bool). cond b count 0) (eq-eqb k k refl)))
      (λ name apart e. omega (arith, ap count_in (others_insert m k (held octets count) name apart), ap (λ (b : Bool). cond b count 0) e))

  pub put_keeps : KeepsBuffers m (insert m k (held octets count))
  put_keeps = each_name (λ n. (x : List ℕ) → octets_in m n ≡ Some x → octets_in (insert m k (held octets count)) n ≡ Some x) k
      (λ x e. absurd (not_some x (sym (ap octets_of none) ∙ e)))
      (λ name apart d x e. ap octets_of (others_insert m k (held octets count) name apart) ∙ e)

  pub put_has : octets_in (insert m k (held octets count)) k ≡ Some octets
  put_has = ap octets_of (got_insert m k (held octets count))

  pub put_held : 0 < count → AreHeld m → AreHeld (insert m k (held octets count))
  put_held some all = each_name (λ n. (g : Held) → get (insert m k (held octets count)) n ≡ Some g → 0 < g.count) k
      (λ g e. omega (arith, some, ap (λ (x : Held). x.count) (some_equal _ g (sym (got_insert m k (held octets count)) ∙ e))))
      (λ name apart d g e. all name g (sym (others_insert m k (held octets count) name apart) ∙ e))

-- ---- the octets after a call

pub kept_octets : (old new : Buffers) → KeepsBuffers old new → (name : ℕ) (before thereafter : List ℕ) → octets_in old name ≡ Some before
    → octets_in new name ≡ Some thereafter → before ≡ thereafter
kept_octets old new keeps name before thereafter e d = some_equal before thereafter (sym (keeps name before e) ∙ d)

pub faded_octets : (old new : Buffers) → Fades old new → (name : ℕ) (before thereafter : List ℕ) → octets_in old name ≡ Some before
    → octets_in new name ≡ Some thereafter → before ≡ thereafter
faded_octets old new fades name before thereafter e d = some_equal before thereafter (sym e ∙ fades.octets name thereafter d)

pub fades_twice : (a b c : Buffers) → Fades a b → Fades b c → Fades a c
fades_twice a b c first last =
    record { octets = λ name thereafter e. first.octets name thereafter (last.octets name thereafter e); held = λ all. last.held (first.held all) }
