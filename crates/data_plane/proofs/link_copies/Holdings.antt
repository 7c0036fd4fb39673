-- Who holds which buffer, by the sums over all ways.
use Rattle.std.proofs.Common.{◌≡◌, ◌≢◌, ℕ, ◌+◌, ◌<◌, ◌==◌, ◌&&◌, Bool, true, false, cond, T, is_some, List, [], ◌∷◌, length, Option, None, Some, refl, sym, ap, subst, ◌∙◌, arith}
use Rattle.std.specs.FinMap as maps
use Rattle.std.specs.List.{AllByRecursion, count_by}
use Rattle.std.proofs.lemmas.Bool.{and_parts, and_from, eqb-true, eq-eqb, ne_eqb}
use Rattle.buf_pool.specs.Held.{Held, IsLive}
use Rattle.mv_base.specs.declared.ids.NodeId.{NodeId}
use Rattle.data_plane.specs.link_copies.CopiesData.{KeptCopy, Current, CopiesData, LacksNumber, kept_at, all_kept, count_of, holding, holders, holders_for, IsShared}
use Rattle.data_plane.specs.link_copies.Kept.{total}
use Rattle.data_plane.specs.link_copies.Fading.{AreHeld}
use Rattle.data_plane.proofs.link_copies.Sums.{total_none}
use Rattle.data_plane.proofs.link_copies.Lists.{length-all, count-all, count-cons}
use Rattle.data_plane.proofs.link_copies.Pools.{count_in, held_from}

-- whether a copy's number and buffer pass the test
abbrev pub passes : (ℕ → ℕ → Bool) → KeptCopy → Bool
passes test k = test k.copy.number k.buffer

abbrev pub own : (ℕ → ℕ → Bool) → Option Current → ℕ
own test current = elim current [ None ↦ 0 | Some c ↦ cond (test c.number c.buffer) 1 0 ]

-- how many copies there are of the datagram of that number
abbrev pub copies_of : CopiesData → ℕ → ℕ
copies_of d number = count_by (λ k. k.copy.number == number) (all_kept d)

-- the number and the buffer are these
abbrev pub is_pair : ℕ → ℕ → ℕ → ℕ → Bool
is_pair number name n buffer = (n == number) && (buffer == name)

pub own_pair : (number name : ℕ) → is_pair number name number name ≡ true
own_pair number name = and_from _ _ (eq-eqb number number refl) (eq-eqb name name refl)

pub is_pair_of : (number name n buffer : ℕ) → is_pair number name n buffer ≡ true → (n ≡ number) × (buffer ≡ name)
is_pair_of number name n buffer h =
    let parts = and_parts (n == number) (buffer == name) h in
    (eqb-true n number parts.0, eqb-true buffer name parts.1)

pub length_total : (d : CopiesData) → length (all_kept d) ≡ total length d.ways
length_total d = length-all (maps.entries d.ways)

-- where no copy of a way passes the test, none does
pub count_none : (d : CopiesData) (t : KeptCopy → Bool) → ((u n : NodeId) → count_by t (kept_at d u n) ≡ 0) → count_by t (all_kept d) ≡ 0
count_none d t each = count-all t (maps.entries d.ways) ∙ total_none (count_by t) refl (maps.len d.ways) d.ways refl (λ way. each way.0 way.1)

pub none_pass : (P : KeptCopy → Type 0) (t : KeptCopy → Bool) → ((k : KeptCopy) → P k → t k ≡ false) → (ks : List KeptCopy) → AllByRecursion P ks
    → count_by t ks ≡ 0
none_pass P t fails [] all = refl
none_pass P t fails (k ∷ ks) all =
    omega (arith, count-cons t k ks, ap (λ (b : Bool). cond {A = ℕ} b 1 0) (fails k all.0), none_pass P t fails ks all.1)

pub lacks_none : (d : CopiesData) (number : ℕ) → LacksNumber d number → copies_of d number ≡ 0
lacks_none d number lacks =
    count_none d (λ k. k.copy.number == number) (λ u n. none_pass (λ k. k.copy.number ≢ number) (λ k. k.copy.number == number)
    (λ k apart. ne_eqb k.copy.number number apart) (kept_at d u n) (lacks u n))

pub held_total : (test : ℕ → ℕ → Bool) (d : CopiesData) → holding test d ≡ total (count_by (passes test)) d.ways + own test d.current
held_total test d = ap (λ (n : ℕ). n + own test d.current) (count-all (passes test) (maps.entries d.ways))

-- a buffer that lives has someone who holds it
pub are_held : (d : CopiesData) → IsShared d → AreHeld d.buffers
are_held d shared name held is =
    let live : IsLive d.buffers name = by is in
    omega (arith, shared.lives name live, shared.counted name, ap count_in is)
  where
    by : maps.get d.buffers name ≡ Some held → IsLive d.buffers name
    by e = subst (λ (o : Option Held). T (is_some o)) (sym e) tt

pub lives_from : (d : CopiesData) → ((name : ℕ) → count_of d.buffers name ≡ holders d name) → AreHeld d.buffers → (name : ℕ) → IsLive d.buffers name
    → 0 < holders d name
lives_from d counted all name live =
    let is = held_from d.buffers name live in
    omega (arith, counted name, ap count_in is.1, all name is.0 is.1)

-- where each number that has a buffer after had it before
pub shared_after : (old new : CopiesData) → ((name : ℕ) → count_of new.buffers name ≡ holders new name) → AreHeld new.buffers
    → ((number name : ℕ) → 0 < holders_for new number name → 0 < holders_for old number name) → IsShared old → IsShared new
shared_after old new counted all fewer shared = record {
  counted = counted;
  lives = lives_from new counted all;
  named = λ number name other another h g. shared.named number name other another (fewer number name h) (fewer other another g);
}
