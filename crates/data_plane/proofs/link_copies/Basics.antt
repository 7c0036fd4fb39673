-- Small facts of options, truth values and numbers.
use Rattle.std.proofs.Common.{◌≡◌, ℕ, suc, ◌+◌, Bool, cond, Option, Some, None, is_some, sym, ap, arith}
use Rattle.std.proofs.lemmas.Bool.{true≢false}

abbrev pub one_if : Bool → ℕ
one_if b = cond b 1 0

pub one_more : (i : ℕ) → i + 1 ≡ suc i
one_more i = omega arith

pub some_equal : {X : Type 0} (x y : X) → Some x ≡ Some y → x ≡ y
some_equal x y e = cc

pub not_some : {X : Type 0} (x : X) → ◌≡◌ {A = Option X} None (Some x) → ⊥
not_some x e = true≢false (sym (ap is_some e))
