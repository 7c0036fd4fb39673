-- What contracts see of a pool: a finite map from the name of a buffer to its octets and its count.
use Rattle.std.specs.Prelude.{◌≡◌, ℕ, ◌+◌, ◌-◌, ◌<◌, ◌==◌, ◌^◌, T, cond, List, None, Some, is_some, IfSome, refl}
use Rattle.std.specs.declared.option.Option.{Option}
use Rattle.std.specs.Coded.{Coded, code_by, coded×, coded_ℕ, coded_list}
use Rattle.std.specs.Ordering.{nat_cmp}
use Rattle.std.specs.FinMap.{FinMap, code, get, insert, remove}

-- the octets of a buffer, and how many hold it
pub record Held : Type 0 where
  pub octets : List ℕ
  pub count : ℕ

abbrev pub held : List ℕ → ℕ → Held
held octets count = record { octets = octets; count = count }

abbrev pub held_code : Coded Held
held_code =
    code_by (List ℕ × ℕ) (coded× (coded_list coded_ℕ) coded_ℕ) (λ h. (h.octets, h.count))
    (λ p. record { octets = p.0; count = p.1 }) (λ _. refl)

abbrev pub Buffers : Type 0
Buffers = FinMap nat_cmp Held

abbrev pub buffers_code : Coded Buffers
buffers_code = code coded_ℕ held_code

-- each buffer is held by someone
abbrev pub AreHeld : Buffers → Type 0
AreHeld m = (name : ℕ) (h : Held) → get m name ≡ Some h → 0 < h.count

abbrev pub IsLive : Buffers → ℕ → Type 0
IsLive m name = T (is_some (get m name))

-- the count of the buffer stays below 2 ^ 32 with so many more
abbrev pub HasRoom : Buffers → ℕ → ℕ → Type 0
HasRoom m name more = IfSome (get m name) (λ h. h.count + more < 2 ^ 32)

abbrev pub with_more : Buffers → ℕ → ℕ → Option Held → Buffers
with_more m name more None = m
with_more m name more (Some h) = insert m name (held h.octets (h.count + more))

-- the buffers once so many more hold that one
abbrev pub shared : Buffers → ℕ → ℕ → Buffers
shared m name more = with_more m name more (get m name)

abbrev pub with_less : Buffers → ℕ → Option Held → Buffers
with_less m name None = m
with_less m name (Some h) = cond (h.count == 1) (remove m name) (insert m name (held h.octets (h.count - 1)))

-- the buffers once one fewer holds that one, which ends at 0
abbrev pub given_back : Buffers → ℕ → Buffers
given_back m name = with_less m name (get m name)
