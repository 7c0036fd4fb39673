-- The buffers of a table, and how many blocks it has.
use Rattle.std.specs.Prelude.{ℕ, refl}
use Rattle.std.specs.Coded.{Coded, code_by, coded×, coded_ℕ}
use Rattle.buf_pool.specs.Held.{Buffers, buffers_code}

pub record Stock : Type 0 where
  pub held : Buffers
  pub blocks : ℕ

abbrev pub stock_code : Coded Stock
stock_code =
    code_by (Buffers × ℕ) (coded× buffers_code coded_ℕ) (λ s. (s.held, s.blocks)) (λ p. record { held = p.0; blocks = p.1 }) (λ _. refl)

abbrev pub stock : Buffers → ℕ → Stock
stock held blocks = record { held = held; blocks = blocks }
