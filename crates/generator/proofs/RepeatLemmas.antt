-- The text of a number depends only on the number modulo 32.
use Rattle.std.proofs.Common.{◌≡◌, ℕ, zero, suc, ◌+◌, ◌%◌, List, ◌++◌, refl, arith}
use Rattle.std.specs.Prelude.{codes}
use Rattle.generator.specs.Made as own
use Rattle.generator.specs.Made.{each, flow, first_part, join_line, joins, last_part, made, pair, scenario, select_line, selects, send_line, sends, source_edge}

-- Lines that are the same one by one are the same together.
each_same : (text other : ℕ → List ℕ) → ((number : ℕ) → text number ≡ other number) → (count : ℕ) → each text count ≡ each other count
each_same text other same zero = refl
each_same text other same (suc count) = λ i. each_same text other same count i ++ same (suc count) i

module _ (number other : ℕ) (alike : number % 32 ≡ other % 32) where
  edge_same : (vpn : ℕ) → source_edge number vpn ≡ source_edge other vpn
  edge_same vpn = omega (arith, alike)

  quarter_same : (edge vpn : ℕ) → (edge + vpn + number) % 4 ≡ (edge + vpn + other) % 4
  quarter_same edge vpn = omega (arith, alike)

  flow_same : (vpn : ℕ) → flow number vpn ≡ flow other vpn
  flow_same vpn = rw (edge_same vpn) refl

  join_same : (vpn edge : ℕ) → join_line number vpn edge ≡ join_line other vpn edge
  join_same vpn edge = rw (edge_same vpn, quarter_same edge vpn) refl

  joins_same : joins number ≡ joins other
  joins_same =
      each_same (λ vpn. each (join_line number vpn) 32) (λ vpn. each (join_line other vpn) 32)
      (λ vpn. each_same (join_line number vpn) (join_line other vpn) (join_same vpn) 32) 8

  send_same : (payload : List ℕ) (vpn : ℕ) → send_line number payload vpn ≡ send_line other payload vpn
  send_same payload vpn = rw (edge_same vpn) refl

  sends_same : (payload : List ℕ) → sends number payload ≡ sends other payload
  sends_same payload = each_same (send_line number payload) (send_line other payload) (send_same payload) 8

  select_same : (vpn : ℕ) → select_line number vpn ≡ select_line other vpn
  select_same vpn = rw (edge_same vpn) refl

  selects_same : selects number ≡ selects other
  selects_same = each_same (select_line number) (select_line other) select_same 8

  first_same : first_part number ≡ first_part other
  first_same = rw (joins_same, sends_same (codes "01")) refl

  last_same : last_part number ≡ last_part other
  last_same = λ i.
      selects_same i ++ codes "settle\nstate\n" ++ sends_same (codes "02") i
      ++ codes "drain\ntick 3\nsettle\nstate\n" ++ sends_same (codes "03") i ++ codes "drain\nstate\n"

  pub made_same : made number ≡ made other
  unfolding own.made
  made_same = rw (first_same, last_same) refl
