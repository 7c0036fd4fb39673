-- The order of routes: by the length of the prefix, by its first bits, by where they are from, and then by address.
use Rattle.std.specs.Prelude.{ℕ, ◌/◌, ◌-◌, ◌^◌, List, [], ◌∷◌}
use Rattle.std.specs.Int.{w32, w128, from_be_bytes}
use Rattle.std.specs.Ordering.{nat_cmp, on, then_cmp}
use Rattle.std.specs.declared.cmp.Ordering.{Ordering}
use Rattle.std.specs.Cmp.{IsTotalOrder, nat_cmp_total}
use Rattle.std.specs.Cmp.Lexicographic.{slice_cmp, nat_list_cmp_total}
use Rattle.std.proofs.lemmas.Cmp.{on_total, then_total}
use Rattle.mv_base.specs.declared.addr.Addr.{Addr}
use Rattle.mv_base.specs.declared.addr.Addr.TheVariants.{V4, V6}
use Rattle.choice_defs.specs.Choice.{addr_cmp}
use Rattle.choice_defs.proofs.OrderLemmas.{addr_cmp_total}
use Rattle.umh_select.specs.declared.key.Place.{Place}
use Rattle.umh_select.specs.declared.key.Place.TheVariants.{First, Here, From, Last}
use Rattle.umh_select.specs.declared.key.RouteKey.{RouteKey}

-- the version of the address
abbrev pub family : Addr → ℕ
family (V4 octets) = 4
family (V6 octets) = 6

-- the first bits of the address, as a number
abbrev pub front : Addr → ℕ → ℕ
front (V4 octets) bits = from_be_bytes w32 octets / 2 ^ (32 - bits)
front (V6 octets) bits = from_be_bytes w128 octets / 2 ^ (128 - bits)

-- by peer and route distinguisher, between the two ends
abbrev pub place_part : Place → List ℕ
place_part First = 0 ∷ []
place_part Here = 1 ∷ []
place_part (From peer rd) = 2 ∷ peer.0 ∷ rd.0
place_part Last = 3 ∷ []

-- of one length, family and first bits: by place, and then by address
abbrev pub end_cmp : RouteKey → RouteKey → Ordering
end_cmp = then_cmp (on (λ (key : RouteKey). place_part key.place) (slice_cmp nat_cmp)) (on (λ (key : RouteKey). key.prefix.addr) addr_cmp)

-- of one length: by family and by the first bits before that
abbrev pub family_cmp : RouteKey → RouteKey → Ordering
family_cmp =
    then_cmp (on (λ (key : RouteKey). family key.prefix.addr) nat_cmp)
    (then_cmp (on (λ (key : RouteKey). front key.prefix.addr key.prefix.bits) nat_cmp) end_cmp)

abbrev pub key_cmp : RouteKey → RouteKey → Ordering
key_cmp = then_cmp (on (λ (key : RouteKey). key.prefix.bits) nat_cmp) family_cmp

-- the order is total
pub key_total : IsTotalOrder key_cmp
key_total =
    then_total (on_total (λ (key : RouteKey). key.prefix.bits) nat_cmp_total)
    (then_total (on_total (λ (key : RouteKey). family key.prefix.addr) nat_cmp_total)
    (then_total (on_total (λ (key : RouteKey). front key.prefix.addr key.prefix.bits) nat_cmp_total)
    (then_total (on_total (λ (key : RouteKey). place_part key.place) nat_list_cmp_total)
    (on_total (λ (key : RouteKey). key.prefix.addr) addr_cmp_total))))
