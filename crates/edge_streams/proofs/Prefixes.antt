-- The prefix that the octets of a VPN route spell has no bit set after it.
use Rattle.std.proofs.Common.{◌≡◌, ℕ, zero, suc, ◌+◌, ◌-◌, ◌*◌, ◌/◌, ◌%◌, ◌^◌, ◌<◌, ◌≤◌, List, [], ◌∷◌, length, refl, sym, ap, ◌∙◌, arith}
use Rattle.std.specs.Int.{w32, w128, to_be_bytes, from_be_bytes, byte_at, bytes_high_first}
use Rattle.std.proofs.Math.Nat.{div-one, mod-one, mul-mod_left}
use Rattle.std.proofs.Math.Pow.{mod-mod-pow}
use Rattle.std.proofs.Math.Arith.{mod-mul}
use Rattle.std.proofs.lemmas.Nat.{pow-add}
use Rattle.bgp_values.specs.declared.mvpn_nlri.route.Afi.{Afi}
use Rattle.bgp_values.specs.declared.mvpn_nlri.route.Afi.TheVariants.{Ipv4, Ipv6}
use Rattle.bgp_messages.specs.bgp_attributes.Spelling.{addr_bits, cleared, padded, address}
use Rattle.bgp_messages.specs.bgp_update.Written.{afi_of, IsVpnPrefix}

-- the number of octets, the most significant first
abbrev value : List ℕ → ℕ
value [] = 0
value (o ∷ os) = o * 256 ^ length os + value os

power : (k : ℕ) → 256 ^ suc k ≡ 256 * 256 ^ k
power k = let one : suc k ≡ 1 + k = omega arith in ap (λ (n : ℕ). 256 ^ n) one ∙ pow-add 256 1 k

positive : (k : ℕ) → 0 < 256 ^ k
positive zero = omega arith
positive (suc k) = omega (arith, power k, positive k)

octet_at : (k n : ℕ) → byte_at k n ≡ n / 256 ^ k % 256
octet_at zero n = ap (λ (m : ℕ). m % 256) (sym (div-one n))
octet_at (suc k) n = refl

count_high : (k n : ℕ) → length (bytes_high_first k n) ≡ k
count_high zero n = refl
count_high (suc k) n = ap suc (count_high k n)

value_high : (k n : ℕ) → value (bytes_high_first k n) ≡ n % 256 ^ k
value_high zero n = sym (mod-one n)
value_high (suc k) n =
    let two_five_six : 0 < 256 = omega arith in
    (λ i. octet_at k n i * 256 ^ count_high k n i + value_high k n i)
    ∙ sym (ap (λ (u : ℕ). n % u) (power k) ∙ mod-mul n two_five_six (positive k))

four : (a b c d : ℕ) → from_be_bytes w32 (a ∷ b ∷ c ∷ d ∷ []) ≡ value (a ∷ b ∷ c ∷ d ∷ [])
four a b c d = omega arith

sixteen : (a b c d e f g h i j k l m n o p : ℕ)
    → from_be_bytes w128 (a ∷ b ∷ c ∷ d ∷ e ∷ f ∷ g ∷ h ∷ i ∷ j ∷ k ∷ l ∷ m ∷ n ∷ o ∷ p ∷ [])
    ≡ value (a ∷ b ∷ c ∷ d ∷ e ∷ f ∷ g ∷ h ∷ i ∷ j ∷ k ∷ l ∷ m ∷ n ∷ o ∷ p ∷ [])
sixteen a b c d e f g h i j k l m n o p = omega arith

number_32 : (n : ℕ) → from_be_bytes w32 (to_be_bytes w32 n) ≡ n % 2 ^ 32
number_32 n = four (byte_at 3 n) (byte_at 2 n) (byte_at 1 n) (byte_at 0 n) ∙ value_high 4 n

number_128 : (n : ℕ) → from_be_bytes w128 (to_be_bytes w128 n) ≡ n % 2 ^ 128
number_128 n =
    sixteen (byte_at 15 n) (byte_at 14 n) (byte_at 13 n) (byte_at 12 n) (byte_at 11 n) (byte_at 10 n) (byte_at 9 n) (byte_at 8 n) (byte_at 7 n)
    (byte_at 6 n) (byte_at 5 n) (byte_at 4 n) (byte_at 3 n) (byte_at 2 n) (byte_at 1 n) (byte_at 0 n)
    ∙ value_high 16 n

-- no bit after the first ones is left
none_after : (all bits number : ℕ) → bits ≤ all → cleared all bits number % 2 ^ all % 2 ^ (all - bits) ≡ 0
none_after all bits number le =
    let sum : all ≡ bits + (all - bits) = omega (arith, le) in
    let unit : ℕ = 2 ^ (all - bits) in
    ap (λ (n : ℕ). cleared all bits number % 2 ^ n % unit) sum ∙ mod-mod-pow (cleared all bits number) bits (all - bits)
    ∙ mul-mod_left (number / unit) unit

pub is_prefix : (afi : Afi) (bits : ℕ) (octets : List ℕ) → bits ≤ addr_bits afi → IsVpnPrefix (address afi bits octets) bits
unfolding address
is_prefix Ipv4 bits octets le =
    let number : ℕ = from_be_bytes w32 (padded 4 octets) in
    (refl, (le, ap (λ (n : ℕ). n % 2 ^ (32 - bits)) (number_32 (cleared 32 bits number)) ∙ none_after 32 bits number le))
is_prefix Ipv6 bits octets le =
    let number : ℕ = from_be_bytes w128 (padded 16 octets) in
    (refl, (le, ap (λ (n : ℕ). n % 2 ^ (128 - bits)) (number_128 (cleared 128 bits number)) ∙ none_after 128 bits number le))

pub own_afi : (afi : Afi) (bits : ℕ) (octets : List ℕ) → afi_of (address afi bits octets) ≡ afi
unfolding address
own_afi Ipv4 bits octets = refl
own_afi Ipv6 bits octets = refl
