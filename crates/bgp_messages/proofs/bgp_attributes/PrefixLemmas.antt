-- Prefixes without bits after their length: the octets that spell them.
use Rattle.std.proofs.Common.{◌≡◌, ℕ, zero, suc, ◌+◌, ◌-◌, ◌*◌, ◌/◌, ◌%◌, ◌^◌, ◌<◌, ◌≤◌, List, [], ◌∷◌, ◌++◌, length, take, replicate, refl, sym, ap, ◌∙◌, arith}
use Rattle.std.specs.Int.{w32, w128, to_be_bytes, from_be_bytes, byte_at, bytes_high_first}
use Rattle.std.proofs.Math.Nat.{mul_assoc, mul_comm, mul-le-mul_right, mul-mod_right, mul-add-mod_self_right, mul-add-div_right, div-one, mod-eq_of_lt}
use Rattle.std.proofs.lemmas.Nat.{pow-add, div-add-mod', div-mul-add}
use Rattle.std.proofs.lemmas.List.{length-take-le}
use Rattle.mv_base.specs.Address.{addr_octets, IsAddr}
use Rattle.mv_base.specs.Octets.{IsOctets}
use Rattle.mv_base.specs.Prefix.{IsPrefixOf}
use Rattle.mv_base.specs.declared.addr.Addr.{Addr}
use Rattle.mv_base.specs.declared.addr.Addr.TheVariants.{V4, V6}
use Rattle.mv_base.specs.declared.rd.Rd.{Rd}
use Rattle.bgp_values.specs.declared.mvpn_nlri.route.Afi.{Afi}
use Rattle.bgp_values.specs.declared.mvpn_nlri.route.Afi.TheVariants.{Ipv4, Ipv6}
use Rattle.bgp_messages.specs.bgp_attributes.Spelling.{addr_bits, octets_for, cleared, padded, address, SpellsVpn}

-- ---- the number of octets, the most significant first

abbrev value : List ℕ → ℕ
value [] = 0
value (o ∷ os) = o * 256 ^ length os + value os

power : (k : ℕ) → 256 ^ suc k ≡ 256 * 256 ^ k
power k = let one : suc k ≡ 1 + k = omega arith in ap (λ (n : ℕ). 256 ^ n) one ∙ pow-add 256 1 k

power_pos : (k : ℕ) → 0 < 256 ^ k
power_pos zero = omega arith
power_pos (suc k) = omega (arith, power k, power_pos k)

after_octets : (o : ℕ) (os : List ℕ) → IsOctets (o ∷ os) → IsOctets os
after_octets o os fits i = fits (suc i)

below : (os : List ℕ) → IsOctets os → value os < 256 ^ length os
below [] fits = omega arith
below (o ∷ os) fits =
    let unit : ℕ = 256 ^ length os in
    let most : o * unit ≤ 255 * unit = mul-le-mul_right unit (let lt : o < 256 = fits 0 in omega (arith, lt)) in
    omega (arith, power (length os), most, below os (after_octets o os fits))

-- ---- the octets of a number

octet_at : (k n : ℕ) → byte_at k n ≡ n / 256 ^ k % 256
octet_at zero n = ap (λ (m : ℕ). m % 256) (sym (div-one n))
octet_at (suc k) n = refl

-- A multiple of the power of 256 changes no octet below it.
same_low : (k m n : ℕ) → bytes_high_first k (m * 256 ^ k + n) ≡ bytes_high_first k n
same_low zero m n = refl
same_low (suc k) m n =
    let unit : ℕ = 256 ^ k in
    let whole : m * 256 ^ suc k ≡ (m * 256) * unit = ap (λ (u : ℕ). m * u) (power k) ∙ sym (mul_assoc m 256 unit) in
    let sum : m * 256 ^ suc k + n ≡ (m * 256) * unit + n = ap (λ (u : ℕ). u + n) whole in
    let first : byte_at k ((m * 256) * unit + n) ≡ byte_at k n =
    octet_at k ((m * 256) * unit + n) ∙ ap (λ (q : ℕ). q % 256) (quotient (m * 256) k n) ∙ mul-add-mod_self_right m 256 (n / unit)
    ∙ sym (octet_at k n) in
    ap (λ (x : ℕ). byte_at k x ∷ bytes_high_first k x) sum ∙ (λ i. first i ∷ same_low k (m * 256) n i)
  where
    quotient : (q k n : ℕ) → (q * 256 ^ k + n) / 256 ^ k ≡ q + n / 256 ^ k
    quotient q k n = mul-add-div_right (power_pos k) q n

octets_of : (os : List ℕ) → IsOctets os → bytes_high_first (length os) (value os) ≡ os
octets_of [] fits = refl
octets_of (o ∷ os) fits =
    let k : ℕ = length os in
    let quotient : value (o ∷ os) / 256 ^ k ≡ o = div-mul-add o (256 ^ k) (value os) (below os (after_octets o os fits)) in
    let first : byte_at k (value (o ∷ os)) ≡ o = octet_at k (value (o ∷ os)) ∙ ap (λ (q : ℕ). q % 256) quotient ∙ mod-eq_of_lt (fits 0) in
    let others : bytes_high_first k (value (o ∷ os)) ≡ os = same_low k o (value os) ∙ octets_of os (after_octets o os fits) in
    λ i. first i ∷ others i

-- ---- zeros after the first octets

pos_of : (o u v : ℕ) → 0 < u → o * u + v ≡ 0 → (o ≡ 0) × (v ≡ 0)
pos_of zero u v pos e = (refl, omega (arith, e))
pos_of (suc o) u v pos e = absurd (omega (arith, e, pos))

all_zeros : (os : List ℕ) → value os ≡ 0 → os ≡ replicate (length os) 0
all_zeros [] e = refl
all_zeros (o ∷ os) e =
    let (first, others) = pos_of o (256 ^ length os) (value os) (power_pos (length os)) e in
    λ i. first i ∷ all_zeros os others i

last_zeros : (n : ℕ) (os : List ℕ) → IsOctets os → n ≤ length os → value os % 256 ^ (length os - n) ≡ 0
    → take n os ++ replicate (length os - n) 0 ≡ os
last_zeros zero os fits le e =
    let whole : length os - 0 ≡ length os = omega arith in
    let none : value os ≡ 0 = sym (mod-eq_of_lt (below os fits)) ∙ ap (λ (k : ℕ). value os % 256 ^ k) (sym whole) ∙ e in
    ap (λ (k : ℕ). replicate k 0) whole ∙ sym (all_zeros os none)
last_zeros (suc n) [] fits le e = absurd (omega (arith, le))
last_zeros (suc n) (o ∷ os) fits le e =
    let k : ℕ = length os - n in
    let same : suc (length os) - suc n ≡ k = omega arith in
    let fewer : n ≤ length os = omega (arith, le) in
    let sum : length os ≡ n + k = omega (arith, fewer) in
    let parts : 256 ^ length os ≡ 256 ^ n * 256 ^ k = ap (λ (j : ℕ). 256 ^ j) sum ∙ pow-add 256 n k in
    let front : o * 256 ^ length os ≡ (o * 256 ^ n) * 256 ^ k = ap (λ (u : ℕ). o * u) parts ∙ sym (mul_assoc o (256 ^ n) (256 ^ k)) in
    let rest : value os % 256 ^ k ≡ 0 =
    sym (mul-add-mod_self_right (o * 256 ^ n) (256 ^ k) (value os)) ∙ ap (λ (u : ℕ). (u + value os) % 256 ^ k) (sym front)
    ∙ ap (λ (j : ℕ). value (o ∷ os) % 256 ^ j) (sym same) ∙ e in
    ap (λ (j : ℕ). o ∷ (take n os ++ replicate j 0)) same ∙ ap (λ (xs : List ℕ). o ∷ xs) (last_zeros n os (after_octets o os fits) fewer rest)

-- ---- addresses

number_32 : (os : List ℕ) → length os ≡ 4 → from_be_bytes w32 os ≡ value os
number_32 [] len = absurd (omega (arith, len))
number_32 (a ∷ []) len = absurd (omega (arith, len))
number_32 (a ∷ b ∷ []) len = absurd (omega (arith, len))
number_32 (a ∷ b ∷ c ∷ []) len = absurd (omega (arith, len))
number_32 (a ∷ b ∷ c ∷ d ∷ []) len = omega arith
number_32 (a ∷ b ∷ c ∷ d ∷ x ∷ more) len = absurd (omega (arith, len))

number_128 : (os : List ℕ) → length os ≡ 16 → from_be_bytes w128 os ≡ value os
number_128 [] len = absurd (omega (arith, len))
number_128 (a ∷ []) len = absurd (omega (arith, len))
number_128 (a ∷ b ∷ []) len = absurd (omega (arith, len))
number_128 (a ∷ b ∷ c ∷ []) len = absurd (omega (arith, len))
number_128 (a ∷ b ∷ c ∷ d ∷ []) len = absurd (omega (arith, len))
number_128 (a ∷ b ∷ c ∷ d ∷ e ∷ []) len = absurd (omega (arith, len))
number_128 (a ∷ b ∷ c ∷ d ∷ e ∷ f ∷ []) len = absurd (omega (arith, len))
number_128 (a ∷ b ∷ c ∷ d ∷ e ∷ f ∷ g ∷ []) len = absurd (omega (arith, len))
number_128 (a ∷ b ∷ c ∷ d ∷ e ∷ f ∷ g ∷ h ∷ []) len = absurd (omega (arith, len))
number_128 (a ∷ b ∷ c ∷ d ∷ e ∷ f ∷ g ∷ h ∷ i ∷ []) len = absurd (omega (arith, len))
number_128 (a ∷ b ∷ c ∷ d ∷ e ∷ f ∷ g ∷ h ∷ i ∷ j ∷ []) len = absurd (omega (arith, len))
number_128 (a ∷ b ∷ c ∷ d ∷ e ∷ f ∷ g ∷ h ∷ i ∷ j ∷ k ∷ []) len = absurd (omega (arith, len))
number_128 (a ∷ b ∷ c ∷ d ∷ e ∷ f ∷ g ∷ h ∷ i ∷ j ∷ k ∷ l ∷ []) len = absurd (omega (arith, len))
number_128 (a ∷ b ∷ c ∷ d ∷ e ∷ f ∷ g ∷ h ∷ i ∷ j ∷ k ∷ l ∷ m ∷ []) len = absurd (omega (arith, len))
number_128 (a ∷ b ∷ c ∷ d ∷ e ∷ f ∷ g ∷ h ∷ i ∷ j ∷ k ∷ l ∷ m ∷ n ∷ []) len = absurd (omega (arith, len))
number_128 (a ∷ b ∷ c ∷ d ∷ e ∷ f ∷ g ∷ h ∷ i ∷ j ∷ k ∷ l ∷ m ∷ n ∷ o ∷ []) len = absurd (omega (arith, len))
number_128 (a ∷ b ∷ c ∷ d ∷ e ∷ f ∷ g ∷ h ∷ i ∷ j ∷ k ∷ l ∷ m ∷ n ∷ o ∷ p ∷ []) len = omega arith
number_128 (a ∷ b ∷ c ∷ d ∷ e ∷ f ∷ g ∷ h ∷ i ∷ j ∷ k ∷ l ∷ m ∷ n ∷ o ∷ p ∷ x ∷ more) len = absurd (omega (arith, len))

-- what a power of 2 divides is divided by a smaller one
divided : (x k h : ℕ) → k ≤ h → x % 2 ^ h ≡ 0 → x % 2 ^ k ≡ 0
divided x k h le e =
    let j : ℕ = h - k in
    let sum : h ≡ k + j = omega (arith, le) in
    let power : 2 ^ h ≡ 2 ^ k * 2 ^ j = ap (λ (n : ℕ). 2 ^ n) sum ∙ pow-add 2 k j in
    let q : ℕ = x / 2 ^ h in
    let whole : q * 2 ^ h ≡ x = omega (arith, div-add-mod' x (2 ^ h), e) in
    let multiple : x ≡ 2 ^ k * (2 ^ j * q) = sym whole ∙ ap (λ (m : ℕ). q * m) power ∙ mul_comm q (2 ^ k * 2 ^ j) ∙ mul_assoc (2 ^ k) (2 ^ j) q in
    ap (λ (n : ℕ). n % 2 ^ k) multiple ∙ mul-mod_right (2 ^ k) (2 ^ j * q)

powers : (k : ℕ) → 256 ^ k ≡ 2 ^ (8 * k)
powers zero = refl
powers (suc k) =
    let more : 8 * suc k ≡ 8 + 8 * k = omega arith in
    power k ∙ ap (λ (u : ℕ). 256 * u) (powers k) ∙ sym (ap (λ (n : ℕ). 2 ^ n) more ∙ pow-add 2 8 (8 * k))

-- Nothing stands after the bits of the prefix.
same_octets : (n bits : ℕ) (os : List ℕ) → length os ≡ n → IsOctets os → bits ≤ 8 * n → value os % 2 ^ (8 * n - bits) ≡ 0
    → padded n (take (octets_for bits) os) ≡ os
same_octets n bits os len fits most none =
    let m : ℕ = octets_for bits in
    let fewer : m ≤ length os = omega (arith, len, most) in
    let zeros : value os % 2 ^ (8 * (length os - m)) ≡ 0 = divided (value os) (8 * (length os - m)) (8 * n - bits) (omega (arith, len, most)) none in
    let tail : value os % 256 ^ (length os - m) ≡ 0 = ap (λ (u : ℕ). value os % u) (powers (length os - m)) ∙ zeros in
    let count : n - length (take m os) ≡ length os - m = omega (arith, len, length-take-le m os fewer) in
    ap (λ (k : ℕ). take m os ++ replicate k 0) count ∙ last_zeros m os fits fewer tail

-- Clearing the bits after the prefix changes nothing.
same_number : (all bits number : ℕ) → number % 2 ^ (all - bits) ≡ 0 → cleared all bits number ≡ number
same_number all bits number e = omega (arith, div-add-mod' number (2 ^ (all - bits)), e)

again_32 : (bits : ℕ) (os : List ℕ) → length os ≡ 4 → IsOctets os → IsPrefixOf (V4 os) bits
    → to_be_bytes w32 (cleared 32 bits (from_be_bytes w32 (padded 4 (take (octets_for bits) os)))) ≡ os
again_32 bits os len fits (most, none) =
    let number : from_be_bytes w32 os ≡ value os = number_32 os len in
    let zeros : value os % 2 ^ (32 - bits) ≡ 0 = ap (λ (x : ℕ). x % 2 ^ (32 - bits)) (sym number) ∙ none in
    let back : to_be_bytes w32 (value os) ≡ os = ap (λ (k : ℕ). bytes_high_first k (value os)) (sym len) ∙ octets_of os fits in
    ap (λ (xs : List ℕ). to_be_bytes w32 (cleared 32 bits (from_be_bytes w32 xs))) (same_octets 4 bits os len fits most zeros)
    ∙ ap (λ (x : ℕ). to_be_bytes w32 (cleared 32 bits x)) number ∙ ap (to_be_bytes w32) (same_number 32 bits (value os) zeros) ∙ back

again_128 : (bits : ℕ) (os : List ℕ) → length os ≡ 16 → IsOctets os → IsPrefixOf (V6 os) bits
    → to_be_bytes w128 (cleared 128 bits (from_be_bytes w128 (padded 16 (take (octets_for bits) os)))) ≡ os
again_128 bits os len fits (most, none) =
    let number : from_be_bytes w128 os ≡ value os = number_128 os len in
    let zeros : value os % 2 ^ (128 - bits) ≡ 0 = ap (λ (x : ℕ). x % 2 ^ (128 - bits)) (sym number) ∙ none in
    let back : to_be_bytes w128 (value os) ≡ os = ap (λ (k : ℕ). bytes_high_first k (value os)) (sym len) ∙ octets_of os fits in
    ap (λ (xs : List ℕ). to_be_bytes w128 (cleared 128 bits (from_be_bytes w128 xs))) (same_octets 16 bits os len fits most zeros)
    ∙ ap (λ (x : ℕ). to_be_bytes w128 (cleared 128 bits x)) number ∙ ap (to_be_bytes w128) (same_number 128 bits (value os) zeros) ∙ back

-- the family of an address
abbrev pub own_afi : Addr → Afi
own_afi (V4 octets) = Ipv4
own_afi (V6 octets) = Ipv6

-- The octets that hold the bits of an address without bits after them are read as that address.
pub address_again : (addr : Addr) (bits : ℕ) → IsAddr addr → IsOctets (addr_octets addr) → IsPrefixOf addr bits
    → address (own_afi addr) bits (take (octets_for bits) (addr_octets addr)) ≡ addr
unfolding address
address_again (V4 octets) bits len fits is = ap (λ (xs : List ℕ). V4 xs) (again_32 bits octets len fits is)
address_again (V6 octets) bits len fits is = ap (λ (xs : List ℕ). V6 xs) (again_128 bits octets len fits is)

prefix_len : (addr : Addr) (bits : ℕ) → IsAddr addr → IsPrefixOf addr bits
    → (bits ≤ addr_bits (own_afi addr)) × (octets_for bits ≤ length (addr_octets addr))
prefix_len (V4 octets) bits len is = (is.0, omega (arith, is.0, len))
prefix_len (V6 octets) bits len is = (is.0, omega (arith, is.0, len))

-- A prefix without bits after it is spelled by the octets that hold its bits.
pub prefix_spelled : (rd : Rd) (addr : Addr) (bits : ℕ) (label : List ℕ) → length rd.0 ≡ 8 → length label ≡ 3 → IsAddr addr
    → IsOctets (addr_octets addr) → IsPrefixOf addr bits
    → SpellsVpn (own_afi addr) rd (record { addr = addr; bits = bits }) ((88 + bits) ∷ (label ++ (rd.0 ++ take (octets_for bits) (addr_octets addr))))
prefix_spelled rd addr bits label eight three len fits is =
    let size = prefix_len addr bits len is in
    record {
      label = label;
      octets = take (octets_for bits) (addr_octets addr);
      label_len = three;
      rd_len = eight;
      bits = size.0;
      octets_len = length-take-le (octets_for bits) (addr_octets addr) size.1;
      parts = refl;
      addr = sym (address_again addr bits len fits is);
    }
