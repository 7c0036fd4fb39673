-- Addresses in text: dotted text of IPv4, and eight groups of IPv6.
use Rattle.std.specs.Prelude.{◌≡◌, ℕ, ◌+◌, ◌*◌, nat_lt, List, [], ◌∷◌, length, false, Option, None, Some}
use Rattle.std.specs.Borrow.{Bor}
use Rattle.std.specs.Char.{digit_value}
use Rattle.std.specs.Net.Addr.{octets_of}
use Rattle.std.specs.Net.Grammar.{IsDotted, IsGroups}
use Rattle.mv_base.specs.Number.{cut_of, only_if, ◌>>?◌}
use Rattle.mv_base.specs.Dotted.{dotted_of}
use Rattle.mv_base.specs.declared.addr.Addr.{Addr}
use Rattle.mv_base.specs.declared.addr.Addr.TheVariants.{V4, V6}

-- The text writes the address: four decimal numbers without leading zeros and with dots between them, or eight groups
-- of one to four hexadecimal digits with colons between them.
abbrev pub IsAddrText : List ℕ → Addr → Type 0
IsAddrText text (V4 octets) = IsDotted text octets
IsAddrText text (V6 octets) = (segments : List ℕ) × (octets ≡ octets_of segments) × IsGroups false text segments × (length segments ≡ 8)

-- one hexadecimal digit
abbrev pub digit_of : ℕ → Option ℕ
digit_of octet = only_if (nat_lt (digit_value octet) 16) (digit_value octet)

-- four hexadecimal digits
unfoldable pub digits_of : ℕ → ℕ → ℕ → ℕ → Option ℕ
digits_of a b c d =
    digit_of a >>? λ a. digit_of b >>? λ b. digit_of c >>? λ c. digit_of d >>? λ d. Some (((a * 16 + b) * 16 + c) * 16 + d)

-- one to four hexadecimal digits
unfoldable pub group_of : List ℕ → Option ℕ
group_of [] = None
group_of (d ∷ []) = digits_of 48 48 48 d
group_of (c ∷ d ∷ []) = digits_of 48 48 c d
group_of (b ∷ c ∷ d ∷ []) = digits_of 48 b c d
group_of (a ∷ b ∷ c ∷ d ∷ []) = digits_of a b c d
group_of (a ∷ b ∷ c ∷ d ∷ next ∷ more) = None

-- a group that a colon follows, and the text after the colon
unfoldable pub group_front_of : List ℕ → Option (ℕ × List ℕ)
group_front_of text = cut_of 58 text >>? λ cut. group_of cut.0 >>? λ group. Some (group, cut.1)

-- eight groups with colons between them
unfoldable pub groups_of : List ℕ → Option (List ℕ)
groups_of text =
    group_front_of text >>? λ a. group_front_of a.1 >>? λ b. group_front_of b.1 >>? λ c. group_front_of c.1 >>? λ d.
    group_front_of d.1 >>? λ e. group_front_of e.1 >>? λ f. group_front_of f.1 >>? λ g. group_of g.1 >>? λ h.
    Some (octets_of (a.0 ∷ b.0 ∷ c.0 ∷ d.0 ∷ e.0 ∷ f.0 ∷ g.0 ∷ h ∷ []))

-- the address that a text writes
unfoldable pub addr_of : List ℕ → Option Addr
addr_of text = elim (dotted_of text) [ Some octets ↦ Some (V4 octets) | None ↦ groups_of text >>? λ octets. Some (V6 octets) ]

-- a group, and a text that is lent
abbrev pub group_texts : ℕ × Bor (List ℕ) → ℕ × List ℕ
group_texts front = (front.0, front.1.now)
