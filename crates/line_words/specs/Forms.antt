-- The forms of the words: what a word writes, or the fault at it.
use Rattle.std.specs.Prelude.{ℕ, ◌-◌, ◌%◌, ◌^◌, ◌==◌, ◌&&◌, ◌||◌, Bool, true, false, not, nat_eq, nat_le, List, [], ◌∷◌, ◌++◌, length}
use Rattle.std.specs.Prelude.{slice_index, Option, None, Some, option_map, Result, Ok, Err, if◌then◌else◌, codes}
use Rattle.std.specs.Option.{option_or}
use Rattle.std.specs.List.{list_any, slice_split}
use Rattle.std.specs.Int.{w16, w32, w128, to_be_bytes, from_be_bytes}
use Rattle.std.specs.Cmp.Lexicographic.{pointwise}
use Rattle.hex.specs.Hex.{decode_of}
use Rattle.mv_base.specs.declared.addr.Addr.{Addr}
use Rattle.mv_base.specs.declared.addr.Addr.TheVariants.{V4, V6}
use Rattle.mv_base.specs.declared.prefix.Prefix.{Prefix}
use Rattle.mv_base.specs.declared.rd.Rd.{Rd}
use Rattle.mv_base.specs.declared.rd.Rule.{Rule}
use Rattle.mv_base.specs.declared.rd.Rule.TheVariants.{Highest, Nearest, Hash}
use Rattle.mv_base.specs.Number.{number_of, cut_of, only_if, ◌>>?◌}
use Rattle.mv_base.specs.Dotted.{dotted_of}
use Rattle.mv_base.specs.AddrText.{addr_of}
use Rattle.mv_base.specs.declared.route_targets.communities.Target.{Target}
use Rattle.mv_base.specs.route_targets.Targets.{same_target}
use Rattle.scenario_defs.specs.Prefixes.{same_prefix}
use Rattle.line_words.specs.declared.fault.Reason.{Reason}
use Rattle.line_words.specs.declared.fault.Reason.TheVariants as reasons
use Rattle.line_words.specs.declared.fault.TextFault.{TextFault}
use Rattle.line_words.specs.declared.words.Row.{Row}
use Rattle.line_words.specs.Words.{Placed}

infixl 10 ◌>>=◌
-- the value goes on, where there is no fault
abbrev pub ◌>>=◌ : {A B : Type 0} → Result A TextFault → (A → Result B TextFault) → Result B TextFault
(Ok x) >>= next = next x
(Err e) >>= next = Err e

-- a fault at a line and a column
abbrev pub fault : {A : Type 0} → ℕ → ℕ → Reason → Result A TextFault
fault line column reason = Err (record { line = line; column = column; reason = reason })

-- the value, or the fault of that reason at the word
abbrev pub or_fault : {A : Type 0} → Option A → Row → Placed → Reason → Result A TextFault
or_fault (Some x) row word reason = Ok x
or_fault None row word reason = fault row.number word.column reason

-- the IPv4 address that a dotted text writes
abbrev pub ipv4_of : List ℕ → Option Addr
ipv4_of text = option_map (λ octets. V4 octets) (dotted_of text)

-- whether the octet begins an IPv6 address of 2000::/3 or of fc00::/7 (RFC 4291 section 2.4, RFC 4193 section 3.1)
abbrev pub is_unicast_front : ℕ → Bool
is_unicast_front front = (nat_le 32 front && nat_le front 63) || front == 252 || front == 253

-- whether the address is unicast: of IPv4 with a first octet of 1 to 223, or of IPv6 with a first octet of those
abbrev pub is_unicast : Addr → Bool
is_unicast (V4 octets) = nat_le 1 (slice_index octets 0) && nat_le (slice_index octets 0) 223
is_unicast (V6 octets) = is_unicast_front (slice_index octets 0)

-- whether the address is that of a group: of IPv4 with a first octet of 224 to 239, outside 224.0.0.0/24, or of IPv6 and of
-- ff00::/8, with a scope of 3 to 15, since those below stay on a node or a link (RFC 4291 section 2.7)
abbrev pub is_group : Addr → Bool
is_group (V4 octets) =
    nat_le 224 (slice_index octets 0) && nat_le (slice_index octets 0) 239 &&
    not (slice_index octets 0 == 224 && slice_index octets 1 == 0 && slice_index octets 2 == 0)
is_group (V6 octets) = slice_index octets 0 == 255 && nat_le 3 (slice_index octets 1 % 16)

-- whether both addresses are of one family
abbrev pub same_family : Addr → Addr → Bool
same_family (V4 a) (V4 b) = true
same_family (V6 a) (V6 b) = true
same_family (V4 a) (V6 b) = false
same_family (V6 a) (V4 b) = false

-- a word that writes an address of IPv4
unfoldable pub ipv4_at : Row → Placed → Result Addr TextFault
ipv4_at row word = or_fault (ipv4_of word.text) row word reasons.Address

-- a word that writes an address of either family
unfoldable pub addr_at : Row → Placed → Result Addr TextFault
addr_at row word = or_fault (addr_of word.text) row word reasons.Address

-- a word that writes the address of a source
unfoldable pub source_at : Row → Placed → Result Addr TextFault
source_at row word = addr_at row word >>= λ addr. if is_unicast addr then Ok addr else fault row.number word.column reasons.Source

-- a word that writes the address of a group
unfoldable pub group_at : Row → Placed → Result Addr TextFault
group_at row word = addr_at row word >>= λ addr. if is_group addr then Ok addr else fault row.number word.column reasons.Group

-- the number from 1 to that limit that a text writes
unfoldable pub number_to : ℕ → List ℕ → Option ℕ
number_to limit text = number_of text >>? λ number. only_if (nat_le 1 number && nat_le number limit) number

-- a word that writes a number from 1 to that limit
abbrev pub number_at : ℕ → Row → Placed → Result ℕ TextFault
number_at limit row word = or_fault (number_to limit word.text) row word reasons.Number

-- the number of a VRF that a text writes
unfoldable pub vrf_number_of : List ℕ → Option ℕ
vrf_number_of text = number_of text >>? λ number. only_if (nat_le 1 number && nat_le number 4095) number

-- all eight octets that a text `N:M` writes: the two of the kind, then N, below 2^16, in two and M, below 2^32, in four
unfoldable pub numbered_of : ℕ → ℕ → List ℕ → Option (List ℕ)
numbered_of kind sub_kind text =
    cut_of 58 text >>? λ cut. number_of cut.0 >>? λ n. number_of cut.1 >>? λ m.
    only_if (nat_le n 65535 && nat_le m 4294967295) (kind ∷ sub_kind ∷ (to_be_bytes w16 n ++ to_be_bytes w32 m))

-- all eight octets that a text `ADDR:M` writes: the two of the kind, then the four of ADDR, and M, below 2^16, in two
unfoldable pub addressed_of : ℕ → ℕ → List ℕ → Option (List ℕ)
addressed_of kind sub_kind text =
    cut_of 58 text >>? λ cut. dotted_of cut.0 >>? λ addr. number_of cut.1 >>? λ m.
    only_if (nat_le m 65535) (kind ∷ sub_kind ∷ (addr ++ to_be_bytes w16 m))

-- the route distinguisher that a text writes, all eight octets, of which the first two are the type: `N:M` one of type 0,
-- `ADDR:M` one of type 1 (RFC 4364 section 4.2)
unfoldable pub rd_of : List ℕ → Option Rd
rd_of text = option_map (λ octets. record { 0 = octets }) (option_or (numbered_of 0 0 text) (addressed_of 0 1 text))

-- the Route Target that a text writes, all eight octets, of which the first two are the type and the sub-type: `N:M` one of
-- a two-octet AS, `ADDR:M` one of an IPv4 address (RFC 4360 section 4)
unfoldable pub target_of : List ℕ → Option Target
target_of text = option_map (λ octets. record { 0 = record { 0 = octets } }) (option_or (numbered_of 0 2 text) (addressed_of 1 2 text))

-- what each of the texts writes, where each writes something
abbrev pub each_of : {A : Type 0} → (List ℕ → Option A) → List (List ℕ) → Option (List A)
each_of read [] = Some []
each_of read (text ∷ more) = read text >>? λ first. each_of read more >>? λ rest. Some (first ∷ rest)

-- whether no two of the list are the same
abbrev pub are_distinct : {A : Type 0} → (A → A → Bool) → List A → Bool
are_distinct same [] = true
are_distinct same (first ∷ rest) = not (list_any (same first) rest) && are_distinct same rest

-- the list that a text writes with commas: 1 to 8, no two of them the same
unfoldable pub list_of : {A : Type 0} → (A → A → Bool) → (List ℕ → Option A) → List ℕ → Option (List A)
list_of same read text =
    each_of read (slice_split (λ b. b == 44) text) >>? λ found. only_if (nat_le (length found) 8 && are_distinct same found) found

-- a word that writes Route Targets
unfoldable pub targets_at : Row → Placed → Result (List Target) TextFault
targets_at row word = or_fault (list_of same_target target_of word.text) row word reasons.Targets

-- a word that says how upstream hops are chosen
unfoldable pub rule_at : Row → Placed → Result Rule TextFault
rule_at row word =
    if pointwise nat_eq word.text (codes "highest") then Ok Highest else
    if pointwise nat_eq word.text (codes "nearest") then Ok Nearest else
    if pointwise nat_eq word.text (codes "hash") then Ok Hash else
    fault row.number word.column reasons.Choice

-- whether the address has that many bits, and none after them is set
abbrev pub is_prefix : Addr → ℕ → Bool
is_prefix (V4 octets) bits = nat_le bits 32 && (from_be_bytes w32 octets % 2 ^ (32 - bits)) == 0
is_prefix (V6 octets) bits = nat_le bits 128 && (from_be_bytes w128 octets % 2 ^ (128 - bits)) == 0

-- the prefix of that address and that many bits, where there is one
abbrev pub prefix_if : Addr → ℕ → Option Prefix
prefix_if addr bits = only_if (is_prefix addr bits) (record { addr = addr; bits = bits })

-- the prefix that a text `ADDR/N` writes
unfoldable pub prefix_of : List ℕ → Option Prefix
prefix_of text = cut_of 47 text >>? λ cut. addr_of cut.0 >>? λ addr. number_of cut.1 >>? λ bits. prefix_if addr bits

-- a word that writes prefixes
unfoldable pub prefixes_at : Row → Placed → Result (List Prefix) TextFault
prefixes_at row word = or_fault (list_of same_prefix prefix_of word.text) row word reasons.Prefix

-- a word that writes octets in hexadecimal digits, or `-` for none
unfoldable pub payload_at : Row → Placed → Result (List ℕ) TextFault
payload_at row word =
    if pointwise nat_eq word.text (codes "-") then Ok [] else
    elim (decode_of word.text) [ Ok octets ↦ Ok octets | Err error ↦ fault row.number word.column reasons.Hex ]
