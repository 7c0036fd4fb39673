-- The packet that a send makes (RFC 791 section 3.1, RFC 8200 section 3; 17 is UDP's number).
use Rattle.std.specs.Prelude.{◌≡◌, ℕ, ◌+◌, ◌<◌, ◌^◌, List, [], ◌∷◌, ◌++◌, length}
use Rattle.std.specs.Int.{w16, to_be_bytes}
use Rattle.mv_base.specs.Address.{addr_octets}
use Rattle.mv_base.specs.Checksum.{checksum}
use Rattle.mv_base.specs.declared.addr.Addr.{Addr}
use Rattle.mv_base.specs.declared.addr.Addr.TheVariants.{V4, V6}
use Rattle.label_forwarding.specs.Spelling.{IsFourGroup, IsFourLocal, IsSixGroup, IsSixLocal}

-- version 4 and a header of 5 words, the total length, no identification and no flags, TTL 64, protocol 17, the header
-- checksum, source and group
abbrev pub four_header : Addr → Addr → ℕ → ℕ → List ℕ
four_header source group total sum =
    (0x45 ∷ 0 ∷ []) ++ to_be_bytes w16 total ++ (0 ∷ 0 ∷ 0 ∷ 0 ∷ 64 ∷ 17 ∷ []) ++ to_be_bytes w16 sum
    ++ addr_octets source ++ addr_octets group

-- the header, its checksum taken over the header with a checksum of 0, and the payload
abbrev pub four_written : Addr → Addr → List ℕ → List ℕ
four_written source group payload =
    four_header source group (20 + length payload) (checksum (four_header source group (20 + length payload) 0)) ++ payload

-- version 6, traffic class and flow label 0, the payload length, next header 17, hop limit 64, source and group, and the payload
abbrev pub six_written : Addr → Addr → List ℕ → List ℕ
six_written source group payload =
    (0x60 ∷ 0 ∷ 0 ∷ 0 ∷ []) ++ to_be_bytes w16 (length payload) ++ (17 ∷ 64 ∷ []) ++ addr_octets source ++ addr_octets group
    ++ payload

-- the packet, of the family of its source
abbrev pub written : Addr → Addr → List ℕ → List ℕ
written (V4 source) group payload = four_written (V4 source) group payload
written (V6 source) group payload = six_written (V6 source) group payload

-- Source and group are of one family, the group is forwarded, and the length fits its field.
abbrev pub MayBeSent : Addr → Addr → List ℕ → Type 0
MayBeSent (V4 source) (V4 group) payload =
    (length source ≡ 4) × (length group ≡ 4) × IsFourGroup group × (¬ IsFourLocal group) × (20 + length payload < 2 ^ 16)
MayBeSent (V6 source) (V6 group) payload =
    (length source ≡ 16) × (length group ≡ 16) × IsSixGroup group × (¬ IsSixLocal group) × (length payload < 2 ^ 16)
MayBeSent (V4 source) (V6 group) payload = ⊥
MayBeSent (V6 source) (V4 group) payload = ⊥
