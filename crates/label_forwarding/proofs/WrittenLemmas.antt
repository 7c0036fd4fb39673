-- The packet that a send makes is spelled.
use Rattle.std.proofs.Common.{◌≡◌, ℕ, ◌+◌, ◌^◌, ◌<◌, List, [], ◌∷◌, ◌++◌, length, refl, sym, ap, ◌∙◌, append_assoc, arith}
use Rattle.std.specs.Int.{w16, to_be_bytes}
use Rattle.mv_base.specs.Checksum.{checksum}
use Rattle.mv_base.specs.declared.addr.Addr.{Addr}
use Rattle.mv_base.specs.declared.addr.Addr.TheVariants.{V4, V6}
use Rattle.label_forwarding.specs.Spelling as packets
use Rattle.label_forwarding.specs.Spelling.{FourFields, four_octets, unsummed, SixFields, six_octets, IsPacket}
use Rattle.label_forwarding.specs.Written.{four_header, six_written, written, MayBeSent}

-- the fields of an IPv4 packet that is sent
abbrev four_sent : List ℕ → List ℕ → List ℕ → ℕ → FourFields
four_sent source group payload sum = record {
  words = 5;
  service = 0;
  total = 20 + length payload;
  ignored = 0 ∷ 0 ∷ 0 ∷ 0 ∷ 64 ∷ 17 ∷ [];
  sum = sum;
  source = source;
  group = group;
  rest = payload;
}

-- Twelve octets, and then texts end to end.
grouped : (front x y z : List ℕ) → ((front ++ x) ++ y) ++ z ≡ front ++ (x ++ (y ++ z))
grouped front x y z = append_assoc (front ++ x) y z ∙ append_assoc front x (y ++ z)

four_laid_out : (source group payload : List ℕ) (sum : ℕ)
    → four_header (V4 source) (V4 group) (20 + length payload) sum ++ payload ≡ four_octets (four_sent source group payload sum)
four_laid_out source group payload sum =
    grouped ((0x45 ∷ 0 ∷ []) ++ to_be_bytes w16 (20 + length payload) ++ (0 ∷ 0 ∷ 0 ∷ 0 ∷ 64 ∷ 17 ∷ []) ++ to_be_bytes w16 sum) source group payload

-- the header without a payload
header_alone : (source group payload : List ℕ) (sum : ℕ)
    → four_header (V4 source) (V4 group) (20 + length payload) 0 ≡ unsummed (four_sent source group payload sum)
header_alone source group payload sum =
    let front : List ℕ = (0x45 ∷ 0 ∷ []) ++ to_be_bytes w16 (20 + length payload) ++ (0 ∷ 0 ∷ 0 ∷ 0 ∷ 64 ∷ 17 ∷ []) ++ to_be_bytes w16 0 in
    append_assoc front source group ∙ ap (λ (xs : List ℕ). front ++ (source ++ xs)) (sym (nothing_after group))
  where
    nothing_after : (xs : List ℕ) → xs ++ [] ≡ xs
    nothing_after [] = refl
    nothing_after (x ∷ xs) = ap (λ (ys : List ℕ). x ∷ ys) (nothing_after xs)

six_laid_out : (source group payload : List ℕ) → six_written (V6 source) (V6 group) payload
    ≡ six_octets (record {
      class = 0;
      flow = 0 ∷ 0 ∷ 0 ∷ [];
      len = length payload;
      ignored = 17 ∷ 64 ∷ [];
      source = source;
      group = group;
      payload =
          payload;
    })
six_laid_out source group payload = grouped ((0x60 ∷ 0 ∷ 0 ∷ 0 ∷ []) ++ to_be_bytes w16 (length payload) ++ (17 ∷ 64 ∷ [])) source group payload

pub written_spelled : (source group : Addr) (payload : List ℕ) → MayBeSent source group payload → IsPacket source group (written source group payload)
written_spelled (V4 source) (V4 group) payload h =
    let sum : ℕ = checksum (four_header (V4 source) (V4 group) (20 + length payload) 0) in
    let f : FourFields = four_sent source group payload sum in
    let small : sum < 2 ^ 16 = omega arith in
    packets.four f
    (record { words = omega arith; total = h.4; ignored = refl; sum = small; source = h.0; group = h.1 })
    (record {
      header = (omega arith, omega arith);
      total = refl;
      sum = ap checksum (header_alone source group payload sum);
      multicast = h.2;
      global =
          h.3;
    })
    (four_laid_out source group payload sum) refl refl
written_spelled (V6 source) (V6 group) payload h =
    packets.six (record {
      class = 0;
      flow = 0 ∷ 0 ∷ 0 ∷ [];
      len = length payload;
      ignored = 17 ∷ 64 ∷ [];
      source = source;
      group = group;
      payload =
          payload;
    })
    (record { class = omega arith; flow = refl; len = h.4; ignored = refl; source = h.0; group = h.1 })
    (record { len = refl; multicast = h.2; global = h.3 })
    (six_laid_out source group payload) refl refl
written_spelled (V4 source) (V6 group) payload h = absurd h
written_spelled (V6 source) (V4 group) payload h = absurd h
