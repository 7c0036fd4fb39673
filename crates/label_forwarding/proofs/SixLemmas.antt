-- IPv6 packets: the octets spell their fields, and the tests tell what the fields are.
use Rattle.std.proofs.Common.{◌≡◌, ℕ, ◌+◌, ◌/◌, ◌%◌, ◌<◌, ◌≤◌, Bool, cond, not, eqb, ltb, ◌⊎◌, List, ◌∷◌, ◌++◌, length, get_or, drop, Option, None, Some, refl, sym, ap, ◌∙◌, arith, inl, inr}
use Rattle.std.specs.Int.{w16, from_be_bytes, to_be_bytes}
use Rattle.std.proofs.lemmas.List.{length-append}
use Rattle.mv_base.specs.Octets.{IsOctets}
use Rattle.mv_base.proofs.Fields.{wide16}
use Rattle.label_forwarding.specs.declared.fault.PacketFault.{PacketFault}
use Rattle.label_forwarding.specs.declared.fault.PacketFault.TheVariants as reasons
use Rattle.label_forwarding.specs.Spelling.{SixFields, AreSix, six_octets, LenFits, IsSixGroup, IsSixLocal, MeetsSix}
use Rattle.label_forwarding.specs.FirstFault.{SixFault}
use Rattle.label_forwarding.specs.FirstFault as six_faults
use Rattle.label_forwarding.specs.Reading.{bad, number_at, octets_in, six_fault}
use Rattle.label_forwarding.proofs.OctetLemmas.{joined, field_at, octet_in, cut, length_in, number_back, number_below, front_one}
use Rattle.label_forwarding.proofs.TestLemmas.{Tells, holds, fails, tells_as, below_tells, differs_tells}

-- ---- what the tests read

-- what is read of the octets of these fields
pub record SixRead (octets : List ℕ) (f : SixFields) : Type 0 where
  pub version : get_or octets 0 0 / 16 ≡ 6
  pub len : length octets ≡ 40 + length f.payload
  pub payload : number_at 4 octets ≡ f.len
  pub source : octets_in 16 8 octets ≡ f.source
  pub group : octets_in 16 24 octets ≡ f.group
  pub first : get_or octets 24 0 ≡ get_or f.group 0 0
  pub second : get_or octets 25 0 ≡ get_or f.group 1 0

pub six_read : (f : SixFields) → AreSix f → SixRead (six_octets f) f
six_read f are =
    let octets : List ℕ = six_octets f in
    let at_one : drop 1 octets ≡ f.flow ++ (to_be_bytes w16 f.len ++ (f.ignored ++ (f.source ++ (f.group ++ f.payload)))) = refl in
    let one = field_at 1 3 4 octets f.flow (to_be_bytes w16 f.len ++ (f.ignored ++ (f.source ++ (f.group ++ f.payload)))) at_one are.flow refl in
    let four = field_at 4 2 6 octets (to_be_bytes w16 f.len) (f.ignored ++ (f.source ++ (f.group ++ f.payload))) one.1 refl refl in
    let six = field_at 6 2 8 octets f.ignored (f.source ++ (f.group ++ f.payload)) four.1 are.ignored refl in
    let eight = field_at 8 16 24 octets f.source (f.group ++ f.payload) six.1 are.source refl in
    let thereafter = field_at 24 16 40 octets f.group f.payload eight.1 are.group refl in
    let class_lt = are.class in
    record {
      version = omega arith;
      len = omega (
        arith,
        are.flow,
        are.ignored,
        are.source,
        are.group,
        length-append f.flow (to_be_bytes w16 f.len ++ (f.ignored ++ (f.source ++ (f.group ++ f.payload)))),
        length-append f.ignored (f.source ++ (f.group ++ f.payload)),
        length-append f.source (f.group ++ f.payload),
        length-append f.group f.payload,
      );
      payload = ap (from_be_bytes w16) four.0 ∙ wide16.again f.len are.len;
      source = eight.0;
      group = thereafter.0;
      first = octet_in 24 0 24 octets f.group f.payload eight.1 (omega (arith, are.group)) refl;
      second = octet_in 24 1 25 octets f.group f.payload eight.1 (omega (arith, are.group)) refl;
    }

-- ---- the fields that octets have

abbrev pub six_fields : List ℕ → SixFields
six_fields octets = record {
  class = get_or octets 0 0 % 16;
  flow = octets_in 3 1 octets;
  len = number_at 4 octets;
  ignored = octets_in 2 6 octets;
  source = octets_in 16 8 octets;
  group = octets_in 16 24 octets;
  payload = drop 40 octets;
}

pub six_laid : (octets : List ℕ) → IsOctets octets → 40 ≤ length octets → get_or octets 0 0 / 16 ≡ 6
    → AreSix (six_fields octets) × (octets ≡ six_octets (six_fields octets))
six_laid octets fits le version =
    let first : get_or octets 0 0 < 256 = fits 0 in
    let octet : get_or octets 0 0 ≡ 96 + get_or octets 0 0 % 16 = omega arith in
    let at_six = cut 6 2 8 octets refl ∙ joined refl (cut 8 16 24 octets refl ∙ joined refl (cut 24 16 40 octets refl)) in
    let at_one = cut 1 3 4 octets refl ∙ joined refl (cut 4 2 6 octets refl ∙ joined (sym (number_back 4 octets fits (omega arith))) at_six) in (
      record {
        class = omega arith;
        flow = length_in 3 1 octets (omega arith);
        len = number_below 4 octets fits;
        ignored = length_in 2 6 octets (omega arith);
        source = length_in 16 8 octets (omega arith);
        group = length_in 16 24 octets (omega arith);
      },
      front_one octets (omega arith) ∙ (λ i. octet i ∷ at_one i),
    )

-- ---- the tests

chain : Bool → Bool → Bool → Option (ℕ × PacketFault)
chain a b c = cond a (bad 4 reasons.TotalLength) (cond b (bad 24 reasons.NotMulticast) (cond c (bad 24 reasons.LinkLocal) None))

-- what the three tests tell of fields
record SixTold (a b c : Bool) (f : SixFields) : Type 0 where
  pub len : Tells a (LenFits f) (¬ LenFits f)
  pub multicast : Tells b (IsSixGroup f.group) (¬ IsSixGroup f.group)
  pub global : Tells c (¬ IsSixLocal f.group) (IsSixLocal f.group)

chain_settles : (a b c : Bool) (f : SixFields) → SixTold a b c f
    → ((chain a b c ≡ None) × MeetsSix f) ⊎ ((x : ℕ × PacketFault) × (chain a b c ≡ Some x) × SixFault f x)
unfolding chain
chain_settles a b c f told =
    elim told.len [
      | inr n ↦ inr (_, rw n.0 refl, six_faults.total_length n.1 refl)
      | inl t ↦ elim told.multicast [
        | inr n ↦ inr (_, rw (t.0, n.0) refl, six_faults.not_multicast t.1 n.1 refl)
        | inl m ↦ elim told.global [
          | inr l ↦ inr (_, rw (t.0, m.0, l.0) refl, six_faults.link_local t.1 m.1 l.1 refl)
          | inl g ↦ inl (rw (t.0, m.0, g.0) refl, record { len = t.1; multicast = m.1; global = g.1 })
        ]
      ]
    ]

chain_meets : (a b c : Bool) (f : SixFields) → SixTold a b c f → MeetsSix f → chain a b c ≡ None
unfolding chain
chain_meets a b c f told m = rw (holds told.len (λ n. n m.len), holds told.multicast (λ n. n m.multicast), holds told.global m.global) refl

chain_fails : (a b c : Bool) (f : SixFields) (x : ℕ × PacketFault) → SixTold a b c f → SixFault f x → chain a b c ≡ Some x
unfolding chain
chain_fails a b c f x told (six_faults.total_length n is) = rw (fails told.len n, is) refl
chain_fails a b c f x told (six_faults.not_multicast t n is) = rw (holds told.len (λ k. k t), fails told.multicast n, is) refl
chain_fails a b c f x told (six_faults.link_local t m l is) =
    rw (holds told.len (λ k. k t), holds told.multicast (λ k. k m), fails told.global (λ g. g l), is) refl

abbrev bad_len : List ℕ → Bool
bad_len octets = not (eqb (number_at 4 octets + 40) (length octets))

abbrev bad_group : List ℕ → Bool
bad_group octets = not (eqb (get_or octets 24 0) 255)

abbrev is_local : List ℕ → Bool
is_local octets = ltb (get_or octets 25 0 % 16) 3

is_chain : (octets : List ℕ) → six_fault octets ≡ chain (bad_len octets) (bad_group octets) (is_local octets)
unfolding six_fault chain
is_chain octets = refl

told_of : (octets : List ℕ) (f : SixFields) → SixRead octets f → SixTold (bad_len octets) (bad_group octets) (is_local octets) f
told_of octets f read =
    let second : get_or octets 25 0 % 16 ≡ get_or f.group 1 0 % 16 = ap (λ n. n % 16) read.second in
    record {
      len = tells_as (λ e. omega (arith, e, read.len, read.payload)) (λ ne e. ne (omega (arith, e, read.len, read.payload)))
          (differs_tells (number_at 4 octets + 40) (length octets));
      multicast = tells_as (λ e. sym read.first ∙ e) (λ ne e. ne (read.first ∙ e)) (differs_tells (get_or octets 24 0) 255);
      global = tells_as (λ h k. omega (arith, h, k, second)) (λ h. omega (arith, h, second)) (below_tells (get_or octets 25 0 % 16) 3);
    }

-- ---- the first fault

pub six_settles : (octets : List ℕ) (f : SixFields) → SixRead octets f
    → ((six_fault octets ≡ None) × MeetsSix f) ⊎ ((x : ℕ × PacketFault) × (six_fault octets ≡ Some x) × SixFault f x)
six_settles octets f read =
    elim (chain_settles _ _ _ f (told_of octets f read)) [
      | inl fine ↦ inl (is_chain octets ∙ fine.0, fine.1)
      | inr found ↦ inr (found.0, is_chain octets ∙ found.1, found.2)
    ]

pub six_meets : (octets : List ℕ) (f : SixFields) → SixRead octets f → MeetsSix f → six_fault octets ≡ None
six_meets octets f read m = is_chain octets ∙ chain_meets _ _ _ f (told_of octets f read) m

pub six_fails : (octets : List ℕ) (f : SixFields) (x : ℕ × PacketFault) → SixRead octets f → SixFault f x → six_fault octets ≡ Some x
six_fails octets f x read fault = is_chain octets ∙ chain_fails _ _ _ f x (told_of octets f read) fault
