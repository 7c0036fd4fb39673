-- IPv4 packets: the octets spell their fields, and the tests tell what the fields are.
use Rattle.std.proofs.Common.{◌≡◌, ℕ, ◌+◌, ◌-◌, ◌*◌, ◌/◌, ◌%◌, ◌<◌, ◌≤◌, Bool, cond, not, ◌||◌, ◌&&◌, eqb, ltb, ◌⊎◌, List, ◌∷◌, ◌++◌, length, get_or, take, drop, Option, None, Some, refl, sym, ap, ◌∙◌, append_assoc, arith, inl, inr}
use Rattle.std.specs.Int.{w16, from_be_bytes, to_be_bytes}
use Rattle.std.proofs.lemmas.List.{take_at, drop-take, length-append}
use Rattle.std.proofs.Math.Seq.{take-append-add}
use Rattle.mv_base.specs.Checksum.{checksum}
use Rattle.mv_base.specs.Octets.{IsOctets}
use Rattle.mv_base.proofs.Fields.{wide16}
use Rattle.label_forwarding.specs.declared.fault.PacketFault.{PacketFault}
use Rattle.label_forwarding.specs.declared.fault.PacketFault.TheVariants as reasons
use Rattle.label_forwarding.specs.Spelling.{FourFields, AreFour, four_octets, unsummed, HeaderFits, TotalFits, SumFits, IsFourGroup, IsFourLocal, MeetsFour}
use Rattle.label_forwarding.specs.FirstFault.{FourFault}
use Rattle.label_forwarding.specs.FirstFault as four_faults
use Rattle.label_forwarding.specs.Reading as reading
use Rattle.label_forwarding.specs.Reading.{bad, number_at, octets_in, header_len, four_fault}
use Rattle.label_forwarding.proofs.OctetLemmas.{joined, field_at, octet_in, cut, length_in, number_back, number_below, front_two}
use Rattle.label_forwarding.proofs.TestLemmas.{Tells, holds, fails, tells_as, below_tells, differs_tells, same_tells, or_tells, and_tells}

-- ---- what the tests read

-- what is read of the octets of these fields
pub record FourRead (octets : List ℕ) (f : FourFields) : Type 0 where
  pub version : get_or octets 0 0 / 16 ≡ 4
  pub words : get_or octets 0 0 % 16 ≡ f.words
  pub len : length octets ≡ 20 + length f.rest
  pub total : number_at 2 octets ≡ f.total
  pub sum : number_at 10 octets ≡ f.sum
  pub source : octets_in 4 12 octets ≡ f.source
  pub group : octets_in 4 16 octets ≡ f.group
  pub first : get_or octets 16 0 ≡ get_or f.group 0 0
  pub second : get_or octets 17 0 ≡ get_or f.group 1 0
  pub third : get_or octets 18 0 ≡ get_or f.group 2 0
  pub header : 5 ≤ f.words → reading.unsummed (header_len octets) octets ≡ unsummed f

-- The header with a checksum of 0, by what stands before and after the checksum.
header_is : (words service : ℕ) (total ignored sum source group rest octets : List ℕ) (count len : ℕ) → length total ≡ 2 → length ignored ≡ 6
    → length source ≡ 4 → length group ≡ 4 → len ≡ 20 + count
    → octets ≡ (64 + words) ∷ service ∷ (total ++ (ignored ++ (sum ++ (source ++ (group ++ rest))))) → drop 12 octets ≡ source ++ (group ++ rest)
    → reading.unsummed len octets ≡ (64 + words) ∷ service ∷ (total ++ (ignored ++ (0 ∷ 0 ∷ (source ++ (group ++ take count rest)))))
header_is words service total ignored sum source group rest octets count len two six four_a four_b fit whole thereafter =
    let front : List ℕ = (64 + words) ∷ service ∷ (total ++ ignored) in
    let ten : length front ≡ 10 = omega (arith, length-append total ignored) in
    let split : octets ≡ front ++ (sum ++ (source ++ (group ++ rest))) =
    whole ∙ ap (λ (xs : List ℕ). (64 + words) ∷ service ∷ xs) (sym (append_assoc total ignored (sum ++ (source ++ (group ++ rest))))) in
    let before : take 10 octets ≡ front = ap (take 10) split ∙ take_at front (sum ++ (source ++ (group ++ rest))) 10 ten in
    let left : len ≡ 12 + (4 + (4 + count)) = omega arith in
    let kept : drop 12 (take len octets) ≡ source ++ (group ++ take count rest) =
    ap (λ n. drop 12 (take n octets)) left ∙ (drop-take 12 (4 + (4 + count)) octets ∙ (ap (take (4 + (4 + count))) thereafter
    ∙ (ap (λ n. take (n + (4 + count)) (source ++ (group ++ rest))) (sym four_a) ∙ (take-append-add source (group ++ rest) (4 + count)
    ∙ ap (λ (xs : List ℕ). source ++ xs) (ap (λ n. take (n + count) (group ++ rest)) (sym four_b) ∙ take-append-add group rest count))))) in
    joined before (ap (λ (xs : List ℕ). 0 ∷ 0 ∷ xs) kept)
    ∙ ap (λ (xs : List ℕ). (64 + words) ∷ service ∷ xs) (append_assoc total ignored (0 ∷ 0 ∷ (source ++ (group ++ take count rest))))

pub four_read : (f : FourFields) → AreFour f → FourRead (four_octets f) f
four_read f are =
    let octets : List ℕ = four_octets f in
    let at_two : drop 2 octets ≡ to_be_bytes w16 f.total ++ (f.ignored ++ (to_be_bytes w16 f.sum ++ (f.source ++ (f.group ++ f.rest)))) = refl in
    let two =
    field_at 2 2 4 octets (to_be_bytes w16 f.total) (f.ignored ++ (to_be_bytes w16 f.sum ++ (f.source ++ (f.group ++ f.rest)))) at_two refl refl
    in
    let four = field_at 4 6 10 octets f.ignored (to_be_bytes w16 f.sum ++ (f.source ++ (f.group ++ f.rest))) two.1 are.ignored refl in
    let ten = field_at 10 2 12 octets (to_be_bytes w16 f.sum) (f.source ++ (f.group ++ f.rest)) four.1 refl refl in
    let twelve = field_at 12 4 16 octets f.source (f.group ++ f.rest) ten.1 are.source refl in
    let sixteen = field_at 16 4 20 octets f.group f.rest twelve.1 are.group refl in
    let words_lt = are.words in
    let of_words : (64 + f.words) % 16 ≡ f.words = omega arith in
    record {
      version = omega arith;
      words = of_words;
      len = omega (
        arith,
        are.ignored,
        are.source,
        are.group,
        length-append f.ignored (to_be_bytes w16 f.sum ++ (f.source ++ (f.group ++ f.rest))),
        length-append f.source (f.group ++ f.rest),
        length-append f.group f.rest,
      );
      total = ap (from_be_bytes w16) two.0 ∙ wide16.again f.total are.total;
      sum = ap (from_be_bytes w16) ten.0 ∙ wide16.again f.sum are.sum;
      source = twelve.0;
      group = sixteen.0;
      first = octet_in 16 0 16 octets f.group f.rest twelve.1 (omega (arith, are.group)) refl;
      second = octet_in 16 1 17 octets f.group f.rest twelve.1 (omega (arith, are.group)) refl;
      third = octet_in 16 2 18 octets f.group f.rest twelve.1 (omega (arith, are.group)) refl;
      header = λ le. header_is f.words f.service (to_be_bytes w16 f.total) f.ignored (to_be_bytes w16 f.sum) f.source f.group f.rest octets
          (4 * f.words - 20) (header_len octets)
          refl are.ignored are.source are.group (omega (arith, of_words)) refl ten.1;
    }

-- ---- the fields that octets have

abbrev pub four_fields : List ℕ → FourFields
four_fields octets = record {
  words = get_or octets 0 0 % 16;
  service = get_or octets 1 0;
  total = number_at 2 octets;
  ignored = octets_in 6 4 octets;
  sum = number_at 10 octets;
  source = octets_in 4 12 octets;
  group = octets_in 4 16 octets;
  rest = drop 20 octets;
}

pub four_laid : (octets : List ℕ) → IsOctets octets → 20 ≤ length octets → get_or octets 0 0 / 16 ≡ 4
    → AreFour (four_fields octets) × (octets ≡ four_octets (four_fields octets))
four_laid octets fits le version =
    let first : get_or octets 0 0 < 256 = fits 0 in
    let octet : get_or octets 0 0 ≡ 64 + get_or octets 0 0 % 16 = omega arith in
    let at_twelve = cut 12 4 16 octets refl ∙ joined refl (cut 16 4 20 octets refl) in
    let at_ten = cut 10 2 12 octets refl ∙ joined (sym (number_back 10 octets fits (omega arith))) at_twelve in
    let at_two = cut 2 2 4 octets refl ∙ joined (sym (number_back 2 octets fits (omega arith))) (cut 4 6 10 octets refl ∙ joined refl at_ten) in (
      record {
        words = omega arith;
        total = number_below 2 octets fits;
        ignored = length_in 6 4 octets (omega arith);
        sum = number_below 10 octets fits;
        source = length_in 4 12 octets (omega arith);
        group = length_in 4 16 octets (omega arith);
      },
      front_two octets (omega arith) ∙ (λ i. octet i ∷ get_or octets 1 0 ∷ at_two i),
    )

-- ---- the tests

chain : Bool → Bool → Bool → Bool → Bool → Option (ℕ × PacketFault)
chain a b c d e =
    cond a (bad 0 reasons.HeaderLength) (cond b (bad 2 reasons.TotalLength)
    (cond c (bad 10 reasons.Checksum) (cond d (bad 16 reasons.NotMulticast) (cond e (bad 16 reasons.LinkLocal) None))))

-- what the five tests tell of fields
record FourTold (a b c d e : Bool) (f : FourFields) : Type 0 where
  pub header : Tells a (HeaderFits f) (¬ HeaderFits f)
  pub total : Tells b (TotalFits f) (¬ TotalFits f)
  pub sum : HeaderFits f → Tells c (SumFits f) (¬ SumFits f)
  pub multicast : Tells d (IsFourGroup f.group) (¬ IsFourGroup f.group)
  pub global : Tells e (¬ IsFourLocal f.group) (IsFourLocal f.group)

chain_settles : (a b c d e : Bool) (f : FourFields) → FourTold a b c d e f
    → ((chain a b c d e ≡ None) × MeetsFour f) ⊎ ((x : ℕ × PacketFault) × (chain a b c d e ≡ Some x) × FourFault f x)
unfolding chain
chain_settles a b c d e f told =
    elim told.header [
      | inr n ↦ inr (_, rw n.0 refl, four_faults.header_length n.1 refl)
      | inl h ↦ elim told.total [
        | inr n ↦ inr (_, rw (h.0, n.0) refl, four_faults.total_length h.1 n.1 refl)
        | inl t ↦ elim (told.sum h.1) [
          | inr n ↦ inr (_, rw (h.0, t.0, n.0) refl, four_faults.sum h.1 t.1 n.1 refl)
          | inl s ↦ elim told.multicast [
            | inr n ↦ inr (_, rw (h.0, t.0, s.0, n.0) refl, four_faults.not_multicast h.1 t.1 s.1 n.1 refl)
            | inl m ↦ elim told.global [
              | inr l ↦ inr (_, rw (h.0, t.0, s.0, m.0, l.0) refl, four_faults.link_local h.1 t.1 s.1 m.1 l.1 refl)
              | inl g ↦ inl (rw (h.0, t.0, s.0, m.0, g.0) refl, record { header = h.1; total = t.1; sum = s.1; multicast = m.1; global = g.1 })
            ]
          ]
        ]
      ]
    ]

chain_meets : (a b c d e : Bool) (f : FourFields) → FourTold a b c d e f → MeetsFour f → chain a b c d e ≡ None
unfolding chain
chain_meets a b c d e f told m =
    rw (
      holds told.header (λ n. n m.header),
      holds told.total (λ n. n m.total),
      holds (told.sum m.header) (λ n. n m.sum),
      holds told.multicast (λ n. n m.multicast),
      holds told.global m.global,
    ) refl

chain_fails : (a b c d e : Bool) (f : FourFields) (x : ℕ × PacketFault) → FourTold a b c d e f → FourFault f x → chain a b c d e ≡ Some x
unfolding chain
chain_fails a b c d e f x told (four_faults.header_length n is) = rw (fails told.header n, is) refl
chain_fails a b c d e f x told (four_faults.total_length h n is) = rw (holds told.header (λ k. k h), fails told.total n, is) refl
chain_fails a b c d e f x told (four_faults.sum h t n is) =
    rw (holds told.header (λ k. k h), holds told.total (λ k. k t), fails (told.sum h) n, is) refl
chain_fails a b c d e f x told (four_faults.not_multicast h t s n is) =
    rw (holds told.header (λ k. k h), holds told.total (λ k. k t), holds (told.sum h) (λ k. k s), fails told.multicast n, is) refl
chain_fails a b c d e f x told (four_faults.link_local h t s m l is) =
    rw (
      holds told.header (λ k. k h),
      holds told.total (λ k. k t),
      holds (told.sum h) (λ k. k s),
      holds told.multicast (λ k. k m),
      fails told.global (λ g. g l),
      is,
    ) refl

-- the tests of the octets of fields
abbrev bad_header : List ℕ → Bool
bad_header octets = ltb (header_len octets) 20 || ltb (length octets) (header_len octets)

abbrev bad_total : List ℕ → Bool
bad_total octets = not (eqb (number_at 2 octets) (length octets))

abbrev bad_sum : List ℕ → Bool
bad_sum octets = not (eqb (number_at 10 octets) (checksum (reading.unsummed (header_len octets) octets)))

abbrev bad_group : List ℕ → Bool
bad_group octets = ltb (get_or octets 16 0) 224 || ltb 239 (get_or octets 16 0)

abbrev is_local : List ℕ → Bool
is_local octets = eqb (get_or octets 16 0) 224 && eqb (get_or octets 17 0) 0 && eqb (get_or octets 18 0) 0

is_chain : (octets : List ℕ) → four_fault octets ≡ chain (bad_header octets) (bad_total octets) (bad_sum octets) (bad_group octets) (is_local octets)
unfolding four_fault chain
is_chain octets = refl

header_told : (words rest len first : ℕ) → first ≡ words → len ≡ 20 + rest
    → Tells (ltb (first * 4) 20 || ltb len (first * 4)) ((5 ≤ words) × (4 * words ≤ 20 + rest)) (¬ ((5 ≤ words) × (4 * words ≤ 20 + rest)))
header_told words rest len first e l =
    tells_as (λ h. let p = h.0 in let q = h.1 in (omega arith, omega arith))
    (λ h k. let p = k.0 in let q = k.1 in elim h [ inl lt ↦ omega arith | inr lt ↦ omega arith ])
    (or_tells (ltb (first * 4) 20) (ltb len (first * 4)) (below_tells (first * 4) 20) (below_tells len (first * 4)))

told_of : (octets : List ℕ) (f : FourFields) → FourRead octets f
    → FourTold (bad_header octets) (bad_total octets) (bad_sum octets) (bad_group octets) (is_local octets) f
told_of octets f read =
    let first = read.first in
    let second = read.second in
    let third = read.third in
    record {
      header = header_told f.words (length f.rest) (length octets) (get_or octets 0 0 % 16) read.words read.len;
      total = tells_as (λ e. sym read.total ∙ (e ∙ read.len)) (λ ne e. ne (read.total ∙ (e ∙ sym read.len)))
          (differs_tells (number_at 2 octets) (length octets));
      sum = λ h. let same = ap checksum (read.header h.0) in
          tells_as (λ e. sym read.sum ∙ (e ∙ same)) (λ ne e. ne (read.sum ∙ (e ∙ sym same)))
          (differs_tells (number_at 10 octets) (checksum (reading.unsummed (header_len octets) octets)));
      multicast =
          tells_as (λ h. let p = h.0 in let q = h.1 in (omega arith, omega arith))
          (λ h k. let p = k.0 in let q = k.1 in elim h [ inl lt ↦ omega arith | inr lt ↦ omega arith ])
          (or_tells (ltb (get_or octets 16 0) 224) (ltb 239 (get_or octets 16 0)) (below_tells (get_or octets 16 0) 224)
          (below_tells 239 (get_or octets 16 0)));
      global = tells_as (λ h k. elim h [ inl g ↦ elim g [ inl ne ↦ ne (first ∙ k.0) | inr ne ↦ ne (second ∙ k.1) ] | inr ne ↦ ne (third ∙ k.2) ])
          (λ h. (sym first ∙ h.0.0, sym second ∙ h.0.1, sym third ∙ h.1))
          (and_tells (eqb (get_or octets 16 0) 224 && eqb (get_or octets 17 0) 0) (eqb (get_or octets 18 0) 0)
          (and_tells (eqb (get_or octets 16 0) 224) (eqb (get_or octets 17 0) 0) (same_tells (get_or octets 16 0) 224)
          (same_tells (get_or octets 17 0) 0)) (same_tells (get_or octets 18 0) 0));
    }

-- ---- the first fault

pub four_settles : (octets : List ℕ) (f : FourFields) → FourRead octets f
    → ((four_fault octets ≡ None) × MeetsFour f) ⊎ ((x : ℕ × PacketFault) × (four_fault octets ≡ Some x) × FourFault f x)
four_settles octets f read =
    elim (chain_settles _ _ _ _ _ f (told_of octets f read)) [
      | inl fine ↦ inl (is_chain octets ∙ fine.0, fine.1)
      | inr found ↦ inr (found.0, is_chain octets ∙ found.1, found.2)
    ]

pub four_meets : (octets : List ℕ) (f : FourFields) → FourRead octets f → MeetsFour f → four_fault octets ≡ None
four_meets octets f read m = is_chain octets ∙ chain_meets _ _ _ _ _ f (told_of octets f read) m

pub four_fails : (octets : List ℕ) (f : FourFields) (x : ℕ × PacketFault) → FourRead octets f → FourFault f x → four_fault octets ≡ Some x
four_fails octets f x read fault = is_chain octets ∙ chain_fails _ _ _ _ _ f x (told_of octets f read) fault
