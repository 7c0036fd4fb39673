-- Each field is read exactly where it stands, and its faults.
use Rattle.std.proofs.Common.{◌≡◌, ◌≢◌, ℕ, ◌/◌, ◌%◌, ◌^◌, ◌<◌, ◌⊎◌, eqb, ltb, Bool, true, false, cond, List, [], ◌∷◌, ◌++◌, length, get_or, take, drop, Result, Ok, Err, refl, sym, ap, subst, ◌∙◌, arith, inl, inr}
use Rattle.std.specs.Int.{w16, from_be_bytes}
use Rattle.std.proofs.lemmas.Bool.{eq-eqb, ne_eqb, ltb-false, ltb-true, le-ltb, lt-ltb}
use Rattle.std.proofs.lemmas.List.{take_at, drop_at, take-append-drop, length-append, length-take-le}
use Rattle.std.proofs.lemmas.Bool.Decides.{eqb_tells}
use Rattle.mv_base.specs.Octets.{IsOctets}
use Rattle.mv_base.specs.Cursor.{checked}
use Rattle.mv_base.specs.declared.addr.Addr.{Addr}
use Rattle.mv_base.specs.declared.addr.Addr.TheVariants.{V4, V6}
use Rattle.mv_base.proofs.Fields.{wide16, octets_before, ok_is, err_is}
use Rattle.pim_joinprune.specs.declared.fault.PimFault.{PimFault}
use Rattle.pim_joinprune.specs.declared.fault.PimFault.TheVariants as faults
use Rattle.pim_joinprune.specs.declared.family.Family.{Family}
use Rattle.pim_joinprune.specs.declared.family.Family.TheVariants.{Ipv4, Ipv6}
use Rattle.pim_joinprune.specs.declared.source.SourceKind.{SourceKind}
use Rattle.pim_joinprune.specs.declared.source.SourceKind.TheVariants.{Sg, Star, Rpt}
use Rattle.pim_joinprune.specs.Fields.{Read, IsOctet, IsKnown, IsNumber, AreOctets, Lacks}
use Rattle.pim_joinprune.specs.Reading.{octet_at, known_at, number_at, octets_at, address_at, family_or, family_at, kind_of, kind_or, kind_at, is_multicast, multicast_at}
use Rattle.pim_joinprune.specs.Families.{family_octet, addr_len, mask_len, addr_of, named_family}
use Rattle.pim_joinprune.specs.Spelling.{BeginsMulticast, IsFamily, SpellsAddress, SpellsMulticast, IsKind, low_flags}
use Rattle.pim_joinprune.specs.FirstFault.{KnownFails, FamilyFails, KindFails, MulticastFails}
use Rattle.pim_joinprune.proofs.Readers.{IsReader, IsTest, Passed, Made, test_at, test_reader, made_at, made_reader, same_reader, said_reader}

abbrev missed : {A : Type 0} → ℕ → Result A (ℕ × PimFault)
missed len = Err (len, faults.Short)

-- the answer where octets are missing
lacks : {A : Type 0} (n : ℕ) (octets : List ℕ) (len left : ℕ) (fault : PimFault) → length octets < n → len ≡ length octets
    → missed {A = A} len ≡ Err (left, fault) → Lacks n octets left fault
lacks {A} n octets len left fault few same e =
    let is : (len, faults.Short) ≡ (left, fault) = err_is {A = A} (len, faults.Short) (left, fault) e in
    record { few = few; at = ap (λ (f : ℕ × PimFault). f.0) (sym is) ∙ same; is = ap (λ (f : ℕ × PimFault). f.1) (sym is) }

lacked : {A : Type 0} (n : ℕ) (octets : List ℕ) (len left : ℕ) (fault : PimFault) → len ≡ length octets → Lacks n octets left fault
    → missed {A = A} len ≡ Err (left, fault)
lacked n octets len left fault same l = rw (l.at, l.is, same) refl

-- ---- an octet

pub octet_reader : IsReader octet_at IsOctet (Lacks 1)
octet_reader = record { taken = taken; again = again; fails = fails; faulty = faulty }
  where
    taken : (octets : List ℕ) (x : ℕ × List ℕ) → IsOctets octets → octet_at octets ≡ Ok x
        → (text : List ℕ) × IsOctet x.0 text × (octets ≡ text ++ x.1)
    taken [] x fits e = absurd cc
    taken (o ∷ rest) x fits e =
        subst (λ (y : ℕ × List ℕ). (text : List ℕ) × IsOctet y.0 text × (o ∷ rest ≡ text ++ y.1)) (ok_is (o, rest) x e) (o ∷ [], (fits 0, refl), refl)

    again : (x : ℕ) (text rest : List ℕ) → IsOctet x text → octet_at (text ++ rest) ≡ Ok (x, rest)
    again x text rest (lt, is) = rw is refl

    fails : (octets : List ℕ) (left : ℕ) (fault : PimFault) → IsOctets octets → octet_at octets ≡ Err (left, fault) → Lacks 1 octets left fault
    fails [] left fault fits e = lacks 1 [] 0 left fault (omega arith) refl e
    fails (o ∷ rest) left fault fits e = absurd cc

    faulty : (octets : List ℕ) (left : ℕ) (fault : PimFault) → Lacks 1 octets left fault → octet_at octets ≡ Err (left, fault)
    faulty [] left fault l = lacked 1 [] 0 left fault refl l
    faulty (o ∷ rest) left fault l = absurd (omega (arith, l.few))

-- ---- a number of two octets

pub number_reader : IsReader number_at IsNumber (Lacks 2)
number_reader = record { taken = taken; again = again; fails = fails; faulty = faulty }
  where
    taken : (octets : List ℕ) (x : ℕ × List ℕ) → IsOctets octets → number_at octets ≡ Ok x
        → (text : List ℕ) × IsNumber x.0 text × (octets ≡ text ++ x.1)
    taken [] x fits e = absurd cc
    taken (a ∷ []) x fits e = absurd cc
    taken (a ∷ b ∷ rest) x fits e =
        let two : IsOctets (a ∷ b ∷ []) = octets_before 2 (a ∷ b ∷ rest) fits in
        let n : ℕ = from_be_bytes w16 (a ∷ b ∷ []) in
        subst (λ (y : ℕ × List ℕ). (text : List ℕ) × IsNumber y.0 text × (a ∷ b ∷ rest ≡ text ++ y.1)) (ok_is (n, rest) x e)
        (a ∷ b ∷ [], (wide16.below (a ∷ b ∷ []) two, sym (wide16.back (a ∷ b ∷ []) refl two)), refl)

    again : (x : ℕ) (text rest : List ℕ) → IsNumber x text → number_at (text ++ rest) ≡ Ok (x, rest)
    again x text rest (lt, is) = ap (λ (t : List ℕ). number_at (t ++ rest)) is ∙ ap (λ (n : ℕ). Ok (n, rest)) (wide16.again x lt)

    fails : (octets : List ℕ) (left : ℕ) (fault : PimFault) → IsOctets octets → number_at octets ≡ Err (left, fault) → Lacks 2 octets left fault
    fails [] left fault fits e = lacks 2 [] 0 left fault (omega arith) refl e
    fails (a ∷ []) left fault fits e = lacks 2 (a ∷ []) 1 left fault (omega arith) refl e
    fails (a ∷ b ∷ rest) left fault fits e = absurd cc

    faulty : (octets : List ℕ) (left : ℕ) (fault : PimFault) → Lacks 2 octets left fault → number_at octets ≡ Err (left, fault)
    faulty [] left fault l = lacked 2 [] 0 left fault refl l
    faulty (a ∷ []) left fault l = lacked 2 (a ∷ []) 1 left fault refl l
    faulty (a ∷ b ∷ rest) left fault l = absurd (omega (arith, l.few))

-- ---- so many octets

guard_ok : {A E : Type 0} (b : Bool) (d : E) (x y : A) → cond b (Err d) (Ok x) ≡ Ok y → (b ≡ false) × (x ≡ y)
guard_ok true d x y e = absurd cc
guard_ok false d x y e = (refl, cc)

guard_err : {A E : Type 0} (b : Bool) (d : E) (x : A) (f : E) → cond b (Err d) (Ok x) ≡ Err f → (b ≡ true) × (d ≡ f)
guard_err true d x f e = (refl, cc)
guard_err false d x f e = absurd cc

pub octets_reader : (n : ℕ) → IsReader (octets_at n) (AreOctets n) (Lacks n)
octets_reader n = record { taken = taken; again = again; fails = fails; faulty = faulty }
  where
    taken : (octets : List ℕ) (x : List ℕ × List ℕ) → IsOctets octets → octets_at n octets ≡ Ok x
        → (text : List ℕ) × AreOctets n x.0 text × (octets ≡ text ++ x.1)
    taken octets x fits e =
        let g = guard_ok (ltb (length octets) n) (length octets, faults.Short) (take n octets, drop n octets) x e in
        subst (λ (y : List ℕ × List ℕ). (text : List ℕ) × AreOctets n y.0 text × (octets ≡ text ++ y.1)) g.1
        (take n octets, (length-take-le n octets (ltb-false _ _ g.0), refl), sym (take-append-drop n octets))

    again : (x : List ℕ) (text rest : List ℕ) → AreOctets n x text → octets_at n (text ++ rest) ≡ Ok (x, rest)
    again x text rest (len, is) =
        let long : ltb (length (x ++ rest)) n ≡ false = le-ltb _ _ (omega (arith, len, length-append x rest)) in
        rw (is, long, take_at x rest n len, drop_at x rest n len) refl

    fails : (octets : List ℕ) (left : ℕ) (fault : PimFault) → IsOctets octets → octets_at n octets ≡ Err (left, fault) → Lacks n octets left fault
    fails octets left fault fits e =
        let g = guard_err (ltb (length octets) n) (length octets, faults.Short) (take n octets, drop n octets) (left, fault) e in
        record { few = ltb-true _ _ g.0; at = ap (λ (f : ℕ × PimFault). f.0) (sym g.1); is = ap (λ (f : ℕ × PimFault). f.1) (sym g.1) }

    faulty : (octets : List ℕ) (left : ℕ) (fault : PimFault) → Lacks n octets left fault → octets_at n octets ≡ Err (left, fault)
    faulty octets left fault l = rw (lt-ltb _ _ l.few, l.at, l.is) refl

-- ---- an octet that has one value alone

abbrev pub known_step : ℕ → PimFault → ℕ → ℕ → List ℕ → Read ℕ
known_step value own x len rest = checked (eqb x value) (len, own) (x, rest)

known_test : (value : ℕ) (own : PimFault) → IsTest (known_step value own) (λ x z. (x ≡ value) × (z ≡ x)) (λ x. x ≢ value) own
known_test value own = record { told = told; good = good; bad = λ x len rest other. rw (ne_eqb x value other) refl }
  where
    told : (x : ℕ) → ((z : ℕ) × ((x ≡ value) × (z ≡ x))) ⊎ (x ≢ value)
    told x = elim (eqb_tells x value) [
      | inl a ↦ inl (x, (a.1, refl))
      | inr b ↦ inr b.1
    ]

    good : (x z len : ℕ) (rest : List ℕ) → (x ≡ value) × (z ≡ x) → known_step value own x len rest ≡ Ok (z, rest)
    good x z len rest (a, b) = rw (b, eq-eqb x value a) refl

known_same : (value : ℕ) (own : PimFault) (octets : List ℕ) → known_at value own octets ≡ test_at octet_at (known_step value own) octets
unfolding known_at
known_same value own octets = refl

pub known_reader : (value : ℕ) (own : PimFault) → value < 2 ^ 8 → IsReader (known_at value own) (IsKnown value) (KnownFails value own)
known_reader value own lt =
    said_reader (known_at value own) (Passed IsOctet (λ x z. (x ≡ value) × (z ≡ x))) (IsKnown value) (KnownFails value own) there back
    (same_reader (test_at octet_at (known_step value own)) (known_at value own) _ _ (known_same value own)
    (test_reader octet_at IsOctet (Lacks 1) (known_step value own) (λ x z. (x ≡ value) × (z ≡ x)) (λ x. x ≢ value) own octet_reader
    (known_test value own)))
  where
    there : (z : ℕ) (text : List ℕ) → Passed IsOctet (λ x z. (x ≡ value) × (z ≡ x)) z text → IsKnown value z text
    there z text p = (p.good.1 ∙ p.good.0, p.spells.1 ∙ ap (λ (n : ℕ). n ∷ []) p.good.0)

    back : (z : ℕ) (text : List ℕ) → IsKnown value z text → Passed IsOctet (λ x z. (x ≡ value) × (z ≡ x)) z text
    back z text (same, is) = record { x = value; spells = (lt, is); good = (refl, same) }

-- ---- the flags of a source

abbrev pub kind_step : ℕ → ℕ → List ℕ → Read SourceKind
kind_step x len rest = kind_or (len, faults.Flags) (kind_of x) rest

kind_test : IsTest kind_step (λ x kind. x % 4 ≡ low_flags kind) (λ x. x % 4 ≡ 2) faults.Flags
kind_test = record { told = told; good = good; bad = λ x len rest two. rw two refl }
  where
    told : (x : ℕ) → ((kind : SourceKind) × (x % 4 ≡ low_flags kind)) ⊎ (x % 4 ≡ 2)
    told x = elim (eqb_tells (x % 4) 0) [
      | inl a ↦ inl (Sg, a.1)
      | inr b ↦ elim (eqb_tells (x % 4) 1) [
        | inl c ↦ inl (Rpt, c.1)
        | inr d ↦ elim (eqb_tells (x % 4) 2) [
          | inl e ↦ inr e.1
          | inr f ↦ inl (Star, omega (arith, b.1, d.1, f.1))
        ]
      ]
    ]

    good : (x : ℕ) (kind : SourceKind) (len : ℕ) (rest : List ℕ) → x % 4 ≡ low_flags kind → kind_step x len rest ≡ Ok (kind, rest)
    good x Sg len rest h = rw h refl
    good x Rpt len rest h = rw h refl
    good x Star len rest h = rw h refl

kind_same : (octets : List ℕ) → kind_at octets ≡ test_at octet_at kind_step octets
unfolding kind_at
kind_same octets = refl

pub kind_reader : IsReader kind_at IsKind KindFails
kind_reader =
    said_reader kind_at (Passed IsOctet (λ x kind. x % 4 ≡ low_flags kind)) IsKind KindFails there back
    (same_reader (test_at octet_at kind_step) kind_at _ _ kind_same
    (test_reader octet_at IsOctet (Lacks 1) kind_step (λ x kind. x % 4 ≡ low_flags kind) (λ x. x % 4 ≡ 2) faults.Flags octet_reader kind_test))
  where
    there : (kind : SourceKind) (text : List ℕ) → Passed IsOctet (λ x kind. x % 4 ≡ low_flags kind) kind text → IsKind kind text
    there kind text p = (p.x, p.spells.0, p.good, p.spells.1)

    back : (kind : SourceKind) (text : List ℕ) → IsKind kind text → Passed IsOctet (λ x kind. x % 4 ≡ low_flags kind) kind text
    back kind text (flags, lt, low, is) = record { x = flags; spells = (lt, is); good = low }

-- ---- the octet that names the family

abbrev pub family_step : ℕ → ℕ → List ℕ → Read Family
family_step x len rest = family_or (len, faults.Family) (named_family x) rest

family_test : IsTest family_step (λ x family. x ≡ family_octet family) (λ x. (x ≢ 1) × (x ≢ 2)) faults.Family
family_test = record { told = told; good = good; bad = λ x len rest other. rw (ne_eqb x 1 other.0, ne_eqb x 2 other.1) refl }
  where
    told : (x : ℕ) → ((family : Family) × (x ≡ family_octet family)) ⊎ ((x ≢ 1) × (x ≢ 2))
    told x = elim (eqb_tells x 1) [
      | inl a ↦ inl (Ipv4, a.1)
      | inr b ↦ elim (eqb_tells x 2) [
        | inl c ↦ inl (Ipv6, c.1)
        | inr d ↦ inr (b.1, d.1)
      ]
    ]

    good : (x : ℕ) (family : Family) (len : ℕ) (rest : List ℕ) → x ≡ family_octet family → family_step x len rest ≡ Ok (family, rest)
    good x Ipv4 len rest h = rw h refl
    good x Ipv6 len rest h = rw h refl

family_same : (octets : List ℕ) → family_at octets ≡ test_at octet_at family_step octets
unfolding family_at
family_same octets = refl

-- an octet holds the numbers of a family
pub family_below : (family : Family) → family_octet family < 2 ^ 8
family_below Ipv4 = omega arith
family_below Ipv6 = omega arith

pub mask_below : (family : Family) → mask_len family < 2 ^ 8
mask_below Ipv4 = omega arith
mask_below Ipv6 = omega arith

pub family_reader : IsReader family_at IsFamily FamilyFails
family_reader =
    said_reader family_at (Passed IsOctet (λ x family. x ≡ family_octet family)) IsFamily FamilyFails there back
    (same_reader (test_at octet_at family_step) family_at _ _ family_same
    (test_reader octet_at IsOctet (Lacks 1) family_step (λ x family. x ≡ family_octet family) (λ x. (x ≢ 1) × (x ≢ 2)) faults.Family octet_reader
    family_test))
  where
    there : (family : Family) (text : List ℕ) → Passed IsOctet (λ x family. x ≡ family_octet family) family text → IsFamily family text
    there family text p = p.spells.1 ∙ ap (λ (n : ℕ). n ∷ []) p.good

    back : (family : Family) (text : List ℕ) → IsFamily family text → Passed IsOctet (λ x family. x ≡ family_octet family) family text
    back family text is = record { x = family_octet family; spells = (family_below family, is); good = refl }

-- ---- an address

address_same : (family : Family) (octets : List ℕ) → address_at family octets ≡ made_at (octets_at (addr_len family)) (addr_of family) octets
unfolding address_at
address_same family octets = refl

pub address_reader : (family : Family) → IsReader (address_at family) (SpellsAddress family) (Lacks (addr_len family))
address_reader family =
    said_reader (address_at family) (Made (addr_of family) (AreOctets (addr_len family))) (SpellsAddress family) (Lacks (addr_len family))
    (λ addr text m. subst (λ (a : Addr). SpellsAddress family a text) (sym m.is) (there family m.x text m.spells)) (back family)
    (same_reader (made_at (octets_at (addr_len family)) (addr_of family)) (address_at family) _ _ (address_same family)
    (made_reader (octets_at (addr_len family)) (AreOctets (addr_len family)) (Lacks (addr_len family)) (addr_of family)
    (octets_reader (addr_len family))))
  where
    there : (family : Family) (x text : List ℕ) → AreOctets (addr_len family) x text → SpellsAddress family (addr_of family x) text
    there Ipv4 x text a = a
    there Ipv6 x text a = a

    back : (family : Family) (addr : Addr) (text : List ℕ) → SpellsAddress family addr text
        → Made (addr_of family) (AreOctets (addr_len family)) addr text
    back Ipv4 (V4 x) text s = record { x = x; is = refl; spells = s }
    back Ipv4 (V6 x) text s = absurd s.0
    back Ipv6 (V4 x) text s = absurd s.0
    back Ipv6 (V6 x) text s = record { x = x; is = refl; spells = s }

-- ---- a multicast address

abbrev pub multicast_step : Addr → ℕ → List ℕ → Read Addr
multicast_step x len rest = checked (is_multicast x) (len, faults.NotMulticast) (x, rest)

multicast_test : IsTest multicast_step (λ x addr. (addr ≡ x) × BeginsMulticast x) (λ x. ¬ (BeginsMulticast x)) faults.NotMulticast
multicast_test = record { told = told; good = λ x addr len rest h. rw (h.0) (good x len rest h.1); bad = bad }
  where
    told : (x : Addr) → ((addr : Addr) × ((addr ≡ x) × BeginsMulticast x)) ⊎ (¬ (BeginsMulticast x))
    told (V4 x) = elim (eqb_tells (get_or x 0 0 / 16) 14) [
      | inl a ↦ inl (V4 x, (refl, (omega (arith, a.1), omega (arith, a.1))))
      | inr b ↦ inr (λ h. b.1 (omega (arith, h.0, h.1)))
    ]
    told (V6 x) = elim (eqb_tells (get_or x 0 0) 255) [
      | inl a ↦ inl (V6 x, (refl, a.1))
      | inr b ↦ inr b.1
    ]

    good : (x : Addr) (len : ℕ) (rest : List ℕ) → BeginsMulticast x → multicast_step x len rest ≡ Ok (x, rest)
    good (V4 x) len rest h = rw (eq-eqb (get_or x 0 0 / 16) 14 (omega (arith, h.0, h.1))) refl
    good (V6 x) len rest h = rw (eq-eqb (get_or x 0 0) 255 h) refl

    bad : (x : Addr) (len : ℕ) (rest : List ℕ) → ¬ (BeginsMulticast x) → multicast_step x len rest ≡ Err (len, faults.NotMulticast)
    bad (V4 x) len rest other = rw (ne_eqb (get_or x 0 0 / 16) 14 (λ e. other (omega (arith, e), omega (arith, e)))) refl
    bad (V6 x) len rest other = rw (ne_eqb (get_or x 0 0) 255 other) refl

multicast_same : (family : Family) (octets : List ℕ) → multicast_at family octets ≡ test_at (address_at family) multicast_step octets
unfolding multicast_at
multicast_same family octets = refl

pub multicast_reader : (family : Family) → IsReader (multicast_at family) (SpellsMulticast family) (MulticastFails family)
multicast_reader family =
    said_reader (multicast_at family) (Passed (SpellsAddress family) (λ x addr. (addr ≡ x) × BeginsMulticast x)) (SpellsMulticast family)
    (MulticastFails family) there back
    (same_reader (test_at (address_at family) multicast_step) (multicast_at family) _ _ (multicast_same family)
    (test_reader (address_at family) (SpellsAddress family) (Lacks (addr_len family)) multicast_step (λ x addr. (addr ≡ x) × BeginsMulticast x)
    (λ x. ¬ (BeginsMulticast x)) faults.NotMulticast (address_reader family) multicast_test))
  where
    there : (addr : Addr) (text : List ℕ) → Passed (SpellsAddress family) (λ x addr. (addr ≡ x) × BeginsMulticast x) addr text
        → SpellsMulticast family addr text
    there addr text p =
        subst (λ (a : Addr). SpellsMulticast family a text) (sym p.good.0) (record { multicast = (p.spells.0, p.good.1); octets = p.spells.1 })

    back : (addr : Addr) (text : List ℕ) → SpellsMulticast family addr text
        → Passed (SpellsAddress family) (λ x addr. (addr ≡ x) × BeginsMulticast x) addr text
    back addr text s = record { x = addr; spells = (s.multicast.0, s.octets); good = (refl, s.multicast.1) }
