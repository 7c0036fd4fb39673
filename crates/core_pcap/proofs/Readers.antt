-- Readers of fields: what is read stands there, what stands there is read, and faults the same way. Readers end to end are one.
use Rattle.std.proofs.Common.{◌≡◌, ℕ, ◌+◌, ltb, Bool, true, false, cond, List, ◌++◌, length, take, drop, Option, Some, None, Ok, Err, refl, sym, ap, subst, ◌∙◌, append_assoc, arith, inl, inr}
use Rattle.std.proofs.lemmas.Bool.{ltb-false, ltb-true, le-ltb, lt-ltb}
use Rattle.std.proofs.lemmas.List.{take_at, drop_at, take-append-drop, length-append, length-take-le}
use Rattle.mv_base.specs.Octets.{IsOctets}
use Rattle.mv_base.specs.Cursor.{◌>>=◌}
use Rattle.mv_base.proofs.Fields.{octets_before, octets_after, bind_ok, bind_err, ok_is, err_is}
use Rattle.core_pcap.specs.declared.fault.PcapFault.{PcapFault}
use Rattle.core_pcap.specs.declared.fault.PcapFault.TheVariants as faults
use Rattle.core_pcap.specs.Fields.{Read, Lacks, Then, here, thereafter, FieldFails, missing, wrong}
use Rattle.core_pcap.specs.Reading.{octets_at, known_or, field_at}
use Rattle.core_pcap.specs.Spelling.{AreOctets}

-- what a reader answers is what stands at the front of octets, or its first fault
pub record IsReader {A : Type 0} (read : List ℕ → Read A) (Spells : A → List ℕ → Type 0) (Fails : List ℕ → ℕ → PcapFault → Type 0) : Type 0 where
  pub taken : (octets : List ℕ) (x : A × List ℕ) → IsOctets octets → read octets ≡ Ok x → (text : List ℕ) × Spells x.0 text × (octets ≡ text ++ x.1)
  pub again : (x : A) (text rest : List ℕ) → Spells x text → read (text ++ rest) ≡ Ok (x, rest)
  pub fails : (octets : List ℕ) (left : ℕ) (fault : PcapFault) → IsOctets octets → read octets ≡ Err (left, fault) → Fails octets left fault
  pub faulty : (octets : List ℕ) (left : ℕ) (fault : PcapFault) → IsOctets octets → Fails octets left fault → read octets ≡ Err (left, fault)

-- What stands after a text is octets, and so is what stands in front.
pub rest_octets : (octets text rest : List ℕ) → IsOctets octets → octets ≡ text ++ rest → IsOctets rest
rest_octets octets text rest fits parts =
    subst IsOctets (drop_at text rest (length text) refl) (octets_after (length text) (text ++ rest) (subst IsOctets parts fits))

pub front_octets : (octets text rest : List ℕ) → IsOctets octets → octets ≡ text ++ rest → IsOctets text
front_octets octets text rest fits parts =
    subst IsOctets (take_at text rest (length text) refl) (octets_before (length text) (text ++ rest) (subst IsOctets parts fits))

-- Two texts at the front are one.
two_fronts : (octets front after back rest : List ℕ) → octets ≡ front ++ after → after ≡ back ++ rest → octets ≡ (front ++ back) ++ rest
two_fronts octets front after back rest first second = first ∙ ap (λ (xs : List ℕ). front ++ xs) second ∙ sym (append_assoc front back rest)

-- The same reader, written otherwise.
pub same_reader : {A : Type 0} (r s : List ℕ → Read A) (S : A → List ℕ → Type 0) (F : List ℕ → ℕ → PcapFault → Type 0)
    → ((octets : List ℕ) → s octets ≡ r octets) → IsReader r S F → IsReader s S F
same_reader r s S F same reader = record {
  taken = λ octets x fits e. reader.taken octets x fits (sym (same octets) ∙ e);
  again = λ x text rest is. same (text ++ rest) ∙ reader.again x text rest is;
  fails = λ octets left fault fits e. reader.fails octets left fault fits (sym (same octets) ∙ e);
  faulty = λ octets left fault fits is. same octets ∙ reader.faulty octets left fault fits is;
}

-- The same spelling, said otherwise.
pub said_reader : {A : Type 0} (r : List ℕ → Read A) (S T : A → List ℕ → Type 0) (F : List ℕ → ℕ → PcapFault → Type 0)
    → ((x : A) (text : List ℕ) → S x text → T x text) → ((x : A) (text : List ℕ) → T x text → S x text) → IsReader r S F → IsReader r T F
said_reader r S T F there back reader = record {
  taken = λ octets x fits e. let t = reader.taken octets x fits e in (t.0, there x.0 t.0 t.1, t.2);
  again = λ x text rest is. reader.again x text rest (back x text is);
  fails = reader.fails;
  faulty = reader.faulty;
}

-- ---- two readers end to end

-- the texts of both end to end
pub record Both {A B : Type 0} (S : A → List ℕ → Type 0) (T : A → B → List ℕ → Type 0) (y : B) (text : List ℕ) : Type 0 where
  pub x : A
  pub front : List ℕ
  pub back : List ℕ
  pub first : S x front
  pub second : T x y back
  pub parts : text ≡ front ++ back

abbrev pub then_at : {A B : Type 0} → (List ℕ → Read A) → (A → List ℕ → Read B) → List ℕ → Read B
then_at r s octets = r octets >>= λ x. s x.0 x.1

then_ok : {A B : Type 0} (r : List ℕ → Read A) (s : A → List ℕ → Read B) (octets : List ℕ) (x : A) (rest : List ℕ) → r octets ≡ Ok (x, rest)
    → then_at r s octets ≡ s x rest
then_ok r s octets x rest e = rw e refl

then_err : {A B : Type 0} (r : List ℕ → Read A) (s : A → List ℕ → Read B) (octets : List ℕ) (f : ℕ × PcapFault) → r octets ≡ Err f
    → then_at r s octets ≡ Err f
then_err r s octets f e = rw e refl

pub then_reader : {A B : Type 0} (r : List ℕ → Read A) (S : A → List ℕ → Type 0) (F : List ℕ → ℕ → PcapFault → Type 0) (s : A → List ℕ → Read B)
    (T : A → B → List ℕ → Type 0) (G : A → List ℕ → ℕ → PcapFault → Type 0)
    → IsReader r S F → ((x : A) (front : List ℕ) → S x front → IsReader (s x) (T x) (G x)) → IsReader (then_at r s) (Both S T) (Then S F G)
then_reader {A} {B} r S F s T G one two = record { taken = taken; again = again; fails = fails; faulty = faulty }
  where
    taken : (octets : List ℕ) (y : B × List ℕ) → IsOctets octets → then_at r s octets ≡ Ok y
        → (text : List ℕ) × Both S T y.0 text × (octets ≡ text ++ y.1)
    taken octets y fits e =
        let a = bind_ok (r octets) (λ x. s x.0 x.1) y e in
        let p = one.taken octets a.0 fits a.1 in
        let q = (two a.0.0 p.0 p.1).taken a.0.1 y (rest_octets octets p.0 a.0.1 fits p.2) a.2 in (
          p.0 ++ q.0,
          record { x = a.0.0; front = p.0; back = q.0; first = p.1; second = q.1; parts = refl },
          two_fronts octets p.0 a.0.1 q.0 y.1 p.2 q.2,
        )

    again : (y : B) (text rest : List ℕ) → Both S T y text → then_at r s (text ++ rest) ≡ Ok (y, rest)
    again y text rest b =
        let whole : text ++ rest ≡ b.front ++ (b.back ++ rest) = ap (λ (xs : List ℕ). xs ++ rest) b.parts ∙ append_assoc b.front b.back rest in
        ap (then_at r s) whole ∙ then_ok r s (b.front ++ (b.back ++ rest)) b.x (b.back ++ rest) (one.again b.x b.front (b.back ++ rest) b.first)
        ∙ (two b.x b.front b.first).again y b.back rest b.second

    fails : (octets : List ℕ) (left : ℕ) (fault : PcapFault) → IsOctets octets → then_at r s octets ≡ Err (left, fault) → Then S F G octets left fault
    fails octets left fault fits e =
        elim (bind_err (r octets) (λ x. s x.0 x.1) (left, fault) e) [
          | inl first ↦ here (one.fails octets left fault fits first)
          | inr a ↦
              let p = one.taken octets a.0 fits a.1 in
              thereafter a.0.0 p.0 a.0.1 p.1 p.2 ((two a.0.0 p.0 p.1).fails a.0.1 left fault (rest_octets octets p.0 a.0.1 fits p.2) a.2)
        ]

    faulty : (octets : List ℕ) (left : ℕ) (fault : PcapFault) → IsOctets octets → Then S F G octets left fault
        → then_at r s octets ≡ Err (left, fault)
    faulty octets left fault fits (here first) = then_err r s octets (left, fault) (one.faulty octets left fault fits first)
    faulty octets left fault fits (thereafter x text rest spells parts second) =
        ap (then_at r s) parts ∙ then_ok r s (text ++ rest) x rest (one.again x text rest spells)
        ∙ (two x text spells).faulty rest left fault (rest_octets octets text rest fits parts) second

-- ---- a value made of what was read

pub record Made {A B : Type 0} (make : A → B) (S : A → List ℕ → Type 0) (y : B) (text : List ℕ) : Type 0 where
  pub x : A
  pub is : y ≡ make x
  pub spells : S x text

abbrev pub made_at : {A B : Type 0} → (List ℕ → Read A) → (A → B) → List ℕ → Read B
made_at r make octets = r octets >>= λ x. Ok (make x.0, x.1)

pub made_reader : {A B : Type 0} (r : List ℕ → Read A) (S : A → List ℕ → Type 0) (F : List ℕ → ℕ → PcapFault → Type 0) (make : A → B) → IsReader r S F
    → IsReader (made_at r make) (Made make S) F
made_reader {A} {B} r S F make reader = record { taken = taken; again = again; fails = fails; faulty = faulty }
  where
    taken : (octets : List ℕ) (y : B × List ℕ) → IsOctets octets → made_at r make octets ≡ Ok y
        → (text : List ℕ) × Made make S y.0 text × (octets ≡ text ++ y.1)
    taken octets y fits e =
        let a = bind_ok (r octets) (λ x. Ok (make x.0, x.1)) y e in
        let p = reader.taken octets a.0 fits a.1 in
        subst (λ (z : B × List ℕ). (text : List ℕ) × Made make S z.0 text × (octets ≡ text ++ z.1)) (ok_is (make a.0.0, a.0.1) y a.2)
        (p.0, record { x = a.0.0; is = refl; spells = p.1 }, p.2)

    again : (y : B) (text rest : List ℕ) → Made make S y text → made_at r make (text ++ rest) ≡ Ok (y, rest)
    again y text rest m = rw (reader.again m.x text rest m.spells, m.is) refl

    fails : (octets : List ℕ) (left : ℕ) (fault : PcapFault) → IsOctets octets → made_at r make octets ≡ Err (left, fault) → F octets left fault
    fails octets left fault fits e =
        elim (bind_err (r octets) (λ x. Ok (make x.0, x.1)) (left, fault) e) [
          | inl first ↦ reader.fails octets left fault fits first
          | inr a ↦ absurd cc
        ]

    faulty : (octets : List ℕ) (left : ℕ) (fault : PcapFault) → IsOctets octets → F octets left fault → made_at r make octets ≡ Err (left, fault)
    faulty octets left fault fits is = rw (reader.faulty octets left fault fits is) refl

-- ---- so many octets

guard_ok : {A E : Type 0} (b : Bool) (d : E) (x y : A) → cond b (Err d) (Ok x) ≡ Ok y → (b ≡ false) × (x ≡ y)
guard_ok true d x y e = absurd cc
guard_ok false d x y e = (refl, cc)

guard_err : {A E : Type 0} (b : Bool) (d : E) (x : A) (f : E) → cond b (Err d) (Ok x) ≡ Err f → (b ≡ true) × (d ≡ f)
guard_err true d x f e = (refl, cc)
guard_err false d x f e = absurd cc

pub octets_reader : (n : ℕ) → IsReader (octets_at n) (AreOctets n) (Lacks n)
octets_reader n = record { taken = taken; again = again; fails = fails; faulty = faulty }
  where
    taken : (octets : List ℕ) (x : List ℕ × List ℕ) → IsOctets octets → octets_at n octets ≡ Ok x
        → (text : List ℕ) × AreOctets n x.0 text × (octets ≡ text ++ x.1)
    taken octets x fits e =
        let g = guard_ok (ltb (length octets) n) (length octets, faults.Short) (take n octets, drop n octets) x e in
        subst (λ (y : List ℕ × List ℕ). (text : List ℕ) × AreOctets n y.0 text × (octets ≡ text ++ y.1)) g.1
        (take n octets, (length-take-le n octets (ltb-false _ _ g.0), refl), sym (take-append-drop n octets))

    again : (x : List ℕ) (text rest : List ℕ) → AreOctets n x text → octets_at n (text ++ rest) ≡ Ok (x, rest)
    again x text rest (len, is) =
        let long : ltb (length (x ++ rest)) n ≡ false = le-ltb _ _ (omega (arith, len, length-append x rest)) in
        rw (is, long, take_at x rest n len, drop_at x rest n len) refl

    fails : (octets : List ℕ) (left : ℕ) (fault : PcapFault) → IsOctets octets → octets_at n octets ≡ Err (left, fault) → Lacks n octets left fault
    fails octets left fault fits e =
        let g = guard_err (ltb (length octets) n) (length octets, faults.Short) (take n octets, drop n octets) (left, fault) e in
        record { few = ltb-true _ _ g.0; at = ap (λ (f : ℕ × PcapFault). f.0) (sym g.1); is = ap (λ (f : ℕ × PcapFault). f.1) (sym g.1) }

    faulty : (octets : List ℕ) (left : ℕ) (fault : PcapFault) → IsOctets octets → Lacks n octets left fault → octets_at n octets ≡ Err (left, fault)
    faulty octets left fault fits l = rw (lt-ltb _ _ l.few, l.at, l.is) refl

-- ---- a field of so many octets

-- the octets of a field that have a value are those that spell it
pub record IsField {A : Type 0} (n : ℕ) (of : List ℕ → Option A) (Spells : A → List ℕ → Type 0) : Type 0 where
  pub told : (text : List ℕ) (x : A) → IsOctets text → length text ≡ n → of text ≡ Some x → Spells x text
  pub again : (x : A) (text : List ℕ) → Spells x text → (length text ≡ n) × (of text ≡ Some x)

known_ok : {A : Type 0} (o : Option A) (f : ℕ × PcapFault) (rest : List ℕ) (y : A × List ℕ) → known_or o f rest ≡ Ok y → (o ≡ Some y.0) × (rest ≡ y.1)
known_ok (Some x) f rest y e =
    let same : (x, rest) ≡ y = ok_is (x, rest) y e in
    (ap (λ p. Some p.0) same, ap (λ p. p.1) same)
known_ok None f rest y e = absurd cc

known_err : {A : Type 0} (o : Option A) (f : ℕ × PcapFault) (rest : List ℕ) (g : ℕ × PcapFault) → known_or o f rest ≡ Err g → (o ≡ None) × (f ≡ g)
known_err (Some x) f rest g e = absurd cc
known_err {A} None f rest g e = (refl, err_is {A = A × List ℕ} f g e)

none_is : {A : Type 0} (o : Option A) → ((x : A) → o ≡ Some x → ⊥) → o ≡ None
none_is (Some x) h = absurd (h x refl)
none_is None h = refl

not_both : {A : Type 0} (o : Option A) (x : A) → o ≡ None → o ≡ Some x → ⊥
not_both (Some y) x e f = absurd cc
not_both None x e f = absurd cc

-- what a field makes of its octets
abbrev valued : {A : Type 0} → (List ℕ → Option A) → ℕ → PcapFault → List ℕ → List ℕ × List ℕ → Read A
valued of before own octets field = known_or (of field.0) (length octets + before, own) field.1

module _ {A : Type 0} (n : ℕ) (of : List ℕ → Option A) (Spells : A → List ℕ → Type 0) (is : IsField n of Spells) (before : ℕ) (own : PcapFault) where
  field_taken : (octets : List ℕ) (x : A × List ℕ) → IsOctets octets → field_at n of before own octets ≡ Ok x
      → (text : List ℕ) × Spells x.0 text × (octets ≡ text ++ x.1)
  unfolding field_at
  field_taken octets x fits e =
      let a = bind_ok (octets_at n octets) (valued of before own octets) x e in
      let p = (octets_reader n).taken octets a.0 fits a.1 in
      let k = known_ok (of a.0.0) (length octets + before, own) a.0.1 x a.2 in
      let parts : octets ≡ a.0.0 ++ a.0.1 = p.2 ∙ ap (λ (t : List ℕ). t ++ a.0.1) p.1.1 in
      (a.0.0, is.told a.0.0 x.0 (front_octets octets a.0.0 a.0.1 fits parts) p.1.0 k.0, parts ∙ ap (λ (t : List ℕ). a.0.0 ++ t) k.1)

  field_again : (x : A) (text rest : List ℕ) → Spells x text → field_at n of before own (text ++ rest) ≡ Ok (x, rest)
  unfolding field_at
  field_again x text rest s =
      let k = is.again x text s in
      rw ((octets_reader n).again text text rest (k.0, refl), k.1) refl

  field_fails : (octets : List ℕ) (left : ℕ) (fault : PcapFault) → IsOctets octets → field_at n of before own octets ≡ Err (left, fault)
      → FieldFails n Spells before own octets left fault
  unfolding field_at
  field_fails octets left fault fits e =
      elim (bind_err (octets_at n octets) (valued of before own octets) (left, fault) e) [
        | inl first ↦ missing ((octets_reader n).fails octets left fault fits first)
        | inr a ↦
            let p = (octets_reader n).taken octets a.0 fits a.1 in
            let k = known_err (of a.0.0) (length octets + before, own) a.0.1 (left, fault) a.2 in
            let parts : octets ≡ a.0.0 ++ a.0.1 = p.2 ∙ ap (λ (t : List ℕ). t ++ a.0.1) p.1.1 in
            wrong a.0.0 a.0.1 p.1.0 parts (λ x s. not_both (of a.0.0) x k.0 (is.again x a.0.0 s).1) (ap (λ (g : ℕ × PcapFault). g.0) (sym k.1))
            (ap (λ (g : ℕ × PcapFault). g.1) (sym k.1))
      ]

  field_faulty : (octets : List ℕ) (left : ℕ) (fault : PcapFault) → IsOctets octets → FieldFails n Spells before own octets left fault
      → field_at n of before own octets ≡ Err (left, fault)
  unfolding field_at
  field_faulty octets left fault fits (missing l) = rw ((octets_reader n).faulty octets left fault fits l) refl
  field_faulty octets left fault fits (wrong text rest len parts none at is_own) =
      let read : octets_at n octets ≡ Ok (text, rest) = ap (octets_at n) parts ∙ (octets_reader n).again text text rest (len, refl) in
      let no : of text ≡ None = none_is (of text) (λ x e. none x (is.told text x (front_octets octets text rest fits parts) len e)) in
      rw (read, no, at, is_own) refl

  pub field_reader : IsReader (field_at n of before own) Spells (FieldFails n Spells before own)
  field_reader = record { taken = field_taken; again = field_again; fails = field_fails; faulty = field_faulty }

  -- A field of which all octets are a value fails only where some are missing.
  pub whole_reader : ((text : List ℕ) → (x : A) × (of text ≡ Some x)) → IsReader (field_at n of before own) Spells (Lacks n)
  whole_reader whole =
      record {
        taken = field_taken;
        again = field_again;
        fails = fails;
        faulty =
            λ octets left fault fits l. field_faulty octets left fault fits (missing l);
      }
    where
      only_lacks : (octets : List ℕ) (left : ℕ) (fault : PcapFault) → IsOctets octets → FieldFails n Spells before own octets left fault
          → Lacks n octets left fault
      only_lacks octets left fault fits (missing l) = l
      only_lacks octets left fault fits (wrong text rest len parts none at is_own) =
          let x = whole text in
          absurd (none x.0 (is.told text x.0 (front_octets octets text rest fits parts) len x.1))

      fails : (octets : List ℕ) (left : ℕ) (fault : PcapFault) → IsOctets octets → field_at n of before own octets ≡ Err (left, fault)
          → Lacks n octets left fault
      fails octets left fault fits e = only_lacks octets left fault fits (field_fails octets left fault fits e)
