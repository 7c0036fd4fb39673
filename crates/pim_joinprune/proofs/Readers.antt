-- Readers of fields: what is read stands there, what stands there is read, and faults the same way. Readers end to end are one.
use Rattle.std.proofs.Common.{◌≡◌, ℕ, zero, suc, ◌<◌, ◌⊎◌, List, [], ◌∷◌, ◌++◌, length, Result, Ok, Err, refl, sym, ap, subst, ◌∙◌, append_assoc, arith, inl, inr}
use Rattle.std.proofs.lemmas.List.{drop_at}
use Rattle.mv_base.specs.Octets.{IsOctets}
use Rattle.mv_base.specs.Cursor.{◌>>=◌}
use Rattle.mv_base.proofs.Fields.{octets_after, bind_ok, bind_err, ok_is, err_is}
use Rattle.pim_joinprune.specs.declared.fault.PimFault.{PimFault}
use Rattle.pim_joinprune.specs.Fields.{Read, all_at, AreAll, AreCounted, AllFail, Then, here, thereafter, FieldFails, missing, wrong}

-- what a reader answers is what stands at the front of octets, or its first fault
pub record IsReader {A : Type 0} (read : List ℕ → Read A) (Spells : A → List ℕ → Type 0) (Fails : List ℕ → ℕ → PimFault → Type 0) : Type 0 where
  pub taken : (octets : List ℕ) (x : A × List ℕ) → IsOctets octets → read octets ≡ Ok x → (text : List ℕ) × Spells x.0 text × (octets ≡ text ++ x.1)
  pub again : (x : A) (text rest : List ℕ) → Spells x text → read (text ++ rest) ≡ Ok (x, rest)
  pub fails : (octets : List ℕ) (left : ℕ) (fault : PimFault) → IsOctets octets → read octets ≡ Err (left, fault) → Fails octets left fault
  pub faulty : (octets : List ℕ) (left : ℕ) (fault : PimFault) → Fails octets left fault → read octets ≡ Err (left, fault)

-- What stands after a text is octets.
pub rest_octets : (octets text rest : List ℕ) → IsOctets octets → octets ≡ text ++ rest → IsOctets rest
rest_octets octets text rest fits parts =
    subst IsOctets (drop_at text rest (length text) refl) (octets_after (length text) (text ++ rest) (subst IsOctets parts fits))

-- Two texts at the front are one.
two_fronts : (octets front after back rest : List ℕ) → octets ≡ front ++ after → after ≡ back ++ rest → octets ≡ (front ++ back) ++ rest
two_fronts octets front after back rest first second = first ∙ ap (λ (xs : List ℕ). front ++ xs) second ∙ sym (append_assoc front back rest)

-- No answer is both a value and a fault.
apart : {A E : Type 0} (r : Result A E) (x : A) (e : E) → r ≡ Ok x → r ≡ Err e → ⊥
apart (Ok y) x e p q = absurd cc
apart (Err d) x e p q = absurd cc

-- The same reader, written otherwise.
pub same_reader : {A : Type 0} (r s : List ℕ → Read A) (S : A → List ℕ → Type 0) (F : List ℕ → ℕ → PimFault → Type 0)
    → ((octets : List ℕ) → s octets ≡ r octets) → IsReader r S F → IsReader s S F
same_reader r s S F same reader = record {
  taken = λ octets x fits e. reader.taken octets x fits (sym (same octets) ∙ e);
  again = λ x text rest is. same (text ++ rest) ∙ reader.again x text rest is;
  fails = λ octets left fault fits e. reader.fails octets left fault fits (sym (same octets) ∙ e);
  faulty = λ octets left fault is. same octets ∙ reader.faulty octets left fault is;
}

-- The same spelling, said otherwise.
pub said_reader : {A : Type 0} (r : List ℕ → Read A) (S T : A → List ℕ → Type 0) (F : List ℕ → ℕ → PimFault → Type 0)
    → ((x : A) (text : List ℕ) → S x text → T x text) → ((x : A) (text : List ℕ) → T x text → S x text) → IsReader r S F → IsReader r T F
said_reader r S T F there back reader = record {
  taken = λ octets x fits e. let t = reader.taken octets x fits e in (t.0, there x.0 t.0 t.1, t.2);
  again = λ x text rest is. reader.again x text rest (back x text is);
  fails = reader.fails;
  faulty = reader.faulty;
}

-- ---- two readers end to end

-- the texts of both end to end
pub record Both {A B : Type 0} (S : A → List ℕ → Type 0) (T : A → B → List ℕ → Type 0) (y : B) (text : List ℕ) : Type 0 where
  pub x : A
  pub front : List ℕ
  pub back : List ℕ
  pub first : S x front
  pub second : T x y back
  pub parts : text ≡ front ++ back

abbrev pub then_at : {A B : Type 0} → (List ℕ → Read A) → (A → List ℕ → Read B) → List ℕ → Read B
then_at r s octets = r octets >>= λ x. s x.0 x.1

then_ok : {A B : Type 0} (r : List ℕ → Read A) (s : A → List ℕ → Read B) (octets : List ℕ) (x : A) (rest : List ℕ) → r octets ≡ Ok (x, rest)
    → then_at r s octets ≡ s x rest
then_ok r s octets x rest e = rw e refl

then_err : {A B : Type 0} (r : List ℕ → Read A) (s : A → List ℕ → Read B) (octets : List ℕ) (f : ℕ × PimFault) → r octets ≡ Err f
    → then_at r s octets ≡ Err f
then_err r s octets f e = rw e refl

pub then_reader : {A B : Type 0} (r : List ℕ → Read A) (S : A → List ℕ → Type 0) (F : List ℕ → ℕ → PimFault → Type 0) (s : A → List ℕ → Read B)
    (T : A → B → List ℕ → Type 0) (G : A → List ℕ → ℕ → PimFault → Type 0)
    → IsReader r S F → ((x : A) → IsReader (s x) (T x) (G x)) → IsReader (then_at r s) (Both S T) (Then S F G)
then_reader {A} {B} r S F s T G one two = record { taken = taken; again = again; fails = fails; faulty = faulty }
  where
    taken : (octets : List ℕ) (y : B × List ℕ) → IsOctets octets → then_at r s octets ≡ Ok y
        → (text : List ℕ) × Both S T y.0 text × (octets ≡ text ++ y.1)
    taken octets y fits e =
        let a = bind_ok (r octets) (λ x. s x.0 x.1) y e in
        let p = one.taken octets a.0 fits a.1 in
        let q = (two a.0.0).taken a.0.1 y (rest_octets octets p.0 a.0.1 fits p.2) a.2 in (
          p.0 ++ q.0,
          record { x = a.0.0; front = p.0; back = q.0; first = p.1; second = q.1; parts = refl },
          two_fronts octets p.0 a.0.1 q.0 y.1 p.2 q.2,
        )

    again : (y : B) (text rest : List ℕ) → Both S T y text → then_at r s (text ++ rest) ≡ Ok (y, rest)
    again y text rest b =
        let whole : text ++ rest ≡ b.front ++ (b.back ++ rest) = ap (λ (xs : List ℕ). xs ++ rest) b.parts ∙ append_assoc b.front b.back rest in
        ap (then_at r s) whole ∙ then_ok r s (b.front ++ (b.back ++ rest)) b.x (b.back ++ rest) (one.again b.x b.front (b.back ++ rest) b.first)
        ∙ (two b.x).again y b.back rest b.second

    fails : (octets : List ℕ) (left : ℕ) (fault : PimFault) → IsOctets octets → then_at r s octets ≡ Err (left, fault) → Then S F G octets left fault
    fails octets left fault fits e =
        elim (bind_err (r octets) (λ x. s x.0 x.1) (left, fault) e) [
          | inl first ↦ here (one.fails octets left fault fits first)
          | inr a ↦
              let p = one.taken octets a.0 fits a.1 in
              thereafter a.0.0 p.0 a.0.1 p.1 p.2 ((two a.0.0).fails a.0.1 left fault (rest_octets octets p.0 a.0.1 fits p.2) a.2)
        ]

    faulty : (octets : List ℕ) (left : ℕ) (fault : PimFault) → Then S F G octets left fault → then_at r s octets ≡ Err (left, fault)
    faulty octets left fault (here first) = then_err r s octets (left, fault) (one.faulty octets left fault first)
    faulty octets left fault (thereafter x text rest spells parts second) =
        ap (then_at r s) parts ∙ then_ok r s (text ++ rest) x rest (one.again x text rest spells) ∙ (two x).faulty rest left fault second

-- ---- a value made of what was read

pub record Made {A B : Type 0} (make : A → B) (S : A → List ℕ → Type 0) (y : B) (text : List ℕ) : Type 0 where
  pub x : A
  pub is : y ≡ make x
  pub spells : S x text

abbrev pub made_at : {A B : Type 0} → (List ℕ → Read A) → (A → B) → List ℕ → Read B
made_at r make octets = r octets >>= λ x. Ok (make x.0, x.1)

pub made_reader : {A B : Type 0} (r : List ℕ → Read A) (S : A → List ℕ → Type 0) (F : List ℕ → ℕ → PimFault → Type 0) (make : A → B) → IsReader r S F
    → IsReader (made_at r make) (Made make S) F
made_reader {A} {B} r S F make reader = record { taken = taken; again = again; fails = fails; faulty = faulty }
  where
    taken : (octets : List ℕ) (y : B × List ℕ) → IsOctets octets → made_at r make octets ≡ Ok y
        → (text : List ℕ) × Made make S y.0 text × (octets ≡ text ++ y.1)
    taken octets y fits e =
        let a = bind_ok (r octets) (λ x. Ok (make x.0, x.1)) y e in
        let p = reader.taken octets a.0 fits a.1 in
        subst (λ (z : B × List ℕ). (text : List ℕ) × Made make S z.0 text × (octets ≡ text ++ z.1)) (ok_is (make a.0.0, a.0.1) y a.2)
        (p.0, record { x = a.0.0; is = refl; spells = p.1 }, p.2)

    again : (y : B) (text rest : List ℕ) → Made make S y text → made_at r make (text ++ rest) ≡ Ok (y, rest)
    again y text rest m = rw (reader.again m.x text rest m.spells, m.is) refl

    fails : (octets : List ℕ) (left : ℕ) (fault : PimFault) → IsOctets octets → made_at r make octets ≡ Err (left, fault) → F octets left fault
    fails octets left fault fits e =
        elim (bind_err (r octets) (λ x. Ok (make x.0, x.1)) (left, fault) e) [
          | inl first ↦ reader.fails octets left fault fits first
          | inr a ↦ absurd cc
        ]

    faulty : (octets : List ℕ) (left : ℕ) (fault : PimFault) → F octets left fault → made_at r make octets ≡ Err (left, fault)
    faulty octets left fault is = rw (reader.faulty octets left fault is) refl

-- ---- a field with a condition of its own

-- a step tells the good values of a field from the wrong ones
pub record IsTest {A B : Type 0} (step : A → ℕ → List ℕ → Read B) (Good : A → B → Type 0) (Wrong : A → Type 0) (fault : PimFault) : Type 0 where
  pub told : (x : A) → ((z : B) × Good x z) ⊎ Wrong x
  pub good : (x : A) (z : B) (len : ℕ) (rest : List ℕ) → Good x z → step x len rest ≡ Ok (z, rest)
  pub bad : (x : A) (len : ℕ) (rest : List ℕ) → Wrong x → step x len rest ≡ Err (len, fault)

-- the text of a field that has a good value
pub record Passed {A B : Type 0} (S : A → List ℕ → Type 0) (Good : A → B → Type 0) (z : B) (text : List ℕ) : Type 0 where
  pub x : A
  pub spells : S x text
  pub good : Good x z

abbrev pub test_at : {A B : Type 0} → (List ℕ → Read A) → (A → ℕ → List ℕ → Read B) → List ℕ → Read B
test_at r step octets = r octets >>= λ x. step x.0 (length octets) x.1

test_ok : {A B : Type 0} (r : List ℕ → Read A) (step : A → ℕ → List ℕ → Read B) (octets : List ℕ) (x : A) (rest : List ℕ) → r octets ≡ Ok (x, rest)
    → test_at r step octets ≡ step x (length octets) rest
test_ok r step octets x rest e = rw e refl

pub test_reader : {A B : Type 0} (r : List ℕ → Read A) (S : A → List ℕ → Type 0) (F : List ℕ → ℕ → PimFault → Type 0) (step : A → ℕ → List ℕ → Read B)
    (Good : A → B → Type 0) (Wrong : A → Type 0) (f : PimFault)
    → IsReader r S F → IsTest step Good Wrong f → IsReader (test_at r step) (Passed S Good) (FieldFails S F Wrong f)
test_reader {A} {B} r S F step Good Wrong f reader test = record { taken = taken; again = again; fails = fails; faulty = faulty }
  where
    told_ok : (x : A) (len : ℕ) (rest : List ℕ) (y : B × List ℕ) → ((z : B) × Good x z) ⊎ Wrong x → step x len rest ≡ Ok y → Good x y.0 × (rest ≡ y.1)
    told_ok x len rest y (inl g) e =
        subst (λ (z : B × List ℕ). Good x z.0 × (rest ≡ z.1)) (ok_is (g.0, rest) y (sym (test.good x g.0 len rest g.1) ∙ e)) (g.1, refl)
    told_ok x len rest y (inr w) e = absurd (apart (step x len rest) y (len, f) e (test.bad x len rest w))

    told_err : (x : A) (len : ℕ) (rest : List ℕ) (g : ℕ × PimFault) → ((z : B) × Good x z) ⊎ Wrong x → step x len rest ≡ Err g
        → Wrong x × ((len, f) ≡ g)
    told_err x len rest g (inl k) e = absurd (apart (step x len rest) (k.0, rest) g (test.good x k.0 len rest k.1) e)
    told_err x len rest g (inr w) e = (w, err_is {A = B × List ℕ} (len, f) g (sym (test.bad x len rest w) ∙ e))

    taken : (octets : List ℕ) (y : B × List ℕ) → IsOctets octets → test_at r step octets ≡ Ok y
        → (text : List ℕ) × Passed S Good y.0 text × (octets ≡ text ++ y.1)
    taken octets y fits e =
        let a = bind_ok (r octets) (λ x. step x.0 (length octets) x.1) y e in
        let p = reader.taken octets a.0 fits a.1 in
        let q = told_ok a.0.0 (length octets) a.0.1 y (test.told a.0.0) a.2 in
        (p.0, record { x = a.0.0; spells = p.1; good = q.0 }, p.2 ∙ ap (λ (xs : List ℕ). p.0 ++ xs) q.1)

    again : (z : B) (text rest : List ℕ) → Passed S Good z text → test_at r step (text ++ rest) ≡ Ok (z, rest)
    again z text rest p =
        test_ok r step (text ++ rest) p.x rest (reader.again p.x text rest p.spells) ∙ test.good p.x z (length (text ++ rest)) rest p.good

    fails : (octets : List ℕ) (left : ℕ) (fault : PimFault) → IsOctets octets → test_at r step octets ≡ Err (left, fault)
        → FieldFails S F Wrong f octets left fault
    fails octets left fault fits e =
        elim (bind_err (r octets) (λ x. step x.0 (length octets) x.1) (left, fault) e) [
          | inl first ↦ missing (reader.fails octets left fault fits first)
          | inr a ↦
              let p = reader.taken octets a.0 fits a.1 in
              let q = told_err a.0.0 (length octets) a.0.1 (left, fault) (test.told a.0.0) a.2 in
              wrong a.0.0 p.0 a.0.1 p.1 p.2 q.0 (ap (λ (g : ℕ × PimFault). g.0) (sym q.1)) (ap (λ (g : ℕ × PimFault). g.1) (sym q.1))
        ]

    faulty : (octets : List ℕ) (left : ℕ) (fault : PimFault) → FieldFails S F Wrong f octets left fault → test_at r step octets ≡ Err (left, fault)
    faulty octets left fault (missing first) = rw (reader.faulty octets left fault first) refl
    faulty octets left fault (wrong x text rest spells parts w at is) =
        let read : r octets ≡ Ok (x, rest) = ap r parts ∙ reader.again x text rest spells in
        test_ok r step octets x rest read ∙ test.bad x (length octets) rest w ∙ rw (at, is) refl

-- ---- so many elements

all_ok : {A : Type 0} (r : List ℕ → Read A) (n : ℕ) (octets : List ℕ) (x : A) (after : List ℕ) (xs : List A) (rest : List ℕ)
    → r octets ≡ Ok (x, after) → all_at r n after ≡ Ok (xs, rest) → all_at r (suc n) octets ≡ Ok (x ∷ xs, rest)
unfolding all_at
all_ok r n octets x after xs rest e f = rw (e, f) refl

all_first : {A : Type 0} (r : List ℕ → Read A) (n : ℕ) (octets : List ℕ) (f : ℕ × PimFault) → r octets ≡ Err f → all_at r (suc n) octets ≡ Err f
unfolding all_at
all_first r n octets f e = rw e refl

all_after : {A : Type 0} (r : List ℕ → Read A) (n : ℕ) (octets : List ℕ) (x : A) (after : List ℕ) (f : ℕ × PimFault) → r octets ≡ Ok (x, after)
    → all_at r n after ≡ Err f → all_at r (suc n) octets ≡ Err f
unfolding all_at
all_after r n octets x after f e g = rw (e, g) refl

counted_more : {A : Type 0} (S : A → List ℕ → Type 0) (n : ℕ) (x : A) (xs : List A) (first others : List ℕ) → S x first → AreCounted S n xs others
    → AreCounted S (suc n) (x ∷ xs) (first ++ others)
counted_more S n x xs first others spells h = record { count = ap suc h.count; each = (first, others, spells, h.each, refl) }

all_taken : {A : Type 0} (r : List ℕ → Read A) (S : A → List ℕ → Type 0) (F : List ℕ → ℕ → PimFault → Type 0) → IsReader r S F
    → (n : ℕ) (octets : List ℕ) (y : List A × List ℕ) → IsOctets octets → all_at r n octets ≡ Ok y
    → (text : List ℕ) × AreCounted S n y.0 text × (octets ≡ text ++ y.1)
unfolding all_at
all_taken {A} r S F reader zero octets y fits e =
    subst (λ (z : List A × List ℕ). (text : List ℕ) × AreCounted S 0 z.0 text × (octets ≡ text ++ z.1)) (ok_is ([], octets) y e)
    ([], record { count = refl; each = refl }, refl)
all_taken {A} r S F reader (suc n) octets y fits e =
    let a = bind_ok (r octets) (λ first. all_at r n first.1 >>= λ others. Ok (first.0 ∷ others.0, others.1)) y e in
    let b = bind_ok (all_at r n a.0.1) (λ others. Ok (a.0.0 ∷ others.0, others.1)) y a.2 in
    let p = reader.taken octets a.0 fits a.1 in
    let q = all_taken r S F reader n a.0.1 b.0 (rest_octets octets p.0 a.0.1 fits p.2) b.1 in
    let made : List A × List ℕ = (a.0.0 ∷ b.0.0, b.0.1) in
    subst (λ (z : List A × List ℕ). (text : List ℕ) × AreCounted S (suc n) z.0 text × (octets ≡ text ++ z.1)) (ok_is made y b.2)
    (p.0 ++ q.0, counted_more S n a.0.0 b.0.0 p.0 q.0 p.1 q.1, two_fronts octets p.0 a.0.1 q.0 b.0.1 p.2 q.2)

all_again : {A : Type 0} (r : List ℕ → Read A) (S : A → List ℕ → Type 0) (F : List ℕ → ℕ → PimFault → Type 0) → IsReader r S F
    → (xs : List A) (text rest : List ℕ) → AreAll S xs text → all_at r (length xs) (text ++ rest) ≡ Ok (xs, rest)
unfolding all_at
all_again r S F reader [] text rest h = rw h refl
all_again r S F reader (x ∷ xs) text rest (first, others, spells, more, parts) =
    let whole : text ++ rest ≡ first ++ (others ++ rest) = ap (λ (ys : List ℕ). ys ++ rest) parts ∙ append_assoc first others rest in
    ap (all_at r (suc (length xs))) whole ∙ all_ok r (length xs) (first ++ (others ++ rest)) x (others ++ rest) xs rest
    (reader.again x first (others ++ rest) spells) (all_again r S F reader xs others rest more)

one_more : {A : Type 0} (S : A → List ℕ → Type 0) (F : List ℕ → ℕ → PimFault → Type 0) (n : ℕ) (octets : List ℕ) (x : A) (text after : List ℕ)
    (left : ℕ) (fault : PimFault) → S x text → octets ≡ text ++ after → AllFail S F n after left fault → AllFail S F (suc n) octets left fault
one_more S F n octets x text after left fault spells parts h = record {
  before = x ∷ h.before;
  text = text ++ h.text;
  rest = h.rest;
  stand = (text, h.text, spells, h.stand, refl);
  parts = two_fronts octets text after h.text h.rest parts h.parts;
  few = omega (arith, h.few);
  fails = h.fails;
}

all_fails : {A : Type 0} (r : List ℕ → Read A) (S : A → List ℕ → Type 0) (F : List ℕ → ℕ → PimFault → Type 0) → IsReader r S F
    → (n : ℕ) (octets : List ℕ) (left : ℕ) (fault : PimFault) → IsOctets octets → all_at r n octets ≡ Err (left, fault)
    → AllFail S F n octets left fault
unfolding all_at
all_fails r S F reader zero octets left fault fits e = absurd cc
all_fails r S F reader (suc n) octets left fault fits e =
    elim (bind_err (r octets) (λ first. all_at r n first.1 >>= λ others. Ok (first.0 ∷ others.0, others.1)) (left, fault) e) [
      | inl first ↦ record {
        before = [];
        text = [];
        rest = octets;
        stand = refl;
        parts = refl;
        few = omega arith;
        fails =
            reader.fails octets left fault fits first;
      }
      | inr a ↦
          let p = reader.taken octets a.0 fits a.1 in
          elim (bind_err (all_at r n a.0.1) (λ others. Ok (a.0.0 ∷ others.0, others.1)) (left, fault) a.2) [
            | inl others ↦ one_more S F n octets a.0.0 p.0 a.0.1 left fault p.1 p.2
                (all_fails r S F reader n a.0.1 left fault (rest_octets octets p.0 a.0.1 fits p.2) others)
            | inr b ↦ absurd cc
          ]
    ]

all_faulty : {A : Type 0} (r : List ℕ → Read A) (S : A → List ℕ → Type 0) (F : List ℕ → ℕ → PimFault → Type 0) → IsReader r S F
    → (n : ℕ) (xs : List A) (text rest : List ℕ) (left : ℕ) (fault : PimFault) → AreAll S xs text → length xs < n → F rest left fault
    → all_at r n (text ++ rest) ≡ Err (left, fault)
all_faulty r S F reader zero xs text rest left fault stand few is = absurd (omega (arith, few))
all_faulty r S F reader (suc n) [] text rest left fault stand few is =
    ap (λ (ys : List ℕ). all_at r (suc n) (ys ++ rest)) stand ∙ all_first r n rest (left, fault) (reader.faulty rest left fault is)
all_faulty r S F reader (suc n) (x ∷ xs) text rest left fault (first, others, spells, more, parts) few is =
    let whole : text ++ rest ≡ first ++ (others ++ rest) = ap (λ (ys : List ℕ). ys ++ rest) parts ∙ append_assoc first others rest in
    ap (all_at r (suc n)) whole ∙ all_after r n (first ++ (others ++ rest)) x (others ++ rest) (left, fault)
    (reader.again x first (others ++ rest) spells) (all_faulty r S F reader n xs others rest left fault more (omega (arith, few)) is)

pub all_reader : {A : Type 0} (r : List ℕ → Read A) (S : A → List ℕ → Type 0) (F : List ℕ → ℕ → PimFault → Type 0) → IsReader r S F → (n : ℕ)
    → IsReader (all_at r n) (AreCounted S n) (AllFail S F n)
all_reader r S F reader n = record {
  taken = λ octets y fits e. all_taken r S F reader n octets y fits e;
  again = λ xs text rest h. ap (λ (k : ℕ). all_at r k (text ++ rest)) (sym h.count) ∙ all_again r S F reader xs text rest h.each;
  fails = λ octets left fault fits e. all_fails r S F reader n octets left fault fits e;
  faulty = λ octets left fault h. ap (all_at r n) h.parts ∙ all_faulty r S F reader n h.before h.text h.rest left fault h.stand h.few h.fails;
}
