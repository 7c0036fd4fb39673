-- Fields that a length bounds: what is read stands there, what stands there is read, and the fault is the first one.
use Rattle.std.proofs.Common.{◌≡◌, ◌≢◌, ℕ, ◌+◌, ◌-◌, ◌≤◌, Bool, true, false, cond, ltb, ◌⊎◌, List, ◌++◌, length, take, drop, Ok, Err, refl, sym, ap, subst, ◌∙◌, append_assoc, arith, inl, inr}
use Rattle.std.proofs.lemmas.Bool.{ltb-false, ltb-true, le-ltb, lt-ltb, eqb-true, eq-eqb, ne_eqb, eqb-false}
use Rattle.std.proofs.lemmas.List.{take_at, drop_at, take-append-drop, length-append, length-take-le}
use Rattle.mv_base.specs.Octets.{IsOctets}
use Rattle.mv_base.proofs.Fields.{octets_after, octets_before, bind_ok, bind_err, ok_is, err_again, checked_ok, checked_err}
use Rattle.bgp_values.specs.declared.mvpn_nlri.fault.RouteFault.{RouteFault}
use Rattle.bgp_values.specs.declared.mvpn_nlri.fault.RouteReason.TheVariants.{Short, LengthTooSmall}
use Rattle.bgp_values.specs.mvpn_nlri.Bounds.{Bounded, Passes}
use Rattle.bgp_values.specs.mvpn_nlri.FirstFault as faults
use Rattle.bgp_values.specs.mvpn_nlri.FirstFault.{Is, Lacks, Then, Remains}
use Rattle.bgp_values.specs.mvpn_nlri.Reading.{Read, fault, octets_within, turned, both, closed, end_at}

-- ---- passing

pub passes_then : (b : Bounded) (x : List ℕ) (m : Bounded) (y : List ℕ) (d : Bounded) → Passes b x m → Passes m y d → Passes b (x ++ y) d
passes_then b x m y d p q = record {
  parts = p.parts ∙ ap (λ (zs : List ℕ). x ++ zs) q.parts ∙ sym (append_assoc x y d.left);
  place = omega (arith, p.place, q.place, length-append x y);
  within = omega (arith, p.within, q.within, length-append x y);
}

pub passes_split : (b : Bounded) (x y : List ℕ) (d : Bounded) → Passes b (x ++ y) d → (m : Bounded) × Passes b x m × Passes m y d
passes_split b x y d p = (
  record { left = y ++ d.left; place = b.place + length x; within = length y + d.within },
  record { parts = p.parts ∙ append_assoc x y d.left; place = refl; within = omega (arith, p.within, length-append x y) },
  record { parts = refl; place = omega (arith, p.place, length-append x y); within = refl },
)

-- All bounds of an input have one end.
pub passes_end : (b : Bounded) (text : List ℕ) (d : Bounded) → Passes b text d → d.place + length d.left ≡ b.place + length b.left
passes_end b text d p = omega (arith, p.place, ap (λ (xs : List ℕ). length xs) p.parts, length-append text d.left)

-- Octets after octets are octets.
pub passes_octets : (b : Bounded) (text : List ℕ) (d : Bounded) → Passes b text d → IsOctets b.left → IsOctets d.left
passes_octets b text d p fits =
    subst IsOctets (ap (λ (xs : List ℕ). drop (length text) xs) p.parts ∙ drop_at text d.left (length text) refl)
    (octets_after (length text) b.left fits)

-- What is passed are octets.
pub passes_text : (b : Bounded) (text : List ℕ) (d : Bounded) → Passes b text d → IsOctets b.left → IsOctets text
passes_text b text d p fits =
    subst IsOctets (ap (λ (xs : List ℕ). take (length text) xs) p.parts ∙ take_at text d.left (length text) refl)
    (octets_before (length text) b.left fits)

pub passes_is : (b : Bounded) (x y : List ℕ) (d : Bounded) → Passes b x d → x ≡ y → Passes b y d
passes_is b x y d p e = subst (λ (t : List ℕ). Passes b t d) e p

-- ---- so many octets

pub bounded_is : (left : List ℕ) (place within : ℕ) (d : Bounded) → left ≡ d.left → place ≡ d.place → within ≡ d.within
    → record { left = left; place = place; within = within } ≡ d
bounded_is left place within d p q r = rw (p, q, r) refl

guarded_ok : {A : Type 0} (p q : Bool) (e f : RouteFault) (x y : A) → cond p (Err e) (cond q (Err f) (Ok x)) ≡ Ok y
    → (p ≡ false) × (q ≡ false) × (x ≡ y)
guarded_ok true q e f x y h = absurd cc
guarded_ok false true e f x y h = absurd cc
guarded_ok false false e f x y h = (refl, refl, cc)

guarded_err : {A : Type 0} (p q : Bool) (e f : RouteFault) (x : A) (g : RouteFault) → cond p (Err e) (cond q (Err f) (Ok x)) ≡ Err g
    → ((p ≡ true) × (g ≡ e)) ⊎ ((p ≡ false) × (q ≡ true) × (g ≡ f))
guarded_err true q e f x g h = inl (refl, cc)
guarded_err false true e f x g h = inr (refl, refl, cc)
guarded_err false false e f x g h = absurd cc

pub octets_taken : (n : ℕ) (b : Bounded) (x : List ℕ × Bounded) → octets_within n b ≡ Ok x → Passes b x.0 x.1 × (length x.0 ≡ n)
octets_taken n b x e =
    let g = guarded_ok (ltb b.within n) (ltb (length b.left) n) (fault b.place LengthTooSmall) (fault b.place Short)
    (take n b.left, record { left = drop n b.left; place = b.place + n; within = b.within - n }) x e in
    let len : length (take n b.left) ≡ n = length-take-le n b.left (ltb-false _ _ g.1) in
    subst (λ (y : List ℕ × Bounded). Passes b y.0 y.1 × (length y.0 ≡ n)) g.2
    (record { parts = sym (take-append-drop n b.left); place = rw len refl; within = omega (arith, len, ltb-false _ _ g.0) }, len)

pub octets_again : (n : ℕ) (b : Bounded) (text : List ℕ) (d : Bounded) → Passes b text d → length text ≡ n → octets_within n b ≡ Ok (text, d)
octets_again n b text d p len =
    let wide : ltb b.within n ≡ false = le-ltb _ _ (omega (arith, p.within, len)) in
    let long : ltb (length b.left) n ≡ false = le-ltb _ _ (omega (arith, len, ap (λ (xs : List ℕ). length xs) p.parts, length-append text d.left)) in
    let front : take n b.left ≡ text = rw p.parts (take_at text d.left n len) in
    let after : record { left = drop n b.left; place = b.place + n; within = b.within - n } ≡ d =
    bounded_is (drop n b.left) (b.place + n) (b.within - n) d (rw p.parts (drop_at text d.left n len)) (omega (arith, p.place, len))
    (omega (arith, p.within, len)) in
    rw (wide, long, front, after) refl

pub octets_fail : (n : ℕ) (b : Bounded) (f : RouteFault) → octets_within n b ≡ Err f → Lacks n b f
octets_fail n b f e =
    elim (guarded_err (ltb b.within n) (ltb (length b.left) n) (fault b.place LengthTooSmall) (fault b.place Short)
    (take n b.left, record { left = drop n b.left; place = b.place + n; within = b.within - n }) f e) [
      | inl small ↦ faults.too_small (ltb-true _ _ small.0) small.1
      | inr few ↦ faults.short (ltb-false _ _ few.0) (ltb-true _ _ few.1) few.2
    ]

pub fail_octets : (n : ℕ) (b : Bounded) (f : RouteFault) → Lacks n b f → octets_within n b ≡ Err f
fail_octets n b f (faults.too_small lt is) = rw (lt-ltb _ _ lt) (err_again (sym is))
fail_octets n b f (faults.short le lt is) = rw (le-ltb _ _ le, lt-ltb _ _ lt) (err_again (sym is))

-- A fault at that place stands there.
pub is_near : (f : RouteFault) (place n : ℕ) → f.place ≡ place → place ≤ n → f.place ≤ n
is_near f place n e le = omega (arith, e)

pub lacks_near : (n : ℕ) (b : Bounded) (f : RouteFault) → Lacks n b f → f.place ≤ b.place + length b.left
lacks_near n b f (faults.too_small lt is) = is_near f b.place _ (ap (λ (g : RouteFault). g.place) is) (omega arith)
lacks_near n b f (faults.short le lt is) = is_near f b.place _ (ap (λ (g : RouteFault). g.place) is) (omega arith)

-- ---- values

-- A value is read exactly where its text stands, and a fault is answered exactly where it is the first one.
pub record Format {A : Type 0} (read : Bounded → Read A) (text : A → List ℕ) (Meets : A → Type 0) (After : Bounded → Type 0)
    (Fails : Bounded → RouteFault → Type 0) : Type 0 where
  pub taken : (b : Bounded) (x : A × Bounded) → IsOctets b.left → read b ≡ Ok x → Passes b (text x.0) x.1 × (Meets x.0 × After x.1)
  pub again : (b : Bounded) (x : A) (d : Bounded) → Passes b (text x) d → Meets x → After d → read b ≡ Ok (x, d)
  pub fails : (b : Bounded) (f : RouteFault) → IsOctets b.left → read b ≡ Err f → Fails b f
  pub failing : (b : Bounded) (f : RouteFault) → Fails b f → read b ≡ Err f
  pub near : (b : Bounded) (f : RouteFault) → Fails b f → f.place ≤ b.place + length b.left

-- anything may follow
abbrev pub Open : Bounded → Type 0
Open d = Unit {0}

-- the length leaves nothing
abbrev pub Ends : Bounded → Type 0
Ends d = d.within ≡ 0

pub octets_format : (n : ℕ) → Format (octets_within n) (λ xs. xs) (λ xs. length xs ≡ n) Open (Lacks n)
octets_format n = record {
  taken = λ b x fits e. let t = octets_taken n b x e in (t.0, (t.1, tt));
  again = λ b x d p len end. octets_again n b x d p len;
  fails = λ b f fits e. octets_fail n b f e;
  failing = fail_octets n;
  near = lacks_near n;
}

-- ---- a value in the place of the one that was read

pub turned_ok : {A B : Type 0} (f : A → B) (read : Bounded → Read A) (b : Bounded) (x : B × Bounded) → turned f read b ≡ Ok x
    → (y : A × Bounded) × (read b ≡ Ok y) × ((f y.0, y.1) ≡ x)
turned_ok f read b x e =
    let a = bind_ok (read b) _ x e in
    (a.0, a.1, ok_is _ _ a.2)

pub turned_err : {A B : Type 0} (f : A → B) (read : Bounded → Read A) (b : Bounded) (g : RouteFault) → turned f read b ≡ Err g → read b ≡ Err g
turned_err f read b g e =
    elim (bind_err (read b) _ g e) [
      | inl first ↦ first
      | inr second ↦ absurd cc
    ]

pub turned_again : {A B : Type 0} (f : A → B) (read : Bounded → Read A) (b : Bounded) (x : A) (d : Bounded) → read b ≡ Ok (x, d)
    → turned f read b ≡ Ok (f x, d)
turned_again f read b x d e = rw e refl

pub turned_failing : {A B : Type 0} (f : A → B) (read : Bounded → Read A) (b : Bounded) (g : RouteFault) → read b ≡ Err g → turned f read b ≡ Err g
turned_failing f read b g e = rw e refl

-- A value that stands for the one that was read, and back, has its format.
pub turned_format : {A B : Type 0} {read : Bounded → Read A} {text : A → List ℕ} {Meets : A → Type 0} {After : Bounded → Type 0}
    {Fails : Bounded → RouteFault → Type 0}
    → (f : A → B) (own : B → List ℕ) (Holds : B → Type 0) → ((x : A) → IsOctets (text x) → Meets x → (text x ≡ own (f x)) × Holds (f x))
    → ((y : B) → Holds y → (x : A) × (y ≡ f x) × (own y ≡ text x) × Meets x)
    → Format read text Meets After Fails → Format (turned f read) own Holds After Fails
turned_format {read} {text} {Meets} {After} {Fails} f own Holds there back format = record {
  taken = λ b x fits e.
      let t = turned_ok f read b x e in
      let k = format.taken b t.0 fits t.1 in
      let w = there t.0.0 (passes_text b (text t.0.0) t.0.1 k.0 fits) k.1.0 in
      subst (λ y. Passes b (own y.0) y.1 × (Holds y.0 × After y.1)) t.2 (passes_is b (text t.0.0) (own (f t.0.0)) t.0.1 k.0 w.0, (w.1, k.1.1));
  again = λ b y d p holds end.
      let w = back y holds in
      subst (λ z. turned f read b ≡ Ok (z, d)) (sym w.1)
      (turned_again f read b w.0 d (format.again b w.0 d (passes_is b (own y) (text w.0) d p w.2) w.3 end));
  fails = λ b g fits e. format.fails b g fits (turned_err f read b g e);
  failing = λ b g h. turned_failing f read b g (format.failing b g h);
  near = format.near;
}

-- ---- one value, and another after it

pub both_format : {A B : Type 0} {first : Bounded → Read A} {second : Bounded → Read B} {text : A → List ℕ} {rest : B → List ℕ} {Meets : A → Type 0}
    {Holds : B → Type 0} {After : Bounded → Type 0} {Fails Next : Bounded → RouteFault → Type 0}
    → Format first text Meets Open Fails → Format second rest Holds After Next
    → Format (both first second) (λ x. text x.0 ++ rest x.1) (λ x. Meets x.0 × Holds x.1) After (Then text Meets Fails Next)
both_format {A} {B} {first} {second} {text} {rest} {Meets} {Holds} {After} {Fails} {Next} one two = record {
  taken = taken;
  again = again;
  fails = fails;
  failing = failing;
  near = near;
}
  where
    taken : (b : Bounded) (x : (A × B) × Bounded) → IsOctets b.left → both first second b ≡ Ok x
        → Passes b (text x.0.0 ++ rest x.0.1) x.1 × ((Meets x.0.0 × Holds x.0.1) × After x.1)
    taken b x fits e =
        let a = bind_ok (first b) _ x e in
        let c = bind_ok (second a.0.1) _ x a.2 in
        let p = one.taken b a.0 fits a.1 in
        let q = two.taken a.0.1 c.0 (passes_octets b (text a.0.0) a.0.1 p.0 fits) c.1 in
        subst (λ (y : (A × B) × Bounded). Passes b (text y.0.0 ++ rest y.0.1) y.1 × ((Meets y.0.0 × Holds y.0.1) × After y.1)) (ok_is _ _ c.2)
        (passes_then b (text a.0.0) a.0.1 (rest c.0.0) c.0.1 p.0 q.0, ((p.1.0, q.1.0), q.1.1))

    again : (b : Bounded) (x : A × B) (d : Bounded) → Passes b (text x.0 ++ rest x.1) d → Meets x.0 × Holds x.1 → After d
        → both first second b ≡ Ok (x, d)
    again b x d p meets end =
        let s = passes_split b (text x.0) (rest x.1) d p in
        rw (one.again b x.0 s.0 s.1 meets.0 tt, two.again s.0 x.1 d s.2 meets.1 end) refl

    fails : (b : Bounded) (f : RouteFault) → IsOctets b.left → both first second b ≡ Err f → Then text Meets Fails Next b f
    fails b f fits e =
        elim (bind_err (first b) _ f e) [
          | inl here ↦ faults.fails (one.fails b f fits here)
          | inr a ↦
              let p = one.taken b a.0 fits a.1 in
              elim (bind_err (second a.0.1) _ f a.2) [
                | inl there ↦ faults.stands a.0.0 a.0.1 p.1.0 p.0 (two.fails a.0.1 f (passes_octets b (text a.0.0) a.0.1 p.0 fits) there)
                | inr c ↦ absurd cc
              ]
        ]

    failing : (b : Bounded) (f : RouteFault) → Then text Meets Fails Next b f → both first second b ≡ Err f
    failing b f (faults.fails h) = rw (one.failing b f h) refl
    failing b f (faults.stands x d meets p h) = rw (one.again b x d p meets tt, two.failing d f h) refl

    near : (b : Bounded) (f : RouteFault) → Then text Meets Fails Next b f → f.place ≤ b.place + length b.left
    near b f (faults.fails h) = one.near b f h
    near b f (faults.stands x d meets p h) = omega (arith, two.near d f h, passes_end b (text x) d p)

-- ---- a value after which the length leaves nothing

pub closed_format : {A : Type 0} {read : Bounded → Read A} {text : A → List ℕ} {Meets : A → Type 0} {Fails : Bounded → RouteFault → Type 0}
    → Format read text Meets Open Fails → Format (closed read) text Meets Ends (Then text Meets Fails Remains)
closed_format {A} {read} {text} {Meets} {Fails} one = record {
  taken = taken;
  again = λ b x d p meets end. rw (one.again b x d p meets tt, eq-eqb d.within 0 end) refl;
  fails = fails;
  failing = failing;
  near = near;
}
  where
    taken : (b : Bounded) (x : A × Bounded) → IsOctets b.left → closed read b ≡ Ok x → Passes b (text x.0) x.1 × (Meets x.0 × Ends x.1)
    taken b x fits e =
        let a = bind_ok (read b) _ x e in
        let c = bind_ok (end_at a.0.1) _ x a.2 in
        let k = checked_ok _ _ _ _ c.1 in
        let p = one.taken b a.0 fits a.1 in
        subst (λ (y : A × Bounded). Passes b (text y.0) y.1 × (Meets y.0 × Ends y.1)) (ok_is _ _ c.2) (p.0, (p.1.0, eqb-true a.0.1.within 0 k.0))

    fails : (b : Bounded) (f : RouteFault) → IsOctets b.left → closed read b ≡ Err f → Then text Meets Fails Remains b f
    fails b f fits e =
        elim (bind_err (read b) _ f e) [
          | inl here ↦ faults.fails (one.fails b f fits here)
          | inr a ↦
              let p = one.taken b a.0 fits a.1 in
              elim (bind_err (end_at a.0.1) _ f a.2) [
                | inl there ↦
                    let k = checked_err _ _ _ _ there in
                    let some : a.0.1.within ≢ 0 = eqb-false a.0.1.within 0 k.0 in
                    faults.stands a.0.0 a.0.1 p.1.0 p.0 (omega (arith, some), k.1)
                | inr c ↦ absurd cc
              ]
        ]

    failing : (b : Bounded) (f : RouteFault) → Then text Meets Fails Remains b f → closed read b ≡ Err f
    failing b f (faults.fails h) = rw (one.failing b f h) refl
    failing b f (faults.stands x d meets p h) = rw (one.again b x d p meets tt, ne_eqb d.within 0 (λ e. omega (arith, h.0, e))) (err_again (sym h.1))

    near : (b : Bounded) (f : RouteFault) → Then text Meets Fails Remains b f → f.place ≤ b.place + length b.left
    near b f (faults.fails h) = one.near b f h
    near b f (faults.stands x d meets p h) = is_near f d.place _ (ap (λ (g : RouteFault). g.place) h.1) (omega (arith, passes_end b (text x) d p))
