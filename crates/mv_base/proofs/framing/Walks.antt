-- The walk over elements laid end to end finds the first that is not whole, and none exactly where all are.
use Rattle.std.proofs.Common.{◌≡◌, ◌≢◌, ℕ, zero, suc, ◌+◌, ◌-◌, ◌<◌, ◌≤◌, List, [], ◌∷◌, ◌++◌, length, drop, Option, Some, None, refl, sym, ap, subst, ◌∙◌, append_assoc, arith}
use Rattle.std.specs.List.{flat_map, AllByRecursion}
use Rattle.std.proofs.Math.Nat.{add-zero}
use Rattle.std.proofs.lemmas.List.{length-append, drop_at, append-nil}
use Rattle.std.proofs.lemmas.List.Concat.{flat_map-cons}
use Rattle.mv_base.specs.Octets.{IsOctets}
use Rattle.mv_base.proofs.Fields.{octets_after}
use Rattle.mv_base.specs.framing.Walk.{walk, AreWhole, StopsAt, IsLen}

-- ---- one step

-- The octets to be passed are passed.
passed : (len_of : List ℕ → Option ℕ) (n place : ℕ) (bs : List ℕ) → n ≤ length bs → walk len_of place n bs ≡ walk len_of (place + n) 0 (drop n bs)
unfolding walk
passed len_of zero place bs le = rw add-zero refl
passed len_of (suc n) place [] le = absurd (omega arith)
passed len_of (suc n) place (b ∷ bs) le =
    let e : place + 1 + n ≡ place + suc n = omega arith in
    passed len_of n (place + 1) bs (omega arith) ∙ ap (λ (p : ℕ). walk len_of p 0 (drop n bs)) e

-- Past the element that stands here.
pub one_further : (len_of : List ℕ → Option ℕ) (place len : ℕ) (xs : List ℕ) → 0 < len → len ≤ length xs → len_of xs ≡ Some len
    → walk len_of place 0 xs ≡ walk len_of (place + len) 0 (drop len xs)
unfolding walk
one_further len_of place zero xs pos le e = absurd (omega arith)
one_further len_of place (suc n) [] pos le e = absurd (omega arith)
one_further len_of place (suc n) (b ∷ bs) pos le e =
    let there : place + 1 + n ≡ place + suc n = omega arith in
    let down : suc n - 1 ≡ n = omega arith in
    rw (e, walk, down) (passed len_of n (place + 1) bs (omega arith) ∙ ap (λ (p : ℕ). walk len_of p 0 (drop n bs)) there)

-- No element stands here.
pub stops : (len_of : List ℕ → Option ℕ) (place : ℕ) (xs : List ℕ) → 0 < length xs → len_of xs ≡ None → walk len_of place 0 xs ≡ Some place
unfolding walk
stops len_of place [] more e = absurd (omega arith)
stops len_of place (b ∷ bs) more e = rw (e, walk) refl

-- No octets are left.
pub ends : (len_of : List ℕ → Option ℕ) (place : ℕ) → walk len_of place 0 [] ≡ None
unfolding walk
ends len_of place = refl

-- ---- elements that are passed

-- past one element
past : {T : Type 0} (len_of : List ℕ → Option ℕ) (text : T → List ℕ) (Is : T → Type 0) (lens : IsLen len_of text Is) (place : ℕ) (t : T)
    (after : List ℕ) → Is t → walk len_of place 0 (text t ++ after) ≡ walk len_of (place + length (text t)) 0 after
past len_of text Is lens place t after h =
    one_further len_of place (length (text t)) (text t ++ after) (lens.more t) (omega (arith, length-append (text t) after)) (lens.again t after h)
    ∙ ap (λ (xs : List ℕ). walk len_of (place + length (text t)) 0 xs) (drop_at (text t) after (length (text t)) refl)

-- past all of them
past_all : {T : Type 0} (len_of : List ℕ → Option ℕ) (text : T → List ℕ) (Is : T → Type 0) (lens : IsLen len_of text Is) (place : ℕ) (ts : List T)
    (after : List ℕ) → AllByRecursion Is ts → walk len_of place 0 (flat_map text ts ++ after)
    ≡ walk len_of (place + length (flat_map text ts)) 0 after
past_all len_of text Is lens place [] after h = rw add-zero refl
past_all len_of text Is lens place (t ∷ ts) after h =
    let whole : flat_map text (t ∷ ts) ++ after ≡ text t ++ (flat_map text ts ++ after) =
    ap (λ (xs : List ℕ). xs ++ after) (flat_map-cons text t ts) ∙ append_assoc (text t) (flat_map text ts) after in
    let len : place + length (text t) + length (flat_map text ts) ≡ place + length (flat_map text (t ∷ ts)) =
    omega (arith, length-append (text t) (flat_map text ts), ap (λ (xs : List ℕ). length xs) (flat_map-cons text t ts)) in
    ap (λ (xs : List ℕ). walk len_of place 0 xs) whole ∙ past len_of text Is lens place t (flat_map text ts ++ after) h.0
    ∙ past_all len_of text Is lens (place + length (text t)) ts after h.1 ∙ ap (λ (p : ℕ). walk len_of p 0 after) len

-- Over whole elements the walk finds nothing.
pub whole_again : {T : Type 0} (len_of : List ℕ → Option ℕ) (text : T → List ℕ) (Is : T → Type 0) (lens : IsLen len_of text Is) (value : List ℕ)
    → AreWhole text Is value → walk len_of 0 0 value ≡ None
whole_again len_of text Is lens value h =
    ap (λ (xs : List ℕ). walk len_of 0 0 xs) (h.2 ∙ sym (append-nil (flat_map text h.0))) ∙ past_all len_of text Is lens 0 h.0 [] h.1
    ∙ ends len_of (0 + length (flat_map text h.0))

-- no element stands at the front
none_there : {T : Type 0} (len_of : List ℕ → Option ℕ) (text : T → List ℕ) (Is : T → Type 0) (lens : IsLen len_of text Is) (rest : List ℕ)
    → IsOctets rest → ((t : T) (after : List ℕ) → Is t → rest ≢ text t ++ after) → (o : Option ℕ) → len_of rest ≡ o → o ≡ None
none_there len_of text Is lens rest fits none None e = refl
none_there len_of text Is lens rest fits none (Some n) e =
    let front = lens.taken rest n fits e in
    absurd (none front.element front.after front.shape front.parts)

-- Where whole elements stand before an offset, and none begins there, the walk finds that offset.
pub stop_again : {T : Type 0} (len_of : List ℕ → Option ℕ) (text : T → List ℕ) (Is : T → Type 0) (lens : IsLen len_of text Is) (value : List ℕ)
    (offset : ℕ) → IsOctets value → StopsAt text Is value offset → walk len_of 0 0 value ≡ Some offset
stop_again len_of text Is lens value offset fits m =
    let here : drop (length (flat_map text m.elements)) value ≡ m.rest =
    rw m.parts (drop_at (flat_map text m.elements) m.rest (length (flat_map text m.elements)) refl) in
    let rest_fits : IsOctets m.rest = subst IsOctets here (octets_after (length (flat_map text m.elements)) value fits) in
    let stop : len_of m.rest ≡ None = none_there len_of text Is lens m.rest rest_fits m.none (len_of m.rest) refl in
    let at : 0 + length (flat_map text m.elements) ≡ offset = omega (arith, m.place) in
    ap (λ (xs : List ℕ). walk len_of 0 0 xs) m.parts ∙ past_all len_of text Is lens 0 m.elements m.rest m.whole
    ∙ ap (λ (p : ℕ). walk len_of p 0 m.rest) at ∙ stops len_of offset m.rest m.more stop

-- ---- what the walk found

-- what is found of a value whose first octet stands at the place
abbrev Outcome : {T : Type 0} → (T → List ℕ) → (T → Type 0) → ℕ → List ℕ → Option ℕ → Type 0
Outcome text Is place xs None = AreWhole text Is xs
Outcome text Is place xs (Some p) = (offset : ℕ) × (p ≡ place + offset) × StopsAt text Is xs offset

thereafter : {T : Type 0} (len_of : List ℕ → Option ℕ) (text : T → List ℕ) (Is : T → Type 0) (lens : IsLen len_of text Is) (place : ℕ) (t : T)
    (after xs : List ℕ) (o : Option ℕ) → Is t → xs ≡ text t ++ after → Outcome text Is (place + length (text t)) after o → Outcome text Is place xs o
thereafter len_of text Is lens place t after xs None h parts out =
    (t ∷ out.0, (h, out.1), parts ∙ ap (λ (ys : List ℕ). text t ++ ys) out.2 ∙ sym (flat_map-cons text t out.0))
thereafter len_of text Is lens place t after xs (Some p) h parts out =
    let m = out.2 in
    let flat : flat_map text (t ∷ m.elements) ≡ text t ++ flat_map text m.elements = flat_map-cons text t m.elements in (
      length (text t) + out.0,
      omega (arith, out.1),
      record {
        elements = t ∷ m.elements;
        rest = m.rest;
        whole = (h, m.whole);
        parts = parts ∙ ap (λ (ys : List ℕ). text t ++ ys) m.parts ∙ sym (append_assoc (text t) (flat_map text m.elements) m.rest)
            ∙ ap (λ (ys : List ℕ). ys ++ m.rest) (sym flat);
        place = omega (arith, m.place, length-append (text t) (flat_map text m.elements), ap (λ (ys : List ℕ). length ys) flat);
        more = m.more;
        none = m.none;
      },
    )

-- at the front of a value that isn't empty
step : {T : Type 0} (len_of : List ℕ → Option ℕ) (text : T → List ℕ) (Is : T → Type 0) (lens : IsLen len_of text Is) (n place : ℕ) (xs : List ℕ)
    → 0 < length xs → length xs ≤ suc n → IsOctets xs
    → ((p : ℕ) (ys : List ℕ) → length ys ≤ n → IsOctets ys → Outcome text Is p ys (walk len_of p 0 ys)) → (o : Option ℕ) → len_of xs ≡ o
    → Outcome text Is place xs (walk len_of place 0 xs)
step len_of text Is lens n place xs more le fits others None e =
    subst (Outcome text Is place xs) (sym (stops len_of place xs more e)) (
      0,
      sym (add-zero place),
      record {
        elements = [];
        rest = xs;
        whole = tt;
        parts = refl;
        place = refl;
        more = more;
        none = λ t after h same. let clash : Some (length (text t)) ≡ None = sym (ap len_of same ∙ lens.again t after h) ∙ e in absurd cc;
      },
    )
step len_of text Is lens n place xs more le fits others (Some k) e =
    let front = lens.taken xs k fits e in
    let t = front.element in
    let after_fits : IsOctets front.after =
    subst IsOctets (drop_at (text t) front.after (length (text t)) refl)
    (octets_after (length (text t)) (text t ++ front.after) (subst IsOctets front.parts fits)) in
    let less : length front.after ≤ n =
    omega (arith, le, lens.more t, length-append (text t) front.after, ap (λ (ys : List ℕ). length ys) front.parts) in
    let further : walk len_of place 0 xs ≡ walk len_of (place + length (text t)) 0 front.after =
    ap (λ (ys : List ℕ). walk len_of place 0 ys) front.parts ∙ past len_of text Is lens place t front.after front.shape in
    subst (Outcome text Is place xs) (sym further)
    (thereafter len_of text Is lens place t front.after xs (walk len_of (place + length (text t)) 0 front.after) front.shape front.parts
    (others (place + length (text t)) front.after less after_fits))

outcome : {T : Type 0} (len_of : List ℕ → Option ℕ) (text : T → List ℕ) (Is : T → Type 0) (lens : IsLen len_of text Is) (n place : ℕ) (xs : List ℕ)
    → length xs ≤ n → IsOctets xs → Outcome text Is place xs (walk len_of place 0 xs)
outcome len_of text Is lens n place [] le fits = subst (Outcome text Is place []) (sym (ends len_of place)) ([], tt, refl)
outcome len_of text Is lens zero place (b ∷ bs) le fits = absurd (omega arith)
outcome len_of text Is lens (suc n) place (b ∷ bs) le fits =
    step len_of text Is lens n place (b ∷ bs) (omega arith) le fits (λ p ys l f. outcome len_of text Is lens n p ys l f) (len_of (b ∷ bs)) refl

-- Where the walk finds nothing, the octets are whole elements.
pub whole_found : {T : Type 0} (len_of : List ℕ → Option ℕ) (text : T → List ℕ) (Is : T → Type 0) (lens : IsLen len_of text Is) (value : List ℕ)
    → IsOctets value → walk len_of 0 0 value ≡ None → AreWhole text Is value
whole_found len_of text Is lens value fits e =
    subst (Outcome text Is 0 value) e (outcome len_of text Is lens (length value) 0 value (omega arith) fits)

-- What the walk finds is the offset after whole elements where none begins.
pub stop_found : {T : Type 0} (len_of : List ℕ → Option ℕ) (text : T → List ℕ) (Is : T → Type 0) (lens : IsLen len_of text Is) (value : List ℕ)
    (p : ℕ) → IsOctets value → walk len_of 0 0 value ≡ Some p → StopsAt text Is value p
stop_found len_of text Is lens value p fits e =
    let out = subst (Outcome text Is 0 value) e (outcome len_of text Is lens (length value) 0 value (omega arith) fits) in
    let same : out.0 ≡ p = omega (arith, out.1) in
    subst (StopsAt text Is value) same out.2
