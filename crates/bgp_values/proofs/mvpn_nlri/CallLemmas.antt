-- What decoding promises: whole routes and their first fault.
use Rattle.std.proofs.Common.{◌≡◌, ℕ, suc, ◌+◌, ◌≤◌, List, [], ◌∷◌, ◌++◌, length, take, Result, Ok, Err, IfOk, IfErr, refl, sym, ap, subst, ◌∙◌, arith, inl, inr}
use Rattle.std.proofs.lemmas.List.{take_at, length-append, length-take, append-nil, nil_from_length}
use Rattle.mv_base.specs.Octets.{IsOctets}
use Rattle.mv_base.proofs.Fields.{octets_before, bind_ok, bind_err, ok_is, err_again}
use Rattle.bgp_values.specs.declared.mvpn_nlri.fault.RouteFault.{RouteFault}
use Rattle.bgp_values.specs.declared.mvpn_nlri.route.Afi.{Afi}
use Rattle.bgp_values.specs.declared.mvpn_nlri.route.Route.{Route}
use Rattle.bgp_values.specs.mvpn_nlri.Bounds.{Bounded, Passes}
use Rattle.bgp_values.specs.mvpn_nlri.Spelling.{Spells, IsRoute, kind, fields, written}
use Rattle.bgp_values.specs.mvpn_nlri.FirstFault as faults
use Rattle.bgp_values.specs.mvpn_nlri.FirstFault.{FirstFault}
use Rattle.bgp_values.specs.mvpn_nlri.Reading.{fields_at, route_at}
use Rattle.bgp_values.proofs.mvpn_nlri.FormatLemmas.{is_near}
use Rattle.bgp_values.proofs.mvpn_nlri.RouteLemmas.{fields_stand, fields_are_read, fields_fail, fields_failing, fault_near}

-- the octets that the length gives
abbrev given : ℕ → List ℕ → Bounded
given len rest = record { left = take len rest; place = 2; within = len }

given_fits : (n len : ℕ) (rest : List ℕ) → IsOctets (n ∷ (len ∷ rest)) → IsOctets (take len rest)
given_fits n len rest fits = octets_before len rest (λ i. fits (suc (suc i)))

-- Where the fields stand to the end of the length, they are the octets that it gives.
whole : (len : ℕ) (rest text : List ℕ) (d : Bounded) → Passes (given len rest) text d → d.within ≡ 0
    → (take len rest ≡ text) × (length text ≡ len) × (len ≤ length rest)
whole len rest text d p end =
    let size : length text ≡ len = omega (arith, p.within, end) in
    let none : d.left ≡ [] =
    nil_from_length d.left (omega (arith, size, ap (λ (xs : List ℕ). length xs) p.parts, length-append text d.left, length-take len rest)) in (
      p.parts ∙ ap (λ (xs : List ℕ). text ++ xs) none ∙ append-nil text,
      size,
      omega (arith, size, ap (λ (xs : List ℕ). length xs) p.parts, length-append text d.left, length-take len rest),
    )

take_two : (n len : ℕ) (rest : List ℕ) → take (len + 2) (n ∷ (len ∷ rest)) ≡ n ∷ (len ∷ take len rest)
take_two n len rest = let two : len + 2 ≡ suc (suc len) = omega arith in rw two refl

text_of : (r : Route) (n len : ℕ) (octets : List ℕ) → n ≡ kind r → length (fields r) ≡ len → octets ≡ fields r → n ∷ (len ∷ octets) ≡ written r
text_of r n len octets e l o = rw (e, ← l, o) refl

-- What is read is spelled at the front.
route_taken : (afi : Afi) (bytes : List ℕ) (x : Route × ℕ) → IsOctets bytes → route_at afi bytes ≡ Ok x
    → Spells afi x.0 (take x.1 bytes) × (x.1 ≤ length bytes)
unfolding route_at
route_taken afi [] x fits e = absurd cc
route_taken afi (n ∷ []) x fits e = absurd cc
route_taken afi (n ∷ len ∷ rest) x fits e =
    let a = bind_ok (fields_at afi n (given len rest)) _ x e in
    let t = fields_stand afi n (given len rest) a.0 (given_fits n len rest fits) (fits 1) a.1 in
    let w = whole len rest (fields a.0.0) a.0.1 t.0 t.1.1.1 in
    let made : Route × ℕ = (a.0.0, len + 2) in
    subst (λ (y : Route × ℕ). Spells afi y.0 (take y.1 (n ∷ (len ∷ rest))) × (y.1 ≤ length (n ∷ (len ∷ rest)))) (ok_is made x a.2)
    (record { route = t.1.0; octets = take_two n len rest ∙ text_of a.0.0 n len (take len rest) t.1.1.0 w.1 w.0 }, omega (arith, w.2))

-- What is spelled at the front is read.
written_is_read : (afi : Afi) (r : Route) (rest : List ℕ) → IsRoute afi r → route_at afi (written r ++ rest) ≡ Ok (r, length (written r))
unfolding route_at
written_is_read afi r rest is =
    let n = length (fields r) in
    let front : take n (fields r ++ rest) ≡ fields r = take_at (fields r) rest n refl in
    let d : Bounded = record { left = []; place = 2 + n; within = 0 } in
    let p : Passes (record { left = fields r; place = 2; within = n }) (fields r) d =
    record { parts = sym (append-nil (fields r)); place = refl; within = omega arith } in
    let size : n + 2 ≡ suc (suc n) = omega arith in
    rw (front, fields_are_read afi r (record { left = fields r; place = 2; within = n }) d p is refl, size) refl

route_again : (afi : Afi) (bytes : List ℕ) (r : Route) (text rest : List ℕ) → Spells afi r text → bytes ≡ text ++ rest
    → route_at afi bytes ≡ Ok (r, length text)
route_again afi bytes r text rest spelled parts = rw (parts, spelled.octets) (written_is_read afi r rest spelled.route)

-- A fault that is answered is the first one.
route_fails : (afi : Afi) (bytes : List ℕ) (f : RouteFault) → IsOctets bytes → route_at afi bytes ≡ Err f → FirstFault afi bytes f
unfolding route_at
route_fails afi [] f fits e = faults.kind_short refl cc
route_fails afi (n ∷ []) f fits e = faults.len_short n refl cc
route_fails afi (n ∷ len ∷ rest) f fits e =
    elim (bind_err (fields_at afi n (given len rest)) _ f e) [
      | inl inside ↦ faults.in_fields n len rest refl (fields_fail afi n (given len rest) f (given_fits n len rest fits) inside)
      | inr a ↦ absurd cc
    ]

-- The first fault is answered.
route_failing : (afi : Afi) (bytes : List ℕ) (f : RouteFault) → FirstFault afi bytes f → route_at afi bytes ≡ Err f
unfolding route_at
route_failing afi bytes f (faults.kind_short none is) = rw none (err_again (sym is))
route_failing afi bytes f (faults.len_short n one is) = rw one (err_again (sym is))
route_failing afi bytes f (faults.in_fields n len rest parts h) = rw (parts, fields_failing afi n (given len rest) f h) refl

-- A fault stands within the octets or right after them.
fault_within : (afi : Afi) (bytes : List ℕ) (f : RouteFault) → FirstFault afi bytes f → f.place ≤ length bytes
fault_within afi bytes f (faults.kind_short none is) = is_near f 0 _ (ap (λ (g : RouteFault). g.place) is) (omega arith)
fault_within afi bytes f (faults.len_short n one is) =
    is_near f 1 _ (ap (λ (g : RouteFault). g.place) is) (omega (arith, ap (λ (xs : List ℕ). length xs) one))
fault_within afi bytes f (faults.in_fields n len rest parts h) =
    omega (arith, fault_near afi n (given len rest) f h, length-take len rest, ap (λ (xs : List ℕ). length xs) parts)

-- ---- the clauses

pub read_is : (r : Result (Route × ℕ) RouteFault) (afi : Afi) (bytes : List ℕ) → IsOctets bytes → r ≡ route_at afi bytes
    → IfOk r (λ x. Spells afi x.0 (take x.1 bytes) × (x.1 ≤ length bytes))
    × (IfErr r (λ f. FirstFault afi bytes f) × IfErr r (λ f. f.place ≤ length bytes))
read_is (Ok x) afi bytes fits e = (route_taken afi bytes x fits (sym e), (tt, tt))
read_is (Err f) afi bytes fits e = let first = route_fails afi bytes f fits (sym e) in (tt, (first, fault_within afi bytes f first))

pub spelled_is_read : (r : Result (Route × ℕ) RouteFault) (afi : Afi) (bytes : List ℕ) → r ≡ route_at afi bytes → (route : Route) (text rest : List ℕ)
    → Spells afi route text → bytes ≡ text ++ rest → r ≡ Ok (route, length text)
spelled_is_read r afi bytes e route text rest spelled parts = e ∙ route_again afi bytes route text rest spelled parts

pub fault_is_read : (r : Result (Route × ℕ) RouteFault) (afi : Afi) (bytes : List ℕ) → r ≡ route_at afi bytes → (f : RouteFault)
    → FirstFault afi bytes f → r ≡ Err f
fault_is_read r afi bytes e f first = e ∙ route_failing afi bytes f first

-- Two spellings at one front are one, of one value.
pub one : (afi : Afi) (v w : Route) (a b x y : List ℕ) → Spells afi v a → Spells afi w b → a ++ x ≡ b ++ y → (v ≡ w) × (a ≡ b)
one afi v w a b x y p q same =
    let first = route_again afi (a ++ x) v a x p refl in
    let second = route_again afi (a ++ x) w b y q same in
    let both : (v, length a) ≡ (w, length b) = ok_is _ _ (sym first ∙ second) in
    let value : v ≡ w = ap (λ (z : Route × ℕ). z.0) both in
    (value, p.octets ∙ ap written value ∙ sym q.octets)
