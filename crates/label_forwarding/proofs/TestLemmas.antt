-- Tests that tell of a claim.
use Rattle.std.proofs.Common.{◌≡◌, ◌≢◌, ℕ, ◌<◌, ◌≤◌, Bool, true, false, not, ◌||◌, ◌&&◌, eqb, ltb, ◌⊎◌, ap, ◌∙◌, inl, inr}
use Rattle.std.proofs.lemmas.Bool.{cases_lt, le-ltb, lt-ltb}
use Rattle.std.proofs.lemmas.Bool.Decides.{eqb_tells}

-- a test that is false where P holds, and true where Q does
abbrev pub Tells : Bool → Type 0 → Type 0 → Type 0
Tells b P Q = ((b ≡ false) × P) ⊎ ((b ≡ true) × Q)

pub holds : {b : Bool} {P Q : Type 0} → Tells b P Q → ¬ Q → b ≡ false
holds (inl p) h = p.0
holds (inr q) h = absurd (h q.1)

pub fails : {b : Bool} {P Q : Type 0} → Tells b P Q → ¬ P → b ≡ true
fails (inl p) h = absurd (h p.1)
fails (inr q) h = q.0

-- a test for a claim that is another one
pub tells_as : {b : Bool} {P Q R S : Type 0} → (P → R) → (Q → S) → Tells b P Q → Tells b R S
tells_as f g (inl p) = inl (p.0, f p.1)
tells_as f g (inr q) = inr (q.0, g q.1)

pub below_tells : (a b : ℕ) → Tells (ltb a b) (b ≤ a) (a < b)
below_tells a b = elim (cases_lt a b) [ inl lt ↦ inr (lt-ltb a b lt, lt) | inr le ↦ inl (le-ltb a b le, le) ]

pub differs_tells : (a b : ℕ) → Tells (not (eqb a b)) (a ≡ b) (a ≢ b)
differs_tells a b = elim (eqb_tells a b) [ inl e ↦ inl (ap not e.0, e.1) | inr ne ↦ inr (ap not ne.0, ne.1) ]

pub same_tells : (a b : ℕ) → Tells (eqb a b) (a ≢ b) (a ≡ b)
same_tells a b = elim (eqb_tells a b) [ inl e ↦ inr e | inr ne ↦ inl ne ]

pub or_tells : (a b : Bool) {P Q R S : Type 0} → Tells a P Q → Tells b R S → Tells (a || b) (P × R) (Q ⊎ S)
or_tells a b (inl p) (inl r) = inl (ap (λ c. c || b) p.0 ∙ r.0, (p.1, r.1))
or_tells a b (inl p) (inr s) = inr (ap (λ c. c || b) p.0 ∙ s.0, inr s.1)
or_tells a b (inr q) other = inr (ap (λ c. c || b) q.0, inl q.1)

pub and_tells : (a b : Bool) {P Q R S : Type 0} → Tells a P Q → Tells b R S → Tells (a && b) (P ⊎ R) (Q × S)
and_tells a b (inr q) (inr s) = inr (ap (λ c. c && b) q.0 ∙ s.0, (q.1, s.1))
and_tells a b (inr q) (inl r) = inl (ap (λ c. c && b) q.0 ∙ r.0, inr r.1)
and_tells a b (inl p) other = inl (ap (λ c. c && b) p.0, inl p.1)
