-- Entries by key of which those that pass a test go.
use Rattle.std.proofs.Common.{◌≡◌, not, Bool, true, false, cond, List, [], ◌∷◌, filter, Option, Some, None, refl, sym, ap, ◌∙◌}
use Rattle.std.specs.Map.{lookup}
use Rattle.net_sessions.specs.declared.session_transit.sessions.Key.{Key}
use Rattle.net_sessions.specs.session_transit.Kept.{is_key}
use Rattle.net_sessions.proofs.session_transit.DirectionOrder.{key_equal}

abbrev pub without : {X : Type 0} → (Key → Bool) → List (Key × X) → List (Key × X)
without goes entries = filter (λ e. not (goes e.0)) entries

module _ {X : Type 0} (goes : Key → Bool) (k : Key) where
  step : (hit here at : Bool) (x : X) (rest left : Option X) → (here ≡ true → at ≡ hit) → left ≡ cond at None rest
      → cond hit left (cond here (Some x) left) ≡ cond at None (cond here (Some x) rest)
  step true true at x rest left same e = e ∙ (λ i. cond (same refl i) None rest) ∙ (λ i. cond (sym (same refl) i) None (Some x))
  step true false at x rest left same e = e
  step false true at x rest left same e = λ i. cond (sym (same refl) i) None (Some x)
  step false false at x rest left same e = e

  pub lookup_without : (es : List (Key × X)) → lookup (is_key k) (without goes es) ≡ cond (goes k) None (lookup (is_key k) es)
  lookup_without [] = none (goes k)
    where
      none : (b : Bool) → ◌≡◌ {A = Option X} None (cond b None None)
      none true = refl
      none false = refl
  lookup_without (e ∷ es) =
      split (goes e.0)
      ∙ step (goes e.0) (is_key k e.0) (goes k) e.1 (lookup (is_key k) es) (lookup (is_key k) (without goes es)) (λ h. ap goes (key_equal k e.0 h))
      (lookup_without es)
    where
      split : (hit : Bool) → lookup (is_key k) (cond (not hit) (e ∷ without goes es) (without goes es))
          ≡ cond hit (lookup (is_key k) (without goes es)) (lookup (is_key k) (e ∷ without goes es))
      split true = refl
      split false = refl
