-- Which windows a datagram is of, by the fates of the events.
use Rattle.std.specs.Prelude.{◌&&◌, ◌||◌}
use Rattle.std.proofs.Common.{◌≡◌, ℕ, zero, suc, ◌<◌, ◌≤◌, Bool, true, false, inl, inr, length, List, [], ◌∷◌, slice_get, Some, refl, sym, ap, ◌∙◌, arith}
use Rattle.std.proofs.lemmas.Bool.{true≢false, or_cases}
use Rattle.std.proofs.lemmas.Option.{none-some}
use Rattle.audit_defs.specs.scenario_defs.declared.event.Timed.{Timed}
use Rattle.audit_defs.proofs.Lists.{and_both, some_same}
use Rattle.audit_events.specs.declared.fate.Fate.{Fate}
use Rattle.audit_events.specs.Fates.{is_calm, may_end, goes_on, closes, opened, opens_after}

-- an event and its fate, at a place
pub record At (all : List Timed) (fates : List Fate) (place : ℕ) : Type 0 where
  pub timed : Timed
  pub fate : Fate
  pub event_at : slice_get all place ≡ Some timed
  pub fate_at : slice_get fates place ≡ Some fate

-- all events from one place up to another, without that, let a window go on
abbrev pub GoOn : List Timed → List Fate → ℕ → ℕ → Type 0
GoOn all fates from to = (place : ℕ) → from ≤ place → place < to → (at : At all fates place) → goes_on at.timed at.fate ≡ true

-- a window that is open before the first event ends at that place
pub record Ends (all : List Timed) (fates : List Fate) : Type 0 where
  pub last : ℕ
  pub at : At all fates last
  pub ends : may_end at.timed at.fate ≡ true
  pub on : GoOn all fates 0 last

ends_later : (timed : Timed) (fate : Fate) (all : List Timed) (fates : List Fate) → goes_on timed fate ≡ true → Ends all fates
    → Ends (timed ∷ all) (fate ∷ fates)
ends_later timed fate all fates on e = record {
  last = suc e.last;
  at = record { timed = e.at.timed; fate = e.at.fate; event_at = e.at.event_at; fate_at = e.at.fate_at };
  ends = e.ends;
  on = each;
}
  where
    each : GoOn (timed ∷ all) (fate ∷ fates) 0 (suc e.last)
    each zero low high at = (λ i. goes_on (sym (some_same timed at.timed at.event_at) i) (sym (some_same fate at.fate at.fate_at) i)) ∙ on
    each (suc place) low high at =
        e.on place (omega arith) (omega (arith, high)) (record { timed = at.timed; fate = at.fate; event_at = at.event_at; fate_at = at.fate_at })

-- A window that is open before the first event ends where the code finds it.
pub closes_says : (all : List Timed) (fates : List Fate) → closes all fates ≡ true → Ends all fates
closes_says [] fates e = absurd (true≢false (sym e))
closes_says (timed ∷ all) [] e = absurd (true≢false (sym e))
closes_says (timed ∷ all) (fate ∷ fates) e = elim (or_cases (may_end timed fate) (goes_on timed fate && closes all fates) e) [
  | inl ends ↦ record {
    last = zero;
    at = record { timed = timed; fate = fate; event_at = refl; fate_at = refl };
    ends = ends;
    on = λ place low high at. absurd (omega (arith, high));
  }
  | inr later ↦
      let both = and_both (goes_on timed fate) (closes all fates) later in
      ends_later timed fate all fates both.0 (closes_says all fates both.1)
]

pub says_closes : (all : List Timed) (fates : List Fate) (last : ℕ) (at : At all fates last) → may_end at.timed at.fate ≡ true
    → GoOn all fates zero last → closes all fates ≡ true
says_closes [] fates last at ends on = absurd (none-some at.timed at.event_at)
says_closes (timed ∷ all) [] last at ends on = absurd (none-some at.fate at.fate_at)
says_closes (timed ∷ all) (fate ∷ fates) zero at ends on =
    ap (λ b. b || (goes_on timed fate && closes all fates))
    ((λ i. may_end (some_same timed at.timed at.event_at i) (some_same fate at.fate at.fate_at i)) ∙ ends)
says_closes (timed ∷ all) (fate ∷ fates) (suc last) at ends on =
    let here = on zero (omega arith) (omega arith) (record { timed = timed; fate = fate; event_at = refl; fate_at = refl }) in
    let rest = says_closes all fates last (record { timed = at.timed; fate = at.fate; event_at = at.event_at; fate_at = at.fate_at }) ends
    (λ place low high own. on (suc place) (omega arith) (omega (arith, high))
    (record { timed = own.timed; fate = own.fate; event_at = own.event_at; fate_at = own.fate_at })) in
    either (may_end timed fate) ((λ i. here i && rest i))
  where
    either : (b : Bool) {c : Bool} → c ≡ true → (b || c) ≡ true
    either true e = refl
    either false e = e

-- ---- what is open

-- how a window that is open after the events began: it was open before them, or after a calm one
pub data Began (before : Bool) (all : List Timed) (fates : List Fate) : Type 0 where
  Before : before ≡ true → GoOn all fates zero (length all) → Began before all fates
  Calm : (calm : ℕ) (at : At all fates calm) → is_calm at.fate ≡ true → GoOn all fates (suc calm) (length all) → Began before all fates

on_later : (timed : Timed) (fate : Fate) (all : List Timed) (fates : List Fate) (from to : ℕ) → GoOn all fates from to
    → GoOn (timed ∷ all) (fate ∷ fates) (suc from) (suc to)
on_later timed fate all fates from to on zero low high at = absurd (omega (arith, low))
on_later timed fate all fates from to on (suc place) low high at =
    on place (omega (arith, low)) (omega (arith, high)) (record { timed = at.timed; fate = at.fate; event_at = at.event_at; fate_at = at.fate_at })

on_first : (timed : Timed) (fate : Fate) (all : List Timed) (fates : List Fate) (to : ℕ) → goes_on timed fate ≡ true → GoOn all fates zero to
    → GoOn (timed ∷ all) (fate ∷ fates) zero (suc to)
on_first timed fate all fates to is on zero low high at =
    (λ i. goes_on (sym (some_same timed at.timed at.event_at) i) (sym (some_same fate at.fate at.fate_at) i)) ∙ is
on_first timed fate all fates to is on (suc place) low high at =
    on place (omega arith) (omega (arith, high)) (record { timed = at.timed; fate = at.fate; event_at = at.event_at; fate_at = at.fate_at })

pub opened_says : (before : Bool) (all : List Timed) (fates : List Fate) → length all ≡ length fates → opened before all fates ≡ true
    → Began before all fates
opened_says before [] fates same e = Before e (λ place low high at. absurd (omega (arith, high)))
opened_says before (timed ∷ all) [] same e = absurd (omega (arith, same))
opened_says before (timed ∷ all) (fate ∷ fates) same e = elim (opened_says (opens_after before timed fate) all fates (omega (arith, same)) e) [
  | Before is on ↦ elim (or_cases (is_calm fate) (before && goes_on timed fate) is) [
    | inl calm ↦ Calm zero (record { timed = timed; fate = fate; event_at = refl; fate_at = refl }) calm
        (on_later timed fate all fates zero (length all) on)
    | inr both ↦
        let parts = and_both before (goes_on timed fate) both in
        Before parts.0 (on_first timed fate all fates (length all) parts.1 on)
  ]
  | Calm calm at is on ↦
      Calm (suc calm) (record { timed = at.timed; fate = at.fate; event_at = at.event_at; fate_at = at.fate_at }) is
      (on_later timed fate all fates (suc calm) (length all) on)
]

-- an open window goes on
stays_open : (all : List Timed) (fates : List Fate) → length all ≡ length fates → GoOn all fates zero (length all) → opened true all fates ≡ true
stays_open [] fates same on = refl
stays_open (timed ∷ all) [] same on = absurd (omega (arith, same))
stays_open (timed ∷ all) (fate ∷ fates) same on =
    let here = on zero (omega arith) (omega arith) (record { timed = timed; fate = fate; event_at = refl; fate_at = refl }) in
    ap (λ b. opened b all fates) (either (is_calm fate) here)
    ∙ stays_open all fates (omega (arith, same))
    (λ place low high own. on (suc place) (omega arith) (omega (arith, high))
    (record { timed = own.timed; fate = own.fate; event_at = own.event_at; fate_at = own.fate_at }))
  where
    either : (b : Bool) {c : Bool} → c ≡ true → (b || c) ≡ true
    either true e = refl
    either false e = e

pub says_opened : (before : Bool) (all : List Timed) (fates : List Fate) → length all ≡ length fates → (calm : ℕ) (at : At all fates calm)
    → is_calm at.fate ≡ true →
    GoOn all fates (suc calm) (length all) → opened before all fates ≡ true
says_opened before [] fates same calm at is on = absurd (none-some at.timed at.event_at)
says_opened before (timed ∷ all) [] same calm at is on = absurd (omega (arith, same))
says_opened before (timed ∷ all) (fate ∷ fates) same zero at is on =
    ap (λ b. opened b all fates) (ap (λ b. b || (before && goes_on timed fate)) (ap is_calm (some_same fate at.fate at.fate_at) ∙ is))
    ∙ stays_open all fates (omega (arith, same))
    (λ place low high own. on (suc place) (omega arith) (omega (arith, high))
    (record { timed = own.timed; fate = own.fate; event_at = own.event_at; fate_at = own.fate_at }))
says_opened before (timed ∷ all) (fate ∷ fates) same (suc calm) at is on =
    says_opened (opens_after before timed fate) all fates (omega (arith, same)) calm
    (record { timed = at.timed; fate = at.fate; event_at = at.event_at; fate_at = at.fate_at }) is
    (λ place low high own. on (suc place) (omega (arith, low)) (omega (arith, high))
    (record { timed = own.timed; fate = own.fate; event_at = own.event_at; fate_at = own.fate_at }))
