-- Exits, as they are noted line by line and asked for receiver by receiver.
use Rattle.std.specs.Prelude.{◌||◌, ◌==◌, is_some}
use Rattle.std.proofs.Common.{◌≡◌, ℕ, zero, suc, ◌+◌, ◌<◌, ◌≤◌, Bool, true, false, not, cond, inl, inr, ◌++◌, take, length, List, [], ◌∷◌, slice_get, get_or, Option, None, Some, refl, sym, ap, subst, ◌∙◌, arith}
use Rattle.std.specs.List.{list_any}
use Rattle.std.proofs.lemmas.Bool.{eqb-true}
use Rattle.std.proofs.Math.Bool.{or-false, or_assoc}
use Rattle.std.proofs.lemmas.List.Folds.{list_any-append, list_any_more}
use Rattle.indexmap.specs.IndexMap.{get, IsUnique}
use Rattle.audit_events.specs.mv_base.declared.ids.IfaceId.{IfaceId}
use Rattle.audit_events.specs.scenario_defs.declared.report.ReportLine.{ReportLine}
use Rattle.audit_events.specs.scenario_defs.declared.report.ReportLine.TheVariants as lines
use Rattle.audit_events.specs.audit_defs.declared.verdict.Numbered.{Numbered}
use Rattle.audit_events.proofs.audit_defs.Lists.{and_both, some_same}
use Rattle.audit_events.proofs.InWindows.{split}
use Rattle.audit_events.proofs.WalkLemmas.{next_is, take_next}
use Rattle.mvpn_audit.specs.declared.exits.Exit.{Exit}
use Rattle.mvpn_audit.specs.declared.exits.OutLines.{OutLines}
use Rattle.mvpn_audit.specs.Exits.{ExitMap, is_exit, exit, says, has_out, is_repeat, has_exit, noted_if, asked_if, asks, AreExits, AreRepeats, AreOutLines}

-- ---- lists

pub length_more : {X : Type 0} (xs : List X) (x : X) → length (xs ++ x ∷ []) ≡ length xs + 1
length_more [] x = refl
length_more (y ∷ ys) x = (let same = length_more ys x in omega (arith, same))

pub got_before : {X : Type 0} (xs ys : List X) (place : ℕ) → place < length xs → slice_get (xs ++ ys) place ≡ slice_get xs place
got_before [] ys place less = absurd (omega (arith, less))
got_before (x ∷ xs) ys zero less = refl
got_before (x ∷ xs) ys (suc place) less = got_before xs ys place (omega (arith, less))

pub got_last : {X : Type 0} (xs : List X) (x : X) → slice_get (xs ++ x ∷ []) (length xs) ≡ Some x
got_last [] x = refl
got_last (y ∷ ys) x = got_last ys x

pub got_none : {X : Type 0} (xs : List X) (place : ℕ) → length xs ≤ place → slice_get xs place ≡ None
got_none [] place le = refl
got_none (x ∷ xs) zero le = absurd (omega (arith, le))
got_none (x ∷ xs) (suc place) le = got_none xs place (omega (arith, le))

-- ---- one line more

pub out_next : (all : List Numbered) (n : ℕ) (numbered : Numbered) → slice_get all n ≡ Some numbered → (own : Exit) →
    has_out (take (n + 1) all) own ≡ (has_out (take n all) own || says numbered.value own)
out_next all n numbered e own =
    ap (λ (k : ℕ). has_out (take k all) own) (next_is n)
    ∙ (ap (λ (l : List Numbered). has_out l own) (take_next all n numbered e)
    ∙ (list_any-append (λ (line : Numbered). says line.value own) (take n all) (numbered ∷ [])
    ∙ ap (λ b. has_out (take n all) own || b) (or-false (says numbered.value own))))

said_more : (s h : Bool) → ◌≡◌ {A = Option Bool} (cond s (Some false) (cond h (Some false) None)) (cond (h || s) (Some false) None)
said_more true true = refl
said_more true false = refl
said_more false true = refl
said_more false false = refl

exits_next : (all : List Numbered) (n : ℕ) (numbered : Numbered) → slice_get all n ≡ Some numbered → (old new : ExitMap) → AreExits (take n all) old →
    ((own : Exit) → get is_exit new own ≡ noted_if (says numbered.value own) (get is_exit old own)) → IsUnique is_exit new
    → AreExits (take (n + 1) all) new
exits_next all n numbered at old new are step unique = record {
  each = λ own.
      step own
      ∙ (ap (noted_if (says numbered.value own)) (are.each own)
      ∙ (said_more (says numbered.value own) (has_out (take n all) own) ∙ ap (λ b. cond b (Some false) None) (sym (out_next all n numbered at own))));
  unique = unique;
}

pub there : (h w : Bool) → is_some (cond h (Some w) None) ≡ h
there true w = refl
there false w = refl

repeat_is : (all : List Numbered) (n : ℕ) (old : ExitMap) → AreExits (take n all) old → (value : ReportLine)
    → has_exit old value ≡ is_repeat (take n all) value
repeat_is all n old are (lines.Out number iface octets) =
    ap (λ (o : Option Bool). is_some o) (are.each (exit number iface)) ∙ there (has_out (take n all) (exit number iface)) false
repeat_is all n old are other = refl

repeats_next : (all : List Numbered) (n : ℕ) (numbered : Numbered) → slice_get all n ≡ Some numbered → (repeats : List Bool) (earlier : Bool)
    → AreRepeats all n repeats →
    earlier ≡ is_repeat (take n all) numbered.value → AreRepeats all (n + 1) (repeats ++ earlier ∷ [])
repeats_next all n numbered at repeats earlier are own = record {
  few = length_more repeats earlier ∙ ap (λ k. k + 1) are.few;
  each = λ place other less e. elim (split place n) [
    | inl low ↦ (let few = are.few in got_before repeats (earlier ∷ []) place (omega (arith, low, few))) ∙ are.each place other low e
    | inr high ↦
        let same : place ≡ n = omega (arith, less, high) in
        let one : numbered ≡ other = some_same numbered other (sym at ∙ (ap (slice_get all) (sym same) ∙ e)) in
        ap (slice_get (repeats ++ earlier ∷ [])) (same ∙ sym are.few)
        ∙ (got_last repeats earlier
        ∙ (ap (λ (b : Bool). Some b) own
        ∙ (λ i. Some (is_repeat (take (sym same i) all) (one i).value))))
  ];
}

-- What one line more says.
pub outs_next : (all : List Numbered) (n : ℕ) (numbered : Numbered) → slice_get all n ≡ Some numbered
    → (old new : ExitMap) (repeats more : List Bool) (earlier : Bool) →
    AreOutLines all n (record { exits = old; repeats = repeats })
    → ((own : Exit) → get is_exit new own ≡ noted_if (says numbered.value own) (get is_exit old own)) →
    earlier ≡ has_exit old numbered.value → IsUnique is_exit new → more ≡ repeats ++ earlier ∷ []
    → AreOutLines all (n + 1) (record { exits = new; repeats = more })
outs_next all n numbered at old new repeats more earlier are step same unique grown = record {
  exits = exits_next all n numbered at old new are.exits step unique;
  repeats =
      subst (λ (l : List Bool). AreRepeats all (n + 1) l) (sym grown)
      (repeats_next all n numbered at repeats earlier are.repeats (same ∙ repeat_is all n old are.exits numbered.value));
}

-- Without a line nothing has left.
pub no_outs : (all : List Numbered) (outs : OutLines) → ((own : Exit) → get is_exit outs.exits own ≡ None) → IsUnique is_exit outs.exits
    → outs.repeats ≡ [] → AreOutLines all 0 outs
no_outs all outs none unique empty = record {
  exits = record { each = none; unique = unique };
  repeats = record { few = ap (λ (l : List Bool). length l) empty; each = λ place numbered less e. absurd (omega (arith, less)) };
}

-- ---- one receiver more

asked_twice : (a b : Bool) (o : Option Bool) → asked_if b (asked_if a o) ≡ asked_if (a || b) o
asked_twice a b None = refl
asked_twice a b (Some before) = ap (λ (t : Bool). Some t) (or_assoc before a b)

asked_keeps : (b : Bool) (o : Option Bool) → is_some (asked_if b o) ≡ is_some o
asked_keeps b None = refl
asked_keeps b (Some before) = refl

-- Nothing changes where nobody is asked.
pub asked_none : (o : Option Bool) → o ≡ asked_if false o
asked_none None = refl
asked_none (Some before) = ap (λ (t : Bool). Some t) (sym (or-false before))

module _ (number : ℕ) (asked : List IfaceId) (i : ℕ) (d : IfaceId) (less : i < length asked) (before cur : Exit → Option Bool)
    (held : (own : Exit) → cur own ≡ asked_if (asks number (take i asked) own) (before own)) where
  abbrev here : Exit
  here = exit number (get_or asked i d)

  pub asked_more : (new : Exit → Option Bool) → ((own : Exit) → new own ≡ asked_if (is_exit here own) (cur own)) → (own : Exit) →
      new own ≡ asked_if (asks number (take (i + 1) asked) own) (before own)
  asked_more new step own =
      step own
      ∙ (ap (asked_if (is_exit here own)) (held own)
      ∙ (asked_twice (asks number (take i asked) own) (is_exit here own) (before own)
      ∙ ap (λ b. asked_if b (before own)) (sym (list_any_more (λ (iface : IfaceId). is_exit (exit number iface) own) asked i d less))))

  abbrev lack : IfaceId → Bool
  lack iface = not (is_some (before (exit number iface)))

  pub lacks_more : (lacks left now : Bool) → lacks ≡ list_any lack (take i asked) → left ≡ is_some (cur here) → now ≡ (lacks || not left)
      → now ≡ list_any lack (take (i + 1) asked)
  lacks_more lacks left now so same step =
      step
      ∙ (λ k. so k || not ((same ∙ (ap (λ (o : Option Bool). is_some o) (held here) ∙ asked_keeps (asks number (take i asked) here) (before here)))
      k))
      ∙ sym (list_any_more lack asked i d less)

-- ---- one exit

pub exit_equal : (a b : Exit) → is_exit a b ≡ true → a ≡ b
exit_equal a b e =
    let both = and_both (a.number == b.number) (a.iface.0 == b.iface.0) e in
    (λ i. record { number = eqb-true a.number b.number both.0 i; iface = record { 0 = eqb-true a.iface.0 b.iface.0 both.1 i } })

-- What is noted of an exit, where it is there.
pub ask_one : (look : Exit → Option Bool) (own q : Exit) (held : Bool) (new : Option Bool) → look own ≡ Some held →
    new ≡ cond (is_exit own q) (Some true) (look q) → new ≡ asked_if (is_exit own q) (look q)
ask_one look own q held new h n = n ∙ by (is_exit own q) refl
  where
    or_yes : (b : Bool) → (b || true) ≡ true
    or_yes true = refl
    or_yes false = refl

    by : (b : Bool) → is_exit own q ≡ b → cond b (Some true) (look q) ≡ asked_if b (look q)
    by true s = sym (ap (asked_if true) (ap look (sym (exit_equal own q s)) ∙ h) ∙ ap (λ (t : Bool). Some t) (or_yes held))
    by false s = asked_none (look q)

-- Nothing is noted of an exit that is not there.
pub ask_none : (look : Exit → Option Bool) (own q : Exit) → look own ≡ None → look q ≡ asked_if (is_exit own q) (look q)
ask_none look own q h = by (is_exit own q) refl
  where
    by : (b : Bool) → is_exit own q ≡ b → look q ≡ asked_if b (look q)
    by true s = (let none = ap look (sym (exit_equal own q s)) ∙ h in none ∙ sym (ap (asked_if true) none))
    by false s = asked_none (look q)
