-- An entry that has ended is like one that is not there: a message leaves both alike.
use Rattle.std.proofs.Common.{◌≡◌, ℕ, ◌+◌, ◌<◌, ◌≤◌, Bool, true, false, cond, not, inl, inr, Option, None, Some, refl, sym, ap, ◌∙◌, arith}
use Rattle.std.specs.Prelude.{max, nat_lt, ◌&&◌}
use Rattle.std.proofs.lemmas.Bool.{cases_Bool}
use Rattle.std.proofs.lemmas.Bool.Decides.{nat_tests}
use Rattle.audit_defs.specs.scenario_defs.declared.event.JoinEntry.{JoinEntry}
use Rattle.audit_defs.specs.scenario_defs.declared.event.JoinEntry.TheVariants as entries
use Rattle.pim_defs.specs.declared.expiry.Expiry.{Expiry}
use Rattle.pim_defs.specs.declared.expiry.Expiry.TheVariants.{At, Never}
use Rattle.pim_defs.specs.declared.mention.Mention.{Mention}
use Rattle.pim_defs.specs.Expiry.{is_after, counts, later, held_until, extended, remaining}
use Rattle.pim_defs.specs.Mention.{rpt_after, joined_after, expiry_after}

-- two expiries that are alike at the clock: both count and are one, or neither counts
abbrev pub Alike : ℕ → Option Expiry → Option Expiry → Type 0
Alike clock a b = remaining clock a ≡ remaining clock b

after_max : (clock moment other : ℕ) → moment ≤ clock → clock < other → max moment other ≡ other
after_max clock moment other low high = omega arith

-- What remains of an expiry that is extended is what remains where only what remained is extended.
extended_rest : (clock holdtime : ℕ) (old : Option Expiry) → Alike clock (extended clock holdtime old) (extended clock holdtime (remaining clock old))
extended_rest clock holdtime None = refl
extended_rest clock holdtime (Some Never) = refl
extended_rest clock holdtime (Some (At moment)) = elim (cases_Bool (nat_lt clock moment)) [
  | inl is ↦ ap (λ (o : Option Expiry). remaining clock (extended clock holdtime o)) (sym (ap (λ b. cond b (Some (At moment)) None) is))
  | inr ended ↦ ended_so ended ∙ ap (λ (o : Option Expiry). remaining clock (extended clock holdtime o))
      (sym (ap (λ b. cond b (Some (At moment)) None) ended))
]
  where
    until : (expiry : Expiry) → (held_until clock holdtime ≡ expiry) → nat_lt clock moment ≡ false
        → Alike clock (extended clock holdtime (Some (At moment))) (extended clock holdtime None)
    until Never is ended =
        let first : extended clock holdtime (Some (At moment)) ≡ Some Never =
        ap (λ (e : Expiry). cond (is_after (later (At moment) e) clock) (Some (later (At moment) e)) (Some (At moment))) is in
        let second : extended clock holdtime None ≡ Some Never = ap (λ (e : Expiry). cond (is_after e clock) (Some e) None) is in
        ap (remaining clock) (first ∙ sym second)
    until (At other) is ended = elim (cases_Bool (nat_lt clock other)) [
      | inl more ↦
          let low : moment ≤ clock = grind (arith, nat_tests, ended) in
          let high : clock < other = grind (arith, nat_tests, more) in
          let one : max moment other ≡ other = after_max clock moment other low high in
          let first : extended clock holdtime (Some (At moment)) ≡ Some (At other) =
          ap (λ (e : Expiry). cond (is_after (later (At moment) e) clock) (Some (later (At moment) e)) (Some (At moment))) is
          ∙ (ap (λ m. cond (nat_lt clock m) (Some (At m)) (Some (At moment))) one ∙ ap (λ b. cond b (Some (At other)) (Some (At moment))) more) in
          let second : extended clock holdtime None ≡ Some (At other) =
          ap (λ (e : Expiry). cond (is_after e clock) (Some e) None) is ∙ ap (λ b. cond b (Some (At other)) None) more in
          ap (remaining clock) (first ∙ sym second)
      | inr less ↦
          let none : nat_lt clock (max moment other) ≡ false = grind (arith, nat_tests, ended, less) in
          let first : extended clock holdtime (Some (At moment)) ≡ Some (At moment) =
          ap (λ (e : Expiry). cond (is_after (later (At moment) e) clock) (Some (later (At moment) e)) (Some (At moment))) is
          ∙ ap (λ b. cond b (Some (At (max moment other))) (Some (At moment))) none in
          let second : extended clock holdtime None ≡ None =
          ap (λ (e : Expiry). cond (is_after e clock) (Some e) None) is ∙ ap (λ b. cond b (Some (At other)) None) less in
          ap (remaining clock) first ∙ (ap (λ b. cond b (Some (At moment)) None) ended ∙ ap (remaining clock) (sym second))
    ]

    ended_so : nat_lt clock moment ≡ false → Alike clock (extended clock holdtime (Some (At moment))) (extended clock holdtime None)
    ended_so ended = until (held_until clock holdtime) refl ended

remaining_twice : (clock : ℕ) (old : Option Expiry) → remaining clock (remaining clock old) ≡ remaining clock old
remaining_twice clock old = elim (cases_Bool (counts clock old)) [
  | inl is ↦ ap (remaining clock) (ap (λ b. cond b old None) is)
  | inr isnt ↦ ap (remaining clock) (ap (λ b. cond b old None) isnt) ∙ sym (ap (λ b. cond b old None) isnt)
]

joined_rest : (mention : Mention) (clock holdtime : ℕ) (old : Option Expiry)
    → Alike clock (joined_after mention clock holdtime old) (joined_after mention clock holdtime (remaining clock old))
joined_rest mention clock holdtime old = by mention.pruned mention.joined
  where
    by : (p j : Bool) → Alike clock (cond p None (cond j (extended clock holdtime old) old))
        (cond p None (cond j (extended clock holdtime (remaining clock old)) (remaining clock old)))
    by true j = refl
    by false true = extended_rest clock holdtime old
    by false false = sym (remaining_twice clock old)

rpt_rest : (mention : Mention) (clock holdtime : ℕ) (old : Option Expiry)
    → Alike clock (rpt_after mention clock holdtime old) (rpt_after mention clock holdtime (remaining clock old))
rpt_rest mention clock holdtime old = by mention.pruned mention.joined (mention.shared && not mention.pruned)
  where
    by : (p j s : Bool) → Alike clock (cond p (extended clock holdtime (cond j None (cond s None old))) (cond j None (cond s None old)))
        (cond p (extended clock holdtime (cond j None (cond s None (remaining clock old)))) (cond j None (cond s None (remaining clock old))))
    by true true s = refl
    by true false true = refl
    by true false false = extended_rest clock holdtime old
    by false true s = refl
    by false false true = refl
    by false false false = sym (remaining_twice clock old)

given_rest : (entry : JoinEntry) (mention : Mention) (clock holdtime : ℕ) (old : Option Expiry)
    → Alike clock (expiry_after entry mention clock holdtime old) (expiry_after entry mention clock holdtime (remaining clock old))
given_rest (entries.Rpt source group) mention clock holdtime old = rpt_rest mention clock holdtime old
given_rest (entries.Star group) mention clock holdtime old = joined_rest mention clock holdtime old
given_rest (entries.Source source group) mention clock holdtime old = joined_rest mention clock holdtime old

-- A message leaves alike what was alike.
pub given_alike : (entry : JoinEntry) (mention : Mention) (clock holdtime : ℕ) (a b : Option Expiry) → Alike clock a b →
    Alike clock (expiry_after entry mention clock holdtime a) (expiry_after entry mention clock holdtime b)
given_alike entry mention clock holdtime a b same =
    given_rest entry mention clock holdtime a
    ∙ (ap (λ (o : Option Expiry). remaining clock (expiry_after entry mention clock holdtime o)) same
    ∙ sym (given_rest entry mention clock holdtime b))

-- What a run of the timers leaves is alike.
pub timers_alike : (clock : ℕ) (a b : Option Expiry) → Alike clock a b → Alike clock a (remaining clock b)
timers_alike clock a b same = same ∙ sym (remaining_twice clock b)

-- What is left at a later clock, of what is left at an earlier one.
later_rest : (clock more : ℕ) (old : Option Expiry) → remaining (clock + more) (remaining clock old) ≡ remaining (clock + more) old
later_rest clock more None = refl
later_rest clock more (Some Never) = refl
later_rest clock more (Some (At moment)) = elim (cases_Bool (nat_lt clock moment)) [
  | inl is ↦ ap (remaining (clock + more)) (ap (λ b. cond b (Some (At moment)) None) is)
  | inr isnt ↦
      let none : nat_lt (clock + more) moment ≡ false = grind (arith, nat_tests, isnt) in
      ap (remaining (clock + more)) (ap (λ b. cond b (Some (At moment)) None) isnt) ∙ sym (ap (λ b. cond b (Some (At moment)) None) none)
]

-- What is alike stays so as the clock goes on.
pub later_alike : (clock more : ℕ) (a b : Option Expiry) → Alike clock a b → Alike (clock + more) a b
later_alike clock more a b same = sym (later_rest clock more a) ∙ (ap (remaining (clock + more)) same ∙ later_rest clock more b)

-- What is alike counts alike.
pub counts_alike : (clock : ℕ) (a b : Option Expiry) → Alike clock a b → counts clock a ≡ counts clock b
counts_alike clock a b same = sym (rest a) ∙ (ap (counts clock) same ∙ rest b)
  where
    rest : (o : Option Expiry) → counts clock (remaining clock o) ≡ counts clock o
    rest o = elim (cases_Bool (counts clock o)) [
      | inl is ↦ ap (counts clock) (ap (λ b. cond b o None) is)
      | inr isnt ↦ ap (counts clock) (ap (λ b. cond b o None) isnt) ∙ sym isnt
    ]
