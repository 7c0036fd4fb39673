-- Whether a label is mapped after one more message.
use Rattle.std.proofs.Common.{◌≡◌, ◌≢◌, ℕ, ◌⊎◌, inl, inr, ◌↔◌, Bool, IsTrue, List, [], ◌∷◌, ◌++◌, length, refl, sym, ap, subst, ◌∙◌, append_assoc, arith}
use Rattle.std.specs.List.{Contains}
use Rattle.std.proofs.lemmas.List.{length-append}
use Rattle.std.proofs.lemmas.List.Elements.{Contains-append_left, Contains-push, Contains-push_cases}
use Rattle.mldp.specs.declared.mldp_fec.fec.Fec.{Fec}
use Rattle.mldp.specs.declared.mldp_msgs.message.LabelMessage.{LabelMessage}
use Rattle.mldp.specs.declared.mldp_msgs.message.LabelMessage.TheVariants as messages
use Rattle.mldp.specs.mldp_msgs.Labels.{IsMapped, MappedBy}

-- Of a list with one more element, this one is the last of a part, or is after it.
last_or : {A : Type 0} (xs : List A) (x : A) (ys : List A) (y : A) (zs : List A) → xs ++ x ∷ [] ≡ ys ++ y ∷ zs
    → (x ≡ y) ⊎ ((ws : List A) × (zs ≡ ws ++ x ∷ []) × (xs ≡ ys ++ y ∷ ws))
last_or [] x [] y zs e = inl cc
last_or (u ∷ us) x [] y zs e = let head : u ≡ y = cc in let tail : us ++ x ∷ [] ≡ zs = cc in inr (us, sym tail, ap (λ v. v ∷ us) head)
last_or [] x (v ∷ vs) y zs e = absurd (omega (arith, ap (λ (l : List _). length l) e, length-append vs (y ∷ zs)))
last_or (u ∷ us) x (v ∷ vs) y zs e =
    let head : u ≡ v = cc in
    let tail : us ++ x ∷ [] ≡ vs ++ y ∷ zs = cc in
    elim (last_or us x vs y zs tail) [
      | inl same ↦ inl same
      | inr thereafter ↦ inr (thereafter.0, thereafter.1, ap (λ (l : List _). u ∷ l) thereafter.2 ∙ ap (λ w. w ∷ (vs ++ y ∷ thereafter.0)) head)
    ]

-- None is mapped by no message.
pub none_mapped : (f : Fec) (l : ℕ) → ¬ IsMapped [] f l
none_mapped f l h =
    absurd (omega (arith, ap (λ (ms : List LabelMessage). length ms) h.parts, length-append h.before (messages.Mapping f l ∷ h.after)))

-- It was mapped before, or this message maps it.
was : (ms : List LabelMessage) (m : LabelMessage) (f : Fec) (l : ℕ) → IsMapped (ms ++ m ∷ []) f l → (m ≡ messages.Mapping f l) ⊎ IsMapped ms f l
was ms m f l h =
    elim (last_or ms m h.before (messages.Mapping f l) h.after h.parts) [
      | inl same ↦ inl same
      | inr thereafter ↦ inr (record {
        before = h.before;
        after = thereafter.0;
        parts = thereafter.2;
        kept = λ has. h.kept (subst (λ (ns : List LabelMessage). Contains ns (messages.Withdraw f l)) (sym thereafter.1)
            (Contains-append_left thereafter.0 (m ∷ []) (messages.Withdraw f l) has));
      })
    ]

-- This message does not withdraw it.
not_withdrawn : (ms : List LabelMessage) (m : LabelMessage) (f : Fec) (l : ℕ) → IsMapped (ms ++ m ∷ []) f l → m ≢ messages.Withdraw f l
not_withdrawn ms m f l h is =
    elim (last_or ms m h.before (messages.Mapping f l) h.after h.parts) [
      | inl same ↦ let clash : messages.Withdraw f l ≡ messages.Mapping f l = sym is ∙ same in absurd cc
      | inr thereafter ↦
          let has : Contains (thereafter.0 ++ m ∷ []) m = Contains-push thereafter.0 m in
          let there : Contains h.after m = subst (λ (ns : List LabelMessage). Contains ns m) (sym thereafter.1) has in
          h.kept (subst (Contains h.after) is there)
    ]

-- What was mapped stays so after each message but its withdrawal.
stays : (ms : List LabelMessage) (m : LabelMessage) (f : Fec) (l : ℕ) → IsMapped ms f l → m ≢ messages.Withdraw f l → IsMapped (ms ++ m ∷ []) f l
stays ms m f l h other = record {
  before = h.before;
  after = h.after ++ m ∷ [];
  parts = ap (λ (ns : List LabelMessage). ns ++ m ∷ []) h.parts ∙ append_assoc h.before (messages.Mapping f l ∷ h.after) (m ∷ []);
  kept = λ has. elim (Contains-push_cases h.after m (messages.Withdraw f l) has) [ inl there ↦ h.kept there | inr is ↦ other is ];
}

-- A mapping maps it.
maps : (ms : List LabelMessage) (f : Fec) (l : ℕ) → IsMapped (ms ++ messages.Mapping f l ∷ []) f l
maps ms f l = record { before = ms; after = []; parts = refl; kept = λ has. absurd (omega (arith, has.1)) }

mapping_is : (g f : Fec) (k l : ℕ) → messages.Mapping g k ≡ messages.Mapping f l → (g ≡ f) × (k ≡ l)
mapping_is g f k l e = (cc, cc)

withdraw_is : (g f : Fec) (k l : ℕ) → messages.Withdraw g k ≡ messages.Withdraw f l → (g ≡ f) × (k ≡ l)
withdraw_is g f k l e = (cc, cc)

by_mapping : (ms : List LabelMessage) (g f : Fec) (k l : ℕ) (before after : Bool) → MappedBy (messages.Mapping g k) f l before after
    → (IsTrue before ↔ IsMapped ms f l) → IsTrue after ↔ IsMapped (ms ++ messages.Mapping g k ∷ []) f l
by_mapping ms g f k l before after step h = (
  λ is. elim (step.0 is) [
    | inl was ↦ stays ms (messages.Mapping g k) f l (h.0 was) (λ e. absurd cc)
    | inr same ↦
        let e : messages.Mapping f l ≡ messages.Mapping g k = λ i. messages.Mapping (sym same.0 i) (sym same.1 i) in
        subst (λ (m : LabelMessage). IsMapped (ms ++ m ∷ []) f l) e (maps ms f l)
  ],
  λ is. step.1 (elim (was ms (messages.Mapping g k) f l is) [ inl e ↦ inr (mapping_is g f k l e) | inr before_it ↦ inl (h.1 before_it) ]),
)

by_withdraw : (ms : List LabelMessage) (g f : Fec) (k l : ℕ) (before after : Bool) → MappedBy (messages.Withdraw g k) f l before after
    → (IsTrue before ↔ IsMapped ms f l) → IsTrue after ↔ IsMapped (ms ++ messages.Withdraw g k ∷ []) f l
by_withdraw ms g f k l before after step h = (
  λ is. (let both = step.0 is in stays ms (messages.Withdraw g k) f l (h.0 both.0) (λ e. both.1 (withdraw_is g f k l e))),
  λ is. step.1 (
    elim (was ms (messages.Withdraw g k) f l is) [ inl e ↦ absurd cc | inr before_it ↦ h.1 before_it ],
    λ same. (let e : messages.Withdraw g k ≡ messages.Withdraw f l = λ i. messages.Withdraw (same.0 i) (same.1 i) in
        not_withdrawn ms (messages.Withdraw g k) f l is e),
  ),
)

-- another message changes nothing
by_other : (ms : List LabelMessage) (m : LabelMessage) (f : Fec) (l : ℕ) (before after : Bool) → m ≢ messages.Mapping f l → m ≢ messages.Withdraw f l
    → after ≡ before → (IsTrue before ↔ IsMapped ms f l) → IsTrue after ↔ IsMapped (ms ++ m ∷ []) f l
by_other ms m f l before after no_mapping no_withdraw same h = (
  λ is. stays ms m f l (h.0 (subst IsTrue same is)) no_withdraw,
  λ is. subst IsTrue (sym same) (elim (was ms m f l is) [ inl e ↦ absurd (no_mapping e) | inr before_it ↦ h.1 before_it ]),
)

-- It is mapped after one more message where the message says so.
pub mapped_more : (ms : List LabelMessage) (m : LabelMessage) (f : Fec) (l : ℕ) (before after : Bool) → MappedBy m f l before after
    → (IsTrue before ↔ IsMapped ms f l) → IsTrue after ↔ IsMapped (ms ++ m ∷ []) f l
mapped_more ms (messages.Mapping g k) f l before after step h = by_mapping ms g f k l before after step h
mapped_more ms (messages.Withdraw g k) f l before after step h = by_withdraw ms g f k l before after step h
mapped_more ms (messages.Release g k) f l before after step h =
    by_other ms (messages.Release g k) f l before after (λ e. absurd cc) (λ e. absurd cc) step h
mapped_more ms (messages.Ignored kind) f l before after step h =
    by_other ms (messages.Ignored kind) f l before after (λ e. absurd cc) (λ e. absurd cc) step h
