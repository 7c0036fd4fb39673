-- Each mapping of a step takes the least label that is free then, and goes to a session that is ready.
use Rattle.std.proofs.Common.{◌≡◌, ℕ, ◌<◌, ◌==◌, Bool, true, false, ◌++◌, ◌⊎◌, inl, inr, List, [], ◌∷◌, Option, Some, None, refl, sym, ap, subst, ◌∙◌}
use Rattle.std.specs.List.{list_any}
use Rattle.std.specs.FinMap as maps
use Rattle.std.proofs.lemmas.Bool.{cases_eq, eq-eqb, or_left, or_right}
use Rattle.std.proofs.lemmas.List.{append-nil}
use Rattle.std.proofs.lemmas.List.Folds.{list_any-append}
use Rattle.std.proofs.lemmas.Option.{same_Some}
use Rattle.mldp.specs.mv_base.declared.ids.NodeId.{NodeId}
use Rattle.mldp.specs.declared.mldp_fec.fec.Fec.{Fec}
use Rattle.mldp.specs.declared.mldp_msgs.message.LabelMessage.TheVariants as messages
use Rattle.label_defs.specs.declared.end.End.{End}
use Rattle.label_defs.specs.declared.label_use.LabelUse.{LabelUse}
use Rattle.label_defs.specs.declared.label_use.LabelUse.TheVariants as uses
use Rattle.label_defs.specs.declared.put.Put.{Put}
use Rattle.label_defs.specs.LabelData.{Place, LabelData, use_of, has_tree, is_ready}
use Rattle.label_defs.specs.Settling.{Stepped, with_use}
use Rattle.label_defs.specs.Steps.{Call, Taken, Want, Unwant, Raised, Noticed, Timers, Rerouted, effect, label_step}
use Rattle.label_defs.specs.Settled.{Maps}
use Rattle.label_defs.specs.Laws.{releases, takes, mapping_to, MappingIs}
use Rattle.label_defs.proofs.UseLemmas.{used, set_here, set_there}
use Rattle.label_defs.proofs.TreeLemmas.{one_tree}
use Rattle.label_defs.proofs.EffectLemmas.{held}
use Rattle.label_defs.proofs.TurnLemmas.{Turn, Quiet, Takes, Gives, Off, on_it}
use Rattle.label_defs.proofs.IdLemmas.{counted_ready}
use Rattle.label_defs.proofs.OwnLemmas.{step_keeps, rest_tree, rest_ready, free_then, then_free}

-- a part of a list with one more element after it
pub snoc_split : {A : Type 0} (xs front : List A) (x put : A) (thereafter : List A) → xs ++ x ∷ [] ≡ front ++ put ∷ thereafter
    → ((rest : List A) × (xs ≡ front ++ put ∷ rest)) ⊎ ((xs ≡ front) × (x ≡ put))
snoc_split [] [] x put thereafter e = inr (refl, cc)
snoc_split [] (y ∷ []) x put thereafter e = absurd cc
snoc_split [] (y ∷ (z ∷ front)) x put thereafter e = absurd cc
snoc_split (w ∷ xs) [] x put thereafter e = let same : w ≡ put = cc in inl (xs, ap (λ y. y ∷ xs) same)
snoc_split (w ∷ xs) (y ∷ front) x put thereafter e =
    let same : w ≡ y = cc in
    let more : xs ++ x ∷ [] ≡ front ++ put ∷ thereafter = cc in
    elim (snoc_split xs front x put thereafter more) [
      | inl r ↦ inl (r.0, λ i. same i ∷ r.1 i)
      | inr r ↦ inr (λ i. same i ∷ r.0 i, r.1)
    ]

abbrev takes_by : ℕ → Put → Bool
takes_by label put = takes label put.message

-- a mapping that was put, as the trees settle from the data at the start
record Found (place : Place) (start part : LabelData) (before : List Put) (to : NodeId) (fec : Fec) (label : ℕ) : Type 0 where
  toward : place.upstream fec ≡ Some to
  ready : is_ready part to ≡ true
  free : use_of start label ≡ Some uses.Free
  least : (lower : ℕ) → lower < label → use_of start lower ≡ Some uses.Free → list_any (takes_by lower) before ≡ true
  tree : has_tree part fec ≡ true
  holds : Maps part fec label to

record Traced (place : Place) (start part : LabelData) (puts : List Put) : Type 0 where
  -- what is free was so, and what was free is so or was taken
  free : (label : ℕ) → use_of part label ≡ Some uses.Free → use_of start label ≡ Some uses.Free
  taken : (label : ℕ) → use_of start label ≡ Some uses.Free → (use_of part label ≡ Some uses.Free) ⊎ (list_any (takes_by label) puts ≡ true)
  found : (before thereafter : List Put) (to : NodeId) (fec : Fec) (label : ℕ) → puts ≡ before ++ mapping_to to fec label ∷ thereafter
      → Found place start part before to fec label

same_found : (place : Place) (start part : LabelData) (a b : List Put) (u v : NodeId) (f g : Fec) (l k : ℕ) → a ≡ b → u ≡ v → f ≡ g → l ≡ k
    → Found place start part a u f l → Found place start part b v g k
same_found place start part a b u v f g l k ea eu ef el x =
    subst (λ (n : ℕ). Found place start part b v g n) el
    (subst (λ (n : Fec). Found place start part b v n l) ef
    (subst (λ (n : NodeId). Found place start part b n f l) eu (subst (λ (n : List Put). Found place start part n u f l) ea x)))

pub same_uses : (old next : LabelData) (labels : List LabelUse) → next.labels ≡ labels → (k : ℕ) → use_of next k ≡ used labels k
same_uses old next labels e k = ap (λ (ls : List LabelUse). used ls k) e

module _ (place : Place) (start old : LabelData) (fec : Fec) (next : LabelData) (puts more : List Put) where
  quiet_traced : Turn place old fec next more → Quiet place old fec next more → Traced place start old puts → Traced place start next (puts ++ more)
  quiet_traced t q x =
      let same : (k : ℕ) → use_of next k ≡ use_of old k = same_uses old next old.labels q.labels in
      let none : puts ++ more ≡ puts = ap (λ (ps : List Put). puts ++ ps) q.silent ∙ append-nil puts in
      record {
        free = λ k e. x.free k (sym (same k) ∙ e);
        taken = λ k e. elim (x.taken k e) [
          | inl is ↦ inl (same k ∙ is)
          | inr is ↦ inr (ap (list_any (takes_by k)) none ∙ is)
        ];
        found = λ before thereafter to own label e.
            let f = x.found before thereafter to own label (sym none ∙ e) in
            record {
              toward = f.toward;
              ready = rest_ready old next t.rest to ∙ f.ready;
              free = f.free;
              least = f.least;
              tree =
                  rest_tree old next t.rest own ∙ f.tree;
              holds = same label ∙ f.holds;
            };
      }

  takes_traced : Turn place old fec next more → Takes place old fec next more → Traced place start old puts → Traced place start next (puts ++ more)
  takes_traced t m x =
      let one : Put = mapping_to m.to fec m.label in
      let same : (k : ℕ) → use_of next k ≡ use_of (with_use old m.label (uses.Mapped fec m.to)) k =
      same_uses old next (with_use old m.label (uses.Mapped fec m.to)).labels m.labels in
      let here : Maps next fec m.label m.to = same m.label ∙ set_here old m.label uses.Free (uses.Mapped fec m.to) m.least.free in
      let there : (k : ℕ) → (k ≡ m.label → ⊥) → use_of next k ≡ use_of old k =
      λ k ne. same k ∙ set_there old m.label uses.Free (uses.Mapped fec m.to) k m.least.free ne in
      let all : puts ++ more ≡ puts ++ one ∷ [] = ap (λ (ps : List Put). puts ++ ps) m.put in
      record {
        free = λ k e. elim (cases_eq k m.label) [
          | inl p ↦ (let no_longer = same_Some (uses.Mapped fec m.to) uses.Free (sym (ap (use_of next) p ∙ here) ∙ e) in absurd cc)
          | inr ne ↦ x.free k (sym (there k ne) ∙ e)
        ];
        taken = λ k e. elim (x.taken k e) [
          | inr is ↦ inr (ap (list_any (takes_by k)) all ∙ list_any-append (takes_by k) puts (one ∷ [])
              ∙ or_left (list_any (takes_by k) puts) (list_any (takes_by k) (one ∷ [])) is)
          | inl is ↦ elim (cases_eq k m.label) [
            | inr ne ↦ inl (there k ne ∙ is)
            | inl p ↦ inr (ap (list_any (takes_by k)) all ∙ list_any-append (takes_by k) puts (one ∷ [])
                ∙ or_right (list_any (takes_by k) puts) (list_any (takes_by k) (one ∷ [])) (or_left (m.label == k) false (eq-eqb m.label k (sym p))))
          ]
        ];
        found = λ before thereafter to own label e. elim (snoc_split puts before one (mapping_to to own label) thereafter (sym all ∙ e)) [
          | inl r ↦
              let f = x.found before r.0 to own label r.1 in
              record {
                toward = f.toward;
                ready = rest_ready old next t.rest to ∙ f.ready;
                free = f.free;
                least = f.least;
                tree = rest_tree old next t.rest own ∙ f.tree;
                holds = there label (λ p. (let both = same_Some (uses.Mapped own to) uses.Free (sym f.holds ∙ ap (use_of old) p ∙ m.least.free) in
                    absurd cc)) ∙ f.holds;
              }
          | inr r ↦
              let message : messages.Mapping fec m.label ≡ messages.Mapping own label = ap (λ (put : Put). put.message) r.1 in
              let tree : fec ≡ own = cc in
              let number : m.label ≡ label = cc in
              same_found place start next puts before m.to to fec own m.label label r.0 (ap (λ (put : Put). put.to) r.1) tree number (record {
                toward = m.toward;
                ready = rest_ready old next t.rest m.to ∙ m.ready;
                free = x.free m.label m.least.free;
                least = λ lower lt is. elim (x.taken lower is) [ inl still ↦ absurd (m.least.lower lower lt still) | inr was ↦ was ];
                tree = rest_tree old next t.rest fec ∙ m.tree;
                holds = here;
              })
        ];
      }

  gives_traced : Turn place old fec next more → Gives place old fec next more → Traced place start old puts → Traced place start next (puts ++ more)
  gives_traced t w x =
      let one : Put = record { to = w.to; message = messages.Withdraw fec w.label } in
      let same : (k : ℕ) → use_of next k ≡ use_of (with_use old w.label (uses.Leaving fec w.to)) k =
      same_uses old next (with_use old w.label (uses.Leaving fec w.to)).labels w.labels in
      let here : use_of next w.label ≡ Some (uses.Leaving fec w.to) =
      same w.label ∙ set_here old w.label (uses.Mapped fec w.to) (uses.Leaving fec w.to) w.was in
      let there : (k : ℕ) → (k ≡ w.label → ⊥) → use_of next k ≡ use_of old k =
      λ k ne. same k ∙ set_there old w.label (uses.Mapped fec w.to) (uses.Leaving fec w.to) k w.was ne in
      let all : puts ++ more ≡ puts ++ one ∷ [] = ap (λ (ps : List Put). puts ++ ps) w.put in
      record {
        free = λ k e. elim (cases_eq k w.label) [
          | inl p ↦ (let leaves = same_Some (uses.Leaving fec w.to) uses.Free (sym (ap (use_of next) p ∙ here) ∙ e) in absurd cc)
          | inr ne ↦ x.free k (sym (there k ne) ∙ e)
        ];
        taken = λ k e. elim (x.taken k e) [
          | inr is ↦ inr (ap (list_any (takes_by k)) all ∙ list_any-append (takes_by k) puts (one ∷ [])
              ∙ or_left (list_any (takes_by k) puts) (list_any (takes_by k) (one ∷ [])) is)
          | inl is ↦ elim (cases_eq k w.label) [
            | inr ne ↦ inl (there k ne ∙ is)
            | inl p ↦ (let both = same_Some (uses.Mapped fec w.to) uses.Free (sym (ap (use_of old) p ∙ w.was) ∙ is) in absurd cc)
          ]
        ];
        found = λ before thereafter to own label e. elim (snoc_split puts before one (mapping_to to own label) thereafter (sym all ∙ e)) [
          | inr r ↦ (let message : messages.Withdraw fec w.label ≡ messages.Mapping own label = ap (λ (put : Put). put.message) r.1 in absurd cc)
          | inl r ↦
              let f = x.found before r.0 to own label r.1 in
              record {
                toward = f.toward;
                ready = rest_ready old next t.rest to ∙ f.ready;
                free = f.free;
                least = f.least;
                tree = rest_tree old next t.rest own ∙ f.tree;
                holds = there label (λ p.
                    let both =
                    one_tree own fec to w.to (same_Some (uses.Mapped own to) (uses.Mapped fec w.to) (sym f.holds ∙ ap (use_of old) p ∙ w.was)) in
                    on_it place old own to f.tree f.toward (subst (λ (x : Fec). Off place old x to) (sym both.0)
                    (subst (Off place old fec) (sym both.1) w.off))) ∙ f.holds;
              }
        ];
      }

  turn_traced : Turn place old fec next more → Traced place start old puts → Traced place start next (puts ++ more)
  turn_traced t x = elim t.how [
    | inl q ↦ quiet_traced t q x
    | inr (inl m) ↦ takes_traced t m x
    | inr (inr w) ↦ gives_traced t w x
  ]

-- ---- whole steps

is_held : (o : Option End) → held o ≡ true → (end : End) × (o ≡ Some end) × (end.held ≡ true)
is_held None e = absurd cc
is_held (Some end) e = (end, refl, e)

pub none_first : (before thereafter : List Put) (put : Put) → [] ≡ before ++ put ∷ thereafter → ⊥
none_first [] thereafter put e = absurd cc
none_first (first ∷ before) thereafter put e = absurd cc

one_first : (from : NodeId) (fec : Fec) (label : ℕ) (before thereafter : List Put) (put : Put) → releases put.message ≡ false
    → record { to = from; message = messages.Release fec label } ∷ [] ≡ before ++ put ∷ thereafter → ⊥
one_first from fec label [] thereafter put none e =
    let release : Put = record { to = from; message = messages.Release fec label } in
    let same : release ≡ put = cc in
    let is : true ≡ false = ap (λ (p : Put). releases p.message) same ∙ none in
    absurd cc
one_first from fec label (first ∷ before) thereafter put none e = (let rest : [] ≡ before ++ put ∷ thereafter = cc in none_first before thereafter put rest)

-- the call's own effect puts releases alone
pub no_own_put : (place : Place) (now : ℕ) (part : LabelData) (call : Call) (before thereafter : List Put) (put : Put) → releases put.message ≡ false
    → (effect place now part call).0.puts ≡ before ++ put ∷ thereafter → ⊥
no_own_put place now part (Taken from (messages.Mapping fec label)) before thereafter put none e = none_first before thereafter put e
no_own_put place now part (Taken from (messages.Withdraw fec label)) before thereafter put none e = one_first from fec label before thereafter put none e
no_own_put place now part (Taken from (messages.Release fec label)) before thereafter put none e = none_first before thereafter put e
no_own_put place now part (Taken from (messages.Ignored kind)) before thereafter put none e = none_first before thereafter put e
no_own_put place now part (Want fec) before thereafter put none e = none_first before thereafter put e
no_own_put place now part (Unwant fec) before thereafter put none e = none_first before thereafter put e
no_own_put place now part (Raised peer) before thereafter put none e = none_first before thereafter put e
no_own_put place now part (Noticed peer) before thereafter put none e = none_first before thereafter put e
no_own_put place now part Timers before thereafter put none e = none_first before thereafter put e
no_own_put place now part Rerouted before thereafter put none e = none_first before thereafter put e

pub mapping_is : (place : Place) (now : ℕ) (part : LabelData) (call : Call) (new : Stepped) (before thereafter : List Put) (to : NodeId) (fec : Fec)
    (label : ℕ) → label_step place now part call ≡ Some new
    → new.puts ≡ before ++ mapping_to to fec label ∷ thereafter → MappingIs place now part call new.part before to fec label
mapping_is place now part call new before thereafter to fec label e is =
    let start = (effect place now part call).0.part in
    let traced =
    step_keeps place now part call new (λ p puts. Traced place start p puts)
    (λ old puts own next more t x. turn_traced place start old own next puts more t x)
    (λ old x. record {
      free = x.free;
      taken = x.taken;
      found =
          λ b r u f l h. (let y = x.found b r u f l h in
          record { toward = y.toward; ready = counted_ready old u ∙ y.ready; free = y.free; least = y.least; tree = y.tree; holds = y.holds });
    })
    (record { free = λ k h. h; taken = λ k h. inl h; found = λ b r u f l h. absurd (no_own_put place now part call b r (mapping_to u f l) refl h) }) e
    in
    let f = traced.found before thereafter to fec label is in
    record {
      toward = f.toward;
      ready = is_held (maps.get new.part.ends to) f.ready;
      free = free_then place now part call label f.free;
      least = λ lower lt x. f.least lower lt (then_free place now part call lower x);
      holds = f.holds;
    }
