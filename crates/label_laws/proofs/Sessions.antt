-- Sessions are unjoined and joined.
use Rattle.std.proofs.Common.{◌≡◌, ℕ, ◌&&◌, ◌||◌, Bool, true, false, not, inl, inr, refl, sym, ap, ◌∙◌, [], filter, is_some}
use Rattle.std.proofs.lemmas.Bool.{cases_Bool, cond-true, cond-false, and_right, or_right}
use Rattle.mv_base.specs.declared.ids.NodeId.{NodeId}
use Rattle.label_defs.specs.LabelData.{use_of}
use Rattle.label_laws.specs.Network.{LabelNetwork}
use Rattle.label_defs.specs.Between.{is_between}
use Rattle.label_defs.proofs.BetweenLemmas.{between_swap}
use Rattle.label_laws.specs.Acts.{unjoined, with_joined}
use Rattle.label_laws.specs.Rule.{Rule, none, end_of, branch_trees, is_held, is_of_owner, is_release_of}
use Rattle.label_laws.proofs.Frames.{along_view}
use Rattle.label_laws.proofs.Views.{cut_view, begun_view}

and_true : (p : Bool) → (p && true) ≡ p
and_true true = refl
and_true false = refl

or_false : (p : Bool) → (p || false) ≡ p
or_false true = refl
or_false false = refl

-- ---- sessions are lost

module _ (w : LabelNetwork) (hit : NodeId → NodeId → Bool) (swap : (u n : NodeId) → hit u n ≡ hit n u) (rule : Rule w) where
  abbrev cut : LabelNetwork
  cut = unjoined hit w

  off : (u n : NodeId) → hit u n ≡ true → (cut.direction u n).joined ≡ false
  off u n h = and_right (w.direction u n).joined (not (hit u n)) (ap not h)

  empty : (u n : NodeId) → hit u n ≡ true → (cut.direction u n).transit ≡ []
  empty u n h = cond-true (hit u n) [] (w.direction u n).transit h

  same_joined : (u n : NodeId) → hit u n ≡ false → (cut.direction u n).joined ≡ (w.direction u n).joined
  same_joined u n h = ap (λ b. (w.direction u n).joined && not b) h ∙ and_true (w.direction u n).joined

  same_transit : (u n : NodeId) → hit u n ≡ false → (cut.direction u n).transit ≡ (w.direction u n).transit
  same_transit u n h = cond-false (hit u n) [] (w.direction u n).transit h

  pub unjoined_rule : Rule cut
  unjoined_rule =
      record {
        view = λ u n l j. elim (cases_Bool (hit u n)) [
          | inl h ↦
              along_view (off u n h) refl refl refl (ap (filter (is_of_owner l)) (empty n u (sym (swap u n) ∙ h)))
              (ap (filter (is_release_of l)) (empty u n h)) refl
              (cut_view u l (w.direction u n).joined (end_of (w.node n) u) (end_of (w.node u) n) (use_of (w.node n) l)
              (filter (is_of_owner l) (w.direction n u).transit) (filter (is_release_of l) (w.direction u n).transit)
              (branch_trees (w.node u) n l) (rule.view u n l j))
          | inr h ↦
              along_view (same_joined u n h) refl refl refl (ap (filter (is_of_owner l)) (same_transit n u (sym (swap u n) ∙ h)))
              (ap (filter (is_release_of l)) (same_transit u n h)) refl (rule.view u n l j)
        ];
        session = λ u n j.
            let s = rule.session u n j in
            elim (cases_Bool (hit u n)) [
              | inl h ↦ record {
                alike = off u n h ∙ sym (off n u (sym (swap u n) ∙ h));
                quiet = λ e. empty u n h;
                ends = λ e. (let z = off u n h in absurd cc);
              }
              | inr h ↦ record {
                alike = same_joined u n h ∙ s.alike ∙ sym (same_joined n u (sym (swap u n) ∙ h));
                quiet = λ e. same_transit u n h ∙ s.quiet (sym (same_joined u n h) ∙ e);
                ends = λ e. s.ends (sym (same_joined u n h) ∙ e);
              }
            ];
        copies = rule.copies;
        trees = rule.trees;
      }

-- ---- a session is joined

-- what it begins with
pub record Begins (w : LabelNetwork) (u n : NodeId) : Type 0 where
  pub up : is_some (end_of (w.node u) n) ≡ true
  pub unheld : is_held (end_of (w.node n) u) ≡ false
  pub bare : (l : ℕ) → branch_trees (w.node u) n l ≡ none
  pub empty : (w.direction u n).transit ≡ []

module _ (w : LabelNetwork) (a b : NodeId) (begins : (u n : NodeId) → is_between a b u n ≡ true → Begins w u n) (rule : Rule w) where
  abbrev after : LabelNetwork
  after = with_joined a b w

  on : (u n : NodeId) → is_between a b u n ≡ true → (after.direction u n).joined ≡ true
  on u n h = or_right (w.direction u n).joined (is_between a b u n) h

  same : (u n : NodeId) → is_between a b u n ≡ false → (after.direction u n).joined ≡ (w.direction u n).joined
  same u n h = ap (λ x. (w.direction u n).joined || x) h ∙ or_false (w.direction u n).joined

  pub joined_rule : Rule after
  joined_rule =
      record {
        view = λ u n l j. elim (cases_Bool (is_between a b u n)) [
          | inl h ↦
              let x = begins u n h in
              let y = begins n u (sym (between_swap a b u n) ∙ h) in
              along_view (on u n h) refl refl refl (ap (filter (is_of_owner l)) y.empty) (ap (filter (is_release_of l)) x.empty) (x.bare l)
              (begun_view u l (w.direction u n).joined (end_of (w.node n) u) (end_of (w.node u) n) (use_of (w.node n) l)
              (filter (is_of_owner l) (w.direction n u).transit) (filter (is_release_of l) (w.direction u n).transit)
              (branch_trees (w.node u) n l) x.unheld (rule.view u n l j))
          | inr h ↦ along_view (same u n h) refl refl refl refl refl refl (rule.view u n l j)
        ];
        session = λ u n j.
            let s = rule.session u n j in
            elim (cases_Bool (is_between a b u n)) [
              | inl h ↦ record {
                alike = on u n h ∙ sym (on n u (sym (between_swap a b u n) ∙ h));
                quiet = λ e. (let z = on u n h in absurd cc);
                ends = λ e. (begins u n h).up;
              }
              | inr h ↦ record {
                alike = same u n h ∙ s.alike ∙ sym (same n u (sym (between_swap a b u n) ∙ h));
                quiet = λ e. s.quiet (sym (same u n h) ∙ e);
                ends = λ e. s.ends (sym (same u n h) ∙ e);
              }
            ];
        copies = rule.copies;
        trees = rule.trees;
      }
