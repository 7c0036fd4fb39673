-- A label that is free in a step is free after it, or is mapped and its mapping was put.
use Rattle.std.proofs.Common.{◌≡◌, ℕ, true, ◌++◌, ◌⊎◌, inl, inr, List, [], ◌∷◌, Some, sym, ap, subst, ◌∙◌}
use Rattle.std.proofs.lemmas.Bool.{cases_eq}
use Rattle.std.proofs.lemmas.List.{append_assoc}
use Rattle.std.proofs.lemmas.Option.{same_Some}
use Rattle.mldp.specs.mv_base.declared.ids.NodeId.{NodeId}
use Rattle.mldp.specs.declared.mldp_fec.fec.Fec.{Fec}
use Rattle.label_defs.specs.declared.label_use.LabelUse.{LabelUse}
use Rattle.label_defs.specs.declared.label_use.LabelUse.TheVariants as uses
use Rattle.label_defs.specs.declared.put.Put.{Put}
use Rattle.label_defs.specs.LabelData.{Place, LabelData, use_of, has_tree}
use Rattle.label_defs.specs.Settling.{Stepped, with_use}
use Rattle.label_defs.specs.Steps.{Call, counted, label_step}
use Rattle.label_defs.specs.Settled.{Maps}
use Rattle.label_defs.specs.Laws.{FreeIn, mapping_to, FreeThen}
use Rattle.label_defs.proofs.UseLemmas.{used, set_here, set_there}
use Rattle.label_defs.proofs.TreeLemmas.{one_tree}
use Rattle.label_defs.proofs.TurnLemmas.{Turn, Off, on_it}
use Rattle.label_defs.proofs.OwnLemmas.{step_keeps, rest_tree, then_free}

-- the label was taken for a tree that the node is on
record Won (place : Place) (part : LabelData) (puts : List Put) (label : ℕ) : Type 0 where
  fec : Fec
  to : NodeId
  before : List Put
  thereafter : List Put
  maps : Maps part fec label to
  tree : has_tree part fec ≡ true
  toward : place.upstream fec ≡ Some to
  put : puts ≡ before ++ mapping_to to fec label ∷ thereafter

-- a label that is mapped towards the upstream of a tree that the node is on stays so
pub stays_mapped : (place : Place) (old : LabelData) (fec : Fec) (next : LabelData) (more : List Put) → Turn place old fec next more
    → (label : ℕ) (own : Fec) (to : NodeId)
    → has_tree old own ≡ true → place.upstream own ≡ Some to → Maps old own label to → Maps next own label to
stays_mapped place old fec next more t label own to tree toward is = elim t.how [
  | inl q ↦ ap (λ (labels : List LabelUse). used labels label) q.labels ∙ is
  | inr (inl m) ↦ ap (λ (labels : List LabelUse). used labels label) m.labels
      ∙ set_there old m.label uses.Free (uses.Mapped fec m.to) label m.least.free
      (λ e. (let both = same_Some (uses.Mapped own to) uses.Free (sym is ∙ ap (use_of old) e ∙ m.least.free) in absurd cc)) ∙ is
  | inr (inr w) ↦ ap (λ (labels : List LabelUse). used labels label) w.labels
      ∙ set_there old w.label (uses.Mapped fec w.to) (uses.Leaving fec w.to) label w.was (λ e.
      let both = one_tree own fec to w.to (same_Some (uses.Mapped own to) (uses.Mapped fec w.to) (sym is ∙ ap (use_of old) e ∙ w.was)) in
      on_it place old own to tree toward (subst (λ (f : Fec). Off place old f to) (sym both.0) (subst (Off place old fec) (sym both.1) w.off))) ∙ is
]

won_turn : (place : Place) (old : LabelData) (puts : List Put) (fec : Fec) (next : LabelData) (more : List Put) → Turn place old fec next more
    → (label : ℕ) → Won place old puts label → Won place next (puts ++ more) label
won_turn place old puts fec next more t label x =
    record {
      fec = x.fec;
      to = x.to;
      before = x.before;
      thereafter = x.thereafter ++ more;
      maps = stays_mapped place old fec next more t label x.fec x.to x.tree x.toward x.maps;
      tree = rest_tree old next t.rest x.fec ∙ x.tree;
      toward = x.toward;
      put = ap (λ (ps : List Put). ps ++ more) x.put ∙ append_assoc x.before (mapping_to x.to x.fec label ∷ x.thereafter) more;
    }

free_turn : (place : Place) (old : LabelData) (puts : List Put) (fec : Fec) (next : LabelData) (more : List Put) → Turn place old fec next more
    → (label : ℕ)
    → (use_of old label ≡ Some uses.Free) ⊎ Won place old puts label → (use_of next label ≡ Some uses.Free) ⊎ Won place next (puts ++ more) label
free_turn place old puts fec next more t label (inr x) = inr (won_turn place old puts fec next more t label x)
free_turn place old puts fec next more t label (inl is) = elim t.how [
  | inl q ↦ inl (ap (λ (labels : List LabelUse). used labels label) q.labels ∙ is)
  | inr (inl m) ↦ elim (cases_eq label m.label) [
    | inr ne ↦ inl (ap (λ (labels : List LabelUse). used labels label) m.labels
        ∙ set_there old m.label uses.Free (uses.Mapped fec m.to) label m.least.free ne ∙ is)
    | inl e ↦ inr (record {
      fec = fec;
      to = m.to;
      before = puts;
      thereafter = [];
      tree = rest_tree old next t.rest fec ∙ m.tree;
      toward = m.toward;
      maps = ap (λ (labels : List LabelUse). used labels label) m.labels ∙ ap (use_of (with_use old m.label (uses.Mapped fec m.to))) e
          ∙ set_here old m.label uses.Free (uses.Mapped fec m.to) m.least.free;
      put = ap (λ (ps : List Put). puts ++ ps) m.put ∙ (λ i. puts ++ mapping_to m.to fec (sym e i) ∷ []);
    })
  ]
  | inr (inr w) ↦ inl (ap (λ (labels : List LabelUse). used labels label) w.labels
      ∙ set_there old w.label (uses.Mapped fec w.to) (uses.Leaving fec w.to) label w.was
      (λ e. (let both = same_Some uses.Free (uses.Mapped fec w.to) (sym is ∙ ap (use_of old) e ∙ w.was) in absurd cc)) ∙ is)
]

pub free_label_then : (place : Place) (now : ℕ) (part : LabelData) (call : Call) (new : Stepped) (label : ℕ)
    → label_step place now part call ≡ Some new → FreeIn now part call label → FreeThen new.part new.puts label
free_label_then place now part call new label e free =
    by (step_keeps place now part call new (λ p puts. (use_of p label ≡ Some uses.Free) ⊎ Won place p puts label)
    (λ old puts fec next more t x. free_turn place old puts fec next more t label x) (λ old x. same old x)
    (inl (then_free place now part call label free)) e)
  where
    same : (old : Stepped) → (use_of old.part label ≡ Some uses.Free) ⊎ Won place old.part old.puts label
        → (use_of old.part label ≡ Some uses.Free) ⊎ Won place (counted old).part old.puts label
    same old (inl x) = inl x
    same old (inr x) =
        inr (record { fec = x.fec; to = x.to; before = x.before; thereafter = x.thereafter; maps = x.maps; tree = x.tree; toward = x.toward; put = x.put })

    by : (use_of new.part label ≡ Some uses.Free) ⊎ Won place new.part new.puts label → FreeThen new.part new.puts label
    by (inl x) = inl x
    by (inr x) = inr (record { fec = x.fec; to = x.to; before = x.before; thereafter = x.thereafter; maps = x.maps; put = x.put })
