-- Trees that wait: the node is on each of them, and it waits towards its root.
use Rattle.std.proofs.Common.{◌≡◌, ◌⊎◌, ℕ, ◌||◌, Bool, true, false, List, [], ◌∷◌, ◌++◌, Option, Some, None, inl, inr, sym, ap, subst, ◌∙◌}
use Rattle.std.specs.FinMap as maps
use Rattle.std.specs.FinMap.{FinMap}
use Rattle.std.specs.List.{list_any}
use Rattle.std.proofs.lemmas.Bool.{cases_eq, or_from}
use Rattle.std.proofs.lemmas.List.Folds.{list_any-append}
use Rattle.std.proofs.lemmas.Option.{none-some, same_Some}
use Rattle.mv_base.specs.declared.ids.NodeId.{NodeId}
use Rattle.mldp.specs.declared.mldp_fec.fec.Fec.{Fec}
use Rattle.label_defs.specs.declared.change.Change.{Change}
use Rattle.label_defs.specs.declared.change.Change.TheVariants as changes
use Rattle.label_defs.specs.declared.end.End.{End}
use Rattle.label_defs.specs.declared.label_use.LabelUse.{LabelUse}
use Rattle.label_defs.specs.declared.label_use.LabelUse.TheVariants as uses
use Rattle.label_defs.specs.declared.put.Put.{Put}
use Rattle.label_defs.specs.Keys.{fec_cmp, node_cmp}
use Rattle.label_defs.specs.LabelData.{LabelData, same_fec, use_of, has_tree, mapped_label, free_label}
use Rattle.label_defs.specs.Settled.{Maps}
use Rattle.label_defs.specs.Settling.{Stepped, with_use, changed, holder_of, is_ready_to, put_by}
use Rattle.label_defs.proofs.KeyLemmas.{fec_cmp_total, fec_cmp_exact, fec_cases, fec_apart}
use Rattle.label_defs.proofs.SetLemmas.{put_here, put_other, cut_here, cut_other}
use Rattle.label_defs.proofs.SettleLemmas.{bind_some}
use Rattle.label_defs.proofs.TreeLemmas.{one_tree}
use Rattle.label_defs.proofs.UseLemmas.{set_here, set_there, mapped_none, mapped_some, free_some}
use Rattle.label_trees.specs.Trees.{Trees}
use Rattle.mldp_node.specs.Parts.{part_of, is_on_tree, waiting_by, change_toward, after_change, MappedDoNotWait, SettledSo, WaitedBeside}
use Rattle.mldp_node.proofs.SpelledLemmas.{Told, told}

-- ---- one change

-- what is mapped after a new use of a label was mapped before, or is the new use
pub mapped_was : (part : LabelData) (label : ℕ) (old new : LabelUse) (f : Fec) (l : ℕ) (u : NodeId) → use_of part label ≡ Some old
    → use_of (with_use part label new) l ≡ Some (uses.Mapped f u) → ((l ≡ label) × (new ≡ uses.Mapped f u)) ⊎ Maps part f l u
mapped_was part label old new f l u is m = elim (cases_eq l label) [
  | inl e ↦ inl (e, same_Some new (uses.Mapped f u) (sym (set_here part label old new is) ∙ ap (use_of (with_use part label new)) (sym e) ∙ m))
  | inr ne ↦ inr (sym (set_there part label old new l is ne) ∙ m)
]

-- no tree to which a label is mapped waits
abbrev Apart : LabelData → FinMap fec_cmp NodeId → Type 0
Apart part waiting = (f : Fec) (l : ℕ) (u : NodeId) → Maps part f l u → maps.get waiting f ≡ None

-- a tree is there no longer, and every other one is as it was
gone : (waiting : FinMap fec_cmp NodeId) (fec f : Fec) → (f ≡ fec → ⊥) ⊎ (f ≡ fec) → ((f ≡ fec → ⊥) → maps.get waiting f ≡ None)
    → maps.get (maps.remove waiting fec) f ≡ None
gone waiting fec f (inl ne) h = cut_other fec_cmp_total fec_cmp_exact waiting fec f ne ∙ h ne
gone waiting fec f (inr e) h = ap (maps.get (maps.remove waiting fec)) e ∙ cut_here fec_cmp_total fec_cmp_exact waiting fec

whether : (f fec : Fec) → (f ≡ fec → ⊥) ⊎ (f ≡ fec)
whether f fec = elim (fec_cases f fec) [ inl e ↦ inr e | inr ne ↦ inl ne ]

change_apart : (part : LabelData) (waiting : FinMap fec_cmp NodeId) (fec : Fec) (upstream : Option NodeId) (change : Change) (new : LabelData)
    → Told (has_tree part fec) (mapped_label part fec) upstream (free_label part) change → changed part fec change ≡ Some new → Apart part waiting
    → Apart new (waiting_by upstream fec change waiting)
change_apart part waiting fec upstream changes.Keep new t e h = subst (λ (n : LabelData). Apart n waiting) (same_Some _ new e) h
change_apart part waiting fec upstream changes.NoLabel new t e h = absurd (none-some new e)
change_apart part waiting fec upstream changes.Cancel new t e h =
    subst (λ (n : LabelData). Apart n (maps.remove waiting fec)) (same_Some _ new e) (λ f l u m. gone waiting fec f (whether f fec) (λ ne. h f l u m))
change_apart part waiting fec upstream changes.Wait new t e h =
    subst (λ (n : LabelData). Apart n (waiting_by upstream fec changes.Wait waiting)) (same_Some _ new e) (λ f l u m.
    subst (λ (o : Option NodeId). maps.get (waiting_by o fec changes.Wait waiting) f ≡ None) (sym t.2.1) (elim (fec_cases f fec) [
      | inl same ↦ absurd (mapped_none part fec t.1 l u (subst (λ (x : Fec). Maps part x l u) same m))
      | inr ne ↦ put_other fec_cmp_total fec_cmp_exact waiting fec t.2.0 f ne ∙ h f l u m
    ]))
change_apart part waiting fec upstream (changes.Map to label) new t e h =
    subst (λ (n : LabelData). Apart n (maps.remove waiting fec)) (same_Some _ new e) (λ f l u m.
    gone waiting fec f (whether f fec) (λ ne. elim (mapped_was part label uses.Free (uses.Mapped fec to) f l u (free_some part label t.1).free m) [
      | inl own ↦ absurd (ne (sym (one_tree fec f to u own.1).0))
      | inr was ↦ h f l u was
    ]))
change_apart part waiting fec upstream (changes.Withdraw to label) new t e h =
    let own = mapped_some part fec label t in
    subst (λ (n : LabelData). Apart n waiting) (same_Some _ new e)
    (λ f l u m. elim (mapped_was part label (uses.Mapped fec own.0) (uses.Leaving fec to) f l u own.1 m) [
      | inl leaves ↦ (let never = leaves.1 in absurd cc)
      | inr was ↦ h f l u was
    ])

-- a tree that waits after a change: the node is on it and it waits towards its root, or it is another one and waited before
abbrev WaitsBy : LabelData → FinMap fec_cmp NodeId → Fec → Option NodeId → Fec → NodeId → Type 0
WaitsBy part waiting fec upstream f x = ((has_tree part f ≡ true) × (upstream ≡ Some x) × (f ≡ fec)) ⊎ ((maps.get waiting f ≡ Some x) × (f ≡ fec → ⊥))

-- it does not wait, since a label is mapped to it
mapped_out : (part : LabelData) (waiting : FinMap fec_cmp NodeId) (fec : Fec) (label : ℕ) (upstream : Option NodeId)
    → mapped_label part fec ≡ Some label → Apart part waiting → (f : Fec) (x : NodeId) → maps.get waiting f ≡ Some x
    → WaitsBy part waiting fec upstream f x
mapped_out part waiting fec label upstream m h f x g = elim (fec_cases f fec) [
  | inl same ↦ (let own = mapped_some part fec label m in absurd (none-some x (sym (ap (maps.get waiting) same ∙ h fec label own.0 own.1) ∙ g)))
  | inr ne ↦ inr (g, ne)
]

-- it was taken out
cut_out : (part : LabelData) (waiting : FinMap fec_cmp NodeId) (fec : Fec) (upstream : Option NodeId) (f : Fec) (x : NodeId)
    → maps.get (maps.remove waiting fec) f ≡ Some x → WaitsBy part waiting fec upstream f x
cut_out part waiting fec upstream f x g = elim (fec_cases f fec) [
  | inl same ↦ absurd (none-some x (sym (ap (maps.get (maps.remove waiting fec)) same ∙ cut_here fec_cmp_total fec_cmp_exact waiting fec) ∙ g))
  | inr ne ↦ inr (sym (cut_other fec_cmp_total fec_cmp_exact waiting fec f ne) ∙ g, ne)
]

change_waits : (part : LabelData) (waiting : FinMap fec_cmp NodeId) (fec : Fec) (upstream : Option NodeId) (change : Change) (new : LabelData)
    → Told (has_tree part fec) (mapped_label part fec) upstream (free_label part) change → changed part fec change ≡ Some new → Apart part waiting
    → (f : Fec) (x : NodeId) → maps.get (waiting_by upstream fec change waiting) f ≡ Some x → WaitsBy part waiting fec upstream f x
change_waits part waiting fec upstream changes.Keep new t e h f x g = mapped_out part waiting fec t.0 upstream t.1 h f x g
change_waits part waiting fec upstream (changes.Withdraw to label) new t e h f x g = mapped_out part waiting fec label upstream t h f x g
change_waits part waiting fec upstream changes.NoLabel new t e h f x g = absurd (none-some new e)
change_waits part waiting fec upstream changes.Cancel new t e h f x g = cut_out part waiting fec upstream f x g
change_waits part waiting fec upstream (changes.Map to label) new t e h f x g = cut_out part waiting fec upstream f x g
change_waits part waiting fec upstream changes.Wait new t e h f x g =
    let own : maps.get (maps.insert waiting fec t.2.0) f ≡ Some x =
    ap (λ (o : Option NodeId). maps.get (waiting_by o fec changes.Wait waiting) f) (sym t.2.1) ∙ g in
    elim (fec_cases f fec) [
      | inl same ↦ inl (
        ap (has_tree part) same ∙ t.0,
        t.2.1 ∙ sym (ap (maps.get (maps.insert waiting fec t.2.0)) same ∙ put_here fec_cmp_total fec_cmp_exact waiting fec t.2.0) ∙ own,
        same,
      )
      | inr ne ↦ inr (sym (put_other fec_cmp_total fec_cmp_exact waiting fec t.2.0 f ne) ∙ own, ne)
    ]

-- no change moves the node to a tree, or from one
change_same : (part : LabelData) (fec : Fec) (change : Change) (new : LabelData) → changed part fec change ≡ Some new → (f : Fec)
    → has_tree new f ≡ has_tree part f
change_same part fec changes.Keep new e f = ap (λ (n : LabelData). has_tree n f) (sym (same_Some _ new e))
change_same part fec (changes.Map to label) new e f = ap (λ (n : LabelData). has_tree n f) (sym (same_Some _ new e))
change_same part fec (changes.Withdraw to label) new e f = ap (λ (n : LabelData). has_tree n f) (sym (same_Some _ new e))
change_same part fec changes.Wait new e f = ap (λ (n : LabelData). has_tree n f) (sym (same_Some _ new e))
change_same part fec changes.Cancel new e f = ap (λ (n : LabelData). has_tree n f) (sym (same_Some _ new e))
change_same part fec changes.NoLabel new e f = absurd (none-some new e)

-- ---- one tree that settles

change_is : (old : Stepped) (fec : Fec) (change : Change) (new : Stepped) → after_change old fec change ≡ Some new
    → changed old.part fec change ≡ Some new.part
change_is old fec change new e =
    let x = bind_some (changed old.part fec change) (λ (part : LabelData). Some (record { part = part; puts = old.puts ++ put_by fec change })) new e
    in
    x.1 ∙ ap (λ (s : Stepped). Some s.part) (same_Some (record { part = x.0; puts = old.puts ++ put_by fec change }) new x.2)

module _ (upstream : Option NodeId) (fec : Fec) (up : FinMap node_cmp End) (old new : Trees) (puts more : List Put)
    (h : SettledSo upstream fec up old puts new more) where
  is : changed (part_of old up) fec (change_toward upstream (part_of old up) fec) ≡ Some (part_of new up)
  is = change_is (record { part = part_of old up; puts = puts }) fec (change_toward upstream (part_of old up) fec)
      (record { part = part_of new up; puts = more }) h.made

  known : Told (has_tree (part_of old up) fec) (mapped_label (part_of old up) fec) upstream (free_label (part_of old up))
      (change_toward upstream (part_of old up) fec)
  known = told (has_tree (part_of old up) fec) (mapped_label (part_of old up) fec) (holder_of (part_of old up) fec) upstream
      (is_ready_to (part_of old up) upstream) (free_label (part_of old up))

  pub settled_same : (f : Fec) → is_on_tree new f ≡ is_on_tree old f
  settled_same = change_same (part_of old up) fec (change_toward upstream (part_of old up) fec) (part_of new up) is

  pub settled_apart : MappedDoNotWait old up → MappedDoNotWait new up
  settled_apart apart = subst (λ (w : FinMap fec_cmp NodeId). Apart (part_of new up) w) (sym h.waiting)
      (change_apart (part_of old up) old.uses.waiting fec upstream (change_toward upstream (part_of old up) fec) (part_of new up) known is apart)

  pub settled_waits : MappedDoNotWait old up → (f : Fec) (x : NodeId) → maps.get new.uses.waiting f ≡ Some x
      → WaitsBy (part_of old up) old.uses.waiting fec upstream f x
  settled_waits apart f x g =
      change_waits (part_of old up) old.uses.waiting fec upstream (change_toward upstream (part_of old up) fec) (part_of new up) known is apart f x
      (ap (λ (w : FinMap fec_cmp NodeId). maps.get w f) (sym h.waiting) ∙ g)

  beside_one : (f : Fec) (x : NodeId) → (maps.get old.uses.waiting f ≡ Some x) × (f ≡ fec → ⊥) → WaitedBeside (fec ∷ []) old f x
  beside_one f x b = (b.0, ap (λ (t : Bool). t || false) (fec_apart f fec b.1))

  pub settled_on : MappedDoNotWait old up → (f : Fec) (x : NodeId) → maps.get new.uses.waiting f ≡ Some x
      → (is_on_tree new f ≡ true) ⊎ WaitedBeside (fec ∷ []) old f x
  settled_on apart f x g = elim (settled_waits apart f x g) [
    | inl a ↦ inl (settled_same f ∙ a.0)
    | inr b ↦ inr (beside_one f x b)
  ]

  pub settled_toward_root : (toward : Fec → Option NodeId) → upstream ≡ toward fec → MappedDoNotWait old up
      → (f : Fec) (x : NodeId) → maps.get new.uses.waiting f ≡ Some x → (toward f ≡ Some x) ⊎ WaitedBeside (fec ∷ []) old f x
  settled_toward_root toward e apart f x g = elim (settled_waits apart f x g) [
    | inl a ↦ inl (ap toward a.2 ∙ sym e ∙ a.1)
    | inr b ↦ inr (beside_one f x b)
  ]

-- ---- a row of trees

-- what holds of a tree that waits after two rows, or it is in neither and waited before
pub after_both : (P : Type 0) (first second : List Fec) (old mid : Trees) (f : Fec) (x : NodeId) → P ⊎ WaitedBeside second mid f x
    → (maps.get mid.uses.waiting f ≡ Some x → P ⊎ WaitedBeside first old f x) → P ⊎ WaitedBeside (first ++ second) old f x
after_both P first second old mid f x (inl p) before = inl p
after_both P first second old mid f x (inr b) before = elim (before b.0) [
  | inl p ↦ inl p
  | inr c ↦ inr (c.0, list_any-append (same_fec f) first second ∙ or_from (list_any (same_fec f) first) (list_any (same_fec f) second) c.1 b.1)
]
