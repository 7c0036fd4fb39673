-- The notes of a forwarding table after a change of one label.
use Rattle.std.proofs.Common.{◌≡◌, ◌≢◌, ℕ, ◌==◌, ◌&&◌, Bool, true, false, cond, List, Option, Some, None, Result, Ok, Err, OnOk, OnErr, subst, option_map, map, inl, inr, refl, sym, ap, ◌∙◌}
use Rattle.std.specs.Prelude.{replicate, nat_le}
use Rattle.std.specs.FinMap as maps
use Rattle.std.specs.FinMap.{FinMap}
use Rattle.std.proofs.lemmas.Bool.{cases_eq}
use Rattle.mv_base.specs.declared.ids.NodeId.{NodeId}
use Rattle.mldp.specs.declared.mldp_fec.fec.Fec.{Fec}
use Rattle.label_defs.specs.declared.label_use.LabelUse.{LabelUse}
use Rattle.label_defs.specs.declared.label_use.LabelUse.TheVariants as uses
use Rattle.label_defs.specs.LabelData.{LabelData, fresh, same_fec}
use Rattle.label_defs.specs.Steps.{released, woken}
use Rattle.label_defs.proofs.KeyLemmas.{ties, apart, node_cases, node_itself, node_apart}
use Rattle.label_defs.proofs.UseLemmas.{set_here, set_there, used-map, used_some, free_some}
use Rattle.label_defs.proofs.StepLemmas.{all_free}
use Rattle.label_forwarding.specs.declared.branch.Branch.{Branch}
use Rattle.label_forwarding.specs.Hops.{hop_cmp}
use Rattle.label_forwarding.specs.FibData.{FibData, hop}
use Rattle.label_forwarding.proofs.HopLemmas.{hop_cmp_total, hop_cmp_exact}
use Rattle.label_trees.specs.label_uses.Uses.{Uses, use_in, set_use, free_in, with_mapped, with_released}
use Rattle.label_trees.specs.Trees.{fec_under, AreMapped, AreMappedBut}

-- a node of these labels
abbrev with_labels : List LabelUse → LabelData
with_labels labels = record (fresh 0) { labels = labels }

pub used_here : (labels : List LabelUse) (label : ℕ) (old new : LabelUse) → use_in labels label ≡ Some old
    → use_in (set_use labels label new) label ≡ Some new
used_here labels label old new is = set_here (with_labels labels) label old new is

pub used_there : (labels : List LabelUse) (label : ℕ) (old new : LabelUse) (other : ℕ) → use_in labels label ≡ Some old → other ≢ label
    → use_in (set_use labels label new) other ≡ use_in labels other
used_there labels label old new other is ne = set_there (with_labels labels) label old new other is ne

-- ---- one note

note_here : (pairs : FinMap hop_cmp Fec) (at : Branch) (fec : Fec) → maps.get (maps.insert pairs at fec) at ≡ Some fec
note_here pairs at fec =
    maps.get-insert hop_cmp_total pairs at fec at ∙ ap (λ (b : Bool). cond b (Some fec) (maps.get pairs at)) (ties hop_cmp hop_cmp_total at at refl)

note_there : (pairs : FinMap hop_cmp Fec) (at other : Branch) (fec : Fec) → (other ≡ at → ⊥)
    → maps.get (maps.insert pairs at fec) other ≡ maps.get pairs other
note_there pairs at other fec ne =
    maps.get-insert hop_cmp_total pairs at fec other
    ∙ ap (λ (b : Bool). cond b (Some fec) (maps.get pairs other)) (apart hop_cmp hop_cmp_exact other at ne)

cut_here : (pairs : FinMap hop_cmp Fec) (at : Branch) → maps.get (maps.remove pairs at) at ≡ None
cut_here pairs at =
    maps.get-remove hop_cmp_total pairs at at ∙ ap (λ (b : Bool). cond b None (maps.get pairs at)) (ties hop_cmp hop_cmp_total at at refl)

cut_there : (pairs : FinMap hop_cmp Fec) (at other : Branch) → (other ≡ at → ⊥) → maps.get (maps.remove pairs at) other ≡ maps.get pairs other
cut_there pairs at other ne =
    maps.get-remove hop_cmp_total pairs at other ∙ ap (λ (b : Bool). cond b None (maps.get pairs other)) (apart hop_cmp hop_cmp_exact other at ne)

apart_label : (from upstream : NodeId) (label one : ℕ) → label ≢ one → hop from label ≡ hop upstream one → ⊥
apart_label from upstream label one ne e = ne (ap (λ (b : Branch). b.label) e)

apart_node : (from upstream : NodeId) (label : ℕ) → (from ≡ upstream → ⊥) → hop from label ≡ hop upstream label → ⊥
apart_node from upstream label ne e = ne (ap (λ (b : Branch). b.node) e)

pub mapped_under : (fec : Fec) (upstream : NodeId) → fec_under (Some (uses.Mapped fec upstream)) upstream ≡ Some fec
mapped_under fec upstream = ap (λ (b : Bool). cond b (Some fec) None) (node_itself upstream upstream refl)

other_under : (fec : Fec) (upstream from : NodeId) → (from ≡ upstream → ⊥) → fec_under (Some (uses.Mapped fec upstream)) from ≡ None
other_under fec upstream from ne = ap (λ (b : Bool). cond b (Some fec) None) (node_apart upstream from (λ e. ne (sym e)))

-- ---- a label that comes

pub noted : (pairs : FinMap hop_cmp Fec) (labels : List LabelUse) (label : ℕ) (fec : Fec) (upstream : NodeId) → AreMappedBut label pairs labels
    → use_in labels label ≡ Some (uses.Mapped fec upstream)
    → AreMapped (maps.insert pairs (hop upstream label) fec) labels
noted pairs labels label fec upstream but is from other = elim (cases_eq other label) [
  | inl e ↦ ap (λ l. maps.get (maps.insert pairs (hop upstream label) fec) (hop from l)) e ∙ here
      ∙ sym (ap (λ l. fec_under (use_in labels l) from) e ∙ ap (λ o. fec_under o from) is)
  | inr ne ↦ note_there pairs (hop upstream label) (hop from other) fec (apart_label from upstream other label ne) ∙ but.others from other ne
]
  where
    here : maps.get (maps.insert pairs (hop upstream label) fec) (hop from label) ≡ fec_under (Some (uses.Mapped fec upstream)) from
    here = elim (node_cases from upstream) [
      | inl e ↦ ap (λ n. maps.get (maps.insert pairs (hop upstream label) fec) (hop n label)) e ∙ note_here pairs (hop upstream label) fec
          ∙ sym (ap (λ n. fec_under (Some (uses.Mapped fec upstream)) n) e ∙ mapped_under fec upstream)
      | inr ne ↦ note_there pairs (hop upstream label) (hop from label) fec (apart_node from upstream label ne) ∙ but.none from
          ∙ sym (other_under fec upstream from ne)
    ]

-- the label is free, so no note names it
pub free_but : (pairs : FinMap hop_cmp Fec) (labels : List LabelUse) (label : ℕ) (new : LabelUse) → AreMapped pairs labels
    → Some label ≡ free_in labels → AreMappedBut label pairs (set_use labels label new)
free_but pairs labels label new all free =
    let least = free_some (with_labels labels) label (sym free) in
    record {
      others = λ from other ne. all from other ∙ ap (λ o. fec_under o from) (sym (used_there labels label uses.Free new other least.free ne));
      none = λ from. all from label ∙ ap (λ o. fec_under o from) least.free;
    }

pub free_here : (labels : List LabelUse) (label : ℕ) (new : LabelUse) → Some label ≡ free_in labels
    → use_in (set_use labels label new) label ≡ Some new
free_here labels label new free = used_here labels label uses.Free new (free_some (with_labels labels) label (sym free)).free

-- ---- a label that goes

pub gone : (pairs : FinMap hop_cmp Fec) (labels : List LabelUse) (label : ℕ) (old new : LabelUse) → AreMappedBut label pairs labels
    → use_in labels label ≡ Some old → ((from : NodeId) → fec_under (Some new) from ≡ None) → AreMapped pairs (set_use labels label new)
gone pairs labels label old new but is un from other = elim (cases_eq other label) [
  | inl e ↦ ap (λ l. maps.get pairs (hop from l)) e ∙ but.none from
      ∙ sym (ap (λ l. fec_under (use_in (set_use labels label new) l) from) e ∙ ap (λ o. fec_under o from) (used_here labels label old new is)
      ∙ un from)
  | inr ne ↦ but.others from other ne ∙ ap (λ o. fec_under o from) (sym (used_there labels label old new other is ne))
]

pub cut_but : (pairs : FinMap hop_cmp Fec) (labels : List LabelUse) (label : ℕ) (fec : Fec) (upstream : NodeId) → AreMapped pairs labels
    → use_in labels label ≡ Some (uses.Mapped fec upstream)
    → AreMappedBut label (maps.remove pairs (hop upstream label)) labels
cut_but pairs labels label fec upstream all is = record {
  others = λ from other ne. cut_there pairs (hop upstream label) (hop from other) (apart_label from upstream other label ne) ∙ all from other;
  none = λ from. elim (node_cases from upstream) [
    | inl e ↦ ap (λ n. maps.get (maps.remove pairs (hop upstream label)) (hop n label)) e ∙ cut_here pairs (hop upstream label)
    | inr ne ↦ cut_there pairs (hop upstream label) (hop from label) (apart_node from upstream label ne) ∙ all from label
        ∙ ap (λ o. fec_under o from) is ∙ other_under fec upstream from ne
  ];
}

-- ---- labels that are mapped as before

pub same_notes : (pairs : FinMap hop_cmp Fec) (old new : List LabelUse) → AreMapped pairs old
    → ((from : NodeId) (label : ℕ) → fec_under (use_in old label) from ≡ fec_under (use_in new label) from) → AreMapped pairs new
same_notes pairs old new all same from label = all from label ∙ same from label

released_under : (peer : NodeId) (fec : Fec) (until : ℕ) (usage : LabelUse) (from : NodeId)
    → fec_under (Some (released peer fec until usage)) from ≡ fec_under (Some usage) from
released_under peer fec until uses.Free from = refl
released_under peer fec until (uses.Mapped f v) from = refl
released_under peer fec until (uses.Resting moment) from = refl
released_under peer fec until (uses.Leaving f v) from = by (same_fec f fec && v.0 == peer.0)
  where
    by : (t : Bool) → fec_under (Some (cond t (uses.Resting until) (uses.Leaving f v))) from ≡ None
    by true = refl
    by false = refl

pub release_same : (labels : List LabelUse) (peer : NodeId) (fec : Fec) (label until : ℕ) (from : NodeId) (other : ℕ)
    → fec_under (use_in labels other) from ≡ fec_under (use_in (with_released labels peer fec label until) other) from
release_same labels peer fec label until from other = by (use_in labels label) refl
  where
    by : (o : Option LabelUse) → use_in labels label ≡ o
        → fec_under (use_in labels other) from ≡ fec_under
        (use_in (elim o [ None ↦ labels | Some usage ↦ set_use labels label (released peer fec until usage) ]) other) from
    by None e = refl
    by (Some usage) e = elim (cases_eq other label) [
      | inl is ↦ ap (λ l. fec_under (use_in labels l) from) is ∙ ap (λ o. fec_under o from) e ∙ sym (released_under peer fec until usage from)
          ∙ sym (ap (λ l. fec_under (use_in (set_use labels label (released peer fec until usage)) l) from) is
          ∙ ap (λ o. fec_under o from) (used_here labels label usage (released peer fec until usage) e))
      | inr ne ↦ ap (λ o. fec_under o from) (sym (used_there labels label usage (released peer fec until usage) other e ne))
    ]

woken_under : (now : ℕ) (o : Option LabelUse) (from : NodeId) → fec_under o from ≡ fec_under (option_map (woken now) o) from
woken_under now None from = refl
woken_under now (Some uses.Free) from = refl
woken_under now (Some (uses.Mapped f v)) from = refl
woken_under now (Some (uses.Leaving f v)) from = refl
woken_under now (Some (uses.Resting moment)) from = by (nat_le moment now)
  where
    by : (t : Bool) → None ≡ fec_under (Some (cond t uses.Free (uses.Resting moment))) from
    by true = refl
    by false = refl

pub wake_same : (labels : List LabelUse) (now : ℕ) (from : NodeId) (label : ℕ)
    → fec_under (use_in labels label) from ≡ fec_under (use_in (map (woken now) labels) label) from
wake_same labels now from label = woken_under now (use_in labels label) from ∙ ap (λ o. fec_under o from) (sym (used-map (woken now) labels label))

pub none_noted : (count : ℕ) (from : NodeId) (label : ℕ) → None ≡ fec_under (use_in (replicate count uses.Free) label) from
none_noted count from label = by (use_in (replicate count uses.Free) label) refl
  where
    by : (o : Option LabelUse) → use_in (replicate count uses.Free) label ≡ o → None ≡ fec_under o from
    by None e = refl
    by (Some usage) e =
        ap (λ (u : LabelUse). fec_under (Some u) from) (sym (all_free count _ usage (used_some (replicate count uses.Free) label usage e).1))

-- ---- a label that is withdrawn, or lost for want of memory

left : {E : Type 0} (r : Result (Unit {0}) E) (pairs : FinMap hop_cmp Fec) (old new : Uses) (label : ℕ) (fec : Fec) (upstream : NodeId)
    → AreMappedBut label pairs old.labels → use_in old.labels label ≡ Some (uses.Mapped fec upstream)
    → OnOk r (new ≡ record old { labels = set_use old.labels label (uses.Leaving fec upstream) })
    → OnErr r (new ≡ record old { labels = set_use old.labels label uses.Free }) → AreMapped pairs new.labels
left (Ok x) pairs old new label fec upstream but is leaving free =
    subst (λ (u : Uses). AreMapped pairs u.labels) (sym leaving)
    (gone pairs old.labels label (uses.Mapped fec upstream) (uses.Leaving fec upstream) but is (λ from. refl))
left (Err e) pairs old new label fec upstream but is leaving free =
    subst (λ (u : Uses). AreMapped pairs u.labels) (sym free) (gone pairs old.labels label (uses.Mapped fec upstream) uses.Free but is (λ from. refl))

pub note_lost : {E : Type 0} (r : Result (Unit {0}) E) (old_fib new_fib : FibData) (old new : Uses) (label : ℕ) (fec : Fec) (upstream : NodeId)
    → new_fib ≡ old_fib → AreMappedBut label old_fib.pairs old.labels → use_in old.labels label ≡ Some (uses.Mapped fec upstream)
    → OnOk r (new ≡ record old { labels = set_use old.labels label (uses.Leaving fec upstream) })
    → OnErr r (new ≡ record old { labels = set_use old.labels label uses.Free }) → AreMapped new_fib.pairs new.labels
note_lost r old_fib new_fib old new label fec upstream same but is leaving free =
    subst (λ (f : FibData). AreMapped f.pairs new.labels) (sym same) (left r old_fib.pairs old new label fec upstream but is leaving free)

pub withdrawn : {E : Type 0} (r : Result (Unit {0}) E) (old_fib new_fib : FibData) (old new : Uses) (label : ℕ) (fec : Fec) (upstream : NodeId)
    → new_fib ≡ record old_fib { pairs = maps.remove old_fib.pairs (hop upstream label) } → AreMapped old_fib.pairs old.labels
    → use_in old.labels label ≡ Some (uses.Mapped fec upstream)
    → OnOk r (new ≡ record old { labels = set_use old.labels label (uses.Leaving fec upstream) })
    → OnErr r (new ≡ record old { labels = set_use old.labels label uses.Free }) → AreMapped new_fib.pairs new.labels
withdrawn r old_fib new_fib old new label fec upstream cut all is leaving free = subst (λ (f : FibData). AreMapped f.pairs new.labels) (sym cut)
    (left r (maps.remove old_fib.pairs (hop upstream label)) old new label fec upstream (cut_but old_fib.pairs old.labels label fec upstream all is)
    is leaving free)

pub comes : (pairs : FinMap hop_cmp Fec) (old new : Uses) (found : Option ℕ) (label : ℕ) (fec : Fec) (upstream : NodeId) → AreMapped pairs old.labels
    → found ≡ free_in old.labels → found ≡ Some label → new ≡ with_mapped old found fec upstream
    → AreMappedBut label pairs new.labels
comes pairs old new found label fec upstream all free is mapped =
    subst (λ (u : Uses). AreMappedBut label pairs u.labels) (sym (mapped ∙ ap (λ o. with_mapped old o fec upstream) is))
    (free_but pairs old.labels label (uses.Mapped fec upstream) all (sym is ∙ free))
