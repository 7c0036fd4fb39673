-- There is no step exactly where more of its trees need a label than are free.
use Rattle.std.proofs.Common.{◌≡◌, ◌↔◌, ℕ, ◌+◌, ◌-◌, ◌<◌, Bool, true, false, not, cond, ◌&&◌, ◌++◌, List, [], ◌∷◌, count_by, position, slice_set, Option, Some, None, is_some, inl, inr, refl, sym, ap, ◌∙◌, arith}
use Rattle.std.specs.Cmp.{both_ways}
use Rattle.std.specs.List.{list_any}
use Rattle.std.specs.FinSet as sets
use Rattle.std.proofs.lemmas.Bool.{cases_eq, and_from, or_left}
use Rattle.std.proofs.lemmas.Option.{same_Some, none-some}
use Rattle.mldp.specs.mv_base.Number.{◌>>?◌}
use Rattle.mldp.specs.mv_base.declared.ids.NodeId.{NodeId}
use Rattle.mldp.specs.declared.mldp_fec.fec.Fec.{Fec}
use Rattle.label_defs.specs.declared.label_use.LabelUse.{LabelUse}
use Rattle.label_defs.specs.declared.label_use.LabelUse.TheVariants as uses
use Rattle.label_defs.specs.declared.change.Change.TheVariants as changes
use Rattle.label_defs.specs.declared.put.Put.{Put}
use Rattle.label_defs.specs.Keys.{fec_cmp}
use Rattle.label_defs.specs.LabelData.{Place, LabelData, first_label, same_fec, use_of, is_free, free_label, mapped_label, has_tree}
use Rattle.label_defs.specs.Settling.{Stepped, with_use, upstream_of, holder_of, same_neighbour, withdrawn, is_ready_to, change_by, change_of, changed, put_by, settle_all}
use Rattle.label_defs.specs.Settled.{Maps}
use Rattle.label_defs.specs.Laws.{needs_label, passing}
use Rattle.label_defs.proofs.KeyLemmas.{same_fec_itself}
use Rattle.label_defs.proofs.UseLemmas.{used, used_some, set_here, set_there, mapped_none, mapped_some, map_none, none_passes}
use Rattle.label_defs.proofs.TreeLemmas.{one_tree, same_ready, holder}
use Rattle.label_defs.proofs.TurnLemmas.{Turn, SameRest, turn, has_label}
use Rattle.label_defs.proofs.OwnLemmas.{rest_tree, rest_ready}
use Rattle.label_defs.proofs.CountLemmas.{Distinct, count_none, count_set, contains-passing, has_member, fewer}

-- ---- what a turn makes of what trees need

pub record SameMaps (old next : LabelData) (fec : Fec) : Type 0 where
  pub back : (label : ℕ) (upstream : NodeId) → Maps next fec label upstream → Maps old fec label upstream
  pub on : (label : ℕ) (upstream : NodeId) → Maps old fec label upstream → Maps next fec label upstream

-- one label changes between uses that do not map the tree
set_maps : (old next : LabelData) (label : ℕ) (before after : LabelUse) (fec : Fec) → next.labels ≡ slice_set old.labels (label - 16) after
    → use_of old label ≡ Some before
    → ((u : NodeId) → before ≡ uses.Mapped fec u → ⊥) → ((u : NodeId) → after ≡ uses.Mapped fec u → ⊥) → SameMaps old next fec
set_maps old next label before after fec e is not_before not_after =
    let same : (k : ℕ) → use_of next k ≡ use_of (with_use old label after) k = λ k. ap (λ (labels : List LabelUse). used labels k) e in
    record {
      back = λ k u p. elim (cases_eq k label) [
        | inl h ↦ absurd (not_after u (same_Some after (uses.Mapped fec u)
            (sym (ap (use_of (with_use old label after)) h ∙ set_here old label before after is) ∙ sym (same k) ∙ p)))
        | inr ne ↦ sym (set_there old label before after k is ne) ∙ sym (same k) ∙ p
      ];
      on = λ k u p. elim (cases_eq k label) [
        | inl h ↦ absurd (not_before u (same_Some before (uses.Mapped fec u) (sym is ∙ sym (ap (use_of old) h) ∙ p)))
        | inr ne ↦ same k ∙ set_there old label before after k is ne ∙ p
      ];
    }

turn_maps : (place : Place) (old : LabelData) (fec : Fec) (next : LabelData) (more : List Put) → Turn place old fec next more → (other : Fec)
    → (other ≡ fec → ⊥) → SameMaps old next other
turn_maps place old fec next more t other ne = elim t.how [
  | inl q ↦ record {
    back = λ k u p. sym (ap (λ (labels : List LabelUse). used labels k) q.labels) ∙ p;
    on =
        λ k u p. ap (λ (labels : List LabelUse). used labels k) q.labels ∙ p;
  }
  | inr (inl m) ↦ set_maps old next m.label uses.Free (uses.Mapped fec m.to) other m.labels m.least.free (λ u e. absurd cc)
      (λ u e. ne (sym (one_tree fec other m.to u e).0))
  | inr (inr w) ↦ set_maps old next w.label (uses.Mapped fec w.to) (uses.Leaving fec w.to) other w.labels w.was
      (λ u e. ne (sym (one_tree fec other w.to u e).0)) (λ u e. absurd cc)
]

pub is_mapped_by : (part : LabelData) (fec : Fec) (label : ℕ) (u : NodeId) → Maps part fec label u → is_some (mapped_label part fec) ≡ true
is_mapped_by part fec label u is = by (mapped_label part fec) refl
  where
    by : (o : Option ℕ) → mapped_label part fec ≡ o → is_some o ≡ true
    by None e = absurd (mapped_none part fec e label u is)
    by (Some l) e = refl

mapped_by : (part : LabelData) (fec : Fec) → is_some (mapped_label part fec) ≡ true → (label : ℕ) × (u : NodeId) × Maps part fec label u
mapped_by part fec h = by (mapped_label part fec) refl h
  where
    by : (o : Option ℕ) → mapped_label part fec ≡ o → is_some o ≡ true → (label : ℕ) × (u : NodeId) × Maps part fec label u
    by None e h = absurd cc
    by (Some l) e h = let x = mapped_some part fec l e in (l, x.0, x.1)

same_mapped : (old next : LabelData) (fec : Fec) → SameMaps old next fec → is_some (mapped_label next fec) ≡ is_some (mapped_label old fec)
same_mapped old next fec same = both_ways (is_some (mapped_label next fec)) (is_some (mapped_label old fec))
    (λ h. let x = mapped_by next fec h in is_mapped_by old fec x.0 x.1 (same.back x.0 x.1 x.2))
    (λ h. let x = mapped_by old fec h in is_mapped_by next fec x.0 x.1 (same.on x.0 x.1 x.2))

pub needs_as : (place : Place) (old next : LabelData) (fec : Fec) → SameRest old next → SameMaps old next fec
    → needs_label place next fec ≡ needs_label place old fec
needs_as place old next fec rest same =
    λ i. rest_tree old next rest fec i && (not (same_mapped old next fec same i)
    && same_ready old next (rest_ready old next rest) (place.upstream fec) i)

-- a turn takes a free label exactly where the tree needs one
pub turn_count : (place : Place) (old : LabelData) (fec : Fec) (next : LabelData) (more : List Put) → Turn place old fec next more
    → count_by is_free next.labels + cond (needs_label place old fec) 1 0 ≡ count_by is_free old.labels
turn_count place old fec next more t = elim t.how [
  | inl q ↦
      let labels = ap (λ (ls : List LabelUse). count_by is_free ls) q.labels in
      (λ i. labels i + cond (q.content i) 1 0) ∙ omega arith
  | inr (inl m) ↦
      let labels = ap (λ (ls : List LabelUse). count_by is_free ls) m.labels in
      let need : needs_label place old fec ≡ true =
      and_from (has_tree old fec) (not (is_some (mapped_label old fec)) && is_ready_to old (place.upstream fec)) m.tree
      (and_from (not (is_some (mapped_label old fec))) (is_ready_to old (place.upstream fec)) (ap (λ (o : Option ℕ). not (is_some o)) m.unmapped)
      (ap (is_ready_to old) m.toward ∙ m.ready)) in
      let set =
      count_set is_free old.labels (m.label - 16) uses.Free (uses.Mapped fec m.to) (used_some old.labels m.label uses.Free m.least.free).1 in
      (λ i. labels i + cond (need i) 1 0) ∙ set ∙ omega arith
  | inr (inr w) ↦
      let labels = ap (λ (ls : List LabelUse). count_by is_free ls) w.labels in
      let need : needs_label place old fec ≡ false =
      has_label (has_tree old fec) (mapped_label old fec) w.label (is_ready_to old (place.upstream fec)) w.first in
      let set =
      count_set is_free old.labels (w.label - 16) (uses.Mapped fec w.to) (uses.Leaving fec w.to)
      (used_some old.labels w.label (uses.Mapped fec w.to) w.was).1 in
      (λ i. labels i + cond (need i) 1 0) ∙ set ∙ omega arith
]

-- ---- where there is none

pub record Stuck (place : Place) (part : LabelData) (fec : Fec) : Type 0 where
  pub need : needs_label place part fec ≡ true
  pub none : free_label part ≡ None

stuck_by : (place : Place) (part : LabelData) (fec : Fec) (t : Bool) (mapped : Option ℕ) (holds up : Option NodeId) (ready : Bool) (free : Option ℕ)
    → has_tree part fec ≡ t → mapped_label part fec ≡ mapped → (mapped >>? λ label. upstream_of (use_of part label)) ≡ holds → place.upstream fec ≡ up
    → is_ready_to part up ≡ ready → free_label part ≡ free
    → changed part fec (change_by t mapped holds up ready free) ≡ None → Stuck place part fec
stuck_by place part fec true None holds (Some u) true None h m o p q e is =
    record {
      need = and_from (has_tree part fec) (not (is_some (mapped_label part fec)) && is_ready_to part (place.upstream fec)) h
          (and_from (not (is_some (mapped_label part fec))) (is_ready_to part (place.upstream fec)) (ap (λ (o : Option ℕ). not (is_some o)) m)
          (ap (is_ready_to part) p ∙ q));
      none = e;
    }
stuck_by place part fec true (Some label) holds up ready free h m o p q e is = absurd (by (same_neighbour holds up) (mapped_some part fec label m) is)
  where
    by : (t : Bool) → (u : NodeId) × Maps part fec label u → changed part fec (cond t changes.Keep (withdrawn label holds)) ≡ None → ⊥
    by true x h = none-some part (sym h)
    by false x h =
        none-some _ (sym (sym (ap (λ (own : Option NodeId). changed part fec (withdrawn label own)) (sym o ∙ holder part fec label x.0 x.1)) ∙ h))
stuck_by place part fec true None holds (Some u) true (Some label) h m o p q e is = absurd cc
stuck_by place part fec true None holds (Some u) false free h m o p q e is = absurd cc
stuck_by place part fec true None holds None ready free h m o p q e is = absurd cc
stuck_by place part fec false (Some label) None up ready free h m o p q e is = absurd cc
stuck_by place part fec false (Some label) (Some v) up ready free h m o p q e is = absurd cc
stuck_by place part fec false None holds up ready free h m o p q e is = absurd cc

pub stuck : (place : Place) (part : LabelData) (fec : Fec) → changed part fec (change_of place part fec) ≡ None → Stuck place part fec
stuck place part fec is =
    stuck_by place part fec (has_tree part fec) (mapped_label part fec) (holder_of part fec) (place.upstream fec)
    (is_ready_to part (place.upstream fec)) (free_label part)
    refl refl refl refl refl refl is

pub none_free : (part : LabelData) → free_label part ≡ None → count_by is_free part.labels ≡ 0
none_free part e =
    count_none is_free part.labels (λ k usage at. none_passes is_free part.labels
    (map_none (λ place. first_label + place) (position is_free part.labels) e) k usage at)

abbrev pub lacks : Place → List Fec → LabelData → Type 0
lacks place fecs part = count_by is_free part.labels < sets.len (passing (needs_label place part) fecs)

pub empty_len : (place : Place) (part : LabelData) → lacks place [] part → ⊥
empty_len place part lt = let none = sets.len-empty fec_cmp in omega (arith, lt, none)

pub none_where : (place : Place) (fecs : List Fec) (old : Stepped) → Distinct fecs → (settle_all place fecs old ≡ None) ↔ lacks place fecs old.part
none_where place [] old once = (λ e. absurd (none-some old (sym e)), λ lt. absurd (empty_len place old.part lt))
none_where place (fec ∷ more) old once =
    by (changed old.part fec (change_of place old.part fec)) refl
    (λ next. none_where place more (record { part = next; puts = old.puts ++ put_by fec (change_of place old.part fec) }) once.1)
  where
    by : (o : Option LabelData) → changed old.part fec (change_of place old.part fec) ≡ o
        → ((next : LabelData) → (settle_all place more (record { part = next; puts = old.puts ++ put_by fec (change_of place old.part fec) }) ≡ None)
        ↔ lacks place more next)
        → ((o >>? λ next. settle_all place more (record { part = next; puts = old.puts ++ put_by fec (change_of place old.part fec) })) ≡ None) ↔
        lacks place (fec ∷ more) old.part
    by None e rest =
        let s = stuck place old.part fec e in
        let zero_free = none_free old.part s.none in
        let member =
        has_member (passing (needs_label place old.part) (fec ∷ more)) fec (contains-passing (needs_label place old.part) fec (fec ∷ more)
        ∙ and_from (needs_label place old.part fec) (list_any (same_fec fec) (fec ∷ more)) s.need
        (or_left (same_fec fec fec) (list_any (same_fec fec) more) (same_fec_itself fec))) in
        (λ h. omega (arith, zero_free, member), λ h. refl)
    by (Some next) e rest =
        let t = turn place old.part fec next e in
        let count = turn_count place old.part fec next (put_by fec (change_of place old.part fec)) t in
        let len =
        fewer (needs_label place old.part) (needs_label place next) fec more once.0
        (λ other ne. needs_as place old.part next other t.rest (turn_maps place old.part fec next _ t other ne)) in
        let r = rest next in
        (λ h. (let lt = r.0 h in omega (arith, count, len, lt)), λ lt. r.1 (omega (arith, count, len, lt)))
