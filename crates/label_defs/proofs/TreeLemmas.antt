-- What a tree needs settles it, and leaves all others as they were.
use Rattle.std.proofs.Common.{◌≡◌, ℕ, Bool, true, false, not, ◌&&◌, inl, inr, Option, Some, None, is_some, refl, sym, ap, subst, ◌∙◌}
use Rattle.std.proofs.lemmas.Bool.{cases_Bool, cases_eq, cond-true, cond-false}
use Rattle.std.proofs.lemmas.Option.{same_Some, none-some}
use Rattle.std.specs.FinSet as sets
use Rattle.std.specs.FinSet.{FinSet}
use Rattle.mldp.specs.mv_base.Number.{◌>>?◌}
use Rattle.mldp.specs.mv_base.declared.ids.NodeId.{NodeId}
use Rattle.mldp.specs.declared.mldp_fec.fec.Fec.{Fec}
use Rattle.label_defs.specs.declared.label_use.LabelUse.{LabelUse}
use Rattle.label_defs.specs.declared.label_use.LabelUse.TheVariants as uses
use Rattle.label_defs.specs.Keys.{fec_cmp}
use Rattle.label_defs.specs.LabelData.{Place, LabelData, use_of, free_label, mapped_label, has_tree, is_ready}
use Rattle.label_defs.specs.declared.change.Change.TheVariants as changes
use Rattle.label_defs.specs.Settling.{with_use, upstream_of, holder_of, same_neighbour, withdrawn, change_by, change_of, changed, is_ready_to}
use Rattle.label_defs.specs.Settled.{Maps, Settled}
use Rattle.label_defs.proofs.KeyLemmas.{fec_cmp_total, fec_cmp_exact, node_equal, node_itself}
use Rattle.label_defs.proofs.UseLemmas.{set_here, set_there, mapped_none, mapped_some, free_some}
use Rattle.label_defs.proofs.SetLemmas.{inserted_here, inserted_other, removed_here, removed_other}

-- whether the binding has to wait
abbrev pub waits : Place → LabelData → Fec → Bool
waits place part fec = has_tree part fec && (is_some (place.upstream fec) && not (is_ready_to part (place.upstream fec)))

-- what holds of a tree that is not settled yet
pub record Tied (place : Place) (part : LabelData) (fec : Fec) : Type 0 where
  pub one : (label other : ℕ) (upstream neighbour : NodeId) → Maps part fec label upstream → Maps part fec other neighbour → label ≡ other
  pub toward : (label : ℕ) (upstream : NodeId) → Maps part fec label upstream → (place.upstream fec ≡ Some upstream) × (is_ready part upstream ≡ true)
  pub apart : (label : ℕ) (upstream : NodeId) → Maps part fec label upstream → sets.contains part.waiting fec ≡ false

-- ---- tests

pub ready_ends : (t s r : Bool) → r ≡ true → (t && (s && not r)) ≡ false
ready_ends true true true e = refl
ready_ends true false r e = refl
ready_ends false s r e = refl
ready_ends true true false e = absurd cc

pub at_root : (t : Bool) (o : Option NodeId) (r : Bool) → o ≡ None → (t && (is_some o && not r)) ≡ false
at_root true None r e = refl
at_root true (Some u) r e = absurd cc
at_root false o r e = refl

pub needs_end : (t : Bool) (o : Option NodeId) (u : NodeId) (r : Bool) → t ≡ true → o ≡ Some u → r ≡ false → (t && (is_some o && not r)) ≡ true
needs_end true (Some v) u false e p q = refl
needs_end false o u r e p q = absurd cc
needs_end true None u r e p q = absurd cc
needs_end true (Some v) u true e p q = absurd cc

pub not_both : (b : Bool) → b ≡ true → b ≡ false → ⊥
not_both true e h = absurd cc
not_both false e h = absurd cc

-- ---- settled trees

pub is_ready_at : (place : Place) (part : LabelData) (fec : Fec) (upstream : NodeId) → place.upstream fec ≡ Some upstream
    → is_ready_to part (place.upstream fec) ≡ is_ready part upstream
is_ready_at place part fec upstream e = ap (is_ready_to part) e

pub tied : (place : Place) (part : LabelData) (fec : Fec) → Settled place part fec → Tied place part fec
tied place part fec s =
    record {
      one = s.one;
      toward = s.toward;
      apart = λ label upstream is.
          let x = s.toward label upstream is in
          s.waiting ∙ ready_ends (has_tree part fec) (is_some (place.upstream fec)) (is_ready_to part (place.upstream fec))
          (is_ready_at place part fec upstream x.0 ∙ x.1);
    }

-- what a change keeps of one tree
pub record Like (old new : LabelData) (fec : Fec) : Type 0 where
  pub maps : (label : ℕ) (upstream : NodeId) → Maps new fec label upstream → Maps old fec label upstream
  pub ready : (node : NodeId) → is_ready new node ≡ is_ready old node
  pub waiting : sets.contains new.waiting fec ≡ sets.contains old.waiting fec

pub like_tied : (place : Place) (old new : LabelData) (fec : Fec) → Like old new fec → Tied place old fec → Tied place new fec
like_tied place old new fec k t =
    record {
      one = λ i j u v p q. t.one i j u v (k.maps i u p) (k.maps j v q);
      toward = λ i u p. (let x = t.toward i u (k.maps i u p) in (x.0, k.ready u ∙ x.1));
      apart = λ i u p. k.waiting ∙ t.apart i u (k.maps i u p);
    }

pub same_ready : (old new : LabelData) → ((node : NodeId) → is_ready new node ≡ is_ready old node) → (o : Option NodeId)
    → is_ready_to new o ≡ is_ready_to old o
same_ready old new same None = refl
same_ready old new same (Some u) = same u

pub like_settled : (place : Place) (old new : LabelData) (fec : Fec) → Like old new fec
    → ((label : ℕ) (upstream : NodeId) → Maps old fec label upstream → Maps new fec label upstream) → has_tree new fec ≡ has_tree old fec
    → Settled place old fec → Settled place new fec
like_settled place old new fec k back tree s =
    let t = like_tied place old new fec k (tied place old fec s) in
    let ready = same_ready old new k.ready (place.upstream fec) in
    record {
      one = t.one;
      toward = t.toward;
      needed = λ i u p. tree ∙ s.needed i u (k.maps i u p);
      mapped = λ u h e r. (let x = s.mapped u (sym tree ∙ h) e (sym (k.ready u) ∙ r) in (x.0, back x.0 u x.1));
      waiting = k.waiting ∙ s.waiting ∙ λ i. sym tree i && (is_some (place.upstream fec) && not (sym ready i));
    }

-- ---- what a change makes of the trees

-- a tree that a change leaves as it was
pub record Beside (old new : LabelData) (fec : Fec) : Type 0 where
  pub like : Like old new fec
  pub back : (label : ℕ) (upstream : NodeId) → Maps old fec label upstream → Maps new fec label upstream
  pub tree : has_tree new fec ≡ has_tree old fec

pub beside_tied : (place : Place) (old new : LabelData) (fec : Fec) → Beside old new fec → Tied place old fec → Tied place new fec
beside_tied place old new fec b t = like_tied place old new fec b.like t

pub beside_settled : (place : Place) (old new : LabelData) (fec : Fec) → Beside old new fec → Settled place old fec → Settled place new fec
beside_settled place old new fec b s = like_settled place old new fec b.like b.back b.tree s

pub record After (place : Place) (old : LabelData) (fec : Fec) (new : LabelData) : Type 0 where
  pub others : (other : Fec) → (other ≡ fec → ⊥) → Beside old new other
  pub done : Settled place new fec

-- one label changes to a use that maps no other tree, and waiting trees change at this one alone
use_like : (part : LabelData) (label : ℕ) (old new : LabelUse) (waiting : FinSet fec_cmp) (other : Fec) → use_of part label ≡ Some old
    → ((upstream : NodeId) → new ≡ uses.Mapped other upstream → ⊥)
    → sets.contains waiting other ≡ sets.contains part.waiting other → Like part (record (with_use part label new) { waiting = waiting }) other
use_like part label old new waiting other is never same =
    record {
      maps = λ k u p. elim (cases_eq k label) [
        | inl e ↦ absurd (never u (same_Some new (uses.Mapped other u)
            (sym (set_here part label old new is) ∙ ap (use_of (with_use part label new)) (sym e) ∙ p)))
        | inr e ↦ sym (set_there part label old new k is e) ∙ p
      ];
      ready = λ node. refl;
      waiting = same;
    }

use_back : (part : LabelData) (label : ℕ) (old new : LabelUse) (other : Fec) → use_of part label ≡ Some old
    → ((upstream : NodeId) → old ≡ uses.Mapped other upstream → ⊥)
    → (k : ℕ) (upstream : NodeId) → Maps part other k upstream → use_of (with_use part label new) k ≡ Some (uses.Mapped other upstream)
use_back part label old new other is never k u p = elim (cases_eq k label) [
  | inl e ↦ absurd (never u (same_Some old (uses.Mapped other u) (sym is ∙ ap (use_of part) (sym e) ∙ p)))
  | inr e ↦ set_there part label old new k is e ∙ p
]

pub one_tree : (a b : Fec) (u v : NodeId) → uses.Mapped a u ≡ uses.Mapped b v → (a ≡ b) × (u ≡ v)
one_tree a b u v e = (cc, cc)

map_after : (place : Place) (part : LabelData) (fec : Fec) (upstream : NodeId) (label : ℕ) → has_tree part fec ≡ true
    → place.upstream fec ≡ Some upstream → is_ready part upstream ≡ true
    → ((k : ℕ) (u : NodeId) → Maps part fec k u → ⊥) → use_of part label ≡ Some uses.Free
    → After place part fec (record (with_use part label (uses.Mapped fec upstream)) { waiting = sets.remove part.waiting fec })
map_after place part fec upstream label tree up ready none free =
    let new : LabelData = record (with_use part label (uses.Mapped fec upstream)) { waiting = sets.remove part.waiting fec } in
    let here = set_here part label uses.Free (uses.Mapped fec upstream) free in
    let like : (other : Fec) → (other ≡ fec → ⊥) → Like part new other =
    λ other ne. use_like part label uses.Free (uses.Mapped fec upstream) (sets.remove part.waiting fec) other free
    (λ u e. ne (sym (one_tree fec other upstream u e).0)) (removed_other fec_cmp_total fec_cmp_exact part.waiting fec other ne) in
    let at : (k : ℕ) (u : NodeId) → Maps new fec k u → k ≡ label =
    λ k u p. elim (cases_eq k label) [
      | inl e ↦ e
      | inr e ↦
          absurd (none k u (sym (set_there part label uses.Free (uses.Mapped fec upstream) k free e) ∙ p))
    ] in
    record {
      others = λ other ne. record {
        like = like other ne;
        back =
            use_back part label uses.Free (uses.Mapped fec upstream) other free (λ u e. absurd cc);
        tree = refl;
      };
      done = record {
        one = λ i j u v p q. at i u p ∙ sym (at j v q);
        toward = λ i u p.
            let same =
            (one_tree fec fec upstream u (same_Some (uses.Mapped fec upstream) (uses.Mapped fec u)
            (sym here ∙ ap (use_of (with_use part label (uses.Mapped fec upstream))) (sym (at i u p)) ∙ p))).1 in
            (up ∙ ap (λ (x : NodeId). Some x) same, ap (is_ready part) (sym same) ∙ ready);
        needed = λ i u p. tree;
        mapped = λ u h e r. (let same = same_Some upstream u (sym up ∙ e) in (label, here ∙ ap (λ (x : NodeId). Some (uses.Mapped fec x)) same));
        waiting =
            removed_here fec_cmp_total fec_cmp_exact part.waiting fec
            ∙ sym (ready_ends (has_tree part fec) (is_some (place.upstream fec)) (is_ready_to part (place.upstream fec))
            (is_ready_at place part fec upstream up ∙ ready));
      };
    }

-- the label of the tree leaves: none is mapped to it then
withdraw_others : (part : LabelData) (fec : Fec) (upstream : NodeId) (label : ℕ) → Maps part fec label upstream
    → (other : Fec) → (other ≡ fec → ⊥) → Beside part (with_use part label (uses.Leaving fec upstream)) other
withdraw_others part fec upstream label is other ne =
    record {
      like = use_like part label (uses.Mapped fec upstream) (uses.Leaving fec upstream) part.waiting other is (λ u e. absurd cc) refl;
      back = use_back part label (uses.Mapped fec upstream) (uses.Leaving fec upstream) other is
          (λ u e. ne (sym (one_tree fec other upstream u e).0));
      tree = refl;
    }

pub withdraw_none : (part : LabelData) (fec : Fec) (upstream : NodeId) (label : ℕ) → Maps part fec label upstream
    → ((k l : ℕ) (u v : NodeId) → Maps part fec k u → Maps part fec l v → k ≡ l)
    → (k : ℕ) (u : NodeId) → Maps (with_use part label (uses.Leaving fec upstream)) fec k u → ⊥
withdraw_none part fec upstream label is one k u p =
    let new : LabelData = with_use part label (uses.Leaving fec upstream) in
    let like = use_like part label (uses.Mapped fec upstream) (uses.Leaving fec upstream) part.waiting fec is (λ v e. absurd cc) refl in
    elim (cases_eq k label) [
      | inl e ↦ (let x = same_Some (uses.Leaving fec upstream) (uses.Mapped fec u)
          (sym (set_here part label (uses.Mapped fec upstream) (uses.Leaving fec upstream) is) ∙ ap (use_of new) (sym e) ∙ p) in absurd cc)
      | inr e ↦ e (one k label u upstream (like.maps k u p) is)
    ]

withdraw_after : (place : Place) (part : LabelData) (fec : Fec) (upstream : NodeId) (label : ℕ) → has_tree part fec ≡ false
    → Maps part fec label upstream → Tied place part fec
    → After place part fec (with_use part label (uses.Leaving fec upstream))
withdraw_after place part fec upstream label tree is t =
    let none = withdraw_none part fec upstream label is t.one in
    record {
      others = withdraw_others part fec upstream label is;
      done = record {
        one = λ i j u v p q. absurd (none i u p);
        toward = λ i u p. absurd (none i u p);
        needed = λ i u p. absurd (none i u p);
        mapped = λ u h e r. absurd (not_both (has_tree part fec) h tree);
        waiting = t.apart label upstream is ∙ sym (ap (λ x. x && (is_some (place.upstream fec) && not (is_ready_to part (place.upstream fec)))) tree);
      };
    }

-- no label is mapped to the tree, and waiting trees alone change, to what it needs
waiting_after : (place : Place) (part : LabelData) (fec : Fec) (waiting : FinSet fec_cmp)
    → ((other : Fec) → (other ≡ fec → ⊥) → sets.contains waiting other ≡ sets.contains part.waiting other)
    → ((k : ℕ) (u : NodeId) → Maps part fec k u → ⊥)
    → (has_tree part fec ≡ true → (u : NodeId) → place.upstream fec ≡ Some u → is_ready part u ≡ true → ⊥)
    → sets.contains waiting fec ≡ waits place part fec
    → After place part fec (record part { waiting = waiting })
waiting_after place part fec waiting same none never is =
    let new : LabelData = record part { waiting = waiting } in
    let like : (other : Fec) → (other ≡ fec → ⊥) → Like part new other =
    λ other ne. record { maps = λ i u p. p; ready = λ node. refl; waiting = same other ne } in
    record {
      others = λ other ne. record { like = like other ne; back = λ i u p. p; tree = refl };
      done = record {
        one = λ i j u v p q. absurd (none i u p);
        toward = λ i u p. absurd (none i u p);
        needed = λ i u p. absurd (none i u p);
        mapped = λ u h e r. absurd (never h u e r);
        waiting =
            is ∙ ap (λ x. has_tree part fec && (is_some (place.upstream fec) && not x))
            (sym (same_ready part new (λ node. refl) (place.upstream fec)));
      };
    }

pub beside_itself : (part : LabelData) (fec : Fec) → Beside part part fec
beside_itself part fec = record { like = record { maps = λ i u p. p; ready = λ node. refl; waiting = refl }; back = λ i u p. p; tree = refl }

-- the label that is mapped stays
keep_after : (place : Place) (part : LabelData) (fec : Fec) (upstream : NodeId) (label : ℕ) → has_tree part fec ≡ true → Maps part fec label upstream
    → Tied place part fec → After place part fec part
keep_after place part fec upstream label tree is t =
    let x = t.toward label upstream is in
    record {
      others = λ other ne. beside_itself part other;
      done = record {
        one = t.one;
        toward = t.toward;
        needed = λ i u p. tree;
        mapped = λ u h e r. (let same = same_Some upstream u (sym x.0 ∙ e) in (label, is ∙ ap (λ (y : NodeId). Some (uses.Mapped fec y)) same));
        waiting =
            t.apart label upstream is ∙ sym (ready_ends (has_tree part fec) (is_some (place.upstream fec)) (is_ready_to part (place.upstream fec))
            (is_ready_at place part fec upstream x.0 ∙ x.1));
      };
    }

-- who holds the mapped label
pub holder : (part : LabelData) (fec : Fec) (label : ℕ) (upstream : NodeId) → Maps part fec label upstream
    → upstream_of (use_of part label) ≡ Some upstream
holder part fec label upstream is = ap upstream_of is

-- ---- the holder and the upstream

pub one_neighbour : (a b : Option NodeId) → a ≡ b → same_neighbour a b ≡ true
one_neighbour None None e = refl
one_neighbour (Some u) (Some v) e = node_itself u v (same_Some u v e)
one_neighbour None (Some v) e = absurd (none-some v e)
one_neighbour (Some u) None e = absurd (none-some u (sym e))

pub neighbours_equal : (a b : Option NodeId) → same_neighbour a b ≡ true → a ≡ b
neighbours_equal None None e = refl
neighbours_equal (Some u) (Some v) e = ap (λ (x : NodeId). Some x) (node_equal u v e)
neighbours_equal None (Some v) e = absurd cc
neighbours_equal (Some u) None e = absurd cc

pub neighbours_apart : (a b : Option NodeId) → same_neighbour a b ≡ false → a ≡ b → ⊥
neighbours_apart a b e same = not_both (same_neighbour a b) (one_neighbour a b same) e

-- a label that is mapped towards the upstream is kept, and one towards another neighbour is withdrawn
pub kept_change : (holds up : Option NodeId) (label : ℕ) (ready : Bool) (free : Option ℕ) → same_neighbour holds up ≡ true
    → change_by true (Some label) holds up ready free ≡ changes.Keep
kept_change holds up label ready free e = cond-true (same_neighbour holds up) changes.Keep (withdrawn label holds) e

pub moved_change : (holds up : Option NodeId) (label : ℕ) (ready : Bool) (free : Option ℕ) → same_neighbour holds up ≡ false
    → change_by true (Some label) holds up ready free ≡ withdrawn label holds
moved_change holds up label ready free e = cond-false (same_neighbour holds up) changes.Keep (withdrawn label holds) e

-- no label is mapped to the tree
unmapped_by : (place : Place) (part : LabelData) (fec : Fec) (t : Bool) (holds up : Option NodeId) (ready : Bool) (free : Option ℕ) (new : LabelData)
    → has_tree part fec ≡ t → mapped_label part fec ≡ None → place.upstream fec ≡ up → is_ready_to part up ≡ ready → free_label part ≡ free
    → changed part fec (change_by t None holds up ready free) ≡ Some new → After place part fec new
unmapped_by place part fec true holds (Some u) true (Some label) new h m p q e is =
    subst (After place part fec) (same_Some (record (with_use part label (uses.Mapped fec u)) { waiting = sets.remove part.waiting fec }) new is)
    (map_after place part fec u label h p q (mapped_none part fec m) (free_some part label e).free)
unmapped_by place part fec true holds (Some u) true None new h m p q e is = absurd (none-some new is)
unmapped_by place part fec true holds (Some u) false free new h m p q e is =
    subst (After place part fec) (same_Some (record part { waiting = sets.insert part.waiting fec }) new is)
    (waiting_after place part fec (sets.insert part.waiting fec) (λ other ne. inserted_other fec_cmp_total fec_cmp_exact part.waiting fec other ne)
    (mapped_none part fec m)
    (λ tree v to ready. (let same = same_Some u v (sym p ∙ to) in not_both (is_ready part u) (ap (is_ready part) same ∙ ready) q))
    (inserted_here fec_cmp_total fec_cmp_exact part.waiting fec
    ∙ sym (needs_end (has_tree part fec) (place.upstream fec) u (is_ready_to part (place.upstream fec)) h p
    (is_ready_at place part fec u p ∙ q))))
unmapped_by place part fec true holds None ready free new h m p q e is =
    subst (After place part fec) (same_Some (record part { waiting = sets.remove part.waiting fec }) new is)
    (waiting_after place part fec (sets.remove part.waiting fec) (λ other ne. removed_other fec_cmp_total fec_cmp_exact part.waiting fec other ne)
    (mapped_none part fec m)
    (λ tree v to ready. none-some v (sym p ∙ to))
    (removed_here fec_cmp_total fec_cmp_exact part.waiting fec
    ∙ sym (at_root (has_tree part fec) (place.upstream fec) (is_ready_to part (place.upstream fec)) p)))
unmapped_by place part fec false holds up ready free new h m p q e is =
    subst (After place part fec) (same_Some (record part { waiting = sets.remove part.waiting fec }) new is)
    (waiting_after place part fec (sets.remove part.waiting fec) (λ other ne. removed_other fec_cmp_total fec_cmp_exact part.waiting fec other ne)
    (mapped_none part fec m)
    (λ tree v to ready. not_both (has_tree part fec) tree h)
    (removed_here fec_cmp_total fec_cmp_exact part.waiting fec
    ∙ sym (ap (λ x. x && (is_some (place.upstream fec) && not (is_ready_to part (place.upstream fec)))) h)))

after_by : (place : Place) (part : LabelData) (fec : Fec) (t : Bool) (mapped : Option ℕ) (holds up : Option NodeId) (ready : Bool) (free : Option ℕ)
    (new : LabelData)
    → has_tree part fec ≡ t → mapped_label part fec ≡ mapped → (mapped >>? λ label. upstream_of (use_of part label)) ≡ holds → place.upstream fec ≡ up
    → is_ready_to part up ≡ ready → free_label part ≡ free
    → Tied place part fec → changed part fec (change_by t mapped holds up ready free) ≡ Some new → After place part fec new
after_by place part fec t None holds up ready free new h m o p q e d is = unmapped_by place part fec t holds up ready free new h m p q e is
after_by place part fec true (Some label) holds up ready free new h m o p q e d is =
    let x = mapped_some part fec label m in
    let near = one_neighbour holds up (sym o ∙ holder part fec label x.0 x.1 ∙ sym (d.toward label x.0 x.1).0 ∙ p) in
    let kept : changed part fec changes.Keep ≡ Some new = sym (ap (changed part fec) (kept_change holds up label ready free near)) ∙ is in
    subst (After place part fec) (same_Some part new kept) (keep_after place part fec x.0 label h x.1 d)
after_by place part fec false (Some label) holds up ready free new h m o p q e d is =
    let x = mapped_some part fec label m in
    let gone = sym (ap (λ (own : Option NodeId). changed part fec (withdrawn label own)) (sym o ∙ holder part fec label x.0 x.1)) ∙ is in
    subst (After place part fec) (same_Some (with_use part label (uses.Leaving fec x.0)) new gone) (withdraw_after place part fec x.0 label h x.1 d)

-- what a tree needs, and gets, settles it
pub step_after : (place : Place) (part : LabelData) (fec : Fec) (new : LabelData) → Tied place part fec
    → changed part fec (change_of place part fec) ≡ Some new → After place part fec new
step_after place part fec new t is =
    after_by place part fec (has_tree part fec) (mapped_label part fec) (holder_of part fec) (place.upstream fec)
    (is_ready_to part (place.upstream fec)) (free_label part) new
    refl refl refl refl refl refl t is

-- ---- a tree that was settled by other next hops

pub record Loose (part : LabelData) (fec : Fec) : Type 0 where
  pub one : (label other : ℕ) (upstream neighbour : NodeId) → Maps part fec label upstream → Maps part fec other neighbour → label ≡ other
  pub ready : (label : ℕ) (upstream : NodeId) → Maps part fec label upstream → is_ready part upstream ≡ true
  pub needed : (label : ℕ) (upstream : NodeId) → Maps part fec label upstream → has_tree part fec ≡ true
  pub apart : (label : ℕ) (upstream : NodeId) → Maps part fec label upstream → sets.contains part.waiting fec ≡ false

pub loose : (place : Place) (part : LabelData) (fec : Fec) → Settled place part fec → Loose part fec
loose place part fec s = record { one = s.one; ready = λ i u p. (s.toward i u p).1; needed = s.needed; apart = (tied place part fec s).apart }

pub beside_loose : (old new : LabelData) (fec : Fec) → Beside old new fec → Loose old fec → Loose new fec
beside_loose old new fec b l =
    record {
      one = λ i j u v p q. l.one i j u v (b.like.maps i u p) (b.like.maps j v q);
      ready = λ i u p. b.like.ready u ∙ l.ready i u (b.like.maps i u p);
      needed = λ i u p. b.tree ∙ l.needed i u (b.like.maps i u p);
      apart = λ i u p. b.like.waiting ∙ l.apart i u (b.like.maps i u p);
    }

-- the first of two turns in a row
pub record Begun (place : Place) (old : LabelData) (fec : Fec) (mid : LabelData) : Type 0 where
  pub others : (other : Fec) → (other ≡ fec → ⊥) → Beside old mid other
  pub here : Tied place mid fec

begun_by : (place : Place) (part : LabelData) (fec : Fec) (t : Bool) (mapped : Option ℕ) (holds up : Option NodeId) (ready : Bool) (free : Option ℕ)
    (mid : LabelData)
    → has_tree part fec ≡ t → mapped_label part fec ≡ mapped → (mapped >>? λ label. upstream_of (use_of part label)) ≡ holds → place.upstream fec ≡ up
    → is_ready_to part up ≡ ready → free_label part ≡ free
    → Loose part fec → changed part fec (change_by t mapped holds up ready free) ≡ Some mid → Begun place part fec mid
begun_by place part fec t None holds up ready free mid h m o p q e l is =
    let a = unmapped_by place part fec t holds up ready free mid h m p q e is in
    record { others = a.others; here = tied place mid fec a.done }
begun_by place part fec false (Some label) holds up ready free mid h m o p q e l is =
    let x = mapped_some part fec label m in
    absurd (not_both (has_tree part fec) (l.needed label x.0 x.1) h)
begun_by place part fec true (Some label) holds up ready free mid h m o p q e l is = elim (cases_Bool (same_neighbour holds up)) [
  | inl near ↦
      let x = mapped_some part fec label m in
      let kept : changed part fec changes.Keep ≡ Some mid = sym (ap (changed part fec) (kept_change holds up label ready free near)) ∙ is in
      let toward : place.upstream fec ≡ Some x.0 = p ∙ sym (neighbours_equal holds up near) ∙ sym o ∙ holder part fec label x.0 x.1 in
      subst (Begun place part fec) (same_Some part mid kept) (record {
        others = λ other ne. beside_itself part other;
        here = record {
          one = l.one;
          toward = λ i u is_u.
              let same = l.one i label u x.0 is_u x.1 in
              let both =
              one_tree fec fec x.0 u (same_Some (uses.Mapped fec x.0) (uses.Mapped fec u) (sym x.1 ∙ ap (use_of part) (sym same) ∙ is_u)) in
              (toward ∙ ap (λ (y : NodeId). Some y) both.1, l.ready i u is_u);
          apart = l.apart;
        };
      })
  | inr far ↦
      let x = mapped_some part fec label m in
      let gone =
      sym (ap (changed part fec) (moved_change holds up label ready free far)
      ∙ ap (λ (own : Option NodeId). changed part fec (withdrawn label own)) (sym o ∙ holder part fec label x.0 x.1)) ∙ is in
      let none = withdraw_none part fec x.0 label x.1 l.one in
      subst (Begun place part fec) (same_Some (with_use part label (uses.Leaving fec x.0)) mid gone) (record {
        others = withdraw_others part fec x.0 label x.1;
        here = record { one = λ i j u v a b. absurd (none i u a); toward = λ i u a. absurd (none i u a); apart = λ i u a. absurd (none i u a) };
      })
]

pub step_begun : (place : Place) (part : LabelData) (fec : Fec) (mid : LabelData) → Loose part fec
    → changed part fec (change_of place part fec) ≡ Some mid → Begun place part fec mid
step_begun place part fec mid l is =
    begun_by place part fec (has_tree part fec) (mapped_label part fec) (holder_of part fec) (place.upstream fec)
    (is_ready_to part (place.upstream fec)) (free_label part) mid refl refl refl refl refl refl l is
