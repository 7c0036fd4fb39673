-- What the settling of one tree does to the labels and puts, and what holds after a row of them.
use Rattle.std.proofs.Common.{◌≡◌, ℕ, ◌-◌, Bool, true, false, not, ◌&&◌, is_some, ◌++◌, List, [], ◌∷◌, slice_set, Option, Some, None, refl, sym, ap, subst, ◌∙◌, inl, inr, ◌⊎◌}
use Rattle.std.proofs.lemmas.Bool.{and_left, cases_Bool}
use Rattle.std.proofs.lemmas.Option.{same_Some, none-some}
use Rattle.mldp.specs.mv_base.Number.{◌>>?◌}
use Rattle.mldp.specs.mv_base.declared.ids.NodeId.{NodeId}
use Rattle.mldp.specs.declared.mldp_fec.fec.Fec.{Fec}
use Rattle.mldp.specs.declared.mldp_msgs.message.LabelMessage.TheVariants as messages
use Rattle.label_defs.specs.declared.label_use.LabelUse.TheVariants as uses
use Rattle.label_defs.specs.declared.put.Put.{Put}
use Rattle.label_defs.specs.LabelData.{Place, LabelData, use_of, free_label, mapped_label, has_tree, is_ready}
use Rattle.label_defs.specs.Settling.{Stepped, upstream_of, holder_of, same_neighbour, withdrawn, is_ready_to, change_by, change_of, changed, put_by, settle_all}
use Rattle.label_defs.specs.Settled.{Maps}
use Rattle.label_defs.specs.Laws.{needs_label, needs_new_label}
use Rattle.label_defs.proofs.UseLemmas.{Least, mapped_some, free_some}
use Rattle.label_defs.proofs.TreeLemmas.{not_both, holder, neighbours_apart, kept_change, moved_change}
use Rattle.label_defs.proofs.SettleLemmas.{bind_some}

-- what no settling changes
pub record SameRest (old new : LabelData) : Type 0 where
  pub branches : new.branches ≡ old.branches
  pub leaves : new.leaves ≡ old.leaves
  pub ends : new.ends ≡ old.ends

-- no label changes, and none is needed
pub record Quiet (place : Place) (old : LabelData) (fec : Fec) (new : LabelData) (puts : List Put) : Type 0 where
  pub content : needs_label place old fec ≡ false
  pub at_hop : needs_new_label place old fec ≡ false
  pub labels : new.labels ≡ old.labels
  pub silent : puts ≡ []

-- the least free label is mapped to the tree
pub record Takes (place : Place) (old : LabelData) (fec : Fec) (new : LabelData) (puts : List Put) : Type 0 where
  pub to : NodeId
  pub label : ℕ
  pub tree : has_tree old fec ≡ true
  pub unmapped : mapped_label old fec ≡ None
  pub toward : place.upstream fec ≡ Some to
  pub ready : is_ready old to ≡ true
  pub least : Least old label
  pub labels : new.labels ≡ slice_set old.labels (label - 16) (uses.Mapped fec to)
  pub put : puts ≡ record { to = to; message = messages.Mapping fec label } ∷ []

-- the node is not on the tree, or the neighbour is not towards its root
abbrev pub Off : Place → LabelData → Fec → NodeId → Type 0
Off place part fec to = (has_tree part fec ≡ false) ⊎ (place.upstream fec ≡ Some to → ⊥)

pub on_it : (place : Place) (part : LabelData) (fec : Fec) (to : NodeId) → has_tree part fec ≡ true → place.upstream fec ≡ Some to
    → Off place part fec to → ⊥
on_it place part fec to tree toward (inl off) = not_both (has_tree part fec) tree off
on_it place part fec to tree toward (inr away) = away toward

-- the label of the tree is withdrawn: the node is not on the tree, or the neighbour is not towards its root
pub record Gives (place : Place) (old : LabelData) (fec : Fec) (new : LabelData) (puts : List Put) : Type 0 where
  pub to : NodeId
  pub label : ℕ
  pub off : Off place old fec to
  pub first : mapped_label old fec ≡ Some label
  pub was : Maps old fec label to
  pub labels : new.labels ≡ slice_set old.labels (label - 16) (uses.Leaving fec to)
  pub put : puts ≡ record { to = to; message = messages.Withdraw fec label } ∷ []

pub record Turn (place : Place) (old : LabelData) (fec : Fec) (new : LabelData) (puts : List Put) : Type 0 where
  pub rest : SameRest old new
  pub how : Quiet place old fec new puts ⊎ (Takes place old fec new puts ⊎ Gives place old fec new puts)

same_rest : (part : LabelData) → SameRest part part
same_rest part = record { branches = refl; leaves = refl; ends = refl }

pub has_label : (t : Bool) (o : Option ℕ) (label : ℕ) (r : Bool) → o ≡ Some label → (t && (not (is_some o) && r)) ≡ false
has_label false o label r e = refl
has_label true (Some own) label r e = refl
has_label true None label r e = absurd cc

pub has_hop : (t s r : Bool) → s ≡ true → (t && (not s && r)) ≡ false
has_hop false s r e = refl
has_hop true true r e = refl
has_hop true false r e = absurd cc

not_ready : (t s r : Bool) → r ≡ false → (t && (s && r)) ≡ false
not_ready false s r e = refl
not_ready true false r e = refl
not_ready true true r e = e

-- the mapped label is withdrawn from its holder
given : (place : Place) (part : LabelData) (fec : Fec) (label : ℕ) (holds : Option NodeId) (new : LabelData) {to : NodeId}
    → mapped_label part fec ≡ Some label → holds ≡ Some to → Maps part fec label to
    → Off place part fec to → changed part fec (withdrawn label holds) ≡ Some new → Turn place part fec new (put_by fec (withdrawn label holds))
given place part fec label None new m holds_is was off is = absurd (none-some _ holds_is)
given place part fec label (Some v) new {to} m holds_is was off is =
    let same = same_Some v to holds_is in
    let puts : List Put = record { to = v; message = messages.Withdraw fec label } ∷ [] in
    subst (λ y. Turn place part fec y puts) (same_Some _ new is) (record {
      rest = record { branches = refl; leaves = refl; ends = refl };
      how = inr (inr (record {
        to = v;
        label = label;
        off = subst (Off place part fec) (sym same) off;
        first = m;
        was = was ∙ ap (λ (y : NodeId). Some (uses.Mapped fec y)) (sym same);
        labels = refl;
        put = refl;
      }));
    })

turn_by : (place : Place) (part : LabelData) (fec : Fec) (t : Bool) (mapped : Option ℕ) (holds up : Option NodeId) (ready : Bool) (free : Option ℕ)
    (new : LabelData)
    → has_tree part fec ≡ t → mapped_label part fec ≡ mapped → (mapped >>? λ label. upstream_of (use_of part label)) ≡ holds → place.upstream fec ≡ up
    → is_ready_to part up ≡ ready → free_label part ≡ free
    → changed part fec (change_by t mapped holds up ready free) ≡ Some new
    → Turn place part fec new (put_by fec (change_by t mapped holds up ready free))
turn_by place part fec true (Some label) holds up ready free new h m o p q e is = elim (cases_Bool (same_neighbour holds up)) [
  | inl near ↦
      let kept = kept_change holds up label ready free near in
      let same = same_Some part new (sym (ap (changed part fec) kept) ∙ is) in
      subst (λ x. Turn place part fec x (put_by fec (change_by true (Some label) holds up ready free))) same (record {
        rest = same_rest part;
        how = inl (record {
          content = has_label (has_tree part fec) (mapped_label part fec) label (is_ready_to part (place.upstream fec)) m;
          at_hop = has_hop (has_tree part fec) (same_neighbour (holder_of part fec) (place.upstream fec)) (is_ready_to part (place.upstream fec))
              (ap (λ (x : Option ℕ). same_neighbour (x >>? λ own. upstream_of (use_of part own)) (place.upstream fec)) m
              ∙ (λ i. same_neighbour (o i) (p i)) ∙ near);
          labels = refl;
          silent = ap (put_by fec) kept;
        });
      })
  | inr far ↦
      let gone = moved_change holds up label ready free far in
      let x = mapped_some part fec label m in
      let holds_is : holds ≡ Some x.0 = sym o ∙ holder part fec label x.0 x.1 in
      subst (Turn place part fec new) (ap (put_by fec) (sym gone))
      (given place part fec label holds new m holds_is x.1 (inr (λ to. neighbours_apart holds up far (holds_is ∙ sym to ∙ p)))
      (sym (ap (changed part fec) gone) ∙ is))
]
turn_by place part fec true None holds (Some u) true (Some label) new h m o p q e is =
    let puts : List Put = record { to = u; message = messages.Mapping fec label } ∷ [] in
    subst (λ x. Turn place part fec x puts) (same_Some _ new is) (record {
      rest = record { branches = refl; leaves = refl; ends = refl };
      how = inr (inl (record {
        to = u;
        label = label;
        tree = h;
        unmapped = m;
        toward = p;
        ready = q;
        least = free_some part label e;
        labels =
            refl;
        put = refl;
      }));
    })
turn_by place part fec true None holds (Some u) true None new h m o p q e is = absurd (none-some new is)
turn_by place part fec true None holds (Some u) false free new h m o p q e is =
    subst (λ x. Turn place part fec x []) (same_Some _ new is)
    (record {
      rest = record { branches = refl; leaves = refl; ends = refl };
      how =
          inl (record {
            content =
                not_ready (has_tree part fec) (not (is_some (mapped_label part fec))) (is_ready_to part (place.upstream fec)) (ap (is_ready_to part) p ∙ q);
            at_hop = not_ready (has_tree part fec) (not (same_neighbour (holder_of part fec) (place.upstream fec)))
                (is_ready_to part (place.upstream fec)) (ap (is_ready_to part) p ∙ q);
            labels = refl;
            silent = refl;
          });
    })
turn_by place part fec true None holds None ready free new h m o p q e is =
    subst (λ x. Turn place part fec x []) (same_Some _ new is)
    (record {
      rest = record { branches = refl; leaves = refl; ends = refl };
      how =
          inl (record {
            content =
                not_ready (has_tree part fec) (not (is_some (mapped_label part fec))) (is_ready_to part (place.upstream fec)) (ap (is_ready_to part) p);
            at_hop = not_ready (has_tree part fec) (not (same_neighbour (holder_of part fec) (place.upstream fec)))
                (is_ready_to part (place.upstream fec)) (ap (is_ready_to part) p);
            labels = refl;
            silent = refl;
          });
    })
turn_by place part fec false (Some label) holds up ready free new h m o p q e is =
    let x = mapped_some part fec label m in
    given place part fec label holds new m (sym o ∙ holder part fec label x.0 x.1) x.1 (inl h) is
turn_by place part fec false None holds up ready free new h m o p q e is =
    subst (λ x. Turn place part fec x []) (same_Some _ new is)
    (record {
      rest = record { branches = refl; leaves = refl; ends = refl };
      how =
          inl (record {
            content =
                and_left (has_tree part fec) (not (is_some (mapped_label part fec)) && is_ready_to part (place.upstream fec)) h;
            at_hop =
                and_left (has_tree part fec) (not (same_neighbour (holder_of part fec) (place.upstream fec)) && is_ready_to part (place.upstream fec)) h;
            labels = refl;
            silent = refl;
          });
    })

pub turn : (place : Place) (part : LabelData) (fec : Fec) (new : LabelData) → changed part fec (change_of place part fec) ≡ Some new
    → Turn place part fec new (put_by fec (change_of place part fec))
turn place part fec new is =
    turn_by place part fec (has_tree part fec) (mapped_label part fec) (holder_of part fec) (place.upstream fec)
    (is_ready_to part (place.upstream fec)) (free_label part) new
    refl refl refl refl refl refl is

-- What each turn keeps holds after a row of them.
pub settle_all_keeps : (place : Place) (P : LabelData → List Put → Type 0)
    → ((old : LabelData) (puts : List Put) (fec : Fec) (new : LabelData) (more : List Put) → Turn place old fec new more → P old puts
    → P new (puts ++ more))
    → (fecs : List Fec) (old new : Stepped) → P old.part old.puts → settle_all place fecs old ≡ Some new → P new.part new.puts
settle_all_keeps place P step [] old new p e = subst (λ (s : Stepped). P s.part s.puts) (same_Some old new e) p
settle_all_keeps place P step (fec ∷ more) old new p e =
    let put = put_by fec (change_of place old.part fec) in
    let x = bind_some (changed old.part fec (change_of place old.part fec))
    (λ next. settle_all place more (record { part = next; puts = old.puts ++ put })) new e in
    settle_all_keeps place P step more (record { part = x.0; puts = old.puts ++ put }) new
    (step old.part old.puts fec x.0 put (turn place old.part fec x.0 x.1) p) x.2
