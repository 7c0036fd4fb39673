-- A growing node stays so as its trees settle one after another, and each of them gets the label that it needs.
use Rattle.std.proofs.Common.{◌≡◌, ℕ, ◌-◌, ◌<◌, true, List, [], ◌∷◌, ◌++◌, length, slice_set, Option, Some, None, ◌⊎◌, inl, inr, refl, sym, ap, subst, ◌∙◌}
use Rattle.std.specs.List.{AllByRecursion}
use Rattle.std.proofs.lemmas.Bool.{cases_eq}
use Rattle.std.proofs.lemmas.List.{length-set}
use Rattle.std.proofs.lemmas.Option.{same_Some}
use Rattle.mv_base.specs.Lists.{Among}
use Rattle.mv_base.specs.Number.{◌>>?◌}
use Rattle.mv_base.specs.declared.ids.NodeId.{NodeId}
use Rattle.mldp.specs.declared.mldp_fec.fec.Fec.{Fec}
use Rattle.label_defs.specs.declared.label_use.LabelUse.{LabelUse}
use Rattle.label_defs.specs.declared.label_use.LabelUse.TheVariants as uses
use Rattle.label_defs.specs.declared.put.Put.{Put}
use Rattle.label_defs.specs.LabelData.{Place, LabelData, use_of, has_tree}
use Rattle.label_defs.specs.Settling.{Stepped, change_of, changed, put_by, settle_all}
use Rattle.label_defs.specs.Settled.{Maps}
use Rattle.label_defs.proofs.UseLemmas.{set_here, set_there, mapped_none}
use Rattle.label_defs.proofs.MappingLemmas.{same_uses}
use Rattle.label_defs.proofs.OwnLemmas.{rest_tree}
use Rattle.label_defs.proofs.TreeLemmas.{one_tree}
use Rattle.label_defs.proofs.TurnLemmas.{Turn, Quiet, Takes, Gives, on_it, turn}
use Rattle.label_defs.proofs.LackLemmas.{stuck}
use Rattle.growth_laws.specs.Labels.{IsFreeOrMaps, Growing, IsMappingOf}
use Rattle.growth_laws.proofs.Counts.{never_full}

abbrev pub AreMappings : List Fec → List Put → Type 0
AreMappings trees puts = AllByRecursion (λ (put : Put). IsMappingOf trees put.message) puts

pub mappings_append : (trees : List Fec) (puts more : List Put) → AreMappings trees puts → AreMappings trees more → AreMappings trees (puts ++ more)
mappings_append trees [] more h k = k
mappings_append trees (put ∷ puts) more h k = (h.0, mappings_append trees puts more h.1 k)

-- the same labels, and more trees that are among these
pub alike_grows : (place : Place) (trees : List Fec) (old new : LabelData) → length new.labels ≡ length old.labels
    → ((label : ℕ) → use_of new label ≡ use_of old label)
    → ((fec : Fec) → has_tree old fec ≡ true → has_tree new fec ≡ true) → ((fec : Fec) → has_tree new fec ≡ true → Among fec trees)
    → Growing place trees old → Growing place trees new
alike_grows place trees old new long same grows within g =
    record {
      room = subst (λ n. length trees < n) (sym long) g.room;
      within = within;
      used = λ label usage e. g.used label usage (sym (same label) ∙ e);
      one = λ fec i j u v p q. g.one fec i j u v (sym (same i) ∙ p) (sym (same j) ∙ q);
      toward = λ fec i u p. g.toward fec i u (sym (same i) ∙ p);
      needed = λ fec i u p. grows fec (g.needed fec i u (sym (same i) ∙ p));
    }

-- ---- a label that is mapped

module _ (place : Place) (trees : List Fec) (old new : LabelData) (fec : Fec) (puts : List Put) (g : Growing place trees old)
    (tree : (own : Fec) → has_tree new own ≡ has_tree old own) (t : Takes place old fec new puts) where
  abbrev label : ℕ
  label = t.label

  here : use_of new label ≡ Some (uses.Mapped fec t.to)
  here = same_uses old new (slice_set old.labels (label - 16) (uses.Mapped fec t.to)) t.labels label
      ∙ set_here old label uses.Free (uses.Mapped fec t.to) t.least.free

  there : (k : ℕ) → (k ≡ label → ⊥) → use_of new k ≡ use_of old k
  there k ne =
      same_uses old new (slice_set old.labels (label - 16) (uses.Mapped fec t.to)) t.labels k
      ∙ set_there old label uses.Free (uses.Mapped fec t.to) k t.least.free ne

  -- what is mapped now was so before, or is the tree
  record Now (own : Fec) (k : ℕ) (u : NodeId) : Type 0 where
    at : k ≡ label
    is : fec ≡ own
    to : t.to ≡ u

  what : (own : Fec) (k : ℕ) (u : NodeId) → Maps new own k u → Now own k u ⊎ Maps old own k u
  what own k u p = elim (cases_eq k label) [
    | inl e ↦
        let both = one_tree fec own t.to u (same_Some (uses.Mapped fec t.to) (uses.Mapped own u) (sym (ap (use_of new) e ∙ here) ∙ p)) in
        inl (record { at = e; is = both.0; to = both.1 })
    | inr ne ↦ inr (sym (there k ne) ∙ p)
  ]

  not_yet : (own : Fec) (k : ℕ) (u : NodeId) → fec ≡ own → Maps old own k u → ⊥
  not_yet own k u e p = mapped_none old fec t.unmapped k u (subst (λ (x : Fec). Maps old x k u) (sym e) p)

  one_now : (own : Fec) (i j : ℕ) (u v : NodeId) → Now own i u ⊎ Maps old own i u → Now own j v ⊎ Maps old own j v → i ≡ j
  one_now own i j u v (inl a) (inl b) = a.at ∙ sym b.at
  one_now own i j u v (inl a) (inr q) = absurd (not_yet own j v a.is q)
  one_now own i j u v (inr p) (inl b) = absurd (not_yet own i u b.is p)
  one_now own i j u v (inr p) (inr q) = g.one own i j u v p q

  toward_now : (own : Fec) (k : ℕ) (u : NodeId) → Now own k u ⊎ Maps old own k u → place.upstream own ≡ Some u
  toward_now own k u (inl a) = ap place.upstream (sym a.is) ∙ t.toward ∙ ap (λ (x : NodeId). Some x) a.to
  toward_now own k u (inr p) = g.toward own k u p

  needed_now : (own : Fec) (k : ℕ) (u : NodeId) → Now own k u ⊎ Maps old own k u → has_tree new own ≡ true
  needed_now own k u (inl a) = tree own ∙ ap (has_tree old) (sym a.is) ∙ t.tree
  needed_now own k u (inr p) = tree own ∙ g.needed own k u p

  used_now : (k : ℕ) (usage : LabelUse) → use_of new k ≡ Some usage → IsFreeOrMaps trees usage
  used_now k usage e = elim (cases_eq k label) [
    | inl is ↦ subst (IsFreeOrMaps trees) (same_Some (uses.Mapped fec t.to) usage (sym (ap (use_of new) is ∙ here) ∙ e)) (g.within fec t.tree)
    | inr ne ↦ g.used k usage (sym (there k ne) ∙ e)
  ]

  mapped_grows : Growing place trees new
  mapped_grows = record {
    room = subst (λ n. length trees < n) (sym (ap length t.labels ∙ length-set old.labels (label - 16) (uses.Mapped fec t.to))) g.room;
    within = λ own h. g.within own (sym (tree own) ∙ h);
    used = used_now;
    one = λ own i j u v p q. one_now own i j u v (what own i u p) (what own j v q);
    toward = λ own i u p. toward_now own i u (what own i u p);
    needed = λ own i u p. needed_now own i u (what own i u p);
  }

-- ---- a turn

-- after a turn the node is still growing, and what is put is mappings
turn_grows : (place : Place) (trees : List Fec) (old : LabelData) (fec : Fec) (new : LabelData) (puts : List Put) → Growing place trees old
    → Turn place old fec new puts → Growing place trees new × AreMappings trees puts × (length new.labels ≡ length old.labels)
turn_grows place trees old fec new puts g t = by t.how
  where
    tree : (own : Fec) → has_tree new own ≡ has_tree old own
    tree own = rest_tree old new t.rest own

    by : Quiet place old fec new puts ⊎ (Takes place old fec new puts ⊎ Gives place old fec new puts)
        → Growing place trees new × AreMappings trees puts × (length new.labels ≡ length old.labels)
    by (inl q) = (
      alike_grows place trees old new (ap length q.labels) (λ label. same_uses old new old.labels q.labels label) (λ own h. tree own ∙ h)
          (λ own h. g.within own (sym (tree own) ∙ h)) g,
      subst (AreMappings trees) (sym q.silent) tt,
      ap length q.labels,
    )
    by (inr (inl takes)) = (
      mapped_grows place trees old new fec puts g tree takes,
      subst (AreMappings trees) (sym takes.put) (g.within fec takes.tree, tt),
      ap length takes.labels ∙ length-set old.labels (takes.label - 16) (uses.Mapped fec takes.to),
    )
    by (inr (inr gives)) =
        absurd (on_it place old fec gives.to (g.needed fec gives.label gives.to gives.was) (g.toward fec gives.label gives.to gives.was) gives.off)

-- ---- a row of turns

pub record Settles (place : Place) (trees : List Fec) (fecs : List Fec) (old : Stepped) : Type 0 where
  pub new : Stepped
  pub is : settle_all place fecs old ≡ Some new
  pub growing : Growing place trees new.part
  pub many : length new.part.labels ≡ length old.part.labels
  pub puts : AreMappings trees new.puts

pub settles : (place : Place) (trees fecs : List Fec) (old : Stepped) → Growing place trees old.part → AreMappings trees old.puts
    → Settles place trees fecs old
settles place trees [] old g m = record { new = old; is = refl; growing = g; many = refl; puts = m }
settles place trees (fec ∷ more) old g m =
    by (changed old.part fec (change_of place old.part fec)) refl
    (λ next. settles place trees more (record { part = next; puts = old.puts ++ put_by fec (change_of place old.part fec) }))
  where
    by : (o : Option LabelData) → changed old.part fec (change_of place old.part fec) ≡ o
        → ((next : LabelData) → Growing place trees next → AreMappings trees (old.puts ++ put_by fec (change_of place old.part fec))
        → Settles place trees more (record { part = next; puts = old.puts ++ put_by fec (change_of place old.part fec) }))
        → Settles place trees (fec ∷ more) old
    by None e rest = absurd (never_full place trees old.part g (stuck place old.part fec e).none)
    by (Some next) e rest =
        let put = put_by fec (change_of place old.part fec) in
        let grows = turn_grows place trees old.part fec next put g (turn place old.part fec next e) in
        let thereafter = rest next grows.0 (mappings_append trees old.puts put m grows.1) in
        record {
          new = thereafter.new;
          is = ap (λ (o : Option LabelData). o >>? λ new. settle_all place more (record { part = new; puts = old.puts ++ put })) e ∙ thereafter.is;
          growing = thereafter.growing;
          many = thereafter.many ∙ grows.2;
          puts = thereafter.puts;
        }
