-- The label part of a node after a change of one of its trees.
use Rattle.std.proofs.Common.{◌≡◌, ℕ, ◌||◌, ◌&&◌, not, Bool, true, false, cond, List, [], ◌∷◌, ◌++◌, Option, Some, None, Result, Ok, Err, OnOk, is_some, ◌⊎◌, inl, inr, refl, sym, ap, subst, ◌∙◌}
use Rattle.std.specs.FinMap as maps
use Rattle.std.specs.FinMap.{FinMap}
use Rattle.std.specs.FinSet as sets
use Rattle.std.proofs.lemmas.List.{append-nil}
use Rattle.std.specs.Ordering.{eq_by_cmp}
use Rattle.mv_base.specs.declared.ids.NodeId.{NodeId}
use Rattle.mv_base.specs.Number.{◌>>?◌}
use Rattle.mldp.specs.declared.mldp_fec.fec.Fec.{Fec}
use Rattle.label_defs.specs.declared.put.Put.{Put}
use Rattle.label_defs.specs.Keys.{fec_cmp, node_cmp}
use Rattle.label_defs.proofs.KeyLemmas.{fec_cmp_total, fec_cmp_exact}
use Rattle.label_defs.specs.Settling.{change_by, holder_of, is_ready_to, upstream_of, withdrawn, same_neighbour}
use Rattle.label_defs.specs.LabelData.{LabelData, use_of, has_tree, free_label}
use Rattle.label_defs.specs.declared.change.Change.{Change}
use Rattle.label_defs.specs.declared.change.Change.TheVariants as changes
use Rattle.label_defs.specs.declared.end.End.{End}
use Rattle.label_defs.specs.declared.label_use.LabelUse.TheVariants as uses
use Rattle.mldp.specs.declared.mldp_msgs.message.LabelMessage.TheVariants as messages
use Rattle.label_trees.specs.label_forwarding.FibData.{is_on}
use Rattle.label_trees.specs.label_uses.Uses.{with_mapped, set_use, use_in, free_in, mapped_in}
use Rattle.label_trees.specs.Trees.{Trees, fib_with}
use Rattle.mldp_node.specs.Parts.{awaited, part_of, after_change, waiting_by, change_toward, Turned, SettledSo}

-- ---- the trees that wait

pub awaited_is : (m : FinMap fec_cmp NodeId) (q : Fec) → sets.contains (awaited m) q ≡ maps.contains_key m q
awaited_is m q = sets.contains-from_list fec_cmp_total (maps.keys m) q ∙ sym (maps.contains_key-keys m q)

some_or : (t : Bool) (x : NodeId) (o : Option NodeId) → is_some (cond t (Some x) o) ≡ (t || is_some o)
some_or true x o = refl
some_or false x o = refl

none_and : (t : Bool) (o : Option NodeId) → is_some (cond t None o) ≡ (not t && is_some o)
none_and true o = refl
none_and false o = refl

pub awaited_more : (m : FinMap fec_cmp NodeId) (fec : Fec) (x : NodeId) → awaited (maps.insert m fec x) ≡ sets.insert (awaited m) fec
awaited_more m fec x = sets.same_set fec_cmp_total fec_cmp_exact _ _ (λ q.
    awaited_is (maps.insert m fec x) q ∙ ap is_some (maps.get-insert fec_cmp_total m fec x q) ∙ some_or (eq_by_cmp fec_cmp q fec) x (maps.get m q)
    ∙ ap (λ b. eq_by_cmp fec_cmp q fec || b) (sym (awaited_is m q)) ∙ sym (sets.contains-insert fec_cmp_total (awaited m) fec q))

pub awaited_less : (m : FinMap fec_cmp NodeId) (fec : Fec) → awaited (maps.remove m fec) ≡ sets.remove (awaited m) fec
awaited_less m fec = sets.same_set fec_cmp_total fec_cmp_exact _ _ (λ q.
    awaited_is (maps.remove m fec) q ∙ ap is_some (maps.get-remove fec_cmp_total m fec q) ∙ none_and (eq_by_cmp fec_cmp q fec) (maps.get m q)
    ∙ ap (λ b. not (eq_by_cmp fec_cmp q fec) && b) (sym (awaited_is m q)) ∙ sym (sets.contains-remove fec_cmp_total (awaited m) fec q))

-- ---- one change

pub waited : (old new : Trees) (puts : List Put) (fec : Fec) (x : NodeId)
    → new ≡ record old { uses = record old.uses { waiting = maps.insert old.uses.waiting fec x } }
    → Turned (Some x) fec changes.Wait old puts new puts
waited old new puts fec x e = subst (λ (t : Trees). Turned (Some x) fec changes.Wait old puts t puts) (sym e) (record {
  made = λ up i. Some (record {
    part = record {
      labels = old.uses.labels;
      branches = old.branches;
      leaves = old.leaves;
      waiting =
          sym (awaited_more old.uses.waiting fec x) i;
      ends = up;
    };
    puts = append-nil puts i;
  });
  waiting = refl;
  sessions = refl;
  life = refl;
})

pub waited_if : {E : Type 0} (r : Result (Unit {0}) E) (old new : Trees) (puts : List Put) (fec : Fec) (x : NodeId)
    → OnOk r (new ≡ record old { uses = record old.uses { waiting = maps.insert old.uses.waiting fec x } })
    → OnOk r (Turned (Some x) fec changes.Wait old puts new puts)
waited_if (Ok y) old new puts fec x e = waited old new puts fec x e
waited_if (Err y) old new puts fec x e = tt

pub cancelled : (upstream : Option NodeId) (old new : Trees) (puts : List Put) (fec : Fec)
    → new ≡ record old { uses = record old.uses { waiting = maps.remove old.uses.waiting fec } }
    → Turned upstream fec changes.Cancel old puts new puts
cancelled upstream old new puts fec e = subst (λ (t : Trees). Turned upstream fec changes.Cancel old puts t puts) (sym e) (record {
  made = λ up i. Some (record {
    part = record {
      labels = old.uses.labels;
      branches = old.branches;
      leaves = old.leaves;
      waiting =
          sym (awaited_less old.uses.waiting fec) i;
      ends = up;
    };
    puts = append-nil puts i;
  });
  waiting = refl;
  sessions = refl;
  life = refl;
})

got : (old new : Trees) (puts told : List Put) (fec : Fec) (upstream : NodeId) (label : ℕ)
    → new ≡ record old { uses = with_mapped old.uses (Some label) fec upstream }
    → told ≡ puts ++ record { to = upstream; message = messages.Mapping fec label } ∷ []
    → Turned (Some upstream) fec (changes.Map upstream label) old puts new told
got old new puts told fec upstream label e p =
    subst (λ (t : Trees). Turned (Some upstream) fec (changes.Map upstream label) old puts t told) (sym e) (record {
      made = λ up i. Some (record {
        part = record {
          labels = set_use old.uses.labels label (uses.Mapped fec upstream);
          branches = old.branches;
          leaves = old.leaves;
          waiting =
              sym (awaited_less old.uses.waiting fec) i;
          ends = up;
        };
        puts = sym p i;
      });
      waiting = refl;
      sessions = refl;
      life = refl;
    })

pub mapped_to : (old new : Trees) (puts told : List Put) (fec : Fec) (upstream : NodeId) (found : Option ℕ) (label : ℕ)
    → found ≡ free_in old.uses.labels → found ≡ Some label
    → new ≡ record old { uses = with_mapped old.uses found fec upstream }
    → told ≡ puts ++ record { to = upstream; message = messages.Mapping fec label } ∷ []
    → Turned (Some upstream) fec (change_by true None None (Some upstream) true (free_in old.uses.labels)) old puts new told
mapped_to old new puts told fec upstream found label free is e p =
    subst (λ (o : Option ℕ). Turned (Some upstream) fec (change_by true None None (Some upstream) true o) old puts new told) (sym is ∙ free)
    (got old new puts told fec upstream label (e ∙ ap (λ (o : Option ℕ). record old { uses = with_mapped old.uses o fec upstream }) is) p)

-- ---- a tree without a label

-- whether the node is on the tree
pub on_part : (trees : Trees) (up : FinMap node_cmp End) (fec : Fec) → is_on (fib_with maps.empty trees) fec ≡ has_tree (part_of trees up) fec
on_part trees up fec = refl

no_upstream : (on : Bool) (holder : Option NodeId) (ready : Bool) (free : Option ℕ) → change_by on None holder None ready free ≡ changes.Cancel
no_upstream true holder ready free = refl
no_upstream false holder ready free = refl

so_toward : (upstream : Option NodeId) (fec : Fec) (up : FinMap node_cmp End) (old new : Trees) (puts told : List Put) (change : Change)
    → change_toward upstream (part_of old up) fec ≡ change → Turned upstream fec change old puts new told
    → SettledSo upstream fec up old puts new told
so_toward upstream fec up old new puts told change e h = record {
  made = ap (λ (c : Change). after_change (record { part = part_of old up; puts = puts }) fec c) e ∙ h.made up;
  waiting = h.waiting ∙ sym (ap (λ (c : Change). waiting_by upstream fec c old.uses.waiting) e);
  sessions = h.sessions;
  life = h.life;
}

pub rootless : (fec : Fec) (up : FinMap node_cmp End) (old new : Trees) (puts told : List Put) (upstream : Option NodeId) → upstream ≡ None
    → mapped_in old.uses.labels fec ≡ None
    → Turned upstream fec changes.Cancel old puts new told → SettledSo upstream fec up old puts new told
rootless fec up old new puts told upstream nowhere none h =
    let part : LabelData = part_of old up in
    let e : change_toward upstream part fec ≡ changes.Cancel =
    (λ i. change_by (has_tree part fec) (none i) (holder_of part fec) (nowhere i) (is_ready_to part (nowhere i)) (free_label part))
    ∙ no_upstream (has_tree part fec) (holder_of part fec) false (free_label part) in
    so_toward upstream fec up old new puts told changes.Cancel e h

pub treeless : (fec : Fec) (up : FinMap node_cmp End) (old new : Trees) (puts told : List Put) (upstream : Option NodeId)
    → has_tree (part_of old up) fec ≡ false → mapped_in old.uses.labels fec ≡ None
    → Turned upstream fec changes.Cancel old puts new told → SettledSo upstream fec up old puts new told
treeless fec up old new puts told upstream off none h =
    let part : LabelData = part_of old up in
    let e : change_toward upstream part fec ≡ changes.Cancel =
    (λ i. change_by (off i) (none i) (holder_of part fec) upstream (is_ready_to part upstream) (free_label part)) in
    so_toward upstream fec up old new puts told changes.Cancel e h

-- ---- a tree with a label

-- the node is not on the tree, or the label is mapped towards another neighbour than its root
off_change : (t : Bool) (label : ℕ) (holder upstream : Option NodeId) (ready : Bool) (free : Option ℕ)
    → (t ≡ false) ⊎ (same_neighbour holder upstream ≡ false) → change_by t (Some label) holder upstream ready free ≡ withdrawn label holder
off_change false label holder upstream ready free off = refl
off_change true label holder upstream ready free (inl e) = absurd cc
off_change true label holder upstream ready free (inr e) = ap (λ (b : Bool). cond b changes.Keep (withdrawn label holder)) e

pub moved_off : (fec : Fec) (label : ℕ) (up : FinMap node_cmp End) (old new : Trees) (puts told : List Put) (upstream : Option NodeId)
    → mapped_in old.uses.labels fec ≡ Some label
    → (has_tree (part_of old up) fec ≡ false) ⊎ (same_neighbour (upstream_of (use_in old.uses.labels label)) upstream ≡ false)
    → Turned upstream fec (withdrawn label (upstream_of (use_in old.uses.labels label))) old puts new told
    → SettledSo upstream fec up old puts new told
moved_off fec label up old new puts told upstream is off h =
    let part : LabelData = part_of old up in
    let e : change_toward upstream part fec ≡ withdrawn label (upstream_of (use_in old.uses.labels label)) =
    (λ i. change_by (has_tree part fec) (is i) (is i >>? λ own. upstream_of (use_of part own)) upstream (is_ready_to part upstream)
    (free_label part))
    ∙ off_change (has_tree part fec) label (upstream_of (use_in old.uses.labels label)) upstream (is_ready_to part upstream) (free_label part) off in
    so_toward upstream fec up old new puts told (withdrawn label (upstream_of (use_in old.uses.labels label))) e h
