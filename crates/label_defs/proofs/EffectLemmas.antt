-- Messages, leaves and a raise leave all trees settled but those that settle then.
use Rattle.std.proofs.Common.{◌≡◌, ℕ, ◌==◌, Bool, true, false, cond, ◌&&◌, ◌||◌, inl, inr, List, [], ◌∷◌, Option, Some, None, is_some, refl, sym, ap, ◌∙◌}
use Rattle.std.specs.List.{list_any}
use Rattle.std.specs.FinMap as maps
use Rattle.std.specs.FinSet as sets
use Rattle.std.specs.FinSet.{FinSet}
use Rattle.std.proofs.lemmas.Bool.{cases_eq, or_parts}
use Rattle.std.proofs.lemmas.Option.{same_Some}
use Rattle.mldp.specs.mv_base.declared.ids.NodeId.{NodeId}
use Rattle.mldp.specs.declared.mldp_fec.fec.Fec.{Fec}
use Rattle.label_defs.specs.declared.branch.Branch.{Branch}
use Rattle.label_defs.specs.declared.end.End.{End}
use Rattle.label_defs.specs.declared.label_use.LabelUse.{LabelUse}
use Rattle.label_defs.specs.declared.label_use.LabelUse.TheVariants as uses
use Rattle.label_defs.specs.Keys.{branch_cmp}
use Rattle.label_defs.specs.LabelData.{Place, LabelData, same_fec, use_of, has_branch, has_tree, is_up}
use Rattle.label_defs.specs.Settling.{with_use}
use Rattle.label_defs.specs.Steps.{branch_to, released, with_release, raised_end}
use Rattle.label_defs.specs.Settled.{Maps, AllSettled}
use Rattle.label_defs.specs.Members.{in_order}
use Rattle.label_defs.proofs.KeyLemmas.{fec_cmp_total, fec_cmp_exact, branch_cmp_total, branch_cmp_exact, node_cmp_total, node_cmp_exact, same_fec_equal, same_fec_from, node_cases}
use Rattle.label_defs.proofs.UseLemmas.{set_here, set_there}
use Rattle.label_defs.proofs.SetLemmas.{any_as, inserted_other, removed_other, put_here, put_other}
use Rattle.label_defs.proofs.TreeLemmas.{tied, Like, like_tied, like_settled, not_both}
use Rattle.label_defs.proofs.SettleLemmas.{Good}

-- what maps and what is ready stays
pub good_from : (place : Place) (fecs : List Fec) (old new : LabelData) → ((fec : Fec) → Like old new fec)
    → ((fec : Fec) (label : ℕ) (upstream : NodeId) → Maps old fec label upstream → Maps new fec label upstream)
    → ((fec : Fec) → list_any (same_fec fec) fecs ≡ false → has_tree new fec ≡ has_tree old fec) → AllSettled place old → Good place fecs new
good_from place fecs old new like back tree all =
    record {
      tied = λ fec. like_tied place old new fec (like fec) (tied place old fec (all fec));
      settled = λ fec h. like_settled place old new fec (like fec) (back fec) (tree fec h) (all fec);
    }

apart_of : (fec other : Fec) → list_any (same_fec other) (fec ∷ []) ≡ false → other ≡ fec → ⊥
apart_of fec other h e = not_both (same_fec other fec) (same_fec_from other fec e) (or_parts (same_fec other fec) false h).0

-- ---- branches

other_branch : (branch own : Branch) (fec : Fec) → (fec ≡ branch.fec → ⊥) → same_fec own.fec fec ≡ true → own ≡ branch → ⊥
other_branch branch own fec ne h e = ne (sym (same_fec_equal own.fec fec h) ∙ ap (λ (b : Branch). b.fec) e)

any_branch : (fec : Fec) (s t : FinSet branch_cmp) → ((own : Branch) → same_fec own.fec fec ≡ true → sets.contains s own ≡ sets.contains t own)
    → list_any (λ (own : Branch). same_fec own.fec fec) (in_order s) ≡ list_any (λ (own : Branch). same_fec own.fec fec) (in_order t)
any_branch fec s t same = any_as branch_cmp_total branch_cmp_exact (λ own. same_fec own.fec fec) s t same

pub branch_added : (place : Place) (part : LabelData) (branch : Branch) → AllSettled place part
    → Good place (branch.fec ∷ []) (record part { branches = sets.insert part.branches branch })
branch_added place part branch all =
    good_from place (branch.fec ∷ []) part (record part { branches = sets.insert part.branches branch })
    (λ fec. record { maps = λ l u p. p; ready = λ node. refl; waiting = refl }) (λ fec l u p. p)
    (λ fec h. ap (λ b. b || sets.contains part.leaves fec)
    (any_branch fec (sets.insert part.branches branch) part.branches
    (λ own is. inserted_other branch_cmp_total branch_cmp_exact part.branches branch own
    (other_branch branch own fec (apart_of branch.fec fec h) is))))
    all

pub branch_dropped : (place : Place) (part : LabelData) (branch : Branch) → AllSettled place part
    → Good place (branch.fec ∷ []) (record part { branches = sets.remove part.branches branch })
branch_dropped place part branch all =
    good_from place (branch.fec ∷ []) part (record part { branches = sets.remove part.branches branch })
    (λ fec. record { maps = λ l u p. p; ready = λ node. refl; waiting = refl }) (λ fec l u p. p)
    (λ fec h. ap (λ b. b || sets.contains part.leaves fec)
    (any_branch fec (sets.remove part.branches branch) part.branches
    (λ own is. removed_other branch_cmp_total branch_cmp_exact part.branches branch own
    (other_branch branch own fec (apart_of branch.fec fec h) is))))
    all

pub nothing_changed : (place : Place) (fecs : List Fec) (part : LabelData) → AllSettled place part → Good place fecs part
nothing_changed place fecs part all =
    good_from place fecs part part (λ fec. record { maps = λ l u p. p; ready = λ node. refl; waiting = refl }) (λ fec l u p. p) (λ fec h. refl) all

pub mapping_taken : (place : Place) (part : LabelData) (from : NodeId) (fec : Fec) (label : ℕ) (is_tree : Bool) → AllSettled place part
    → Good place (fec ∷ []) (cond is_tree (record part { branches = sets.insert part.branches (branch_to from fec label) }) part)
mapping_taken place part from fec label true all = branch_added place part (branch_to from fec label) all
mapping_taken place part from fec label false all = nothing_changed place (fec ∷ []) part all

-- ---- leaves

pub leaf_added : (place : Place) (part : LabelData) (leaf : Fec) → AllSettled place part
    → Good place (leaf ∷ []) (record part { leaves = sets.insert part.leaves leaf })
leaf_added place part leaf all =
    good_from place (leaf ∷ []) part (record part { leaves = sets.insert part.leaves leaf })
    (λ fec. record { maps = λ l u p. p; ready = λ node. refl; waiting = refl }) (λ fec l u p. p)
    (λ fec h. ap (λ b. has_branch part fec || b) (inserted_other fec_cmp_total fec_cmp_exact part.leaves leaf fec (apart_of leaf fec h))) all

pub leaf_dropped : (place : Place) (part : LabelData) (leaf : Fec) → AllSettled place part
    → Good place (leaf ∷ []) (record part { leaves = sets.remove part.leaves leaf })
leaf_dropped place part leaf all =
    good_from place (leaf ∷ []) part (record part { leaves = sets.remove part.leaves leaf })
    (λ fec. record { maps = λ l u p. p; ready = λ node. refl; waiting = refl }) (λ fec l u p. p)
    (λ fec h. ap (λ b. has_branch part fec || b) (removed_other fec_cmp_total fec_cmp_exact part.leaves leaf fec (apart_of leaf fec h))) all

-- ---- a raise

-- whether the end is there and its hold was run
abbrev pub held : Option End → Bool
held None = false
held (Some end) = end.held

not_up : (o : Option End) → is_some o ≡ false → held o ≡ false
not_up None e = refl
not_up (Some end) e = absurd cc

pub raised : (place : Place) (part : LabelData) (peer : NodeId) (now : ℕ) → is_up part peer ≡ false → AllSettled place part
    → Good place [] (record part { ends = maps.insert part.ends peer (raised_end now) })
raised place part peer now down all =
    let end : End = raised_end now in
    let new : LabelData = record part { ends = maps.insert part.ends peer end } in
    good_from place [] part new
    (λ fec. record {
      maps = λ l u p. p;
      ready = λ node. elim (node_cases node peer) [
        | inl e ↦ ap held (ap (maps.get (maps.insert part.ends peer end)) e ∙ put_here node_cmp_total node_cmp_exact part.ends peer end)
            ∙ sym (ap (λ x. held (maps.get part.ends x)) e ∙ not_up (maps.get part.ends peer) down)
        | inr ne ↦ ap held (put_other node_cmp_total node_cmp_exact part.ends peer end node ne)
      ];
      waiting = refl;
    }) (λ fec l u p. p) (λ fec h. refl) all

-- ---- a release

-- a release maps nothing, and unmaps nothing
pub released_maps : (from : NodeId) (fec own : Fec) (until : ℕ) (usage : LabelUse) (u : NodeId) → released from fec until usage ≡ uses.Mapped own u
    → usage ≡ uses.Mapped own u
released_maps from fec own until uses.Free u e = e
released_maps from fec own until (uses.Mapped f v) u e = e
released_maps from fec own until (uses.Resting moment) u e = e
released_maps from fec own until (uses.Leaving f v) u e = by (same_fec f fec && v.0 == from.0) e
  where
    by : (t : Bool) → cond t (uses.Resting until) (uses.Leaving f v) ≡ uses.Mapped own u → uses.Leaving f v ≡ uses.Mapped own u
    by true e = absurd cc
    by false e = e

release_by : (place : Place) (part : LabelData) (from : NodeId) (fec : Fec) (label until : ℕ) (old : LabelUse) → use_of part label ≡ Some old
    → AllSettled place part → Good place [] (with_use part label (released from fec until old))
release_by place part from fec label until old is all =
    let new : LabelData = with_use part label (released from fec until old) in
    good_from place [] part new
    (λ own. record {
      maps = λ l u p. elim (cases_eq l label) [
        | inl e ↦ ap (use_of part) e ∙ is ∙ ap (λ (x : LabelUse). Some x)
            (released_maps from fec own until old u (same_Some (released from fec until old) (uses.Mapped own u)
            (sym (set_here part label old (released from fec until old) is) ∙ ap (use_of new) (sym e) ∙ p)))
        | inr ne ↦ sym (set_there part label old (released from fec until old) l is ne) ∙ p
      ];
      ready = λ node. refl;
      waiting = refl;
    })
    (λ own l u p. elim (cases_eq l label) [
      | inl e ↦
          let same : old ≡ uses.Mapped own u = same_Some old (uses.Mapped own u) (sym is ∙ ap (use_of part) (sym e) ∙ p) in
          ap (use_of new) e ∙ set_here part label old (released from fec until old) is ∙ ap (λ (x : LabelUse). Some (released from fec until x)) same
      | inr ne ↦ set_there part label old (released from fec until old) l is ne ∙ p
    ])
    (λ own h. refl) all

pub release_taken : (place : Place) (part : LabelData) (from : NodeId) (fec : Fec) (label until : ℕ) → AllSettled place part
    → Good place [] (with_release part from fec label until)
release_taken place part from fec label until all = by (use_of part label) refl
  where
    by : (o : Option LabelUse) → use_of part label ≡ o
        → Good place [] (elim o [ None ↦ part | Some usage ↦ with_use part label (released from fec until usage) ])
    by None e = nothing_changed place [] part all
    by (Some old) e = release_by place part from fec label until old e all
