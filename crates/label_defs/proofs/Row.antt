-- A tree that a leaf wants is mapped hop by hop to its root.
use Rattle.std.proofs.Common.{◌≡◌, ℕ, ◌+◌, ◌-◌, ◌≤◌, zero, suc, slice_get, true, ◌++◌, List, [], ◌∷◌, replicate, position, nat_lt, length, Option, Some, None, option_map, refl, sym, ap, ◌∙◌, arith}
use Rattle.std.specs.FinMap as maps
use Rattle.std.specs.FinSet as sets
use Rattle.std.proofs.lemmas.Bool.{or_left, or_right, cond-true, lt-ltb}
use Rattle.mldp.specs.mv_base.Number.{◌>>?◌}
use Rattle.mldp.specs.mv_base.declared.ids.NodeId.{NodeId}
use Rattle.mldp.specs.declared.mldp_fec.fec.Fec.{Fec}
use Rattle.mldp.specs.declared.mldp_msgs.message.LabelMessage.TheVariants as messages
use Rattle.label_defs.specs.declared.branch.Branch.{Branch}
use Rattle.label_defs.specs.declared.label_use.LabelUse.{LabelUse}
use Rattle.label_defs.specs.declared.label_use.LabelUse.TheVariants as uses
use Rattle.label_defs.specs.declared.change.Change.{Change}
use Rattle.label_defs.specs.declared.change.Change.TheVariants as changes
use Rattle.label_defs.specs.LabelData.{Place, LabelData, fresh, same_fec, use_of, is_free, free_label, mapped_label, has_branch, has_tree, is_ready}
use Rattle.label_defs.specs.Settling.{with_use, upstream_of, is_ready_to, change_by, change_of, changed, put_by, settle_all}
use Rattle.label_defs.specs.Steps.{branch_to, counted}
use Rattle.label_defs.specs.Row.{root_node, core_node, leaf_node, towards, joined_to, LeafToRoot}
use Rattle.label_defs.proofs.KeyLemmas.{fec_cmp_total, fec_cmp_exact, branch_cmp_total, branch_cmp_exact, node_cmp_total, node_cmp_exact, same_fec_itself}
use Rattle.label_defs.proofs.UseLemmas.{used_some, mapped_some}
use Rattle.label_defs.proofs.SetLemmas.{member_passes, inserted_here, put_here}
use Rattle.label_defs.proofs.EffectLemmas.{held}
use Rattle.label_defs.proofs.StepLemmas.{all_free}

-- a node with free labels alone has none mapped
none_mapped : (part : LabelData) (count : ℕ) (fec : Fec) → part.labels ≡ replicate count uses.Free → mapped_label part fec ≡ None
none_mapped part count fec e = by (mapped_label part fec) refl
  where
    by : (o : Option ℕ) → mapped_label part fec ≡ o → o ≡ None
    by None h = refl
    by (Some label) h =
        let x = mapped_some part fec label h in
        let y = used_some part.labels label (uses.Mapped fec x.0) x.1 in
        let free = all_free count (label - 16) (uses.Mapped fec x.0) (ap (λ (labels : List LabelUse). slice_get labels (label - 16)) (sym e) ∙ y.1) in
        absurd cc

-- and its first is the least free one
first_free : (more : ℕ) → position is_free (replicate (suc more) uses.Free) ≡ Some 0
first_free more =
    cond-true (nat_lt 0 (length (uses.Free ∷ replicate more uses.Free))) (Some 0) None
    (lt-ltb 0 (length (uses.Free ∷ replicate more uses.Free)) (omega arith))

-- a tree that needs a label gets the least free one
maps_first : (place : Place) (part : LabelData) (fec : Fec) (to : NodeId) (label : ℕ) → has_tree part fec ≡ true → mapped_label part fec ≡ None
    → place.upstream fec ≡ Some to → is_ready part to ≡ true → free_label part ≡ Some label
    → settle_all place (fec ∷ []) (record { part = part; puts = [] })
    ≡ Some (record {
      part = record (with_use part label (uses.Mapped fec to)) { waiting = sets.remove part.waiting fec };
      puts =
          record { to = to; message = messages.Mapping fec label } ∷ [];
    })
maps_first place part fec to label tree none up ready free =
    let need : change_of place part fec ≡ changes.Map to label =
    λ i. change_by (tree i) (none i) (none i >>? λ label. upstream_of (use_of part label)) (up i) ((ap (is_ready_to part) up ∙ ready) i) (free i) in
    ap (λ (change : Change). changed part fec change >>? λ new. Some (record { part = new; puts = [] ++ put_by fec change })) need

-- a tree at its root needs none
keeps_root : (place : Place) (part : LabelData) (fec : Fec) → has_tree part fec ≡ true → mapped_label part fec ≡ None → place.upstream fec ≡ None
    → settle_all place (fec ∷ []) (record { part = part; puts = [] })
    ≡ Some (record { part = record part { waiting = sets.remove part.waiting fec }; puts = [] })
keeps_root place part fec tree none up =
    let need : change_of place part fec ≡ changes.Cancel =
    λ i. change_by (tree i) (none i) (none i >>? λ label. upstream_of (use_of part label)) (up i) (is_ready_to part (up i)) (free_label part) in
    ap (λ (change : Change). changed part fec change >>? λ new. Some (record { part = new; puts = [] ++ put_by fec change })) need

-- the node with one branch more has its tree
has_added : (part : LabelData) (branch : Branch) → has_tree (record part { branches = sets.insert part.branches branch }) branch.fec ≡ true
has_added part branch =
    or_left (has_branch (record part { branches = sets.insert part.branches branch }) branch.fec) (sets.contains part.leaves branch.fec)
    (member_passes branch_cmp_total branch_cmp_exact (λ own. same_fec own.fec branch.fec) (sets.insert part.branches branch) branch
    (inserted_here branch_cmp_total branch_cmp_exact part.branches branch) (same_fec_itself branch.fec))

has_wanted : (part : LabelData) (fec : Fec) → has_tree (record part { leaves = sets.insert part.leaves fec }) fec ≡ true
has_wanted part fec =
    or_right (has_branch part fec) (sets.contains (sets.insert part.leaves fec) fec) (inserted_here fec_cmp_total fec_cmp_exact part.leaves fec)

-- a session whose hold was run is ready
ready_first : (part : LabelData) (peer : NodeId) (raised : ℕ)
    → is_ready (record part { ends = maps.insert part.ends peer (record { raised = raised; held = true; next = 1 }) }) peer ≡ true
ready_first part peer raised = ap held (put_here node_cmp_total node_cmp_exact part.ends peer (record { raised = raised; held = true; next = 1 }))

leaf_reaches_root : (life now raised more : ℕ) (fec : Fec) → LeafToRoot life now raised (suc more) fec
leaf_reaches_root life now raised more fec =
    let at_leaf : LabelData = joined_to (suc more) raised (core_node ∷ []) in
    let wanted : LabelData = record at_leaf { leaves = sets.insert at_leaf.leaves fec } in
    let at_core : LabelData = joined_to (suc more) raised (root_node ∷ leaf_node ∷ []) in
    let branched : LabelData = record at_core { branches = sets.insert at_core.branches (branch_to leaf_node fec 16) } in
    let rooted : LabelData = record at_leaf { branches = sets.insert at_leaf.branches (branch_to core_node fec 16) } in
    let free = ap (option_map (λ place. 16 + place)) (first_free more) in
    let leaf =
    maps_first (towards life (Some core_node)) wanted fec core_node 16 (has_wanted at_leaf fec) (none_mapped wanted (suc more) fec refl) refl
    (ready_first (fresh (suc more)) core_node raised) free in
    let core =
    maps_first (towards life (Some root_node)) branched fec root_node 16 (has_added at_core (branch_to leaf_node fec 16))
    (none_mapped branched (suc more) fec refl) refl (ready_first (joined_to (suc more) raised (leaf_node ∷ [])) root_node raised) free in
    let root =
    keeps_root (towards life None) rooted fec (has_added at_leaf (branch_to core_node fec 16)) (none_mapped rooted (suc more) fec refl) refl in
    record {
      leaf = _;
      core = _;
      root = _;
      wants = ap (option_map counted) leaf;
      from_leaf = refl;
      takes = ap (option_map counted) core;
      from_core = refl;
      to_leaf = inserted_here branch_cmp_total branch_cmp_exact at_core.branches (branch_to leaf_node fec 16);
      ends = ap (option_map counted) root;
      from_root = refl;
      to_core = inserted_here branch_cmp_total branch_cmp_exact at_leaf.branches (branch_to core_node fec 16);
    }

pub row_of_three : (life now raised count : ℕ) (fec : Fec) → 1 ≤ count → LeafToRoot life now raised count fec
row_of_three life now raised zero fec some = absurd (omega (arith, some))
row_of_three life now raised (suc more) fec some = leaf_reaches_root life now raised more fec
