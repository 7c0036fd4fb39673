-- The label part of a node as plain data, and what is read from it.
use Rattle.std.specs.Prelude.{◌≡◌, ◌⊎◌, ℕ, ◌+◌, ◌-◌, ◌||◌, ◌&&◌, Bool, true, false, not, nat_le, nat_lt, if◌then◌else◌}
use Rattle.std.specs.Prelude.{List, [], ◌∷◌, ◌++◌, map, replicate, slice_get, position, count_by, Option, None, Some, option_map, is_some}
use Rattle.std.specs.List.{filter, list_any}
use Rattle.std.specs.Ordering.{eq_by_cmp}
use Rattle.std.specs.FinMap as maps
use Rattle.std.specs.FinMap.{FinMap}
use Rattle.std.specs.FinSet as sets
use Rattle.std.specs.FinSet.{FinSet}
use Rattle.mldp.specs.mv_base.declared.ids.NodeId.{NodeId}
use Rattle.mldp.specs.declared.mldp_fec.fec.Fec.{Fec}
use Rattle.label_defs.specs.declared.branch.Branch.{Branch}
use Rattle.label_defs.specs.declared.end.End.{End}
use Rattle.label_defs.specs.declared.label_use.LabelUse.{LabelUse}
use Rattle.label_defs.specs.declared.label_use.LabelUse.TheVariants as uses
use Rattle.label_defs.specs.Keys.{fec_cmp, branch_cmp, node_cmp}
use Rattle.label_defs.specs.Members.{in_order}

-- A node's place in the network: how long a copy may be on a link, which FECs are those of trees (they are P2MP, and their
-- root is the address of a node), and the neighbour towards the root of a tree, none at the root itself.
pub record Place : Type 0 where
  pub life : ℕ
  pub is_tree : Fec → Bool
  pub upstream : Fec → Option NodeId

-- The label part of a node: what each label is used for, from label 16 on; the branches of its trees; the trees of which
-- it is a leaf; the trees whose binding waits; and the ends of its LDP sessions that are up, by neighbour, each with the id of
-- its next message.
pub record LabelData : Type 0 where
  pub labels : List LabelUse
  pub branches : FinSet branch_cmp
  pub leaves : FinSet fec_cmp
  pub waiting : FinSet fec_cmp
  pub ends : FinMap node_cmp End

-- a node in which nothing has happened, with so many labels
abbrev pub fresh : ℕ → LabelData
fresh count =
    record { labels = replicate count uses.Free; branches = sets.empty; leaves = sets.empty; waiting = sets.empty; ends = maps.empty }

-- the least label; 0 to 15 are reserved (RFC 3032 section 2.1)
abbrev pub first_label : ℕ
first_label = 16

-- whether both are one tree
abbrev pub same_fec : Fec → Fec → Bool
same_fec a b = eq_by_cmp fec_cmp a b

-- what the label is used for, where the node has it
abbrev pub use_of : LabelData → ℕ → Option LabelUse
use_of part label = if nat_lt label first_label then None else slice_get part.labels (label - first_label)

-- the label is mapped to the tree towards that neighbour, or is leaving
abbrev pub IsUsedTowards : Fec → NodeId → Option LabelUse → Type 0
IsUsedTowards fec upstream usage = (usage ≡ Some (uses.Mapped fec upstream)) ⊎ (usage ≡ Some (uses.Leaving fec upstream))

-- whether the use is free
abbrev pub is_free : LabelUse → Bool
is_free uses.Free = true
is_free other = false

-- whether the use maps the tree
abbrev pub is_mapped : Fec → LabelUse → Bool
is_mapped fec (uses.Mapped own upstream) = same_fec own fec
is_mapped fec other = false

-- the least free label
abbrev pub free_label : LabelData → Option ℕ
free_label part = option_map (λ place. first_label + place) (position is_free part.labels)

-- the label that is mapped to the tree
abbrev pub mapped_label : LabelData → Fec → Option ℕ
mapped_label part fec = option_map (λ place. first_label + place) (position (is_mapped fec) part.labels)

-- the branches of the tree, each once, in order of neighbours, and then of labels
abbrev pub branches_of : LabelData → Fec → List Branch
branches_of part fec = filter (λ branch. same_fec branch.fec fec) (in_order part.branches)

-- whether the node has a branch of the tree
abbrev pub has_branch : LabelData → Fec → Bool
has_branch part fec = list_any (λ branch. same_fec branch.fec fec) (in_order part.branches)

-- whether the node is on the tree: it has a branch or is a leaf
abbrev pub has_tree : LabelData → Fec → Bool
has_tree part fec = has_branch part fec || sets.contains part.leaves fec

-- whether the end of the session with the neighbour is up
abbrev pub is_up : LabelData → NodeId → Bool
is_up part node = is_some (maps.get part.ends node)

-- whether the end is up and its hold was run
abbrev pub is_ready : LabelData → NodeId → Bool
is_ready part node = elim (maps.get part.ends node) [ None ↦ false | Some end ↦ end.held ]

-- the trees that the uses map
abbrev pub mapped_trees : List LabelUse → List Fec
mapped_trees [] = []
mapped_trees (uses.Mapped fec upstream ∷ more) = fec ∷ mapped_trees more
mapped_trees (other ∷ more) = mapped_trees more

-- the trees of the node, in their order: those with a branch, a leaf, or a mapped label
abbrev pub trees : LabelData → List Fec
trees part =
    let branched = map (λ branch. branch.fec) (in_order part.branches) in
    in_order (sets.from_list {R = fec_cmp} (branched ++ (in_order part.leaves ++ mapped_trees part.labels)))

-- whether a resting label is due
abbrev pub is_rested : ℕ → LabelUse → Bool
is_rested now (uses.Resting until) = nat_le until now
is_rested now other = false

-- whether the hold of an end is due
abbrev pub is_hold_due : ℕ → ℕ → End → Bool
is_hold_due life now end = not end.held && nat_le (end.raised + life + 1) now

-- how many timers of the label part are due
abbrev pub due : Place → ℕ → LabelData → ℕ
due place now part = count_by (is_rested now) part.labels + count_by (is_hold_due place.life now) (maps.values part.ends)
