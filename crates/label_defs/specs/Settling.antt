-- What a tree of a node needs, and what becomes of the node when it gets it (RFC 6388 sections 2.4.1.1, 2.4.2.1).
use Rattle.std.specs.Prelude.{ℕ, ◌-◌, ◌==◌, Bool, true, false, if◌then◌else◌}
use Rattle.std.specs.Prelude.{List, [], ◌∷◌, ◌++◌, slice_set, Option, None, Some}
use Rattle.std.specs.FinSet as sets
use Rattle.mldp.specs.mv_base.declared.ids.NodeId.{NodeId}
use Rattle.mldp.specs.mv_base.Number.{◌>>?◌}
use Rattle.mldp.specs.declared.mldp_fec.fec.Fec.{Fec}
use Rattle.mldp.specs.declared.mldp_msgs.message.LabelMessage.TheVariants as messages
use Rattle.label_defs.specs.declared.change.Change.{Change}
use Rattle.label_defs.specs.declared.change.Change.TheVariants as changes
use Rattle.label_defs.specs.declared.label_use.LabelUse.{LabelUse}
use Rattle.label_defs.specs.declared.label_use.LabelUse.TheVariants as uses
use Rattle.label_defs.specs.declared.put.Put.{Put}
use Rattle.label_defs.specs.LabelData.{Place, LabelData, first_label, use_of, free_label, mapped_label, has_tree, is_ready}

-- the label is used so
abbrev pub with_use : LabelData → ℕ → LabelUse → LabelData
with_use part label usage = record part { labels = slice_set part.labels (label - first_label) usage }

-- the neighbour towards which a label is mapped or leaving
abbrev pub upstream_of : Option LabelUse → Option NodeId
upstream_of (Some (uses.Mapped fec upstream)) = Some upstream
upstream_of (Some (uses.Leaving fec upstream)) = Some upstream
upstream_of other = None

-- the neighbour towards which a label is mapped to the tree
abbrev pub holder_of : LabelData → Fec → Option NodeId
holder_of part fec = mapped_label part fec >>? λ label. upstream_of (use_of part label)

-- whether both are one neighbour, or none
abbrev pub same_neighbour : Option NodeId → Option NodeId → Bool
same_neighbour (Some a) (Some b) = a.0 == b.0
same_neighbour None None = true
same_neighbour a b = false

-- a label that is withdrawn from its upstream
abbrev pub withdrawn : ℕ → Option NodeId → Change
withdrawn label None = changes.Keep
withdrawn label (Some upstream) = changes.Withdraw upstream label

-- What a tree needs: by whether the node is on it, the label that is mapped to it and towards whom, the upstream, whether
-- the session with the upstream is ready, and the least free label. A label that is mapped towards another neighbour than the
-- upstream is withdrawn from it (RFC 6388 section 2.4.3). At the root of the tree nothing waits.
abbrev pub change_by : Bool → Option ℕ → Option NodeId → Option NodeId → Bool → Option ℕ → Change
change_by true (Some label) holder upstream ready free = if same_neighbour holder upstream then changes.Keep else withdrawn label holder
change_by true None holder (Some upstream) true (Some label) = changes.Map upstream label
change_by true None holder (Some upstream) true None = changes.NoLabel
change_by true None holder (Some upstream) false free = changes.Wait
change_by true None holder None ready free = changes.Cancel
change_by false (Some label) holder upstream ready free = withdrawn label holder
change_by false None holder upstream ready free = changes.Cancel

-- whether the session with the upstream is ready
abbrev pub is_ready_to : LabelData → Option NodeId → Bool
is_ready_to part None = false
is_ready_to part (Some upstream) = is_ready part upstream

-- what the tree needs
abbrev pub change_of : Place → LabelData → Fec → Change
change_of place part fec =
    let upstream = place.upstream fec in
    change_by (has_tree part fec) (mapped_label part fec) (holder_of part fec) upstream (is_ready_to part upstream) (free_label part)

-- the node after a change of the tree; none where a label is needed and none is free
abbrev pub changed : LabelData → Fec → Change → Option LabelData
changed part fec changes.Keep = Some part
changed part fec (changes.Map upstream label) =
    Some (record (with_use part label (uses.Mapped fec upstream)) { waiting = sets.remove part.waiting fec })
changed part fec (changes.Withdraw upstream label) = Some (with_use part label (uses.Leaving fec upstream))
changed part fec changes.Wait = Some (record part { waiting = sets.insert part.waiting fec })
changed part fec changes.Cancel = Some (record part { waiting = sets.remove part.waiting fec })
changed part fec changes.NoLabel = None

-- what is put to whom with it
abbrev pub put_by : Fec → Change → List Put
put_by fec (changes.Map upstream label) = record { to = upstream; message = messages.Mapping fec label } ∷ []
put_by fec (changes.Withdraw upstream label) = record { to = upstream; message = messages.Withdraw fec label } ∷ []
put_by fec other = []

-- a node after a step, and what it put
pub record Stepped : Type 0 where
  pub part : LabelData
  pub puts : List Put

-- the trees settle one after another; none where one of them needs a label and none is free
abbrev pub settle_all : Place → List Fec → Stepped → Option Stepped
settle_all place [] old = Some old
settle_all place (fec ∷ more) old =
    let change = change_of place old.part fec in
    changed old.part fec change >>? λ new. settle_all place more (record { part = new; puts = old.puts ++ put_by fec change })
