-- Label nodes in which nothing is taken back: each label is free, or is mapped for good.
use Rattle.std.specs.Prelude.{◌≡◌, ◌<◌, ℕ, ⊤, true, not, List, length, count_by, Some}
use Rattle.std.specs.List.{AllByRecursion}
use Rattle.mv_base.specs.Lists.{Among}
use Rattle.mv_base.specs.declared.ids.NodeId.{NodeId}
use Rattle.mldp.specs.declared.mldp_fec.fec.Fec.{Fec}
use Rattle.mldp.specs.declared.mldp_msgs.message.LabelMessage.{LabelMessage}
use Rattle.mldp.specs.declared.mldp_msgs.message.LabelMessage.TheVariants as messages
use Rattle.label_defs.specs.LabelData.{Place, LabelData, is_free, use_of, has_tree}
use Rattle.label_defs.specs.Settled.{Maps}
use Rattle.label_defs.specs.Settling.{Stepped}
use Rattle.label_defs.specs.Steps.{Call, Taken, Want, Raised, Timers, label_step}
use Rattle.label_defs.specs.declared.label_use.LabelUse.{LabelUse}
use Rattle.label_defs.specs.declared.label_use.LabelUse.TheVariants as uses
use Rattle.label_defs.specs.declared.put.Put.{Put}

-- all of the first trees are among the second ones
abbrev pub AreAmong : List Fec → List Fec → Type 0
AreAmong trees more = (fec : Fec) → Among fec trees → Among fec more

-- how many of its labels the node holds: those that are not free
abbrev pub labels_held : LabelData → ℕ
labels_held part = count_by (λ usage. not (is_free usage)) part.labels

-- the label is free, or it is mapped to one of the trees
abbrev pub IsFreeOrMaps : List Fec → LabelUse → Type 0
IsFreeOrMaps trees uses.Free = ⊤
IsFreeOrMaps trees (uses.Mapped fec upstream) = Among fec trees
IsFreeOrMaps trees other = ⊥

-- The node has more labels than these trees are, and is on no other tree. Each of its labels is free, or it is the one that is mapped
-- to a tree of the node, towards the neighbour on the way to the root.
pub record Growing (place : Place) (trees : List Fec) (part : LabelData) : Type 0 where
  pub room : length trees < length part.labels
  pub within : (fec : Fec) → has_tree part fec ≡ true → Among fec trees
  pub used : (label : ℕ) (usage : LabelUse) → use_of part label ≡ Some usage → IsFreeOrMaps trees usage
  pub one : (fec : Fec) (label other : ℕ) (upstream neighbour : NodeId)
      → Maps part fec label upstream → Maps part fec other neighbour → label ≡ other
  pub toward : (fec : Fec) (label : ℕ) (upstream : NodeId) → Maps part fec label upstream → place.upstream fec ≡ Some upstream
  pub needed : (fec : Fec) (label : ℕ) (upstream : NodeId) → Maps part fec label upstream → has_tree part fec ≡ true

-- The call takes nothing back: an end comes up, timers are run, a mapping of one of the trees, or of what is no tree, or an ignored
-- message is taken, or the node becomes a leaf of one of the trees.
abbrev pub TakesNothingBack : Place → List Fec → Call → Type 0
TakesNothingBack place trees (Taken from (messages.Mapping fec label)) = place.is_tree fec ≡ true → Among fec trees
TakesNothingBack place trees (Taken from (messages.Ignored kind)) = ⊤
TakesNothingBack place trees (Want fec) = Among fec trees
TakesNothingBack place trees (Raised peer) = ⊤
TakesNothingBack place trees Timers = ⊤
TakesNothingBack place trees other = ⊥

-- the message is a mapping of one of the trees
abbrev pub IsMappingOf : List Fec → LabelMessage → Type 0
IsMappingOf trees (messages.Mapping fec label) = Among fec trees
IsMappingOf trees other = ⊥

-- There is a step, and after it the node is so again, with as many labels. What was mapped stays mapped, and all that is put is mappings
-- of the trees.
pub record GrowsOn (place : Place) (now : ℕ) (trees : List Fec) (part : LabelData) (call : Call) : Type 0 where
  pub new : Stepped
  pub stepped : label_step place now part call ≡ Some new
  pub growing : Growing place trees new.part
  pub many : length new.part.labels ≡ length part.labels
  pub kept : (fec : Fec) (label : ℕ) (upstream : NodeId) → Maps part fec label upstream → Maps new.part fec label upstream
  pub puts : AllByRecursion (λ (put : Put). IsMappingOf trees put.message) new.puts
