-- What the laws of the label steps speak of.
use Rattle.std.specs.Prelude.{◌≡◌, ◌≢◌, ◌⊎◌, ℕ, ◌<◌, ◌==◌, ◌&&◌, nat_le, Bool, true, false, not}
use Rattle.std.specs.Prelude.{List, [], ◌∷◌, ◌++◌, count_by, Some, is_some}
use Rattle.std.specs.List.{list_any, filter}
use Rattle.std.specs.FinMap as maps
use Rattle.std.specs.FinSet as sets
use Rattle.std.specs.FinSet.{FinSet}
use Rattle.mldp.specs.mv_base.declared.ids.NodeId.{NodeId}
use Rattle.mldp.specs.declared.mldp_fec.fec.Fec.{Fec}
use Rattle.mldp.specs.declared.mldp_msgs.message.LabelMessage.{LabelMessage}
use Rattle.mldp.specs.declared.mldp_msgs.message.LabelMessage.TheVariants as messages
use Rattle.label_defs.specs.declared.end.End.{End}
use Rattle.label_defs.specs.declared.label_use.LabelUse.{LabelUse}
use Rattle.label_defs.specs.declared.label_use.LabelUse.TheVariants as uses
use Rattle.label_defs.specs.declared.put.Put.{Put}
use Rattle.label_defs.specs.Keys.{fec_cmp}
use Rattle.label_defs.specs.LabelData.{Place, LabelData, use_of, mapped_label, has_tree, trees}
use Rattle.label_defs.specs.Settling.{holder_of, same_neighbour, is_ready_to}
use Rattle.label_defs.specs.Steps.{Call, Taken, Noticed, Timers, Rerouted, effect}
use Rattle.label_defs.specs.Settled.{Maps}

-- ---- releases

-- whether the message is a release
abbrev pub releases : LabelMessage → Bool
releases (messages.Release fec label) = true
releases other = false

-- the releases that a step owes: the answer to a withdraw that it takes
abbrev pub owed_releases : Call → List Put
owed_releases (Taken from (messages.Withdraw fec label)) = record { to = from; message = messages.Release fec label } ∷ []
owed_releases other = []

-- ---- labels that leave

-- the label stops leaving: its release comes from that neighbour, or the loss of that session is noticed
abbrev pub StopsLeaving : Call → Fec → NodeId → ℕ → Type 0
StopsLeaving call fec upstream label = (call ≡ Taken upstream (messages.Release fec label)) ⊎ (call ≡ Noticed upstream)

-- whether the use is of a session with the neighbour
abbrev pub is_towards : NodeId → LabelUse → Bool
is_towards node (uses.Mapped fec upstream) = upstream.0 == node.0
is_towards node (uses.Leaving fec upstream) = upstream.0 == node.0
is_towards node other = false

-- a withdraw to that neighbour
abbrev pub withdraw_to : NodeId → Fec → ℕ → Put
withdraw_to to fec label = record { to = to; message = messages.Withdraw fec label }

-- A withdraw that a step puts is of a label that was mapped so. After the step the label is leaving, and the node is not on the
-- tree, or the neighbour is not the one towards its root.
pub record WithdrawIs (place : Place) (part new : LabelData) (to : NodeId) (fec : Fec) (label : ℕ) : Type 0 where
  pub mapped : Maps part fec label to
  pub leaves : use_of new label ≡ Some (uses.Leaving fec to)
  pub off : (has_tree new fec ≡ false) ⊎ (place.upstream fec ≢ Some to)

-- the label is leaving, and its withdraw is among the messages
pub record WithdrawnThen (new : LabelData) (puts : List Put) (fec : Fec) (to : NodeId) (label : ℕ) : Type 0 where
  pub leaves : use_of new label ≡ Some (uses.Leaving fec to)
  pub before : List Put
  pub thereafter : List Put
  pub put : puts ≡ before ++ withdraw_to to fec label ∷ thereafter

-- what becomes of a mapped label: it stays so, or it is leaving and its withdraw was put
abbrev pub MappedThen : LabelData → List Put → Fec → NodeId → ℕ → Type 0
MappedThen new puts fec to label = Maps new fec label to ⊎ WithdrawnThen new puts fec to label

-- ---- labels that are taken

-- whether a label that is used so is free in a step: it was free, or rested until a moment that the timers find past, or was of
-- the session whose loss is noticed
abbrev pub is_free_in : ℕ → Call → LabelUse → Bool
is_free_in now call uses.Free = true
is_free_in now Timers (uses.Resting until) = nat_le until now
is_free_in now (Noticed peer) (uses.Mapped fec upstream) = upstream.0 == peer.0
is_free_in now (Noticed peer) (uses.Leaving fec upstream) = upstream.0 == peer.0
is_free_in now call other = false

-- the label is free in the step
abbrev pub FreeIn : ℕ → LabelData → Call → ℕ → Type 0
FreeIn now part call label = (usage : LabelUse) × (use_of part label ≡ Some usage) × (is_free_in now call usage ≡ true)

-- a mapping to that neighbour
abbrev pub mapping_to : NodeId → Fec → ℕ → Put
mapping_to to fec label = record { to = to; message = messages.Mapping fec label }

-- the label is mapped, and its mapping is among the messages
pub record TakenThen (new : LabelData) (puts : List Put) (label : ℕ) : Type 0 where
  pub fec : Fec
  pub to : NodeId
  pub before : List Put
  pub thereafter : List Put
  pub maps : Maps new fec label to
  pub put : puts ≡ before ++ mapping_to to fec label ∷ thereafter

-- what becomes of a label that is free in a step: it is free after it, or it is mapped and its mapping was put
abbrev pub FreeThen : LabelData → List Put → ℕ → Type 0
FreeThen new puts label = (use_of new label ≡ Some uses.Free) ⊎ TakenThen new puts label

-- whether the message maps the label
abbrev pub takes : ℕ → LabelMessage → Bool
takes label (messages.Mapping fec own) = own == label
takes label other = false

-- the end of the session is up, and its hold was run
abbrev pub IsHeld : LabelData → NodeId → Type 0
IsHeld part node = (end : End) × (maps.get part.ends node ≡ Some end) × (end.held ≡ true)

-- the hold of the end was run before, at the same raise
abbrev pub HeldBefore : LabelData → NodeId → End → Type 0
HeldBefore part node end = (old : End) × (maps.get part.ends node ≡ Some old) × (old.held ≡ true) × (old.raised ≡ end.raised)

-- the end is up since that moment, and its hold was run
abbrev pub HeldSince : LabelData → NodeId → ℕ → Type 0
HeldSince part node moment = (end : End) × (maps.get part.ends node ≡ Some end) × (end.held ≡ true) × (end.raised ≡ moment)

-- A mapping that a step puts, after others. It goes to the neighbour towards the root of the tree, and the hold of its session
-- was run. It takes a label that is free in the step, and each lower one that is so was taken by a mapping before. After the
-- step the label is mapped so.
pub record MappingIs (place : Place) (now : ℕ) (part : LabelData) (call : Call) (new : LabelData) (before : List Put)
    (to : NodeId) (fec : Fec) (label : ℕ) : Type 0 where
  pub toward : place.upstream fec ≡ Some to
  pub ready : IsHeld new to
  pub free : FreeIn now part call label
  pub least : (lower : ℕ) → lower < label → FreeIn now part call lower → list_any (λ (put : Put). takes lower put.message) before ≡ true
  pub holds : Maps new fec label to

-- ---- next hops that changed

-- A tree moved: its label is withdrawn from the old neighbour, and right after that another is mapped to the new one.
pub record MovedThen (new : LabelData) (puts : List Put) (fec : Fec) (old_hop new_hop : NodeId) (label : ℕ) : Type 0 where
  pub taken : ℕ
  pub before : List Put
  pub thereafter : List Put
  pub maps : Maps new fec taken new_hop
  pub leaves : use_of new label ≡ Some (uses.Leaving fec old_hop)
  pub put : puts ≡ before ++ withdraw_to old_hop fec label ∷ mapping_to new_hop fec taken ∷ thereafter

-- ---- labels that are lacking

-- whether the tree needs a label: the node is on it, no label is mapped to it, and the session towards its root is ready
abbrev pub needs_label : Place → LabelData → Fec → Bool
needs_label place part fec = has_tree part fec && (not (is_some (mapped_label part fec)) && is_ready_to part (place.upstream fec))

-- whether it needs one where next hops changed: none is mapped to it towards its root as that is now
abbrev pub needs_new_label : Place → LabelData → Fec → Bool
needs_new_label place part fec =
    has_tree part fec && (not (same_neighbour (holder_of part fec) (place.upstream fec)) && is_ready_to part (place.upstream fec))

-- the trees among these that pass
abbrev pub passing : (Fec → Bool) → List Fec → FinSet fec_cmp
passing test fecs = sets.from_list {R = fec_cmp} (filter test fecs)

-- more trees of the step need a label than are free in it
abbrev pub LacksLabels : Place → ℕ → LabelData → Call → Type 0
LacksLabels place now part Rerouted =
    count_by (is_free_in now Rerouted) part.labels < sets.len (passing (needs_new_label place part) (trees part))
LacksLabels place now part call =
    let own = effect place now part call in
    count_by (is_free_in now call) part.labels < sets.len (passing (needs_label place own.0.part) own.1)
