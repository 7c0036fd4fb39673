-- What holds of each tree of a node after every label step.
use Rattle.std.specs.Prelude.{◌≡◌, ℕ, ◌≤◌, ◌&&◌, true, false, not, is_some, Some, ⊤}
use Rattle.std.specs.FinMap as maps
use Rattle.std.specs.FinSet as sets
use Rattle.mldp.specs.mv_base.declared.ids.NodeId.{NodeId}
use Rattle.mldp.specs.declared.mldp_fec.fec.Fec.{Fec}
use Rattle.label_defs.specs.declared.end.End.{End}
use Rattle.label_defs.specs.declared.label_use.LabelUse.TheVariants as uses
use Rattle.label_defs.specs.LabelData.{Place, LabelData, use_of, has_tree, is_up, is_ready}
use Rattle.label_defs.specs.Settling.{is_ready_to}
use Rattle.label_defs.specs.Steps.{Call, Raised, Rerouted}

-- the label is mapped to the tree towards that neighbour
abbrev pub Maps : LabelData → Fec → ℕ → NodeId → Type 0
Maps part fec label upstream = use_of part label ≡ Some (uses.Mapped fec upstream)

-- A tree is settled: a node that is on it, and is not its root, holds exactly one binding for it, towards the neighbour on
-- the way to the root. It is mapped where the session with that neighbour is ready, and waits otherwise. A node that is not
-- on the tree, or is its root, holds none but such as were withdrawn.
pub record Settled (place : Place) (part : LabelData) (fec : Fec) : Type 0 where
  pub one : (label other : ℕ) (upstream neighbour : NodeId) →
      Maps part fec label upstream → Maps part fec other neighbour → label ≡ other
  pub toward : (label : ℕ) (upstream : NodeId) →
      Maps part fec label upstream → (place.upstream fec ≡ Some upstream) × (is_ready part upstream ≡ true)
  pub needed : (label : ℕ) (upstream : NodeId) → Maps part fec label upstream → has_tree part fec ≡ true
  pub mapped : (upstream : NodeId) → has_tree part fec ≡ true → place.upstream fec ≡ Some upstream → is_ready part upstream ≡ true →
      (label : ℕ) × Maps part fec label upstream
  pub waiting :
      sets.contains part.waiting fec ≡ (has_tree part fec && (is_some (place.upstream fec) && not (is_ready_to part (place.upstream fec))))

-- each tree of the node is settled
abbrev pub AllSettled : Place → LabelData → Type 0
AllSettled place part = (fec : Fec) → Settled place part fec

-- An end comes up only where it was down.
abbrev pub MayBe : LabelData → Call → Type 0
MayBe part (Raised peer) = is_up part peer ≡ false
MayBe part other = ⊤

-- Where next hops changed, each tree was settled by those before.
abbrev pub WereSettled : LabelData → Call → Type 0
WereSettled part Rerouted = (old : Place) × AllSettled old part
WereSettled part other = ⊤

-- the next id to each neighbour whose end is up is from 1 to 4294967295
abbrev pub IdsFit : LabelData → Type 0
IdsFit part = (node : NodeId) (end : End) → maps.get part.ends node ≡ Some end → (1 ≤ end.next) × (end.next ≤ 4294967295)
