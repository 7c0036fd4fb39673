-- What holds of a network of label nodes after every run.
use Rattle.std.specs.Prelude.{◌≡◌, ◌≢◌, ◌⊎◌, ⊤, ℕ, ◌+◌, ◌≤◌, ◌==◌, Bool, true, false}
use Rattle.std.specs.Prelude.{List, [], ◌∷◌, Option, Some, None, is_some}
use Rattle.std.specs.List.{filter, AllByRecursion}
use Rattle.std.specs.FinMap as maps
use Rattle.std.specs.FinSet as sets
use Rattle.mv_base.specs.declared.ids.NodeId.{NodeId}
use Rattle.mldp.specs.declared.mldp_fec.fec.Fec.{Fec}
use Rattle.mldp.specs.declared.mldp_msgs.message.LabelMessage.{LabelMessage}
use Rattle.mldp.specs.declared.mldp_msgs.message.LabelMessage.TheVariants as messages
use Rattle.label_defs.specs.declared.branch.Branch.{Branch}
use Rattle.label_defs.specs.declared.end.End.{End}
use Rattle.label_defs.specs.declared.label_use.LabelUse.{LabelUse}
use Rattle.label_defs.specs.declared.label_use.LabelUse.TheVariants as uses
use Rattle.label_defs.specs.LabelData.{LabelData, same_fec, use_of}
pub use Rattle.label_defs.specs.LabelData.{IsUsedTowards}
use Rattle.label_defs.specs.Steps.{branch_to}
use Rattle.label_defs.specs.Settled.{AllSettled}
use Rattle.label_laws.specs.Network.{PacketCopy, LabelNetwork, place_of}

-- ---- one label of a node, seen from a neighbour

-- the messages of a label that its owner puts
abbrev pub is_of_owner : ℕ → LabelMessage → Bool
is_of_owner label (messages.Mapping fec own) = own == label
is_of_owner label (messages.Withdraw fec own) = own == label
is_of_owner label other = false

-- the releases of a label
abbrev pub is_release_of : ℕ → LabelMessage → Bool
is_release_of label (messages.Release fec own) = own == label
is_release_of label other = false

-- the label is used for nothing towards that neighbour
abbrev pub IsOther : NodeId → Option LabelUse → Type 0
IsOther u usage = (fec : Fec) → IsUsedTowards fec u usage → ⊥

-- where a label stands between its owner and the neighbour
pub data Kind : Type 0 where
  Mapping : (fec : Fec) → Kind  -- its mapping is in transit
  Stands : (fec : Fec) → Kind  -- the branch stands
  MappingAndWithdraw : (fec : Fec) → Kind  -- its mapping and its withdraw are in transit
  Withdraw : (fec : Fec) → Kind  -- the branch stands, and its withdraw is in transit
  Release : (fec : Fec) → Kind  -- its release is in transit
  Idle : Kind

-- the trees of which there is a branch under the label
abbrev pub none : Fec → Bool
none fec = false

abbrev pub only : Fec → Fec → Bool
only own fec = same_fec fec own

-- the use of the label, its messages to the neighbour, its releases back, and the branches there
pub record Parts (usage own : Option LabelUse) (down own_down up own_up : List LabelMessage)
    (branches own_branches : Fec → Bool) : Type 0 where
  pub used : usage ≡ own
  pub put : down ≡ own_down
  pub back : up ≡ own_up
  pub branch : branches ≡ own_branches

-- the label is in that phase
abbrev pub PhaseIs : Kind → NodeId → ℕ → Option LabelUse → List LabelMessage → List LabelMessage → (Fec → Bool) → Type 0
PhaseIs (Mapping fec) u label usage down up branches =
    Parts usage (Some (uses.Mapped fec u)) down (messages.Mapping fec label ∷ []) up [] branches none
PhaseIs (Stands fec) u label usage down up branches = Parts usage (Some (uses.Mapped fec u)) down [] up [] branches (only fec)
PhaseIs (MappingAndWithdraw fec) u label usage down up branches =
    Parts usage (Some (uses.Leaving fec u)) down (messages.Mapping fec label ∷ messages.Withdraw fec label ∷ []) up [] branches none
PhaseIs (Withdraw fec) u label usage down up branches =
    Parts usage (Some (uses.Leaving fec u)) down (messages.Withdraw fec label ∷ []) up [] branches (only fec)
PhaseIs (Release fec) u label usage down up branches =
    Parts usage (Some (uses.Leaving fec u)) down [] up (messages.Release fec label ∷ []) branches none
PhaseIs Idle u label usage down up branches = IsOther u usage × Parts usage usage down [] up [] branches none

-- a label of a joined session is in one of the phases
pub record Phase (u : NodeId) (label : ℕ) (usage : Option LabelUse) (down up : List LabelMessage) (branches : Fec → Bool) : Type 0 where
  pub kind : Kind
  pub holds : PhaseIs kind u label usage down up branches

-- whether the end is up and its hold was run
abbrev pub is_held : Option End → Bool
is_held None = false
is_held (Some end) = end.held

-- What holds of one label of a node, seen from its neighbour u. The near end is the node's, the far one u's. The label of a joined
-- session is in a phase; where the session is not joined, a branch is left only of a label that is held, or of a node whose end is
-- down; a label is held only towards an end whose hold was run; and a branch is left only where the far end is up.
pub record View (u : NodeId) (label : ℕ) (joined : Bool) (near far : Option End) (usage : Option LabelUse)
    (down up : List LabelMessage) (branches : Fec → Bool) : Type 0 where
  pub phase : joined ≡ true → Phase u label usage down up branches
  pub alone : (fec : Fec) → joined ≡ false → branches fec ≡ true → (near ≡ None) ⊎ IsUsedTowards fec u usage
  pub owner : (fec : Fec) → IsUsedTowards fec u usage → is_held near ≡ true
  pub branch : (fec : Fec) → branches fec ≡ true → is_some far ≡ true

-- the end of a node's session with a neighbour, none where it is down
abbrev pub end_of : LabelData → NodeId → Option End
end_of part node = maps.get part.ends node

-- the trees of which a node has a branch to a neighbour under a label
abbrev pub branch_trees : LabelData → NodeId → ℕ → Fec → Bool
branch_trees part n label fec = sets.contains part.branches (branch_to n fec label)

abbrev pub ViewAt : LabelNetwork → NodeId → NodeId → ℕ → Type 0
ViewAt network u n label =
    View u label (network.direction u n).joined (end_of (network.node n) u) (end_of (network.node u) n) (use_of (network.node n) label)
    (filter (is_of_owner label) (network.direction n u).transit) (filter (is_release_of label) (network.direction u n).transit)
    (branch_trees (network.node u) n label)

-- ---- sessions, trees

-- Both directions of a session are joined or neither is; nothing is in transit in one that is not; and both ends of a joined one
-- are up.
pub record SessionAt (network : LabelNetwork) (u n : NodeId) : Type 0 where
  pub alike : (network.direction u n).joined ≡ (network.direction n u).joined
  pub quiet : (network.direction u n).joined ≡ false → (network.direction u n).transit ≡ []
  pub ends : (network.direction u n).joined ≡ true → is_some (end_of (network.node u) n) ≡ true

-- the leaves, the branches and the labels of a node are those of trees
pub record OfTrees (is_tree : Fec → Bool) (part : LabelData) : Type 0 where
  pub leaves : (fec : Fec) → sets.contains part.leaves fec ≡ true → is_tree fec ≡ true
  pub branches : (branch : Branch) → sets.contains part.branches branch ≡ true → is_tree branch.fec ≡ true
  pub labels : (label : ℕ) (fec : Fec) (u : NodeId) → IsUsedTowards fec u (use_of part label) → is_tree fec ≡ true

-- ---- copies

-- what a label is used for covers a copy of that VPN that came from u and was put at that moment
pub data LabelCovers (life : ℕ) (vpn_of : Fec → ℕ) (u : NodeId) (usage : Option LabelUse) (vpn put_at : ℕ) : Type 0 where
  mapped : (fec : Fec) → usage ≡ Some (uses.Mapped fec u) → vpn_of fec ≡ vpn → LabelCovers life vpn_of u usage vpn put_at
  leaving : (fec : Fec) → usage ≡ Some (uses.Leaving fec u) → LabelCovers life vpn_of u usage vpn put_at
  resting : (until : ℕ) → usage ≡ Some (uses.Resting until) → put_at + life + 1 ≤ until → LabelCovers life vpn_of u usage vpn put_at

-- the end is up, came up when the copy was put or later, and its hold was not run
pub record Unheld (near : Option End) (put_at : ℕ) : Type 0 where
  pub end : End
  pub up : near ≡ Some end
  pub since : put_at ≤ end.raised
  pub unheld : end.held ≡ false

abbrev pub Covered : ℕ → (Fec → ℕ) → NodeId → Option End → Option LabelUse → ℕ → ℕ → Type 0
Covered life vpn_of u near usage vpn put_at = (near ≡ None) ⊎ (Unheld near put_at ⊎ LabelCovers life vpn_of u usage vpn put_at)

-- a copy on the link from u to a node
pub record CopyOk (clock life : ℕ) (vpn_of : Fec → ℕ) (origin : ℕ → ℕ) (u : NodeId) (part : LabelData) (copy : PacketCopy) : Type 0 where
  pub past : copy.put_at ≤ clock
  pub young : clock ≤ copy.put_at + life
  pub covered : Covered life vpn_of u (end_of part u) (use_of part copy.label) (origin copy.number) copy.put_at

-- ---- the rule

pub record Rule (network : LabelNetwork) : Type 0 where
  pub view : (u n : NodeId) (label : ℕ) → u ≢ n → ViewAt network u n label
  pub session : (u n : NodeId) → u ≢ n → SessionAt network u n
  pub copies : (u n : NodeId) → u ≢ n →
      AllByRecursion (CopyOk network.clock network.life network.vpn_of network.origin u (network.node n)) (network.direction u n).copies
  pub trees : (n : NodeId) → OfTrees network.is_tree (network.node n)

-- the rule, and each tree of each node is settled
pub record Kept (network : LabelNetwork) : Type 0 where
  pub rule : Rule network
  pub settled : (n : NodeId) → AllSettled (place_of network n) (network.node n)

-- what holds of a network, if there is one
abbrev pub OnNetwork : (LabelNetwork → Type 0) → Option LabelNetwork → Type 0
OnNetwork P None = ⊤
OnNetwork P (Some network) = P network

-- ---- the label rule in full

-- Of a copy under a label on the link from u to n: the label is mapped towards u for a tree of the VPN of the datagram; or it is
-- leaving towards u; or it rests until no copy of that moment is on a link; or the end of n towards u is down; or that end came
-- up when the copy was put or later, and its hold was not run.
pub data CopyCase (network : LabelNetwork) (u n : NodeId) (copy : PacketCopy) : Type 0 where
  is_mapped : (fec : Fec) → is_some (end_of (network.node n) u) ≡ true → use_of (network.node n) copy.label ≡ Some (uses.Mapped fec u) →
      network.vpn_of fec ≡ network.origin copy.number → CopyCase network u n copy
  is_leaving : (fec : Fec) → is_some (end_of (network.node n) u) ≡ true → use_of (network.node n) copy.label ≡ Some (uses.Leaving fec u) →
      CopyCase network u n copy
  is_resting : (until : ℕ) → use_of (network.node n) copy.label ≡ Some (uses.Resting until) → copy.put_at + network.life + 1 ≤ until →
      CopyCase network u n copy
  is_down : end_of (network.node n) u ≡ None → CopyCase network u n copy
  is_unheld : (end : End) → end_of (network.node n) u ≡ Some end → copy.put_at ≤ end.raised → end.held ≡ false → CopyCase network u n copy

-- a label of n is leaving towards u, and its withdraw is in transit
abbrev pub IsWithdrawn : LabelNetwork → NodeId → NodeId → ℕ → Fec → Type 0
IsWithdrawn network u n label fec =
    (use_of (network.node n) label ≡ Some (uses.Leaving fec u))
    × (filter (is_of_owner label) (network.direction n u).transit ≡ messages.Withdraw fec label ∷ [])

-- Each copy is in one of the cases, and has not been on its link for longer than it may. Where u has a branch of a tree to n under a
-- label, the end of u towards n is up. If the session is joined, n holds the label for that tree towards u: it is mapped, or it is
-- leaving and its withdraw is in transit. If the session is not joined, the end of n is down, or n holds the label so.
pub record LabelRule (network : LabelNetwork) : Type 0 where
  pub copies : (u n : NodeId) → u ≢ n → AllByRecursion (CopyCase network u n) (network.direction u n).copies
  pub young : (u n : NodeId) → u ≢ n →
      AllByRecursion (λ (copy : PacketCopy). network.clock ≤ copy.put_at + network.life) (network.direction u n).copies
  pub branch_up : (u n : NodeId) (label : ℕ) (fec : Fec) → u ≢ n →
      sets.contains (network.node u).branches (branch_to n fec label) ≡ true → is_some (end_of (network.node u) n) ≡ true
  pub joined : (u n : NodeId) (label : ℕ) (fec : Fec) → u ≢ n → (network.direction u n).joined ≡ true →
      sets.contains (network.node u).branches (branch_to n fec label) ≡ true →
      (use_of (network.node n) label ≡ Some (uses.Mapped fec u)) ⊎ IsWithdrawn network u n label fec
  pub unjoined : (u n : NodeId) (label : ℕ) (fec : Fec) → u ≢ n → (network.direction u n).joined ≡ false →
      sets.contains (network.node u).branches (branch_to n fec label) ≡ true →
      (end_of (network.node n) u ≡ None) ⊎ IsUsedTowards fec u (use_of (network.node n) label)
