-- How a forwarding table is kept: entries with counts, and what is seen of them.
use Rattle.std.specs.Option.{unwrap_or}
use Rattle.std.specs.Prelude.{◌≡◌, ℕ, ◌+◌, ◌==◌, ◌&&◌, not, Bool, false, List, [], ◌∷◌, ◌++◌}
use Rattle.std.specs.Prelude.{map, length, Option, None, Some, count_by, if◌then◌else◌}
use Rattle.std.specs.FinMap as maps
use Rattle.std.specs.FinSet as sets
use Rattle.std.specs.declared.hash.FoldHasher.{FoldHasher}
use Rattle.std.specs.declared.hash.BuildHasherDefault.{BuildHasherDefault}
use Rattle.indexmap.specs.IndexMap.{IndexMap, get, IsUnique}
use Rattle.label_defs.specs.mldp.declared.mldp_fec.fec.Fec.{Fec}
use Rattle.label_defs.specs.mldp.contracts.mldp_fec.fec.FecPartialEq.TheImpl as fecs_equal
use Rattle.label_defs.specs.declared.branch.Branch.{Branch as TreeBranch}
use Rattle.label_forwarding.specs.declared.branch.Branch.{Branch}
use Rattle.label_forwarding.specs.declared.slots.Slot.{Slot}
use Rattle.label_forwarding.specs.Hops.{is_hop}
use Rattle.label_forwarding.specs.FibData.{FibData, branch_in}

-- whether both are one FEC, as `==` tells it
abbrev pub is_fec : Fec → Fec → Bool
is_fec = fecs_equal.ghosts.eq

abbrev pub Pairs : Type 0
Pairs = IndexMap Branch Fec (BuildHasherDefault FoldHasher)

abbrev pub Slots : Type 0
Slots = IndexMap Fec Slot (BuildHasherDefault FoldHasher)

-- the slot in which nothing stands
abbrev pub fresh : Fec → Slot
fresh fec = record { entry = record { fec = fec; leaf = false; branches = maps.empty }; mapped = 0 }

-- the slot of the FEC, where it has one
abbrev pub had : Slots → Fec → Slot
had slots fec = unwrap_or (get is_fec slots fec) (fresh fec)

-- the slot with one label more
abbrev pub counted : Slot → Slot
counted slot = record slot { mapped = slot.mapped + 1 }

-- the slot of a tree of which the node is a leaf, or is not
abbrev pub with_mark : Slot → Bool → Slot
with_mark slot leaf = record slot { entry = record slot.entry { leaf = leaf } }

-- the slot with that branch
abbrev pub with_hop : Slot → Branch → Slot
with_hop slot branch = record slot { entry = record slot.entry { branches = maps.insert slot.entry.branches branch tt } }

-- whether nothing needs the slot
abbrev pub is_idle : Slot → Bool
is_idle slot = (slot.mapped == 0) && not slot.entry.leaf && (length (maps.keys slot.entry.branches) == 0)

-- the slot, while something needs it
abbrev pub kept : Slot → Option Slot
kept slot = if is_idle slot then None else Some slot

-- ---- what is seen

abbrev pub leaves_in : List (Fec × Slot) → List Fec
leaves_in [] = []
leaves_in (own ∷ more) = if own.1.entry.leaf then own.0 ∷ leaves_in more else leaves_in more

abbrev pub branches_in : List (Fec × Slot) → List TreeBranch
branches_in [] = []
branches_in (own ∷ more) = map (branch_in own.0) (maps.keys own.1.entry.branches) ++ branches_in more

abbrev pub fib_of : Pairs → Slots → FibData
fib_of pairs slots = record {
  pairs = maps.from_entries pairs.entries;
  leaves = sets.from_list (leaves_in slots.entries);
  branches = sets.from_list (branches_in slots.entries);
}

-- ---- what is kept

-- how many notes name the FEC
abbrev pub noted : Fec → List (Branch × Fec) → ℕ
noted fec notes = count_by (λ note. is_fec fec note.1) notes

-- how many labels a slot counts
abbrev pub mapped_of : Option Slot → ℕ
mapped_of None = 0
mapped_of (Some slot) = slot.mapped

-- Each FEC has one slot, which counts the noted labels that name it; and something needs it.
pub record IsFib (pairs : Pairs) (slots : Slots) : Type 0 where
  pub noted_once : IsUnique is_hop pairs
  pub one_slot : IsUnique is_fec slots
  pub counts : (fec : Fec) → noted fec pairs.entries ≡ mapped_of (get is_fec slots fec)
  pub own : (fec : Fec) (slot : Slot) → get is_fec slots fec ≡ Some slot → slot.entry.fec ≡ fec
  pub needed : (fec : Fec) (slot : Slot) → get is_fec slots fec ≡ Some slot → is_idle slot ≡ false
