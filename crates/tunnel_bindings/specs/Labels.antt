-- What a label number of a node is, and what calls change of it. A label is told to an upstream for a FEC, withdrawn
-- (RFC 6388 section 2.4), and released by the upstream (RFC 5036 section 3.5.11); from then on it rests.
use Rattle.std.specs.Prelude.{◌≡◌, ◌≢◌, ℕ, ◌<◌, ◌-◌, Bool, false, nat_le, nat_lt, List, slice_get}
use Rattle.std.specs.Prelude.{slice_set, map, count_by, Option, None, Some, if◌then◌else◌}
use Rattle.tunnel_bindings.specs.declared.state.LabelState.{LabelState}
use Rattle.tunnel_bindings.specs.declared.state.LabelState.TheVariants.{Free, Owned, Resting}

-- the label numbers of a node: how long a released one rests, and what each is, from label 16 on
pub record Space : Type 0 where
  pub life : ℕ
  pub states : List LabelState

-- the least label; 0 to 15 are reserved (RFC 3032 section 2.1)
abbrev pub first_label : ℕ
first_label = 16

-- what the label is, where the space has it
abbrev pub state_of : Space → ℕ → Option LabelState
state_of space label = if nat_lt label first_label then None else slice_get space.states (label - first_label)

abbrev pub IsOwned : Space → ℕ → Type 0
IsOwned space label = state_of space label ≡ Some Owned

-- the label is free, and no lower one is
pub record IsLeastFree (space : Space) (label : ℕ) : Type 0 where
  pub free : state_of space label ≡ Some Free
  pub below : (lower : ℕ) → lower < label → state_of space lower ≢ Some Free

-- no label is free
abbrev pub NoneFree : Space → Type 0
NoneFree space = (label : ℕ) → state_of space label ≢ Some Free

-- the label, one of the space, alone becomes so
abbrev pub set_label : Space → ℕ → LabelState → Space
set_label space label state = record space { states = slice_set space.states (label - first_label) state }

-- a resting label is free again from its moment on
abbrev pub woken : ℕ → LabelState → LabelState
woken now Free = Free
woken now Owned = Owned
woken now (Resting until) = if nat_le until now then Free else Resting until

-- the same of each label
abbrev pub wake_all : ℕ → Space → Space
wake_all now space = record space { states = map (woken now) space.states }

-- whether the label rests, and its moment has come
abbrev pub is_due : ℕ → LabelState → Bool
is_due now Free = false
is_due now Owned = false
is_due now (Resting until) = nat_le until now

-- how many labels are due
abbrev pub due_in : ℕ → Space → ℕ
due_in now space = count_by (is_due now) space.states
