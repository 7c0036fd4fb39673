-- Places for bindings, which make the bindings under their names.
use Rattle.std.specs.Prelude.{◌≡◌, ◌≢◌, ℕ, suc, ◌+◌, ◌-◌, ◌<◌, ◌≤◌, ◌^◌, Bool, false, nat_eq, nat_lt, if◌then◌else◌}
use Rattle.std.specs.Prelude.{List, [], ◌∷◌, ◌++◌, length, map, count_by, slice_get, Option, None, Some, IfSome}
use Rattle.std.specs.FinMap as maps
use Rattle.std.specs.FinMap.{FinMap}
use Rattle.tunnel_bindings.specs.declared.name.BindingName.{BindingName}
use Rattle.tunnel_bindings.specs.declared.any_binding.AnyBinding.{AnyBinding}
use Rattle.tunnel_bindings.specs.declared.places.Place.{Place}
use Rattle.tunnel_bindings.specs.declared.state.LabelState.TheVariants.{Free}
use Rattle.tunnel_bindings.specs.Labels.{Space, IsOwned, state_of}
use Rattle.tunnel_bindings.specs.States.{label_in}
use Rattle.tunnel_bindings.specs.Bindings.{name_cmp, Named}

abbrev pub holding : ℕ → AnyBinding → Place
holding generation binding = record { generation = generation; binding = Some binding }

abbrev pub emptied : ℕ → Place
emptied generation = record { generation = generation; binding = None }

abbrev pub name_at : ℕ → ℕ → BindingName
name_at index generation = record { index = index; generation = generation }

-- ---- the bindings that places make

abbrev pub with_binding : FinMap name_cmp AnyBinding → BindingName → Option AnyBinding → FinMap name_cmp AnyBinding
with_binding kept name None = kept
with_binding kept name (Some binding) = maps.insert kept name binding

-- the bindings of the places, the first of which has this index
abbrev pub kept_from : ℕ → List Place → FinMap name_cmp AnyBinding
kept_from index [] = maps.empty
kept_from index (place ∷ places) = with_binding (kept_from (suc index) places) (name_at index place.generation) place.binding

-- how many names the place has given, of which it holds the last one's binding or none
abbrev pub given_by : ℕ → Option AnyBinding → ℕ
given_by generation None = generation
given_by generation (Some binding) = generation + 1

abbrev pub given_of : Place → ℕ
given_of place = given_by place.generation place.binding

abbrev pub named : List Place → Named
named places = record { kept = kept_from 0 places; given = map given_of places }

-- the binding of the place, where the generation is this one
abbrev pub kept_in : ℕ → Option Place → Option AnyBinding
kept_in generation None = None
kept_in generation (Some place) = if nat_eq place.generation generation then place.binding else None

abbrev pub kept_at : List Place → BindingName → Option AnyBinding
kept_at places name = kept_in name.generation (slice_get places name.index)

-- ---- which places are free

abbrev pub is_open : ℕ → Option AnyBinding → Bool
is_open generation None = nat_lt generation (2 ^ 64 - 1)
is_open generation (Some binding) = false

-- whether there is such a place, and it is free
abbrev pub is_free : Option Place → Bool
is_free None = false
is_free (Some place) = is_open place.generation place.binding

-- the free ones, and that place with them where its generation is not the greatest
abbrev pub released : List ℕ → ℕ → ℕ → List ℕ
released free index generation = if nat_lt generation (2 ^ 64 - 1) then free ++ index ∷ [] else free

-- 1 where the place of this index is free, and the index passes
abbrev pub weight : (ℕ → Bool) → ℕ → Place → ℕ
weight p index place = if is_free (Some place) then (if p index then 1 else 0) else 0

-- how many indices of free places pass, where the first place has this index
abbrev pub tally : (ℕ → Bool) → ℕ → List Place → ℕ
tally p index [] = 0
tally p index (place ∷ places) = weight p index place + tally p (suc index) places

-- a place that holds a binding has not the greatest generation
abbrev pub IsYoung : Option Place → Type 0
IsYoung None = Unit {0}
IsYoung (Some place) = IfSome place.binding (λ _. place.generation < 2 ^ 64 - 1)

-- each free place stands in the list once, and nothing else does; there is room for all
pub record IsWell (places : List Place) (free : List ℕ) (capacity : ℕ) : Type 0 where
  pub listed : (p : ℕ → Bool) → count_by p free ≡ tally p 0 places
  pub room : length places ≤ capacity
  pub young : (index : ℕ) → IsYoung (slice_get places index)

-- ---- the labels of the bindings

abbrev pub label_held : Option Place → Option ℕ
label_held None = None
label_held (Some place) = label_in place.binding

abbrev pub label_at : List Place → ℕ → Option ℕ
label_at places index = label_held (slice_get places index)

-- the labels are owned, each by one place
pub record AreReady (places : List Place) (space : Space) : Type 0 where
  pub owned : (index label : ℕ) → label_at places index ≡ Some label → IsOwned space label
  pub apart : (index other label : ℕ) → label_at places index ≡ Some label → label_at places other ≡ Some label → index ≡ other

-- the labels are free, and all else is as before
pub record AreEnded (places : List Place) (old new : Space) : Type 0 where
  pub freed : (index label : ℕ) → label_at places index ≡ Some label → state_of new label ≡ Some Free
  pub others : (label : ℕ) → ((index : ℕ) → label_at places index ≢ Some label) → state_of new label ≡ state_of old label
  pub life : new.life ≡ old.life
  pub count : length new.states ≡ length old.states
