-- Elements laid end to end: whole ones, the place of the first that is not, and the walk that finds it.
use Rattle.std.specs.Prelude.{◌≡◌, ◌≢◌, ℕ, zero, suc, ◌+◌, ◌-◌, ◌<◌, List, [], ◌∷◌, ◌++◌, length, Option, Some, None}
use Rattle.std.specs.List.{flat_map, AllByRecursion}
use Rattle.mv_base.specs.Octets.{IsOctets}

-- octets are whole elements, end to end; `text` spells an element, and `Is` is what an element meets
abbrev pub AreWhole : {T : Type 0} → (T → List ℕ) → (T → Type 0) → List ℕ → Type 0
AreWhole {T} text Is octets = (elements : List T) × AllByRecursion Is elements × (octets ≡ flat_map text elements)

-- whole elements stand before the offset, octets follow, and no element begins there
pub record StopsAt {T : Type 0} (text : T → List ℕ) (Is : T → Type 0) (octets : List ℕ) (offset : ℕ) : Type 0 where
  pub elements : List T
  pub rest : List ℕ
  pub whole : AllByRecursion Is elements
  pub parts : octets ≡ flat_map text elements ++ rest
  pub place : offset ≡ length (flat_map text elements)
  pub more : 0 < length rest
  pub none : (t : T) (after : List ℕ) → Is t → rest ≢ text t ++ after

-- the place of the first element that has no length, where so many octets are to be passed before one begins
unfoldable pub walk : (List ℕ → Option ℕ) → ℕ → ℕ → List ℕ → Option ℕ
walk len_of place passed [] = None
walk len_of place (suc passed) (b ∷ bs) = walk len_of (place + 1) passed bs
walk len_of place zero (b ∷ bs) = elim (len_of (b ∷ bs)) [ None ↦ Some place | Some len ↦ walk len_of (place + 1) (len - 1) bs ]

-- an element stands at the front, and so many octets it has
pub record Front {T : Type 0} (text : T → List ℕ) (Is : T → Type 0) (octets : List ℕ) (len : ℕ) : Type 0 where
  pub element : T
  pub after : List ℕ
  pub shape : Is element
  pub parts : octets ≡ text element ++ after
  pub size : len ≡ length (text element)

-- a length is found exactly where an element stands at the front, and it is that element's
pub record IsLen {T : Type 0} (len_of : List ℕ → Option ℕ) (text : T → List ℕ) (Is : T → Type 0) : Type 0 where
  pub taken : (octets : List ℕ) (len : ℕ) → IsOctets octets → len_of octets ≡ Some len → Front text Is octets len
  pub again : (t : T) (after : List ℕ) → Is t → len_of (text t ++ after) ≡ Some (length (text t))
  pub more : (t : T) → 0 < length (text t)
