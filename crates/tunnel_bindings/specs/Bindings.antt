-- Bindings under names, and which names were given.
use Rattle.std.specs.Prelude.{◌≡◌, ℕ, ◌<◌, List, [], ◌∷◌, slice_index, Some, refl}
use Rattle.std.specs.declared.cmp.Ordering.{Ordering}
use Rattle.std.specs.Ordering.{nat_cmp}
use Rattle.std.specs.Cmp.Lexicographic.{slice_cmp}
use Rattle.std.specs.Coded.{Coded, code_by, coded×, coded_list, coded_ℕ}
use Rattle.std.specs.FinMap as maps
use Rattle.std.specs.FinMap.{FinMap}
use Rattle.tunnel_bindings.specs.declared.name.BindingName.{BindingName}
use Rattle.tunnel_bindings.specs.declared.any_binding.AnyBinding.{AnyBinding}
use Rattle.tunnel_bindings.specs.contracts.any_binding.AnyBinding as bindings
use Rattle.tunnel_bindings.specs.States.{label_in}

-- names in order: by place, and then by generation
abbrev pub name_key : BindingName → List ℕ
name_key name = name.index ∷ name.generation ∷ []

abbrev pub name_cmp : BindingName → BindingName → Ordering
name_cmp name other = slice_cmp nat_cmp (name_key name) (name_key other)

-- The bindings by name. Of each place, how many names it has given: these are the generations below that number.
pub record Named : Type 0 where
  pub kept : FinMap name_cmp AnyBinding
  pub given : List ℕ

abbrev name_code : Coded BindingName
name_code =
    code_by (ℕ × ℕ) (coded× coded_ℕ coded_ℕ)
    (λ name. (name.index, name.generation)) (λ p. record { index = p.0; generation = p.1 }) (λ _. refl)

abbrev pub named_code : Coded Named
named_code =
    code_by (FinMap name_cmp AnyBinding × List ℕ) (coded× (maps.code name_code bindings.the_row.coded) (coded_list coded_ℕ))
    (λ n. (n.kept, n.given)) (λ p. record { kept = p.0; given = p.1 }) (λ _. refl)

-- the name was given
abbrev pub WasGiven : Named → BindingName → Type 0
WasGiven named name = name.generation < slice_index named.given name.index

-- a binding is kept under the name, and has the label
abbrev pub Carries : Named → BindingName → ℕ → Type 0
Carries named name label = label_in (maps.get named.kept name) ≡ Some label

-- no two of the bindings have one label
abbrev pub AreApart : Named → Type 0
AreApart named = (name other : BindingName) (label : ℕ) → Carries named name label → Carries named other label → name ≡ other
