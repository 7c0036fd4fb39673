-- What state a binding is in, and the label that it carries.
use Rattle.std.specs.Prelude.{ℕ, Option, None, Some}
use Rattle.tunnel_bindings.specs.declared.any_binding.AnyBinding.{AnyBinding}
use Rattle.tunnel_bindings.specs.declared.any_binding.AnyBinding.TheVariants.{Wanted, Mapped, Leaving}
use Rattle.tunnel_bindings.specs.declared.any_binding.BindingState.{BindingState}
use Rattle.tunnel_bindings.specs.declared.any_binding.BindingState.TheVariants as states
use Rattle.tunnel_bindings.specs.declared.state.LabelState.TheVariants.{Free}
use Rattle.tunnel_bindings.specs.Labels.{Space, set_label}

-- which state the binding is in, with its label where it has one
abbrev pub state_of_binding : AnyBinding → BindingState
state_of_binding (Wanted binding) = states.Wanted
state_of_binding (Mapped binding) = states.Mapped binding.state.label
state_of_binding (Leaving binding) = states.Leaving binding.state.label

-- the label that the binding has
abbrev pub label_of : AnyBinding → Option ℕ
label_of (Wanted binding) = None
label_of (Mapped binding) = Some binding.state.label
label_of (Leaving binding) = Some binding.state.label

-- the same, where there is a binding
abbrev pub label_in : Option AnyBinding → Option ℕ
label_in None = None
label_in (Some binding) = label_of binding

-- the label, where there is one, is free
abbrev pub with_free : Space → Option ℕ → Space
with_free space None = space
with_free space (Some label) = set_label space label Free
