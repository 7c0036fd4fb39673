-- How the uses of labels are kept: what is owned is held by a binding, which is found by its label.
use Rattle.std.specs.Prelude.{◌≡◌, ◌⊎◌, ℕ, suc, ◌+◌, Bool, true, false, List, [], ◌∷◌, Option, None, Some, is_some, if◌then◌else◌}
use Rattle.std.specs.FinMap as maps
use Rattle.mv_base.specs.declared.ids.NodeId.{NodeId}
use Rattle.mv_base.specs.contracts.ids.NodeIdPartialEq.TheImpl as nodes_equal
use Rattle.mldp.specs.declared.mldp_fec.fec.Fec.{Fec}
use Rattle.mldp.specs.contracts.mldp_fec.fec.FecPartialEq.TheImpl as fecs_equal
use Rattle.label_defs.specs.declared.label_use.LabelUse.{LabelUse}
use Rattle.label_defs.specs.declared.label_use.LabelUse.TheVariants as uses
use Rattle.label_defs.specs.LabelData.{first_label}
use Rattle.tunnel_bindings.specs.declared.binding.Incarnation.{Incarnation}
use Rattle.tunnel_bindings.specs.declared.name.BindingName.{BindingName}
use Rattle.tunnel_bindings.specs.declared.any_binding.AnyBinding.{AnyBinding}
use Rattle.tunnel_bindings.specs.declared.any_binding.AnyBinding.TheVariants as bindings
use Rattle.tunnel_bindings.specs.declared.state.LabelState.{LabelState}
use Rattle.tunnel_bindings.specs.declared.state.LabelState.TheVariants as states
use Rattle.tunnel_bindings.specs.Labels.{Space, set_label}
use Rattle.tunnel_bindings.specs.States.{label_of, with_free}
use Rattle.label_trees.specs.declared.label_uses.held.Held.{Held}
use Rattle.label_trees.specs.declared.label_uses.table.Waiting.{Waiting}
use Rattle.label_trees.specs.label_uses.Uses.{Uses}

-- whether both are one FEC, and one node, as `==` tells it
abbrev pub is_fec : Fec → Fec → Bool
is_fec = fecs_equal.ghosts.eq

abbrev pub is_node : NodeId → NodeId → Bool
is_node = nodes_equal.ghosts.eq

-- what the holder of a label uses it for
abbrev pub use_held : Held → LabelUse
use_held own = if own.leaving then uses.Leaving own.fec own.upstream else uses.Mapped own.fec own.upstream

-- what a label in that state is used for
abbrev pub use_by : LabelState → Option Held → LabelUse
use_by states.Free own = uses.Free
use_by (states.Resting until) own = uses.Resting until
use_by states.Owned None = uses.Free
use_by states.Owned (Some own) = use_held own

-- the same of each label, the first of which has this number
abbrev pub uses_from : ℕ → (ℕ → Option Held) → List LabelState → List LabelUse
uses_from label held [] = []
uses_from label held (state ∷ more) = use_by state (held label) ∷ uses_from (suc label) held more

-- the binding of a label that is held, which was told over that raise of the session
abbrev pub binding_of : ℕ → Held → Incarnation → AnyBinding
binding_of label own session =
    if own.leaving then
    bindings.Leaving (record { fec = own.fec; upstream = own.upstream; state = record { label = label; session = session } })
    else bindings.Mapped (record { fec = own.fec; upstream = own.upstream; state = record { label = label; session = session } })

-- the binding after its withdraw
abbrev pub left : AnyBinding → AnyBinding
left (bindings.Mapped b) =
    bindings.Leaving (record { fec = b.fec; upstream = b.upstream; state = record { label = b.state.label; session = b.state.session } })
left other = other

-- the label numbers after a release of what carries the label
abbrev pub rested : Space → ℕ → AnyBinding → Space
rested space now (bindings.Leaving binding) = set_label space binding.state.label (states.Resting (now + space.life + 1))
rested space now other = with_free space (label_of other)

-- the labels that are held towards the neighbour
abbrev pub labels_toward : NodeId → List (ℕ × Held) → List ℕ
labels_toward peer [] = []
labels_toward peer (own ∷ more) =
    if is_node own.1.upstream peer then own.0 ∷ labels_toward peer more else labels_toward peer more

-- a label that is held has its binding under its name, told over the present raise of the session
pub record IsBound (kept : BindingName → Option AnyBinding) (session : NodeId → Option Incarnation) (label : ℕ) (own : Held) : Type 0 where
  pub raise : Incarnation
  pub present : session own.upstream ≡ Some raise
  pub is : kept own.name ≡ Some (binding_of label own raise)

-- a label is held under that name
pub record IsNamed (held : ℕ → Option Held) (name : BindingName) : Type 0 where
  pub label : ℕ
  pub own : Held
  pub at : held label ≡ Some own
  pub is : own.name ≡ name

-- the label is held and mapped to the tree
pub record IsMapping (held : ℕ → Option Held) (label : ℕ) (fec : Fec) : Type 0 where
  pub own : Held
  pub at : held label ≡ Some own
  pub mapped : own.leaving ≡ false
  pub is : own.fec ≡ fec

-- the binding of a tree that waits
abbrev pub waiting_binding : Fec → Waiting → AnyBinding
waiting_binding fec own = bindings.Wanted (record { fec = fec; upstream = own.upstream; state = record {} })

-- a tree waits under that name
pub record IsAwaited (waiting : Fec → Option Waiting) (name : BindingName) : Type 0 where
  pub fec : Fec
  pub own : Waiting
  pub at : waiting fec ≡ Some own
  pub is : own.name ≡ name

-- the trees that wait, each with the neighbour towards which
abbrev pub towards : List (Fec × Waiting) → List (Fec × NodeId)
towards [] = []
towards (own ∷ more) = (own.0, own.1.upstream) ∷ towards more

-- what is seen of all
abbrev pub seen : Space → (ℕ → Option Held) → List (Fec × Waiting) → List (NodeId × Incarnation) → Uses
seen space held waiting sessions = record {
  life = space.life;
  labels = uses_from first_label held space.states;
  waiting = maps.from_entries (towards waiting);
  sessions = maps.from_entries sessions;
}

-- Exactly the labels that are owned are held, each by a binding of its own. Each tree that waits has a binding of its own. Nothing
-- else is kept. A tree leads to the label that is mapped to it.
pub record HoldsOwned
    (state : ℕ → Option LabelState) (held : ℕ → Option Held)
    (kept : BindingName → Option AnyBinding) (session : NodeId → Option Incarnation)
    (mapped : Fec → Option ℕ) (waiting : Fec → Option Waiting) : Type 0 where
  pub owned : (label : ℕ) (own : Held) → held label ≡ Some own → state label ≡ Some states.Owned
  pub all : (label : ℕ) → state label ≡ Some states.Owned → is_some (held label) ≡ true
  pub bound : (label : ℕ) (own : Held) → held label ≡ Some own → IsBound kept session label own
  pub named : (name : BindingName) → is_some (kept name) ≡ true → IsNamed held name ⊎ IsAwaited waiting name
  pub found : (label : ℕ) (own : Held) → held label ≡ Some own → own.leaving ≡ false → mapped own.fec ≡ Some label
  pub listed : (fec : Fec) (label : ℕ) → mapped fec ≡ Some label → IsMapping held label fec
  pub waits : (fec : Fec) (own : Waiting) → waiting fec ≡ Some own → kept own.name ≡ Some (waiting_binding fec own)
