-- What the labels of a node are used for, and which raise of each session is the present one.
use Rattle.std.specs.Prelude.{◌≡◌, ◌⊎◌, ℕ, ◌+◌, ◌-◌, ◌==◌, Bool, false, nat_lt, List, [], ◌∷◌, map, replicate, slice_get}
use Rattle.std.specs.Prelude.{slice_set, position, option_map, Option, None, Some, refl, if◌then◌else◌}
use Rattle.std.specs.Coded.{Coded, code_by, coded×, coded_list, coded_ℕ}
use Rattle.std.specs.FinMap as maps
use Rattle.std.specs.FinMap.{FinMap}
use Rattle.mv_base.specs.declared.ids.NodeId.{NodeId}
use Rattle.mldp.specs.declared.mldp_fec.fec.Fec.{Fec}
use Rattle.mldp.specs.contracts.mldp_fec.fec.Fec as fecs
use Rattle.label_defs.specs.declared.label_use.LabelUse.{LabelUse}
use Rattle.label_defs.specs.declared.label_use.LabelUse.TheVariants as uses
use Rattle.label_defs.specs.contracts.label_use.LabelUse as label_uses
use Rattle.label_defs.specs.Keys.{fec_cmp, node_cmp}
use Rattle.label_defs.specs.LabelData.{first_label, is_free, is_mapped}
use Rattle.label_defs.specs.Settling.{upstream_of}
use Rattle.label_defs.specs.Steps.{released, freed}
use Rattle.tunnel_bindings.specs.declared.binding.Incarnation.{Incarnation}
use Rattle.tunnel_bindings.specs.declared.any_binding.AnyBinding.TheVariants as bindings
use Rattle.tunnel_bindings.specs.declared.any_binding.AnyBinding.{AnyBinding}
use Rattle.tunnel_bindings.specs.Bindings.{Named, AreApart}
use Rattle.tunnel_bindings.specs.declared.name.BindingName.{BindingName}

-- How long a released label rests; what each label is used for, from label 16 on; the trees that wait for a label, each with the
-- neighbour towards which; and of each session that is up, which raise of it is the present one.
pub record Uses : Type 0 where
  pub life : ℕ
  pub labels : List LabelUse
  pub waiting : FinMap fec_cmp NodeId
  pub sessions : FinMap node_cmp Incarnation

abbrev node_code : Coded NodeId
node_code = code_by ℕ coded_ℕ (λ n. n.0) (λ n. record { 0 = n }) (λ _. refl)

abbrev incarnation_code : Coded Incarnation
incarnation_code = code_by ℕ coded_ℕ (λ s. s.0) (λ n. record { 0 = n }) (λ _. refl)

abbrev pub uses_code : Coded Uses
uses_code = code_by (ℕ × (List LabelUse × (FinMap fec_cmp NodeId × FinMap node_cmp Incarnation)))
    (coded× coded_ℕ
    (coded× (coded_list label_uses.the_row.coded) (coded× (maps.code fecs.the_row.coded node_code) (maps.code node_code incarnation_code))))
    (λ u. (u.life, (u.labels, (u.waiting, u.sessions))))
    (λ p. record { life = p.0; labels = p.1.0; waiting = p.1.1.0; sessions = p.1.1.1 }) (λ _. refl)

-- nothing is mapped or waits, and no session is up
abbrev pub unused : ℕ → ℕ → Uses
unused life count = record { life = life; labels = replicate count uses.Free; waiting = maps.empty; sessions = maps.empty }

-- what the label is used for, where the node has it
abbrev pub use_in : List LabelUse → ℕ → Option LabelUse
use_in labels label = if nat_lt label first_label then None else slice_get labels (label - first_label)

-- the label, one of the node's, alone is used so
abbrev pub set_use : List LabelUse → ℕ → LabelUse → List LabelUse
set_use labels label usage = slice_set labels (label - first_label) usage

-- the least free label
abbrev pub free_in : List LabelUse → Option ℕ
free_in labels = option_map (λ place. first_label + place) (position is_free labels)

-- the label that is mapped to the tree
abbrev pub mapped_in : List LabelUse → Fec → Option ℕ
mapped_in labels fec = option_map (λ place. first_label + place) (position (is_mapped fec) labels)

-- the labels once this one, where there is one, is mapped
abbrev pub with_mapping : List LabelUse → Option ℕ → Fec → NodeId → List LabelUse
with_mapping labels None fec upstream = labels
with_mapping labels (Some label) fec upstream = set_use labels label (uses.Mapped fec upstream)

-- the same, and the tree waits no longer
abbrev pub with_mapped : Uses → Option ℕ → Fec → NodeId → Uses
with_mapped old label fec upstream =
    record old { labels = with_mapping old.labels label fec upstream; waiting = maps.remove old.waiting fec }

-- the labels after a release by the neighbour of the label for the tree
abbrev pub with_released : List LabelUse → NodeId → Fec → ℕ → ℕ → List LabelUse
with_released labels from fec label until = elim (use_in labels label) [
  | None ↦ labels
  | Some usage ↦ set_use labels label (released from fec until usage)
]

-- whether the use is towards the neighbour: mapped, or leaving
abbrev pub is_toward : NodeId → Option LabelUse → Bool
is_toward peer usage = elim (upstream_of usage) [ None ↦ false | Some upstream ↦ upstream.0 == peer.0 ]

-- the labels and sessions after the loss of the session with the neighbour
abbrev pub without : NodeId → Uses → Uses
without peer old = record old { labels = map (freed peer) old.labels; sessions = maps.remove old.sessions peer }

-- the labels once this one is free, where it is mapped or leaving towards the neighbour
abbrev pub lost_at : NodeId → List LabelUse → ℕ → List LabelUse
lost_at peer labels label = elim (use_in labels label) [ None ↦ labels | Some usage ↦ set_use labels label (freed peer usage) ]

-- the same of each of these labels
abbrev pub lost_all : NodeId → List LabelUse → List ℕ → List LabelUse
lost_all peer labels [] = labels
lost_all peer labels (label ∷ more) = lost_all peer (lost_at peer labels label) more

-- ---- bindings

-- the binding that carries a label which is used so, where that raise of its session is the present one
abbrev pub binding_for : ℕ → LabelUse → Incarnation → Option AnyBinding
binding_for label (uses.Mapped fec upstream) session =
    Some (bindings.Mapped (record { fec = fec; upstream = upstream; state = record { label = label; session = session } }))
binding_for label (uses.Leaving fec upstream) session =
    Some (bindings.Leaving (record { fec = fec; upstream = upstream; state = record { label = label; session = session } }))
binding_for label other session = None

-- the binding of a tree that waits
abbrev pub awaiting : Fec → NodeId → AnyBinding
awaiting fec upstream = bindings.Wanted (record { fec = fec; upstream = upstream; state = record {} })

-- the binding carries a label that is mapped or leaving, and was told over the present raise of its session
pub record IsOfLabel (own : Uses) (binding : AnyBinding) : Type 0 where
  pub label : ℕ
  pub usage : LabelUse
  pub upstream : NodeId
  pub session : Incarnation
  pub used : use_in own.labels label ≡ Some usage
  pub toward : upstream_of (Some usage) ≡ Some upstream
  pub present : maps.get own.sessions upstream ≡ Some session
  pub is : binding_for label usage session ≡ Some binding

-- the binding is that of a tree that waits
pub record IsOfTree (own : Uses) (binding : AnyBinding) : Type 0 where
  pub fec : Fec
  pub upstream : NodeId
  pub waits : maps.get own.waiting fec ≡ Some upstream
  pub is : awaiting fec upstream ≡ binding

-- Each label that is mapped or leaving is carried by one of the bindings, which is of its tree and neighbour, and was told over the
-- present raise of the session with it. Each tree that waits has a binding that waits. There is no other binding: no two carry one
-- label, and no two wait for one tree.
pub record AreBindings (own : Uses) (named : Named) : Type 0 where
  pub carried :
      (label : ℕ) (usage : LabelUse) (upstream : NodeId) → use_in own.labels label ≡ Some usage → upstream_of (Some usage) ≡ Some upstream →
      (session : Incarnation) × (name : BindingName) × (maps.get own.sessions upstream ≡ Some session)
      × (maps.get named.kept name ≡ binding_for label usage session)
  pub awaited :
      (fec : Fec) (upstream : NodeId) → maps.get own.waiting fec ≡ Some upstream →
      (name : BindingName) × (maps.get named.kept name ≡ Some (awaiting fec upstream))
  pub each :
      (name : BindingName) (binding : AnyBinding) → maps.get named.kept name ≡ Some binding →
      IsOfLabel own binding ⊎ IsOfTree own binding
  pub apart : AreApart named
  pub once :
      (name other : BindingName) (fec : Fec) (upstream toward : NodeId) → maps.get named.kept name ≡ Some (awaiting fec upstream) →
      maps.get named.kept other ≡ Some (awaiting fec toward) → name ≡ other
