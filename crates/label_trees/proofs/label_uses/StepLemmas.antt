-- The calls on the labels of a node, each as a change of what is kept and of what is seen.
use Rattle.std.proofs.Common.{inl, inr, ◌⊎◌, ◌≡◌, ℕ, ◌+◌, ◌&&◌, Bool, true, false, not, cond, nat_eq, List, [], ◌∷◌, Option, Some, None, option_map, refl, sym, ap, subst, ◌∙◌}
use Rattle.std.specs.Prelude.{IfSome}
use Rattle.std.specs.Map.{lookup}
use Rattle.std.specs.FinMap as maps
use Rattle.std.specs.FinMap.{FinMap, find}
use Rattle.std.specs.Ordering.{eq_by_cmp, is_eq}
use Rattle.std.specs.Cmp.{tied_itself, Equal-is}
use Rattle.std.specs.declared.hash.FoldHasher.{FoldHasher}
use Rattle.std.specs.declared.hash.BuildHasherDefault.{BuildHasherDefault}
use Rattle.std.proofs.lemmas.Bool.{cases_eq, eq-eqb, ne_eqb}
use Rattle.std.proofs.lemmas.Option.{same_Some}
use Rattle.indexmap.specs.IndexMap.{IndexMap, get}
use Rattle.mv_base.specs.declared.ids.NodeId.{NodeId}
use Rattle.mldp.specs.declared.mldp_fec.fec.Fec.{Fec}
use Rattle.label_defs.specs.declared.label_use.LabelUse.{LabelUse}
use Rattle.label_defs.specs.declared.label_use.LabelUse.TheVariants as uses
use Rattle.label_defs.specs.Keys.{node_cmp}
use Rattle.label_defs.specs.Steps.{freed, released}
use Rattle.label_defs.proofs.KeyLemmas.{node_cmp_total, node_cmp_exact}
use Rattle.tunnel_bindings.specs.declared.binding.Incarnation.{Incarnation}
use Rattle.tunnel_bindings.specs.declared.binding.Binding.{Binding}
use Rattle.tunnel_bindings.specs.declared.binding.Wanted.{Wanted}
use Rattle.tunnel_bindings.specs.declared.binding.Mapped.{Mapped}
use Rattle.tunnel_bindings.specs.declared.name.BindingName.{BindingName}
use Rattle.tunnel_bindings.specs.declared.any_binding.AnyBinding.{AnyBinding}
use Rattle.tunnel_bindings.specs.declared.any_binding.AnyBinding.TheVariants as bindings
use Rattle.tunnel_bindings.specs.declared.state.LabelState.{LabelState}
use Rattle.tunnel_bindings.specs.declared.state.LabelState.TheVariants as states
use Rattle.tunnel_bindings.specs.Bindings.{name_cmp}
use Rattle.tunnel_bindings.specs.Labels.{Space, state_of, set_label, IsOwned, IsLeastFree}
use Rattle.tunnel_bindings.specs.States.{label_of}
use Rattle.label_forwarding.proofs.SlotLemmas.{fec-ties}
use Rattle.label_trees.specs.declared.label_uses.held.Held.{Held}
use Rattle.label_trees.specs.declared.label_uses.table.Waiting.{Waiting}
use Rattle.label_trees.specs.label_uses.Uses.{use_in, set_use, lost_at, with_released}
use Rattle.label_trees.specs.label_uses.Held.{is_fec, is_node, use_held, use_by, uses_from, binding_of, left, rested, HoldsOwned}
use Rattle.label_trees.proofs.label_uses.TableLemmas.{Sets, sets_at, sets_label, sets_fec, name_kept, name_gone, state_set, one_fec}
use Rattle.label_trees.proofs.label_uses.HoldLemmas.{Leaves, same_own, not_none, holds_more, holds_less}
use Rattle.label_trees.proofs.label_uses.ListLemmas.{use_is, use_set, label_back, held_of_use, set_used}

abbrev pub HeldMap : Type 0
HeldMap = IndexMap ℕ Held (BuildHasherDefault FoldHasher)

abbrev pub TreeMap : Type 0
TreeMap = IndexMap Fec ℕ (BuildHasherDefault FoldHasher)

abbrev pub WaitingMap : Type 0
WaitingMap = IndexMap Fec Waiting (BuildHasherDefault FoldHasher)

abbrev pub SessionMap : Type 0
SessionMap = IndexMap NodeId Incarnation (BuildHasherDefault FoldHasher)

abbrev pub Kept : Type 0
Kept = FinMap name_cmp AnyBinding

-- ---- what is looked up

pub node-ties : (a b : NodeId) → is_node a b ≡ eq_by_cmp node_cmp a b
node-ties a b = elim (cases_eq a.0 b.0) [
  | inl e ↦
      (let same : a ≡ b = λ i. record { 0 = e i } in
      eq-eqb a.0 b.0 e ∙ sym (ap (λ (x : NodeId). eq_by_cmp node_cmp a x) (sym same) ∙ ap is_eq (tied_itself node_cmp_total a)))
  | inr ne ↦ ne_eqb a.0 b.0 ne ∙ sym (untied_node ne (eq_by_cmp node_cmp a b) refl)
]
  where
    untied_node : (a.0 ≡ b.0 → ⊥) → (t : Bool) → eq_by_cmp node_cmp a b ≡ t → eq_by_cmp node_cmp a b ≡ false
    untied_node ne true t = absurd (ne (ap (λ (n : NodeId). n.0) (node_cmp_exact a b ((Equal-is (node_cmp a b)).0 t))))
    untied_node ne false t = t

find-lookup : (es : List (NodeId × Incarnation)) (q : NodeId) → find node_cmp q es ≡ lookup (is_node q) es
find-lookup [] q = refl
find-lookup (e ∷ es) q = λ i. cond (sym (node-ties q e.0) i) (Some e.1) (find-lookup es q i)

pub session_seen : (sessions : SessionMap) (q : NodeId) → maps.get (maps.from_entries {R = node_cmp} sessions.entries) q ≡ get is_node sessions q
session_seen sessions q = maps.get-from_entries node_cmp_total sessions.entries q ∙ find-lookup sessions.entries q

-- tables whose entries are the same
pub same_tables : (space : Space) (h h' : HeldMap) (k : BindingName → Option AnyBinding) (s : NodeId → Option Incarnation) (m m' : TreeMap)
    (w : Fec → Option Waiting) → h'.entries ≡ h.entries → m'.entries ≡ m.entries
    → HoldsOwned (state_of space) (get nat_eq h) k s (get is_fec m) w → HoldsOwned (state_of space) (get nat_eq h') k s (get is_fec m') w
same_tables space h h' k s m m' w he me holds =
    subst (λ (es : List (ℕ × Held)). HoldsOwned (state_of space) (λ q. lookup (nat_eq q) es) k s (get is_fec m') w) (sym he)
    (subst (λ (es : List (Fec × ℕ)). HoldsOwned (state_of space) (get nat_eq h) k s (λ q. lookup (is_fec q) es) w) (sym me) holds)

-- ---- a label is mapped

pub mapped_binding : (w : Binding Wanted) (m : Binding Mapped) (fec : Fec) (upstream : NodeId) (name : BindingName) (session : Incarnation)
    (label : ℕ)
    → w ≡ record { fec = fec; upstream = upstream; state = record {} }
    → m ≡ record { fec = w.fec; upstream = w.upstream; state = record { label = m.state.label; session = session } } → label ≡ m.state.label
    → bindings.Mapped m ≡ binding_of label (record { fec = fec; upstream = upstream; leaving = false; name = name }) session
mapped_binding w m fec upstream name session label wanted mapped same =
    let l = sym same in
    ap bindings.Mapped (mapped ∙ λ i. record {
      fec = (wanted i).fec;
      upstream = (wanted i).upstream;
      state =
          record { label = l i; session = session };
    })

pub map_holds : (space space' : Space) (h h' : HeldMap) (k k' : Kept) (s : NodeId → Option Incarnation) (m m' : TreeMap) (w : Fec → Option Waiting)
    (label : ℕ) (own : Held) (raise : Incarnation) (b : AnyBinding)
    → HoldsOwned (state_of space) (get nat_eq h) (maps.get k) s (get is_fec m) w → IsLeastFree space label
    → space' ≡ set_label space label states.Owned
    → ((other : ℕ) → get nat_eq h' other ≡ cond (nat_eq label other) (Some own) (get nat_eq h other))
    → maps.get k own.name ≡ None → k' ≡ maps.insert k own.name b → b ≡ binding_of label own raise → s own.upstream ≡ Some raise
    → get is_fec m own.fec ≡ None → ((other : Fec) → get is_fec m' other ≡ cond (is_fec own.fec other) (Some label) (get is_fec m other))
    → own.leaving ≡ false
    → HoldsOwned (state_of space') (get nat_eq h') (maps.get k') s (get is_fec m') w
map_holds space space' h h' k k' s m m' w label own raise b holds least spaces held fresh kept binding up unmapped trees mapped =
    let free = none_held (get nat_eq h label) refl in
    let sets =
    subst (λ (x : Space). Sets (state_of space) (state_of x) label (Some states.Owned)) (sym spaces)
    (state_set space label states.Free states.Owned least.free) in
    let names = subst (λ (x : Kept). Sets (maps.get k) (maps.get x) own.name (Some (binding_of label own raise))) (sym kept)
    (subst (λ (x : AnyBinding). Sets (maps.get k) (maps.get (maps.insert k own.name b)) own.name (Some x)) binding (name_kept k own.name b)) in
    let tree = sets_fec (get is_fec m) (get is_fec m') own.fec (Some label) trees in
    holds_more (state_of space) (state_of space') (get nat_eq h) (get nat_eq h') (maps.get k) (maps.get k') s (get is_fec m) (get is_fec m') w label
    own raise
    holds free fresh up sets (sets_label (get nat_eq h) (get nat_eq h') label (Some own) held) names
    (record {
      more = λ fec other e. more tree fec other e;
      still = λ fec other e. tree.others fec (λ is. not_none (get is_fec m fec) other e (ap (get is_fec m) is ∙ unmapped)) ∙ e;
      mine = λ l. tree.here;
    })
  where
    none_held : (o : Option Held) → get nat_eq h label ≡ o → o ≡ None
    none_held None e = refl
    none_held (Some x) e =
        absurd (let owned = holds.owned label x e in let free = least.free in let both : Some states.Owned ≡ Some states.Free = sym owned ∙ free in
        cc)

    more : Sets (get is_fec m) (get is_fec m') own.fec (Some label) → (fec : Fec) (other : ℕ) → get is_fec m' fec ≡ Some other
        → (get is_fec m fec ≡ Some other) ⊎ ((other ≡ label) × (fec ≡ own.fec) × (own.leaving ≡ false))
    more tree fec other e = elim (one_fec fec own.fec) [
      | inl is ↦ inr (sym (same_Some label other (sym tree.here ∙ (ap (get is_fec m') (sym is) ∙ e))), is, mapped)
      | inr ne ↦ inl (sym (tree.others fec ne) ∙ e)
    ]

pub map_labels : (space space' : Space) (h h' : HeldMap) (label : ℕ) (own : Held) → IsLeastFree space label
    → space' ≡ set_label space label states.Owned
    → ((other : ℕ) → get nat_eq h' other ≡ cond (nat_eq label other) (Some own) (get nat_eq h other))
    → uses_from 16 (get nat_eq h') space'.states ≡ set_use (uses_from 16 (get nat_eq h) space.states) label (use_held own)
map_labels space space' h h' label own least spaces held =
    let sets = sets_label (get nat_eq h) (get nat_eq h') label (Some own) held in
    ap (λ (x : Space). uses_from 16 (get nat_eq h') x.states) spaces
    ∙ (use_set space (get nat_eq h) (get nat_eq h') label states.Free states.Owned least.free sets.others
    ∙ ap (λ (o : Option Held). set_use (uses_from 16 (get nat_eq h) space.states) label (use_by states.Owned o)) sets.here)

-- a label that is taken, and given back: the label numbers are as before
pub given_back : (space space' space'' : Space) (label : ℕ) → IsLeastFree space label → space' ≡ set_label space label states.Owned
    → space'' ≡ set_label space' label states.Free → space'' ≡ space
given_back space space' space'' label least one two =
    two ∙ (ap (λ (x : Space). set_label x label states.Free) one ∙ label_back space label states.Free states.Owned least.free)

-- ---- a label goes

pub binding_label : (label : ℕ) (own : Held) (raise : Incarnation) → label_of (binding_of label own raise) ≡ Some label
binding_label label own raise = by own.leaving
  where
    by : (b : Bool) → label_of (cond b (bindings.Leaving
        (record { fec = own.fec; upstream = own.upstream; state = record { label = label; session = raise } }))
        (bindings.Mapped (record { fec = own.fec; upstream = own.upstream; state = record { label = label; session = raise } }))) ≡ Some label
    by true = refl
    by false = refl

pub owned_if : (space : Space) (b : AnyBinding) (label : ℕ) → label_of b ≡ Some label → IsOwned space label
    → IfSome (label_of b) (λ l. IsOwned space l)
owned_if space b label is owned = subst (λ (o : Option ℕ). IfSome o (λ l. IsOwned space l)) (sym is) owned

pub less_holds : (space space' : Space) (h h' : HeldMap) (k k' : Kept) (s : NodeId → Option Incarnation) (g g' : Fec → Option ℕ)
    (w : Fec → Option Waiting) (label : ℕ) (own : Held) (new : LabelState)
    → HoldsOwned (state_of space) (get nat_eq h) (maps.get k) s g w → get nat_eq h label ≡ Some own → (Some new ≡ Some states.Owned → ⊥)
    → space' ≡ set_label space label new
    → ((other : ℕ) → get nat_eq h' other ≡ cond (nat_eq label other) None (get nat_eq h other)) → k' ≡ maps.remove k own.name → Leaves g g' label
    → HoldsOwned (state_of space') (get nat_eq h') (maps.get k') s g' w
less_holds space space' h h' k k' s g g' w label own new holds at free spaces held kept leaves =
    let sets =
    subst (λ (x : Space). Sets (state_of space) (state_of x) label (Some new)) (sym spaces)
    (state_set space label states.Owned new (holds.owned label own at)) in
    let names = subst (λ (x : Kept). Sets (maps.get k) (maps.get x) own.name None) (sym kept) (name_gone k own.name) in
    holds_less (state_of space) (state_of space') (get nat_eq h) (get nat_eq h') (maps.get k) (maps.get k') s g g' w label own (Some new) holds at
    free sets
    (sets_label (get nat_eq h) (get nat_eq h') label None held) names leaves

pub less_labels : (space space' : Space) (h h' : HeldMap) (label : ℕ) (old new : LabelState) → state_of space label ≡ Some old
    → space' ≡ set_label space label new
    → ((other : ℕ) → get nat_eq h' other ≡ cond (nat_eq label other) None (get nat_eq h other))
    → uses_from 16 (get nat_eq h') space'.states ≡ set_use (uses_from 16 (get nat_eq h) space.states) label (use_by new (get nat_eq h' label))
less_labels space space' h h' label old new at spaces held =
    let sets = sets_label (get nat_eq h) (get nat_eq h') label None held in
    ap (λ (x : Space). uses_from 16 (get nat_eq h') x.states) spaces ∙ use_set space (get nat_eq h) (get nat_eq h') label old new at sets.others

module _ (st : ℕ → Option LabelState) (f : ℕ → Option Held) (k : BindingName → Option AnyBinding) (s : NodeId → Option Incarnation)
    (g : Fec → Option ℕ) (w : Fec → Option Waiting) (holds : HoldsOwned st f k s g w) where
  -- no tree leads to a label that is leaving
  pub leaves_alike : (g' : Fec → Option ℕ) (label : ℕ) (own : Held) → f label ≡ Some own → own.leaving ≡ true → ((fec : Fec) → g' fec ≡ g fec)
      → Leaves g g' label
  leaves_alike g' label own at gone alike = record {
    fewer = λ fec other e. (sym (alike fec) ∙ e, λ is. not_led fec other (sym (alike fec) ∙ e) is);
    still = λ fec other e ne. alike fec ∙ e;
  }
    where
      not_led : (fec : Fec) (other : ℕ) → g fec ≡ Some other → other ≡ label → ⊥
      not_led fec other e is =
          let m = holds.listed fec other e in
          let same : m.own ≡ own = same_own (f label) m.own own (ap f (sym is) ∙ m.at) at in
          let no : true ≡ false = sym gone ∙ (ap (λ (x : Held). x.leaving) (sym same) ∙ m.mapped) in
          absurd cc

  -- the tree of a mapped label leads nowhere any more
  pub leaves_cut : (g' : Fec → Option ℕ) (label : ℕ) (own : Held) → f label ≡ Some own → own.leaving ≡ false → Sets g g' own.fec None
      → Leaves g g' label
  leaves_cut g' label own at mapped sets = record {
    fewer = λ fec other e. elim (one_fec fec own.fec) [
      | inl is ↦ absurd (not_none (g' fec) other e (ap g' is ∙ sets.here))
      | inr ne ↦ (sym (sets.others fec ne) ∙ e, λ is. ne (tree fec other (sym (sets.others fec ne) ∙ e) is))
    ];
    still = λ fec other e apart. elim (one_fec fec own.fec) [
      | inl is ↦ absurd (apart (same_Some other label (sym e ∙ (ap g is ∙ holds.found label own at mapped))))
      | inr ne ↦ sets.others fec ne ∙ e
    ];
  }
    where
      tree : (fec : Fec) (other : ℕ) → g fec ≡ Some other → other ≡ label → fec ≡ own.fec
      tree fec other e is =
          let m = holds.listed fec other e in
          sym m.is ∙ ap (λ (x : Held). x.fec) (same_own (f label) m.own own (ap f (sym is) ∙ m.at) at)

  -- either of both
  pub leaves_of : (g' : Fec → Option ℕ) (label : ℕ) (own : Held) → f label ≡ Some own
      → ((other : Fec) → g' other ≡ cond (not own.leaving && is_fec own.fec other) None (g other)) → Leaves g g' label
  leaves_of g' label own at each = by own.leaving refl
    where
      by : (b : Bool) → own.leaving ≡ b → Leaves g g' label
      by true e = leaves_alike g' label own at e (λ fec. each fec ∙ ap (λ (b : Bool). cond (not b && is_fec own.fec fec) None (g fec)) e)
      by false e =
          leaves_cut g' label own at e (sets_fec g g' own.fec None
          (λ fec. each fec ∙ ap (λ (b : Bool). cond (not b && is_fec own.fec fec) None (g fec)) e))

-- ---- a label is lost

pub freed_own : (peer : NodeId) (own : Held) (t : Bool) → nat_eq own.upstream.0 peer.0 ≡ t
    → freed peer (use_held own) ≡ cond t uses.Free (use_held own)
freed_own peer own t is = by own.leaving
  where
    by : (b : Bool) → freed peer (cond b (uses.Leaving own.fec own.upstream) (uses.Mapped own.fec own.upstream))
        ≡ cond t uses.Free (cond b (uses.Leaving own.fec own.upstream) (uses.Mapped own.fec own.upstream))
    by true = ap (λ (x : Bool). cond x uses.Free (uses.Leaving own.fec own.upstream)) is
    by false = ap (λ (x : Bool). cond x uses.Free (uses.Mapped own.fec own.upstream)) is

abbrev pub lost_use : NodeId → List LabelUse → ℕ → Option LabelUse → List LabelUse
lost_use peer labels label o = elim o [ None ↦ labels | Some usage ↦ set_use labels label (freed peer usage) ]

pub lost_here : (peer : NodeId) (labels : List LabelUse) (label : ℕ) (own : Held) → use_in labels label ≡ Some (use_held own)
    → nat_eq own.upstream.0 peer.0 ≡ true → lost_at peer labels label ≡ set_use labels label uses.Free
lost_here peer labels label own at is = ap (lost_use peer labels label) at ∙ ap (set_use labels label) (freed_own peer own true is)

pub lost_other : (peer : NodeId) (labels : List LabelUse) (label : ℕ) (own : Held) → use_in labels label ≡ Some (use_held own)
    → nat_eq own.upstream.0 peer.0 ≡ false → lost_at peer labels label ≡ labels
lost_other peer labels label own at is =
    ap (lost_use peer labels label) at ∙ (ap (set_use labels label) (freed_own peer own false is) ∙ set_used labels label (use_held own) at)

-- a label that is not held is neither mapped nor leaving
pub data Idle : Option LabelUse → Type 0 where
  NoLabel : Idle None
  IsFree : Idle (Some uses.Free)
  Rests : (until : ℕ) → Idle (Some (uses.Resting until))

pub idle : (space : Space) (f : ℕ → Option Held) (label : ℕ) → f label ≡ None → Idle (use_in (uses_from 16 f space.states) label)
idle space f label none = subst Idle (sym (use_is space f label)) (by (state_of space label))
  where
    by : (o : Option LabelState) → Idle (option_map (λ st. use_by st (f label)) o)
    by None = NoLabel
    by (Some states.Free) = IsFree
    by (Some (states.Resting until)) = Rests until
    by (Some states.Owned) = subst (λ (x : Option Held). Idle (Some (use_by states.Owned x))) (sym none) IsFree

pub idle_freed : (peer : NodeId) (o : Option LabelUse) → Idle o → option_map (freed peer) o ≡ o
idle_freed peer None NoLabel = refl
idle_freed peer (Some uses.Free) IsFree = refl
idle_freed peer (Some (uses.Resting until)) (Rests again) = refl
idle_freed peer (Some (uses.Mapped fec up)) i = elim i [ ]
idle_freed peer (Some (uses.Leaving fec up)) i = elim i [ ]

pub lost_stays : (peer : NodeId) (labels : List LabelUse) (label : ℕ) → Idle (use_in labels label) → lost_at peer labels label ≡ labels
lost_stays peer labels label i = by (use_in labels label) refl i
  where
    by : (o : Option LabelUse) → use_in labels label ≡ o → Idle o → lost_use peer labels label (use_in labels label) ≡ labels
    by None e NoLabel = ap (lost_use peer labels label) e
    by (Some uses.Free) e IsFree = ap (lost_use peer labels label) e ∙ set_used labels label uses.Free e
    by (Some (uses.Resting until)) e (Rests again) = ap (lost_use peer labels label) e ∙ set_used labels label (uses.Resting until) e
    by (Some (uses.Mapped fec up)) e i = elim i [ ]
    by (Some (uses.Leaving fec up)) e i = elim i [ ]

-- ---- a label is released

-- whether a holder is leaving towards the neighbour, for that tree
abbrev pub leaves_to : Held → Fec → NodeId → Bool
leaves_to own fec from = own.leaving && (is_fec own.fec fec && is_node own.upstream from)

released_own : (from : NodeId) (fec : Fec) (until : ℕ) (own : Held) (t : Bool) → leaves_to own fec from ≡ t
    → released from fec until (use_held own) ≡ cond t (uses.Resting until) (use_held own)
released_own from fec until own t is = by own.leaving is
  where
    by : (b : Bool) → (b && (is_fec own.fec fec && is_node own.upstream from)) ≡ t
        → released from fec until (cond b (uses.Leaving own.fec own.upstream) (uses.Mapped own.fec own.upstream))
        ≡ cond t (uses.Resting until) (cond b (uses.Leaving own.fec own.upstream) (uses.Mapped own.fec own.upstream))
    by true e =
        ap (λ (x : Bool). cond (x && is_node own.upstream from) (uses.Resting until) (uses.Leaving own.fec own.upstream)) (sym (fec-ties own.fec fec))
        ∙ ap (λ (x : Bool). cond x (uses.Resting until) (uses.Leaving own.fec own.upstream)) e
    by false e = ap (λ (x : Bool). cond x (uses.Resting until) (uses.Mapped own.fec own.upstream)) e

abbrev release_use : NodeId → Fec → ℕ → List LabelUse → ℕ → Option LabelUse → List LabelUse
release_use from fec until labels label o = elim o [ None ↦ labels | Some usage ↦ set_use labels label (released from fec until usage) ]

pub released_here : (from : NodeId) (fec : Fec) (until : ℕ) (labels : List LabelUse) (label : ℕ) (own : Held)
    → use_in labels label ≡ Some (use_held own) → leaves_to own fec from ≡ true
    → with_released labels from fec label until ≡ set_use labels label (uses.Resting until)
released_here from fec until labels label own at is =
    ap (release_use from fec until labels label) at ∙ ap (set_use labels label) (released_own from fec until own true is)

pub released_other : (from : NodeId) (fec : Fec) (until : ℕ) (labels : List LabelUse) (label : ℕ) (own : Held)
    → use_in labels label ≡ Some (use_held own) → leaves_to own fec from ≡ false
    → with_released labels from fec label until ≡ labels
released_other from fec until labels label own at is =
    ap (release_use from fec until labels label) at
    ∙ (ap (set_use labels label) (released_own from fec until own false is) ∙ set_used labels label (use_held own) at)

pub released_stays : (from : NodeId) (fec : Fec) (until : ℕ) (labels : List LabelUse) (label : ℕ) → Idle (use_in labels label)
    → with_released labels from fec label until ≡ labels
released_stays from fec until labels label i = by (use_in labels label) refl i
  where
    by : (o : Option LabelUse) → use_in labels label ≡ o → Idle o → release_use from fec until labels label (use_in labels label) ≡ labels
    by None e NoLabel = ap (release_use from fec until labels label) e
    by (Some uses.Free) e IsFree = ap (release_use from fec until labels label) e ∙ set_used labels label uses.Free e
    by (Some (uses.Resting again)) e (Rests later) = ap (release_use from fec until labels label) e ∙ set_used labels label (uses.Resting again) e
    by (Some (uses.Mapped tree up)) e i = elim i [ ]
    by (Some (uses.Leaving tree up)) e i = elim i [ ]

and_true : (a b : Bool) → (a && b) ≡ true → a ≡ true
and_true true b e = refl
and_true false b e = absurd cc

pub leaves_leaving : (own : Held) (fec : Fec) (from : NodeId) → leaves_to own fec from ≡ true → own.leaving ≡ true
leaves_leaving own fec from e = and_true own.leaving (is_fec own.fec fec && is_node own.upstream from) e

pub rested_is : (space : Space) (now label : ℕ) (own : Held) (raise : Incarnation) (b : AnyBinding) → b ≡ binding_of label own raise
    → own.leaving ≡ true → rested space now b ≡ set_label space label (states.Resting (now + space.life + 1))
rested_is space now label own raise b is gone = ap (rested space now) is ∙ by own.leaving gone
  where
    by : (c : Bool) → c ≡ true
        → rested space now (cond c (bindings.Leaving
        (record { fec = own.fec; upstream = own.upstream; state = record { label = label; session = raise } }))
        (bindings.Mapped (record { fec = own.fec; upstream = own.upstream; state = record { label = label; session = raise } })))
        ≡ set_label space label (states.Resting (now + space.life + 1))
    by true e = refl
    by false e = absurd cc

-- ---- a label is withdrawn

pub left_label : (b : AnyBinding) → label_of (left b) ≡ label_of b
left_label (bindings.Mapped b) = refl
left_label (bindings.Leaving b) = refl
left_label (bindings.Wanted b) = refl

-- the holder of a mapped label
pub record IsMapped (f : ℕ → Option Held) (label : ℕ) (fec : Fec) (upstream : NodeId) (own : Held) : Type 0 where
  pub at : f label ≡ Some own
  pub mapped : own.leaving ≡ false
  pub tree : own.fec ≡ fec
  pub toward : own.upstream ≡ upstream

pub mapped_own : (space : Space) (f : ℕ → Option Held) (k : BindingName → Option AnyBinding) (s : NodeId → Option Incarnation) (g : Fec → Option ℕ)
    (w : Fec → Option Waiting) → HoldsOwned (state_of space) f k s g w
    → (label : ℕ) (fec : Fec) (upstream : NodeId) → use_in (uses_from 16 f space.states) label ≡ Some (uses.Mapped fec upstream)
    → (own : Held) × IsMapped f label fec upstream own
mapped_own space f k s g w holds label fec upstream e =
    let x = held_of_use space f k s g w holds label (uses.Mapped fec upstream) e (λ u. absurd cc) (λ until u. absurd cc) in
    (x.0, by x.0 x.1 x.0.leaving refl x.2)
  where
    by : (own : Held) → f label ≡ Some own → (b : Bool) → own.leaving ≡ b
        → uses.Mapped fec upstream ≡ cond b (uses.Leaving own.fec own.upstream) (uses.Mapped own.fec own.upstream) → IsMapped f label fec upstream own
    by own at true l u = absurd cc
    by own at false l u =
        (let tree : own.fec ≡ fec = cc in let toward : own.upstream ≡ upstream = cc in record { at = at; mapped = l; tree = tree; toward = toward })

pub leaving_binding : (label : ℕ) (own : Held) (raise : Incarnation) (b : AnyBinding) (fec : Fec) (upstream : NodeId) (name : BindingName)
    → b ≡ binding_of label own raise → own.leaving ≡ false → own.fec ≡ fec → own.upstream ≡ upstream
    → left b ≡ binding_of label (record { fec = fec; upstream = upstream; leaving = true; name = name }) raise
leaving_binding label own raise b fec upstream name is mapped tree toward =
    ap left is ∙ (by own.leaving mapped ∙ λ i. bindings.Leaving
    (record { fec = tree i; upstream = toward i; state = record { label = label; session = raise } }))
  where
    by : (c : Bool) → c ≡ false
        → left (cond c (bindings.Leaving (record { fec = own.fec; upstream = own.upstream; state = record { label = label; session = raise } }))
        (bindings.Mapped (record { fec = own.fec; upstream = own.upstream; state = record { label = label; session = raise } })))
        ≡ bindings.Leaving (record { fec = own.fec; upstream = own.upstream; state = record { label = label; session = raise } })
    by false e = refl
    by true e = absurd cc

pub leave_holds : (space : Space) (h h' : HeldMap) (k k1 k' : Kept) (s : NodeId → Option Incarnation) (m m' : TreeMap) (w : Fec → Option Waiting)
    (label : ℕ) (own new : Held) (raise : Incarnation) (b : AnyBinding)
    → HoldsOwned (state_of space) (get nat_eq h) (maps.get k) s (get is_fec m) w → get nat_eq h label ≡ Some own → own.leaving ≡ false
    → new.leaving ≡ true
    → k1 ≡ maps.remove k own.name → maps.get k1 new.name ≡ None → k' ≡ maps.insert k1 new.name b → b ≡ binding_of label new raise
    → s new.upstream ≡ Some raise
    → ((other : ℕ) → get nat_eq h' other ≡ cond (nat_eq label other) (Some new) (get nat_eq h other))
    → ((other : Fec) → get is_fec m' other ≡ cond (is_fec own.fec other) None (get is_fec m other))
    → HoldsOwned (state_of space) (get nat_eq h') (maps.get k') s (get is_fec m') w
leave_holds space h h' k k1 k' s m m' w label own new raise b holds at mapped gone one fresh two binding up held trees =
    let f1 : ℕ → Option Held = λ l. cond (nat_eq label l) None (get nat_eq h l) in
    let st1 : ℕ → Option LabelState = λ l. cond (nat_eq label l) None (state_of space l) in
    let down = sets_at (state_of space) st1 label None (λ l. refl) in
    let less = sets_at (get nat_eq h) f1 label None (λ l. refl) in
    let names = subst (λ (x : Kept). Sets (maps.get k) (maps.get x) own.name None) (sym one) (name_gone k own.name) in
    let middle =
    holds_less (state_of space) st1 (get nat_eq h) f1 (maps.get k) (maps.get k1) s (get is_fec m) (get is_fec m') w label own None holds at
    (λ e. absurd cc) down less names
    (leaves_cut (state_of space) (get nat_eq h) (maps.get k) s (get is_fec m) w holds (get is_fec m') label own at mapped
    (sets_fec (get is_fec m) (get is_fec m') own.fec None trees)) in
    let again = subst (λ (x : Kept). Sets (maps.get k1) (maps.get x) new.name (Some (binding_of label new raise))) (sym two)
    (subst (λ (x : AnyBinding). Sets (maps.get k1) (maps.get (maps.insert k1 new.name b)) new.name (Some x)) binding (name_kept k1 new.name b)) in
    let more = sets_at (get nat_eq h) (get nat_eq h') label (Some new) held in
    holds_more st1 (state_of space) f1 (get nat_eq h') (maps.get k1) (maps.get k') s (get is_fec m') (get is_fec m') w label new raise middle
    less.here fresh up
    (record { here = holds.owned label own at; others = λ other ne. sym (down.others other ne) })
    (record { here = more.here; others = λ other ne. more.others other ne ∙ sym (less.others other ne) })
    again (record { more = λ fec other e. inl e; still = λ fec other e. e; mine = λ l. absurd (let no : true ≡ false = sym gone ∙ l in cc) })
