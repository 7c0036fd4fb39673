-- What is seen of the labels of a node: their rests, their bindings, and its sessions.
use Rattle.std.proofs.Common.{Bor, inl, inr, ◌⊎◌, nat_lt, ◌-◌, ◌≡◌, ℕ, zero, suc, ◌+◌, Bool, true, false, cond, nat_eq, nat_le, List, [], ◌∷◌, map, replicate, slice_get, count_by, Option, Some, None, option_map, is_some, refl, sym, ap, ◌∙◌}
use Rattle.std.specs.FinMap as maps
use Rattle.std.specs.FinMap.{FinMap, find, same_map}
use Rattle.std.specs.Ordering.{eq_by_cmp}
use Rattle.std.specs.Map.{lookup}
use Rattle.std.specs.Option.{option_copied}
use Rattle.std.proofs.lemmas.Bool.{cases_eq, eq-eqb, ne_eqb}
use Rattle.std.proofs.lemmas.List.Sums.{sum_by-cons}
use Rattle.std.proofs.lemmas.Option.{same_Some, none-some}
use Rattle.indexmap.specs.IndexMap.{get}
use Rattle.mv_base.specs.declared.ids.NodeId.{NodeId}
use Rattle.mldp.specs.declared.mldp_fec.fec.Fec.{Fec}
use Rattle.label_defs.specs.declared.label_use.LabelUse.{LabelUse}
use Rattle.label_defs.specs.declared.label_use.LabelUse.TheVariants as uses
use Rattle.label_defs.specs.Keys.{fec_cmp, node_cmp}
use Rattle.label_defs.specs.LabelData.{fresh}
use Rattle.label_defs.proofs.UseLemmas.{mapped_some, map_none}
use Rattle.label_defs.specs.LabelData.{is_rested}
use Rattle.label_defs.specs.Settling.{upstream_of}
use Rattle.label_defs.specs.Steps as steps
use Rattle.label_defs.proofs.KeyLemmas.{fec_cmp_total, fec_cmp_exact, node_cmp_total, node_cmp_exact}
use Rattle.tunnel_bindings.specs.declared.binding.Incarnation.{Incarnation}
use Rattle.tunnel_bindings.specs.declared.name.BindingName.{BindingName}
use Rattle.tunnel_bindings.specs.declared.any_binding.AnyBinding.{AnyBinding}
use Rattle.tunnel_bindings.specs.declared.any_binding.AnyBinding.TheVariants as bindings
use Rattle.tunnel_bindings.specs.declared.state.LabelState.{LabelState}
use Rattle.tunnel_bindings.specs.declared.state.LabelState.TheVariants as states
use Rattle.tunnel_bindings.specs.Bindings.{Named}
use Rattle.tunnel_bindings.specs.Labels.{Space, state_of, is_due, IsOwned}
use Rattle.tunnel_bindings.specs.Labels as labels
use Rattle.tunnel_bindings.specs.States.{label_of, label_in}
use Rattle.label_trees.specs.declared.label_uses.held.Held.{Held}
use Rattle.label_trees.specs.declared.label_uses.table.Waiting.{Waiting}
use Rattle.label_forwarding.proofs.SlotLemmas.{fec-ties, fec_flips}
use Rattle.mldp.proofs.mldp_fec.SameLemmas.{fec_itself}
use Rattle.label_trees.specs.label_uses.Uses.{Uses, use_in, mapped_in, binding_for, awaiting, IsOfLabel, IsOfTree, AreBindings}
use Rattle.label_trees.specs.label_uses.Held.{is_fec, is_node, use_held, use_by, uses_from, binding_of, waiting_binding, towards, IsNamed, IsAwaited, HoldsOwned}
use Rattle.label_trees.proofs.label_uses.HoldLemmas.{same_own, not_waiting, tree_of}
use Rattle.label_trees.proofs.label_uses.ListLemmas.{use_of_held, held_of_use}
use Rattle.label_trees.proofs.label_uses.StepLemmas.{HeldMap, WaitingMap, SessionMap, session_seen, node-ties, binding_label, Idle, NoLabel, IsFree, Rests}

-- ---- rests

held_awake : (now : ℕ) (own : Held) → steps.woken now (use_held own) ≡ use_held own
held_awake now own = by own.leaving
  where
    by : (b : Bool) → steps.woken now (cond b (uses.Leaving own.fec own.upstream) (uses.Mapped own.fec own.upstream))
        ≡ cond b (uses.Leaving own.fec own.upstream) (uses.Mapped own.fec own.upstream)
    by true = refl
    by false = refl

held_stays : (now : ℕ) (own : Held) → is_rested now (use_held own) ≡ false
held_stays now own = by own.leaving
  where
    by : (b : Bool) → is_rested now (cond b (uses.Leaving own.fec own.upstream) (uses.Mapped own.fec own.upstream)) ≡ false
    by true = refl
    by false = refl

one_woken : (now : ℕ) (s : LabelState) (o : Option Held) → use_by (labels.woken now s) o ≡ steps.woken now (use_by s o)
one_woken now states.Free o = refl
one_woken now states.Owned None = refl
one_woken now states.Owned (Some own) = sym (held_awake now own)
one_woken now (states.Resting until) o = by (nat_le until now)
  where
    by : (b : Bool) → use_by (cond b states.Free (states.Resting until)) o ≡ cond b uses.Free (uses.Resting until)
    by true = refl
    by false = refl

pub uses_woken : (now n : ℕ) (ss : List LabelState) (f : ℕ → Option Held)
    → uses_from n f (map (labels.woken now) ss) ≡ map (steps.woken now) (uses_from n f ss)
uses_woken now n [] f = refl
uses_woken now n (s ∷ ss) f = λ i. one_woken now s (f n) i ∷ uses_woken now (suc n) ss f i

one_rested : (now : ℕ) (s : LabelState) (o : Option Held) → is_due now s ≡ is_rested now (use_by s o)
one_rested now states.Free o = refl
one_rested now states.Owned None = refl
one_rested now states.Owned (Some own) = sym (held_stays now own)
one_rested now (states.Resting until) o = refl

pub uses_rested : (now n : ℕ) (ss : List LabelState) (f : ℕ → Option Held) → count_by (is_due now) ss ≡ count_by (is_rested now) (uses_from n f ss)
uses_rested now n [] f = refl
uses_rested now n (s ∷ ss) f =
    let one = sum_by-cons (λ (x : LabelState). cond (is_due now x) 1 0) s ss in
    let other = sum_by-cons (λ (u : LabelUse). cond (is_rested now u) 1 0) (use_by s (f n)) (uses_from (suc n) f ss) in
    one ∙ ((λ i. cond (one_rested now s (f n) i) 1 0 + uses_rested now (suc n) ss f i) ∙ sym other)

-- ---- the upstream of a label

pub idle_upstream : (o : Option LabelUse) → Idle o → upstream_of o ≡ None
idle_upstream None NoLabel = refl
idle_upstream (Some uses.Free) IsFree = refl
idle_upstream (Some (uses.Resting until)) (Rests again) = refl
idle_upstream (Some (uses.Mapped fec up)) i = elim i [ ]
idle_upstream (Some (uses.Leaving fec up)) i = elim i [ ]

pub held_upstream : (own : Held) → upstream_of (Some (use_held own)) ≡ Some own.upstream
held_upstream own = by own.leaving
  where
    by : (b : Bool) → upstream_of (Some (cond b (uses.Leaving own.fec own.upstream) (uses.Mapped own.fec own.upstream))) ≡ Some own.upstream
    by true = refl
    by false = refl

-- ---- in the beginning

pub none_held : (space : Space) (life count : ℕ) → space ≡ record { life = life; states = replicate count states.Free } → (label : ℕ)
    → state_of space label ≡ Some states.Owned → ⊥
none_held space life count is label e = by count (label - 16) (placed (ap (λ (x : Space). state_of x label) (sym is) ∙ e))
  where
    by : (n k : ℕ) → slice_get (replicate n states.Free) k ≡ Some states.Owned → ⊥
    by zero k e = absurd (none-some states.Owned e)
    by (suc n) zero e = absurd (let no = same_Some states.Free states.Owned e in cc)
    by (suc n) (suc k) e = by n k e

    placed : cond (nat_lt label 16) None (slice_get (replicate count states.Free) (label - 16)) ≡ Some states.Owned
        → slice_get (replicate count states.Free) (label - 16) ≡ Some states.Owned
    placed e = case (nat_lt label 16) e
      where
        case : (b : Bool) → cond b None (slice_get (replicate count states.Free) (label - 16)) ≡ Some states.Owned
            → slice_get (replicate count states.Free) (label - 16) ≡ Some states.Owned
        case true e = absurd (none-some states.Owned e)
        case false e = e

pub holds_none : (st : ℕ → Option LabelState) (f : ℕ → Option Held) (k : BindingName → Option AnyBinding) (s : NodeId → Option Incarnation)
    (g : Fec → Option ℕ) (w : Fec → Option Waiting)
    → ((label : ℕ) → st label ≡ Some states.Owned → ⊥) → ((label : ℕ) → f label ≡ None) → ((name : BindingName) → k name ≡ None)
    → ((fec : Fec) → g fec ≡ None) → ((fec : Fec) → w fec ≡ None) → HoldsOwned st f k s g w
holds_none st f k s g w free held kept mapped waiting = record {
  owned = λ label own e. absurd (none-some own (sym (held label) ∙ e));
  all = λ label e. absurd (free label e);
  bound = λ label own e. absurd (none-some own (sym (held label) ∙ e));
  named = λ name e. absurd (let no : false ≡ true = sym (ap is_some (kept name)) ∙ e in cc);
  found = λ label own e m. absurd (none-some own (sym (held label) ∙ e));
  listed = λ fec label e. absurd (none-some label (sym (mapped fec) ∙ e));
  waits = λ fec own e. absurd (none-some own (sym (waiting fec) ∙ e));
}

pub uses_fresh : (n count : ℕ) (f : ℕ → Option Held) → uses_from n f (replicate count states.Free) ≡ replicate count uses.Free
uses_fresh n zero f = refl
uses_fresh n (suc count) f = ap (λ l. uses.Free ∷ l) (uses_fresh (suc n) count f)

-- ---- sessions

flips : (a b : NodeId) → is_node a b ≡ eq_by_cmp node_cmp b a
flips a b = elim (cases_eq a.0 b.0) [
  | inl e ↦ eq-eqb a.0 b.0 e ∙ sym (sym (node-ties b a) ∙ eq-eqb b.0 a.0 (sym e))
  | inr ne ↦ ne_eqb a.0 b.0 ne ∙ sym (sym (node-ties b a) ∙ ne_eqb b.0 a.0 (λ e. ne (sym e)))
]

pub session_comes : (old new : SessionMap) (peer : NodeId) (session : Incarnation)
    → ((q : NodeId) → get is_node new q ≡ cond (is_node peer q) (Some session) (get is_node old q))
    → maps.from_entries {R = node_cmp} new.entries ≡ maps.insert (maps.from_entries old.entries) peer session
session_comes old new peer session each = same_map node_cmp_total node_cmp_exact _ _ (λ q.
    session_seen new q ∙ (each q ∙ ((λ i. cond (flips peer q i) (Some session) (session_seen_back old q i))
    ∙ sym (maps.get-insert node_cmp_total (maps.from_entries old.entries) peer session q))))
  where
    session_seen_back : (m : SessionMap) (q : NodeId) → get is_node m q ≡ maps.get (maps.from_entries {R = node_cmp} m.entries) q
    session_seen_back m q = sym (session_seen m q)

pub session_goes : (old new : SessionMap) (peer : NodeId) → ((q : NodeId) → get is_node new q ≡ cond (is_node peer q) None (get is_node old q))
    → maps.from_entries {R = node_cmp} new.entries ≡ maps.remove (maps.from_entries old.entries) peer
session_goes old new peer each = same_map node_cmp_total node_cmp_exact _ _ (λ q.
    session_seen new q ∙ (each q ∙ ((λ i. cond (flips peer q i) None (session_seen_back old q i))
    ∙ sym (maps.get-remove node_cmp_total (maps.from_entries old.entries) peer q))))
  where
    session_seen_back : (m : SessionMap) (q : NodeId) → get is_node m q ≡ maps.get (maps.from_entries {R = node_cmp} m.entries) q
    session_seen_back m q = sym (session_seen m q)

-- a session that is there is not the one that comes
pub not_it : (old new : SessionMap) (peer : NodeId) (value : Option Incarnation)
    → ((q : NodeId) → get is_node new q ≡ cond (is_node peer q) value (get is_node old q))
    → (q : NodeId) → is_node peer q ≡ false → get is_node new q ≡ get is_node old q
not_it old new peer value each q e = each q ∙ ap (λ (b : Bool). cond b value (get is_node old q)) e

pub node_same : (a b : NodeId) → is_node a b ≡ true → a ≡ b
node_same a b e = elim (cases_eq a.0 b.0) [
  | inl is ↦ λ i. record { 0 = is i }
  | inr ne ↦ absurd (let no = ne_eqb a.0 b.0 ne in cc)
]

-- ---- trees that wait

fec-flips : (a b : Fec) → is_fec a b ≡ eq_by_cmp fec_cmp b a
fec-flips a b = fec_flips a b ∙ fec-ties b a

find-waiting : (es : List (Fec × Waiting)) (q : Fec) → find fec_cmp q (towards es) ≡ option_map (λ own. own.upstream) (lookup (is_fec q) es)
find-waiting [] q = refl
find-waiting (e ∷ es) q = (λ i. cond (sym (fec-ties q e.0) i) (Some e.1.upstream) (find-waiting es q i)) ∙ split (is_fec q e.0)
  where
    split : (b : Bool) → cond b (Some e.1.upstream) (option_map (λ (own : Waiting). own.upstream) (lookup (is_fec q) es))
        ≡ option_map (λ (own : Waiting). own.upstream) (cond b (Some e.1) (lookup (is_fec q) es))
    split true = refl
    split false = refl

pub waiting_seen : (w : WaitingMap) (q : Fec)
    → maps.get (maps.from_entries {R = fec_cmp} (towards w.entries)) q ≡ option_map (λ own. own.upstream) (get is_fec w q)
waiting_seen w q = maps.get-from_entries fec_cmp_total (towards w.entries) q ∙ find-waiting w.entries q

mapped_cond : (b : Bool) (x y : Option Waiting)
    → option_map (λ (own : Waiting). own.upstream) (cond b x y)
    ≡ cond b (option_map (λ (own : Waiting). own.upstream) x) (option_map (λ (own : Waiting). own.upstream) y)
mapped_cond true x y = refl
mapped_cond false x y = refl

pub waiting_comes : (old new : WaitingMap) (fec : Fec) (own : Waiting)
    → ((q : Fec) → get is_fec new q ≡ cond (is_fec fec q) (Some own) (get is_fec old q))
    → maps.from_entries {R = fec_cmp} (towards new.entries) ≡ maps.insert (maps.from_entries (towards old.entries)) fec own.upstream
waiting_comes old new fec own each = same_map fec_cmp_total fec_cmp_exact _ _ (λ q. (
    let seen = sym (waiting_seen old q) in
    waiting_seen new q ∙ (ap (option_map (λ (x : Waiting). x.upstream)) (each q) ∙ (mapped_cond (is_fec fec q) (Some own) (get is_fec old q)
    ∙ ((λ i. cond (fec-flips fec q i) (Some own.upstream) (seen i))
    ∙ sym (maps.get-insert fec_cmp_total (maps.from_entries (towards old.entries)) fec own.upstream q))))))

pub waiting_goes : (old new : WaitingMap) (fec : Fec) → ((q : Fec) → get is_fec new q ≡ cond (is_fec fec q) None (get is_fec old q))
    → maps.from_entries {R = fec_cmp} (towards new.entries) ≡ maps.remove (maps.from_entries (towards old.entries)) fec
waiting_goes old new fec each = same_map fec_cmp_total fec_cmp_exact _ _ (λ q. (
    let seen = sym (waiting_seen old q) in
    waiting_seen new q ∙ (ap (option_map (λ (x : Waiting). x.upstream)) (each q) ∙ (mapped_cond (is_fec fec q) None (get is_fec old q)
    ∙ ((λ i. cond (fec-flips fec q i) None (seen i)) ∙ sym (maps.get-remove fec_cmp_total (maps.from_entries (towards old.entries)) fec q))))))

-- what is seen of all
abbrev pub seen_uses : Space → HeldMap → WaitingMap → SessionMap → Uses
seen_uses space h w sessions =
    record {
      life = space.life;
      labels = uses_from 16 (get nat_eq h) space.states;
      waiting = maps.from_entries (towards w.entries);
      sessions =
          maps.from_entries sessions.entries;
    }

-- ---- bindings

for_held : (label : ℕ) (own : Held) (raise : Incarnation) → binding_for label (use_held own) raise ≡ Some (binding_of label own raise)
for_held label own raise = by own.leaving
  where
    by : (b : Bool) → binding_for label (cond b (uses.Leaving own.fec own.upstream) (uses.Mapped own.fec own.upstream)) raise
        ≡ Some (cond b (bindings.Leaving (record { fec = own.fec; upstream = own.upstream; state = record { label = label; session = raise } }))
        (bindings.Mapped (record { fec = own.fec; upstream = own.upstream; state = record { label = label; session = raise } })))
    by true = refl
    by false = refl

module _ (space : Space) (h : HeldMap) (named : Named) (sessions : SessionMap) (g : Fec → Option ℕ) (w : WaitingMap)
    (holds : HoldsOwned (state_of space) (get nat_eq h) (maps.get named.kept) (get is_node sessions) g (get is_fec w)) where
  -- the label of a binding is held under its name
  pub held_under : (name : BindingName) (label : ℕ) → label_in (maps.get named.kept name) ≡ Some label
      → (own : Held) × (get nat_eq h label ≡ Some own) × (own.name ≡ name)
  held_under name label e = by (maps.get named.kept name) refl e
    where
      either : (b : AnyBinding) → maps.get named.kept name ≡ Some b → label_of b ≡ Some label
          → IsNamed (get nat_eq h) name ⊎ IsAwaited (get is_fec w) name → (own : Held) × (get nat_eq h label ≡ Some own) × (own.name ≡ name)
      either b at e (inl n) =
          let bound = holds.bound n.label n.own n.at in
          let is : b ≡ binding_of n.label n.own bound.raise =
          same_own (maps.get named.kept name) b (binding_of n.label n.own bound.raise) at (ap (maps.get named.kept) (sym n.is) ∙ bound.is) in
          let same : n.label ≡ label = same_Some n.label label (sym (binding_label n.label n.own bound.raise) ∙ (ap label_of (sym is) ∙ e)) in
          (n.own, ap (get nat_eq h) (sym same) ∙ n.at, n.is)
      either b at e (inr a) =
          let is : b ≡ waiting_binding a.fec a.own =
          same_own (maps.get named.kept name) b (waiting_binding a.fec a.own) at
          (ap (maps.get named.kept) (sym a.is) ∙ holds.waits a.fec a.own a.at) in
          absurd (none-some label (ap label_of (sym is) ∙ e))

      by : (o : Option AnyBinding) → maps.get named.kept name ≡ o → label_in o ≡ Some label
          → (own : Held) × (get nat_eq h label ≡ Some own) × (own.name ≡ name)
      by None at e = absurd (none-some label e)
      by (Some b) at e = either b at e (holds.named name (ap is_some at))

  pub bindings_owned : (name : BindingName) (label : ℕ) → label_in (maps.get named.kept name) ≡ Some label → IsOwned space label
  bindings_owned name label e = (let x = held_under name label e in holds.owned label x.0 x.1)

  pub bindings_apart : (name other : BindingName) (label : ℕ) → label_in (maps.get named.kept name) ≡ Some label
      → label_in (maps.get named.kept other) ≡ Some label → name ≡ other
  bindings_apart name other label e h' =
      let x = held_under name label e in
      let y = held_under other label h' in
      sym x.2 ∙ (ap (λ (own : Held). own.name) (same_own (get nat_eq h label) x.0 y.0 x.1 y.1) ∙ y.2)

  -- the tree of a binding that waits, waits under its name
  waits_under : (name : BindingName) (fec : Fec) (upstream : NodeId) → maps.get named.kept name ≡ Some (awaiting fec upstream)
      → (own : Waiting) × (get is_fec w fec ≡ Some own) × (own.name ≡ name)
  waits_under name fec upstream e = by (holds.named name (ap is_some e))
    where
      by : IsNamed (get nat_eq h) name ⊎ IsAwaited (get is_fec w) name → (own : Waiting) × (get is_fec w fec ≡ Some own) × (own.name ≡ name)
      by (inl n) =
          let bound = holds.bound n.label n.own n.at in
          absurd (not_waiting n.label n.own bound.raise fec (record { upstream = upstream; name = name })
          (same_own (maps.get named.kept name) (binding_of n.label n.own bound.raise) (awaiting fec upstream)
          (ap (maps.get named.kept) (sym n.is) ∙ bound.is) e))
      by (inr a) =
          let same : a.fec ≡ fec =
          same_Some a.fec fec (ap tree_of (same_own (maps.get named.kept name) (waiting_binding a.fec a.own) (awaiting fec upstream)
          (ap (maps.get named.kept) (sym a.is) ∙ holds.waits a.fec a.own a.at) e)) in
          (a.own, ap (get is_fec w) (sym same) ∙ a.at, a.is)

  pub bindings_are : AreBindings (seen_uses space h w sessions) named
  bindings_are = record {
    carried = λ label usage upstream e up. carried label usage upstream e up;
    awaited = λ fec upstream e. awaited fec upstream (get is_fec w fec) refl (sym (waiting_seen w fec) ∙ e);
    each = λ name binding e. each name binding e (holds.named name (ap is_some e));
    apart = bindings_apart;
    once = λ name other fec upstream toward e f. (
        let x = waits_under name fec upstream e in
        let y = waits_under other fec toward f in
        sym x.2 ∙ (ap (λ (own : Waiting). own.name) (same_own (get is_fec w fec) x.0 y.0 x.1 y.1) ∙ y.2));
  }
    where
      carried : (label : ℕ) (usage : LabelUse) (upstream : NodeId) → use_in (uses_from 16 (get nat_eq h) space.states) label ≡ Some usage
          → upstream_of (Some usage) ≡ Some upstream
          → (session : Incarnation) × (name : BindingName) × (maps.get (maps.from_entries {R = node_cmp} sessions.entries) upstream ≡ Some session)
          × (maps.get named.kept name ≡ binding_for label usage session)
      carried label usage upstream e up =
          let x = held_of_use space (get nat_eq h) (maps.get named.kept) (get is_node sessions) g (get is_fec w) holds label usage e
          (λ free. none-some upstream (ap (λ (u : LabelUse). upstream_of (Some u)) (sym free) ∙ up))
          (λ until rests. none-some upstream (ap (λ (u : LabelUse). upstream_of (Some u)) (sym rests) ∙ up)) in
          let bound = holds.bound label x.0 x.1 in
          let toward : x.0.upstream ≡ upstream =
          same_Some x.0.upstream upstream (sym (held_upstream x.0) ∙ (ap (λ (u : LabelUse). upstream_of (Some u)) (sym x.2) ∙ up)) in (
            bound.raise,
            x.0.name,
            session_seen sessions upstream ∙ (ap (get is_node sessions) (sym toward) ∙ bound.present),
            bound.is ∙ (sym (for_held label x.0 bound.raise) ∙ ap (λ (u : LabelUse). binding_for label u bound.raise) (sym x.2)),
          )

      awaited : (fec : Fec) (upstream : NodeId) (o : Option Waiting) → get is_fec w fec ≡ o
          → option_map (λ own. own.upstream) (get is_fec w fec) ≡ Some upstream
          → (name : BindingName) × (maps.get named.kept name ≡ Some (awaiting fec upstream))
      awaited fec upstream None at e = absurd (none-some upstream (ap (option_map (λ (own : Waiting). own.upstream)) (sym at) ∙ e))
      awaited fec upstream (Some own) at e =
          let same : own.upstream ≡ upstream = same_Some own.upstream upstream (ap (option_map (λ (own : Waiting). own.upstream)) (sym at) ∙ e) in
          (own.name, holds.waits fec own at ∙ ap (λ (n : NodeId). Some (awaiting fec n)) same)

      each : (name : BindingName) (binding : AnyBinding) → maps.get named.kept name ≡ Some binding
          → IsNamed (get nat_eq h) name ⊎ IsAwaited (get is_fec w) name
          → IsOfLabel (seen_uses space h w sessions) binding ⊎ IsOfTree (seen_uses space h w sessions) binding
      each name binding e (inl n) =
          let bound = holds.bound n.label n.own n.at in
          inl (record {
            label = n.label;
            usage = use_held n.own;
            upstream = n.own.upstream;
            session = bound.raise;
            used = use_of_held space (get nat_eq h) (maps.get named.kept) (get is_node sessions) g (get is_fec w) holds n.label n.own n.at;
            toward = held_upstream n.own;
            present = session_seen sessions n.own.upstream ∙ bound.present;
            is = for_held n.label n.own bound.raise ∙ (sym bound.is ∙ (ap (maps.get named.kept) n.is ∙ e));
          })
      each name binding e (inr a) = inr (record {
        fec = a.fec;
        upstream = a.own.upstream;
        waits = waiting_seen w a.fec ∙ ap (option_map (λ (own : Waiting). own.upstream)) a.at;
        is = same_Some (waiting_binding a.fec a.own) binding (sym (holds.waits a.fec a.own a.at) ∙ (ap (maps.get named.kept) a.is ∙ e));
      })

-- the label that is mapped to a tree, and the neighbour towards which
pub found_mapped : (labels : List LabelUse) (fec : Fec) (label : ℕ) (upstream : NodeId) → mapped_in labels fec ≡ Some label
    → upstream_of (use_in labels label) ≡ Some upstream → use_in labels label ≡ Some (uses.Mapped fec upstream)
found_mapped labels fec label upstream mapped toward =
    let x = mapped_some (record (fresh 0) { labels = labels }) fec label mapped in
    let same : x.0 ≡ upstream = same_Some x.0 upstream (sym (ap upstream_of x.1) ∙ toward) in
    x.1 ∙ ap (λ (n : NodeId). Some (uses.Mapped fec n)) same

-- a tree that was taken out of those that wait
pub waiting_absent : (w : WaitingMap) (old : FinMap fec_cmp NodeId) (fec : Fec) → maps.from_entries (towards w.entries) ≡ maps.remove old fec
    → get is_fec w fec ≡ None
waiting_absent w old fec is =
    map_none (λ (own : Waiting). own.upstream) (get is_fec w fec)
    (sym (waiting_seen w fec) ∙ (ap (λ m. maps.get m fec) is
    ∙ (maps.get-remove fec_cmp_total old fec fec ∙ ap (λ (b : Bool). cond b None (maps.get old fec)) (sym (fec-ties fec fec) ∙ fec_itself fec))))

pub insert_removed : (old : FinMap fec_cmp NodeId) (fec : Fec) (upstream : NodeId)
    → maps.insert (maps.remove old fec) fec upstream ≡ maps.insert old fec upstream
insert_removed old fec upstream = same_map fec_cmp_total fec_cmp_exact _ _ (λ q.
    maps.get-insert fec_cmp_total (maps.remove old fec) fec upstream q
    ∙ (ap (λ (o : Option NodeId). cond (eq_by_cmp fec_cmp q fec) (Some upstream) o) (maps.get-remove fec_cmp_total old fec q)
    ∙ (again (eq_by_cmp fec_cmp q fec) (maps.get old q) ∙ sym (maps.get-insert fec_cmp_total old fec upstream q))))
  where
    again : (b : Bool) (o : Option NodeId) → cond b (Some upstream) (cond b None o) ≡ cond b (Some upstream) o
    again true o = refl
    again false o = refl

pub copied_some : (o : Option (Bor Incarnation)) → is_some o ≡ is_some (option_copied o)
copied_some None = refl
copied_some (Some x) = refl
