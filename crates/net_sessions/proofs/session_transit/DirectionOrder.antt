-- The order of directions, and the keys that stand for them.
use Rattle.std.proofs.Common.{◌≡◌, ℕ, ◌==◌, ◌&&◌, ◌||◌, Bool, true, false, List, [], ◌∷◌, inl, inr, refl, sym, ap, subst, ◌∙◌, arith}
use Rattle.std.specs.FinMap.{IsAntisymmetric, nat_cmp-IsAntisymmetric, slice_cmp-IsAntisymmetric}
use Rattle.std.specs.Cmp.{IsTotalOrder}
use Rattle.std.specs.Cmp.Lexicographic.{nat_list_cmp_total}
use Rattle.std.specs.Ordering.{eq_by_cmp}
use Rattle.std.proofs.lemmas.Bool.{cases_Bool, and_parts, and_from, true≢false}
use Rattle.std.proofs.lemmas.Cmp.{on_total}
use Rattle.mv_base.specs.declared.ids.NodeId.{NodeId}
use Rattle.label_defs.proofs.KeyLemmas.{node_equal, node_itself, ties, apart}
use Rattle.scenario_defs.specs.declared.event.Kind.{Kind}
use Rattle.scenario_defs.specs.declared.event.Kind.TheVariants as kinds
use Rattle.scenario_defs.specs.Kinds.{same_kind}
use Rattle.network_defs.specs.declared.session_defs.direction.Direction.{Direction}
use Rattle.network_defs.specs.session_defs.Message.{same_direction}
use Rattle.network_defs.specs.session_defs.PeerSession.{kind_number}
use Rattle.net_sessions.specs.declared.session_transit.sessions.Key.{Key}
use Rattle.net_sessions.specs.session_transit.TransitData.{direction_cmp, direction, is_of_session}
use Rattle.net_sessions.specs.session_transit.Kept.{is_key, key_of, direction_of}

-- ---- the order

abbrev numbers : Direction → List ℕ
numbers d = kind_number d.kind ∷ d.from.0 ∷ d.to.0 ∷ []

pub direction_cmp_total : IsTotalOrder direction_cmp
direction_cmp_total = on_total numbers nat_list_cmp_total

one_kind : (a b : Kind) → kind_number a ≡ kind_number b → a ≡ b
one_kind kinds.Bgp kinds.Bgp e = refl
one_kind kinds.Ldp kinds.Ldp e = refl
one_kind kinds.Bgp kinds.Ldp e = absurd (omega (arith, e))
one_kind kinds.Ldp kinds.Bgp e = absurd (omega (arith, e))

one_direction : (a b : Direction) → numbers a ≡ numbers b → a ≡ b
one_direction a b e =
    let number : kind_number a.kind ≡ kind_number b.kind = cc in
    let from : a.from.0 ≡ b.from.0 = cc in
    let to : a.to.0 ≡ b.to.0 = cc in
    let kind = one_kind a.kind b.kind number in
    λ i. record { kind = kind i; from = record { 0 = from i }; to = record { 0 = to i } }

pub direction_cmp_exact : IsAntisymmetric direction_cmp
direction_cmp_exact a b h = one_direction a b (slice_cmp-IsAntisymmetric nat_cmp-IsAntisymmetric (numbers a) (numbers b) h)

-- ---- one direction

kind_itself : (a : Kind) → same_kind a a ≡ true
kind_itself kinds.Bgp = refl
kind_itself kinds.Ldp = refl

kind_equal : (a b : Kind) → same_kind a b ≡ true → a ≡ b
kind_equal kinds.Bgp kinds.Bgp e = refl
kind_equal kinds.Ldp kinds.Ldp e = refl
kind_equal kinds.Bgp kinds.Ldp e = absurd (true≢false (sym e))
kind_equal kinds.Ldp kinds.Bgp e = absurd (true≢false (sym e))

pub same_itself : (a : Direction) → same_direction a a ≡ true
same_itself a = and_from _ _ (and_from _ _ (kind_itself a.kind) (node_itself a.from a.from refl)) (node_itself a.to a.to refl)

pub same_equal : (a b : Direction) → same_direction a b ≡ true → a ≡ b
same_equal a b h =
    let parts = and_parts (same_kind a.kind b.kind && (a.from.0 == b.from.0)) (a.to.0 == b.to.0) h in
    let front = and_parts (same_kind a.kind b.kind) (a.from.0 == b.from.0) parts.0 in
    let kind = kind_equal a.kind b.kind front.0 in
    let from = node_equal a.from b.from front.1 in
    let to = node_equal a.to b.to parts.1 in
    λ i. record { kind = kind i; from = from i; to = to i }

pub ties_same : (a b : Direction) → eq_by_cmp direction_cmp a b ≡ same_direction a b
ties_same a b = elim (cases_Bool (same_direction a b)) [
  | inl t ↦ ties direction_cmp direction_cmp_total a b (same_equal a b t) ∙ sym t
  | inr f ↦ apart direction_cmp direction_cmp_exact a b
      (λ e. true≢false (sym (subst (λ (x : Direction). same_direction a x ≡ true) e (same_itself a)) ∙ f)) ∙ sym f
]

pub same_turned : (a b : Direction) → same_direction a b ≡ same_direction b a
same_turned a b = elim (cases_Bool (same_direction a b)) [
  | inl t ↦ t ∙ sym (subst (λ (x : Direction). same_direction x a ≡ true) (same_equal a b t) (same_itself a))
  | inr f ↦ elim (cases_Bool (same_direction b a)) [
    | inl t ↦ absurd (true≢false (sym (subst (λ (x : Direction). same_direction x b ≡ true) (same_equal b a t) (same_itself b)) ∙ f))
    | inr g ↦ f ∙ sym g
  ]
]

-- ---- keys

pub same_of_keys : (a b : Direction) → is_key (key_of a) (key_of b) ≡ same_direction a b
same_of_keys a b = by a.kind b.kind
  where
    by : (k l : Kind) → is_key (key_of (direction k a.from a.to)) (key_of (direction l b.from b.to))
        ≡ same_direction (direction k a.from a.to) (direction l b.from b.to)
    by kinds.Bgp kinds.Bgp = refl
    by kinds.Ldp kinds.Ldp = refl
    by kinds.Bgp kinds.Ldp = refl
    by kinds.Ldp kinds.Bgp = refl

pub key_back : (k : Key) → key_of (direction_of k) ≡ k
key_back k = by k.is_ldp
  where
    by : (b : Bool) → key_of (direction_of (record { is_ldp = b; from = k.from; to = k.to })) ≡ record { is_ldp = b; from = k.from; to = k.to }
    by true = refl
    by false = refl

pub key_equal : (k l : Key) → is_key k l ≡ true → k ≡ l
key_equal k l h =
    let same : same_direction (direction_of k) (direction_of l) ≡ true =
    sym (same_of_keys (direction_of k) (direction_of l)) ∙ (λ i. is_key (key_back k i) (key_back l i)) ∙ h in
    sym (key_back k) ∙ ap key_of (same_equal (direction_of k) (direction_of l) same) ∙ key_back l

pub key_turned : (k l : Key) → is_key k l ≡ is_key l k
key_turned k l =
    (λ i. is_key (sym (key_back k) i) (sym (key_back l) i)) ∙ same_of_keys (direction_of k) (direction_of l)
    ∙ same_turned (direction_of k) (direction_of l)
    ∙ sym (same_of_keys (direction_of l) (direction_of k)) ∙ (λ i. is_key (key_back l i) (key_back k i))

-- how the order tells a direction from that of a key
pub tied : (d : Direction) (k : Key) → eq_by_cmp direction_cmp d (direction_of k) ≡ is_key (key_of d) k
tied d k = ties_same d (direction_of k) ∙ sym (same_of_keys d (direction_of k)) ∙ ap (is_key (key_of d)) (key_back k)

-- the keys of both directions of a session
pub session_keys : (kind : Kind) (a b : NodeId) (d : Direction)
    → (is_key (key_of (direction kind a b)) (key_of d) || is_key (key_of (direction kind b a)) (key_of d)) ≡ is_of_session kind a b d
session_keys kind a b d =
    (λ i. same_of_keys (direction kind a b) d i || same_of_keys (direction kind b a) d i)
    ∙ (λ i. same_turned (direction kind a b) d i || same_turned (direction kind b a) d i)
    ∙ spread (same_kind d.kind kind) (d.from.0 == a.0) (d.to.0 == b.0) (d.from.0 == b.0) (d.to.0 == a.0)
    ∙ ap (λ (t : Bool). t && (((d.from.0 == a.0) && (d.to.0 == b.0)) || ((d.from.0 == b.0) && (d.to.0 == a.0)))) (turned d.kind kind)
  where
    spread : (k x y z w : Bool) → ((k && x && y) || (k && z && w)) ≡ (k && ((x && y) || (z && w)))
    spread true x y z w = refl
    spread false x y z w = refl

    turned : (x y : Kind) → same_kind x y ≡ same_kind y x
    turned kinds.Bgp kinds.Bgp = refl
    turned kinds.Ldp kinds.Ldp = refl
    turned kinds.Bgp kinds.Ldp = refl
    turned kinds.Ldp kinds.Bgp = refl
