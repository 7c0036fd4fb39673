-- The orders of trees, branches and nodes are total, and what ties in them is equal.
use Rattle.std.proofs.Common.{◌≡◌, ℕ, ◌==◌, true, false, ◌⊎◌, inl, inr, List, [], ◌∷◌, ◌++◌, length, refl, ap, subst, arith}
use Rattle.std.specs.Ordering.{is_eq, eq_by_cmp}
use Rattle.std.specs.Cmp.{IsTotalOrder, tied_itself, Equal-is, nat_cmp_total}
use Rattle.std.specs.Cmp.Lexicographic.{nat_list_cmp_total}
use Rattle.std.specs.FinMap.{IsAntisymmetric, nat_cmp-IsAntisymmetric, slice_cmp-IsAntisymmetric}
use Rattle.std.proofs.lemmas.Cmp.{on_total}
use Rattle.std.proofs.lemmas.Bool.{cases_Bool}
use Rattle.std.proofs.lemmas.Bool.Decides.{nat_tests}
use Rattle.mldp.specs.mv_base.declared.ids.NodeId.{NodeId}
use Rattle.mldp.specs.mv_base.Address.{addr_front}
use Rattle.mldp.proofs.mv_base.AddressLemmas.{addr_fronts}
use Rattle.mldp.specs.declared.mldp_fec.fec.FecKind.{FecKind}
use Rattle.mldp.specs.declared.mldp_fec.fec.FecKind.TheVariants.{P2mp, Up, Down}
use Rattle.mldp.specs.declared.mldp_fec.fec.Fec.{Fec}
use Rattle.label_defs.specs.declared.branch.Branch.{Branch}
use Rattle.label_defs.specs.Keys.{kind_key, fec_key, fec_cmp, branch_key, branch_cmp, node_cmp}
use Rattle.label_defs.specs.LabelData.{same_fec}

pub fec_cmp_total : IsTotalOrder fec_cmp
fec_cmp_total = on_total fec_key nat_list_cmp_total

pub branch_cmp_total : IsTotalOrder branch_cmp
branch_cmp_total = on_total branch_key nat_list_cmp_total

pub node_cmp_total : IsTotalOrder node_cmp
node_cmp_total = on_total (λ (node : NodeId). node.0) nat_cmp_total

one_kind : (a b : FecKind) → kind_key a ≡ kind_key b → a ≡ b
one_kind P2mp P2mp e = refl
one_kind P2mp Up e = absurd (omega (arith, e))
one_kind P2mp Down e = absurd (omega (arith, e))
one_kind Up P2mp e = absurd (omega (arith, e))
one_kind Up Up e = refl
one_kind Up Down e = absurd (omega (arith, e))
one_kind Down P2mp e = absurd (omega (arith, e))
one_kind Down Up e = absurd (omega (arith, e))
one_kind Down Down e = refl

one_fec : (a b : Fec) → fec_key a ≡ fec_key b → a ≡ b
one_fec a b e =
    let number : kind_key a.kind ≡ kind_key b.kind = cc in
    let thereafter : addr_front a.root ++ a.opaque ≡ addr_front b.root ++ b.opaque = cc in
    let kind = one_kind a.kind b.kind number in
    let both = addr_fronts a.root b.root a.opaque b.opaque thereafter in
    λ i. record { kind = kind i; root = both.0 i; opaque = both.1 i }

one_branch : (a b : Branch) → branch_key a ≡ branch_key b → a ≡ b
one_branch a b e =
    let node : a.node.0 ≡ b.node.0 = cc in
    let label : a.label ≡ b.label = cc in
    let thereafter : fec_key a.fec ≡ fec_key b.fec = cc in
    let fec = one_fec a.fec b.fec thereafter in
    λ i. record { fec = fec i; node = record { 0 = node i }; label = label i }

pub fec_cmp_exact : IsAntisymmetric fec_cmp
fec_cmp_exact a b h = one_fec a b (slice_cmp-IsAntisymmetric nat_cmp-IsAntisymmetric (fec_key a) (fec_key b) h)

pub branch_cmp_exact : IsAntisymmetric branch_cmp
branch_cmp_exact a b h = one_branch a b (slice_cmp-IsAntisymmetric nat_cmp-IsAntisymmetric (branch_key a) (branch_key b) h)

pub node_cmp_exact : IsAntisymmetric node_cmp
node_cmp_exact a b h = let number = nat_cmp-IsAntisymmetric a.0 b.0 h in λ i. record { 0 = number i }

-- ---- one tree, one node

pub same_fec_equal : (a b : Fec) → same_fec a b ≡ true → a ≡ b
same_fec_equal a b h = fec_cmp_exact a b ((Equal-is (fec_cmp a b)).0 h)

pub same_fec_itself : (a : Fec) → same_fec a a ≡ true
same_fec_itself a = ap is_eq (tied_itself fec_cmp_total a)

pub same_fec_from : (a b : Fec) → a ≡ b → same_fec a b ≡ true
same_fec_from a b e = subst (λ (x : Fec). same_fec a x ≡ true) e (same_fec_itself a)

pub fec_apart : (a b : Fec) → (a ≡ b → ⊥) → same_fec a b ≡ false
fec_apart a b ne = elim (cases_Bool (same_fec a b)) [ inl t ↦ absurd (ne (same_fec_equal a b t)) | inr f ↦ f ]

pub fec_cases : (a b : Fec) → (a ≡ b) ⊎ (a ≡ b → ⊥)
fec_cases a b = elim (cases_Bool (same_fec a b)) [
  | inl t ↦ inl (same_fec_equal a b t)
  | inr f ↦ inr (λ e. (let t = same_fec_from a b e in cc))
]

pub node_equal : (a b : NodeId) → (a.0 == b.0) ≡ true → a ≡ b
node_equal a b h = let number : a.0 ≡ b.0 = grind (arith, nat_tests) in λ i. record { 0 = number i }

pub node_itself : (a b : NodeId) → a ≡ b → (a.0 == b.0) ≡ true
node_itself a b e = let number : a.0 ≡ b.0 = ap (λ (x : NodeId). x.0) e in grind (arith, nat_tests)

pub node_apart : (a b : NodeId) → (a ≡ b → ⊥) → (a.0 == b.0) ≡ false
node_apart a b ne = elim (cases_Bool (a.0 == b.0)) [ inl t ↦ absurd (ne (node_equal a b t)) | inr f ↦ f ]

pub node_cases : (a b : NodeId) → (a ≡ b) ⊎ (a ≡ b → ⊥)
node_cases a b = elim (cases_Bool (a.0 == b.0)) [
  | inl t ↦ inl (node_equal a b t)
  | inr f ↦ inr (λ e. (let t = node_itself a b e in cc))
]

-- what the orders say of what is one, and of what is not
pub ties : {K : Type 0} (R : K → K → _) → IsTotalOrder R → (a b : K) → a ≡ b → eq_by_cmp R a b ≡ true
ties R o a b e = subst (λ x. eq_by_cmp R a x ≡ true) e (ap is_eq (tied_itself o a))

pub apart : {K : Type 0} (R : K → K → _) → IsAntisymmetric R → (a b : K) → (a ≡ b → ⊥) → eq_by_cmp R a b ≡ false
apart R same a b ne = elim (cases_Bool (eq_by_cmp R a b)) [ inl t ↦ absurd (ne (same a b ((Equal-is (R a b)).0 t))) | inr f ↦ f ]
