-- The worked VRF.
use Rattle.std.proofs.Common.{◌≡◌, ◌⊎◌, ◌↔◌, inl, inr, refl, sym, ap, subst, ◌∙◌, arith}
use Rattle.scenario_defs.specs.mv_base.declared.addr.Addr.{Addr}
use Rattle.scenario_defs.specs.mv_base.declared.ids.NodeId.{NodeId}
use Rattle.scenario_defs.specs.mv_base.declared.ids.SiteId.{SiteId}
use Rattle.scenario_defs.specs.mv_base.declared.rd.Rd.{Rd}
use Rattle.choice_defs.specs.declared.known_route.KnownRoute.{KnownRoute}
use Rattle.choice_defs.specs.declared.origin.Origin.TheVariants.{Local, Remote}
use Rattle.choice_defs.specs.Choice.{Among, IsLower, AreOfEdges, AreOfSites}
use Rattle.choice_defs.specs.Example.{near_address, far_address, own_rd, here, near, far, routes, Worked}
use Rattle.choice_defs.proofs.OrderLemmas.{not_itself, addr_cmp_total}

apart : near_address ≡ far_address → ⊥
apart e = let lower : IsLower near_address far_address = refl in
    absurd (not_itself addr_cmp_total far_address (subst (λ (x : Addr). IsLower x far_address) e lower))

-- the two edges
abbrev IsEdge : NodeId → Addr → Type 0
IsEdge edge address = ((edge.0 ≡ 1) × (address ≡ near_address)) ⊎ ((edge.0 ≡ 2) × (address ≡ far_address))

same_remote : (e f : NodeId) (a b : Addr) (r s : Rd) → Remote e a r ≡ Remote f b s → (e ≡ f) × (a ≡ b)
same_remote e f a b r s h = let edges : e ≡ f = cc in let addresses : a ≡ b = cc in (edges, addresses)

edge_of : (route : KnownRoute) (e : NodeId) (a : Addr) (r : Rd) → Among route routes → route.origin ≡ Remote e a r → IsEdge e a
edge_of route e a r (inl m) h = absurd (let bad : Remote e a r ≡ here = sym h ∙ ap (λ (x : KnownRoute). x.origin) m in cc)
edge_of route e a r (inr (inl m)) h =
    let both = same_remote e (record { 0 = 1 }) a near_address r own_rd (sym h ∙ ap (λ (x : KnownRoute). x.origin) m) in
    inl (ap (λ (x : NodeId). x.0) both.0, both.1)
edge_of route e a r (inr (inr (inl m))) h =
    let both = same_remote e (record { 0 = 2 }) a far_address r own_rd (sym h ∙ ap (λ (x : KnownRoute). x.origin) m) in
    inr (ap (λ (x : NodeId). x.0) both.0, both.1)
edge_of route e a r (inr (inr (inr none))) h = absurd none

one_node : (e f : NodeId) → e.0 ≡ f.0 → e ≡ f
one_node e f h = λ i. record { 0 = h i }

number_of : (e f : NodeId) → e ≡ f → e.0 ≡ f.0
number_of e f h = ap (λ (x : NodeId). x.0) h

told : (e f : NodeId) (a b : Addr) → IsEdge e a → IsEdge f b → (e ≡ f) ↔ (a ≡ b)
told e f a b (inl p) (inl q) = (λ h. p.1 ∙ sym q.1, λ h. one_node e f (p.0 ∙ sym q.0))
told e f a b (inl p) (inr q) = (
  λ h. absurd (let same = number_of e f h in let one = p.0 in let two = q.0 in omega (arith, same, one, two)),
  λ h. absurd (apart (sym p.1 ∙ h ∙ q.1)),
)
told e f a b (inr p) (inl q) = (
  λ h. absurd (let same = number_of e f h in let one = p.0 in let two = q.0 in omega (arith, same, one, two)),
  λ h. absurd (apart (sym q.1 ∙ sym h ∙ p.1)),
)
told e f a b (inr p) (inr q) = (λ h. p.1 ∙ sym q.1, λ h. one_node e f (p.0 ∙ sym q.0))

of_edges : AreOfEdges routes
of_edges x y m n e f a b r s h k = told e f a b (edge_of x e a r m h) (edge_of y f b s n k)

same_local : (s t : SiteId) → Local s ≡ Local t → s ≡ t
same_local s t h = cc

site_of : (route : KnownRoute) (s : SiteId) → Among route routes → route.origin ≡ Local s → s ≡ record { 0 = 0 }
site_of route s (inl m) h = same_local s (record { 0 = 0 }) (sym h ∙ ap (λ (x : KnownRoute). x.origin) m)
site_of route s (inr (inl m)) h = absurd (let bad : Local s ≡ near = sym h ∙ ap (λ (x : KnownRoute). x.origin) m in cc)
site_of route s (inr (inr (inl m))) h = absurd (let bad : Local s ≡ far = sym h ∙ ap (λ (x : KnownRoute). x.origin) m in cc)
site_of route s (inr (inr (inr none))) h = absurd none

of_sites : AreOfSites routes
of_sites x y s t m n prefix h k = site_of x s m h ∙ sym (site_of y t n k)

pub worked : Worked
worked = record {
  edges = of_edges;
  sites = of_sites;
  highest = refl;
  nearest = refl;
  number = refl;
  hashed = refl;
  other_number =
      refl;
  other_hashed = refl;
  alone = refl;
}
