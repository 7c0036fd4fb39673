-- The choice among local routes is the site of the first longest one.
use Rattle.std.proofs.Common.{◌≡◌, ℕ, ◌==◌, nat_lt, nat_le, Bool, true, false, inl, inr, List, [], ◌∷◌, map, filter, Option, Some, None, option_map, refl, sym, ap, ◌∙◌, cond, arith}
use Rattle.std.proofs.lemmas.Bool.{cases_Bool}
use Rattle.std.proofs.lemmas.Bool.Decides.{nat_tests}
use Rattle.std.specs.Ordering.{is_lt, ordering_then}
use Rattle.std.specs.declared.cmp.Ordering.TheVariants.{Less, Equal, Greater}
use Rattle.scenario_defs.specs.mv_base.Prefix.{covers}
use Rattle.scenario_defs.specs.mv_base.declared.addr.Addr.{Addr}
use Rattle.scenario_defs.specs.mv_base.declared.ids.NodeId.{NodeId}
use Rattle.scenario_defs.specs.mv_base.declared.ids.SiteId.{SiteId}
use Rattle.scenario_defs.specs.mv_base.declared.rd.Rule.{Rule}
use Rattle.scenario_defs.specs.declared.scenario.Route.{Route}
use Rattle.scenario_defs.specs.Home.{longest_after, home_by}
use Rattle.choice_defs.specs.declared.known_route.KnownRoute.{KnownRoute}
use Rattle.choice_defs.specs.declared.origin.Origin.TheVariants.{Local}
use Rattle.choice_defs.specs.Choice.{cost_by, better_of, best_route, choose, of_site}

-- the first of two routes that are equally long, and the longer one of others
abbrev pick : Route → Option Route → Option Route
pick a None = Some a
pick a (Some b) = cond (nat_lt a.prefix.bits b.prefix.bits) (Some b) (Some a)

kept : (a b : Route) → nat_lt a.prefix.bits b.prefix.bits ≡ false → pick a (Some b) ≡ Some a
kept a b e = ap (λ (t : Bool). cond t (Some b) (Some a)) e

passed : (a b : Route) → nat_lt a.prefix.bits b.prefix.bits ≡ true → pick a (Some b) ≡ Some b
passed a b e = ap (λ (t : Bool). cond t (Some b) (Some a)) e

no_longer : (x y : ℕ) → nat_le y x ≡ true → nat_lt x y ≡ false
no_longer x y h = grind (arith, nat_tests)

is_longer : (x y : ℕ) → nat_le y x ≡ false → nat_lt x y ≡ true
is_longer x y h = grind (arith, nat_tests)

not_beyond : (x y z : ℕ) → nat_le y x ≡ true → nat_lt y z ≡ false → nat_lt x z ≡ false
not_beyond x y z h k = grind (arith, nat_tests)

beyond : (x y z : ℕ) → nat_le y x ≡ false → nat_lt y z ≡ true → nat_lt x z ≡ true
beyond x y z h k = grind (arith, nat_tests)

pick_short : (a b : Route) (rest : Option Route) → nat_le b.prefix.bits a.prefix.bits ≡ true → pick a rest ≡ pick a (pick b rest)
pick_short a b None h = sym (kept a b (no_longer a.prefix.bits b.prefix.bits h))
pick_short a b (Some c) h = elim (cases_Bool (nat_lt b.prefix.bits c.prefix.bits)) [
  | inl e ↦ sym (ap (pick a) (passed b c e))
  | inr e ↦ kept a c (not_beyond a.prefix.bits b.prefix.bits c.prefix.bits h e) ∙ sym (kept a b (no_longer a.prefix.bits b.prefix.bits h))
      ∙ sym (ap (pick a) (kept b c e))
]

pick_long : (a b : Route) (rest : Option Route) → nat_le b.prefix.bits a.prefix.bits ≡ false → pick b rest ≡ pick a (pick b rest)
pick_long a b None h = sym (passed a b (is_longer a.prefix.bits b.prefix.bits h))
pick_long a b (Some c) h = elim (cases_Bool (nat_lt b.prefix.bits c.prefix.bits)) [
  | inl e ↦ passed b c e ∙ sym (passed a c (beyond a.prefix.bits b.prefix.bits c.prefix.bits h e)) ∙ sym (ap (pick a) (passed b c e))
  | inr e ↦ kept b c e ∙ sym (passed a b (is_longer a.prefix.bits b.prefix.bits h)) ∙ sym (ap (pick a) (kept b c e))
]

after_pick : (ys : List Route) (a : Route) → longest_after (Some a) ys ≡ pick a (longest_after None ys)
after_pick [] a = refl
after_pick (y ∷ ys) a = elim (cases_Bool (nat_le y.prefix.bits a.prefix.bits)) [
  | inl e ↦
      ap (λ (t : Bool). longest_after (cond t (Some a) (Some y)) ys) e ∙ after_pick ys a ∙ pick_short a y (longest_after None ys) e
      ∙ ap (pick a) (sym (after_pick ys y))
  | inr e ↦
      ap (λ (t : Bool). longest_after (cond t (Some a) (Some y)) ys) e ∙ after_pick ys y ∙ pick_long a y (longest_after None ys) e
      ∙ ap (pick a) (sym (after_pick ys y))
]

-- ---- the best of local routes

by_length : (u v : Bool) → is_lt (ordering_then (cond u Less (cond v Equal Greater)) Equal) ≡ u
by_length true v = refl
by_length false true = refl
by_length false false = refl

moved : (a b : Route) (t : Bool) → cond t (Some (of_site b)) (Some (of_site a)) ≡ option_map of_site (cond t (Some b) (Some a))
moved a b true = refl
moved a b false = refl

better_pick : (cost : NodeId → ℕ) (a : Route) (rest : Option Route)
    → better_of cost true (of_site a) (option_map of_site rest) ≡ option_map of_site (pick a rest)
better_pick cost a None = refl
better_pick cost a (Some b) =
    ap (λ (t : Bool). cond t (Some (of_site b)) (Some (of_site a))) (by_length (nat_lt a.prefix.bits b.prefix.bits) (a.prefix.bits == b.prefix.bits))
    ∙ moved a b (nat_lt a.prefix.bits b.prefix.bits)

one_more : (cost : NodeId → ℕ) (a : Route) (rest : List Route) (t : Bool)
    → better_of cost t (of_site a) (option_map of_site (longest_after None rest)) ≡ option_map of_site (longest_after None (cond t (a ∷ rest) rest))
one_more cost a rest false = refl
one_more cost a rest true = better_pick cost a (longest_after None rest) ∙ ap (option_map of_site) (sym (after_pick rest a))

best_local : (cost : NodeId → ℕ) (routes : List Route) (source : Addr)
    → best_route cost (map of_site routes) source
    ≡ option_map of_site (longest_after None (filter (λ (route : Route). covers route.prefix source) routes))
best_local cost [] source = refl
best_local cost (a ∷ more) source =
    ap (better_of cost (covers a.prefix source) (of_site a)) (best_local cost more source)
    ∙ one_more cost a (filter (λ (route : Route). covers route.prefix source) more) (covers a.prefix source)

of_found : (found : Option Route) → option_map (λ (route : KnownRoute). route.origin) (option_map of_site found)
    ≡ option_map (λ (site : SiteId). Local site) (option_map (λ (route : Route). route.site) found)
of_found None = refl
of_found (Some a) = refl

pub local_home : (rule : Rule) (cost : NodeId → ℕ) (routes : List Route) (source group : Addr)
    → choose rule cost (map of_site routes) source group ≡ option_map (λ (site : SiteId). Local site) (home_by routes source)
local_home rule cost routes source group =
    ap (option_map (λ (route : KnownRoute). route.origin)) (best_local (cost_by rule cost (map of_site routes) source group) routes source)
    ∙ of_found (longest_after None (filter (λ (route : Route). covers route.prefix source) routes))
