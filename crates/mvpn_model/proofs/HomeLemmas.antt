-- Laws of routes and of the longest among them.
use Rattle.std.proofs.Common.{◌≡◌, ℕ, ◌+◌, ◌<◌, List, [], ◌∷◌, ◌++◌, length, drop, get_or, filter, refl, sym, ap, ◌∙◌, add-one, drop-cons, cond, Bool, true, false}
use Rattle.std.specs.Prelude.{Option, if◌then◌else◌}
use Rattle.mv_base.specs.declared.ids.SiteId.{SiteId}
use Rattle.scenario_defs.specs.declared.scenario.Site.{Site}
use Rattle.scenario_defs.specs.declared.scenario.Route.{Route}
use Rattle.scenario_defs.specs.Home.{routes_of_site, routes_from, longer, longest_after}

-- The same, after a route that is filtered.
longest_thereafter : (best : Option Route) (x : Route) (xs ys all : List Route) (b : Bool)
    → ((start : Option Route) → longest_after start all ≡ longest_after (longest_after start xs) ys)
    → longest_after best (cond b (x ∷ all) all) ≡ longest_after (longest_after best (cond b (x ∷ xs) xs)) ys
longest_thereafter best x xs ys all true h = h (longer best x)
longest_thereafter best x xs ys all false h = h best

-- The longest of two lists is the longest of the second after that of the first.
pub longest_after-append : (p : Route → Bool) (best : Option Route) (xs ys : List Route)
    → longest_after best (filter p (xs ++ ys)) ≡ longest_after (longest_after best (filter p xs)) (filter p ys)
longest_after-append p best [] ys = refl
longest_after-append p best (x ∷ xs) ys =
    longest_thereafter best x (filter p xs) (filter p ys) (filter p (xs ++ ys)) (p x) (λ start. longest_after-append p start xs ys)

-- The routes from a site on are those of the site and those after it.
pub routes_from-drop : (passes : SiteId → Bool) (sites : List Site) (number : ℕ) (site : Site) (own : List Route) → number < length sites
    → own ≡ (if passes (record { 0 = number }) then routes_of_site (record { 0 = number }) (get_or sites number site).prefixes else [])
    → routes_from passes number (drop number sites) ≡ own ++ routes_from passes (number + 1) (drop (number + 1) sites)
routes_from-drop passes sites number site own lt e = rw (drop-cons sites number site, add-one, e) refl

-- One site more.
pub longest_step : (p : Route → Bool) (passes : SiteId → Bool) (sites : List Site) (number : ℕ) (site : Site) (own : List Route)
    (best last : Option Route) → number < length sites
    → own ≡ (if passes (record { 0 = number }) then routes_of_site (record { 0 = number }) (get_or sites number site).prefixes else [])
    → longest_after best (filter p (routes_from passes number (drop number sites))) ≡ last
    → longest_after (longest_after best (filter p own)) (filter p (routes_from passes (number + 1) (drop (number + 1) sites))) ≡ last
longest_step p passes sites number site own best last lt e h =
    sym (longest_after-append p best own _) ∙ (ap (λ (l : List Route). longest_after best (filter p l))
    (sym (routes_from-drop passes sites number site own lt e)) ∙ h)
