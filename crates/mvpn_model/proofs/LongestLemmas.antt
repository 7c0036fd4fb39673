-- The longest of the routes that cover a source is one of them, and none of them is longer.
use Rattle.std.proofs.Common.{◌≡◌, ℕ, ◌≤◌, ◌⊎◌, Bool, true, false, List, [], ◌∷◌, filter, refl, sym, ap, subst, ◌∙◌, cond, zero, suc, inl, inr, arith}
use Rattle.std.specs.Prelude.{Option, None, Some, IfSome, IfNone, slice_get, nat_le, option_map}
use Rattle.std.proofs.lemmas.Bool.{leb-true, leb-false}
use Rattle.mv_base.specs.declared.ids.SiteId.{SiteId}
use Rattle.mv_base.specs.declared.addr.Addr.{Addr}
use Rattle.mv_base.specs.Prefix.{covers}
use Rattle.scenario_defs.specs.declared.scenario.Route.{Route}
use Rattle.scenario_defs.specs.Home.{longer, longest_after, home_by, IsLongest, IsUncovered}

-- what the longer of a best route and another one is
record Longer (best : Option Route) (route : Route) : Type 0 where
  kept : Route
  is : longer best route ≡ Some kept
  own : route.prefix.bits ≤ kept.prefix.bits
  before : IfSome best (λ b. b.prefix.bits ≤ kept.prefix.bits)
  one : (kept ≡ route) ⊎ (best ≡ Some kept)

longer_of : (best route : Route) (b : Bool) → nat_le route.prefix.bits best.prefix.bits ≡ b → Longer (Some best) route
longer_of best route true h = record { kept = best; is = rw h refl; own = leb-true _ _ h; before = omega arith; one = inr refl }
longer_of best route false h =
    record {
      kept = route;
      is = rw h refl;
      own = omega arith;
      before = let lt = leb-false route.prefix.bits best.prefix.bits h in
          omega (arith, lt);
      one = inl refl;
    }

longer_is : (best : Option Route) (route : Route) → Longer best route
longer_is None route = record { kept = route; is = refl; own = omega arith; before = tt; one = inl refl }
longer_is (Some best) route = longer_of best route (nat_le route.prefix.bits best.prefix.bits) refl

-- what the longest after a best one is, of those that pass a test
record IsBest (p : Route → Bool) (best : Option Route) (all : List Route) (route : Route) : Type 0 where
  found : (best ≡ Some route) ⊎ ((place : ℕ) × (slice_get all place ≡ Some route) × (p route ≡ true))
  longest : (place : ℕ) (other : Route) → slice_get all place ≡ Some other → p other ≡ true → other.prefix.bits ≤ route.prefix.bits
  before : IfSome best (λ b. b.prefix.bits ≤ route.prefix.bits)

at_itself : (best : Option Route) (route : Route) → best ≡ Some route → IfSome best (λ b. b.prefix.bits ≤ route.prefix.bits)
at_itself best route h = rw h (omega arith)

before_both : (best : Option Route) (m n : ℕ) → IfSome best (λ b. b.prefix.bits ≤ m) → m ≤ n → IfSome best (λ b. b.prefix.bits ≤ n)
before_both None m n h le = tt
before_both (Some b) m n h le = omega (arith, h, le)

found_more : (p : Route → Bool) (best : Option Route) (x : Route) (xs : List Route) (route : Route) → p x ≡ true → Longer best x
    → (longer best x ≡ Some route) ⊎ ((place : ℕ) × (slice_get xs place ≡ Some route) × (p route ≡ true))
    → (best ≡ Some route) ⊎ ((place : ℕ) × (slice_get (x ∷ xs) place ≡ Some route) × (p route ≡ true))
found_more p best x xs route px l (inr f) = inr (suc f.0, f.1, f.2)
found_more p best x xs route px l (inl e) =
    let same : l.kept ≡ route = let i = l.is in cc in
    elim l.one [
      | inl k ↦ let own : x ≡ route = sym k ∙ same in inr (0, ap (λ (r : Route). Some r) own, subst (λ (r : Route). p r ≡ true) own px)
      | inr k ↦ inl (k ∙ ap (λ (r : Route). Some r) same)
    ]

more_found : (p : Route → Bool) (best : Option Route) (x : Route) (xs : List Route) (route : Route)
    → (best ≡ Some route) ⊎ ((place : ℕ) × (slice_get xs place ≡ Some route) × (p route ≡ true))
    → (best ≡ Some route) ⊎ ((place : ℕ) × (slice_get (x ∷ xs) place ≡ Some route) × (p route ≡ true))
more_found p best x xs route (inl e) = inl e
more_found p best x xs route (inr f) = inr (suc f.0, f.1, f.2)

kept_within : (best : Option Route) (x kept : Route) (n : ℕ) → longer best x ≡ Some kept → IfSome (longer best x) (λ b. b.prefix.bits ≤ n)
    → kept.prefix.bits ≤ n
kept_within best x kept n e h = rw e at h

no_pass : (p : Route → Bool) (x other : Route) → p x ≡ false → x ≡ other → p other ≡ true → ⊥
no_pass p x other px same po = let q : p other ≡ false = subst (λ (r : Route). p r ≡ false) same px in absurd cc

longest_of : (p : Route → Bool) (best : Option Route) (x : Route) (xs : List Route) (route : Route) (b : Bool) → p x ≡ b
    → longest_after best (cond b (x ∷ filter p xs) (filter p xs)) ≡ Some route
    → ((start : Option Route) → longest_after start (filter p xs) ≡ Some route → IsBest p start xs route) → IsBest p best (x ∷ xs) route
longest_of p best x xs route true px h again =
    let l = longer_is best x in
    let r = again (longer best x) h in
    let le = kept_within best x l.kept route.prefix.bits l.is r.before in
    record {
      found = found_more p best x xs route px l r.found;
      longest = at_place (omega (arith, l.own, le)) r.longest;
      before = before_both best l.kept.prefix.bits route.prefix.bits l.before le;
    }
  where
    at_place : x.prefix.bits ≤ route.prefix.bits
        → ((place : ℕ) (other : Route) → slice_get xs place ≡ Some other → p other ≡ true → other.prefix.bits ≤ route.prefix.bits)
        → (place : ℕ) (other : Route) → slice_get (x ∷ xs) place ≡ Some other → p other ≡ true → other.prefix.bits ≤ route.prefix.bits
    at_place own more zero other e po = let same : x ≡ other = cc in subst (λ (r : Route). r.prefix.bits ≤ route.prefix.bits) same own
    at_place own more (suc place) other e po = more place other e po
longest_of p best x xs route false px h again =
    let r = again best h in
    record { found = more_found p best x xs route r.found; longest = at_place r.longest; before = r.before }
  where
    at_place : ((place : ℕ) (other : Route) → slice_get xs place ≡ Some other → p other ≡ true → other.prefix.bits ≤ route.prefix.bits)
        → (place : ℕ) (other : Route) → slice_get (x ∷ xs) place ≡ Some other → p other ≡ true → other.prefix.bits ≤ route.prefix.bits
    at_place more zero other e po = let same : x ≡ other = cc in absurd (no_pass p x other px same po)
    at_place more (suc place) other e po = more place other e po

-- The longest of those that pass is one of them or the best before, and none is longer.
longest_best : (p : Route → Bool) (best : Option Route) (all : List Route) (route : Route) → longest_after best (filter p all) ≡ Some route
    → IsBest p best all route
longest_best p best [] route h = record { found = inl h; longest = λ place other e po. absurd cc; before = at_itself best route h }
longest_best p best (x ∷ xs) route h = longest_of p best x xs route (p x) refl h (λ start k. longest_best p start xs route k)

-- A best one is never lost.
never_lost : (kept : Route) (all : List Route) → longest_after (Some kept) all ≡ None → ⊥
never_lost kept [] h = absurd cc
never_lost kept (x ∷ xs) h = let l = longer_is (Some kept) x in never_lost l.kept xs (subst (λ (o : Option Route). longest_after o xs ≡ None) l.is h)

none_of : (p : Route → Bool) (best : Option Route) (x : Route) (xs : List Route) (b : Bool) → p x ≡ b
    → longest_after best (cond b (x ∷ filter p xs) (filter p xs)) ≡ None
    → (longest_after best (filter p xs) ≡ None → (place : ℕ) (route : Route) → slice_get xs place ≡ Some route → p route ≡ false)
    → (place : ℕ) (route : Route) → slice_get (x ∷ xs) place ≡ Some route → p route ≡ false
none_of p best x xs true px h again place route e = let l = longer_is best x in
    absurd (never_lost l.kept (filter p xs) (subst (λ (o : Option Route). longest_after o (filter p xs) ≡ None) l.is h))
none_of p best x xs false px h again zero route e = let same : x ≡ route = cc in subst (λ (r : Route). p r ≡ false) same px
none_of p best x xs false px h again (suc place) route e = again h place route e

-- Where there is no longest, none passes.
longest_none : (p : Route → Bool) (best : Option Route) (all : List Route) → longest_after best (filter p all) ≡ None → (place : ℕ) (route : Route)
    → slice_get all place ≡ Some route → p route ≡ false
longest_none p best [] h place route e = absurd cc
longest_none p best (x ∷ xs) h place route e = none_of p best x xs (p x) refl h (λ k. longest_none p best xs k) place route e

best_home : (all : List Route) (source : Addr) (site : SiteId) (route : Route) → IsBest (λ route. covers route.prefix source) None all route
    → route.site ≡ site → IsLongest all source site
best_home all source site route best of_site = elim best.found [
  | inl e ↦ absurd cc
  | inr f ↦ record { place = f.0; route = route; among = f.1; covering = f.2; of_site = of_site; longest = best.longest }
]

-- The home of a source is the site of a longest route that covers it.
pub home_longest : (all : List Route) (source : Addr) (site : SiteId) → home_by all source ≡ Some site → IsLongest all source site
home_longest all source site h = by (longest_after None (filter (λ route. covers route.prefix source) all)) refl h
  where
    by : (found : Option Route) → longest_after None (filter (λ route. covers route.prefix source) all) ≡ found
        → option_map (λ route. route.site) found ≡ Some site → IsLongest all source site
    by None e k = absurd cc
    by (Some route) e k = let of_site : route.site ≡ site = cc in
        best_home all source site route (longest_best (λ route. covers route.prefix source) None all route e) of_site

-- A source without a home is covered by no route.
pub home_uncovered : (all : List Route) (source : Addr) → home_by all source ≡ None → IsUncovered all source
home_uncovered all source h = by (longest_after None (filter (λ route. covers route.prefix source) all)) refl h
  where
    by : (found : Option Route) → longest_after None (filter (λ route. covers route.prefix source) all) ≡ found
        → option_map (λ route. route.site) found ≡ None → IsUncovered all source
    by None e k = longest_none (λ route. covers route.prefix source) None all e
    by (Some route) e k = absurd cc

-- What an answer that is the home tells.
pub if_longest : (all : List Route) (source : Addr) (found : Option SiteId) → found ≡ home_by all source → IfSome found (IsLongest all source)
if_longest all source None e = tt
if_longest all source (Some site) e = home_longest all source site (sym e)

pub if_uncovered : (all : List Route) (source : Addr) (found : Option SiteId) → found ≡ home_by all source → IfNone found (IsUncovered all source)
if_uncovered all source None e = home_uncovered all source (sym e)
if_uncovered all source (Some site) e = tt
