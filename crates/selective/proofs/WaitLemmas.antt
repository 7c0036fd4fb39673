-- Routes of which it is noted from when on a delay may be over.
use Rattle.std.proofs.Common.{◌≡◌, ℕ, ◌+◌, ◌&&◌, Bool, true, false, cond, not, nat_le, List, [], ◌∷◌, Option, None, Some, arith, fold, refl, subst, sym, ap, ◌∙◌}
use Rattle.std.proofs.lemmas.Bool.{leb-false, lt-leb}
use Rattle.std.specs.Cmp.{Equal-is}
use Rattle.std.specs.FinMap.{empty, entries, find, get, get-empty, get-entries, get-insert, get-remove, insert, remove}
use Rattle.std.specs.Ordering.{eq_by_cmp}
use Rattle.selective.specs.declared.route_key.Learned.{Learned}
use Rattle.selective.specs.declared.route_key.RouteKey.{RouteKey}
use Rattle.selective.specs.Leaves.{Routes, is_waiting}
use Rattle.selective.specs.Order.{route_cmp, route_total}
use Rattle.selective.specs.Waiting.{IsFrom, IsNoted, earlier, earliest_with, is_any_due}
use Rattle.selective.proofs.OrderLemmas.{route_exact}

one_key : (q k : RouteKey) → eq_by_cmp route_cmp q k ≡ true → q ≡ k
one_key q k e = route_exact q k ((Equal-is (route_cmp q k)).0 e)

one_some : (x y : Learned) → Some x ≡ Some y → x ≡ y
one_some x y h = cc

no_some : {P : Type 0} (x : Learned) → ◌≡◌ {A = Option Learned} None (Some x) → P
no_some x h = absurd cc

-- another route makes the clock no later
still_from : (counts : Bool) (earliest : Option ℕ) (clock at : ℕ) → IsFrom earliest at → IsFrom (earlier counts earliest clock) at
still_from false earliest clock at h = h
still_from true None clock at h = absurd h
still_from true (Some first) clock at h = omega (arith, h)

own_from : (counts : Bool) (earliest : Option ℕ) (clock : ℕ) → counts ≡ true → IsFrom (earlier counts earliest clock) clock
own_from false earliest clock h = absurd cc
own_from true None clock h = omega arith
own_from true (Some first) clock h = omega arith

-- nothing waits where no route was learned
pub none_noted : (earliest : Option ℕ) (routes : Routes) → routes ≡ empty → IsNoted earliest routes
none_noted earliest routes is key route at = no_some route (sym (get-empty route_cmp key) ∙ ap (λ (r : Routes). get r key) (sym is) ∙ at)

pub put_noted : (was earliest : Option ℕ) (old new : Routes) (key : RouteKey) (route : Learned) → IsNoted was old
    → earliest ≡ earliest_with was (key, route) → new ≡ insert old key route → IsNoted earliest new
put_noted was earliest old new key route noted is put q at there waits =
    subst (λ (o : Option ℕ). IsFrom o at.since) (sym is)
    (by (eq_by_cmp route_cmp q key) (sym (get-insert route_total old key route q) ∙ ap (λ (r : Routes). get r q) (sym put) ∙ there))
  where
    by : (b : Bool) → cond b (Some route) (get old q) ≡ Some at → IsFrom (earliest_with was (key, route)) at.since
    by true k =
        let own : route ≡ at = one_some route at k in
        subst (λ (r : Learned). IsFrom (earliest_with was (key, route)) r.since) own
        (own_from (not route.run) was route.since (ap not (ap (λ (r : Learned). r.run) own ∙ waits)))
    by false k = still_from (not route.run) was route.since at.since (noted q at k waits)

pub rest_noted : (earliest : Option ℕ) (old new : Routes) (key : RouteKey) → IsNoted earliest old → new ≡ remove old key → IsNoted earliest new
rest_noted earliest old new key noted is q at there waits =
    by (eq_by_cmp route_cmp q key) (sym (get-remove route_total old key q) ∙ ap (λ (r : Routes). get r q) (sym is) ∙ there)
  where
    by : (b : Bool) → cond b None (get old q) ≡ Some at → IsFrom earliest at.since
    by true k = no_some at k
    by false k = noted q at k waits

all_from : (es : List (RouteKey × Learned)) (earliest : Option ℕ) (at : ℕ) → IsFrom earliest at → IsFrom (fold earliest_with earliest es) at
all_from [] earliest at h = h
all_from (e ∷ es) earliest at h = all_from es (earliest_with earliest e) at (still_from (not e.1.run) earliest e.1.since at h)

found_from : (es : List (RouteKey × Learned)) (earliest : Option ℕ) (q : RouteKey) (at : Learned) → find route_cmp q es ≡ Some at → at.run ≡ false
    → IsFrom (fold earliest_with earliest es) at.since
found_from [] earliest q at there waits = no_some at there
found_from (e ∷ es) earliest q at there waits =
    by (eq_by_cmp route_cmp q e.0) (λ rest. found_from es (earliest_with earliest e) q at rest waits) there
  where
    by : (b : Bool) → (find route_cmp q es ≡ Some at → IsFrom (fold earliest_with (earliest_with earliest e) es) at.since)
        → cond b (Some e.1) (find route_cmp q es) ≡ Some at → IsFrom (fold earliest_with (earliest_with earliest e) es) at.since
    by true rest k =
        let own : e.1 ≡ at = one_some e.1 at k in
        subst (λ (r : Learned). IsFrom (fold earliest_with (earliest_with earliest e) es) r.since) own
        (all_from es (earliest_with earliest e) e.1.since
        (own_from (not e.1.run) earliest e.1.since (ap not (ap (λ (r : Learned). r.run) own ∙ waits))))
    by false rest k = rest k

-- what a look at each route gives
pub seen_noted : (earliest : Option ℕ) (routes : Routes) → earliest ≡ fold earliest_with None (entries routes) → IsNoted earliest routes
seen_noted earliest routes is q at there waits =
    subst (λ (o : Option ℕ). IsFrom o at.since) (sym is) (found_from (entries routes) None q at (sym (get-entries routes q) ∙ there) waits)

-- Where no delay can be over, no route waits.
pub none_waits : (delay now : ℕ) (earliest : Option ℕ) (routes : Routes) → IsNoted earliest routes → is_any_due delay now earliest ≡ false
    → (key : RouteKey) (route : Learned) → get routes key ≡ Some route → is_waiting delay now route ≡ false
none_waits delay now earliest routes noted none key route at = by route.run refl
  where
    over : (o : Option ℕ) → IsFrom o route.since → is_any_due delay now o ≡ false → nat_le (route.since + delay) now ≡ false
    over None from h = absurd from
    over (Some first) from h = lt-leb (route.since + delay) now (omega (arith, from, leb-false (first + delay) now h))

    by : (b : Bool) → route.run ≡ b → (not b && nat_le (route.since + delay) now) ≡ false
    by true e = refl
    by false e = over earliest (noted key route at e) none
