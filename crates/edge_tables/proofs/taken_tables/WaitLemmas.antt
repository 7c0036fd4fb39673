-- Tables of which it is noted from when on a delay may be over.
use Rattle.std.proofs.Common.{◌≡◌, ℕ, ◌==◌, ◌≢◌, inl, inr, ◌&&◌, ◌||◌, Bool, true, false, cond, not, nat_le, ◌+◌, List, [], ◌∷◌, Option, None, Some, arith, fold, refl, subst, sym, ap, ◌∙◌}
use Rattle.std.proofs.lemmas.Bool.{leb-false, lt-leb, ne_eqb}
use Rattle.std.specs.Prelude.{is_some}
use Rattle.std.specs.Option.{option_map}
use Rattle.std.specs.Ordering.{eq_by_cmp}
use Rattle.std.specs.FinMap as maps
use Rattle.std.specs.FinMap.{entries, find, get, get-empty, get-entries, get-insert, get-remove, insert, remove, same_map}
use Rattle.mv_base.specs.Number.{◌>>?◌, only_if}
use Rattle.mv_base.specs.declared.addr.Addr.{Addr}
use Rattle.bgp_values.specs.declared.mvpn_nlri.route.Route.TheVariants as routes
use Rattle.bgp_messages.specs.declared.bgp_attributes.key.Key.{Key}
use Rattle.bgp_messages.specs.declared.bgp_attributes.key.Key.TheVariants.{Mcast, Unicast}
use Rattle.edge_defs.specs.Edge.{Taken, TakenRoute}
use Rattle.edge_defs.specs.Imported.{ImportedSelective, SelectiveRoute, is_admitted, selective_of, tunnel_by}
use Rattle.edge_defs.specs.Keys.{key_cmp}
use Rattle.bgp_messages.specs.bgp_update.Written.{IsWritableKey}
use Rattle.bgp_values.specs.mvpn_nlri.Spelling.{IsOther}
use Rattle.edge_defs.proofs.KeyLemmas.{key_exact, key_total}
use Rattle.edge_routes.specs.declared.route_order.route_type.RouteType.TheVariants as types
use Rattle.edge_routes.specs.route_order.Kept.{is_of_type}
use Rattle.edge_routes.specs.Local.{Local}
use Rattle.edge_tables.specs.taken_tables.Running.{IsFrom, IsNoted, awaits, earlier, earliest_with, imports, is_any_over, is_delayed, run_at, table_run}
use Rattle.edge_tables.proofs.taken_tables.MapLemmas.{get_each, no_some, one_key, one_some}

-- ---- which routes have a delay

-- The type of a route that RFC 6514 does not define is not 3.
other_is : (kind : ℕ) → IsOther kind → (kind == 3) ≡ false
other_is kind (inl none) = ap (λ (n : ℕ). n == 3) none
other_is kind (inr more) = let apart : kind ≢ 3 = λ e. omega (arith, more, e) in ne_eqb kind 3 apart

pub delayed_is : (key : Key) → IsWritableKey key → is_of_type types.Selective key ≡ is_delayed key
delayed_is (Unicast rd prefix) spelled = refl
delayed_is (Mcast afi (routes.Intra rd originator)) spelled = refl
delayed_is (Mcast afi (routes.Inter rd source_as)) spelled = refl
delayed_is (Mcast afi (routes.Selective rd source group originator)) spelled = refl
delayed_is (Mcast afi (routes.Leaf leaf originator)) spelled = refl
delayed_is (Mcast afi (routes.Active rd source group)) spelled = refl
delayed_is (Mcast afi (routes.SharedJoin rd source_as source group)) spelled = refl
delayed_is (Mcast afi (routes.SourceJoin rd source_as source group)) spelled = refl
delayed_is (Mcast afi (routes.Other kind octets)) spelled = other_is kind spelled.route.0

-- ---- what is noted

-- another route makes the clock no later
still_from : (counts : Bool) (earliest : Option ℕ) (clock at : ℕ) → IsFrom earliest at → IsFrom (earlier counts earliest clock) at
still_from false earliest clock at h = h
still_from true None clock at h = absurd h
still_from true (Some first) clock at h = omega (arith, h)

own_from : (counts : Bool) (earliest : Option ℕ) (clock : ℕ) → counts ≡ true → IsFrom (earlier counts earliest clock) clock
own_from false earliest clock h = absurd cc
own_from true None clock h = omega arith
own_from true (Some first) clock h = omega arith

-- nothing waits in a table of no route
pub none_noted : (earliest : Option ℕ) (taken : Taken) → taken ≡ maps.empty → IsNoted earliest taken
none_noted earliest taken is key route at = no_some route (sym (get-empty key_cmp key) ∙ ap (λ (t : Taken). get t key) (sym is) ∙ at)

pub put_noted : (was earliest : Option ℕ) (old new : Taken) (key : Key) (route : TakenRoute) → IsNoted was old
    → earliest ≡ earliest_with was (key, route) → new ≡ insert old key route → IsNoted earliest new
put_noted was earliest old new key route noted is put q at there waits =
    subst (λ (o : Option ℕ). IsFrom o at.since) (sym is)
    (by (eq_by_cmp key_cmp q key) refl (sym (get-insert key_total old key route q) ∙ ap (λ (t : Taken). get t q) (sym put) ∙ there))
  where
    by : (b : Bool) → eq_by_cmp key_cmp q key ≡ b → cond b (Some route) (get old q) ≡ Some at → IsFrom (earliest_with was (key, route)) at.since
    by true e k =
        let own : route ≡ at = one_some route at k in
        let same : q ≡ key = one_key key_exact q key e in
        subst (λ (r : TakenRoute). IsFrom (earliest_with was (key, route)) r.since) own
        (own_from (awaits key route) was route.since ((λ i. awaits (sym same i) (own i)) ∙ waits))
    by false e k = still_from (awaits key route) was route.since at.since (noted q at k waits)

-- where there was none of the key, and else nothing changes
pub entered_noted : (was earliest : Option ℕ) (fresh : Bool) (old new : Taken) (key : Key) (route : TakenRoute) → IsNoted was old
    → earliest ≡ earliest_with was (key, route) → (fresh ≡ true → new ≡ insert old key route) → (fresh ≡ false → new ≡ old) → IsNoted earliest new
entered_noted was earliest true old new key route noted is put stays = put_noted was earliest old new key route noted is (put refl)
entered_noted was earliest false old new key route noted is put stays = λ q at there waits.
    subst (λ (o : Option ℕ). IsFrom o at.since) (sym is)
    (still_from (awaits key route) was route.since at.since (noted q at (ap (λ (t : Taken). get t q) (sym (stays refl)) ∙ there) waits))

pub rest_noted : (earliest : Option ℕ) (old new : Taken) (key : Key) → IsNoted earliest old → new ≡ remove old key → IsNoted earliest new
rest_noted earliest old new key noted is q at there waits =
    by (eq_by_cmp key_cmp q key) (sym (get-remove key_total old key q) ∙ ap (λ (t : Taken). get t q) (sym is) ∙ there)
  where
    by : (b : Bool) → cond b None (get old q) ≡ Some at → IsFrom earliest at.since
    by true k = no_some at k
    by false k = noted q at k waits

all_from : (es : List (Key × TakenRoute)) (earliest : Option ℕ) (at : ℕ) → IsFrom earliest at → IsFrom (fold earliest_with earliest es) at
all_from [] earliest at h = h
all_from (e ∷ es) earliest at h = all_from es (earliest_with earliest e) at (still_from (awaits e.0 e.1) earliest e.1.since at h)

found_from : (es : List (Key × TakenRoute)) (earliest : Option ℕ) (q : Key) (at : TakenRoute) → find key_cmp q es ≡ Some at → awaits q at ≡ true
    → IsFrom (fold earliest_with earliest es) at.since
found_from [] earliest q at there waits = no_some at there
found_from (e ∷ es) earliest q at there waits =
    by (eq_by_cmp key_cmp q e.0) refl (λ rest. found_from es (earliest_with earliest e) q at rest waits) there
  where
    by : (b : Bool) → eq_by_cmp key_cmp q e.0 ≡ b → (find key_cmp q es ≡ Some at → IsFrom (fold earliest_with (earliest_with earliest e) es) at.since)
        → cond b (Some e.1) (find key_cmp q es) ≡ Some at → IsFrom (fold earliest_with (earliest_with earliest e) es) at.since
    by true h rest k =
        let own : e.1 ≡ at = one_some e.1 at k in
        let same : q ≡ e.0 = one_key key_exact q e.0 h in
        let first : IsFrom (earliest_with earliest e) e.1.since =
        own_from (awaits e.0 e.1) earliest e.1.since ((λ i. awaits (sym same i) (own i)) ∙ waits) in
        subst (λ (r : TakenRoute). IsFrom (fold earliest_with (earliest_with earliest e) es) r.since) own
        (all_from es (earliest_with earliest e) e.1.since first)
    by false h rest k = rest k

-- what a look at each route gives
pub seen_noted : (earliest : Option ℕ) (taken : Taken) → earliest ≡ fold earliest_with None (entries taken) → IsNoted earliest taken
seen_noted earliest taken is q at there waits =
    subst (λ (o : Option ℕ). IsFrom o at.since) (sym is) (found_from (entries taken) None q at (sym (get-entries taken q) ∙ there) waits)

-- ---- what stays as it is

not_selective : (key : Key) → is_delayed key ≡ false → selective_of key ≡ None
not_selective (Unicast rd prefix) h = refl
not_selective (Mcast afi (routes.Intra rd originator)) h = refl
not_selective (Mcast afi (routes.Inter rd source_as)) h = refl
not_selective (Mcast afi (routes.Selective rd source group originator)) h = absurd cc
not_selective (Mcast afi (routes.Leaf key originator)) h = refl
not_selective (Mcast afi (routes.Active rd source group)) h = refl
not_selective (Mcast afi (routes.SharedJoin rd source_as source group)) h = refl
not_selective (Mcast afi (routes.SourceJoin rd source_as source group)) h = refl
not_selective (Mcast afi (routes.Other kind octets)) h = refl

module _ (peer : Addr) (key : Key) (route : TakenRoute) where
  abbrev imported_by : Local → Option SelectiveRoute → Option ImportedSelective
  imported_by own found =
      found >>? λ route-of. only_if (is_admitted own.vrf route.value.comms) route.value >>? λ value.
      tunnel_by peer route-of.originator value >>? λ fec. Some (record { route = route-of; fec = fec })

  pub not_imported : (vrfs : List Local) → is_delayed key ≡ false → imports vrfs peer (key, route) ≡ false
  not_imported [] h = refl
  not_imported (own ∷ vrfs) h =
      ap (λ (o : Option SelectiveRoute). is_some (imported_by own o) || imports vrfs peer (key, route)) (not_selective key h)
      ∙ not_imported vrfs h

stays : (run delayed imported due : Bool) → (delayed && not run) ≡ false → (delayed ≡ false → imported ≡ false)
    → (run || (imported && due)) ≡ run
stays true delayed imported due h k = refl
stays false true imported due h k = absurd cc
stays false false imported due h k = ap (λ (b : Bool). b && due) (k refl)

early : (run imported due : Bool) → due ≡ false → (run || (imported && due)) ≡ run
early true imported due h = refl
early false true due h = h
early false false due h = refl

asked_first : (run delayed imported due : Bool) → (delayed ≡ false → imported ≡ false)
    → (run || (((delayed && not run) && due) && imported)) ≡ (run || (imported && due))
asked_first true delayed imported due k = refl
asked_first false true true true k = refl
asked_first false true true false k = refl
asked_first false true false true k = refl
asked_first false true false false k = refl
asked_first false false imported due k = sym (ap (λ (b : Bool). b && due) (k refl))

module _ (vrfs : List Local) (delay now : ℕ) (peer : Addr) where
  -- a route whose delay was run, or that has none
  route_stays : (key : Key) (route : TakenRoute) → awaits key route ≡ false → run_at vrfs delay now peer key route ≡ route
  route_stays key route h =
      let due = nat_le (route.since + delay) now in
      let same = stays route.run (is_delayed key) (imports vrfs peer (key, route)) due h (not_imported peer key route vrfs) in
      λ i. record route { run = same i }

  -- a route that was run where its delay is due
  pub route_ran : (key : Key) (old new : TakenRoute) (is_due : Bool)
      → is_due ≡ ((awaits key old && nat_le (old.since + delay) now) && imports vrfs peer (key, old))
      → new ≡ record old { run = old.run || is_due } → new ≡ run_at vrfs delay now peer key old
  route_ran key old new is_due due is =
      let over = nat_le (old.since + delay) now in
      let same = asked_first old.run (is_delayed key) (imports vrfs peer (key, old)) over (not_imported peer key old vrfs) in
      is ∙ (λ i. record old { run = old.run || due i }) ∙ (λ i. record old { run = same i })

  -- a route whose delay is not over
  route_early : (key : Key) (route : TakenRoute) → nat_le (route.since + delay) now ≡ false → run_at vrfs delay now peer key route ≡ route
  route_early key route h =
      let same = early route.run (imports vrfs peer (key, route)) (nat_le (route.since + delay) now) h in
      λ i. record route { run = same i }

  not_over : (earliest : Option ℕ) (since : ℕ) → IsFrom earliest since → is_any_over earliest delay now ≡ false → nat_le (since + delay) now ≡ false
  not_over None since from none = absurd from
  not_over (Some first) since from none = lt-leb (since + delay) now (omega (arith, from, leb-false (first + delay) now none))

  -- a table in which no delay can be over
  pub table_stays : (earliest : Option ℕ) (taken : Taken) → IsNoted earliest taken → is_any_over earliest delay now ≡ false
      → taken ≡ table_run vrfs delay now peer taken
  table_stays earliest taken noted none =
      same_map key_total key_exact taken (table_run vrfs delay now peer taken)
      (λ q. sym (get_each key_total key_exact (run_at vrfs delay now peer) taken q ∙ by q (get taken q) refl))
    where
      at : (q : Key) (route : TakenRoute) → get taken q ≡ Some route → (b : Bool) → awaits q route ≡ b → run_at vrfs delay now peer q route ≡ route
      at q route e true waits = route_early q route (not_over earliest route.since (noted q route e waits) none)
      at q route e false waits = route_stays q route waits

      by : (q : Key) (o : Option TakenRoute) → get taken q ≡ o → option_map (run_at vrfs delay now peer q) o ≡ o
      by q None e = refl
      by q (Some route) e = ap (λ (r : TakenRoute). Some r) (at q route e (awaits q route) refl)
