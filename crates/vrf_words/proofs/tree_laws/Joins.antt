-- The joins that the edge holds towards a peer are those of the trees of its VRFs.
use Rattle.std.proofs.Common.{◌≡◌, ℕ, ◌+◌, ◌≤◌, ◌<◌, ◌==◌, ◌&&◌, nat_eq, Bool, true, false, cond, T, inl, inr, List, [], ◌∷◌, ◌++◌, Option, Some, None, option_map, refl, sym, ap, ◌∙◌, arith}
use Rattle.std.specs.FinMap as maps
use Rattle.std.specs.FinMap.{find, is_sorted}
use Rattle.std.specs.FinMap.Entries.{below_all}
use Rattle.std.specs.Ordering.{eq_by_cmp, is_eq, nat_cmp, ordering_then}
use Rattle.std.specs.declared.cmp.Ordering.{Ordering}
use Rattle.std.specs.declared.cmp.Ordering.TheVariants.{Less, Equal}
use Rattle.std.specs.Cmp.{Equal-is, nat_cmp_is, tied_itself}
use Rattle.std.specs.Cmp.Lexicographic.{bytes_decides, pointwise, slice_cmp}
use Rattle.std.proofs.lemmas.Bool.{and_from, and_parts, cases_lt, eq-eqb, eqb-true}
use Rattle.std.proofs.lemmas.Option.{cond_some, same_Some}
use Rattle.mv_base.specs.Lists.{Among}
use Rattle.mv_base.specs.Number.{◌>>?◌, only_if}
use Rattle.mv_base.specs.declared.addr.Addr.{Addr}
use Rattle.mv_base.specs.declared.ids.NodeId.{NodeId}
use Rattle.mv_base.specs.declared.ids.VrfId.{VrfId}
use Rattle.mv_base.specs.declared.rd.Rd.{Rd}
use Rattle.edge_words.specs.bgp_messages.bgp_values.declared.mvpn_nlri.route.Afi.{Afi}
use Rattle.edge_words.specs.bgp_messages.bgp_values.declared.mvpn_nlri.route.Route.TheVariants as routes
use Rattle.edge_words.specs.bgp_messages.declared.bgp_attributes.key.Key.{Key}
use Rattle.edge_words.specs.bgp_messages.declared.bgp_attributes.key.Key.TheVariants.{Mcast}
use Rattle.edge_words.specs.bgp_messages.bgp_update.Written.{afi_of}
use Rattle.scenario_defs.specs.declared.scenario.Vrf.{Vrf}
use Rattle.edge_words.proofs.label_defs.MemberLemmas.{front_of, back_of}
use Rattle.edge_words.proofs.edge_defs.choice_defs.OrderLemmas.{not_both, not_itself}
use Rattle.vrf_words.specs.declared.tree_defs.flow.Flow.{Flow}
use Rattle.vrf_words.specs.tree_defs.Flows.{upstream_of}
use Rattle.vrf_words.specs.tree_defs.Keys.{flow_parts}
use Rattle.vrf_words.specs.tree_defs.Trees.{TreeData}
use Rattle.edge_words.specs.edge_defs.Edge.{Control, Remote, Site, Upstream, VrfFlow, flow_cmp}
use Rattle.edge_words.specs.edge_defs.Held.{held_for, join_route, join_routes}
use Rattle.edge_words.specs.edge_defs.Imported.{found_in}
use Rattle.edge_words.specs.edge_defs.Keys.{Value, key_cmp}
use Rattle.edge_words.specs.edge_defs.Originated.{active_routes, import_target, originated, routes_of, selective_routes, unicast_routes}
use Rattle.edge_words.specs.edge_defs.Place.{EdgePlace, OwnVrf, own_addr, own_vrfs, vrfs_from}
use Rattle.edge_words.proofs.edge_defs.KeyLemmas.{flow_exact, flow_total, key_exact, key_total}
use Rattle.edge_words.proofs.calm_laws.Entries.{Entry, active_kind, is_join, kind_of, selective_kind, unicast_kind}
use Rattle.edge_words.proofs.calm_laws.Lists.{among_either, flat_map_among, found_step}
use Rattle.edge_words.proofs.calm_laws.Maps.{entry_get, found_stands, get_entry}
use Rattle.edge_words.proofs.calm_laws.Originated.{join_held}
use Rattle.edge_words.proofs.calm_laws.Upstreams.{chained}
use Rattle.edge_words.proofs.calm_laws.Vrfs.{one_number}
use Rattle.edge_words.proofs.Members.{either}
use Rattle.vrf_words.specs.tree_laws.Joins.{AreOfVrfs, first_told, is_join_to, join_key, join_of, join_value}
use Rattle.vrf_words.specs.tree_laws.TreeOf.{IsTreeOf, choice_of, flow_in}
use Rattle.vrf_words.specs.tree_laws.Wanting.{AreTreesOf}
use Rattle.vrf_words.proofs.tree_laws.Entries.{all_above}

none_some : {A B : Type 0} (x : A) → None ≡ Some x → B
none_some x h = absurd cc

-- ---- the first one that tells

-- the first of those that tell, and none before it tells
record IsFirst {X Y : Type 0} (tell : X → Option Y) (Before : X → X → Type 0) (xs : List X) (y : Y) : Type 0 where
  x : X
  among : Among x xs
  is : tell x ≡ Some y
  earlier : (z : X) → Among z xs → Before z x → tell z ≡ None

abbrev InOrder : {X : Type 0} → (X → X → Type 0) → List X → Type 0
InOrder Before [] = Unit {0}
InOrder {X = X} Before (x ∷ xs) = ((z : X) → Among z (x ∷ xs) → Before z x → ⊥) × InOrder Before xs

module _ {X Y : Type 0} (tell : X → Option Y) where
  none_tells : (xs : List X) → first_told tell xs ≡ None → (x : X) → Among x xs → tell x ≡ None
  none_tells [] h x a = absurd a
  none_tells (z ∷ xs) h x a = by (tell z) refl h (λ k b. none_tells xs k x b) a
    where
      by : (o : Option Y) → tell z ≡ o → ◌≡◌ {A = Option Y} (elim o [ None ↦ first_told tell xs | Some y ↦ Some y ]) None
          → (first_told tell xs ≡ None → Among x xs → tell x ≡ None) → Among x (z ∷ xs) → tell x ≡ None
      by None e g rest (inl same) = ap tell same ∙ e
      by None e g rest (inr b) = rest g b
      by (Some y) e g rest b = none_some y (sym g)

  first_is : (Before : X → X → Type 0) (xs : List X) (y : Y) → InOrder Before xs → first_told tell xs ≡ Some y → IsFirst tell Before xs y
  first_is Before [] y o h = none_some y h
  first_is Before (z ∷ xs) y o h = by (tell z) refl h (first_is Before xs y o.1)
    where
      by : (t : Option Y) → tell z ≡ t → elim t [ None ↦ first_told tell xs | Some w ↦ Some w ] ≡ Some y
          → (first_told tell xs ≡ Some y → IsFirst tell Before xs y) → IsFirst tell Before (z ∷ xs) y
      by (Some w) e g rest = record { x = z; among = inl refl; is = e ∙ g; earlier = λ v a b. absurd (o.0 v a b) }
      by None e g rest = later (rest g)
        where
          later : IsFirst tell Before xs y → IsFirst tell Before (z ∷ xs) y
          later f = record { x = f.x; among = inr f.among; is = f.is; earlier = before }
            where
              before : (v : X) → Among v (z ∷ xs) → Before v f.x → tell v ≡ None
              before v (inl same) b = ap tell same ∙ e
              before v (inr a) b = f.earlier v a b

-- the same is told where each of them tells the same
pub told_alike : {X Y : Type 0} (tell other : X → Option Y) → ((x : X) → tell x ≡ other x) → (xs : List X) → first_told tell xs ≡ first_told other xs
told_alike tell other h [] = refl
told_alike tell other h (x ∷ xs) = λ i. elim (h x i) [ None ↦ told_alike tell other h xs i | Some y ↦ Some y ]

-- ---- what a list of entries has first at a key

module _ {K V : Type 0} (R : K → K → Ordering) (key : K) where
  find_after : (xs ys : List (K × V)) → find R key xs ≡ None → find R key (xs ++ ys) ≡ find R key ys
  find_after [] ys h = refl
  find_after (x ∷ xs) ys h = by (eq_by_cmp R key x.0) h (find_after xs ys)
    where
      by : (b : Bool) → cond b (Some x.1) (find R key xs) ≡ None → (find R key xs ≡ None → find R key (xs ++ ys) ≡ find R key ys)
          → cond b (Some x.1) (find R key (xs ++ ys)) ≡ find R key ys
      by true e rest = none_some x.1 (sym e)
      by false e rest = rest e

  abbrev value_at : {X : Type 0} → (X → Option (K × V)) → X → Option V
  value_at g x = g x >>? λ entry. only_if (eq_by_cmp R key entry.0) entry.1

  find_first : {X : Type 0} (g : X → Option (K × V)) (xs : List X) → find R key (found_in g xs) ≡ first_told (value_at g) xs
  find_first g [] = refl
  find_first g (x ∷ xs) = by (g x) refl (find_first g xs)
    where
      passed : (b : Bool) (entry : K × V) → find R key (found_in g xs) ≡ first_told (value_at g) xs
          → cond b (Some entry.1) (find R key (found_in g xs)) ≡ elim (only_if b entry.1) [ None ↦ first_told (value_at g) xs | Some y ↦ Some y ]
      passed true entry rest = refl
      passed false entry rest = rest

      by : (o : Option (K × V)) → g x ≡ o → find R key (found_in g xs) ≡ first_told (value_at g) xs
          → find R key (found_in g (x ∷ xs)) ≡ first_told (value_at g) (x ∷ xs)
      by None e rest =
          ap (find R key) (found_step g x xs None e) ∙ rest
          ∙ sym (ap (λ (o : Option (K × V)). elim (o >>? λ entry. only_if (eq_by_cmp R key entry.0) entry.1)
          [ None ↦ first_told (value_at g) xs | Some y ↦ Some y ]) e)
      by (Some entry) e rest =
          ap (find R key) (found_step g x xs (Some entry) e) ∙ passed (eq_by_cmp R key entry.0) entry rest
          ∙ sym (ap (λ (o : Option (K × V)). elim (o >>? λ own. only_if (eq_by_cmp R key own.0) own.1)
          [ None ↦ first_told (value_at g) xs | Some y ↦ Some y ]) e)

-- ---- keys of joins

pub record OneJoin (afi other_afi : Afi) (rd other_rd : Rd) (source_as other_source_as : ℕ) (source other_source group other_group : Addr) : Type 0
  where
    pub family : afi ≡ other_afi
    pub distinguisher : rd ≡ other_rd
    pub system : source_as ≡ other_source_as
    pub from : source ≡ other_source
    pub to : group ≡ other_group

one_join : (afi other_afi : Afi) (rd other_rd : Rd) (source_as other_source_as : ℕ) (source other_source group other_group : Addr)
    → Mcast afi (routes.SourceJoin rd source_as source group) ≡ Mcast other_afi (routes.SourceJoin other_rd other_source_as other_source other_group)
    → OneJoin afi other_afi rd other_rd source_as other_source_as source other_source group other_group
one_join afi other_afi rd other_rd source_as other_source_as source other_source group other_group h =
    record { family = cc; distinguisher = cc; system = cc; from = cc; to = cc }

one_rd : (a b : Rd) → a.0 ≡ b.0 → a ≡ b
one_rd a b h = λ i. record { 0 = h i }

-- keys of joins of one flow tie where RD and Source AS are the same
key_ties : (afi : Afi) (rd own_rd : Rd) (source_as own_as : ℕ) (flow : Flow)
    → eq_by_cmp key_cmp (join_key afi rd source_as flow) (join_key afi own_rd own_as flow) ≡ (pointwise nat_eq own_rd.0 rd.0 && (own_as == source_as))
key_ties afi rd own_rd source_as own_as flow =
    either (eq_by_cmp key_cmp (join_key afi rd source_as flow) (join_key afi own_rd own_as flow))
    (pointwise nat_eq own_rd.0 rd.0 && (own_as == source_as)) there back
  where
    there : eq_by_cmp key_cmp (join_key afi rd source_as flow) (join_key afi own_rd own_as flow) ≡ true
        → (pointwise nat_eq own_rd.0 rd.0 && (own_as == source_as)) ≡ true
    there h =
        let one =
        one_join afi afi rd own_rd source_as own_as flow.source flow.source flow.group flow.group
        (key_exact (join_key afi rd source_as flow) (join_key afi own_rd own_as flow)
        ((Equal-is (key_cmp (join_key afi rd source_as flow) (join_key afi own_rd own_as flow))).0 h)) in
        and_from (pointwise nat_eq own_rd.0 rd.0) (own_as == source_as)
        ((bytes_decides own_rd.0 rd.0).1 (ap (λ (r : Rd). r.0) (sym one.distinguisher))) (eq-eqb own_as source_as (sym one.system))

    back : (pointwise nat_eq own_rd.0 rd.0 && (own_as == source_as)) ≡ true
        → eq_by_cmp key_cmp (join_key afi rd source_as flow) (join_key afi own_rd own_as flow) ≡ true
    back h =
        let both = and_parts (pointwise nat_eq own_rd.0 rd.0) (own_as == source_as) h in
        let rds : rd ≡ own_rd = one_rd rd own_rd (sym ((bytes_decides own_rd.0 rd.0).0 both.0)) in
        let numbers : source_as ≡ own_as = sym (eqb-true own_as source_as both.1) in
        let same : join_key afi rd source_as flow ≡ join_key afi own_rd own_as flow = λ i. join_key afi (rds i) (numbers i) flow in
        ap (λ (k : Key). is_eq (key_cmp (join_key afi rd source_as flow) k)) (sym same)
        ∙ ap is_eq (tied_itself key_total (join_key afi rd source_as flow))

-- ---- the order of flows and of VRFs

entries_in_order : {V : Type 0} (es : List (VrfFlow × V)) → T (is_sorted flow_cmp es) → InOrder (λ (z x : VrfFlow × V). flow_cmp z.0 x.0 ≡ Less) es
entries_in_order [] s = tt
entries_in_order {V = V} (e ∷ es) s = (first, entries_in_order es (back_of (below_all flow_cmp e.0 es) (is_sorted flow_cmp es) s))
  where
    first : (z : VrfFlow × V) → Among z (e ∷ es) → flow_cmp z.0 e.0 ≡ Less → ⊥
    first z (inl same) h = not_itself flow_total e.0 (ap (λ (y : VrfFlow × V). flow_cmp y.0 e.0) (sym same) ∙ h)
    first z (inr a) h = not_both flow_total z.0 e.0 h (all_above flow_cmp e.0 es (front_of (below_all flow_cmp e.0 es) (is_sorted flow_cmp es) s) z a)

vrf_less : (a b : VrfId) (flow : Flow) → a.0 < b.0 → flow_cmp (flow_in a flow) (flow_in b flow) ≡ Less
vrf_less a b flow h =
    ap (λ (o : Ordering). ordering_then (ordering_then o Equal) (slice_cmp (slice_cmp nat_cmp) (flow_parts flow) (flow_parts flow)))
    (sym (nat_cmp_is a.0 b.0 Less h))

not_below : (me : NodeId) (number : ℕ) (vrfs : List Vrf) (own : OwnVrf) → Among own (vrfs_from me number vrfs) → number ≤ own.id.0
not_below me number [] own a = absurd a
not_below me number (vrf ∷ vrfs) own a = by (vrf.edge.0 == me.0) a (not_below me (number + 1) vrfs own)
  where
    by : (b : Bool) → Among own (cond b (record { id = record { 0 = number }; vrf = vrf } ∷ vrfs_from me (number + 1) vrfs)
        (vrfs_from me (number + 1) vrfs)) → (Among own (vrfs_from me (number + 1) vrfs) → number + 1 ≤ own.id.0) → number ≤ own.id.0
    by true (inl e) rest = (let same : own.id.0 ≡ number = ap (λ (o : OwnVrf). o.id.0) e in omega (arith, same))
    by true (inr b) rest = (let above = rest b in omega (arith, above))
    by false b rest = (let above = rest b in omega (arith, above))

abbrev Lower : OwnVrf → OwnVrf → Type 0
Lower a b = a.id.0 < b.id.0

vrfs_in_order : (me : NodeId) (number : ℕ) (vrfs : List Vrf) → InOrder Lower (vrfs_from me number vrfs)
vrfs_in_order me number [] = tt
vrfs_in_order me number (vrf ∷ vrfs) = by (vrf.edge.0 == me.0) (vrfs_in_order me (number + 1) vrfs)
  where
    first : (z : OwnVrf) → Among z (record { id = record { 0 = number }; vrf = vrf } ∷ vrfs_from me (number + 1) vrfs) → z.id.0 < number → ⊥
    first z (inl same) h = (let e : z.id.0 ≡ number = ap (λ (o : OwnVrf). o.id.0) same in omega (arith, e, h))
    first z (inr a) h = (let above : number + 1 ≤ z.id.0 = not_below me (number + 1) vrfs z a in omega (arith, above, h))

    by : (b : Bool) → InOrder Lower (vrfs_from me (number + 1) vrfs)
        → InOrder Lower (cond b (record { id = record { 0 = number }; vrf = vrf } ∷ vrfs_from me (number + 1) vrfs) (vrfs_from me (number + 1) vrfs))
    by true rest = (first, rest)
    by false rest = rest

-- ---- what is originated is no join

not_own : (place : EdgePlace) (control : Control) (entry : Entry) → kind_of entry.0 ≡ 7 → Among entry (originated place control) → ⊥
not_own place control entry k a =
    let own = flat_map_among (routes_of place control) entry (own_vrfs place) a in
    by own.0 own.2
  where
    by : (own : OwnVrf) → Among entry (routes_of place control own) → ⊥
    by own (inl e) = (let bad = ap (λ (x : Entry). kind_of x.0) e in omega (arith, k, bad))
    by own (inr b) = elim (among_either entry (unicast_routes place own) (selective_routes place control own ++ active_routes place control own) b) [
      | inl c ↦ (let bad = unicast_kind place own entry c in omega (arith, k, bad))
      | inr c ↦ elim (among_either entry (selective_routes place control own) (active_routes place control own) c) [
        | inl d ↦ (let bad = selective_kind place control own entry d in omega (arith, k, bad))
        | inr d ↦ (let bad = active_kind place control own entry d in omega (arith, k, bad))
      ]
    ]

not_originated : (place : EdgePlace) (control : Control) (key : Key) → kind_of key ≡ 7 → find key_cmp key (originated place control) ≡ None
not_originated place control key k = by (find key_cmp key (originated place control)) refl
  where
    by : (o : Option Value) → find key_cmp key (originated place control) ≡ o → o ≡ None
    by None e = refl
    by (Some value) e = absurd (not_own place control (key, value) k (found_stands key_exact key value (originated place control) e))

-- ---- the joins of all VRFs

module _ (place : EdgePlace) (control : Control) (peer : NodeId) (rd : Rd) (source_as : ℕ) (flow : Flow) where
  abbrev key : Key
  key = join_key (afi_of flow.source) rd source_as flow

  abbrev tell : VrfFlow × Option Upstream → Option Value
  tell = value_at key_cmp key (join_route place peer)

  abbrev vrf_tells : OwnVrf → Option Value
  vrf_tells own = maps.get control.flows (flow_in own.id flow) >>? λ up. tell (flow_in own.id flow, up)

  -- an entry that tells of the join is of the flow
  of_flow : (entry : VrfFlow × Option Upstream) (value : Value) → tell entry ≡ Some value → entry.0 ≡ flow_in entry.0.vrf flow
  of_flow entry value h =
      let first = chained (join_route place peer entry) (λ (own : Key × Value). only_if (eq_by_cmp key_cmp key own.0) own.1) value h in
      let passed = cond_some (eq_by_cmp key_cmp key first.0.0) first.0.1 value first.2 in
      let join = is_join place peer entry.0 entry.1 first.0 first.1 in
      let one =
      one_join (afi_of flow.source) (afi_of entry.0.source) rd join.rd source_as join.source_as flow.source entry.0.source flow.group
      entry.0.group
      (key_exact key first.0.0 ((Equal-is (key_cmp key first.0.0)).0 passed.0) ∙ join.key) in
      λ i. record { vrf = entry.0.vrf; source = sym one.from i; group = sym one.to i }

  abbrev all : List (VrfFlow × Option Upstream)
  all = maps.entries control.flows

  entry_told : (own : OwnVrf) (value : Value) → vrf_tells own ≡ Some value
      → (up : Option Upstream) × Among (flow_in own.id flow, up) all × (tell (flow_in own.id flow, up) ≡ Some value)
  entry_told own value h =
      let by = chained (maps.get control.flows (flow_in own.id flow)) (λ (up : Option Upstream). tell (flow_in own.id flow, up)) value h in
      (by.0, get_entry flow_exact control.flows (flow_in own.id flow) by.0 by.1, by.2)

  told_vrf : (own : OwnVrf) (entry : VrfFlow × Option Upstream) (value : Value) → own.id ≡ entry.0.vrf → Among entry all → tell entry ≡ Some value
      → vrf_tells own ≡ Some value
  told_vrf own entry value e a h =
      let same : flow_in own.id flow ≡ entry.0 = ap (λ (v : VrfId). flow_in v flow) e ∙ sym (of_flow entry value h) in
      let at : maps.get control.flows (flow_in own.id flow) ≡ Some entry.1 =
      ap (maps.get control.flows) same ∙ entry_get flow_total control.flows entry.0 entry.1 a in
      ap (λ (o : Option (Option Upstream)). o >>? λ up. tell (flow_in own.id flow, up)) at ∙ ap (λ (f : VrfFlow). tell (f, entry.1)) same ∙ h

  module _ (of_vrfs : AreOfVrfs place control) where
    vrf_at : (entry : VrfFlow × Option Upstream) → Among entry all → (own : OwnVrf) × Among own (own_vrfs place) × (own.id ≡ entry.0.vrf)
    vrf_at entry a = of_vrfs entry.0 entry.1 (entry_get flow_total control.flows entry.0 entry.1 a)

    abbrev Earlier : VrfFlow × Option Upstream → VrfFlow × Option Upstream → Type 0
    Earlier z x = flow_cmp z.0 x.0 ≡ Less

    both_told : (v w : Value) → IsFirst tell Earlier all v → IsFirst vrf_tells Lower (own_vrfs place) w → v ≡ w
    both_told v w f g =
        let own = vrf_at f.x f.among in
        let here = told_vrf own.0 f.x v own.2 f.among f.is in
        let there = entry_told g.x w g.is in
        elim (cases_lt g.x.id.0 own.0.id.0) [
          | inl less ↦
              (let before : flow_cmp (flow_in g.x.id flow) f.x.0 ≡ Less =
              ap (flow_cmp (flow_in g.x.id flow)) (of_flow f.x v f.is ∙ ap (λ (i : VrfId). flow_in i flow) (sym own.2))
              ∙ vrf_less g.x.id own.0.id flow less in
              none_some w (sym (f.earlier (flow_in g.x.id flow, there.0) there.1 before) ∙ there.2))
          | inr rest ↦ elim (cases_lt own.0.id.0 g.x.id.0) [
            | inl less ↦ none_some v (sym (g.earlier own.0 own.1 less) ∙ here)
            | inr more ↦
                (let one = one_number place own.0 g.x own.1 g.among (omega (arith, rest, more)) in
                same_Some v w (sym here ∙ ap vrf_tells one ∙ g.is))
          ]
        ]

    one_told : (o t : Option Value) → first_told tell all ≡ o → first_told vrf_tells (own_vrfs place) ≡ t → o ≡ t
    one_told None None e f = refl
    one_told None (Some w) e f =
        let g = first_is vrf_tells Lower (own_vrfs place) w (vrfs_in_order place.me 0 place.scenario.vrfs) f in
        let there = entry_told g.x w g.is in
        none_some w (sym (none_tells tell all e (flow_in g.x.id flow, there.0) there.1) ∙ there.2)
    one_told (Some v) None e f =
        let x = first_is tell Earlier all v (entries_in_order all (maps.entries_sorted control.flows)) e in
        let own = vrf_at x.x x.among in
        none_some v (sym (none_tells vrf_tells (own_vrfs place) f own.0 own.1) ∙ told_vrf own.0 x.x v own.2 x.among x.is)
    one_told (Some v) (Some w) e f =
        ap (λ (value : Value). Some value)
        (both_told v w (first_is tell Earlier all v (entries_in_order all (maps.entries_sorted control.flows)) e)
        (first_is vrf_tells Lower (own_vrfs place) w (vrfs_in_order place.me 0 place.scenario.vrfs) f))

    held_told : maps.get (held_for place control peer) key ≡ first_told vrf_tells (own_vrfs place)
    held_told =
        maps.get-from_entries key_total (originated place control ++ join_routes place control peer) key
        ∙ find_after key_cmp key (originated place control) (join_routes place control peer) (not_originated place control key refl)
        ∙ find_first key_cmp key (join_route place peer) all
        ∙ one_told (first_told tell all) (first_told vrf_tells (own_vrfs place)) refl refl

  -- ---- what a tree tells

  flow_tells : (vrf : VrfId) (o : Option (Option Upstream))
      → (o >>? λ up. tell (flow_in vrf flow, up)) ≡
      (upstream_of (option_map choice_of o) >>? λ up. only_if (is_join_to peer rd source_as up) (join_value place up))
  flow_tells vrf None = refl
  flow_tells vrf (Some None) = refl
  flow_tells vrf (Some (Some (Site site))) = refl
  flow_tells vrf (Some (Some (Remote edge own_rd import own_as))) = by (edge.0 == peer.0)
    where
      value : Value
      value = record { next_hop = own_addr place; comms = import_target import ∷ []; pmsi = None }

      by : (b : Bool) → (cond b (Some (join_key (afi_of flow.source) own_rd own_as flow, value)) None >>? λ (own : Key × Value). only_if
          (eq_by_cmp key_cmp key own.0) own.1)
          ≡ only_if (b && (pointwise nat_eq own_rd.0 rd.0 && (own_as == source_as))) value
      by true = ap (λ (b : Bool). only_if b value) (key_ties (afi_of flow.source) rd own_rd source_as own_as flow)
      by false = refl

  -- the join is that of the first VRF which has it for its upstream of the flow
  pub joins_by_vrfs : AreOfVrfs place control → maps.get (held_for place control peer) key
      ≡ first_told (λ own. upstream_of (option_map choice_of (maps.get control.flows (flow_in own.id flow))) >>? λ up. only_if
      (is_join_to peer rd source_as up) (join_value place up)) (own_vrfs place)
  joins_by_vrfs of_vrfs =
      held_told of_vrfs
      ∙ told_alike vrf_tells (λ own. upstream_of (option_map choice_of (maps.get control.flows (flow_in own.id flow))) >>? λ up. only_if
      (is_join_to peer rd source_as up) (join_value place up))
      (λ own. flow_tells own.id (maps.get control.flows (flow_in own.id flow))) (own_vrfs place)

  tree_tells : (own : OwnVrf) (tree : TreeData) → IsTreeOf place control own tree → vrf_tells own ≡ join_of place peer rd source_as flow tree
  tree_tells own tree is =
      flow_tells own.id (maps.get control.flows (flow_in own.id flow))
      ∙ ap (λ (o : Option _). upstream_of o >>? λ up. only_if (is_join_to peer rd source_as up) (join_value place up)) (sym (is.flows flow))

  trees_tell : (vrfs : List OwnVrf) (trees : List TreeData) → AreTreesOf place control vrfs trees
      → first_told vrf_tells vrfs ≡ first_told (join_of place peer rd source_as flow) trees
  trees_tell [] [] h = refl
  trees_tell [] (tree ∷ trees) h = absurd h
  trees_tell (own ∷ vrfs) [] h = absurd h
  trees_tell (own ∷ vrfs) (tree ∷ trees) h =
      λ i. elim (tree_tells own tree h.0 i) [ None ↦ trees_tell vrfs trees h.1 i | Some y ↦ Some y ]

  pub joins_are : (trees : List TreeData) → AreTreesOf place control (own_vrfs place) trees → AreOfVrfs place control
      → maps.get (held_for place control peer) key ≡ first_told (join_of place peer rd source_as flow) trees
  joins_are trees h of_vrfs = held_told of_vrfs ∙ trees_tell (own_vrfs place) trees h

-- a join stands under the AFI of its source alone
pub no_join : (place : EdgePlace) (control : Control) (peer : NodeId) (afi : Afi) (rd : Rd) (source_as : ℕ) (flow : Flow)
    → (afi ≡ afi_of flow.source → ⊥)
    → maps.get (held_for place control peer) (join_key afi rd source_as flow) ≡ None
no_join place control peer afi rd source_as flow apart = by (maps.get (held_for place control peer) (join_key afi rd source_as flow)) refl
  where
    by : (o : Option Value) → maps.get (held_for place control peer) (join_key afi rd source_as flow) ≡ o → o ≡ None
    by None e = refl
    by (Some value) e =
        let held = join_held place control peer afi rd source_as flow.source flow.group value e in
        let one =
        one_join afi (afi_of held.flow.source) rd held.is.rd source_as held.is.source_as flow.source held.flow.source flow.group held.flow.group
        held.is.key in
        absurd (apart (one.family ∙ ap afi_of (sym one.from)))
