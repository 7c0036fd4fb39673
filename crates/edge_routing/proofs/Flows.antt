-- The groups of joins are those of flows, and so multicast groups.
use Rattle.std.proofs.Common.{◌≡◌, ◌∙◌, ◌⊎◌, inl, inr, ℕ, true, List, [], ◌∷◌, All, Option, None, Some, is_some, refl, ap, sym, subst}
use Rattle.std.specs.List.{AllByRecursion}
use Rattle.std.specs.FinMap as maps
use Rattle.std.specs.FinMap.{FinMap}
use Rattle.std.proofs.lemmas.List.Elements.{All-from_recursion}
use Rattle.mv_base.specs.Lists.{Among}
use Rattle.mv_base.specs.declared.addr.Addr.{Addr}
use Rattle.bgp_values.specs.mvpn_nlri.Spelling.{IsGroup}
use Rattle.bgp_messages.specs.bgp_update.Written.{afi_of}
use Rattle.mv_base.specs.core_walks.Core.{Core}
use Rattle.edge_control.specs.vrf_trees.declared.changes.TreeJoin.{TreeJoin}
use Rattle.edge_defs.specs.Edge.{Control, Remote, Site, Upstream, VrfFlow, flow_cmp}
use Rattle.edge_defs.specs.Steps.{refreshed}
use Rattle.edge_routes.specs.edge_home.Home.{place_of}
use Rattle.control_laws.specs.Control.{Kept, control_of}
use Rattle.edge_control.specs.Refreshing.{AreChanged, join_at}
use Rattle.edge_control.specs.Sound.{IsSound}
use Rattle.control_laws.specs.group_laws.Groups.{HaveGroups}
use Rattle.control_laws.proofs.group_laws.Refreshes.{refreshed_groups}
use Rattle.edge_routes.specs.edge_home.Home.{Home}
use Rattle.edge_control.specs.edge_tables.Tables.{Tables}
use Rattle.vrf_words.specs.tree_laws.Joins.{AreOfVrfs}
use Rattle.vrf_words.proofs.tree_laws.Refreshed.{flows_of_vrfs}
use Rattle.held_tables.specs.Holding.{HoldAll}
use Rattle.held_tables.specs.Joins.{HoldAllBut, with_flows}
use Rattle.edge_routing.specs.edge_joins.Keys.{keys_of}
use Rattle.held_tables.proofs.JoinLemmas.{begun}
use Rattle.edge_routing.specs.edge_joins.Upstreams.{HaveIpv4Imports}
use Rattle.edge_routing.proofs.edge_joins.ChangedLemmas.{others_alike}
use Rattle.edge_routing.proofs.edge_joins.RefreshedLemmas.{refreshed_ipv4}

all_among : {X : Type 0} (P : X → Type 0) (xs : List X) → ((x : X) → Among x xs → P x) → AllByRecursion P xs
all_among P [] h = tt
all_among P (x ∷ xs) h = (h x (inl refl), all_among P xs (λ y a. h y (inr a)))

-- The flow of a join is there, and has its source and its group.
pub record IsJoinOf (flow : VrfFlow) (up : Option (Option Upstream)) (join : TreeJoin) : Type 0 where
  pub there : is_some up ≡ true
  pub source : flow.source ≡ join.source
  pub group : flow.group ≡ join.group

join_of : (flow : VrfFlow) (up : Option (Option Upstream)) (join : TreeJoin) → join_at flow up ≡ Some join → IsJoinOf flow up join
join_of flow None join h = absurd cc
join_of flow (Some None) join h = absurd cc
join_of flow (Some (Some (Site site))) join h = absurd cc
join_of flow (Some (Some (Remote edge rd import source_as))) join h =
    let made : TreeJoin =
    record { edge = edge; rd = rd; import = (import.addr, import.number); source_as = source_as; source = flow.source; group = flow.group } in
    let same : made ≡ join = cc in
    record { there = refl; source = ap (λ (j : TreeJoin). j.source) same; group = ap (λ (j : TreeJoin). j.group) same }

flow_group : (control : Control) → HaveGroups control → (flow : VrfFlow) (join : TreeJoin) → join_at flow (maps.get control.flows flow) ≡ Some join
    → IsGroup (afi_of join.source) join.group
flow_group control have flow join h =
    let is = join_of flow (maps.get control.flows flow) join h in
    subst (λ (a : Addr). IsGroup (afi_of a) join.group) is.source
    (subst (λ (a : Addr). IsGroup (afi_of flow.source) a) is.group (have.flows flow is.there))

pub join_groups : (old new : Control) (joins : List TreeJoin) → HaveGroups old → HaveGroups new → AreChanged old.flows new.flows joins
    → All (λ join. IsGroup (afi_of join.source) join.group) joins
join_groups old new joins old_have new_have changed =
    All-from_recursion (λ (join : TreeJoin). IsGroup (afi_of join.source) join.group) joins
    (all_among (λ (join : TreeJoin). IsGroup (afi_of join.source) join.group) joins (λ join among. by join (changed.each join among)))
  where
    by : (join : TreeJoin) → (flow : VrfFlow) × ((join_at flow (maps.get old.flows flow) ≡ Some join)
        ⊎ (join_at flow (maps.get new.flows flow) ≡ Some join)) → IsGroup (afi_of join.source) join.group
    by join (flow, inl h) = flow_group old old_have flow join h
    by join (flow, inr h) = flow_group new new_have flow join h

-- The groups after a refresh.
pub groups_after : (now : ℕ) (old new : Kept) (own : Core) → HaveGroups (control_of old) → IsSound old
    → control_of new ≡ refreshed (place_of old.home own) now (control_of old) → HaveGroups (control_of new)
groups_after now old new own have sound is =
    subst HaveGroups (sym is) (refreshed_groups (place_of old.home own) now (control_of old) have sound.spelled)

-- ---- joins

-- Tables that held the joins of the flows before a refresh hold those of the flows after it, once the joins that it lists were gone through.
pub held_after : (old new : Kept) (own any : Core) (now : ℕ) (joins gone_through : List TreeJoin) (before after : Tables) → new.home ≡ old.home
    → control_of new ≡ refreshed (place_of old.home own) now (control_of old) → AreOfVrfs (place_of old.home any) (control_of old)
    → AreChanged (control_of old).flows (control_of new).flows joins → HoldAll (place_of old.home any) (control_of old) before → gone_through ≡ joins
    → (AreOfVrfs (place_of new.home any) (control_of new) → HaveIpv4Imports (control_of new)
    → HoldAllBut (place_of new.home any) (control_of new) (keys_of gone_through) before
    → HoldAll (place_of new.home any) (control_of new) after) → HoldAll (place_of old.home any) (control_of new) after
held_after old new own any now joins gone before after home is vrfs changed hold all turns =
    subst (λ (h : Home). HoldAll (place_of h any) (control_of new) after) home
    (turns (subst (λ (h : Home). AreOfVrfs (place_of h any) (control_of new)) (sym home) vrfs_new) ipv4
    (subst (λ (h : Home). HoldAllBut (place_of h any) (control_of new) (keys_of gone) before) (sym home)
    (subst (λ (js : List TreeJoin). HoldAllBut (place_of old.home any) (control_of new) (keys_of js) before) (sym all)
    (subst (λ (c : Control). HoldAllBut (place_of old.home any) c (keys_of joins) before) (sym rest) begun_now))))
  where
    flows : FinMap flow_cmp (Option Upstream)
    flows = (control_of new).flows

    rest : control_of new ≡ with_flows (control_of old) flows
    rest = is ∙ ap (λ (f : FinMap flow_cmp (Option Upstream)). with_flows (control_of old) f) (sym (ap (λ (c : Control). c.flows) is))

    vrfs_new : AreOfVrfs (place_of old.home any) (control_of new)
    vrfs_new = subst (λ (c : Control). AreOfVrfs (place_of old.home any) c) (sym is) (flows_of_vrfs (place_of old.home own) now (control_of old))

    ipv4 : HaveIpv4Imports (control_of new)
    ipv4 = subst HaveIpv4Imports (sym is) (refreshed_ipv4 (place_of old.home own) now (control_of old))

    begun_now : HoldAllBut (place_of old.home any) (with_flows (control_of old) flows) (keys_of joins) before
    begun_now =
        begun (place_of old.home any) (control_of old) flows (keys_of joins) vrfs
        (subst (λ (c : Control). AreOfVrfs (place_of old.home any) c) rest vrfs_new)
        (others_alike (place_of old.home any) (control_of old) flows joins changed) before hold
