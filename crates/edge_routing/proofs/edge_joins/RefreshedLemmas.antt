-- The imports of the upstreams of flows that were refreshed.
use Rattle.std.proofs.Common.{◌≡◌, ℕ, ◌&&◌, nat_eq, inl, List, [], ◌∷◌, take, Some, sym, ap, ◌∙◌}
use Rattle.std.specs.FinMap as maps
use Rattle.std.specs.Cmp.Lexicographic.{pointwise}
use Rattle.std.proofs.lemmas.Option.{cond_some, same_Some}
use Rattle.mv_base.specs.Address.{same_addr}
use Rattle.mv_base.specs.Lists.{Among}
use Rattle.mv_base.specs.Number.{◌>>?◌, only_if}
use Rattle.mv_base.specs.declared.addr.Addr.{Addr}
use Rattle.mv_base.specs.declared.ids.NodeId.{NodeId}
use Rattle.mv_base.specs.declared.rd.Rd.{Rd}
use Rattle.bgp_values.specs.declared.mvpn_nlri.route.Afi.TheVariants.{Ipv4}
use Rattle.mv_base.specs.declared.route_targets.communities.ExtComm.{ExtComm}
use Rattle.bgp_messages.specs.declared.bgp_attributes.key.Key.TheVariants.{Unicast}
use Rattle.bgp_messages.specs.bgp_update.Written.{afi_of}
use Rattle.choice_defs.specs.Choice.{best_route}
use Rattle.choice_defs.specs.declared.origin.Origin.{Origin}
use Rattle.choice_defs.specs.declared.origin.Origin.TheVariants as origins
use Rattle.mv_base.specs.declared.prefix.Prefix.{Prefix}
use Rattle.edge_defs.specs.Edge.{Control, Import, Remote}
use Rattle.edge_defs.specs.Imported.{JoinBy, found_in, import_in, join_by, only_one, source_as_in, taken_from}
use Rattle.edge_defs.specs.Keys.{Value}
use Rattle.edge_defs.specs.Place.{EdgePlace, OwnVrf}
use Rattle.edge_defs.specs.Steps.{refreshed}
use Rattle.edge_defs.specs.Upstream.{costs_of, known_routes, upstream_by, upstream_for}
use Rattle.edge_words.proofs.calm_laws.Lists.{found_among}
use Rattle.edge_words.proofs.calm_laws.Upstreams.{chained}
use Rattle.edge_words.proofs.Flows.{flows_are}
use Rattle.edge_routing.specs.edge_joins.Upstreams.{HaveIpv4Imports}

one_among : {A : Type 0} (xs : List A) (x : A) → only_one xs ≡ Some x → Among x xs
one_among [] x h = absurd cc
one_among (y ∷ []) x h = inl (sym (same_Some y x h))
one_among (y ∷ z ∷ xs) x h = absurd cc

-- a community names an IPv4 address
import_ipv4 : (comm : ExtComm) (import : Import) → import_in comm ≡ Some import → afi_of import.addr ≡ Ipv4
import_ipv4 comm import h =
    ap (λ (i : Import). afi_of i.addr) (sym (cond_some (pointwise nat_eq (take 2 comm.0) (0x01 ∷ 0x0B ∷ [])) _ import h).1)

join_ipv4 : (peer : Addr) (value : Value) (by : JoinBy) → join_by peer value ≡ Some by → afi_of by.import.addr ≡ Ipv4
join_ipv4 peer value by h =
    let first = chained (only_one (found_in import_in value.comms)) (λ import.
    only_one (found_in source_as_in value.comms) >>? λ source_as.
    only_if (same_addr import.addr peer && same_addr value.next_hop peer) (record { import = import; source_as = source_as })) by h in
    let second = chained (only_one (found_in source_as_in value.comms)) (λ source_as.
    only_if (same_addr first.0.addr peer && same_addr value.next_hop peer) (record { import = first.0; source_as = source_as })) by first.2 in
    let made : JoinBy = record { import = first.0; source_as = second.0 } in
    let passed = cond_some (same_addr first.0.addr peer && same_addr value.next_hop peer) made by second.2 in
    let comm = found_among import_in first.0 value.comms (one_among (found_in import_in value.comms) first.0 first.1) in
    ap (λ (j : JoinBy). afi_of j.import.addr) (sym passed.1) ∙ import_ipv4 comm.0 first.0 comm.2

module _ (place : EdgePlace) (control : Control) (edge : NodeId) (rd : Rd) (import : Import) (source_as : ℕ) where
  of_origin : (prefix : Prefix) (origin : Origin)
      → upstream_by place control (record { prefix = prefix; origin = origin }) ≡ Some (Remote edge rd import source_as) → afi_of import.addr ≡ Ipv4
  of_origin prefix (origins.Local site) h = absurd cc
  of_origin prefix (origins.Remote peer address own_rd) h =
      let first =
      chained (maps.get (taken_from control peer) (Unicast own_rd prefix))
      (λ taken. join_by address taken.value >>? λ by. Some (Remote peer own_rd by.import by.source_as)) (Remote edge rd import source_as) h in
      let second =
      chained (join_by address first.0.value) (λ by. Some (Remote peer own_rd by.import by.source_as)) (Remote edge rd import source_as) first.2
      in
      let said : Some (Remote peer own_rd second.0.import second.0.source_as) ≡ Some (Remote edge rd import source_as) = second.2 in
      let imports : second.0.import ≡ import = cc in
      ap (λ (i : Import). afi_of i.addr) (sym imports) ∙ join_ipv4 address first.0.value second.0 second.1

  of_choice : (own : OwnVrf) (source group : Addr) → upstream_for place control own source group ≡ Some (Remote edge rd import source_as)
      → afi_of import.addr ≡ Ipv4
  of_choice own source group h =
      let routes = known_routes place control own in
      let chosen =
      chained (best_route (costs_of place own routes source group) routes source) (upstream_by place control) (Remote edge rd import source_as) h
      in
      of_origin chosen.0.prefix chosen.0.origin chosen.2

pub refreshed_ipv4 : (place : EdgePlace) (now : ℕ) (control : Control) → HaveIpv4Imports (refreshed place now control)
refreshed_ipv4 place now control flow edge rd import source_as h =
    let asked = (flows_are place now control flow (Some (Remote edge rd import source_as))).0 h in
    of_choice place control edge rd import source_as asked.own flow.source flow.group (sym asked.choice)
