-- The joins that a refresh lists, as the joins at which flows changed.
use Rattle.std.proofs.Common.{◌≡◌, ℕ, ◌==◌, ◌&&◌, nat_eq, ◌⊎◌, inl, inr, List, Option, Some, None, refl, sym, ap, subst, ◌∙◌}
use Rattle.std.specs.FinMap.{FinMap, get}
use Rattle.std.specs.Cmp.Lexicographic.{bytes_decides, pointwise}
use Rattle.std.proofs.lemmas.Bool.{and_parts, eqb-true}
use Rattle.std.proofs.lemmas.Option.{cond_some, same_Some}
use Rattle.mv_base.specs.Lists.{Among}
use Rattle.mv_base.specs.declared.ids.NodeId.{NodeId}
use Rattle.mv_base.specs.declared.ids.VrfId.{VrfId}
use Rattle.mv_base.specs.declared.rd.Rd.{Rd}
use Rattle.bgp_messages.specs.declared.bgp_attributes.key.Key.{Key}
use Rattle.bgp_messages.specs.bgp_update.Written.{afi_of}
use Rattle.vrf_words.specs.declared.tree_defs.flow.Flow.{Flow}
use Rattle.edge_defs.specs.Edge.{Control, Remote, Site, Upstream, flow_cmp}
use Rattle.edge_defs.specs.Keys.{Value}
use Rattle.edge_defs.specs.Place.{EdgePlace}
use Rattle.edge_words.proofs.calm_laws.Lists.{among_map}
use Rattle.vrf_words.specs.tree_laws.Joins.{join_key}
use Rattle.vrf_words.specs.tree_laws.TreeOf.{flow_in}
use Rattle.held_tables.specs.Joins.{AreOthersAlike, join_to, value_towards, with_flows}
use Rattle.edge_control.specs.vrf_trees.declared.changes.TreeJoin.{TreeJoin}
use Rattle.edge_routing.specs.edge_joins.Keys.{key_of, keys_of}
use Rattle.edge_control.specs.Refreshing.{AreChanged, join_at}

module _ (place : EdgePlace) (peer : NodeId) (rd : Rd) (source_as : ℕ) (flow : Flow) (vrf : VrfId) where
  -- a flow that has something of the join has a join of that key
  record IsJoined (up : Option (Option Upstream)) (value : Value) : Type 0 where
    join : TreeJoin
    at : join_at (flow_in vrf flow) up ≡ Some join
    key : key_of join ≡ (peer, join_key (afi_of flow.source) rd source_as flow)
    is : value ≡ value_towards place (record { addr = join.import.0; number = join.import.1 })

  joined_by : (up : Option (Option Upstream)) (value : Value) → join_to place peer rd source_as up ≡ Some value → IsJoined up value
  joined_by None value h = absurd cc
  joined_by (Some None) value h = absurd cc
  joined_by (Some (Some (Site site))) value h = absurd cc
  joined_by (Some (Some (Remote edge own_rd import own_as))) value h =
      let passed = cond_some ((edge.0 == peer.0) && (pointwise nat_eq own_rd.0 rd.0 && (own_as == source_as))) (value_towards place import) value h in
      let first = and_parts (edge.0 == peer.0) (pointwise nat_eq own_rd.0 rd.0 && (own_as == source_as)) passed.0 in
      let rest = and_parts (pointwise nat_eq own_rd.0 rd.0) (own_as == source_as) first.1 in
      let edges : edge.0 ≡ peer.0 = eqb-true edge.0 peer.0 first.0 in
      let rds : own_rd.0 ≡ rd.0 = (bytes_decides own_rd.0 rd.0).0 rest.0 in
      let systems : own_as ≡ source_as = eqb-true own_as source_as rest.1 in
      record {
        join = record {
          edge = edge;
          rd = own_rd;
          import = (import.addr, import.number);
          source_as = own_as;
          source = flow.source;
          group =
              flow.group;
        };
        at = refl;
        key = λ i. (record { 0 = edges i }, join_key (afi_of flow.source) (record { 0 = rds i }) (systems i) flow);
        is = sym passed.1;
      }

  -- a flow that has the same join has the same of it
  joined_again : (up : Option (Option Upstream)) (own : Option (Option Upstream)) (value : Value) → join_to place peer rd source_as own ≡ Some value
      → (join : TreeJoin)
      → join_at (flow_in vrf flow) own ≡ Some join → join_at (flow_in vrf flow) up ≡ Some join → join_to place peer rd source_as up ≡ Some value
  joined_again None own value h join e f = absurd cc
  joined_again (Some None) own value h join e f = absurd cc
  joined_again (Some (Some (Site site))) own value h join e f = absurd cc
  joined_again (Some (Some (Remote edge rd_here import system))) None value h join e f = absurd cc
  joined_again (Some (Some (Remote edge rd_here import system))) (Some None) value h join e f = absurd cc
  joined_again (Some (Some (Remote edge rd_here import system))) (Some (Some (Site site))) value h join e f = absurd cc
  joined_again (Some (Some (Remote edge rd_here import system))) (Some (Some (Remote other rd_there named number))) value h join e f =
      let one : record {
        edge = edge;
        rd = rd_here;
        import = (import.addr, import.number);
        source_as = system;
        source = flow.source;
        group =
            flow.group;
      } ≡ join = same_Some _ join f in
      let two : record {
        edge = other;
        rd = rd_there;
        import = (named.addr, named.number);
        source_as = number;
        source = flow.source;
        group =
            flow.group;
      } ≡ join = same_Some _ join e in
      let same = one ∙ sym two in
      ap (λ (j : TreeJoin). join_to place peer rd source_as
      (Some (Some (Remote j.edge j.rd (record { addr = j.import.0; number = j.import.1 }) j.source_as)))) same ∙ h

pub others_alike : (place : EdgePlace) (old : Control) (flows : FinMap flow_cmp (Option Upstream)) (joins : List TreeJoin)
    → AreChanged old.flows flows joins
    → AreOthersAlike place old (with_flows old flows) (keys_of joins)
others_alike place old flows joins changed peer rd source_as flow apart vrf =
    by (join_to place peer rd source_as (get flows (flow_in vrf flow))) (join_to place peer rd source_as (get old.flows (flow_in vrf flow))) refl refl
  where
    not_listed : (join : TreeJoin) → key_of join ≡ (peer, join_key (afi_of flow.source) rd source_as flow) → Among join joins → ⊥
    not_listed join key a = apart (subst (λ (k : NodeId × Key). Among k (keys_of joins)) key (among_map key_of join joins a))

    still : (own up : Option (Option Upstream)) (value : Value) → join_to place peer rd source_as own ≡ Some value
        → ((join : TreeJoin) → join_at (flow_in vrf flow) own ≡ Some join → (join_at (flow_in vrf flow) up ≡ Some join) ⊎ Among join joins)
        → join_to place peer rd source_as up ≡ Some value
    still own up value h kept =
        let joined = joined_by place peer rd source_as flow vrf own value h in
        elim (kept joined.join joined.at) [
          | inl same ↦ joined_again place peer rd source_as flow vrf up own value h joined.join joined.at same
          | inr a ↦ absurd (not_listed joined.join joined.key a)
        ]

    by : (new was : Option Value) → join_to place peer rd source_as (get flows (flow_in vrf flow)) ≡ new
        → join_to place peer rd source_as (get old.flows (flow_in vrf flow)) ≡ was → new ≡ was
    by None None e f = refl
    by (Some value) was e f =
        sym (still (get flows (flow_in vrf flow)) (get old.flows (flow_in vrf flow)) value e (changed.made (flow_in vrf flow))) ∙ f
    by None (Some value) e f =
        sym e ∙ still (get old.flows (flow_in vrf flow)) (get flows (flow_in vrf flow)) value f (changed.left (flow_in vrf flow))
