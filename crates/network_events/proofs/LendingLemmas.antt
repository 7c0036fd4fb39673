-- What a world lends is what the runs say that it is after.
use Rattle.std.proofs.Common.{◌≡◌, ◌∙◌, sym, ap, subst}
use Rattle.mv_base.specs.declared.ids.NodeId.{NodeId}
use Rattle.scenario_defs.specs.declared.event.Kind.TheVariants as kinds
use Rattle.scenario_defs.specs.declared.scenario.Scenario.{Scenario}
use Rattle.mldp_node.specs.NodeData.{NodeData}
use Rattle.network_defs.specs.Counts.{direction}
use Rattle.network_acts.specs.Instant.{Instant, IsWorld, standing_of}
use Rattle.network_acts.specs.Words.{EdgeView, IsCoreThere, IsEdgeThere, IsShared, home_of, node_place}
use Rattle.network_acts.specs.wire_laws.Edges.{IsWay}
use Rattle.network_acts.proofs.Handed.{has_held, is_named, two_copies}
use Rattle.network_events.specs.Behind.{IsBehind, between_events}
use Rattle.network_events.specs.Lending.{InEachRun, IsCore, IsEdge, IsPool}
use Rattle.network_events.specs.WorldView.{WorldView}
use Rattle.network_events.proofs.BehindLemmas.{links_after, scenario_after}

-- ---- nodes

module _ (own now : WorldView) (same : own ≡ now) (n : NodeId) where
  pub edge_lent : (edge : EdgeView) → ((at : Instant) → IsWorld at own.network → IsEdgeThere (standing_of at) n edge) → InEachRun now (IsEdge n edge)
  edge_lent edge there cores scenario events trace world thereafter =
      let is = there (between_events cores world) (subst (IsBehind cores scenario events trace world) (sym same) thereafter).stands in
      let scenario_is = scenario_after cores scenario events trace world now thereafter in
      record {
        home = is.home ∙ ap (λ (s : Scenario). home_of s n) scenario_is;
        unspent = is.unspent;
        keeps = is.keeps;
        waits = λ kind peer way. is.waits kind peer (subst (λ (s : Scenario). IsWay s (direction kind n peer)) (sym scenario_is) way);
        streams = is.streams;
        toward = is.toward;
      }

  pub core_lent : (labels : NodeData) → ((at : Instant) → IsWorld at own.network → IsCoreThere (standing_of at) n labels)
      → InEachRun now (IsCore n labels)
  core_lent labels there cores scenario events trace world thereafter =
      let is = there (between_events cores world) (subst (IsBehind cores scenario events trace world) (sym same) thereafter).stands in
      let scenario_is = scenario_after cores scenario events trace world now thereafter in
      record {
        place = is.place ∙ ap (λ (s : Scenario). node_place s n) scenario_is;
        unspent = is.unspent;
        keeps = is.keeps;
        waits = λ peer way. is.waits peer (subst (λ (s : Scenario). IsWay s (direction kinds.Ldp n peer)) (sym scenario_is) way);
        toward = is.toward;
      }

-- ---- buffers

pool_of : (view : WorldView) → IsShared view.network.datagrams.copies → InEachRun view (λ scenario world. IsPool world view)
pool_of view account cores scenario events trace world thereafter =
    let idle = thereafter.stands.datagrams in
    let copies = view.network.datagrams.copies in
    let links = links_after cores scenario events trace world view thereafter in
    record {
      copies = idle.stores.copies;
      buffers = λ from to place kept at.
          let has = has_held world copies idle.stores links account idle.none from to place kept at in
          record { datagram = has.0; is = has.1; buffer = has.2 };
      shared = λ from to other_from other_to place other_place kept other at there. two_copies copies from to other_from other_to place other_place
          kept other account at there;
      named = λ name live.
          let is = is_named world copies idle.stores links account idle.none name live in
          record { from = is.0; to = is.1; place = is.2; kept = is.3; at = is.4; names = is.5 };
    }

pub pool_lent : (own now : WorldView) → own ≡ now → IsShared own.network.datagrams.copies → InEachRun now (λ scenario world. IsPool world now)
pool_lent own now same account = subst (λ (w : WorldView). InEachRun w (λ scenario world. IsPool world w)) same (pool_of own account)
