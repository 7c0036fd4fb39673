use Rattle.std.proofs.Common.{◌∙◌, ap, List, arith}
use Rattle.std.specs.List.{flat_map}
use Rattle.std.specs.FinMap as maps
use Rattle.std.proofs.lemmas.List.{take_all}
use Rattle.mv_base.specs.declared.ids.NodeId.{NodeId}
use Rattle.bgp_messages.specs.declared.bgp_attributes.key.Key.{Key}
use Rattle.edge_defs.specs.Imported.{taken_from}
use Rattle.edge_routes.specs.edge_home.Home.{Home, peers_of}
use Rattle.edge_routing.specs.control_laws.Control.{control_of}
use Rattle.edge_core.specs.Listed.{admitted_keys}
use Rattle.edge_core.proofs.ListedLemmas.{keys_more}
use Rattle.edge_core.proofs.lists.keys_from.Goals as goal

pub loop-peer-preserved : goal.loop-peer-preserved
loop-peer-preserved c =
    let keys : NodeId → List Key = λ peer. admitted_keys c.args.vrf.now (maps.entries (taken_from (control_of c.args.control.now) peer)) in
    keys_more keys c.as_slice-peer-items.result.now c.loop-peer.peer-index _ c.loop-peer.keys c.add_taken.new.keys (omega arith) c.loop-peer.invariant
    c.in_ok-add_taken.ensures

pub returns : goal.returns
returns c =
    let keys : NodeId → List Key = λ peer. admitted_keys c.args.vrf.now (maps.entries (taken_from (control_of c.args.control.now) peer)) in
    c.loop-peer.invariant ∙ ap (flat_map keys) (take_all c.loop-peer.peer-index c.as_slice-peer-items.result.now (omega arith)
    ∙ (c.as_slice-peer-items.ensures.value ∙ (c.in_ok-peers.ensures ∙ ap (λ (home : Home). peers_of home) c.home.ensures.home)))
