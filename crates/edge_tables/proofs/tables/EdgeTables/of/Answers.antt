use Rattle.std.proofs.Common.{map, ap, ◌∙◌}
use Rattle.std.specs.FinMap.{from_entries}
use Rattle.std.proofs.lemmas.List.{take_all}
use Rattle.edge_tables.proofs.SlotLemmas.{entry, made_more, of_peer}
use Rattle.edge_tables.proofs.tables.EdgeTables.of.Goals as goal

pub loop-peer-init : goal.loop-peer-init
loop-peer-init c = ap (map entry) c.new-slots.ensures.items

pub loop-peer-preserved : goal.loop-peer-preserved
loop-peer-preserved c =
    made_more c.args.peers.now c.loop-peer.slots.items c.push.new.self.items c.loop-peer.peer-index _ c.of.result c.loop-peer-test.true
    c.loop-peer.invariant c.in_ok-push.ensures.items c.of.ensures.peer c.of.ensures.fresh

pub returns : goal.returns
returns c =
    ap from_entries (c.loop-peer.invariant ∙ ap (map of_peer) (take_all c.loop-peer.peer-index c.args.peers.now c.loop-peer-test.false))
