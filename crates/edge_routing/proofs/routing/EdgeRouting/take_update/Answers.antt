use Rattle.std.proofs.Common.{refl}
use Rattle.edge_defs.specs.Steps.{Update}
use Rattle.control_laws.proofs.Parts.{no_core}
use Rattle.edge_routing.proofs.Calls.{on_way}
use Rattle.edge_routing.proofs.PeerCalls.{update_made}
use Rattle.edge_routing.proofs.routing.EdgeRouting.take_update.Goals as goal

pub finish-requires-clause-groups : goal.finish-requires-clause-groups
finish-requires-clause-groups c =
    let old = c.args.self.now in
    let control = c.take_update.new.control in
    (on_way (Update c.args.peer c.args.message) c.args.now old control old.tables c.in_ok-changed.changed.tunnels.items no_core c.requires.step
    (update_made c.args.now c.args.peer c.args.message old control c.in_ok-changed.changed.tunnels.items c.requires.step c.take_update.ensures.home
    c.in_ok-changed.ensures.taken c.take_update.ensures.wants
    c.in_ok-changed.ensures.tunnels)).groups

pub returns-clause-stepped : goal.returns-clause-stepped
returns-clause-stepped c =
    let old = c.args.self.now in
    let control = c.take_update.new.control in
    c.finish.ensures.stepped (Update c.args.peer c.args.message) old refl c.requires.step
    (on_way (Update c.args.peer c.args.message) c.args.now old control old.tables c.in_ok-changed.changed.tunnels.items no_core c.requires.step
    (update_made c.args.now c.args.peer c.args.message old control c.in_ok-changed.changed.tunnels.items c.requires.step c.take_update.ensures.home
    c.in_ok-changed.ensures.taken c.take_update.ensures.wants
    c.in_ok-changed.ensures.tunnels))
