use Rattle.std.proofs.Common.{refl}
use Rattle.edge_defs.specs.Steps.{Rerouted}
use Rattle.control_laws.proofs.Parts.{no_core}
use Rattle.edge_routing.proofs.Calls.{on_way}
use Rattle.edge_routing.proofs.PeerCalls.{rerouted_made}
use Rattle.edge_routing.proofs.routing.EdgeRouting.step.Goals as goal

pub finish-requires-clause-groups : goal.finish-requires-clause-groups
finish-requires-clause-groups c =
    let old = c.args.self.now in
    let control = c.args.self.now.control in
    (on_way Rerouted c.args.now old control old.tables c.new.result.items no_core c.requires.step
    (rerouted_made c.args.now old c.new.result.items c.requires.step)).groups

pub returns-clause-stepped : goal.returns-clause-stepped
returns-clause-stepped c =
    let old = c.args.self.now in
    let control = c.args.self.now.control in
    c.finish.ensures.stepped Rerouted old refl c.requires.step
    (on_way Rerouted c.args.now old control old.tables c.new.result.items no_core c.requires.step
    (rerouted_made c.args.now old c.new.result.items c.requires.step))
