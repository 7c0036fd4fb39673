use Rattle.std.proofs.Common.{refl}
use Rattle.edge_defs.specs.Steps.{Timers}
use Rattle.control_laws.proofs.Parts.{no_core}
use Rattle.edge_routing.proofs.Calls.{on_way}
use Rattle.edge_routing.proofs.PeerCalls.{timers_made}
use Rattle.edge_routing.proofs.routing.EdgeRouting.run_timers.Goals as goal

pub finish-requires-clause-groups : goal.finish-requires-clause-groups
finish-requires-clause-groups c =
    let old = c.args.self.now in
    let control = c.run_timers.new.self in
    (on_way Timers c.args.now old control old.tables c.new.result.items no_core c.requires.step
    (timers_made c.args.now old control c.new.result.items c.requires.step c.run_timers.ensures.home c.in_ok-run_timers.ensures.run
    c.run_timers.ensures.wants)).groups

pub returns-clause-stepped : goal.returns-clause-stepped
returns-clause-stepped c =
    let old = c.args.self.now in
    let control = c.run_timers.new.self in
    c.finish.ensures.stepped Timers old refl c.requires.step
    (on_way Timers c.args.now old control old.tables c.new.result.items no_core c.requires.step
    (timers_made c.args.now old control c.new.result.items c.requires.step c.run_timers.ensures.home c.in_ok-run_timers.ensures.run
    c.run_timers.ensures.wants))
