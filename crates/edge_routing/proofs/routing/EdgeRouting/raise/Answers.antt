use Rattle.std.proofs.Common.{refl}
use Rattle.scenario_defs.specs.declared.event.Kind.TheVariants as kinds
use Rattle.edge_defs.specs.Steps.{Raised}
use Rattle.control_laws.proofs.Parts.{no_core}
use Rattle.edge_control.specs.edge_tables.Tables.{raised}
use Rattle.edge_routing.proofs.PeerNumbers.{is_node}
use Rattle.edge_routing.proofs.PeerCalls.{raise_made, turned_way}
use Rattle.edge_routing.proofs.routing.EdgeRouting.raise.Goals as goal

pub raise-requires : goal.raise-requires
raise-requires c = is_node c.args.self.now.control.home c.args.peer c.requires.peer

pub finish-requires-clause-groups : goal.finish-requires-clause-groups
finish-requires-clause-groups c =
    let old = c.args.self.now in
    (turned_way (Raised kinds.Bgp c.args.peer) c.args.peer raised c.args.now old c.raise.new.self c.raise-2.new.self c.new.result.items no_core
    c.requires.step
    (raise_made c.args.peer c.args.now old c.raise.new.self c.raise-2.new.self c.new.result.items c.requires.step c.raise.ensures.home
    (λ core. c.in_ok-raise.ensures.raised core c.args.now) c.raise.ensures.wants
    c.in_ok-raise-2.ensures.raised c.requires.peer c.requires.down)).groups

pub returns-clause-stepped : goal.returns-clause-stepped
returns-clause-stepped c =
    let old = c.args.self.now in
    c.finish.ensures.stepped (Raised kinds.Bgp c.args.peer) old refl c.requires.step
    (turned_way (Raised kinds.Bgp c.args.peer) c.args.peer raised c.args.now old c.raise.new.self c.raise-2.new.self c.new.result.items no_core
    c.requires.step
    (raise_made c.args.peer c.args.now old c.raise.new.self c.raise-2.new.self c.new.result.items c.requires.step c.raise.ensures.home
    (λ core. c.in_ok-raise.ensures.raised core c.args.now) c.raise.ensures.wants
    c.in_ok-raise-2.ensures.raised c.requires.peer c.requires.down))
