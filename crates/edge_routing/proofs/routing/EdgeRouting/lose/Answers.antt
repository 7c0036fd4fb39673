use Rattle.std.proofs.Common.{refl}
use Rattle.scenario_defs.specs.declared.event.Kind.TheVariants as kinds
use Rattle.edge_defs.specs.Steps.{Noticed}
use Rattle.control_laws.proofs.Parts.{no_core}
use Rattle.edge_control.specs.edge_tables.Tables.{downed}
use Rattle.edge_routing.proofs.PeerCalls.{lose_made, turned_way}
use Rattle.edge_routing.proofs.routing.EdgeRouting.lose.Goals as goal

pub finish-requires-clause-groups : goal.finish-requires-clause-groups
finish-requires-clause-groups c =
    let old = c.args.self.now in
    (turned_way (Noticed kinds.Bgp c.args.peer) c.args.peer downed c.args.now old c.lose.new.self c.down.new.self c.in_ok-tunnels.tunnels.items
    no_core c.requires.step
    (lose_made c.args.peer c.args.now old c.lose.new.self c.down.new.self c.in_ok-tunnels.tunnels.items c.requires.step c.lose.ensures.home
    (λ core. c.lose.ensures.lost core c.args.now) c.lose.ensures.wants
    c.down.ensures (λ core fec is. (c.in_ok-tunnels.ensures core fec).0 is) no_core)).groups

pub returns-clause-stepped : goal.returns-clause-stepped
returns-clause-stepped c =
    let old = c.args.self.now in
    c.finish.ensures.stepped (Noticed kinds.Bgp c.args.peer) old refl c.requires.step
    (turned_way (Noticed kinds.Bgp c.args.peer) c.args.peer downed c.args.now old c.lose.new.self c.down.new.self c.in_ok-tunnels.tunnels.items
    no_core c.requires.step
    (lose_made c.args.peer c.args.now old c.lose.new.self c.down.new.self c.in_ok-tunnels.tunnels.items c.requires.step c.lose.ensures.home
    (λ core. c.lose.ensures.lost core c.args.now) c.lose.ensures.wants
    c.down.ensures (λ core fec is. (c.in_ok-tunnels.ensures core fec).0 is) no_core))
