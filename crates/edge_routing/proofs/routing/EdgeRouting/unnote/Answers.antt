use Rattle.std.proofs.Common.{refl}
use Rattle.edge_defs.specs.Steps.{Customer, Idle}
use Rattle.control_laws.specs.Control.{control_of}
use Rattle.edge_routing.proofs.CustomerCalls.{held_at, idle_way}
use Rattle.edge_routing.proofs.routing.EdgeRouting.unnote.Goals as goal

pub finish-requires-clause-groups : goal.finish-requires-clause-groups
finish-requires-clause-groups c =
    let old = c.args.self.now in
    let control = c.unnote.new.self in
    (idle_way c.args.iface c.args.source c.args.group c.args.now old control c.drop_unnoted.new.tables c.new.result.items c.requires.step
    c.unnote.ensures.home
    (λ walks. c.unnote.ensures.unnoted walks c.args.now) c.unnote.ensures.wants
    (λ walks. c.in_ok-drop_unnoted.ensures.held walks (control_of old.control) (c.unnote.ensures.unnoted walks c.args.now)
    (held_at old control c.requires.step c.unnote.ensures.home walks))
    c.drop_unnoted.ensures.told).groups

pub returns-clause-stepped : goal.returns-clause-stepped
returns-clause-stepped c =
    let old = c.args.self.now in
    let control = c.unnote.new.self in
    c.finish.ensures.stepped (Customer (Idle c.args.iface c.args.source c.args.group)) old refl c.requires.step
    (idle_way c.args.iface c.args.source c.args.group c.args.now old control c.drop_unnoted.new.tables c.new.result.items c.requires.step
    c.unnote.ensures.home
    (λ walks. c.unnote.ensures.unnoted walks c.args.now) c.unnote.ensures.wants
    (λ walks. c.in_ok-drop_unnoted.ensures.held walks (control_of old.control) (c.unnote.ensures.unnoted walks c.args.now)
    (held_at old control c.requires.step c.unnote.ensures.home walks))
    c.drop_unnoted.ensures.told)
