use Rattle.std.proofs.Common.{refl}
use Rattle.edge_defs.specs.Steps.{Customer, Active}
use Rattle.edge_routes.specs.edge_home.Home.{place_of}
use Rattle.control_laws.specs.Control.{control_of}
use Rattle.edge_routing.proofs.CustomerCalls.{held_at, note_way, of_kept, own_at}
use Rattle.edge_routing.proofs.routing.EdgeRouting.note.Goals as goal

pub finish-requires-clause-groups : goal.finish-requires-clause-groups
finish-requires-clause-groups c =
    let old = c.args.self.now in
    let control = c.note.new.self in
    let own = c.own_of_iface-own.result.now in
    let of = of_kept control c.home.result.now own c.home.ensures.home c.args.iface c.own_of_iface-own.ensures.of in
    (note_way c.args.iface c.args.source c.args.group c.args.now old control c.hold_source.new.tables c.new.result.items c.requires.step
    c.note.ensures.home
    (λ walks. c.in_ok-note.ensures.noted walks c.args.now) c.note.ensures.wants c.requires.group
    (λ walks. c.in_ok-hold_source.ensures.held (place_of control.home walks) (control_of old.control) c.args.iface
    (own_at control c.home.result.now own c.home.ensures.home c.home.ensures.sound c.own_of_iface-own.ensures.among c.own_of_iface-own.ensures.at
    walks) of
    (held_at old control c.requires.step c.note.ensures.home walks)) c.hold_source.ensures.told).groups

pub returns-clause-stepped : goal.returns-clause-stepped
returns-clause-stepped c =
    let old = c.args.self.now in
    let control = c.note.new.self in
    let own = c.own_of_iface-own.result.now in
    let of = of_kept control c.home.result.now own c.home.ensures.home c.args.iface c.own_of_iface-own.ensures.of in
    c.in_ok-finish.ensures.stepped (Customer (Active c.args.iface c.args.source c.args.group)) old refl c.requires.step
    (note_way c.args.iface c.args.source c.args.group c.args.now old control c.hold_source.new.tables c.new.result.items c.requires.step
    c.note.ensures.home
    (λ walks. c.in_ok-note.ensures.noted walks c.args.now) c.note.ensures.wants c.requires.group
    (λ walks. c.in_ok-hold_source.ensures.held (place_of control.home walks) (control_of old.control) c.args.iface
    (own_at control c.home.result.now own c.home.ensures.home c.home.ensures.sound c.own_of_iface-own.ensures.among c.own_of_iface-own.ensures.at
    walks) of
    (held_at old control c.requires.step c.note.ensures.home walks)) c.hold_source.ensures.told)
