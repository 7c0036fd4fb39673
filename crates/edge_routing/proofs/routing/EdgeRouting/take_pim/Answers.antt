use Rattle.std.proofs.Common.{refl}
use Rattle.edge_defs.specs.Steps.{Customer, Pim}
use Rattle.edge_routing.proofs.CustomerCalls.{pim_way}
use Rattle.edge_routing.proofs.routing.EdgeRouting.take_pim.Goals as goal

pub finish-requires-clause-groups : goal.finish-requires-clause-groups
finish-requires-clause-groups c =
    (pim_way c.args.iface c.args.message.now c.args.now c.args.self.now c.take_pim.new.self c.new.result.items c.requires.step c.take_pim.ensures.home
    c.in_ok-take_pim.ensures.taken c.take_pim.ensures.wants c.requires.groups).groups

pub returns-clause-stepped : goal.returns-clause-stepped
returns-clause-stepped c =
    c.in_ok-finish.ensures.stepped (Customer (Pim c.args.iface c.args.message.now)) c.args.self.now refl c.requires.step
    (pim_way c.args.iface c.args.message.now c.args.now c.args.self.now c.take_pim.new.self c.new.result.items c.requires.step c.take_pim.ensures.home
    c.in_ok-take_pim.ensures.taken c.take_pim.ensures.wants c.requires.groups)
