use Rattle.std.proofs.Common.{◌∙◌}
use Rattle.core_paths.proofs.ChangeLemmas.{new_topology, new_connected, new_core}
use Rattle.core_paths.proofs.paths.Core.set_cost.Goals as goal

pub all_rows-requires-clause-topology : goal.all_rows-requires-clause-topology
all_rows-requires-clause-topology c =
    new_topology _ _ _ c.self.inside.nodes c.self.inside.links.items c.deref.result.now c.deref-2.result.now c.deref.ensures.value
    (c.deref-2.ensures.value ∙ c.in_ok-links.ensures) c.requires c.self.invariant.topology

pub all_rows-requires-clause-connected : goal.all_rows-requires-clause-connected
all_rows-requires-clause-connected c =
    new_connected _ _ _ c.self.inside.nodes c.self.inside.links.items c.deref.result.now c.deref-2.result.now c.deref.ensures.value
    (c.deref-2.ensures.value ∙ c.in_ok-links.ensures) c.self.invariant.connected

pub invariant_of-self : goal.invariant_of-self
invariant_of-self c =
    new_core c.self.inside.nodes c.in_ok-links.links.items c.deref-2.result.now c.in_ok-tables.tables.costs.items c.in_ok-tables.tables.nexts.items
    c.deref-2.ensures.value
    (new_topology _ _ _ c.self.inside.nodes c.self.inside.links.items c.deref.result.now c.in_ok-links.links.items c.deref.ensures.value
    c.in_ok-links.ensures c.requires c.self.invariant.topology)
    (new_connected _ _ _ c.self.inside.nodes c.self.inside.links.items c.deref.result.now c.in_ok-links.links.items c.deref.ensures.value
    c.in_ok-links.ensures c.self.invariant.connected)
    c.in_ok-tables.ensures.costs c.in_ok-tables.ensures.nexts
