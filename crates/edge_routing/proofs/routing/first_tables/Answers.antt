use Rattle.std.proofs.Common.{ap, subst, ◌∙◌}
use Rattle.edge_routes.specs.edge_home.Home.{Home, place_of, peers_of}
use Rattle.edge_defs.specs.Edge.{no_control}
use Rattle.held_tables.specs.Holding.{HoldAll}
use Rattle.edge_routing.proofs.First.{are_empty, first_silent, first_step}
use Rattle.edge_routing.proofs.routing.first_tables.Goals as goal

pub start-requires : goal.start-requires
start-requires c = are_empty c.deref.result.now c.in_ok-tables.tables c.in_ok-tables.ensures

pub returns-clause-silent : goal.returns-clause-silent
returns-clause-silent c = first_silent c.deref.result.now c.in_ok-tables.tables c.in_ok-tables.ensures c.start.new.tables c.start.ensures.told

pub returns-clause-step : goal.returns-clause-step
returns-clause-step c =
    first_step c.deref.result.now c.in_ok-tables.tables c.in_ok-tables.ensures c.start.new.tables c.start.ensures.told c.args.control.now
    c.requires.nothing c.requires.wanted
    (c.deref.ensures.value ∙ (c.in_ok-peers.ensures ∙ ap peers_of c.home-home.ensures.home))
    (λ core. subst (λ (h : Home). HoldAll (place_of h core) no_control c.start.new.tables) c.home-home.ensures.home
    (c.in_ok-start.ensures.held core))
