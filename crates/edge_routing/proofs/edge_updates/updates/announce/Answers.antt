use Rattle.std.proofs.Common.{[], ◌∷◌, ap, subst, ◌∙◌}
use Rattle.bgp_messages.specs.declared.bgp_attributes.key.Key.{Key}
use Rattle.bgp_messages.specs.declared.bgp_attributes.update.Change.TheVariants.{Reach}
use Rattle.edge_defs.specs.Keys.{Value}
use Rattle.edge_routes.specs.route_order.Values.{as_value}
use Rattle.edge_control.specs.edge_tables.taken_tables.Tables.{reach}
use Rattle.edge_routing.specs.edge_updates.Changed.{AreTaken}
use Rattle.edge_routing.proofs.edge_updates.TakenLemmas.{taken_then}
use Rattle.edge_routing.proofs.edge_updates.updates.announce.Goals as goal

pub returns-then-branch-clause-taken : goal.returns-then-branch-clause-taken
returns-then-branch-clause-taken c =
    subst (λ (key : Key). AreTaken c.args.now c.args.peer
    (reach key (as_value c.args.advert.now.next_hop c.args.advert.now.comms c.args.advert.now.pmsi) ∷ [])
    c.args.control.now c.enter.new.control c.args.fecs.now.items c.enter.new.fecs.items) c.in_ok-own.ensures
    (subst (λ (value : Value). AreTaken c.args.now c.args.peer (reach c.in_ok-own.own value ∷ []) c.args.control.now
    c.enter.new.control c.args.fecs.now.items c.enter.new.fecs.items) (c.in_ok-value.ensures
    ∙ ap (λ comms. as_value c.args.advert.now.next_hop comms c.args.advert.now.pmsi) c.as_slice.ensures)
    (c.in_ok-enter.ensures.taken c.if-branch.true))

pub returns-clause-taken : goal.returns-clause-taken
returns-clause-taken c =
    taken_then c.args.now c.args.peer [] (Reach c.args.advert.now ∷ []) c.args.control.now c.enter.new.control c.announce_again.new.control
    c.args.fecs.now.items c.enter.new.fecs.items c.announce_again.new.fecs.items (c.in_ok-enter.ensures.stays c.if-branch.false)
    (subst (λ (key : Key). AreTaken c.args.now c.args.peer
    (reach key (as_value c.args.advert.now.next_hop c.args.advert.now.comms c.args.advert.now.pmsi) ∷ [])
    c.enter.new.control c.announce_again.new.control c.enter.new.fecs.items c.announce_again.new.fecs.items) c.in_ok-own.ensures
    (subst (λ (value : Value). AreTaken c.args.now c.args.peer (reach c.in_ok-own.own value ∷ []) c.enter.new.control
    c.announce_again.new.control c.enter.new.fecs.items c.announce_again.new.fecs.items) (c.in_ok-value.ensures
    ∙ ap (λ comms. as_value c.args.advert.now.next_hop comms c.args.advert.now.pmsi) c.as_slice.ensures)
    c.in_ok-announce_again.ensures.taken))
