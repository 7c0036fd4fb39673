use Rattle.std.proofs.Common.{◌<◌, ◌≤◌, [], ◌∷◌, length, subst, take, arith}
use Rattle.std.proofs.lemmas.List.{take_all}
use Rattle.bgp_messages.specs.declared.bgp_attributes.update.Change.TheVariants.{Reach}
use Rattle.bgp_messages.specs.bgp_update.Table.{announced}
use Rattle.edge_routing.specs.edge_updates.Changed.{AreTaken}
use Rattle.edge_routing.proofs.edge_updates.ListLemmas.{announced_more}
use Rattle.edge_routing.proofs.edge_updates.TakenLemmas.{none_taken, taken_then}
use Rattle.edge_routing.proofs.edge_updates.updates.announce_all.Goals as goal

pub loop-advert-init : goal.loop-advert-init
loop-advert-init c = none_taken c.args.now c.args.peer c.args.control.now c.args.fecs.now.items

pub loop-advert-preserved : goal.loop-advert-preserved
loop-advert-preserved c =
    let at = c.loop-advert in
    let advert = c.advert-item.result in
    let lt : at.advert-index < length c.args.adverts.now = omega arith in
    subst (λ changes. AreTaken c.args.now c.args.peer changes c.args.control.now c.announce.new.control c.args.fecs.now.items
    c.announce.new.fecs.items)
    (announced_more c.args.adverts.now at.advert-index advert lt c.advert-item.is)
    (taken_then c.args.now c.args.peer (announced (take at.advert-index c.args.adverts.now)) (Reach advert ∷ []) c.args.control.now at.control
    c.announce.new.control c.args.fecs.now.items at.fecs.items
    c.announce.new.fecs.items at.invariant c.in_ok-announce.ensures.taken)

pub returns-clause-taken : goal.returns-clause-taken
returns-clause-taken c =
    let at = c.loop-advert in
    let le : length c.args.adverts.now ≤ at.advert-index = omega arith in
    subst (λ adverts. AreTaken c.args.now c.args.peer (announced adverts) c.args.control.now at.control c.args.fecs.now.items at.fecs.items)
    (take_all at.advert-index c.args.adverts.now le)
    at.invariant
