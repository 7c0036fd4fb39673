use Rattle.std.proofs.Common.{subst}
use Rattle.bgp_messages.specs.bgp_update.Table.{announced, unannounced}
use Rattle.edge_routing.specs.edge_updates.Changed.{AreTaken}
use Rattle.edge_routing.proofs.edge_updates.TakenLemmas.{taken_then}
use Rattle.edge_routing.proofs.edge_updates.updates.take_parts.Goals as goal

pub returns-clause-taken : goal.returns-clause-taken
returns-clause-taken c =
    let old = c.args.control.now in
    let middle = c.withdraw_all.new.control in
    let new = c.announce_all.new.control in
    let listed = c.withdraw_all.new.fecs.items in
    let gone =
    subst (λ fecs. AreTaken c.args.now c.args.peer (unannounced c.as_slice.result.now) old middle fecs listed) c.new-tunnels.ensures.items
    (c.in_ok-withdraw_all.ensures.taken c.args.now) in
    taken_then c.args.now c.args.peer (unannounced c.args.update.unreach) (announced c.args.update.reach) old middle new _ listed
    c.announce_all.new.fecs.items
    (subst (λ keys. AreTaken c.args.now c.args.peer (unannounced keys) old middle _ listed) c.as_slice.ensures gone)
    (subst (λ adverts. AreTaken c.args.now c.args.peer (announced adverts) middle new listed c.announce_all.new.fecs.items) c.as_slice-2.ensures
    c.in_ok-near.ensures.taken)
