use Rattle.std.proofs.Common.{[], ◌∷◌, subst}
use Rattle.bgp_messages.specs.declared.bgp_attributes.key.Key.{Key}
use Rattle.bgp_messages.specs.declared.bgp_attributes.update.Change.TheVariants.{Unreach}
use Rattle.edge_routing.specs.edge_updates.Changed.{AreTaken}
use Rattle.edge_routing.proofs.edge_updates.TakenLemmas.{withdrawal_taken}
use Rattle.edge_routing.proofs.edge_updates.updates.withdraw.Goals as goal

pub returns-clause-taken : goal.returns-clause-taken
returns-clause-taken c = λ now.
    subst (λ (key : Key). AreTaken now c.args.peer (Unreach key ∷ []) c.args.control.now c.withdraw.new.self c.args.fecs.now.items
    c.append_at.new.fecs.items) c.in_ok-own.ensures
    (withdrawal_taken now c.args.peer c.in_ok-own.own c.args.control.now c.withdraw.new.self c.args.fecs.now.items c.append_at.new.fecs.items
    c.withdraw.ensures.home c.withdraw.ensures.wants
    (c.withdraw.ensures.withdrawn now) c.in_ok-append_at.ensures)
