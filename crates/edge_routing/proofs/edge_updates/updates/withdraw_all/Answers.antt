use Rattle.std.proofs.Common.{◌<◌, ◌≤◌, [], ◌∷◌, length, subst, ◌∙◌, take, arith}
use Rattle.std.proofs.lemmas.List.{take_all}
use Rattle.bgp_messages.specs.declared.bgp_attributes.update.Change.TheVariants.{Unreach}
use Rattle.bgp_messages.specs.bgp_update.Table.{unannounced}
use Rattle.edge_routing.specs.edge_updates.Changed.{AreTaken}
use Rattle.edge_routing.proofs.edge_updates.ListLemmas.{unannounced_more}
use Rattle.edge_routing.proofs.edge_updates.TakenLemmas.{none_taken, taken_then}
use Rattle.edge_routing.proofs.edge_updates.updates.withdraw_all.Goals as goal

pub loop-key-init : goal.loop-key-init
loop-key-init c = λ now. none_taken now c.args.peer c.args.control.now c.args.fecs.now.items

pub returns-in_err-withdraw-clause-home : goal.returns-in_err-withdraw-clause-home
returns-in_err-withdraw-clause-home c = c.withdraw.ensures.home ∙ (c.loop-key.invariant 0).home

pub loop-key-preserved : goal.loop-key-preserved
loop-key-preserved c = λ now.
    let at = c.loop-key in
    let key = c.key-item.result in
    let lt : at.key-index < length c.args.keys.now = omega arith in
    subst (λ changes. AreTaken now c.args.peer changes c.args.control.now c.withdraw.new.control c.args.fecs.now.items c.withdraw.new.fecs.items)
    (unannounced_more c.args.keys.now at.key-index key lt c.key-item.is)
    (taken_then now c.args.peer (unannounced (take at.key-index c.args.keys.now)) (Unreach key ∷ []) c.args.control.now at.control
    c.withdraw.new.control c.args.fecs.now.items at.fecs.items
    c.withdraw.new.fecs.items (at.invariant now) (c.in_ok-withdraw.ensures.taken now))

pub returns-clause-taken : goal.returns-clause-taken
returns-clause-taken c = λ now.
    let at = c.loop-key in
    let le : length c.args.keys.now ≤ at.key-index = omega arith in
    subst (λ keys. AreTaken now c.args.peer (unannounced keys) c.args.control.now at.control c.args.fecs.now.items at.fecs.items)
    (take_all at.key-index c.args.keys.now le)
    (at.invariant now)

pub returns-clause-home : goal.returns-clause-home
returns-clause-home c = (c.loop-key.invariant 0).home

pub returns-in_err-withdraw-clause-wants : goal.returns-in_err-withdraw-clause-wants
returns-in_err-withdraw-clause-wants c = c.withdraw.ensures.wants ∙ (c.loop-key.invariant 0).wants

pub returns-clause-wants : goal.returns-clause-wants
returns-clause-wants c = (c.loop-key.invariant 0).wants
