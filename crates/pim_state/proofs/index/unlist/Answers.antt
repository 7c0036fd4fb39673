use Rattle.std.proofs.Common.{rules, ◌≡◌, cond, List, [], Option, None, ap, ◌∙◌}
use Rattle.indexmap.specs.IndexMap.{get}
use Rattle.scenario_defs.specs.declared.event.IfaceEntry.{IfaceEntry}
use Rattle.pim_state.specs.declared.index.IndexKey.{IndexKey}
use Rattle.pim_state.specs.Index.{is_key, key_of, listed}
use Rattle.pim_state.proofs.IndexLemmas.{key-gone}
use Rattle.pim_state.proofs.index.unlist.Goals as goal

pub returns-then-take_off : goal.returns-then-take_off
returns-then-take_off c = λ other.
    let none : listed c.take_off.new.index (key_of c.args.at.now.entry) ≡ [] = search rules in
    key-gone c.take_off.new.index c.swap_remove.new.self (key_of c.args.at.now.entry) other
    (λ k. c.swap_remove.ensures.updates.0 k
    ∙ ap (λ (x : IndexKey). cond {A = Option (List IfaceEntry)} (is_key x k) None (get is_key c.take_off.new.index k)) c.key_of.ensures) none
    ∙ c.take_off.ensures.each other
