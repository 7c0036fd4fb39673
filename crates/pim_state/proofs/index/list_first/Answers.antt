use Rattle.pim_state.proofs.IndexLemmas.{listed-first}
use Rattle.pim_state.proofs.index.list_first.Goals as goal

pub returns-clause-each : goal.returns-clause-each
returns-clause-each c = λ other.
    listed-first c.args.index.now c.insert.new.self c.args.at other _ _ c.put.new.self c.key_of.ensures c.requires c.new-own.ensures
    (λ x. c.in_ok-put.ensures.each x) (λ k. c.in_ok-insert.ensures.updates.0 k)
