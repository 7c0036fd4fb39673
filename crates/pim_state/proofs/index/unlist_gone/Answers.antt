use Rattle.pim_state.specs.Index.{is_listed}
use Rattle.pim_state.proofs.IndexLemmas.{all-left, left-more}
use Rattle.pim_state.proofs.index.unlist_gone.Goals as goal

pub loop-at-init : goal.loop-at-init
loop-at-init c = λ other. all-left c.args.entries.now (is_listed c.args.index.now other) other

pub loop-at-preserved : goal.loop-at-preserved
loop-at-preserved c = λ other.
    left-more c.args.entries.now _ c.loop-at.at-index _ other (is_listed c.args.index.now other) (is_listed c.loop-at.index other)
    (is_listed c.unlist_absent.new.index other) c.loop-at-test.true (c.unlist_absent.ensures other) (c.loop-at.invariant other)
