use Rattle.std.proofs.Common.{rules, ◌≡◌, true, false, is_some}
use Rattle.indexmap.specs.IndexMap.{get}
use Rattle.pim_state.specs.Index.{is_listed}
use Rattle.pim_state.specs.Plan.{is_at}
use Rattle.pim_state.proofs.IndexLemmas.{absent, absent-less, there-left}
use Rattle.pim_state.proofs.index.unlist_absent.Goals as goal

pub returns-then-not-contains_key : goal.returns-then-not-contains_key
returns-then-not-contains_key c = λ other.
    let gone : is_some (get is_at c.args.entries.now c.args.at.now) ≡ false = search rules in
    absent-less c.args.entries.now (is_listed c.args.index.now other) (is_listed c.unlist.new.index other) c.args.at.now other (absent _ gone)
    (c.unlist.ensures other)

pub returns-else-not-contains_key : goal.returns-else-not-contains_key
returns-else-not-contains_key c = λ other.
    let there : is_some (get is_at c.args.entries.now c.args.at.now) ≡ true = search rules in
    there-left c.args.entries.now (is_listed c.args.index.now other) c.args.at.now other there
