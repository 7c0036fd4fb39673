use Rattle.held_tables.proofs.JoinLemmas.{begun, ended}
use Rattle.held_tables.proofs.laws.joins_are_left_one_by_one.Goals as goal

pub returns : goal.returns
returns c = record {
  begun = λ place control flows but tables was is alike hold. begun place control flows but was is alike tables hold;
  ended = ended;
}
