use Rattle.choice_defs.proofs.HashLemmas.{some_hashed, one_hashed, hashed_candidate}
use Rattle.choice_defs.proofs.laws.hash_names.Goals as goal

pub returns-clause-some : goal.returns-clause-some
returns-clause-some c = some_hashed

pub returns-clause-one : goal.returns-clause-one
returns-clause-one c = one_hashed

pub returns-clause-candidate : goal.returns-clause-candidate
returns-clause-candidate c = hashed_candidate
