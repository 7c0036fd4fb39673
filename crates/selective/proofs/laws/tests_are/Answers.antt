use Rattle.std.proofs.Common.{◌+◌, true, subst}
use Rattle.std.proofs.lemmas.Bool.{leb-true, le-leb}
use Rattle.mv_base.specs.declared.pattern.Pattern.{Pattern}
use Rattle.selective.specs.Patterns.{same_pattern}
use Rattle.selective.proofs.RootLemmas.{one_pattern, pattern_itself}
use Rattle.selective.proofs.laws.tests_are.Goals as goal
use Rattle.std.proofs.Common.{◌≡◌}

pub returns-clause-due : goal.returns-clause-due
returns-clause-due c = λ delay now since. (λ h. leb-true (since + delay) now h, λ h. le-leb (since + delay) now h)

pub returns-clause-same : goal.returns-clause-same
returns-clause-same c = λ one other. (λ h. one_pattern one other h, λ e. subst (λ (p : Pattern). same_pattern one p ≡ true) e (pattern_itself one))
