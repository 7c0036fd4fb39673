use Rattle.control_laws.proofs.CustomersCounts.{applied_counted, applied_more}
use Rattle.control_laws.proofs.customers.join_prune_is_counted.Goals as goal

pub returns-clause-trees : goal.returns-clause-trees
returns-clause-trees c = λ kept number it iface message now trees at own. applied_counted kept trees number it at iface own message now

pub returns-clause-change : goal.returns-clause-change
returns-clause-change c = λ kept number it iface message now trees at own. applied_more kept trees number it at iface own message now
