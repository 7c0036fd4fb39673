use Rattle.made_laws.proofs.OctetLemmas.{made_octets}
use Rattle.made_laws.proofs.ScriptRulesLemmas.{made_rules}
use Rattle.made_laws.proofs.growing.made_scripts_meet_the_rules.Goals as goal

pub returns-clause-rules : goal.returns-clause-rules
returns-clause-rules c = made_rules

pub returns-clause-octets : goal.returns-clause-octets
returns-clause-octets c = made_octets
