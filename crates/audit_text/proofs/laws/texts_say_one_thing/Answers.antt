use Rattle.audit_text.proofs.SaysLemmas.{said_once, said_whole}
use Rattle.audit_text.proofs.laws.texts_say_one_thing.Goals as goal

pub returns-clause-one : goal.returns-clause-one
returns-clause-one c = said_once

pub returns-clause-whole : goal.returns-clause-whole
returns-clause-whole c = said_whole
