use Rattle.control_laws.proofs.group_laws.Messages.{has_groups, spelled_has_groups, read_has_groups}
use Rattle.control_laws.proofs.group_laws.laws.messages_have_groups.Goals as goal

pub returns-clause-whole : goal.returns-clause-whole
returns-clause-whole c = has_groups

pub returns-clause-spelled : goal.returns-clause-spelled
returns-clause-spelled c = spelled_has_groups

pub returns-clause-read : goal.returns-clause-read
returns-clause-read c = read_has_groups
