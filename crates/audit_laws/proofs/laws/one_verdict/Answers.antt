use Rattle.audit_defs.proofs.Begins.{one_verdict}
use Rattle.audit_laws.proofs.laws.one_verdict.Goals as goal

pub returns : goal.returns
returns c = one_verdict
