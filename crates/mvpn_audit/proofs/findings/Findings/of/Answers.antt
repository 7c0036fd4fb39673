use Rattle.std.proofs.Common.{refl, None}
use Rattle.mvpn_audit.proofs.FindingLemmas.{none_found}
use Rattle.mvpn_audit.proofs.findings.Findings.of.Goals as goal

pub returns : goal.returns
returns c = λ all outs. none_found all (record { noted = c.new.result; outs = c.args.outs; missing = None }) outs c.new.ensures refl
