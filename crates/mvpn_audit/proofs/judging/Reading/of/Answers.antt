use Rattle.std.proofs.Common.{refl, None}
use Rattle.mvpn_audit.proofs.ReadLemmas.{nothing_read}
use Rattle.mvpn_audit.proofs.judging.Reading.of.Goals as goal

pub returns : goal.returns
returns c = λ case is. nothing_read case is (record { passed = 0; first = None }) refl refl
