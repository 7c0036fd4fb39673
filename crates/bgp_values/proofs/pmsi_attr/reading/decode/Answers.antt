use Rattle.std.proofs.Common.{◌∙◌, arith}
use Rattle.mv_base.specs.Octets.{IsOctets}
use Rattle.bgp_values.proofs.pmsi_attr.PmsiLemmas.{answer_is, pmsi_again, fails_pmsi}
use Rattle.bgp_values.proofs.pmsi_attr.reading.decode.Goals as goal

pub returns-clause-within : goal.returns-clause-within
returns-clause-within c =
    let fits : IsOctets c.args.bytes.now = λ i. omega (arith, c.type_inv.bytes i) in
    (answer_is c.read_pmsi.result c.args.bytes.now fits c.read_pmsi.ensures).2

pub returns-clause-spelled : goal.returns-clause-spelled
returns-clause-spelled c =
    let fits : IsOctets c.args.bytes.now = λ i. omega (arith, c.type_inv.bytes i) in
    (answer_is c.read_pmsi.result c.args.bytes.now fits c.read_pmsi.ensures).0

pub returns-clause-only_spelled : goal.returns-clause-only_spelled
returns-clause-only_spelled c = λ p s. c.read_pmsi.ensures ∙ pmsi_again p c.args.bytes.now s

pub returns-clause-first : goal.returns-clause-first
returns-clause-first c =
    let fits : IsOctets c.args.bytes.now = λ i. omega (arith, c.type_inv.bytes i) in
    (answer_is c.read_pmsi.result c.args.bytes.now fits c.read_pmsi.ensures).1

pub returns-clause-only_first : goal.returns-clause-only_first
returns-clause-only_first c =
    let fits : IsOctets c.args.bytes.now = λ i. omega (arith, c.type_inv.bytes i) in
    λ f first. c.read_pmsi.ensures ∙ fails_pmsi c.args.bytes.now f fits first
