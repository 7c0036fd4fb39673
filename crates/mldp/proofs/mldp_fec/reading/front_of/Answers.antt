use Rattle.std.proofs.Common.{arith, sym, length-take-le}
use Rattle.std.proofs.lemmas.List.{take_all}
use Rattle.mldp.proofs.mldp_fec.reading.front_of.Goals as goal

pub slice_bounds-result-end : goal.slice_bounds-result-end
slice_bounds-result-end c = sym (length-take-le 86 c.args.bytes.now (omega (arith, c.if-bytes-le-MOST.false)))

pub returns-then-bytes-le-MOST : goal.returns-then-bytes-le-MOST
returns-then-bytes-le-MOST c = record { octets = sym (take_all 86 c.args.bytes.now c.if-bytes-le-MOST.true); within = c.if-bytes-le-MOST.true }

pub returns-else-bytes-le-MOST-clause-within : goal.returns-else-bytes-le-MOST-clause-within
returns-else-bytes-le-MOST-clause-within c = omega (arith, length-take-le 86 c.args.bytes.now (omega (arith, c.if-bytes-le-MOST.false)))
