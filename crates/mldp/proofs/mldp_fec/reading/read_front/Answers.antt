use Rattle.std.proofs.Common.{arith, subst}
use Rattle.std.specs.Prelude.{List, ℕ}
use Rattle.mv_base.specs.Cursor.{IsRead, start}
use Rattle.mv_base.specs.Octets.{IsOctets}
use Rattle.mldp.specs.mldp_fec.Reading.{fec_at}
use Rattle.mldp.proofs.mldp_fec.CallLemmas.{all_read}
use Rattle.mldp.proofs.mldp_fec.reading.read_front.Goals as goal

pub returns : goal.returns
returns c =
    let fits : IsOctets c.args.bytes.now = λ i. omega (arith, c.type_inv.bytes i) in
    all_read c.read_element.result c.args.bytes.now fits
    (subst (λ (xs : List ℕ). IsRead c.read_element.result (fec_at (start xs))) c.front_of.ensures.octets c.read_element.ensures)
