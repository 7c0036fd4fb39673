use Rattle.std.proofs.Common.{Some, arith}
use Rattle.mv_base.specs.Octets.{IsOctets}
use Rattle.core_pcap.specs.File.{FirstFault}
use Rattle.core_pcap.proofs.Files.{tells_header, tells_one, told_rows, only_told}
use Rattle.core_pcap.proofs.reading.read.Goals as goal

pub returns-in-Err-Bad-clause-told : goal.returns-in-Err-Bad-clause-told
returns-in-Err-Bad-clause-told c =
    let fits : IsOctets c.args.bytes.now = λ i. omega (arith, c.type_inv.bytes i) in
    rw (c.new.ensures, c.saturating_sub.ensures)
    (tells_header c.args.bytes.now c.in-Err-Bad.left c.in-Err-Bad.fault fits (rw c.in-Err-Bad.field-0-is at c.in-Err-Bad.ensures))

pub returns-in-Err-Bad-clause-only : goal.returns-in-Err-Bad-clause-only
returns-in-Err-Bad-clause-only c hops fault tells =
    let fits : IsOctets c.args.bytes.now = λ i. omega (arith, c.type_inv.bytes i) in
    let told : FirstFault c.new.result c.args.bytes.now c.saturating_sub.result c.in-Err-Bad.fault =
    rw (c.new.ensures, c.saturating_sub.ensures)
    (tells_header c.args.bytes.now c.in-Err-Bad.left c.in-Err-Bad.fault fits (rw c.in-Err-Bad.field-0-is at c.in-Err-Bad.ensures)) in
    tells_one c.new.result hops (Some (c.saturating_sub.result, c.in-Err-Bad.fault)) fault c.args.bytes.now fits told tells

pub returns-in-Ok-clause-told : goal.returns-in-Ok-clause-told
returns-in-Ok-clause-told c =
    let fits : IsOctets c.args.bytes.now = λ i. omega (arith, c.type_inv.bytes i) in
    told_rows c.read_records.result c.args.bytes.now c.in-Ok.order c.in-Ok.records.now fits c.in-Ok.ensures c.read_records.ensures

pub returns-in-Ok-clause-only : goal.returns-in-Ok-clause-only
returns-in-Ok-clause-only c =
    let fits : IsOctets c.args.bytes.now = λ i. omega (arith, c.type_inv.bytes i) in
    only_told c.read_records.result c.args.bytes.now fits
    (told_rows c.read_records.result c.args.bytes.now c.in-Ok.order c.in-Ok.records.now fits c.in-Ok.ensures c.read_records.ensures)
