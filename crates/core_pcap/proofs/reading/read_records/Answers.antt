use Rattle.std.proofs.Common.{arith}
use Rattle.mv_base.specs.Octets.{IsOctets}
use Rattle.core_pcap.proofs.Files.{done_more, done_octets, done_stop, shorter, some_left}
use Rattle.core_pcap.proofs.reading.read_records.Goals as goal

pub returns-in-Err-Bad : goal.returns-in-Err-Bad
returns-in-Err-Bad c =
    let fits : IsOctets c.args.records.now = λ i. omega (arith, c.type_inv.records i) in
    rw (c.saturating_sub.ensures, c.in-Err-Bad.left-is, c.in-Err-Bad.fault-is)
    (done_stop c.args.order c.args.len c.args.records.now c.loop-rest.hops c.loop-rest.rest.now c.in-Err-Bad.left c.in-Err-Bad.fault fits
    c.loop-rest.invariant (some_left c.is_empty.result c.loop-rest.rest.now c.loop-rest-test.true c.is_empty.ensures)
    (rw c.in-Err-Bad.field-0-is at c.in-Err-Bad.ensures))

pub loop-rest-smaller : goal.loop-rest-smaller
loop-rest-smaller c =
    let fits : IsOctets c.args.records.now = λ i. omega (arith, c.type_inv.records i) in
    shorter c.args.order c.loop-rest.rest.now c.in-Ok.hop c.in-Ok.thereafter.now
    (done_octets c.args.order c.args.records.now c.loop-rest.hops c.loop-rest.rest.now fits c.loop-rest.invariant) c.in-Ok.ensures

pub loop-rest-preserved : goal.loop-rest-preserved
loop-rest-preserved c =
    let fits : IsOctets c.args.records.now = λ i. omega (arith, c.type_inv.records i) in
    rw c.in_ok-push-in-Ok.ensures.ok
    (done_more c.args.order c.args.records.now c.loop-rest.hops c.in-Ok.hop c.loop-rest.rest.now c.in-Ok.thereafter.now fits c.loop-rest.invariant
    c.in-Ok.ensures)
