use Rattle.audit_events.proofs.WayLemmas.{item_in}
use Rattle.mvpn_audit.proofs.findings.find.Goals as goal

pub take-requires-clause-at : goal.take-requires-clause-at
take-requires-clause-at c =
    item_in c.as_slice-events.ensures c.loop-number.number c.index-events-number.result c.loop-number-test.true c.index-events-number.is
