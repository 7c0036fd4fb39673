use Rattle.std.proofs.Common.{◌≡◌}
use Rattle.edge_tables.specs.Tables.{IsPutPart, PeerTable, put_after}
use Rattle.edge_tables.proofs.ActivityLemmas.{all_put, sent_all}
use Rattle.edge_tables.proofs.SlotLemmas.{each_after}
use Rattle.edge_tables.proofs.WayLemmas.{on_err}
use Rattle.edge_tables.proofs.tables.EdgeTables.put.Goals as goal

pub returns-in_err-put_each-in-Unknown-clause-partly : goal.returns-in_err-put_each-in-Unknown-clause-partly
returns-in_err-put_each-in-Unknown-clause-partly c =
    on_err c.from_residual.result _
    (each_after IsPutPart c.self.inside.slots c.deref_mut.result.now c.put_each.new.slots c.args.self.now c.self.view_is c.deref_mut.ensures.value
    c.in_err-put_each-in-Unknown.ensures.partly)

pub returns-in-Put : goal.returns-in-Put
returns-in-Put c = record {
  put =
      all_put c.self.inside.slots.items c.args.self.now c.self.view_is
      (sent_all c.self.inside.activity c.self.inside.slots.items c.in-Put.is c.self.invariant);
  partly = tt;
}

pub returns-in_ok-put_each-in-Unknown-clause-put : goal.returns-in_ok-put_each-in-Unknown-clause-put
returns-in_ok-put_each-in-Unknown-clause-put c =
    each_after (λ (old new : PeerTable). new ≡ put_after old) c.self.inside.slots c.deref_mut.result.now c.put_each.new.slots c.args.self.now
    c.self.view_is c.deref_mut.ensures.value c.in_ok-put_each-in-Unknown.ensures.put
