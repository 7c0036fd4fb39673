use Rattle.std.proofs.Common.{◌≡◌, ◌⊎◌}
use Rattle.std.proofs.lemmas.Result.{on_err_weaker, on_ok_weaker}
use Rattle.edge_tables.specs.Tables.{PeerTable, without_route}
use Rattle.edge_tables.proofs.SlotLemmas.{each_after}
use Rattle.edge_tables.proofs.tables.EdgeTables.unset.Goals as goal

pub returns-clause-unset : goal.returns-clause-unset
returns-clause-unset c =
    on_ok_weaker c.unset_each.result (each_after (λ (old new : PeerTable). new ≡ without_route c.args.key.now old) c.self.inside.slots
    c.deref_mut.result.now c.unset_each.new.slots c.args.self.now c.self.view_is c.deref_mut.ensures.value) c.unset_each.ensures.unset

pub returns-clause-partly : goal.returns-clause-partly
returns-clause-partly c =
    on_err_weaker c.unset_each.result (each_after (λ (old new : PeerTable). (new ≡ old) ⊎ (new ≡ without_route c.args.key.now old))
    c.self.inside.slots c.deref_mut.result.now c.unset_each.new.slots c.args.self.now c.self.view_is c.deref_mut.ensures.value)
    c.unset_each.ensures.partly
