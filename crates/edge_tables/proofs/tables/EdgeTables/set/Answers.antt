use Rattle.std.proofs.Common.{◌≡◌, ◌⊎◌, OnErr, OnOk, subst}
use Rattle.std.proofs.lemmas.Result.{on_err_weaker, on_ok_weaker}
use Rattle.std.specs.List.{AllZip}
use Rattle.edge_defs.specs.bgp_messages.declared.bgp_attributes.key.Key.{Key}
use Rattle.edge_defs.specs.Keys.{Value}
use Rattle.edge_tables.specs.Slots.{Becomes}
use Rattle.edge_tables.specs.Tables.{PeerTable, with_route}
use Rattle.edge_tables.proofs.SlotLemmas.{each_after}
use Rattle.edge_tables.proofs.tables.EdgeTables.set.Goals as goal

pub returns-clause-set : goal.returns-clause-set
returns-clause-set c =
    on_ok_weaker c.set_each.result (each_after (λ (old new : PeerTable). new ≡ with_route c.args.key.now c.args.value.now old) c.self.inside.slots
    c.deref_mut.result.now c.set_each.new.slots c.args.self.now c.self.view_is c.deref_mut.ensures.value)
    (subst (λ (key : Key). OnOk c.set_each.result (AllZip (Becomes (λ (old new : PeerTable). new ≡ with_route key c.args.value.now old))
    c.deref_mut.result.now c.set_each.new.slots)) c.in_ok-key.ensures
    (subst (λ (value : Value). OnOk c.set_each.result (AllZip (Becomes (λ (old new : PeerTable). new ≡ with_route c.in_ok-key.key value old))
    c.deref_mut.result.now c.set_each.new.slots)) c.in_ok-value.ensures c.set_each.ensures.set))

pub returns-clause-partly : goal.returns-clause-partly
returns-clause-partly c =
    on_err_weaker c.set_each.result (each_after (λ (old new : PeerTable). (new ≡ old) ⊎ (new ≡ with_route c.args.key.now c.args.value.now old))
    c.self.inside.slots c.deref_mut.result.now c.set_each.new.slots c.args.self.now c.self.view_is c.deref_mut.ensures.value)
    (subst (λ (key : Key). OnErr c.set_each.result (AllZip (Becomes (λ (old new : PeerTable).
    (new ≡ old) ⊎ (new ≡ with_route key c.args.value.now old))) c.deref_mut.result.now c.set_each.new.slots)) c.in_ok-key.ensures
    (subst (λ (value : Value). OnErr c.set_each.result (AllZip (Becomes (λ (old new : PeerTable).
    (new ≡ old) ⊎ (new ≡ with_route c.in_ok-key.key value old))) c.deref_mut.result.now c.set_each.new.slots)) c.in_ok-value.ensures
    c.set_each.ensures.partly))
