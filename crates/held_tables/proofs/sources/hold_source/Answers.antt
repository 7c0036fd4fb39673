use Rattle.std.specs.FinMap.{insert}
use Rattle.std.proofs.lemmas.Result.{on_ok_weaker}
use Rattle.vrf_words.proofs.edge_words.held_laws.Calls.{noted}
use Rattle.vrf_words.specs.edge_words.held_laws.Held.{note_of, with_note}
use Rattle.edge_defs.specs.Keys.{Table}
use Rattle.edge_defs.specs.Originated.{active_key, plain_value}
use Rattle.edge_routes.specs.edge_home.Home.{as_own}
use Rattle.held_tables.proofs.HoldLemmas.{hold_each, each_as}
use Rattle.held_tables.proofs.sources.hold_source.Goals as goal

pub returns-clause-held : goal.returns-clause-held
returns-clause-held c = on_ok_weaker c.set.result (λ each place control iface own of hold.
    hold_each (λ (t : Table). insert t (active_key c.args.own.now.local.vrf c.args.source c.args.group) (plain_value place c.args.own.now.local.vrf))
    place control (with_note control (note_of iface c.args.source c.args.group)) c.args.tables.now c.set.new.self
    (each_as insert c.active_key-key.ensures (c.plain_value-value.ensures place own.at) c.args.tables.now c.set.new.self each)
    (λ peer. noted place own.rules peer control (as_own c.args.own.now) own.among iface c.args.source c.args.group of)
    hold) c.set.ensures.set
