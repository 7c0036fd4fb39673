use Rattle.std.specs.FinMap.{remove}
use Rattle.std.proofs.lemmas.Result.{on_ok_weaker}
use Rattle.vrf_words.proofs.edge_words.held_laws.Calls.{unnoted}
use Rattle.vrf_words.specs.edge_words.held_laws.Held.{note_of, without_note}
use Rattle.edge_defs.specs.Keys.{Table}
use Rattle.edge_defs.specs.Originated.{active_key}
use Rattle.edge_routes.specs.edge_home.Home.{as_own}
use Rattle.held_tables.proofs.HoldLemmas.{hold_each, less_as}
use Rattle.held_tables.proofs.sources.drop_source.Goals as goal

pub returns-clause-held : goal.returns-clause-held
returns-clause-held c = on_ok_weaker c.unset.result (λ each place control iface own of none hold.
    hold_each (λ (t : Table). remove t (active_key c.args.own.now.local.vrf c.args.source c.args.group)) place control
    (without_note control (note_of iface c.args.source c.args.group)) c.args.tables.now c.unset.new.self
    (less_as c.active_key-key.ensures c.args.tables.now c.unset.new.self each)
    (λ peer. unnoted place own.rules peer control (as_own c.args.own.now) own.among iface c.args.source c.args.group of none)
    hold) c.unset.ensures.unset
