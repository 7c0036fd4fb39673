use Rattle.std.specs.FinMap.{remove}
use Rattle.std.proofs.lemmas.Result.{on_ok_weaker}
use Rattle.vrf_words.proofs.edge_words.held_laws.Calls.{selected_less}
use Rattle.vrf_words.specs.edge_words.held_laws.Held.{without_selected}
use Rattle.edge_defs.specs.Keys.{Table}
use Rattle.edge_defs.specs.Originated.{selective_key}
use Rattle.edge_routes.specs.edge_home.Home.{as_own}
use Rattle.held_tables.proofs.HoldLemmas.{hold_each, less_as}
use Rattle.held_tables.proofs.selections.drop_selection.Goals as goal

pub returns-clause-held : goal.returns-clause-held
returns-clause-held c = on_ok_weaker c.unset.result (λ each place control own hold.
    hold_each (λ (t : Table). remove t (selective_key place c.args.own.now.local.vrf c.args.pattern.now)) place control
    (without_selected control c.args.own.now.id c.args.pattern.now) c.args.tables.now c.unset.new.self
    (less_as (c.selective_key-key.ensures place own.at) c.args.tables.now c.unset.new.self each)
    (λ peer. selected_less place own.rules peer control (as_own c.args.own.now) own.among c.args.pattern.now)
    hold) c.unset.ensures.unset
