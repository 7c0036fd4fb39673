use Rattle.std.proofs.Common.{ap, ◌∙◌, sym}
use Rattle.std.specs.FinMap.{insert}
use Rattle.std.proofs.lemmas.Result.{on_ok_weaker, on_err_weaker}
use Rattle.vrf_words.proofs.edge_words.held_laws.Calls.{selected_more}
use Rattle.vrf_words.specs.edge_words.held_laws.Held.{with_selected}
use Rattle.edge_defs.specs.Keys.{Table}
use Rattle.edge_defs.specs.Originated.{selective_key, tunnel_value}
use Rattle.edge_defs.specs.Place.{tunnel_number}
use Rattle.edge_routes.specs.edge_home.Home.{as_own}
use Rattle.held_tables.proofs.HoldLemmas.{hold_each, each_as, partly_as}
use Rattle.held_tables.proofs.selections.hold_selection.Goals as goal

pub returns-clause-held : goal.returns-clause-held
returns-clause-held c = on_ok_weaker c.set.result (λ each place control selected own number hold.
    let vrf = c.args.own.now.local.vrf in
    hold_each (λ (t : Table). insert t (selective_key place vrf c.args.pattern.now) (tunnel_value place vrf (tunnel_number vrf selected.number)))
    place control (with_selected control c.args.own.now.id c.args.pattern.now selected) c.args.tables.now c.set.new.self
    (each_as insert (c.selective_key-key.ensures place own.at)
    (c.tunnel_value-value.ensures place own.at ∙ ap (tunnel_value place vrf)
    (c.tunnel_number.ensures ∙ (λ i. tunnel_number (c.vrf.ensures.vrf i) (sym number i)))) c.args.tables.now c.set.new.self each)
    (λ peer. selected_more place own.rules peer control (as_own c.args.own.now) own.among c.args.pattern.now selected)
    hold) c.set.ensures.set

pub returns-clause-partly : goal.returns-clause-partly
returns-clause-partly c = on_err_weaker c.set.result (λ part place own.
    let vrf = c.args.own.now.local.vrf in
    partly_as (c.selective_key-key.ensures place own.at)
    (c.tunnel_value-value.ensures place own.at ∙ ap (tunnel_value place vrf)
    (c.tunnel_number.ensures ∙ (λ i. tunnel_number (c.vrf.ensures.vrf i) c.args.number))) c.args.tables.now c.set.new.self part)
    c.set.ensures.partly
