use Rattle.std.proofs.Common.{◌∙◌, ap}
use Rattle.std.specs.FinMap.{insert}
use Rattle.std.proofs.lemmas.Result.{on_err_weaker, on_ok_weaker}
use Rattle.edge_defs.specs.Originated.{inclusive_key, tunnel_value}
use Rattle.edge_defs.specs.Place.{tunnel_number}
use Rattle.held_tables.specs.Starting.{home_place}
use Rattle.held_tables.proofs.HoldLemmas.{each_as, partly_as}
use Rattle.held_tables.proofs.StartLemmas.{front_one}
use Rattle.held_tables.proofs.starting.hold_inclusive.Goals as goal

pub returns-clause-set : goal.returns-clause-set
returns-clause-set c = on_ok_weaker c.set.result (λ each.
    let place = home_place c.args.home.now in
    let vrf = c.args.own.now.local.vrf in
    each_as insert (c.inclusive_key-key.ensures place c.requires)
    (c.tunnel_value-value.ensures place c.requires
    ∙ ap (tunnel_value place vrf) (c.tunnel_number.ensures ∙ (λ i. tunnel_number (c.vrf.ensures.vrf i) 0))) c.args.tables.now c.set.new.self each)
    c.set.ensures.set

pub returns-clause-partly : goal.returns-clause-partly
returns-clause-partly c = on_err_weaker c.set.result (λ part.
    let place = home_place c.args.home.now in
    let vrf = c.args.own.now.local.vrf in
    front_one (inclusive_key place vrf) (tunnel_value place vrf (tunnel_number vrf 0)) c.args.tables.now c.set.new.self
    (partly_as (c.inclusive_key-key.ensures place c.requires)
    (c.tunnel_value-value.ensures place c.requires
    ∙ ap (tunnel_value place vrf) (c.tunnel_number.ensures ∙ (λ i. tunnel_number (c.vrf.ensures.vrf i) 0))) c.args.tables.now c.set.new.self
    part)) c.set.ensures.partly
