use Rattle.std.proofs.Common.{◌≡◌, ◌∙◌, ap, sym, subst, List, All}
use Rattle.std.proofs.lemmas.Result.{on_err_weaker, on_ok_weaker}
use Rattle.scenario_defs.specs.Home.{local_routes}
use Rattle.scenario_defs.specs.Rules.{IsSitePrefix}
use Rattle.scenario_defs.specs.declared.scenario.Route.{Route}
use Rattle.scenario_defs.specs.declared.scenario.Scenario.{Scenario}
use Rattle.edge_defs.specs.Originated.{unicast_routes}
use Rattle.edge_routes.specs.edge_home.Home.{as_own}
use Rattle.edge_tables.specs.Tables.{EachPeer}
use Rattle.edge_tables.proofs.WayLemmas.{on_err}
use Rattle.vrf_words.proofs.edge_words.calm_laws.Entries.{Entry}
use Rattle.held_tables.specs.Starting.{HasFront, home_place, inclusive_routes, prefix_routes}
use Rattle.held_tables.proofs.PrefixLemmas.{local_prefixes}
use Rattle.held_tables.proofs.StartLemmas.{Given, front_given, front_more, front_then, given_then}
use Rattle.held_tables.proofs.starting.hold_vrf.Goals as goal

pub returns-in_err-hold_inclusive-clause-partly : goal.returns-in_err-hold_inclusive-clause-partly
returns-in_err-hold_inclusive-clause-partly c =
    on_err c.from_residual.result _
    (front_more (inclusive_routes (home_place c.args.home.now) (as_own c.args.own.now))
    (unicast_routes (home_place c.args.home.now) (as_own c.args.own.now)) c.args.tables.now c.hold_inclusive.new.tables
    c.in_err-hold_inclusive.ensures.partly)

pub returns-in_err-routes-clause-partly : goal.returns-in_err-routes-clause-partly
returns-in_err-routes-clause-partly c =
    on_err c.from_residual-in_err-routes.result _
    (front_given (inclusive_routes (home_place c.args.home.now) (as_own c.args.own.now))
    (unicast_routes (home_place c.args.home.now) (as_own c.args.own.now)) c.args.tables.now c.hold_inclusive.new.tables
    c.in_ok-hold_inclusive.ensures.set)

pub hold_prefixes-requires : goal.hold_prefixes-requires
hold_prefixes-requires c =
    let own = c.args.own.now in
    let here : c.as_slice.result.now ≡ local_routes c.args.home.now.scenario own.id =
    c.as_slice.ensures ∙ c.in_ok-routes.ensures ∙ ap (λ (s : Scenario). local_routes s own.id) c.scenario.ensures.scenario in
    subst (λ (routes : List Route). All (λ (route : Route). IsSitePrefix route.prefix) routes) (sym here)
    (local_prefixes c.args.home.now.scenario c.scenario.ensures.is.rules own.id)

pub returns-clause-set : goal.returns-clause-set
returns-clause-set c = on_ok_weaker c.hold_prefixes.result (λ each.
    let own = c.args.own.now in
    let here : c.as_slice.result.now ≡ local_routes c.args.home.now.scenario own.id =
    c.as_slice.ensures ∙ c.in_ok-routes.ensures ∙ ap (λ (s : Scenario). local_routes s own.id) c.scenario.ensures.scenario in
    given_then (inclusive_routes (home_place c.args.home.now) (as_own c.args.own.now))
    (unicast_routes (home_place c.args.home.now) (as_own c.args.own.now)) c.args.tables.now c.hold_inclusive.new.tables c.hold_prefixes.new.tables
    c.in_ok-hold_inclusive.ensures.set
    (subst (λ (l : List Entry). EachPeer (Given l) c.hold_inclusive.new.tables c.hold_prefixes.new.tables)
    (λ i. prefix_routes own.local.vrf.rd (c.unicast_value-value.ensures (home_place c.args.home.now) c.requires i) (here i)) each))
    c.hold_prefixes.ensures.set

pub returns-clause-partly : goal.returns-clause-partly
returns-clause-partly c = on_err_weaker c.hold_prefixes.result (λ part.
    let own = c.args.own.now in
    let here : c.as_slice.result.now ≡ local_routes c.args.home.now.scenario own.id =
    c.as_slice.ensures ∙ c.in_ok-routes.ensures ∙ ap (λ (s : Scenario). local_routes s own.id) c.scenario.ensures.scenario in
    front_then (inclusive_routes (home_place c.args.home.now) (as_own c.args.own.now))
    (unicast_routes (home_place c.args.home.now) (as_own c.args.own.now)) c.args.tables.now c.hold_inclusive.new.tables c.hold_prefixes.new.tables
    c.in_ok-hold_inclusive.ensures.set
    (subst (λ (l : List Entry). EachPeer (HasFront l) c.hold_inclusive.new.tables c.hold_prefixes.new.tables)
    (λ i. prefix_routes own.local.vrf.rd (c.unicast_value-value.ensures (home_place c.args.home.now) c.requires i) (here i)) part))
    c.hold_prefixes.ensures.partly
