use Rattle.std.proofs.Common.{◌∙◌, sym, ap}
use Rattle.std.specs.FinMap.{insert}
use Rattle.std.proofs.lemmas.Result.{on_ok_weaker}
use Rattle.mv_base.specs.declared.addr.Addr.TheVariants.{V4}
use Rattle.bgp_values.specs.declared.mvpn_nlri.route.Route.TheVariants as routes
use Rattle.bgp_messages.specs.declared.bgp_attributes.key.Key.{Key}
use Rattle.bgp_messages.specs.declared.bgp_attributes.key.Key.TheVariants.{Mcast}
use Rattle.bgp_messages.specs.bgp_update.Written.{afi_of}
use Rattle.edge_defs.specs.Edge.{VrfFlow}
use Rattle.edge_defs.specs.Keys.{Table}
use Rattle.edge_routes.specs.Local.{as_import}
use Rattle.held_tables.specs.Joins.{value_towards}
use Rattle.held_tables.proofs.HoldLemmas.{at_as}
use Rattle.held_tables.proofs.JoinLemmas.{apart_set, here_set, one_less, value_is}
use Rattle.held_tables.proofs.joins.hold_join.Goals as goal

pub returns-clause-set : goal.returns-clause-set
returns-clause-set c = on_ok_weaker c.set_for.result (λ at place own.
    let up = c.args.upstream.now in
    let flow : VrfFlow = record { vrf = record { 0 = 0 }; source = c.args.source; group = c.args.group } in
    at_as insert c.join_key-key.ensures
    (value_is place c.args.peer flow up.rd (as_import up.import) up.source_as _
    (c.join_route-value.ensures place (record { 0 = 0 }) c.args.peer (own.addr ∙ ap V4 (sym c.addr.ensures))))
    c.args.peer c.args.tables.now c.set_for.new.self at) c.set_for.ensures.set

pub returns-clause-held : goal.returns-clause-held
returns-clause-held c = on_ok_weaker c.set_for.result (λ at place control but own is hold.
    let up = c.args.upstream.now in
    let flow : VrfFlow = record { vrf = record { 0 = 0 }; source = c.args.source; group = c.args.group } in
    let key : Key = Mcast (afi_of c.args.source) (routes.SourceJoin up.rd up.source_as c.args.source c.args.group) in
    let value = value_towards place (as_import up.import) in
    one_less place control but c.args.peer key (λ (t : Table). insert t key value) c.args.tables.now c.set_for.new.self
    (at_as insert c.join_key-key.ensures
    (value_is place c.args.peer flow up.rd (as_import up.import) up.source_as _
    (c.join_route-value.ensures place (record { 0 = 0 }) c.args.peer (own.addr ∙ ap V4 (sym c.addr.ensures))))
    c.args.peer c.args.tables.now c.set_for.new.self at)
    (λ before. here_set key value before ∙ sym is) (λ before other ne. apart_set key value before other ne) hold) c.set_for.ensures.set
