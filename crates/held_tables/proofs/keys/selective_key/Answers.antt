use Rattle.std.proofs.Common.{◌∙◌, sym}
use Rattle.mv_base.specs.declared.addr.Addr.TheVariants.{V4}
use Rattle.bgp_values.specs.declared.mvpn_nlri.route.Route.TheVariants as routes
use Rattle.bgp_messages.specs.declared.bgp_attributes.key.Key.TheVariants.{Mcast}
use Rattle.edge_defs.specs.Originated.{afi_by}
use Rattle.held_tables.proofs.Witness.{is_at, place_for}
use Rattle.held_tables.proofs.keys.selective_key.Goals as goal

pub spelled-requires-clause-parts : goal.spelled-requires-clause-parts
spelled-requires-clause-parts c =
    let pattern = c.args.pattern.now in
    c.selective_key-key.ensures (place_for c.args.own.now) (is_at c.args.own.now)
    ∙ (λ i. Mcast (afi_by pattern.source pattern.group)
    (routes.Selective (sym c.vrf.ensures.vrf i).rd pattern.source pattern.group (V4 (sym c.addr.ensures i))))
