use Rattle.std.proofs.Common.{◌∙◌, sym}
use Rattle.mv_base.specs.declared.addr.Addr.TheVariants.{V4}
use Rattle.bgp_values.specs.declared.mvpn_nlri.route.Afi.TheVariants.{Ipv4}
use Rattle.bgp_values.specs.declared.mvpn_nlri.route.Route.TheVariants as routes
use Rattle.bgp_messages.specs.declared.bgp_attributes.key.Key.TheVariants.{Mcast}
use Rattle.held_tables.proofs.Witness.{is_at, place_for}
use Rattle.held_tables.proofs.keys.inclusive_key.Goals as goal

pub spelled_inclusive-requires : goal.spelled_inclusive-requires
spelled_inclusive-requires c =
    c.inclusive_key-key.ensures (place_for c.args.own.now) (is_at c.args.own.now)
    ∙ (λ i. Mcast Ipv4 (routes.Intra (sym c.vrf.ensures.vrf i).rd (V4 (sym c.addr.ensures i))))
