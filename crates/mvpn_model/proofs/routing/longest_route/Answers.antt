use Rattle.std.proofs.Common.{[], sym, refl}
use Rattle.scenario_defs.specs.Vpn.{is_attached}
use Rattle.scenario_defs.specs.Home.{routes_of_site}
use Rattle.mvpn_model.proofs.HomeLemmas.{longest_step}
use Rattle.mvpn_model.proofs.routing.longest_route.Goals.{then-is_attached, else-is_attached}
use Rattle.mvpn_model.proofs.routing.longest_route.Goals as goal

pub loop-number-preserved : goal.loop-number-preserved
loop-number-preserved c = elim c.if-is_attached.branch [
  | then-is_attached w ↦
      rw (w.longest-is, w.longest_of_site-longest.ensures, w.as_slice.ensures)
      (longest_step _ (is_attached c.args.scenario.now c.args.vrf) c.as_slice-sites.result.now c.loop-number.number c.index-sites-number.result
      (routes_of_site (record { 0 = c.loop-number.number }) c.index-sites-number.result.prefixes) _ _ c.loop-number-test.true
      (rw (← c.index-sites-number.is, sym c.is_attached.ensures, w.if-is_attached.true) refl) c.loop-number.invariant)
  | else-is_attached w ↦
      rw w.longest-is (longest_step _ (is_attached c.args.scenario.now c.args.vrf) c.as_slice-sites.result.now c.loop-number.number
      c.index-sites-number.result [] _ _ c.loop-number-test.true (rw (sym c.is_attached.ensures, w.if-is_attached.false) refl)
      c.loop-number.invariant)
]
