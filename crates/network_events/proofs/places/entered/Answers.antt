use Rattle.std.proofs.Common.{◌≡◌, ap, ◌∙◌}
use Rattle.std.proofs.lemmas.Result.{IfOk-weaker}
use Rattle.network_events.specs.Places.{among_from, vrfs_of}
use Rattle.network_events.proofs.PlaceLemmas.{among_from-entered}
use Rattle.network_events.proofs.places.entered.Goals as goal

pub returns : goal.returns
returns c =
    let scenario = c.args.scenario.now in
    let own : c.as_slice-2.result.now ≡ vrfs_of c.args.site scenario.ifaces =
    c.as_slice-2.ensures ∙ (c.in_ok-own.ensures ∙ ap (vrfs_of c.args.site) c.as_slice.ensures) in
    let told : among_from c.as_slice-2.result.now 0 c.as_slice-3.result.now ≡ among_from (vrfs_of c.args.site scenario.ifaces) 0 scenario.vrfs =
    λ i. among_from (own i) 0 (c.as_slice-3.ensures i) in
    IfOk-weaker c.among.result _ _ (λ found h. h ∙ (told ∙ among_from-entered scenario c.args.site 0 scenario.vrfs)) c.among.ensures
