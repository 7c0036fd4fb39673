use Rattle.std.proofs.Common.{◌+◌, List, map, ap, ◌∙◌}
use Rattle.mv_base.specs.declared.core_link.Link.{Link}
use Rattle.scenario_defs.specs.declared.scenario.Node.{Node}
use Rattle.mvpn_model.specs.Past.{past_of}
use Rattle.mvpn_model.specs.Sessions.{edges_from, bgp_sessions, ldp_session}
use Rattle.mvpn_model.specs.OneSession.{unready_among}
use Rattle.mvpn_model.proofs.ReadyLemmas.{unready-told}
use Rattle.mvpn_model.proofs.readiness.unready.Goals as goal

pub returns : goal.returns
returns c =
    let past = past_of c.args.history.now in
    let over_bgp =
    c.unready_bgp-over_bgp.ensures.value ∙ ap (λ (nodes : List Node). unready_among past (bgp_sessions (edges_from 0 nodes))) c.as_slice.ensures
    in
    let over_ldp =
    c.unready_ldp-over_ldp.ensures.value ∙ ap (λ (links : List Link). unready_among past (map ldp_session links)) c.as_slice-2.ensures in
    (λ i. over_bgp i + over_ldp i) ∙ unready-told past
