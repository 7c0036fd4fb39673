use Rattle.std.proofs.Common.{◌≡◌, IfOk, List, subst, ◌∙◌}
use Rattle.vrf_words.specs.declared.tree_defs.flow.SiteIface.{SiteIface}
use Rattle.vrf_words.specs.tree_defs.Flows.{asking}
use Rattle.vrf_flows.specs.Sight.{asking_of, is_sent}
use Rattle.vrf_flows.specs.State.{vrf_of}
use Rattle.vrf_flows.proofs.StateLemmas.{asking-same}
use Rattle.vrf_flows.proofs.state.State.asking_anew.Goals as goal

pub returns : goal.returns
returns c =
    let same : asking_of c.as_slice.result.now c.args.self.now.entries (is_sent c.args.self.now.sent.keys c.args.flow) c.args.now c.args.flow
    ≡ asking (vrf_of c.args.self.now) c.args.now c.args.flow =
    (λ i. asking_of (c.as_slice.ensures i) c.args.self.now.entries (is_sent c.args.self.now.sent.keys c.args.flow) c.args.now c.args.flow)
    ∙ asking-same c.args.self.now c.args.now c.args.flow c.requires.sound.sent in
    subst (λ (list : List SiteIface). IfOk c.asking_now.result (λ found. found ≡ list)) same c.asking_now.ensures
