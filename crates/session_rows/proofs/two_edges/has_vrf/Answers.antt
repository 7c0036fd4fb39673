use Rattle.std.proofs.Common.{◌==◌, ◌∙◌}
use Rattle.session_rows.proofs.RoleLemmas.{any_own}
use Rattle.session_rows.proofs.two_edges.has_vrf.Goals as goal

pub returns : goal.returns
returns c = c.is_one_of.ensures ∙ any_own c.args.home.now c.vrfs.result.now (λ own. own.id.0 == c.args.vrf.0) c.vrfs.ensures.vrfs
