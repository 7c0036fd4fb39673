use Rattle.vrf_words.proofs.tree_laws.Entering.{one_join, one_tunnel}
use Rattle.vrf_words.proofs.tree_laws.laws.transmitted_is_told.Goals as goal

pub returns-clause-joined : goal.returns-clause-joined
returns-clause-joined c place control own tree flow is = one_join place control own tree is flow

pub returns-clause-tunnel : goal.returns-clause-tunnel
returns-clause-tunnel c place control own tree flow is = one_tunnel place control own tree is flow
