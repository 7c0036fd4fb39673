use Rattle.std.proofs.Common.{List, ℕ, subst, sym}
use Rattle.mvpn_tool.specs.HopLines.{HasFault}
use Rattle.mvpn_tool.proofs.HopsLemmas.{within_is}
use Rattle.mvpn_tool.proofs.hops.HopsShows.show.Goals as goal

pub returns-clause-faulty : goal.returns-clause-faulty
returns-clause-faulty c what said has =
    c.in_ok-shown.ensures.fault (subst (λ (xs : List ℕ). HasFault xs) (sym (within_is _ what said)) has)
