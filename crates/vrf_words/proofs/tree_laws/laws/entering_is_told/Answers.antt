use Rattle.std.proofs.Common.{refl}
use Rattle.vrf_words.proofs.tree_laws.Entering.{entering_branches, entering_outs}
use Rattle.vrf_words.proofs.tree_laws.laws.entering_is_told.Goals as goal

pub returns-clause-outs : goal.returns-clause-outs
returns-clause-outs c place now edge own tree site flow is rules nodes whole =
    entering_outs place edge.control own tree is flow now site rules nodes whole edge refl

pub returns-clause-branches : goal.returns-clause-branches
returns-clause-branches c place now edge own tree site flow is rules nodes whole =
    entering_branches place edge.control own tree is flow now site rules nodes whole edge refl
