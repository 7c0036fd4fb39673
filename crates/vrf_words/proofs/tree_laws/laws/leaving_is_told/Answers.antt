use Rattle.vrf_words.proofs.tree_laws.Leaving.{no_outs, outs_are}
use Rattle.vrf_words.proofs.tree_laws.laws.leaving_is_told.Goals as goal

pub returns-clause-root : goal.returns-clause-root
returns-clause-root c place now control own tree fec root flow is rules nodes whole within rooted =
    outs_are place now control own fec flow tree is root rules nodes within rooted whole

pub returns-clause-none : goal.returns-clause-none
returns-clause-none c place now control own fec flow apart = no_outs place now control own fec flow apart
