use Rattle.vrf_words.proofs.tree_laws.Leaving.{imports_are}
use Rattle.vrf_words.proofs.tree_laws.laws.imports_are_told.Goals as goal

pub returns : goal.returns
returns c place control own tree edge fec is = imports_are place control own tree is edge fec
