use Rattle.node_laws.proofs.RowLemmas.{octets_after, changes_notice_none}
use Rattle.node_laws.proofs.laws.row_octets_wait.Goals as goal

pub returns : goal.returns
returns c = record {
  labels = λ place now node own changes row waiting none e h same. octets_after place now node own changes row waiting none e h same;
  changes = changes_notice_none;
}
