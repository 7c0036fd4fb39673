use Rattle.hop_laws.proofs.Runs.{names_datagrams}
use Rattle.hop_laws.proofs.laws.hop_lines_name_datagrams.Goals as goal

pub returns : goal.returns
returns c = names_datagrams
