use Rattle.std.proofs.Common.{take}
use Rattle.hop_laws.proofs.Runs.{all_spelled}
use Rattle.hop_laws.proofs.laws.hops_have_spellings.Goals as goal

pub returns : goal.returns
returns c cores script count trace new rules run =
    all_spelled cores script count trace new rules run (c.hops_are_mapped.ensures cores script (take count script.events) trace new run)
