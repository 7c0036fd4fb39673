use Rattle.std.proofs.Common.{slice_get, ap, sym, ◌∙◌}
use Rattle.std.specs.FinMap.{entries}
use Rattle.choice_defs.specs.Choice.{hash_of}
use Rattle.umh_select.specs.Edges.{edges_in}
use Rattle.umh_select.specs.Routes.{at_length}
use Rattle.umh_select.proofs.EdgeLemmas.{named_low}
use Rattle.umh_select.proofs.umh.Umh.hashed_at.Goals as goal

pub returns-in-Ok : goal.returns-in-Ok
returns-in-Ok c =
    let edges = edges_in (at_length c.args.source c.args.bits (entries c.args.self.now.learned)) in
    named_low edges (hash_of c.args.source c.args.group) _ (ap (slice_get edges) (sym c.hash_of-hash.ensures) ∙ c.in-Ok.ensures.some)
