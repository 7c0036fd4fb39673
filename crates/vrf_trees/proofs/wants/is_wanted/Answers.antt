use Rattle.std.proofs.Common.{List, ap, ◌∙◌}
use Rattle.std.specs.List.{list_any}
use Rattle.vrf_trees.specs.declared.wants.Wants.{Wants}
use Rattle.vrf_trees.specs.Wants.{WantTable, has_fec, is_in, tunnels_in}
use Rattle.vrf_trees.proofs.TableLemmas.{in-values}
use Rattle.vrf_trees.proofs.wants.is_wanted.Goals as goal

pub returns : goal.returns
returns c =
    c.is_wanted_of.ensures
    ∙ (ap (λ (l : List Wants). list_any (has_fec c.args.fec.now) l) (c.as_slice.ensures ∙ c.values.ensures.rest)
    ∙ (in-values c.args.fec.now c.held.result.now.entries ∙ ap (λ (t : WantTable). is_in c.args.fec.now (tunnels_in t.entries)) c.held.ensures))
