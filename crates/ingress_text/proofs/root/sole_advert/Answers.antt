use Rattle.std.proofs.Common.{subst, sym, ◌∙◌}
use Rattle.edge_streams.specs.Spelled.{IsSpelled}
use Rattle.ingress_text.proofs.RootLemmas.{update_spelled}
use Rattle.ingress_text.proofs.root.sole_advert.Goals as goal

pub returns-then-is_empty-clause-spelled : goal.returns-then-is_empty-clause-spelled
returns-then-is_empty-clause-spelled c =
    update_spelled c.in-Update.update c.in_ok-advert.advert c.pop.new.self.items (subst IsSpelled c.in-Update.is c.requires)
    (sym c.into_vec-adverts.ensures ∙ c.in_ok-advert.ensures.items)
