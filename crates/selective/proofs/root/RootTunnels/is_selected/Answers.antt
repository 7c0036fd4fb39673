use Rattle.std.proofs.Common.{◌≡◌, ◌↔◌, Bool, true, is_some, sym, ap, subst, ◌∙◌}
use Rattle.selective.specs.Roots.{Root, IsSelected, number_at}
use Rattle.selective.proofs.RootLemmas.{is_selected}
use Rattle.selective.proofs.root.RootTunnels.is_selected.Goals as goal

pub returns : goal.returns
returns c =
    let told : c.is_some.result ≡ is_some (number_at c.args.pattern c.args.self.now.selections) =
    c.is_some.ensures ∙ ap is_some (c.number_of.ensures
    ∙ ap (number_at c.args.pattern) (c.deref.ensures.value ∙ ap (λ (r : Root). r.selections) c.self.view_is)) in
    subst (λ (b : Bool). (b ≡ true) ↔ IsSelected c.args.pattern c.args.self.now.selections) (sym told)
    (is_selected c.args.pattern c.args.self.now.selections)
