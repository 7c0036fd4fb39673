use Rattle.std.proofs.Common.{◌≡◌, Some, false, subst, sym, ◌∙◌}
use Rattle.std.specs.FinMap.{from_sorted, get}
use Rattle.selective.specs.declared.route_key.Learned.{Learned}
use Rattle.selective.specs.declared.route_key.RouteKey.{RouteKey}
use Rattle.selective.specs.Leaves.{Leaf, is_waiting}
use Rattle.selective.proofs.WaitLemmas.{none_waits}
use Rattle.selective.proofs.leaf.LeafTunnels.is_any_due.Goals as goal

pub returns : goal.returns
returns c = λ none.
    subst (λ (l : Leaf). (key : RouteKey) (learned : Learned) → get l.routes key ≡ Some learned → is_waiting l.delay c.args.now learned ≡ false)
    c.self.view_is
    (none_waits c.self.inside.delay c.args.now c.self.inside.earliest (from_sorted c.self.inside.routes.entries) c.self.invariant.1
    (sym c.is_any_due.ensures ∙ none))
