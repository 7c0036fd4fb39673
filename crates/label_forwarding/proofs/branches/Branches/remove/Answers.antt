use Rattle.std.proofs.Common.{◌∙◌, ap}
use Rattle.std.specs.FinMap as maps
use Rattle.label_forwarding.specs.Hops.{Hops}
use Rattle.label_forwarding.proofs.HopLemmas.{set_of, sorted_without, set_without}
use Rattle.label_forwarding.proofs.branches.Branches.remove.Goals as goal

pub invariant_of-self : goal.invariant_of-self
invariant_of-self c = rw c.cut.ensures (sorted_without c.args.branch c.self.inside.items.items c.self.invariant)

pub returns : goal.returns
returns c =
    ap set_of c.cut.ensures ∙ (set_without c.args.branch c.self.inside.items.items c.self.invariant
    ∙ ap (λ (m : Hops). maps.remove m c.args.branch) c.self.view_is)
