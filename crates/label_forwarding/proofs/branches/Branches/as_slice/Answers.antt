use Rattle.std.proofs.Common.{◌∙◌, ap, sym}
use Rattle.std.specs.FinMap as maps
use Rattle.label_forwarding.specs.Hops.{Hops}
use Rattle.label_forwarding.proofs.HopLemmas.{keys-set}
use Rattle.label_forwarding.proofs.branches.Branches.as_slice.Goals as goal

pub returns : goal.returns
returns c = c.deref.ensures.value ∙ (sym (keys-set c.self.inside.items.items c.self.invariant) ∙ ap (λ (m : Hops). maps.keys m) c.self.view_is)
