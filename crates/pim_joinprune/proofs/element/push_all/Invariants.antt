use Rattle.std.proofs.Common.{◌≡◌, ◌++◌, take}
use Rattle.std.specs.List.{flat_map}
use Rattle.pim_joinprune.proofs.element.push_all.Given as goal

abbrev pub invariant-elements : goal.invariant-elements
invariant-elements g l = l.out ≡ l.initial.out ++ flat_map (g.E.Element.text l.family) (take l.item-index l.items)
