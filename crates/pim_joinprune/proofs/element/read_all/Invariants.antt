use Rattle.std.proofs.Common.{◌≡◌, ◌-◌}
use Rattle.pim_joinprune.specs.Fields.{all_at}
use Rattle.pim_joinprune.proofs.Loop.{with_front}
use Rattle.pim_joinprune.proofs.element.read_all.Given as goal

abbrev pub invariant-elements : goal.invariant-elements
invariant-elements g l =
    let read = g.E.Element.read_at l.family in
    with_front l.items (all_at read (l.count - l.counter) l.rest) ≡ all_at read l.count l.octets
