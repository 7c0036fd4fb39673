use Rattle.std.proofs.Common.{◌≡◌, ◌++◌, take}
use Rattle.std.specs.List.{flat_map}
use Rattle.value_text.specs.MessageText.{reach_line}
use Rattle.value_text.proofs.bgp_lines.put_all_reached.Given as goal

abbrev pub invariant-loop-advert : goal.invariant-loop-advert
invariant-loop-advert l = l.out ≡ l.initial.out ++ flat_map reach_line (take l.advert-index l.adverts)
