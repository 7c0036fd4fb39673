use Rattle.std.proofs.Common.{◌≡◌, ◌++◌, take}
use Rattle.value_text.specs.MessageText.{more_text}
use Rattle.value_text.proofs.bgp_lines.put_more.Given as goal

abbrev pub invariant-loop-community : goal.invariant-loop-community
invariant-loop-community l = l.out ≡ l.initial.out ++ more_text (take l.community-index l.comms)
