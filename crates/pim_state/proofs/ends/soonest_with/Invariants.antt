use Rattle.std.proofs.Common.{◌≡◌, fold, take}
use Rattle.pim_state.specs.Ends.{sooner_where}
use Rattle.pim_state.proofs.ends.soonest_with.Given as goal

abbrev pub invariant-loop-expiry : goal.invariant-loop-expiry
invariant-loop-expiry l = l.soonest ≡ fold sooner_where l.initial.soonest (take l.expiry-index l.changed)
