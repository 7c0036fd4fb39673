use Rattle.std.proofs.Common.{◌≡◌, fold, take}
use Rattle.pim_defs.specs.declared.expiry.Expiry.TheVariants.{Never}
use Rattle.pim_state.specs.Ends.{sooner}
use Rattle.pim_state.proofs.ends.soonest.Given as goal

abbrev pub invariant-loop-expiry : goal.invariant-loop-expiry
invariant-loop-expiry l = l.first ≡ fold sooner Never (take l.expiry-index l.expiries)
