use Rattle.std.proofs.Common.{◌≡◌, map, take}
use Rattle.edge_routes.specs.declared.edge_home.own_vrf.OwnVrf.{OwnVrf}
use Rattle.edge_control.proofs.clock.locals_of.Given as goal

abbrev pub invariant-loop-own : goal.invariant-loop-own
invariant-loop-own l = l.locals.items ≡ map (λ (own : OwnVrf). own.local) (take l.own-index l.vrfs)
