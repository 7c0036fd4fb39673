use Rattle.std.proofs.Common.{◌∙◌, ap}
use Rattle.network_events.specs.WorldView.{WorldView}
use Rattle.network_events.specs.declared.world.World.TheInside.{Inside}
use Rattle.network_events.proofs.LendingLemmas.{pool_lent}
use Rattle.network_events.proofs.world.World.pool.Goals as goal

pub returns-clause-is : goal.returns-clause-is
returns-clause-is c =
    let view : Inside → WorldView = λ w. record { network = w.network; halt = w.halt } in
    pool_lent _ c.args.self.now (ap view c.self-inside.view_is ∙ c.self.view_is) c.pool.ensures.shared
