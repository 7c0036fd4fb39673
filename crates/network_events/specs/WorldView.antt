-- A network that goes through a script, as its callers see it.
use Rattle.std.specs.Prelude.{refl}
use Rattle.std.specs.Coded.{Coded, code_by, coded×, coded_option}
use Rattle.std.specs.declared.option.Option.{Option}
use Rattle.network_acts.specs.NetworkView.{NetworkView, network_code}
use Rattle.network_events.specs.declared.halt.Halt.{Halt}
use Rattle.network_events.specs.contracts.halt.Halt as halts

-- The network, and why it goes no further, where it has halted.
pub record WorldView : Type 0 where
  pub network : NetworkView
  pub halt : Option Halt

abbrev pub world_code : Coded WorldView
world_code = code_by (NetworkView × Option Halt) (coded× network_code (coded_option halts.the_row.coded))
    (λ w. (w.network, w.halt)) (λ p. record { network = p.0; halt = p.1 }) (λ _. refl)
