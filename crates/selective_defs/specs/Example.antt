-- A root that has selected a flow of a source on its own, and an egress, before the delay of that selection is due.
use Rattle.std.specs.Prelude.{◌≡◌, List, [], ◌∷◌, None, Some, true, false}
use Rattle.mldp.specs.declared.mldp_fec.fec.Fec.{Fec}
use Rattle.mldp.specs.mv_base.declared.addr.Addr.{Addr}
use Rattle.mldp.specs.mv_base.declared.pattern.Pattern.{Pattern}
use Rattle.selective_defs.specs.declared.learned_route.LearnedRoute.{LearnedRoute}
use Rattle.selective_defs.specs.declared.selection.Selection.{Selection}
use Rattle.selective_defs.specs.Selective.{transmitted, wanted, AreDistinct, InStep}

-- all flows of the source, and the flow alone
abbrev pub of_source : Addr → Pattern
of_source source = record { source = Some source; group = None }

abbrev pub of_flow : Addr → Addr → Pattern
of_flow source group = record { source = Some source; group = Some group }

-- all flows of the source were selected at 0, the flow alone at 10
abbrev pub wide : Addr → Selection
wide source = record { pattern = of_source source; number = 1; since = 0; run = true }

abbrev pub narrow : Addr → Addr → Selection
narrow source group = record { pattern = of_flow source group; number = 2; since = 10; run = false }

abbrev pub selections : Addr → Addr → List Selection
selections source group = wide source ∷ narrow source group ∷ []

-- the egress learned each one tick later
abbrev pub wide_route : Addr → Fec → LearnedRoute
wide_route source fec = record { pattern = of_source source; fec = fec; since = 1; run = true }

abbrev pub narrow_route : Addr → Addr → Fec → LearnedRoute
narrow_route source group fec = record { pattern = of_flow source group; fec = fec; since = 11; run = false }

abbrev pub routes : Addr → Addr → Fec → Fec → List LearnedRoute
routes source group first second = wide_route source first ∷ narrow_route source group second ∷ []

-- With a delay of 5, at 12: both are in step, the root still transmits the flow on the tunnel of all flows of the source,
-- and the egress wants that tunnel and the new one.
pub record Overlap (source group : Addr) (first second : Fec) : Type 0 where
  pub distinct : AreDistinct (selections source group)
  pub in_step : InStep 5 12 (selections source group) (routes source group first second)
  pub transmits : transmitted (selections source group) source group ≡ Some (wide source)
  pub wants : wanted (routes source group first second) source group ≡ routes source group first second
