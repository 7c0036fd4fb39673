-- The costs of links, which events change, and the core that a node knows by the costs that it has acted on.
use Rattle.std.specs.Prelude.{◌≡◌, List, [], ◌∷◌, length, None}
use Rattle.mv_base.specs.declared.core_link.Link.{Link}
use Rattle.mv_base.specs.core_walks.Topology.{HasCost}
use Rattle.scenario_defs.specs.declared.scenario.Scenario.{Scenario}
use Rattle.mv_base.specs.core_walks.Core.{Core, IsCoreOf}

-- The same links, in the same order, each at some cost of 1 to 65535.
abbrev pub AreRepriced : List Link → List Link → Type 0
AreRepriced [] [] = Unit {0}
AreRepriced (link ∷ more) (other ∷ others) = (other.a ≡ link.a) × (other.b ≡ link.b) × HasCost other × AreRepriced more others
AreRepriced links others = ⊥

-- The core by the links, whatever their costs are.
abbrev pub Cores : Type 0
Cores = List Link → Core

-- no node is reached from another
abbrev pub no_core : Core
no_core = record { cost = λ from to. 0; toward = λ from to. None }

-- Whatever the costs of the scenario's links become, least costs and next hops are by them. Of other links nothing is known.
pub record AreCoresOf (scenario : Scenario) (cores : Cores) : Type 0 where
  pub core : (links : List Link) → AreRepriced scenario.links links → IsCoreOf (length scenario.nodes) links (cores links)
  pub other : (links : List Link) → ¬ (AreRepriced scenario.links links) → cores links ≡ no_core
