-- There is a core of each topology that is connected, and there are cores of each scenario.
use Rattle.std.proofs.Common.{◌≡◌, ◌≢◌, ◌⊎◌, ◌≤◌, ◌<◌, ℕ, List, Option, Some, None, length, get_or, inl, inr, refl, ap, arith}
use Rattle.std.proofs.lemmas.Bool.{cases_eq, cases_lt}
use Rattle.mv_base.specs.declared.core_link.Link.{Link}
use Rattle.mv_base.specs.declared.ids.NodeId.{NodeId}
use Rattle.mv_base.specs.core_walks.Core.{Core, IsCoreOf}
use Rattle.mv_base.specs.core_walks.Topology.{IsTopology, IsConnected}
use Rattle.mv_base.specs.core_walks.Walks.{IsLeast, IsToward}
use Rattle.core_paths.proofs.TableLemmas.{all_near}
use Rattle.scenario_defs.specs.declared.scenario.Scenario.{Scenario}
use Rattle.scenario_defs.specs.Rules.{Rules}
use Rattle.network_defs.specs.Costs.{AreRepriced, Cores, no_core, AreCoresOf}
use Rattle.network_laws.proofs.core_laws.Repriced.{repriced_or_not, repriced_topology, repriced_connected}
use Rattle.network_laws.proofs.core_laws.RowsFound.{some_costs, some_steps}

-- what a core tells of two numbers, whether they are nodes or not
record Told (nodes : ℕ) (links : List Link) (from to : NodeId) : Type 0 where
  cost : ℕ
  next : Option NodeId
  least : from.0 < nodes → to.0 < nodes → IsLeast links from.0 to.0 cost
  itself : from ≡ to → next ≡ None
  first : from.0 < nodes → to.0 < nodes → from ≢ to → (hop : NodeId) × (next ≡ Some hop) × IsToward links from.0 to.0 hop.0
  outside : (nodes ≤ from.0) ⊎ (nodes ≤ to.0) → (cost ≡ 0) × (next ≡ None)

module _ (nodes : ℕ) (links : List Link) (topology : IsTopology nodes links) (connected : IsConnected nodes links) where
  -- one of the numbers is no node
  told_outside : (from to : NodeId) → (from.0 < nodes → to.0 < nodes → ⊥) → Told nodes links from to
  told_outside from to out = record {
    cost = 0;
    next = None;
    least = λ l m. absurd (out l m);
    itself = λ e. refl;
    first = λ l m ne. absurd (out l m);
    outside = λ far. (refl, refl);
  }

  told_within : (from to : NodeId) → from.0 < nodes → to.0 < nodes → Told nodes links from to
  told_within from to from_within to_within =
      let row = some_costs nodes links topology to.0 to_within in
      let near = all_near links nodes to.0 row.0 connected to_within row.1 in
      let steps = some_steps nodes links topology to.0 row.0 row.1 near in
      let least = row.1.least from.0 from_within (near from.0 from_within) in
      elim (cases_eq from.0 to.0) [
        | inl e ↦ record {
          cost = get_or row.0 from.0 0;
          next = None;
          least = λ l m. least;
          itself = λ same. refl;
          first = λ l m ne. absurd (ne (λ i. record { 0 = e i }));
          outside = λ far. absurd (inside far);
        }
        | inr apart ↦ record {
          cost = get_or row.0 from.0 0;
          next = Some (record { 0 = get_or steps.0 from.0 0 });
          least = λ l m. least;
          itself = λ same. absurd (apart (ap (λ (n : NodeId). n.0) same));
          first = λ l m ne. (record { 0 = get_or steps.0 from.0 0 }, refl, steps.1.toward from.0 from_within apart);
          outside = λ far. absurd (inside far);
        }
      ]
    where
      inside : (nodes ≤ from.0) ⊎ (nodes ≤ to.0) → ⊥
      inside (inl far) = omega (arith, far, from_within)
      inside (inr far) = omega (arith, far, to_within)

  told : (from to : NodeId) → Told nodes links from to
  told from to = elim (cases_lt from.0 nodes) [
    | inr far ↦ told_outside from to (λ l m. omega (arith, far, l))
    | inl l ↦ elim (cases_lt to.0 nodes) [ inr far ↦ told_outside from to (λ k m. omega (arith, far, m)) | inl m ↦ told_within from to l m ]
  ]

  -- The core by the rows toward each node.
  some_core : (core : Core) × IsCoreOf nodes links core
  some_core = (
    record { cost = λ from to. (told from to).cost; toward = λ from to. (told from to).next },
    record {
      least = λ from to. (told from to).least;
      itself = λ node. (told node node).itself refl;
      first = λ from to. (told from to).first;
      outside = λ from to. (told from to).outside;
    },
  )

-- ---- the cores of a scenario

-- the core by any links, and none where they are not those of the scenario
record Found (scenario : Scenario) (links : List Link) : Type 0 where
  core : Core
  is : AreRepriced scenario.links links → IsCoreOf (length scenario.nodes) links core
  other : ¬ (AreRepriced scenario.links links) → core ≡ no_core

found : (scenario : Scenario) → Rules scenario → (links : List Link) → Found scenario links
found scenario rules links = elim (repriced_or_not scenario.links links) [
  | inl same ↦
      let some =
      some_core (length scenario.nodes) links (repriced_topology scenario.links links same (length scenario.nodes) rules.core.topology)
      (repriced_connected scenario.links links same (length scenario.nodes) rules.connected) in
      record { core = some.0; is = λ h. some.1; other = λ none. absurd (none same) }
  | inr none ↦ record { core = no_core; is = λ h. absurd (none h); other = λ h. refl }
]

pub some_cores : (scenario : Scenario) → Rules scenario → (cores : Cores) × AreCoresOf scenario cores
some_cores scenario rules = (
  λ links. (found scenario rules links).core,
  record { core = λ links. (found scenario rules links).is; other = λ links. (found scenario rules links).other },
)
