-- Which flows of a table are listed as stale.
use Rattle.std.specs.Prelude.{◌≡◌, ◌||◌, Bool, true, false, List, Option, None, Some}
use Rattle.std.specs.List.{list_any}
use Rattle.vrf_words.specs.declared.tree_defs.flow.Flow.{Flow}
use Rattle.vrf_words.specs.tree_defs.Keys.{same_flow}
use Rattle.vrf_flows.specs.declared.stale.StaleFlows.{StaleFlows}

-- whether the flow may be stale by the list
abbrev pub is_listed : StaleFlows → Flow → Bool
is_listed stale flow = stale.all || list_any (same_flow flow) stale.flows

-- Each flow that is marked is listed.
pub record AreListed (marks : Flow → Bool) (stale : StaleFlows) : Type 0 where
  pub listed : (q : Flow) → marks q ≡ true → is_listed stale q ≡ true

-- Each flow that is marked is one of these.
pub record AreAmong (marks : Flow → Bool) (flows : List Flow) : Type 0 where
  pub among : (q : Flow) → marks q ≡ true → list_any (same_flow q) flows ≡ true

-- whether what is held of the flow, if anything, passes the test
abbrev pub passes : {X : Type 0} → (Flow → X → Bool) → Flow → Option X → Bool
passes test flow None = false
passes test flow (Some held) = test flow held
