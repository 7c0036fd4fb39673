-- Lines of rows of acts name what is there; also where an act runs out of labels, and then its node is there.
use Rattle.std.specs.Prelude.{Result, Ok, Err}
use Rattle.std.proofs.Common.{ℕ, zero, suc, ◌++◌, List, [], ◌∷◌, Some}
use Rattle.std.specs.List.{AllByRecursion}
use Rattle.mv_base.specs.declared.ids.NodeId.{NodeId}
use Rattle.scenario_defs.specs.Text.{IsLineOf}
use Rattle.scenario_defs.specs.declared.report.ReportLine.{ReportLine}
use Rattle.scenario_defs.specs.declared.scenario.Scenario.{Scenario}
use Rattle.network_defs.specs.Acts.{Act, Acted, act}
use Rattle.network_defs.specs.Events.{Happened, Outcome, Done, Halted, and_then, one_act, row, each, times}
use Rattle.network_defs.specs.World.{World}
use Rattle.network_defs.proofs.Kept.{Gives}
use Rattle.delivery_laws.proofs.network_laws.Lists.{each_append}
use Rattle.delivery_laws.proofs.network_laws.RunNodes.{IsNode}

module _ (scenario : Scenario) where
  abbrev pub AreNamed : List ReportLine → Type 0
  AreNamed all = AllByRecursion (IsLineOf scenario) all

  abbrev HasNamed : Happened → Type 0
  HasNamed happened = AreNamed happened.lines

  -- the lines of an act, or the node that runs out of labels
  abbrev pub Says : Result Acted NodeId → Type 0
  Says (Err node) = IsNode scenario node
  Says (Ok new) = AreNamed new.lines

  -- the lines of an outcome, and the world after it, or the node that runs out of labels
  abbrev pub Tells : (World → Type 0) → Outcome → Type 0
  Tells W (Halted acts node) = AllByRecursion HasNamed acts × IsNode scenario node
  Tells W (Done acts new) = AllByRecursion HasNamed acts × W new

  pub tells_as : (P Q : World → Type 0) → ((world : World) → P world → Q world) → (o : Outcome) → Tells P o → Tells Q o
  tells_as P Q h (Halted acts node) t = t
  tells_as P Q h (Done acts new) t = (t.0, h new t.1)

  pub then_tells : (P Q : World → Type 0) (first : Outcome) (next : World → Outcome) → Tells P first
      → ((world : World) → P world → Tells Q (next world)) → Tells Q (and_then first next)
  then_tells P Q (Halted acts node) next t h = t
  then_tells P Q (Done acts world) next t h = by (next world) (h world t.1)
    where
      by : (o : Outcome) → Tells Q o → Tells Q (elim o
          [ Done thereafter new ↦ Done (acts ++ thereafter) new | Halted thereafter node ↦ Halted (acts ++ thereafter) node ])
      by (Halted thereafter node) u = (each_append HasNamed acts thereafter t.0 u.0, u.1)
      by (Done thereafter new) u = (each_append HasNamed acts thereafter t.0 u.0, u.1)

  module _ (W : World → Type 0) where
    one_tells : (world : World) (one : Act) → Says (act world one) → Gives W (act world one) → Tells W (one_act world one)
    one_tells world one s g = by (act world one) s g
      where
        by : (o : Result Acted NodeId) → Says o → Gives W o
            → Tells W (elim o [ Ok new ↦ Done (record { act = Some one; lines = new.lines } ∷ []) new.world | Err node ↦ Halted [] node ])
        by (Err node) s g = (tt, s)
        by (Ok new) s g = ((s, tt), g)

    -- what the act's lines name is there, and it keeps what holds
    abbrev pub DoesWell : Act → Type 0
    DoesWell one = (world : World) → W world → Says (act world one) × Gives W (act world one)

    pub row_tells : (acts : List Act) → AllByRecursion DoesWell acts → (world : World) → W world → Tells W (row acts world)
    row_tells [] k world w = (tt, w)
    row_tells (one ∷ more) k world w =
        (let g = k.0 world w in then_tells W W (one_act world one) (row more) (one_tells world one g.0 g.1) (λ next v. row_tells more k.1 next v))

    pub each_tells : {A : Type 0} (turn : A → World → Outcome) (all : List A)
        → AllByRecursion (λ x. (world : World) → W world → Tells W (turn x world)) all → (world : World) → W world → Tells W (each turn all world)
    each_tells turn [] k world w = (tt, w)
    each_tells turn (x ∷ more) k world w = then_tells W W (turn x world) (each turn more) (k.0 world w) (λ next v. each_tells turn more k.1 next v)

    pub times_tells : (round : World → Outcome) → ((world : World) → W world → Tells W (round world)) → (count : ℕ) (world : World) → W world
        → Tells W (times round count world)
    times_tells round k zero world w = (tt, w)
    times_tells round k (suc count) world w =
        then_tells W W (round world) (times round count) (k world w) (λ next v. times_tells round k count next v)
