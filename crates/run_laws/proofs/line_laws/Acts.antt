-- The lines of each act of the control plane name what is there; where it runs out of labels, it does so at a node of the scenario.
use Rattle.std.proofs.Common.{◌≡◌, ◌++◌, ℕ, take, List, [], ◌∷◌, Option, None, Some, sym, subst}
use Rattle.mv_base.specs.declared.ids.NodeId.{NodeId}
use Rattle.scenario_defs.specs.Text.{IsLineOf}
use Rattle.scenario_defs.specs.declared.report.ReportLine.{ReportLine}
use Rattle.scenario_defs.specs.declared.report.ReportLine.TheVariants as lines
use Rattle.scenario_defs.specs.declared.scenario.Scenario.{Scenario}
use Rattle.network_defs.specs.session_defs.Octets as octets
use Rattle.network_defs.specs.session_defs.Octets.{OctetNetwork, OctetAct, octet_run}
use Rattle.network_defs.specs.session_defs.System.{Put, Behind, octets_over}
use Rattle.network_defs.specs.declared.session_defs.direction.Direction.{Direction}
use Rattle.network_defs.specs.edge_defs.Steps as steps
use Rattle.network_defs.specs.Acts.{Act, Tick, Timers, Move, Lose, Notice, RaiseFirst, RaiseSecond, Restart, At, Enter, Land, Drop, Tell, SetCost, Reroute, put_line, put_lines, with_network, at_node, is_from_peer, is_of_session, act}
use Rattle.network_defs.specs.Counts.{direction, directions}
use Rattle.network_defs.specs.Nodes.{Nodes}
use Rattle.network_defs.specs.System.{NodeCall, Own, Follow, system}
use Rattle.network_defs.specs.World.{World, scenario_of}
use Rattle.delivery_laws.specs.network_laws.Sound.{SoundScenario}
use Rattle.delivery_laws.proofs.network_laws.Lists.{each_append, each_flat, each_weaker}
use Rattle.delivery_laws.proofs.network_laws.RunActs.{WorldStays, SoundAct, act_stays}
use Rattle.delivery_laws.proofs.network_laws.RunNodes.{IsNode}
use Rattle.run_laws.proofs.line_laws.Outcomes.{AreNamed, Says, DoesWell}
use Rattle.run_laws.proofs.line_laws.Sessions.{AreNodes, IsOver, directions_within}

-- a sound act of the control plane: octets are moved between nodes of the scenario
abbrev pub IsControl : Scenario → Act → Type 0
IsControl scenario (Move kind from to count) = AreNodes scenario from to
IsControl scenario (Enter id) = ⊥
IsControl scenario (Land from to place) = ⊥
IsControl scenario other = SoundAct scenario other

control_sound : (scenario : Scenario) (one : Act) → IsControl scenario one → SoundAct scenario one
control_sound scenario (Move kind from to count) fit = tt
control_sound scenario (Enter id) fit = absurd fit
control_sound scenario (Land from to place) fit = absurd fit
control_sound scenario other fit = fit

module _ (scenario : Scenario) (sound : SoundScenario scenario) where
  -- ---- octets that are put

  put_named : (puts : List Put) (over : Direction) → IsOver scenario over → AreNamed scenario (put_line puts over)
  put_named puts over h = by (octets_over over puts)
    where
      by : (all : List ℕ) → AreNamed scenario (elim all [ [] ↦ [] | octet ∷ more ↦ lines.Put over.kind over.from over.to (octet ∷ more) ∷ [] ])
      by [] = tt
      by (octet ∷ more) = (h, tt)

  puts_named : (puts : List Put) → AreNamed scenario (put_lines scenario puts)
  puts_named puts =
      each_flat (IsLineOf scenario) (put_line puts) (directions scenario)
      (each_weaker (IsOver scenario) (λ over. AreNamed scenario (put_line puts over)) (put_named puts) (directions scenario)
      (directions_within scenario sound))

  -- lines, and after them those of what is put
  made_named : (world : World) → scenario_of world ≡ scenario → (before : List ReportLine) → AreNamed scenario before → (puts : List Put)
      → AreNamed scenario (before ++ put_lines (scenario_of world) puts)
  made_named world same before b puts =
      each_append (IsLineOf scenario) before (put_lines (scenario_of world) puts) b
      (subst (λ (own : Scenario). AreNamed scenario (put_lines own puts)) (sym same) (puts_named puts))

  node_says : (world : World) → scenario_of world ≡ scenario → (node : NodeId) → IsNode scenario node → (before : List ReportLine)
      → AreNamed scenario before → (acts : List (OctetAct NodeCall)) → Says scenario (at_node world node before acts)
  node_says world same node n before b acts = by (octet_run system world.network acts)
    where
      by : (o : Option (Behind (OctetNetwork Nodes))) → Says scenario (with_network world before o node)
      by None = n
      by (Some new) = made_named world same before b new.puts

  -- ---- acts

  -- Time passes, sessions are lost, a node restarts and a link gets another cost without a label.
  control_says : (one : Act) → IsControl scenario one → (world : World) → scenario_of world ≡ scenario → Says scenario (act world one)
  control_says (Tick ticks) fit world same = made_named world same [] tt []
  control_says (Timers n) fit world same = node_says world same n fit [] tt (octets.Call (Own n steps.Timers) ∷ [])
  control_says (Move kind from to count) fit world same =
      node_says world same to fit.1 (lines.Take kind from to (take count (world.network.transit (direction kind from to))) ∷ []) (fit, tt)
      (octets.Move (direction kind from to) count ∷ [])
  control_says (Lose kind a b) fit world same = made_named world same [] tt []
  control_says (Notice kind a b) fit world same =
      node_says world same a fit [] tt (octets.Forget (is_from_peer kind a b) ∷ octets.Call (Own a (steps.Noticed kind b)) ∷ [])
  control_says (RaiseFirst kind a b) fit world same =
      node_says world same a fit [] tt (octets.Join (is_of_session kind a b) ∷ octets.Call (Own a (steps.Raised kind b)) ∷ [])
  control_says (RaiseSecond kind a b) fit world same = node_says world same b fit [] tt (octets.Call (Own b (steps.Raised kind a)) ∷ [])
  control_says (Restart n) fit world same = made_named world same [] tt []
  control_says (At n call) fit world same = node_says world same n fit.0 [] tt (octets.Call (Own n call) ∷ [])
  control_says (Enter id) fit world same = absurd fit
  control_says (Land from to place) fit world same = absurd fit
  control_says (Drop from to place) fit world same = tt
  control_says Tell fit world same = (tt, tt)
  control_says (SetCost a b cost) fit world same = made_named world same [] tt []
  control_says (Reroute n) fit world same = node_says world same n fit [] tt (octets.Call (Follow n) ∷ [])

  pub control_does : (one : Act) → IsControl scenario one → DoesWell scenario (WorldStays scenario) one
  control_does one fit world s = (control_says one fit world s.0.same, act_stays scenario one (control_sound scenario one fit) world s)
