-- What each act of a row keeps is kept by the row, and what turns and rounds keep by all of them. Acts on copies change no session and no
-- node.
use Rattle.std.specs.Prelude.{⊤}
use Rattle.std.proofs.Common.{◌≡◌, ℕ, zero, suc, ◌-◌, ◌++◌, length, slice_get, List, [], ◌∷◌, Option, Some, None, refl, sym, subst}
use Rattle.std.specs.Prelude.{Result, Ok, Err}
use Rattle.std.specs.List.{AllByRecursion}
use Rattle.mv_base.specs.declared.ids.NodeId.{NodeId}
use Rattle.mv_base.specs.declared.ids.VrfId.{VrfId}
use Rattle.scenario_defs.specs.declared.report.ReportLine.{ReportLine}
use Rattle.scenario_defs.specs.declared.report.ReportLine.TheVariants as lines
use Rattle.scenario_defs.specs.declared.scenario.Vrf.{Vrf}
use Rattle.label_defs.specs.declared.branch.Branch.{Branch}
use Rattle.network_defs.specs.session_defs.Octets.{OctetNetwork}
use Rattle.edge_defs.specs.Datagrams.{Fate, entering_fate}
use Rattle.edge_defs.specs.Place.{OwnVrf}
use Rattle.network_defs.specs.Acts.{Act, Enter, Land, Acted, with_branches, copy_on, fated, datagram_at, enters_at, entering, fate_at, with_ttl, landed, without_copy, landing, act}
use Rattle.network_defs.specs.Events.{Outcome, Done, Halted, and_then, one_act, row, each, times}
use Rattle.network_defs.specs.Nodes.{NodeState, Edge, CoreNode, Nodes, place_of}
use Rattle.network_defs.specs.World.{World, Datagram, LinkCopy, scenario_of, clock_of, with_copies}

-- The world after an act, and after a row of acts, if none lacks a label, has the property.
abbrev pub Gives : (World → Type 0) → Result Acted NodeId → Type 0
Gives P (Err node) = ⊤
Gives P (Ok new) = P new.world

abbrev pub Comes : (World → Type 0) → Outcome → Type 0
Comes P (Halted acts node) = ⊤
Comes P (Done acts new) = P new

pub comes_as : (P Q : World → Type 0) (o : Outcome) → ((world : World) → P world → Q world) → Comes P o → Comes Q o
comes_as P Q (Halted acts node) h p = tt
comes_as P Q (Done acts world) h p = h world p

pub both_give : (P Q : World → Type 0) (o : Result Acted NodeId) → Gives P o → Gives Q o → Gives (λ world. P world × Q world) o
both_give P Q (Err node) p q = tt
both_give P Q (Ok new) p q = (p, q)

pub then_comes : (P Q : World → Type 0) (first : Outcome) (next : World → Outcome) → Comes P first
    → ((world : World) → P world → Comes Q (next world)) → Comes Q (and_then first next)
then_comes P Q (Halted acts node) next p h = tt
then_comes P Q (Done acts world) next p h = by (next world) (h world p)
  where
    by : (o : Outcome) → Comes Q o → Comes Q (elim o
        [ Done thereafter new ↦ Done (acts ++ thereafter) new | Halted thereafter node ↦ Halted (acts ++ thereafter) node ])
    by (Halted thereafter node) q = tt
    by (Done thereafter new) q = q

-- ---- rows, turns and rounds

module _ (P : World → Type 0) where
  pub one_comes : (world : World) (first : Act) → Gives P (act world first) → Comes P (one_act world first)
  one_comes world first g = by (act world first) g
    where
      by : (o : Result Acted NodeId) → Gives P o → Comes P
          (elim o [ Ok new ↦ Done (record { act = Some first; lines = new.lines } ∷ []) new.world | Err node ↦ Halted [] node ])
      by (Err node) h = tt
      by (Ok new) h = h

  pub row_keeps : (acts : List Act) → AllByRecursion (λ one. (world : World) → P world → Gives P (act world one)) acts → (world : World) → P world
      → Comes P (row acts world)
  row_keeps [] keeps world p = p
  row_keeps (first ∷ more) keeps world p =
      then_comes P P (one_act world first) (row more) (one_comes world first (keeps.0 world p)) (λ next q. row_keeps more keeps.1 next q)

  pub each_keeps : {A : Type 0} (turn : A → World → Outcome) (all : List A)
      → AllByRecursion (λ x. (world : World) → P world → Comes P (turn x world)) all → (world : World) → P world → Comes P (each turn all world)
  each_keeps turn [] keeps world p = p
  each_keeps turn (x ∷ more) keeps world p =
      then_comes P P (turn x world) (each turn more) (keeps.0 world p) (λ next q. each_keeps turn more keeps.1 next q)

  pub times_keeps : (round : World → Outcome) → ((world : World) → P world → Comes P (round world)) → (count : ℕ) (world : World) → P world
      → Comes P (times round count world)
  times_keeps round keeps zero world p = p
  times_keeps round keeps (suc count) world p =
      then_comes P P (round world) (times round count) (keeps world p) (λ next q. times_keeps round keeps count next q)

-- ---- acts on copies

-- copies that are put on branches
pub branches_datagrams : (node : NodeId) (ttl number : ℕ) (branches : List Branch) (world : World)
    → (with_branches node ttl number branches world).datagrams ≡ world.datagrams
branches_datagrams node ttl number [] world = refl
branches_datagrams node ttl number (branch ∷ more) world =
    branches_datagrams node ttl number more (with_copies node branch.node (world.copies node branch.node ++ copy_on world ttl number branch ∷ [])
    world)

pub branches_keep : (node : NodeId) (ttl number : ℕ) (branches : List Branch) (world : World)
    → (with_branches node ttl number branches world).network ≡ world.network
branches_keep node ttl number [] world = refl
branches_keep node ttl number (branch ∷ more) world =
    branches_keep node ttl number more (with_copies node branch.node (world.copies node branch.node ++ copy_on world ttl number branch ∷ []) world)

module _ (P : OctetNetwork Nodes → Type 0) where
  fated_keeps : (world : World) (node : NodeId) (ttl number : ℕ) (octets : List ℕ) (before : List ReportLine) (fate : Fate) → P world.network
      → P (fated world node ttl number octets before fate).world.network
  fated_keeps world node ttl number octets before fate p = subst P (sym (branches_keep node ttl number fate.branches world)) p

  enters_keeps : (world : World) (own : OwnVrf) (node : NodeState) (datagram : Datagram) → P world.network
      → P (enters_at world own node datagram).world.network
  enters_keeps world own (Edge edge) datagram p =
      fated_keeps world own.vrf.edge 255 (length world.datagrams) datagram.octets []
      (entering_fate (place_of world.network.state own.vrf.edge) (clock_of world) edge own datagram.site datagram.source datagram.group) p
  enters_keeps world own (CoreNode part) datagram p = p

  entering_keeps : (world : World) (id : VrfId) (vrf : Option Vrf) (datagram : Option Datagram) → P world.network
      → P (entering world id vrf datagram).world.network
  entering_keeps world id (Some vrf) (Some datagram) p =
      enters_keeps world (record { id = id; vrf = vrf }) (world.network.state.node vrf.edge) datagram p
  entering_keeps world id (Some vrf) None p = p
  entering_keeps world id None datagram p = p

  landed_keeps : (world : World) (from to : NodeId) (copy : LinkCopy) (datagram : Option Datagram) → P world.network
      → P (landed world from to copy datagram).world.network
  landed_keeps world from to copy None p = p
  landed_keeps world from to copy (Some datagram) p =
      fated_keeps world to (copy.ttl - 1) copy.number datagram.octets (lines.Land from to copy.label copy.number ∷ [])
      (with_ttl copy.ttl (fate_at world to (world.network.state.node to) from copy.label datagram)) p

  landing_keeps : (world : World) (from to : NodeId) (place : ℕ) (copy : Option LinkCopy) → P world.network
      → P (landing world from to place copy).world.network
  landing_keeps world from to place None p = p
  landing_keeps world from to place (Some copy) p = landed_keeps (without_copy world from to place) from to copy (datagram_at world copy.number) p

  pub enter_keeps : (world : World) (vrf : VrfId) → P world.network → Gives (λ new. P new.network) (act world (Enter vrf))
  enter_keeps world vrf p = entering_keeps world vrf (slice_get (scenario_of world).vrfs vrf.0) (datagram_at world (length world.datagrams)) p

  pub land_keeps : (world : World) (from to : NodeId) (place : ℕ) → P world.network → Gives (λ new. P new.network) (act world (Land from to place))
  land_keeps world from to place p = landing_keeps world from to place (slice_get (world.copies from to) (place - 1)) p
