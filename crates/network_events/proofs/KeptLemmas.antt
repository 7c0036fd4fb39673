-- What acts keep: the scenario, and that sessions are joined both ways or not at all.
use Rattle.std.proofs.Common.{◌≡◌, ◌∙◌, refl, sym, ap, subst, ℕ, ◌==◌, ◌&&◌, ◌||◌, not, Bool, true, false, cond, List, [], ◌∷◌, ◌++◌, length, Result, Ok, Err}
use Rattle.mv_base.specs.declared.ids.NodeId.{NodeId}
use Rattle.label_defs.proofs.BetweenLemmas.{between_swap}
use Rattle.scenario_defs.specs.Kinds.{same_kind}
use Rattle.scenario_defs.specs.declared.event.Event.{Event}
use Rattle.scenario_defs.specs.declared.event.Event.TheVariants as events
use Rattle.scenario_defs.specs.declared.event.Kind.{Kind}
use Rattle.scenario_defs.specs.declared.report.ReportLine.{ReportLine}
use Rattle.scenario_defs.specs.declared.scenario.Scenario.{Scenario}
use Rattle.network_defs.specs.declared.session_defs.direction.Direction.{Direction}
use Rattle.mvpn_model.specs.Unready.{SessionsStand, is_that}
use Rattle.mvpn_model.specs.declared.session.Session.{Session}
use Rattle.network_defs.specs.Acts.{Act, Acted, Tick, Timers, Move, Lose, Notice, RaiseFirst, RaiseSecond, Restart, At, Enter, Land, Drop, Tell, SetCost, Reroute, act}
use Rattle.network_defs.specs.Counts.{direction, is_joined}
use Rattle.network_defs.specs.Events.{Happened, Outcome, Done, cost_acts, done, each, healed, notices, raise_acts, row, times, turn}
use Rattle.network_defs.specs.Costs.{Cores}
use Rattle.network_defs.specs.World.{World, clock_of, scenario_of, start}
use Rattle.network_defs.proofs.Kept.{Comes, Gives, each_keeps, row_keeps, times_keeps}
use Rattle.network_acts.proofs.network_laws.Lists.{each_of}
use Rattle.network_acts.proofs.network_laws.SteadyEvents.{steady_event}
use Rattle.network_acts.proofs.network_laws.ready_laws.ActsStand as stand
use Rattle.network_acts.proofs.network_laws.ready_laws.ActsStand.{WorldStands, act_gives, act_stand}
use Rattle.network_acts.proofs.network_laws.ready_laws.Nodes.{end_of}
use Rattle.network_acts.specs.Instant.{Instant, IsSome}
use Rattle.network_acts.specs.NetworkView.{NetworkView}
use Rattle.network_acts.specs.Words.{same_moment}
use Rattle.network_events.specs.Doing.{Does}
use Rattle.network_events.specs.Meeting.{AreAlike, IsResting}
use Rattle.network_events.proofs.DoLemmas.{Leads}

-- ---- acts

-- the sessions of a world as they stand
abbrev read_off : World → SessionsStand
read_off world =
    record {
      clock = clock_of world;
      joined = λ kind a b. world.network.joined (direction kind a b);
      end =
          λ kind n peer. end_of world.network.state n peer;
    }

stands_so : (world : World) → WorldStands (scenario_of world) (read_off world) world
stands_so world = record { nodes = record { place = refl; clock = refl; ends = λ n peer. refl }; joined = λ kind a b. refl }

-- which sessions are joined after an act
abbrev pub joined_after : Act → (Kind → NodeId → NodeId → Bool) → Kind → NodeId → NodeId → Bool
joined_after (Lose own u n) old kind a b = old kind a b && not (is_that own u n kind a b)
joined_after (RaiseFirst own u n) old kind a b = old kind a b || is_that own u n kind a b
joined_after (Restart m) old kind a b = old kind a b && not ((a.0 == m.0) || (b.0 == m.0))
joined_after other old kind a b = old kind a b

stand_joined : (scenario : Scenario) (one : Act) (old : SessionsStand) (kind : Kind) (a b : NodeId)
    → (act_stand scenario one old).joined kind a b ≡ joined_after one old.joined kind a b
stand_joined scenario (Tick ticks) old kind a b = refl
stand_joined scenario (Timers n) old kind a b = refl
stand_joined scenario (Move own from to count) old kind a b = refl
stand_joined scenario (Lose own u n) old kind a b = refl
stand_joined scenario (Notice own u n) old kind a b = refl
stand_joined scenario (RaiseFirst own u n) old kind a b = refl
stand_joined scenario (RaiseSecond own u n) old kind a b = refl
stand_joined scenario (Restart m) old kind a b = refl
stand_joined scenario (At n call) old kind a b = refl
stand_joined scenario (Enter vrf) old kind a b = refl
stand_joined scenario (Land from to place) old kind a b = refl
stand_joined scenario (Drop from to place) old kind a b = refl
stand_joined scenario Tell old kind a b = refl
stand_joined scenario (SetCost u n cost) old kind a b = refl
stand_joined scenario (Reroute n) old kind a b = refl

-- The scenario stays, and so many sessions are joined.
pub record Follows (one : Act) (old new : World) : Type 0 where
  pub scenario : scenario_of new ≡ scenario_of old
  pub joined : (kind : Kind) (a b : NodeId) → new.network.joined (direction kind a b)
      ≡ joined_after one (λ own u n. old.network.joined (direction own u n)) kind a b

pub act_follows : (world : World) (one : Act) → Gives (Follows one world) (act world one)
act_follows world one = by (act world one) (act_gives (scenario_of world) (read_off world) world one (stands_so world))
  where
    by : (o : Result Acted NodeId) → stand.Gives (WorldStands (scenario_of world) (act_stand (scenario_of world) one (read_off world))) o
        → Gives (Follows one world) o
    by (Err node) h = tt
    by (Ok new) h =
        record {
          scenario = h.1.nodes.place;
          joined =
              λ kind a b. h.1.joined kind a b ∙ stand_joined (scenario_of world) one (read_off world) kind a b;
        }

-- ---- sessions that are joined both ways

abbrev AreEven : (Kind → NodeId → NodeId → Bool) → Type 0
AreEven joined = (kind : Kind) (a b : NodeId) → joined kind a b ≡ joined kind b a

that_even : (own : Kind) (u n : NodeId) → AreEven (is_that own u n)
that_even own u n kind a b = ap (λ (t : Bool). same_kind own kind && t) (between_swap u n a b)

either_way : (x y : Bool) → (x || y) ≡ (y || x)
either_way true true = refl
either_way true false = refl
either_way false true = refl
either_way false false = refl

pub after_even : (one : Act) (old : Kind → NodeId → NodeId → Bool) → AreEven old → AreEven (joined_after one old)
after_even (Lose own u n) old even kind a b = λ i. even kind a b i && not (that_even own u n kind a b i)
after_even (RaiseFirst own u n) old even kind a b = λ i. even kind a b i || that_even own u n kind a b i
after_even (Restart m) old even kind a b = λ i. even kind a b i && not (either_way (a.0 == m.0) (b.0 == m.0) i)
after_even other old even kind a b = even kind a b

-- ---- both

-- the world is of that scenario, and its sessions are joined both ways or not at all
pub record IsEven (scenario : Scenario) (world : World) : Type 0 where
  pub own : scenario_of world ≡ scenario
  pub alike : AreAlike world

pub act_even : (scenario : Scenario) (one : Act) (world : World) → IsEven scenario world → Gives (IsEven scenario) (act world one)
act_even scenario one world even = by (act world one) (act_follows world one)
  where
    by : (o : Result Acted NodeId) → Gives (Follows one world) o → Gives (IsEven scenario) o
    by (Err node) h = tt
    by (Ok new) h = record {
      own = h.scenario ∙ even.own;
      alike = λ kind a b. h.joined kind a b ∙ (after_even one (λ own u n. world.network.joined (direction own u n)) even.alike kind a b
          ∙ sym (h.joined kind b a));
    }

-- a change that keeps both
abbrev pub KeepsEven : (World → Outcome) → Type 0
KeepsEven change = (scenario : Scenario) (world : World) → IsEven scenario world → Comes (IsEven scenario) (change world)

pub row_even : (acts : List Act) → KeepsEven (row acts)
row_even acts scenario world even =
    row_keeps (IsEven scenario) acts (each_of (λ one. (old : World) → IsEven scenario old → Gives (IsEven scenario) (act old one)) (act_even scenario)
    acts) world even

pub turn_even : (over : Direction) → KeepsEven (turn over)
turn_even over scenario world even = by (world.network.transit over)
  where
    by : (transit : List ℕ) → Comes (IsEven scenario)
        (elim transit [ [] ↦ Done [] world | octet ∷ others ↦ row (Move over.kind over.from over.to (length (octet ∷ others)) ∷ []) world ])
    by [] = even
    by (octet ∷ others) = row_even (Move over.kind over.from over.to (length (octet ∷ others)) ∷ []) scenario world even

pub healed_even : (session : Session) → KeepsEven (healed session)
healed_even session scenario world even = by (is_joined world session)
  where
    by : (joined : Bool)
        → Comes (IsEven scenario) (cond joined (Done [] world)
        (row (notices world session session.a session.b ++ (notices world session session.b session.a ++ raise_acts session)) world))
    by true = even
    by false =
        row_even (notices world session session.a session.b ++ (notices world session session.b session.a ++ raise_acts session)) scenario world even

pub each_even : {A : Type 0} (turn : A → World → Outcome) → ((x : A) → KeepsEven (turn x)) → (all : List A) → KeepsEven (each turn all)
each_even turn keeps all scenario world even =
    each_keeps (IsEven scenario) turn all (each_of (λ x. (old : World) → IsEven scenario old → Comes (IsEven scenario) (turn x old))
    (λ x. keeps x scenario) all) world even

pub times_even : (round : World → Outcome) → KeepsEven round → (count : ℕ) → KeepsEven (times round count)
times_even round keeps count scenario world even = times_keeps (IsEven scenario) round (keeps scenario) count world even

-- events do
pub event_even : (event : Event) → KeepsEven (λ world. done world event)
event_even (events.Cost a b cost) scenario world even = row_even (cost_acts (scenario_of world) a b cost) scenario world even
event_even other scenario world even =
    steady_event (IsEven scenario) (λ one steady old kept. act_even scenario one old kept)
    (λ old datagrams kept. record { own = kept.own; alike = kept.alike }) other tt world even

-- ---- networks

pub comes_done : (P : World → Type 0) (o : Outcome) (acts : List Happened) (world : World) → o ≡ Done acts world → Comes P o → P world
comes_done P o acts world e comes = subst (Comes P) e comes

module _ (first : World → Outcome) (keeps : KeepsEven first) (old mid : NetworkView) (lines mid_lines : List ReportLine) where
  even_after : (at : Instant) → IsResting at → (acts : List Happened) (world : World) → first at.world ≡ Done acts world
      → IsEven (scenario_of at.world) world
  even_after at resting acts world e =
      comes_done (IsEven (scenario_of at.world)) (first at.world) acts world e
      (keeps (scenario_of at.world) at.world (record { own = refl; alike = resting.alike }))

  pub rests_on : (next : World → Outcome) (new : NetworkView) (new_lines : List ReportLine)
      → Leads IsResting IsResting same_moment same_moment first next old mid new lines mid_lines new_lines
  rests_on next new new_lines at resting is acts world e stands = record { rest = resting.rest; alike = (even_after at resting acts world e).alike }

  module _ (does : Does IsResting same_moment first old mid lines mid_lines (Ok tt)) (some : IsSome IsResting old) where
    pub still_some : IsSome IsResting mid
    still_some =
        let did = does.done some.0 some.1 some.2 in (
          record { cores = some.0.cores; moment = some.0.moment; world = did.world },
          record { rest = some.1.rest; alike = (even_after some.0 some.1 did.acts did.world did.is).alike },
          did.stands,
        )

    pub same_scenario : mid.scenario ≡ old.scenario
    same_scenario =
        let did = does.done some.0 some.1 some.2 in
        did.stands.scenario ∙ ((even_after some.0 some.1 did.acts did.world did.is).own ∙ sym some.2.scenario)

-- ---- runs

-- When nothing has happened yet, each session is joined both ways or not at all.
pub start_alike : (scenario : Scenario) (cores : Cores) → AreAlike (start scenario cores)
start_alike scenario cores kind a b = refl
