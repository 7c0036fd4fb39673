-- After `heal`, `settle`, a tick of more than the life of a copy and `settle` the network is at rest.
use Rattle.std.proofs.Common.{◌≡◌, ◌<◌, ℕ, ◌+◌, ◌&&◌, not, true, false, List, [], ◌∷◌, ◌++◌, Option, Some, None, option_map, inl, inr, refl, sym, ap, subst, ◌∙◌, append_assoc}
use Rattle.std.specs.FinMap as maps
use Rattle.std.specs.List.{AllByRecursion}
use Rattle.std.proofs.lemmas.List.{append-nil}
use Rattle.label_defs.specs.declared.end.End.{End}
use Rattle.scenario_defs.specs.declared.event.Event.{Event}
use Rattle.scenario_defs.specs.declared.event.Event.TheVariants as events
use Rattle.scenario_defs.specs.declared.event.Kind.{Kind}
use Rattle.scenario_defs.specs.declared.event.Kind.TheVariants as kinds
use Rattle.scenario_defs.specs.declared.event.Script.{Script}
use Rattle.scenario_defs.specs.declared.event.Timed.{Timed}
use Rattle.scenario_defs.specs.declared.report.ReportLine.TheVariants as lines
use Rattle.scenario_defs.specs.declared.scenario.Scenario.{Scenario}
use Rattle.mvpn_model.specs.Sessions.{sessions}
use Rattle.mvpn_model.specs.Unready.{SessionsStand, thereafter, is_held}
use Rattle.mvpn_model.specs.declared.session.Session.{Session}
use Rattle.mvpn_model.proofs.SessionLemmas.{IsIn}
use Rattle.selective_defs.specs.Selective.{Among}
use Rattle.network_defs.specs.Acts.{Tell}
use Rattle.network_defs.specs.Costs.{Cores}
use Rattle.network_defs.specs.Counts.{is_joined, are_held, is_ready, unready, state_line}
use Rattle.network_defs.specs.Events.{Happened, Done, done}
use Rattle.network_defs.specs.Nodes.{part_of}
use Rattle.network_defs.specs.Run.{Traced, IsSettled, IsDrained, traced, outcome, Runs}
use Rattle.network_defs.specs.World.{World, scenario_of, start}
use Rattle.network_laws.specs.Honest.{IsSoundEvent}
use Rattle.network_laws.specs.Sound.{SoundScenario}
use Rattle.network_laws.specs.SoundRun.{SoundRun}
use Rattle.network_laws.proofs.Lists.{each_append, each_front}
use Rattle.network_laws.proofs.RunNodes as nodes
use Rattle.network_laws.proofs.RunNodes.{sessions_within}
use Rattle.network_laws.proofs.ready_laws.Ends.{up_end}
use Rattle.network_laws.proofs.ready_laws.EventsStand.{Tells}
use Rattle.network_laws.proofs.ready_laws.EventsTell.{event_tells}
use Rattle.network_laws.proofs.ready_laws.Outcomes.{Comes}
use Rattle.network_laws.proofs.ready_laws.TimersAlike.{HasNodes}
use Rattle.rule_laws.proofs.Start.{run_in_step}
use Rattle.settle_laws.specs.Behind.{IsBehind, heal_at, settle_at, tick_at, state_at}
use Rattle.settle_laws.specs.Rest.{calming, IsAtRest}
use Rattle.settle_laws.proofs.Behind.{run_settles, drained_line}
use Rattle.settle_laws.proofs.LabelsDue.{count_zero, each_among}
use Rattle.settle_laws.proofs.Raised.{run_up}
use Rattle.settle_laws.proofs.Ready.{calmed, StandsReady, calmed_ready}
use Rattle.settle_laws.proofs.Times.{stands_at, run_ticks, settle_drains}

-- ---- sessions of a scenario

among_in : (session : Session) (all : List Session) → IsIn session all → Among session all
among_in session [] is = absurd is
among_in session (own ∷ others) (inl e) = inl e
among_in session (own ∷ others) (inr is) = inr (among_in session others is)

in_among : (session : Session) (all : List Session) → Among session all → IsIn session all
in_among session [] a = absurd a
in_among session (own ∷ others) (inl e) = inl e
in_among session (own ∷ others) (inr a) = inr (in_among session others a)

has_nodes : (scenario : Scenario) → SoundScenario scenario → HasNodes scenario
has_nodes scenario sound session is k =
    each_among (nodes.HasNodes scenario) (sessions scenario) (sessions_within scenario sound) session (among_in session (sessions scenario) is)

-- ---- where the sessions of the network stand

-- by the network itself
tells_itself : (scenario : Scenario) (world : World) → scenario_of world ≡ scenario → Tells scenario (stands_at world) world
tells_itself scenario world same = record {
  standing = stands_at world;
  stands = record { nodes = record { place = same; clock = refl; ends = λ n peer. refl }; joined = λ kind a b. refl };
  alike = record { clock = refl; each = λ session is. record { joined = refl; near = λ k. refl; far = λ k. refl } };
}

-- after an event that is not refused
done_tells : (scenario : Scenario) → HasNodes scenario → (told : SessionsStand) (world : World) → Tells scenario told world
    → (event : Event) (acts : List Happened) (next : World) → done world event ≡ Done acts next → Tells scenario (thereafter scenario told event) next
done_tells scenario has told world t event acts next e =
    (subst (Comes (Tells scenario (thereafter scenario told event))) e
    (subst (λ (own : Scenario). HasNodes own → Tells own told world → Comes (Tells own (thereafter own told event)) (done world event))
    t.stands.nodes.place (λ own tells. event_tells told world own tells event) has t)).1

held_by : (o : Option End) → is_held (option_map up_end o) ≡ true → elim o [ None ↦ false | Some end ↦ end.held ] ≡ true
held_by None h = h
held_by (Some end) h = h

-- A session that stands ready is ready in the network.
ready_by : (scenario : Scenario) (told : SessionsStand) (world : World) → Tells scenario told world → (session : Session)
    → IsIn session (sessions scenario) → StandsReady told session → is_ready world session ≡ true
ready_by scenario told world t session is ready = by session.kind refl
  where
    joined : is_joined world session ≡ true
    joined = t.stands.joined session.kind session.a session.b ∙ sym (t.alike.each session is).joined ∙ ready.joined

    by : (kind : Kind) → session.kind ≡ kind → (is_joined world session && elim kind [ kinds.Bgp ↦ true | kinds.Ldp ↦ are_held world session ]) ≡ true
    by kinds.Bgp k = ap (λ b. b && true) joined
    by kinds.Ldp k =
        let near = ap is_held (t.stands.nodes.ends session.a session.b ∙ sym ((t.alike.each session is).near k)) ∙ ready.near k in
        let far = ap is_held (t.stands.nodes.ends session.b session.a ∙ sym ((t.alike.each session is).far k)) ∙ ready.far k in
        let first = held_by (maps.get (part_of (world.network.state.node session.a)).ends session.b) near in
        let second = held_by (maps.get (part_of (world.network.state.node session.b)).ends session.a) far in
        λ i. joined i && (first i && second i)

none_unready : (scenario : Scenario) (told : SessionsStand) (world : World) → Tells scenario told world
    → ((session : Session) → IsIn session (sessions scenario) → StandsReady told session) → unready world ≡ 0
none_unready scenario told world t ready =
    count_zero (λ session. not (is_ready world session)) (sessions (scenario_of world))
    (λ session a. ap not (let is = subst (λ (own : Scenario). IsIn session (sessions own)) t.stands.nodes.place
    (in_among session (sessions (scenario_of world)) a) in ready_by scenario told world t session is (ready session is)))

-- ---- one event more

one_more : (before : List Timed) (timed : Timed) (old : World) (number : ℕ) (trace : List Traced) (middle : World) (acts : List Happened)
    (next : World) → Runs old number before trace middle → outcome middle timed ≡ Done acts next
    → (after : List Traced) × Runs old number (before ++ timed ∷ []) after next
one_more [] timed old number trace middle acts next run e = (
  traced number acts,
  (
    acts,
    next,
    [],
    subst (λ (world : World). outcome world timed ≡ Done acts next) run.1 e,
    sym (append-nil (traced number acts)),
    (refl, refl),
  ),
)
one_more (first ∷ others) timed old number trace middle acts next (own, world, rest, is, parts, more) e =
    let x = one_more others timed world (number + 1) rest middle acts next more e in
    (traced number own ++ x.0, (own, world, x.0, is, refl, x.1))

-- The network is after a run of a sound scenario by sound events.
record Reached (cores : Cores) (script : Script) (world : World) : Type 0 where
  all : List Timed
  trace : List Traced
  run : SoundRun cores script all trace world

reached_more : (cores : Cores) (script : Script) (old : World) → Reached cores script old → (timed : Timed) → IsSoundEvent script.scenario timed.event
    → (acts : List Happened) (next : World) → outcome old timed ≡ Done acts next → Reached cores script next
reached_more cores script old r timed sound acts next e =
    let x = one_more r.all timed (start script.scenario cores) 0 r.trace old acts next r.run.run e in
    record {
      all = r.all ++ timed ∷ [];
      trace = x.0;
      run = record {
        scenario = r.run.scenario;
        of_scenario = r.run.of_scenario;
        sound_events = each_append (λ (one : Timed). IsSoundEvent script.scenario one.event) r.all (timed ∷ []) r.run.sound_events (sound, tt);
        run = x.1;
      };
    }

-- ---- at rest

module _ (cores : Cores) (script : Script) (old healed settled later new : World) (first second third fourth count : ℕ) (r : Reached cores script old)
    (lt : script.scenario.life < count)
    (healing settling waiting acts : List Happened)
    (heal : outcome old (heal_at first) ≡ Done healing healed) (settle : outcome healed (settle_at second) ≡ Done settling settled)
    (tick : outcome settled (tick_at third count) ≡ Done waiting later) (again : outcome later (settle_at fourth) ≡ Done acts new) where
  abbrev scenario : Scenario
  scenario = script.scenario

  healed_reached : Reached cores script healed
  healed_reached = reached_more cores script old r (heal_at first) tt healing healed heal

  settled_reached : Reached cores script settled
  settled_reached = reached_more cores script healed healed_reached (settle_at second) tt settling settled settle

  later_reached : Reached cores script later
  later_reached = reached_more cores script settled settled_reached (tick_at third count) tt waiting later tick

  is_settled : IsSettled new
  is_settled = run_settles cores script later_reached.all later_reached.trace later new fourth acts later_reached.run again

  is_drained : IsDrained new
  is_drained =
      settle_drains later fourth acts new (run_ticks scenario cores settled_reached.all settled_reached.trace settled later third count waiting
      settled_reached.run.run lt tick) again

  is_unready : unready new ≡ 0
  is_unready =
      let has = has_nodes scenario r.run.scenario in
      let in_step = run_in_step scenario cores r.all r.trace old r.run.scenario r.run.sound_events r.run.run in
      let one = done_tells scenario has (stands_at old) old (tells_itself scenario old in_step.2.base.sound.same) events.Heal healing healed heal in
      let two = done_tells scenario has _ healed one events.Settle settling settled settle in
      let three = done_tells scenario has _ settled two (events.Tick count) waiting later tick in
      let four = done_tells scenario has _ later three events.Settle acts new again in
      none_unready scenario (calmed scenario count (stands_at old)) new four
      (calmed_ready scenario count (stands_at old) lt (run_up scenario cores r.all r.trace old r.run.run in_step))

  rests : IsAtRest new
  rests = (is_settled, is_drained, is_unready)

pub run_rests : (cores : Cores) (script : Script) (all : List Timed) (trace after : List Traced) (old new : World)
    (number first second third fourth count : ℕ) → SoundRun cores script all trace old → script.scenario.life < count
    → Runs old number (calming first second third fourth count) after new → IsAtRest new
run_rests cores script all trace after old new number first second third fourth count run lt (
  healing,
  healed,
  rest_one,
  heal,
  parts_one,
  (
    settling,
    settled,
    rest_two,
    settle,
    parts_two,
    (waiting, later, rest_three, tick, parts_three, (acts, last, rest_four, again, parts_four, ended)),
  ),
) =
    subst IsAtRest (sym ended.1) (rests cores script old healed settled later last first second third fourth count
    (record { all = all; trace = trace; run = run }) lt healing settling waiting acts heal settle tick again)

-- ---- within a run

-- a run of some events and others after them, in its two parts
record Parted (old : World) (number : ℕ) (before thereafter : List Timed) (trace : List Traced) (new : World) : Type 0 where
  middle : World
  place : ℕ
  early : List Traced
  late : List Traced
  parts : trace ≡ early ++ late
  first : Runs old number before early middle
  rest : Runs middle place thereafter late new

parted : (before thereafter : List Timed) (old : World) (number : ℕ) (trace : List Traced) (new : World) → Runs old number (before ++ thereafter) trace new
    → Parted old number before thereafter trace new
parted [] thereafter old number trace new run =
    record { middle = old; place = number; early = []; late = trace; parts = refl; first = (refl, refl); rest = run }
parted (one ∷ before) thereafter old number trace new (acts, next, others, is, parts, more) =
    let x = parted before thereafter next (number + 1) others new more in
    record {
      middle = x.middle;
      place = x.place;
      early = traced number acts ++ x.early;
      late = x.late;
      parts = parts ∙ ap (λ (steps : List Traced). traced number acts ++ steps) x.parts ∙ sym (append_assoc (traced number acts) x.early x.late);
      first = (acts, next, x.early, is, refl, x.first);
      rest = x.rest;
    }

pub rests_within : (cores : Cores) (script : Script) (before after : List Timed) (trace : List Traced) (new : World)
    (first second third fourth count : ℕ) → SoundRun cores script (before ++ calming first second third fourth count ++ after) trace new
    → script.scenario.life < count → IsBehind cores script (before ++ calming first second third fourth count) trace IsAtRest
rests_within cores script before after trace new first second third fourth count s lt =
    let own = calming first second third fourth count in
    let x = parted (before ++ own) after (start script.scenario cores) 0 trace new s.run in
    let y = parted before own (start script.scenario cores) 0 x.early x.middle x.first in
    let are_sound : List Timed → Type 0 = AllByRecursion (λ (timed : Timed). IsSoundEvent script.scenario timed.event) in
    let sound : are_sound before = each_front _ before own (each_front _ (before ++ own) after s.sound_events) in
    let front : SoundRun cores script before y.early y.middle =
    record { scenario = s.scenario; of_scenario = s.of_scenario; sound_events = sound; run = y.first } in
    record {
      world = x.middle;
      first = x.early;
      rest = x.late;
      parts = x.parts;
      run = x.first;
      holds = run_rests cores script before y.early y.late y.middle x.middle y.place first second third fourth count front lt y.rest;
    }

-- ---- what is told there

pub rest_line : (world : World) → IsAtRest world → state_line world ≡ lines.State 0 0 0 0 0
rest_line world rest = drained_line world rest.1 ∙ (λ i. lines.State (rest.0.0 i) 0 0 (rest.0.1 i) (rest.2 i))

pub rest_told : (world : World) (line : ℕ) → IsAtRest world
    → outcome world (state_at line) ≡ Done (record { act = Some Tell; lines = lines.State 0 0 0 0 0 ∷ [] } ∷ []) world
rest_told world line rest = λ i. Done (record { act = Some Tell; lines = rest_line world rest i ∷ [] } ∷ []) world
