-- A run through an event, and what a drain leaves.
use Rattle.std.proofs.Common.{◌≡◌, ℕ, zero, suc, ◌+◌, List, [], ◌∷◌, ◌++◌, flat_map, replicate, length, refl, sym, ap, subst, ◌∙◌, append_assoc, arith}
use Rattle.std.specs.List.{AllByRecursion}
use Rattle.std.proofs.lemmas.List.{append-nil}
use Rattle.mv_base.specs.declared.ids.NodeId.{NodeId}
use Rattle.scenario_defs.specs.declared.event.Event.TheVariants as events
use Rattle.scenario_defs.specs.declared.event.Timed.{Timed}
use Rattle.scenario_defs.specs.declared.report.ReportLine.TheVariants as lines
use Rattle.scenario_defs.specs.declared.scenario.Scenario.{Scenario}
use Rattle.network_defs.specs.session_defs.Octets.{OctetNetwork}
use Rattle.scenario_defs.specs.declared.event.Script.{Script}
use Rattle.network_defs.specs.Costs.{Cores, AreCoresOf}
use Rattle.network_laws.specs.SoundRun.{SoundRun}
use Rattle.network_laws.proofs.Costs.{costs_of}
use Rattle.network_laws.proofs.KnownCosts.{run_known}
use Rattle.network_laws.proofs.RunEvents.{run_stays}
use Rattle.network_defs.specs.Acts.{Land, act}
use Rattle.network_defs.specs.Counts.{link_ways, all_copies, datagrams_with_copy, octets_in_transit, due_timers, unready, state_line}
use Rattle.network_defs.specs.Events.{Happened, Done, landings, drain_round}
use Rattle.network_defs.specs.Nodes.{Nodes}
use Rattle.network_defs.specs.Run.{Traced, traced, IsSettled, IsDrained, outcome, Runs}
use Rattle.network_defs.specs.World.{World, scenario_of, start}
use Rattle.network_defs.proofs.Kept.{Gives, Comes, row_keeps, times_keeps, land_keeps}
use Rattle.rule_laws.proofs.Start.{run_in_step}
use Rattle.settle_laws.proofs.Drained.{drain_drains}
use Rattle.settle_laws.proofs.Settled.{Present, settle_settles}
use Rattle.settle_laws.proofs.Streams.{runs_streams, start_streams}
use Rattle.settle_laws.proofs.Ttl.{run_alive}

-- ---- a run through an event

pub record Through (old : World) (number : ℕ) (before : List Timed) (timed : Timed) (trace : List Traced) : Type 0 where
  pub middle : World
  pub before_trace : List Traced
  pub before_run : Runs old number before before_trace middle
  pub acts : List Happened
  pub next : World
  pub done : outcome middle timed ≡ Done acts next
  pub first : List Traced
  pub rest : List Traced
  pub parts : trace ≡ first ++ rest
  pub run : Runs old number (before ++ timed ∷ []) first next

pub through : (before : List Timed) (timed : Timed) (thereafter : List Timed) (old : World) (number : ℕ) (trace : List Traced) (new : World)
    → Runs old number (before ++ timed ∷ thereafter) trace new → Through old number before timed trace
through [] timed thereafter old number trace new (acts, next, rest, done, parts, more) = record {
  middle = old;
  before_trace = [];
  before_run = (refl, refl);
  acts = acts;
  next = next;
  done = done;
  first = traced number acts;
  rest = rest;
  parts = parts;
  run = (acts, next, [], done, sym (append-nil (traced number acts)), (refl, refl));
}
through (one ∷ before) timed thereafter old number trace new (acts, next, rest, done, parts, more) =
    let x = through before timed thereafter next (number + 1) rest new more in
    record {
      middle = x.middle;
      before_trace = traced number acts ++ x.before_trace;
      before_run = (acts, next, x.before_trace, done, refl, x.before_run);
      acts = x.acts;
      next = x.next;
      done = x.done;
      first = traced number acts ++ x.first;
      rest = x.rest;
      parts = parts ∙ ap (λ (ts : List Traced). traced number acts ++ ts) x.parts ∙ sym (append_assoc (traced number acts) x.first x.rest);
      run = (acts, next, x.first, done, refl, x.run);
    }

-- ---- after a run

pub run_settles : (cores : Cores) (script : Script) (all : List Timed) (trace : List Traced) (old new : World) (line : ℕ) (acts : List Happened)
    → SoundRun cores script all trace old
    → outcome old (record { line = line; event = events.Settle }) ≡ Done acts new → IsSettled new
run_settles cores script all trace old new line acts sound_run e =
    let scenario = script.scenario in
    let know = run_known script cores all trace old sound_run in
    let stays = run_stays scenario cores all trace old sound_run.scenario sound_run.sound_events sound_run.run in
    let present : Present scenario (costs_of old.network.state) = record {
      of_scenario = subst (AreCoresOf scenario) (sym know.cores_are) sound_run.of_scenario;
      links = know.links;
      known = stays.0.known;
      present = know.present;
    } in
    settle_settles scenario (costs_of old.network.state) sound_run.scenario present old
    (run_in_step scenario cores all trace old sound_run.scenario sound_run.sound_events sound_run.run)
    (record { streams = runs_streams all (start scenario cores) 0 trace old (start_streams scenario cores) sound_run.run; costs_are = refl }) line
    acts new e

pub run_drains : (scenario : Scenario) (cores : Cores) (all : List Timed) (trace : List Traced) (old new : World) (line : ℕ) (acts : List Happened)
    → Runs (start scenario cores) 0 all trace old → outcome old (record { line = line; event = events.Drain }) ≡ Done acts new → IsDrained new
run_drains scenario cores all trace old new line acts run e = drain_drains old (run_alive scenario cores all trace old run) line acts new e

-- ---- a drain touches no session and no node

abbrev NetSettled : OctetNetwork Nodes → Type 0
NetSettled network = IsSettled (record { network = network; copies = λ u n. []; datagrams = [] })

landings_keep : (P : OctetNetwork Nodes → Type 0) (world : World) (ways : List (NodeId × NodeId))
    → AllByRecursion (λ one. (old : World) → P old.network → Gives (λ new. P new.network) (act old one)) (flat_map (landings world) ways)
landings_keep P world [] = tt
landings_keep P world (way ∷ others) = each (length (world.copies way.0 way.1)) (landings_keep P world others)
  where
    each : (count : ℕ) → AllByRecursion (λ one. (old : World) → P old.network → Gives (λ new. P new.network) (act old one))
        (flat_map (landings world) others)
        → AllByRecursion (λ one. (old : World) → P old.network → Gives (λ new. P new.network) (act old one))
        (replicate count (Land way.0 way.1 1) ++ flat_map (landings world) others)
    each zero rest = rest
    each (suc count) rest = ((λ old p. land_keeps P old way.0 way.1 1 p), each count rest)

pub drain_keeps : (world : World) (line : ℕ) (acts : List Happened) (next : World) → IsSettled world
    → outcome world (record { line = line; event = events.Drain }) ≡ Done acts next → IsSettled next
drain_keeps world line acts next settled e =
    subst (Comes (λ new. NetSettled new.network)) e
    (times_keeps (λ new. NetSettled new.network) drain_round
    (λ one p. row_keeps (λ new. NetSettled new.network) (flat_map (landings one) (link_ways (scenario_of one)))
    (landings_keep NetSettled one (link_ways (scenario_of one))) one p) 255 world settled)

-- ---- what is told then

no_datagrams : (count : ℕ) → datagrams_with_copy [] count ≡ 0
no_datagrams zero = refl
no_datagrams (suc count) = let x = no_datagrams count in omega (arith, x)

pub settled_line : (world : World) → IsSettled world
    → state_line world ≡ lines.State 0 (length (all_copies world)) (datagrams_with_copy (all_copies world) (length world.datagrams)) 0 (unready world)
settled_line world settled =
    λ i. lines.State (settled.0 i) (length (all_copies world)) (datagrams_with_copy (all_copies world) (length world.datagrams)) (settled.1 i)
    (unready world)

pub drained_line : (world : World) → IsDrained world → state_line world ≡ lines.State (octets_in_transit world) 0 0 (due_timers world) (unready world)
drained_line world none =
    (λ i. lines.State (octets_in_transit world) (length (none i)) (datagrams_with_copy (none i) (length world.datagrams)) (due_timers world)
    (unready world))
    ∙ ap (λ (k : ℕ). lines.State (octets_in_transit world) 0 k (due_timers world) (unready world)) (no_datagrams (length world.datagrams))
