-- The label rule holds of a network in which nothing has happened, and so of each run.
use Rattle.std.specs.Prelude.{⊤}
use Rattle.std.proofs.Common.{◌≡◌, false, List, [], ◌∷◌, Option, None, Some, refl, sym, ap, subst, ◌∙◌}
use Rattle.std.specs.List.{AllByRecursion}
use Rattle.std.proofs.lemmas.List.{append-nil}
use Rattle.scenario_defs.specs.declared.event.Timed.{Timed}
use Rattle.scenario_defs.specs.declared.scenario.Scenario.{Scenario}
use Rattle.label_laws.specs.Network.{LabelNetwork, at_start}
use Rattle.label_laws.specs.Rule.{Kept}
use Rattle.label_laws.proofs.Full.{start_kept}
use Rattle.mldp.specs.declared.mldp_fec.fec.Fec.{Fec}
use Rattle.mv_base.specs.declared.ids.NodeId.{NodeId}
use Rattle.network_defs.specs.Costs.{Cores}
use Rattle.edge_defs.specs.Place.{is_tree, upstream}
use Rattle.network_defs.specs.LabelRule.{LabelRule}
use Rattle.network_defs.specs.Acts.{Act}
use Rattle.network_defs.specs.Events.{Happened, Outcome, Done, Halted}
use Rattle.network_defs.specs.Run.{Traced, outcome, Runs}
use Rattle.network_defs.specs.session_defs.Refined.{seen}
use Rattle.network_defs.specs.World.{World, Datagram, start}
use Rattle.network_laws.specs.Honest.{IsSoundEvent}
use Rattle.network_laws.specs.Sound.{SoundScenario}
use Rattle.network_laws.proofs.NodeCalls.{start_sound}
use Rattle.rule_laws.specs.Labels.{vpn_of, origin, label_network}
use Rattle.rule_laws.proofs.Acts.{InStep}
use Rattle.rule_laws.proofs.Enters.{enters}
use Rattle.rule_laws.proofs.Events.{outcome_goes, turned_in_step, runs_in_step}
use Rattle.rule_laws.proofs.Throughout.{GoesWith}
use Rattle.rule_laws.specs.Throughout.{Happens, Throughout, ThroughoutEvent, ThroughoutEvents}
use Rattle.network_defs.proofs.Kept.{Gives}
use Rattle.rule_laws.specs.Outs.{IsAdmittedLine}
use Rattle.rule_laws.specs.Networks.{AreNetworks}
use Rattle.rule_laws.proofs.Safe.{HasThose, act_those, runs_say}
use Rattle.rule_laws.proofs.Full.{world_rule}
use Rattle.rule_laws.proofs.Sessions.{fresh_part, fresh_numbers, fresh_control, fresh_kind}
use Rattle.edge_defs.specs.Edge.{no_control}
use Rattle.edge_words.specs.edge_laws.Network.{EdgeNetwork}
use Rattle.rule_laws.proofs.Honest.{EdgeRule, start_honest}
use Rattle.edge_words.proofs.edge_laws.Start.{start_rule}

pub start_in_step : (scenario : Scenario) (cores : Cores) → SoundScenario scenario → InStep scenario (start scenario cores)
start_in_step scenario cores sound = (
  (λ over. []),
  (λ over. (refl, refl)),
  record {
    base = record {
      sound = start_sound scenario cores sound;
      apart = λ n. refl;
      numbers = fresh_numbers scenario;
      peers = λ u n j. absurd cc;
      kinds =
          fresh_kind scenario;
    };
    edges = (
      (λ u n. []),
      (λ u n. refl),
      (let w : EdgeNetwork =
          record {
            clock = 0;
            scenario = scenario;
            core = λ n. cores scenario.links;
            node = λ n. no_control;
            direction =
                λ a b. record { joined = false; transit = [] };
          } in
          subst EdgeRule (λ i. record w { node = λ n. sym (fresh_control scenario n) i })
          (record {
            rule = start_rule scenario (λ n. cores scenario.links) sound.rules;
            honest =
                start_honest scenario (λ n. cores scenario.links);
          })),
    );
    kept = λ later.
        let next : NodeId → Fec → Option NodeId = upstream scenario (cores scenario.links) in
        let w : LabelNetwork = at_start scenario.life (λ n. scenario.labels) (is_tree scenario) next (vpn_of scenario) (origin scenario later) in
        subst Kept (λ i. record w { node = λ n. sym (fresh_part scenario n) i })
        (start_kept scenario.life (λ n. scenario.labels) (is_tree scenario) next (vpn_of scenario) (origin scenario later));
  },
)

pub run_keeps_rule : (scenario : Scenario) (cores : Cores) (all : List Timed) (trace : List Traced) (new : World) → SoundScenario scenario
    → AllByRecursion (λ timed. IsSoundEvent scenario timed.event) all
    → Runs (start scenario cores) 0 all trace new → LabelRule new
run_keeps_rule scenario cores all trace new lines sound run =
    world_rule scenario new (runs_in_step enters scenario all sound (start scenario cores) 0 trace new (start_in_step scenario cores lines) run)

-- all that is kept, after a run
pub run_in_step : (scenario : Scenario) (cores : Cores) (all : List Timed) (trace : List Traced) (new : World) → SoundScenario scenario
    → AllByRecursion (λ timed. IsSoundEvent scenario timed.event) all
    → Runs (start scenario cores) 0 all trace new → InStep scenario new
run_in_step scenario cores all trace new lines sound run =
    runs_in_step enters scenario all sound (start scenario cores) 0 trace new (start_in_step scenario cores lines) run

pub run_is_networks : (scenario : Scenario) (cores : Cores) (all : List Timed) (trace : List Traced) (new : World) → SoundScenario scenario
    → AllByRecursion (λ timed. IsSoundEvent scenario timed.event) all
    → Runs (start scenario cores) 0 all trace new → AreNetworks new
run_is_networks scenario cores all trace new lines sound run =
    let s = run_in_step scenario cores all trace new lines sound run in
    record {
      pending = s.0;
      carried = s.1;
      labels = subst (λ (ds : List Datagram). Kept (label_network (seen new.network s.0) new.copies ds)) (append-nil new.datagrams) (s.2.kept []);
      changes = s.2.edges.0;
      routes = s.2.edges.1;
      edges = s.2.edges.2.rule;
    }

pub run_says : (scenario : Scenario) (cores : Cores) (all : List Timed) (trace : List Traced) (new : World) → SoundScenario scenario
    → AllByRecursion (λ timed. IsSoundEvent scenario timed.event) all
    → Runs (start scenario cores) 0 all trace new
    → AllByRecursion (λ (step : Traced). AllByRecursion (IsAdmittedLine scenario new.datagrams) step.happened.lines) trace
run_says scenario cores all trace new lines sound run =
    (runs_say scenario all sound (start scenario cores) 0 trace new (start_in_step scenario cores lines) run).2

-- ---- throughout events

-- no act changes the datagrams
throughout_datagrams : (P : World → Type 0) (acts : List Happened) (old new : World) → Throughout P old acts new → new.datagrams ≡ old.datagrams
throughout_datagrams P [] old new t = ap (λ (world : World). world.datagrams) t.0
throughout_datagrams P (happened ∷ more) old new t = throughout_datagrams P more t.0 new t.3 ∙ one_step happened.act t.2
  where
    one_step : (o : Option Act) → Happens old (record { act = o; lines = happened.lines }) t.0 → t.0.datagrams ≡ old.datagrams
    one_step None e = ap (λ (world : World). world.datagrams) e
    one_step (Some one) e = subst (Gives (HasThose old.datagrams)) e (act_those old.datagrams one old refl)

event_of : (P K : World → Type 0) (old : World) (o : Outcome) → GoesWith P K old o → ThroughoutEvent P old o
event_of P K old (Done acts new) g =
    let same : new.datagrams ≡ g.0 = throughout_datagrams P acts (record old { datagrams = g.0 }) new g.1.1 in
    subst (λ (datagrams : List Datagram). Throughout P (record old { datagrams = datagrams }) acts new) (sym same) g.1.1
event_of P K old (Halted acts node) g =
    let last : World = g.1.0 in
    let same : last.datagrams ≡ g.0 = throughout_datagrams P acts (record old { datagrams = g.0 }) last g.1.2 in
    (last, g.1.1, subst (λ (datagrams : List Datagram). Throughout P (record old { datagrams = datagrams }) acts last) (sym same) g.1.2, g.1.3)

events_throughout : (scenario : Scenario) (all : List Timed) → AllByRecursion (λ (timed : Timed). IsSoundEvent scenario timed.event) all
    → (old : World) → InStep scenario old → ThroughoutEvents LabelRule old all
events_throughout scenario [] sound old s = world_rule scenario old s
events_throughout scenario (timed ∷ more) sound old s = (
  world_rule scenario old s,
  event_of LabelRule (InStep scenario) old (outcome old timed) (outcome_goes enters scenario old s timed sound.0),
  by (outcome old timed) (λ acts next e. events_throughout scenario more sound.1 next
      (turned_in_step enters scenario old s timed sound.0 acts next e)),
)
  where
    by : (o : Outcome) → ((acts : List Happened) (next : World) → o ≡ Done acts next → ThroughoutEvents LabelRule next more)
        → elim o as (λ _. Type 0) [ Done acts next ↦ ThroughoutEvents LabelRule next more | Halted acts node ↦ ⊤ ]
    by (Done acts next) rest = rest acts next refl
    by (Halted acts node) rest = tt

-- So it does after a run.
pub run_throughout : (scenario : Scenario) (cores : Cores) (all more : List Timed) (trace : List Traced) (new : World) → SoundScenario scenario
    → AllByRecursion (λ timed. IsSoundEvent scenario timed.event) all → AllByRecursion (λ timed. IsSoundEvent scenario timed.event) more
    → Runs (start scenario cores) 0 all trace new → ThroughoutEvents LabelRule new more
run_throughout scenario cores all more trace new lines sound then_sound run =
    events_throughout scenario more then_sound new (run_in_step scenario cores all trace new lines sound run)
