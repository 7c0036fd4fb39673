-- In each run what was taken over a direction is a first part of what was put there.
use Rattle.std.specs.Prelude.{⊤, Ok}
use Rattle.std.proofs.Common.{◌≡◌, ◌⊎◌, inl, inr, ℕ, Bool, true, false, cond, flat_map, List, [], ◌∷◌, ◌++◌, Option, Some, None, refl, sym, ap, subst, ◌∙◌}
use Rattle.std.specs.List.{AllByRecursion}
use Rattle.std.proofs.lemmas.Bool.{and_parts}
use Rattle.std.proofs.lemmas.List.{append_assoc}
use Rattle.mv_base.specs.Number.{◌>>?◌}
use Rattle.mv_base.specs.declared.ids.NodeId.{NodeId}
use Rattle.scenario_defs.specs.declared.event.Kind.{Kind}
use Rattle.scenario_defs.specs.declared.event.Timed.{Timed}
use Rattle.scenario_defs.specs.declared.report.ReportLine.TheVariants as lines
use Rattle.scenario_defs.specs.declared.scenario.Scenario.{Scenario}
use Rattle.mvpn_model.specs.declared.session.Session.{Session}
use Rattle.label_defs.specs.Settling as labels
use Rattle.label_defs.specs.Steps as label_calls
use Rattle.label_defs.specs.Steps.{label_step}
use Rattle.scenario_defs.specs.Kinds.{same_kind}
use Rattle.network_defs.specs.session_defs.Octets as octets
use Rattle.network_defs.specs.session_defs.Octets.{OctetNetwork, octet_run, with_step}
use Rattle.network_defs.specs.session_defs.System.{Stepped, Behind, with_earlier}
use Rattle.edge_defs.specs.Place.{addr_of}
use Rattle.network_defs.specs.Costs.{Cores}
use Rattle.edge_defs.specs.Steps as steps
use Rattle.edge_defs.specs.Steps.{EdgeStepped, edge_step, own_label_call}
use Rattle.network_defs.specs.Acts.{RaiseFirst, RaiseSecond, Acted, with_network, put_lines, is_of_session, act}
use Rattle.label_defs.specs.Between.{is_between}
use Rattle.network_defs.specs.Counts.{direction, directions}
use Rattle.network_defs.specs.Local.{put_since, taken_since, TakesWhatWasPut}
use Rattle.network_defs.specs.Nodes.{NodeState, Edge, CoreNode, Nodes, with_node, place_of, label_place_of}
use Rattle.network_defs.specs.node_defs.Puts.{bgp_puts, label_puts}
use Rattle.network_defs.specs.Run.{Traced, Runs}
use Rattle.network_defs.specs.System.{Own, node_called, core_called, system}
use Rattle.network_defs.specs.World.{World, start, scenario_of}
use Rattle.network_laws.specs.Honest.{IsSoundEvent}
use Rattle.network_laws.specs.Sound.{SoundScenario}
use Rattle.rule_laws.proofs.Acts.{InStep}
use Rattle.rule_laws.proofs.Raises.{between}
use Rattle.license_laws.proofs.Flows.{IsIdle, FlowsBehind, joined_now, join_flows, joins}
use Rattle.license_laws.proofs.Follows.{Keeps, stepped, runs_follow}
use Rattle.license_laws.proofs.Moving.{raise_is, quiet_moves, single_moves, single_hits}
use Rattle.license_laws.proofs.Puts.{kind_is, Once, puts_take}
use Rattle.license_laws.proofs.Sessions.{Declared}
use Rattle.license_laws.proofs.Since.{hit}
use Rattle.license_laws.proofs.Takes.{Way, Joins, way_moves, way_joins, lines_put, network_moves, rests}

-- ---- no node changes the scenario

abbrev SameScenario : Nodes → Option (Stepped Nodes) → Type 0
SameScenario nodes None = ⊤
SameScenario nodes (Some new) = new.state.scenario ≡ nodes.scenario

pub called_scenario : (nodes : Nodes) (n : NodeId) (state : NodeState) (call : steps.Call) → SameScenario nodes (node_called nodes n state call)
called_scenario nodes n (Edge edge) call = by (edge_step (place_of nodes n) nodes.clock edge call)
  where
    by : (o : Option EdgeStepped) → SameScenario nodes (o >>? λ new. Some (record {
      state = with_node nodes n (Edge new.edge);
      puts = bgp_puts (place_of nodes n) edge.control new.edge.control
          ++ flat_map (label_puts n (addr_of nodes.scenario n) (label_place_of nodes n) nodes.clock) new.row;
    }))
    by None = tt
    by (Some new) = refl
called_scenario nodes n (CoreNode part) call = by (own_label_call call)
  where
    by : (o : Option label_calls.Call) → SameScenario nodes (core_called nodes n part o)
    by None = refl
    by (Some own) = step own (label_step (label_place_of nodes n) nodes.clock part own)
      where
        step : (own : label_calls.Call) (o : Option labels.Stepped) → SameScenario nodes (o >>? λ new. Some (record {
          state = with_node nodes n (CoreNode new.part);
          puts = label_puts n (addr_of nodes.scenario n) (label_place_of nodes n) nodes.clock (record { old = part; call = own; new = new });
        }))
        step own None = tt
        step own (Some new) = refl

pub raised_scenario : (world : World) (own : Kind) (a b : NodeId) (first : Acted) → act world (RaiseFirst own a b) ≡ Ok first
    → scenario_of first.world ≡ scenario_of world
raised_scenario world own a b first e =
    by (system.called (Own a (steps.Raised own b)) world.network.state)
    (called_scenario world.network.state a (world.network.state.node a) (steps.Raised own b)) e
  where
    by : (o : Option (Stepped Nodes)) → SameScenario world.network.state o
        → with_network world [] (with_earlier [] (with_step (joined_now (direction own a b) system world.network (is_of_session own a b)) o >>?
        λ next. with_earlier next.puts (Some (record { network = next.network; puts = [] })))) a ≡ Ok first
        → scenario_of first.world ≡ scenario_of world
    by None same f = absurd cc
    by (Some new) same f =
        let next : OctetNetwork Nodes = octets.with_octets (joined_now (direction own a b) system world.network (is_of_session own a b)) new in
        let made : Acted = record { world = record world { network = next }; lines = put_lines (scenario_of world) (new.puts ++ []) } in
        let is : made ≡ first = cc in
        subst (λ (f : Acted). scenario_of f.world ≡ scenario_of world) is same

-- ---- both ends of a session come up

module _ (kind : Kind) (from to : NodeId) where
  network_joins : (world : World) (old : OctetNetwork Nodes) (found : Option (Behind (OctetNetwork Nodes))) (node : NodeId) (acted : Acted)
      → old.transit (direction kind from to) ≡ [] → Once kind from to (directions (scenario_of world)) → scenario_of acted.world ≡ scenario_of world
      → FlowsBehind (direction kind from to) old [] found → with_network world [] found node ≡ Ok acted → Joins acted.world kind from to acted.lines
  network_joins world old None node acted empty once same f e = absurd cc
  network_joins world old (Some new) node acted empty once same f e =
      let made : Acted = record { world = record world { network = new.network }; lines = put_lines (scenario_of world) new.puts } in
      let is : made ≡ acted = cc in
      let none : f.left ≡ [] = sym f.parts ∙ empty in
      subst (λ (a : Acted). scenario_of a.world ≡ scenario_of world → Joins a.world kind from to a.lines) is (λ own. record {
        took = puts_take kind from to new.puts (directions (scenario_of world));
        once = subst (λ (s : Scenario). Once kind from to (directions s)) (sym own) once;
        joined = λ j. (f.joined j).1 ∙ (λ i. none i ++ sym (lines_put kind from to (scenario_of world) new.puts once) i);
        idle = f.idle;
      }) same

  pub declared_once : (scenario : Scenario) (session : Session) → Declared scenario session
      → is_of_session session.kind session.a session.b (direction kind from to) ≡ true → Once kind from to (directions scenario)
  declared_once scenario session declared on =
      let x = and_parts (same_kind session.kind kind) (is_between session.a session.b from to) on in
      let same : session.kind ≡ kind = kind_is session.kind kind x.0 in
      subst (λ (k : Kind). Once k from to (directions scenario)) same
      (between (λ u n. Once session.kind u n (directions scenario)) session.a session.b from to declared.lone.0 declared.lone.1 x.1)

  first_way : (scenario : Scenario) (trace : List Traced) (number : ℕ) (world : World) (session : Session) (first : Acted) → Declared scenario session
      → scenario_of world ≡ scenario → act world (RaiseFirst session.kind session.a session.b) ≡ Ok first → Way trace world kind from to
      → Way (trace ++ stepped number (RaiseFirst session.kind session.a session.b) first ∷ []) first.world kind from to
  first_way scenario trace number world session first declared own e w =
      by (is_of_session session.kind session.a session.b (direction kind from to)) refl
    where
      same : scenario_of first.world ≡ scenario_of world
      same = raised_scenario world session.kind session.a session.b first e

      hits : hit kind from to (stepped number (RaiseFirst session.kind session.a session.b) first)
          ≡ is_of_session session.kind session.a session.b (direction kind from to)
      hits = raise_is kind from to session.kind session.a session.b

      by : (t : Bool) → is_of_session session.kind session.a session.b (direction kind from to) ≡ t
          → Way (trace ++ stepped number (RaiseFirst session.kind session.a session.b) first ∷ []) first.world kind from to
      by true on =
          way_joins kind from to trace first.world (stepped number (RaiseFirst session.kind session.a session.b) first) (hits ∙ on)
          (network_joins world (joined_now (direction kind from to) system world.network (is_of_session session.kind session.a session.b))
          (octet_run system world.network (octets.Join (is_of_session session.kind session.a session.b)
          ∷ octets.Call (Own session.a (steps.Raised session.kind session.b)) ∷ [])) session.a first
          (ap (λ (t : Bool). cond t [] (world.network.transit (direction kind from to))) on)
          (subst (λ (s : Scenario). Once kind from to (directions s)) (sym own) (declared_once scenario session declared on)) same
          (joins (direction kind from to) system world.network (is_of_session session.kind session.a session.b)
          (Own session.a (steps.Raised session.kind session.b)) on) e)
      by false off =
          way_moves kind from to trace world first.world (stepped number (RaiseFirst session.kind session.a session.b) first) (hits ∙ off) same
          (network_moves kind from to world [] (octet_run system world.network
          (octets.Join (is_of_session session.kind session.a session.b) ∷ octets.Call (Own session.a (steps.Raised session.kind session.b)) ∷ []))
          session.a first refl
          (join_flows (direction kind from to) system world.network (is_of_session session.kind session.a session.b)
          (Own session.a (steps.Raised session.kind session.b)) off w.idle) e) w

-- ---- a trace

split_last : {X : Type 0} (trace before after : List X) (x : X) → trace ++ x ∷ [] ≡ before ++ after
    → (before ≡ trace ++ x ∷ []) ⊎ ((more : List X) × (trace ≡ before ++ more))
split_last trace [] after x e = inr (trace, refl)
split_last [] (y ∷ []) after x e = (let same : y ≡ x = cc in inl (λ i. same i ∷ []))
split_last [] (y ∷ z ∷ ys) after x e = absurd cc
split_last (t ∷ trace) (y ∷ ys) after x e =
    let head : t ≡ y = cc in
    let tail : trace ++ x ∷ [] ≡ ys ++ after = cc in
    elim (split_last trace ys after x tail) [
      | inl same ↦ inl (λ i. sym head i ∷ same i)
      | inr (more, same) ↦ inr (more, λ i. head i ∷ same i)
    ]

-- What was taken is a first part of what was put, at each moment so far; and how it is now.
pub record Taking (trace : List Traced) (world : World) : Type 0 where
  pub takes : TakesWhatWasPut trace
  pub ways : (kind : Kind) (from to : NodeId) → Way trace world kind from to

takes_next : (trace : List Traced) (step : Traced) (new : World) → TakesWhatWasPut trace
    → ((kind : Kind) (from to : NodeId) → Way (trace ++ step ∷ []) new kind from to) → Taking (trace ++ step ∷ []) new
takes_next trace step new takes ways = record {
  takes = λ before after kind from to e. elim (split_last trace before after step e) [
    | inl same ↦ subst (λ (b : List Traced). (rest : List ℕ) × (put_since kind from to b ≡ taken_since kind from to b ++ rest)) (sym same)
        (ways kind from to).first
    | inr (more, same) ↦ takes before more kind from to same
  ];
  ways = ways;
}

-- the directions where a session is not joined are idle
all_idle : (trace : List Traced) (world : World) → Taking trace world → (kind : Kind) (from to : NodeId)
    → IsIdle (direction kind from to) world.network
all_idle trace world t kind from to = (t.ways kind from to).idle

pub taking_kept : (scenario : Scenario) → Keeps scenario Taking
taking_kept scenario = record {
  single = λ before number world one acted s sound fit e s_new k.
      takes_next before (stepped number one acted) acted.world k.takes (λ kind from to.
      way_moves kind from to before world acted.world (stepped number one acted) (single_hits kind from to number world one acted fit)
      (s_new.2.base.sound.same ∙ sym s.2.base.sound.same)
      (single_moves kind from to world one acted fit (all_idle before world k) e) (k.ways kind from to));
  pair = λ before number world session first second declared s off back e f s_new k.
      let one : Traced = stepped number (RaiseFirst session.kind session.a session.b) first in
      let two : Traced = stepped number (RaiseSecond session.kind session.a session.b) second in
      let mid : Taking (before ++ one ∷ []) first.world =
      takes_next before one first.world k.takes (λ kind from to. first_way kind from to scenario before number world session first declared
      s.2.base.sound.same e (k.ways kind from to)) in
      let same : scenario_of second.world ≡ scenario_of first.world =
      s_new.2.base.sound.same ∙ sym s.2.base.sound.same ∙ sym (raised_scenario world session.kind session.a session.b first e) in
      subst (λ (t : List Traced). Taking t second.world) (append_assoc before (one ∷ []) (two ∷ []))
      (takes_next (before ++ one ∷ []) two second.world mid.takes (λ kind from to.
      way_moves kind from to (before ++ one ∷ []) first.world second.world two refl same
      (quiet_moves kind from to first.world session.b (octets.Call (Own session.b (steps.Raised session.kind session.a)) ∷ []) second (tt, tt)
      (all_idle (before ++ one ∷ []) first.world mid kind from to) f) (mid.ways kind from to)));
  accepted =
      λ before world datagram s k. record {
        takes = k.takes;
        ways =
            λ kind from to. (let w = k.ways kind from to in record { first = w.first; joined = w.joined; idle = w.idle });
      };
  refused = λ before number world line reason k.
      let step : Traced = record { event = number; happened = record { act = None; lines = lines.Refused line reason ∷ [] } } in
      takes_next before step world k.takes (λ kind from to. way_moves kind from to before world world step refl refl
      (rests kind from to world (lines.Refused line reason ∷ []) (all_idle before world k kind from to) refl refl) (k.ways kind from to));
}

pub taking_start : (scenario : Scenario) (cores : Cores) → Taking [] (start scenario cores)
taking_start scenario cores = record {
  takes = λ before after kind from to e. subst (λ (b : List Traced). (rest : List ℕ)
      × (put_since kind from to b ≡ taken_since kind from to b ++ rest)) (sym (nil_left before after e)) ([], refl);
  ways = λ kind from to. record { first = ([], refl); joined = λ e. absurd cc; idle = λ e. refl };
}
  where
    nil_left : (xs ys : List Traced) → [] ≡ xs ++ ys → xs ≡ []
    nil_left [] ys e = refl
    nil_left (x ∷ xs) ys e = absurd cc

pub run_takes : (scenario : Scenario) (cores : Cores) (all : List Timed) (trace : List Traced) (new : World) → SoundScenario scenario
    → AllByRecursion (λ timed. IsSoundEvent scenario timed.event) all → Runs (start scenario cores) 0 all trace new
    → InStep scenario (start scenario cores)
    → Taking trace new
run_takes scenario cores all trace new lines sound run s =
    runs_follow scenario Taking (taking_kept scenario) all sound [] (start scenario cores) 0 trace new s (taking_start scenario cores) run

-- the same after the first act of a raise
pub first_taking : (scenario : Scenario) (before : List Traced) (number : ℕ) (world : World) (session : Session) (first : Acted)
    → Declared scenario session → scenario_of world ≡ scenario → act world (RaiseFirst session.kind session.a session.b) ≡ Ok first
    → Taking before world
    → Taking (before ++ stepped number (RaiseFirst session.kind session.a session.b) first ∷ []) first.world
first_taking scenario before number world session first declared own e k =
    takes_next before (stepped number (RaiseFirst session.kind session.a session.b) first) first.world k.takes
    (λ kind from to. first_way kind from to scenario before number world session first declared own e (k.ways kind from to))
