-- A network in which nothing has happened, and scripts that never halt.
use Rattle.std.proofs.Common.{◌≡◌, ℕ, ◌+◌, ◌<◌, ◌≤◌, Bool, true, false, cond, List, [], ◌∷◌, map, length, take, drop, slice_get, sum_by, count_by, zero, suc, is_some, Option, Some, None, inl, inr, refl, sym, ap, subst, ◌∙◌, arith}
use Rattle.std.specs.List.{AllByRecursion}
use Rattle.std.specs.FinMap as maps
use Rattle.std.proofs.lemmas.List.{length-map, length-replicate, take-append-drop}
use Rattle.std.proofs.lemmas.Option.{none-some, same_Some}
use Rattle.mv_base.specs.Lists.{Among}
use Rattle.mv_base.specs.declared.addr.Addr.{Addr}
use Rattle.mv_base.specs.declared.addr.Addr.TheVariants.{V4}
use Rattle.mv_base.specs.declared.ids.NodeId.{NodeId}
use Rattle.mldp.specs.declared.mldp_fec.fec.Fec.{Fec}
use Rattle.scenario_defs.specs.Rules.{Rules, IsEventOf, ScriptRules}
use Rattle.scenario_defs.specs.declared.event.Kind.{Kind}
use Rattle.scenario_defs.specs.declared.event.Kind.TheVariants as kinds
use Rattle.scenario_defs.specs.declared.event.Script.{Script}
use Rattle.scenario_defs.specs.declared.event.Timed.{Timed}
use Rattle.scenario_defs.specs.declared.scenario.Node.{Node}
use Rattle.scenario_defs.specs.declared.scenario.Scenario.{Scenario}
use Rattle.scenario_defs.specs.declared.scenario.Vrf.{Vrf}
use Rattle.label_defs.specs.Keys.{node_cmp}
use Rattle.label_defs.specs.LabelData as label_data
use Rattle.label_defs.specs.LabelData.{LabelData}
use Rattle.label_defs.specs.declared.end.End.{End}
use Rattle.pim_defs.specs.Entries.{entry_cmp}
use Rattle.edge_defs.specs.Edge as edges
use Rattle.edge_defs.specs.Edge.{pattern_cmp, Selected, TakenRoute, Taken, Control, no_control}
use Rattle.edge_defs.specs.Keys.{key_cmp}
use Rattle.edge_defs.specs.Place.{EdgePlace, addr_of, lsp, tunnel_number}
use Rattle.edge_words.proofs.edge_laws.Taken.{table_in}
use Rattle.edge_words.proofs.calm_laws.Flows.{Stands, fresh_stands}
use Rattle.edge_words.proofs.calm_laws.Lists.{among_map}
use Rattle.edge_words.proofs.calm_laws.Vrfs.{own_at, own_edge}
use Rattle.mvpn_model.specs.Report.{Entry}
use Rattle.network_defs.specs.Costs.{Cores, AreCoresOf}
use Rattle.network_defs.specs.Counts.{is_end_up}
use Rattle.network_defs.specs.Nodes.{Edge, CoreNode, Nodes, is_edge, fresh_node, start_nodes, place_of, label_place_of, part_of}
use Rattle.network_defs.specs.Refusals.{control_of}
use Rattle.network_defs.specs.Run.{Traced, Run, Halts}
use Rattle.network_defs.specs.World.{World, start}
use Rattle.network_laws.specs.Sound.{SoundScenario}
use Rattle.network_laws.specs.Honest.{IsSoundEvent}
use Rattle.network_laws.proofs.NodeCalls.{start_sound}
use Rattle.run_laws.specs.Octets.{EventHasOctets, ScriptHasOctets}
use Rattle.run_laws.specs.Runs.{RunsOrHalts, AllRun, OneHalts}
use Rattle.run_laws.proofs.Halting.{either}
use Rattle.run_laws.proofs.SoundEvents.{sound_event}
use Rattle.growth_laws.specs.Labels.{Growing, labels_held}
use Rattle.growth_laws.specs.Scripts.{HasOneHome, ticks_of, is_selection, OnlyGrows}
use Rattle.growth_laws.proofs.Calls.{fresh_grows}
use Rattle.growth_laws.proofs.Counts.{few_held}
use Rattle.growth_laws.proofs.Effects.{Grown}
use Rattle.growth_laws.proofs.NodeSteps.{kept}
use Rattle.growth_laws.proofs.Runs.{Left, never_halts, runs_grow}
use Rattle.growth_laws.proofs.Told.{HasInclusive}
use Rattle.growth_laws.proofs.Worlds.{WorldGrown}

-- the inclusive tunnels of all VRFs
abbrev pub inclusive_of : Scenario → Vrf → Fec
inclusive_of scenario vrf = lsp (addr_of scenario vrf.edge) (tunnel_number vrf 0)

abbrev pub inclusive_trees : Scenario → List Fec
inclusive_trees scenario = map (inclusive_of scenario) scenario.vrfs

among_at : {X : Type 0} (xs : List X) (k : ℕ) (x : X) → slice_get xs k ≡ Some x → Among x xs
among_at [] k x e = absurd (none-some x e)
among_at (y ∷ xs) zero x e = inl (sym (same_Some y x e))
among_at (y ∷ xs) (suc k) x e = inr (among_at xs k x e)

has_inclusive : (scenario : Scenario) (place : EdgePlace) → place.scenario ≡ scenario → HasInclusive (inclusive_trees scenario) place
has_inclusive scenario place e = subst (λ (own : Scenario). HasInclusive (inclusive_trees own) place) e of_own
  where
    of_own : HasInclusive (inclusive_trees place.scenario) place
    of_own own a =
        let number : own.vrf.edge.0 ≡ place.me.0 = own_edge place own a in
        let addr : addr_of place.scenario own.vrf.edge ≡ addr_of place.scenario place.me =
        ap (λ (k : ℕ). elim (slice_get place.scenario.nodes k) as (λ (o : Option Node). Addr) [ None ↦ V4 [] | Some found ↦ found.addr ]) number
        in
        subst (λ (x : Addr). Among (lsp x (tunnel_number own.vrf 0)) (inclusive_trees place.scenario)) addr
        (among_map (inclusive_of place.scenario) own.vrf place.scenario.vrfs (among_at place.scenario.vrfs own.id.0 own.vrf (own_at place own a)))

-- ---- fresh nodes

fresh_part : (scenario : Scenario) (n : NodeId) → part_of (fresh_node scenario n) ≡ label_data.fresh scenario.labels
fresh_part scenario n = by (is_edge scenario n)
  where
    by : (b : Bool) → part_of (cond b (Edge (edges.fresh scenario.labels)) (CoreNode (label_data.fresh scenario.labels)))
        ≡ label_data.fresh scenario.labels
    by true = refl
    by false = refl

fresh_control : (scenario : Scenario) (n : NodeId) → control_of (fresh_node scenario n) ≡ no_control
fresh_control scenario n = by (is_edge scenario n)
  where
    by : (b : Bool) → control_of (cond b (Edge (edges.fresh scenario.labels)) (CoreNode (label_data.fresh scenario.labels))) ≡ no_control
    by true = refl
    by false = refl

none_up : (scenario : Scenario) (kind : Kind) (n peer : NodeId) → is_end_up kind (fresh_node scenario n) peer ≡ true → ⊥
none_up scenario kind n peer h = by (is_edge scenario n) kind h
  where
    no_end : is_some (maps.get (maps.empty {X = End} {R = node_cmp}) peer) ≡ true → ⊥
    no_end e = (let bad : false ≡ true = sym (ap is_some (maps.get-empty {X = End} node_cmp peer)) ∙ e in absurd cc)

    no_table : is_some (maps.get (maps.empty {X = Taken} {R = node_cmp}) peer) ≡ true → ⊥
    no_table e = (let bad : false ≡ true = sym (ap is_some (maps.get-empty {X = Taken} node_cmp peer)) ∙ e in absurd cc)

    by : (b : Bool) (own : Kind) → is_end_up own (cond b (Edge (edges.fresh scenario.labels)) (CoreNode (label_data.fresh scenario.labels))) peer
        ≡ true → ⊥
    by true kinds.Bgp e = no_table e
    by true kinds.Ldp e = no_end e
    by false kinds.Bgp e = absurd (let bad : false ≡ true = e in cc)
    by false kinds.Ldp e = no_end e

nothing_grown : (horizon : ℕ) (trees : List Fec) (at : NodeId → EdgePlace) (all : NodeId → Control) (n : NodeId)
    → Grown horizon trees at all n no_control
nothing_grown horizon trees at all n = record {
  lasting = λ own expiry h. absurd (none-some expiry (sym (maps.get-empty entry_cmp own) ∙ h));
  picked = λ own pattern selected a h. absurd (none-some selected
      (sym (maps.get-empty pattern_cmp (record { vrf = own.id; pattern = pattern })) ∙ h));
  told = λ u key route not h. absurd (none-some route
      (sym (ap (λ (o : Option Taken). maps.get (table_in o) key) (maps.get-empty node_cmp u) ∙ maps.get-empty key_cmp key) ∙ h));
  alone = maps.get-empty node_cmp n;
}

-- ---- the start

start_grown : (scenario : Scenario) (cores : Cores) (horizon : ℕ) → SoundScenario scenario → HasOneHome scenario
    → length scenario.vrfs < scenario.labels → WorldGrown scenario horizon 0 (inclusive_trees scenario) (start scenario cores)
start_grown scenario cores horizon sound home room = (
  (λ over. []),
  (λ over. (refl, refl)),
  start_sound scenario cores sound,
  record {
    nodes = record {
      rules = sound.rules;
      home = home;
      early = omega arith;
      inclusive = λ u. has_inclusive scenario (place_of nodes u) refl;
      labels = λ u. subst (Growing (label_place_of nodes u) (inclusive_trees scenario)) (sym (fresh_part scenario u))
          (fresh_grows (label_place_of nodes u) (inclusive_trees scenario) scenario.labels
          (subst (λ n. n < scenario.labels) (sym (length-map scenario.vrfs (inclusive_of scenario))) room));
      many = λ u. ap (λ (part : LabelData). length part.labels) (fresh_part scenario u) ∙ length-replicate scenario.labels _;
      edges = λ u. subst (Grown horizon (inclusive_trees scenario) (place_of nodes) (kept nodes) u) (sym (fresh_control scenario u))
          (nothing_grown horizon (inclusive_trees scenario) (place_of nodes) (kept nodes) u);
      stands = λ u. subst (Stands (place_of nodes u) 0) (sym (fresh_control scenario u)) (fresh_stands (place_of nodes u) 0);
    };
    clock = refl;
    transit = λ over. tt;
    alike = λ kind a b. refl;
    ends = λ kind u peer h. absurd (none_up scenario kind u peer h);
  },
)
  where
    nodes : Nodes
    nodes = start_nodes scenario cores

-- ---- scripts

all_sound : (scenario : Scenario) → Rules scenario → (row : List Timed) → AllByRecursion (λ (timed : Timed). IsEventOf scenario timed.event) row
    → AllByRecursion (λ (timed : Timed). EventHasOctets timed.event) row
    → AllByRecursion (λ (timed : Timed). IsSoundEvent scenario timed.event) row
all_sound scenario rules [] is octets = tt
all_sound scenario rules (timed ∷ more) is octets =
    (sound_event scenario timed.event rules is.0 octets.0, all_sound scenario rules more is.1 octets.1)

-- what is left of a script at its start is all of it
all_left : (script : Script) → ScriptRules script → ScriptHasOctets script → OnlyGrows script
    → Left script.scenario (sum_by (λ (timed : Timed). ticks_of timed.event) script.events) 0 (inclusive_trees script.scenario) script.events
all_left script rules octets grows =
    let long : length (inclusive_trees script.scenario) ≡ length script.scenario.vrfs =
    length-map script.scenario.vrfs (inclusive_of script.scenario) in
    let room = grows.labels in
    record {
      adds = grows.adds;
      sound = all_sound script.scenario rules.scenario script.events rules.events octets.events;
      short = omega arith;
      room = omega (arith, long, room);
    }

script_starts : (cores : Cores) (script : Script) (horizon : ℕ) → ScriptRules script → ScriptHasOctets script → OnlyGrows script
    → WorldGrown script.scenario horizon 0 (inclusive_trees script.scenario) (start script.scenario cores)
script_starts cores script horizon rules octets grows =
    let room = grows.labels in
    start_grown script.scenario cores horizon (record { rules = rules.scenario; octets = octets.scenario }) grows.home (omega (arith, room))

pub growing_never_halt : (cores : Cores) (script : Script) (report : List Entry) (node : NodeId) → ScriptRules script → ScriptHasOctets script
    → OnlyGrows script → Halts cores script report node → ⊥
growing_never_halt cores script report node rules octets grows halt =
    let scenario : Scenario = script.scenario in
    let horizon : ℕ = sum_by (λ (timed : Timed). ticks_of timed.event) script.events in
    let trees : List Fec = inclusive_trees scenario in
    never_halts scenario horizon grows.short halt.before halt.timed halt.after 0 0 trees (start scenario cores) halt.trace halt.world halt.acts node
    (script_starts cores script horizon rules octets grows) (subst (Left scenario horizon 0 trees) halt.events (all_left script rules octets grows))
    halt.run halt.lacks

-- after first events a node holds a label for each tree at most
pub growing_holds_few : (cores : Cores) (script : Script) (count : ℕ) (trace : List Traced) (world : World) (node : NodeId) → ScriptRules script
    → ScriptHasOctets script → OnlyGrows script
    → Run cores script (take count script.events) trace world
    → labels_held (part_of (world.network.state.node node)) ≤ length script.scenario.vrfs + count_by (λ (timed : Timed). is_selection timed.event)
    (take count script.events)
growing_holds_few cores script count trace world node rules octets grows run =
    let scenario : Scenario = script.scenario in
    let horizon : ℕ = sum_by (λ (timed : Timed). ticks_of timed.event) script.events in
    let trees : List Fec = inclusive_trees scenario in
    let thereafter =
    runs_grow scenario horizon grows.short (take count script.events) (drop count script.events) 0 0 trees (start scenario cores) trace world
    (script_starts cores script horizon rules octets grows)
    (subst (Left scenario horizon 0 trees) (sym (take-append-drop count script.events)) (all_left script rules octets grows)) run in
    let held = few_held _ thereafter.more (part_of (world.network.state.node node)) (thereafter.grown.3.nodes.labels node) in
    let few = thereafter.few in
    let long : length trees ≡ length scenario.vrfs = length-map scenario.vrfs (inclusive_of scenario) in
    omega (arith, held, few, long)

-- all events run, since none halts
pub growing_run : (cores : Cores) (script : Script) → AreCoresOf script.scenario cores → ScriptRules script → ScriptHasOctets script
    → OnlyGrows script → (trace : List Traced) × (new : World) × Run cores script script.events trace new
growing_run cores script of_scenario rules octets grows = by (either cores script script.events of_scenario)
  where
    by : RunsOrHalts cores script → (trace : List Traced) × (new : World) × Run cores script script.events trace new
    by (AllRun trace new run) = (trace, new, run)
    by (OneHalts report node halt) = absurd (growing_never_halt cores script report node rules octets grows halt)
