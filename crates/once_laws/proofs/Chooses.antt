-- After every run each VRF chooses by its rule.
use Rattle.std.proofs.Common.{◌≡◌, ℕ, ◌/◌, ◌-◌, ◌^◌, true, List, refl, sym, ap, subst, ◌∙◌}
use Rattle.std.specs.Int.{w32, w128, from_be_bytes}
use Rattle.std.proofs.lemmas.Bool.{eq-eqb, eqb-true}
use Rattle.std.proofs.lemmas.Option.{slice_get_within}
use Rattle.mv_base.specs.Prefix.{same_front, covers}
use Rattle.mv_base.specs.declared.addr.Addr.{Addr}
use Rattle.mv_base.specs.declared.addr.Addr.TheVariants.{V4, V6}
use Rattle.mv_base.specs.declared.ids.NodeId.{NodeId}
use Rattle.mv_base.specs.declared.prefix.Prefix.{Prefix}
use Rattle.scenario_defs.specs.Home.{local_routes, routes}
use Rattle.scenario_defs.specs.Rules.{Rules}
use Rattle.scenario_defs.specs.Vpn.{is_attached, is_attached_at, targets_of}
use Rattle.scenario_defs.specs.declared.event.Script.{Script}
use Rattle.scenario_defs.specs.declared.event.Timed.{Timed}
use Rattle.scenario_defs.specs.declared.scenario.Route.{Route}
use Rattle.choice_defs.specs.Choice.{IsOnePrefix, AreOfSites}
use Rattle.choice_defs.specs.declared.known_route.KnownRoute.{KnownRoute}
use Rattle.choice_defs.specs.declared.origin.Origin.TheVariants as origins
use Rattle.selective_defs.specs.Selective.{Among}
use Rattle.edge_defs.specs.Edge.{Control, EdgeData}
use Rattle.edge_defs.specs.Place.{EdgePlace, OwnVrf}
use Rattle.edge_defs.specs.Upstream.{known_routes}
use Rattle.edge_words.proofs.calm_laws.Targets.{same_itself}
use Rattle.edge_words.specs.Known.{AreNodes}
use Rattle.edge_words.proofs.Known.{of_edges, chosen_is, local_is}
use Rattle.network_defs.specs.Costs.{Cores}
use Rattle.network_defs.specs.Nodes.{NodeState, Edge, place_of}
use Rattle.network_defs.specs.Run.{Traced}
use Rattle.network_defs.specs.World.{World}
use Rattle.network_laws.specs.Sound.{HasOctets}
use Rattle.network_laws.specs.SoundRun.{SoundRun}
use Rattle.once_laws.specs.Chooses.{ChoosesByTheRule}
use Rattle.once_laws.specs.Facts.{NodeFact, EdgeFact}
use Rattle.once_laws.proofs.Choices.{attached_of}
use Rattle.once_laws.proofs.Edges.{edge_of}
use Rattle.once_laws.proofs.Facts.{run_facts}
use Rattle.once_laws.proofs.Homes.{other_test, route_of, one_site}

-- ---- one prefix covers itself

itself : (a : Addr) (bits : ℕ) → same_front a a bits ≡ true
itself (V4 xs) bits = eq-eqb (from_be_bytes w32 xs / 2 ^ (32 - bits)) (from_be_bytes w32 xs / 2 ^ (32 - bits)) refl
itself (V6 xs) bits = eq-eqb (from_be_bytes w128 xs / 2 ^ (128 - bits)) (from_be_bytes w128 xs / 2 ^ (128 - bits)) refl

turned : (a b : Addr) (bits : ℕ) → same_front a b bits ≡ true → same_front b a bits ≡ true
turned (V4 xs) (V4 ys) bits h = eq-eqb _ _ (sym (eqb-true (from_be_bytes w32 xs / 2 ^ (32 - bits)) (from_be_bytes w32 ys / 2 ^ (32 - bits)) h))
turned (V6 xs) (V6 ys) bits h = eq-eqb _ _ (sym (eqb-true (from_be_bytes w128 xs / 2 ^ (128 - bits)) (from_be_bytes w128 ys / 2 ^ (128 - bits)) h))
turned (V4 xs) (V6 ys) bits h = absurd cc
turned (V6 xs) (V4 ys) bits h = absurd cc

-- ---- local routes of one prefix are of one site

module _ (place : EdgePlace) (rules : Rules place.scenario) (octets : HasOctets place.scenario) (control : Control) (own : OwnVrf) where
  in_vpn : (route : Route) → Among route (local_routes place.scenario own.id) → Among route (routes place.scenario own.id)
  in_vpn route a =
      let r = route_of (is_attached_at place.scenario own.id) 0 place.scenario.sites route a in
      other_test (is_attached_at place.scenario own.id) (is_attached place.scenario own.id) place.scenario.sites route a
      (attached_of place.scenario own.id own.id route.site (same_itself (targets_of place.scenario own.id)) r.passed)

  one_local : (a b : Route) → Among a (local_routes place.scenario own.id) → Among b (local_routes place.scenario own.id)
      → IsOnePrefix a.prefix b.prefix → a.site ≡ b.site
  one_local a b in_a in_b same =
      let there : covers b.prefix a.prefix.addr ≡ true =
      subst (λ (bits : ℕ). same_front b.prefix.addr a.prefix.addr bits ≡ true) same.0 (turned a.prefix.addr b.prefix.addr a.prefix.bits same.1) in
      let numbers =
      one_site place.scenario rules octets own.id a b a.prefix.addr (in_vpn a in_a) (in_vpn b in_b) same.0 (itself a.prefix.addr a.prefix.bits)
      there in
      λ i. record { 0 = numbers i }

  of_sites : AreOfSites (known_routes place control own)
  of_sites route other site other_site a b same e f =
      let x = local_is place control own route site a e in
      let y = local_is place control own other other_site b f in
      let one =
      one_local x.0 y.0 x.1 y.1 (subst (λ (p : Prefix). IsOnePrefix p y.0.prefix) (ap (λ (r : KnownRoute). r.prefix) x.2)
      (subst (λ (q : Prefix). IsOnePrefix route.prefix q) (ap (λ (r : KnownRoute). r.prefix) y.2) same)) in
      let here : origins.Local site ≡ origins.Local x.0.site = sym e ∙ ap (λ (r : KnownRoute). r.origin) x.2 in
      let there : origins.Local other_site ≡ origins.Local y.0.site = sym f ∙ ap (λ (r : KnownRoute). r.origin) y.2 in
      let sites : site ≡ x.0.site = cc in
      let others : other_site ≡ y.0.site = cc in
      sites ∙ one ∙ sym others

-- ---- runs

pub choose_by_rule : (cores : Cores) (script : Script) (events : List Timed) (trace : List Traced) (world : World)
    → SoundRun cores script events trace world → (n : NodeId) (edge : EdgeData)
    → world.network.state.node n ≡ Edge edge → (own : OwnVrf) → ChoosesByTheRule (place_of world.network.state n) edge.control own
choose_by_rule cores script events trace world sound n edge e own =
    let facts = (run_facts script.scenario cores events trace world sound.run).0 in
    let place : EdgePlace = place_of world.network.state n in
    let rules : Rules place.scenario = subst Rules (sym facts.same) sound.scenario.rules in
    let octets : HasOctets place.scenario = subst HasOctets (sym facts.same) sound.scenario.octets in
    let fact : EdgeFact place world.network.state.clock edge =
    subst (λ (state : NodeState). NodeFact place world.network.state.clock state) e (facts.node n) in
    let nodes : AreNodes place edge.control =
    λ peer up. (let at = edge_of place.scenario peer (fact.peers peer up).0 in slice_get_within place.scenario.nodes peer.0 at.node at.at) in
    record {
      edges = of_edges place edge.control own rules nodes;
      sites = of_sites place rules octets edge.control own;
      chosen = λ source group up h. chosen_is place edge.control own source group rules nodes up h;
    }
