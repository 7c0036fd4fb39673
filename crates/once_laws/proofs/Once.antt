-- At a line of zeros choices are calm.
use Rattle.std.specs.Prelude.{count_by, take, if◌then◌else◌}
use Rattle.std.proofs.Common.{◌≡◌, ℕ, zero, suc, ◌+◌, ◌==◌, ◌&&◌, Bool, true, false, not, cond, List, [], ◌∷◌, slice_get, Option, Some, None, option_map, refl, sym, ap, ◌∙◌, arith}
use Rattle.std.specs.Cmp.{both_ways}
use Rattle.std.specs.List.{list_any}
use Rattle.std.proofs.lemmas.Bool.{true≢false, false_from_ne_true, and_parts, and_from, eq-eqb, eqb-true}
use Rattle.std.proofs.lemmas.Option.{none-some, same_Some}
use Rattle.mv_base.specs.declared.ids.IfaceId.{IfaceId}
use Rattle.mv_base.specs.declared.ids.NodeId.{NodeId}
use Rattle.mv_base.specs.declared.ids.SiteId.{SiteId}
use Rattle.mv_base.specs.declared.ids.VrfId.{VrfId}
use Rattle.mvpn_model.specs.Once.{Once}
use Rattle.mvpn_model.specs.Past as pasts
use Rattle.mvpn_model.specs.Past.{Past, is_home}
use Rattle.mvpn_model.specs.Report.{refused_lines}
use Rattle.scenario_defs.specs.Home.{home}
use Rattle.scenario_defs.specs.Vpn.{is_of_site, same_vpn, vrf_of_site, edge_of, ifaces_where, entered}
use Rattle.scenario_defs.specs.declared.event.Script.{Script}
use Rattle.scenario_defs.specs.declared.event.Timed.{Timed}
use Rattle.scenario_defs.specs.declared.scenario.Iface.{Iface}
use Rattle.scenario_defs.specs.declared.scenario.Scenario.{Scenario}
use Rattle.scenario_defs.specs.declared.scenario.Vrf.{Vrf}
use Rattle.selective_defs.specs.Selective.{Among}
use Rattle.network_defs.specs.Costs.{Cores}
use Rattle.edge_words.proofs.calm_laws.Lists.{any_from, any_among}
use Rattle.delivery_laws.specs.Choice.{serves_by, serves_from, is_served, CalmChoice}
use Rattle.delivery_laws.specs.Once.{receives_by, past_of}
use Rattle.delivery_laws.proofs.OnceLemmas.{calm_choices_once}
use Rattle.delivery_laws.proofs.Copies.{all_take}
use Rattle.scenario_defs.specs.Rules.{Rises}
use Rattle.network_laws.specs.Honest.{IsSoundEvent}
use Rattle.network_defs.specs.Run.{Traced, Run, report_of}
use Rattle.network_defs.specs.World.{World, Datagram, scenario_of}
use Rattle.network_laws.specs.SoundRun.{SoundRun}
use Rattle.once_laws.specs.Run.{CalmRun}
use Rattle.once_laws.specs.Told.{AsksAreTold, NotesAreTold}
use Rattle.once_laws.proofs.Behind.{Known, known_of, trees_calm}
use Rattle.once_laws.proofs.CalmFlows.{among_where, where_among}
use Rattle.once_laws.proofs.Receivers as receivers
use Rattle.once_laws.proofs.Receivers.{Receives, served_receives, receives_served, home_vpn, count_none, count_one}
use Rattle.once_laws.proofs.Notes.{notes_told}
use Rattle.once_laws.proofs.StandRuns.{asks_told}
use Rattle.once_laws.proofs.Serves.{Here, here_of, served_by, one_serves}

module _ (scenario : Scenario) (cores : Cores) (world : World) (k : Known scenario cores world) (datagram : Datagram) (past : Past)
    (of_past : past.scenario ≡ scenario_of world) (told : AsksAreTold past world × NotesAreTold past world) (iface : IfaceId) where
  abbrev sc : Scenario
  sc = scenario_of world

  abbrev test : Scenario → VrfId → IfaceId → Iface → Bool
  test s u number found = same_vpn s u found.vrf && not (is_of_site datagram.site found) && pasts.asks past number datagram.source datagram.group

  abbrev by_vrf : Scenario → Option VrfId → List IfaceId
  by_vrf s o = elim o [ None ↦ [] | Some u ↦ (if is_home s u datagram.source datagram.site then ifaces_where (test s u) 0 s.ifaces else []) ]

  abbrev is_it : IfaceId → Bool
  is_it receiver = receiver.0 == iface.0

  -- the receivers, by the scenario of the network
  received : receives_by past datagram.site datagram.source datagram.group iface ≡ list_any is_it (by_vrf sc (vrf_of_site sc datagram.site))
  received = ap (λ (s : Scenario). list_any is_it (by_vrf s (vrf_of_site s datagram.site))) of_past

  -- an interface that receives is one of the scenario
  listed : (o : Option VrfId) → vrf_of_site sc datagram.site ≡ o → list_any is_it (by_vrf sc o) ≡ true
      → (u : VrfId) × (vrf_of_site sc datagram.site ≡ Some u) × (is_home sc u datagram.source datagram.site ≡ true)
      × ((found : Iface) × (slice_get sc.ifaces iface.0 ≡ Some found) × (test sc u iface found ≡ true))
  listed None e h = absurd (true≢false (sym h))
  listed (Some u) e h = by (is_home sc u datagram.source datagram.site) refl h
    where
      by : (b : Bool) → is_home sc u datagram.source datagram.site ≡ b → list_any is_it (cond b (ifaces_where (test sc u) 0 sc.ifaces) []) ≡ true
          → (u : VrfId) × (vrf_of_site sc datagram.site ≡ Some u) × (is_home sc u datagram.source datagram.site ≡ true)
          × ((found : Iface) × (slice_get sc.ifaces iface.0 ≡ Some found) × (test sc u iface found ≡ true))
      by false is t = absurd (true≢false (sym t))
      by true is t =
          let x = any_among is_it (ifaces_where (test sc u) 0 sc.ifaces) t in
          let r = where_among (test sc u) 0 sc.ifaces x.0 x.1 in
          let number : x.0.0 ≡ iface.0 = eqb-true x.0.0 iface.0 x.2 in
          let own : x.0 ≡ iface = λ i. record { 0 = number i } in
          let place : r.0 ≡ iface.0 = (let e = r.3 in omega (arith, e, number)) in
          (u, e, is, (r.1, ap (slice_get sc.ifaces) (sym place) ∙ r.2, ap (λ (i : IfaceId). test sc u i r.1) (sym own) ∙ r.4))

  -- ---- an interface of the scenario

  module _ (here : Here sc iface) where
    to_receive : receives_by past datagram.site datagram.source datagram.group iface ≡ true
        → Receives scenario cores world k datagram iface past of_past told here
    to_receive h =
        let l = listed (vrf_of_site sc datagram.site) refl (sym received ∙ h) in
        let u : VrfId = l.0 in
        let found : Iface = l.3.0 in
        let one : found ≡ here.found = same_Some found here.found (sym l.3.1 ∙ here.at) in
        let p = and_parts (same_vpn sc u found.vrf && not (is_of_site datagram.site found)) (pasts.asks past iface datagram.source datagram.group)
        l.3.2 in
        let q = and_parts (same_vpn sc u found.vrf) (not (is_of_site datagram.site found)) p.0 in
        let vpn : same_vpn sc u here.found.vrf ≡ true = ap (λ (f : Iface). same_vpn sc u f.vrf) (sym one) ∙ q.0 in
        let at = at_home u (home sc u datagram.source) refl l.2 in
        record {
          u = u;
          of_site = l.1;
          vpn = vpn;
          site = at.0;
          is_home = sym (home_vpn sc u here.found.vrf datagram.source vpn) ∙ at.1;
          same_site = at.2;
          outside = ap (λ (f : Iface). not (is_of_site datagram.site f)) (sym one) ∙ q.1;
          asking = sym (receivers.asks_told scenario cores world k datagram iface past of_past told here) ∙ p.1;
        }
      where
        at_home : (u : VrfId) (o : Option SiteId) → home sc u datagram.source ≡ o
            → elim o as (λ _. Bool) [ None ↦ false | Some found ↦ found.0 == datagram.site.0 ] ≡ true
            → (site : SiteId) × (home sc u datagram.source ≡ Some site) × (site.0 ≡ datagram.site.0)
        at_home u None e t = absurd (true≢false (sym t))
        at_home u (Some site) e t = (site, e, eqb-true site.0 datagram.site.0 t)

    of_receive : Receives scenario cores world k datagram iface past of_past told here
        → receives_by past datagram.site datagram.source datagram.group iface ≡ true
    of_receive r =
        let u : VrfId = r.u in
        let number : IfaceId = record { 0 = 0 + iface.0 } in
        let own : number ≡ iface = λ i. record { 0 = plain iface.0 i } in
        let home_u : home sc u datagram.source ≡ Some r.site = home_vpn sc u here.found.vrf datagram.source r.vpn ∙ r.is_home in
        let at_home : is_home sc u datagram.source datagram.site ≡ true =
        ap (λ (o : Option SiteId). elim o as (λ _. Bool) [ None ↦ false | Some found ↦ found.0 == datagram.site.0 ]) home_u
        ∙ eq-eqb r.site.0 datagram.site.0 r.same_site in
        let passes : test sc u iface here.found ≡ true =
        and_from (same_vpn sc u here.found.vrf && not (is_of_site datagram.site here.found))
        (pasts.asks past iface datagram.source datagram.group)
        (and_from (same_vpn sc u here.found.vrf) (not (is_of_site datagram.site here.found)) r.vpn r.outside)
        (receivers.asks_told scenario cores world k datagram iface past of_past told here ∙ r.asking) in
        let among : Among number (ifaces_where (test sc u) 0 sc.ifaces) =
        among_where (test sc u) 0 iface.0 sc.ifaces here.found here.at (ap (λ (i : IfaceId). test sc u i here.found) own ∙ passes) in
        received
        ∙ ap (λ (o : Option VrfId). list_any is_it (by_vrf sc o)) r.of_site
        ∙ ap (λ (b : Bool). list_any is_it (cond b (ifaces_where (test sc u) 0 sc.ifaces) [])) at_home
        ∙ any_from is_it number (ifaces_where (test sc u) 0 sc.ifaces) among (eq-eqb (0 + iface.0) iface.0 (plain iface.0))
      where
        plain : (m : ℕ) → 0 + m ≡ m
        plain m = omega arith

    once_here : count_by (is_served world.network datagram iface) (entered sc datagram.site)
        ≡ cond (receives_by past datagram.site datagram.source datagram.group iface) 1 0
    once_here =
        count_one sc datagram.site (is_served world.network datagram iface)
        (λ x y a b. one_serves scenario cores world k datagram iface here x y (served_by scenario cores world k datagram iface here x a)
        (served_by scenario cores world k datagram iface here y b)) 0 sc.vrfs
        ∙ ap (λ (b : Bool). cond {A = ℕ} b 1 0) (both_ways (list_any (is_served world.network datagram iface) (entered sc datagram.site))
        (receives_by past datagram.site datagram.source datagram.group iface)
        (λ t. (let x = any_among (is_served world.network datagram iface) (entered sc datagram.site) t in
        of_receive (served_receives scenario cores world k datagram iface past of_past told here x.0
        (served_by scenario cores world k datagram iface here x.0 x.2))))
        (λ t. receives_served scenario cores world k datagram iface past of_past told here (to_receive t)))

  -- ---- any interface

  none_served : slice_get sc.ifaces iface.0 ≡ None → (id : VrfId) → is_served world.network datagram iface id ≡ false
  none_served e id = by (slice_get sc.vrfs id.0)
    where
      nowhere : edge_of sc iface ≡ None
      nowhere =
          ap (λ (o : Option Iface). elim o as (λ _. Option NodeId)
          [ None ↦ None | Some f ↦ option_map (λ (v : Vrf). v.edge) (slice_get sc.vrfs f.vrf.0) ]) e

      by : (o : Option Vrf) → serves_from world.network datagram iface id o ≡ false
      by None = refl
      by (Some vrf) = ap (serves_by world.network datagram iface (record { id = id; vrf = vrf })) nowhere

  pub once : count_by (λ vrf. is_served world.network datagram iface vrf) (entered sc datagram.site)
      ≡ (if receives_by past datagram.site datagram.source datagram.group iface then 1 else 0)
  once = by (slice_get sc.ifaces iface.0) refl
    where
      by : (o : Option Iface) → slice_get sc.ifaces iface.0 ≡ o
          → count_by (is_served world.network datagram iface) (entered sc datagram.site)
          ≡ cond (receives_by past datagram.site datagram.source datagram.group iface) 1 0
      by (Some found) e = once_here (here_of sc k.rules iface found e)
      by None e =
          (count_none (is_served world.network datagram iface) (entered sc datagram.site) (λ id a. none_served e id)).0
          ∙ ap (λ (b : Bool). cond {A = ℕ} b 1 0) (sym
          (false_from_ne_true (receives_by past datagram.site datagram.source datagram.group iface)
          (λ t. (let l = listed (vrf_of_site sc datagram.site) refl (sym received ∙ t) in none-some l.3.0 (sym e ∙ l.3.1)))))

-- After such a run choices are calm, where what interfaces ask for is what the events tell.
pub choice_calm : (cores : Cores) (script : Script) (events : List Timed) (trace : List Traced) (world : World)
    → CalmRun cores script events trace world → (past : Past) → past.scenario ≡ script.scenario → AsksAreTold past world × NotesAreTold past world
    → (datagram : Datagram) → CalmChoice world.network (receives_by past datagram.site datagram.source datagram.group) datagram
choice_calm cores script events trace world c past of_past told datagram =
    let k = known_of cores script events trace world c in
    record {
      once = λ iface. once script.scenario cores world k datagram past (of_past ∙ sym k.facts.same) told iface;
      trees = λ id vrf fec known sends. trees_calm cores script events trace world c datagram id vrf fec known sends;
    }

-- ---- scripts

rises_taken : (number count : ℕ) (events : List Timed) → Rises number events → Rises number (take count events)
rises_taken number zero events h = tt
rises_taken number (suc count) [] h = tt
rises_taken number (suc count) (timed ∷ more) h = (h.0, rises_taken timed.line count more h.1)

-- the first events of a run are sound, as all of them are
first_events : (cores : Cores) (script : Script) (events : List Timed) (trace : List Traced) (new : World) → SoundRun cores script events trace new
    → (count : ℕ) (early : List Traced) (world : World) → Run cores script (take count events) early world
    → SoundRun cores script (take count events) early world
first_events cores script events trace new s count early world run = record {
  scenario = s.scenario;
  of_scenario = s.of_scenario;
  sound_events = all_take (λ (timed : Timed). IsSoundEvent script.scenario timed.event) count events s.sound_events;
  run = run;
}

pub choices_calm : (cores : Cores) (script : Script) (events : List Timed) (trace : List Traced) (world : World)
    → CalmRun cores script events trace world
    → (datagram : Datagram) → CalmChoice world.network
    (receives_by (past_of script.scenario events trace) datagram.site datagram.source datagram.group) datagram
choices_calm cores script events trace world c =
    let rules = c.sound.scenario.rules in
    choice_calm cores script events trace world c (past_of script.scenario events trace) refl (
      asks_told cores script.scenario events trace world rules c.rises c.sound.run,
      notes_told cores script.scenario events trace world rules c.rises c.sound.run,
    )

pub deliver_once : (cores : Cores) (script : Script) (events : List Timed) (trace : List Traced) (new : World)
    → SoundRun cores script events trace new → Rises 0 events → Once script.scenario events (refused_lines (report_of trace)) (report_of trace)
deliver_once cores script events trace new s rises =
    calm_choices_once cores script events trace new s.scenario.rules rises
    (λ count early world run zeros. choices_calm cores script (take count events) early world
    (record {
      sound = first_events cores script events trace new s count early world run;
      rises = rises_taken 0 count events rises;
      zeros =
          zeros;
    }))
    s.run
