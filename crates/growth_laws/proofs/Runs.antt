-- Each event that takes nothing back is done, and so are those of a script.
use Rattle.std.proofs.Common.{◌≡◌, ◌≢◌, ℕ, zero, suc, ◌+◌, ◌<◌, ◌≤◌, nat_le, ◌||◌, Bool, true, false, cond, List, [], ◌∷◌, ◌++◌, map, flat_map, length, replicate, slice_get, sum_by, count_by, is_some, Option, Some, None, inl, inr, refl, sym, ap, subst, ◌∙◌, arith}
use Rattle.std.specs.List.{AllByRecursion}
use Rattle.std.specs.FinMap as maps
use Rattle.std.proofs.lemmas.Bool.{false_from_ne_true}
use Rattle.std.proofs.lemmas.List.Sums.{sum_by-cons}
use Rattle.std.proofs.lemmas.Option.{same_Some}
use Rattle.mv_base.specs.Pattern.{rank}
use Rattle.mv_base.specs.declared.addr.Addr.{Addr}
use Rattle.mv_base.specs.declared.ids.IfaceId.{IfaceId}
use Rattle.mv_base.specs.declared.ids.NodeId.{NodeId}
use Rattle.mv_base.specs.declared.ids.SiteId.{SiteId}
use Rattle.mv_base.specs.declared.ids.VrfId.{VrfId}
use Rattle.mv_base.specs.declared.pattern.Pattern.{Pattern}
use Rattle.mldp.specs.declared.mldp_fec.fec.Fec.{Fec}
use Rattle.scenario_defs.specs.Vpn.{edge_of, entered}
use Rattle.scenario_defs.specs.declared.event.Event.{Event}
use Rattle.scenario_defs.specs.declared.event.CustomerEvent.TheVariants as customers
use Rattle.scenario_defs.specs.declared.event.Event.TheVariants as events
use Rattle.scenario_defs.specs.declared.event.JoinEntry.TheVariants as entries
use Rattle.scenario_defs.specs.declared.event.Kind.{Kind}
use Rattle.scenario_defs.specs.declared.event.Timed.{Timed}
use Rattle.scenario_defs.specs.declared.report.Refusal.{Refusal}
use Rattle.scenario_defs.specs.declared.report.Refusal.TheVariants as refusals
use Rattle.scenario_defs.specs.declared.report.ReportLine.TheVariants as lines
use Rattle.scenario_defs.specs.declared.scenario.Scenario.{Scenario}
use Rattle.scenario_defs.specs.declared.scenario.Vrf.{Vrf}
use Rattle.network_defs.specs.session_defs.Refined.{seen}
use Rattle.network_defs.specs.declared.session_defs.direction.Direction.{Direction}
use Rattle.pim_defs.specs.Single.{join_of}
use Rattle.mvpn_model.specs.Messages.{own_addr}
use Rattle.mvpn_model.specs.Packet.{packet}
use Rattle.mvpn_model.specs.Packets.{source_in, group_in}
use Rattle.mvpn_model.specs.Sessions.{sessions}
use Rattle.mvpn_model.specs.declared.session.Session.{Session}
use Rattle.edge_defs.specs.Place.{addr_of, lsp, tunnel_number}
use Rattle.edge_defs.specs.Steps as steps
use Rattle.edge_words.proofs.calm_laws.Vrfs.{own_at}
use Rattle.network_defs.specs.Acts.{Act, Tick, Timers, Move, Notice, RaiseFirst, RaiseSecond, At, Enter, Land, Drop, Tell, act}
use Rattle.network_defs.specs.Counts.{direction, directions, link_ways, all_nodes, is_joined, is_up}
use Rattle.network_defs.specs.Events.{Happened, Outcome, Done, Halted, row, each, times, raise_acts, notices, healed, turn, settled, landings, drain_round, sent, at_edge, done}
use Rattle.network_defs.specs.Nodes.{place_of}
use Rattle.network_defs.specs.Refusals.{refused_if, selection_limit, edge_of_vrf, control_at, is_selected, selections_at, are_sessions_full, refusal}
use Rattle.network_defs.specs.Run.{Traced, outcome, Runs}
use Rattle.network_defs.specs.World.{World, scenario_of}
use Rattle.network_defs.proofs.Kept.{enter_keeps, land_keeps}
use Rattle.network_laws.specs.Sound.{SoundScenario}
use Rattle.network_laws.specs.Honest.{IsSoundCall, IsSoundEvent}
use Rattle.network_laws.proofs.Lists.{each_of, each_map, each_flat, each_weaker}
use Rattle.network_laws.proofs.RunMessages.{join_is_sound}
use Rattle.network_laws.proofs.RunNodes.{IsNode, IsFoundNode, nodes_within, edge_within, vrf_within}
use Rattle.run_laws.proofs.rule_laws.Events.{IsFitSession, sessions_fit, not_refused, or_not_refused}
use Rattle.growth_laws.specs.Scripts.{OnlyAdds, ticks_of, is_selection}
use Rattle.growth_laws.proofs.Musts.{Comes, then_comes, first_comes, row_comes, alone_comes, each_comes, times_comes}
use Rattle.growth_laws.proofs.Networks.{NetworkGrown, network_more, join_called, new_number, select_called}
use Rattle.growth_laws.proofs.NodeSteps.{kept}
use Rattle.growth_laws.proofs.Worlds.{OctetsGrown, WorldGrown, Must, called_must, timers_must, world_moves, Half, first_must, second_must, ticks_must}

-- ---- acts and turns at one moment

module _ (scenario : Scenario) (horizon now : ℕ) (trees : List Fec) where
  abbrev Good : World → Type 0
  Good world = WorldGrown scenario horizon now trees world

  moved_comes : (kind : Kind) (from to : NodeId) (count : ℕ) (world : World) → Good world → Comes Good (row (Move kind from to count ∷ []) world)
  moved_comes kind from to count world s =
      alone_comes Good (Move kind from to count) world (world_moves scenario horizon now trees world kind from to count s)

  turn_comes : (over : Direction) (world : World) → Good world → Comes Good (turn over world)
  turn_comes over world s = by (world.network.transit over)
    where
      by : (octets : List ℕ) → Comes (WorldGrown scenario horizon now trees)
          (elim octets [ [] ↦ Done [] world | octet ∷ more ↦ row (Move over.kind over.from over.to (length (octet ∷ more)) ∷ []) world ])
      by [] = s
      by (octet ∷ more) = moved_comes over.kind over.from over.to (length (octet ∷ more)) world s

  round_comes : (all : List Direction) (world : World) → Good world → Comes Good (each turn all world)
  round_comes all world s = each_comes Good turn all (each_of (λ over. (old : World) → Good old → Comes Good (turn over old)) turn_comes all) world s

  landed_must : (from to : NodeId) (place : ℕ) (world : World) → Good world → Must Good (act world (Land from to place))
  landed_must from to place world s = land_keeps (OctetsGrown scenario horizon now trees) world from to place s

  entered_must : (vrf : VrfId) (world : World) → Good world → Must Good (act world (Enter vrf))
  entered_must vrf world s = enter_keeps (OctetsGrown scenario horizon now trees) world vrf s

  same_acts : (one : Act) → ((world : World) → Good world → Must Good (act world one)) → (count : ℕ)
      → AllByRecursion (λ one. (world : World) → Good world → Must Good (act world one)) (replicate count one)
  same_acts one must zero = tt
  same_acts one must (suc count) = (must, same_acts one must count)

  drain_comes : (world : World) → Good world → Comes Good (drain_round world)
  drain_comes world s =
      let Keep : Act → Type 0 = λ one. (old : World) → Good old → Must Good (act old one) in
      row_comes Good (flat_map (landings world) (link_ways (scenario_of world)))
      (each_flat Keep (landings world) (link_ways (scenario_of world))
      (each_of (λ way. AllByRecursion Keep (landings world way))
      (λ way. same_acts (Land way.0 way.1 1) (landed_must way.0 way.1 1) (length (world.copies way.0 way.1))) (link_ways (scenario_of world))))
      world s

  sent_comes : (site : SiteId) (source group : Addr) (octets : List ℕ) (world : World) → Good world → Comes Good (sent site source group octets world)
  sent_comes site source group octets world s =
      let Keep : Act → Type 0 = λ one. (old : World) → Good old → Must Good (act old one) in
      row_comes Good (map (λ vrf. Enter vrf) (entered (scenario_of world) site))
      (each_map Keep (λ vrf. Enter vrf) (entered (scenario_of world) site)
      (each_of (λ vrf. Keep (Enter vrf)) entered_must (entered (scenario_of world) site)))
      (record world { datagrams = world.datagrams ++ record { site = site; source = source; group = group; octets = octets } ∷ [] }) s

  -- ---- heal

  -- no end of a session that is not joined is up
  end_down : (world : World) (kind : Kind) (a b : NodeId) → Good world → world.network.joined (direction kind a b) ≡ false
      → is_up world kind a b ≡ false
  end_down world kind a b s off =
      false_from_ne_true (is_up world kind a b) (λ up. (let bad : true ≡ false = sym (s.3.ends kind a b up) ∙ off in absurd cc))

  pair_comes : (kind : Kind) (a b : NodeId) → a.0 < length scenario.nodes → b.0 < length scenario.nodes → a ≢ b → (world : World) → Good world
      → is_up world kind a b ≡ false → is_up world kind b a ≡ false
      → Comes Good (row (RaiseFirst kind a b ∷ RaiseSecond kind a b ∷ []) world)
  pair_comes kind a b first second apart world s down far =
      first_comes (Half scenario horizon now trees kind a b) Good (RaiseFirst kind a b) (RaiseSecond kind a b ∷ []) world
      (first_must scenario horizon now trees world kind a b first apart down far s)
      (λ next half. alone_comes Good (RaiseSecond kind a b) next (second_must scenario horizon now trees next kind a b second apart half))

  healed_comes : (session : Session) → IsFitSession scenario session → (world : World) → Good world → Comes Good (healed session world)
  healed_comes session fit world s = by (is_joined world session) refl
    where
      by : (t : Bool) → is_joined world session ≡ t
          → Comes (WorldGrown scenario horizon now trees)
          (cond t (Done [] world) (row (notices world session session.a session.b
          ++ (notices world session session.b session.a ++ raise_acts session)) world))
      by true e = s
      by false e =
          let near = end_down world session.kind session.a session.b s e in
          let far = end_down world session.kind session.b session.a s (sym (s.3.alike session.kind session.a session.b) ∙ e) in
          subst (λ (acts : List Act). Comes (WorldGrown scenario horizon now trees) (row acts world))
          (λ i. cond (sym near i) (Notice session.kind session.a session.b ∷ []) []
          ++ (cond (sym far i) (Notice session.kind session.b session.a ∷ []) [] ++ raise_acts session))
          (pair_comes session.kind session.a session.b fit.first fit.second fit.apart world s near far)

  -- ---- calls

  join_comes : (o : Option NodeId) → IsFoundNode scenario o → (iface : IfaceId) (neighbour source group : Addr) → horizon < 210
      → IsSoundCall (steps.Customer (steps.Pim iface (join_of neighbour (entries.Source source group))))
      → (world : World) → Good world → Comes Good (at_edge o (steps.Pim iface (join_of neighbour (entries.Source source group))) world)
  join_comes None within iface neighbour source group short is world s = s
  join_comes (Some n) within iface neighbour source group short is world s =
      let call : steps.Call = steps.Customer (steps.Pim iface (join_of neighbour (entries.Source source group))) in
      alone_comes Good (At n call) world (called_must scenario horizon now trees world n call s within is
      (λ kind peer e. no_raise kind peer iface _ e)
      (join_called horizon now trees (seen world.network s.0) s.3 n iface neighbour source group short))
    where
      no_raise : (kind : Kind) (peer : NodeId) (iface : IfaceId) (message : _) → steps.Customer (steps.Pim iface message) ≡ steps.Raised kind peer → ⊥
      no_raise kind peer iface message e = absurd cc

-- ---- a selection

no_select : (vrf : VrfId) (pattern : Pattern) (kind : Kind) (peer : NodeId) → steps.Customer (steps.Select vrf pattern) ≡ steps.Raised kind peer → ⊥
no_select vrf pattern kind peer e = absurd cc

not_there : {A : Type 0} (o : Option A) → is_some o ≡ false → o ≡ None
not_there None e = refl
not_there (Some x) e = absurd (let bad : true ≡ false = e in cc)

-- What comes of an event: it takes no more time and makes no more trees than it says.
pub record EventGrows (scenario : Scenario) (horizon now : ℕ) (trees : List Fec) (event : Event) (o : Outcome) : Type 0 where
  pub later : ℕ
  pub soon : later ≤ now + ticks_of event
  pub more : List Fec
  pub few : length more ≤ length trees + cond {A = ℕ} (is_selection event) 1 0
  pub comes : Comes (WorldGrown scenario horizon later more) o

select_comes : (scenario : Scenario) (horizon now : ℕ) (trees : List Fec) (world : World) (vrf : VrfId) (pattern : Pattern) → rank pattern ≡ 4
    → IsSoundCall (steps.Customer (steps.Select vrf pattern)) → scenario_of world ≡ scenario
    → length trees + 1 < scenario.labels → is_selected world vrf pattern ≡ false → IsFoundNode scenario (edge_of_vrf (scenario_of world) vrf)
    → WorldGrown scenario horizon now trees world
    → EventGrows scenario horizon now trees (events.Customer (customers.Select vrf pattern))
    (at_edge (edge_of_vrf (scenario_of world) vrf) (steps.Select vrf pattern) world)
select_comes scenario horizon now trees world vrf pattern narrow is same room free within s =
    by (slice_get (scenario_of world).vrfs vrf.0) refl free within
  where
    at_vrf : Option Vrf → Option NodeId
    at_vrf found = elim found [ None ↦ None | Some own ↦ Some own.edge ]

    by : (found : Option Vrf) → slice_get (scenario_of world).vrfs vrf.0 ≡ found
        → maps.contains_key (control_at world (elim found as (λ (o : Option Vrf). Option NodeId)
        [ None ↦ None | Some own ↦ Some own.edge ])).selections (record { vrf = vrf; pattern = pattern }) ≡ false
        → IsFoundNode scenario (elim found as (λ (o : Option Vrf). Option NodeId) [ None ↦ None | Some own ↦ Some own.edge ])
        → EventGrows scenario horizon now trees (events.Customer (customers.Select vrf pattern))
        (at_edge (elim found as (λ (o : Option Vrf). Option NodeId) [ None ↦ None | Some own ↦ Some own.edge ]) (steps.Select vrf pattern) world)
    by None e off lt = record { later = now; soon = omega arith; more = trees; few = omega arith; comes = s }
    by (Some found) e off lt =
        let n : NodeId = found.edge in
        let network = seen world.network s.0 in
        let fec : Fec = lsp (addr_of (scenario_of world) n) (tunnel_number found (new_number vrf (kept world.network.state n).selections)) in
        let long : length (fec ∷ trees) ≡ suc (length trees) = refl in
        let more : NetworkGrown horizon now (fec ∷ trees) network =
        network_more horizon now trees (fec ∷ trees) network (λ other among. inr among)
        (let labels : (scenario_of world).labels ≡ scenario.labels = ap (λ (own : Scenario). own.labels) same in
        omega (arith, long, room, labels)) s.3 in
        let grown : WorldGrown scenario horizon now (fec ∷ trees) world = (s.0, s.1, s.2, more) in
        record {
          later = now;
          soon = omega arith;
          more = fec ∷ trees;
          few = omega (arith, long);
          comes = alone_comes (WorldGrown scenario horizon now (fec ∷ trees)) (At n (steps.Customer (steps.Select vrf pattern))) world
              (called_must scenario horizon now (fec ∷ trees) world n (steps.Customer (steps.Select vrf pattern)) grown lt is (no_select vrf pattern)
              (select_called horizon now (fec ∷ trees) network more n vrf pattern narrow
              (not_there (maps.get (kept world.network.state n).selections (record { vrf = vrf; pattern = pattern })) off)
              (λ own a id.
              let vrfs : own.vrf ≡ found =
              same_Some own.vrf found (sym (own_at (place_of world.network.state n) own a)
              ∙ ap (λ (v : VrfId). slice_get (scenario_of world).vrfs v.0) id ∙ e) in
              inl (ap (λ (v : Vrf). lsp (addr_of (scenario_of world) n) (tunnel_number v (new_number vrf (kept world.network.state n).selections)))
              vrfs))));
        }

-- ---- events

still : (scenario : Scenario) (horizon now : ℕ) (trees : List Fec) (event : Event) (o : Outcome) → Comes (WorldGrown scenario horizon now trees) o
    → EventGrows scenario horizon now trees event o
still scenario horizon now trees event o h = record { later = now; soon = omega arith; more = trees; few = omega arith; comes = h }

settle_comes : (world : World) (horizon now : ℕ) (trees : List Fec) → WorldGrown (scenario_of world) horizon now trees world
    → Comes (WorldGrown (scenario_of world) horizon now trees) (settled world)
settle_comes world horizon now trees s =
    let scenario = scenario_of world in
    let P : World → Type 0 = WorldGrown scenario horizon now trees in
    let Keep : Act → Type 0 = λ one. (old : World) → P old → Must P (act old one) in
    then_comes P P (row (map (λ n. Timers n) (all_nodes scenario)) world) (times (each turn (directions scenario)) (length scenario.nodes + 3))
    (row_comes P (map (λ n. Timers n) (all_nodes scenario))
    (each_map Keep (λ n. Timers n) (all_nodes scenario)
    (each_weaker (IsNode scenario) (λ n. Keep (Timers n)) (λ n within old p. timers_must scenario horizon now trees old n within p)
    (all_nodes scenario) (nodes_within 0 (length scenario.nodes) (length scenario.nodes) (omega arith)))) world s)
    (λ next p. times_comes P (each turn (directions scenario)) (λ one q. round_comes scenario horizon now trees (directions scenario) one q)
    (length scenario.nodes + 3) next p)

done_comes : (world : World) (horizon now : ℕ) (trees : List Fec) → SoundScenario (scenario_of world) → horizon < 210
    → WorldGrown (scenario_of world) horizon now trees world → (event : Event) → OnlyAdds event → IsSoundEvent (scenario_of world) event
    → refusal world event ≡ None → now + ticks_of event ≤ horizon → length trees + cond {A = ℕ} (is_selection event) 1 0 < (scenario_of world).labels
    → EventGrows (scenario_of world) horizon now trees event (done world event)
done_comes world horizon now trees lines short s (events.Tick count) adds sound free le room =
    record {
      later = now + count;
      soon = omega arith;
      more = trees;
      few = omega arith;
      comes =
          alone_comes (WorldGrown (scenario_of world) horizon (now + count) trees) (Tick count) world
          (ticks_must (scenario_of world) horizon now trees world count le s);
    }
done_comes world horizon now trees lines short s (events.Timers node) adds sound free le room =
    still (scenario_of world) horizon now trees (events.Timers node) _
    (alone_comes (WorldGrown (scenario_of world) horizon now trees) (Timers node) world
    (timers_must (scenario_of world) horizon now trees world node sound s))
done_comes world horizon now trees lines short s (events.Restart node) adds sound free le room = absurd adds
done_comes world horizon now trees lines short s (events.Move kind from to count) adds sound free le room =
    still (scenario_of world) horizon now trees (events.Move kind from to count) _
    (moved_comes (scenario_of world) horizon now trees kind from to count world s)
done_comes world horizon now trees lines short s (events.Lose kind a b) adds sound free le room = absurd adds
done_comes world horizon now trees lines short s (events.Notice kind a b) adds sound free le room = absurd adds
done_comes world horizon now trees lines short s (events.Raise kind a b) adds sound free le room = absurd adds
done_comes world horizon now trees lines short s (events.Customer (customers.Join iface (entries.Star group))) adds sound free le room = absurd adds
done_comes world horizon now trees lines short s (events.Customer (customers.Join iface (entries.Rpt source group))) adds sound free le room = absurd adds
done_comes world horizon now trees lines short s (events.Customer (customers.Join iface (entries.Source source group))) adds sound free le room =
    still (scenario_of world) horizon now trees (events.Customer (customers.Join iface (entries.Source source group))) _
    (join_comes (scenario_of world) horizon now trees (edge_of (scenario_of world) iface) (edge_within (scenario_of world) lines iface) iface
    (own_addr (scenario_of world) iface) source group short
    (join_is_sound (scenario_of world) iface (entries.Source source group) sound.1) world s)
done_comes world horizon now trees lines short s (events.Send site source group payload) adds sound free le room =
    still (scenario_of world) horizon now trees (events.Send site source group payload) _
    (sent_comes (scenario_of world) horizon now trees site source group (packet source group payload) world s)
done_comes world horizon now trees lines short s (events.Packet site octets) adds sound free le room =
    still (scenario_of world) horizon now trees (events.Packet site octets) _
    (sent_comes (scenario_of world) horizon now trees site (source_in octets) (group_in octets) octets world s)
done_comes world horizon now trees lines short s (events.Customer (customers.Select vrf pattern)) adds sound free le room =
    let x = or_not_refused (refused_if (is_selected world vrf pattern) refusals.State)
    (refused_if (are_sessions_full world || nat_le selection_limit (selections_at world vrf)) refusals.Full) free in
    select_comes (scenario_of world) horizon now trees world vrf pattern adds sound refl room
    (not_refused (is_selected world vrf pattern) refusals.State x.0) (vrf_within (scenario_of world) lines vrf) s
done_comes world horizon now trees lines short s (events.Customer other) adds sound free le room = absurd adds
done_comes world horizon now trees lines short s (events.Hop from to place) adds sound free le room =
    still (scenario_of world) horizon now trees (events.Hop from to place) _
    (alone_comes (WorldGrown (scenario_of world) horizon now trees) (Land from to place) world
    (landed_must (scenario_of world) horizon now trees from to place world s))
done_comes world horizon now trees lines short s (events.DropCopy from to place) adds sound free le room =
    still (scenario_of world) horizon now trees (events.DropCopy from to place) _
    (alone_comes (WorldGrown (scenario_of world) horizon now trees) (Drop from to place) world s)
done_comes world horizon now trees lines short s (events.Cost a b cost) adds sound free le room = absurd adds
done_comes world horizon now trees lines short s events.Heal adds sound free le room =
    let P : World → Type 0 = WorldGrown (scenario_of world) horizon now trees in
    still (scenario_of world) horizon now trees events.Heal _
    (each_comes P healed (sessions (scenario_of world))
    (each_weaker (IsFitSession (scenario_of world)) (λ session. (old : World) → P old → Comes P (healed session old))
    (λ session fit. healed_comes (scenario_of world) horizon now trees session fit) (sessions (scenario_of world))
    (sessions_fit (scenario_of world) lines))
    world s)
done_comes world horizon now trees lines short s events.Settle adds sound free le room =
    still (scenario_of world) horizon now trees events.Settle _ (settle_comes world horizon now trees s)
done_comes world horizon now trees lines short s events.Drain adds sound free le room =
    still (scenario_of world) horizon now trees events.Drain _
    (times_comes (WorldGrown (scenario_of world) horizon now trees) drain_round (drain_comes (scenario_of world) horizon now trees) 255 world s)
done_comes world horizon now trees lines short s events.State adds sound free le room =
    still (scenario_of world) horizon now trees events.State _ (alone_comes (WorldGrown (scenario_of world) horizon now trees) Tell world s)

event_comes : (scenario : Scenario) (world : World) (horizon now : ℕ) (trees : List Fec) → horizon < 210 → WorldGrown scenario horizon now trees world
    → (timed : Timed) → OnlyAdds timed.event → IsSoundEvent scenario timed.event
    → now + ticks_of timed.event ≤ horizon → length trees + cond {A = ℕ} (is_selection timed.event) 1 0 < scenario.labels
    → EventGrows scenario horizon now trees timed.event (outcome world timed)
event_comes scenario world horizon now trees short s timed adds sound le room = by (refusal world timed.event) refl
  where
    by : (o : Option Refusal) → refusal world timed.event ≡ o
        → EventGrows scenario horizon now trees timed.event
        (elim o [
          | None ↦ done world timed.event
          | Some reason ↦
              Done (record { act = None; lines = lines.Refused timed.line reason ∷ [] } ∷ []) world
        ])
    by (Some reason) e = still scenario horizon now trees timed.event _ s
    by None free =
        subst (λ (own : Scenario). SoundScenario own → WorldGrown own horizon now trees world → IsSoundEvent own timed.event
        → length trees + cond {A = ℕ} (is_selection timed.event) 1 0 < own.labels
        → EventGrows own horizon now trees timed.event (done world timed.event)) s.2.same
        (λ own_lines own_s own_sound own_room. done_comes world horizon now trees own_lines short own_s timed.event adds own_sound free le own_room)
        s.2.lines s sound room

-- ---- scripts

-- What is left of a script: its events take nothing back, and take no more time and make no more trees than there is room for.
pub record Left (scenario : Scenario) (horizon now : ℕ) (trees : List Fec) (rest : List Timed) : Type 0 where
  pub adds : AllByRecursion (λ (timed : Timed). OnlyAdds timed.event) rest
  pub sound : AllByRecursion (λ (timed : Timed). IsSoundEvent scenario timed.event) rest
  pub short : now + sum_by (λ (timed : Timed). ticks_of timed.event) rest ≤ horizon
  pub room : length trees + count_by (λ (timed : Timed). is_selection timed.event) rest < scenario.labels

turned : (P : World → Type 0) (o : Outcome) (acts : List Happened) (next : World) → o ≡ Done acts next → Comes P o → P next
turned P o acts next e h = subst (Comes P) e h

halted : (P : World → Type 0) (o : Outcome) (acts : List Happened) (node : NodeId) → o ≡ Halted acts node → Comes P o → ⊥
halted P o acts node e h = subst (Comes P) e h

first_left : (scenario : Scenario) (horizon now : ℕ) (trees : List Fec) (timed : Timed) (rest : List Timed)
    → Left scenario horizon now trees (timed ∷ rest)
    → (now + ticks_of timed.event ≤ horizon) × (length trees + cond {A = ℕ} (is_selection timed.event) 1 0 < scenario.labels)
first_left scenario horizon now trees timed rest l =
    let ticks = sum_by-cons (λ (one : Timed). ticks_of one.event) timed rest in
    let picks = sum_by-cons (λ (one : Timed). cond {A = ℕ} (is_selection one.event) 1 0) timed rest in
    let short = l.short in
    let room = l.room in
    (omega (arith, ticks, short), omega (arith, picks, room))

rest_left : (scenario : Scenario) (horizon now later : ℕ) (trees more : List Fec) (timed : Timed) (rest : List Timed)
    → Left scenario horizon now trees (timed ∷ rest) → later ≤ now + ticks_of timed.event
    → length more ≤ length trees + cond {A = ℕ} (is_selection timed.event) 1 0 → Left scenario horizon later more rest
rest_left scenario horizon now later trees more timed rest l soon few =
    let ticks = sum_by-cons (λ (one : Timed). ticks_of one.event) timed rest in
    let picks = sum_by-cons (λ (one : Timed). cond {A = ℕ} (is_selection one.event) 1 0) timed rest in
    let short = l.short in
    let room = l.room in
    record { adds = l.adds.1; sound = l.sound.1; short = omega (arith, ticks, short, soon); room = omega (arith, picks, room, few) }

pub never_halts : (scenario : Scenario) (horizon : ℕ) → horizon < 210
    → (before : List Timed) (timed : Timed) (after : List Timed) (number now : ℕ) (trees : List Fec) (old : World) (trace : List Traced)
    (world : World) (acts : List Happened) (node : NodeId)
    → WorldGrown scenario horizon now trees old → Left scenario horizon now trees (before ++ timed ∷ after) → Runs old number before trace world
    → outcome world timed ≡ Halted acts node → ⊥
never_halts scenario horizon short [] timed after number now trees old trace world acts node s l run e =
    let fits = first_left scenario horizon now trees timed after l in
    let x = event_comes scenario old horizon now trees short s timed l.adds.0 l.sound.0 fits.0 fits.1 in
    halted (WorldGrown scenario horizon x.later x.more) (outcome old timed) acts node (ap (λ (w : World). outcome w timed) (sym run.1) ∙ e) x.comes
never_halts scenario horizon short (first ∷ more) timed after number now trees old trace world acts node s l run e =
    let fits = first_left scenario horizon now trees first (more ++ timed ∷ after) l in
    let x = event_comes scenario old horizon now trees short s first l.adds.0 l.sound.0 fits.0 fits.1 in
    never_halts scenario horizon short more timed after (number + 1) x.later x.more run.1 run.2 world acts node
    (turned (WorldGrown scenario horizon x.later x.more) (outcome old first) run.0 run.1 run.3 x.comes)
    (rest_left scenario horizon now x.later trees x.more first (more ++ timed ∷ after) l x.soon x.few) run.5 e

-- What first events of a script come to: the network has grown, with no more trees than at first and selections among these events.
pub record GrownBy (scenario : Scenario) (horizon : ℕ) (trees : List Fec) (events : List Timed) (world : World) : Type 0 where
  pub now : ℕ
  pub more : List Fec
  pub few : length more ≤ length trees + count_by (λ (timed : Timed). is_selection timed.event) events
  pub grown : WorldGrown scenario horizon now more world

pub runs_grow : (scenario : Scenario) (horizon : ℕ) → horizon < 210
    → (events rest : List Timed) (number now : ℕ) (trees : List Fec) (old : World) (trace : List Traced) (world : World)
    → WorldGrown scenario horizon now trees old → Left scenario horizon now trees (events ++ rest) → Runs old number events trace world
    → GrownBy scenario horizon trees events world
runs_grow scenario horizon short [] rest number now trees old trace world s l run =
    record { now = now; more = trees; few = omega arith; grown = subst (WorldGrown scenario horizon now trees) (sym run.1) s }
runs_grow scenario horizon short (first ∷ events) rest number now trees old trace world s l run =
    let fits = first_left scenario horizon now trees first (events ++ rest) l in
    let x = event_comes scenario old horizon now trees short s first l.adds.0 l.sound.0 fits.0 fits.1 in
    let thereafter = runs_grow scenario horizon short events rest (number + 1) x.later x.more run.1 run.2 world
    (turned (WorldGrown scenario horizon x.later x.more) (outcome old first) run.0 run.1 run.3 x.comes)
    (rest_left scenario horizon now x.later trees x.more first (events ++ rest) l x.soon x.few) run.5 in
    let picks = sum_by-cons (λ (one : Timed). cond {A = ℕ} (is_selection one.event) 1 0) first events in
    let own = x.few in
    let few = thereafter.few in
    record { now = thereafter.now; more = thereafter.more; few = omega (arith, own, few, picks); grown = thereafter.grown }
