-- In each run the labels that a node has mapped towards a neighbour are mapped in what it put there since the last raise.
use Rattle.std.specs.Prelude.{Result, Ok, Err, take}
use Rattle.std.proofs.Common.{◌≡◌, ◌≢◌, inl, ◌==◌, ◌&&◌, ◌||◌, ℕ, Bool, true, false, cond, flat_map, is_some, List, [], ◌∷◌, ◌++◌, Option, Some, None, refl, sym, ap, subst, ◌∙◌}
use Rattle.std.specs.List.{AllByRecursion}
use Rattle.std.proofs.lemmas.Bool.{and_parts}
use Rattle.std.proofs.lemmas.Grind.{flat_map-append}
use Rattle.std.proofs.lemmas.List.{append-nil, append_assoc}
use Rattle.mv_base.specs.declared.ids.NodeId.{NodeId}
use Rattle.mv_base.specs.framing.Units.{Spelled, octets_of, messages_of, AreUnits}
use Rattle.mldp.specs.declared.mldp_msgs.message.LabelMessage.{LabelMessage}
use Rattle.scenario_defs.specs.declared.event.Kind.{Kind}
use Rattle.scenario_defs.specs.declared.event.Kind.TheVariants as kinds
use Rattle.scenario_defs.specs.declared.report.ReportLine.{ReportLine}
use Rattle.scenario_defs.specs.declared.report.ReportLine.TheVariants as lines
use Rattle.scenario_defs.specs.declared.scenario.Scenario.{Scenario}
use Rattle.label_defs.specs.declared.end.End.{End}
use Rattle.label_laws.specs.Rule.{is_held, end_of}
use Rattle.mvpn_model.specs.declared.session.Session.{Session}
use Rattle.scenario_defs.specs.Kinds.{same_kind}
use Rattle.network_defs.specs.session_defs.Message.{SessionMessage, Spells}
use Rattle.network_defs.specs.session_defs.Octets as octets
use Rattle.network_defs.specs.session_defs.Octets.{OctetNetwork, octet_run}
use Rattle.network_defs.specs.session_defs.System.{Put, Behind, octets_over}
use Rattle.network_defs.proofs.session_defs.Lines.{are_spelled, are_both, sent_over}
use Rattle.edge_defs.specs.Steps as steps
use Rattle.network_defs.specs.Acts.{Act, Tick, Timers, Move, Lose, Notice, RaiseFirst, RaiseSecond, Restart, At, Enter, Land, Drop, Tell, SetCost, Reroute, Acted, with_network, at_node, put_lines, with_aged, aged, is_of_session, is_from_peer, is_at, leads_to, act}
use Rattle.label_defs.specs.Between.{is_between}
use Rattle.label_defs.proofs.BetweenLemmas.{between_swap}
use Rattle.network_defs.specs.Counts.{direction, directions, is_up as is_end}
use Rattle.network_defs.specs.Local.{put_by, is_up_after, is_up_in, put_since}
use Rattle.network_defs.specs.Nodes.{part_of, Nodes}
use Rattle.network_defs.specs.Run.{Traced}
use Rattle.network_defs.specs.System.{NodeCall, Own, Elapse, Reset, Price, Follow, system}
use Rattle.network_defs.specs.World.{World, scenario_of}
use Rattle.network_defs.proofs.Kept.{enter_keeps, land_keeps}
use Rattle.network_laws.specs.Sound.{Sound}
use Rattle.network_laws.proofs.RunActs.{SoundAct}
use Rattle.rule_laws.specs.Labels.{labels_in}
use Rattle.rule_laws.proofs.Acts.{InStep, IsFit}
use Rattle.rule_laws.proofs.Puts.{labels_both}
use Rattle.license_laws.proofs.Also.{refused_step}
use Rattle.license_laws.proofs.Follows.{Keeps, stepped}
use Rattle.license_laws.proofs.Heard.{up_next}
use Rattle.license_laws.proofs.Hearing.{behaved, or_nothing}
use Rattle.license_laws.proofs.Moving.{raise_is, others_silent, IsOther as IsOtherLine, given_by, enter_other, land_other, single_hits}
use Rattle.license_laws.proofs.Puts.{Once, kind_is}
use Rattle.license_laws.proofs.Raising.{no_end}
use Rattle.license_laws.proofs.Sessions.{Declared}
use Rattle.license_laws.proofs.Since.{hit, was_raised, told_next, raised_next}
use Rattle.license_laws.proofs.Takes.{puts_of, lines_put}
use Rattle.license_laws.proofs.Taking.{declared_once}
use Rattle.license_laws.proofs.Telling.{Tells, RunTells, IsCalm, run_tells, move_tells}
use Rattle.license_laws.proofs.Told.{Says}
use Rattle.rule_laws.proofs.Raises.{between}
use Rattle.rule_laws.proofs.Outs.{said_of}

module _ (scenario : Scenario) (from to : NodeId) where
  -- What a node put to a neighbour since the last raise is whole units, and they map what the node has mapped.
  pub record SaidUp (trace : List Traced) (world : World) : Type 0 where
    pub raised : was_raised kinds.Ldp from to trace ≡ true
    pub once : Once kinds.Ldp from to (directions (scenario_of world))
    pub units : List (Spelled SessionMessage)
    pub each : AreUnits (Spells kinds.Ldp) units
    pub parts : put_since kinds.Ldp from to trace ≡ octets_of units
    pub says : Says to (labels_in (messages_of units)) (part_of (world.network.state.node from))

  -- what an act puts
  record Speaks (old new : World) (all : List ReportLine) : Type 0 where
    puts : List Put
    lines : Once kinds.Ldp from to (directions (scenario_of old)) → puts_of kinds.Ldp from to all ≡ octets_over (direction kinds.Ldp from to) puts
    tells : (ms : List LabelMessage) → Says to ms (part_of (old.network.state.node from)) → Tells scenario from to ms new.network.state puts

  put_is : (trace : List Traced) (step : Traced)
      → put_since kinds.Ldp from to (trace ++ step ∷ [])
      ≡ cond (hit kinds.Ldp from to step) (puts_of kinds.Ldp from to step.happened.lines)
      (cond (was_raised kinds.Ldp from to trace) (put_since kinds.Ldp from to trace ++ puts_of kinds.Ldp from to step.happened.lines) [])
  put_is trace step = told_next kinds.Ldp from to (λ step. flat_map (put_by kinds.Ldp from to) step.happened.lines) trace step

  -- units after units
  with_units : (trace : List Traced) (old new : World) (step : Traced) (units : List (Spelled SessionMessage)) → AreUnits (Spells kinds.Ldp) units
      → (a : Speaks old new step.happened.lines) → Says to (labels_in (messages_of units)) (part_of (old.network.state.node from))
      → Once kinds.Ldp from to (directions (scenario_of old)) → scenario_of new ≡ scenario_of old
      → was_raised kinds.Ldp from to (trace ++ step ∷ []) ≡ true
      → put_since kinds.Ldp from to (trace ++ step ∷ []) ≡ octets_of units ++ puts_of kinds.Ldp from to step.happened.lines
      → SaidUp (trace ++ step ∷ []) new
  with_units trace old new step units each a says once same raised put =
      let t = a.tells (labels_in (messages_of units)) says in
      let sent = sent_over (direction kinds.Ldp from to) a.puts t.are in
      record {
        raised = raised;
        once = subst (λ (own : Scenario). Once kinds.Ldp from to (directions own)) (sym same) once;
        units = units ++ sent.units;
        each = are_both (Spells kinds.Ldp) units sent.units each (are_spelled kinds.Ldp sent.units sent.each);
        parts = put ∙ ap (λ (xs : List ℕ). octets_of units ++ xs) (a.lines once ∙ sent.octets_are)
            ∙ sym (flat_map-append (λ (u : Spelled SessionMessage). u.octets) units sent.units);
        says = subst (λ (ms : List LabelMessage). Says to ms (part_of (new.network.state.node from)))
            (ap (λ (ms : List LabelMessage). labels_in (messages_of units) ++ ms) (ap labels_in sent.messages_are)
            ∙ sym (labels_both (messages_of units) (messages_of sent.units))
            ∙ ap labels_in (sym (flat_map-append (λ (u : Spelled SessionMessage). u.messages) units sent.units))) t.says;
      }

  said_more : (trace : List Traced) (old new : World) (step : Traced) → hit kinds.Ldp from to step ≡ false → scenario_of new ≡ scenario_of old
      → Speaks old new step.happened.lines → SaidUp trace old → SaidUp (trace ++ step ∷ []) new
  said_more trace old new step off same a s =
      with_units trace old new step s.units s.each a s.says s.once same
      (raised_next kinds.Ldp from to trace step ∙ ap (λ (t : Bool). t || (hit kinds.Ldp from to step || false)) s.raised)
      (put_is trace step ∙ (λ i. cond (off i) (puts_of kinds.Ldp from to step.happened.lines)
      (cond (s.raised i) (s.parts i ++ puts_of kinds.Ldp from to step.happened.lines) [])))

  or_on : (a : Bool) → (a || (true || false)) ≡ true
  or_on true = refl
  or_on false = refl

  said_first : (trace : List Traced) (old new : World) (step : Traced) → hit kinds.Ldp from to step ≡ true → scenario_of new ≡ scenario_of old
      → Speaks old new step.happened.lines → Once kinds.Ldp from to (directions (scenario_of old))
      → Says to [] (part_of (old.network.state.node from)) → SaidUp (trace ++ step ∷ []) new
  said_first trace old new step on same a once s =
      with_units trace old new step [] tt a s once same
      (raised_next kinds.Ldp from to trace step ∙ ap (λ (t : Bool). was_raised kinds.Ldp from to trace || (t || false)) on
      ∙ or_on (was_raised kinds.Ldp from to trace))
      (put_is trace step ∙ ap (λ (t : Bool). cond t (puts_of kinds.Ldp from to step.happened.lines)
      (cond (was_raised kinds.Ldp from to trace) (put_since kinds.Ldp from to trace ++ puts_of kinds.Ldp from to step.happened.lines) [])) on)

  -- ---- acts

  net_speaks : (world : World) (before : List ReportLine) (found : Option (Behind (OctetNetwork Nodes))) (node : NodeId) (acted : Acted)
      → puts_of kinds.Ldp from to before ≡ [] → ((ms : List LabelMessage) → Says to ms (part_of (world.network.state.node from))
      → RunTells scenario from to ms found)
      → with_network world before found node ≡ Ok acted → Speaks world acted.world acted.lines
  net_speaks world before found node acted none h e =
      let b = behaved world before found node acted e in
      let made : Acted = record { world = record world { network = b.new.network }; lines = before ++ put_lines (scenario_of world) b.new.puts } in
      let x : Speaks world made.world made.lines = record {
        puts = b.new.puts;
        lines = λ once. flat_map-append (put_by kinds.Ldp from to) before (put_lines (scenario_of world) b.new.puts)
            ∙ (λ i. none i ++ lines_put kinds.Ldp from to (scenario_of world) b.new.puts once i);
        tells = λ ms s. subst (RunTells scenario from to ms) b.is (h ms s);
      } in
      subst (λ (a : Acted). Speaks world a.world a.lines) (sym b.same) x

  still_speaks : (world new : World) (all : List ReportLine) → Sound scenario world.network.state → new.network ≡ world.network
      → puts_of kinds.Ldp from to all ≡ [] → Speaks world new all
  still_speaks world new all sound same none = record {
    puts = [];
    lines = λ once. none;
    tells = λ ms s. subst (λ (net : OctetNetwork Nodes). Tells scenario from to ms net.state []) (sym same)
        (record {
          are = tt;
          sound = sound;
          says =
              subst (λ (own : List LabelMessage). Says to own (part_of (world.network.state.node from))) (sym (append-nil ms)) s;
        });
  }

  acts_speak : (world : World) (node : NodeId) (acts : List (octets.OctetAct NodeCall)) (acted : Acted) → Sound scenario world.network.state
      → AllByRecursion (λ one. IsCalm scenario from to one) acts → at_node world node [] acts ≡ Ok acted → Speaks world acted.world acted.lines
  acts_speak world node acts acted sound calm e =
      net_speaks world [] (octet_run system world.network acts) node acted refl
      (λ ms s. run_tells scenario from to acts calm ms world.network sound s) e

  aged_speaks : (world : World) (found : Result Acted NodeId) (acted : Acted) → ((mid : Acted) → found ≡ Ok mid → Speaks world mid.world mid.lines)
      → with_aged found ≡ Ok acted → Speaks world acted.world acted.lines
  aged_speaks world (Err node) acted h e = absurd cc
  aged_speaks world (Ok new) acted h e =
      let made : Acted = record new { world = aged new.world } in
      let same : made ≡ acted = cc in
      let x = h new refl in
      subst (λ (a : Acted). Speaks world a.world a.lines) same (record { puts = x.puts; lines = x.lines; tells = x.tells })

  single_speaks : (world : World) (one : Act) (acted : Acted) → InStep scenario world → SoundAct scenario one → IsFit world one
      → act world one ≡ Ok acted → Speaks world acted.world acted.lines
  single_speaks world (Tick ticks) acted s sound fit e =
      aged_speaks world (at_node world (record { 0 = 0 }) [] (octets.Call (Elapse ticks) ∷ [])) acted
      (λ mid g. acts_speak world (record { 0 = 0 }) (octets.Call (Elapse ticks) ∷ []) mid s.2.base.sound (tt, tt) g) e
  single_speaks world (Timers n) acted s sound fit e =
      acts_speak world n (octets.Call (Own n steps.Timers) ∷ []) acted s.2.base.sound ((sound, tt), tt) e
  single_speaks world (Move own u n count) acted s sound fit e =
      net_speaks world (lines.Take own u n (take count (world.network.transit (direction own u n))) ∷ [])
      (octet_run system world.network (octets.Move (direction own u n) count ∷ [])) n acted refl
      (λ ms says. move_tells scenario from to (direction own u n) count s.0 ms world.network (s.1 (direction own u n)) s.2.base.sound says) e
  single_speaks world (Lose own a b) acted s sound fit e =
      acts_speak world a (octets.Lose (is_of_session own a b) ∷ []) acted s.2.base.sound (tt, tt) e
  single_speaks world (Notice own a b) acted s sound fit e =
      acts_speak world a (octets.Forget (is_from_peer own a b) ∷ octets.Call (Own a (steps.Noticed own b)) ∷ []) acted s.2.base.sound
      (tt, ((sound, tt), tt)) e
  single_speaks world (RaiseFirst own a b) acted s sound fit e = absurd fit
  single_speaks world (RaiseSecond own a b) acted s sound fit e = absurd fit
  single_speaks world (Restart n) acted s sound fit e =
      acts_speak world n (octets.Lose (is_at n) ∷ octets.Forget (leads_to n) ∷ octets.Call (Reset n) ∷ []) acted s.2.base.sound (tt, (tt, (tt, tt))) e
  single_speaks world (At n call) acted s sound fit e = acts_speak world n (octets.Call (Own n call) ∷ []) acted s.2.base.sound (sound, tt) e
  single_speaks world (Enter vrf) acted s sound fit e =
      still_speaks world acted.world acted.lines s.2.base.sound
      (given_by (λ new. new.network ≡ world.network) (act world (Enter vrf)) acted (enter_keeps (λ net. net ≡ world.network) world vrf refl) e)
      (others_silent kinds.Ldp from to acted.lines (said_of IsOtherLine (act world (Enter vrf)) acted (enter_other world vrf) e)).0
  single_speaks world (Land a b place) acted s sound fit e =
      still_speaks world acted.world acted.lines s.2.base.sound
      (given_by (λ new. new.network ≡ world.network) (act world (Land a b place)) acted
      (land_keeps (λ net. net ≡ world.network) world a b place refl) e)
      (others_silent kinds.Ldp from to acted.lines (said_of IsOtherLine (act world (Land a b place)) acted (land_other world a b place) e)).0
  single_speaks world (Drop a b place) acted s sound fit e =
      still_speaks world acted.world acted.lines s.2.base.sound
      (given_by (λ new. new.network ≡ world.network) (act world (Drop a b place)) acted refl e)
      (others_silent kinds.Ldp from to acted.lines (said_of IsOtherLine (act world (Drop a b place)) acted tt e)).0
  single_speaks world Tell acted s sound fit e =
      still_speaks world acted.world acted.lines s.2.base.sound (given_by (λ new. new.network ≡ world.network) (act world Tell) acted refl e)
      (others_silent kinds.Ldp from to acted.lines (said_of IsOtherLine (act world Tell) acted (tt, tt) e)).0
  single_speaks world (SetCost a b cost) acted s sound fit e =
      acts_speak world a (octets.Call (Price a b cost) ∷ []) acted s.2.base.sound (sound, tt) e
  single_speaks world (Reroute n) acted s sound fit e = acts_speak world n (octets.Call (Follow n) ∷ []) acted s.2.base.sound (sound, tt) e

  down_up : (t b : Bool) → cond t false b ≡ true → b ≡ true
  down_up true b e = absurd cc
  down_up false b e = e

  up_before : (world : World) (one : Act) → IsFit world one → (b : Bool) → is_up_after kinds.Ldp from to b (Some one) ≡ true → b ≡ true
  up_before world (Tick ticks) fit b e = e
  up_before world (Timers n) fit b e = e
  up_before world (Move own u n count) fit b e = e
  up_before world (Lose own u n) fit b e = e
  up_before world (Notice own u n) fit b e = down_up (same_kind kinds.Ldp own && (u.0 == from.0) && (n.0 == to.0)) b e
  up_before world (RaiseFirst own u n) fit b e = absurd fit
  up_before world (RaiseSecond own u n) fit b e = absurd fit
  up_before world (Restart n) fit b e = down_up (n.0 == from.0) b e
  up_before world (At n call) fit b e = e
  up_before world (Enter vrf) fit b e = e
  up_before world (Land u n place) fit b e = e
  up_before world (Drop u n place) fit b e = e
  up_before world Tell fit b e = e
  up_before world (SetCost u n cost) fit b e = e
  up_before world (Reroute n) fit b e = e

  -- what is so where the end is up
  abbrev pub SaidAt : List Traced → World → Type 0
  SaidAt trace world = is_up_in kinds.Ldp from to trace ≡ true → SaidUp trace world

  single_said : (trace : List Traced) (number : ℕ) (world : World) (one : Act) (acted : Acted) → InStep scenario world → SoundAct scenario one
      → IsFit world one → act world one ≡ Ok acted → InStep scenario acted.world → SaidAt trace world
      → SaidAt (trace ++ stepped number one acted ∷ []) acted.world
  single_said trace number world one acted s sound fit e t k up =
      said_more trace world acted.world (stepped number one acted) (single_hits kinds.Ldp from to number world one acted fit)
      (t.2.base.sound.same ∙ sym s.2.base.sound.same) (single_speaks world one acted s sound fit e)
      (k (up_before world one fit (is_up_in kinds.Ldp from to trace) (sym (up_next kinds.Ldp from to trace (stepped number one acted)) ∙ up)))

  held_up : (o : Option End) → is_held o ≡ true → is_some o ≡ true
  held_up None e = absurd cc
  held_up (Some end) e = refl

  nothing_said : (world : World) → InStep scenario world → from ≢ to → is_end world kinds.Ldp from to ≡ false
      → Says to [] (part_of (world.network.state.node from))
  nothing_said world s ne off = record {
    mapped = λ fec label e.
        let held = ((s.2.kept []).rule.view to from label (λ same. ne (sym same))).owner fec (inl e) in
        let x : true ≡ false = sym (held_up (end_of (part_of (world.network.state.node from)) to) held) ∙ off in absurd cc;
  }

  pair_said : (trace : List Traced) (number : ℕ) (world : World) (session : Session) (first second : Acted) → Declared scenario session
      → InStep scenario world → is_end world session.kind session.a session.b ≡ false → is_end world session.kind session.b session.a ≡ false
      → act world (RaiseFirst session.kind session.a session.b) ≡ Ok first
      → act first.world (RaiseSecond session.kind session.a session.b) ≡ Ok second → InStep scenario second.world → SaidAt trace world
      → SaidAt (trace ++ stepped number (RaiseFirst session.kind session.a session.b) first
      ∷ stepped number (RaiseSecond session.kind session.a session.b) second ∷ []) second.world
  pair_said trace number world session first second declared s off back e g t k up =
      by (is_of_session session.kind session.a session.b (direction kinds.Ldp from to)) refl
    where
      a : Speaks world first.world first.lines
      a = acts_speak world session.a (octets.Join (is_of_session session.kind session.a session.b)
          ∷ octets.Call (Own session.a (steps.Raised session.kind session.b)) ∷ []) first s.2.base.sound (tt, ((declared.pair.first, tt), tt)) e

      -- both, by what is said before the first act
      ends : (ms : List LabelMessage) → Says to ms (part_of (world.network.state.node from))
          → (scenario_of first.world ≡ scenario_of world
          → SaidUp (trace ++ stepped number (RaiseFirst session.kind session.a session.b) first ∷ []) first.world)
          → SaidUp (trace ++ stepped number (RaiseFirst session.kind session.a session.b) first
          ∷ stepped number (RaiseSecond session.kind session.a session.b) second ∷ []) second.world
      ends ms says mid =
          let sound : Sound scenario first.world.network.state =
          ((acts_speak world session.a (octets.Join (is_of_session session.kind session.a session.b)
          ∷ octets.Call (Own session.a (steps.Raised session.kind session.b)) ∷ []) first s.2.base.sound (tt, ((declared.pair.first, tt), tt))
          e).tells ms says).sound in
          let b : Speaks first.world second.world second.lines =
          acts_speak first.world session.b (octets.Call (Own session.b (steps.Raised session.kind session.a)) ∷ []) second sound
          ((declared.pair.second, tt), tt) g in
          subst (λ (tr : List Traced). SaidUp tr second.world)
          (append_assoc trace (stepped number (RaiseFirst session.kind session.a session.b) first ∷ [])
          (stepped number (RaiseSecond session.kind session.a session.b) second ∷ []))
          (said_more (trace ++ stepped number (RaiseFirst session.kind session.a session.b) first ∷ []) first.world second.world
          (stepped number (RaiseSecond session.kind session.a session.b) second) refl (t.2.base.sound.same ∙ sym sound.same) b
          (mid (sound.same ∙ sym s.2.base.sound.same)))

      by : (x : Bool) → is_of_session session.kind session.a session.b (direction kinds.Ldp from to) ≡ x
          → SaidUp (trace ++ stepped number (RaiseFirst session.kind session.a session.b) first
          ∷ stepped number (RaiseSecond session.kind session.a session.b) second ∷ []) second.world
      by true on =
          let y = and_parts (same_kind session.kind kinds.Ldp) (is_between session.a session.b from to) on in
          let end : is_end world session.kind from to ≡ false =
          between (λ u n. is_end world session.kind u n ≡ false) session.a session.b from to off back y.1 in
          let ne : from ≢ to = between (λ u n. u ≢ n) session.a session.b from to declared.pair.apart (λ q. declared.pair.apart (sym q)) y.1 in
          let none : Says to [] (part_of (world.network.state.node from)) =
          nothing_said world s ne (ap (λ (k : Kind). is_end world k from to) (sym (kind_is session.kind kinds.Ldp y.0)) ∙ end) in
          let once : Once kinds.Ldp from to (directions (scenario_of world)) =
          subst (λ (own : Scenario). Once kinds.Ldp from to (directions own)) (sym s.2.base.sound.same)
          (declared_once kinds.Ldp from to scenario session declared on) in
          ends [] none (λ same. said_first trace world first.world (stepped number (RaiseFirst session.kind session.a session.b) first)
          (raise_is kinds.Ldp from to session.kind session.a session.b ∙ on) same a once none)
      by false other =
          let n = no_end kinds.Ldp to from session.kind session.a session.b (turned_off other) in
          let was : is_up_in kinds.Ldp from to trace ≡ true =
          sym (or_nothing (is_up_in kinds.Ldp from to trace) (same_kind kinds.Ldp session.kind && (session.a.0 == from.0) && (session.b.0 == to.0))
          n.0)
          ∙ sym (or_nothing (is_up_in kinds.Ldp from to trace
          || (same_kind kinds.Ldp session.kind && (session.a.0 == from.0) && (session.b.0 == to.0)))
          (same_kind kinds.Ldp session.kind && (session.b.0 == from.0) && (session.a.0 == to.0)) n.1)
          ∙ ap (λ (b : Bool). b || (same_kind kinds.Ldp session.kind && (session.b.0 == from.0) && (session.a.0 == to.0)))
          (sym (up_next kinds.Ldp from to trace (stepped number (RaiseFirst session.kind session.a session.b) first)))
          ∙ sym (up_next kinds.Ldp from to (trace ++ stepped number (RaiseFirst session.kind session.a session.b) first ∷ [])
          (stepped number (RaiseSecond session.kind session.a session.b) second))
          ∙ ap (λ (tr : List Traced). is_up_in kinds.Ldp from to tr)
          (append_assoc trace (stepped number (RaiseFirst session.kind session.a session.b) first ∷ [])
          (stepped number (RaiseSecond session.kind session.a session.b) second ∷ [])) ∙ up in
          let old = k was in
          ends (labels_in (messages_of old.units)) old.says
          (λ same. said_more trace world first.world (stepped number (RaiseFirst session.kind session.a session.b) first)
          (raise_is kinds.Ldp from to session.kind session.a session.b ∙ other) same a old)
        where
          turned_off : is_of_session session.kind session.a session.b (direction kinds.Ldp from to) ≡ false
              → is_of_session session.kind session.a session.b (direction kinds.Ldp to from) ≡ false
          turned_off e = ap (λ (b : Bool). same_kind session.kind kinds.Ldp && b) (between_swap session.a session.b to from) ∙ e

abbrev pub Said : Scenario → List Traced → World → Type 0
Said scenario trace world = (from to : NodeId) → SaidAt scenario from to trace world

pub said_kept : (scenario : Scenario) → Keeps scenario (Said scenario)
said_kept scenario = record {
  single = λ before number world one acted s sound fit e t k from to. single_said scenario from to before number world one acted s sound fit e t
      (k from to);
  pair = λ before number world session first second declared s off back e g t k from to. pair_said scenario from to before number world session first
      second declared s off back e g t (k from to);
  accepted =
      λ before world datagram s k from to up. (let x = k from to up in
      record { raised = x.raised; once = x.once; units = x.units; each = x.each; parts = x.parts; says = x.says });
  refused = λ before number world line reason k from to up.
      let step : Traced = refused_step number line reason in
      let x = k from to (sym (up_next kinds.Ldp from to before step) ∙ up) in
      record {
        raised = raised_next kinds.Ldp from to before step ∙ ap (λ (t : Bool). t || (false || false)) x.raised;
        once = x.once;
        units = x.units;
        each = x.each;
        parts = put_is scenario from to before step ∙ ap (λ (t : Bool). cond t (put_since kinds.Ldp from to before ++ []) []) x.raised
            ∙ append-nil (put_since kinds.Ldp from to before) ∙ x.parts;
        says = x.says;
      };
}
