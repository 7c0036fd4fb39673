-- Each act keeps it that a node keeps of a neighbour what the messages say that it took from there since the last raise.
use Rattle.std.specs.Prelude.{Result, Ok, Err, take}
use Rattle.std.proofs.Common.{◌≡◌, inl, inr, ◌==◌, ◌&&◌, ◌||◌, not, ℕ, zero, suc, Bool, true, false, cond, List, [], ◌∷◌, ◌++◌, Option, Some, None, refl, sym, ap, subst, ◌∙◌}
use Rattle.std.specs.List.{AllByRecursion}
use Rattle.std.proofs.lemmas.Bool.{and_parts}
use Rattle.std.proofs.lemmas.Grind.{flat_map-append}
use Rattle.std.proofs.lemmas.List.{append-nil}
use Rattle.mv_base.specs.Number.{◌>>?◌}
use Rattle.mv_base.specs.declared.ids.NodeId.{NodeId}
use Rattle.mv_base.specs.framing.Feed.{unfed}
use Rattle.scenario_defs.specs.declared.event.Kind.{Kind}
use Rattle.scenario_defs.specs.declared.event.Kind.TheVariants as kinds
use Rattle.scenario_defs.specs.declared.report.ReportLine.{ReportLine}
use Rattle.scenario_defs.specs.declared.report.ReportLine.TheVariants as lines
use Rattle.scenario_defs.specs.declared.scenario.Scenario.{Scenario}
use Rattle.label_defs.proofs.KeyLemmas.{node_equal, node_cases, node_itself}
use Rattle.scenario_defs.specs.Kinds.{same_kind}
use Rattle.network_defs.specs.session_defs.Message.{SessionMessage, same_direction}
use Rattle.network_defs.specs.session_defs.Octets as octets
use Rattle.network_defs.specs.session_defs.Octets.{OctetNetwork, OctetAct, moved, octet_run, with_step}
use Rattle.network_defs.specs.session_defs.Refined.{Carried, IsLine}
use Rattle.network_defs.specs.session_defs.System.{Stepped, Behind, with_earlier}
use Rattle.network_defs.specs.declared.session_defs.direction.Direction.{Direction}
use Rattle.network_defs.proofs.session_defs.Lines.{direction_is}
use Rattle.edge_defs.specs.Steps as steps
use Rattle.network_defs.specs.Acts.{Act, Tick, Timers, Move, Lose, Notice, RaiseFirst, RaiseSecond, Restart, At, Enter, Land, Drop, Tell, SetCost, Reroute, Acted, with_network, at_node, put_lines, with_aged, aged, is_of_session, is_from_peer, is_at, leads_to, act}
use Rattle.network_defs.specs.Counts.{direction, directions}
use Rattle.network_defs.specs.Local.{is_up_after, is_up_in, taken_by, taken_since}
use Rattle.network_defs.specs.Nodes.{NodeState, Nodes, with_node, fresh_node}
use Rattle.network_defs.specs.Run.{Traced}
use Rattle.network_defs.specs.System.{NodeCall, Own, Elapse, Reset, Price, Follow, system}
use Rattle.network_defs.specs.World.{World, scenario_of}
use Rattle.network_defs.proofs.Kept.{enter_keeps, land_keeps}
use Rattle.network_laws.specs.Honest.{IsSoundCall}
use Rattle.network_laws.proofs.RunActs.{SoundAct}
use Rattle.rule_laws.proofs.Acts.{InStep, IsFit}
use Rattle.rule_laws.proofs.Raised.{alike}
use Rattle.rule_laws.proofs.Outs.{said_of}
use Rattle.rule_laws.proofs.Copies.{eq_turned}
use Rattle.license_laws.proofs.Follows.{stepped}
use Rattle.license_laws.proofs.Hears.{Follower, NetworkHas, IsTame, IsOwnCall, run_has}
use Rattle.license_laws.proofs.Heard.{up_next, taken_more, Hearing, HearingBehind, run_hears, own_moved, other_moved, other_silent}
use Rattle.license_laws.proofs.Moving.{kind_swap, take_is, others_silent, single_moves, single_hits, IsOther as IsOtherLine, given_by, enter_other, land_other}
use Rattle.license_laws.proofs.Puts.{puts_take, kind_is}
use Rattle.license_laws.proofs.Since.{hit, was_raised}
use Rattle.license_laws.proofs.Taking.{Taking}
use Rattle.license_laws.proofs.Takes.{takes_of, Way, Moves}

take_none : (count : ℕ) → take {A = ℕ} count [] ≡ []
take_none zero = refl
take_none (suc count) = refl

-- the network after an act at a node
pub record Behaved (world : World) (before : List ReportLine) (found : Option (Behind (OctetNetwork Nodes))) (acted : Acted) : Type 0 where
  pub new : Behind (OctetNetwork Nodes)
  pub is : found ≡ Some new
  pub same : acted ≡ record { world = record world { network = new.network }; lines = before ++ put_lines (scenario_of world) new.puts }

pub behaved : (world : World) (before : List ReportLine) (found : Option (Behind (OctetNetwork Nodes))) (node : NodeId) (acted : Acted)
    → with_network world before found node ≡ Ok acted → Behaved world before found acted
behaved world before None node acted e = absurd cc
behaved world before (Some new) node acted e = record { new = new; is = refl; same = cc }

sound_own : (call : steps.Call) → IsSoundCall call → IsOwnCall call
sound_own (steps.Update peer message) s = s
sound_own (steps.Label neighbour message) s = s
sound_own (steps.Customer call) s = tt
sound_own (steps.Raised kind peer) s = tt
sound_own (steps.Noticed kind peer) s = tt
sound_own steps.Timers s = tt
sound_own steps.Rerouted s = absurd s

module _ (kind : Kind) (from to : NodeId) (P : List SessionMessage → NodeState → Type 0) (f : Follower kind from to P) where
  -- What a node keeps of a neighbour, by the trace: what it took since the last raise, while its end is up, and nothing otherwise.
  pub record Heard (trace : List Traced) (world : World) : Type 0 where
    pub up : world.network.joined (direction kind from to) ≡ true → is_up_in kind to from trace ≡ true
    pub heard : is_up_in kind to from trace ≡ true → Hearing kind from to P f world.network (taken_since kind from to trace)
    pub silent : is_up_in kind to from trace ≡ false → P [] (world.network.state.node to)

  -- what an act does to it
  pub record Effect (old new : World) (all : List ReportLine) : Type 0 where
    pub hears : (taken : List ℕ) → Hearing kind from to P f old.network taken
        → Hearing kind from to P f new.network (taken ++ takes_of kind from to all)
    pub keeps : P [] (old.network.state.node to) → P [] (new.network.state.node to)

  pub tame_effect : (world : World) (node : NodeId) (acts : List (OctetAct NodeCall)) (acted : Acted)
      → AllByRecursion (λ one. IsTame kind from to P f one) acts → at_node world node [] acts ≡ Ok acted → Effect world acted.world acted.lines
  tame_effect world node acts acted tame e =
      let b = behaved world [] (octet_run system world.network acts) node acted e in
      let made : Acted = record { world = record world { network = b.new.network }; lines = put_lines (scenario_of world) b.new.puts } in
      let effect : Effect world made.world made.lines = record {
        hears = λ taken h. subst (λ (t : List ℕ). Hearing kind from to P f b.new.network t)
            (sym (ap (λ (xs : List ℕ). taken ++ xs) (puts_take kind from to b.new.puts (directions (scenario_of world))) ∙ append-nil taken))
            (subst (HearingBehind kind from to P f taken) b.is (run_hears kind from to P f acts tame world.network taken h));
        keeps = λ p. subst (NetworkHas kind from to P f []) b.is (run_has kind from to P f acts tame [] world.network p);
      } in
      subst (λ (a : Acted). Effect world a.world a.lines) (sym b.same) effect

  pub still_effect : (world new : World) (all : List ReportLine) → new.network ≡ world.network → takes_of kind from to all ≡ [] → Effect world new all
  still_effect world new all same none = record {
    hears = λ taken h. subst (λ (net : OctetNetwork Nodes). Hearing kind from to P f net (taken ++ takes_of kind from to all)) (sym same)
        (subst (Hearing kind from to P f world.network) (sym (ap (λ (xs : List ℕ). taken ++ xs) none ∙ append-nil taken)) h);
    keeps = λ p. subst (λ (net : OctetNetwork Nodes). P [] (net.state.node to)) (sym same) p;
  }

  -- ---- a move

  pub move_found : (world : World) (way : Direction) (count : ℕ) (pending : Direction → List SessionMessage)
      → ((over : Direction) → IsLine over.kind (world.network.joined over) (world.network.stream over) (world.network.transit over) (pending over))
      → (taken : List ℕ) → Hearing kind from to P f world.network taken
      → HearingBehind kind from to P f (taken ++ cond (same_direction (direction kind from to) way) (take count (world.network.transit way)) [])
      (octet_run system world.network (octets.Move way count ∷ []))
  move_found world way count pending lines taken h = by (world.network.joined way) refl (lines way)
    where
      out : (t : Bool) (o : Option (Behind (OctetNetwork Nodes))) (took : List ℕ) → HearingBehind kind from to P f took o
          → HearingBehind kind from to P f took (o >>? λ next. with_earlier next.puts (Some (record { network = next.network; puts = [] })))
      out t None took x = tt
      out t (Some new) took x = x

      none : (t : Bool) → world.network.transit way ≡ [] → cond t (take count (world.network.transit way)) [] ≡ []
      none true e = ap (take count) e ∙ take_none count
      none false e = refl

      moves : (t : Bool) → same_direction (direction kind from to) way ≡ t → world.network.joined way ≡ true
          → Carried way.kind (world.network.stream way) (world.network.transit way) (pending way)
          → HearingBehind kind from to P f (taken ++ cond t (take count (world.network.transit way)) []) (moved system world.network way count)
      moves true e j c =
          let same : direction kind from to ≡ way = direction_is (direction kind from to) way e in
          subst (λ (d : Direction). Carried d.kind (world.network.stream d) (world.network.transit d) (pending d)
          → HearingBehind kind from to P f (taken ++ take count (world.network.transit d)) (moved system world.network d count)) same
          (λ own. own_moved kind from to P f world.network count (pending (direction kind from to)) taken own h) c
      moves false e j c =
          subst (λ (t : List ℕ). HearingBehind kind from to P f t (moved system world.network way count)) (sym (append-nil taken))
          (other_moved kind from to P f world.network way count (pending way) taken e c h)

      by : (t : Bool) → world.network.joined way ≡ t → IsLine way.kind t (world.network.stream way) (world.network.transit way) (pending way)
          → HearingBehind kind from to P f (taken ++ cond (same_direction (direction kind from to) way) (take count (world.network.transit way)) [])
          ((cond t (moved system world.network way count) (Some (record { network = world.network; puts = [] }))) >>? λ next. with_earlier
          next.puts (Some (record { network = next.network; puts = [] })))
      by true j line =
          out true (moved system world.network way count)
          (taken ++ cond (same_direction (direction kind from to) way) (take count (world.network.transit way)) [])
          (moves (same_direction (direction kind from to) way) refl j line)
      by false j line =
          subst (λ (xs : List ℕ). Hearing kind from to P f world.network (taken ++ xs))
          (sym (none (same_direction (direction kind from to) way) line.0))
          (subst (Hearing kind from to P f world.network) (sym (append-nil taken)) h)

  -- a node that has nothing gets nothing, where no message comes to it
  pub move_silent : (world : World) (way : Direction) (count : ℕ) (pending : Direction → List SessionMessage)
      → ((over : Direction) → IsLine over.kind (world.network.joined over) (world.network.stream over) (world.network.transit over) (pending over))
      → world.network.joined (direction kind from to) ≡ false → P [] (world.network.state.node to)
      → NetworkHas kind from to P f [] (octet_run system world.network (octets.Move way count ∷ []))
  move_silent world way count pending lines off p = by (world.network.joined way) refl (lines way)
    where
      out : (o : Option (Behind (OctetNetwork Nodes))) → NetworkHas kind from to P f [] o
          → NetworkHas kind from to P f [] (o >>? λ next. with_earlier next.puts (Some (record { network = next.network; puts = [] })))
      out None x = tt
      out (Some new) x = x

      apart : (t : Bool) → same_direction (direction kind from to) way ≡ t → world.network.joined way ≡ true
          → same_direction (direction kind from to) way ≡ false
      apart true e j =
          (let same : direction kind from to ≡ way = direction_is (direction kind from to) way e in let x : true ≡ false =
          sym j ∙ ap world.network.joined (sym same) ∙ off in absurd cc)
      apart false e j = e

      by : (t : Bool) → world.network.joined way ≡ t → IsLine way.kind t (world.network.stream way) (world.network.transit way) (pending way)
          → NetworkHas kind from to P f [] ((cond t (moved system world.network way count) (Some (record { network = world.network; puts = [] }))) >>?
          λ next. with_earlier next.puts (Some (record { network = next.network; puts = [] })))
      by true j line =
          out (moved system world.network way count)
          (other_silent kind from to P f world.network way count (pending way) (apart (same_direction (direction kind from to) way) refl j) line p)
      by false j line = p

  -- ---- one act more

  -- an act after which the end is up as it was
  pub heard_more : (trace : List Traced) (old new : World) (step : Traced) → hit kind from to step ≡ false
      → is_up_after kind to from (is_up_in kind to from trace) step.happened.act ≡ is_up_in kind to from trace
      → (was_raised kind from to trace ≡ false → takes_of kind from to step.happened.lines ≡ [])
      → (new.network.joined (direction kind from to) ≡ true → old.network.joined (direction kind from to) ≡ true)
      → ((taken : List ℕ) → Hearing kind from to P f old.network taken
      → Hearing kind from to P f new.network (taken ++ takes_of kind from to step.happened.lines))
      → (is_up_in kind to from trace ≡ false → P [] (old.network.state.node to) → P [] (new.network.state.node to)) → Heard trace old
      → Heard (trace ++ step ∷ []) new
  heard_more trace old new step off same none joined hears keeps h =
      let now : is_up_in kind to from (trace ++ step ∷ []) ≡ is_up_in kind to from trace = up_next kind to from trace step ∙ same in
      record {
        up = λ j. now ∙ h.up (joined j);
        heard = λ u. subst (Hearing kind from to P f new.network) (sym (taken_more kind from to trace step off none))
            (hears (taken_since kind from to trace) (h.heard (sym now ∙ u)));
        silent = λ d. keeps (sym now ∙ d) (h.silent (sym now ∙ d));
      }

  -- an act after which it is down
  pub heard_down : (trace : List Traced) (old new : World) (step : Traced)
      → is_up_after kind to from (is_up_in kind to from trace) step.happened.act ≡ false → new.network.joined (direction kind from to) ≡ false
      → P [] (new.network.state.node to) → Heard (trace ++ step ∷ []) new
  heard_down trace old new step down off p = record {
    up = λ j. (let x : true ≡ false = sym j ∙ off in absurd cc);
    heard = λ u. (let x : true ≡ false = sym u ∙ up_next kind to from trace step ∙ down in absurd cc);
    silent = λ d. p;
  }

-- ---- tests

and_turned : (k x y : Bool) → (k && x && y) ≡ (k && y && x)
and_turned false x y = refl
and_turned true true true = refl
and_turned true true false = refl
and_turned true false true = refl
and_turned true false false = refl

-- the end of a direction's receiver
pub peer_swap : (kind : Kind) (from to : NodeId) (own : Kind) (a b : NodeId)
    → (same_kind kind own && (a.0 == to.0) && (b.0 == from.0)) ≡ is_from_peer own a b (direction kind from to)
peer_swap kind from to own a b =
    and_turned (same_kind kind own) (a.0 == to.0) (b.0 == from.0) ∙ (λ i. kind_swap kind own i && eq_turned b.0 from.0 i && eq_turned a.0 to.0 i)

pub or_nothing : (b t : Bool) → t ≡ false → (b || t) ≡ b
or_nothing true t e = refl
or_nothing false t e = e

module _ (kind : Kind) (from to : NodeId) (P : List SessionMessage → NodeState → Type 0) (f : Follower kind from to P) where
  nil_left : (xs ys : List ℕ) → [] ≡ xs ++ ys → xs ≡ []
  nil_left [] ys e = refl
  nil_left (x ∷ xs) ys e = absurd cc

  pub none_taken : (trace : List Traced) (old new : World) (all : List ReportLine) → Way trace old kind from to → Moves old new kind from to all
      → was_raised kind from to trace ≡ false → takes_of kind from to all ≡ []
  none_taken trace old new all w m off = by (old.network.joined (direction kind from to)) refl
    where
      by : (t : Bool) → old.network.joined (direction kind from to) ≡ t → takes_of kind from to all ≡ []
      by true e = (let x : true ≡ false = sym (w.joined e).0 ∙ off in absurd cc)
      by false e = nil_left (takes_of kind from to all) m.left (sym (w.idle e) ∙ m.parts)

  module _ (scenario : Scenario) (trace : List Traced) (number : ℕ) (world : World) (t : Taking trace world) (s : InStep scenario world)
      (h : Heard kind from to P f trace world) where
    abbrev Next : Act → Acted → Type 0
    Next one acted = Heard kind from to P f (trace ++ stepped number one acted ∷ []) acted.world

    moves : (one : Act) (acted : Acted) → IsFit world one → act world one ≡ Ok acted → Moves world acted.world kind from to acted.lines
    moves one acted fit e = single_moves kind from to world one acted fit (λ own u n. (t.ways own u n).idle) e

    by_effect : (one : Act) (acted : Acted) → IsFit world one → act world one ≡ Ok acted
        → is_up_after kind to from (is_up_in kind to from trace) (Some one) ≡ is_up_in kind to from trace
        → Effect kind from to P f world acted.world acted.lines → Next one acted
    by_effect one acted fit e same effect =
        let m = moves one acted fit e in
        heard_more kind from to P f trace world acted.world (stepped number one acted) (single_hits kind from to number world one acted fit) same
        (none_taken trace world acted.world acted.lines (t.ways kind from to) m) (λ j. (m.joined j).0) effect.hears (λ d p. effect.keeps p) h

    tick_heard : (ticks : ℕ) (acted : Acted) → act world (Tick ticks) ≡ Ok acted → Next (Tick ticks) acted
    tick_heard ticks acted e =
        by_effect (Tick ticks) acted tt e refl (by (at_node world (record { 0 = 0 }) [] (octets.Call (Elapse ticks) ∷ [])) refl e)
      where
        by : (o : Result Acted NodeId) → at_node world (record { 0 = 0 }) [] (octets.Call (Elapse ticks) ∷ []) ≡ o → with_aged o ≡ Ok acted
            → Effect kind from to P f world acted.world acted.lines
        by (Err node) f e = absurd cc
        by (Ok new) g e =
            let made : Acted = record new { world = aged new.world } in
            let same : made ≡ acted = cc in
            let x = tame_effect kind from to P f world (record { 0 = 0 }) (octets.Call (Elapse ticks) ∷ []) new (tt, tt) g in
            subst (λ (a : Acted). Effect kind from to P f world a.world a.lines) same (record { hears = x.hears; keeps = x.keeps })

    move_heard : (own : Kind) (u n : NodeId) (count : ℕ) (acted : Acted) → act world (Move own u n count) ≡ Ok acted → Next (Move own u n count) acted
    move_heard own u n count acted e =
        let way : Direction = direction own u n in
        let line : List ReportLine = lines.Take own u n (take count (world.network.transit way)) ∷ [] in
        let found = octet_run system world.network (octets.Move way count ∷ []) in
        let b = behaved world line found n acted e in
        let made : Acted = record { world = record world { network = b.new.network }; lines = line ++ put_lines (scenario_of world) b.new.puts } in
        let took : takes_of kind from to made.lines ≡ cond (same_direction (direction kind from to) way) (take count (world.network.transit way)) [] =
        flat_map-append (taken_by kind from to) line (put_lines (scenario_of world) b.new.puts)
        ∙ ap (λ (xs : List ℕ). takes_of kind from to line ++ xs) (puts_take kind from to b.new.puts (directions (scenario_of world)))
        ∙ append-nil (takes_of kind from to line) ∙ take_is kind from to world own u n count in
        let m = moves (Move own u n count) acted tt e in
        heard_more kind from to P f trace world acted.world (stepped number (Move own u n count) acted) refl refl
        (none_taken trace world acted.world acted.lines (t.ways kind from to) m) (λ j. (m.joined j).0)
        (subst (λ (a : Acted). (taken : List ℕ) → Hearing kind from to P f world.network taken
        → Hearing kind from to P f a.world.network (taken ++ takes_of kind from to a.lines)) (sym b.same) (λ taken hs.
        subst (λ (xs : List ℕ). Hearing kind from to P f b.new.network (taken ++ xs)) (sym took)
        (subst (HearingBehind kind from to P f (taken
        ++ cond (same_direction (direction kind from to) way) (take count (world.network.transit way)) [])) b.is
        (move_found kind from to P f world way count s.0 s.1 taken hs))))
        (subst (λ (a : Acted). is_up_in kind to from trace ≡ false → P [] (world.network.state.node to) → P [] (a.world.network.state.node to))
        (sym b.same) (λ d p.
        subst (NetworkHas kind from to P f []) b.is
        (move_silent kind from to P f world way count s.0 s.1 (down_joined d (world.network.joined (direction kind from to)) refl) p))) h
      where
        down_joined : is_up_in kind to from trace ≡ false → (b : Bool) → world.network.joined (direction kind from to) ≡ b
            → world.network.joined (direction kind from to) ≡ false
        down_joined d true e = (let x : true ≡ false = sym (h.up e) ∙ d in absurd cc)
        down_joined d false e = e

    notice_silent : (acted : Acted) → act world (Notice kind to from) ≡ Ok acted → P [] (acted.world.network.state.node to)
    notice_silent acted e = by (system.called (Own to (steps.Noticed kind from)) world.network.state) refl e
      where
        next : OctetNetwork Nodes
        next = record world.network {
          stream = λ over. cond (is_from_peer kind to from over && not (world.network.joined over)) unfed
              (world.network.stream over);
        }

        by : (o : Option (Stepped Nodes)) → system.called (Own to (steps.Noticed kind from)) world.network.state ≡ o
            → with_network world [] (with_earlier [] (with_step next o >>? λ new. with_earlier new.puts
            (Some (record { network = new.network; puts = [] })))) to ≡ Ok acted → P [] (acted.world.network.state.node to)
        by None g e = absurd cc
        by (Some new) g e =
            let net : OctetNetwork Nodes = octets.with_octets next new in
            let made : Acted = record { world = record world { network = net }; lines = put_lines (scenario_of world) (new.puts ++ []) } in
            let same : made ≡ acted = cc in
            subst (λ (a : Acted). P [] (a.world.network.state.node to)) same (f.noticed world.network.state (world.network.state.node to) new refl g)

    notice_heard : (own : Kind) (a b : NodeId) (acted : Acted) → IsFit world (Notice own a b) → act world (Notice own a b) ≡ Ok acted
        → Next (Notice own a b) acted
    notice_heard own a b acted fit e = by (same_kind kind own && (a.0 == to.0) && (b.0 == from.0)) refl
      where
        near : (k : Kind) → IsFit world (Notice k a b) → world.network.joined (direction k a b) ≡ false
        near kinds.Bgp fit = fit.0
        near kinds.Ldp fit = fit.0

        far : world.network.joined (direction own b a) ≡ false
        far = elim (node_cases a b) [
          | inl same ↦ (λ i. world.network.joined (direction own (sym same i) (same i))) ∙ near own fit
          | inr ne ↦ sym (alike scenario world own a b ne s) ∙ near own fit
        ]

        off : (b : Bool) → (b ≡ true → ⊥) → b ≡ false
        off true h = absurd (h refl)
        off false h = refl

        by : (x : Bool) → (same_kind kind own && (a.0 == to.0) && (b.0 == from.0)) ≡ x → Next (Notice own a b) acted
        by true x =
            let y = and_parts (same_kind kind own && (a.0 == to.0)) (b.0 == from.0) x in
            let z = and_parts (same_kind kind own) (a.0 == to.0) y.0 in
            let k : own ≡ kind = sym (kind_is kind own z.0) in
            let a_is : a ≡ to = node_equal a to z.1 in
            let b_is : b ≡ from = node_equal b from y.1 in
            let gone : world.network.joined (direction kind from to) ≡ false =
            (λ i. world.network.joined (direction (sym k i) (sym b_is i) (sym a_is i))) ∙ far in
            heard_down kind from to P f trace world acted.world (stepped number (Notice own a b) acted)
            (ap (λ (t : Bool). cond t false (is_up_in kind to from trace)) x)
            (off (acted.world.network.joined (direction kind from to))
            (λ j. let w : true ≡ false = sym ((moves (Notice own a b) acted fit e).joined j).0 ∙ gone in absurd cc))
            (notice_silent acted (ap (act world) (λ i. Notice (sym k i) (sym a_is i) (sym b_is i)) ∙ e))
        by false x =
            by_effect (Notice own a b) acted fit e (ap (λ (t : Bool). cond t false (is_up_in kind to from trace)) x)
            (tame_effect kind from to P f world a (octets.Forget (is_from_peer own a b) ∷ octets.Call (Own a (steps.Noticed own b)) ∷ []) acted
            (sym (peer_swap kind from to own a b) ∙ x, (tt, tt)) e)

    restart_heard : (n : NodeId) (acted : Acted) → act world (Restart n) ≡ Ok acted → Next (Restart n) acted
    restart_heard n acted e = by (n.0 == to.0) refl
      where
        or_true : (b : Bool) → (b || true) ≡ true
        or_true true = refl
        or_true false = refl

        and_false : (b : Bool) → (b && false) ≡ false
        and_false true = refl
        and_false false = refl

        by : (x : Bool) → (n.0 == to.0) ≡ x → Next (Restart n) acted
        by true x =
            let same : n ≡ to = node_equal n to x in
            let at : is_at n (direction kind from to) ≡ true =
            ap (λ (t : Bool). (from.0 == n.0) || t) (eq_turned to.0 n.0 ∙ x) ∙ or_true (from.0 == n.0) in
            heard_down kind from to P f trace world acted.world (stepped number (Restart n) acted)
            (ap (λ (t : Bool). cond t false (is_up_in kind to from trace)) x)
            (given_by (λ new. new.network.joined (direction kind from to) ≡ false) (act world (Restart n)) acted
            (ap (λ (t : Bool). world.network.joined (direction kind from to) && not t) at
            ∙ and_false (world.network.joined (direction kind from to))) e)
            (given_by (λ new. P [] (new.network.state.node to)) (act world (Restart n)) acted
            (subst (λ (m : NodeId). P [] ((with_node world.network.state m (fresh_node world.network.state.scenario m)).node to)) (sym same)
            (subst (P []) (sym (ap (λ (t : Bool). cond t (fresh_node world.network.state.scenario to) (world.network.state.node to))
            (node_itself to to refl))) (f.fresh [] world.network.state.scenario))) e)
        by false x =
            by_effect (Restart n) acted tt e (ap (λ (t : Bool). cond t false (is_up_in kind to from trace)) x)
            (tame_effect kind from to P f world n (octets.Lose (is_at n) ∷ octets.Forget (leads_to n) ∷ octets.Call (Reset n) ∷ []) acted
            (tt, (eq_turned to.0 n.0 ∙ x, (tt, tt))) e)

    still_heard : (one : Act) (acted : Acted) → IsFit world one → act world one ≡ Ok acted
        → is_up_after kind to from (is_up_in kind to from trace) (Some one) ≡ is_up_in kind to from trace → AllByRecursion IsOtherLine acted.lines
        → acted.world.network ≡ world.network → Next one acted
    still_heard one acted fit e same other net =
        by_effect one acted fit e same (still_effect kind from to P f world acted.world acted.lines net
        (others_silent kind from to acted.lines other).1)

    pub single_heard : (one : Act) (acted : Acted) → SoundAct scenario one → IsFit world one → act world one ≡ Ok acted → Next one acted
    single_heard (Tick ticks) acted sound fit e = tick_heard ticks acted e
    single_heard (Timers n) acted sound fit e =
        by_effect (Timers n) acted tt e refl (tame_effect kind from to P f world n (octets.Call (Own n steps.Timers) ∷ []) acted (tt, tt) e)
    single_heard (Move own u n count) acted sound fit e = move_heard own u n count acted e
    single_heard (Lose own a b) acted sound fit e =
        by_effect (Lose own a b) acted tt e refl (tame_effect kind from to P f world a (octets.Lose (is_of_session own a b) ∷ []) acted (tt, tt) e)
    single_heard (Notice own a b) acted sound fit e = notice_heard own a b acted fit e
    single_heard (RaiseFirst own a b) acted sound fit e = absurd fit
    single_heard (RaiseSecond own a b) acted sound fit e = absurd fit
    single_heard (Restart n) acted sound fit e = restart_heard n acted e
    single_heard (At n call) acted sound fit e =
        by_effect (At n call) acted fit e refl (tame_effect kind from to P f world n (octets.Call (Own n call) ∷ []) acted
        (sound_own call sound.1, tt) e)
    single_heard (Enter vrf) acted sound fit e =
        still_heard (Enter vrf) acted fit e refl (said_of IsOtherLine (act world (Enter vrf)) acted (enter_other world vrf) e)
        (given_by (λ new. new.network ≡ world.network) (act world (Enter vrf)) acted (enter_keeps (λ net. net ≡ world.network) world vrf refl) e)
    single_heard (Land a b place) acted sound fit e =
        still_heard (Land a b place) acted fit e refl (said_of IsOtherLine (act world (Land a b place)) acted (land_other world a b place) e)
        (given_by (λ new. new.network ≡ world.network) (act world (Land a b place)) acted
        (land_keeps (λ net. net ≡ world.network) world a b place refl) e)
    single_heard (Drop a b place) acted sound fit e =
        still_heard (Drop a b place) acted tt e refl (said_of IsOtherLine (act world (Drop a b place)) acted tt e)
        (given_by (λ new. new.network ≡ world.network) (act world (Drop a b place)) acted refl e)
    single_heard Tell acted sound fit e =
        still_heard Tell acted tt e refl (said_of IsOtherLine (act world Tell) acted (tt, tt) e)
        (given_by (λ new. new.network ≡ world.network) (act world Tell) acted refl e)
    single_heard (SetCost a b cost) acted sound fit e =
        by_effect (SetCost a b cost) acted tt e refl (tame_effect kind from to P f world a (octets.Call (Price a b cost) ∷ []) acted (tt, tt) e)
    single_heard (Reroute n) acted sound fit e =
        by_effect (Reroute n) acted tt e refl (tame_effect kind from to P f world n (octets.Call (Follow n) ∷ []) acted (tt, tt) e)
