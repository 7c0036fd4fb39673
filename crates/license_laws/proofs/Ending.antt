-- In each run an end of a session over LDP is up exactly where the trace says so.
use Rattle.std.specs.Prelude.{Result, Ok, Err}
use Rattle.std.proofs.Common.{◌≡◌, ◌==◌, ◌&&◌, ◌||◌, ℕ, Bool, true, false, cond, is_some, option_map, List, [], ◌∷◌, ◌++◌, Option, Some, None, refl, sym, ap, subst, ◌∙◌}
use Rattle.std.specs.FinMap as maps
use Rattle.std.proofs.lemmas.List.{append_assoc}
use Rattle.mv_base.specs.declared.ids.NodeId.{NodeId}
use Rattle.scenario_defs.specs.declared.event.Kind.{Kind}
use Rattle.scenario_defs.specs.declared.event.Kind.TheVariants as kinds
use Rattle.scenario_defs.specs.declared.scenario.Scenario.{Scenario}
use Rattle.label_defs.specs.declared.end.End.{End}
use Rattle.mvpn_model.specs.declared.readiness.UpEnd.{UpEnd}
use Rattle.network_defs.specs.Costs.{Cores}
use Rattle.edge_defs.specs.Steps as steps
use Rattle.mvpn_model.specs.Unready.{SessionsStand}
use Rattle.network_laws.proofs.ready_laws.ActsStand as stand
use Rattle.network_laws.proofs.ready_laws.ActsStand.{WorldStands, act_stand, act_gives}
use Rattle.network_laws.proofs.ready_laws.Ends.{end_run, up_in, up_end}
use Rattle.network_laws.proofs.ready_laws.Nodes.{call_stand, fresh_end}
use Rattle.scenario_defs.specs.Kinds.{same_kind}
use Rattle.network_defs.specs.Acts.{Act, Tick, Timers, Move, Lose, Notice, RaiseFirst, RaiseSecond, Restart, At, Enter, Land, Drop, Tell, SetCost, Reroute, Acted, act}
use Rattle.network_defs.specs.Counts.{direction}
use Rattle.network_defs.specs.Local.{is_up_after, is_up_in}
use Rattle.network_defs.specs.Nodes.{part_of}
use Rattle.network_defs.specs.Run.{Traced}
use Rattle.network_defs.specs.World.{World, start, clock_of}
use Rattle.network_laws.proofs.RunActs.{SoundAct}
use Rattle.rule_laws.proofs.Acts.{InStep, IsFit}
use Rattle.rule_laws.proofs.Copies.{eq_turned}
use Rattle.license_laws.proofs.Also.{refused_step}
use Rattle.license_laws.proofs.Follows.{Keeps, stepped}
use Rattle.license_laws.proofs.Heard.{up_next}

-- the end of a node's session over LDP
abbrev end_at : World → NodeId → NodeId → Option UpEnd
end_at world n peer = up_in (part_of (world.network.state.node n)).ends peer

abbrev pub Ending : List Traced → World → Type 0
Ending trace world = (n peer : NodeId) → is_up_in kinds.Ldp n peer trace ≡ is_some (end_at world n peer)

up_some : (o : Option End) → is_some (option_map up_end o) ≡ is_some o
up_some None = refl
up_some (Some end) = refl

-- an end is up where the trace says so
pub ends_as : (trace : List Traced) (world : World) → Ending trace world → (n peer : NodeId)
    → is_up_in kinds.Ldp n peer trace ≡ is_some (maps.get (part_of (world.network.state.node n)).ends peer)
ends_as trace world e n peer = e n peer ∙ up_some (maps.get (part_of (world.network.state.node n)).ends peer)

-- ---- one act

same_both : (t : Bool) (o p : Option UpEnd) → is_some p ≡ is_some o → is_some o ≡ is_some (cond t p o)
same_both true o p e = sym e
same_both false o p e = refl

run_some : (life now : ℕ) (o : Option UpEnd) → is_some (end_run life now o) ≡ is_some o
run_some life now None = refl
run_some life now (Some end) = refl

raises_end : (s t : Bool) (o : Option UpEnd) (new : UpEnd) → (is_some o || (s && t)) ≡ is_some (cond s (cond t (Some new) o) o)
raises_end true true None new = refl
raises_end true true (Some end) new = refl
raises_end true false None new = refl
raises_end true false (Some end) new = refl
raises_end false t None new = refl
raises_end false t (Some end) new = refl

downs_end : (s t : Bool) (o : Option UpEnd) → cond (s && t) false (is_some o) ≡ is_some (cond s (cond t None o) o)
downs_end true true o = refl
downs_end true false o = refl
downs_end false t o = refl

resets_end : (s : Bool) (o : Option UpEnd) → cond s false (is_some o) ≡ is_some (cond s None o)
resets_end true o = refl
resets_end false o = refl

raise_end : (kind : Kind) (a b n peer : NodeId) (scenario : Scenario) (old : SessionsStand)
    → (is_some (old.end kinds.Ldp n peer) || (same_kind kinds.Ldp kind && (a.0 == n.0) && (b.0 == peer.0)))
    ≡ is_some ((call_stand scenario a (steps.Raised kind b) old).end kinds.Ldp n peer)
raise_end kinds.Bgp a b n peer scenario old = by (n.0 == a.0) (old.end kinds.Ldp n peer)
  where
    by : (s : Bool) (o : Option UpEnd) → (is_some o || false) ≡ is_some (cond s o o)
    by true None = refl
    by true (Some end) = refl
    by false None = refl
    by false (Some end) = refl
raise_end kinds.Ldp a b n peer scenario old =
    (λ i. is_some (old.end kinds.Ldp n peer) || (eq_turned a.0 n.0 i && eq_turned b.0 peer.0 i))
    ∙ raises_end (n.0 == a.0) (peer.0 == b.0) (old.end kinds.Ldp n peer) (record { raised = old.clock; held = false })

notice_end : (kind : Kind) (a b n peer : NodeId) (scenario : Scenario) (old : SessionsStand)
    → cond (same_kind kinds.Ldp kind && (a.0 == n.0) && (b.0 == peer.0)) false (is_some (old.end kinds.Ldp n peer))
    ≡ is_some ((call_stand scenario a (steps.Noticed kind b) old).end kinds.Ldp n peer)
notice_end kinds.Bgp a b n peer scenario old = same_both (n.0 == a.0) (old.end kinds.Ldp n peer) (old.end kinds.Ldp n peer) refl
notice_end kinds.Ldp a b n peer scenario old =
    (λ i. cond (eq_turned a.0 n.0 i && eq_turned b.0 peer.0 i) false (is_some (old.end kinds.Ldp n peer)))
    ∙ downs_end (n.0 == a.0) (peer.0 == b.0) (old.end kinds.Ldp n peer)

-- calls that are made by customers and timers
call_end : (scenario : Scenario) (m : NodeId) (call : steps.Call) (old : SessionsStand) (n peer : NodeId) (world : World)
    → SoundAct scenario (At m call) → IsFit world (At m call)
    → is_some (old.end kinds.Ldp n peer) ≡ is_some ((call_stand scenario m call old).end kinds.Ldp n peer)
call_end scenario m (steps.Update p message) old n peer world sound fit = absurd sound.1
call_end scenario m (steps.Label p message) old n peer world sound fit = absurd sound.1
call_end scenario m (steps.Customer call) old n peer world sound fit =
    same_both (n.0 == m.0) (old.end kinds.Ldp n peer) (old.end kinds.Ldp n peer) refl
call_end scenario m (steps.Raised kind p) old n peer world sound fit = absurd fit
call_end scenario m (steps.Noticed kind p) old n peer world sound fit = absurd fit
call_end scenario m steps.Timers old n peer world sound fit =
    same_both (n.0 == m.0) (old.end kinds.Ldp n peer) (end_run scenario.life old.clock (old.end kinds.Ldp n peer))
    (run_some scenario.life old.clock (old.end kinds.Ldp n peer))
call_end scenario m steps.Rerouted old n peer world sound fit = same_both (n.0 == m.0) (old.end kinds.Ldp n peer) (old.end kinds.Ldp n peer) refl

act_end : (scenario : Scenario) (world : World) (one : Act) → SoundAct scenario one → IsFit world one → (old : SessionsStand) (n peer : NodeId)
    → is_up_after kinds.Ldp n peer (is_some (old.end kinds.Ldp n peer)) (Some one) ≡ is_some ((act_stand scenario one old).end kinds.Ldp n peer)
act_end scenario world (Tick ticks) sound fit old n peer = refl
act_end scenario world (Timers m) sound fit old n peer =
    same_both (n.0 == m.0) (old.end kinds.Ldp n peer) (end_run scenario.life old.clock (old.end kinds.Ldp n peer))
    (run_some scenario.life old.clock (old.end kinds.Ldp n peer))
act_end scenario world (Move own a b count) sound fit old n peer = refl
act_end scenario world (Lose own a b) sound fit old n peer = refl
act_end scenario world (Notice own a b) sound fit old n peer = notice_end own a b n peer scenario old
act_end scenario world (RaiseFirst own a b) sound fit old n peer = absurd fit
act_end scenario world (RaiseSecond own a b) sound fit old n peer = absurd fit
act_end scenario world (Restart m) sound fit old n peer =
    (λ i. cond (eq_turned m.0 n.0 i) false (is_some (old.end kinds.Ldp n peer))) ∙ resets_end (n.0 == m.0) (old.end kinds.Ldp n peer)
act_end scenario world (At m call) sound fit old n peer = call_end scenario m call old n peer world sound fit
act_end scenario world (Enter vrf) sound fit old n peer = refl
act_end scenario world (Land a b place) sound fit old n peer = refl
act_end scenario world (Drop a b place) sound fit old n peer = refl
act_end scenario world Tell sound fit old n peer = refl
act_end scenario world (SetCost a b cost) sound fit old n peer = refl
act_end scenario world (Reroute m) sound fit old n peer = refl

-- ---- runs

-- where the sessions of a world stand
abbrev stands_at : World → SessionsStand
stands_at world =
    record { clock = clock_of world; joined = λ kind a b. world.network.joined (direction kind a b); end = λ kind n peer. end_at world n peer }

stands : (scenario : Scenario) (world : World) → InStep scenario world → WorldStands scenario (stands_at world) world
stands scenario world (pending, are, good) =
    record { nodes = record { place = good.base.sound.same; clock = refl; ends = λ n peer. refl }; joined = λ kind a b. refl }

given : (P : World → Type 0) (o : Result Acted NodeId) (acted : Acted) → stand.Gives P o → o ≡ Ok acted → P acted.world
given P (Err node) acted g e = absurd cc
given P (Ok new) acted g e = let same : new ≡ acted = cc in subst (λ (a : Acted). P a.world) same g.1

pub ending_kept : (scenario : Scenario) → Keeps scenario Ending
ending_kept scenario = record {
  single = λ before number world one acted s sound fit e t k n peer.
      let w = given (WorldStands scenario (act_stand scenario one (stands_at world))) (act world one) acted
      (act_gives scenario (stands_at world) world one (stands scenario world s)) e in
      up_next kinds.Ldp n peer before (stepped number one acted) ∙ ap (λ (b : Bool). is_up_after kinds.Ldp n peer b (Some one)) (k n peer)
      ∙ act_end scenario world one sound fit (stands_at world) n peer ∙ ap is_some (sym (w.nodes.ends n peer));
  pair = λ before number world session first second declared s off back e g t k n peer.
      let a : Act = RaiseFirst session.kind session.a session.b in
      let b : Act = RaiseSecond session.kind session.a session.b in
      let one : Traced = stepped number a first in
      let two : Traced = stepped number b second in
      let mid : SessionsStand = act_stand scenario a (stands_at world) in
      let w = given (WorldStands scenario mid) (act world a) first (act_gives scenario (stands_at world) world a (stands scenario world s)) e in
      let v = given (WorldStands scenario (act_stand scenario b mid)) (act first.world b) second (act_gives scenario mid first.world b w) g in
      ap (λ (tr : List Traced). is_up_in kinds.Ldp n peer tr) (sym (append_assoc before (one ∷ []) (two ∷ [])))
      ∙ up_next kinds.Ldp n peer (before ++ one ∷ []) two
      ∙ ap (λ (x : Bool). is_up_after kinds.Ldp n peer x (Some b))
      (up_next kinds.Ldp n peer before one ∙ ap (λ (x : Bool). is_up_after kinds.Ldp n peer x (Some a)) (k n peer)
      ∙ raise_end session.kind session.a session.b n peer scenario (stands_at world))
      ∙ raise_end session.kind session.b session.a n peer scenario mid ∙ ap is_some (sym (v.nodes.ends n peer));
  accepted = λ before world datagram s k n peer. k n peer;
  refused = λ before number world line reason k n peer. up_next kinds.Ldp n peer before (refused_step number line reason) ∙ k n peer;
}

pub ending_start : (scenario : Scenario) (cores : Cores) → Ending [] (start scenario cores)
ending_start scenario cores n peer = ap is_some (sym (fresh_end scenario n peer))
