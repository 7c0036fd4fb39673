-- What acts on octets put, and what a node has mapped after them.
use Rattle.std.specs.Prelude.{⊤, take, drop}
use Rattle.std.proofs.Common.{◌≡◌, inl, inr, ℕ, Bool, true, false, cond, List, [], ◌∷◌, ◌++◌, Option, Some, None, refl, sym, ap, subst, ◌∙◌}
use Rattle.std.specs.List.{AllByRecursion}
use Rattle.std.proofs.lemmas.List.{append-nil, append_assoc}
use Rattle.std.proofs.lemmas.Option.{same_Some}
use Rattle.mv_base.specs.Number.{◌>>?◌}
use Rattle.mv_base.specs.declared.ids.NodeId.{NodeId}
use Rattle.mv_base.specs.core_walks.Costs.{with_cost}
use Rattle.edge_defs.specs.Steps as steps
use Rattle.mv_base.specs.framing.Feed.{fed}
use Rattle.mv_base.specs.framing.Units.{messages_of, AreUnits}
use Rattle.mldp.specs.declared.mldp_msgs.message.LabelMessage.{LabelMessage}
use Rattle.scenario_defs.specs.declared.scenario.Scenario.{Scenario}
use Rattle.label_defs.specs.LabelData.{fresh}
use Rattle.label_defs.specs.declared.label_use.LabelUse.TheVariants as uses
use Rattle.label_defs.proofs.KeyLemmas.{node_cases, node_itself, node_apart}
use Rattle.label_defs.proofs.StepLemmas.{all_free}
use Rattle.label_defs.proofs.UseLemmas.{used_some}
use Rattle.network_defs.specs.session_defs.Message.{SessionMessage, IsPut, front_of, same_direction}
use Rattle.network_defs.specs.session_defs.Octets.{OctetNetwork, OctetAct, Move, Call, Lose, Forget, Join, with_step, all_taken, moved, octet_act, octet_run}
use Rattle.network_defs.specs.session_defs.Refined.{Keeps, IsCarried, IsLine}
use Rattle.network_defs.specs.session_defs.System.{Put, Stepped, Behind, with_earlier}
use Rattle.network_defs.specs.declared.session_defs.direction.Direction.{Direction}
use Rattle.network_defs.proofs.session_defs.Lines.{are_before}
use Rattle.network_defs.proofs.session_defs.Moves.{came_of}
use Rattle.network_defs.specs.Nodes.{following, Nodes, with_node, fresh_node, part_of}
use Rattle.network_defs.specs.System.{NodeCall, Own, Elapse, Reset, Price, Follow, call_of, unchanged, system}
use Rattle.network_laws.specs.Honest.{IsSoundNodeCall}
use Rattle.network_laws.specs.Sound.{Sound}
use Rattle.network_laws.proofs.Lists.{each_append}
use Rattle.network_laws.proofs.Nodes.{honest_nodes}
use Rattle.rule_laws.proofs.Octets.{units_carried}
use Rattle.rule_laws.proofs.Puts.{over_ldp, over_ldp_both}
use Rattle.rule_laws.proofs.Sessions.{fresh_part}
use Rattle.license_laws.proofs.Hears.{fed_now}
use Rattle.license_laws.proofs.Saying.{called_says}
use Rattle.license_laws.proofs.Told.{Says}

abbrev pub ArePuts : List Put → Type 0
ArePuts puts = AllByRecursion (λ (put : Put). IsPut put.over.kind put.unit.messages put.unit.octets) puts

fresh_says : (scenario : Scenario) (n to : NodeId) (ms : List LabelMessage) → Says to ms (part_of (fresh_node scenario n))
fresh_says scenario n to ms = subst (Says to ms) (sym (fresh_part scenario n)) (record {
  mapped = λ fec label e. (let x = used_some (fresh scenario.labels).labels label (uses.Mapped fec to) e in let y =
      all_free scenario.labels _ (uses.Mapped fec to) x.1 in absurd cc);
})

module _ (scenario : Scenario) (from to : NodeId) where
  -- what was put is spelled, the nodes are sound, and what the node has mapped is said
  pub record Tells (before : List LabelMessage) (state : Nodes) (puts : List Put) : Type 0 where
    pub are : ArePuts puts
    pub sound : Sound scenario state
    pub says : Says to (before ++ over_ldp from to puts) (part_of (state.node from))

  abbrev StepTells : List LabelMessage → Option (Stepped Nodes) → Type 0
  StepTells before None = ⊤
  StepTells before (Some new) = Tells before new.state new.puts

  abbrev pub RunTells : List LabelMessage → Option (Behind (OctetNetwork Nodes)) → Type 0
  RunTells before None = ⊤
  RunTells before (Some new) = Tells before new.network.state new.puts

  silent : (before : List LabelMessage) (state : Nodes) → Sound scenario state → Says to before (part_of (state.node from)) → Tells before state []
  silent before state sound s =
      record {
        are = tt;
        sound = sound;
        says =
            subst (λ (ms : List LabelMessage). Says to ms (part_of (state.node from))) (sym (append-nil before)) s;
      }

  both : (before : List LabelMessage) (mid new : Nodes) (p q : List Put) → Tells before mid p → Tells (before ++ over_ldp from to p) new q
      → Tells before new (p ++ q)
  both before mid new p q t u = record {
    are = each_append (λ (put : Put). IsPut put.over.kind put.unit.messages put.unit.octets) p q t.are u.are;
    sound = u.sound;
    says = subst (λ (ms : List LabelMessage). Says to ms (part_of (new.node from)))
        (append_assoc before (over_ldp from to p) (over_ldp from to q)
        ∙ ap (λ (ms : List LabelMessage). before ++ ms) (sym (over_ldp_both from to p q))) u.says;
  }

  Then : (OctetNetwork Nodes → Option (Behind (OctetNetwork Nodes))) → Type 0
  Then next =
      (mid : OctetNetwork Nodes) (ms : List LabelMessage) → Sound scenario mid.state → Says to ms (part_of (mid.state.node from))
      → RunTells ms (next mid)

  bound : (before : List LabelMessage) (o : Option (Behind (OctetNetwork Nodes))) (next : OctetNetwork Nodes → Option (Behind (OctetNetwork Nodes)))
      → RunTells before o
      → ((mid : OctetNetwork Nodes) (ms : List LabelMessage) → Sound scenario mid.state → Says to ms (part_of (mid.state.node from))
      → RunTells ms (next mid)) → RunTells before (o >>? λ mid. with_earlier mid.puts (next mid.network))
  bound before None next t h = tt
  bound before (Some mid) next t h = by (next mid.network) (h mid.network (before ++ over_ldp from to mid.puts) t.sound t.says)
    where
      by : (o : Option (Behind (OctetNetwork Nodes))) → RunTells (before ++ over_ldp from to mid.puts) o → RunTells before (with_earlier mid.puts o)
      by None u = tt
      by (Some new) u = both before mid.network.state new.network.state mid.puts new.puts t u

  step_tells : (before : List LabelMessage) (old : OctetNetwork Nodes) (o : Option (Stepped Nodes)) → StepTells before o
      → RunTells before (with_step old o)
  step_tells before old None t = tt
  step_tells before old (Some new) t = t

  call_says : (before : List LabelMessage) (nodes : Nodes) (call : NodeCall) (new : Stepped Nodes) → system.called call nodes ≡ Some new
      → Says to before (part_of (nodes.node from)) → Says to (before ++ over_ldp from to new.puts) (part_of (new.state.node from))
  call_says before nodes (Own n call) new e s = called_says nodes n from to call new before e s
  call_says before nodes (Elapse ticks) new e s =
      subst (λ (w : Stepped Nodes). Says to (before ++ over_ldp from to w.puts) (part_of (w.state.node from)))
      (same_Some (unchanged (record nodes { clock = _ })) new e)
      (subst (λ (ms : List LabelMessage). Says to ms (part_of (nodes.node from))) (sym (append-nil before)) s)
  call_says before nodes (Price a b cost) new e s =
      subst (λ (w : Stepped Nodes). Says to (before ++ over_ldp from to w.puts) (part_of (w.state.node from)))
      (same_Some (unchanged (record nodes { links = with_cost a b cost nodes.links })) new e)
      (subst (λ (ms : List LabelMessage). Says to ms (part_of (nodes.node from))) (sym (append-nil before)) s)
  call_says before nodes (Follow n) new e s = called_says (following nodes n) n from to steps.Rerouted new before e s
  call_says before nodes (Reset n) new e s =
      let back : Nodes = with_node nodes n (fresh_node nodes.scenario n) in
      let there : Says to before (part_of (back.node from)) = elim (node_cases from n) [
        | inl same ↦ subst (λ (m : NodeId). Says to before (part_of ((with_node nodes m (fresh_node nodes.scenario m)).node from))) same
            (subst (λ (t : Bool). Says to before (part_of (cond t (fresh_node nodes.scenario from) (nodes.node from))))
            (sym (node_itself from from refl)) (fresh_says nodes.scenario from to before))
        | inr ne ↦ subst (λ (t : Bool). Says to before (part_of (cond t (fresh_node nodes.scenario n) (nodes.node from))))
            (sym (node_apart from n ne)) s
      ] in
      subst (λ (w : Stepped Nodes). Says to (before ++ over_ldp from to w.puts) (part_of (w.state.node from))) (same_Some (unchanged back) new e)
      (subst (λ (ms : List LabelMessage). Says to ms (part_of (back.node from))) (sym (append-nil before)) there)

  told : (before : List LabelMessage) (o : Option (Stepped Nodes)) → Keeps (Sound scenario) o
      → ((new : Stepped Nodes) → o ≡ Some new → Says to (before ++ over_ldp from to new.puts) (part_of (new.state.node from))) → StepTells before o
  told before None k h = tt
  told before (Some new) k h = record { are = k.0; sound = k.1; says = h new refl }

  taken_tells : (way : Direction) (messages : List SessionMessage)
      → AllByRecursion (λ (message : SessionMessage). IsCarried way.kind message) messages → (before : List LabelMessage) (old : OctetNetwork Nodes)
      → Sound scenario old.state → Says to before (part_of (old.state.node from)) → RunTells before (all_taken system old way messages)
  taken_tells way [] are before old sound s = silent before old.state sound s
  taken_tells way (message ∷ more) are before old sound s =
      bound before (with_step old (system.taken way message old.state)) (λ mid. all_taken system mid way more)
      (step_tells before old (system.taken way message old.state)
      (told before (system.taken way message old.state) ((honest_nodes scenario).taken way message old.state sound are.0)
      (λ new e. called_says old.state way.to from to (call_of way.from message) new before e s)))
      (λ mid ms u t. taken_tells way more are.1 ms mid u t)

  -- nothing is moved, and calls are sound
  abbrev pub IsCalm : OctetAct NodeCall → Type 0
  IsCalm (Move way count) = ⊥
  IsCalm (Call call) = IsSoundNodeCall scenario call
  IsCalm other = Unit {0}

  act_tells : (before : List LabelMessage) (old : OctetNetwork Nodes) (one : OctetAct NodeCall) → IsCalm one → Sound scenario old.state
      → Says to before (part_of (old.state.node from)) → RunTells before (octet_act system old one)
  act_tells before old (Move way count) calm sound s = absurd calm
  act_tells before old (Call call) calm sound s =
      step_tells before old (system.called call old.state)
      (told before (system.called call old.state) ((honest_nodes scenario).called (record { call = call; sound = calm }) old.state sound)
      (λ new e. call_says before old.state call new e s))
  act_tells before old (Lose hit) calm sound s = silent before old.state sound s
  act_tells before old (Forget hit) calm sound s = silent before old.state sound s
  act_tells before old (Join hit) calm sound s = silent before old.state sound s

  pub run_tells : (acts : List (OctetAct NodeCall)) → AllByRecursion IsCalm acts → (before : List LabelMessage) (old : OctetNetwork Nodes)
      → Sound scenario old.state → Says to before (part_of (old.state.node from)) → RunTells before (octet_run system old acts)
  run_tells [] calm before old sound s = silent before old.state sound s
  run_tells (one ∷ more) calm before old sound s =
      bound before (octet_act system old one) (λ mid. octet_run system mid more) (act_tells before old one calm.0 sound s)
      (λ mid ms u t. run_tells more calm.1 ms mid u t)

  pub move_tells : (way : Direction) (count : ℕ) (pending : Direction → List SessionMessage) (before : List LabelMessage) (old : OctetNetwork Nodes)
      → IsLine way.kind (old.joined way) (old.stream way) (old.transit way) (pending way) → Sound scenario old.state
      → Says to before (part_of (old.state.node from))
      → RunTells before (octet_run system old (Move way count ∷ []))
  move_tells way count pending before old line sound s =
      bound before (octet_act system old (Move way count)) (λ mid. octet_run system mid []) (by (old.joined way) line)
      (λ mid ms u t. silent ms mid.state u t)
    where
      left : OctetNetwork Nodes
      left = record old {
        transit = λ other. cond (same_direction other way) (drop count (old.transit way)) (old.transit other);
        stream = λ other. cond (same_direction other way)
            (record (fed (front_of way.kind) (old.stream way) (take count (old.transit way))) { waiting = [] }) (old.stream other);
      }

      by : (t : Bool) → IsLine way.kind t (old.stream way) (old.transit way) (pending way)
          → RunTells before (cond t (moved system old way count) (Some (record { network = old; puts = [] })))
      by true c =
          let some = came_of way.kind (old.stream way) (old.transit way) (pending way) count c in
          let now = fed_now way.kind (old.stream way) (old.transit way) (pending way) count c some in
          let done : AllByRecursion (λ (message : SessionMessage). IsCarried way.kind message) (messages_of some.done) =
          units_carried way.kind some.done (are_before (IsPut way.kind) some.done some.left (subst (AreUnits (IsPut way.kind)) some.both c.each))
          in
          taken_tells way (fed (front_of way.kind) (old.stream way) (take count (old.transit way))).waiting
          (subst (λ (ms : List SessionMessage). AllByRecursion (λ (message : SessionMessage). IsCarried way.kind message) ms) (sym now.0) done)
          before left sound s
      by false c = silent before old.state sound s
