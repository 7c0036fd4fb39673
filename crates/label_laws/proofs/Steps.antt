-- A label step of one node keeps the rule where its call's own effect does.
use Rattle.std.proofs.Common.{◌≡◌, ◌≢◌, ◌+◌, ◌==◌, inl, inr, refl, sym, ap, subst, List, [], ◌∷◌, ◌++◌, option_map, Option, Some, None}
use Rattle.std.proofs.lemmas.Bool.{cond-true, cond-false}
use Rattle.std.proofs.lemmas.List.{append-nil}
use Rattle.std.specs.FinSet as sets
use Rattle.mv_base.specs.declared.ids.NodeId.{NodeId}
use Rattle.mldp.specs.declared.mldp_fec.fec.Fec.{Fec}
use Rattle.mldp.specs.declared.mldp_msgs.message.LabelMessage.{LabelMessage}
use Rattle.mldp.specs.declared.mldp_msgs.message.LabelMessage.TheVariants as messages
use Rattle.label_defs.specs.declared.put.Put.{Put}
use Rattle.label_defs.specs.LabelData.{Place, LabelData}
use Rattle.label_defs.specs.Settling.{Stepped}
use Rattle.label_defs.specs.Steps as steps
use Rattle.label_defs.specs.Steps.{Call, effect, counted, label_step, branch_to}
use Rattle.label_defs.specs.Settled.{Settled, AllSettled, MayBe}
use Rattle.label_defs.proofs.KeyLemmas.{node_apart, node_cases}
use Rattle.label_defs.proofs.OwnLemmas.{step_keeps}
use Rattle.label_defs.proofs.StepLemmas.{step_settled}
use Rattle.label_defs.proofs.RerouteLemmas.{rerouted_settled}
use Rattle.label_defs.proofs.TurnLemmas.{Turn}
use Rattle.label_defs.proofs.IdLemmas.{get_after}
use Rattle.label_laws.specs.Network.{LabelNetwork, place_of, at_node, thereafter}
use Rattle.label_laws.specs.Acts.{stepped, left_in_transit, with_upstream}
use Rattle.label_laws.specs.Rule.{Rule, Kept, OnNetwork, end_of}
use Rattle.label_laws.proofs.Frames.{node_here, node_there, after_again, after_silent}
use Rattle.label_laws.proofs.Turns.{AlikeEnd, passed_end, alike_rule, same_rule, turn_rule}
use Rattle.label_laws.proofs.Pops.{mapped_tree, mapping_rule, ignored_rule}
use Rattle.label_laws.proofs.Withdraws.{withdraw_rule}
use Rattle.label_laws.proofs.Releases.{release_rule}

-- a turn after others
turn_after : (w : LabelNetwork) (n : NodeId) (old : LabelData) (puts : List Put) (fec : Fec) (next : LabelData) (more : List Put)
    → Turn (place_of w n) old fec next more
    → Rule (thereafter w n (record { part = old; puts = puts })) → Rule (thereafter w n (record { part = next; puts = puts ++ more }))
turn_after w n old puts fec next more t rule =
    let v = thereafter w n (record { part = old; puts = puts }) in
    let P : LabelData → Type 0 = λ d. Turn (place_of w n) d fec next more in
    subst Rule (after_again w n old next puts more) (turn_rule v n fec next more (subst P (sym (node_here n old w.node)) t) rule)

-- the ids of messages do not matter
counted_after : (w : LabelNetwork) (n : NodeId) (old : Stepped) → Rule (thereafter w n old)
    → Rule (thereafter w n (record { part = (counted old).part; puts = old.puts }))
counted_after w n old rule =
    let v = thereafter w n old in
    let next = (counted old).part in
    let here = node_here n old.part w.node in
    let ends : (u : NodeId) → AlikeEnd (end_of (v.node n) u) (end_of next u) = λ u.
    subst (λ (d : LabelData). AlikeEnd (end_of d u) (end_of next u)) (sym here)
    (subst (AlikeEnd (end_of old.part u)) (sym (get_after old.part.ends old.puts u)) (passed_end u old.puts (end_of old.part u))) in
    let same =
    alike_rule v n next (ap (λ (d : LabelData). d.labels) (sym here)) (ap (λ (d : LabelData). d.branches) (sym here))
    (ap (λ (d : LabelData). d.leaves) (sym here)) ends rule in
    let P : List Put → Type 0 = λ ps. Rule (thereafter w n (record { part = next; puts = ps })) in
    subst P (append-nil old.puts) (subst Rule (after_again w n old.part next old.puts []) same)

-- the rule after the effect holds after the step
pub step_rule : (w : LabelNetwork) (n : NodeId) (call : Call) (new : Stepped) → Rule (thereafter w n (effect (place_of w n) w.clock (w.node n) call).0)
    → label_step (place_of w n) w.clock (w.node n) call ≡ Some new → Rule (thereafter w n new)
step_rule w n call new start e =
    step_keeps (place_of w n) w.clock (w.node n) call new (λ part puts. Rule (thereafter w n (record { part = part; puts = puts })))
    (λ old puts fec next more t rule. turn_after w n old puts fec next more t rule) (λ old rule. counted_after w n old rule) start e

-- all other nodes are settled, and this one is after the step
part_settled : (w : LabelNetwork) (n : NodeId) (new : LabelData) → ((m : NodeId) → m ≢ n → AllSettled (place_of w m) (w.node m))
    → AllSettled (place_of w n) new → (m : NodeId) → AllSettled (place_of w m) (at_node n new w.node m)
part_settled w n new others own m fec =
    elim (node_cases m n) [
      | inr ne ↦ let P : LabelData → Type 0 = λ d. Settled (place_of w m) d fec in subst P (sym (node_there n new w.node m ne)) (others m ne fec)
      | inl same ↦
          let Q : NodeId → Type 0 = λ x. Settled (place_of w x) (at_node n new w.node x) fec in
          let P : LabelData → Type 0 = λ d. Settled (place_of w n) d fec in
          subst Q (sym same) (subst P (sym (node_here n new w.node)) (own fec))
    ]

pub settled_after : (w : LabelNetwork) (n : NodeId) (call : Call) (new : Stepped) → MayBe (w.node n) call
    → ((m : NodeId) → AllSettled (place_of w m) (w.node m)) → label_step (place_of w n) w.clock (w.node n) call ≡ Some new
    → (m : NodeId) → AllSettled (place_of w m) (at_node n new.part w.node m)
settled_after w n call new may all e =
    part_settled w n new.part (λ m ne. all m) (step_settled (place_of w n) w.clock (w.node n) call new may (all n) e)

pub call_kept : (w : LabelNetwork) (n : NodeId) (call : Call) → MayBe (w.node n) call
    → Rule (thereafter w n (effect (place_of w n) w.clock (w.node n) call).0) → ((m : NodeId) → AllSettled (place_of w m) (w.node m))
    → OnNetwork Kept (stepped w n call)
call_kept w n call may start all = by (label_step (place_of w n) w.clock (w.node n) call) refl
  where
    by : (o : Option Stepped) → label_step (place_of w n) w.clock (w.node n) call ≡ o → OnNetwork Kept (option_map (thereafter w n) o)
    by None e = tt
    by (Some new) e = record { rule = step_rule w n call new start e; settled = settled_after w n call new may all e }

-- ---- next hops change

-- the rule does not speak of next hops
upstream_rule : (w : LabelNetwork) (n : NodeId) (upstream : Fec → Option NodeId) → Rule w → Rule (with_upstream w n upstream)
upstream_rule w n upstream rule =
    record {
      view = rule.view;
      session =
          λ u v ne. (let s = rule.session u v ne in record { alike = s.alike; quiet = s.quiet; ends = s.ends });
      copies = rule.copies;
      trees = rule.trees;
    }

-- the place of another node stays
other_place : (w : LabelNetwork) (n : NodeId) (upstream : Fec → Option NodeId) (m : NodeId) → m ≢ n
    → place_of (with_upstream w n upstream) m ≡ place_of w m
other_place w n upstream m ne =
    ap (λ (next : Fec → Option NodeId). record { life = w.life; is_tree = w.is_tree; upstream = next })
    (cond-false (m.0 == n.0) upstream (w.upstream m) (node_apart m n ne))

module _ (w : LabelNetwork) (n : NodeId) (upstream : Fec → Option NodeId) (k : Kept w) where
  abbrev aimed : LabelNetwork
  aimed = with_upstream w n upstream

  pub rerouted_kept : OnNetwork Kept (stepped aimed n steps.Rerouted)
  rerouted_kept = by (label_step (place_of aimed n) w.clock (w.node n) steps.Rerouted) refl
    where
      by : (o : Option Stepped) → label_step (place_of aimed n) w.clock (w.node n) steps.Rerouted ≡ o → OnNetwork Kept (option_map (thereafter aimed n) o)
      by None e = tt
      by (Some new) e = record {
        rule = step_rule aimed n steps.Rerouted new
            (same_rule aimed n (w.node n) refl (record { branches = refl; leaves = refl; ends = refl }) (upstream_rule w n upstream k.rule)) e;
        settled =
            part_settled aimed n new.part (λ m ne. subst (λ (p : Place). AllSettled p (w.node m)) (sym (other_place w n upstream m ne)) (k.settled m))
            (rerouted_settled (place_of w n) (place_of aimed n) w.clock (w.node n) new (k.settled n) e);
      }

-- ---- a message is taken

pub taken_rule : (w : LabelNetwork) (a b : NodeId) (m : LabelMessage) (rest : List LabelMessage) → a ≢ b → (w.direction a b).transit ≡ m ∷ rest
    → Rule w
    → Rule (thereafter (left_in_transit w a b rest) b (effect (place_of w b) w.clock (w.node b) (steps.Taken a m)).0)
taken_rule w a b (messages.Mapping f l) rest ne e rule =
    let v = left_in_transit w a b rest in
    let part = w.node b in
    let more : LabelData = record part { branches = sets.insert part.branches (branch_to a f l) } in
    let P : LabelData → Type 0 = λ d. Rule (thereafter v b (record { part = d; puts = [] })) in
    subst P (sym (cond-true (w.is_tree f) more part (mapped_tree w a b f l rest ne e rule)))
    (subst Rule (after_silent v b more) (mapping_rule w a b f l rest ne e rule))
taken_rule w a b (messages.Withdraw f l) rest ne e rule = withdraw_rule w a b f l rest ne e rule
taken_rule w a b (messages.Release f l) rest ne e rule =
    let v = left_in_transit w a b rest in
    subst Rule (after_silent v b (steps.with_release (w.node b) a f l (w.clock + w.life + 1))) (release_rule w a b f l rest ne e rule)
taken_rule w a b (messages.Ignored kind) rest ne e rule =
    let v = left_in_transit w a b rest in
    subst Rule (after_silent v b (w.node b)) (ignored_rule w a b kind rest ne e rule)
