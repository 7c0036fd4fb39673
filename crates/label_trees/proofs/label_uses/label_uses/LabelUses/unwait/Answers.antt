use Rattle.std.proofs.Common.{◌≡◌, ◌∙◌, List, nat_eq, is_some, None, sym, ap, subst}
use Rattle.std.specs.Map.{lookup}
use Rattle.std.specs.FinMap as maps
use Rattle.std.specs.Prelude.{IfSome}
use Rattle.indexmap.specs.IndexMap.{get}
use Rattle.mldp.specs.declared.mldp_fec.fec.Fec.{Fec}
use Rattle.label_trees.specs.declared.label_uses.table.Waiting.{Waiting}
use Rattle.tunnel_bindings.specs.declared.any_binding.AnyBinding.{AnyBinding}
use Rattle.tunnel_bindings.specs.Bindings.{Named}
use Rattle.tunnel_bindings.specs.Labels.{Space, IsOwned, state_of}
use Rattle.tunnel_bindings.specs.States.{label_of, with_free}
use Rattle.label_trees.specs.label_uses.Uses.{Uses}
use Rattle.label_trees.specs.label_uses.Held.{HoldsOwned, is_fec, is_node, waiting_binding, uses_from}
use Rattle.label_trees.proofs.label_uses.TableLemmas.{Sets, sets_tree, name_gone}
use Rattle.label_trees.proofs.label_uses.HoldLemmas.{same_own, holds_unwait}
use Rattle.label_trees.proofs.label_uses.SeenLemmas.{waiting_goes}
use Rattle.label_trees.proofs.label_uses.label_uses.LabelUses.unwait.Goals as goal

pub unwrap-binding-requires : goal.unwrap-binding-requires
unwrap-binding-requires c =
    let at = sym c.in-Some.ensures.value in
    ap is_some (c.take.ensures.binding ∙ c.self.invariant.waits c.args.fec.now c.in-Some.own at)

pub end-requires : goal.end-requires
end-requires c =
    let at = sym c.in-Some.ensures.value in
    let is = same_own c.take.result c.unwrap-binding.result (waiting_binding c.args.fec.now c.in-Some.own) c.unwrap-binding.ensures
    (c.take.ensures.binding ∙ c.self.invariant.waits c.args.fec.now c.in-Some.own at) in
    subst (λ (b : AnyBinding). IfSome (label_of b) (λ l. IsOwned c.self.inside.space l)) (sym is) tt

pub invariant_of-self : goal.invariant_of-self
invariant_of-self c =
    let at = sym c.in-Some.ensures.value in
    let is = same_own c.take.result c.unwrap-binding.result (waiting_binding c.args.fec.now c.in-Some.own) c.unwrap-binding.ensures
    (c.take.ensures.binding ∙ c.self.invariant.waits c.args.fec.now c.in-Some.own at) in
    let space : c.end.new.space ≡ c.self.inside.space = c.end.ensures ∙ ap (λ (b : AnyBinding). with_free c.self.inside.space (label_of b)) is in
    let names =
    subst (λ n. Sets (maps.get c.self.inside.bindings.kept) (maps.get n) c.in-Some.own.name None)
    (sym (ap (λ (n : Named). n.kept) c.take.ensures.taken)) (name_gone c.self.inside.bindings.kept c.in-Some.own.name) in
    subst (λ (x : Space). HoldsOwned (state_of x) (get nat_eq c.self.inside.held) (maps.get c.take.new.self.kept) (get is_node c.self.inside.sessions)
    (get is_fec c.self.inside.mapped) (get is_fec c.take_waiting.new.waiting)) (sym space)
    (holds_unwait (state_of c.self.inside.space) (get nat_eq c.self.inside.held) (maps.get c.self.inside.bindings.kept)
    (maps.get c.take.new.self.kept) (get is_node c.self.inside.sessions) (get is_fec c.self.inside.mapped) (get is_fec c.self.inside.waiting)
    (get is_fec c.take_waiting.new.waiting)
    c.args.fec.now c.in-Some.own c.self.invariant at names
    (sets_tree (get is_fec c.self.inside.waiting) (get is_fec c.take_waiting.new.waiting) c.args.fec.now None c.in-Some.ensures.each))

pub returns-in-Some : goal.returns-in-Some
returns-in-Some c =
    let at = sym c.in-Some.ensures.value in
    let is = same_own c.take.result c.unwrap-binding.result (waiting_binding c.args.fec.now c.in-Some.own) c.unwrap-binding.ensures
    (c.take.ensures.binding ∙ c.self.invariant.waits c.args.fec.now c.in-Some.own at) in
    let space : c.end.new.space ≡ c.self.inside.space = c.end.ensures ∙ ap (λ (b : AnyBinding). with_free c.self.inside.space (label_of b)) is in
    let life = ap (λ (x : Space). x.life) space in
    let labels = ap (λ (x : Space). uses_from 16 (get nat_eq c.self.inside.held) x.states) space in
    let waiting = waiting_goes c.self.inside.waiting c.take_waiting.new.waiting c.args.fec.now c.in-Some.ensures.each in
    (λ i. record { life = life i; labels = labels i; waiting = waiting i; sessions = maps.from_entries c.self.inside.sessions.entries })
    ∙ ap (λ (u : Uses). record u { waiting = maps.remove u.waiting c.args.fec.now }) c.self.view_is

pub invariant_of-self-in_default : goal.invariant_of-self-in_default
invariant_of-self-in_default c =
    subst (λ (es : List (Fec × Waiting)). HoldsOwned (state_of c.self.inside.space) (get nat_eq c.self.inside.held)
    (maps.get c.self.inside.bindings.kept) (get is_node c.self.inside.sessions) (get is_fec c.self.inside.mapped) (λ q. lookup (is_fec q) es))
    (sym c.in_default.ensures.unchanged) c.self.invariant

pub returns-in_default : goal.returns-in_default
returns-in_default c =
    let waiting = waiting_goes c.self.inside.waiting c.take_waiting.new.waiting c.args.fec.now c.in_default.ensures.each in
    (λ i. record {
      life = c.self.inside.space.life;
      labels = uses_from 16 (get nat_eq c.self.inside.held) c.self.inside.space.states;
      waiting =
          waiting i;
      sessions = maps.from_entries c.self.inside.sessions.entries;
    })
    ∙ ap (λ (u : Uses). record u { waiting = maps.remove u.waiting c.args.fec.now }) c.self.view_is
