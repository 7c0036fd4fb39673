use Rattle.std.proofs.Common.{◌≡◌, ◌∙◌, nat_eq, is_some, sym, ap, subst}
use Rattle.std.specs.FinMap as maps
use Rattle.indexmap.specs.IndexMap.{get}
use Rattle.tunnel_bindings.specs.declared.state.LabelState.TheVariants as states
use Rattle.tunnel_bindings.specs.Bindings.{Named}
use Rattle.tunnel_bindings.specs.Labels.{Space}
use Rattle.tunnel_bindings.specs.States.{label_of, with_free}
use Rattle.label_trees.specs.label_uses.Uses.{Uses, lost_at}
use Rattle.label_trees.specs.label_uses.Held.{towards, is_fec, is_node, binding_of, uses_from}
use Rattle.label_trees.proofs.label_uses.HoldLemmas.{same_own}
use Rattle.label_trees.proofs.label_uses.ListLemmas.{use_of_held}
use Rattle.label_trees.proofs.label_uses.StepLemmas.{binding_label, owned_if, less_holds, less_labels, leaves_of, lost_here, lost_other, lost_stays, idle}
use Rattle.label_trees.proofs.label_uses.label_uses.LabelUses.lose_label.Goals as goal

pub unwrap-binding-requires : goal.unwrap-binding-requires
unwrap-binding-requires c =
    let at = sym c.get.ensures.value ∙ sym c.copied.ensures ∙ c.in-Some.is in
    let bound = c.self.invariant.bound c.args.label c.in-Some.own at in
    ap is_some (c.take.ensures.binding ∙ bound.is)

pub end-requires : goal.end-requires
end-requires c =
    let at = sym c.get.ensures.value ∙ sym c.copied.ensures ∙ c.in-Some.is in
    let bound = c.self.invariant.bound c.args.label c.in-Some.own at in
    let is = same_own c.take.result c.unwrap-binding.result (binding_of c.args.label c.in-Some.own bound.raise) c.unwrap-binding.ensures
    (c.take.ensures.binding ∙ bound.is) in
    owned_if c.self.inside.space c.unwrap-binding.result c.args.label (ap label_of is ∙ binding_label c.args.label c.in-Some.own bound.raise)
    (c.self.invariant.owned c.args.label c.in-Some.own at)

pub invariant_of-self : goal.invariant_of-self
invariant_of-self c =
    let at = sym c.get.ensures.value ∙ sym c.copied.ensures ∙ c.in-Some.is in
    let bound = c.self.invariant.bound c.args.label c.in-Some.own at in
    let is = same_own c.take.result c.unwrap-binding.result (binding_of c.args.label c.in-Some.own bound.raise) c.unwrap-binding.ensures
    (c.take.ensures.binding ∙ bound.is) in
    let label = ap label_of is ∙ binding_label c.args.label c.in-Some.own bound.raise in
    less_holds c.self.inside.space c.end.new.space c.self.inside.held c.forget.new.held c.self.inside.bindings.kept c.take.new.self.kept
    (get is_node c.self.inside.sessions) (get is_fec c.self.inside.mapped) (get is_fec c.forget_of.new.mapped) (get is_fec c.self.inside.waiting)
    c.args.label c.in-Some.own states.Free c.self.invariant at (λ e. absurd cc) (c.end.ensures ∙ ap (with_free c.self.inside.space) label)
    c.forget.ensures.each (ap (λ (n : Named). n.kept) c.take.ensures.taken)
    (leaves_of _ (get nat_eq c.self.inside.held) (maps.get c.self.inside.bindings.kept) (get is_node c.self.inside.sessions)
    (get is_fec c.self.inside.mapped) (get is_fec c.self.inside.waiting) c.self.invariant (get is_fec c.forget_of.new.mapped) c.args.label
    c.in-Some.own at c.forget_of.ensures.each)

pub returns-then-eq : goal.returns-then-eq
returns-then-eq c =
    let at = sym c.get.ensures.value ∙ sym c.copied.ensures ∙ c.in-Some.is in
    let bound = c.self.invariant.bound c.args.label c.in-Some.own at in
    let is = same_own c.take.result c.unwrap-binding.result (binding_of c.args.label c.in-Some.own bound.raise) c.unwrap-binding.ensures
    (c.take.ensures.binding ∙ bound.is) in
    let label = ap label_of is ∙ binding_label c.args.label c.in-Some.own bound.raise in
    let space = c.end.ensures ∙ ap (with_free c.self.inside.space) label in
    let life = ap (λ (x : Space). x.life) space in
    let used =
    use_of_held c.self.inside.space (get nat_eq c.self.inside.held) (maps.get c.self.inside.bindings.kept) (get is_node c.self.inside.sessions)
    (get is_fec c.self.inside.mapped) (get is_fec c.self.inside.waiting) c.self.invariant c.args.label c.in-Some.own at in
    let labels =
    less_labels c.self.inside.space c.end.new.space c.self.inside.held c.forget.new.held c.args.label states.Owned states.Free
    (c.self.invariant.owned c.args.label c.in-Some.own at) space c.forget.ensures.each
    ∙ sym (lost_here c.args.peer (uses_from 16 (get nat_eq c.self.inside.held) c.self.inside.space.states) c.args.label c.in-Some.own used
    (sym c.eq.ensures ∙ c.if-eq.true)) in
    (λ i. record {
      life = life i;
      labels = labels i;
      waiting = maps.from_entries (towards c.self.inside.waiting.entries);
      sessions =
          maps.from_entries c.self.inside.sessions.entries;
    })
    ∙ ap (λ (u : Uses). record u { labels = lost_at c.args.peer u.labels c.args.label }) c.self.view_is

pub returns-else-eq : goal.returns-else-eq
returns-else-eq c =
    let at = sym c.get.ensures.value ∙ sym c.copied.ensures ∙ c.in-Some.is in
    let used =
    use_of_held c.self.inside.space (get nat_eq c.self.inside.held) (maps.get c.self.inside.bindings.kept) (get is_node c.self.inside.sessions)
    (get is_fec c.self.inside.mapped) (get is_fec c.self.inside.waiting) c.self.invariant c.args.label c.in-Some.own at in
    let stays =
    lost_other c.args.peer (uses_from 16 (get nat_eq c.self.inside.held) c.self.inside.space.states) c.args.label c.in-Some.own used
    (sym c.eq.ensures ∙ c.if-eq.false) in
    let same = sym stays in
    subst (λ (u : Uses). u ≡ record u { labels = lost_at c.args.peer u.labels c.args.label }) c.self.view_is
    (λ i. record {
      life = c.self.inside.space.life;
      labels = same i;
      waiting = maps.from_entries (towards c.self.inside.waiting.entries);
      sessions =
          maps.from_entries c.self.inside.sessions.entries;
    })

pub returns-in_default : goal.returns-in_default
returns-in_default c =
    let none = sym c.get.ensures.value ∙ sym c.copied.ensures ∙ c.in_default.is in
    let same =
    sym (lost_stays c.args.peer (uses_from 16 (get nat_eq c.self.inside.held) c.self.inside.space.states) c.args.label
    (idle c.self.inside.space (get nat_eq c.self.inside.held) c.args.label none)) in
    subst (λ (u : Uses). u ≡ record u { labels = lost_at c.args.peer u.labels c.args.label }) c.self.view_is
    (λ i. record {
      life = c.self.inside.space.life;
      labels = same i;
      waiting = maps.from_entries (towards c.self.inside.waiting.entries);
      sessions =
          maps.from_entries c.self.inside.sessions.entries;
    })
