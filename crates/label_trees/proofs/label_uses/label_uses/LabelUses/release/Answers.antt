use Rattle.std.proofs.Common.{◌≡◌, ◌∙◌, ◌+◌, nat_eq, is_some, refl, sym, ap, subst}
use Rattle.std.specs.FinMap as maps
use Rattle.indexmap.specs.IndexMap.{get}
use Rattle.tunnel_bindings.specs.declared.state.LabelState.TheVariants as states
use Rattle.tunnel_bindings.specs.Bindings.{Named}
use Rattle.tunnel_bindings.specs.Labels.{Space}
use Rattle.tunnel_bindings.specs.States.{label_of}
use Rattle.label_trees.specs.label_uses.Uses.{Uses, with_released}
use Rattle.label_trees.specs.label_uses.Held.{towards, is_fec, is_node, binding_of, uses_from}
use Rattle.label_trees.proofs.label_uses.HoldLemmas.{same_own}
use Rattle.label_trees.proofs.label_uses.ListLemmas.{use_of_held}
use Rattle.label_trees.proofs.label_uses.StepLemmas.{binding_label, owned_if, less_holds, less_labels, leaves_alike, leaves_leaving, rested_is, released_here, released_other, released_stays, idle}
use Rattle.label_trees.proofs.label_uses.label_uses.LabelUses.release.Goals as goal

pub unwrap-binding-requires : goal.unwrap-binding-requires
unwrap-binding-requires c =
    let at = sym c.get.ensures.value ∙ sym c.copied.ensures ∙ c.in-Some.is in
    let bound = c.self.invariant.bound c.args.label c.in-Some.own at in
    ap is_some (c.take.ensures.binding ∙ bound.is)

pub rest-requires-clause-owned : goal.rest-requires-clause-owned
rest-requires-clause-owned c =
    let at = sym c.get.ensures.value ∙ sym c.copied.ensures ∙ c.in-Some.is in
    let bound = c.self.invariant.bound c.args.label c.in-Some.own at in
    let is = same_own c.take.result c.unwrap-binding.result (binding_of c.args.label c.in-Some.own bound.raise) c.unwrap-binding.ensures
    (c.take.ensures.binding ∙ bound.is) in
    owned_if c.self.inside.space c.unwrap-binding.result c.args.label (ap label_of is ∙ binding_label c.args.label c.in-Some.own bound.raise)
    (c.self.invariant.owned c.args.label c.in-Some.own at)

pub invariant_of-self : goal.invariant_of-self
invariant_of-self c =
    let at = sym c.get.ensures.value ∙ sym c.copied.ensures ∙ c.in-Some.is in
    let bound = c.self.invariant.bound c.args.label c.in-Some.own at in
    let is = same_own c.take.result c.unwrap-binding.result (binding_of c.args.label c.in-Some.own bound.raise) c.unwrap-binding.ensures
    (c.take.ensures.binding ∙ bound.is) in
    let gone = leaves_leaving c.in-Some.own c.args.fec.now c.args.from (sym c.is_leaving_to.ensures ∙ c.if-is_leaving_to.true) in
    less_holds c.self.inside.space c.rest.new.space c.self.inside.held c.forget.new.held c.self.inside.bindings.kept c.take.new.self.kept
    (get is_node c.self.inside.sessions) (get is_fec c.self.inside.mapped) (get is_fec c.self.inside.mapped) (get is_fec c.self.inside.waiting)
    c.args.label c.in-Some.own (states.Resting (c.args.now + c.self.inside.space.life + 1)) c.self.invariant at (λ e. absurd cc)
    (c.rest.ensures ∙ rested_is c.self.inside.space c.args.now c.args.label c.in-Some.own bound.raise c.unwrap-binding.result is gone)
    c.forget.ensures.each (ap (λ (n : Named). n.kept) c.take.ensures.taken)
    (leaves_alike _ (get nat_eq c.self.inside.held) (maps.get c.self.inside.bindings.kept) (get is_node c.self.inside.sessions)
    (get is_fec c.self.inside.mapped) (get is_fec c.self.inside.waiting) c.self.invariant (get is_fec c.self.inside.mapped) c.args.label
    c.in-Some.own at gone (λ fec. refl))

pub returns-then-is_leaving_to : goal.returns-then-is_leaving_to
returns-then-is_leaving_to c =
    let at = sym c.get.ensures.value ∙ sym c.copied.ensures ∙ c.in-Some.is in
    let bound = c.self.invariant.bound c.args.label c.in-Some.own at in
    let is = same_own c.take.result c.unwrap-binding.result (binding_of c.args.label c.in-Some.own bound.raise) c.unwrap-binding.ensures
    (c.take.ensures.binding ∙ bound.is) in
    let test = sym c.is_leaving_to.ensures ∙ c.if-is_leaving_to.true in
    let gone = leaves_leaving c.in-Some.own c.args.fec.now c.args.from test in
    let space = c.rest.ensures ∙ rested_is c.self.inside.space c.args.now c.args.label c.in-Some.own bound.raise c.unwrap-binding.result is gone in
    let life = ap (λ (x : Space). x.life) space in
    let used =
    use_of_held c.self.inside.space (get nat_eq c.self.inside.held) (maps.get c.self.inside.bindings.kept) (get is_node c.self.inside.sessions)
    (get is_fec c.self.inside.mapped) (get is_fec c.self.inside.waiting) c.self.invariant c.args.label c.in-Some.own at in
    let labels =
    less_labels c.self.inside.space c.rest.new.space c.self.inside.held c.forget.new.held c.args.label states.Owned
    (states.Resting (c.args.now + c.self.inside.space.life + 1)) (c.self.invariant.owned c.args.label c.in-Some.own at) space
    c.forget.ensures.each
    ∙ sym (released_here c.args.from c.args.fec.now (c.args.now + c.self.inside.space.life + 1)
    (uses_from 16 (get nat_eq c.self.inside.held) c.self.inside.space.states) c.args.label c.in-Some.own used test) in
    (λ i. record {
      life = life i;
      labels = labels i;
      waiting = maps.from_entries (towards c.self.inside.waiting.entries);
      sessions =
          maps.from_entries c.self.inside.sessions.entries;
    })
    ∙ ap (λ (u : Uses). record u { labels = with_released u.labels c.args.from c.args.fec.now c.args.label (c.args.now + u.life + 1) }) c.self.view_is

pub returns-else-is_leaving_to : goal.returns-else-is_leaving_to
returns-else-is_leaving_to c =
    let at = sym c.get.ensures.value ∙ sym c.copied.ensures ∙ c.in-Some.is in
    let used =
    use_of_held c.self.inside.space (get nat_eq c.self.inside.held) (maps.get c.self.inside.bindings.kept) (get is_node c.self.inside.sessions)
    (get is_fec c.self.inside.mapped) (get is_fec c.self.inside.waiting) c.self.invariant c.args.label c.in-Some.own at in
    let same =
    sym (released_other c.args.from c.args.fec.now (c.args.now + c.self.inside.space.life + 1)
    (uses_from 16 (get nat_eq c.self.inside.held) c.self.inside.space.states) c.args.label c.in-Some.own used
    (sym c.is_leaving_to.ensures ∙ c.if-is_leaving_to.false)) in
    subst (λ (u : Uses). u ≡ record u { labels = with_released u.labels c.args.from c.args.fec.now c.args.label (c.args.now + u.life + 1) })
    c.self.view_is
    (λ i. record {
      life = c.self.inside.space.life;
      labels = same i;
      waiting = maps.from_entries (towards c.self.inside.waiting.entries);
      sessions =
          maps.from_entries c.self.inside.sessions.entries;
    })

pub returns-in_default : goal.returns-in_default
returns-in_default c =
    let none = sym c.get.ensures.value ∙ sym c.copied.ensures ∙ c.in_default.is in
    let same =
    sym (released_stays c.args.from c.args.fec.now (c.args.now + c.self.inside.space.life + 1)
    (uses_from 16 (get nat_eq c.self.inside.held) c.self.inside.space.states) c.args.label
    (idle c.self.inside.space (get nat_eq c.self.inside.held) c.args.label none)) in
    subst (λ (u : Uses). u ≡ record u { labels = with_released u.labels c.args.from c.args.fec.now c.args.label (c.args.now + u.life + 1) })
    c.self.view_is
    (λ i. record {
      life = c.self.inside.space.life;
      labels = same i;
      waiting = maps.from_entries (towards c.self.inside.waiting.entries);
      sessions =
          maps.from_entries c.self.inside.sessions.entries;
    })
