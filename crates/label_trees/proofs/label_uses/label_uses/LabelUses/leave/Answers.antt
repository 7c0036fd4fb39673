use Rattle.std.proofs.Common.{◌≡◌, ◌∙◌, nat_eq, true, cond, Option, Some, None, is_some, refl, sym, ap}
use Rattle.std.specs.FinMap as maps
use Rattle.indexmap.specs.IndexMap.{get}
use Rattle.mldp.specs.declared.mldp_fec.fec.Fec.{Fec}
use Rattle.label_defs.specs.declared.label_use.LabelUse.TheVariants as uses
use Rattle.tunnel_bindings.specs.declared.state.LabelState.TheVariants as states
use Rattle.tunnel_bindings.specs.Bindings.{Named}
use Rattle.tunnel_bindings.specs.Labels.{Space}
use Rattle.tunnel_bindings.specs.States.{label_of, with_free}
use Rattle.label_trees.specs.declared.label_uses.held.Held.{Held}
use Rattle.label_trees.specs.label_uses.Uses.{Uses, use_in, set_use}
use Rattle.label_trees.specs.label_uses.Held.{towards, is_fec, is_node, binding_of, use_by, uses_from}
use Rattle.label_trees.proofs.label_uses.TableLemmas.{sets_label, sets_fec}
use Rattle.label_trees.proofs.label_uses.HoldLemmas.{same_own}
use Rattle.label_trees.proofs.label_uses.ListLemmas.{use_change}
use Rattle.label_trees.proofs.label_uses.StepLemmas.{binding_label, owned_if, less_holds, less_labels, leaves_cut, left_label, mapped_own, leaving_binding, leave_holds}
use Rattle.label_trees.proofs.label_uses.label_uses.LabelUses.leave.Goals as goal

pub unwrap-own-requires : goal.unwrap-own-requires
unwrap-own-requires c =
    let own =
    mapped_own c.self.inside.space (get nat_eq c.self.inside.held) (maps.get c.self.inside.bindings.kept) (get is_node c.self.inside.sessions)
    (get is_fec c.self.inside.mapped) (get is_fec c.self.inside.waiting) c.self.invariant c.args.label c.args.fec.now c.args.upstream
    (ap (λ (u : Uses). use_in u.labels c.args.label) c.self.view_is ∙ c.requires) in
    ap is_some (c.copied.ensures ∙ c.get.ensures.value ∙ own.1.at)

pub unwrap-mapped-requires : goal.unwrap-mapped-requires
unwrap-mapped-requires c =
    let at = sym c.get.ensures.value ∙ sym c.copied.ensures ∙ c.unwrap-own.ensures in
    let bound = c.self.invariant.bound c.args.label c.unwrap-own.result at in
    ap is_some (c.take.ensures.binding ∙ bound.is)

pub end-requires : goal.end-requires
end-requires c =
    let at = sym c.get.ensures.value ∙ sym c.copied.ensures ∙ c.unwrap-own.ensures in
    let bound = c.self.invariant.bound c.args.label c.unwrap-own.result at in
    let is = same_own c.take.result c.unwrap-mapped.result (binding_of c.args.label c.unwrap-own.result bound.raise) c.unwrap-mapped.ensures
    (c.take.ensures.binding ∙ bound.is) in
    owned_if c.self.inside.space c.in-Err.back c.args.label
    (ap label_of (c.in-Err.ensures.back ∙ c.left.ensures)
    ∙ (left_label c.unwrap-mapped.result ∙ (ap label_of is ∙ binding_label c.args.label c.unwrap-own.result bound.raise)))
    (c.self.invariant.owned c.args.label c.unwrap-own.result at)

pub invariant_of-self : goal.invariant_of-self
invariant_of-self c =
    let at = sym c.get.ensures.value ∙ sym c.copied.ensures ∙ c.unwrap-own.ensures in
    let bound = c.self.invariant.bound c.args.label c.unwrap-own.result at in
    let is = same_own c.take.result c.unwrap-mapped.result (binding_of c.args.label c.unwrap-own.result bound.raise) c.unwrap-mapped.ensures
    (c.take.ensures.binding ∙ bound.is) in
    let label =
    ap label_of (c.in-Err.ensures.back ∙ c.left.ensures)
    ∙ (left_label c.unwrap-mapped.result ∙ (ap label_of is ∙ binding_label c.args.label c.unwrap-own.result bound.raise)) in
    let found =
    mapped_own c.self.inside.space (get nat_eq c.self.inside.held) (maps.get c.self.inside.bindings.kept) (get is_node c.self.inside.sessions)
    (get is_fec c.self.inside.mapped) (get is_fec c.self.inside.waiting) c.self.invariant c.args.label c.args.fec.now c.args.upstream
    (ap (λ (u : Uses). use_in u.labels c.args.label) c.self.view_is ∙ c.requires) in
    let same : found.0 ≡ c.unwrap-own.result = same_own (get nat_eq c.self.inside.held c.args.label) found.0 c.unwrap-own.result found.1.at at in
    let mapped = ap (λ (x : Held). x.leaving) (sym same) ∙ found.1.mapped in
    let tree = ap (λ (x : Held). x.fec) (sym same) ∙ found.1.tree in
    less_holds c.self.inside.space c.end.new.space c.self.inside.held c.forget-in-Err.new.held c.self.inside.bindings.kept c.keep.new.self.kept
    (get is_node c.self.inside.sessions) (get is_fec c.self.inside.mapped) (get is_fec c.forget.new.mapped) (get is_fec c.self.inside.waiting)
    c.args.label c.unwrap-own.result states.Free c.self.invariant at (λ e. absurd cc) (c.end.ensures ∙ ap (with_free c.self.inside.space) label)
    c.forget-in-Err.ensures.each
    (ap (λ (n : Named). n.kept) (c.in-Err.ensures.unchanged ∙ c.take.ensures.taken))
    (leaves_cut _ (get nat_eq c.self.inside.held) (maps.get c.self.inside.bindings.kept) (get is_node c.self.inside.sessions)
    (get is_fec c.self.inside.mapped) (get is_fec c.self.inside.waiting) c.self.invariant (get is_fec c.forget.new.mapped) c.args.label
    c.unwrap-own.result at mapped
    (sets_fec (get is_fec c.self.inside.mapped) (get is_fec c.forget.new.mapped) c.unwrap-own.result.fec None
    (λ other. c.forget.ensures.each other ∙ ap (λ (x : Fec). cond (is_fec x other) None (get is_fec c.self.inside.mapped other)) (sym tree))))

pub invariant_of-self-in-Ok : goal.invariant_of-self-in-Ok
invariant_of-self-in-Ok c =
    let at = sym c.get.ensures.value ∙ sym c.copied.ensures ∙ c.unwrap-own.ensures in
    let bound = c.self.invariant.bound c.args.label c.unwrap-own.result at in
    let is = same_own c.take.result c.unwrap-mapped.result (binding_of c.args.label c.unwrap-own.result bound.raise) c.unwrap-mapped.ensures
    (c.take.ensures.binding ∙ bound.is) in
    let found =
    mapped_own c.self.inside.space (get nat_eq c.self.inside.held) (maps.get c.self.inside.bindings.kept) (get is_node c.self.inside.sessions)
    (get is_fec c.self.inside.mapped) (get is_fec c.self.inside.waiting) c.self.invariant c.args.label c.args.fec.now c.args.upstream
    (ap (λ (u : Uses). use_in u.labels c.args.label) c.self.view_is ∙ c.requires) in
    let same : found.0 ≡ c.unwrap-own.result = same_own (get nat_eq c.self.inside.held c.args.label) found.0 c.unwrap-own.result found.1.at at in
    let mapped = ap (λ (x : Held). x.leaving) (sym same) ∙ found.1.mapped in
    let tree = ap (λ (x : Held). x.fec) (sym same) ∙ found.1.tree in
    let toward = ap (λ (x : Held). x.upstream) (sym same) ∙ found.1.toward in
    let new : Held = record { fec = c.args.fec.now; upstream = c.args.upstream; leaving = true; name = c.in-Ok.name } in
    leave_holds c.self.inside.space c.self.inside.held c.note.new.held c.self.inside.bindings.kept c.take.new.self.kept c.keep.new.self.kept
    (get is_node c.self.inside.sessions) c.self.inside.mapped c.forget.new.mapped (get is_fec c.self.inside.waiting)
    c.args.label c.unwrap-own.result new bound.raise c.left.result c.self.invariant at mapped refl (ap (λ (n : Named). n.kept) c.take.ensures.taken)
    c.in-Ok.ensures.absent c.in-Ok.ensures.kept
    (c.left.ensures ∙ leaving_binding c.args.label c.unwrap-own.result bound.raise c.unwrap-mapped.result c.args.fec.now c.args.upstream c.in-Ok.name
    is mapped tree toward)
    (ap (get is_node c.self.inside.sessions) (sym toward) ∙ bound.present) c.note.ensures.each
    (λ other. c.forget.ensures.each other ∙ ap (λ (x : Fec). cond (is_fec x other) None (get is_fec c.self.inside.mapped other)) (sym tree))

pub returns-in-Ok-clause-leaving : goal.returns-in-Ok-clause-leaving
returns-in-Ok-clause-leaving c =
    let at = sym c.get.ensures.value ∙ sym c.copied.ensures ∙ c.unwrap-own.ensures in
    let new : Held = record { fec = c.args.fec.now; upstream = c.args.upstream; leaving = true; name = c.in-Ok.name } in
    let sets = sets_label (get nat_eq c.self.inside.held) (get nat_eq c.note.new.held) c.args.label (Some new) c.note.ensures.each in
    let labels =
    use_change c.self.inside.space (get nat_eq c.self.inside.held) (get nat_eq c.note.new.held) c.args.label states.Owned
    (c.self.invariant.owned c.args.label c.unwrap-own.result at) sets.others
    ∙ ap (λ (o : Option Held). set_use (uses_from 16 (get nat_eq c.self.inside.held) c.self.inside.space.states) c.args.label (use_by states.Owned o))
    sets.here in
    (λ i. record {
      life = c.self.inside.space.life;
      labels = labels i;
      waiting = maps.from_entries (towards c.self.inside.waiting.entries);
      sessions =
          maps.from_entries c.self.inside.sessions.entries;
    })
    ∙ ap (λ (u : Uses). record u { labels = set_use u.labels c.args.label (uses.Leaving c.args.fec.now c.args.upstream) }) c.self.view_is

pub returns-in-Err-clause-free : goal.returns-in-Err-clause-free
returns-in-Err-clause-free c =
    let at = sym c.get.ensures.value ∙ sym c.copied.ensures ∙ c.unwrap-own.ensures in
    let bound = c.self.invariant.bound c.args.label c.unwrap-own.result at in
    let is = same_own c.take.result c.unwrap-mapped.result (binding_of c.args.label c.unwrap-own.result bound.raise) c.unwrap-mapped.ensures
    (c.take.ensures.binding ∙ bound.is) in
    let label =
    ap label_of (c.in-Err.ensures.back ∙ c.left.ensures)
    ∙ (left_label c.unwrap-mapped.result ∙ (ap label_of is ∙ binding_label c.args.label c.unwrap-own.result bound.raise)) in
    let spaces = c.end.ensures ∙ ap (with_free c.self.inside.space) label in
    let life = ap (λ (x : Space). x.life) spaces in
    let labels =
    less_labels c.self.inside.space c.end.new.space c.self.inside.held c.forget-in-Err.new.held c.args.label states.Owned states.Free
    (c.self.invariant.owned c.args.label c.unwrap-own.result at) spaces c.forget-in-Err.ensures.each in
    (λ i. record {
      life = life i;
      labels = labels i;
      waiting = maps.from_entries (towards c.self.inside.waiting.entries);
      sessions =
          maps.from_entries c.self.inside.sessions.entries;
    })
    ∙ ap (λ (u : Uses). record u { labels = set_use u.labels c.args.label uses.Free }) c.self.view_is
