use Rattle.std.proofs.Common.{◌∙◌, ℕ, nat_eq, map, List, None, sym, ap, inl, inr}
use Rattle.std.specs.FinMap as maps
use Rattle.std.proofs.lemmas.Bool.{cases_Bool}
use Rattle.indexmap.specs.IndexMap.{get}
use Rattle.mv_base.specs.declared.ids.NodeId.{NodeId}
use Rattle.label_defs.specs.Steps.{freed}
use Rattle.tunnel_bindings.specs.Labels.{state_of}
use Rattle.label_trees.specs.label_uses.Uses.{Uses, lost_all}
use Rattle.label_trees.specs.label_uses.Held.{is_fec, is_node, labels_toward}
use Rattle.label_trees.proofs.label_uses.HoldLemmas.{holds_sessions}
use Rattle.label_trees.proofs.label_uses.SeenLemmas.{session_goes, not_it, node_same}
use Rattle.label_trees.proofs.label_uses.LossLemmas.{lost_is, none_toward}
use Rattle.label_trees.proofs.label_uses.label_uses.LabelUses.lose.Goals as goal

pub invariant_of-self : goal.invariant_of-self
invariant_of-self c =
    let listed = c.deref.ensures.value ∙ c.in_ok-labels.ensures.listed in
    let labels = ap (λ (u : Uses). u.labels) (c.self-2.view_is ∙ c.lose_all.ensures)
    ∙ (ap (λ (ls : List ℕ). lost_all c.args.peer c.args.self.now.labels ls) listed
    ∙ (ap (λ (u : Uses). lost_all c.args.peer u.labels (labels_toward c.args.peer c.self.inside.held.entries)) (sym c.self.view_is)
    ∙ lost_is c.self.inside.space c.self.inside.held (maps.get c.self.inside.bindings.kept) (get is_node c.self.inside.sessions)
    (get is_fec c.self.inside.mapped) (get is_fec c.self.inside.waiting) c.self.invariant c.args.peer)) in
    holds_sessions (state_of c.self-2.inside.space) (get nat_eq c.self-2.inside.held) (maps.get c.self-2.inside.bindings.kept)
    (get is_node c.self-2.inside.sessions) (get is_node c.swap_remove.new.self) (get is_fec c.self-2.inside.mapped)
    (get is_fec c.self-2.inside.waiting) c.self-2.invariant
    (λ q o raise at up. elim (cases_Bool (is_node c.args.peer o.upstream)) [
      | inl t ↦ absurd (none_toward c.self-2.inside.space c.self-2.inside.held (maps.get c.self-2.inside.bindings.kept)
          (get is_node c.self-2.inside.sessions) (get is_fec c.self-2.inside.mapped) (get is_fec c.self-2.inside.waiting) c.self-2.invariant
          c.args.peer _ labels q o at
          (ap (λ (n : NodeId). is_node n c.args.peer) (sym (node_same c.args.peer o.upstream t))
          ∙ (ap (is_node c.args.peer) (node_same c.args.peer o.upstream t) ∙ t)))
      | inr f ↦ not_it c.self-2.inside.sessions c.swap_remove.new.self c.args.peer None c.swap_remove.ensures.updates.0 o.upstream f ∙ up
    ])

pub returns-clause-lost : goal.returns-clause-lost
returns-clause-lost c =
    let listed = c.deref.ensures.value ∙ c.in_ok-labels.ensures.listed in
    let thereafter = c.self-2.view_is ∙ c.lose_all.ensures in
    let life = ap (λ (u : Uses). u.life) thereafter in
    let labels = ap (λ (u : Uses). u.labels) thereafter
    ∙ (ap (λ (ls : List ℕ). lost_all c.args.peer c.args.self.now.labels ls) listed
    ∙ (ap (λ (u : Uses). lost_all c.args.peer u.labels (labels_toward c.args.peer c.self.inside.held.entries)) (sym c.self.view_is)
    ∙ (lost_is c.self.inside.space c.self.inside.held (maps.get c.self.inside.bindings.kept) (get is_node c.self.inside.sessions)
    (get is_fec c.self.inside.mapped) (get is_fec c.self.inside.waiting) c.self.invariant c.args.peer
    ∙ ap (λ (u : Uses). map (freed c.args.peer) u.labels) c.self.view_is))) in
    let sessions =
    session_goes c.self-2.inside.sessions c.swap_remove.new.self c.args.peer c.swap_remove.ensures.updates.0
    ∙ ap (λ (u : Uses). maps.remove u.sessions c.args.peer) thereafter in
    let waiting = ap (λ (u : Uses). u.waiting) thereafter in
    λ i. record { life = life i; labels = labels i; waiting = waiting i; sessions = sessions i }
