use Rattle.std.proofs.Common.{◌≡◌, ◌∙◌, nat_eq, List, Some, None, sym, ap, subst, inl, inr}
use Rattle.std.specs.Map.{lookup}
use Rattle.std.specs.FinMap as maps
use Rattle.std.proofs.lemmas.Bool.{cases_Bool}
use Rattle.std.proofs.lemmas.Option.{none-some}
use Rattle.indexmap.specs.IndexMap.{get}
use Rattle.mv_base.specs.declared.ids.NodeId.{NodeId}
use Rattle.tunnel_bindings.specs.declared.binding.Incarnation.{Incarnation}
use Rattle.tunnel_bindings.specs.Labels.{state_of}
use Rattle.label_trees.specs.label_uses.Uses.{Uses}
use Rattle.label_trees.specs.label_uses.Held.{towards, HoldsOwned, is_fec, is_node, uses_from}
use Rattle.label_trees.proofs.label_uses.HoldLemmas.{holds_sessions}
use Rattle.label_trees.proofs.label_uses.StepLemmas.{session_seen}
use Rattle.label_trees.proofs.label_uses.SeenLemmas.{session_comes, not_it, node_same}
use Rattle.label_trees.proofs.label_uses.label_uses.LabelUses.raise.Goals as goal

pub invariant_of-self : goal.invariant_of-self
invariant_of-self c =
    subst (λ (es : List (NodeId × Incarnation)). HoldsOwned (state_of c.self.inside.space) (get nat_eq c.self.inside.held)
    (maps.get c.self.inside.bindings.kept) (λ q. lookup (is_node q) es) (get is_fec c.self.inside.mapped) (get is_fec c.self.inside.waiting))
    (sym c.in_err-insert.ensures.err) c.self.invariant

pub invariant_of-self-2 : goal.invariant_of-self-2
invariant_of-self-2 c =
    let none : get is_node c.self.inside.sessions c.args.peer ≡ None =
    sym (session_seen c.self.inside.sessions c.args.peer) ∙ (ap (λ (u : Uses). maps.get u.sessions c.args.peer) c.self.view_is ∙ c.requires) in
    holds_sessions (state_of c.self.inside.space) (get nat_eq c.self.inside.held) (maps.get c.self.inside.bindings.kept)
    (get is_node c.self.inside.sessions) (get is_node c.insert.new.self) (get is_fec c.self.inside.mapped) (get is_fec c.self.inside.waiting)
    c.self.invariant
    (λ q o raise at up. elim (cases_Bool (is_node c.args.peer o.upstream)) [
      | inl t ↦ absurd (none-some raise (sym none ∙ (ap (get is_node c.self.inside.sessions) (node_same c.args.peer o.upstream t) ∙ up)))
      | inr f ↦ not_it c.self.inside.sessions c.insert.new.self c.args.peer (Some c.args.session) c.in_ok-insert.ensures.updates.0 o.upstream f ∙ up
    ])

pub returns-clause-raised : goal.returns-clause-raised
returns-clause-raised c =
    let sessions = session_comes c.self.inside.sessions c.insert.new.self c.args.peer c.args.session c.in_ok-insert.ensures.updates.0 in
    (λ i. record {
      life = c.self.inside.space.life;
      labels = uses_from 16 (get nat_eq c.self.inside.held) c.self.inside.space.states;
      waiting =
          maps.from_entries (towards c.self.inside.waiting.entries);
      sessions = sessions i;
    })
    ∙ ap (λ (u : Uses). record u { sessions = maps.insert u.sessions c.args.peer c.args.session }) c.self.view_is
