use Rattle.std.proofs.Common.{◌≡◌, ◌∙◌, nat_eq, List, Some, None, sym, ap, subst}
use Rattle.std.specs.Map.{lookup}
use Rattle.std.specs.FinMap as maps
use Rattle.indexmap.specs.IndexMap.{get}
use Rattle.mldp.specs.declared.mldp_fec.fec.Fec.{Fec}
use Rattle.label_defs.specs.Keys.{fec_cmp}
use Rattle.tunnel_bindings.specs.declared.any_binding.AnyBinding.{AnyBinding}
use Rattle.tunnel_bindings.specs.declared.any_binding.AnyBinding.TheVariants as bindings
use Rattle.tunnel_bindings.specs.Labels.{state_of}
use Rattle.label_trees.specs.declared.label_uses.table.Waiting.{Waiting}
use Rattle.label_trees.specs.label_uses.Uses.{Uses}
use Rattle.label_trees.specs.label_uses.Held.{HoldsOwned, is_fec, is_node, waiting_binding, towards, uses_from}
use Rattle.label_trees.proofs.label_uses.TableLemmas.{Sets, sets_tree, name_kept}
use Rattle.label_trees.proofs.label_uses.HoldLemmas.{holds_wait}
use Rattle.label_trees.proofs.label_uses.SeenLemmas.{waiting_comes, waiting_absent, insert_removed}
use Rattle.label_trees.proofs.label_uses.label_uses.LabelUses.wait.Goals as goal

pub invariant_of-self-in-Ok : goal.invariant_of-self-in-Ok
invariant_of-self-in-Ok c =
    let own : Waiting = record { upstream = c.args.upstream; name = c.in-Ok.name } in
    let absent : get is_fec c.self.inside.waiting c.args.fec.now ≡ None =
    waiting_absent c.self.inside.waiting c.args.self.now.waiting c.args.fec.now (ap (λ (u : Uses). u.waiting) (c.self.view_is ∙ c.unwait.ensures))
    in
    let binding : bindings.Wanted c.new-wanted.result ≡ waiting_binding c.args.fec.now own = ap bindings.Wanted c.new-wanted.ensures in
    let names =
    subst (λ n. Sets (maps.get c.self.inside.bindings.kept) (maps.get n) c.in-Ok.name (Some (waiting_binding c.args.fec.now own)))
    (sym c.in-Ok.ensures.kept)
    (subst (λ (x : AnyBinding). Sets (maps.get c.self.inside.bindings.kept)
    (maps.get (maps.insert c.self.inside.bindings.kept c.in-Ok.name (bindings.Wanted c.new-wanted.result))) c.in-Ok.name (Some x)) binding
    (name_kept c.self.inside.bindings.kept c.in-Ok.name (bindings.Wanted c.new-wanted.result))) in
    holds_wait (state_of c.self.inside.space) (get nat_eq c.self.inside.held) (maps.get c.self.inside.bindings.kept) (maps.get c.keep.new.self.kept)
    (get is_node c.self.inside.sessions) (get is_fec c.self.inside.mapped) (get is_fec c.make_room.new.table) (get is_fec c.note_waiting.new.waiting)
    c.args.fec.now own
    (subst (λ (es : List (Fec × Waiting)). HoldsOwned (state_of c.self.inside.space) (get nat_eq c.self.inside.held)
    (maps.get c.self.inside.bindings.kept) (get is_node c.self.inside.sessions) (get is_fec c.self.inside.mapped) (λ q. lookup (is_fec q) es))
    (sym c.make_room.ensures.entries) c.self.invariant)
    (ap (lookup (is_fec c.args.fec.now)) c.make_room.ensures.entries ∙ absent) c.in-Ok.ensures.absent names
    (sets_tree (get is_fec c.make_room.new.table) (get is_fec c.note_waiting.new.waiting) c.args.fec.now (Some own) c.note_waiting.ensures.each)

pub returns-in-Ok-clause-waits : goal.returns-in-Ok-clause-waits
returns-in-Ok-clause-waits c =
    let own : Waiting = record { upstream = c.args.upstream; name = c.in-Ok.name } in
    let waiting = waiting_comes c.make_room.new.table c.note_waiting.new.waiting c.args.fec.now own c.note_waiting.ensures.each
    ∙ ap (λ (es : List (Fec × Waiting)). maps.insert (maps.from_entries {R = fec_cmp} (towards es)) c.args.fec.now c.args.upstream)
    c.make_room.ensures.entries in
    let removed = insert_removed c.args.self.now.waiting c.args.fec.now c.args.upstream in
    (λ i. record {
      life = c.self.inside.space.life;
      labels = uses_from 16 (get nat_eq c.self.inside.held) c.self.inside.space.states;
      waiting =
          waiting i;
      sessions = maps.from_entries c.self.inside.sessions.entries;
    })
    ∙ (ap (λ (u : Uses). record u { waiting = maps.insert u.waiting c.args.fec.now c.args.upstream }) (c.self.view_is ∙ c.unwait.ensures)
    ∙ λ i. record { life = c.args.self.now.life; labels = c.args.self.now.labels; waiting = removed i; sessions = c.args.self.now.sessions })
