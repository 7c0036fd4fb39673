use Rattle.std.proofs.Common.{◌≡◌, ◌∙◌, ℕ, nat_eq, false, List, Some, None, is_some, refl, sym, ap, subst}
use Rattle.std.specs.Map.{lookup}
use Rattle.std.specs.FinMap as maps
use Rattle.tunnel_bindings.specs.declared.state.LabelState.TheVariants as states
use Rattle.indexmap.specs.IndexMap.{get}
use Rattle.label_defs.specs.declared.label_use.LabelUse.TheVariants as uses
use Rattle.tunnel_bindings.specs.declared.any_binding.AnyBinding.{AnyBinding}
use Rattle.tunnel_bindings.specs.declared.any_binding.AnyBinding.TheVariants as bindings
use Rattle.tunnel_bindings.specs.Labels.{Space, IsOwned, IsLeastFree, state_of, set_label}
use Rattle.tunnel_bindings.specs.States.{label_of, with_free}
use Rattle.tunnel_bindings.proofs.LabelLemmas.{owned_taken}
use Rattle.std.specs.Prelude.{IfSome}
use Rattle.label_trees.specs.declared.label_uses.held.Held.{Held}
use Rattle.label_trees.specs.label_uses.Uses.{Uses, set_use, free_in, mapped_in}
use Rattle.label_trees.specs.label_uses.Held.{towards, HoldsOwned, is_fec, is_node, uses_from}
use Rattle.label_trees.proofs.label_uses.ListLemmas.{mapped_agrees, least_agrees, none_agrees}
use Rattle.label_trees.proofs.label_uses.StepLemmas.{session_seen, same_tables, mapped_binding, map_holds, map_labels, given_back}
use Rattle.label_trees.proofs.label_uses.label_uses.LabelUses.map.Goals as goal

pub unwrap-session-requires : goal.unwrap-session-requires
unwrap-session-requires c =
    ap is_some (c.copied.ensures ∙ c.get.ensures.value ∙ sym (session_seen c.self.inside.sessions c.args.upstream)
    ∙ ap (λ (u : Uses). maps.get u.sessions c.args.upstream) (c.self.view_is ∙ c.unwait.ensures))
    ∙ c.requires.up

pub invariant_of-self : goal.invariant_of-self
invariant_of-self c =
    same_tables c.self.inside.space c.self.inside.held c.make_room.new.table (maps.get c.self.inside.bindings.kept) (get is_node c.self.inside.sessions)
    c.self.inside.mapped c.self.inside.mapped (get is_fec c.self.inside.waiting)
    c.make_room.ensures.entries refl c.self.invariant

pub invariant_of-self-in_err-make_room-2 : goal.invariant_of-self-in_err-make_room-2
invariant_of-self-in_err-make_room-2 c =
    same_tables c.self.inside.space c.self.inside.held c.make_room.new.table (maps.get c.self.inside.bindings.kept) (get is_node c.self.inside.sessions)
    c.self.inside.mapped c.make_room-2.new.table (get is_fec c.self.inside.waiting)
    c.make_room.ensures.entries c.make_room-2.ensures.entries c.self.invariant

pub invariant_of-self-in-Err : goal.invariant_of-self-in-Err
invariant_of-self-in-Err c =
    same_tables c.map.new.space c.self.inside.held c.make_room.new.table (maps.get c.self.inside.bindings.kept) (get is_node c.self.inside.sessions)
    c.self.inside.mapped c.make_room-2.new.table (get is_fec c.self.inside.waiting)
    c.make_room.ensures.entries c.make_room-2.ensures.entries
    (subst (λ (x : Space). HoldsOwned (state_of x) (get nat_eq c.self.inside.held) (maps.get c.self.inside.bindings.kept)
    (get is_node c.self.inside.sessions) (get is_fec c.self.inside.mapped) (get is_fec c.self.inside.waiting)) (sym c.in-Err.ensures.unchanged)
    c.self.invariant)

pub end-requires : goal.end-requires
end-requires c = subst (λ (b : AnyBinding). IfSome (label_of b) (λ label. IsOwned c.map.new.space label)) (sym c.in-Err-keep.ensures.back)
    (subst (λ (x : Space). IsOwned x c.in-Ok.mapped.state.label) (sym c.in-Ok.ensures.owned)
    (owned_taken c.self.inside.space c.in-Ok.mapped.state.label c.in-Ok.ensures.least))

pub invariant_of-self-in-Err-keep : goal.invariant_of-self-in-Err-keep
invariant_of-self-in-Err-keep c =
    let back =
    given_back c.self.inside.space c.map.new.space c.end.new.space c.in-Ok.mapped.state.label c.in-Ok.ensures.least c.in-Ok.ensures.owned
    (c.end.ensures ∙ ap (λ (b : AnyBinding). with_free c.map.new.space (label_of b)) c.in-Err-keep.ensures.back) in
    subst (λ n. HoldsOwned (state_of c.end.new.space) (get nat_eq c.make_room.new.table) (maps.get n.kept) (get is_node c.self.inside.sessions)
    (get is_fec c.make_room-2.new.table) (get is_fec c.self.inside.waiting)) (sym c.in-Err-keep.ensures.unchanged)
    (same_tables c.end.new.space c.self.inside.held c.make_room.new.table (maps.get c.self.inside.bindings.kept) (get is_node c.self.inside.sessions)
    c.self.inside.mapped c.make_room-2.new.table (get is_fec c.self.inside.waiting)
    c.make_room.ensures.entries c.make_room-2.ensures.entries
    (subst (λ (x : Space). HoldsOwned (state_of x) (get nat_eq c.self.inside.held) (maps.get c.self.inside.bindings.kept)
    (get is_node c.self.inside.sessions) (get is_fec c.self.inside.mapped) (get is_fec c.self.inside.waiting)) (sym back) c.self.invariant))

pub returns-in-Err-keep-clause-none_mapped : goal.returns-in-Err-keep-clause-none_mapped
returns-in-Err-keep-clause-none_mapped c =
    let back =
    given_back c.self.inside.space c.map.new.space c.end.new.space c.in-Ok.mapped.state.label c.in-Ok.ensures.least c.in-Ok.ensures.owned
    (c.end.ensures ∙ ap (λ (b : AnyBinding). with_free c.map.new.space (label_of b)) c.in-Err-keep.ensures.back) in
    (λ i. record {
      life = (back i).life;
      labels = uses_from 16 (λ q. lookup (nat_eq q) (c.make_room.ensures.entries i)) (back i).states;
      waiting =
          maps.from_entries (towards c.self.inside.waiting.entries);
      sessions = maps.from_entries c.self.inside.sessions.entries;
    })
    ∙ (c.self.view_is ∙ c.unwait.ensures)

pub invariant_of-self-in-Ok-keep : goal.invariant_of-self-in-Ok-keep
invariant_of-self-in-Ok-keep c =
    let label : c.label-label.result ≡ c.in-Ok.mapped.state.label = c.label-label.ensures in
    let own : Held = record { fec = c.args.fec.now; upstream = c.args.upstream; leaving = false; name = c.in-Ok-keep.name } in
    let up : get is_node c.self.inside.sessions c.args.upstream ≡ Some c.unwrap-session.result =
    sym c.get.ensures.value ∙ sym c.copied.ensures ∙ c.unwrap-session.ensures in
    let unmapped : get is_fec c.self.inside.mapped c.args.fec.now ≡ None =
    mapped_agrees c.self.inside.space (get nat_eq c.self.inside.held) (maps.get c.self.inside.bindings.kept) (get is_node c.self.inside.sessions)
    (get is_fec c.self.inside.mapped) (get is_fec c.self.inside.waiting) c.self.invariant c.args.fec.now
    ∙ (ap (λ (u : Uses). mapped_in u.labels c.args.fec.now) (c.self.view_is ∙ c.unwait.ensures) ∙ c.requires.unmapped) in
    let trees =
    same_tables c.self.inside.space c.self.inside.held c.make_room.new.table (maps.get c.self.inside.bindings.kept)
    (get is_node c.self.inside.sessions) c.self.inside.mapped c.make_room-2.new.table (get is_fec c.self.inside.waiting)
    c.make_room.ensures.entries c.make_room-2.ensures.entries c.self.invariant in
    map_holds c.self.inside.space c.map.new.space c.make_room.new.table c.note.new.held c.self.inside.bindings.kept c.keep.new.self.kept
    (get is_node c.self.inside.sessions) c.make_room-2.new.table c.note-in-Ok-keep.new.mapped (get is_fec c.self.inside.waiting)
    c.label-label.result own c.unwrap-session.result (bindings.Mapped c.in-Ok.mapped)
    trees (subst (λ (l : ℕ). IsLeastFree c.self.inside.space l) (sym label) c.in-Ok.ensures.least)
    (c.in-Ok.ensures.owned ∙ ap (λ (l : ℕ). set_label c.self.inside.space l states.Owned) (sym label))
    c.note.ensures.each c.in-Ok-keep.ensures.absent c.in-Ok-keep.ensures.kept
    (mapped_binding c.new-wanted.result c.in-Ok.mapped c.args.fec.now c.args.upstream c.in-Ok-keep.name c.unwrap-session.result c.label-label.result
    c.new-wanted.ensures c.in-Ok.ensures.mapped label)
    up (ap (lookup (is_fec c.args.fec.now)) c.make_room-2.ensures.entries ∙ unmapped) c.note-in-Ok-keep.ensures.each refl

pub returns-in-Err-clause-least : goal.returns-in-Err-clause-least
returns-in-Err-clause-least c =
    none_agrees c.self.inside.space (get nat_eq c.self.inside.held) (maps.get c.self.inside.bindings.kept) (get is_node c.self.inside.sessions)
    (get is_fec c.self.inside.mapped) (get is_fec c.self.inside.waiting) c.self.invariant c.in-Err.ensures.none
    ∙ ap (λ (u : Uses). free_in u.labels) (c.self.view_is ∙ c.unwait.ensures)

pub returns-in-Ok-keep-clause-least : goal.returns-in-Ok-keep-clause-least
returns-in-Ok-keep-clause-least c =
    ap (λ (l : ℕ). Some l) c.label-label.ensures
    ∙ (least_agrees c.self.inside.space (get nat_eq c.self.inside.held) (maps.get c.self.inside.bindings.kept) (get is_node c.self.inside.sessions)
    (get is_fec c.self.inside.mapped) (get is_fec c.self.inside.waiting) c.self.invariant c.in-Ok.mapped.state.label c.in-Ok.ensures.least
    ∙ ap (λ (u : Uses). free_in u.labels) (c.self.view_is ∙ c.unwait.ensures))

pub returns-in-Ok-keep-clause-mapped : goal.returns-in-Ok-keep-clause-mapped
returns-in-Ok-keep-clause-mapped c =
    let own : Held = record { fec = c.args.fec.now; upstream = c.args.upstream; leaving = false; name = c.in-Ok-keep.name } in
    let label : c.label-label.result ≡ c.in-Ok.mapped.state.label = c.label-label.ensures in
    let life = ap (λ (x : Space). x.life) c.in-Ok.ensures.owned in
    let labels = map_labels c.self.inside.space c.map.new.space c.make_room.new.table c.note.new.held c.label-label.result own
    (subst (λ (l : ℕ). IsLeastFree c.self.inside.space l) (sym label) c.in-Ok.ensures.least)
    (c.in-Ok.ensures.owned ∙ ap (λ (l : ℕ). set_label c.self.inside.space l states.Owned) (sym label)) c.note.ensures.each
    ∙ ap (λ (es : List (ℕ × Held)). set_use (uses_from 16 (λ q. lookup (nat_eq q) es) c.self.inside.space.states) c.label-label.result
    (uses.Mapped c.args.fec.now c.args.upstream)) c.make_room.ensures.entries in
    (λ i. record {
      life = life i;
      labels = labels i;
      waiting = maps.from_entries (towards c.self.inside.waiting.entries);
      sessions =
          maps.from_entries c.self.inside.sessions.entries;
    })
    ∙ ap (λ (u : Uses). record u { labels = set_use u.labels c.label-label.result (uses.Mapped c.args.fec.now c.args.upstream) })
    (c.self.view_is ∙ c.unwait.ensures)
