use Rattle.std.proofs.Common.{◌==◌, sym, ap, ◌∙◌}
use Rattle.std.specs.List.{list_any}
use Rattle.mv_base.specs.declared.ids.NodeId.{NodeId}
use Rattle.session_rows.proofs.RoleLemmas.{among_any}
use Rattle.session_rows.proofs.two_edges.has_peer.Goals as goal

pub returns-in-Ok : goal.returns-in-Ok
returns-in-Ok c = λ found.
    let peers = c.deref.ensures.value ∙ c.in-Ok.ensures in
    among_any c.args.peer _ (ap (list_any (λ (own : NodeId). own.0 == c.args.peer.0)) (sym peers) ∙ sym c.is_among.ensures ∙ found)
