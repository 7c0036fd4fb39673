use Rattle.std.proofs.Common.{rules, ◌≡◌, ap, sym, ◌∙◌}
use Rattle.edge_defs.specs.Edge.{TakenRoute}
use Rattle.edge_routes.specs.KeptPmsi.{mark_in}
use Rattle.edge_tables.proofs.taken_tables.TunnelLemmas.{other_mark}
use Rattle.edge_tables.proofs.taken_tables.entry.TakenEntry.has_tunnel.Goals as goal

pub returns-then-not-same_mark : goal.returns-then-not-same_mark
returns-then-not-same_mark c =
    other_mark c.args.self.now.value.pmsi c.args.fec.now (λ same.
    let own : c.self.inside.mark ≡ mark_in c.args.self.now.value.pmsi =
    c.self.invariant ∙ ap (λ (r : TakenRoute). mark_in r.value.pmsi) c.self.view_is in
    let both = c.same_mark.ensures.1 (own ∙ same ∙ sym c.mark_of.ensures) in
    search rules)
