use Rattle.std.proofs.Common.{sym, ◌∙◌}
use Rattle.std.specs.Cmp.{tied_itself}
use Rattle.edge_defs.proofs.KeyLemmas.{key_total}
use Rattle.edge_defs.specs.Keys.{key_cmp}
use Rattle.edge_routes.specs.route_order.Kept.{kept_key, key_by}
use Rattle.edge_routes.proofs.route_order.kept_key.compare_tied.Goals as goal

pub returns-in-None-None : goal.returns-in-None-None
returns-in-None-None c =
    sym (tied_itself key_total (key_by c.args.front.now))
    ∙ (λ i. key_cmp (kept_key c.args.front.now (sym c.in-None-None.is-0 i)) (kept_key c.args.front.now (sym c.in-None-None.is-1 i)))
